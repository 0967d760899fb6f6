use Rattle.std.proofs.Common.{◌≡◌, ◌⊎◌, [], true, refl, inl, inr}
use Rattle.std.specs.Prelude.{take}
use Rattle.journal_model.specs.Journal.{unsent, is_mute}
use Rattle.journal_model.specs.Rows.{check_present}
use Rattle.child_link.specs.Rows.{unwritten}
use Rattle.child_link.proofs.laws.heard_out_rows.Goals as goal

pub returns-clause-whole : goal.returns-clause-whole
returns-clause-whole c = record { front = take 14 check_present; by = 0; rest = []; is = refl; last = refl; written = inl refl }

pub returns-clause-unwritten : goal.returns-clause-unwritten
returns-clause-unwritten c = λ h. go h.written
  where
    go : (unsent unwritten 1 ≡ []) ⊎ (is_mute unwritten 1 ≡ true) → ⊥
    go (inl e) = cc
    go (inr e) = cc
