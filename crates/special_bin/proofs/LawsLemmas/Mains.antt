-- What one thread makes is the main thread's.
use Rattle.std.proofs.Common.{◌≡◌, ℕ, List, [], ◌∷◌, refl, true, not}
use Rattle.std.specs.Prelude.{◌==◌}
use Rattle.journal_model.specs.declared.entry.Entry.{Entry}
use Rattle.journal_model.specs.Journal.{is_tagged}
use Rattle.journal_model.specs.Shares.{are_by, is_of_child}
use Rattle.child_life.specs.End.Wires.{is_mains, is_served_alone}
use Rattle.ann_key.proofs.Booleans.{or_right as either}
use Rattle.std.proofs.lemmas.Bool.{and_parts as both}

mains : (journal : List Entry) (c : ℕ) → are_by 0 journal ≡ true → is_mains journal c ≡ true
mains [] c h = refl
mains (e ∷ more) c h =
    let t = both (e.by == 0) (are_by 0 more) h in
    rw (either (not (is_of_child c e.what)) (e.by == 0) t.0, mains more c t.1) refl

pub alone : (journal : List Entry) (c : ℕ) → are_by 0 journal ≡ true → is_served_alone journal c ≡ true
alone journal c h = either (not (is_tagged journal c)) (is_mains journal c) (mains journal c h)
