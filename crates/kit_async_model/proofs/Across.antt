-- What several crates above this one use.
use Rattle.std.proofs.Common.{◌≡◌, ℕ, List, [], ◌∷◌, ◌++◌, true, false, not, refl, ap, Bool, cond, Some, None, Option}
use Rattle.std.specs.Prelude.{◌&&◌, ◌||◌, map}
use Rattle.std.specs.List.{list_any}
use Rattle.annex_model.specs.Messages.{HostMessage, RemoteMessage, remote_line}
use Rattle.kit_serve.specs.declared.kit.call.Said.{Said}
use Rattle.kit_serve.specs.Kit.Kits.{set_lines, final_line, final_lines}
use Rattle.kit_async_model.specs.declared.setup.Setup.{Setup}
use Rattle.kit_async_model.specs.Standings.{Standing, is_some_due, told_by, said_in}
use Rattle.kit_async_model.specs.Legality.{may_hear, holds_back}
use Rattle.std.proofs.lemmas.Bool.{not-true as not_true, and_parts as both}
use Rattle.kit_async_model.specs.declared.job.Job.{Job}
use Rattle.kit_async_model.specs.Jobs.{is_awaiting, without_job}

pub live : (setup : Setup) (s : Standing) → may_hear setup s ≡ true → s.over ≡ false
live setup s m =
    let a = both (not s.over && not s.closed) (not (list_any (holds_back setup s.tagged) s.jobs)) m in
    not_true s.over (both (not s.over) (not s.closed) a.0).0

pub over_said : (setup : Setup) (u : Standing) (o : Option Job) → u.over ≡ true → said_in setup u o ≡ u
over_said setup u None h = refl
over_said setup u (Some job) h = go (is_some_due u.due) u.over h
  where
    go : (a b : Bool) → b ≡ true → cond (a || b || is_awaiting setup job) u (record u { told = told_by u.prepared job u.told; jobs = without_job job.number u.jobs }) ≡ u
    go true b k = refl
    go false true k = refl
    go false false k = absurd cc

-- ---- the lines for a word of a remote

-- of which there is one at least
pub record Finals (request : Option HostMessage) (said : Said) : Type 0 where
  pub line : List ℕ
  pub lines : List (List ℕ)
  pub are : map remote_line (final_lines request said) ≡ line ∷ lines

pub finals_of : (request : Option HostMessage) (said : Said) → Finals request said
finals_of request said = go (set_lines request said) refl
  where
    go : (ms : List RemoteMessage) → set_lines request said ≡ ms → Finals request said
    go [] e = record { line = remote_line (final_line request said); lines = []; are = ap (λ (ms : List RemoteMessage). map remote_line (ms ++ final_line request said ∷ [])) e }
    go (m ∷ ms) e = record {
      line = remote_line m;
      lines = map remote_line (ms ++ final_line request said ∷ []);
      are = ap (λ (ms : List RemoteMessage). map remote_line (ms ++ final_line request said ∷ [])) e;
    }
