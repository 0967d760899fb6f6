-- What an info begins with, and what comes of it.
use Rattle.ann_outside.specs.Told.{ProgramsTold}
use Rattle.std.proofs.Common.{◌≡◌, ◌∙◌, ℕ, List, [], length, lit≤, refl, sym, ap, subst, true, false, Some, None, Option, Result, Ok, Err}
use Rattle.std.specs.Prelude.{option_map, IfSome, IfOk, IsErr, MatchResult}
use Rattle.std.proofs.lemmas.List.Elements.{All-nil}
use Rattle.ann_key.specs.declared.bytes.NoMemory.{NoMemory}
use Rattle.annex_model.specs.Messages.{is_sent_key}
use Rattle.task_text.proofs.ChunkLogLemmas.Uuids.{nil_written}
use Rattle.task_text.specs.TaskLines.{IsTask}
use Rattle.cli_words.specs.Refusals.{refusal_if}
use Rattle.cli_words.proofs.Refusing.{sent_key}
use Rattle.journal_model.specs.Beginnings.{MayBegin}
use Rattle.journal_model.specs.declared.entry.Entry.{Entry}
use Rattle.journal_model.specs.declared.opening.Opening.{Opening}
use Rattle.journal_model.specs.Legality.{Legal}
use Rattle.journal_model.proofs.Across.{nothing_legal}
use Rattle.journal_model.proofs.Projecting.{parts_fit}
use Rattle.child_life.specs.End.Programs.{Leaves}
use Rattle.run_starts.proofs.OnceLemmas.Leaving.{leaves_as, leaves_nothing}
use Rattle.info_and_init.specs.Info.Informs.{EndsInfo, HasInformed, InfoValue, IsAsked, IsComplete, IsInformed, IsReady, info_opening}
use Rattle.info_and_init.specs.declared.info.doing.Ready.{Ready}
use Rattle.info_and_init.specs.declared.info.made.InfoEnd.{InfoEnd}
use Rattle.info_and_init.specs.declared.info.made.InfoEnd.TheVariants.{Asked, Memory}
use Rattle.info_and_init.proofs.InfoLemmas.Talking.{nothing_asked}

-- ---- what it begins with

pub no_tasks : (o : Opening) → o ≡ info_opening → length o.tasks ≡ 0
no_tasks o h = ap (λ (x : Opening). length x.tasks) h

pub info_begins : (o : Opening) → o ≡ info_opening → MayBegin o
info_begins o same = subst MayBegin (sym same) record {
  few = lit≤ tt;
  tasks = All-nil IsTask;
  lines = record { uuid = refl; name = refl; gitdir = refl };
  uuid = nil_written;
  again = lit≤ tt;
}

-- a key that is not refused can stand in a request
pub sent_if : {X : Type 0} (shown : X → List ℕ) (key : Option X) → refusal_if (option_map shown key) ≡ None → IfSome key (λ k. is_sent_key (shown k) ≡ true)
sent_if shown None h = tt
sent_if shown (Some k) h = sent_key (shown k) h

-- ---- the journal

informed : (key : Option (List ℕ)) (journal : List Entry) → Legal info_opening journal → IsAsked key journal → IsInformed key journal
informed key journal legal run = record { legal = legal; parts = parts_fit info_opening journal legal; run = run }

-- nothing was started
pub nothing_informed : (key : Option (List ℕ)) (journal : List Entry) → journal ≡ [] → IsInformed key journal
nothing_informed key journal e = informed key journal (nothing_legal info_opening journal e) (nothing_asked key journal e)

-- ---- its end

ends_as : (r : Result (Unit {0}) NoMemory) (key told : Option (List ℕ)) (journal journal' : List Entry) (end : InfoEnd) → told ≡ key → journal' ≡ journal → IfOk r (λ _. IsComplete key journal)
    → MatchResult r (λ _. end ≡ Asked told) (λ _. end ≡ Memory) → EndsInfo key journal' end
ends_as (Ok u) key told journal journal' end is same complete e = subst (EndsInfo key journal') (sym e) (is, subst (IsComplete key) (sym same) complete)
ends_as (Err x) key told journal journal' end is same complete e = subst (EndsInfo key journal') (sym e) tt

wanting : (r : Result (Unit {0}) NoMemory) (told : Option (List ℕ)) (end : InfoEnd) → MatchResult r (λ _. end ≡ Asked told) (λ _. end ≡ Memory) → IsErr r → end ≡ Memory
wanting (Ok u) told end e err = absurd (let bad : false ≡ true = err in cc)
wanting (Err x) told end e err = e

pub has_informed : (program : List ℕ) (key : Option (List ℕ)) (ready : Ready) (opening : Opening) (journal : List Entry) (before after : ProgramsTold) (made : InfoValue) (r : Result (Unit {0}) NoMemory)
    → IsReady key ready → made.journal ≡ journal → opening ≡ ready.core.opening → (Legal ready.core.opening ready.core.journal → Legal opening journal) → IsAsked key journal
    → IfOk r (λ _. IsComplete key journal) → MatchResult r (λ _. made.end ≡ Asked ready.key) (λ _. made.end ≡ Memory)
    → Leaves (IsErr r) program journal before after made.wires → HasInformed program key before after made
has_informed program key ready opening journal before after made r is same opens keeps asked complete told leaves = record {
  informed = subst (IsInformed key) (sym same) (informed key journal legal asked);
  ends = ends_as r key ready.key journal made.journal made.end is.told same complete told;
  objects = leaves_as (λ e. wanting r ready.key made.end told e) same refl leaves;
}
  where
    legal : Legal info_opening journal
    legal = subst (λ (o : Opening). Legal o journal) (opens ∙ is.opening) (keeps (nothing_legal ready.core.opening ready.core.journal is.empty))

-- no memory was found before anything was started
pub memory_informed : (program : List ℕ) (key : Option (List ℕ)) (before : ProgramsTold) (made : InfoValue) → made ≡ record { journal = []; wires = []; end = Memory } → HasInformed program key before before made
memory_informed program key before made e = subst (HasInformed program key before before) (sym e) record {
  informed = nothing_informed key [] refl;
  ends = tt;
  objects = leaves_nothing (Memory ≡ Memory) before before program [] [] refl refl refl;
}
