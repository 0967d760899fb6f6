-- A kit is over exactly where a line ended it or no memory was found for one, and what follows of how it ended.
use Rattle.std.proofs.Common.{◌≡◌, ◌⊎◌, inl, inr, ℕ, ◌<◌, List, [], ◌∷◌, ◌++◌, refl, sym, ap, subst, ◌∙◌, Bool, true, false, ◌&&◌, ◌||◌, Some, None, Option, take, drop, length, append-nil}
use Rattle.std.specs.Prelude.{fold, if◌then◌else◌}
use Rattle.std.specs.List.{list_any, list_all}
use Rattle.std.proofs.lemmas.List.{take-append-drop}
use Rattle.annex_model.specs.Lines.{has_newline}
use Rattle.kit_serve.specs.declared.kit.call.Said.{Said}
use Rattle.kit_serve.specs.Limits.{longest_line, next_line}
use Rattle.kit_async_model.specs.declared.setup.Setup.{Setup}
use Rattle.kit_async_model.specs.declared.job.Job.{Job}
use Rattle.kit_async_model.specs.declared.entry.Entry.{Entry}
use Rattle.kit_async_model.specs.declared.entry.Entry.TheVariants.{Heard, Take, Call, Say, Wrote, Close, Lack}
use Rattle.kit_async_model.specs.declared.hearing.Hearing.{Hearing}
use Rattle.kit_async_model.specs.declared.hearing.Hearing.TheVariants.{Foul, Unexpected, Aside, Asks, Replies}
use Rattle.kit_async_model.specs.Hearings.{hearing_of, text_in}
use Rattle.kit_async_model.specs.Jobs.{is_awaiting, job_of, without_job}
use Rattle.kit_async_model.specs.Legality.{IsFinished, is_lack}
use Rattle.kit_async_model.specs.Lines.{count_wrotes, said_lines}
use Rattle.kit_async_model.specs.Standings.{Standing, after, called_in, heard_as, is_some_due, opening, said_in, said_line, standing}
use Rattle.kit_async_model.proofs.Unwritten.{unwritten_are}
use Rattle.kit_async.specs.Work.Writing.{written_lines}
use Rattle.kit_async.specs.declared.why.Why.{Why}
use Rattle.kit_async.specs.declared.why.Why.TheVariants.{Eof, ReadFault, WriteFault, Bad, Memory}
use Rattle.kit_async.specs.Laws.{EndsAsHeard, ending_heard, heard_from, is_ending, is_heard_so, is_whole}
use Rattle.kit_async.specs.Served.{IsEnd, JournalValue, Serves, Tells}
use Rattle.ann_key.proofs.Booleans.{both_false as neither}

-- ---- tests

or_false : (b : Bool) → b ≡ (b || false)
or_false true = refl
or_false false = refl

or_true : (b : Bool) → true ≡ (b || true)
or_true true = refl
or_true false = refl

regroup : (a b c d e : Bool) → ((a || (b || c)) || (d || e)) ≡ (a || ((b || d) || (c || e)))
regroup true b c d e = refl
regroup false true c d e = refl
regroup false false true true e = refl
regroup false false true false e = refl
regroup false false false d e = refl

first_of : (a b : Bool) → (a || b) ≡ true → b ≡ false → a ≡ true
first_of true b h n = refl
first_of false b h n = sym n ∙ h

last_true : (o c a : Bool) → (o || (c && a)) ≡ true → o ≡ false → a ≡ true
last_true true c a h o = absurd cc
last_true false true a h o = h
last_true false false a h o = absurd cc

-- ---- when a kit is over

heard_over : (setup : Setup) (s : Standing) (text : List ℕ) (h : Hearing) → (heard_as setup s text h).over ≡ (s.over || is_ending h)
heard_over setup s text Foul = or_true s.over
heard_over setup s text Unexpected = or_true s.over
heard_over setup s text Aside = or_false s.over
heard_over setup s text (Asks n) = or_false s.over
heard_over setup s text (Replies n) = or_false s.over

pub called_over : (setup : Setup) (s : Standing) (said : Said) (o : Option Job) → (called_in setup s said o).over ≡ s.over
called_over setup s said None = refl
called_over setup s said (Some job) = refl

kept_over : (b : Bool) (s t : Standing) → t.over ≡ s.over → (if b then s else t).over ≡ s.over
kept_over true s t e = refl
kept_over false s t e = e

pub said_over : (setup : Setup) (s : Standing) (o : Option Job) → (said_in setup s o).over ≡ s.over
said_over setup s None = refl
said_over setup s (Some job) = kept_over (is_some_due s.due || s.over || is_awaiting setup job) s _ refl

step_over : (setup : Setup) (s : Standing) (e : Entry) → (after setup s e).over ≡ (s.over || (is_heard_so is_ending setup s e || is_lack e))
step_over setup s (Heard line) =
    let h = hearing_of setup s.jobs s.tagged line in
    heard_over setup s (text_in s.tagged line) h ∙ ap (λ (b : Bool). s.over || b) (or_false (is_ending h))
step_over setup s (Take job remote) = or_false s.over
step_over setup s (Call job remote said) = called_over setup s said (job_of s.jobs job) ∙ or_false s.over
step_over setup s (Say job line) = said_over setup (said_line s line) (job_of s.jobs job) ∙ or_false s.over
step_over setup s Wrote = or_false s.over
step_over setup s Close = or_false s.over
step_over setup s Lack = or_true s.over

over_from : (setup : Setup) (s : Standing) (rest : List Entry) → (fold (after setup) s rest).over ≡ (s.over || (heard_from is_ending setup s rest || list_any is_lack rest))
over_from setup s [] = or_false s.over
over_from setup s (e ∷ rest) =
    over_from setup (after setup s e) rest
    ∙ ap (λ (b : Bool). b || (heard_from is_ending setup (after setup s e) rest || list_any is_lack rest)) (step_over setup s e)
    ∙ regroup s.over (is_heard_so is_ending setup s e) (is_lack e) (heard_from is_ending setup (after setup s e) rest) (list_any is_lack rest)

pub over_is : (setup : Setup) (journal : List Entry) → (standing setup journal).over ≡ (ending_heard setup journal || list_any is_lack journal)
over_is setup journal = over_from setup opening journal

-- ---- by why it stopped

module _ (setup : Setup) (journal : List Entry) (rest : List ℕ) where
  live : (standing setup journal).over ≡ false → (ending_heard setup journal ≡ false) × (list_any is_lack journal ≡ false)
  live o = neither (ending_heard setup journal) (list_any is_lack journal) (sym (over_is setup journal) ∙ o)

  bad_heard : (((standing setup journal).over ≡ true) × (list_any is_lack journal ≡ false))
      ⊎ (((standing setup journal).over ≡ false) × ((standing setup journal).closed ≡ true) × (longest_line < length (next_line rest)))
      → (ending_heard setup journal ≡ true) ⊎ (longest_line < length (next_line rest))
  bad_heard (inl k) = inl (first_of (ending_heard setup journal) (list_any is_lack journal) (sym (over_is setup journal) ∙ k.0) k.1)
  bad_heard (inr k) = inr k.2

  bad_had : (((standing setup journal).over ≡ true) × (list_any is_lack journal ≡ false))
      ⊎ (((standing setup journal).over ≡ false) × ((standing setup journal).closed ≡ true) × (longest_line < length (next_line rest)))
      → list_any is_lack journal ≡ false
  bad_had (inl k) = k.1
  bad_had (inr k) = (live k.0).1

  ended_as_heard : (why : Why) (left : Option (List ℕ)) → IsEnd why setup journal rest left → EndsAsHeard why setup journal rest
  ended_as_heard Eof left e = ((live e.1).0, e.3)
  ended_as_heard ReadFault left e = ((live e.1).0, e.3)
  ended_as_heard Bad left e = bad_heard e.1
  ended_as_heard WriteFault left e = tt
  ended_as_heard Memory left e = tt

  whole_finished : (why : Why) (left : Option (List ℕ)) → is_whole why ≡ true → IsEnd why setup journal rest left → IsFinished setup (standing setup journal)
  whole_finished Eof left w e = e.0
  whole_finished ReadFault left w e = e.0
  whole_finished Bad left w e = e.0
  whole_finished WriteFault left w e = absurd cc
  whole_finished Memory left w e = absurd cc

  pub whole_had : (why : Why) (left : Option (List ℕ)) → is_whole why ≡ true → IsEnd why setup journal rest left → list_any is_lack journal ≡ false
  whole_had Eof left w e = (live e.1).1
  whole_had ReadFault left w e = (live e.1).1
  whole_had Bad left w e = bad_had e.1
  whole_had WriteFault left w e = absurd cc
  whole_had Memory left w e = absurd cc

pub not_memory : (why : Why) → is_whole why ≡ true → why ≡ Memory → ⊥
not_memory why w e = let bad : false ≡ true = sym (ap is_whole e) ∙ w in absurd cc

-- ---- the laws

pub status_is_heard : (setup : Setup) (old new : Tells) (journal : JournalValue) (s : Serves setup old new journal) → EndsAsHeard journal.why setup journal.entries s.rest
status_is_heard setup old new journal s = ended_as_heard setup journal.entries s.rest journal.why new.left s.ended

pub all_is_written : (setup : Setup) (old new : Tells) (journal : JournalValue) → Serves setup old new journal → is_whole journal.why ≡ true
    → written_lines journal.entries ≡ said_lines journal.entries
all_is_written setup old new journal s w =
    let n = count_wrotes journal.entries in
    let said = said_lines journal.entries in
    let none : drop n said ≡ [] = sym (unwritten_are setup journal.entries s.legal).0 ∙ (whole_finished setup journal.entries s.rest journal.why new.left w s.ended).written in
    sym (append-nil (take n said)) ∙ ap (λ (l : List (List ℕ)). take n said ++ l) (sym none) ∙ take-append-drop n said

pub jobs_are_settled : (setup : Setup) (old new : Tells) (journal : JournalValue) → Serves setup old new journal → journal.why ≡ Eof
    → list_all (is_awaiting setup) (standing setup journal.entries).jobs ≡ true
jobs_are_settled setup old new journal s e =
    let k : IsEnd Eof setup journal.entries s.rest new.left = subst (λ (why : Why). IsEnd why setup journal.entries s.rest new.left) e s.ended in
    let t : Standing = standing setup journal.entries in
    last_true t.over t.closed (list_all (is_awaiting setup) t.jobs) k.0.done k.1
