-- What a reader that is asked before its end says of the lines.
use Rattle.std.proofs.Common.{◌≡◌, ℕ, Bool, true, false, List, append-nil, [], ◌∷◌, ◌++◌, length, inl, inr, refl, sym, ap, subst, ◌∙◌, append_assoc, Option, Some, None, Result, Ok, Err}
use Rattle.std.specs.Prelude.{IfSome, is_some, map}
use Rattle.journal_look.specs.declared.journal.Journal.{Journal}
use Rattle.journal_model.specs.declared.entry.Entry.{Entry}
use Rattle.journal_model.specs.declared.opening.Opening.{Opening}
use Rattle.journal_text.specs.Entries.Entries.{entry_line}
use Rattle.journal_text.specs.Lines.JournalTexts.{Told, begin, end_line, first_lines, keep_line, task_line, told_lines}
use Rattle.journal_reader.specs.Readings.{Reading, Goes, IsRefusalAs, after_stamp, is_begun, is_open, start}
use Rattle.journal_reader.specs.RunTexts.{IsTold}
use Rattle.journal_reader.specs.Runs.{Reads, IsOpeningOf, IsSoFar, lines_told}
use Rattle.journal_reader.specs.declared.place.Place.{Place}
use Rattle.journal_reader.specs.declared.place.Place.TheVariants.{Head, Uuid, Name, Gitdir, Stamp, Again, Given, Entries, Over, Refused}
use Rattle.journal_reader.specs.declared.error.JournalError.TheVariants.{BadLine, Cut}
use Rattle.journal_reader.proofs.Agreeing.{reads_apart, reads_same}
use Rattle.journal_reader.proofs.Complete.{whole_is_read}
use Rattle.journal_reader.proofs.Continuing.{taken_begins}
use Rattle.journal_reader.proofs.Sound.{all_told}
use Rattle.audit_command.specs.Inputs.{IsRefused, IsTextOf, lines_within, passes}
use Rattle.audit_command.specs.Intakes.{IsWithin, Took}
use Rattle.audit_command.specs.SoFar.{ComesSoFar, IsTextSoFar, IsUnbegun, LinesCome}
use Rattle.audit_command.specs.Standing.{Stands}
use Rattle.audit_command.specs.declared.error.AuditError.{AuditError}
use Rattle.audit_command.specs.declared.error.AuditError.TheVariants.{Entry as BadEntry, Cut as NoEnd, Failed, NoMemory}
use Rattle.audit_command.specs.declared.intake.Intake.{Intake}
use Rattle.audit_command.specs.declared.limits.Limits.{Limits}
use Rattle.audit_command.proofs.Ending.{text_read}
use Rattle.audit_command.proofs.Refusing.{reads_open}
use Rattle.audit_command.proofs.Taking.{past, within}

-- ---- the lines to `begin` and on

-- the last line, after all others
last_line : {X : Type 0} (f a k b : List X) (e : X) → (f ++ (a ++ (k ++ b))) ++ e ∷ [] ≡ f ++ (a ++ (k ++ (b ++ e ∷ [])))
last_line f a k b e =
    append_assoc f (a ++ (k ++ b)) (e ∷ [])
    ∙ ap (λ l. f ++ l) (append_assoc a (k ++ b) (e ∷ []))
    ∙ ap (λ l. f ++ (a ++ l)) (append_assoc k b (e ∷ []))

with_end : (t : Told) → lines_told Entries t ++ end_line (length t.entries) ∷ [] ≡ told_lines t
with_end t = last_line (first_lines t) (map task_line t.tasks) (map keep_line t.kept) (begin ∷ map entry_line t.entries) (end_line (length t.entries))

module _ (lines : List (List ℕ)) (r : Reading) (opening : Opening) (journal : List Entry) (reads : Reads start lines r) (o : IsOpeningOf opening r.told) (j : journal ≡ r.told.entries) where
  entries_read : r.place ≡ Entries → IsTextSoFar opening journal lines
  entries_read at =
      let t = all_told lines r reads in
      let P : Place → Type 0 = λ p. IsSoFar p r.told in
      let Q : Place → Type 0 = λ p. lines_told p r.told ≡ lines in
      let class : IsTold r.told = subst P at t.so_far in
      let told : lines_told Entries r.told ≡ lines = subst Q at t.lines in
      inr (record {
        told = r.told;
        class = class;
        whole = sym (with_end r.told) ∙ ap (λ (ls : List (List ℕ)). ls ++ end_line (length r.told.entries) ∷ []) told
            ∙ ap (λ (es : List Entry). lines ++ end_line (length es) ∷ []) (sym j);
        opening_is = o;
        journal_is = j;
      })

  begun_read : (p : Place) → r.place ≡ p → is_begun p ≡ true → IsTextSoFar opening journal lines
  begun_read Entries at h = entries_read at
  begun_read Over at h = inl (text_read lines r opening journal reads at o j)
  begun_read Head at h = absurd cc
  begun_read Uuid at h = absurd cc
  begun_read Name at h = absurd cc
  begun_read Gitdir at h = absurd cc
  begun_read Stamp at h = absurd cc
  begun_read Again at h = absurd cc
  begun_read Given at h = absurd cc
  begun_read (Refused n) at h = absurd cc

pub text_so_far : (lines : List (List ℕ)) (r : Reading) (opening : Opening) (journal : List Entry) → Reads start lines r → is_begun r.place ≡ true
    → IsOpeningOf opening r.told → journal ≡ r.told.entries → IsTextSoFar opening journal lines
text_so_far lines r opening journal reads at o j = begun_read lines r opening journal reads o j r.place refl at

-- ---- those before it

not_over : (early : Bool) (x : Place) → x ≡ Over → x ≡ after_stamp early → ⊥
not_over false x over at = absurd cc
not_over true x over at = absurd cc

-- a reader that comes to the end of a text comes there from its entries
before_end : (p x : Place) (t new : Told) (line : List ℕ) → x ≡ Over → Goes p t line x new → is_begun p ≡ true
before_end Head x t new line over g = absurd (let bad = g.1 in cc)
before_end Uuid x t new line over g = absurd (let bad = g.2 in cc)
before_end Name x t new line over g = absurd (let bad = g.2 in cc)
before_end Gitdir x t new line over g = absurd (let bad = g.2 in cc)
before_end Stamp x t new line over g = absurd (not_over t.early x over g.2)
before_end Again x t new line over g = absurd (let bad = g.2 in cc)
before_end Given x t new line over (inl (inl g)) = absurd (let bad = g.1 in cc)
before_end Given x t new line over (inl (inr g)) = absurd (let bad = g.0 in cc)
before_end Given x t new line over (inr g) = absurd (let bad = g.0 in cc)
before_end Entries x t new line over g = refl
before_end Over x t new line over g = refl
before_end (Refused n) x t new line over g = absurd g

module _ (lines : List (List ℕ)) (r : Reading) (reads : Reads start lines r) (off : is_begun r.place ≡ false) where
  no_whole : (opening : Opening) (journal : List Entry) → IsTextOf opening journal lines → ⊥
  no_whole opening journal is =
      let read = whole_is_read is.told is.class in
      let last : Reading = record { place = Over; taken = read.0; told = is.told } in
      let P : List (List ℕ) → Type 0 = λ l. Reads start l last in
      let same : last ≡ r = reads_same start lines last r (subst P is.whole read.1) reads in
      let on : is_begun r.place ≡ true = sym (ap (λ (x : Reading). is_begun x.place) same) in
      let bad : false ≡ true = sym off ∙ on in
      absurd cc

  no_last : (opening : Opening) (journal : List Entry) → IsTextOf opening journal (lines ++ end_line (length journal) ∷ []) → ⊥
  no_last opening journal is =
      let read = whole_is_read is.told is.class in
      let last : Reading = record { place = Over; taken = read.0; told = is.told } in
      let P : List (List ℕ) → Type 0 = λ l. Reads start l last in
      let apart = reads_apart start lines (end_line (length journal) ∷ []) last (subst P is.whole read.1) in
      let same : apart.0 ≡ r = reads_same start lines apart.0 r apart.1 reads in
      let next = apart.2.0 in
      let there : next.place ≡ Over = sym (ap (λ (x : Reading). x.place) apart.2.2) in
      let on : is_begun apart.0.place ≡ true = before_end apart.0.place next.place apart.0.told next.told (end_line (length journal)) there apart.2.1.goes in
      let bad : false ≡ true = sym off ∙ ap (λ (x : Reading). is_begun x.place) (sym same) ∙ on in
      absurd cc

  none_so_far : (opening : Opening) (journal : List Entry) → IsTextSoFar opening journal lines → ⊥
  none_so_far opening journal (inl is) = no_whole opening journal is
  none_so_far opening journal (inr is) = no_last opening journal is

pub unbegun : (lines : List (List ℕ)) (r : Reading) → Reads start lines r → is_begun r.place ≡ false → IsUnbegun lines
unbegun lines r reads off = record { begins = taken_begins lines r reads; none = none_so_far lines r reads off }

-- ---- what is told of them

pub lines_come : (lines : List (List ℕ)) (r : Reading) (run : Option (Opening × Journal)) → Reads start lines r → is_some run ≡ is_begun r.place
    → IfSome run (λ x. IsOpeningOf x.0 r.told) → IfSome run (λ x. x.1.entries ≡ r.told.entries) → LinesCome lines (Ok run)
lines_come lines r None reads begun o j = unbegun lines r reads (sym begun)
lines_come lines r (Some run) reads begun o j = text_so_far lines r run.0 run.1.entries reads (sym begun) o j

-- ---- errors

no_refusal : {A : Type 0} (p : Place) (n : ℕ) → is_open p ≡ true → IsRefusalAs p (BadLine n) → A
no_refusal Entries n o h = absurd cc
no_refusal Over n o h = absurd cc
no_refusal (Refused m) n o h = let bad : false ≡ true = o in absurd cc
no_refusal Head n o h = absurd h
no_refusal Uuid n o h = absurd h
no_refusal Name n o h = absurd h
no_refusal Gitdir n o h = absurd h
no_refusal Stamp n o h = absurd h
no_refusal Again n o h = absurd h
no_refusal Given n o h = absurd h

pub never_refused : {A : Type 0} (lines : List (List ℕ)) (r : Reading) (n : ℕ) → Reads start lines r → IsRefusalAs r.place (BadLine n) → A
never_refused lines r n reads h = no_refusal r.place n (reads_open r lines reads) h

pub never_cut : (p : Place) (n : ℕ) → IsRefusalAs p (Cut n) → ⊥
never_cut Entries n h = absurd cc
never_cut Over n h = absurd cc
never_cut (Refused m) n h = absurd cc
never_cut Head n h = h
never_cut Uuid n h = h
never_cut Name n h = h
never_cut Gitdir n h = h
never_cut Stamp n h = h
never_cut Again n h = h
never_cut Given n h = h

-- ---- an intake

within_so_far : (limits : Limits) (bytes : List ℕ) (k : Intake) (w : IsWithin limits bytes k) (r : Result (Option (Opening × Journal)) AuditError) → LinesCome w.lines r → ComesSoFar limits bytes r
within_so_far limits bytes k w (Ok run) h = (w.lines, (w.rest, w.cut, w.ended), h)
within_so_far limits bytes k w (Err (BadEntry n)) h = inl (w.lines, (w.rest, w.cut, w.ended), h)
within_so_far limits bytes k w (Err NoMemory) h = (w.lines, (w.rest, w.cut, w.ended), h)
within_so_far limits bytes k w (Err (NoEnd n)) h = absurd h
within_so_far limits bytes k w (Err Failed) h = absurd h

passed : (limits : Limits) (bytes : List ℕ) (k : Intake) (r : Result (Option (Opening × Journal)) AuditError) → k.past ≡ true → Took limits bytes k
    → ((n : ℕ) → k.lines.bad ≡ Some n → r ≡ Err (BadEntry n)) → ComesSoFar limits bytes r
passed limits bytes k r e t bad =
    let p = past limits bytes k e t in
    let whole : bytes ++ [] ≡ bytes = append-nil bytes in
    let P : List ℕ → Type 0 = λ bs. IsRefused (lines_within limits bs) true p.number in
    let refused = subst P whole (p.refused []) in
    let passes_is : passes limits bytes ≡ true = sym (ap (passes limits) whole) ∙ p.passed [] in
    subst (ComesSoFar limits bytes) (sym (bad p.number p.bad)) (inr (passes_is, refused))

pub taken_so_far : (limits : Limits) (bytes : List ℕ) (k : Intake) (r : Result (Option (Opening × Journal)) AuditError) → Took limits bytes k
    → ((lines : List (List ℕ)) (rest : List ℕ) → Stands lines rest k.lines → LinesCome lines r) → ((n : ℕ) → k.lines.bad ≡ Some n → r ≡ Err (BadEntry n)) → ComesSoFar limits bytes r
taken_so_far limits bytes k r t comes bad = go k.past refl
  where
    go : (p : Bool) → k.past ≡ p → ComesSoFar limits bytes r
    go false e = (let w = within limits bytes k e t in within_so_far limits bytes k w r (comes w.lines w.rest w.stands))
    go true e = passed limits bytes k r e t bad
