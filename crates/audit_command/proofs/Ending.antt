-- What a reader's end says of the lines.
use Rattle.std.proofs.Common.{◌≡◌, ℕ, true, false, List, sym, ap, subst, ◌∙◌}
use Rattle.journal_model.specs.declared.entry.Entry.{Entry}
use Rattle.journal_model.specs.declared.opening.Opening.{Opening}
use Rattle.journal_reader.specs.Readings.{Reading, IsEndAs, is_open, start}
use Rattle.journal_reader.specs.RunTexts.{IsWhole}
use Rattle.journal_reader.specs.Runs.{Reads, IsOpeningOf}
use Rattle.journal_reader.specs.declared.place.Place.{Place}
use Rattle.journal_reader.specs.declared.place.Place.TheVariants.{Head, Uuid, Name, Gitdir, Stamp, Again, Given, Entries, Over, Refused}
use Rattle.journal_reader.specs.declared.error.JournalError.TheVariants.{BadLine, Cut}
use Rattle.journal_reader.proofs.Agreeing.{reads_same}
use Rattle.journal_reader.proofs.Complete.{whole_is_read}
use Rattle.journal_reader.proofs.Continuing.{taken_begins}
use Rattle.journal_reader.proofs.Sound.{over_is_whole, all_told}
use Rattle.audit_command.specs.Inputs.{IsTextOf, IsUnfinished}
use Rattle.audit_command.proofs.Refusing.{reads_open}

pub text_read : (lines : List (List ℕ)) (r : Reading) (opening : Opening) (journal : List Entry) → Reads start lines r → r.place ≡ Over
    → IsOpeningOf opening r.told → journal ≡ r.told.entries → IsTextOf opening journal lines
text_read lines r opening journal reads at o j =
    let whole = over_is_whole lines r reads at in record { told = r.told; class = whole.0; whole = whole.1; opening_is = o; journal_is = j }

no_bad_end : {A : Type 0} (p : Place) (taken n : ℕ) → is_open p ≡ true → IsEndAs p taken (BadLine n) → A
no_bad_end Head taken n o h = absurd cc
no_bad_end Uuid taken n o h = absurd cc
no_bad_end Name taken n o h = absurd cc
no_bad_end Gitdir taken n o h = absurd cc
no_bad_end Stamp taken n o h = absurd cc
no_bad_end Again taken n o h = absurd cc
no_bad_end Given taken n o h = absurd cc
no_bad_end Entries taken n o h = absurd cc
no_bad_end Over taken n o h = absurd cc
no_bad_end (Refused m) taken n o h = let bad : false ≡ true = o in absurd cc

pub never_bad : {A : Type 0} (lines : List (List ℕ)) (r : Reading) (n : ℕ) → Reads start lines r → IsEndAs r.place r.taken (BadLine n) → A
never_bad lines r n reads h = no_bad_end r.place r.taken n (reads_open r lines reads) h

abbrev CutAt : Place → ℕ → ℕ → Type 0
CutAt p taken n = (p ≡ Over → ⊥) × (n ≡ taken)

cut_at : (p : Place) (taken n : ℕ) → IsEndAs p taken (Cut n) → CutAt p taken n
cut_at Head taken n h = (λ e. absurd cc, cc)
cut_at Uuid taken n h = (λ e. absurd cc, cc)
cut_at Name taken n h = (λ e. absurd cc, cc)
cut_at Gitdir taken n h = (λ e. absurd cc, cc)
cut_at Stamp taken n h = (λ e. absurd cc, cc)
cut_at Again taken n h = (λ e. absurd cc, cc)
cut_at Given taken n h = (λ e. absurd cc, cc)
cut_at Entries taken n h = (λ e. absurd cc, cc)
cut_at Over taken n h = absurd cc
cut_at (Refused m) taken n h = absurd cc

pub text_cut : (lines : List (List ℕ)) (r : Reading) (n : ℕ) → Reads start lines r → IsEndAs r.place r.taken (Cut n) → IsUnfinished lines n
text_cut lines r n reads h =
    let at = cut_at r.place r.taken n h in
    let t = all_told lines r reads in
    let not_whole : IsWhole lines → ⊥ = λ w.
    (let read = whole_is_read w.0 w.1 in
    let last : Reading = record { place = Over; taken = read.0; told = w.0 } in
    let P : List (List ℕ) → Type 0 = λ l. Reads start l last in
    let same : last ≡ r = reads_same start lines last r (subst P w.2 read.1) reads in
    at.0 (sym (ap (λ (x : Reading). x.place) same))) in
    record { begins = taken_begins lines r reads; unfinished = not_whole; count = at.1 ∙ t.taken }
