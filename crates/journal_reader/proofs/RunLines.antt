-- Lines on how often a task may be run again.
use Rattle.std.specs.Fmt.{digits}
use Rattle.std.proofs.Common.{◌≡◌, ◌∙◌, ℕ, Bool, true, false, List, [], ◌∷◌, Some, get_or, refl, sym, ap, inr, arith}
use mathlib.Core.Bool.{true≢false}
use Rattle.std.specs.Prelude.{codes, decimal}
use Rattle.ann_key.specs.Numbers.{number_of}
use Rattle.journal_model.specs.declared.answer.Answer.TheVariants.{Unsent}
use Rattle.journal_model.specs.declared.entry.What.TheVariants.{Again as RunAgain}
use Rattle.journal_model.specs.declared.entry.Entry.{Entry}
use Rattle.journal_text.specs.Entries.Entries.{entry_at, entry_line, IsEntry}
use Rattle.journal_text.proofs.EntriesLemmas.EntryBack.{entry_back}
use Rattle.journal_text.specs.Lines.JournalTexts.{Told, head, again_line}
use Rattle.journal_reader.specs.RunTexts.{may_stand}
use Rattle.journal_reader.specs.Readings.{Goes, CannotGo, nothing_told}
use Rattle.journal_reader.specs.declared.place.Place.TheVariants.{Head, Uuid, Again, Given, Entries}
use Rattle.journal_reader.proofs.Going.{no_entry, none_given}
use Rattle.journal_reader.proofs.LineFields.{worded_same}
use Rattle.task_text.proofs.ChunkLogLemmas.ReadBack.{number_back as number_read}

-- the byte at a place
abbrev byte_at : ℕ → List ℕ → ℕ
byte_at n bytes = get_or bytes n 0

-- ---- the head

pub head_goes : Goes Head nothing_told (codes "annex-journal 2") Uuid nothing_told
head_goes = (refl, refl, refl)

pub early_head_goes : Goes Head nothing_told (codes "annex-journal 1") Uuid (record nothing_told { early = true })
early_head_goes = (refl, refl, refl)

another_head : (early : Bool) → codes "annex-journal 3" ≡ head early → ⊥
another_head false e = let last : 51 ≡ 50 = ap (byte_at 14) e in omega (arith, last)
another_head true e = let last : 51 ≡ 49 = ap (byte_at 14) e in omega (arith, last)

pub no_head : CannotGo Head nothing_told (codes "annex-journal 3")
no_head place new g = another_head new.early g.0

-- ---- the line

eight : codes "again 8" ≡ again_line 8
unfolding digits
eight = refl

pub most_goes : Goes Again nothing_told (codes "again 8") Given (record nothing_told { again = 8 })
most_goes = (eight, omega arith, refl, refl)

nine : number_of (codes "9") ≡ Some 9
nine = refl

pub too_many : CannotGo Again nothing_told (codes "again 9")
too_many place new g =
    let few = g.1 in
    let both : Some 9 ≡ Some new.again = sym nine ∙ ap number_of (worded_same (codes "again") (codes "9") (decimal new.again) g.0) ∙ number_read new.again (omega (arith, few)) in
    let same : 9 ≡ new.again = cc in
    omega (arith, few, same)

pub missing : CannotGo Again nothing_told (codes "begin")
missing place new g = let first : 98 ≡ 97 = ap (byte_at 0) g.0 in omega (arith, first)

-- none may stand among the tasks and what is kept, where an early text goes on after its stamp
pub none_early : (t : Told) → CannotGo Given t (codes "again 0")
none_early t =
    none_given t (codes "again 0") (λ e. (let first : 97 ≡ 98 = ap (byte_at 0) e in omega (arith, first)))
    (λ text e. (let first : 97 ≡ 116 = ap (byte_at 0) e in omega (arith, first)))
    (λ text e. (let first : 97 ≡ 107 = ap (byte_at 0) e in omega (arith, first)))

-- ---- the entry

abbrev unsent_again : Entry
unsent_again = record { by = 0; what = RunAgain 1 Unsent }

spelled : codes "0 again 1 unsent" ≡ entry_line unsent_again
unfolding digits
spelled = refl

is_one : IsEntry unsent_again
is_one = (omega arith, (omega arith, tt))

pub entry_goes : Goes Entries nothing_told (codes "0 again 1 unsent") Entries (record nothing_told { entries = unsent_again ∷ [] })
entry_goes = inr (refl, record { entry = unsent_again; spelled = spelled; class = is_one; stands = refl; told = refl })

abbrev early_told : Told
early_told = record nothing_told { early = true }

pub no_early_entry : CannotGo Entries early_told (codes "0 again 1 unsent")
no_early_entry =
    no_entry early_told (codes "0 again 1 unsent") (λ e. (let first : 48 ≡ 101 = ap (byte_at 0) e in omega (arith, first)))
    (λ entry is stands e. (let both : Some unsent_again ≡ Some entry = sym (entry_back unsent_again is_one) ∙ ap entry_at (sym spelled ∙ e) ∙ entry_back entry is in
    let same : unsent_again ≡ entry = cc in
    true≢false (sym stands ∙ ap (λ (x : Entry). may_stand true x.what) (sym same))))
