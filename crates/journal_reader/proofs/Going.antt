-- Which lines can follow, and which can't.
use Rattle.std.proofs.Common.{◌≡◌, ℕ, ◌<◌, ◌+◌, inl, inr, Bool, true, false, Ok, List, [], ◌∷◌, length, sym, ap, subst, ◌∙◌, arith}
use mathlib.Core.Bool.{true≢false}
use Rattle.std.specs.Prelude.{codes}
use Rattle.task_text.specs.TaskLines.{IsTask, line_of}
use Rattle.task_text.specs.declared.task.Task.{Task}
use Rattle.journal_model.specs.declared.entry.Entry.{Entry}
use Rattle.journal_text.specs.Entries.Entries.{entry_line, IsEntry}
use Rattle.journal_text.specs.Lines.JournalTexts.{Told, worded, begin, end_line}
use Rattle.journal_reader.specs.RunTexts.{may_be_kept, may_stand}
use Rattle.journal_reader.specs.Readings.{Reading, Goes, CannotGo, Took, RefusedAs, is_open}
use Rattle.journal_reader.specs.declared.place.Place.{Place}
use Rattle.journal_reader.specs.declared.place.Place.TheVariants.{Head, Uuid, Name, Gitdir, Stamp, Again, Given, Entries, Over, Refused}
use Rattle.journal_reader.proofs.LineFields.{worded_same}

-- ---- at the place where a reader stands
module _ (old : Reading) (line : List ℕ) (at : Place) (is : old.place ≡ at) where
  pub goes_at : (place : Place) (new : Told) → Goes at old.told line place new → Goes old.place old.told line place new
  goes_at place new g = let P : Place → Type 0 = λ p. Goes p old.told line place new in subst P (sym is) g

  pub stands_at : CannotGo at old.told line → CannotGo old.place old.told line
  stands_at h = let P : Place → Type 0 = λ p. CannotGo p old.told line in subst P (sym is) h

-- what a taker that took nothing says
pub untaken : (old now : Reading) (line : List ℕ) (b : Bool) → Took old line now (Ok b) → b ≡ false → CannotGo old.place old.told line × (now ≡ old)
untaken old now line true h e = absurd (true≢false e)
untaken old now line false h e = h

pub refused_as : (p : Place) (old : Reading) (line : List ℕ) (bad : ℕ) (new : Reading) → is_open p ≡ true → CannotGo p old.told line → bad ≡ old.taken + 1 → new ≡ record old { place = Refused bad }
    → RefusedAs p old line bad new
refused_as Head old line bad new o h k e = (h, k, e)
refused_as Uuid old line bad new o h k e = (h, k, e)
refused_as Name old line bad new o h k e = (h, k, e)
refused_as Gitdir old line bad new o h k e = (h, k, e)
refused_as Stamp old line bad new o h k e = (h, k, e)
refused_as Again old line bad new o h k e = (h, k, e)
refused_as Given old line bad new o h k e = (h, k, e)
refused_as Entries old line bad new o h k e = (h, k, e)
refused_as Over old line bad new o h k e = (h, k, e)
refused_as (Refused n) old line bad new o h k e = absurd (true≢false (sym o))

-- ---- first bytes
abbrev first_byte : List ℕ → ℕ
first_byte [] = 0
first_byte (b ∷ bytes) = b

pub task_begin : (text : List ℕ) → worded (codes "task") text ≡ begin → ⊥
task_begin text e = let bytes : 116 ≡ 98 = ap first_byte e in absurd (omega (arith, bytes))

pub keep_begin : (text : List ℕ) → worded (codes "keep") text ≡ begin → ⊥
keep_begin text e = let bytes : 107 ≡ 98 = ap first_byte e in absurd (omega (arith, bytes))

pub task_keep : (text other : List ℕ) → worded (codes "task") text ≡ worded (codes "keep") other → ⊥
task_keep text other e = let bytes : 116 ≡ 107 = ap first_byte e in absurd (omega (arith, bytes))

-- ---- the lines after the stamp
module _ (t : Told) (line : List ℕ) where
  pub none_given : (line ≡ begin → ⊥) → ((text : List ℕ) → line ≡ worded (codes "task") text → ⊥) → ((text : List ℕ) → line ≡ worded (codes "keep") text → ⊥) → CannotGo Given t line
  none_given b k h place new (inl (inl g)) = b g.0
  none_given b k h place new (inl (inr g)) = k (line_of g.1.task) g.1.spelled
  none_given b k h place new (inr g) = h g.1.text g.1.spelled

  pub no_task : (text : List ℕ) → line ≡ worded (codes "task") text → ((task : Task) → text ≡ line_of task → IsTask task → t.kept ≡ [] → length t.tasks < 65536 → ⊥) → CannotGo Given t line
  no_task text is h place new (inl (inl g)) = task_begin text (sym is ∙ g.0)
  no_task text is h place new (inl (inr g)) = h g.1.task (worded_same (codes "task") text (line_of g.1.task) (sym is ∙ g.1.spelled)) g.1.class g.1.first g.1.few
  no_task text is h place new (inr g) = task_keep text g.1.text (sym is ∙ g.1.spelled)

  pub no_kept : (text : List ℕ) → line ≡ worded (codes "keep") text → may_be_kept t.kept text ≡ false → CannotGo Given t line
  no_kept text is h place new (inl (inl g)) = keep_begin text (sym is ∙ g.0)
  no_kept text is h place new (inl (inr g)) = task_keep (line_of g.1.task) text (sym g.1.spelled ∙ is)
  no_kept text is h place new (inr g) =
      true≢false (sym g.1.class ∙ ap (may_be_kept t.kept) (sym (worded_same (codes "keep") text g.1.text (sym is ∙ g.1.spelled))) ∙ h)

  pub no_entry : (line ≡ end_line (length t.entries) → ⊥) → ((entry : Entry) → IsEntry entry → may_stand t.early entry.what ≡ true → line ≡ entry_line entry → ⊥) → CannotGo Entries t line
  no_entry e h place new (inl g) = e g.0
  no_entry e h place new (inr g) = h g.1.entry g.1.class g.1.stands g.1.spelled
