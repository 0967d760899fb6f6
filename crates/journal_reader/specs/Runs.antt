-- Reading a list of lines.
use Rattle.std.specs.Prelude.{ℕ, ◌≡◌, ◌<◌, ◌^◌, List, [], ◌∷◌, ◌++◌, map, codes, IsTrue}
use Rattle.registers.specs.Registers.{nothing_set}
use Rattle.registers.specs.RegLines.{set_by_lines}
use Rattle.kept_file.specs.Text.KeptFiles.{settings_in, notes_in, CountsAs}
use Rattle.journal_model.specs.declared.opening.Opening.{Opening}
use Rattle.journal_text.specs.Entries.Entries.{entry_line}
use Rattle.journal_text.specs.Lines.JournalTexts.{Told, worded, head, begin, stamp_line, first_lines, task_line, keep_line, told_lines}
use Rattle.journal_reader.specs.Readings.{Reading, Follows, nothing_told}
use Rattle.journal_reader.specs.RunTexts.{is_uuid, IsTold}
use Rattle.journal_reader.specs.declared.place.Place.{Place}
use Rattle.journal_reader.specs.declared.place.Place.TheVariants.{Head, Uuid, Name, Gitdir, Stamp, Again, Given, Entries, Over, Refused}
use Rattle.journal_model.specs.Legality.{is_text}

-- each line was taken, one after the other
abbrev pub Reads : Reading → List (List ℕ) → Reading → Type 0
Reads old [] new = new ≡ old
Reads old (line ∷ lines) new = (next : Reading) × Follows old line next × Reads next lines new

-- the opening is what is told: its registers are those that the kept lines set, and of its notes those count that count of theirs
pub record IsOpeningOf (o : Opening) (t : Told) : Type 0 where
  pub uuid : o.identity.uuid ≡ t.uuid
  pub name : o.identity.name ≡ t.name
  pub gitdir : o.identity.gitdir ≡ t.gitdir
  pub stamp : o.stamp ≡ t.stamp
  pub again : o.again ≡ t.again
  pub tasks : o.tasks ≡ t.tasks
  pub registers : o.registers ≡ set_by_lines nothing_set (settings_in t.kept)
  pub notes : CountsAs o.notes (notes_in t.kept)

-- ---- what is told where this is awaited

-- the lines that tell it
abbrev pub lines_told : Place → Told → List (List ℕ)
lines_told Head t = []
lines_told Uuid t = head t.early ∷ []
lines_told Name t = head t.early ∷ worded (codes "uuid") t.uuid ∷ []
lines_told Gitdir t = head t.early ∷ worded (codes "uuid") t.uuid ∷ worded (codes "name") t.name ∷ []
lines_told Stamp t = head t.early ∷ worded (codes "uuid") t.uuid ∷ worded (codes "name") t.name ∷ worded (codes "gitdir") t.gitdir ∷ []
lines_told Again t = head t.early ∷ worded (codes "uuid") t.uuid ∷ worded (codes "name") t.name ∷ worded (codes "gitdir") t.gitdir ∷ stamp_line t.stamp ∷ []
lines_told Given t = first_lines t ++ (map task_line t.tasks ++ map keep_line t.kept)
lines_told Entries t = first_lines t ++ (map task_line t.tasks ++ (map keep_line t.kept ++ begin ∷ map entry_line t.entries))
lines_told Over t = told_lines t
lines_told (Refused number) t = []

-- so much may be told, and nothing more is
abbrev pub IsSoFar : Place → Told → Type 0
IsSoFar Head t = t ≡ nothing_told
IsSoFar Uuid t = t ≡ record nothing_told { early = t.early }
IsSoFar Name t = IsTrue (is_uuid t.uuid) × (t ≡ record nothing_told { early = t.early; uuid = t.uuid })
IsSoFar Gitdir t = IsTrue (is_uuid t.uuid) × IsTrue (is_text t.name) × (t ≡ record nothing_told { early = t.early; uuid = t.uuid; name = t.name })
IsSoFar Stamp t =
    IsTrue (is_uuid t.uuid) × IsTrue (is_text t.name) × IsTrue (is_text t.gitdir) × (t ≡ record nothing_told { early = t.early; uuid = t.uuid; name = t.name; gitdir = t.gitdir })
IsSoFar Again t =
    IsTrue (is_uuid t.uuid) × IsTrue (is_text t.name) × IsTrue (is_text t.gitdir) × (t.stamp < 2 ^ 64)
    × (t ≡ record nothing_told { uuid = t.uuid; name = t.name; gitdir = t.gitdir; stamp = t.stamp })
IsSoFar Given t = IsTold t × (t.entries ≡ [])
IsSoFar Entries t = IsTold t
IsSoFar Over t = IsTold t
IsSoFar (Refused number) t = Unit {0}
