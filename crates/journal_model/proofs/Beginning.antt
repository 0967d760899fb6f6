-- What a run may begin with.
use Rattle.std.proofs.Common.{◌≡◌, ◌∙◌, ℕ, ◌-◌, Bool, true, false, not, cond, List, [], ◌∷◌, Option, Some, None, refl, sym, subst, All, lit≤, ◌≤◌, arith}
use Rattle.std.specs.Prelude.{◌==◌, ◌&&◌, ◌||◌, codes, slice_get}
use Rattle.std.specs.List.{list_any}
use Rattle.std.specs.Char.{encode_utf8}
use Rattle.std.specs.Str.{is_utf8, chars}
use Rattle.std.proofs.lemmas.List.Elements.{All-cons, All-head, All-nil}
use Rattle.std.proofs.lemmas.Option.{slice_get_within, get_or_from_slice_get}
use Rattle.ann_key.specs.Keys.{is_key, is_sendable}
use Rattle.task_text.specs.TaskLines.{has_chunk, IsTask}
use Rattle.task_text.specs.declared.task.Task.{Task}
use Rattle.task_text.specs.declared.task.Work.TheVariants.{Store, Check}
use Rattle.task_text.specs.ChunkLog.ChunkLines.{is_space}
use Rattle.task_text.proofs.ChunkLogLemmas.Uuids.{nil_written, upper_not_written}
use Rattle.journal_model.specs.declared.opening.Opening.{Opening}
use Rattle.journal_model.specs.AgainRows.{one_check_again}
use Rattle.journal_model.specs.Beginnings.{MayBegin}
use Rattle.journal_model.specs.Legality.{task_of}
use Rattle.journal_model.specs.NoteRows.{known_since, remote}
use Rattle.journal_model.specs.OpeningRows.{begun_as, begun_with}
use Rattle.journal_model.specs.Rows.{one_check, sample_key}
use Rattle.std.proofs.lemmas.Bool.{and_parts as both}
use Rattle.ann_key.proofs.Across.{no_space}

-- the task of a number is one that a line spells
pub task_fits : (o : Opening) (t : ℕ) (task : Task) → MayBegin o → task_of o t ≡ Some task → IsTask task
task_fits o t task begins there = go (t == 0) there
  where
    go : (b : Bool) → cond b None (slice_get o.tasks (t - 1)) ≡ Some task → IsTask task
    go true h = absurd cc
    go false h =
        subst IsTask (get_or_from_slice_get o.tasks (t - 1) task task h) (begins.tasks (t - 1) task (slice_get_within o.tasks (t - 1) task h))

pub key_spaceless : (o : Opening) (t : ℕ) (task : Task) → MayBegin o → task_of o t ≡ Some task → list_any is_space task.key ≡ true → ⊥
key_spaceless o t task begins there has =
    let key = (task_fits o t task begins there).key_class in
    let sent = both (is_sendable task.key) (not (has_chunk task.key)) (both (is_key task.key) (is_sendable task.key && not (has_chunk task.key)) key).1 in
    absurd (let bad : true ≡ false = sym has ∙ no_space task.key sent.0 in cc)

-- ---- worked openings

one_task : (task : Task) → IsTask task → All IsTask (task ∷ [])
one_task task fits = All-cons IsTask task [] fits (All-nil IsTask)

pub check_begins : MayBegin one_check
check_begins = record {
  few = lit≤ tt;
  tasks = one_task (record { work = Check; key = sample_key; file = []; name = []; onto = [] }) record { key_class = refl; file_class = refl; name_class = refl; onto_class = refl; apart = refl };
  lines = record { uuid = refl; name = refl; gitdir = refl };
  uuid = nil_written;
  again = lit≤ tt;
}

pub store_begins : MayBegin (known_since 5 Store)
unfolding is_utf8 chars encode_utf8
store_begins = record {
  few = lit≤ tt;
  tasks = one_task (record { work = Store; key = codes "WORM-s150--a"; file = codes "f"; name = []; onto = [] }) record { key_class = refl; file_class = refl; name_class = refl; onto_class = refl; apart = refl };
  lines = record { uuid = refl; name = refl; gitdir = refl };
  uuid = nil_written;
  again = lit≤ tt;
}

pub nothing_begins : MayBegin (begun_as remote (codes "remote"))
nothing_begins = record { few = lit≤ tt; tasks = All-nil IsTask; lines = record { uuid = refl; name = refl; gitdir = refl }; uuid = nil_written; again = lit≤ tt }

first_task : (task : Task) → All IsTask (task ∷ []) → IsTask task
first_task task all = All-head IsTask task [] all

pub no_key : (key : List ℕ) → (is_key key && (is_sendable key && not (has_chunk key))) ≡ false → MayBegin (begun_with Check key []) → ⊥
no_key key wrong begins = let right = (first_task (record { work = Check; key = key; file = []; name = []; onto = [] }) begins.tasks).key_class in absurd (let bad : true ≡ false = sym right ∙ wrong in cc)

pub no_check_file : MayBegin (begun_with Check sample_key (codes "f")) → ⊥
no_check_file begins =
    let right : false ≡ true = (first_task (record { work = Check; key = sample_key; file = codes "f"; name = []; onto = [] }) begins.tasks).file_class in
    absurd cc

pub no_store_file : MayBegin (begun_with Store sample_key []) → ⊥
no_store_file begins =
    let right : false ≡ true = (first_task (record { work = Store; key = sample_key; file = []; name = []; onto = [] }) begins.tasks).file_class in
    absurd cc

pub eight_times : MayBegin (one_check_again 8)
eight_times = record { few = check_begins.few; tasks = check_begins.tasks; lines = check_begins.lines; uuid = check_begins.uuid; again = lit≤ tt }

pub no_more : MayBegin (one_check_again 9) → ⊥
no_more begins = (let over : 9 ≤ 8 = begins.again in omega (arith, over))
