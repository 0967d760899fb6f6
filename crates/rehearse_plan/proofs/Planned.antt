-- The keys are keys, and the tasks are tasks.
use Rattle.std.proofs.Common.{◌≡◌, ℕ, zero, suc, ◌+◌, ◌/◌, ◌%◌, ◌<◌, ◌≤◌, ◌^◌, List, [], ◌∷◌, ◌++◌, length, refl, sym, ap, subst, ◌∙◌, Bool, true, false, Some, None, All, arith, cond, lit≤}
use Rattle.std.specs.Prelude.{◌==◌, ◌&&◌, not, nat_lt, is_some, map, codes, decimal}
use Rattle.std.specs.List.{list_all, list_any, range_with_len}
use Rattle.std.specs.Str.{is_utf8}
use Rattle.std.proofs.lemmas.Bool.Decides.{nat_tests}
use Rattle.std.proofs.lemmas.List.Elements.{All-cons, All-nil}
use Rattle.std.proofs.lemmas.List.FromFn.{length-map-range_with_len}
use Rattle.std.proofs.lemmas.Nat.{mod_below}
use Rattle.ann_key.specs.Keys.{IsKey, Parts, is_key, is_name, is_sendable, key_reading}
use Rattle.ann_key.proofs.Spelling.{read_of_spelled}
use Rattle.ann_key.proofs.Unique.{decimal_is_numeral}
use Rattle.task_text.specs.Works.{has_name}
use Rattle.task_text.specs.TaskLines.{IsTask, has_chunk, is_file, is_task_key}
use Rattle.task_text.specs.declared.task.Task.{Task}
use Rattle.task_text.specs.declared.task.Work.{Work}
use Rattle.task_text.specs.declared.task.Work.TheVariants.{Store, Get, Check, Drop}
use Rattle.task_text.specs.ChunkLog.ChunkLines.{IsWrittenUuid}
use Rattle.task_text.proofs.ChunkLogLemmas.Uuids.{nil_written}
use Rattle.task_text.specs.declared.chunk_log.note.Note.{Note}
use Rattle.registers.specs.Registers.{RegisterFile}
use Rattle.cli_words.specs.Identities.{nobody}
use Rattle.journal_model.specs.Beginnings.{MayBegin}
use Rattle.journal_model.specs.Replies.{IsLineIdentity}
use Rattle.journal_model.specs.declared.opening.Identity.{Identity}
use Rattle.rehearse_plan.specs.Plans.{key_number, key_text, keys, number_of, opening_of, size_of, source_of, target_of, task_of, task_with, tasks_of, work_at, work_of}
use Rattle.rehearse_plan.proofs.Plain.{decimal_plain, is_plain, plain_both, plain_line, plain_sendable, plain_text}

-- ---- keys

pub parts_of : ℕ → Parts
parts_of key = record { backend = codes "WORM"; size = Some (size_of key); mtime = None; chunk = None; name = 114 ∷ decimal key }

small_size : (key : ℕ) → size_of key < 2 ^ 64
small_size key = omega arith

pub key_spelled : (key : ℕ) → key < 2 ^ 64 → IsKey (key_text key) (parts_of key)
unfolding parts_of
key_spelled key h = record {
  size = 45 ∷ 115 ∷ decimal (size_of key);
  mtime = [];
  chunk = [];
  whole = refl;
  backend_class = refl;
  size_field = (decimal (size_of key), refl, decimal_is_numeral (size_of key) (small_size key));
  mtime_field = refl;
  chunk_field = refl;
  name_class = named (decimal key) (plain_line (decimal key) (decimal_plain key h));
}
  where
    named : (ds : List ℕ) → list_any (λ b. b == 10) ds ≡ false → is_name (114 ∷ ds) ≡ true
    named ds e = let some : nat_lt 0 (length (114 ∷ ds)) ≡ true = grind (arith, nat_tests) in rw (some, e) refl

pub key_plain : (key : ℕ) → key < 2 ^ 64 → list_all is_plain (key_text key) ≡ true
key_plain key h =
    plain_both (codes "WORM-s") (decimal (size_of key) ++ (codes "--r" ++ decimal key)) refl
    (plain_both (decimal (size_of key)) (codes "--r" ++ decimal key) (decimal_plain (size_of key) (small_size key))
    (plain_both (codes "--r") (decimal key) refl (decimal_plain key h)))

key_class : (key : ℕ) → key < 2 ^ 64 → is_task_key (key_text key) ≡ true
unfolding parts_of
key_class key h =
    let read : key_reading (key_text key) ≡ Some (parts_of key) = read_of_spelled (key_text key) (parts_of key) (key_spelled key h) in
    let sent : is_sendable (key_text key) ≡ true = plain_sendable (key_text key) (key_plain key h) in
    whole (key_text key) read sent
  where
    whole : (text : List ℕ) → key_reading text ≡ Some (parts_of key) → is_sendable text ≡ true → is_task_key text ≡ true
    whole text read sent = rw (read, sent) refl

-- ---- files

file_class : (front : List ℕ) (n : ℕ) → nat_lt 0 (length front) ≡ true → list_all is_plain front ≡ true → n < 2 ^ 64 → is_file (front ++ decimal n) ≡ true
file_class front n some plain h =
    let all : list_all is_plain (front ++ decimal n) ≡ true = plain_both front (decimal n) plain (decimal_plain n h) in
    rw (longer front (decimal n) some, plain_text (front ++ decimal n) all, plain_line (front ++ decimal n) all) refl
  where
    longer : (xs ys : List ℕ) → nat_lt 0 (length xs) ≡ true → nat_lt 0 (length (xs ++ ys)) ≡ true
    longer [] ys e = absurd cc
    longer (x ∷ xs) ys e = grind (arith, nat_tests)

-- ---- tasks

is_task : (work : Work) (key task : ℕ) → has_name work ≡ false → key < 2 ^ 64 → task < 2 ^ 64 → IsTask (task_with work key task)
is_task Store key task p h k = record {
  key_class = key_class key h;
  file_class = file_class (codes "src/") key refl refl h;
  name_class = refl;
  onto_class = refl;
  apart = refl;
}
is_task Get key task p h k = record {
  key_class = key_class key h;
  file_class = file_class (codes "dst/") task refl refl k;
  name_class = refl;
  onto_class = refl;
  apart = refl;
}
is_task Check key task p h k = record { key_class = key_class key h; file_class = refl; name_class = refl; onto_class = refl; apart = refl }
is_task Drop key task p h k = record { key_class = key_class key h; file_class = refl; name_class = refl; onto_class = refl; apart = refl }
is_task _ key task p h k = absurd cc

-- no task of a rehearsal is one of an export
plain_work : (n : ℕ) → has_name (work_at n) ≡ false
plain_work n = by_tests (n == 0) (n == 1) (n == 2)
  where
    by_tests : (a b c : Bool) → has_name (cond a Store (cond b Get (cond c Check Drop))) ≡ false
    by_tests true b c = refl
    by_tests false true c = refl
    by_tests false false true = refl
    by_tests false false false = refl

pub few_keys : (tasks number : ℕ) → tasks ≤ 65536 → key_number tasks number < 16386
few_keys tasks number h =
    let some : 0 < keys tasks = omega arith in
    let below : number % keys tasks < keys tasks = mod_below number (keys tasks) some in
    let most : keys tasks ≤ 16385 = omega (arith, h) in
    omega (arith, below, most)

are_tasks : (seed tasks from n : ℕ) → tasks ≤ 65536 → from + n ≤ 65537 → All IsTask (map (task_of seed tasks) (range_with_len from n))
are_tasks seed tasks from zero few h = All-nil IsTask
are_tasks seed tasks from (suc n) few h =
    let number = number_of seed from in
    let below : key_number tasks number < 16386 = few_keys tasks number few in
    All-cons IsTask (task_of seed tasks from) (map (task_of seed tasks) (range_with_len (from + 1) n))
    (is_task (work_of number) (key_number tasks number) from (plain_work (number / 5 % 4)) (omega (arith, below)) (omega (arith, h)))
    (are_tasks seed tasks (from + 1) n few (omega (arith, h)))

-- ---- the opening

pub begins : (seed tasks : ℕ) → tasks ≤ 65536 → MayBegin (opening_of seed tasks)
begins seed tasks few = record {
  few = subst (λ (n : ℕ). n ≤ 65536) (sym (length-map-range_with_len (task_of seed tasks) 1 tasks)) few;
  tasks = are_tasks seed tasks 1 tasks few (omega (arith, few));
  lines = record { uuid = refl; name = refl; gitdir = refl };
  uuid = nil_written;
  again = lit≤ tt;
}

pub begins_of : (seed tasks : ℕ) (list : List Task) (registers : RegisterFile) (notes : List Note) (who : Identity) → tasks ≤ 65536 → list ≡ tasks_of seed tasks → who ≡ nobody
    → MayBegin (record { tasks = list; registers = registers; notes = notes; identity = who; stamp = 0; again = 0 })
begins_of seed tasks list registers notes who few same nil =
    let o = begins seed tasks few in
    record {
      few = subst (λ (ts : List Task). length ts ≤ 65536) (sym same) o.few;
      tasks = subst (λ (ts : List Task). All IsTask ts) (sym same) o.tasks;
      lines = subst IsLineIdentity (sym nil) o.lines;
      uuid = subst (λ (i : Identity). IsWrittenUuid i.uuid) (sym nil) o.uuid;
      again = o.again;
    }

-- what is read of the text of a key is no fault
pub no_fault : (bytes : List ℕ) (key : ℕ) → ((parts : Parts) → IsKey bytes parts → ⊥) → bytes ≡ key_text key → key < 2 ^ 64 → ⊥
no_fault bytes key none same small = none (parts_of key) (subst (λ (b : List ℕ). IsKey b (parts_of key)) (sym same) (key_spelled key small))
