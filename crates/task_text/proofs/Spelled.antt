-- Lines that spell tasks.
use Rattle.std.proofs.Common.{◌≡◌, ℕ, ◌==◌, ◌&&◌, Bool, true, false, not, cond, List, [], ◌∷◌, ◌++◌, length, Option, Some, None, Result, Ok, Err, refl, sym, ap, subst, ◌∙◌, if◌then◌else◌}
use Rattle.std.specs.Prelude.{MatchResult}
use Rattle.std.specs.Str.{bytes_eq}
use Rattle.std.specs.List.{list_any, before_first, after_first}
use Rattle.std.proofs.lemmas.Bool.{and_parts, not-true, not-false, and_from, or_from, or_parts}
use Rattle.std.proofs.lemmas.Slice.Eq.{bytes_eq-Decides}
use Rattle.task_text.specs.Works.{word_of, work_of, names_file, has_name, has_onto}
use Rattle.task_text.specs.TaskLines.{SpellsTask, is_task_key, is_file, is_name, is_space, behind_key, work_at, key_in, file_in, name_in, onto_in, key_at, words_at, file_at, name_at, onto_at, fault_in, fault_of, IsReading}
use Rattle.task_text.specs.declared.task.Work.{Work}
use Rattle.task_text.specs.declared.task.Work.TheVariants.{Store, Get, Check, Drop, XStore, XGet, XCheck, XDrop, XRename}
use Rattle.task_text.specs.declared.task.Task.{Task}
use Rattle.task_text.specs.declared.error.TaskError.{TaskError}
use Rattle.task_text.specs.declared.error.TaskError.TheVariants.{Word, Key, Unsendable, ChunkKey, File, Name, NoMemory}
use Rattle.task_text.proofs.Marks.{before_space, after_space, split_at_space}
use Rattle.task_text.proofs.Parts.{AreParts, parts_of_rest, whole_rest, some_rest, file_right, name_right, onto_right, file_apart, file_wanted, name_wanted, onto_wanted, lacks_none}
use Rattle.ann_key.proofs.Lists.{found_so as find_some}
use Rattle.ann_key.proofs.Across.{no_space}

-- the word of the work that a word names
pub word_named : (word : List ℕ) (work : Work) → work_of word ≡ Some work → word ≡ word_of work
word_named word work h =
    sym ((bytes_eq-Decides (word_of work) word).0 (find_some (λ w. bytes_eq (word_of w) word) (Store ∷ Get ∷ Check ∷ Drop ∷ XStore ∷ XGet ∷ XCheck ∷ XDrop ∷ XRename ∷ []) work h))

work_of-word_of : (work : Work) → work_of (word_of work) ≡ Some work
work_of-word_of Store = refl
work_of-word_of Get = refl
work_of-word_of Check = refl
work_of-word_of Drop = refl
work_of-word_of XStore = refl
work_of-word_of XGet = refl
work_of-word_of XCheck = refl
work_of-word_of XDrop = refl
work_of-word_of XRename = refl

spaceless_word : (work : Work) → list_any is_space (word_of work) ≡ false
spaceless_word Store = refl
spaceless_word Get = refl
spaceless_word Check = refl
spaceless_word Drop = refl
spaceless_word XStore = refl
spaceless_word XGet = refl
spaceless_word XCheck = refl
spaceless_word XDrop = refl
spaceless_word XRename = refl

-- ---- a line that spells a task has its parts

-- the line has this task's work and parts
pub record HasParts (task : Task) (line : List ℕ) : Type 0 where
  pub work_is : work_at line ≡ Some task.work
  pub parts : AreParts task.work (after_first is_space line) task.key task.file task.name task.onto

pub parts_of_line : (task : Task) (line : List ℕ) → SpellsTask task line → HasParts task line
parts_of_line task line spells =
    let work = task.work in
    let class = spells.task_class in
    let rest = task.key ++ behind_key work task.file task.name task.onto in
    let front : before_first is_space line ≡ word_of work =
    ap (before_first is_space) spells.whole ∙ before_space (word_of work) rest (spaceless_word work) in
    let sendable = (and_parts _ _ (and_parts _ _ class.key_class).1).0 in
    record {
      work_is = ap work_of front ∙ work_of-word_of work;
      parts =
          parts_of_rest work task.key task.file task.name task.onto (after_first is_space line)
          (ap (after_first is_space) spells.whole ∙ after_space (word_of work) rest (spaceless_word work))
          (no_space task.key sendable) class.file_class class.name_class class.onto_class class.apart;
    }

same_task : (w w' : Work) (k k' f f' n n' o o' : List ℕ) → w ≡ w' → k ≡ k' → f ≡ f' → n ≡ n' → o ≡ o'
    → ◌≡◌ {A = Task} (record { work = w; key = k; file = f; name = n; onto = o }) (record { work = w'; key = k'; file = f'; name = n'; onto = o' })
same_task w w' k k' f f' n n' o o' p q r s t = λ i. record { work = p i; key = q i; file = r i; name = s i; onto = t i }

pub at_most_one : (line : List ℕ) (task other : Task) → SpellsTask task line → SpellsTask other line → task ≡ other
at_most_one line task other spells spells' =
    let a = parts_of_line task line spells in
    let b = parts_of_line other line spells' in
    let work : task.work ≡ other.work = cc (a.work_is, b.work_is) in
    let key : task.key ≡ other.key = sym a.parts.key_is ∙ ap (λ w. key_at w line) work ∙ b.parts.key_is in
    let file : task.file ≡ other.file = sym a.parts.file_is ∙ ap (λ w. file_at w line) work ∙ b.parts.file_is in
    let name : task.name ≡ other.name = sym a.parts.name_is ∙ ap (λ w. name_at w line) work ∙ b.parts.name_is in
    let onto : task.onto ≡ other.onto = sym a.parts.onto_is ∙ ap (λ w. onto_at w line) work ∙ b.parts.onto_is in
    same_task task.work other.work task.key other.key task.file other.file task.name other.name task.onto other.onto work key file name onto

-- ---- a line whose parts are right spells a task

-- the task of a line's parts
abbrev pub task_at : Work → List ℕ → Task
task_at work line = record { work = work; key = key_at work line; file = file_at work line; name = name_at work line; onto = onto_at work line }

-- nothing is wrong with the parts of a line of this work
pub record IsRight (work : Work) (line : List ℕ) : Type 0 where
  pub key_class : is_task_key (key_at work line) ≡ true
  pub file_class : (names_file work && not (is_file (file_at work line))) ≡ false
  pub name_class : (has_name work && not (is_name (name_at work line))) ≡ false
  pub onto_class : (has_onto work && not (is_name (onto_at work line))) ≡ false

pub spells_parts : (line : List ℕ) (work : Work) → work_at line ≡ Some work → IsRight work line → SpellsTask (task_at work line) line
spells_parts line work at right =
    let rest = after_first is_space line in
    let word = word_named (before_first is_space line) work at in
    record {
      whole =
          split_at_space line (some_rest work rest (and_parts _ _ right.key_class).0)
          ∙ ap (λ w. w ++ 32 ∷ rest) word
          ∙ ap (λ r. word_of work ++ 32 ∷ r) (whole_rest work rest right.file_class right.name_class right.onto_class);
      task_class = record {
        key_class = right.key_class;
        file_class = file_right work (words_at line) right.file_class;
        name_class = name_right work (words_at line) right.name_class;
        onto_class = onto_right work (words_at line) right.onto_class;
        apart = ap not (file_apart work (words_at line));
      };
    }

-- a line's parts, one after the other
pub record AreRead (line word rest key file name onto : List ℕ) (work : Work) : Type 0 where
  pub word_is : word ≡ before_first is_space line
  pub rest_is : rest ≡ after_first is_space line
  pub work_is : Some work ≡ work_of word
  pub key_is : key ≡ key_in work rest
  pub file_is : file ≡ file_in work (after_first is_space rest)
  pub name_is : name ≡ name_in work (after_first is_space rest)
  pub onto_is : onto ≡ onto_in work (after_first is_space rest)

pub key_read : (line word rest key file name onto : List ℕ) (work : Work) → AreRead line word rest key file name onto work → key ≡ key_at work line
key_read line word rest key file name onto work read = read.key_is ∙ ap (key_in work) read.rest_is

pub file_read : (line word rest key file name onto : List ℕ) (work : Work) → AreRead line word rest key file name onto work → file ≡ file_at work line
file_read line word rest key file name onto work read = read.file_is ∙ ap (λ r. file_in work (after_first is_space r)) read.rest_is

pub name_read : (line word rest key file name onto : List ℕ) (work : Work) → AreRead line word rest key file name onto work → name ≡ name_at work line
name_read line word rest key file name onto work read = read.name_is ∙ ap (λ r. name_in work (after_first is_space r)) read.rest_is

pub onto_read : (line word rest key file name onto : List ℕ) (work : Work) → AreRead line word rest key file name onto work → onto ≡ onto_at work line
onto_read line word rest key file name onto work read = read.onto_is ∙ ap (λ r. onto_in work (after_first is_space r)) read.rest_is

pub work_read : (line word rest key file name onto : List ℕ) (work : Work) → AreRead line word rest key file name onto work → work_at line ≡ Some work
work_read line word rest key file name onto work read = sym (read.work_is ∙ ap work_of read.word_is)

-- a text is read of bytes where it is wanted, and is right then
pub record IsText (wanted : Bool) (is_right : List ℕ → Bool) (bytes text : List ℕ) : Type 0 where
  pub text_is : text ≡ (if wanted then bytes else [])
  pub class : (wanted && not (is_right bytes)) ≡ false

pub text_read : (wanted wanted' : Bool) (is_right : List ℕ → Bool) (bytes text : List ℕ) → wanted ≡ wanted'
    → (text ≡ (if wanted then bytes else [])) × ((wanted && not (is_right bytes)) ≡ false) → IsText wanted' is_right bytes text
text_read wanted wanted' is_right bytes text same read = record {
  text_is = read.0 ∙ ap (λ b. if b then bytes else []) same;
  class = ap (λ b. b && not (is_right bytes)) (sym same) ∙ read.1;
}

-- what is read of a line with whose parts nothing is wrong
pub spells_read : (line word rest key file name onto k f n o : List ℕ) (work : Work) → AreRead line word rest key file name onto work
    → k ≡ key → is_task_key key ≡ true → IsText (names_file work) is_file file f → IsText (has_name work) is_name name n
    → IsText (has_onto work) is_name onto o → SpellsTask (record { work = work; key = k; file = f; name = n; onto = o }) line
spells_read line word rest key file name onto k f n o work read is_k key_class as_file as_name as_onto =
    let key_is = key_read line word rest key file name onto work read in
    let file_is = file_read line word rest key file name onto work read in
    let name_is = name_read line word rest key file name onto work read in
    let onto_is = onto_read line word rest key file name onto work read in
    let same = same_task work work k (key_at work line) f (file_at work line) n (name_at work line) o (onto_at work line) refl
    (is_k ∙ key_is)
    (as_file.text_is ∙ ap (λ x. if names_file work then x else []) file_is ∙ file_wanted work (words_at line))
    (as_name.text_is ∙ ap (λ x. if has_name work then x else []) name_is ∙ name_wanted work (words_at line))
    (as_onto.text_is ∙ ap (λ x. if has_onto work then x else []) onto_is ∙ onto_wanted work (words_at line)) in
    let right : IsRight work line = record {
      key_class = ap is_task_key (sym key_is) ∙ key_class;
      file_class = ap (λ x. names_file work && not (is_file x)) (sym file_is) ∙ as_file.class;
      name_class = ap (λ x. has_name work && not (is_name x)) (sym name_is) ∙ as_name.class;
      onto_class = ap (λ x. has_onto work && not (is_name x)) (sym onto_is) ∙ as_onto.class;
    } in
    subst (λ (t : Task). SpellsTask t line) (sym same) (spells_parts line work (work_read line word rest key file name onto work read) right)

-- ---- and nothing is wrong with it

all_right : (a b c d e : Bool) → a ≡ false → b ≡ false → c ≡ false → d ≡ false → e ≡ false
    → cond a (Some Key) (cond b (Some Unsendable) (cond c (Some ChunkKey) (cond d (Some File) (cond e (Some Name) None)))) ≡ None
all_right a b c d e p q r s t = rw (p, q, r, s, t) refl

pub no_fault_in : (line : List ℕ) (work : Work) → IsRight work line → fault_in (Some work) line ≡ None
no_fault_in line work right =
    let class = and_parts _ _ right.key_class in
    let sent = and_parts _ _ class.1 in
    all_right _ _ _ _ _ (ap not class.0) (ap not sent.0) (not-true _ sent.1) right.file_class
    (or_from (has_name work && not (is_name (name_at work line))) _ right.name_class right.onto_class)

pub no_fault : (line : List ℕ) (task : Task) → SpellsTask task line → fault_of line ≡ None
no_fault line task spells =
    let work = task.work in
    let has = parts_of_line task line spells in
    let class = spells.task_class in
    let right : IsRight work line = record {
      key_class = ap is_task_key has.parts.key_is ∙ class.key_class;
      file_class =
          ap (λ x. names_file work && not (is_file x)) has.parts.file_is
          ∙ lacks_none (names_file work) (is_file task.file) (length task.file == 0) class.file_class;
      name_class =
          ap (λ x. has_name work && not (is_name x)) has.parts.name_is
          ∙ lacks_none (has_name work) (is_name task.name) (length task.name == 0) class.name_class;
      onto_class =
          ap (λ x. has_onto work && not (is_name x)) has.parts.onto_is
          ∙ lacks_none (has_onto work) (is_name task.onto) (length task.onto == 0) class.onto_class;
    } in
    ap (λ w. fault_in w line) has.work_is ∙ no_fault_in line work right

cond_none : {A : Type 0} (b : Bool) (x : A) (o : Option A) → cond b (Some x) o ≡ None → (b ≡ false) × (o ≡ None)
cond_none true x o h = cc
cond_none false x o h = (refl, h)

-- a line with no fault spells a task
pub spelled : (line : List ℕ) → fault_of line ≡ None → (task : Task) × SpellsTask task line
spelled line none = by (work_at line) refl none
  where
    by : (work : Option Work) → work_at line ≡ work → fault_in work line ≡ None → (task : Task) × SpellsTask task line
    by None at none = cc
    by (Some work) at none =
        let key = cond_none _ Key _ none in
        let sent = cond_none _ Unsendable _ key.1 in
        let chunk = cond_none _ ChunkKey _ sent.1 in
        let file = cond_none _ File _ chunk.1 in
        let name = cond_none _ Name _ file.1 in
        let names = or_parts (has_name work && not (is_name (name_at work line))) _ name.0 in (
          _,
          spells_parts line work at (record {
            key_class = and_from _ _ (not-false _ key.0) (and_from _ _ (not-false _ sent.0) (ap not chunk.0));
            file_class = file.0;
            name_class = names.0;
            onto_class = names.1;
          }),
        )

-- ---- what a reading says

pub reading_of : (line : List ℕ) (task : Task) (r : Result Task TaskError) → SpellsTask task line
    → MatchResult r (λ read. read ≡ task) (λ fault. fault ≡ NoMemory) → IsReading line r
reading_of line task (Ok read) spells is = subst (λ (t : Task). SpellsTask t line) (sym is) spells
reading_of line task (Err fault) spells is = subst (λ (f : TaskError). IsReading line (Err f)) (sym is) (no_fault line task spells)

pub read_back : (line : List ℕ) (task : Task) (r : Result Task TaskError) → IsReading line r → SpellsTask task line
    → MatchResult r (λ read. read ≡ task) (λ fault. fault ≡ NoMemory)
read_back line task (Ok read) is spells = at_most_one line read task is spells
read_back line task (Err Word) is spells = let none = no_fault line task spells in cc
read_back line task (Err Key) is spells = let none = no_fault line task spells in cc
read_back line task (Err Unsendable) is spells = let none = no_fault line task spells in cc
read_back line task (Err ChunkKey) is spells = let none = no_fault line task spells in cc
read_back line task (Err File) is spells = let none = no_fault line task spells in cc
read_back line task (Err Name) is spells = let none = no_fault line task spells in cc
read_back line task (Err NoMemory) is spells = refl
