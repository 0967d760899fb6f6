-- Lines whose first fault is a name.
use Rattle.std.proofs.Common.{◌≡◌, ℕ, ◌&&◌, ◌||◌, Bool, true, false, not, cond, List, Some, None, refl, sym, ap, ◌∙◌}
use Rattle.std.proofs.lemmas.Bool.{and_parts, not-true, or_left, or_right}
use Rattle.task_text.specs.Works.{names_file, has_name, has_onto}
use Rattle.task_text.specs.TaskLines.{is_task_key, is_file, is_name, work_at, key_at, file_at, name_at, onto_at, fault_in, fault_of}
use Rattle.task_text.specs.declared.task.Work.{Work}
use Rattle.task_text.specs.declared.error.TaskError.TheVariants.{Key, Unsendable, ChunkKey, File, Name}
use Rattle.task_text.proofs.Spelled.{AreRead, IsText, work_read, key_read, file_read, name_read, onto_read}

at_name : (a b c d e : Bool) → a ≡ false → b ≡ false → c ≡ false → d ≡ false → e ≡ true
    → cond a (Some Key) (cond b (Some Unsendable) (cond c (Some ChunkKey) (cond d (Some File) (cond e (Some Name) None)))) ≡ Some Name
at_name a b c d e p q r s t = rw (p, q, r, s, t) refl

-- a name or a new name is wanted, and there is none
pub name_fault : (line : List ℕ) (work : Work) → work_at line ≡ Some work → is_task_key (key_at work line) ≡ true
    → (names_file work && not (is_file (file_at work line))) ≡ false
    → ((has_name work && not (is_name (name_at work line))) || (has_onto work && not (is_name (onto_at work line)))) ≡ true
    → fault_of line ≡ Some Name
name_fault line work at key file wrong =
    let class = and_parts _ _ key in
    let sent = and_parts _ _ class.1 in
    ap (λ w. fault_in w line) at ∙ at_name _ _ _ _ _ (ap not class.0) (ap not sent.0) (not-true _ sent.1) file wrong

-- the same of the parts that were read of a line
pub name_missing : (line word rest key file name onto f : List ℕ) (work : Work) → AreRead line word rest key file name onto work
    → is_task_key key ≡ true → IsText (names_file work) is_file file f → (wanted : Bool) → wanted ≡ has_name work
    → (wanted && not (is_name name)) ≡ true → fault_of line ≡ Some Name
name_missing line word rest key file name onto f work read key_class as_file wanted same lacking =
    name_fault line work (work_read line word rest key file name onto work read)
    (ap is_task_key (sym (key_read line word rest key file name onto work read)) ∙ key_class)
    (ap (λ x. names_file work && not (is_file x)) (sym (file_read line word rest key file name onto work read)) ∙ as_file.class)
    (or_left _ _
    (ap (λ x. has_name work && not (is_name x)) (sym (name_read line word rest key file name onto work read))
    ∙ ap (λ b. b && not (is_name name)) (sym same) ∙ lacking))

pub onto_missing : (line word rest key file name onto f : List ℕ) (work : Work) → AreRead line word rest key file name onto work
    → is_task_key key ≡ true → IsText (names_file work) is_file file f → (wanted : Bool) → wanted ≡ has_onto work
    → (wanted && not (is_name onto)) ≡ true → fault_of line ≡ Some Name
onto_missing line word rest key file name onto f work read key_class as_file wanted same lacking =
    name_fault line work (work_read line word rest key file name onto work read)
    (ap is_task_key (sym (key_read line word rest key file name onto work read)) ∙ key_class)
    (ap (λ x. names_file work && not (is_file x)) (sym (file_read line word rest key file name onto work read)) ∙ as_file.class)
    (or_right (has_name work && not (is_name (name_at work line))) _
    (ap (λ x. has_onto work && not (is_name x)) (sym (onto_read line word rest key file name onto work read))
    ∙ ap (λ b. b && not (is_name onto)) (sym same) ∙ lacking))
