-- What is read of a file that shows a content.
use Rattle.std.proofs.Common.{◌≡◌, ◌∙◌, ℕ, ◌+◌, ◌==◌, true, List, [], ◌∷◌, ◌++◌, length, refl, ap, arith}
use Rattle.std.specs.List.{list_all, concat}
use Rattle.std.proofs.lemmas.Bool.{and_parts, eqb-true}
use Rattle.ann_outside.specs.declared.file_desk.Call.{Call}
use Rattle.task_model.specs.Askers.{Asking}
use Rattle.task_model.specs.declared.setup.Setup.{Setup}
use Rattle.task_model.specs.declared.turn.TaskTurn.{TaskTurn}
use Rattle.task_model.specs.Names.{fetch_file}
use Rattle.task_model.specs.Reads.{lengths_found, reads_of, bytes_of, is_reading}
use Rattle.task_model.specs.Gets.{bytes_fetched, is_read_whole, are_read_whole}
use Rattle.task_model.proofs.HeldLaws.{reads_all}
use Rattle.run_starts.specs.TaskLaws.Contents.{Shows, AreFetched}
use Rattle.ann_key.proofs.Booleans.{false_is_true as apart}

-- ---- reads of one file

-- a file that was looked at and read as long as it was found is read whole
pub read_whole : (name content : List ℕ) (calls : List Call) → Shows name content calls → is_read_whole (reads_of name calls) (lengths_found name calls) ≡ true → bytes_of (reads_of name calls) ≡ content
read_whole name content calls f h = by_lengths (lengths_found name calls) f.lengths h
  where
    reads : List (ℕ × List ℕ)
    reads = reads_of name calls

    by_lengths : (ks : List ℕ) → list_all (λ n. n == length content) ks ≡ true → is_read_whole reads ks ≡ true → bytes_of reads ≡ content
    by_lengths [] l r = apart r
    by_lengths (k ∷ ks) l r =
        let long : k ≡ length content = eqb-true k (length content) (and_parts (k == length content) (list_all (λ n. n == length content) ks) l).0 in
        reads_all content k reads (and_parts (is_reading 0 k reads) (list_all (λ j. is_reading 0 j reads) ks) r).0 (omega arith) f.reads

-- ---- the files of the last layout

pub fetched_are : (setup : Setup) (t : TaskTurn) (calls : List Call) (n : ℕ) (asked : List Asking) (contents : List (List ℕ)) → AreFetched setup t calls n asked contents → are_read_whole setup t calls n asked ≡ true
    → bytes_fetched setup t calls n asked ≡ concat contents
fetched_are setup t calls n [] [] f w = refl
fetched_are setup t calls n [] (c ∷ contents) f w = absurd f
fetched_are setup t calls n (a ∷ more) [] f w = absurd f
fetched_are setup t calls n (a ∷ more) (content ∷ contents) f w =
    let p = and_parts (is_read_whole (reads_of (fetch_file setup t n) calls) (lengths_found (fetch_file setup t n) calls)) (are_read_whole setup t calls (n + 1) more) w in
    let one : bytes_of (reads_of (fetch_file setup t n) calls) ≡ content = read_whole (fetch_file setup t n) content calls f.0 p.0 in
    let rest : bytes_fetched setup t calls (n + 1) more ≡ concat contents = fetched_are setup t calls (n + 1) more contents f.1 p.1 in
    ap (λ (x : List ℕ). x ++ bytes_fetched setup t calls (n + 1) more) one ∙ ap (λ (x : List ℕ). content ++ x) rest
