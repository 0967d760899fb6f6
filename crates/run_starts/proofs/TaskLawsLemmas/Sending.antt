-- What a store in chunks sends of its file.
use Rattle.std.proofs.Common.{◌≡◌, ◌∙◌, ◌⊎◌, inl, inr, ℕ, ◌+◌, ◌-◌, ◌≤◌, ◌==◌, min, Bool, true, false, not, List, [], ◌∷◌, length, take, drop, refl, sym, ap, subst, arith}
use Rattle.std.specs.Prelude.{◌≢◌, ◌&&◌, ◌||◌, cond, nat_lt, nat_le, Option, Some, None, IfSome, is_some, map, filter, unwrap_or, option_map, bytes_eq}
use Rattle.std.specs.Bool.{MatchBool}
use Rattle.std.specs.List.{list_all, filter_map, cons_option, slice_range}
use Rattle.std.proofs.Math.Seq.{take-take}
use Rattle.std.proofs.lemmas.Bool.{and_parts, or_cases, eqb-true}
use Rattle.std.proofs.lemmas.List.{length-take, take-append-drop}
use Rattle.std.proofs.lemmas.Slice.Eq.{bytes_eq-Decides}
use Rattle.ann_key.specs.Keys.{Parts, key_reading}
use Rattle.ann_outside.specs.declared.file_desk.Call.{Call}
use Rattle.annex_model.specs.Messages.{HostMessage, Transfer, Checkpresent}
use Rattle.task_text.specs.Layouts.Layouts.{Part}
use Rattle.journal_model.specs.declared.answer.Answer.{Answer}
use Rattle.task_text.specs.declared.task.Task.{Task}
use Rattle.task_text.specs.declared.task.Work.{Work}
use Rattle.task_text.specs.declared.task.Work.TheVariants as W
use Rattle.task_model.specs.Askers.{Asking, Noting}
use Rattle.task_model.specs.declared.setup.Setup.{Setup}
use Rattle.task_model.specs.declared.turn.TaskTurn.{TaskTurn}
use Rattle.task_model.specs.Names.{chunk_file}
use Rattle.task_model.specs.Requests.{AsksFor, AskInOrder}
use Rattle.task_model.specs.Layouts.{parts_of_layout, keys_of_layout}
use Rattle.task_model.specs.Reads.{length_found, lengths_found, reads_of, reads_between, bytes_of, is_run, appended, holds, is_read_of}
use Rattle.task_model.specs.Checks.{present_request}
use Rattle.task_model.specs.Stores.{is_size, fits_length, chunk_request, questions, found, transfers, missing_parts, is_front, is_copied, copied_length, part_length, is_filled, are_whole, PlainStoreAsks, ChunkStoreAsks}
use Rattle.task_model.specs.Runs.{RunOf, TaskRun, is_chunked, WorkAsks}
use Rattle.task_model.proofs.HeldLaws.{reads_front}
use Rattle.run_starts.specs.TaskLaws.Contents.{Shows}
use Rattle.run_starts.specs.TaskLaws.Sent.{IsRangeSent, ChunksAreRanges}
use Rattle.run_starts.proofs.TaskLawsLemmas.Members.{IsIn, is_in, contained, in_split, in_dropped, all_in}
use Rattle.ann_key.proofs.Booleans.{false_is_true as apart}

-- ---- no question stores

no_question : {A : Type 0} (n : ℕ) (keys : List Parts) (asked : List Asking) (a : Asking) (text file : List ℕ) → AskInOrder present_request n keys asked → IsIn a asked → a.request ≡ Some (Transfer true text file) → A
no_question n keys [] a text file h k e = absurd k
no_question n [] (b ∷ more) a text file h k e = absurd h
no_question n (key ∷ keys) (b ∷ more) a text file h (inr k) e = no_question (n + 1) keys more a text file h.1 k e
no_question n (key ∷ keys) (b ∷ more) a text file h (inl is) e =
    let P : Option HostMessage → Type 0 = λ o. AsksFor present_request n key (record { request = o; name = b.name; verdict = b.verdict }) in
    let of : b.request ≡ Some (Transfer true text file) = ap (λ (x : Asking). x.request) is ∙ e in
    let asks : (Transfer true text file ≡ Checkpresent text) × (key_reading text ≡ Some key) = subst P of h.0 in
    absurd (let q : Transfer true text file ≡ Checkpresent text = asks.0 in cc)

-- ---- a transfer's file

-- the part that a transfer stores
record IsOfPart (setup : Setup) (t : TaskTurn) (file : List ℕ) (calls : List Call) (parts : List Part) (text name : List ℕ) : Type 0 where
  part : Part
  there : IsIn part parts
  keyed : key_reading text ≡ Some part.key
  copied : (is_run part.from (reads_between file part.from part.to calls) && is_front (appended name calls) (bytes_of (reads_between file part.from part.to calls))) ≡ true
  long : length (appended name calls) ≡ part.to - part.from
  filled : holds name None calls ≡ Some (appended name calls)

filled_holds : (bytes : List ℕ) (held : Option (List ℕ)) → unwrap_or (option_map (bytes_eq bytes) held) false ≡ true → held ≡ Some bytes
filled_holds bytes None h = apart h
filled_holds bytes (Some x) h = ap (λ (l : List ℕ). Some l) (sym ((bytes_eq-Decides bytes x).0 h))

part_of_transfer : (setup : Setup) (t : TaskTurn) (file : List ℕ) (calls : List Call) (n : ℕ) (parts : List Part) (asked : List Asking) (a : Asking) (text name : List ℕ)
    → AskInOrder (chunk_request setup t) n (map (λ (p : Part). p.key) parts) asked → are_whole setup t file calls n parts asked ≡ true → IsIn a asked → a.request ≡ Some (Transfer true text name)
    → IsOfPart setup t file calls parts text name
part_of_transfer setup t file calls n parts [] a text name h w k e = absurd k
part_of_transfer setup t file calls n [] (b ∷ more) a text name h w k e = absurd h
part_of_transfer setup t file calls n (part ∷ parts) (b ∷ more) a text name h w (inr k) e =
    let rest : are_whole setup t file calls (n + 1) parts more ≡ true =
    (and_parts (is_copied setup t file calls n part && copied_length setup t calls n == part_length part && is_filled setup t calls n) (are_whole setup t file calls (n + 1) parts more) w).1 in
    let later : IsOfPart setup t file calls parts text name = part_of_transfer setup t file calls (n + 1) parts more a text name h.1 rest k e in
    record { part = later.part; there = inr later.there; keyed = later.keyed; copied = later.copied; long = later.long; filled = later.filled }
part_of_transfer setup t file calls n (part ∷ parts) (b ∷ more) a text name h w (inl is) e =
    let P : Option HostMessage → Type 0 = λ o. AsksFor (chunk_request setup t) n part.key (record { request = o; name = b.name; verdict = b.verdict }) in
    let of : b.request ≡ Some (Transfer true text name) = ap (λ (x : Asking). x.request) is ∙ e in
    let asks : (Transfer true text name ≡ Transfer true text (chunk_file setup t n)) × (key_reading text ≡ Some part.key) = subst P of h.0 in
    let named : name ≡ chunk_file setup t n = let q : Transfer true text name ≡ Transfer true text (chunk_file setup t n) = asks.0 in cc in
    let first = and_parts (is_copied setup t file calls n part && copied_length setup t calls n == part_length part) (is_filled setup t calls n)
    (and_parts (is_copied setup t file calls n part && copied_length setup t calls n == part_length part && is_filled setup t calls n) (are_whole setup t file calls (n + 1) parts more) w).0 in
    let both = and_parts (is_copied setup t file calls n part) (copied_length setup t calls n == part_length part) first.0 in
    let C : List ℕ → Type 0 = λ f. (is_run part.from (reads_between file part.from part.to calls) && is_front (appended f calls) (bytes_of (reads_between file part.from part.to calls))) ≡ true in
    let L : List ℕ → Type 0 = λ f. length (appended f calls) ≡ part.to - part.from in
    let F : List ℕ → Type 0 = λ f. holds f None calls ≡ Some (appended f calls) in
    record {
      part = part;
      there = inl refl;
      keyed = asks.1;
      copied = subst C (sym named) both.0;
      long = subst L (sym named) (eqb-true (copied_length setup t calls n) (part_length part) both.1);
      filled = subst F (sym named) (filled_holds (appended (chunk_file setup t n) calls) (holds (chunk_file setup t n) None calls) first.1);
    }

-- ---- its bytes

all_filtered : {X : Type 0} (p q : X → Bool) (xs : List X) → list_all p xs ≡ true → list_all p (filter q xs) ≡ true
all_filtered p q [] h = refl
all_filtered p q (x ∷ xs) h = by_test (q x) (and_parts (p x) (list_all p xs) h).0 (all_filtered p q xs (and_parts (p x) (list_all p xs) h).1)
  where
    by_test : (b : Bool) → p x ≡ true → list_all p (filter q xs) ≡ true → list_all p (cond b (x ∷ filter q xs) (filter q xs)) ≡ true
    by_test true one rest = rw (one, rest) refl
    by_test false one rest = rest

range_sent : (setup : Setup) (t : TaskTurn) (file content : List ℕ) (calls : List Call) (parts : List Part) (text name : List ℕ) → Shows file content calls → (p : IsOfPart setup t file calls parts text name)
    → appended name calls ≡ slice_range content p.part.from p.part.to
range_sent setup t file content calls parts text name shows p =
    let reads : List (ℕ × List ℕ) = reads_between file p.part.from p.part.to calls in
    let both = and_parts (is_run p.part.from (reads_between file p.part.from p.part.to calls)) (is_front (appended name calls) (bytes_of (reads_between file p.part.from p.part.to calls))) p.copied in
    let shown : list_all (is_read_of content) (reads_between file p.part.from p.part.to calls) ≡ true =
    all_filtered (is_read_of content) (λ (r : ℕ × List ℕ). nat_le p.part.from r.0 && nat_lt r.0 p.part.to) (reads_of file calls) shows.reads in
    let read : bytes_of reads ≡ take (length (bytes_of reads)) (drop p.part.from content) = reads_front content p.part.from reads both.0 shown in
    let front : appended name calls ≡ take (length (appended name calls)) (bytes_of reads) = (bytes_eq-Decides (appended name calls) (take (length (appended name calls)) (bytes_of reads))).0 both.1 in
    let short : length (appended name calls) ≡ min (length (appended name calls)) (length (bytes_of reads)) = ap length front ∙ length-take (length (appended name calls)) (bytes_of reads) in
    let few : length (appended name calls) ≤ length (bytes_of reads) = omega arith in
    front ∙ ap (take (length (appended name calls))) read ∙ take-take (length (appended name calls)) (length (bytes_of reads)) (drop p.part.from content) few
    ∙ ap (λ (n : ℕ). take n (drop p.part.from content)) p.long

-- a request that is kept among the transfers follows a question whose chunk wasn't there
one_missing : (setup : Setup) (t : TaskTurn) (key : Parts) (file : List ℕ) (asked : List Asking) (calls : List Call) (noted : List Noting) (a : Asking) (text name : List ℕ) → ChunkStoreAsks setup t key file asked calls noted
    → IsIn a (transfers asked) → a.request ≡ Some (Transfer true text name)
    → are_whole setup t file calls (questions asked + 1) (missing_parts key setup.chunk asked) (transfers asked) ≡ true
one_missing setup t key file asked calls noted a text name s k e = by_case (or_cases (nat_lt (found asked) (questions asked)) (list_all (λ (b : Asking). not (is_some b.request)) (transfers asked)) s.only_missing)
  where
    whole : (b : Bool) → nat_lt (found asked) (questions asked) ≡ b → b ≡ true → (not b || are_whole setup t file calls (questions asked + 1) (missing_parts key setup.chunk asked) (transfers asked)) ≡ true
        → are_whole setup t file calls (questions asked + 1) (missing_parts key setup.chunk asked) (transfers asked) ≡ true
    whole true m l w = w
    whole false m l w = apart l

    by_case : (nat_lt (found asked) (questions asked) ≡ true) ⊎ (list_all (λ (b : Asking). not (is_some b.request)) (transfers asked) ≡ true)
        → are_whole setup t file calls (questions asked + 1) (missing_parts key setup.chunk asked) (transfers asked) ≡ true
    by_case (inl m) = whole (nat_lt (found asked) (questions asked)) refl m s.each_whole
    by_case (inr none) =
        let P : Option HostMessage → Type 0 = λ o. not (is_some o) ≡ true in
        apart (subst P e (all_in (λ (b : Asking). not (is_some b.request)) (transfers asked) a none k))

pub chunk_ranges : (setup : Setup) (t : TaskTurn) (key : Parts) (file content : List ℕ) (asked : List Asking) (calls : List Call) (noted : List Noting) (a : Asking) (text name : List ℕ)
    → ChunkStoreAsks setup t key file asked calls noted → Shows file content calls → IsIn a asked → a.request ≡ Some (Transfer true text name) → IsRangeSent setup key content calls text name
chunk_ranges setup t key file content asked calls noted a text name s shows k e =
    let P : List Asking → Type 0 = λ xs. IsIn a xs in
    by_place (in_split a (take (questions asked) asked) (transfers asked) (subst P (sym (take-append-drop (questions asked) asked)) k))
  where
    sent : IsOfPart setup t file calls (missing_parts key setup.chunk asked) text name → IsRangeSent setup key content calls text name
    sent p = record {
      part = p.part;
      there = contained p.part (parts_of_layout key setup.chunk) (in_dropped p.part (found asked) (parts_of_layout key setup.chunk) p.there);
      keyed = p.keyed;
      bytes = p.filled ∙ ap (λ (l : List ℕ). Some l) (range_sent setup t file content calls (missing_parts key setup.chunk asked) text name shows p);
    }

    by_place : IsIn a (take (questions asked) asked) ⊎ IsIn a (transfers asked) → IsRangeSent setup key content calls text name
    by_place (inl q) = no_question 1 (keys_of_layout key setup.chunk) (take (questions asked) asked) a text name s.questions_in_order q e
    by_place (inr q) =
        sent (part_of_transfer setup t file calls (questions asked + 1) (missing_parts key setup.chunk asked) (transfers asked) a text name s.transfers_in_order
        (one_missing setup t key file asked calls noted a text name s q e) q e)

-- ---- of a whole run

pub store_asks : (task : Task) (t : TaskTurn) (setup : Setup) (layouts : List (ℕ × ℕ)) (asked : List Asking) (calls : List Call) (noted : List Noting) (answer : Answer) (key : Parts)
    → key_reading task.key ≡ Some key → task.work ≡ W.Store → is_chunked setup key ≡ true → TaskRun task t setup layouts asked calls noted answer → ChunkStoreAsks setup t key task.file asked calls noted
store_asks task t setup layouts asked calls noted answer key e work chunked r =
    let P : Option Parts → Type 0 = λ o. IfSome o (λ k. RunOf setup t task k layouts asked calls noted answer) in
    let run : RunOf setup t task key layouts asked calls noted answer = subst P e r in
    let Q : Work → Type 0 = λ w. WorkAsks setup t task key layouts w asked calls noted in
    let asks : WorkAsks setup t task key layouts W.Store asked calls noted = subst Q work run.work in
    let R : Bool → Type 0 = λ b. MatchBool b (ChunkStoreAsks setup t key task.file asked calls noted) (PlainStoreAsks key task.file asked calls × (noted ≡ [])) in
    subst R chunked asks.1

pub chunks_are_ranges : ChunksAreRanges
chunks_are_ranges task t setup layouts asked calls noted answer key content a text file e work chunked r shows there of =
    chunk_ranges setup t key task.file content asked calls noted a text file (store_asks task t setup layouts asked calls noted answer key e work chunked r) shows (is_in a asked there) of

-- the content has the size that the key says
pub content_long : (setup : Setup) (t : TaskTurn) (size : ℕ) (key : Parts) (file content : List ℕ) (asked : List Asking) (calls : List Call) (noted : List Noting) → key.size ≡ Some size → ChunkStoreAsks setup t key file asked calls noted
    → Shows file content calls → asked ≢ [] → length content ≡ size
content_long setup t size key file content asked calls noted sized s shows some = by_calls calls (s.fits some) shows.lengths
  where
    by_calls : (cs : List Call) → fits_length key (lengths_found file (take 1 cs)) ≡ true → list_all (λ n. n == length content) (lengths_found file cs) ≡ true → length content ≡ size
    by_calls [] f l = apart f
    by_calls (c ∷ cs) f l = by_length (length_found file c) f l
      where
        by_length : (o : Option ℕ) → fits_length key (cons_option o []) ≡ true → list_all (λ n. n == length content) (cons_option o (filter_map (length_found file) cs)) ≡ true → length content ≡ size
        by_length None f l = apart f
        by_length (Some n) f l =
            let P : Option ℕ → Type 0 = λ o. is_size o n ≡ true in
            let is : n ≡ size = eqb-true n size (subst P sized f) in
            let of : n ≡ length content = eqb-true n (length content) (and_parts (n == length content) (list_all (λ m. m == length content) (filter_map (length_found file) cs)) l).0 in
            sym of ∙ is
