-- The chunks of a layout, one after the other.
use Rattle.std.proofs.Common.{◌≡◌, ◌∙◌, ℕ, zero, suc, ◌+◌, ◌-◌, ◌≤◌, ◌<◌, ◌^◌, List, [], ◌∷◌, ◌++◌, length, map, refl, sym, ap, subst, arith, append_assoc, append-nil, length-append}
use Rattle.std.specs.Prelude.{Option, Result, Ok, Err}
use Rattle.std.specs.List.{range_with_len}
use Rattle.std.proofs.lemmas.List.{map-append}
use Rattle.std.proofs.lemmas.List.FromFn.{map-range_with_len_more, length-map-range_with_len}
use Rattle.ann_key.specs.Keys.{Parts}
use Rattle.ann_key.specs.declared.bytes.NoMemory.{NoMemory}
use Rattle.ann_digest.specs.declared.checker.Checker.{Checker}
use Rattle.ann_outside.specs.Calls.{Log}
use Rattle.ann_outside.specs.declared.file_desk.Call.{Call}
use Rattle.task_text.specs.Layouts.Layouts.{Part, chunk_part, count_of}
use Rattle.task_model.specs.Copying.Copies.{Checks}
use Rattle.task_model.proofs.CopyingLemmas.CopyLaws.{gained_nothing, gained_more, checks_nothing, checks_more}
use Rattle.journal_model.specs.declared.answer.Answer.TheVariants as A
use Rattle.task_model.specs.Askers.{Asking}
use Rattle.task_model.specs.declared.setup.Setup.{Setup}
use Rattle.task_model.specs.declared.turn.TaskTurn.{TaskTurn}
use Rattle.task_run.specs.declared.get.get_chunk.Went.{Went}
use Rattle.task_run.specs.declared.get.get_chunk.Went.TheVariants as T
use Rattle.task_model.specs.Names.{part_of}
use Rattle.task_run.specs.Get.Fronts.{Turn, Within, Kept, Between, Ended}
use Rattle.task_run.specs.Get.LayoutRuns.{Grown, Behind, turn_at, parts_from, parts_between, PartEnd, ChunksEnd, NextDoes, ChunksRan}

-- ---- the parts

pub first_from : (key : Parts) (size chunk i : ℕ) → i < count_of size chunk → parts_from key size chunk i ≡ chunk_part key size chunk (i + 1) ∷ parts_from key size chunk (i + 1)
first_from key size chunk i there =
    let e : count_of size chunk - i ≡ suc (count_of size chunk - (i + 1)) = omega (arith, there) in
    ap (λ k. map (chunk_part key size chunk) (range_with_len (i + 1) k)) e

pub none_from : (key : Parts) (size chunk : ℕ) → parts_from key size chunk (count_of size chunk) ≡ []
none_from key size chunk =
    let e : count_of size chunk - count_of size chunk ≡ 0 = omega arith in
    ap (λ k. map (chunk_part key size chunk) (range_with_len (count_of size chunk + 1) k)) e

pub none_between : (key : Parts) (size chunk i : ℕ) → parts_between key size chunk i i ≡ []
none_between key size chunk i = let e : i - i ≡ 0 = omega arith in ap (λ k. map (chunk_part key size chunk) (range_with_len (i + 1) k)) e

between_more : (key : Parts) (size chunk i k : ℕ) → i ≤ k → parts_between key size chunk i (k + 1) ≡ parts_between key size chunk i k ++ chunk_part key size chunk (k + 1) ∷ []
between_more key size chunk i k low =
    let e : (k + 1) - i ≡ (k - i) + 1 = omega (arith, low) in
    ap (λ m. map (chunk_part key size chunk) (range_with_len (i + 1) m)) e
    ∙ map-range_with_len_more (chunk_part key size chunk) (i + 1) (k - i) (k + 1) (omega (arith, low))

range_split : (a n m : ℕ) → range_with_len a (n + m) ≡ range_with_len a n ++ range_with_len (a + n) m
range_split a zero m = let e : 0 + m ≡ m = omega arith in let f : a + 0 ≡ a = omega arith in ap (range_with_len a) e ∙ ap (λ k. range_with_len k m) (sym f)
range_split a (suc n) m =
    let e : suc n + m ≡ suc (n + m) = omega arith in
    let f : (a + 1) + n ≡ a + suc n = omega arith in
    ap (range_with_len a) e ∙ ap (λ l. a ∷ l) (range_split (a + 1) n m ∙ ap (λ k. range_with_len (a + 1) n ++ range_with_len k m) f)

pub whole_of : (key : Parts) (size chunk i k : ℕ) → i ≤ k → k ≤ count_of size chunk → parts_between key size chunk i k ++ parts_from key size chunk k ≡ parts_from key size chunk i
whole_of key size chunk i k low high =
    let e : count_of size chunk - i ≡ (k - i) + (count_of size chunk - k) = omega (arith, low, high) in
    let f : (i + 1) + (k - i) ≡ k + 1 = omega (arith, low) in
    sym (map-append (chunk_part key size chunk) (range_with_len (i + 1) (k - i)) (range_with_len (k + 1) (count_of size chunk - k)))
    ∙ ap (map (chunk_part key size chunk)) (ap (λ m. range_with_len (i + 1) (k - i) ++ range_with_len m (count_of size chunk - k)) (sym f)
    ∙ sym (range_split (i + 1) (k - i) (count_of size chunk - k)) ∙ ap (range_with_len (i + 1)) (sym e))

pub from_length : (key : Parts) (size chunk i : ℕ) → length (parts_from key size chunk i) ≡ count_of size chunk - i
from_length key size chunk i = length-map-range_with_len (chunk_part key size chunk) (i + 1) (count_of size chunk - i)

-- ---- how far they are

abbrev pub Stands : Turn → List Part → List Part → List Part → List Call → List (ℕ × List ℕ) → Checker → Checker → List Asking → List Call → Type 0
Stands u all got left calls reads before after asked made =
    Within u [] [] all calls → Kept u [] [] all calls reads []
    → (bytes : List ℕ) × Within u asked got left (calls ++ made) × Kept u asked got left (calls ++ made) reads bytes × Checks before after bytes

pub record SoFar (setup : Setup) (t : TaskTurn) (key : Parts) (size chunk held i : ℕ) (part : List ℕ) (first now : ℕ) (pairs later : List Asking) (old new : Option Log) (before after : Checker) : Type 0 where
  pub grown : Grown pairs later old new
  pub counted : now ≡ first + length grown.asked
  pub as_many : length grown.asked ≡ i - held
  pub stands : (file : List ℕ) (b : Behind) (calls : List Call) (reads : List (ℕ × List ℕ)) → part ≡ part_of file → first ≡ length b.past
      → Stands (turn_at setup t key file chunk b) (parts_from key size chunk held) (parts_between key size chunk held i) (parts_from key size chunk i) calls reads before after grown.asked grown.made

pub so_far_none : (setup : Setup) (t : TaskTurn) (key : Parts) (size chunk held : ℕ) (part : List ℕ) (first : ℕ) (pairs : List Asking) (log : Option Log) (checker : Checker)
    → SoFar setup t key size chunk held held part first first pairs pairs log log checker checker
so_far_none setup t key size chunk held part first pairs log checker = record {
  grown = record { asked = []; made = []; pairs_are = sym (append-nil pairs); log_is = gained_nothing log };
  counted = omega arith;
  as_many = omega arith;
  stands = λ file b calls reads p n w k.
      let u = turn_at setup t key file chunk b in
      let P : List Part → Type 0 = λ g. (bytes : List ℕ) × Within u [] g (parts_from key size chunk held) (calls ++ []) × Kept u [] g (parts_from key size chunk held) (calls ++ []) reads bytes × Checks checker checker bytes in
      let Q : List Call → Type 0 = λ l. (bytes : List ℕ) × Within u [] [] (parts_from key size chunk held) l × Kept u [] [] (parts_from key size chunk held) l reads bytes × Checks checker checker bytes in
      subst P (sym (none_between key size chunk held)) (subst Q (sym (append-nil calls)) ([], w, k, checks_nothing checker));
}

abbrev pub both_grown : (a b d : List Asking) (x y z : Option Log) → Grown a b x y → Grown b d y z → Grown a d x z
both_grown a b d x y z g h = record {
  asked = g.asked ++ h.asked;
  made = g.made ++ h.made;
  pairs_are = h.pairs_are ∙ ap (λ l. l ++ h.asked) g.pairs_are ∙ append_assoc a g.asked h.asked;
  log_is = gained_more x y z g.made h.made g.log_is h.log_is;
}

-- the state that the next chunk is asked for in, and what comes of it
stepped : (setup : Setup) (t : TaskTurn) (key : Parts) (size chunk held i : ℕ) (part : List ℕ) (first now : ℕ) (pairs mid : List Asking) (old on : Option Log) (before between after : Checker)
    (asked : List Asking) (made : List Call) (result : Result Went NoMemory)
    → (s : SoFar setup t key size chunk held i part first now pairs mid old on before between) → held ≤ i → i < count_of size chunk → first + count_of size chunk < 2 ^ 64
    → NextDoes setup t key size chunk i part now between after asked made result
    → (file : List ℕ) (b : Behind) (calls : List Call) (reads : List (ℕ × List ℕ)) → part ≡ part_of file → first ≡ length b.past
    → Within (turn_at setup t key file chunk b) [] [] (parts_from key size chunk held) calls
    → Kept (turn_at setup t key file chunk b) [] [] (parts_from key size chunk held) calls reads []
    → (bytes : List ℕ) × Checks before between bytes × PartEnd (turn_at setup t key file chunk b) s.grown.asked (parts_between key size chunk held i) (parts_from key size chunk (i + 1)) (chunk_part key size chunk (i + 1))
    (calls ++ s.grown.made) reads bytes between after asked made result
stepped setup t key size chunk held i part first now pairs mid old on before between after asked made result s low there few next file b calls reads p n w k =
    let u = turn_at setup t key file chunk b in
    let st = s.stands file b calls reads p n w k in
    let e = first_from key size chunk i there in
    let P : List Part → Type 0 = λ l. Within u s.grown.asked (parts_between key size chunk held i) l (calls ++ s.grown.made) in
    let Q : List Part → Type 0 = λ l. Kept u s.grown.asked (parts_between key size chunk held i) l (calls ++ s.grown.made) reads st.0 in
    let c = s.counted in
    let m = s.as_many in
    let l = from_length key size chunk (i + 1) in (
      st.0,
      st.3,
      next file b s.grown.asked (parts_between key size chunk held i) (parts_from key size chunk (i + 1)) (calls ++ s.grown.made) reads st.0 p (omega (arith, c, n)) (omega (arith, c, m, l, low, there, few))
          (subst P e st.1) (subst Q e st.2),
    )

pub so_far_more : (setup : Setup) (t : TaskTurn) (key : Parts) (size chunk held i : ℕ) (part : List ℕ) (first now : ℕ) (pairs mid later : List Asking) (old on new : Option Log) (before between after : Checker)
    → SoFar setup t key size chunk held i part first now pairs mid old on before between → held ≤ i → i < count_of size chunk → first + count_of size chunk < 2 ^ 64
    → (g : Grown mid later on new) → length g.asked ≡ 1 → NextDoes setup t key size chunk i part now between after g.asked g.made (Ok T.Whole)
    → SoFar setup t key size chunk held (i + 1) part first (now + 1) pairs later old new before after
so_far_more setup t key size chunk held i part first now pairs mid later old on new before between after s low there few g one next = record {
  grown = both_grown pairs mid later old on new s.grown g;
  counted = let a : length (s.grown.asked ++ g.asked) ≡ length s.grown.asked + length g.asked = length-append s.grown.asked g.asked in let c = s.counted in omega (arith, a, c, one);
  as_many = let a : length (s.grown.asked ++ g.asked) ≡ length s.grown.asked + length g.asked = length-append s.grown.asked g.asked in let c = s.as_many in omega (arith, a, c, one, low);
  stands = λ file b calls reads p n w k.
      let u = turn_at setup t key file chunk b in
      let r = stepped setup t key size chunk held i part first now pairs mid old on before between after g.asked g.made (Ok T.Whole) s low there few next file b calls reads p n w k in
      let e = r.2 in
      let bytes : List ℕ = r.0 ++ e.0 in
      let P : List Part → Type 0 = λ l. (bytes : List ℕ) × Within u (s.grown.asked ++ g.asked) l (parts_from key size chunk (i + 1)) (calls ++ (s.grown.made ++ g.made))
      × Kept u (s.grown.asked ++ g.asked) l (parts_from key size chunk (i + 1)) (calls ++ (s.grown.made ++ g.made)) reads bytes × Checks before after bytes in
      let Q : List Call → Type 0 = λ l. (bytes : List ℕ) × Within u (s.grown.asked ++ g.asked) (parts_between key size chunk held i ++ chunk_part key size chunk (i + 1) ∷ []) (parts_from key size chunk (i + 1)) l
      × Kept u (s.grown.asked ++ g.asked) (parts_between key size chunk held i ++ chunk_part key size chunk (i + 1) ∷ []) (parts_from key size chunk (i + 1)) l reads bytes × Checks before after bytes in
      subst P (sym (between_more key size chunk held i low)) (subst Q (append_assoc calls s.grown.made g.made)
      (bytes, e.1, e.2, checks_more before between after r.0 e.0 r.1 e.3));
}

-- ---- how they end

pub chunks_whole : (setup : Setup) (t : TaskTurn) (key : Parts) (size chunk held : ℕ) (part : List ℕ) (first now : ℕ) (pairs later : List Asking) (old new : Option Log) (before after : Checker)
    → SoFar setup t key size chunk held (count_of size chunk) part first now pairs later old new before after
    → ChunksRan setup t key size chunk held part first now pairs later old new before after (Ok T.Whole)
chunks_whole setup t key size chunk held part first now pairs later old new before after s = record {
  grown = s.grown;
  goes = λ file b calls reads p n w k.
      let u = turn_at setup t key file chunk b in
      let st = s.stands file b calls reads p n w k in
      let P : List Part → Type 0 = λ l. (bytes : List ℕ) × Within u s.grown.asked (parts_from key size chunk held) l (calls ++ s.grown.made) × Kept u s.grown.asked (parts_from key size chunk held) l (calls ++ s.grown.made) reads bytes × Checks before after bytes in
      subst P (none_from key size chunk) st;
  counted = λ e. s.counted;
}

-- of one that is not whole
ends_all : (u : Turn) (cur : List Asking) (got left all : List Part) (part : Part) (calls made_before : List Call) (reads : List (ℕ × List ℕ)) (bytes : List ℕ) (first before after : Checker) (asked : List Asking) (made : List Call) (result : Result Went NoMemory)
    → got ++ part ∷ left ≡ all → (result ≡ Ok T.Whole → ⊥)
    → PartEnd u cur got left part (calls ++ made_before) reads bytes before after asked made result
    → ChunksEnd u all calls reads first after (cur ++ asked) (made_before ++ made) result
ends_all u cur got left all part calls made_before reads bytes first before after asked made (Ok T.Whole) e bad h = absurd (bad refl)
ends_all u cur got left all part calls made_before reads bytes first before after asked made (Ok T.Failed) e bad h =
    let P : List Part → Type 0 = λ l. Between u.place (u.past ++ (cur ++ asked)) (u.done ++ l ∷ []) (u.tried ++ u.chunk ∷ []) u.rest (calls ++ (made_before ++ made)) in
    let Q : List Call → Type 0 = λ l. Between u.place (u.past ++ (cur ++ asked)) (u.done ++ (got ++ part ∷ left) ∷ []) (u.tried ++ u.chunk ∷ []) u.rest l in
    subst P e (subst Q (append_assoc calls made_before made) h.0)
ends_all u cur got left all part calls made_before reads bytes first before after asked made (Ok (T.Over answer)) e bad h =
    let Q : List Call → Type 0 = λ l. Ended u.place (u.past ++ (cur ++ asked)) l answer in subst Q (append_assoc calls made_before made) h
ends_all u cur got left all part calls made_before reads bytes first before after asked made (Err x) e bad h =
    let Q : List Call → Type 0 = λ l. Ended u.place (u.past ++ (cur ++ asked)) l A.Memory in subst Q (append_assoc calls made_before made) h

-- what is over isn't whole
pub chunks_ended : (setup : Setup) (t : TaskTurn) (key : Parts) (size chunk held i : ℕ) (part : List ℕ) (first now : ℕ) (pairs mid later : List Asking) (old on new : Option Log) (before between after : Checker) (result : Result Went NoMemory)
    → SoFar setup t key size chunk held i part first now pairs mid old on before between → held ≤ i → i < count_of size chunk → first + count_of size chunk < 2 ^ 64
    → (g : Grown mid later on new) → (result ≡ Ok T.Failed → length g.asked ≡ 1) → (result ≡ Ok T.Whole → ⊥) → NextDoes setup t key size chunk i part now between after g.asked g.made result
    → ChunksRan setup t key size chunk held part first (now + 1) pairs later old new before after result
chunks_ended setup t key size chunk held i part first now pairs mid later old on new before between after result s low there few g one bad next = record {
  grown = both_grown pairs mid later old on new s.grown g;
  goes = λ file b calls reads p n w k.
      let u = turn_at setup t key file chunk b in
      let r = stepped setup t key size chunk held i part first now pairs mid old on before between after g.asked g.made result s low there few next file b calls reads p n w k in
      let all : parts_between key size chunk held i ++ chunk_part key size chunk (i + 1) ∷ parts_from key size chunk (i + 1) ≡ parts_from key size chunk held =
      ap (λ l. parts_between key size chunk held i ++ l) (sym (first_from key size chunk i there)) ∙ whole_of key size chunk held i low (omega (arith, there)) in
      ends_all u s.grown.asked (parts_between key size chunk held i) (parts_from key size chunk (i + 1)) (parts_from key size chunk held) (chunk_part key size chunk (i + 1)) calls s.grown.made reads r.0
      before between after g.asked g.made result all bad r.2;
  counted = λ e. let a : length (s.grown.asked ++ g.asked) ≡ length s.grown.asked + length g.asked = length-append s.grown.asked g.asked in let c = s.counted in let o = one e in omega (arith, a, c, o);
}
