-- How a get is answered after its last layout's requests.
use Rattle.std.proofs.Common.{◌≡◌, ◌∙◌, ℕ, ◌+◌, ◌==◌, Bool, true, false, not, List, [], ◌∷◌, ◌++◌, length, refl, sym, ap, subst, arith, length-append}
use Rattle.std.specs.Prelude.{◌||◌, if◌then◌else◌, Option, Some, unwrap_or, count_by}
use Rattle.std.specs.Bool.{MatchBool}
use Rattle.std.specs.List.{list_all}
use Rattle.std.proofs.lemmas.Bool.{ne_eqb}
use Rattle.ann_key.specs.Keys.{Parts}
use Rattle.task_text.specs.Layouts.Layouts.{Part}
use Rattle.ann_outside.specs.declared.file_desk.Call.{Call}
use Rattle.journal_model.specs.declared.answer.Answer.{Answer}
use Rattle.journal_model.specs.declared.answer.Answer.TheVariants as A
use Rattle.task_model.specs.Askers.{Asking}
use Rattle.task_model.specs.Stops.{is_done, last_failed}
use Rattle.task_model.specs.Names.{part_of}
use Rattle.task_model.specs.Reads.{is_reading, is_removed, is_last, is_renaming, appended, bytes_of, holds, are_found_so}
use Rattle.task_model.specs.Gets.{lengths_at_begin, wanted, is_failed, failures, asked_last, first_asked, item, parts_last, is_plain_last, end_held, since_begin, held_reads, bytes_fetched, checked, are_read_whole, wrong_lengths, fit_in, is_got, IsSaid, IsChecked, IsFetchKept, DecidesBy, Decides, GetAnswers}
use Rattle.task_run.specs.Get.Fronts.{Turn, first_in, Tried, begin_of}
use Rattle.task_run.proofs.GetLemmas.AskLaws.{item_behind}
use Rattle.task_run.proofs.GetLemmas.GetFronts.{first_is, parts_are, failures_are}

-- the layout that is tried last
pub record Last (u : Turn) (next : List Asking) (parts : List Part) (calls : List Call) : Type 0 where
  pub tries : Tried u.place u.past u.done u.tried (u.chunk ∷ u.rest)
  pub none : list_all (λ a. not (is_failed a)) next ≡ true
  pub wants : wanted u.place.key u.place.sizes (lengths_at_begin u.place.file calls) ≡ u.done ++ parts ∷ wanted u.place.key u.rest []
  pub begun : ((u.chunk == 0) || length (lengths_at_begin u.place.file calls) == length u.done + 1) ≡ true

plain_is : (u : Turn) (next : List Asking) (parts : List Part) (calls : List Call) → Last u next parts calls → is_plain_last u.place.sizes (u.past ++ next) ≡ (u.chunk == 0)
plain_is u next parts calls l =
    ap (λ (k : ℕ). unwrap_or (item k u.place.sizes) 0 == 0) (failures_are u.place u.past next u.done u.tried (u.chunk ∷ u.rest) l.tries l.none ∙ sym l.tries.each_done)
    ∙ ap (λ (s : List ℕ). unwrap_or (item (length u.tried) s) 0 == 0) l.tries.sizes_are
    ∙ ap (λ (o : Option ℕ). unwrap_or o 0 == 0) (item_behind u.tried (u.chunk ∷ u.rest))

parts_of_last : (u : Turn) (next : List Asking) (parts : List Part) (calls : List Call) → Last u next parts calls
    → parts_last u.place.key u.place.sizes (lengths_at_begin u.place.file calls) (u.past ++ next) ≡ parts
parts_of_last u next parts calls l = parts_are u.place u.past next u.done (parts ∷ wanted u.place.key u.rest []) u.tried (u.chunk ∷ u.rest) (lengths_at_begin u.place.file calls) l.tries l.none l.wants

first_of_last : (u : Turn) (next : List Asking) (parts : List Part) (calls : List Call) → Last u next parts calls → first_asked (u.past ++ next) ≡ first_in u
first_of_last u next parts calls l = first_is u.place u.past next u.done u.tried (u.chunk ∷ u.rest) l.tries l.none

wrongs_of : (u : Turn) (next : List Asking) (parts : List Part) (calls : List Call) → Last u next parts calls
    → wrong_lengths u.place.setup u.place.turn u.place.key.size calls (first_asked (u.past ++ next)) (parts_last u.place.key u.place.sizes (lengths_at_begin u.place.file calls) (u.past ++ next))
    ≡ wrong_lengths u.place.setup u.place.turn u.place.key.size calls (first_in u) parts
wrongs_of u next parts calls l =
    ap (λ (n : ℕ). wrong_lengths u.place.setup u.place.turn u.place.key.size calls n (parts_last u.place.key u.place.sizes (lengths_at_begin u.place.file calls) (u.past ++ next))) (first_of_last u next parts calls l)
    ∙ ap (λ (ps : List Part). wrong_lengths u.place.setup u.place.turn u.place.key.size calls (first_in u) ps) (parts_of_last u next parts calls l)

begun_of : (u : Turn) (next : List Asking) (parts : List Part) (calls : List Call) → Last u next parts calls
    → (is_plain_last u.place.sizes (u.past ++ next) || length (lengths_at_begin u.place.file calls) == failures (u.past ++ next) + 1) ≡ true
begun_of u next parts calls l =
    ap (λ (b : Bool). b || length (lengths_at_begin u.place.file calls) == failures (u.past ++ next) + 1) (plain_is u next parts calls l)
    ∙ ap (λ (k : ℕ). (u.chunk == 0) || length (lengths_at_begin u.place.file calls) == k + 1) (failures_are u.place u.past next u.done u.tried (u.chunk ∷ u.rest) l.tries l.none)
    ∙ l.begun

answers_of : (u : Turn) (next : List Asking) (parts : List Part) (calls : List Call) (answer : Answer) → Last u next parts calls
    → Decides u.place.setup u.place.turn u.place.key u.place.sizes u.place.file (u.past ++ next) calls answer
    → GetAnswers u.place.setup u.place.turn u.place.key u.place.sizes u.place.file (u.past ++ next) calls answer
answers_of u next parts calls answer l d = record {
  answered =
      let f : failures (u.past ++ next) ≡ length u.done = failures_are u.place u.past next u.done u.tried (u.chunk ∷ u.rest) l.tries l.none in
      let s : length u.place.sizes ≡ length u.tried + length (u.chunk ∷ u.rest) = ap length l.tries.sizes_are ∙ length-append u.tried (u.chunk ∷ u.rest) in
      let e : (failures (u.past ++ next) == length u.place.sizes) ≡ false = ne_eqb (failures (u.past ++ next)) (length u.place.sizes) (λ e. let d = l.tries.each_done in omega (arith, e, f, s, d)) in
      let P : Bool → Type 0 = λ b. MatchBool b (last_failed (u.past ++ next) ≡ Some answer) (Decides u.place.setup u.place.turn u.place.key u.place.sizes u.place.file (u.past ++ next) calls answer) in
      subst P (sym e) d;
}

-- a fetched file was of a wrong length
pub answers_misfit : (u : Turn) (next : List Asking) (parts : List Part) (calls : List Call) (m : ℕ) → Last u next parts calls
    → wrong_lengths u.place.setup u.place.turn u.place.key.size calls (first_in u) parts ≡ m ∷ [] → is_removed (part_of u.place.file) calls ≡ true
    → GetAnswers u.place.setup u.place.turn u.place.key u.place.sizes u.place.file (u.past ++ next) calls (A.Size m)
answers_misfit u next parts calls m l wrong removed =
    answers_of u next parts calls (A.Size m) l (record {
      begun = begun_of u next parts calls l;
      by_length =
          let P : List ℕ → Type 0 = λ ns. DecidesBy ns
          (count_by is_done (asked_last (u.past ++ next)) ≡ length (parts_last u.place.key u.place.sizes (lengths_at_begin u.place.file calls) (u.past ++ next)))
          (IsChecked u.place.setup u.place.turn u.place.key u.place.sizes u.place.file (u.past ++ next) calls (A.Size m)) (A.Size m) in
          subst P (sym (wrongs_of u next parts calls l ∙ wrong)) refl;
      part = removed;
    })

end_is : (key : Parts) (sizes lengths : List ℕ) (asked : List Asking) (parts : List Part) → parts_last key sizes lengths asked ≡ parts → end_held key sizes lengths asked ≡ begin_of key parts
end_is key sizes lengths asked [] e = rw e refl
end_is key sizes lengths asked (part ∷ more) e = rw e refl

-- what is so of part where it becomes the file
pub record Becomes (u : Turn) (next : List Asking) (calls : List Call) : Type 0 where
  pub moved : appended (part_of u.place.file) (since_begin u.place.file calls) ≡ bytes_fetched u.place.setup u.place.turn calls (first_in u) next
  pub content : (before : List ℕ) → are_found_so (part_of u.place.file) (Some before) calls ≡ true
      → holds (part_of u.place.file) (Some before) calls ≡ Some ((if u.chunk == 0 then [] else bytes_of (held_reads u.place.file calls)) ++ bytes_fetched u.place.setup u.place.turn calls (first_in u) next)
  pub renamed : is_last (is_renaming (part_of u.place.file) u.place.file) calls ≡ true

-- all that was wanted is there, and this is said of it
pub answers_said : (u : Turn) (next : List Asking) (parts : List Part) (calls : List Call) (answer : Answer) → Last u next parts calls
    → wrong_lengths u.place.setup u.place.turn u.place.key.size calls (first_in u) parts ≡ [] → count_by is_done next ≡ length parts
    → IsSaid u.place.key ((if u.chunk == 0 then [] else bytes_of (held_reads u.place.file calls)) ++ bytes_fetched u.place.setup u.place.turn calls (first_in u) next) (fit_in answer)
    → ((u.chunk == 0) || is_reading 0 (begin_of u.place.key parts) (held_reads u.place.file calls)) ≡ true
    → are_read_whole u.place.setup u.place.turn calls (first_in u) next ≡ true
    → MatchBool (is_got answer) (Becomes u next calls) (is_removed (part_of u.place.file) calls ≡ true)
    → GetAnswers u.place.setup u.place.turn u.place.key u.place.sizes u.place.file (u.past ++ next) calls answer
answers_said u next parts calls answer l none count said held whole part =
    answers_of u next parts calls answer l (record {
      begun = begun_of u next parts calls l;
      by_length =
          let P : List ℕ → Type 0 = λ ns. DecidesBy ns
          (count_by is_done (asked_last (u.past ++ next)) ≡ length (parts_last u.place.key u.place.sizes (lengths_at_begin u.place.file calls) (u.past ++ next)))
          (IsChecked u.place.setup u.place.turn u.place.key u.place.sizes u.place.file (u.past ++ next) calls answer) answer in
          subst P (sym (wrongs_of u next parts calls l ∙ none))
          (ap (count_by is_done) last ∙ count ∙ sym (ap length (parts_of_last u next parts calls l)), is_checked);
      part = by_test (is_got answer) part;
    })
  where
    last : asked_last (u.past ++ next) ≡ next
    last = l.tries.last next l.none

    bytes : bytes_fetched u.place.setup u.place.turn calls (first_asked (u.past ++ next)) (asked_last (u.past ++ next)) ≡ bytes_fetched u.place.setup u.place.turn calls (first_in u) next
    bytes =
        ap (λ (n : ℕ). bytes_fetched u.place.setup u.place.turn calls n (asked_last (u.past ++ next))) (first_of_last u next parts calls l)
        ∙ ap (λ (x : List Asking). bytes_fetched u.place.setup u.place.turn calls (first_in u) x) last

    all : checked u.place.setup u.place.turn u.place.file u.place.sizes (u.past ++ next) calls
        ≡ (if u.chunk == 0 then [] else bytes_of (held_reads u.place.file calls)) ++ bytes_fetched u.place.setup u.place.turn calls (first_in u) next
    all =
        ap (λ (b : Bool). (if b then [] else bytes_of (held_reads u.place.file calls)) ++ bytes_fetched u.place.setup u.place.turn calls (first_asked (u.past ++ next)) (asked_last (u.past ++ next))) (plain_is u next parts calls l)
        ∙ ap (λ (x : List ℕ). (if u.chunk == 0 then [] else bytes_of (held_reads u.place.file calls)) ++ x) bytes

    is_checked : IsChecked u.place.setup u.place.turn u.place.key u.place.sizes u.place.file (u.past ++ next) calls answer
    is_checked = record {
      said = let Q : List ℕ → Type 0 = λ x. IsSaid u.place.key x (fit_in answer) in subst Q (sym all) said;
      held_whole =
          ap (λ (b : Bool). b || is_reading 0 (end_held u.place.key u.place.sizes (lengths_at_begin u.place.file calls) (u.past ++ next)) (held_reads u.place.file calls)) (plain_is u next parts calls l)
          ∙ ap (λ (k : ℕ). (u.chunk == 0) || is_reading 0 k (held_reads u.place.file calls)) (end_is u.place.key u.place.sizes (lengths_at_begin u.place.file calls) (u.past ++ next) parts (parts_of_last u next parts calls l))
          ∙ held;
      fetched_whole =
          ap (λ (n : ℕ). are_read_whole u.place.setup u.place.turn calls n (asked_last (u.past ++ next))) (first_of_last u next parts calls l)
          ∙ ap (λ (x : List Asking). are_read_whole u.place.setup u.place.turn calls (first_in u) x) last ∙ whole;
    }

    by_test : (b : Bool)
        → MatchBool b (Becomes u next calls) (is_removed (part_of u.place.file) calls ≡ true)
        → MatchBool b (IsFetchKept u.place.setup u.place.turn u.place.sizes u.place.file (u.past ++ next) calls) (is_removed (part_of u.place.file) calls ≡ true)
    by_test true k = record { moved = k.moved ∙ sym bytes; held = λ before found. k.content before found ∙ ap Some (sym all); renamed = k.renamed }
    by_test false k = k
