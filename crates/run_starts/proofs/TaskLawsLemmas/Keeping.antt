-- What a get that is answered Got keeps.
use Rattle.std.proofs.Common.{◌≡◌, ◌∙◌, ◌⊎◌, inl, inr, ℕ, zero, suc, ◌+◌, ◌-◌, ◌<◌, ◌≤◌, ◌==◌, min, Bool, true, false, not, List, [], ◌∷◌, ◌++◌, length, take, drop, refl, sym, ap, subst, arith, length-append, length-drop}
use Rattle.std.specs.Prelude.{◌||◌, cond, if◌then◌else◌, nat_le, Option, Some, None, is_some, filter, map, unwrap_or, replicate, count_by}
use Rattle.std.specs.Bool.{MatchBool}
use Rattle.std.specs.List.{list_all, concat, slice_range, range_with_len}
use Rattle.std.proofs.lemmas.Bool.{and_parts, or_cases, eqb-true, eqb-false, leb-true}
use Rattle.std.proofs.lemmas.List.{length-map, length-take, length-replicate}
use Rattle.std.proofs.lemmas.List.Sums.{count_by-le-length}
use Rattle.ann_key.specs.Keys.{Parts}
use Rattle.ann_digest.specs.Fits.{HasSize, FitsKey}
use Rattle.ann_outside.specs.declared.file_desk.Call.{Call}
use Rattle.annex_model.specs.Messages.{HostMessage}
use Rattle.task_text.specs.Layouts.Layouts.{Part, layout, chunk_part, count_of}
use Rattle.task_text.proofs.LayoutsLemmas.Joined.{ranges_are_the_whole}
use Rattle.journal_model.specs.declared.answer.Answer.TheVariants as A
use Rattle.task_text.specs.declared.task.Work.{Work}
use Rattle.task_text.specs.declared.task.Work.TheVariants as W
use Rattle.task_model.specs.Askers.{Asking}
use Rattle.task_model.specs.declared.setup.Setup.{Setup}
use Rattle.task_model.specs.declared.turn.TaskTurn.{TaskTurn}
use Rattle.task_model.specs.Stops.{is_done, last_failed}
use Rattle.task_model.specs.Names.{fetch_file}
use Rattle.task_model.specs.Requests.{AskInOrder}
use Rattle.task_model.specs.Layouts.{chunk_sizes, sizes_tried, parts_of_layout, keys_of_layout}
use Rattle.task_model.specs.Reads.{lengths_found, reads_of, bytes_of}
use Rattle.task_model.specs.Gets.{lengths_at_begin, wanted, failures, item, asked_last, first_asked, parts_last, is_plain_last, held_reads, bytes_fetched, checked, is_wrong, is_read_whole, are_read_whole, wrong_lengths, IsChecked, IsFetchKept, DecidesBy, Decides, GetAnswers}
use Rattle.task_model.specs.RunLaws.{sizes_got}
use Rattle.task_model.proofs.GotLaws.{never_failed, get_fits}
use Rattle.run_starts.specs.TaskLaws.Contents.{AreFetched}
use Rattle.run_starts.specs.TaskLaws.Kept.{chunk_last, fetch_of, is_afresh, Keeps, GotKeeps}
use Rattle.run_starts.proofs.TaskLawsLemmas.WellTasks.{layout_within}
use Rattle.run_starts.proofs.TaskLawsLemmas.LastRounds.{LastAsks}
use Rattle.run_starts.proofs.TaskLawsLemmas.WantedParts.{Afresh, HasLength, asks_all, is_there, wanted_few, item_there, item-map}
use Rattle.run_starts.proofs.TaskLawsLemmas.FileContents.{fetched_are}
use Rattle.run_starts.proofs.TaskLawsLemmas.GotEnds.{GotEnds, got_ends, keys_wanted}
use Rattle.ann_key.proofs.Lists.{nil_back as nil_behind, nil_front}
use Rattle.ann_key.proofs.Booleans.{false_is_true as apart}
use Rattle.task_model.proofs.Across.{order_fits as asks_few}

-- ---- lengths

total : List Part → ℕ
total [] = 0
total (part ∷ more) = (part.to - part.from) + total more

right_length : (size : ℕ) (part : Part) (content lengths : List ℕ) (reads : List (ℕ × List ℕ)) → is_read_whole reads lengths ≡ true → list_all (λ n. n == length content) lengths ≡ true → filter (is_wrong (Some size) part) lengths ≡ []
    → length content ≡ part.to - part.from
right_length size part content [] reads some l w = apart some
right_length size part content (k ∷ ks) reads some l w = by_test (k == part.to - part.from) refl w
  where
    is : k ≡ length content
    is = eqb-true k (length content) (and_parts (k == length content) (list_all (λ n. n == length content) ks) l).0

    by_test : (b : Bool) → (k == part.to - part.from) ≡ b → cond (not b) (k ∷ filter (is_wrong (Some size) part) ks) (filter (is_wrong (Some size) part) ks) ≡ [] → length content ≡ part.to - part.from
    by_test true e w = sym is ∙ eqb-true k (part.to - part.from) e
    by_test false e w = absurd cc

contents_long : (setup : Setup) (t : TaskTurn) (size : ℕ) (calls : List Call) (n : ℕ) (asked : List Asking) (parts : List Part) (contents : List (List ℕ)) → AreFetched setup t calls n asked contents
    → length asked ≡ length parts → wrong_lengths setup t (Some size) calls n parts ≡ [] → are_read_whole setup t calls n asked ≡ true → length (concat contents) ≡ total parts
unfolding total
contents_long setup t size calls n [] [] [] f l w r = refl
contents_long setup t size calls n [] (part ∷ parts) contents f l w r = absurd (omega arith)
contents_long setup t size calls n [] [] (c ∷ contents) f l w r = absurd f
contents_long setup t size calls n (a ∷ more) [] contents f l w r = absurd (omega arith)
contents_long setup t size calls n (a ∷ more) (part ∷ parts) [] f l w r = absurd f
contents_long setup t size calls n (a ∷ more) (part ∷ parts) (content ∷ contents) f l w r =
    let whole = and_parts (is_read_whole (reads_of (fetch_file setup t n) calls) (lengths_found (fetch_file setup t n) calls)) (are_read_whole setup t calls (n + 1) more) r in
    let here : filter (is_wrong (Some size) part) (lengths_found (fetch_file setup t n) calls) ≡ [] = nil_front (filter (is_wrong (Some size) part) (lengths_found (fetch_file setup t n) calls)) (wrong_lengths setup t (Some size) calls (n + 1) parts) w in
    let later : wrong_lengths setup t (Some size) calls (n + 1) parts ≡ [] = nil_behind (filter (is_wrong (Some size) part) (lengths_found (fetch_file setup t n) calls)) (wrong_lengths setup t (Some size) calls (n + 1) parts) w in
    let one : length content ≡ part.to - part.from = right_length size part content (lengths_found (fetch_file setup t n) calls) (reads_of (fetch_file setup t n) calls) whole.0 f.0.lengths here in
    let count : length more ≡ length parts = omega arith in
    let rest : length (concat contents) ≡ total parts = contents_long setup t size calls (n + 1) more parts contents f.1 count later whole.1 in
    length-append content (concat contents) ∙ omega arith

slices_long : (content : List ℕ) (parts : List Part) → list_all (λ (p : Part). nat_le p.to (length content)) parts ≡ true → length (concat (map (λ (part : Part). slice_range content part.from part.to) parts)) ≡ total parts
unfolding total
slices_long content [] h = refl
slices_long content (part ∷ parts) h =
    let p = and_parts (nat_le part.to (length content)) (list_all (λ (p : Part). nat_le p.to (length content)) parts) h in
    let within : part.to ≤ length content = leb-true part.to (length content) p.0 in
    let left : length (drop part.from content) ≡ length content - part.from = length-drop part.from content in
    let short : length (take (part.to - part.from) (drop part.from content)) ≡ min (part.to - part.from) (length (drop part.from content)) = length-take (part.to - part.from) (drop part.from content) in
    let one : length (slice_range content part.from part.to) ≡ part.to - part.from = short ∙ omega arith in
    let rest : length (concat (map (λ (q : Part). slice_range content q.from q.to) parts)) ≡ total parts = slices_long content parts p.1 in
    length-append (slice_range content part.from part.to) (concat (map (λ (q : Part). slice_range content q.from q.to) parts)) ∙ omega arith

layout_long : (key : Parts) (size chunk : ℕ) → total (layout key size chunk) ≡ size
layout_long key size chunk =
    let content : List ℕ = replicate size 0 in
    let long : length content ≡ size = length-replicate size 0 in
    let P : ℕ → Type 0 = λ n. list_all (λ (p : Part). nat_le p.to n) (layout key size chunk) ≡ true in
    sym (slices_long content (layout key size chunk) (subst P (sym long) (layout_within key size chunk))) ∙ ap length (ranges_are_the_whole key size chunk content long) ∙ long

-- a layout has a part
pub some_part : (key : Parts) (size chunk : ℕ) → layout key size chunk ≡ [] → ⊥
unfolding total
some_part key size chunk e =
    let none : 0 ≡ size = ap total (sym e) ∙ layout_long key size chunk in
    let P : ℕ → Type 0 = λ n. layout key n chunk ≡ [] in
    by_test (chunk == 0) (subst P (sym none) e)
  where
    by_test : (b : Bool) → cond b (record { key = key; from = 0; to = 0 } ∷ []) (map (chunk_part key 0 chunk) (range_with_len 1 (count_of 0 chunk))) ≡ [] → ⊥
    by_test true h = cc
    by_test false h = cc

-- ---- what was asked

-- how it decided
pub record Decided (setup : Setup) (t : TaskTurn) (key : Parts) (sizes : List ℕ) (file : List ℕ) (asked : List Asking) (calls : List Call) : Type 0 where
  pub other : failures asked ≡ length sizes → ⊥
  pub begun : (is_plain_last sizes asked || length (lengths_at_begin file calls) == failures asked + 1) ≡ true
  pub right : wrong_lengths setup t key.size calls (first_asked asked) (parts_last key sizes (lengths_at_begin file calls) asked) ≡ []
  pub done : count_by is_done (asked_last asked) ≡ length (parts_last key sizes (lengths_at_begin file calls) asked)
  pub was : IsChecked setup t key sizes file asked calls A.Got
  pub kept : IsFetchKept setup t sizes file asked calls

pub decided : (setup : Setup) (t : TaskTurn) (key : Parts) (sizes : List ℕ) (file : List ℕ) (asked : List Asking) (calls : List Call) → GetAnswers setup t key sizes file asked calls A.Got → Decided setup t key sizes file asked calls
decided setup t key sizes file asked calls r = by_test (failures asked == length sizes) refl r.answered
  where
    Count : Type 0
    Count = count_by is_done (asked_last asked) ≡ length (parts_last key sizes (lengths_at_begin file calls) asked)

    by_wrong : (ns : List ℕ) → (failures asked == length sizes) ≡ false → wrong_lengths setup t key.size calls (first_asked asked) (parts_last key sizes (lengths_at_begin file calls) asked) ≡ ns
        → DecidesBy ns (count_by is_done (asked_last asked) ≡ length (parts_last key sizes (lengths_at_begin file calls) asked)) (IsChecked setup t key sizes file asked calls A.Got) A.Got
        → Decides setup t key sizes file asked calls A.Got → Decided setup t key sizes file asked calls
    by_wrong [] f e b d = record { other = eqb-false (failures asked) (length sizes) f; begun = d.begun; right = e; done = b.0; was = b.1; kept = d.part }
    by_wrong (n ∷ more) f e b d = absurd (let k : A.Got ≡ A.Size n = b in cc)

    by_test : (b : Bool) → (failures asked == length sizes) ≡ b → MatchBool b (last_failed asked ≡ Some A.Got) (Decides setup t key sizes file asked calls A.Got) → Decided setup t key sizes file asked calls
    by_test true f e = absurd (never_failed asked e)
    by_test false f d = by_wrong (wrong_lengths setup t key.size calls (first_asked asked) (parts_last key sizes (lengths_at_begin file calls) asked)) f refl d.by_length d

-- all parts of the last layout were asked for
record AskedAll (ask : ℕ → List ℕ → HostMessage) (key : Parts) (sizes : List ℕ) (file : List ℕ) (asked : List Asking) (calls : List Call) : Type 0 where
  parts : parts_last key sizes (lengths_at_begin file calls) asked ≡ parts_of_layout key (chunk_last sizes asked)
  in_order : AskInOrder ask (first_asked asked) (keys_of_layout key (chunk_last sizes asked)) (asked_last asked)

asked_all : (ask : ℕ → List ℕ → HostMessage) (setup : Setup) (t : TaskTurn) (key : Parts) (sizes : List ℕ) (file : List ℕ) (asked : List Asking) (calls : List Call)
    → LastAsks ask (keys_wanted key sizes (lengths_at_begin file calls)) asked → Decided setup t key sizes file asked calls
    → is_afresh sizes file asked calls ≡ true → AskedAll ask key sizes file asked calls
asked_all ask setup t key sizes file asked calls last d fresh = by_place (item_there (failures asked) sizes below)
  where
    lengths : List ℕ
    lengths = lengths_at_begin file calls

    keys_in : List Part → List Parts
    keys_in parts = map (λ (p : Part). p.key) parts

    few : failures asked ≤ length (wanted key sizes (lengths_at_begin file calls))
    few = let l : length (map (λ (parts : List Part). map (λ (p : Part). p.key) parts) (wanted key sizes (lengths_at_begin file calls))) ≡ length (wanted key sizes (lengths_at_begin file calls)) = length-map (wanted key sizes (lengths_at_begin file calls)) (λ (parts : List Part). map (λ (p : Part). p.key) parts) in omega (arith, last.few)

    below : failures asked < length sizes
    below = let w = wanted_few key sizes (lengths_at_begin file calls) in omega (arith, few, w, d.other)

    afresh : Afresh (chunk_last sizes asked) (lengths_at_begin file calls)
    afresh = or_cases (is_plain_last sizes asked) (list_all (λ n. n == 0) (lengths_at_begin file calls)) fresh

    by_place : (chunk : ℕ) × (item (failures asked) sizes ≡ Some chunk) → AskedAll ask key sizes file asked calls
    by_place (chunk, at) = by_parts (item (failures asked) (wanted key sizes (lengths_at_begin file calls))) refl (asks_all key sizes (lengths_at_begin file calls) (failures asked) afresh) there
      where
        is : chunk_last sizes asked ≡ chunk
        is = ap (λ (o : Option ℕ). unwrap_or o 0) at

        has : HasLength chunk (failures asked) (lengths_at_begin file calls)
        has = by_begin (or_cases (is_plain_last sizes asked) (length (lengths_at_begin file calls) == failures asked + 1) d.begun)
          where
            by_begin : (is_plain_last sizes asked ≡ true) ⊎ ((length (lengths_at_begin file calls) == failures asked + 1) ≡ true) → HasLength chunk (failures asked) (lengths_at_begin file calls)
            by_begin (inl e) = inl (ap (λ (k : ℕ). k == 0) (sym is) ∙ e)
            by_begin (inr e) = let n : length (lengths_at_begin file calls) ≡ failures asked + 1 = eqb-true (length (lengths_at_begin file calls)) (failures asked + 1) e in inr (omega arith)

        there : is_some (item (failures asked) (wanted key sizes (lengths_at_begin file calls))) ≡ true
        there = is_there key sizes (lengths_at_begin file calls) (failures asked) chunk few at has

        by_parts : (o : Option (List Part)) → item (failures asked) (wanted key sizes (lengths_at_begin file calls)) ≡ o → (o ≡ None) ⊎ (o ≡ Some (parts_of_layout key (chunk_last sizes asked))) → is_some o ≡ true
            → AskedAll ask key sizes file asked calls
        by_parts None e w s = apart s
        by_parts (Some ps) e (inl w) s = absurd (let k : Some ps ≡ None = w in cc)
        by_parts (Some ps) e (inr w) s =
            let all : item (failures asked) (wanted key sizes (lengths_at_begin file calls)) ≡ Some (parts_of_layout key (chunk_last sizes asked)) = e ∙ w in
            let keys : item (failures asked) (map (λ (parts : List Part). map (λ (p : Part). p.key) parts) (wanted key sizes (lengths_at_begin file calls))) ≡ Some (keys_of_layout key (chunk_last sizes asked)) =
            item-map (λ (parts : List Part). map (λ (p : Part). p.key) parts) (failures asked) (wanted key sizes (lengths_at_begin file calls)) (parts_of_layout key (chunk_last sizes asked)) all in
            let P : Option (List Parts) → Type 0 = λ x. AskInOrder ask (first_asked asked) (unwrap_or x []) (asked_last asked) in
            record { parts = ap (λ (x : Option (List Part)). unwrap_or x []) all; in_order = subst P keys last.in_order }

-- ---- what was kept

none_more : (x y : List ℕ) → length (x ++ y) ≡ length y → x ≡ []
none_more [] y e = refl
none_more (b ∷ x) y e = let l : length (b ∷ x ++ y) ≡ length (b ∷ x) + length y = length-append (b ∷ x) y in absurd (omega arith)

keeps : (work : Work) (setup : Setup) (t : TaskTurn) (key : Parts) (sizes : List ℕ) (file : List ℕ) (asked : List Asking) (calls : List Call) (contents : List (List ℕ))
    → (is_plain_last sizes asked ≡ false → is_some key.size ≡ true)
    → LastAsks (fetch_of work setup t) (keys_wanted key sizes (lengths_at_begin file calls)) asked → GetAnswers setup t key sizes file asked calls A.Got → is_afresh sizes file asked calls ≡ true
    → AreFetched setup t calls (first_asked asked) (asked_last asked) contents → Keeps work setup t key sizes file asked calls contents
keeps work setup t key sizes file asked calls contents sized a r fresh f = record {
  all = all;
  in_order = whole.in_order;
  appended_are = d.kept.moved ∙ bytes;
  checked_are = is_all;
  holds_all = λ before found. d.kept.held before found ∙ ap Some is_all;
  fits = let P : List ℕ → Type 0 = λ x. FitsKey key x in subst P is_all fits;
  renamed = d.kept.renamed;
}
  where
    d : Decided setup t key sizes file asked calls
    d = decided setup t key sizes file asked calls r

    whole : AskedAll (fetch_of work setup t) key sizes file asked calls
    whole = asked_all (fetch_of work setup t) setup t key sizes file asked calls a d fresh

    bytes : bytes_fetched setup t calls (first_asked asked) (asked_last asked) ≡ concat contents
    bytes = fetched_are setup t calls (first_asked asked) (asked_last asked) contents f d.was.fetched_whole

    fits : FitsKey key (checked setup t file sizes asked calls)
    fits = get_fits setup t key sizes file asked calls r

    keys_long : length (keys_of_layout key (chunk_last sizes asked)) ≡ length (parts_of_layout key (chunk_last sizes asked))
    keys_long = length-map (parts_of_layout key (chunk_last sizes asked)) (λ (part : Part). part.key)

    all : length (asked_last asked) ≡ length (keys_of_layout key (chunk_last sizes asked))
    all =
        let some : count_by is_done (asked_last asked) ≤ length (asked_last asked) = count_by-le-length is_done (asked_last asked) in
        let few : length (asked_last asked) ≤ length (keys_of_layout key (chunk_last sizes asked)) = asks_few (fetch_of work setup t) (first_asked asked) (keys_of_layout key (chunk_last sizes asked)) (asked_last asked) whole.in_order in
        let same : length (parts_last key sizes (lengths_at_begin file calls) asked) ≡ length (parts_of_layout key (chunk_last sizes asked)) = ap length whole.parts in
        let done : count_by is_done (asked_last asked) ≡ length (parts_last key sizes (lengths_at_begin file calls) asked) = d.done in
        let long : length (keys_of_layout key (chunk_last sizes asked)) ≡ length (parts_of_layout key (chunk_last sizes asked)) = keys_long in
        omega arith

    in_chunks : (o : Option ℕ) → key.size ≡ o → is_some o ≡ true → is_plain_last sizes asked ≡ false → bytes_of (held_reads file calls) ≡ []
    in_chunks None e s p = apart s
    in_chunks (Some size) e s p =
        let R : Option ℕ → Type 0 = λ o. wrong_lengths setup t o calls (first_asked asked) (parts_last key sizes (lengths_at_begin file calls) asked) ≡ [] in
        let Q : List Part → Type 0 = λ ps. wrong_lengths setup t (Some size) calls (first_asked asked) ps ≡ [] in
        let long : length (concat contents) ≡ total (parts_of_layout key (chunk_last sizes asked)) =
        contents_long setup t size calls (first_asked asked) (asked_last asked) (parts_of_layout key (chunk_last sizes asked)) contents f (all ∙ keys_long) (subst Q whole.parts (subst R e d.right)) d.was.fetched_whole in
        let sum : total (parts_of_layout key (chunk_last sizes asked)) ≡ size =
        ap (λ (o : Option ℕ). total (layout key (unwrap_or o 0) (chunk_last sizes asked))) e ∙ layout_long key size (chunk_last sizes asked) in
        let H : Option ℕ → Type 0 = λ o. HasSize o (length (checked setup t file sizes asked calls)) in
        let is : length (checked setup t file sizes asked calls) ≡ size = subst H e fits.size in
        let put : checked setup t file sizes asked calls ≡ bytes_of (held_reads file calls) ++ concat contents =
        ap (λ (b : Bool). (if b then [] else bytes_of (held_reads file calls)) ++ bytes_fetched setup t calls (first_asked asked) (asked_last asked)) p ∙ ap (λ (x : List ℕ). bytes_of (held_reads file calls) ++ x) bytes in
        none_more (bytes_of (held_reads file calls)) (concat contents) (sym (ap length put) ∙ is ∙ sym (long ∙ sum))

    is_all : checked setup t file sizes asked calls ≡ concat contents
    is_all = by_test (is_plain_last sizes asked) refl
      where
        by_test : (b : Bool) → is_plain_last sizes asked ≡ b → checked setup t file sizes asked calls ≡ concat contents
        by_test true p = ap (λ (b : Bool). (if b then [] else bytes_of (held_reads file calls)) ++ bytes_fetched setup t calls (first_asked asked) (asked_last asked)) p ∙ bytes
        by_test false p =
            ap (λ (b : Bool). (if b then [] else bytes_of (held_reads file calls)) ++ bytes_fetched setup t calls (first_asked asked) (asked_last asked)) p
            ∙ ap (λ (x : List ℕ). x ++ bytes_fetched setup t calls (first_asked asked) (asked_last asked)) (in_chunks key.size refl (sized p) p) ∙ bytes

sized_in_chunks : (key : Parts) (layouts : List (ℕ × ℕ)) (asked : List Asking) → is_plain_last (sizes_tried key layouts) asked ≡ false → is_some key.size ≡ true
sized_in_chunks key layouts asked p = by_size key.size p
  where
    by_size : (o : Option ℕ) → (unwrap_or (item (failures asked) (chunk_sizes o layouts ++ 0 ∷ [])) 0 == 0) ≡ false → is_some o ≡ true
    by_size (Some size) e = refl
    by_size None e = by_count (failures asked) e
      where
        by_count : (m : ℕ) → (unwrap_or (item m (0 ∷ [])) 0 == 0) ≡ false → is_some {T = ℕ} None ≡ true
        by_count zero e = apart (sym e)
        by_count (suc m) e = apart (sym e)

-- where the plain layout alone is tried it is the last
plain_is_last : {A : Type 0} (asked : List Asking) → is_plain_last (0 ∷ []) asked ≡ false → A
plain_is_last {A} asked p = by_count (failures asked) p
  where
    by_count : (m : ℕ) → (unwrap_or (item m (0 ∷ [])) 0 == 0) ≡ false → A
    by_count zero e = apart (sym e)
    by_count (suc m) e = apart (sym e)

pub got_keeps : GotKeeps
got_keeps task t setup layouts asked calls noted key contents e r fresh f =
    let g : GotEnds setup t task.work task.file key layouts asked calls = got_ends task t setup layouts asked calls noted key e r in
    keeps task.work setup t key (sizes_got task.work key layouts) task.file asked calls contents (sized_by task.work) g.asks g.answers fresh f
  where
    sized_by : (work : Work) → is_plain_last (sizes_got work key layouts) asked ≡ false → is_some key.size ≡ true
    sized_by W.XGet p = plain_is_last asked p
    sized_by _ p = sized_in_chunks key layouts asked p
