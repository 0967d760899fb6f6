-- A get within a layout: a part more that is asked for, and the calls that fetch it.
use Rattle.std.proofs.Common.{◌≡◌, ◌∙◌, ℕ, ◌+◌, ◌-◌, ◌<◌, ◌^◌, true, not, List, [], ◌∷◌, ◌++◌, length, map, take, refl, sym, ap, subst, arith, append_assoc, append-nil, length-append}
use Rattle.std.specs.Prelude.{◌&&◌, filter, Option, Some, None, is_none, is_some}
use Rattle.std.specs.List.{list_all, filter_map}
use Rattle.std.proofs.lemmas.List.{map-append, take-append-le}
use Rattle.std.proofs.Math.Seq.{take-append_seam}
use Rattle.ann_key.specs.Keys.{Parts}
use Rattle.task_text.specs.Layouts.Layouts.{Part}
use Rattle.annex_model.specs.Messages.{HostMessage}
use Rattle.journal_model.specs.declared.verdict.Verdict.{Verdict}
use Rattle.journal_model.specs.declared.verdict.Verdict.TheVariants as V
use Rattle.ann_outside.specs.declared.file_desk.Call.{Call}
use Rattle.task_model.specs.Askers.{Asking}
use Rattle.task_model.specs.Stops.{is_done, call_stop, all_but_last}
use Rattle.task_model.specs.Names.{part_of, fetch_files}
use Rattle.task_model.specs.Requests.{AsksFor, AskInOrder, rounds, RoundsAsk}
use Rattle.task_model.specs.Reads.{length_or_none, lengths_found, reads_of, bytes_of, is_run, is_known, appended, holds}
use Rattle.task_model.specs.Discipline.{are_found}
use Rattle.task_model.specs.Gets.{fetch_request, begins, lengths_at_begin, wanted, is_failed, held_reads, are_read, is_read_whole, are_read_whole, bytes_fetched, wrong_lengths, is_wrong, GetAsks}
use Rattle.task_model.specs.TaskCalls.{fetched_files}
use Rattle.task_run.specs.Get.Fronts.{Place, Turn, first_in, fetch_at, keys_in, is_calm, is_apart, Sound, are_free, Within, Kept}
use Rattle.task_model.proofs.HeldLaws.{is_growing, told, holds_more, so_front, holds_grown}
use Rattle.task_run.proofs.GetLemmas.AskLaws.{asks_done, asks_last}
use Rattle.task_model.proofs.GetCallsLaws.{Fair, found_more}
use Rattle.task_model.proofs.Lists.{but_last, all_taken}
use Rattle.task_run.proofs.GetLemmas.ReadLaws.{Apart, Sub, sub_cons, sub_front, sub_behind, names_sub, changes_sub, sizes_sub, fetch_files_more, fetched_files_more, reads_behind, lengths_behind, same_read, same_bytes, same_whole, same_wrong, read_more, bytes_more, whole_more, wrong_more, wrong_taken, begin_lengths, held_more, held_run, appended_more}
use Rattle.task_run.proofs.GetLemmas.GetFronts.{asks_of, Fore}
use Rattle.ann_key.proofs.Booleans.{false_is_true as apart}
use Rattle.ann_key.proofs.Lists.{all_more as list_all-append, weaken}

-- ---- verdicts

done_not_failed : (a : Asking) → is_done a ≡ true → not (is_failed a) ≡ true
done_not_failed a h = of a.request a.verdict h
  where
    of : (request : Option HostMessage) (v : Verdict) → is_done (record { request = request; name = None; verdict = v }) ≡ true → not (is_failed (record { request = request; name = None; verdict = v })) ≡ true
    of request (V.Done at) h = refl
    of request (V.Failed at) h = apart h
    of request (V.Absent at) h = apart h
    of request (V.Unknown at) h = apart h
    of request (V.Unsupported at) h = apart h
    of request (V.Ended why) h = apart h
    of request V.Unsent h = apart h

done_calm : (a : Asking) → is_done a ≡ true → is_calm a ≡ true
done_calm a h = rw h refl

pub none_failed : (cur : List Asking) → list_all is_done cur ≡ true → list_all (λ a. not (is_failed a)) cur ≡ true
none_failed cur h = weaken is_done (λ a. not (is_failed a)) cur done_not_failed h

all_calm : (past cur : List Asking) → list_all is_calm past ≡ true → list_all is_done cur ≡ true → list_all is_calm (past ++ cur) ≡ true
all_calm past cur h d = list_all-append is_calm past cur h (weaken is_done is_calm cur done_calm d)

-- ---- the calls of one fetch

-- calls that fetch for request n, after others
pub record Segment (p : Place) (n : ℕ) (front seg : List Call) : Type 0 where
  pub fair : Fair p.file (fetch_at p n) seg
  pub found : are_found (part_of p.file) front seg ≡ true
  pub others : (m : ℕ) → m < 2 ^ 64 → (m ≡ n → ⊥) → list_all (is_apart (fetch_at p m)) seg ≡ true

more_names : (p : Place) (asked : List Asking) (x : Asking) → Sub (fetch_files p.setup p.turn (length asked)) (fetch_files p.setup p.turn (length (asked ++ x ∷ [])))
more_names p asked x =
    let e : length (asked ++ x ∷ []) ≡ length asked + 1 = length-append asked (x ∷ []) in
    let P : List (List ℕ) → Type 0 = λ l. Sub (fetch_files p.setup p.turn (length asked)) l in
    subst P (sym (ap (fetch_files p.setup p.turn) e ∙ fetch_files_more p.setup p.turn (length asked))) (sub_front (fetch_files p.setup p.turn (length asked)) (fetch_at p (length asked + 1) ∷ []))

sub_two : (a b : List ℕ) (xs ys : List (List ℕ)) → Sub xs ys → Sub (a ∷ b ∷ xs) (a ∷ b ∷ ys)
sub_two a b xs ys s = sub_cons a (b ∷ xs) (b ∷ ys) (sub_cons b xs ys s)

own_name : (p : Place) (asked : List Asking) (x : Asking) → Sub (fetch_at p (length asked + 1) ∷ []) (fetch_files p.setup p.turn (length (asked ++ x ∷ [])))
own_name p asked x =
    let e : length (asked ++ x ∷ []) ≡ length asked + 1 = length-append asked (x ∷ []) in
    let P : List (List ℕ) → Type 0 = λ l. Sub (fetch_at p (length asked + 1) ∷ []) l in
    subst P (sym (ap (fetch_files p.setup p.turn) e ∙ fetch_files_more p.setup p.turn (length asked))) (sub_behind (fetch_files p.setup p.turn (length asked)) (fetch_at p (length asked + 1) ∷ []))

more_fetched : (p : Place) (asked : List Asking) (x : Asking) → Sub (fetched_files p.setup p.turn 1 asked) (fetched_files p.setup p.turn 1 (asked ++ x ∷ []))
more_fetched p asked x =
    let P : List (List ℕ) → Type 0 = λ l. Sub (fetched_files p.setup p.turn 1 asked) l in
    subst P (sym (fetched_files_more p.setup p.turn 1 asked x)) (sub_front (fetched_files p.setup p.turn 1 asked) (fetched_files p.setup p.turn (1 + length asked) (x ∷ [])))

own_fetched : (p : Place) (asked : List Asking) (x : Asking) → is_done x ≡ true → Sub (fetch_at p (length asked + 1) ∷ []) (fetched_files p.setup p.turn 1 (asked ++ x ∷ []))
own_fetched p asked x d =
    let n : 1 + length asked ≡ length asked + 1 = omega arith in
    let e : fetched_files p.setup p.turn (1 + length asked) (x ∷ []) ≡ fetch_at p (length asked + 1) ∷ [] = ap (λ k. fetched_files p.setup p.turn k (x ∷ [])) n ∙ rw d refl in
    let P : List (List ℕ) → Type 0 = λ l. Sub (fetch_at p (length asked + 1) ∷ []) l in
    subst P (sym (fetched_files_more p.setup p.turn 1 asked x ∙ ap (λ l. fetched_files p.setup p.turn 1 asked ++ l) e))
    (sub_behind (fetched_files p.setup p.turn 1 asked) (fetch_at p (length asked + 1) ∷ []))

pub sound_asked : (p : Place) (asked : List Asking) (x : Asking) (calls : List Call) → Sound p asked calls → length asked + 1 < 2 ^ 64 → Sound p (asked ++ x ∷ []) calls
sound_asked p asked x calls s few = record {
  names = names_sub (p.file ∷ part_of p.file ∷ fetch_files p.setup p.turn (length asked)) (p.file ∷ part_of p.file ∷ fetch_files p.setup p.turn (length (asked ++ x ∷ []))) calls
      (sub_two p.file (part_of p.file) (fetch_files p.setup p.turn (length asked)) (fetch_files p.setup p.turn (length (asked ++ x ∷ []))) (more_names p asked x)) s.names;
  changes = changes_sub p.file (fetch_files p.setup p.turn (length asked)) (fetch_files p.setup p.turn (length (asked ++ x ∷ []))) calls (more_names p asked x) s.changes;
  lengths = sizes_sub (part_of p.file ∷ fetched_files p.setup p.turn 1 asked) (part_of p.file ∷ fetched_files p.setup p.turn 1 (asked ++ x ∷ [])) calls
      (sub_cons (part_of p.file) (fetched_files p.setup p.turn 1 asked) (fetched_files p.setup p.turn 1 (asked ++ x ∷ [])) (more_fetched p asked x)) s.lengths;
  found = s.found;
  held = s.held;
  told = s.told;
  few = let e : length (asked ++ x ∷ []) ≡ length asked + 1 = length-append asked (x ∷ []) in omega (arith, e, few);
  fresh = λ m above below. let e : length (asked ++ x ∷ []) ≡ length asked + 1 = length-append asked (x ∷ []) in s.fresh m (omega (arith, e, above)) below;
}

pub sound_fetch : (p : Place) (asked : List Asking) (x : Asking) (n : ℕ) (calls seg : List Call) → Sound p asked calls → n ≡ length asked + 1 → n < 2 ^ 64 → is_done x ≡ true
    → Segment p n calls seg → Sound p (asked ++ x ∷ []) (calls ++ seg)
sound_fetch p asked x n calls seg s is few d g = record {
  names = list_all-append _ calls seg before.names (names_sub (p.file ∷ part_of p.file ∷ fetch_at p n ∷ []) (p.file ∷ part_of p.file ∷ fetch_files p.setup p.turn (length (asked ++ x ∷ []))) seg
      (sub_two p.file (part_of p.file) (fetch_at p n ∷ []) (fetch_files p.setup p.turn (length (asked ++ x ∷ []))) own) g.fair.names);
  changes = list_all-append _ calls seg before.changes (changes_sub p.file (fetch_at p n ∷ []) (fetch_files p.setup p.turn (length (asked ++ x ∷ []))) seg own g.fair.changes);
  lengths = list_all-append _ calls seg before.lengths (sizes_sub (part_of p.file ∷ fetch_at p n ∷ []) (part_of p.file ∷ fetched_files p.setup p.turn 1 (asked ++ x ∷ [])) seg
      (sub_cons (part_of p.file) (fetch_at p n ∷ []) (fetched_files p.setup p.turn 1 (asked ++ x ∷ [])) owned) g.fair.lengths);
  found = found_more (part_of p.file) [] calls seg s.found g.found;
  held = held_run p.file calls seg g.fair.no_read s.held;
  told = λ before. ap is_some (holds_more (part_of p.file) (Some before) calls seg) ∙ told (part_of p.file) (holds (part_of p.file) (Some before) calls) seg g.fair.lasting (s.told before);
  few = before.few;
  fresh = λ m above below. list_all-append _ calls seg (before.fresh m above below) (g.others m below (λ e. let l : length (asked ++ x ∷ []) ≡ length asked + 1 = length-append asked (x ∷ []) in omega (arith, e, is, above, l)));
}
  where
    before : Sound p (asked ++ x ∷ []) calls
    before = sound_asked p asked x calls s (omega (arith, is, few))

    own : Sub (fetch_at p n ∷ []) (fetch_files p.setup p.turn (length (asked ++ x ∷ [])))
    own = let P : ℕ → Type 0 = λ k. Sub (fetch_at p k ∷ []) (fetch_files p.setup p.turn (length (asked ++ x ∷ []))) in subst P (sym is) (own_name p asked x)

    owned : Sub (fetch_at p n ∷ []) (fetched_files p.setup p.turn 1 (asked ++ x ∷ []))
    owned = let P : ℕ → Type 0 = λ k. Sub (fetch_at p k ∷ []) (fetched_files p.setup p.turn 1 (asked ++ x ∷ [])) in subst P (sym is) (own_fetched p asked x d)

-- ---- a part more is asked for

pub within_asks : (u : Turn) (cur : List Asking) (got left : List Part) (part : Part) (x : Asking) (n : ℕ) (calls seg : List Call) → Within u cur got (part ∷ left) calls → n ≡ first_in u + length cur
    → AsksFor (fetch_request u.place.setup u.place.turn) n part.key x → not (is_failed x) ≡ true
    → filter_map (length_or_none (part_of u.place.file)) seg ≡ [] → reads_of (part_of u.place.file) seg ≡ [] → Apart u.place.setup u.place.turn (first_in u) (length cur) seg
    → is_run 0 (reads_of (fetch_at u.place n) (calls ++ seg)) ≡ true
    → GetAsks u.place.setup u.place.turn u.place.key u.place.sizes u.place.file (u.past ++ (cur ++ x ∷ [])) (calls ++ seg)
within_asks u cur got left part x n calls seg w is a ok no_length no_read others run =
    asks_of u.place u.past (cur ++ x ∷ []) u.done ((got ++ part ∷ left) ∷ wanted u.place.key u.rest []) u.tried (u.chunk ∷ u.rest) (calls ++ seg) w.tries
    (list_all-append (λ b. not (is_failed b)) cur (x ∷ []) (none_failed cur w.all_done) (rw ok refl))
    (rw all_but (all_calm u.past cur w.tries.calm w.all_done))
    (ap (wanted u.place.key u.place.sizes) lengths ∙ ap (wanted u.place.key u.place.sizes) (sym (append-nil (lengths_at_begin u.place.file calls))) ∙ w.wants [])
    (asks_last (fetch_request u.place.setup u.place.turn) (first_in u) (keys_in (got ++ part ∷ left)) (map keys_in (wanted u.place.key u.rest [])) cur x w.all_done order)
    (omega (arith, few, w.begun)) (omega (arith, few, w.begun_chunked))
    (ap (λ (k : ℕ). wrong_lengths u.place.setup u.place.turn u.place.key.size (calls ++ seg) (first_in u) (take k (got ++ part ∷ left))) count
    ∙ ap (λ (l : List Part). wrong_lengths u.place.setup u.place.turn u.place.key.size (calls ++ seg) (first_in u) l) (take-append_seam got (part ∷ left))
    ∙ same_wrong u.place.setup u.place.turn u.place.key.size (first_in u) got calls seg (λ i low high. others i low (omega (arith, high, w.aligned)))
    ∙ w.right)
    (held_run u.place.file calls seg no_read w.sound.held)
    (read_more u.place.setup u.place.turn (first_in u) (calls ++ seg) cur (x ∷ [])
    ∙ ap (λ b. b && are_read u.place.setup u.place.turn (calls ++ seg) (first_in u + length cur) (x ∷ [])) (same_read u.place.setup u.place.turn (first_in u) cur calls seg others ∙ w.read)
    ∙ ap (λ k. are_read u.place.setup u.place.turn (calls ++ seg) k (x ∷ [])) (sym is) ∙ rw run refl)
  where
    all_but : all_but_last (u.past ++ (cur ++ x ∷ [])) ≡ u.past ++ cur
    all_but = ap all_but_last (sym (append_assoc u.past cur (x ∷ []))) ∙ but_last (u.past ++ cur) x

    lengths : lengths_at_begin u.place.file (calls ++ seg) ≡ lengths_at_begin u.place.file calls
    lengths = begin_lengths u.place.file calls seg no_length

    few : length (lengths_at_begin u.place.file (calls ++ seg)) ≡ length (lengths_at_begin u.place.file calls)
    few = ap length lengths

    count : length (cur ++ x ∷ []) - 1 ≡ length got
    count = let l : length (cur ++ x ∷ []) ≡ length cur + 1 = length-append cur (x ∷ []) in omega (arith, l, w.aligned)

    order : AskInOrder (fetch_request u.place.setup u.place.turn) (first_in u) (keys_in (got ++ part ∷ left)) (cur ++ x ∷ [])
    order =
        let P : List Parts → Type 0 = λ ks. AskInOrder (fetch_request u.place.setup u.place.turn) (first_in u) ks (cur ++ x ∷ []) in
        let Q : ℕ → Type 0 = λ k. AsksFor (fetch_request u.place.setup u.place.turn) k part.key x in
        subst P (sym (map-append (λ (q : Part). q.key) got (part ∷ left))) (w.in_order (keys_in (part ∷ left)) (x ∷ []) (subst Q is a, tt))

pub within_order : (u : Turn) (cur : List Asking) (got left : List Part) (calls : List Call) → Within u cur got left calls
    → RoundsAsk (fetch_request u.place.setup u.place.turn) (first_in u) (map keys_in ((got ++ left) ∷ wanted u.place.key u.rest [])) (rounds cur)
within_order u cur got left calls w =
    let P : List Parts → Type 0 = λ ks. AskInOrder (fetch_request u.place.setup u.place.turn) (first_in u) ks cur in
    let Q : List Asking → Type 0 = λ l. AskInOrder (fetch_request u.place.setup u.place.turn) (first_in u) (keys_in got ++ keys_in left) l in
    asks_done (fetch_request u.place.setup u.place.turn) (first_in u) (keys_in (got ++ left)) (map keys_in (wanted u.place.key u.rest [])) cur w.all_done
    (subst P (sym (map-append (λ (q : Part). q.key) got left)) (subst Q (append-nil cur) (w.in_order (keys_in left) [] tt)))

-- nothing more is asked for
pub within_fore : (u : Turn) (cur : List Asking) (got left : List Part) (calls : List Call) → Within u cur got left calls → Fore u.place (u.past ++ cur) calls
within_fore u cur got left calls w = record {
  asks =
      asks_of u.place u.past cur u.done ((got ++ left) ∷ wanted u.place.key u.rest []) u.tried (u.chunk ∷ u.rest) calls w.tries
      (none_failed cur w.all_done)
      (all_taken is_calm _ (u.past ++ cur) calm)
      (ap (wanted u.place.key u.place.sizes) (sym (append-nil (lengths_at_begin u.place.file calls))) ∙ w.wants [])
      (within_order u cur got left calls w)
      w.begun w.begun_chunked
      (ap (λ (l : List Part). wrong_lengths u.place.setup u.place.turn u.place.key.size calls (first_in u) l) (take-append-le (length cur - 1) got left (omega (arith, w.aligned)))
      ∙ wrong_taken u.place.setup u.place.turn u.place.key.size calls (first_in u) (length cur - 1) got w.right)
      w.sound.held
      w.read;
  sound = w.sound;
  calm = calm;
}
  where
    calm : list_all is_calm (u.past ++ cur) ≡ true
    calm = all_calm u.past cur w.tries.calm w.all_done

-- ---- a part is fetched

-- its request is done, and calls of it were made
pub record Fetching (u : Turn) (cur : List Asking) (got left : List Part) (part : Part) (x : Asking) (n : ℕ) (calls : List Call) : Type 0 where
  pub within : Within u cur got (part ∷ left) calls
  pub number : n ≡ first_in u + length cur
  pub few : n < 2 ^ 64
  pub asks : AsksFor (fetch_request u.place.setup u.place.turn) n part.key x
  pub is_done_now : is_done x ≡ true

own_number : (u : Turn) (cur : List Asking) (n : ℕ) → n ≡ first_in u + length cur → n ≡ length (u.past ++ cur) + 1
own_number u cur n e = let l : length (u.past ++ cur) ≡ length u.past + length cur = length-append u.past cur in omega (arith, e, l)

earlier_apart : (u : Turn) (cur : List Asking) (n : ℕ) (front seg : List Call) → n ≡ first_in u + length cur → n < 2 ^ 64 → Segment u.place n front seg → Apart u.place.setup u.place.turn (first_in u) (length cur) seg
earlier_apart u cur n front seg e few g = λ i low high. g.others i (omega (arith, e, few, high)) (λ same. omega (arith, e, high, same))

pub own_apart : (u : Turn) (cur : List Asking) (got left : List Part) (part : Part) (x : Asking) (n : ℕ) (calls : List Call) → Fetching u cur got left part x n calls → list_all (is_apart (fetch_at u.place n)) calls ≡ true
own_apart u cur got left part x n calls f = f.within.sound.fresh n (omega (arith, own_number u cur n f.number)) f.few

pub fetch_fore : (u : Turn) (cur : List Asking) (got left : List Part) (part : Part) (x : Asking) (n : ℕ) (calls seg : List Call) → Fetching u cur got left part x n calls
    → Segment u.place n calls seg → is_run 0 (reads_of (fetch_at u.place n) seg) ≡ true → Fore u.place (u.past ++ (cur ++ x ∷ [])) (calls ++ seg)
fetch_fore u cur got left part x n calls seg f g run = record {
  asks = within_asks u cur got left part x n calls seg f.within f.number f.asks (done_not_failed x f.is_done_now) g.fair.no_length g.fair.no_read (earlier_apart u cur n calls seg f.number f.few g)
      (ap (is_run 0) (reads_behind (fetch_at u.place n) calls seg (own_apart u cur got left part x n calls f)) ∙ run);
  sound =
      let P : List Asking → Type 0 = λ l. Sound u.place l (calls ++ seg) in
      subst P (append_assoc u.past cur (x ∷ [])) (sound_fetch u.place (u.past ++ cur) x n calls seg f.within.sound (own_number u cur n f.number) f.few f.is_done_now g);
  calm = all_calm u.past (cur ++ x ∷ []) f.within.tries.calm (list_all-append is_done cur (x ∷ []) f.within.all_done (rw f.is_done_now refl));
}

-- the fetch is over, and the part has its length
pub within_next : (u : Turn) (cur : List Asking) (got left : List Part) (part : Part) (x : Asking) (n : ℕ) (calls seg : List Call) → Fetching u cur got left part x n calls
    → Segment u.place n calls seg → is_run 0 (reads_of (fetch_at u.place n) seg) ≡ true → are_free u.place seg ≡ true
    → filter (is_wrong u.place.key.size part) (lengths_found (fetch_at u.place n) seg) ≡ []
    → Within u (cur ++ x ∷ []) (got ++ part ∷ []) left (calls ++ seg)
within_next u cur got left part x n calls seg f g run free right = record {
  tries = f.within.tries;
  all_done = list_all-append is_done cur (x ∷ []) f.within.all_done (rw f.is_done_now refl);
  in_order = λ more next h.
      let num : first_in u + length (cur ++ x ∷ []) ≡ n + 1 = let l : length (cur ++ x ∷ []) ≡ length cur + 1 = length-append cur (x ∷ []) in omega (arith, l, f.number) in
      let P : ℕ → Type 0 = λ k. AskInOrder ask k more next in
      let Q : ℕ → Type 0 = λ k. AskInOrder ask k (part.key ∷ more) (x ∷ next) in
      let one : AskInOrder ask (first_in u + length cur) (part.key ∷ more) (x ∷ next) = subst Q f.number (f.asks, subst P num h) in
      let keys : keys_in got ++ part.key ∷ more ≡ keys_in (got ++ part ∷ []) ++ more =
      sym (append_assoc (keys_in got) (part.key ∷ []) more) ∙ ap (λ l. l ++ more) (sym (map-append (λ (q : Part). q.key) got (part ∷ []))) in
      let R : List Parts → Type 0 = λ ks. AskInOrder ask (first_in u) ks (cur ++ x ∷ next) in
      let S : List Asking → Type 0 = λ l. AskInOrder ask (first_in u) (keys_in (got ++ part ∷ []) ++ more) l in
      subst S (sym (append_assoc cur (x ∷ []) next)) (subst R keys (f.within.in_order (part.key ∷ more) (x ∷ next) one));
  aligned = let a : length (got ++ part ∷ []) ≡ length got + 1 = length-append got (part ∷ []) in let b : length (cur ++ x ∷ []) ≡ length cur + 1 = length-append cur (x ∷ []) in omega (arith, a, b, f.within.aligned);
  wants = λ later.
      let parts : (got ++ part ∷ []) ++ left ≡ got ++ part ∷ left = append_assoc got (part ∷ []) left in
      ap (λ l. wanted u.place.key u.place.sizes (l ++ later)) lengths ∙ f.within.wants later ∙ ap (λ (ps : List Part). u.done ++ ps ∷ wanted u.place.key u.rest later) (sym parts);
  begun = omega (arith, few, f.within.begun);
  begun_chunked = omega (arith, few, f.within.begun_chunked);
  right =
      wrong_more u.place.setup u.place.turn u.place.key.size (calls ++ seg) (first_in u) got (part ∷ [])
      ∙ ap (λ l. l ++ wrong_lengths u.place.setup u.place.turn u.place.key.size (calls ++ seg) (first_in u + length got) (part ∷ [])) (same_wrong u.place.setup u.place.turn u.place.key.size (first_in u) got calls seg
      (λ i low high. others i low (omega (arith, high, f.within.aligned))) ∙ f.within.right)
      ∙ ap (λ k. wrong_lengths u.place.setup u.place.turn u.place.key.size (calls ++ seg) k (part ∷ [])) number
      ∙ append-nil (filter (is_wrong u.place.key.size part) (lengths_found (fetch_at u.place n) (calls ++ seg)))
      ∙ ap (filter (is_wrong u.place.key.size part)) (lengths_behind (fetch_at u.place n) calls seg (own_apart u cur got left part x n calls f))
      ∙ right;
  read =
      read_more u.place.setup u.place.turn (first_in u) (calls ++ seg) cur (x ∷ [])
      ∙ ap (λ b. b && are_read u.place.setup u.place.turn (calls ++ seg) (first_in u + length cur) (x ∷ [])) (same_read u.place.setup u.place.turn (first_in u) cur calls seg others ∙ f.within.read)
      ∙ ap (λ k. are_read u.place.setup u.place.turn (calls ++ seg) k (x ∷ [])) (sym f.number)
      ∙ ap (λ r. is_run 0 r && true) (reads_behind (fetch_at u.place n) calls seg (own_apart u cur got left part x n calls f)) ∙ rw run refl;
  sound = (fetch_fore u cur got left part x n calls seg f g run).sound;
  free = list_all-append (λ call. is_none (call_stop (part_of u.place.file) call)) calls seg f.within.free free;
}
  where
    ask : ℕ → List ℕ → HostMessage
    ask = fetch_request u.place.setup u.place.turn

    others : Apart u.place.setup u.place.turn (first_in u) (length cur) seg
    others = earlier_apart u cur n calls seg f.number f.few g

    lengths : lengths_at_begin u.place.file (calls ++ seg) ≡ lengths_at_begin u.place.file calls
    lengths = begin_lengths u.place.file calls seg g.fair.no_length

    few : length (lengths_at_begin u.place.file (calls ++ seg)) ≡ length (lengths_at_begin u.place.file calls)
    few = ap length lengths

    number : first_in u + length got ≡ n
    number = omega (arith, f.number, f.within.aligned)

pub kept_next : (u : Turn) (cur : List Asking) (got left : List Part) (part : Part) (x : Asking) (n : ℕ) (calls seg : List Call) (held : List (ℕ × List ℕ)) (bytes more : List ℕ)
    → Fetching u cur got left part x n calls → Kept u cur got (part ∷ left) calls held bytes → Segment u.place n calls seg
    → list_all (λ call. not (begins (part_of u.place.file) call)) seg ≡ true → list_all (is_growing (part_of u.place.file)) seg ≡ true → is_known (part_of u.place.file) (calls ++ seg) ≡ true
    → bytes_of (reads_of (fetch_at u.place n) seg) ≡ more → appended (part_of u.place.file) seg ≡ more
    → is_read_whole (reads_of (fetch_at u.place n) seg) (lengths_found (fetch_at u.place n) seg) ≡ true
    → Kept u (cur ++ x ∷ []) (got ++ part ∷ []) left (calls ++ seg) held (bytes ++ more)
kept_next u cur got left part x n calls seg held bytes more f k g no_begin grown known bs moved whole = record {
  begun = ap length (begin_lengths u.place.file calls seg g.fair.no_length) ∙ k.begun;
  known = known;
  held_are = held_more u.place.file calls seg no_begin ∙ rw g.fair.no_read (append-nil (held_reads u.place.file calls)) ∙ k.held_are;
  held_whole = rw (append_assoc got (part ∷ []) left) k.held_whole;
  bytes_are =
      bytes_more u.place.setup u.place.turn (first_in u) (calls ++ seg) cur (x ∷ [])
      ∙ ap (λ l. l ++ bytes_fetched u.place.setup u.place.turn (calls ++ seg) (first_in u + length cur) (x ∷ [])) (same_bytes u.place.setup u.place.turn (first_in u) cur calls seg others ∙ k.bytes_are)
      ∙ ap (λ m. bytes ++ bytes_fetched u.place.setup u.place.turn (calls ++ seg) m (x ∷ [])) (sym f.number)
      ∙ ap (λ r. bytes ++ (bytes_of r ++ [])) (reads_behind (fetch_at u.place n) calls seg own)
      ∙ ap (λ l. bytes ++ l) (append-nil (bytes_of (reads_of (fetch_at u.place n) seg)) ∙ bs);
  moved = appended_more u.place.file calls seg no_begin ∙ ap (λ l. l ++ appended (part_of u.place.file) seg) k.moved ∙ ap (λ l. bytes ++ l) moved;
  content = λ before found.
      holds_more (part_of u.place.file) (Some before) calls seg
      ∙ ap (λ o. holds (part_of u.place.file) o seg) (k.content before (so_front (part_of u.place.file) (Some before) calls seg found))
      ∙ holds_grown (part_of u.place.file) (bytes_of held ++ bytes) seg grown
      ∙ ap (λ l. Some ((bytes_of held ++ bytes) ++ l)) moved ∙ ap Some (append_assoc (bytes_of held) bytes more);
  whole =
      whole_more u.place.setup u.place.turn (first_in u) (calls ++ seg) cur (x ∷ [])
      ∙ ap (λ b. b && are_read_whole u.place.setup u.place.turn (calls ++ seg) (first_in u + length cur) (x ∷ [])) (same_whole u.place.setup u.place.turn (first_in u) cur calls seg others ∙ k.whole)
      ∙ ap (λ m. are_read_whole u.place.setup u.place.turn (calls ++ seg) m (x ∷ [])) (sym f.number)
      ∙ ap (λ r. is_read_whole r (lengths_found (fetch_at u.place n) (calls ++ seg)) && true) (reads_behind (fetch_at u.place n) calls seg own)
      ∙ ap (λ l. is_read_whole (reads_of (fetch_at u.place n) seg) l && true) (lengths_behind (fetch_at u.place n) calls seg own)
      ∙ rw whole refl;
}
  where
    others : Apart u.place.setup u.place.turn (first_in u) (length cur) seg
    others = earlier_apart u cur n calls seg f.number f.few g

    own : list_all (is_apart (fetch_at u.place n)) calls ≡ true
    own = own_apart u cur got left part x n calls f
