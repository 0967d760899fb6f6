-- What a get may ask so far, and how it ends where it is.
use Rattle.std.proofs.Common.{◌≡◌, ◌∙◌, ℕ, ◌+◌, ◌-◌, ◌≤◌, min, Bool, true, false, not, List, [], ◌∷◌, ◌++◌, length, map, take, refl, sym, ap, subst, arith, append-nil, length-append}
use Rattle.std.specs.Prelude.{◌||◌, filter, Option, Some, None, is_none, unwrap_or}
use Rattle.std.specs.List.{list_all, filter_map}
use Rattle.std.proofs.lemmas.Bool.{and_parts, le-leb as le_true}
use Rattle.std.proofs.lemmas.List.{map-append}
use Rattle.std.proofs.lemmas.List.Elements.{filter_map-append}
use Rattle.ann_key.specs.Keys.{Parts}
use Rattle.task_text.specs.Layouts.Layouts.{Part}
use Rattle.annex_model.specs.Messages.{HostMessage}
use Rattle.journal_model.specs.declared.verdict.Verdict.{Verdict}
use Rattle.journal_model.specs.declared.verdict.Verdict.TheVariants as V
use Rattle.journal_model.specs.declared.answer.Answer.{Answer}
use Rattle.journal_model.specs.declared.answer.Answer.TheVariants as A
use Rattle.task_text.specs.declared.task.Work.TheVariants as W
use Rattle.ann_outside.specs.declared.file_desk.Call.{Call}
use Rattle.task_model.specs.Askers.{Asking}
use Rattle.task_model.specs.Stops.{is_done, asking_stop, call_stop, stops_of, AnsweredBy, all_but_last}
use Rattle.task_model.specs.Names.{part_of}
use Rattle.task_model.specs.Requests.{rounds, RoundsAsk}
use Rattle.task_model.specs.Reads.{is_run}
use Rattle.task_model.specs.Gets.{fetch_request, lengths_at_begin, wanted, is_failed, failures, asked_last, first_asked, item, parts_last, held_reads, are_read, wrong_lengths, GetAsks, GetAnswers}
use Rattle.task_model.specs.TaskCalls.{GetCalls}
use Rattle.task_run.specs.Get.Fronts.{Place, keys_in, is_calm, Tried, Sound, are_free, Ended}
use Rattle.task_run.proofs.GetLemmas.AskLaws.{count_more, item_behind}
use Rattle.task_model.proofs.Lists.{all_taken, none_stop, but_last}
use Rattle.ann_key.proofs.Booleans.{false_is_true as apart}
use Rattle.ann_outside.proofs.Across.{count_none}

-- ---- what it asked

calm_failed : (xs : List Asking) → list_all is_calm xs ≡ true → list_all is_failed (filter (λ (a : Asking). not (is_done a)) xs) ≡ true
calm_failed [] h = refl
calm_failed (x ∷ xs) h =
    let p = and_parts (is_calm x) (list_all is_calm xs) h in
    by_test (is_done x) refl p.0 (calm_failed xs p.1)
  where
    by_test : (b : Bool) → is_done x ≡ b → (is_done x || is_failed x) ≡ true → list_all is_failed (filter (λ (a : Asking). not (is_done a)) xs) ≡ true
        → list_all is_failed (filter (λ (a : Asking). not (is_done a)) (x ∷ xs)) ≡ true
    by_test true e c r = rw e r
    by_test false e c r = let f : is_failed x ≡ true = rw e at c in rw e (rw (f, r) refl)

pub failures_are : (p : Place) (past next : List Asking) (done : List (List Part)) (tried rest : List ℕ) → Tried p past done tried rest
    → list_all (λ a. not (is_failed a)) next ≡ true → failures (past ++ next) ≡ length done
failures_are p past next done tried rest t none = let z = count_none is_failed next none in count_more is_failed past next ∙ omega (arith, z, t.failed)

pub first_is : (p : Place) (past next : List Asking) (done : List (List Part)) (tried rest : List ℕ) → Tried p past done tried rest
    → list_all (λ a. not (is_failed a)) next ≡ true → first_asked (past ++ next) ≡ length past + 1
first_is p past next done tried rest t none =
    let l : asked_last (past ++ next) ≡ next = t.last next none in
    let n : length (past ++ next) ≡ length past + length next = length-append past next in
    let e : length past + length next - length next ≡ length past = omega arith in
    ap (λ (xs : List Asking). length (past ++ next) - length xs + 1) l ∙ ap (λ (k : ℕ). k - length next + 1) n ∙ ap (λ (k : ℕ). k + 1) e

pub parts_are : (p : Place) (past next : List Asking) (done tail : List (List Part)) (tried rest lengths : List ℕ) → Tried p past done tried rest
    → list_all (λ a. not (is_failed a)) next ≡ true → wanted p.key p.sizes lengths ≡ done ++ tail
    → parts_last p.key p.sizes lengths (past ++ next) ≡ unwrap_or (item 0 tail) []
parts_are p past next done tail tried rest lengths t none w =
    ap (λ (k : ℕ). unwrap_or (item k (wanted p.key p.sizes lengths)) []) (failures_are p past next done tried rest t none)
    ∙ ap (λ (l : List (List Part)). unwrap_or (item (length done) l) []) w
    ∙ ap (λ (o : Option (List Part)). unwrap_or o []) (item_behind done tail)

pub asks_of : (p : Place) (past next : List Asking) (done tail : List (List Part)) (tried rest : List ℕ) (calls : List Call) → Tried p past done tried rest
    → list_all (λ a. not (is_failed a)) next ≡ true
    → list_all is_calm (all_but_last (past ++ next)) ≡ true
    → wanted p.key p.sizes (lengths_at_begin p.file calls) ≡ done ++ tail
    → RoundsAsk (fetch_request p.setup p.turn) (length past + 1) (map keys_in tail) (rounds next)
    → length (lengths_at_begin p.file calls) ≤ length done + 1 → length (lengths_at_begin p.file calls) ≤ length p.sizes - 1
    → wrong_lengths p.setup p.turn p.key.size calls (length past + 1) (take (length next - 1) (unwrap_or (item 0 tail) [])) ≡ []
    → is_run 0 (held_reads p.file calls) ≡ true
    → are_read p.setup p.turn calls (length past + 1) next ≡ true
    → GetAsks p.setup p.turn p.key p.sizes p.file (past ++ next) calls
asks_of p past next done tail tried rest calls t none calm w order few few' right held read = record {
  in_order =
      let keys : map keys_in (wanted p.key p.sizes (lengths_at_begin p.file calls)) ≡ map keys_in done ++ map keys_in tail = ap (map keys_in) w ∙ map-append keys_in done tail in
      let P : List (List Parts) → Type 0 = λ ks. RoundsAsk (fetch_request p.setup p.turn) 1 ks (rounds (past ++ next)) in
      subst P (sym keys) (t.in_order (map keys_in tail) next order);
  each_failed = calm_failed (all_but_last (past ++ next)) calm;
  each_begun =
      let f : failures (past ++ next) ≡ length done = failures_are p past next done tried rest t none in
      le_true (length (lengths_at_begin p.file calls)) (min (failures (past ++ next) + 1) (length p.sizes - 1)) (omega (arith, f, few, few'));
  each_right =
      ap (λ (n : ℕ). wrong_lengths p.setup p.turn p.key.size calls n (take (length (asked_last (past ++ next)) - 1) (parts_last p.key p.sizes (lengths_at_begin p.file calls) (past ++ next)))) (first_is p past next done tried rest t none)
      ∙ ap (λ (l : List Asking). wrong_lengths p.setup p.turn p.key.size calls (length past + 1) (take (length l - 1) (parts_last p.key p.sizes (lengths_at_begin p.file calls) (past ++ next)))) (t.last next none)
      ∙ ap (λ (ps : List Part). wrong_lengths p.setup p.turn p.key.size calls (length past + 1) (take (length next - 1) ps)) (parts_are p past next done tail tried rest (lengths_at_begin p.file calls) t none w)
      ∙ right;
  held_read = held;
  fetched_read =
      ap (λ (n : ℕ). are_read p.setup p.turn calls n (asked_last (past ++ next))) (first_is p past next done tried rest t none)
      ∙ ap (λ (l : List Asking). are_read p.setup p.turn calls (length past + 1) l) (t.last next none)
      ∙ read;
}

-- ---- how it ends

-- what holds of it wherever it is
pub record Fore (p : Place) (asked : List Asking) (calls : List Call) : Type 0 where
  pub asks : GetAsks p.setup p.turn p.key p.sizes p.file asked calls
  pub sound : Sound p asked calls
  pub calm : list_all is_calm asked ≡ true

calm_goes_on : (a : Asking) → is_calm a ≡ true → is_none (asking_stop W.Get a) ≡ true
calm_goes_on a h = of a.request a.verdict h
  where
    of : (request : Option HostMessage) (v : Verdict) → is_calm (record { request = request; name = None; verdict = v }) ≡ true → is_none (asking_stop W.Get (record { request = request; name = None; verdict = v })) ≡ true
    of request (V.Done at) h = refl
    of request (V.Failed at) h = refl
    of request (V.Absent at) h = apart h
    of request (V.Unknown at) h = apart h
    of request (V.Unsupported at) h = apart h
    of request (V.Ended why) h = apart h
    of request V.Unsent h = apart h

all_go_on : (asked : List Asking) → list_all is_calm asked ≡ true → list_all (λ a. is_none (asking_stop W.Get a)) asked ≡ true
all_go_on [] h = refl
all_go_on (x ∷ xs) h =
    let p = and_parts (is_calm x) (list_all is_calm xs) h in
    let one : is_none (asking_stop W.Get x) ≡ true = calm_goes_on x p.0 in
    let rest : list_all (λ a. is_none (asking_stop W.Get a)) xs ≡ true = all_go_on xs p.1 in
    rw (one, rest) refl

calls_of : (p : Place) (asked : List Asking) (calls : List Call) → Sound p asked calls → GetCalls p.setup p.turn p.file asked calls
calls_of p asked calls s = record { names = s.names; changes = s.changes; lengths = s.lengths }

-- nothing stopped it
pub ended_finished : (p : Place) (asked : List Asking) (calls : List Call) (answer : Answer) → Fore p asked calls → are_free p calls ≡ true
    → AnsweredBy [] answer (GetAnswers p.setup p.turn p.key p.sizes p.file asked calls answer) → Ended p asked calls answer
ended_finished p asked calls answer f free h = record {
  asked_till_stop = all_taken (λ a. is_none (asking_stop W.Get a)) _ asked (all_go_on asked f.calm);
  calls_till_stop = all_taken (λ call. is_none (call_stop (part_of p.file) call)) _ calls free;
  found = f.sound.found;
  get_calls = calls_of p asked calls f.sound;
  get_asks = f.asks;
  answered =
      let e : stops_of W.Get (part_of p.file) asked calls ≡ [] = ap (λ (l : List Answer). l ++ filter_map (call_stop (part_of p.file)) calls) (none_stop (asking_stop W.Get) asked (all_go_on asked f.calm)) ∙ none_stop (call_stop (part_of p.file)) calls free in
      let P : List Answer → Type 0 = λ stops. AnsweredBy stops answer (GetAnswers p.setup p.turn p.key p.sizes p.file asked calls answer) in
      subst P (sym e) h;
}

pub ended_memory : (p : Place) (asked : List Asking) (calls : List Call) → Fore p asked calls → are_free p calls ≡ true → Ended p asked calls A.Memory
ended_memory p asked calls f free = ended_finished p asked calls A.Memory f free tt

-- a call stopped it
pub ended_stopped : (p : Place) (asked : List Asking) (front : List Call) (x : Call) (answer : Answer) → Fore p asked (front ++ x ∷ []) → are_free p front ≡ true
    → call_stop (part_of p.file) x ≡ Some answer → Ended p asked (front ++ x ∷ []) answer
ended_stopped p asked front x answer f free s = record {
  asked_till_stop = all_taken (λ a. is_none (asking_stop W.Get a)) _ asked (all_go_on asked f.calm);
  calls_till_stop = rw (but_last front x) free;
  found = f.sound.found;
  get_calls = calls_of p asked (front ++ x ∷ []) f.sound;
  get_asks = f.asks;
  answered =
      let last : filter_map (call_stop (part_of p.file)) (front ++ x ∷ []) ≡ answer ∷ [] =
      filter_map-append (call_stop (part_of p.file)) front (x ∷ []) ∙ rw (none_stop (call_stop (part_of p.file)) front free) (rw s refl) in
      let e : stops_of W.Get (part_of p.file) asked (front ++ x ∷ []) ≡ answer ∷ [] =
      ap (λ (l : List Answer). l ++ filter_map (call_stop (part_of p.file)) (front ++ x ∷ [])) (none_stop (asking_stop W.Get) asked (all_go_on asked f.calm)) ∙ last in
      let P : List Answer → Type 0 = λ stops. AnsweredBy stops answer (GetAnswers p.setup p.turn p.key p.sizes p.file asked (front ++ x ∷ []) answer) in
      subst P (sym e) refl;
}

-- a verdict stopped it
pub ended_asked : (p : Place) (asked : List Asking) (x : Asking) (calls : List Call) (answer : Answer) → list_all is_calm asked ≡ true
    → GetAsks p.setup p.turn p.key p.sizes p.file (asked ++ x ∷ []) calls → Sound p (asked ++ x ∷ []) calls → are_free p calls ≡ true
    → asking_stop W.Get x ≡ Some answer → Ended p (asked ++ x ∷ []) calls answer
ended_asked p asked x calls answer calm asks sound free s = record {
  asked_till_stop = rw (but_last asked x) (all_go_on asked calm);
  calls_till_stop = all_taken (λ call. is_none (call_stop (part_of p.file) call)) _ calls free;
  found = sound.found;
  get_calls = calls_of p (asked ++ x ∷ []) calls sound;
  get_asks = asks;
  answered =
      let first : filter_map (asking_stop W.Get) (asked ++ x ∷ []) ≡ answer ∷ [] =
      filter_map-append (asking_stop W.Get) asked (x ∷ []) ∙ rw (none_stop (asking_stop W.Get) asked (all_go_on asked calm)) (rw s refl) in
      let e : stops_of W.Get (part_of p.file) (asked ++ x ∷ []) calls ≡ answer ∷ [] =
      ap (λ (l : List Answer). filter_map (asking_stop W.Get) (asked ++ x ∷ []) ++ l) (none_stop (call_stop (part_of p.file)) calls free) ∙ append-nil (filter_map (asking_stop W.Get) (asked ++ x ∷ [])) ∙ first in
      let P : List Answer → Type 0 = λ stops. AnsweredBy stops answer (GetAnswers p.setup p.turn p.key p.sizes p.file (asked ++ x ∷ []) calls answer) in
      subst P (sym e) refl;
}
