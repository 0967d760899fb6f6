-- A group is pushed entry by entry, into room that is kept.
use Rattle.std.proofs.Common.{◌≡◌, ◌∙◌, ℕ, subst, zero, suc, ◌+◌, ◌*◌, ◌<◌, ◌≤◌, ◌^◌, List, [], ◌∷◌, ◌++◌, refl, sym, ap, Bool, true, false, not, cond, Option, Some, None, length, length-append, get_or, take, drop, map, append-nil, append_assoc, arith, inl, inr}
use Rattle.std.specs.Prelude.{◌&&◌, ◌||◌, ◌==◌, nat_lt, nat_le, filter, remove, slice_get, option_and_then, sum_by}
use Rattle.std.specs.List.{list_any}
use Rattle.std.proofs.lemmas.Bool.Decides.{nat_tests}
use Rattle.std.proofs.lemmas.List.Sums.{sum_by-cons}
use Rattle.std.specs.List.{cons_option}
use Rattle.std.proofs.Math.Seq.{take-length}
use Rattle.std.proofs.lemmas.List.{take-append-drop, take-append-le, map-append}
use Rattle.journal_model.specs.declared.verdict.Verdict.{Verdict}
use Rattle.journal_model.specs.declared.verdict.Verdict.TheVariants.{Ended, Unsent}
use Rattle.journal_model.specs.declared.opening.Opening.{Opening}
use Rattle.journal_model.specs.declared.entry.What.{What}
use Rattle.journal_model.specs.declared.entry.What.TheVariants.{Lead, Ask, Put, Got, Verdict as Settled}
use Rattle.journal_model.specs.declared.entry.Entry.{Entry}
use Rattle.journal_model.specs.Journal.{asks, asked_jobs, each_of, is_settled, is_unsent, line_bytes, open_jobs}
use Rattle.journal_model.specs.Due.{made_by}
use Rattle.journal_model.specs.Legality.{Legal}
use Rattle.journal_model.specs.Room.{room_for, room_for_all, room_of}
use Rattle.journal_model.proofs.Looks.{each_of-append}
use Rattle.journal_model.proofs.Rooms.{room_suffices, room_grows, rooms-cons as room_cons}
use Rattle.host_core.specs.declared.due.Due.{Due}
use Rattle.host_core.specs.declared.due.Due.TheVariants.{Nothing, Settle, Request, Replies, EndOf, EndedJobs, UnsentJobs}
use Rattle.host_core.specs.declared.event.Event.{Event}
use Rattle.host_core.specs.Steps.{step_of, needs_room, needs_memory, is_free}
use Rattle.journal_scan.specs.Looks.{NoneDue, due_asked, due_job, due_jobs, job_at}
use Rattle.host_core.specs.Moves.{dues, group_made, first_room, due_room, group_room, due_bytes, group_bytes}
use Rattle.host_core.proofs.Stepping.{Legal-step}
use Rattle.ann_key.proofs.Lists.{length-map}
use Rattle.ann_key.proofs.Booleans.{left_false as either_left, right_false as either_right}
use Rattle.std.proofs.lemmas.Bool.{and_parts as both}

-- ---- the due jobs are those of the definitions

ended_among : (past : List Entry) (c : ℕ) (xs : List Entry) → each_of (due_job past c false) xs ≡ filter (λ j. not (is_settled past c j)) (asked_jobs xs c)
ended_among past c [] = refl
ended_among past c (e ∷ xs) = go (asks c e.what) (ended_among past c xs)
  where
    test : (j : ℕ) (b : Bool) (rest : List ℕ) → cons_option (cond {A = Option ℕ} (not b && true) (Some j) None) rest ≡ cond (not b) (j ∷ rest) rest
    test j true rest = refl
    test j false rest = refl

    go : (o : Option ℕ) → each_of (due_job past c false) xs ≡ filter (λ j. not (is_settled past c j)) (asked_jobs xs c)
        → cons_option (due_asked past c false o) (each_of (due_job past c false) xs) ≡ filter (λ j. not (is_settled past c j)) (cons_option o (asked_jobs xs c))
    go None r = r
    go (Some j) r =
        test j (is_settled past c j) (each_of (due_job past c false) xs)
        ∙ ap (λ (rest : List ℕ). cond (not (is_settled past c j)) (j ∷ rest) rest) r

pub due_ended : (past : List Entry) (c : ℕ) → due_jobs past c false ≡ open_jobs past c
due_ended past c = ended_among past c past

unsent_among : (past : List Entry) (c : ℕ) (xs : List Entry)
    → each_of (due_job past c true) xs ≡ filter (is_unsent past c) (filter (λ j. not (is_settled past c j)) (asked_jobs xs c))
unsent_among past c [] = refl
unsent_among past c (e ∷ xs) = go (asks c e.what) (unsent_among past c xs)
  where
    test : (j : ℕ) (b u : Bool) (rest : List ℕ) (more : List ℕ) → is_unsent past c j ≡ u → rest ≡ filter (is_unsent past c) more
        → cons_option (cond {A = Option ℕ} (not b && u) (Some j) None) rest ≡ filter (is_unsent past c) (cond (not b) (j ∷ more) more)
    test j true u rest more e r = r
    test j false true rest more e r = rw e (ap (λ (ks : List ℕ). j ∷ ks) r)
    test j false false rest more e r = rw e r

    go : (o : Option ℕ) → each_of (due_job past c true) xs ≡ filter (is_unsent past c) (filter (λ j. not (is_settled past c j)) (asked_jobs xs c))
        → cons_option (due_asked past c true o) (each_of (due_job past c true) xs)
        ≡ filter (is_unsent past c) (filter (λ j. not (is_settled past c j)) (cons_option o (asked_jobs xs c)))
    go None r = r
    go (Some j) r = test j (is_settled past c j) (is_unsent past c j) (each_of (due_job past c true) xs) (filter (λ j. not (is_settled past c j)) (asked_jobs xs c)) refl r

pub due_unsent : (past : List Entry) (c : ℕ) → due_jobs past c true ≡ filter (is_unsent past c) (open_jobs past c)
due_unsent past c = unsent_among past c past

-- ---- along the entries

each_of-next : (f : What → Option ℕ) (xs : List Entry) (at : ℕ)
    → each_of f (take (at + 1) xs) ≡ each_of f (take at xs) ++ cons_option (option_and_then (λ e. f e.what) (slice_get xs at)) []
each_of-next f xs at =
    let one : at + 1 ≡ suc at = omega arith in
    rw one (go xs at)
  where
    go : (xs : List Entry) (at : ℕ) → each_of f (take (suc at) xs) ≡ each_of f (take at xs) ++ cons_option (option_and_then (λ e. f e.what) (slice_get xs at)) []
    go [] zero = refl
    go [] (suc at) = refl
    go (e ∷ xs) zero = refl
    go (e ∷ xs) (suc at) = by_head (f e.what) (go xs at)
      where
        by_head : (o : Option ℕ) → each_of f (take (suc at) xs) ≡ each_of f (take at xs) ++ cons_option (option_and_then (λ e. f e.what) (slice_get xs at)) []
            → cons_option o (each_of f (take (suc at) xs)) ≡ cons_option o (each_of f (take at xs)) ++ cons_option (option_and_then (λ e. f e.what) (slice_get xs at)) []
        by_head None r = r
        by_head (Some j) r = ap (λ (ks : List ℕ). j ∷ ks) r

get-append : (xs ys : List Entry) (at : ℕ) → at < length xs → slice_get (xs ++ ys) at ≡ slice_get xs at
get-append [] ys at h = absurd (let no : ⊥ = omega (arith, h) in no)
get-append (x ∷ xs) ys zero h = refl
get-append (x ∷ xs) ys (suc at) h = get-append xs ys at (omega (arith, h))

get-take : (n : ℕ) (xs : List Entry) (at : ℕ) → at < n → slice_get (take n xs) at ≡ slice_get xs at
get-take zero xs at h = absurd (let no : ⊥ = omega (arith, h) in no)
get-take (suc n) [] at h = refl
get-take (suc n) (x ∷ xs) zero h = refl
get-take (suc n) (x ∷ xs) (suc at) h = get-take n xs at (omega (arith, h))

-- what is pushed at one place
pub same_at : (init more : List Entry) (n at c : ℕ) (u : Bool) → n ≤ length init → at < n
    → job_at (init ++ more) n at c u ≡ option_and_then (λ e. due_job (take n init) c u e.what) (slice_get (take n init) at)
same_at init more n at c u long h =
    ap (λ (p : List Entry). option_and_then (λ e. due_job p c u e.what) (slice_get (init ++ more) at)) (take-append-le n init more long)
    ∙ ap (option_and_then (λ e. due_job (take n init) c u e.what)) (get-append init more at (omega (arith, long, h)) ∙ sym (get-take n init at h))

abbrev pub pushed : List Entry → ℕ → ℕ → ℕ → Verdict → Bool → ℕ → List Entry
pushed past by c n verdict u at = made_by by (map (λ j. Settled c j verdict) (each_of (due_job past c u) (take at past)))

pub pushed_next : (init : List Entry) (by c n : ℕ) (verdict : Verdict) (u : Bool) (at : ℕ) → n ≤ length init → at < n
    → (init ++ pushed (take n init) by c n verdict u at)
    ++ made_by by (map (λ j. Settled c j verdict) (cons_option (job_at (init ++ pushed (take n init) by c n verdict u at) n at c u) []))
    ≡ init ++ pushed (take n init) by c n verdict u (at + 1)
pushed_next init by c n verdict u at long h =
    let past = take n init in
    let done = each_of (due_job past c u) (take at past) in
    let next = cons_option (option_and_then (λ e. due_job past c u e.what) (slice_get past at)) [] in
    let made : What → Entry = λ w. record { by = by; what = w } in
    let say : List ℕ → List Entry = λ js. map made (map (λ j. Settled c j verdict) js) in
    ap (λ (o : Option ℕ). (init ++ say done) ++ say (cons_option o [])) (same_at init (say done) n at c u long h)
    ∙ append_assoc init (say done) (say next)
    ∙ ap (λ (es : List Entry). init ++ es)
    (sym (map-append made (map (λ j. Settled c j verdict) done) (map (λ j. Settled c j verdict) next))
    ∙ ap (map made) (sym (map-append (λ j. Settled c j verdict) done next) ∙ ap (map (λ j. Settled c j verdict)) (sym (each_of-next (due_job past c u) past at))))

pub length-said : (by c : ℕ) (verdict : Verdict) (js : List ℕ) → length (made_by by (map (λ j. Settled c j verdict) js)) ≡ length js
length-said by c verdict js = (let made : What → Entry = λ w. record { by = by; what = w } in length-map made (map (λ j. Settled c j verdict) js)) ∙ length-map (λ j. Settled c j verdict) js

pub length-what : (f : ℕ → What) (js : List ℕ) → length (map f js) ≡ length js
length-what f js = length-map f js

each_of-within : (f : What → Option ℕ) (k : ℕ) (xs : List Entry) → length (each_of f (take k xs)) ≤ length (each_of f xs)
each_of-within f k xs =
    let whole : each_of f xs ≡ each_of f (take k xs) ++ each_of f (drop k xs) = ap (each_of f) (sym (take-append-drop k xs)) ∙ each_of-append f (take k xs) (drop k xs) in
    let long : length (each_of f xs) ≡ length (each_of f (take k xs)) + length (each_of f (drop k xs)) = ap length whole ∙ length-append (each_of f (take k xs)) (each_of f (drop k xs)) in
    omega (arith, long)

-- there is room for the next
pub room_next : (init : List Entry) (by c n : ℕ) (verdict : Verdict) (u : Bool) (at cap : ℕ) → n ≤ length init → at < n
    → length init + length (due_jobs (take n init) c u) ≤ cap
    → length (init ++ pushed (take n init) by c n verdict u at) + length (cons_option (job_at (init ++ pushed (take n init) by c n verdict u at) n at c u) []) ≤ cap
room_next init by c n verdict u at cap long h room =
    let past = take n init in
    let done = each_of (due_job past c u) (take at past) in
    let next = cons_option (option_and_then (λ e. due_job past c u e.what) (slice_get past at)) [] in
    let more : List Entry = pushed past by c n verdict u at in
    let here : length (cons_option (job_at (init ++ more) n at c u) []) ≡ length next = ap (λ (o : Option ℕ). length (cons_option o [])) (same_at init more n at c u long h) in
    let a : length (init ++ more) ≡ length init + length more = length-append init more in
    let b : length more ≡ length done = length-said by c verdict done in
    let d : length (each_of (due_job past c u) (take (at + 1) past)) ≡ length done + length next = ap length (each_of-next (due_job past c u) past at) ∙ length-append done next in
    let w : length (each_of (due_job past c u) (take (at + 1) past)) ≤ length (due_jobs past c u) = each_of-within (due_job past c u) (at + 1) past in
    omega (arith, here, a, b, d, w, room)

-- ---- replies

pub reply_pushed : (by c j : ℕ) (es more : List Entry) (xs : List (List ℕ)) (x : List ℕ) → 0 < length xs → x ≡ get_or xs 0 x
    → more ≡ es ++ made_by by (Put c j x ∷ [])
    → more ++ made_by by (map (λ line. Put c j line) (remove xs 0)) ≡ es ++ made_by by (map (λ line. Put c j line) xs)
reply_pushed by c j es more [] x some is grown = absurd (let no : ⊥ = omega (arith, some) in no)
reply_pushed by c j es more (y ∷ ys) x some is grown =
    ap (λ (zs : List Entry). zs ++ made_by by (map (λ line. Put c j line) ys)) grown
    ∙ append_assoc es (made_by by (Put c j x ∷ [])) (made_by by (map (λ line. Put c j line) ys))
    ∙ ap (λ (z : List ℕ). es ++ record { by = by; what = Put c j z } ∷ made_by by (map (λ line. Put c j line) ys)) is

-- without the first line
pub bytes_less : (xs : List (List ℕ)) (x : List ℕ) → 0 < length xs → x ≡ get_or xs 0 x → sum_by (λ (line : List ℕ). length line) (remove xs 0) + length x ≡ sum_by (λ (line : List ℕ). length line) xs
bytes_less [] x some is = absurd (let no : ⊥ = omega (arith, some) in no)
bytes_less (y ∷ ys) x some is =
    let long : length x ≡ length y = ap length is in
    omega (arith, long, sum_by-cons (λ (line : List ℕ). length line) y ys)

pub nonzero : (n : ℕ) → false ≡ (n == 0) → 0 < n
nonzero zero h = absurd cc
nonzero (suc n) h = omega arith

pub one_fewer : (xs : List (List ℕ)) → 0 < length xs → length (remove xs 0) + 1 ≡ length xs
one_fewer [] some = absurd (let no : ⊥ = omega (arith, some) in no)
one_fewer (y ∷ ys) some = omega arith

-- ---- the group within the room

puts_room : (by c j : ℕ) (lines : List (List ℕ)) → room_for_all (made_by by (map (λ line. Put c j line) lines)) ≡ 2 * length lines
puts_room by c j [] = refl
puts_room by c j (l ∷ ls) =
    room_cons (record { by = by; what = Put c j l }) (made_by by (map (λ line. Put c j line) ls))
    ∙ ap (λ (n : ℕ). 2 + n) (puts_room by c j ls) ∙ (let z : 2 + 2 * length ls ≡ 2 * length (l ∷ ls) = omega arith in z)

verdicts_room : (by c : ℕ) (v : Verdict) (js : List ℕ) → room_for_all (made_by by (map (λ j. Settled c j v) js)) ≡ 0
verdicts_room by c v [] = refl
verdicts_room by c v (j ∷ js) = verdicts_room by c v js

dues_room : (past : List Entry) (by : ℕ) (due : Due) → room_for_all (made_by by (dues past due)) ≡ due_room due
dues_room past by Nothing = refl
dues_room past by (Settle child job verdict) = refl
dues_room past by (Request child job task line) = refl
dues_room past by (Replies child job lines) = puts_room by child job lines.items
dues_room past by (EndOf child why) = verdicts_room by child (Ended why) (open_jobs past child)
dues_room past by (EndedJobs child why) = verdicts_room by child (Ended why) (open_jobs past child)
dues_room past by (UnsentJobs child) = verdicts_room by child Unsent (filter (is_unsent past child) (open_jobs past child))

made_room : (past : List Entry) (by : ℕ) (what : Option What) (due : Due) → room_for_all (group_made past by what due) ≡ group_room what due
made_room past by None due = refl
made_room past by (Some w) due = room_cons (record { by = by; what = w }) (made_by by (dues past due)) ∙ ap (λ (n : ℕ). room_for w + n) (dues_room past by due)

-- a legal journal within its room is short
pub few_entries : (o : Opening) (past : List Entry) (room : ℕ) → Legal o past → room_of o past ≤ room → room < 2 ^ 64 → length past < 2 ^ 64
few_entries o past room legal kept small = omega (arith, room_suffices o past legal, kept, small)

pub group_fits : (o : Opening) (past : List Entry) (by : ℕ) (event : Event) (what : Option What) (due : Due) (room : ℕ) → length past < 2 ^ 64 → Legal o past
    → group_made past by what due ≡ (step_of o past by event).group → room_of o past ≤ room
    → (length past + length (group_made past by what due) ≤ room + group_room what due) × (room_of o (past ++ group_made past by what due) ≤ room + group_room what due)
group_fits o past by event what due room few legal e kept =
    let g = group_made past by what due in
    let s = step_of o past by event in
    let long : length (past ++ s.group) ≤ room_of o (past ++ s.group) = room_suffices o (past ++ s.group) (Legal-step o past by event few legal) in
    let both : length (past ++ s.group) ≡ length past + length g = length-append past s.group ∙ ap (λ (k : List Entry). length past + length k) (sym e) in
    let same : room_of o (past ++ g) ≡ room_of o (past ++ s.group) = ap (λ (k : List Entry). room_of o (past ++ k)) e in
    let adds : room_of o (past ++ g) ≡ room_of o past + room_for_all g = room_grows o past g in
    let needs : room_for_all g ≡ group_room what due = made_room past by what due in
    (omega (arith, long, adds, both, same, kept, needs), omega (arith, adds, kept, needs))

-- a step that takes no memory needs no room
no_room_in : (es : List Entry) → list_any needs_room es ≡ false → room_for_all es ≡ 0
no_room_in [] h = refl
no_room_in (e ∷ es) h =
    let none : room_for e.what ≡ 0 = zero_room (room_for e.what) (either_left (needs_room e) (list_any needs_room es) h) in
    let rest : room_for_all es ≡ 0 = no_room_in es (either_right (needs_room e) (list_any needs_room es) h) in
    let whole : room_for_all (e ∷ es) ≡ room_for e.what + room_for_all es = room_cons e es in
    omega (arith, whole, none, rest)
  where
    zero_room : (n : ℕ) → nat_lt 0 n ≡ false → n ≡ 0
    zero_room n h = grind (arith, nat_tests)

none_needed : (o : Opening) (past : List Entry) (by : ℕ) (event : Event) → is_free (step_of o past by event) ≡ true → list_any needs_room (step_of o past by event).group ≡ false
none_needed o past by event h =
    not_true (list_any needs_room (step_of o past by event).group) (both (not (list_any needs_room (step_of o past by event).group)) (not (needs_memory (step_of o past by event).reply)) h).0
  where
    not_true : (b : Bool) → not b ≡ true → b ≡ false
    not_true true h = absurd cc
    not_true false h = refl

pub free_room : (o : Opening) (past : List Entry) (by : ℕ) (event : Event) (what : Option What) (due : Due) → is_free (step_of o past by event) ≡ true
    → group_made past by what due ≡ (step_of o past by event).group → group_room what due ≡ 0
free_room o past by event what due free e =
    sym (made_room past by what due) ∙ ap room_for_all e ∙ no_room_in (step_of o past by event).group (none_needed o past by event free)

-- a line stands only in an entry that needs room
no_line : (w : What) → room_for w ≡ 0 → line_bytes w ≡ 0
no_line (Lead child job line) none = absurd (let no : ⊥ = omega (arith, none) in no)
no_line (Ask child job task line) none = absurd (let no : ⊥ = omega (arith, none) in no)
no_line (Put child job line) none = absurd (let no : ⊥ = omega (arith, none) in no)
no_line (Got child line) none = absurd (let no : ⊥ = omega (arith, none) in no)
no_line _ none = refl

no_lines : (lines : List (List ℕ)) → 2 * length lines ≡ 0 → sum_by (λ (line : List ℕ). length line) lines ≡ 0
no_lines [] none = refl
no_lines (l ∷ ls) none = absurd (let no : ⊥ = omega (arith, none) in no)

no_due_lines : (due : Due) → due_room due ≡ 0 → due_bytes due ≡ 0
no_due_lines (Replies child job lines) none = no_lines lines.items none
no_due_lines (Request child job task line) none = absurd (let no : ⊥ = omega (arith, none) in no)
no_due_lines _ none = refl

pub free_bytes : (what : Option What) (due : Due) → group_room what due ≡ 0 → group_bytes what due ≡ 0
free_bytes None due none = refl
free_bytes (Some w) due none =
    let first : room_for w ≡ 0 = omega (arith, none) in
    let rest : due_room due ≡ 0 = omega (arith, none) in
    let here = no_line w first in
    let later = no_due_lines due rest in
    omega (arith, here, later)

pub free_first : (what : Option What) (due : Due) → group_room what due ≡ 0 → first_room what ≡ 0
free_first None due h = refl
free_first (Some w) due h = omega (arith, h)

-- ---- from the first place where something is due

none_among : (past : List Entry) (c : ℕ) (u : Bool) (from : ℕ) → NoneDue past from → (k : ℕ) → k ≤ from → each_of (due_job past c u) (take k past) ≡ []
none_among past c u from none zero low = refl
none_among past c u from none (suc k) low =
    let one : suc k ≡ k + 1 = omega arith in
    let here : option_and_then (λ (e : Entry). due_job past c u e.what) (slice_get past k) ≡ None =
    subst (λ (es : List Entry). option_and_then (λ (e : Entry). due_job es c u e.what) (slice_get past k) ≡ None) (take-length past) (none k c u (omega arith)) in
    let next : each_of (due_job past c u) (take (k + 1) past) ≡ each_of (due_job past c u) (take k past) ++ [] =
    each_of-next (due_job past c u) past k ∙ ap (λ (o : Option ℕ). each_of (due_job past c u) (take k past) ++ cons_option o []) here in
    ap (λ (n : ℕ). each_of (due_job past c u) (take n past)) one
    ∙ next
    ∙ append-nil (each_of (due_job past c u) (take k past))
    ∙ none_among past c u from none k (omega arith)

pub none_pushed : (past : List Entry) (by c n : ℕ) (verdict : Verdict) (u : Bool) (from : ℕ) → NoneDue past from → pushed past by c n verdict u from ≡ []
none_pushed past by c n verdict u from none = ap (λ (js : List ℕ). made_by by (map (λ j. Settled c j verdict) js)) (none_among past c u from none from (omega arith))
