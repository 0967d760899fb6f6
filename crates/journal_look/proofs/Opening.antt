-- Which jobs are open after one more entry, and how jobs were settled.
use Rattle.std.proofs.Common.{◌≡◌, ◌∙◌, ℕ, suc, ◌+◌, ◌<◌, ◌≤◌, List, [], ◌∷◌, ◌++◌, refl, sym, ap, subst, Bool, true, false, not, cond, Option, Some, None, length, take, length-append, append-nil, arith, inl, inr}
use Rattle.std.specs.Prelude.{◌==◌, ◌&&◌, ◌||◌, ◌⊎◌, nat_lt, filter, find, option_map, IfSome}
use Rattle.std.specs.List.{All, list_any, prefix_len, cons_option}
use Rattle.std.specs.Option.{option_or}
use Rattle.std.proofs.lemmas.Bool.Decides.{nat_tests}
use Rattle.std.proofs.lemmas.List.{take-append-le, take_all}
use Rattle.std.proofs.lemmas.List.Elements.{All-nil, All-head, All-tail, All-push, All-filter, All-weaker, filter-append, filter_map-append}
use Rattle.std.proofs.lemmas.List.Folds.{list_any-append, prefix_len-append}
use Rattle.journal_model.specs.declared.verdict.Verdict.{Verdict}
use Rattle.journal_model.specs.declared.entry.What.{What}
use Rattle.journal_model.specs.declared.entry.What.TheVariants.{Claim, Start, NoStart, Lead, Ask, Put, Sent, Mute, Got, End, Verdict as Settled, Lost, Answer as Answered, Note as Noted, Again}
use Rattle.journal_model.specs.declared.entry.Entry.{Entry}
use Rattle.journal_model.specs.Journal.{any, asks, asked_jobs, each_of, first_of, is_open, is_settled, open_jobs, settles, verdict_of}
use Rattle.journal_model.specs.Legality.{has_open_job, job_for}
use Rattle.journal_model.proofs.Looks.{any-append, each_of-append, verdict_of-append, settled_none, open_unsettled}
use Rattle.journal_scan.specs.Looks.{is_hosts}
use Rattle.journal_look.specs.declared.jobs.Open.{Open}
use Rattle.journal_look.specs.declared.jobs.Told.{Told}
use Rattle.journal_look.specs.Opens.{AreNumbered, AreOpen, AreTold, IsAsked, IsTold, closed, is_idle, is_this, job_on, jobs_child, jobs_on, keeps_numbers, opened, touches}
use Rattle.ann_key.proofs.Booleans.{or_left as left_one, true_and_false as true_not_false}
use Rattle.std.proofs.lemmas.Bool.{or_cases as either_one, eqb-true as same_number, ne_eqb as differ, and_parts as both}
use Rattle.ann_key.proofs.Lists.{any_same}
use Rattle.ann_key.proofs.Numbers.{same_number as same}

-- ---- lists and tests

turned : (m n : ℕ) → (m == n) ≡ (n == m)
turned m n = go (m == n) refl
  where
    go : (b : Bool) → (m == n) ≡ b → b ≡ (n == m)
    go true h = let e : m ≡ n = same_number m n h in subst (λ (k : ℕ). true ≡ (n == k)) (sym e) (sym (same n))
    go false h = sym (differ n m (λ (e : n ≡ m). true_not_false (m == n) (subst (λ (k : ℕ). (m == k) ≡ true) (sym e) (same m)) h))

filter_same : {X : Type 0} (p q : X → Bool) → ((x : X) → p x ≡ q x) → (xs : List X) → filter p xs ≡ filter q xs
filter_same p q each [] = refl
filter_same p q each (x ∷ xs) = let here = each x in rw (here, filter_same p q each xs) refl

filter_twice : {X : Type 0} (p q : X → Bool) (xs : List X) → filter q (filter p xs) ≡ filter (λ x. p x && q x) xs
filter_twice p q [] = refl
filter_twice {X = X} p q (x ∷ xs) = go (p x) (filter_twice p q xs)
  where
    go : (b : Bool) → filter q (filter p xs) ≡ filter (λ (y : X). p y && q y) xs
        → filter q (cond b (x ∷ filter p xs) (filter p xs)) ≡ cond (b && q x) (x ∷ filter (λ (y : X). p y && q y) xs) (filter (λ (y : X). p y && q y) xs)
    go true r = ap (λ (l : List X). cond (q x) (x ∷ l) l) r
    go false r = r

-- ---- what one more entry says of the jobs

asked_more : (past : List Entry) (e : Entry) (c : ℕ) → asked_jobs (past ++ e ∷ []) c ≡ asked_jobs past c ++ cons_option (asks c e.what) []
asked_more past e c = each_of-append (asks c) past (e ∷ [])

asked_longer : (past : List Entry) (e : Entry) (c : ℕ) → length (asked_jobs past c) ≤ length (asked_jobs (past ++ e ∷ []) c)
asked_longer past e c =
    let whole = ap length (asked_more past e c) ∙ length-append (asked_jobs past c) (cons_option (asks c e.what) []) in
    omega arith

below : (j n : ℕ) → j < n + 1 → (j < n) ⊎ (j ≡ n)
below j n low = grind arith

settled_now : (past : List Entry) (e : Entry) (c j : ℕ) → is_settled (past ++ e ∷ []) c j ≡ (is_settled past c j || (settles c j e.what || false))
settled_now past e c j = any-append (settles c j) past (e ∷ [])

any_asked : (j : ℕ) (ks : List ℕ) (o : Option ℕ) → ((k : ℕ) → o ≡ Some k → k ≡ length ks)
    → ((i : ℕ) → i < length ks → list_any (λ k. k == i) ks ≡ true) → j < length (ks ++ cons_option o []) → list_any (λ k. k == j) (ks ++ cons_option o []) ≡ true
any_asked j ks None new old low =
    let long = length-append ks [] in
    list_any-append (λ (k : ℕ). k == j) ks [] ∙ left_one (list_any (λ (k : ℕ). k == j) ks) false (old j (omega arith))
any_asked j ks (Some k) new old low =
    let long = length-append ks (k ∷ []) in
    list_any-append (λ (i : ℕ). i == j) ks (k ∷ []) ∙ go (below j (length ks) (omega arith))
  where
    here : k ≡ length ks
    here = new k refl

    go : (j < length ks) ⊎ (j ≡ length ks) → (list_any (λ (i : ℕ). i == j) ks || ((k == j) || false)) ≡ true
    go (inl less) = left_one (list_any (λ (i : ℕ). i == j) ks) ((k == j) || false) (old j less)
    go (inr equal) =
        let is : (k == j) ≡ true = subst (λ (i : ℕ). (k == i) ≡ true) (here ∙ sym equal) (same k) in
        last (list_any (λ (i : ℕ). i == j) ks) (k == j) is
      where
        last : (a b : Bool) → b ≡ true → (a || (b || false)) ≡ true
        last true b h = refl
        last false b h = rw h refl

-- the number that the entry asks, where it keeps to the numbers
asks_next : (c n : ℕ) (w : What) → keeps_numbers n w ≡ true → (k : ℕ) → asks c w ≡ Some k → (jobs_child w ≡ c) × (k ≡ n)
asks_next c n (Ask child job task line) keeps k h = go (child == c) refl h
  where
    go : (b : Bool) → (child == c) ≡ b → cond b (Some job) None ≡ Some k → (child ≡ c) × (k ≡ n)
    go true e h = (same_number child c e, (let is : job ≡ k = cc in sym is ∙ same_number job n keeps))
    go false e h = absurd cc
asks_next c n (Claim task child) keeps k h = absurd cc
asks_next c n (Start child slot offer) keeps k h = absurd cc
asks_next c n (NoStart slot) keeps k h = absurd cc
asks_next c n (Lead child job line) keeps k h = absurd cc
asks_next c n (Put child job line) keeps k h = absurd cc
asks_next c n (Sent child) keeps k h = absurd cc
asks_next c n (Mute child) keeps k h = absurd cc
asks_next c n (Got child line) keeps k h = absurd cc
asks_next c n (End child why) keeps k h = absurd cc
asks_next c n (Settled child job v) keeps k h = absurd cc
asks_next c n (Lost child task) keeps k h = absurd cc
asks_next c n (Answered task answer) keeps k h = absurd cc
asks_next c n (Noted task chunk count) keeps k h = absurd cc
asks_next c n (Again task answer) keeps k h = absurd cc

-- the entry is about a job that was asked, or that it asks
touches_known : (c j : ℕ) (w : What) (xs : List ℕ) → keeps_numbers (length xs) w ≡ true → touches c j w ≡ true → j < length (xs ++ cons_option (asks c w) [])
touches_known c j (Ask child job task line) xs keeps h =
    let number : job ≡ length xs = same_number job (length xs) keeps in
    let equal : job ≡ j = same_number job j parts.1 in
    let asked : (child == c) ≡ true = parts.0 in
    let long : length (xs ++ cons_option (cond (child == c) (Some job) None) []) ≡ length xs + 1 = rw asked (length-append xs (job ∷ [])) in
    omega arith
  where
    go : (b : Bool) → (b || false) ≡ true → b ≡ true
    go true h = refl
    go false h = absurd cc

    parts : ((child == c) ≡ true) × ((job == j) ≡ true)
    parts = both (child == c) (job == j) (go (child == c && job == j) h)
touches_known c j (Put child job line) xs keeps h =
    let less : job < length xs = grind (arith, nat_tests) in
    let equal : job ≡ j = same_number job j parts.1 in
    let long = length-append xs [] in
    omega arith
  where
    go : (b : Bool) → (b || false) ≡ true → b ≡ true
    go true h = refl
    go false h = absurd cc

    parts : ((child == c) ≡ true) × ((job == j) ≡ true)
    parts = both (child == c) (job == j) (go (child == c && job == j) h)
touches_known c j (Settled child job v) xs keeps h =
    let less : job < length xs = grind (arith, nat_tests) in
    let equal : job ≡ j = same_number job j parts.1 in
    let long = length-append xs [] in
    omega arith
  where
    parts : ((child == c) ≡ true) × ((job == j) ≡ true)
    parts = both (child == c) (job == j) h
touches_known c j (Claim task child) xs keeps h = absurd cc
touches_known c j (Start child slot offer) xs keeps h = absurd cc
touches_known c j (NoStart slot) xs keeps h = absurd cc
touches_known c j (Lead child job line) xs keeps h = absurd cc
touches_known c j (Sent child) xs keeps h = absurd cc
touches_known c j (Mute child) xs keeps h = absurd cc
touches_known c j (Got child line) xs keeps h = absurd cc
touches_known c j (End child why) xs keeps h = absurd cc
touches_known c j (Lost child task) xs keeps h = absurd cc
touches_known c j (Answered task answer) xs keeps h = absurd cc
touches_known c j (Noted task chunk count) xs keeps h = absurd cc
touches_known c j (Again task answer) xs keeps h = absurd cc

-- the entry keeps to the numbers of its child
abbrev Keeps : List Entry → What → Type 0
Keeps past w = keeps_numbers (length (asked_jobs past (jobs_child w))) w ≡ true

numbers_more : (past : List Entry) (e : Entry) → Keeps past e.what → AreNumbered past → AreNumbered (past ++ e ∷ [])
numbers_more past e keeps are = record {
  asked = λ c j low.
      subst (λ (ks : List ℕ). list_any (λ k. k == j) ks ≡ true) (sym (asked_more past e c))
      (any_asked j (asked_jobs past c) (asks c e.what)
      (λ k h.
      let next = asks_next c (length (asked_jobs past (jobs_child e.what))) e.what keeps k h in
      next.1 ∙ ap (λ (d : ℕ). length (asked_jobs past d)) next.0)
      (are.asked c)
      (subst (λ (ks : List ℕ). j < length ks) (asked_more past e c) low));
  touched = λ c j h. here c j (either_one (any (touches c j) past) (touches c j e.what || false) (sym (any-append (touches c j) past (e ∷ [])) ∙ h));
}
  where
    plain : (b : Bool) → (b || false) ≡ true → b ≡ true
    plain true h = refl
    plain false h = absurd cc

    of_child : (c j : ℕ) → touches c j e.what ≡ true → (is : jobs_child e.what ≡ c) → keeps_numbers (length (asked_jobs past c)) e.what ≡ true
    of_child c j h is = subst (λ (d : ℕ). keeps_numbers (length (asked_jobs past d)) e.what ≡ true) is keeps

    child_of : (c j : ℕ) → touches c j e.what ≡ true → jobs_child e.what ≡ c
    child_of c j h = go e.what h
      where
        go : (w : What) → touches c j w ≡ true → jobs_child w ≡ c
        go (Ask child job task line) h = same_number child c ((both (child == c) (job == j) (plain (child == c && job == j) h)).0)
        go (Put child job line) h = same_number child c ((both (child == c) (job == j) (plain (child == c && job == j) h)).0)
        go (Settled child job v) h = same_number child c ((both (child == c) (job == j) h).0)
        go (Claim task child) h = absurd cc
        go (Start child slot offer) h = absurd cc
        go (NoStart slot) h = absurd cc
        go (Lead child job line) h = absurd cc
        go (Sent child) h = absurd cc
        go (Mute child) h = absurd cc
        go (Got child line) h = absurd cc
        go (End child why) h = absurd cc
        go (Lost child task) h = absurd cc
        go (Answered task answer) h = absurd cc
        go (Noted task chunk count) h = absurd cc
        go (Again task answer) h = absurd cc

    here : (c j : ℕ) → (any (touches c j) past ≡ true) ⊎ ((touches c j e.what || false) ≡ true) → j < length (asked_jobs (past ++ e ∷ []) c)
    here c j (inl h) = let low = are.touched c j h in let long = asked_longer past e c in omega arith
    here c j (inr h) =
        let now : touches c j e.what ≡ true = plain (touches c j e.what) h in
        let known = touches_known c j e.what (asked_jobs past c) (of_child c j now (child_of c j now)) now in
        subst (λ (ks : List ℕ). j < length ks) (sym (asked_more past e c)) known

-- a job that wasn't asked so far was not touched
untouched : (past : List Entry) (c j : ℕ) → AreNumbered past → j ≡ length (asked_jobs past c) → any (touches c j) past ≡ false
untouched past c j are equal = go (any (touches c j) past) refl
  where
    go : (b : Bool) → any (touches c j) past ≡ b → any (touches c j) past ≡ false
    go true h = absurd (omega (arith, are.touched c j h))
    go false h = h

not_either : (c j : ℕ) (past : List Entry) → any (touches c j) past ≡ false → (any (is_hosts c j) past ≡ false) × (is_settled past c j ≡ false)
not_either c j [] h = (refl, refl)
not_either c j (e ∷ past) h = go (is_hosts c j e.what) (settles c j e.what) h (not_either c j past)
  where
    go : (a b : Bool) → ((a || b) || any (touches c j) past) ≡ false
        → (any (touches c j) past ≡ false → (any (is_hosts c j) past ≡ false) × (is_settled past c j ≡ false))
        → ((a || any (is_hosts c j) past) ≡ false) × ((b || is_settled past c j) ≡ false)
    go true b h r = absurd cc
    go false true h r = absurd cc
    go false false h r = r h

-- the settled jobs are those before, and the one that the entry settles
open_by : (past : List Entry) (e : Entry) (c : ℕ)
    → open_jobs (past ++ e ∷ []) c ≡ filter (λ j. not (settles c j e.what)) (open_jobs past c) ++ filter (λ j. not (is_settled past c j || settles c j e.what)) (cons_option (asks c e.what) [])
open_by past e c =
    ap (filter (λ (j : ℕ). not (is_settled (past ++ e ∷ []) c j))) (asked_more past e c)
    ∙ filter_same (λ (j : ℕ). not (is_settled (past ++ e ∷ []) c j)) (λ (j : ℕ). not (is_settled past c j || settles c j e.what)) (λ j. ap not (settled_now past e c j ∙ ap (λ (b : Bool). is_settled past c j || b) (right (settles c j e.what)))) (asked_jobs past c ++ cons_option (asks c e.what) [])
    ∙ filter-append (λ (j : ℕ). not (is_settled past c j || settles c j e.what)) (asked_jobs past c) (cons_option (asks c e.what) [])
    ∙ ap (λ (l : List ℕ). l ++ filter (λ (j : ℕ). not (is_settled past c j || settles c j e.what)) (cons_option (asks c e.what) []))
    (filter_same (λ (j : ℕ). not (is_settled past c j || settles c j e.what)) (λ (j : ℕ). not (is_settled past c j) && not (settles c j e.what)) (λ j. neither (is_settled past c j) (settles c j e.what)) (asked_jobs past c)
    ∙ sym (filter_twice (λ (j : ℕ). not (is_settled past c j)) (λ (j : ℕ). not (settles c j e.what)) (asked_jobs past c)))
  where
    right : (b : Bool) → (b || false) ≡ b
    right true = refl
    right false = refl

    neither : (a b : Bool) → not (a || b) ≡ (not a && not b)
    neither true b = refl
    neither false b = refl

-- ---- the first entry of a job

pub none_first : (p : What → Bool) (past : List Entry) → any p past ≡ false → prefix_len (λ (e : Entry). not (p e.what)) past ≡ length past
none_first p [] h = refl
none_first p (e ∷ past) h = go (p e.what) h (none_first p past)
  where
    go : (b : Bool) → (b || any p past) ≡ false
        → (any p past ≡ false → prefix_len (λ (d : Entry). not (p d.what)) past ≡ length past)
        → cond (not b) (1 + prefix_len (λ (d : Entry). not (p d.what)) past) 0 ≡ suc (length past)
    go true h r = absurd cc
    go false h r = let rest = r h in omega arith

-- the entry asks no job that was asked before
other_job : (past : List Entry) (w : What) (x : Open) (t : ℕ) → Keeps past w → x.job < length (asked_jobs past x.child) → list_any (λ q. is_this q.0 q.1 x) (cons_option (job_for t w) []) ≡ false
other_job past (Ask child job task line) x t keeps low = go (task == t)
  where
    apart : (b : Bool) → is_this child job x ≡ b → (is_this child job x || false) ≡ false
    apart false h = rw h refl
    apart true h =
        let parts = both (x.child == child) (x.job == job) h in
        let of_child : x.child ≡ child = same_number x.child child parts.0 in
        let of_job : x.job ≡ job = same_number x.job job parts.1 in
        let number : job ≡ length (asked_jobs past child) = same_number job (length (asked_jobs past child)) keeps in
        let low_here : x.job < length (asked_jobs past child) = subst (λ (d : ℕ). x.job < length (asked_jobs past d)) of_child low in
        absurd (omega arith)

    go : (b : Bool) → list_any (λ (q : ℕ × ℕ). is_this q.0 q.1 x) (cons_option (cond b (Some (child, job)) None) []) ≡ false
    go true = apart (is_this child job x) refl
    go false = refl
other_job past w x t keeps low = refl

asked_for_more : (past : List Entry) (e : Entry) (x : Open) (t : ℕ)
    → list_any (λ q. is_this q.0 q.1 x) (each_of (job_for t) (past ++ e ∷ [])) ≡ (list_any (λ q. is_this q.0 q.1 x) (each_of (job_for t) past) || list_any (λ q. is_this q.0 q.1 x) (cons_option (job_for t e.what) []))
asked_for_more past e x t =
    ap (list_any (λ (q : ℕ × ℕ). is_this q.0 q.1 x)) (each_of-append (job_for t) past (e ∷ []))
    ∙ list_any-append (λ (q : ℕ × ℕ). is_this q.0 q.1 x) (each_of (job_for t) past) (cons_option (job_for t e.what) [])

first_more : (past : List Entry) (e : Entry) → Keeps past e.what → (x : Open) → IsAsked past x → IsAsked (past ++ e ∷ []) x
first_more past e keeps x is = record {
  place =
      let within = is.within in
      let place = is.place in
      let apart : (prefix_len (λ (d : Entry). not (is_hosts x.child x.job d.what)) past == length past) ≡ false = differ (prefix_len (λ (d : Entry). not (is_hosts x.child x.job d.what)) past) (length past) (λ h. absurd (omega arith)) in
      prefix_len-append (λ (d : Entry). not (is_hosts x.child x.job d.what)) past (e ∷ [])
      ∙ (rw apart is.place);
  within = let within = is.within in let long = length-append past (e ∷ []) in omega arith;
  low = let low = is.low in let long = asked_longer past e x.child in omega arith;
  task = λ t. asked_for_more past e x t ∙ ap (λ (b : Bool). list_any (λ (q : ℕ × ℕ). is_this q.0 q.1 x) (each_of (job_for t) past) || b) (other_job past e.what x t keeps is.low) ∙ plain (list_any (λ (q : ℕ × ℕ). is_this q.0 q.1 x) (each_of (job_for t) past)) ∙ is.task t;
  alone = λ so.
      let within = is.within in
      ap (λ (es : List Entry). first_of (open_jobs es x.child)) (take-append-le (x.at + 1) past (e ∷ []) (omega arith)) ∙ is.alone so;
}
  where
    plain : (b : Bool) → (b || false) ≡ b
    plain true = refl
    plain false = refl

-- a job that no entry is about was asked for no task
none_asked : (c j : ℕ) (x : Open) (t : ℕ) → x.child ≡ c → x.job ≡ j → (past : List Entry) → any (touches c j) past ≡ false → list_any (λ q. is_this q.0 q.1 x) (each_of (job_for t) past) ≡ false
none_asked c j x t of_child of_job [] h = refl
none_asked c j x t of_child of_job (e ∷ past) h = go e.what h (none_asked c j x t of_child of_job past)
  where
    go : (w : What) → (touches c j w || any (touches c j) past) ≡ false → (any (touches c j) past ≡ false → list_any (λ (q : ℕ × ℕ). is_this q.0 q.1 x) (each_of (job_for t) past) ≡ false)
        → list_any (λ (q : ℕ × ℕ). is_this q.0 q.1 x) (cons_option (job_for t w) (each_of (job_for t) past)) ≡ false
    go (Ask child job task line) h r = two (task == t)
      where
        rest : any (touches c j) past ≡ false
        rest = right (child == c && job == j) h
          where
            right : (b : Bool) → ((b || false) || any (touches c j) past) ≡ false → any (touches c j) past ≡ false
            right true h = absurd cc
            right false h = h

        apart : is_this child job x ≡ false
        apart = three (is_this child job x) refl
          where
            three : (b : Bool) → is_this child job x ≡ b → is_this child job x ≡ false
            three false k = k
            three true k =
                let parts = both (x.child == child) (x.job == job) k in
                let a : child ≡ c = sym (same_number x.child child parts.0) ∙ of_child in
                let b : job ≡ j = sym (same_number x.job job parts.1) ∙ of_job in
                let yes : (child == c && job == j) ≡ true = subst (λ (d : ℕ). (d == c && job == j) ≡ true) (sym a) (subst (λ (i : ℕ). (c == c && i == j) ≡ true) (sym b) (let p = same c in let q = same j in rw (p, q) refl)) in
                absurd (clash (child == c && job == j) yes h)
              where
                clash : (b : Bool) → b ≡ true → ((b || false) || any (touches c j) past) ≡ false → ⊥
                clash true e h = absurd cc
                clash false e h = absurd cc

        two : (b : Bool) → list_any (λ (q : ℕ × ℕ). is_this q.0 q.1 x) (cons_option (cond b (Some (child, job)) None) (each_of (job_for t) past)) ≡ false
        two true = rw apart (r rest)
        two false = r rest
    go w h r = r (right (touches c j w) h)
      where
        right : (b : Bool) → (b || any (touches c j) past) ≡ false → any (touches c j) past ≡ false
        right true h = absurd cc
        right false h = h

first_now : (past : List Entry) (by child job task : ℕ) (line : List ℕ) → Keeps past (Ask child job task line) → AreNumbered past
    → (alone : Bool) → (alone ≡ true → open_jobs past child ≡ [])
    → IsAsked (past ++ record { by = by; what = Ask child job task line } ∷ []) (record { child = child; job = job; task = task; at = length past; alone = alone })
first_now past by child job task line keeps are alone idle = record {
  place =
      let whole = none_first (is_hosts child job) past (not_either child job past untold).0 in
      let equal : (prefix_len (λ (d : Entry). not (is_hosts child job d.what)) past == length past) ≡ true = subst (λ (n : ℕ). (n == length past) ≡ true) (sym whole) (same (length past)) in
      prefix_len-append (λ (d : Entry). not (is_hosts child job d.what)) past (e ∷ [])
      ∙ (rw (equal, here) (let zero_more : length past + 0 ≡ length past = omega arith in zero_more));
  within = let long = length-append past (e ∷ []) in omega arith;
  low =
      let asked : (child == child) ≡ true = same child in
      let long : length (asked_jobs past child ++ cons_option (cond (child == child) (Some job) None) []) ≡ length (asked_jobs past child) + 1 = rw asked (length-append (asked_jobs past child) (job ∷ [])) in
      let whole : length (asked_jobs (past ++ e ∷ []) child) ≡ length (asked_jobs past child) + 1 = ap length (asked_more past e child) ∙ long in
      let here = number in
      omega arith;
  task = λ t.
      asked_for_more past e x t
      ∙ ap (λ (b : Bool). b || list_any (λ (q : ℕ × ℕ). is_this q.0 q.1 x) (cons_option (job_for t (Ask child job task line)) [])) (none_asked child job x t refl refl past untold)
      ∙ last t (task == t) refl;
  alone = λ so.
      let long = length-append past (e ∷ []) in
      let whole : take (length past + 1) (past ++ e ∷ []) ≡ past ++ e ∷ [] = take_all (length past + 1) (past ++ e ∷ []) (omega arith) in
      ap (λ (es : List Entry). first_of (open_jobs es child)) whole
      ∙ ap first_of (open_by past e child)
      ∙ ap (λ (ks : List ℕ). first_of (filter (λ (j : ℕ). true) ks ++ filter (λ (j : ℕ). not (is_settled past child j || false)) (cons_option (asks child (Ask child job task line)) []))) (idle so)
      ∙ (let own = same child in let unsettled = (not_either child job past untold).1 in rw (own, unsettled) refl);
}
  where
    e : Entry
    e = record { by = by; what = Ask child job task line }

    x : Open
    x = record { child = child; job = job; task = task; at = length past; alone = alone }

    number : job ≡ length (asked_jobs past child)
    number = same_number job (length (asked_jobs past child)) keeps

    untold : any (touches child job) past ≡ false
    untold = untouched past child job are number

    here : is_hosts child job (Ask child job task line) ≡ true
    here = let p = same child in let q = same job in rw (p, q) refl

    last : (t : ℕ) (b : Bool) → (task == t) ≡ b → list_any (λ (q : ℕ × ℕ). is_this q.0 q.1 x) (cons_option (cond (task == t) (Some (child, job)) None) []) ≡ (task == t)
    last t true h = let p = same child in let q = same job in rw h (rw (p, q) refl)
    last t false h = rw h refl

-- ---- the open jobs

all_kept : (ks : List ℕ) → filter (λ (j : ℕ). true) ks ≡ ks
all_kept [] = refl
all_kept (k ∷ ks) = ap (λ (l : List ℕ). k ∷ l) (all_kept ks)

jobs_closed : (c child job : ℕ) (jobs : List Open) → jobs_on c (closed child job jobs) ≡ filter (λ j. not (child == c && job == j)) (jobs_on c jobs)
jobs_closed c child job [] = refl
jobs_closed c child job (x ∷ jobs) = go (x.child == c) refl (jobs_closed c child job jobs)
  where
    rest : List ℕ
    rest = jobs_on c (closed child job jobs)

    go : (b : Bool) → (x.child == c) ≡ b → rest ≡ filter (λ (j : ℕ). not (child == c && job == j)) (jobs_on c jobs)
        → jobs_on c (cond (not (x.child == child && x.job == job)) (x ∷ closed child job jobs) (closed child job jobs))
        ≡ filter (λ (j : ℕ). not (child == c && job == j)) (cons_option (cond (x.child == c) (Some x.job) None) (jobs_on c jobs))
    go false e r = rw e (two (x.child == child && x.job == job))
      where
        two : (b : Bool) → jobs_on c (cond (not b) (x ∷ closed child job jobs) (closed child job jobs)) ≡ filter (λ (j : ℕ). not (child == c && job == j)) (jobs_on c jobs)
        two true = r
        two false = rw e r
    go true e r =
        let is : x.child ≡ c = same_number x.child c e in
        let swapped : (x.child == child && x.job == job) ≡ (child == c && job == x.job) = subst (λ (k : ℕ). (k == child && x.job == job) ≡ (child == c && job == x.job)) (sym is)
        (pair (turned c child) (turned x.job job)) in
        rw e (rw swapped (two (child == c && job == x.job) refl))
      where
        pair : {a b c d : Bool} → a ≡ b → c ≡ d → (a && c) ≡ (b && d)
        pair h k = rw (h, k) refl

        two : (b : Bool) → (child == c && job == x.job) ≡ b
            → jobs_on c (cond (not b) (x ∷ closed child job jobs) (closed child job jobs))
            ≡ cond (not b) (x.job ∷ filter (λ (j : ℕ). not (child == c && job == j)) (jobs_on c jobs)) (filter (λ (j : ℕ). not (child == c && job == j)) (jobs_on c jobs))
        two true h = r
        two false h = rw e (ap (λ (l : List ℕ). x.job ∷ l) r)

opened_on : (past : List Entry) (w : What) (jobs : List Open) → Keeps past w → AreOpen past jobs → (c : ℕ)
    → jobs_on c (opened (length past) w jobs) ≡ filter (λ j. not (settles c j w)) (open_jobs past c) ++ filter (λ j. not (is_settled past c j || settles c j w)) (cons_option (asks c w) [])
opened_on past (Ask child job task line) jobs keeps are c =
    filter_map-append (job_on c) jobs (record { child = child; job = job; task = task; at = length past; alone = is_idle child jobs } ∷ [])
    ∙ ap (λ (l : List ℕ). l ++ cons_option (cond (child == c) (Some job) None) []) (are.each c ∙ sym (all_kept (open_jobs past c)))
    ∙ ap (λ (l : List ℕ). filter (λ (j : ℕ). true) (open_jobs past c) ++ l) (go (child == c) refl)
  where
    go : (b : Bool) → (child == c) ≡ b → cons_option (cond b (Some job) None) [] ≡ filter (λ (j : ℕ). not (is_settled past c j || false)) (cons_option (cond b (Some job) None) [])
    go false e = refl
    go true e =
        let is : child ≡ c = same_number child c e in
        let number : job ≡ length (asked_jobs past c) = subst (λ (d : ℕ). job ≡ length (asked_jobs past d)) is (same_number job (length (asked_jobs past child)) keeps) in
        let open_yet : is_settled past c job ≡ false = (not_either c job past (untouched past c job are.numbered number)).1 in
        rw open_yet refl
opened_on past (Settled child job v) jobs keeps are c =
    jobs_closed c child job jobs
    ∙ ap (filter (λ (j : ℕ). not (child == c && job == j))) (are.each c)
    ∙ sym (append-nil (filter (λ (j : ℕ). not (child == c && job == j)) (open_jobs past c)))
opened_on past w jobs keeps are c =
    are.each c ∙ sym (all_kept (open_jobs past c)) ∙ sym (append-nil (filter (λ (j : ℕ). true) (open_jobs past c)))

-- a child of which the table has no job
idle_none : (c : ℕ) (jobs : List Open) → is_idle c jobs ≡ true → jobs_on c jobs ≡ []
idle_none c [] h = refl
idle_none c (x ∷ jobs) h = go (x.child == c) h (idle_none c jobs)
  where
    go : (b : Bool) → not (b || list_any (λ (y : Open). y.child == c) jobs) ≡ true → (is_idle c jobs ≡ true → jobs_on c jobs ≡ [])
        → cons_option (cond b (Some x.job) None) (jobs_on c jobs) ≡ []
    go true h r = absurd cc
    go false h r = r h

firsts : (past : List Entry) (e : Entry) (jobs : List Open) → Keeps past e.what → AreOpen past jobs → All (IsAsked (past ++ e ∷ [])) (opened (length past) e.what jobs)
firsts past e jobs keeps are = go e.by e.what keeps (All-weaker (IsAsked past) (IsAsked (past ++ e ∷ [])) (first_more past e keeps) jobs are.first)
  where
    go : (by : ℕ) (w : What) → Keeps past w → All (IsAsked (past ++ record { by = by; what = w } ∷ [])) jobs → All (IsAsked (past ++ record { by = by; what = w } ∷ [])) (opened (length past) w jobs)
    go by (Ask child job task line) keeps all =
        All-push (IsAsked (past ++ record { by = by; what = Ask child job task line } ∷ [])) jobs (record { child = child; job = job; task = task; at = length past; alone = is_idle child jobs }) all
        (first_now past by child job task line keeps are.numbered (is_idle child jobs) (λ so. sym (are.each child) ∙ idle_none child jobs so))
    go by (Settled child job v) keeps all =
        All-filter (λ (x : Open). not (is_this child job x)) (IsAsked (past ++ record { by = by; what = Settled child job v } ∷ [])) jobs all
    go by w keeps all = all

pub open_more : (past : List Entry) (e : Entry) (jobs : List Open) → Keeps past e.what → AreOpen past jobs → AreOpen (past ++ e ∷ []) (opened (length past) e.what jobs)
open_more past e jobs keeps are = record {
  numbered = numbers_more past e keeps are.numbered;
  each = λ c. opened_on past e.what jobs keeps are c ∙ sym (open_by past e c);
  first = firsts past e jobs keeps are;
}

pub none_open : AreOpen [] []
none_open = record {
  numbered = record { asked = λ c j low. absurd (omega (arith, low)); touched = λ c j h. absurd cc };
  each = λ c. refl;
  first = All-nil (IsAsked []);
}

-- ---- questions

pub is_open_here : (past : List Entry) (jobs : List Open) (c j : ℕ) → AreOpen past jobs → list_any (is_this c j) jobs ≡ is_open past c j
is_open_here past jobs c j are = go jobs ∙ ap (list_any (λ (k : ℕ). k == j)) (are.each c)
  where
    go : (xs : List Open) → list_any (is_this c j) xs ≡ list_any (λ (k : ℕ). k == j) (jobs_on c xs)
    go [] = refl
    go (x ∷ xs) = two (x.child == c) (go xs)
      where
        two : (b : Bool) → list_any (is_this c j) xs ≡ list_any (λ (k : ℕ). k == j) (jobs_on c xs)
            → ((b && x.job == j) || list_any (is_this c j) xs) ≡ list_any (λ (k : ℕ). k == j) (cons_option (cond b (Some x.job) None) (jobs_on c xs))
        two true r = ap (λ (o : Bool). (x.job == j) || o) r
        two false r = r

pub first_open_here : (past : List Entry) (jobs : List Open) (c : ℕ) → AreOpen past jobs → option_map (λ (x : Open). x.job) (find (λ x. x.child == c) jobs) ≡ first_of (open_jobs past c)
first_open_here past jobs c are = go jobs ∙ ap first_of (are.each c)
  where
    go : (xs : List Open) → option_map (λ (x : Open). x.job) (find (λ (x : Open). x.child == c) xs) ≡ first_of (jobs_on c xs)
    go [] = refl
    go (x ∷ xs) = two (x.child == c) (go xs)
      where
        two : (b : Bool) → option_map (λ (y : Open). y.job) (find (λ (y : Open). y.child == c) xs) ≡ first_of (jobs_on c xs)
            → option_map (λ (y : Open). y.job) (cond b (Some x) (find (λ (y : Open). y.child == c) xs)) ≡ first_of (cons_option (cond b (Some x.job) None) (jobs_on c xs))
        two true r = refl
        two false r = r

-- an open job has no verdict
pub open_told : (past : List Entry) (jobs : List Open) (c j : ℕ) → AreOpen past jobs → list_any (is_this c j) jobs ≡ true → verdict_of past c j ≡ None
open_told past jobs c j are h = settled_none past c j (open_unsettled past c j (sym (is_open_here past jobs c j are) ∙ h))

pub open_none : (past : List Entry) (c j : ℕ) → is_open past c j ≡ true → verdict_of past c j ≡ None
open_none past c j h = settled_none past c j (open_unsettled past c j h)

-- a job was asked where its number is small
pub asked_here : (past : List Entry) (jobs : List Open) (c j : ℕ) → AreOpen past jobs → nat_lt j (length (asked_jobs past c)) ≡ list_any (λ k. k == j) (asked_jobs past c)
asked_here past jobs c j are = go (nat_lt j (length (asked_jobs past c))) refl (list_any (λ (k : ℕ). k == j) (asked_jobs past c)) refl
  where
    touched : (es : List Entry) → list_any (λ (k : ℕ). k == j) (asked_jobs es c) ≡ true → any (touches c j) es ≡ true
    touched [] h = absurd cc
    touched (e ∷ es) h = by_what e.what h (touched es)
      where
        by_what : (w : What) → list_any (λ (k : ℕ). k == j) (cons_option (asks c w) (asked_jobs es c)) ≡ true
            → (list_any (λ (k : ℕ). k == j) (asked_jobs es c) ≡ true → any (touches c j) es ≡ true) → (touches c j w || any (touches c j) es) ≡ true
        by_what (Ask child job task line) h r = two (child == c) h
          where
            two : (b : Bool) → list_any (λ (k : ℕ). k == j) (cons_option (cond b (Some job) None) (asked_jobs es c)) ≡ true → (((b && job == j) || false) || any (touches c j) es) ≡ true
            two true h = three (job == j) h
              where
                three : (b : Bool) → (b || list_any (λ (k : ℕ). k == j) (asked_jobs es c)) ≡ true → ((b || false) || any (touches c j) es) ≡ true
                three true h = refl
                three false h = r h
            two false h = r h
        by_what w h r = right (touches c j w) (any (touches c j) es) (r h)
          where
            right : (a b : Bool) → b ≡ true → (a || b) ≡ true
            right true b h = refl
            right false b h = h

    go : (a : Bool) → nat_lt j (length (asked_jobs past c)) ≡ a → (b : Bool) → list_any (λ (k : ℕ). k == j) (asked_jobs past c) ≡ b → nat_lt j (length (asked_jobs past c)) ≡ list_any (λ (k : ℕ). k == j) (asked_jobs past c)
    go true h true k = h ∙ sym k
    go false h false k = h ∙ sym k
    go true h false k = let low : j < length (asked_jobs past c) = grind (arith, nat_tests) in true_not_false (list_any (λ (i : ℕ). i == j) (asked_jobs past c)) (are.numbered.asked c j low) k
    go false h true k = let low = are.numbered.touched c j (touched past k) in let yes : nat_lt j (length (asked_jobs past c)) ≡ true = grind (arith, nat_tests) in true_not_false (nat_lt j (length (asked_jobs past c))) yes h

-- ---- how jobs were settled

pub told_more : (past : List Entry) (e : Entry) (told : List Told) → AreTold past told → AreTold (past ++ e ∷ []) told
told_more past e told are = All-weaker (IsTold past) (IsTold (past ++ e ∷ [])) more told are
  where
    more : (x : Told) → IsTold past x → IsTold (past ++ e ∷ []) x
    more x h = verdict_of-append x.child x.job past (e ∷ []) ∙ ap (λ (o : Option Verdict). option_or o (verdict_of (e ∷ []) x.child x.job)) h

pub told_now : (past : List Entry) (jobs : List Open) (e : Entry) (c j : ℕ) (v : Verdict) → AreOpen past jobs → list_any (is_this c j) jobs ≡ true → e.what ≡ Settled c j v
    → IsTold (past ++ e ∷ []) (record { child = c; job = j; verdict = v })
told_now past jobs e c j v are h w =
    verdict_of-append c j past (e ∷ [])
    ∙ ap (λ (o : Option Verdict). option_or o (verdict_of (e ∷ []) c j)) (open_told past jobs c j are h)
    ∙ (rw w (let here = same c in let there = same j in rw (here, there) refl))

pub told_found : (past : List Entry) (told : List Told) (c j : ℕ) (x : Told) → AreTold past told → find (λ x. x.child == c && x.job == j) told ≡ Some x → verdict_of past c j ≡ Some x.verdict
told_found past [] c j x are h = absurd cc
told_found past (y ∷ told) c j x are h = go (y.child == c && y.job == j) refl h (told_found past told c j x (All-tail (IsTold past) y told are))
  where
    go : (b : Bool) → (y.child == c && y.job == j) ≡ b → cond b (Some y) (find (λ (z : Told). z.child == c && z.job == j) told) ≡ Some x
        → (find (λ (z : Told). z.child == c && z.job == j) told ≡ Some x → verdict_of past c j ≡ Some x.verdict) → verdict_of past c j ≡ Some x.verdict
    go false e h r = r h
    go true e h r =
        let parts = both (y.child == c) (y.job == j) e in
        let is : y ≡ x = cc in
        let here : verdict_of past y.child y.job ≡ Some y.verdict = All-head (IsTold past) y told are in
        let of_child : y.child ≡ c = same_number y.child c parts.0 in
        let of_job : y.job ≡ j = same_number y.job j parts.1 in
        cc

pub open_after : (past : List Entry) (e : Entry) (w : What) (n at : ℕ) (old new : List Open) → e.what ≡ w → length past ≡ at → n ≡ length (asked_jobs past (jobs_child w))
    → keeps_numbers n w ≡ true → new ≡ opened at w old → AreOpen past old → AreOpen (past ++ e ∷ []) new
open_after past e w n at old new is place count keeps made are =
    let whole : new ≡ opened (length past) e.what old = made ∙ ap (λ (k : ℕ). opened k w old) (sym place) ∙ ap (λ (v : What). opened (length past) v old) (sym is) in
    let numbers : Keeps past e.what = subst (λ (v : What). keeps_numbers (length (asked_jobs past (jobs_child v))) v ≡ true) (sym is) (subst (λ (k : ℕ). keeps_numbers k w ≡ true) count keeps) in
    subst (λ (l : List Open). AreOpen (past ++ e ∷ []) l) (sym whole) (open_more past e old numbers are)

pub if_some : {X : Type 0} {P Q : X → Type 0} (o : Option X) → IfSome o P → ((x : X) → P x → Q x) → IfSome o Q
if_some None h f = h
if_some (Some x) h f = f x h

-- ---- open jobs of a task, and the place of a job's first line

any_any : {X Y : Type 0} (r : X → Y → Bool) (xs : List X) (ys : List Y) → list_any (λ x. list_any (r x) ys) xs ≡ list_any (λ y. list_any (λ x. r x y) xs) ys
any_any {X = X} {Y = Y} r [] ys = sym (none ys)
  where
    none : (ys : List Y) → list_any (λ (y : Y). false) ys ≡ false
    none [] = refl
    none (y ∷ ys) = none ys
any_any {X = X} {Y = Y} r (x ∷ xs) ys = ap (λ (b : Bool). list_any (r x) ys || b) (any_any r xs ys) ∙ joined ys
  where
    four : (a b c d : Bool) → ((a || b) || (c || d)) ≡ ((a || c) || (b || d))
    four true b c d = refl
    four false true true d = refl
    four false true false d = refl
    four false false true d = refl
    four false false false d = refl

    joined : (ys : List Y) → (list_any (r x) ys || list_any (λ (y : Y). list_any (λ (z : X). r z y) xs) ys) ≡ list_any (λ (y : Y). r x y || list_any (λ (z : X). r z y) xs) ys
    joined [] = refl
    joined (y ∷ ys) = four (r x y) (list_any (r x) ys) (list_any (λ (z : X). r z y) xs) (list_any (λ (w : Y). list_any (λ (z : X). r z w) xs) ys) ∙ ap (λ (b : Bool). (r x y || list_any (λ (z : X). r z y) xs) || b) (joined ys)

pub task_open_here : (past : List Entry) (jobs : List Open) (t : ℕ) → AreOpen past jobs → list_any (λ x. x.task == t) jobs ≡ has_open_job past t
task_open_here past jobs t are =
    sym (
    any_same (λ (q : ℕ × ℕ). is_open past q.0 q.1) (λ (q : ℕ × ℕ). list_any (is_this q.0 q.1) jobs) (λ q. sym (is_open_here past jobs q.0 q.1 are)) (each_of (job_for t) past)
    ∙ any_any (λ (q : ℕ × ℕ) (x : Open). is_this q.0 q.1 x) (each_of (job_for t) past) jobs
    ∙ by_each jobs are.first)
  where
    by_each : (xs : List Open) → All (IsAsked past) xs → list_any (λ (x : Open). list_any (λ (q : ℕ × ℕ). is_this q.0 q.1 x) (each_of (job_for t) past)) xs ≡ list_any (λ (x : Open). x.task == t) xs
    by_each [] all = refl
    by_each (x ∷ xs) all = let here = (All-head (IsAsked past) x xs all).task t in rw (here, by_each xs (All-tail (IsAsked past) x xs all)) refl

pub place_here : (past : List Entry) (jobs : List Open) (c j : ℕ) (x : Open) → AreOpen past jobs → find (is_this c j) jobs ≡ Some x → x.at ≡ prefix_len (λ e. not (is_hosts c j e.what)) past
place_here past jobs c j x are h = go jobs are.first h
  where
    go : (xs : List Open) → All (IsAsked past) xs → find (is_this c j) xs ≡ Some x → x.at ≡ prefix_len (λ (e : Entry). not (is_hosts c j e.what)) past
    go [] all h = absurd cc
    go (y ∷ xs) all h = two (is_this c j y) refl h (go xs (All-tail (IsAsked past) y xs all))
      where
        two : (b : Bool) → is_this c j y ≡ b → cond b (Some y) (find (is_this c j) xs) ≡ Some x → (find (is_this c j) xs ≡ Some x → x.at ≡ prefix_len (λ (e : Entry). not (is_hosts c j e.what)) past)
            → x.at ≡ prefix_len (λ (e : Entry). not (is_hosts c j e.what)) past
        two false k h r = r h
        two true k h r =
            let parts = both (y.child == c) (y.job == j) k in
            let is : y ≡ x = cc in
            let place : prefix_len (λ (e : Entry). not (is_hosts y.child y.job e.what)) past ≡ y.at = (All-head (IsAsked past) y xs all).place in
            let of_child : y.child ≡ c = same_number y.child c parts.0 in
            let of_job : y.job ≡ j = same_number y.job j parts.1 in
            sym (
            subst (λ (i : ℕ). prefix_len (λ (e : Entry). not (is_hosts c i e.what)) past ≡ x.at) of_job
            (subst (λ (d : ℕ). prefix_len (λ (e : Entry). not (is_hosts d y.job e.what)) past ≡ x.at) of_child
            (subst (λ (z : Open). prefix_len (λ (e : Entry). not (is_hosts y.child y.job e.what)) past ≡ z.at) is place)))
