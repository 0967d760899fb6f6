-- No job that an end or a mute settles was asked before the first place of the open jobs.
use Rattle.std.proofs.Common.{◌≡◌, ◌∙◌, ℕ, zero, suc, ◌+◌, ◌<◌, ◌≤◌, List, [], ◌∷◌, refl, sym, ap, subst, Bool, true, false, not, cond, Option, Some, None, length, take, arith, inl, inr}
use Rattle.std.specs.Prelude.{◌==◌, ◌&&◌, ◌||◌, ◌⊎◌, nat_le, filter, slice_get, option_and_then}
use Rattle.std.specs.List.{All, list_any, list_all, prefix_len, cons_option}
use Rattle.std.proofs.Math.Seq.{take-length}
use Rattle.std.proofs.lemmas.Bool.Decides.{nat_tests}
use Rattle.std.proofs.lemmas.List.Elements.{All-head, All-tail}
use Rattle.journal_model.specs.declared.entry.What.{What}
use Rattle.journal_model.specs.declared.entry.What.TheVariants.{Claim, Start, NoStart, Lead, Ask, Put, Sent, Mute, Got, End, Verdict as Settled, Lost, Answer as Answered, Note as Noted, Again}
use Rattle.journal_model.specs.declared.entry.Entry.{Entry}
use Rattle.journal_model.specs.Journal.{asks, asked_jobs, is_open, is_settled}
use Rattle.journal_scan.specs.Looks.{due_asked, due_job, is_hosts, job_at}
use Rattle.journal_look.specs.declared.jobs.Open.{Open}
use Rattle.journal_look.specs.Opens.{AreOpen, IsAsked, is_this}
use Rattle.journal_look.proofs.Opening.{is_open_here}
use Rattle.ann_key.proofs.Booleans.{or_right}
use Rattle.ann_key.proofs.Numbers.{same_number as same}
use Rattle.std.proofs.lemmas.Bool.{eqb-true as same_number, and_parts as both}

abbrev pub IsLeast : ℕ → List Open → Type 0
IsLeast from jobs = (from ≡ 0) ⊎ (list_all (λ x. nat_le from x.at) jobs ≡ true)

-- an entry that asks a job is the host's in it
asks_hosts : (c j : ℕ) (w : What) → asks c w ≡ Some j → is_hosts c j w ≡ true
asks_hosts c j (Ask child job task line) h = go (child == c) refl h
  where
    go : (b : Bool) → (child == c) ≡ b → cond b (Some job) None ≡ Some j → (child == c && job == j) ≡ true
    go true e h = let is : job ≡ j = cc in let here : (job == j) ≡ true = subst (λ (k : ℕ). (job == k) ≡ true) is (same job) in rw (e, here) refl
    go false e h = absurd cc
asks_hosts c j (Claim task child) h = absurd cc
asks_hosts c j (Start child slot offer) h = absurd cc
asks_hosts c j (NoStart slot) h = absurd cc
asks_hosts c j (Lead child job line) h = absurd cc
asks_hosts c j (Put child job line) h = absurd cc
asks_hosts c j (Sent child) h = absurd cc
asks_hosts c j (Mute child) h = absurd cc
asks_hosts c j (Got child line) h = absurd cc
asks_hosts c j (End child why) h = absurd cc
asks_hosts c j (Settled child job v) h = absurd cc
asks_hosts c j (Lost child task) h = absurd cc
asks_hosts c j (Answered task answer) h = absurd cc
asks_hosts c j (Noted task chunk count) h = absurd cc
asks_hosts c j (Again task answer) h = absurd cc

asked_at : (c j at : ℕ) (past : List Entry) (e : Entry) → slice_get past at ≡ Some e → asks c e.what ≡ Some j → list_any (λ k. k == j) (asked_jobs past c) ≡ true
asked_at c j at [] e h a = absurd cc
asked_at c j zero (d ∷ past) e h a =
    let is : d ≡ e = cc in
    let here : asks c d.what ≡ Some j = subst (λ (x : Entry). asks c x.what ≡ Some j) (sym is) a in
    let one = same j in
    rw here (rw one refl)
asked_at c j (suc at) (d ∷ past) e h a = go (asks c d.what) (asked_at c j at past e h a)
  where
    go : (o : Option ℕ) → list_any (λ (k : ℕ). k == j) (asked_jobs past c) ≡ true → list_any (λ (k : ℕ). k == j) (cons_option o (asked_jobs past c)) ≡ true
    go None r = r
    go (Some k) r = or_right (k == j) (list_any (λ (i : ℕ). i == j) (asked_jobs past c)) r

kept_one : (f : ℕ → Bool) (j : ℕ) → f j ≡ true → (ks : List ℕ) → list_any (λ k. k == j) ks ≡ true → list_any (λ k. k == j) (filter f ks) ≡ true
kept_one f j passes [] h = absurd cc
kept_one f j passes (k ∷ ks) h = go (k == j) refl h (kept_one f j passes ks)
  where
    rest : List ℕ
    rest = filter f ks

    go : (b : Bool) → (k == j) ≡ b → (b || list_any (λ (i : ℕ). i == j) ks) ≡ true → (list_any (λ (i : ℕ). i == j) ks ≡ true → list_any (λ (i : ℕ). i == j) rest ≡ true)
        → list_any (λ (i : ℕ). i == j) (cond (f k) (k ∷ rest) rest) ≡ true
    go true e h r = let here : f k ≡ true = subst (λ (i : ℕ). f i ≡ true) (sym (same_number k j e)) passes in rw here (rw e refl)
    go false e h r = two (f k) (r h)
      where
        two : (b : Bool) → list_any (λ (i : ℕ). i == j) rest ≡ true → list_any (λ (i : ℕ). i == j) (cond b (k ∷ rest) rest) ≡ true
        two true r = or_right (k == j) (list_any (λ (i : ℕ). i == j) rest) r
        two false r = r

first_before : (c j at : ℕ) (past : List Entry) (e : Entry) → slice_get past at ≡ Some e → is_hosts c j e.what ≡ true → prefix_len (λ d. not (is_hosts c j d.what)) past ≤ at
first_before c j at [] e h a = absurd cc
first_before c j zero (d ∷ past) e h a =
    let is : d ≡ e = cc in
    let here : is_hosts c j d.what ≡ true = subst (λ (x : Entry). is_hosts c j x.what ≡ true) (sym is) a in
    rw here (omega arith)
first_before c j (suc at) (d ∷ past) e h a = go (is_hosts c j d.what) (first_before c j at past e h a)
  where
    go : (b : Bool) → prefix_len (λ (x : Entry). not (is_hosts c j x.what)) past ≤ at → cond (not b) (1 + prefix_len (λ (x : Entry). not (is_hosts c j x.what)) past) 0 ≤ suc at
    go true r = omega arith
    go false r = omega arith

least_of : (past : List Entry) (from c j : ℕ) (jobs : List Open) → All (IsAsked past) jobs → list_all (λ x. nat_le from x.at) jobs ≡ true → list_any (is_this c j) jobs ≡ true
    → from ≤ prefix_len (λ e. not (is_hosts c j e.what)) past
least_of past from c j [] all least h = absurd cc
least_of past from c j (x ∷ jobs) all least h = go (is_this c j x) refl h (least_of past from c j jobs (All-tail (IsAsked past) x jobs all) rest)
  where
    parts : (nat_le from x.at ≡ true) × (list_all (λ (y : Open). nat_le from y.at) jobs ≡ true)
    parts = both (nat_le from x.at) (list_all (λ (y : Open). nat_le from y.at) jobs) least

    rest : list_all (λ (y : Open). nat_le from y.at) jobs ≡ true
    rest = parts.1

    go : (b : Bool) → is_this c j x ≡ b → (b || list_any (is_this c j) jobs) ≡ true → (list_any (is_this c j) jobs ≡ true → from ≤ prefix_len (λ (e : Entry). not (is_hosts c j e.what)) past)
        → from ≤ prefix_len (λ (e : Entry). not (is_hosts c j e.what)) past
    go false e h r = r h
    go true e h r =
        let two = both (x.child == c) (x.job == j) e in
        let low : from ≤ x.at = (let one = parts.0 in grind (arith, nat_tests)) in
        let place : prefix_len (λ (d : Entry). not (is_hosts x.child x.job d.what)) past ≡ x.at = (All-head (IsAsked past) x jobs all).place in
        subst (λ (i : ℕ). from ≤ prefix_len (λ (d : Entry). not (is_hosts c i d.what)) past) (same_number x.job j two.1)
        (subst (λ (b : ℕ). from ≤ prefix_len (λ (d : Entry). not (is_hosts b x.job d.what)) past) (same_number x.child c two.0) (subst (λ (n : ℕ). from ≤ n) (sym place) low))

pub none_due : (past : List Entry) (jobs : List Open) (from at c : ℕ) (unsent : Bool) → AreOpen past jobs → IsLeast from jobs → at < from → job_at past (length past) at c unsent ≡ None
none_due past jobs from at c unsent are least low =
    subst (λ (es : List Entry). option_and_then (λ (e : Entry). due_job es c unsent e.what) (slice_get past at) ≡ None) (sym (take-length past)) (go (slice_get past at) refl)
  where
    all_from : IsLeast from jobs → list_all (λ (x : Open). nat_le from x.at) jobs ≡ true
    all_from (inl none) = absurd (omega arith)
    all_from (inr all) = all

    settled : (e : Entry) (j : ℕ) → slice_get past at ≡ Some e → asks c e.what ≡ Some j → is_settled past c j ≡ true
    settled e j h a = two (is_settled past c j) refl
      where
        two : (b : Bool) → is_settled past c j ≡ b → is_settled past c j ≡ true
        two true k = k
        two false k =
            let unsettled : not (is_settled past c j) ≡ true = rw k refl in
            let still : is_open past c j ≡ true = kept_one (λ (i : ℕ). not (is_settled past c i)) j unsettled (asked_jobs past c) (asked_at c j at past e h a) in
            let after = least_of past from c j jobs are.first (all_from least) (is_open_here past jobs c j are ∙ still) in
            let before = first_before c j at past e h (asks_hosts c j e.what a) in
            absurd (omega arith)

    go : (o : Option Entry) → slice_get past at ≡ o → option_and_then (λ (e : Entry). due_job past c unsent e.what) o ≡ None
    go None h = refl
    go (Some e) h = by_job (asks c e.what) refl
      where
        by_job : (o : Option ℕ) → asks c e.what ≡ o → due_asked past c unsent (asks c e.what) ≡ None
        by_job None a = rw a refl
        by_job (Some j) a = let here = settled e j h a in rw a (rw here refl)
