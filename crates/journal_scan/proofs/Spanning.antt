-- A job's span, from the places of its request and its verdict; and what is said in the job, by its span.
use Rattle.std.proofs.Common.{◌≡◌, ◌∙◌, ℕ, zero, suc, ◌+◌, ◌≤◌, List, [], ◌∷◌, ◌++◌, refl, sym, ap, subst, Bool, true, false, not, cond, Option, Some, None, length, take, drop, arith}
use Rattle.std.specs.Prelude.{◌==◌, ◌&&◌, ◌||◌, nat_lt, nat_le, filter, slice_get, option_and_then}
use Rattle.std.specs.List.{list_any, prefix_len, cons_option}
use Rattle.std.proofs.lemmas.Bool.Decides.{nat_tests}
use Rattle.std.proofs.lemmas.List.{length-take-le, take-append-drop, take-take}
use Rattle.annex_model.specs.Talks.{Host, Remote}
use Rattle.journal_model.specs.declared.entry.What.{What}
use Rattle.journal_model.specs.declared.entry.What.TheVariants.{Lead, Ask, Put, Got}
use Rattle.journal_model.specs.declared.entry.Entry.{Entry}
use Rattle.journal_model.specs.Journal.{addressed, any, asked_jobs, asks, first_of, is_open, is_settled, offers, open_jobs, settles}
use Rattle.journal_model.specs.Parts.{ends_at, is_for, item_at, item_of}
use Rattle.journal_model.proofs.Looks.{any-append, each_of-append, is_asked, open_unsettled, unasked_closed}
use Rattle.journal_scan.specs.declared.spans.Span.{Span}
use Rattle.journal_scan.specs.Looks.{asked_at, is_hosts, remote_text, settled_at}
use Rattle.journal_scan.specs.Spans.{IsSpan, line_within}
use Rattle.journal_scan.proofs.NoneBefore.{none_before}
use Rattle.ann_key.proofs.Booleans.{and_assoc, and_false, never_true, right_false, true_and_false}
use Rattle.ann_key.proofs.Numbers.{same_number as same}

-- ---- tests of numbers

none_under : (k : ℕ) → nat_lt k 0 ≡ false
none_under k = grind (arith, nat_tests)

zero_under : (n : ℕ) → nat_lt 0 (suc n) ≡ true
zero_under n = grind (arith, nat_tests)

next_under : (k n : ℕ) → nat_lt k n ≡ nat_lt (1 + k) (suc n)
next_under k n = grind (arith, nat_tests)

over : (n m : ℕ) → nat_le n m ≡ false → nat_lt m n ≡ true
over n m h = grind (arith, nat_tests)

not_over : (n m : ℕ) → nat_le n m ≡ true → nat_lt m n ≡ false
not_over n m h = grind (arith, nat_tests)

not_under : (n m : ℕ) → n ≤ m → nat_lt m n ≡ false
not_under n m h = grind (arith, nat_tests)

is_under : (m n : ℕ) → nat_lt m n ≡ true → m + 1 ≤ n
is_under m n h = grind (arith, nat_tests)

-- ---- the first n entries

-- one of them passes where the first that does is among them
any_front : (p : What → Bool) (n : ℕ) (past : List Entry) → n ≤ length past → any p (take n past) ≡ nat_lt (prefix_len (λ e. not (p e.what)) past) n
any_front p zero past h = sym (none_under (prefix_len (λ (e : Entry). not (p e.what)) past))
any_front p (suc n) [] h = absurd (omega (arith, h))
any_front p (suc n) (e ∷ past) h = go (p e.what) (any_front p n past (omega (arith, h)))
  where
    k : ℕ
    k = prefix_len (λ (d : Entry). not (p d.what)) past

    go : (b : Bool) → any p (take n past) ≡ nat_lt k n → (b || any p (take n past)) ≡ nat_lt (cond (not b) (1 + k) 0) (suc n)
    go true r = sym (zero_under n)
    go false r = r ∙ next_under k n

-- a job that no entry of the host's is in was not asked
unasked : (c j : ℕ) (past : List Entry) → any (is_hosts c j) past ≡ false → is_asked past c j ≡ false
unasked c j [] h = refl
unasked c j (e ∷ past) h = go e.what h (unasked c j past)
  where
    go : (w : What) → (is_hosts c j w || any (is_hosts c j) past) ≡ false → (any (is_hosts c j) past ≡ false → is_asked past c j ≡ false)
        → list_any (λ k. k == j) (cons_option (asks c w) (asked_jobs past c)) ≡ false
    go (Ask child job task line) h r = two (child == c) h
      where
        two : (b : Bool) → ((b && job == j) || any (is_hosts c j) past) ≡ false → list_any (λ k. k == j) (cons_option (cond b (Some job) None) (asked_jobs past c)) ≡ false
        two true h = three (job == j) h
          where
            three : (b : Bool) → (b || any (is_hosts c j) past) ≡ false → (b || is_asked past c j) ≡ false
            three true h = absurd cc
            three false h = r h
        two false h = r h
    go w h r = r (right_false (is_hosts c j w) (any (is_hosts c j) past) h)

-- ---- the first open job

first_kept : (p q : ℕ → Bool) → ((k : ℕ) → q k ≡ false → p k ≡ false) → (xs ys : List ℕ) (j : ℕ)
    → first_of (filter q xs) ≡ Some j → p j ≡ true → first_of (filter p (xs ++ ys)) ≡ Some j
first_kept p q so [] ys j h k = absurd cc
first_kept p q so (x ∷ xs) ys j h k = go (q x) refl h (first_kept p q so xs ys j)
  where
    go : (b : Bool) → q x ≡ b → first_of (cond b (x ∷ filter q xs) (filter q xs)) ≡ Some j
        → (first_of (filter q xs) ≡ Some j → p j ≡ true → first_of (filter p (xs ++ ys)) ≡ Some j)
        → first_of (cond (p x) (x ∷ filter p (xs ++ ys)) (filter p (xs ++ ys))) ≡ Some j
    go true e h r =
        let is : x ≡ j = cc in
        let here : p x ≡ true = subst (λ (i : ℕ). p i ≡ true) (sym is) k in
        rw here h
    go false e h r =
        let here : p x ≡ false = so x e in
        rw here (r h k)

-- the first open job stays the first until it is settled
first_stays : (c j : ℕ) (past more : List Entry) → first_of (open_jobs past c) ≡ Some j → is_settled (past ++ more) c j ≡ false
    → first_of (open_jobs (past ++ more) c) ≡ Some j
first_stays c j past more h unsettled =
    ap (λ (ks : List ℕ). first_of (filter (λ (k : ℕ). not (is_settled (past ++ more) c k)) ks)) (each_of-append (asks c) past more)
    ∙ first_kept (λ (k : ℕ). not (is_settled (past ++ more) c k)) (λ (k : ℕ). not (is_settled past c k)) so (asked_jobs past c) (asked_jobs more c) j h (ap not unsettled)
  where
    so : (k : ℕ) → not (is_settled past c k) ≡ false → not (is_settled (past ++ more) c k) ≡ false
    so k e = ap not (any-append (settles c k) past more) ∙ go (is_settled past c k) e
      where
        go : (b : Bool) → not b ≡ false → not (b || is_settled more c k) ≡ false
        go true e = refl
        go false e = absurd cc

first_any : (j : ℕ) (ks : List ℕ) → first_of ks ≡ Some j → list_any (λ k. k == j) ks ≡ true
first_any j [] h = absurd cc
first_any j (k ∷ ks) h =
    let is : k ≡ j = cc in
    let here : (k == j) ≡ true = subst (λ (i : ℕ). (k == i) ≡ true) is (same k) in
    rw here refl

-- ---- the span

-- Where the child was offered no tags, and the job is the first that is open once it is asked, these places are its span.
pub span_is : (past : List Entry) (c j asked settled : ℕ) → any (offers c) past ≡ false → asked ≡ asked_at past c j → settled ≡ settled_at past c j
    → first_of (open_jobs (take (asked + 1) past) c) ≡ Some j → IsSpan past c j (record { asked = asked; settled = settled })
span_is past c j asked settled plain first last alone = record {
  lines = λ n line low. ap (λ (t : Option ℕ × List ℕ). is_for j t.0 && is_open (take n past) c j) (untagged n line) ∙ here n low;
  texts = λ n line. ap (λ (t : Option ℕ × List ℕ). t.1) (untagged n line);
}
  where
    untagged : (n : ℕ) (line : List ℕ) → addressed (take n past) c line ≡ (first_of (open_jobs (take n past) c), line)
    untagged n line = let none = none_before c n past plain in rw none refl

    here : (n : ℕ) → n ≤ length past → (is_for j (first_of (open_jobs (take n past) c)) && is_open (take n past) c j) ≡ (nat_lt asked n && nat_le n settled)
    here n low = go (nat_lt asked n) refl (nat_le n settled) refl
      where
        hosts : any (is_hosts c j) (take n past) ≡ nat_lt asked n
        hosts = any_front (is_hosts c j) n past low ∙ ap (λ (k : ℕ). nat_lt k n) (sym first)

        verdict : is_settled (take n past) c j ≡ nat_lt settled n
        verdict = any_front (settles c j) n past low ∙ ap (λ (k : ℕ). nat_lt k n) (sym last)

        closed : is_open (take n past) c j ≡ false → (is_for j (first_of (open_jobs (take n past) c)) && is_open (take n past) c j) ≡ false
        closed e = ap (λ (b : Bool). is_for j (first_of (open_jobs (take n past) c)) && b) e ∙ and_false (is_for j (first_of (open_jobs (take n past) c)))

        open_first : nat_lt asked n ≡ true → is_settled (take n past) c j ≡ false → first_of (open_jobs (take n past) c) ≡ Some j
        open_first e unsettled =
            let m : ℕ = asked + 1 in
            let low_m : m ≤ n = is_under asked n e in
            let parts : take m past ++ drop m (take n past) ≡ take n past =
            ap (λ (es : List Entry). es ++ drop m (take n past)) (sym (take-take m n past low_m)) ∙ take-append-drop m (take n past) in
            subst (λ (es : List Entry). first_of (open_jobs es c) ≡ Some j) parts
            (first_stays c j (take m past) (drop m (take n past)) alone (ap (λ (es : List Entry). is_settled es c j) parts ∙ unsettled))

        go : (a : Bool) → nat_lt asked n ≡ a → (b : Bool) → nat_le n settled ≡ b
            → (is_for j (first_of (open_jobs (take n past) c)) && is_open (take n past) c j) ≡ (a && b)
        go false e b f = closed (unasked_closed c j (take n past) (unasked c j (take n past) (hosts ∙ e)))
        go true e false f =
            closed (never_true (is_open (take n past) c j) (λ still. true_and_false (is_settled (take n past) c j) (verdict ∙ over n settled f) (open_unsettled (take n past) c j still)))
        go true e true f =
            let is = open_first e (verdict ∙ not_over n settled f) in
            ap (λ (o : Option ℕ). is_for j o && is_open (take n past) c j) is
            ∙ ap (λ (b : Bool). b && is_open (take n past) c j) (same j)
            ∙ first_any j (open_jobs (take n past) c) is

-- ---- what is said in the job

hosts_none : (b : Bool) (at : ℕ) (text : List ℕ) → remote_text (cond b (Some record { side = Host; at = at; text = text }) None) ≡ None
hosts_none true at text = refl
hosts_none false at text = refl

-- by the entry at a place
within_is : (entries : List Entry) (c j : ℕ) (s : Span) (at : ℕ) (w : What) (rest : List Entry) → IsSpan entries c j s → at ≤ length entries
    → remote_text (item_of c j (take at entries) w rest) ≡ line_within s c at w rest
within_is entries c j s at (Got child line) rest is low =
    let past : List Entry = take at entries in
    let place : length past ≡ at = length-take-le at entries low in
    let heard : Bool = child == c in
    let for_it : Bool = is_for j (addressed past c line).0 in
    let still : Bool = is_open past c j in
    let test : (heard && for_it && still && not (ends_at c (length past) rest)) ≡ (heard && nat_lt s.asked at && nat_le at s.settled && not (ends_at c at rest)) =
    ap (λ (b : Bool). b && not (ends_at c (length past) rest)) (and_assoc heard for_it still ∙ ap (λ (b : Bool). heard && b) (is.lines at line low) ∙ sym (and_assoc heard (nat_lt s.asked at) (nat_le at s.settled)))
    ∙ ap (λ (n : ℕ). heard && nat_lt s.asked at && nat_le at s.settled && not (ends_at c n rest)) place in
    two (heard && for_it && still && not (ends_at c (length past) rest)) (heard && nat_lt s.asked at && nat_le at s.settled && not (ends_at c at rest)) test
  where
    two : (a b : Bool) → a ≡ b → remote_text (cond a (Some record { side = Remote; at = length (take at entries); text = (addressed (take at entries) c line).1 }) None) ≡ cond b (Some line) None
    two true true h = ap (λ (t : List ℕ). Some t) (is.texts at line)
    two false false h = refl
    two true false h = absurd cc
    two false true h = absurd cc
within_is entries c j s at (Lead child job line) rest is low = hosts_none (child == c && job == j) (length (take at entries)) (addressed (take at entries) c line).1
within_is entries c j s at (Ask child job task line) rest is low = hosts_none (child == c && job == j) (length (take at entries)) (addressed (take at entries) c line).1
within_is entries c j s at (Put child job line) rest is low = hosts_none (child == c && job == j) (length (take at entries)) (addressed (take at entries) c line).1
within_is entries c j s at w rest is low = refl

-- where an entry stands at the place
pub said_within_is : (entries : List Entry) (c j : ℕ) (s : Span) (at : ℕ) (e : Entry) → IsSpan entries c j s → Some e ≡ slice_get entries at
    → line_within s c at e.what (drop (at + 1) entries) ≡ remote_text (item_at entries c j at)
said_within_is entries c j s at e is there =
    sym (within_is entries c j s at e.what (drop (at + 1) entries) is (low at entries there))
    ∙ ap (λ (o : Option Entry). remote_text (option_and_then (λ (d : Entry). item_of c j (take at entries) d.what (drop (at + 1) entries)) o)) there
  where
    low : (n : ℕ) (es : List Entry) → Some e ≡ slice_get es n → n ≤ length es
    low n [] h = absurd cc
    low zero (d ∷ es) h = omega arith
    low (suc n) (d ∷ es) h = let r = low n es h in omega (arith, r)

-- nothing before the request
pub silent_before : (entries : List Entry) (c j : ℕ) (s : Span) (at : ℕ) → IsSpan entries c j s → at ≤ s.asked → remote_text (item_at entries c j at) ≡ None
silent_before entries c j s at is early = go (slice_get entries at) refl
  where
    none : (w : What) (rest : List Entry) → line_within s c at w rest ≡ None
    none (Got child line) rest = two (child == c) (nat_lt s.asked at) (not_under at s.asked early)
      where
        two : (a b : Bool) → b ≡ false → cond (a && b && nat_le at s.settled && not (ends_at c at rest)) (Some line) None ≡ None
        two true true h = absurd cc
        two true false h = refl
        two false b h = refl
    none w rest = refl

    go : (o : Option Entry) → slice_get entries at ≡ o → remote_text (item_at entries c j at) ≡ None
    go None h = ap (λ (o : Option Entry). remote_text (option_and_then (λ (d : Entry). item_of c j (take at entries) d.what (drop (at + 1) entries)) o)) h
    go (Some e) h = sym (said_within_is entries c j s at e is (sym h)) ∙ none e.what (drop (at + 1) entries)
