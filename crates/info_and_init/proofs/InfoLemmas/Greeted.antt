-- What a legal journal asks of a child in its greeting.
use Rattle.std.proofs.Common.{◌≡◌, ℕ, zero, suc, ◌+◌, List, [], ◌∷◌, ◌++◌, length, refl, sym, ap, subst, ◌∙◌, Bool, true, false, not, ◌==◌, Some, None, Option, length-append, append-nil, arith}
use Rattle.std.specs.Prelude.{◌&&◌, ◌||◌, take, codes, bytes_eq}
use Rattle.std.specs.List.{list_all}
use Rattle.std.proofs.lemmas.Bool.Decides.{nat_tests}
use Rattle.std.proofs.lemmas.Slice.Eq.{bytes_eq-Decides}
use Rattle.annex_model.specs.Messages.{HostMessage, AskExtensions, Prepare, Initremote, host_reading, host_line}
use Rattle.journal_model.specs.declared.verdict.Verdict.TheVariants.{Ended}
use Rattle.journal_model.specs.declared.entry.What.{What}
use Rattle.journal_model.specs.declared.entry.What.TheVariants.{Ask, Put, Mute, Got, End, Verdict as Settled}
use Rattle.journal_model.specs.declared.entry.Entry.{Entry}
use Rattle.journal_model.specs.declared.opening.Opening.{Opening}
use Rattle.journal_model.specs.Journal.{any, asks, offers, asked_jobs, open_jobs, addressed, on_wire}
use Rattle.journal_model.specs.Due.{due_by, due_by_got, due_after, made_by}
use Rattle.journal_model.specs.Legality.{Legal, may_come, asks_in_turn, asks_prepare, is_in_turn, offered_names}
use Rattle.journal_model.proofs.Growing.{Legal-induction}
use Rattle.journal_model.proofs.Looks.{each_of-append, any-append}
use Rattle.journal_model.proofs.Soft.{is_soft, soft_got, soft_mute, soft_verdicts}
use Rattle.child_life.specs.Start.Greetings.{is_greeting_line}
use Rattle.info_and_init.specs.Info.Askings.{line_to, asked_lines}
use Rattle.journal_model.proofs.Closing.{soft_asks as soft_jobs}
use Rattle.std.proofs.lemmas.Bool.{and_parts as both, eqb-true as same_number}
use Rattle.ann_key.proofs.Booleans.{left_false as either_left}

-- ---- one request of the greeting

-- the lines of a greeting that doesn't offer ASYNC
abbrev pub greeting_lines : List (List ℕ)
greeting_lines = codes "EXTENSIONS INFO GETGITREMOTENAME" ∷ codes "PREPARE" ∷ []

plain_names : (past : List Entry) (c : ℕ) → any (offers c) past ≡ false → offered_names past c ≡ codes "INFO GETGITREMOTENAME"
plain_names past c h = rw h refl

plain_wire : (past : List Entry) (c job : ℕ) (line : List ℕ) → any (offers c) past ≡ false → on_wire past c job line ≡ line
plain_wire past c job line h = rw h refl

-- the request that comes first, and the one after it
first_turn : (past : List Entry) (c : ℕ) (q : HostMessage) → any (offers c) past ≡ false → is_in_turn past c 0 q ≡ true → host_line q ≡ codes "EXTENSIONS INFO GETGITREMOTENAME"
first_turn past c (AskExtensions names) plain h =
    ap (λ (ns : List ℕ). host_line (AskExtensions ns)) ((bytes_eq-Decides names (offered_names past c)).0 h ∙ plain_names past c plain)
first_turn past c q plain h = absurd cc

second_turn : (past : List Entry) (c : ℕ) (q : HostMessage) → is_in_turn past c 1 q ≡ true → asks_prepare (host_line q) ≡ true → host_line q ≡ codes "PREPARE"
second_turn past c Prepare h a = refl
second_turn past c Initremote h a = absurd cc
second_turn past c q h a = absurd cc

-- the line of a request in its turn
turn_line : (past : List Entry) (c job : ℕ) (line : List ℕ) (r : Option HostMessage) → any (offers c) past ≡ false → asks_in_turn past c job line r ≡ true
    → (q : HostMessage) × (line ≡ host_line q) × (is_in_turn past c job q ≡ true)
turn_line past c job line None plain h = absurd cc
turn_line past c job line (Some q) plain h =
    let t = both (is_in_turn past c job q) (bytes_eq line (on_wire past c job (host_line q))) h in
    (q, (bytes_eq-Decides line (on_wire past c job (host_line q))).0 t.1 ∙ plain_wire past c job (host_line q) plain, t.0)

-- after the first lines of the greeting it adds the next
next_line : (past : List Entry) (c k : ℕ) (line : List ℕ) (r : Option HostMessage) → any (offers c) past ≡ false → is_greeting_line k line ≡ true → asks_in_turn past c k line r ≡ true
    → take k greeting_lines ++ line ∷ [] ≡ take (suc k) greeting_lines
next_line past c zero line r plain early h =
    let t = turn_line past c 0 line r plain h in
    ap (λ (l : List ℕ). l ∷ []) (t.1 ∙ first_turn past c t.0 plain t.2)
next_line past c (suc zero) line r plain early h =
    let t = turn_line past c 1 line r plain h in
    let a : asks_prepare (host_line t.0) ≡ true = subst (λ (l : List ℕ). asks_prepare l ≡ true) t.1 early in
    ap (λ (l : List ℕ). codes "EXTENSIONS INFO GETGITREMOTENAME" ∷ l ∷ []) (t.1 ∙ second_turn past c t.0 t.2 a)
next_line past c (suc (suc k)) line r plain early h = absurd (let bad : true ≡ false = sym early ∙ no_third (suc (suc k) == 0) (suc (suc k) == 1) (asks_prepare line) (not_zero k) (not_one k) in cc)
  where
    not_zero : (k : ℕ) → (suc (suc k) == 0) ≡ false
    not_zero k = grind (arith, nat_tests)

    not_one : (k : ℕ) → (suc (suc k) == 1) ≡ false
    not_one k = grind (arith, nat_tests)

    no_third : (a b p : Bool) → a ≡ false → b ≡ false → (a || (b && p)) ≡ false
    no_third a b p e f = rw (e, f) refl

-- ---- what a group asks

soft_lines : (c by : ℕ) (ws : List What) → list_all is_soft ws ≡ true → asked_lines (made_by by ws) c ≡ []
soft_lines c by [] h = refl
soft_lines c by (Settled child job verdict ∷ ws) h = soft_lines c by ws h
soft_lines c by (Put child job line ∷ ws) h = soft_lines c by ws h
soft_lines c by (End child why ∷ ws) h = soft_lines c by ws (both (is_soft (End child why)) (list_all is_soft ws) h).1
soft_lines c by (w ∷ ws) h = absurd cc

abbrev entry : ℕ → What → Entry
entry by w = record { by = by; what = w }

-- the request is one of the greeting's
abbrev pub is_early : ℕ → What → Bool
is_early c (Ask child job task line) = not (child == c) || is_greeting_line job line
is_early c w = true

abbrev are_early : ℕ → List Entry → Bool
are_early c journal = list_all (λ (e : Entry). is_early c e.what) journal

-- where no more than the greeting was asked, its first lines were
abbrev Begins : ℕ → List Entry → Type 0
Begins c past = any (offers c) past ≡ false → are_early c past ≡ true → asked_lines past c ≡ take (length (asked_jobs past c)) greeting_lines

-- a group that asks nothing
asks_none : (c : ℕ) (past more : List Entry) → asked_jobs more c ≡ [] → asked_lines more c ≡ [] → asked_lines past c ≡ take (length (asked_jobs past c)) greeting_lines
    → asked_lines (past ++ more) c ≡ take (length (asked_jobs (past ++ more) c)) greeting_lines
asks_none c past more jobs lines is =
    let l : asked_lines (past ++ more) c ≡ asked_lines past c = each_of-append (line_to c) past more ∙ ap (λ (ls : List (List ℕ)). asked_lines past c ++ ls) lines ∙ append-nil (asked_lines past c) in
    let j : asked_jobs (past ++ more) c ≡ asked_jobs past c = each_of-append (asks c) past more ∙ ap (λ (js : List ℕ). asked_jobs past c ++ js) jobs ∙ append-nil (asked_jobs past c) in
    l ∙ is ∙ ap (λ (js : List ℕ). take (length js) greeting_lines) (sym j)

front_early : (c : ℕ) (past more : List Entry) → are_early c (past ++ more) ≡ true → (are_early c past ≡ true) × (are_early c more ≡ true)
front_early c [] more h = (refl, h)
front_early c (e ∷ past) more h =
    let t = both (is_early c e.what) (are_early c (past ++ more)) h in
    let r = front_early c past more t.1 in
    (rw (t.0, r.0) refl, r.1)

-- a request of the child
asks_one : (o : Opening) (c by child job task : ℕ) (line : List ℕ) (past : List Entry) → may_come o past by (Ask child job task line) ≡ true → any (offers c) past ≡ false
    → are_early c (entry by (Ask child job task line) ∷ []) ≡ true → asked_lines past c ≡ take (length (asked_jobs past c)) greeting_lines
    → asked_lines (past ++ entry by (Ask child job task line) ∷ []) c ≡ take (length (asked_jobs (past ++ entry by (Ask child job task line) ∷ []) c)) greeting_lines
asks_one o c by child job task line past may plain early is = go (child == c) refl
  where
    more : List Entry
    more = entry by (Ask child job task line) ∷ []

    go : (b : Bool) → (child == c) ≡ b → asked_lines (past ++ more) c ≡ take (length (asked_jobs (past ++ more) c)) greeting_lines
    go false e = asks_none c past more (rw e refl) (rw e refl) is
    go true e =
        let four = both _ _ may in
        let three = both _ _ four.0 in
        let two = both _ _ three.0 in
        let one : child ≡ c = same_number child c e in
        let number : job ≡ length (asked_jobs past c) = same_number job (length (asked_jobs past child)) two.1 ∙ ap (λ (x : ℕ). length (asked_jobs past x)) one in
        let turned : asks_in_turn past c (length (asked_jobs past c)) line (host_reading (addressed past c line).1) ≡ true =
        subst (λ (x : ℕ). asks_in_turn past c x line (host_reading (addressed past c line).1) ≡ true) number
        (subst (λ (x : ℕ). asks_in_turn past x job line (host_reading (addressed past x line).1) ≡ true) one three.1) in
        let small : is_greeting_line (length (asked_jobs past c)) line ≡ true = subst (λ (x : ℕ). is_greeting_line x line ≡ true) number (job_early e) in
        let l : asked_lines (past ++ more) c ≡ asked_lines past c ++ line ∷ [] = each_of-append (line_to c) past more ∙ (rw e refl) in
        let j : asked_jobs (past ++ more) c ≡ asked_jobs past c ++ job ∷ [] = each_of-append (asks c) past more ∙ (rw e refl) in
        let n : length (asked_jobs (past ++ more) c) ≡ suc (length (asked_jobs past c)) = ap (λ (js : List ℕ). length js) j ∙ length-append (asked_jobs past c) (job ∷ []) ∙ plus_one (length (asked_jobs past c)) in
        l ∙ ap (λ (ls : List (List ℕ)). ls ++ line ∷ []) is
        ∙ next_line past c (length (asked_jobs past c)) line (host_reading (addressed past c line).1) plain small turned
        ∙ ap (λ (x : ℕ). take x greeting_lines) (sym n)
      where
        plus_one : (n : ℕ) → n + 1 ≡ suc n
        plus_one n = omega arith

        job_early : (child == c) ≡ true → is_greeting_line job line ≡ true
        job_early e = by_child (child == c) (is_greeting_line job line) e (both (not (child == c) || is_greeting_line job line) true early).0
          where
            by_child : (a b : Bool) → a ≡ true → (not a || b) ≡ true → b ≡ true
            by_child true b e h = h
            by_child false b e h = absurd cc

group_begins : (o : Opening) (c by : ℕ) (w : What) (past : List Entry) → may_come o past by w ≡ true → any (offers c) past ≡ false → are_early c (entry by w ∷ []) ≡ true
    → asked_lines past c ≡ take (length (asked_jobs past c)) greeting_lines
    → asked_lines (past ++ entry by w ∷ due_after o past (entry by w)) c ≡ take (length (asked_jobs (past ++ entry by w ∷ due_after o past (entry by w)) c)) greeting_lines
group_begins o c by (Ask child job task line) past may plain early is = asks_one o c by child job task line past may plain early is
group_begins o c by (Got child line) past may plain early is =
    asks_none c past _ (soft_jobs c by (due_by_got o past child line) (soft_got o past child line)) (soft_lines c by (due_by_got o past child line) (soft_got o past child line)) is
group_begins o c by (End child why) past may plain early is =
    asks_none c past _ (soft_jobs c by (due_by o past (End child why)) (soft_verdicts child (Ended why) (open_jobs past child))) (soft_lines c by (due_by o past (End child why)) (soft_verdicts child (Ended why) (open_jobs past child))) is
group_begins o c by (Mute child) past may plain early is =
    asks_none c past _ (soft_jobs c by (due_by o past (Mute child)) (soft_mute o past child)) (soft_lines c by (due_by o past (Mute child)) (soft_mute o past child)) is
group_begins o c by (Put child job line) past may plain early is = absurd cc
group_begins o c by (Settled child job verdict) past may plain early is = absurd cc
group_begins o c by w past may plain early is = asks_none c past (entry by w ∷ []) refl refl is

-- the lines that a child was asked are the first of the greeting's
pub begins : (o : Opening) (journal : List Entry) → Legal o journal → (c : ℕ) → Begins c journal
begins o journal legal c =
    Legal-induction o (Begins c) (λ plain early. refl)
    (λ past e l is may plain early.
    (let more = e ∷ due_after o past e in
    let plain_past : any (offers c) past ≡ false = either_left (any (offers c) past) (any (offers c) more) (sym (any-append (offers c) past more) ∙ plain) in
    let t = front_early c past more early in
    let here = both (is_early c e.what) (are_early c (due_after o past e)) t.1 in
    group_begins o c e.by e.what past may plain_past (rw here.0 refl) (is plain_past t.0)))
    journal legal
