-- The lines that were written, counted and looked up without the lines.
use Rattle.std.proofs.Common.{subst, ◌≡◌, ◌∙◌, ℕ, List, [], ◌∷◌, refl, sym, ap, Bool, true, false, cond, Option, Some, None, length, drop, map, not, arith, zero, suc}
use Rattle.std.specs.Prelude.{is_some, ◌||◌, ◌==◌, filter, option_map, nat_lt, option_and_then, find, slice_get}
use Rattle.std.specs.List.{list_any, cons_option}
use Rattle.std.proofs.lemmas.Bool.Decides.{nat_tests}
use Rattle.std.proofs.Math.Dec.{leb}
use Rattle.annex_model.specs.Messages.{remote_reading}
use Rattle.journal_model.specs.declared.entry.What.{What}
use Rattle.journal_model.specs.declared.entry.What.TheVariants.{Claim, Start, NoStart, Lead, Ask, Put, Sent, Mute, Got, End, Verdict as Settled, Lost, Answer as Answered, Note as Noted, Again}
use Rattle.journal_model.specs.declared.entry.Entry.{Entry}
use Rattle.journal_model.specs.Journal.{first_of, each_of, writes, is_job, got_from, line_from, got_lines, unsent, sends, is_unsent}
use Rattle.journal_model.specs.Due.{is_version_one}
use Rattle.journal_model.specs.Legality.{is_empty, said_version}
use Rattle.journal_scan.specs.Looks.{written_to, got_line}
use Rattle.journal_scan.specs.Looks.{is_written, hosts_line}
use Rattle.journal_scan.proofs.Firsts.{first_given}
use Rattle.ann_key.proofs.Lists.{length-map as length_map}

abbrev Line : Type 0
Line = Option ℕ × List ℕ

written_map : (c : ℕ) (past : List Entry) → each_of (written_to c) past ≡ map (λ (l : Line). l.0) (each_of (writes c) past)
written_map c [] = refl
written_map c (e ∷ past) = go (writes c e.what) (written_map c past)
  where
    go : (o : Option Line) → each_of (written_to c) past ≡ map (λ (l : Line). l.0) (each_of (writes c) past)
        → cons_option (option_map (λ (l : Line). l.0) o) (each_of (written_to c) past) ≡ map (λ (l : Line). l.0) (cons_option o (each_of (writes c) past))
    go (Some l) r = ap (λ (xs : List (Option ℕ)). l.0 ∷ xs) r
    go None r = r

drop_map : {X Y : Type 0} (f : X → Y) (n : ℕ) (xs : List X) → drop n (map f xs) ≡ map f (drop n xs)
drop_map f zero xs = refl
drop_map f (suc n) [] = refl
drop_map f (suc n) (x ∷ xs) = drop_map f n xs

any_map : (j : ℕ) (ls : List Line) → list_any (is_job j) (map (λ (l : Line). l.0) ls) ≡ list_any (λ w. is_job j w.0) ls
any_map j [] = refl
any_map j (l ∷ ls) = go (is_job j l.0) (any_map j ls)
  where
    go : (b : Bool) → list_any (is_job j) (map (λ (l : Line). l.0) ls) ≡ list_any (λ w. is_job j w.0) ls
        → (b || list_any (is_job j) (map (λ (l : Line). l.0) ls)) ≡ (b || list_any (λ w. is_job j w.0) ls)
    go true r = refl
    go false r = r

pub unsent_by_jobs : (past : List Entry) (c j : ℕ)
    → list_any (is_job j) (drop (length (filter (λ e. sends c e.what) past)) (each_of (written_to c) past)) ≡ is_unsent past c j
unsent_by_jobs past c j =
    let n = length (filter (λ e. sends c e.what) past) in
    ap (λ xs. list_any (is_job j) (drop n xs)) (written_map c past)
    ∙ ap (list_any (is_job j)) (drop_map (λ (l : Line). l.0) n (each_of (writes c) past))
    ∙ any_map j (drop n (each_of (writes c) past))

empty_drop : {X : Type 0} (n : ℕ) (xs : List X) → is_empty (drop n xs) ≡ not (nat_lt n (length xs))
empty_drop zero [] = refl
empty_drop zero (x ∷ xs) =
    let t : nat_lt 0 (suc (length xs)) ≡ true = grind (arith, nat_tests) in
    rw t refl
empty_drop (suc n) [] =
    let t : nat_lt (suc n) 0 ≡ false = grind (arith, nat_tests) in
    rw t refl
empty_drop (suc n) (x ∷ xs) =
    let t : nat_lt (suc n) (suc (length xs)) ≡ nat_lt n (length xs) = less (nat_lt n (length xs)) refl in
    rw t (empty_drop n xs)
  where
    less : (b : Bool) → nat_lt n (length xs) ≡ b → nat_lt (suc n) (suc (length xs)) ≡ b
    less true h = grind (arith, nat_tests)
    less false h = grind (arith, nat_tests)

pub all_sent : (past : List Entry) (c : ℕ)
    → not (nat_lt (length (filter (λ e. sends c e.what) past)) (length (each_of (written_to c) past))) ≡ is_empty (unsent past c)
all_sent past c =
    let n = length (filter (λ e. sends c e.what) past) in
    ap (λ (k : ℕ). not (nat_lt n k)) (ap length (written_map c past) ∙ length_map (λ (l : Line). l.0) (each_of (writes c) past))
    ∙ sym (empty_drop n (each_of (writes c) past))

-- ---- the first line

got_gives : (c : ℕ) (w : What) → got_from c w ≡ is_some (line_from c w)
got_gives c (Got child line) = go (child == c)
  where
    go : (b : Bool) → b ≡ is_some (cond b (Some line) None)
    go true = refl
    go false = refl
got_gives c (Claim task child) = refl
got_gives c (Start child slot offer) = refl
got_gives c (NoStart slot) = refl
got_gives c (Lead child job line) = refl
got_gives c (Ask child job task line) = refl
got_gives c (Put child job line) = refl
got_gives c (Sent child) = refl
got_gives c (Mute child) = refl
got_gives c (End child why) = refl
got_gives c (Settled child job verdict) = refl
got_gives c (Lost child task) = refl
got_gives c (Answered task answer) = refl
got_gives c (Noted task chunk count) = refl
got_gives c (Again task answer) = refl

pub first_line : (past : List Entry) (c : ℕ) → first_of (got_lines past c) ≡ option_and_then (λ e. line_from c e.what) (find (λ e. got_from c e.what) past)
first_line past c = first_given (line_from c) (got_from c) (got_gives c) past

pub at_most : (a b : ℕ) → leb a b ≡ not (nat_lt b a)
at_most a b = go (nat_lt b a) refl
  where
    go : (t : Bool) → nat_lt b a ≡ t → leb a b ≡ not t
    go true h = grind (arith, nat_tests)
    go false h = grind (arith, nat_tests)

abbrev pub is_version : Option (List ℕ) → Bool
is_version None = false
is_version (Some line) = is_version_one (remote_reading line)

pub said_is : (past : List Entry) (c : ℕ) → said_version past c ≡ is_version (option_and_then (λ e. line_from c e.what) (find (λ e. got_from c e.what) past))
said_is past c = by_first (first_of (got_lines past c)) refl ∙ ap is_version (first_line past c)
  where
    by_first : (o : Option (List ℕ)) → first_of (got_lines past c) ≡ o → said_version past c ≡ is_version (first_of (got_lines past c))
    by_first (Some line) e = rw e refl
    by_first None e = rw e refl

-- the line of the first entry that is one of c's
pub found_line : (past : List Entry) (c : ℕ) (e : Entry) → Some e ≡ find (λ d. got_from c d.what) past → line_from c e.what ≡ Some (got_line e.what)
found_line [] c e h = absurd cc
found_line (d ∷ past) c e h = go (got_from c d.what) refl h (found_line past c e)
  where
    given : (w : What) → got_from c w ≡ true → line_from c w ≡ Some (got_line w)
    given (Got child line) t = rw t refl
    given (Claim task child) t = absurd cc
    given (Start child slot offer) t = absurd cc
    given (NoStart slot) t = absurd cc
    given (Lead child job line) t = absurd cc
    given (Ask child job task line) t = absurd cc
    given (Put child job line) t = absurd cc
    given (Sent child) t = absurd cc
    given (Mute child) t = absurd cc
    given (End child why) t = absurd cc
    given (Settled child job verdict) t = absurd cc
    given (Lost child task) t = absurd cc
    given (Answered task answer) t = absurd cc
    given (Noted task chunk count) t = absurd cc
    given (Again task answer) t = absurd cc

    go : (b : Bool) → got_from c d.what ≡ b → Some e ≡ cond b (Some d) (find (λ x. got_from c x.what) past)
        → (Some e ≡ find (λ x. got_from c x.what) past → line_from c e.what ≡ Some (got_line e.what)) → line_from c e.what ≡ Some (got_line e.what)
    go false t h r = r h
    go true t h r =
        let same : d ≡ e = cc in
        subst (λ (x : Entry). line_from c x.what ≡ Some (got_line x.what)) same (given d.what t)

pub said_found : (past : List Entry) (c : ℕ) (e : Entry) → Some e ≡ find (λ d. got_from c d.what) past
    → is_version_one (remote_reading (got_line e.what)) ≡ said_version past c
said_found past c e h =
    sym (said_is past c ∙ ap (λ (o : Option Entry). is_version (option_and_then (λ d. line_from c d.what) o)) (sym h) ∙ ap is_version (found_line past c e h))

pub said_nothing : (past : List Entry) (c : ℕ) → None ≡ find (λ d. got_from c d.what) past → false ≡ said_version past c
said_nothing past c h = sym (said_is past c ∙ ap (λ (o : Option Entry). is_version (option_and_then (λ d. line_from c d.what) o)) (sym h))

-- ---- the next line to write

-- the line of an entry that writes one
abbrev written_in : What → Line
written_in (Lead child job line) = (None, line)
written_in (Ask child job task line) = (Some job, line)
written_in (Put child job line) = (None, line)
written_in _ = (None, [])

written_is : (c : ℕ) (w : What) → (l : Line) → writes c w ≡ Some l → written_in w ≡ l
written_is c (Ask child job task line) l h = go (child == c) h
  where
    go : (b : Bool) → cond b (Some (Some job, line)) None ≡ Some l → (Some job, line) ≡ l
    go true e = cc
    go false e = absurd cc
written_is c (Lead child job line) l h = go (child == c) h
  where
    go : (b : Bool) → cond b (Some (None, line)) None ≡ Some l → (None, line) ≡ l
    go true e = cc
    go false e = absurd cc
written_is c (Put child job line) l h = go (child == c) h
  where
    go : (b : Bool) → cond b (Some (None, line)) None ≡ Some l → (None, line) ≡ l
    go true e = cc
    go false e = absurd cc
written_is c (Claim task child) l h = absurd cc
written_is c (Start child slot offer) l h = absurd cc
written_is c (NoStart slot) l h = absurd cc
written_is c (Sent child) l h = absurd cc
written_is c (Mute child) l h = absurd cc
written_is c (Got child line) l h = absurd cc
written_is c (End child why) l h = absurd cc
written_is c (Settled child job verdict) l h = absurd cc
written_is c (Lost child task) l h = absurd cc
written_is c (Answered task answer) l h = absurd cc
written_is c (Noted task chunk count) l h = absurd cc
written_is c (Again task answer) l h = absurd cc

hosts_is : (w : What) → (written_in w).1 ≡ hosts_line w
hosts_is (Ask child job task line) = refl
hosts_is (Put child job line) = refl
hosts_is (Lead child job line) = refl
hosts_is (Claim task child) = refl
hosts_is (Start child slot offer) = refl
hosts_is (NoStart slot) = refl
hosts_is (Sent child) = refl
hosts_is (Mute child) = refl
hosts_is (Got child line) = refl
hosts_is (End child why) = refl
hosts_is (Settled child job verdict) = refl
hosts_is (Lost child task) = refl
hosts_is (Answered task answer) = refl
hosts_is (Noted task chunk count) = refl
hosts_is (Again task answer) = refl

written_by : (c : ℕ) (past : List Entry) → each_of (writes c) past ≡ map (λ (e : Entry). written_in e.what) (filter (λ e. is_written c e.what) past)
written_by c [] = refl
written_by c (e ∷ past) = go (writes c e.what) refl (written_by c past)
  where
    go : (o : Option Line) → writes c e.what ≡ o → each_of (writes c) past ≡ map (λ (d : Entry). written_in d.what) (filter (λ d. is_written c d.what) past)
        → cons_option o (each_of (writes c) past) ≡ map (λ (d : Entry). written_in d.what) (cond (is_some o) (e ∷ filter (λ d. is_written c d.what) past) (filter (λ d. is_written c d.what) past))
    go (Some l) h r = let same : written_in e.what ≡ l = written_is c e.what l h in rw (same, r) refl
    go None h r = r

nth_drop : {X : Type 0} (n : ℕ) (xs : List X) → first_of (drop n xs) ≡ slice_get xs n
nth_drop zero [] = refl
nth_drop zero (x ∷ xs) = refl
nth_drop (suc n) [] = refl
nth_drop (suc n) (x ∷ xs) = nth_drop n xs

unsent_by : (past : List Entry) (c : ℕ) → unsent past c ≡ map (λ (e : Entry). written_in e.what) (drop (length (filter (λ e. sends c e.what) past)) (filter (λ e. is_written c e.what) past))
unsent_by past c =
    let n = length (filter (λ e. sends c e.what) past) in
    ap (drop n) (written_by c past) ∙ drop_map (λ (e : Entry). written_in e.what) n (filter (λ e. is_written c e.what) past)

first_in : (es : List Entry) (o : Option Entry) → o ≡ first_of es
    → option_map (λ e. hosts_line e.what) o ≡ option_map (λ (w : Line). w.1) (first_of (map (λ (e : Entry). written_in e.what) es))
first_in [] o h = rw h refl
first_in (e ∷ es) o h = rw h (ap (λ (l : List ℕ). Some l) (sym (hosts_is e.what)))

-- the line that stands after as many as were sent is the first unsent one
pub next_found : (past : List Entry) (c n : ℕ) (o : Option Entry) → n ≡ length (filter (λ e. sends c e.what) past) → o ≡ slice_get (filter (λ e. is_written c e.what) past) n
    → option_map (λ e. hosts_line e.what) o ≡ option_map (λ (w : Line). w.1) (first_of (unsent past c))
next_found past c n o e h =
    let ws : List Entry = filter (λ e. is_written c e.what) past in
    let k = length (filter (λ e. sends c e.what) past) in
    first_in (drop k ws) o (h ∙ ap (slice_get ws) e ∙ sym (nth_drop k ws))
    ∙ ap (λ (us : List Line). option_map (λ (w : Line). w.1) (first_of us)) (sym (unsent_by past c))
