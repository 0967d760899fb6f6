-- An open job's talk, replayed place by place.
use Rattle.std.proofs.Common.{◌≡◌, ◌∙◌, ℕ, zero, suc, ◌+◌, ◌-◌, ◌<◌, List, [], ◌∷◌, ◌++◌, refl, sym, ap, subst, Bool, true, false, not, cond, Option, Some, None, length, take, drop, append-nil, append_assoc, arith, length-append}
use Rattle.std.specs.Prelude.{◌&&◌, map, filter, filter_map, slice_get, option_and_then}
use Rattle.std.specs.List.{cons_option, range_with_len, list_all}
use Rattle.std.proofs.Math.Seq.{drop-append_seam, take-append_seam}
use Rattle.std.proofs.lemmas.List.Elements.{filter_map-append}
use Rattle.annex_model.specs.Messages.{RemoteMessage, HostMessage, remote_reading}
use Rattle.annex_model.specs.Talks.{Item, Shape, OneLine, Configs, Infos, shape_of, may_go_on, awaits, said, item_is_aside, spells_aside, is_remote, is_nothing, is_config, is_infofield, is_infovalue, are_pairs}
use Rattle.journal_model.specs.declared.entry.Entry.{Entry}
use Rattle.journal_model.specs.Parts.{item_of, part_from, part, item_at}
use Rattle.host_talk.specs.Request.Talked.{Talked}
use Rattle.host_talk.specs.Request.Hearings.{Follows}
use Rattle.journal_scan.specs.Looks.{remote_text}
use Rattle.host_core.specs.Moves.{EndsIn, takes_lines, said_by, said_before, said_there}
use Rattle.ann_key.proofs.Lists.{get_after, range_next}
use Rattle.annex_model.proofs.FrontsTalk.{said-append}

abbrev Said : Type 0
Said = List (Option RemoteMessage)

-- ---- what is said, in stretches

-- what is said by an item is what is said by its text, where it is the remote's
pub said_item : (o : Option Item) (text : List ℕ) → Some text ≡ remote_text o → said (cons_option o []) ≡ said_by (remote_reading text)
said_item None text h = absurd cc
said_item (Some i) text h = go (is_remote i.side) h
  where
    go : (b : Bool) → Some text ≡ cond b (Some i.text) None
        → map (λ (x : Item). remote_reading x.text) (filter (λ (x : Item). not (item_is_aside x)) (cond b (i ∷ []) [])) ≡ said_by (remote_reading text)
    go false e = absurd cc
    go true e =
        let same : text ≡ i.text = cc in
        by_aside (spells_aside (remote_reading i.text)) refl ∙ ap (λ (t : List ℕ). said_by (remote_reading t)) (sym same)
      where
        by_aside : (a : Bool) → spells_aside (remote_reading i.text) ≡ a
            → map (λ (x : Item). remote_reading x.text) (cond (not (spells_aside (remote_reading i.text))) (i ∷ []) []) ≡ cond (spells_aside (remote_reading i.text)) [] (remote_reading i.text ∷ [])
        by_aside true e = rw e refl
        by_aside false e = rw e refl

pub said_none : (o : Option Item) → None ≡ remote_text o → said (cons_option o []) ≡ []
said_none None h = refl
said_none (Some i) h = go (is_remote i.side) h
  where
    go : (b : Bool) → None ≡ cond b (Some i.text) None
        → map (λ (x : Item). remote_reading x.text) (filter (λ (x : Item). not (item_is_aside x)) (cond b (i ∷ []) [])) ≡ []
    go false e = refl
    go true e = absurd cc

-- ---- what begins an answer

-- a line that spells no message begins none
all_last : (xs : Said) → list_all is_config (xs ++ None ∷ []) ≡ true → ⊥
all_last [] h = cc
all_last (x ∷ xs) h = go (is_config x) h (all_last xs)
  where
    go : (a : Bool) → (a && list_all is_config (xs ++ None ∷ [])) ≡ true → (list_all is_config (xs ++ None ∷ []) ≡ true → ⊥) → ⊥
    go true h r = r h
    go false h r = cc

pairs_last : (xs : Said) → are_pairs (xs ++ None ∷ []) ≡ true → ⊥
pairs_last [] h = cc
pairs_last (f ∷ []) h = go (is_infofield f) h
  where
    go : (a : Bool) → (a && false && true) ≡ true → ⊥
    go true h = cc
    go false h = cc
pairs_last (f ∷ v ∷ xs) h = go (is_infofield f) (is_infovalue v) h (pairs_last xs)
  where
    go : (a b : Bool) → (a && b && are_pairs (xs ++ None ∷ [])) ≡ true → (are_pairs (xs ++ None ∷ []) ≡ true → ⊥) → ⊥
    go true true h r = r h
    go true false h r = cc
    go false b h r = cc

nothing_last : (xs : Said) → is_nothing (xs ++ None ∷ []) ≡ true → ⊥
nothing_last [] h = cc
nothing_last (x ∷ xs) h = cc

pub none_begins : (q : HostMessage) (xs : Said) → awaits q (xs ++ None ∷ []) ≡ true → ⊥
none_begins q xs h = go (shape_of q) h
  where
    go : (s : Shape) → may_go_on s (xs ++ None ∷ []) ≡ true → ⊥
    go OneLine h = nothing_last xs h
    go Configs h = all_last xs h
    go Infos h = pairs_last xs h

-- an answer of one line was not begun
pub nothing_begun : (q : HostMessage) (ms : Said) → takes_lines (shape_of q) ≡ false → awaits q ms ≡ true → ms ≡ []
nothing_begun q ms one h = go (shape_of q) one h
  where
    go : (s : Shape) → takes_lines s ≡ false → may_go_on s ms ≡ true → ms ≡ []
    go OneLine one h = none ms h
      where
        none : (ms : Said) → is_nothing ms ≡ true → ms ≡ []
        none [] h = refl
        none (m ∷ ms) h = absurd cc
    go Configs one h = absurd cc
    go Infos one h = absurd cc

-- ---- the part, place by place

pub said_next : (past : List Entry) (c j n : ℕ) → said_before past c j (n + 1) ≡ said_before past c j n ++ said_there past c j n
said_next past c j n =
    let one : n + 1 ≡ suc n = omega arith in
    let zero_at : 0 + n ≡ n = omega arith in
    ap (λ (k : ℕ). said_before past c j k) one
    ∙ ap (λ (ks : List ℕ). said (filter_map (item_at past c j) ks)) (range_next 0 n)
    ∙ ap (λ (k : ℕ). said (filter_map (item_at past c j) (range_with_len 0 n ++ k ∷ []))) zero_at
    ∙ ap said (filter_map-append (item_at past c j) (range_with_len 0 n) (n ∷ []))
    ∙ said-append (filter_map (item_at past c j) (range_with_len 0 n)) (cons_option (item_at past c j n) [])

pub item_seam : (c j : ℕ) (past : List Entry) (e : Entry) (rest : List Entry) → item_at (past ++ e ∷ rest) c j (length past) ≡ item_of c j past e.what rest
item_seam c j past e rest =
    let one : length past + 1 ≡ length (past ++ e ∷ []) = sym (length-append past (e ∷ [])) in
    let behind : drop (length past + 1) (past ++ e ∷ rest) ≡ rest =
    ap (λ (k : ℕ). drop k (past ++ e ∷ rest)) one ∙ ap (drop (length (past ++ e ∷ []))) (sym (append_assoc past (e ∷ []) rest)) ∙ drop-append_seam (past ++ e ∷ []) rest in
    ap (option_and_then (λ (x : Entry). item_of c j (take (length past) (past ++ e ∷ rest)) x.what (drop (length past + 1) (past ++ e ∷ rest)))) (get_after past e rest)
    ∙ ap (λ (p : List Entry). item_of c j p e.what (drop (length past + 1) (past ++ e ∷ rest))) (take-append_seam past (e ∷ rest))
    ∙ ap (item_of c j past e.what) behind

pub part_places : (c j : ℕ) (past rest : List Entry) → part_from c j past rest ≡ filter_map (item_at (past ++ rest) c j) (range_with_len (length past) (length rest))
part_places c j past [] = refl
part_places c j past (e ∷ rest) =
    let next : length (past ++ e ∷ []) ≡ length past + 1 = length-append past (e ∷ []) in
    let ks = range_with_len (length past + 1) (length rest) in
    ap (cons_option (item_of c j past e.what rest))
    (part_places c j (past ++ e ∷ []) rest
    ∙ ap (λ (journal : List Entry). filter_map (item_at journal c j) (range_with_len (length (past ++ e ∷ [])) (length rest))) (append_assoc past (e ∷ []) rest)
    ∙ ap (λ (n : ℕ). filter_map (item_at (past ++ e ∷ rest) c j) (range_with_len n (length rest))) next)
    ∙ ap (λ (o : Option Item). cons_option o (filter_map (item_at (past ++ e ∷ rest) c j) ks)) (sym (item_seam c j past e rest))

pub said_whole : (past : List Entry) (c j : ℕ) → said (part past c j) ≡ said_before past c j (length past)
said_whole past c j = ap said (part_places c j [] past)

-- nothing is said at the first places where nothing is at each
pub none_said : (past : List Entry) (c j n : ℕ) → ((at : ℕ) → at < n → remote_text (item_at past c j at) ≡ None) → said_before past c j n ≡ []
none_said past c j zero none = refl
none_said past c j (suc n) none =
    let one : suc n ≡ n + 1 = omega arith in
    ap (said_before past c j) one
    ∙ said_next past c j n
    ∙ ap (λ (ms : Said). ms ++ said_there past c j n) (none_said past c j n (λ at low. none at (omega (arith, low))))
    ∙ said_none (item_at past c j n) (sym (none n (omega arith)))

-- ---- the last line that is no aside, looked for from the end

pub plain_there : (past : List Entry) (c j at : ℕ) (text : List ℕ) → Some text ≡ remote_text (item_at past c j at) → spells_aside (remote_reading text) ≡ false
    → said_there past c j at ≡ remote_reading text ∷ []
plain_there past c j at text here plain = said_item (item_at past c j at) text here ∙ rw plain refl

pub aside_there : (past : List Entry) (c j at : ℕ) (text : List ℕ) → Some text ≡ remote_text (item_at past c j at) → spells_aside (remote_reading text) ≡ true
    → said_there past c j at ≡ []
aside_there past c j at text here aside = said_item (item_at past c j at) text here ∙ rw aside refl

-- up to the place before, where nothing is said at this one
pub passed : (past : List Entry) (c j n : ℕ) → 0 < n → said (part past c j) ≡ said_before past c j n → said_there past c j (n - 1) ≡ []
    → said (part past c j) ≡ said_before past c j (n - 1)
passed past c j n some whole none =
    let one : n ≡ n - 1 + 1 = omega arith in
    whole ∙ ap (said_before past c j) one ∙ said_next past c j (n - 1)
    ∙ ap (λ (ms : Said). said_before past c j (n - 1) ++ ms) none
    ∙ append-nil (said_before past c j (n - 1))

pub found : (past : List Entry) (c j n : ℕ) (m : Option RemoteMessage) → 0 < n → said (part past c j) ≡ said_before past c j n → said_there past c j (n - 1) ≡ m ∷ []
    → EndsIn m (said (part past c j))
found past c j n m some whole here =
    let one : n ≡ n - 1 + 1 = omega arith in
    (said_before past c j (n - 1), whole ∙ ap (said_before past c j) one ∙ said_next past c j (n - 1) ∙ ap (λ (ms : Said). said_before past c j (n - 1) ++ ms) here)

-- ---- the talk that has heard it

pub after_last : (t : Talked) (q : HostMessage) (m : Option RemoteMessage) (all : Said) → EndsIn m all → awaits q all ≡ true
    → ((ms : Said) → awaits q (ms ++ m ∷ []) ≡ true → Follows t (ms ++ m ∷ [])) → Follows t all
after_last t q m all ends waits follows =
    subst (Follows t) (sym ends.1) (follows ends.0 (subst (λ (ms : Said). awaits q ms ≡ true) ends.1 waits))

pub no_last : (q : HostMessage) (m : Option RemoteMessage) (all : Said) → EndsIn m all → None ≡ m → awaits q all ≡ true → ⊥
no_last q m all ends none waits =
    none_begins q ends.0 (subst (λ (x : Option RemoteMessage). awaits q (ends.0 ++ x ∷ []) ≡ true) (sym none) (subst (λ (ms : Said). awaits q ms ≡ true) ends.1 waits))
