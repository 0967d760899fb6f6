-- One turn of a writer, and many.
use Rattle.std.proofs.Common.{◌≡◌, ◌≢◌, ◌⊎◌, inl, inr, ℕ, zero, suc, ◌+◌, ◌<◌, ◌≤◌, List, [], ◌∷◌, ◌++◌, refl, sym, ap, subst, ◌∙◌, append_assoc, append-nil, length, take, drop, Bool, true, false, Some, None, Option, Result, Ok, Err, IsErr, slice_get, arith}
use Rattle.std.specs.Prelude.{All}
use Rattle.std.specs.Io.KnownBytes.{Appends}
use Rattle.std.proofs.lemmas.List.{take-append-le}
use Rattle.std.proofs.lemmas.List.Elements.{filter_map-append, All-head, All-tail}
use Rattle.ann_outside.specs.Causes.{HasCause, Rose, StaysUntold}
use Rattle.ann_outside.proofs.Telling.{appends_both}
use Rattle.annex_model.specs.Lines.{text}
use Rattle.threads.specs.declared.view.Link.{Link}
use Rattle.threads.specs.Log.{flat, NotBy, Allowed, Legal as LegalLog}
use Rattle.threads.specs.Passes.{seen_of}
use Rattle.kit_serve.specs.Turns.{Half, Leaves}
use Rattle.kit_serve.proofs.Talks.{leaves_as, leaves_both}
use Rattle.kit_async_model.specs.declared.setup.Setup.{Setup}
use Rattle.kit_async_model.specs.declared.entry.Entry.{Entry}
use Rattle.kit_async_model.specs.declared.entry.Entry.TheVariants.{Heard, Take, Call, Say, Wrote, Close, Lack}
use Rattle.kit_async_model.specs.declared.event.Event.{Event}
use Rattle.kit_async_model.specs.declared.event.Event.TheVariants.{Next, Wrote as Written, Break}
use Rattle.kit_async_model.specs.declared.event.Reply.{Reply}
use Rattle.kit_async_model.specs.declared.event.Reply.TheVariants.{Done, Last, Wait, Over, Odd, Unsaid, Broken, Work, Line}
use Rattle.kit_async_model.specs.Events.{IsMadeBy, MayStep, IsStepped, IsBrokenOff, IsUnsaid, is_call, can_break, waiting, next_reply, wrote_step, step_of}
use Rattle.kit_async_model.specs.Legality.{Legal, is_legal, is_done}
use Rattle.kit_async_model.specs.Lines.{count_wrotes, is_wrote, said_line, said_lines}
use Rattle.kit_async_core.specs.Halls.{KitHall, KitPass}
use Rattle.kit_async_model.specs.Standings.{standing}
use Rattle.kit_async_model.proofs.Unwritten.{unwritten_are}
use Rattle.kit_async.specs.declared.work.why.Why.{Why}
use Rattle.kit_async.specs.declared.work.why.Why.TheVariants.{WriteFault, Memory, Eof, ReadFault, Long}
use Rattle.kit_async.specs.declared.work.turn.Turn.{Turn}
use Rattle.kit_async.specs.declared.work.turn.Turn.TheVariants.{Over as TurnOver}
use Rattle.kit_async.specs.Work.Passes.{Stands, Enters, why_of}
use Rattle.kit_async.specs.Work.Writing.{AllWritten, MouthValue, written_lines, IsNextLine, IsFaltered, IsWritten, Writes, WriterRan}
use Rattle.kit_async.proofs.WorkLemmas.Groups.{before_own, stands_on, stands_still}
use Rattle.ann_key.proofs.Numbers.{ok_no_err as not_error}
use Rattle.kit_async.proofs.WorkLemmas.Readers.{still}
use Rattle.annex_model.proofs.Across.{text-append}

-- ---- counts

count-append : (xs ys : List Entry) → count_wrotes (xs ++ ys) ≡ count_wrotes xs + count_wrotes ys
count-append [] ys = omega arith
count-append (e ∷ xs) ys = go (is_wrote e) refl (count-append xs ys)
  where
    go : (b : Bool) → is_wrote e ≡ b → count_wrotes (xs ++ ys) ≡ count_wrotes xs + count_wrotes ys → count_wrotes (e ∷ xs ++ ys) ≡ count_wrotes (e ∷ xs) + count_wrotes ys
    go true k more = rw (k, more) (omega arith)
    go false k more = rw (k, more) refl

-- ---- of others

unwrote : (by : ℕ) → by ≢ 2 → (e : Entry) → IsMadeBy by e → is_wrote e ≡ false
unwrote by other (Heard line) made = refl
unwrote by other (Take job remote) made = refl
unwrote by other (Call job remote said) made = refl
unwrote by other (Say job line) made = refl
unwrote by other Wrote made = absurd (other made)
unwrote by other Close made = refl
unwrote by other Lack made = refl

none_group : (by : ℕ) → by ≢ 2 → (group : List Entry) → All (IsMadeBy by) group → count_wrotes group ≡ 0
none_group by other [] made = refl
none_group by other (e ∷ group) made =
    rw (unwrote by other e (All-head (IsMadeBy by) e group made)) (none_group by other group (All-tail (IsMadeBy by) e group made))

pub none_log : (setup : Setup) (past : List Entry) (ks : List (Link Entry)) → LegalLog (Allowed IsMadeBy MayStep) setup past ks → NotBy 2 ks → count_wrotes (flat ks) ≡ 0
none_log setup past [] h n = refl
none_log setup past (k ∷ ks) h n =
    count-append k.group (flat ks)
    ∙ (rw (none_group k.by n.0 k.group h.0.2.0, none_log setup (past ++ k.group) ks h.1 n.1) refl)

-- ---- lists

taken_front : (k : ℕ) (xs ys : List (List ℕ)) → k ≤ length xs → take (k + 0) (xs ++ ys) ≡ take k xs
taken_front k xs ys few = let same : k + 0 ≡ k = omega arith in rw same (take-append-le k xs ys few)

get_front : (k : ℕ) (xs ys : List (List ℕ)) (x : List ℕ) → slice_get xs k ≡ Some x → slice_get (xs ++ ys) k ≡ Some x
get_front k [] ys x g = cc
get_front zero (z ∷ xs) ys x g = g
get_front (suc k) (z ∷ xs) ys x g = get_front k xs ys x g

get_dropped : (k : ℕ) (xs more : List (List ℕ)) (x : List ℕ) → x ∷ more ≡ drop k xs → slice_get xs k ≡ Some x
get_dropped zero [] more x e = cc
get_dropped zero (z ∷ xs) more x e = cc
get_dropped (suc k) [] more x e = cc
get_dropped (suc k) (z ∷ xs) more x e = get_dropped k xs more x e

dropped_some : (k : ℕ) (xs : List (List ℕ)) (x : List ℕ) → slice_get xs k ≡ Some x → (more : List (List ℕ)) × (drop k xs ≡ x ∷ more)
dropped_some k [] x g = cc
dropped_some zero (z ∷ xs) x g = (xs, cc)
dropped_some (suc k) (z ∷ xs) x g = dropped_some k xs x g

take_one_more : (k : ℕ) (xs ys : List (List ℕ)) (x : List ℕ) → slice_get xs k ≡ Some x → take (k + 1) (xs ++ ys) ≡ take k xs ++ x ∷ []
take_one_more k [] ys x g = cc
take_one_more zero (z ∷ xs) ys x g = cc
take_one_more (suc k) (z ∷ xs) ys x g =
    let more : suc k + 1 ≡ suc (k + 1) = omega arith in
    ap (λ (n : ℕ). take n (z ∷ (xs ++ ys))) more ∙ ap (λ (ls : List (List ℕ)). z ∷ ls) (take_one_more k xs ys x g)

-- ---- journals

said-append : (xs ys : List Entry) → said_lines (xs ++ ys) ≡ said_lines xs ++ said_lines ys
said-append xs ys = filter_map-append said_line xs ys

same_count : (past rest : List Entry) → count_wrotes rest ≡ 0 → count_wrotes (past ++ rest) ≡ count_wrotes past + 0
same_count past rest none = count-append past rest ∙ ap (λ (n : ℕ). count_wrotes past + n) none

-- where nobody wrote, the same lines are written
pub written_stays : (setup : Setup) (past rest : List Entry) → is_legal setup past ≡ true → count_wrotes rest ≡ 0 → written_lines (past ++ rest) ≡ written_lines past
written_stays setup past rest legal none =
    ap (λ (n : ℕ). take n (said_lines (past ++ rest))) (same_count past rest none)
    ∙ ap (λ (ls : List (List ℕ)). take (count_wrotes past + 0) ls) (said-append past rest)
    ∙ taken_front (count_wrotes past) (said_lines past) (said_lines rest) (unwritten_are setup past legal).1

-- and the same line is the next
pub next_stays : (past rest : List Entry) (line : List ℕ) → count_wrotes rest ≡ 0 → IsNextLine past line → IsNextLine (past ++ rest) line
next_stays past rest line none next =
    let zero_more : count_wrotes past + 0 ≡ count_wrotes past = omega arith in
    ap (λ (n : ℕ). slice_get (said_lines (past ++ rest)) n) (same_count past rest none ∙ zero_more)
    ∙ ap (λ (ls : List (List ℕ)). slice_get ls (count_wrotes past)) (said-append past rest)
    ∙ get_front (count_wrotes past) (said_lines past) (said_lines rest) line next

-- the next line is written
wrote_one : (past : List Entry) (line : List ℕ) → IsNextLine past line → written_lines (past ++ Wrote ∷ []) ≡ written_lines past ++ line ∷ []
wrote_one past line next =
    ap (λ (n : ℕ). take n (said_lines (past ++ Wrote ∷ []))) (count-append past (Wrote ∷ []))
    ∙ ap (λ (ls : List (List ℕ)). take (count_wrotes past + 1) ls) (said-append past (Wrote ∷ []))
    ∙ take_one_more (count_wrotes past) (said_lines past) [] line next

-- ---- the steps

-- of any event in which it writes nothing
pub wrote_nothing : (h : KitHall) (p q : KitPass) (event : Event) (reply : Reply) → Stands h 2 p → (e : Enters h p q event reply) → count_wrotes e.group ≡ 0
    → written_lines (seen_of q) ≡ written_lines (seen_of p)
wrote_nothing h p q event reply s e none =
    let others = subst (λ (n : ℕ). NotBy n e.between) s.number_is e.others in
    let between : count_wrotes (flat e.between) ≡ 0 = none_log h.fixed (seen_of p) e.between e.between_legal others in
    ap written_lines e.seen
    ∙ written_stays h.fixed (seen_of p ++ flat e.between) e.group (before_own h p q event reply s.legal e).follow none
    ∙ written_stays h.fixed (seen_of p) (flat e.between) s.legal.follow between

own_step : (h : KitHall) (p q : KitPass) (event : Event) (reply : Reply) → Stands h 2 p → (e : Enters h p q event reply)
    → MayStep h.fixed (seen_of p ++ flat e.between) 2 event e.group reply
own_step h p q event reply s e = subst (λ (n : ℕ). MayStep h.fixed (seen_of p ++ flat e.between) n event e.group reply) s.number_is e.own.1

-- it breaks the kit off
break_group : (h : KitHall) (p q : KitPass) (reply : Reply) → Stands h 2 p → (e : Enters h p q Break reply) → e.group ≡ []
break_group h p q reply s e = go (own_step h p q Break reply s e).step
  where
    go : IsStepped (step_of h.fixed (seen_of p ++ flat e.between) 2 Break) e.group reply
        ⊎ (IsBrokenOff Break e.group reply ⊎ ((is_call Break ≡ true) × IsUnsaid (step_of h.fixed (seen_of p ++ flat e.between) 2 Break) e.group reply)) → e.group ≡ []
    go (inl k) = k.group_is
    go (inr (inl b)) = b.group_is
    go (inr (inr u)) = let bad : false ≡ true = u.0 in absurd cc

pub broke : (h : KitHall) (p q : KitPass) → Stands h 2 p → ((reply : Reply) × Enters h p q Break reply) → written_lines (seen_of q) ≡ written_lines (seen_of p)
broke h p q s e = wrote_nothing h p q Break e.0 s e.1 (ap count_wrotes (break_group h p q e.0 s e.1))

-- and the next line stays the next
pub broke_next : (h : KitHall) (p q : KitPass) (line : List ℕ) → Stands h 2 p → ((reply : Reply) × Enters h p q Break reply) → IsNextLine (seen_of p) line → IsNextLine (seen_of q) line
broke_next h p q line s e next =
    let k = e.1 in
    let others : count_wrotes (flat k.between) ≡ 0 = none_log h.fixed (seen_of p) k.between k.between_legal (subst (λ (n : ℕ). NotBy n k.between) s.number_is k.others) in
    let past : List Entry = seen_of p ++ flat k.between in
    let same : seen_of q ≡ past = k.seen ∙ ap (λ (g : List Entry). past ++ g) (break_group h p q e.0 s k) ∙ append-nil past in
    subst (λ (j : List Entry). IsNextLine j line) (sym same) (next_stays (seen_of p) (flat k.between) line others next)

-- it asks for the next line
next_group : (h : KitHall) (p q : KitPass) (reply : Reply) → Stands h 2 p → (e : Enters h p q Next reply) → e.group ≡ []
next_group h p q reply s e = go (own_step h p q Next reply s e).step
  where
    go : IsStepped (step_of h.fixed (seen_of p ++ flat e.between) 2 Next) e.group reply
        ⊎ (IsBrokenOff Next e.group reply ⊎ ((is_call Next ≡ true) × IsUnsaid (step_of h.fixed (seen_of p ++ flat e.between) 2 Next) e.group reply)) → e.group ≡ []
    go (inl k) = k.group_is
    go (inr (inl b)) = b.group_is
    go (inr (inr u)) = let bad : false ≡ true = u.0 in absurd cc

pub asked_next : (h : KitHall) (p q : KitPass) (reply : Reply) → Stands h 2 p → Enters h p q Next reply → written_lines (seen_of q) ≡ written_lines (seen_of p)
asked_next h p q reply s e = wrote_nothing h p q Next reply s e (ap count_wrotes (next_group h p q reply s e))

no_line : (done : Bool) (line : List ℕ) → Line line ≡ waiting done → ⊥
no_line true line e = cc
no_line false line e = cc

line_first : (done : Bool) (lines : List (List ℕ)) (line : List ℕ) → Line line ≡ next_reply done lines → (more : List (List ℕ)) × (lines ≡ line ∷ more)
line_first done [] line e = absurd (no_line done line e)
line_first done (l ∷ lines) line e = (lines, (let same : line ≡ l = cc in ap (λ (x : List ℕ). x ∷ lines) (sym same)))

-- the line that it is given is the next one
pub given_next : (h : KitHall) (p q : KitPass) (line : List ℕ) → Stands h 2 p → Enters h p q Next (Line line) → IsNextLine (seen_of q) line
given_next h p q line s e = go (own_step h p q Next (Line line) s e).step
  where
    past : List Entry
    past = seen_of p ++ flat e.between

    same : seen_of q ≡ past
    same = e.seen ∙ ap (λ (g : List Entry). past ++ g) (next_group h p q (Line line) s e) ∙ append-nil past

    found : ((more : List (List ℕ)) × ((standing h.fixed past).unwritten ≡ line ∷ more)) → IsNextLine (seen_of q) line
    found m =
        subst (λ (j : List Entry). IsNextLine j line) (sym same)
        (get_dropped (count_wrotes past) (said_lines past) m.0 line (sym m.1 ∙ (unwritten_are h.fixed past (before_own h p q Next (Line line) s.legal e).follow).0))

    go : IsStepped (step_of h.fixed past 2 Next) e.group (Line line)
        ⊎ (IsBrokenOff Next e.group (Line line) ⊎ ((is_call Next ≡ true) × IsUnsaid (step_of h.fixed past 2 Next) e.group (Line line))) → IsNextLine (seen_of q) line
    go (inl k) = found (line_first (is_done h.fixed (standing h.fixed past)) (standing h.fixed past).unwritten line k.reply_is)
    go (inr (inl b)) = let bad : Line line ≡ Broken = b.reply_is in absurd cc
    go (inr (inr u)) = let bad : false ≡ true = u.0 in absurd cc

wait_none : (done : Bool) (lines : List (List ℕ)) → Wait ≡ next_reply done lines → lines ≡ []
wait_none done [] e = refl
wait_none done (l ∷ lines) e = cc

none_left : (k : ℕ) (xs : List (List ℕ)) → [] ≡ drop k xs → take k xs ≡ xs
none_left zero [] e = refl
none_left zero (x ∷ xs) e = cc
none_left (suc k) [] e = refl
none_left (suc k) (x ∷ xs) e = ap (λ (ls : List (List ℕ)). x ∷ ls) (none_left k xs e)

-- where it is told to wait, all that was said is written
pub waits_written : (h : KitHall) (p q : KitPass) → Stands h 2 p → Enters h p q Next Wait → AllWritten (seen_of q)
waits_written h p q s e = go (own_step h p q Next Wait s e).step
  where
    past : List Entry
    past = seen_of p ++ flat e.between

    same : seen_of q ≡ past
    same = e.seen ∙ ap (λ (g : List Entry). past ++ g) (next_group h p q Wait s e) ∙ append-nil past

    found : (standing h.fixed past).unwritten ≡ [] → AllWritten (seen_of q)
    found none =
        subst (λ (j : List Entry). AllWritten j) (sym same)
        (none_left (count_wrotes past) (said_lines past) (sym none ∙ (unwritten_are h.fixed past (before_own h p q Next Wait s.legal e).follow).0))

    go : IsStepped (step_of h.fixed past 2 Next) e.group Wait
        ⊎ (IsBrokenOff Next e.group Wait ⊎ ((is_call Next ≡ true) × IsUnsaid (step_of h.fixed past 2 Next) e.group Wait)) → AllWritten (seen_of q)
    go (inl k) = found (wait_none (is_done h.fixed (standing h.fixed past)) (standing h.fixed past).unwritten k.reply_is)
    go (inr (inl b)) = let bad : Wait ≡ Broken = b.reply_is in absurd cc
    go (inr (inr u)) = let bad : false ≡ true = u.0 in absurd cc

-- it tells that the next line is written
pub told_wrote : (h : KitHall) (p q : KitPass) (reply : Reply) (line : List ℕ) → Stands h 2 p → Enters h p q Written reply → IsNextLine (seen_of p) line
    → written_lines (seen_of q) ≡ written_lines (seen_of p) ++ line ∷ []
told_wrote h p q reply line s e next = go (own_step h p q Written reply s e).step
  where
    past : List Entry
    past = seen_of p ++ flat e.between

    others : count_wrotes (flat e.between) ≡ 0
    others = none_log h.fixed (seen_of p) e.between e.between_legal (subst (λ (n : ℕ). NotBy n e.between) s.number_is e.others)

    there : IsNextLine past line
    there = next_stays (seen_of p) (flat e.between) line others next

    some : (more : List (List ℕ)) × ((standing h.fixed past).unwritten ≡ line ∷ more)
    some =
        let d = dropped_some (count_wrotes past) (said_lines past) line there in
        (d.0, (unwritten_are h.fixed past (before_own h p q Written reply s.legal e).follow).0 ∙ d.1)

    group_is : e.group ≡ (step_of h.fixed past 2 Written).group → e.group ≡ Wrote ∷ []
    group_is k = k ∙ ap (λ (ls : List (List ℕ)). (wrote_step ls).group) some.1

    wrote : e.group ≡ Wrote ∷ [] → written_lines (seen_of q) ≡ written_lines (seen_of p) ++ line ∷ []
    wrote k =
        ap written_lines (e.seen ∙ ap (λ (g : List Entry). past ++ g) k)
        ∙ wrote_one past line there
        ∙ ap (λ (ls : List (List ℕ)). ls ++ line ∷ []) (written_stays h.fixed (seen_of p) (flat e.between) s.legal.follow others)

    go : IsStepped (step_of h.fixed past 2 Written) e.group reply
        ⊎ (IsBrokenOff Written e.group reply ⊎ ((is_call Written ≡ true) × IsUnsaid (step_of h.fixed past 2 Written) e.group reply))
        → written_lines (seen_of q) ≡ written_lines (seen_of p) ++ line ∷ []
    go (inl k) = wrote (group_is k.group_is)
    go (inr (inl b)) = let bad : false ≡ true = b.may in absurd cc
    go (inr (inr u)) = let bad : false ≡ true = u.0 in absurd cc

-- ---- turns

-- a reason that says nothing of the sink
abbrev pub IsCalm : Option Why → Type 0
IsCalm (Some WriteFault) = ⊥
IsCalm why = Unit {0}

calm_fault : (why : Option Why) → IsCalm why → why ≡ Some WriteFault → ⊥
calm_fault None c e = cc
calm_fault (Some Eof) c e = cc
calm_fault (Some ReadFault) c e = cc
calm_fault (Some Long) c e = cc
calm_fault (Some WriteFault) c e = c
calm_fault (Some Memory) c e = cc

calm_written : (why : Option Why) (journal : List Entry) (bytes : List ℕ) → IsCalm why → bytes ≡ text (written_lines journal) → IsWritten why journal bytes
calm_written None journal bytes c e = e
calm_written (Some Eof) journal bytes c e = e
calm_written (Some ReadFault) journal bytes c e = e
calm_written (Some Long) journal bytes c e = e
calm_written (Some WriteFault) journal bytes c e = absurd c
calm_written (Some Memory) journal bytes c e = e

-- nothing was written
pub ran_calm : (h : KitHall) (p q : KitPass) (m : MouthValue) (why : Option Why) → Stands h 2 p → Stands h p.number q → m.half.is_open ≡ true → IsCalm why
    → written_lines (seen_of q) ≡ written_lines (seen_of p) → WriterRan h p q m m why
ran_calm h p q m why s t o calm same = record {
  stands = stands_on h 2 p q s t;
  writes = λ begun w. record {
    bytes = w.bytes;
    took = w.took;
    silent = w.silent;
    written = calm_written why (seen_of q) w.bytes calm (w.written ∙ ap text (sym same));
  };
  sink = still m.half (why ≡ Some WriteFault) o (calm_fault why calm);
}

-- the next line was written, and told so
pub ran_wrote : (h : KitHall) (p q : KitPass) (m w : MouthValue) (line : List ℕ) → Stands h 2 p → Stands h p.number q
    → written_lines (seen_of q) ≡ written_lines (seen_of p) ++ line ∷ [] → Appends m.taken w.taken (line ++ 10 ∷ []) → StaysUntold m.taken w.taken
    → Leaves m.half w.half (None ≡ Some WriteFault) → WriterRan h p q m w None
ran_wrote h p q m w line s t more took untold sink = record {
  stands = stands_on h 2 p q s t;
  writes = λ begun k. record {
    bytes = k.bytes ++ (line ++ 10 ∷ []);
    took = appends_both begun m.taken w.taken k.bytes (line ++ 10 ∷ []) k.took took;
    silent = λ none. untold (k.silent none);
    written = ap (λ (x : List ℕ). x ++ (line ++ 10 ∷ [])) k.written ∙ sym (text-append (written_lines (seen_of p)) (line ∷ [])) ∙ ap text (sym more);
  };
  sink = sink;
}

-- writing failed
pub ran_falters : (h : KitHall) (p q : KitPass) (m w : MouthValue) (line : List ℕ) → Stands h 2 p → Stands h p.number q
    → written_lines (seen_of q) ≡ written_lines (seen_of p) → IsNextLine (seen_of q) line → ((n : ℕ) × Appends m.taken w.taken (take n (line ++ 10 ∷ []))) → StaysUntold m.taken w.taken
    → Leaves m.half w.half (Some WriteFault ≡ Some WriteFault) → WriterRan h p q m w (Some WriteFault)
ran_falters h p q m w line s t same next took untold sink = record {
  stands = stands_on h 2 p q s t;
  writes = λ begun k. record {
    bytes = k.bytes ++ take took.0 (line ++ 10 ∷ []);
    took = appends_both begun m.taken w.taken k.bytes (take took.0 (line ++ 10 ∷ [])) k.took took.1;
    silent = λ none. untold (k.silent none);
    written = record { line = line; n = took.0; next = next; are = ap (λ (x : List ℕ). x ++ take took.0 (line ++ 10 ∷ [])) (k.written ∙ ap text (sym same)) };
  };
  sink = sink;
}

quiet_sink : (x y : Half) → Leaves x y (None ≡ Some WriteFault) → Leaves x y ⊥
quiet_sink x y l = record { later = l.later; cause = λ f. absurd f; quiet = λ _. l.quiet (λ (bad : None ≡ Some WriteFault). absurd cc); opened = l.opened; number = l.number }

pub wrote_both : (h : KitHall) (p q r : KitPass) (m w v : MouthValue) (why : Option Why) → WriterRan h p q m w None → WriterRan h q r w v why → WriterRan h p r m v why
wrote_both h p q r m w v why a b = record {
  stands = b.stands;
  writes = λ begun k. b.writes begun (a.writes begun k);
  sink = leaves_both m.half w.half v.half (why ≡ Some WriteFault) (quiet_sink m.half w.half a.sink) b.sink;
}

pub wrote_none : (h : KitHall) (p : KitPass) (m : MouthValue) → Stands h 2 p → m.half.is_open ≡ true → WriterRan h p p m m None
wrote_none h p m s o = record { stands = s; writes = λ begun k. k; sink = still m.half (None ≡ Some WriteFault) o (λ (bad : None ≡ Some WriteFault). absurd cc) }

-- ---- the functions

-- all was taken, and then handed on or not
pub flushed_leaves : {T E : Type 0} (old mid new : Half) (result : Result T E) → mid.faults ≡ old.faults → HasCause mid.faults new.faults result → new.is_open ≡ true
    → new.number ≡ mid.number → mid.number ≡ old.number → Leaves old new (IsErr result)
flushed_leaves old mid new (Ok x) same c o n m = record {
  later = omega (arith, c.later, same);
  cause = λ (bad : false ≡ true). absurd cc;
  quiet = λ _. c.done ∙ same;
  opened = o;
  number = n ∙ m;
}
flushed_leaves old mid new (Err e) same c o n m = record {
  later = omega (arith, c.later, same);
  cause = λ _. subst (λ (k : ℕ). Rose k new.faults) same c.failed;
  quiet = λ no. absurd (no refl);
  opened = o;
  number = n ∙ m;
}

-- it wasn't all taken
pub failed_leaves : (old new : Half) (fault : Type 0) → fault → old.faults ≤ new.faults → Rose old.faults new.faults → new.is_open ≡ true → new.number ≡ old.number → Leaves old new fault
failed_leaves old new fault f later rose o n = record { later = later; cause = λ _. rose; quiet = λ no. absurd (no f); opened = o; number = n }

-- a fault that came, by another word
pub leaves_for : (old new : Half) (fault fault' : Type 0) → Leaves old new fault → fault → fault' → Leaves old new fault'
leaves_for old new fault fault' l f f' = record { later = l.later; cause = λ _. l.cause f; quiet = λ no. absurd (no f'); opened = l.opened; number = l.number }

-- the next line was written whole, and told so
pub ran_put : {T E : Type 0} (h : KitHall) (p q : KitPass) (m w : MouthValue) (line : List ℕ) (result : Result T E) (x : T) → Stands h 2 p → Stands h p.number q
    → ((reply : Reply) × Enters h p q Written reply) → IsNextLine (seen_of p) line → result ≡ Ok x → Appends m.taken w.taken (line ++ 10 ∷ []) → StaysUntold m.taken w.taken
    → Leaves m.half w.half (IsErr result) → WriterRan h p q m w None
ran_put h p q m w line result x s t e next is took untold sink =
    ran_wrote h p q m w line s t (told_wrote h p q e.0 line s e.1 next) took untold
    (leaves_as m.half w.half (IsErr result) (None ≡ Some WriteFault) sink (not_error result x is) (λ (bad : None ≡ Some WriteFault). absurd cc))

is_error : {T E : Type 0} (result : Result T E) (x : E) → result ≡ Err x → IsErr result
is_error (Ok y) x is = cc
is_error (Err e) x is = refl

-- writing failed, and the kit was broken off
pub ran_failed : {T E : Type 0} (h : KitHall) (p q : KitPass) (m w : MouthValue) (line : List ℕ) (result : Result T E) (x : E) (turn : Turn) → Stands h 2 p → Stands h p.number q
    → ((reply : Reply) × Enters h p q Break reply) → IsNextLine (seen_of p) line → result ≡ Err x → ((n : ℕ) × Appends m.taken w.taken (take n (line ++ 10 ∷ []))) → StaysUntold m.taken w.taken
    → Leaves m.half w.half (IsErr result) → turn ≡ TurnOver (Some WriteFault) → WriterRan h p q m w (why_of turn)
ran_failed h p q m w line result x turn s t e next is took untold sink over =
    subst (λ (u : Turn). WriterRan h p q m w (why_of u)) (sym over)
    (ran_falters h p q m w line s t (broke h p q s e) (broke_next h p q line s e next) took untold
    (leaves_for m.half w.half (IsErr result) (Some WriteFault ≡ Some WriteFault) sink (is_error result x is) refl))

-- it was given a line, and did that with it
pub wrote_given : (h : KitHall) (p q r : KitPass) (reply : Reply) (m w : MouthValue) (why : Option Why) → Stands h 2 p → Stands h p.number q → Enters h p q Next reply → m.half.is_open ≡ true
    → WriterRan h q r m w why → WriterRan h p r m w why
wrote_given h p q r reply m w why s t e o x = wrote_both h p q r m m w why (ran_calm h p q m None s t o tt (asked_next h p q reply s e)) x

-- there was none
pub wrote_idle : (h : KitHall) (p q : KitPass) (reply : Reply) (m : MouthValue) → Stands h 2 p → Stands h p.number q → Enters h p q Next reply → m.half.is_open ≡ true → WriterRan h p q m m None
wrote_idle h p q reply m s t e o = ran_calm h p q m None s t o tt (asked_next h p q reply s e)

-- no memory was found for it, and the kit was broken off
pub wrote_untold : (h : KitHall) (p q v : KitPass) (m : MouthValue) (turn : Turn) → Stands h 2 p → q ≡ p → Stands h q.number v → ((reply : Reply) × Enters h q v Break reply) → m.half.is_open ≡ true
    → turn ≡ TurnOver (Some Memory) → WriterRan h p v m m (why_of turn)
wrote_untold h p q v m turn s same t e o over =
    let still_there = stands_still h 2 p q s same in
    subst (λ (x : KitPass). WriterRan h x v m m (why_of turn)) same
    (subst (λ (u : Turn). WriterRan h q v m m (why_of u)) (sym over) (ran_calm h q v m (Some Memory) still_there t o tt (broke h q v still_there e)))

-- a rest changes nothing
pub wrote_rested : (h : KitHall) (p q r : KitPass) (m w : MouthValue) → WriterRan h p q m w None → r ≡ q → WriterRan h p r m w None
wrote_rested h p q r m w a same = subst (λ (x : KitPass). WriterRan h p x m w None) (sym same) a
