-- One entry of a journal that is made again.
use Rattle.std.proofs.Common.{◌≡◌, ℕ, List, [], ◌∷◌, ◌++◌, ◌+◌, ◌<◌, ◌^◌, refl, sym, ap, subst, ◌∙◌, Bool, true, false, Option, Some, None, arith, inl, inr, ◌⊎◌, length, append_assoc, append-nil, slice_get}
use Rattle.std.specs.Prelude.{IsTrue, ◌↔◌, OnOk, Result, Ok, Err}
use Rattle.ann_key.specs.declared.bytes.NoMemory.{NoMemory}
use Rattle.std.proofs.lemmas.Option.{slice_get_past}
use Rattle.std.proofs.lemmas.List.{length-append}
use Rattle.journal_model.specs.declared.entry.What.{What}
use Rattle.journal_model.specs.declared.entry.What.TheVariants.{Lead, Ask}
use Rattle.journal_model.specs.declared.entry.Entry.{Entry}
use Rattle.journal_model.specs.declared.opening.Opening.{Opening}
use Rattle.journal_model.specs.Due.{due_after}
use Rattle.journal_model.specs.Legality.{Follows, IsDue, IsGroup, StandsFrom, MayStand, led_by, owed_after, owed_from, still_owed}
use Rattle.journal_model.proofs.Growing.{due_none_asks, group_follows, is_owed, none_asks, no_request, owed_from-append, owed_is, StandsFrom-append, unled}
use Rattle.journal_model.proofs.Looks.{entry}
use Rattle.host_core.specs.declared.event.Event.{Event}
use Rattle.host_core.specs.Steps.{Step, step_of, group_of, Comes}
use Rattle.host_core.proofs.Stepping.{step_comes}
use Rattle.journal_audit.specs.Replays.{IsLedBy, IsNext, IsReplayed, IsTold, Owes, Pairs, Says, SaysName, Suits, Unpaired, group_by, is_name}

-- ---- what the core is told

-- one group at most
one_group : (o : Opening) (past : List Entry) (by : ℕ) (event : Option Event) (made : List Entry) → length past < 2 ^ 64 → made ≡ past ++ group_by o past by event
    → (made ≡ past) ⊎ ((group : List Entry) × IsGroup o past group × (made ≡ past ++ group))
one_group o past by None made few grown = inl (grown ∙ append-nil past)
one_group o past by (Some event) made few grown = go (step_of o past by event) (step_comes o past by event few) grown
  where
    go : (s : Step) → Comes o past s → made ≡ past ++ s.group → (made ≡ past) ⊎ ((group : List Entry) × IsGroup o past group × (made ≡ past ++ group))
    go s (inl none) g = inl (g ∙ ap (λ (x : List Entry). past ++ x) none ∙ append-nil past)
    go s (inr some) g = inr (s.group, some, g)

pub told_event : (o : Opening) (past : List Entry) (e : Entry) (next : Option Entry) (event : Event) (made : List Entry) → length past < 2 ^ 64 → is_name e.what ≡ false
    → Suits o past e.by e.what (Some event) → made ≡ past ++ (step_of o past e.by event).group → IsTold o past e next made
told_event o past e next event made few plain suits grown = record {
  comes = λ may. (due_after o past e, grown ∙ ap (λ (g : List Entry). past ++ g) (suits may));
  one = one_group o past e.by (Some event) made few grown;
  led = λ may child job line is f there due. absurd (let no : false ≡ true = sym plain ∙ ap is_name is in cc);
}

pub told_none : (o : Opening) (past : List Entry) (e : Entry) (next : Option Entry) → is_name e.what ≡ false → Suits o past e.by e.what None → IsTold o past e next past
told_none o past e next plain suits = record {
  comes = λ may. absurd (suits may);
  one = inl refl;
  led = λ may child job line is f there due. absurd (suits may);
}

same_lead : (o : Opening) (past : List Entry) (by child job : ℕ) (line : List ℕ) (k j : ℕ) (x : List ℕ) → Lead child job line ≡ Lead k j x → (f : Entry) → IsLedBy o past by k j x f → IsLedBy o past by child job line f
same_lead o past by child job line k j x is f due =
    let c : k ≡ child = cc is in
    let n : j ≡ job = cc is in
    let t : x ≡ line = cc is in
    subst (λ (y : List ℕ). IsLedBy o past by child job y f) t
    (subst (λ (i : ℕ). IsLedBy o past by child i x f) n (subst (λ (i : ℕ). IsLedBy o past by i j x f) c due))

none_more : (past group : List Entry) → length (past ++ group) ≡ length past → group ≡ []
none_more past [] h = refl
none_more past (x ∷ group) h = absurd (let e = length-append past (x ∷ group) in omega (arith, e, h))

-- a name that was told with the next entry
module _ (o : Opening) (past : List Entry) (by child job : ℕ) (line : List ℕ) (next : Option Entry) (pair : Option Event) (pairs : Pairs o past by child job line next pair) where
  abbrev l : Entry
  l = entry by (Lead child job line)

  same_name : (k j : ℕ) (x : List ℕ) → l.what ≡ Lead k j x → (f : Entry) → IsLedBy o past by k j x f → IsLedBy o past by child job line f
  same_name k j x is f due = same_lead o past by child job line k j x is f due

  -- it appended something
  pub told_pair : (made : List Entry) → length past < 2 ^ 64 → made ≡ past ++ group_by o past by pair → (length made ≡ length past → ⊥) → IsTold o past l next made
  told_pair made few grown more = record {
    comes = λ may. comes (pairs.first may);
    one = one_group o past by pair made few grown;
    led = λ may k j x is f there due. grown ∙ ap (λ (g : List Entry). past ++ g) (pairs.both may f there (same_name k j x is f due));
  }
    where
      comes : (group_by o past by pair ≡ []) ⊎ ((rest : List Entry) × (group_by o past by pair ≡ l ∷ rest)) → (rest : List Entry) × (made ≡ past ++ l ∷ rest)
      comes (inl none) = absurd (more (ap length (grown ∙ ap (λ (g : List Entry). past ++ g) none ∙ append-nil past)))
      comes (inr some) = (some.0, grown ∙ ap (λ (g : List Entry). past ++ g) some.1)

  -- told with counts of what was there before and is there now
  pub pair_told : (made : List Entry) (before after : ℕ) → length past < 2 ^ 64 → made ≡ past ++ group_by o past by pair → before ≡ length past → after ≡ length made → (after ≡ before → ⊥)
      → IsTold o past l next made
  pair_told made before after few grown first last more = told_pair made few grown (λ e. more (last ∙ e ∙ sym first))

  -- it appended nothing, so the name doesn't lead the next entry
  pub pair_untold : (made : List Entry) (before after : ℕ) → made ≡ past ++ group_by o past by pair → before ≡ length past → after ≡ length made → after ≡ before
      → Unpaired o past by child job line next
  pair_untold made before after grown first last same may f there due =
      let nothing : group_by o past by pair ≡ [] = none_more past (group_by o past by pair) (ap length (sym grown) ∙ sym last ∙ same ∙ first) in
      let bad : l ∷ f ∷ [] ≡ [] = sym (pairs.both may f there due) ∙ nothing in
      cc

-- and the journal is as it was
pub made_same : (past group made : List Entry) (before after : ℕ) → made ≡ past ++ group → before ≡ length past → after ≡ length made → after ≡ before → made ≡ past
made_same past group made before after grown first last same =
    grown ∙ ap (λ (g : List Entry). past ++ g) (none_more past group (ap length (sym grown) ∙ sym last ∙ same ∙ first)) ∙ append-nil past

-- the name was told with another request
pub told_name : (o : Opening) (past : List Entry) (by child job : ℕ) (line : List ℕ) (next : Option Entry) (event : Option Event) (made : List Entry) → length past < 2 ^ 64
    → Unpaired o past by child job line next → SaysName o past by child job line event → made ≡ past ++ group_by o past by event → IsTold o past (entry by (Lead child job line)) next made
told_name o past by child job line next event made few unpaired says grown = record {
  comes = λ may. (let s = says may in (s.0, grown ∙ ap (λ (g : List Entry). past ++ g) s.1));
  one = one_group o past by event made few grown;
  led = λ may k j x is f there due. absurd (unpaired may f there (same_lead o past by child job line k j x is f due));
}

-- what was told of a core that a pair left as it was
pub told_after : (o p : Opening) (past mid : List Entry) (by child job : ℕ) (line name : List ℕ) (next : Option Entry) (event : Option Event) (made : List Entry) → p ≡ o → mid ≡ past → length past < 2 ^ 64
    → Says past child line name → Unpaired o past by child job line next → (Says mid child line name → SaysName p mid by child job line event) → made ≡ mid ++ group_by p mid by event
    → IsTold o past (entry by (Lead child job line)) next made
told_after o p past mid by child job line name next event made same still few reads unpaired says grown =
    told_name o past by child job line next event made few unpaired
    (subst (λ (q : Opening). SaysName q past by child job line event) same
    (subst (λ (x : List Entry). SaysName p x by child job line event) still (says (subst (λ (x : List Entry). Says x child line name) (sym still) reads))))
    (subst (λ (q : Opening). made ≡ past ++ group_by q past by event) same (subst (λ (x : List Entry). made ≡ x ++ group_by p x by event) still grown))

-- what was told of an entry that says no name
pub told_plain : (o : Opening) (past : List Entry) (e : Entry) (next : Option Entry) (event : Option Event) (made : List Entry) → length past < 2 ^ 64 → is_name e.what ≡ false → Suits o past e.by e.what event
    → made ≡ past ++ group_by o past e.by event → IsTold o past e next made
told_plain o past e next (Some event) made few plain suits grown = told_event o past e next event made few plain suits grown
told_plain o past e next None made few plain suits grown = subst (IsTold o past e next) (sym (grown ∙ append-nil past)) (told_none o past e next plain suits)

-- no line that reads otherwise says a name
pub told_no_name : (o : Opening) (past : List Entry) (by child job : ℕ) (line : List ℕ) (next : Option Entry) → (MayStand o past [] (entry by (Lead child job line)) → ⊥)
    → IsTold o past (entry by (Lead child job line)) next past
told_no_name o past by child job line next never = record {
  comes = λ may. absurd (never may);
  one = inl refl;
  led = λ may k j x is f there due. absurd (never may);
}

-- what holds where there is a value makes something else hold there
pub on_ok : {P Q : Type 0} (r : Result (Unit {0}) NoMemory) → OnOk r P → (P → Q) → OnOk r Q
on_ok (Ok u) p f = f p
on_ok (Err e) p f = tt

-- ---- the entry at a place

place_seam : (xs ys : List Entry) (y : Entry) → slice_get (xs ++ y ∷ ys) (length xs) ≡ Some y
place_seam [] ys y = refl
place_seam (x ∷ xs) ys y = place_seam xs ys y

place_end : (xs : List Entry) → slice_get xs (length xs) ≡ None
place_end xs = slice_get_past xs (length xs) (omega arith)

-- the entry at the seam is the one that stands there
seam_is : (past rest made : List Entry) (d e : Entry) → made ≡ past ++ d ∷ rest → slice_get made (length past) ≡ Some e → d ≡ e
seam_is past rest made d e is there = some_same d e (sym (place_seam past rest d) ∙ ap (λ (m : List Entry). slice_get m (length past)) (sym is) ∙ there)
  where
    some_same : (x y : Entry) → Some x ≡ Some y → x ≡ y
    some_same x y h = cc

-- ---- what is due

-- what is due asks nothing, or is one entry
abbrev IsFine : List Entry → Type 0
IsFine owed = (none_asks owed ≡ true) ⊎ ((d : Entry) × (owed ≡ d ∷ []))

fine_next : (o : Opening) (past owed : List Entry) (e : Entry) → IsFine owed → IsFine (still_owed o past owed e)
fine_next o past [] e fine = go e.by e.what
  where
    go : (by : ℕ) (w : What) → IsFine (still_owed o past [] (entry by w))
    go by (Lead child job line) = inr (entry by (Ask child job 0 []), refl)
    go by w = inl (ap none_asks (unled o past (entry by w) refl) ∙ due_none_asks o past (entry by w))
fine_next o past (d ∷ ds) e (inl real) = inl (no_request d ds real).1
fine_next o past (d ∷ ds) e (inr one) = inl (let none : ds ≡ [] = cc in ap none_asks none)

fine_from : (o : Opening) (past owed xs : List Entry) → IsFine owed → IsFine (owed_from o past owed xs)
fine_from o past owed [] fine = fine
fine_from o past owed (x ∷ xs) fine = fine_from o (past ++ x ∷ []) (still_owed o past owed x) xs (fine_next o past owed x fine)

tail_asks_none : (d : Entry) (ds : List Entry) → IsFine (d ∷ ds) → none_asks ds ≡ true
tail_asks_none d ds (inl real) = (no_request d ds real).1
tail_asks_none d ds (inr one) = let none : ds ≡ [] = cc in ap none_asks none

-- what asks nothing is made as it is due
owes_real : (o : Opening) (past : List Entry) (next : Option Entry) (owed : List Entry) → none_asks owed ≡ true → Owes o past next owed owed
owes_real o past next [] real = refl
owes_real o past next (d ∷ ds) real =
    let q = no_request d ds real in
    (d, refl, is_owed o past d q.0, λ f there due. owed_is o past d f q.0 due)

-- ---- the next entry

-- after one more entry, which may stand
one_more : (o : Opening) (past : List Entry) (e : Entry) (next : Option Entry) (owed rest made : List Entry) → owed_after o past ≡ owed → StandsFrom o [] [] past → MayStand o past owed e
    → made ≡ past ++ e ∷ rest → Owes o (past ++ e ∷ []) next (still_owed o past owed e) rest → IsReplayed o (past ++ e ∷ []) next made
one_more o past e next owed rest made is stands may whole owes = record {
  stands = StandsFrom-append o [] [] past (e ∷ []) stands (subst (λ (ds : List Entry). StandsFrom o past ds (e ∷ [])) (sym is) (may, tt));
  rest = rest;
  whole = whole ∙ sym (append_assoc past (e ∷ []) rest);
  owes = subst (λ (ds : List Entry). Owes o (past ++ e ∷ []) next ds rest) (sym (owed_from-append o [] [] past (e ∷ []) ∙ ap (λ (ds : List Entry). still_owed o past ds e) is)) owes;
}

abbrev IsHere : List Entry → List Entry → Entry → Bool → Type 0
IsHere past made e here = IsTrue here ↔ (slice_get made (length past) ≡ Some e)

-- what the core made after the entry is what is due after it
module _ (o : Opening) (past : List Entry) (e : Entry) (next : Option Entry) (made rest : List Entry) (told : IsTold o past e next made) (is : made ≡ past ++ e ∷ rest)
    (group : IsGroup o past (e ∷ rest)) where
  owes_after : MayStand o past [] e → Owes o (past ++ e ∷ []) next (still_owed o past [] e) rest
  owes_after may = by_kind e.by e.what refl refl (group_follows o past e rest group).1
    where
      by_kind : (by : ℕ) (w : What) → e.by ≡ by → e.what ≡ w → Follows o past (entry by w) rest → Owes o (past ++ entry by w ∷ []) next (still_owed o past [] (entry by w)) rest
      by_kind by (Lead child job line) n k follows = (
        follows.0,
        follows.1,
        follows.2,
        λ f there due. (
            let mine : IsLedBy o past e.by child job line f = subst (λ (m : ℕ). IsLedBy o past m child job line f) (sym n) due in
            let both : past ++ e ∷ f ∷ [] ≡ past ++ e ∷ follows.0 ∷ [] = sym (told.led may child job line k f there mine) ∙ is ∙ ap (λ (xs : List Entry). past ++ e ∷ xs) follows.1 in
            second past e f follows.0 both),
      )
        where
          second : (past : List Entry) (e f g : Entry) → past ++ e ∷ f ∷ [] ≡ past ++ e ∷ g ∷ [] → f ≡ g
          second [] e f g h = cc
          second (x ∷ past) e f g h = second past e f g (cc h)
      by_kind by w n k follows =
          let d : Entry = entry by w in
          let real = due_none_asks o past d in
          subst (λ (ds : List Entry). Owes o (past ++ d ∷ []) next ds rest) (sym (unled o past d refl))
          (subst (λ (xs : List Entry). Owes o (past ++ d ∷ []) next (due_after o past d) xs) (sym follows) (owes_real o (past ++ d ∷ []) next (due_after o past d) real))

-- nothing is due, and the core is told the entry
fresh : (o : Opening) (past : List Entry) (e : Entry) (next : Option Entry) (made : List Entry) (here : Bool) → owed_after o past ≡ [] → StandsFrom o [] [] past
    → IsTold o past e next made → IsHere past made e here → IsNext o past e next made here
fresh o past e next made true none stands told is = go told.one
  where
    go : (made ≡ past) ⊎ ((group : List Entry) × IsGroup o past group × (made ≡ past ++ group)) → IsReplayed o (past ++ e ∷ []) next made
    go (inl same) = absurd (let no : None ≡ Some e = sym (place_end past) ∙ ap (λ (m : List Entry). slice_get m (length past)) (sym same) ∙ is.0 refl in cc)
    go (inr some) = grown some.0 some.1 some.2
      where
        grown : (group : List Entry) → IsGroup o past group → made ≡ past ++ group → IsReplayed o (past ++ e ∷ []) next made
        grown [] group whole = absurd (group.some refl)
        grown (x ∷ rest) group whole =
            let same : x ≡ e = seam_is past rest made x e whole (is.0 refl) in
            let mine : IsGroup o past (e ∷ rest) = subst (λ (y : Entry). IsGroup o past (y ∷ rest)) same group in
            let whole_here : made ≡ past ++ e ∷ rest = whole ∙ ap (λ (y : Entry). past ++ y ∷ rest) same in
            let may : MayStand o past [] e = mine.stands.0 in
            one_more o past e next [] rest made none stands may whole_here (owes_after o past e next made rest told whole_here mine may)
fresh o past e next made false none stands told is = λ may. go (subst (λ (ds : List Entry). MayStand o past ds e) none may)
  where
    go : MayStand o past [] e → ⊥
    go may =
        let comes = told.comes may in
        let there : slice_get made (length past) ≡ Some e = ap (λ (m : List Entry). slice_get m (length past)) comes.1 ∙ place_seam past comes.0 e in
        (let no : false ≡ true = is.1 there in cc)

-- an entry is due, and the core has made it before
owing : (o : Opening) (past : List Entry) (e d : Entry) (ds rest : List Entry) (next : Option Entry) (made : List Entry) (here : Bool) → owed_after o past ≡ d ∷ ds → StandsFrom o [] [] past
    → made ≡ past ++ rest → Owes o past (Some e) (d ∷ ds) rest → IsHere past made e here → IsNext o past e next made here
owing o past e d ds rest next made true due stands whole owes is =
    let made_so : made ≡ past ++ owes.0 ∷ ds = whole ∙ ap (λ (xs : List Entry). past ++ xs) owes.1 in
    let same : owes.0 ≡ e = seam_is past ds made owes.0 e made_so (is.0 refl) in
    let may : MayStand o past (d ∷ ds) e = subst (λ (y : Entry). IsDue o past d.what d y) same owes.2 in
    let real : none_asks ds ≡ true = tail_asks_none d ds (subst IsFine due (fine_from o [] [] past (inl refl))) in
    one_more o past e next (d ∷ ds) ds made due stands may (made_so ∙ ap (λ (y : Entry). past ++ y ∷ ds) same) (owes_real o (past ++ e ∷ []) next ds real)
owing o past e d ds rest next made false due stands whole owes is = λ may. (
    let mine : IsDue o past d.what d e = subst (λ (owed : List Entry). MayStand o past owed e) due may in
    let same : e ≡ owes.0 = owes.3 e refl mine in
    let made_so : made ≡ past ++ owes.0 ∷ ds = whole ∙ ap (λ (xs : List Entry). past ++ xs) owes.1 in
    let there : slice_get made (length past) ≡ Some e = ap (λ (m : List Entry). slice_get m (length past)) made_so ∙ place_seam past ds owes.0 ∙ ap Some (sym same) in
    let no : false ≡ true = is.1 there in
    cc)

-- the core is told the entry where nothing is due, and else is left as it was
pub next_entry : (o : Opening) (past : List Entry) (e : Entry) (next : Option Entry) (at : ℕ) (before made : List Entry) (here : Bool) → length past ≡ at → IsReplayed o past (Some e) before
    → (length before ≡ at → IsTold o before e next made) → ((length before ≡ at → ⊥) → made ≡ before)
    → (IsTrue here ↔ (slice_get made at ≡ Some e)) → IsNext o past e next made here
next_entry o past e next at before made here long replayed told kept is = go (owed_after o past) refl
  where
    is_here : IsHere past made e here
    is_here = subst (λ (n : ℕ). IsTrue here ↔ (slice_get made n ≡ Some e)) (sym long) is

    go : (owed : List Entry) → owed_after o past ≡ owed → IsNext o past e next made here
    go [] none =
        let nothing : replayed.rest ≡ [] = subst (λ (ds : List Entry). Owes o past (Some e) ds replayed.rest) none replayed.owes in
        let same : before ≡ past = replayed.whole ∙ ap (λ (ds : List Entry). past ++ ds) nothing ∙ append-nil past in
        let told_now : IsTold o before e next made = told (ap length same ∙ long) in
        fresh o past e next made here none replayed.stands (subst (λ (p : List Entry). IsTold o p e next made) same told_now) is_here
    go (d ∷ ds) due =
        let owes : Owes o past (Some e) (d ∷ ds) replayed.rest = subst (λ (x : List Entry). Owes o past (Some e) x replayed.rest) due replayed.owes in
        let whole : before ≡ past ++ owes.0 ∷ ds = replayed.whole ∙ ap (λ (x : List Entry). past ++ x) owes.1 in
        let longer : length before ≡ length past + length (owes.0 ∷ ds) = ap length whole ∙ length-append past (owes.0 ∷ ds) in
        owing o past e d ds replayed.rest next made here due replayed.stands (kept (λ n. omega (arith, n, longer, long)) ∙ replayed.whole) owes is_here
