-- From one child that was asked to the next, and what is said of the last.
use Rattle.std.proofs.Common.{◌≡◌, ◌⊎◌, inl, inr, ◌∙◌, ℕ, zero, suc, ◌+◌, ◌≤◌, ◌<◌, List, [], ◌∷◌, ◌++◌, refl, sym, ap, subst, Bool, true, false, not, ◌==◌, length, length-append, slice_set, slice_index_or, arith, None}
use Rattle.std.specs.Prelude.{◌&&◌, ◌||◌, if◌then◌else◌, IfSome, codes, Result, Ok, Err}
use Rattle.ann_key.specs.declared.bytes.NoMemory.{NoMemory}
use Rattle.std.specs.List.{list_all, list_any}
use Rattle.annex_model.specs.Messages.{HostMessage}
use Rattle.journal_model.specs.declared.verdict.Verdict.{Verdict}
use Rattle.journal_model.specs.declared.verdict.Verdict.TheVariants.{Absent}
use Rattle.journal_model.specs.declared.opening.Opening.{Opening}
use Rattle.journal_model.specs.declared.entry.Entry.{Entry}
use Rattle.journal_model.specs.Due.{replies_at}
use Rattle.journal_model.specs.Parts.{part}
use Rattle.journal_model.specs.Projection.{Ends, final_in}
use Rattle.host_core.specs.Steps.{next_job}
use Rattle.child_link.specs.Alone.{AskedAlone}
use Rattle.kit_serve.specs.declared.kit.call.Said.{Said}
use Rattle.kit_serve.specs.declared.kit.call.Said.TheVariants.{Yes, No}
use Rattle.mirror_children.specs.Children.{ChildValue, AreServing, IsServing}
use Rattle.mirror_children.specs.Asking.{AskedTo, AsksAt, AsksEach, LeavesAt}
use Rattle.mirror_children.specs.Rule.{all_said, check_said, failure, is_absent, is_done, is_enough, is_starved, last_refusal, refusal, retrieve_said, Answers, AreAsBefore, AsksFront, GoesOn, IsAsBefore, IsAsked}
use Rattle.std.proofs.lemmas.Bool.{and_parts as both, eqb-true as same_number}
use Rattle.ann_key.proofs.Numbers.{same_number as same}

-- ---- children as before

pub before_refl : (cs : List ChildValue) → AreAsBefore cs cs
before_refl [] = tt
before_refl (c ∷ cs) = (record { journal = refl; opening = refl; number = refl }, before_refl cs)

-- a child that was asked after nothing had been asked of it was asked
asked_before : (q : HostMessage) (d c c' : ChildValue) (v : Verdict) → IsAsBefore d c → IsAsked q c c' v → IsAsked q d c' v
asked_before q d c c' v b a = record {
  asked = subst (λ (o : Opening). AskedAlone o d.journal c'.journal 0 1 0 None q v) b.opening (subst (λ (j : List Entry). AskedAlone c.opening j c'.journal 0 1 0 None q v) b.journal a.asked);
  told = subst (λ (j : List Entry). IfSome (final_in v) (λ f. Ends (replies_at c'.opening c'.journal) q (part c'.journal 1 (next_job j 1)) f.0 f.1)) b.journal a.told;
  opening = a.opening ∙ b.opening;
  number = a.number ∙ b.number;
}

before_both : (d c c' : ChildValue) → IsAsBefore d c → IsAsBefore c c' → IsAsBefore d c'
before_both d c c' a b = record { journal = b.journal ∙ a.journal; opening = b.opening ∙ a.opening; number = b.number ∙ a.number }

-- ---- one more child

onward : (b : Bool) (cs now : List ChildValue) → AreAsBefore cs now → GoesOn b (AreAsBefore cs now) cs now []
onward true cs now h = h
onward false cs now h = (h, refl)

went_on : (goes : Verdict → Bool) (w : Verdict) (More : Type 0) (cs now : List ChildValue) (vs : List Verdict) → goes w ≡ true → GoesOn (goes w) More cs now vs → More
went_on goes w More cs now vs e h = subst (λ (b : Bool). GoesOn b More cs now vs) e h

goes_again : (goes : Verdict → Bool) (w : Verdict) (More : Type 0) (cs now : List ChildValue) (vs : List Verdict) → goes w ≡ true → More → GoesOn (goes w) More cs now vs
goes_again goes w More cs now vs e h = subst (λ (b : Bool). GoesOn b More cs now vs) (sym e) h

-- The children before this place were asked and went on, and this one was asked: then it is among those that were asked.
pub front_next : (goes : Verdict → Bool) (q : HostMessage) (old now : List ChildValue) (vs : List Verdict) (i : ℕ) (c c' : ChildValue) (v : Verdict)
    → AsksFront goes q old now vs → list_all goes vs ≡ true → length vs ≡ i → i < length now → slice_index_or now i c ≡ c → IsAsked q c c' v → AsksFront goes q old (slice_set now i c') (vs ++ v ∷ [])
front_next goes q [] [] [] i c c' v front went place within here asked = absurd (omega arith)
front_next goes q [] (e ∷ now) [] i c c' v front went place within here asked = absurd front
front_next goes q (d ∷ old) [] [] i c c' v front went place within here asked = absurd front
front_next goes q (d ∷ old) (e ∷ now) [] zero c c' v front went place within here asked =
    (asked_before q d e c' v front.0 (subst (λ (x : ChildValue). IsAsked q x c' v) (sym here) asked), onward (goes v) old now front.1)
front_next goes q (d ∷ old) (e ∷ now) [] (suc i) c c' v front went place within here asked = absurd cc
front_next goes q [] now (w ∷ vs) i c c' v front went place within here asked = absurd front
front_next goes q (d ∷ old) [] (w ∷ vs) i c c' v front went place within here asked = absurd front
front_next goes q (d ∷ old) (e ∷ now) (w ∷ vs) zero c c' v front went place within here asked = absurd cc
front_next goes q (d ∷ old) (e ∷ now) (w ∷ vs) (suc i) c c' v front went place within here asked =
    let t = both (goes w) (list_all goes vs) went in
    let next : length vs ≡ i = omega (arith, place) in
    let inside : i < length now = omega (arith, within) in
    let rest = front_next goes q old now vs i c c' v (went_on goes w (AsksFront goes q old now vs) old now vs t.0 front.1) t.1 next inside here asked in
    (front.0, goes_again goes w (AsksFront goes q old (slice_set now i c') (vs ++ v ∷ [])) old (slice_set now i c') (vs ++ v ∷ []) t.0 rest)

-- nothing came of asking this one: then those before it were asked
pub front_same : (goes : Verdict → Bool) (q : HostMessage) (old now : List ChildValue) (vs : List Verdict) (i : ℕ) (c c' : ChildValue)
    → AsksFront goes q old now vs → list_all goes vs ≡ true → length vs ≡ i → i < length now → slice_index_or now i c ≡ c → IsAsBefore c c' → AsksFront goes q old (slice_set now i c') vs
front_same goes q [] [] [] i c c' front went place within here same = absurd (omega arith)
front_same goes q [] (e ∷ now) [] i c c' front went place within here same = absurd front
front_same goes q (d ∷ old) [] [] i c c' front went place within here same = absurd front
front_same goes q (d ∷ old) (e ∷ now) [] zero c c' front went place within here same =
    (before_both d e c' front.0 (subst (λ (x : ChildValue). IsAsBefore x c') (sym here) same), front.1)
front_same goes q (d ∷ old) (e ∷ now) [] (suc i) c c' front went place within here same = absurd cc
front_same goes q [] now (w ∷ vs) i c c' front went place within here same = absurd front
front_same goes q (d ∷ old) [] (w ∷ vs) i c c' front went place within here same = absurd front
front_same goes q (d ∷ old) (e ∷ now) (w ∷ vs) zero c c' front went place within here same = absurd cc
front_same goes q (d ∷ old) (e ∷ now) (w ∷ vs) (suc i) c c' front went place within here same =
    let t = both (goes w) (list_all goes vs) went in
    let next : length vs ≡ i = omega (arith, place) in
    let inside : i < length now = omega (arith, within) in
    let rest = front_same goes q old now vs i c c' (went_on goes w (AsksFront goes q old now vs) old now vs t.0 front.1) t.1 next inside here same in
    (front.0, goes_again goes w (AsksFront goes q old (slice_set now i c') vs) old (slice_set now i c') vs t.0 rest)

before_length : (old new : List ChildValue) → AreAsBefore old new → length new ≡ length old
before_length [] [] h = refl
before_length [] (c ∷ new) h = absurd h
before_length (c ∷ old) [] h = absurd h
before_length (c ∷ old) (d ∷ new) h = ap (λ (n : ℕ). suc n) (before_length old new h.1)

-- no child comes or goes
pub front_length : (goes : Verdict → Bool) (q : HostMessage) (old new : List ChildValue) (vs : List Verdict) → AsksFront goes q old new vs → length new ≡ length old
front_length goes q old new [] h = before_length old new h
front_length goes q [] new (v ∷ vs) h = absurd h
front_length goes q (c ∷ old) [] (v ∷ vs) h = absurd h
front_length goes q (c ∷ old) (d ∷ new) (v ∷ vs) h = ap (λ (n : ℕ). suc n) (go (goes v) (front_length goes q old new vs) h.1)
  where
    go : (b : Bool) → (AsksFront goes q old new vs → length new ≡ length old) → GoesOn b (AsksFront goes q old new vs) old new vs → length new ≡ length old
    go true more k = more k
    go false more k = before_length old new k.0

-- no more verdicts than children
pub front_fits : (goes : Verdict → Bool) (q : HostMessage) (old new : List ChildValue) (vs : List Verdict) → AsksFront goes q old new vs → length vs ≤ length new
front_fits goes q old new [] h = omega arith
front_fits goes q [] new (v ∷ vs) h = absurd h
front_fits goes q (c ∷ old) [] (v ∷ vs) h = absurd h
front_fits goes q (c ∷ old) (d ∷ new) (v ∷ vs) h = go (goes v) (front_fits goes q old new vs) h.1
  where
    go : (b : Bool) → (AsksFront goes q old new vs → length vs ≤ length new) → GoesOn b (AsksFront goes q old new vs) old new vs → length (v ∷ vs) ≤ length (d ∷ new)
    go true more k = let fits = more k in omega (arith, fits)
    go false more k = let none : length vs ≡ 0 = ap (λ (xs : List Verdict). length xs) k.1 in omega (arith, none)

-- ---- they serve on

pub serving_set : (cs : List ChildValue) (i : ℕ) (c : ChildValue) → AreServing cs → IsServing c → AreServing (slice_set cs i c)
serving_set [] i c h s = tt
serving_set (x ∷ cs) zero c h s = (s, h.1)
serving_set (x ∷ cs) (suc i) c h s = (h.0, serving_set cs i c h.1 s)

pub serving_at : (cs : List ChildValue) (i : ℕ) (c : ChildValue) → AreServing cs → i < length cs → slice_index_or cs i c ≡ c → IsServing c
serving_at [] i c h within here = absurd (omega arith)
serving_at (x ∷ cs) zero c h within here = subst IsServing here h.0
serving_at (x ∷ cs) (suc i) c h within here = serving_at cs i c h.1 (omega (arith, within)) here

-- ---- what is said

pub all_last : (p : Verdict → Bool) (before : List Verdict) (v : Verdict) → list_all p before ≡ true → list_all p (before ++ v ∷ []) ≡ p v
all_last p [] v h = and_true (p v)
  where
    and_true : (b : Bool) → (b && true) ≡ b
    and_true true = refl
    and_true false = refl
all_last p (w ∷ before) v h =
    let t = both (p w) (list_all p before) h in
    ap (λ (b : Bool). b && list_all p (before ++ v ∷ [])) t.0 ∙ all_last p before v t.1

pub any_last : (p : Verdict → Bool) (before : List Verdict) (v : Verdict) → list_any p before ≡ false → list_any p (before ++ v ∷ []) ≡ p v
any_last p [] v h = or_false (p v)
  where
    or_false : (b : Bool) → (b || false) ≡ b
    or_false true = refl
    or_false false = refl
any_last p (w ∷ before) v h = go (p w) refl h (any_last p before v)
  where
    go : (b : Bool) → p w ≡ b → (b || list_any p before) ≡ false → (list_any p before ≡ false → list_any p (before ++ v ∷ []) ≡ p v) → list_any p (w ∷ before ++ v ∷ []) ≡ p v
    go true e k more = absurd cc
    go false e k more = ap (λ (b : Bool). b || list_any p (before ++ v ∷ [])) e ∙ more k

done_is_there : (v : Verdict) → is_done v ≡ true → is_absent v ≡ false
done_is_there (Absent at) h = absurd cc
done_is_there v h = refl

-- of verdicts that are done, none says that it isn't there
pub none_absent : (vs : List Verdict) → list_all is_done vs ≡ true → list_any is_absent vs ≡ false
none_absent [] h = refl
none_absent (v ∷ vs) h =
    let t = both (is_done v) (list_all is_done vs) h in
    rw (done_is_there v t.0, none_absent vs t.1) refl

pub none_done : (vs : List Verdict) → list_all (λ v. not (is_done v)) vs ≡ true → list_any is_done vs ≡ false
none_done [] h = refl
none_done (v ∷ vs) h =
    let t = both (not (is_done v)) (list_all (λ v. not (is_done v)) vs) h in
    let here : is_done v ≡ false = flip (is_done v) t.0 in
    rw (here, none_done vs t.1) refl
  where
    flip : (b : Bool) → not b ≡ true → b ≡ false
    flip true k = absurd cc
    flip false k = refl

-- the refusal of the child at this place
pub last_is : (cs : List ChildValue) (before : List Verdict) (v : Verdict) (c : ChildValue) → length before < length cs → slice_index_or cs (length before) c ≡ c → last_refusal cs (before ++ v ∷ []) ≡ refusal c v
last_is [] before v c within here = absurd (omega arith)
last_is (x ∷ cs) [] v c within here = ap (λ (y : ChildValue). refusal y v) here
last_is (x ∷ cs) (w ∷ []) v c within here = last_is cs [] v c (omega (arith, within)) here
last_is (x ∷ cs) (w ∷ u ∷ before) v c within here = last_is cs (u ∷ before) v c (omega (arith, within)) here

-- ---- one turn of the loop

-- what the loop knows: the children before this place were asked and went on, and none of them ended because memory ran out
pub record IsAt (goes : Verdict → Bool) (q : HostMessage) (old now : List ChildValue) (at : ℕ) : Type 0 where
  pub verdicts : List Verdict
  pub place : length verdicts ≡ at
  pub front : AsksFront goes q old now verdicts
  pub went : list_all goes verdicts ≡ true
  pub fed : list_any is_starved verdicts ≡ false
  pub serving : AreServing now
  pub many : length now ≡ length old
  pub more : at < length old

pub at_first : (goes : Verdict → Bool) (q : HostMessage) (cs : List ChildValue) → 0 < length cs → AreServing cs → IsAt goes q cs cs 0
at_first goes q cs some s = record { verdicts = []; place = refl; front = before_refl cs; went = refl; fed = refl; serving = s; many = refl; more = some }

module _ (goes : Verdict → Bool) (q : HostMessage) (old now new : List ChildValue) (at : ℕ) (a : IsAt goes q old now at) (within : at < length old) where
  inside : at < length now
  inside = let m = a.many in omega (arith, within, m)

  -- it was asked
  pub asked_front : (v : Verdict) → AsksAt q at now new v → AsksFront goes q old new (a.verdicts ++ v ∷ [])
  asked_front v (c, c', here, asked, is) =
      subst (λ (cs : List ChildValue). AsksFront goes q old cs (a.verdicts ++ v ∷ [])) (sym is) (front_next goes q old now a.verdicts at c c' v a.front a.went a.place inside here asked)

  -- nothing was asked of it
  pub left_front : LeavesAt at now new → AsksFront goes q old new a.verdicts
  left_front (c, c', here, same, is) =
      subst (λ (cs : List ChildValue). AsksFront goes q old cs a.verdicts) (sym is) (front_same goes q old now a.verdicts at c c' a.front a.went a.place inside here same)

  -- it went on
  pub at_next : (v : Verdict) → AsksAt q at now new v → goes v ≡ true → is_starved v ≡ false → AreServing new → at + 1 < length old → IsAt goes q old new (at + 1)
  at_next v asked on fed serving more = record {
    verdicts = a.verdicts ++ v ∷ [];
    place = let one : length (a.verdicts ++ v ∷ []) ≡ length a.verdicts + 1 = length-append a.verdicts (v ∷ []) in one ∙ ap (λ (n : ℕ). n + 1) a.place;
    front = asked_front v asked;
    went = all_last goes a.verdicts v a.went ∙ on;
    fed = any_last is_starved a.verdicts v a.fed ∙ fed;
    serving = serving;
    many = front_length goes q old new (a.verdicts ++ v ∷ []) (asked_front v asked);
    more = more;
  }

  -- it is the last
  pub asked_to : (v : Verdict) → AsksAt q at now new v → (goes v ≡ false) ⊎ (at + 1 ≡ length old) → is_starved v ≡ false → AskedTo goes q old new at v
  asked_to v asked last fed = record {
    before = a.verdicts;
    place = a.place;
    asked = asked_front v asked;
    went = a.went;
    enough = enough last;
    fed = any_last is_starved a.verdicts v a.fed ∙ fed;
  }
    where
      counted : length (a.verdicts ++ v ∷ []) ≡ at + 1
      counted = length-append a.verdicts (v ∷ []) ∙ ap (λ (n : ℕ). n + 1) a.place

      enough : (goes v ≡ false) ⊎ (at + 1 ≡ length old) → is_enough goes old (a.verdicts ++ v ∷ []) ≡ true
      enough (inl over) = ap (λ (b : Bool). not b || length (a.verdicts ++ v ∷ []) == length old) (all_last goes a.verdicts v a.went ∙ over)
      enough (inr whole) = ap (λ (n : ℕ). not (list_all goes (a.verdicts ++ v ∷ [])) || n == length old) (counted ∙ whole) ∙ or_same (not (list_all goes (a.verdicts ++ v ∷ []))) (length old)
        where
          or_same : (b : Bool) (n : ℕ) → (b || n == n) ≡ true
          or_same true n = refl
          or_same false n = same n

-- no memory was found: some were asked
pub asks_err : (goes : Verdict → Bool) (q : HostMessage) (old new : List ChildValue) (vs : List Verdict) (r : Result (ℕ × Verdict) NoMemory) (e : NoMemory) → r ≡ Err e → AsksFront goes q old new vs → AsksEach goes q old new r
asks_err goes q old new vs (Err x) e is f = (vs, f)
asks_err goes q old new vs (Ok asked) e is f = absurd cc

-- it is the last, or another one is to be asked
pub last_either : (goes : Bool) (at n : ℕ) → (not goes || at + 1 == n) ≡ true → (goes ≡ false) ⊎ (at + 1 ≡ n)
last_either true at n h = inr (same_number (at + 1) n h)
last_either false at n h = inl refl

pub goes_more : (goes : Bool) (at n : ℕ) → at < n → (not goes || at + 1 == n) ≡ false → (goes ≡ true) × (at + 1 < n)
goes_more true at n within h = (refl, grind (arith, within, h))
goes_more false at n within h = absurd cc

-- ---- what is said of it

module _ (q : HostMessage) (old new : List ChildValue) (at : ℕ) (v : Verdict) where
  module _ (a : AskedTo is_done q old new at v) where
    pub said_done : is_done v ≡ true → list_all is_done (a.before ++ v ∷ []) ≡ true
    said_done h = all_last is_done a.before v a.went ∙ h

    pub within : at < length new
    within =
        let many : length new ≡ length old = front_length is_done q old new (a.before ++ v ∷ []) a.asked in
        let fits : length (a.before ++ v ∷ []) ≤ length new = front_fits is_done q old new (a.before ++ v ∷ []) a.asked in
        let one : length (a.before ++ v ∷ []) ≡ length a.before + 1 = length-append a.before (v ∷ []) in
        let place = a.place in
        omega (arith, many, fits, one, place)

    pub refused_by : (c : ChildValue) → slice_index_or new at c ≡ c → last_refusal new (a.before ++ v ∷ []) ≡ refusal c v
    refused_by c here =
        let inside : length a.before < length new = subst (λ (n : ℕ). n < length new) (sym a.place) within in
        last_is new a.before v c inside (subst (λ (n : ℕ). slice_index_or new n c ≡ c) (sym a.place) here)

    pub answers_all : (said : Said) → said ≡ (if is_done v then Yes else last_refusal new (a.before ++ v ∷ [])) → Answers is_done q all_said old new said
    answers_all said is = record {
      verdicts = a.before ++ v ∷ [];
      asked = a.asked;
      enough = a.enough;
      fed = a.fed;
      is = is ∙ ap (λ (b : Bool). if b then Yes else last_refusal new (a.before ++ v ∷ [])) (sym (all_last is_done a.before v a.went));
    }

    pub answers_check : (said : Said) → said ≡ (if is_done v then Yes else if is_absent v then No else last_refusal new (a.before ++ v ∷ [])) → Answers is_done q check_said old new said
    answers_check said is = record {
      verdicts = a.before ++ v ∷ [];
      asked = a.asked;
      enough = a.enough;
      fed = a.fed;
      is =
          is ∙ ap (λ (b : Bool). if b then Yes else if is_absent v then No else last_refusal new (a.before ++ v ∷ [])) (sym (all_last is_done a.before v a.went))
          ∙ ap (λ (b : Bool). if list_all is_done (a.before ++ v ∷ []) then Yes else if b then No else last_refusal new (a.before ++ v ∷ [])) (sym (any_last is_absent a.before v (none_absent a.before a.went)));
    }

  pub answers_any : AskedTo (λ v. not (is_done v)) q old new at v → (said : Said) → said ≡ (if is_done v then Yes else failure (codes "no mirror gave it")) → Answers (λ v. not (is_done v)) q retrieve_said old new said
  answers_any a said is = record {
    verdicts = a.before ++ v ∷ [];
    asked = a.asked;
    enough = a.enough;
    fed = a.fed;
    is = is ∙ ap (λ (b : Bool). if b then Yes else failure (codes "no mirror gave it")) (sym (any_last is_done a.before v (none_done a.before a.went)));
  }
