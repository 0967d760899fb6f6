-- Each step keeps the rule.
use Rattle.std.proofs.Common.{◌==◌, ◌≡◌, ◌≢◌, ◌⊎◌, inl, inr, ℕ, zero, suc, ◌+◌, ◌-◌, ◌%◌, ◌^◌, ◌<◌, List, [], ◌∷◌, ◌++◌, length, set, get_or, refl, sym, ap, ◌∙◌, subst, ⊎_elim, arith, length-append, length-set, append-nil, eqb, Option, Some}
use Rattle.std.proofs.lemmas.Option.{same_Some}
use mathlib.Core.Option.{some, some-ne-none, some-injective}
use mathlib.Core.Option as maybe
use mathlib.Core.Logic.{dite}
use native.Mathlib.Decide.{ℕ_discrete}
use lib.ListN.{get_elem?}
use lib.Seq.{set-get_or}
use prog.Atomic.{either}
use Rattle.atomic_table.specs.Table.{State, Me, Step, step, Act, keeps, takes, gives, rest, stepped, Allows, Splits, Joins, Valid, carried_after, opening, Final, Seen}
use Rattle.atomic_table.proofs.Lists.{at_set, set_again, set_else, exchanged}
use Rattle.threads.specs.declared.view.Link.{Link}
use Rattle.threads.specs.declared.view.Stage.{Stage}
use Rattle.threads.specs.declared.view.Stage.TheVariants.{Spent, Out, Inside}
use Rattle.threads.specs.declared.view.View.{View}
use Rattle.threads.specs.Log.{bit, link, part, flat, NotBy, Numbered, AllOf, number, times, log_of, Legal}
use Rattle.threads.specs.Rule.{at_stage, spent, made_one, next_one, gathered, with_group, Knows, Kept, taken, looked, noted, given, held_history, first_view, Ended}
use Rattle.threads.proofs.Logs.{flat-snoc, numbered-snoc, numbered-more, numbered-not, all_fit-snoc, all_fit-append, fit-all, times-append, times-here, legal-snoc, total-set, total-snoc, total-one, total-two, total-only, times-some, times-none, once-most, once-in, once-full, once-suc, once-zero}

module _ {A : Type 0} where
  pub set_at : (l : List A) (i : ℕ) (a b : A) → get_elem? l i ≡ some a → get_elem? (set l i b) i ≡ some b
  set_at [] i a b e = absurd (some-ne-none a (sym e))
  set_at (x ∷ xs) zero a b e = refl
  set_at (x ∷ xs) (suc i) a b e = set_at xs i a b e

  pub at_end : (l : List A) (a b : A) (j : ℕ) → get_elem? (l ++ a ∷ []) j ≡ some b → (get_elem? l j ≡ some b) ⊎ ((j ≡ length l) × (a ≡ b))
  at_end [] a b zero e = inr (refl, some-injective a b e)
  at_end [] a b (suc j) e = absurd (some-ne-none b (sym e))
  at_end (x ∷ xs) a b zero e = inl e
  at_end (x ∷ xs) a b (suc j) e = ⊎_elim inl (λ t. let n = t.0 in inr (omega arith, t.1)) (at_end xs a b j e)

  pub set_one : (l : List A) (a : A) → length l ≡ 1 → set l 0 a ≡ a ∷ []
  set_one [] a e = absurd (omega arith)
  set_one (x ∷ []) a e = refl
  set_one (x ∷ y ∷ ys) a e = absurd (omega arith)

  -- what holds of the new element, and of each other one
  pub each_set : (P : ℕ → A → Type 0) (l : List A) (i : ℕ) (a : A) → P i a → ((j : ℕ) (b : A) → j ≢ i → get_elem? l j ≡ some b → P j b) → (j : ℕ) (b : A) → get_elem? (set l i a) j ≡ some b → P j b
  each_set P l i a mine others j b e = ⊎_elim
      (λ (x : (j ≡ i) × (a ≡ b)). subst (λ (y : ℕ × A). P y.0 y.1) (λ k. (sym x.0 k, x.1 k)) mine)
      (λ (x : (j ≢ i) × (get_elem? l j ≡ some b)). others j b x.0 x.1)
      (at_set l i j a b e)

out_inside : {E : Type 0} (l : List (Link E)) → Out ≡ Inside l → ⊥
out_inside l e = absurd (cc)

decided : (a b : ℕ) → (a ≡ b) ⊎ (a ≢ b)
decided a b = dite (ℕ_discrete a b) inl inr

module _ {X E F O R : Type 0} (history : X → List E) (fixed : X → F) (may : F → List E → ℕ → O → List E → R → Type 0) (o : X) (seats : ℕ) where
  abbrev W : Type 0
  W = View E F

  abbrev St : Type 0
  St = State (Option X) W

  abbrev M : Type 0
  M = Me (Option X) W

  abbrev Rule : St → Type 0
  Rule = Kept history fixed may o seats

  abbrev H : List E
  H = history o

  -- the same state
  unmoved : (s : St) → Rule s → (id : ℕ) (v : W) → get_elem? s.views id ≡ some v → Rule (record { words = set s.words 0 (get_or s.words 0 0); homes = s.homes; views = set s.views id v })
  unmoved s r id v at = subst Rule (λ i. record { words = sym (set-get_or s.words 0 0) i; homes = s.homes; views = sym (set_again s.views id v at) i }) r

  -- what the others know where the turn is free, and is then taken
  others_turn : (log : List (Link E)) (turn count holder maker turn' holder' j : ℕ) (v : W) → turn ≡ 0 → (st : Stage E) → Knows seats log turn count holder maker H (fixed o) j v st → Knows seats log turn' count holder' maker H (fixed o) j v st
  others_turn log turn count holder maker turn' holder' j v z Spent k = k
  others_turn log turn count holder maker turn' holder' j v z Out k = k
  others_turn log turn count holder maker turn' holder' j v z (Inside l) k = let p = k.4 in absurd (omega arith)

  abbrev Asked : St → ℕ → M → ℕ → ℕ → Type 0
  Asked s id me t k = (w : W) × (a : Act (Option X)) × Valid s.homes me.1 a × Rule (stepped s 0 k id me.1 w a) × taken history fixed may (step 1 0 0 0 maybe.none) me t (w, carried_after me.1 a)

  pub takes_turn : (slots id : ℕ) (me : M) (new : ℕ) (sn : List (Link E)) → me.0.stage ≡ Out → me.0.parts ≡ part new sn ∷ [] → 0 < new
      → Allows Rule slots id me 0 (λ n. either (eqb n 0) new n) (taken history fixed may (step slots 0 0 new maybe.none) me)
  takes_turn slots id me new sn is mine pos s r _ at _ = let t : ℕ = get_or s.words 0 0 in let first : t ≡ r.turn = ap (λ (ws : List ℕ). get_or ws 0 0) r.words in
      exchanged t 0 new (Asked s id me t) (λ hit.
      let free : r.turn ≡ 0 = omega arith in
      let home = r.home free in
      let w : W = at_stage (Inside r.log) me.0 in
      let same = subst (Knows seats r.log r.turn r.count r.holder r.maker H (fixed o) id me.0) is (r.each id me.0 at) in (
        w,
        takes 0 (Some home.0),
        ap (λ (hs : List (maybe.Option (Option X))). get_elem? hs 0) home.1,
        record {
          log = r.log;
          turn = new;
          count = r.count;
          holder = id;
          maker = r.maker;
          bells = r.bells;
          words = ap (λ (ws : List ℕ). set ws 0 new) r.words;
          few = r.few;
          legal = r.legal;
          numbered = r.numbered;
          home = λ z. absurd (omega arith);
          out = λ _. (w, set_at s.views id me.0 w at, refl);
          each = each_set (λ j v. Knows seats r.log new r.count id r.maker H (fixed o) j v v.stage) s.views id w
              (same, refl, refl, sym (ap number mine), pos)
              (λ j v ne e. others_turn r.log r.turn r.count r.holder r.maker new id j v free v.stage (r.each j v e));
          parts = λ m. let p = r.parts m in let e = total-set (λ (v : W). times m v.parts) s.views id me.0 w at in omega arith;
          sizes = let p = r.sizes in let e = total-set (λ (v : W). length v.parts) s.views id me.0 w at in omega arith;
        },
        (
          (λ _. (
            r.log,
            home.0,
            (
              refl,
              home.2 ∙ ap (λ (h : List E). h ++ flat r.log) (sym same.0),
              same.1 ∙ ap Some (sym home.3),
              same.2,
              subst (λ (z : F × List E). Legal may z.0 z.1 r.log) (λ i. (sym home.3 i, sym same.0 i)) r.legal,
              subst (λ (z : ℕ). Numbered z r.log) (sym same.4) (numbered-more r.count seats r.few r.log r.numbered),
            ),
          )),
          λ not. absurd (not hit),
        ),
      ))
      (λ miss. (me.0, keeps, tt, unmoved s r id me.0 at, ((λ hit. absurd (miss hit)), λ _. refl)))

  -- what the others know where the holder adds a group or gives the turn back
  others_log : (log : List (Link E)) (by : ℕ) (g : List E) (turn count holder maker j : ℕ) (v : W) → j ≢ holder → times by v.parts ≡ 0 → (st : Stage E) → Knows seats log turn count holder maker H (fixed o) j v st
      → Knows seats (log ++ link by g ∷ []) turn count holder maker H (fixed o) j v st
  others_log log by g turn count holder maker j v ne none Spent k = k
  others_log log by g turn count holder maker j v ne none Out k = (k.0, k.1, all_fit-snoc log by g v.parts k.2 none, k.3, k.4)
  others_log log by g turn count holder maker j v ne none (Inside l) k = absurd (ne k.2)

  others_free : (log : List (Link E)) (turn turn' count holder maker j : ℕ) (v : W) → j ≢ holder → (st : Stage E) → Knows seats log turn count holder maker H (fixed o) j v st
      → Knows seats log turn' count holder maker H (fixed o) j v st
  others_free log turn turn' count holder maker j v ne Spent k = k
  others_free log turn turn' count holder maker j v ne Out k = k
  others_free log turn turn' count holder maker j v ne (Inside l) k = absurd (ne k.2)

  pub notes_group : (slots id : ℕ) (me : M) (new : ℕ) (sn : List (Link E)) (g : List E) (f : F) (op : O) (reply : R)
      → me.0.stage ≡ Inside (log_of me.0.stage) → me.0.parts ≡ part (number me.0.parts) sn ∷ [] → me.0.fixed ≡ Some f
      → held_history history me.1 ≡ (me.0.start ++ flat (log_of me.0.stage)) ++ g → new ≡ length (held_history history me.1) → may f (me.0.start ++ flat (log_of me.0.stage)) (number me.0.parts) op g reply
      → Allows Rule slots id me 1 (λ _. new) (λ _. noted history fixed may (step slots 1 new 0 maybe.none) me new)
  notes_group slots id me new sn g f op reply is mine opening held long allowed s r _ at _ =
      let L : List (Link E) = log_of me.0.stage in
      let B : ℕ = number me.0.parts in
      let known = subst (Knows seats r.log r.turn r.count r.holder r.maker H (fixed o) id me.0) is (r.each id me.0 at) in
      let same = known.0 in
      let whole : L ≡ r.log = known.1 in
      let here : id ≡ r.holder = known.2 in
      let turn : r.turn ≡ B = known.3 in
      let pos : 0 < B = let p = known.4 in omega arith in
      let log' : List (Link E) = L ++ link B g ∷ [] in
      let w : W = with_group g me.0 in
      let own : 0 < times B me.0.parts = subst (λ ps. 0 < times B ps) (sym mine) (times-here B sn []) in
      let within = once-in B r.count (let p = r.parts B in let q = total-one (λ (v : W). times B v.parts) s.views id me.0 at in omega arith) in
      let f_is : f ≡ fixed o = same_Some f (fixed o) (sym opening ∙ same.1) in
      let lengths : new ≡ length (H ++ flat log') = long ∙ ap length (held ∙ ap (λ (h : List E). (h ++ flat L) ++ g) same.0 ∙ flat-snoc H L B g) in (
        w,
        keeps,
        tt,
        record {
          log = log';
          turn = r.turn;
          count = r.count;
          holder = r.holder;
          maker = r.maker;
          bells = r.bells;
          words = ap (λ (ws : List ℕ). set ws 1 new) r.words ∙ ap (λ (n : ℕ). r.turn ∷ n ∷ r.bells) lengths;
          few = r.few;
          legal = legal-snoc may (fixed o) H L B op g reply (subst (λ z. Legal may (fixed o) H z) (sym whole) r.legal)
              (subst (λ (z : F × List E). may z.0 (z.1 ++ flat L) B op g reply) (λ i. (f_is i, same.0 i)) allowed);
          numbered = numbered-snoc r.count L B g (subst (Numbered r.count) (sym whole) r.numbered) pos within.1;
          home = λ z. let p = known.4 in absurd (omega arith);
          out = λ _. (w, subst (λ z. get_elem? (set s.views id w) z ≡ some w) here (set_at s.views id me.0 w at), refl);
          each = each_set (λ j v. Knows seats log' r.turn r.count r.holder r.maker H (fixed o) j v v.stage) s.views id w
              ((same.0, same.1, (fit-all log' B, tt), same.3, same.4), refl, here, turn, known.4)
              (λ j v ne e. let free : times B v.parts ≡ 0 = (let p = r.parts B in let q = total-two (λ (v : W). times B v.parts) s.views id j me.0 v (λ x. ne (sym x)) at e in let m = once-most B r.count in omega arith) in
              others_log L B g r.turn r.count r.holder r.maker j v (λ x. ne (x ∙ sym here)) free v.stage
              (subst (λ z. Knows seats z r.turn r.count r.holder r.maker H (fixed o) j v v.stage) (sym whole) (r.each j v e)));
          parts = λ m. let p = r.parts m in let e = total-set (λ (v : W). times m v.parts) s.views id me.0 w at in let a : times m me.0.parts ≡ bit (B == m) + 0 = ap (times m) mine in omega arith;
          sizes = let p = r.sizes in let e = total-set (λ (v : W). length v.parts) s.views id me.0 w at in let a : length me.0.parts ≡ 1 = ap length mine in omega arith;
        },
        (g, held, refl),
      )

  pub gives_turn : (slots id : ℕ) (me : M) (x : X) → slots ≡ 1 → me.0.stage ≡ Inside (log_of me.0.stage) → me.1 ≡ (0, Some x) ∷ [] → history x ≡ me.0.start ++ flat (log_of me.0.stage) → me.0.fixed ≡ Some (fixed x)
      → Allows Rule slots id me 0 (λ _. 0) (λ _. given history fixed may (step slots 0 0 0 maybe.none) me 0)
  gives_turn slots id me x one is carries there opening s r deep at _ =
      let L : List (Link E) = log_of me.0.stage in
      let known = subst (Knows seats r.log r.turn r.count r.holder r.maker H (fixed o) id me.0) is (r.each id me.0 at) in
      let same = known.0 in
      let here : id ≡ r.holder = known.2 in
      let w : W = at_stage Out me.0 in (
        w,
        gives,
        tt,
        record {
          log = r.log;
          turn = 0;
          count = r.count;
          holder = r.holder;
          maker = r.maker;
          bells = r.bells;
          words = ap (λ (ws : List ℕ). set ws 0 0) r.words;
          few = r.few;
          legal = r.legal;
          numbered = r.numbered;
          home = λ _. (
            x,
            ap (Rattle.atomic_table.specs.Table.put_back s.homes) carries ∙ set_one s.homes (some (Some x)) (omega arith),
            there ∙ (λ i. same.0 i ++ flat (known.1 i)),
            same_Some (fixed x) (fixed o) (sym opening ∙ same.1),
          );
          out = λ not. absurd (not refl);
          each = each_set (λ j v. Knows seats r.log 0 r.count r.holder r.maker H (fixed o) j v v.stage) s.views id w same
              (λ j v ne e. others_free r.log r.turn 0 r.count r.holder r.maker j v (λ z. ne (z ∙ sym here)) v.stage (r.each j v e));
          parts = λ m. let p = r.parts m in let e = total-set (λ (v : W). times m v.parts) s.views id me.0 w at in omega arith;
          sizes = let p = r.sizes in let e = total-set (λ (v : W). length v.parts) s.views id me.0 w at in omega arith;
        },
        refl,
      )

  others_more : (log : List (Link E)) (turn count holder maker maker' j : ℕ) (v : W) → j ≢ maker → (st : Stage E) → Knows seats log turn count holder maker H (fixed o) j v st
      → Knows seats log turn (count + 1) holder maker' H (fixed o) j v st
  others_more log turn count holder maker maker' j v ne Spent k = k
  others_more log turn count holder maker maker' j v ne Out k = (k.0, k.1, k.2, (λ some_made. absurd (ne (k.3 some_made).1)), k.4)
  others_more log turn count holder maker maker' j v ne (Inside l) k = let same = k.0 in ((same.0, same.1, same.2, (λ some_made. absurd (ne (same.3 some_made).1)), same.4), k.1, k.2, k.3, k.4)

  pub deals : (id : ℕ) (v : W) → v.stage ≡ Out → 0 < v.made → v.made < seats → Splits Rule id v (made_one v) (next_one v)
  deals id v is maker room s r at =
      let same = subst (Knows seats r.log r.turn r.count r.holder r.maker H (fixed o) id v) is (r.each id v at) in
      let mine = same.3 (λ z. omega arith) in
      let count : v.made ≡ r.count = mine.0 in
      let here : id ≡ r.maker = mine.1 in
      let left : W = made_one v in
      let right : W = next_one v in
      let n : ℕ = length s.views in
      let wide : length (set s.views id left) ≡ n = length-set s.views id left in
      let P : ℕ → W → Type 0 = λ j u. Knows seats r.log r.turn (r.count + 1) r.holder n H (fixed o) j u u.stage in record {
        log = r.log;
        turn = r.turn;
        count = r.count + 1;
        holder = r.holder;
        maker = n;
        bells = r.bells;
        words = r.words;
        few = omega arith;
        legal = r.legal;
        numbered = numbered-more r.count (r.count + 1) (omega arith) r.log r.numbered;
        home = r.home;
        out = λ busy. let h = r.out busy in ⊎_elim
            (λ (z : r.holder ≡ id). let same_view : v ≡ h.0 = some-injective v h.0 (sym at ∙ subst (λ (i : ℕ). get_elem? s.views i ≡ some h.0) z h.1) in
            (absurd (out_inside r.log (sym is ∙ ap (λ (u : W). u.stage) same_view ∙ h.2))))
            (λ (z : r.holder ≢ id). (h.0, Rattle.atomic_table.proofs.Lists.at_longer (set s.views id left) (right ∷ []) r.holder h.0 (set_else s.views id r.holder left z ∙ h.1), h.2))
            (decided r.holder id);
        each = λ j u e. ⊎_elim
            (λ (old : get_elem? (set s.views id left) j ≡ some u). each_set P s.views id left
            (subst (Knows seats r.log r.turn (r.count + 1) r.holder n H (fixed o) id left) (sym is) (same.0, same.1, same.2, (λ z. absurd (z refl)), same.4))
            (λ i w ne at'. others_more r.log r.turn r.count r.holder r.maker n i w (λ z. ne (z ∙ sym here)) w.stage (r.each i w at')) j u old)
            (λ (new : (j ≡ length (set s.views id left)) × (right ≡ u)). subst (λ (y : ℕ × W). P y.0 y.1) (λ i. (sym (new.0 ∙ wide) i, new.1 i))
            (subst (Knows seats r.log r.turn (r.count + 1) r.holder n H (fixed o) n right) (sym is)
            (same.0, same.1, ((r.log, refl, subst (λ (z : ℕ). NotBy z r.log) (ap (λ (z : ℕ). z + 1) (sym count)) (numbered-not r.count (r.count + 1) (omega arith) r.log r.numbered)), tt), (λ _. (omega arith, refl)), same.4)))
            (at_end (set s.views id left) right u j e);
        parts = λ m. let p = r.parts m in let e = total-set (λ (u : W). times m u.parts) s.views id v left at in let q = total-snoc (λ (u : W). times m u.parts) (set s.views id left) right in
            let c = once-suc m r.count in let b : bit (v.made + 1 == m) ≡ bit (r.count + 1 == m) = ap (λ (z : ℕ). bit (z + 1 == m)) count in omega arith;
        sizes = let p = r.sizes in let e = total-set (λ (u : W). length u.parts) s.views id v left at in let q = total-snoc (λ (u : W). length u.parts) (set s.views id left) right in omega arith;
      }

  pub begins : (n : ℕ) (bells : List ℕ) → n ≡ length H → 0 < seats → Rule (opening (0 ∷ n ∷ bells) (Some o ∷ []) (first_view seats H (fixed o)))
  begins n bells long some_seats = record {
    log = [];
    turn = 0;
    count = 1;
    holder = 0;
    maker = 0;
    bells = bells;
    words = ap (λ (k : ℕ). 0 ∷ k ∷ bells) (long ∙ ap length (sym (append-nil H)));
    few = some_seats;
    legal = tt;
    numbered = tt;
    home = λ _. (o, refl, sym (append-nil H), refl);
    out = λ not. absurd (not refl);
    each = one;
    parts = λ m. let e = once-suc m 0 in let z = once-zero m in omega arith;
    sizes = omega arith;
  }
    where
      one : (j : ℕ) (v : W) → get_elem? (first_view seats H (fixed o) ∷ []) j ≡ some v → Knows seats [] 0 1 0 0 H (fixed o) j v v.stage
      one zero v e = subst (λ (u : W). Knows seats [] 0 1 0 0 H (fixed o) 0 u u.stage) (some-injective _ _ e) (refl, refl, (([], refl, tt), tt), (λ _. (refl, refl)), refl)
      one (suc j) v e = absurd (some-ne-none v (sym e))

  pub gathers : (id : ℕ) (v : W) (other : ℕ) (w : W) → v.stage ≡ Out → w.stage ≡ Out → Joins Rule id v other w (gathered v w) spent
  gathers id v other w is is' s r at apart there =
      let both : W = gathered v w in
      let vs : List W = set s.views id both in
      let at' : get_elem? s.views other ≡ some w = sym (set_else s.views id other both apart) ∙ there in
      let same = subst (Knows seats r.log r.turn r.count r.holder r.maker H (fixed o) id v) is (r.each id v at) in
      let same' = subst (Knows seats r.log r.turn r.count r.holder r.maker H (fixed o) other w) is' (r.each other w at') in
      let P : ℕ → W → Type 0 = λ j u. Knows seats r.log r.turn r.count r.holder r.maker H (fixed o) j u u.stage in record {
        log = r.log;
        turn = r.turn;
        count = r.count;
        holder = r.holder;
        maker = r.maker;
        bells = r.bells;
        words = r.words;
        few = r.few;
        legal = r.legal;
        numbered = r.numbered;
        home = r.home;
        out = λ busy. let h = r.out busy in
            let not_mine : r.holder ≢ id = λ z. out_inside r.log (sym is ∙ ap (λ (u : W). u.stage) (some-injective v h.0 (sym at ∙ subst (λ (i : ℕ). get_elem? s.views i ≡ some h.0) z h.1)) ∙ h.2) in
            let not_other : r.holder ≢ other = λ z. out_inside r.log (sym is' ∙ ap (λ (u : W). u.stage) (some-injective w h.0 (sym at' ∙ subst (λ (i : ℕ). get_elem? s.views i ≡ some h.0) z h.1)) ∙ h.2) in
            (h.0, set_else vs other r.holder spent not_other ∙ (set_else s.views id r.holder both not_mine ∙ h.1), h.2);
        each = each_set P vs other spent (refl, refl) (λ j u _ e. each_set P s.views id both
            (subst (Knows seats r.log r.turn r.count r.holder r.maker H (fixed o) id both) (sym is) (same.0, same.1, all_fit-append r.log w.parts v.parts same'.2 same.2, (λ z. absurd (z refl)), same.4))
            (λ i x _ q. r.each i x q) j u e);
        parts = λ m. let p = r.parts m in let e = total-set (λ (u : W). times m u.parts) s.views id v both at in let q = total-set (λ (u : W). times m u.parts) vs other w spent there in let c = times-append m w.parts v.parts in omega arith;
        sizes = let p = r.sizes in let e = total-set (λ (u : W). length u.parts) s.views id v both at in let q = total-set (λ (u : W). length u.parts) vs other w spent there in let c = length-append w.parts v.parts in omega arith;
      }

  -- who has every part is the only one to have any
  alone : (s : St) → Rule s → (id : ℕ) (v : W) → get_elem? s.views id ≡ some v → length v.parts ≡ seats → (j : ℕ) (u : W) → j ≢ id → get_elem? s.views j ≡ some u → length u.parts ≡ 0
  alone s r id v at all j u ne e = let p = r.sizes in let f = r.few in let t = total-two (λ (x : W). length x.parts) s.views id j v u (λ z. ne (sym z)) at e in omega arith

  all_of : (s : St) (r : Rule s) (id : ℕ) (v : W) → get_elem? s.views id ≡ some v → length v.parts ≡ seats → (l : List (Link E)) → Numbered r.count l → AllOf v.parts l
  all_of s r id v at all [] a = tt
  all_of s r id v at all (k ∷ ks) a = (
    (let t = total-only (λ (x : W). times k.by x.parts) s.views id v at (λ j u ne e. times-none k.by u.parts (alone s r id v at all j u ne e)) in
        let p = r.parts k.by in let f = once-full k.by r.count a.0.0 a.0.1 in omega arith),
    all_of s r id v at all ks a.1,
  )

  pub ends : (id : ℕ) (v : W) (ws : List ℕ) (xs : List (Option X)) → v.stage ≡ Out → length v.parts ≡ seats → Final (Seen Rule id v) ws xs
      → (x : X) × (get_elem? xs 0 ≡ some (Some x)) × Ended history fixed may o x v.parts
  ends id v ws xs is all final =
      let s = final.0 in
      let r = final.1.0 in
      let at = final.1.1 in
      let same = subst (Knows seats r.log r.turn r.count r.holder r.maker H (fixed o) id v) is (r.each id v at) in
      let free : r.turn ≡ 0 = dite (ℕ_discrete r.turn 0) (λ z. z) (λ busy. let h = r.out busy in
      let not_mine : r.holder ≢ id = λ z. out_inside r.log (sym is ∙ ap (λ (u : W). u.stage) (some-injective v h.0 (sym at ∙ subst (λ (i : ℕ). get_elem? s.views i ≡ some h.0) z h.1)) ∙ h.2) in
      let known = subst (Knows seats r.log r.turn r.count r.holder r.maker H (fixed o) r.holder h.0) h.2 (r.each r.holder h.0 h.1) in
      let nothing = alone s r id v at all r.holder h.0 not_mine h.1 in
      let turn : r.turn ≡ number h.0.parts = known.3 in
      let pos = known.4 in
      let some_part = times-some h.0.parts (omega arith) in absurd (omega arith)) in
      let home = r.home free in (
        home.0,
        final.4 0 (Some home.0) (ap (λ (hs : List (maybe.Option (Option X))). get_elem? hs 0) home.1),
        (r.log, home.2, home.3, r.legal, same.2, all_of s r id v at all r.log r.numbered),
      )

  -- the same state, whichever word is read
  pub looks : (slots id : ℕ) (me : M) (word : ℕ) → Allows Rule slots id me word (λ n. n) (looked history fixed may (step slots word 0 0 maybe.none) me)
  looks slots id me word s r _ at _ = (me.0, keeps, tt, subst Rule (λ i. record { words = sym (set-get_or s.words word 0) i; homes = s.homes; views = sym (set_again s.views id me.0 at) i }) r, refl)

  -- a bell says nothing of the value
  rung : (s : St) → Rule s → (w new : ℕ) → Rule (record { words = set s.words (suc (suc w)) new; homes = s.homes; views = s.views })
  rung s r w new = record {
    log = r.log;
    turn = r.turn;
    count = r.count;
    holder = r.holder;
    maker = r.maker;
    bells = set r.bells w new;
    words = ap (λ (ws : List ℕ). set ws (suc (suc w)) new) r.words;
    few = r.few;
    legal = r.legal;
    numbered = r.numbered;
    home = r.home;
    out = r.out;
    each = r.each;
    parts = r.parts;
    sizes = r.sizes;
  }

  changes : (slots id : ℕ) (me : M) (word : ℕ) (f : ℕ → ℕ) (st : Step (Option X)) → 1 < word → Allows Rule slots id me word f (looked history fixed may st me)
  changes slots id me zero f st big s r _ at _ = absurd (omega arith)
  changes slots id me (suc zero) f st big s r _ at _ = absurd (omega arith)
  changes slots id me (suc (suc w)) f st big s r _ at _ = let new : ℕ = f (get_or s.words (suc (suc w)) 0) in (
    me.0,
    keeps,
    tt,
    subst Rule (λ i. record { words = set s.words (suc (suc w)) new; homes = s.homes; views = sym (set_again s.views id me.0 at) i }) (rung s r w new),
    refl,
  )

  pub rings : (slots id : ℕ) (me : M) (word k : ℕ) → 1 < word → Allows Rule slots id me word (λ n. (n + k) % 2 ^ 64) (looked history fixed may (step slots word k 0 maybe.none) me)
  rings slots id me word k big = changes slots id me word (λ n. (n + k) % 2 ^ 64) (step slots word k 0 maybe.none) big

  pub counts_down : (slots id : ℕ) (me : M) (word k : ℕ) → 1 < word → Allows Rule slots id me word (λ n. (n + (2 ^ 64 - k)) % 2 ^ 64) (looked history fixed may (step slots word k 0 maybe.none) me)
  counts_down slots id me word k big = changes slots id me word (λ n. (n + (2 ^ 64 - k)) % 2 ^ 64) (step slots word k 0 maybe.none) big
