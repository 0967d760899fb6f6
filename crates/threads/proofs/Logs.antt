-- Logs, parts and totals, on plain variables.
use Rattle.std.proofs.lemmas.Option.{same_Some}
use Rattle.std.specs.List.{All}
use Rattle.std.proofs.Common.{length-append, cond, ne_eqb, get_or, slice_get, Some, map, ◌==◌, ◌&&◌, ltb, leb, ◌≡◌, ◌≢◌, ℕ, zero, suc, ◌+◌, ◌<◌, ◌≤◌, List, [], ◌∷◌, ◌++◌, length, set, refl, sym, ap, ◌∙◌, subst, arith, append_assoc, append-nil, eq-eqb, Bool, true, false}
use mathlib.Core.Option.{some, some-ne-none, some-injective}
use mathlib.Core.List.{map-append}
use lib.ListN.{get_elem?}
use Rattle.threads.specs.declared.view.Link.{Link}
use Rattle.threads.specs.declared.view.Part.{Part}
use Rattle.threads.specs.Log.{places_by, groups_by, bit, link, part, flat, NotBy, Numbered, Fit, AllFit, number, times, Legal}
use Rattle.threads.specs.Rule.{total, once}

module _ {E : Type 0} where
  pub flat-append : (xs ys : List (Link E)) → flat (xs ++ ys) ≡ flat xs ++ flat ys
  flat-append [] ys = refl
  flat-append (k ∷ ks) ys = ap (λ zs. k.group ++ zs) (flat-append ks ys) ∙ sym (append_assoc k.group (flat ks) (flat ys))

  pub flat-snoc : (h : List E) (xs : List (Link E)) (by : ℕ) (g : List E) → (h ++ flat xs) ++ g ≡ h ++ flat (xs ++ link by g ∷ [])
  flat-snoc h xs by g = append_assoc h (flat xs) g ∙ ap (λ zs. h ++ zs) (ap (λ zs. flat xs ++ zs) (sym (append-nil g)) ∙ sym (flat-append xs (link by g ∷ [])))

  pub seen-more : (h : List E) (xs ys : List (Link E)) → h ++ flat (xs ++ ys) ≡ (h ++ flat xs) ++ flat ys
  seen-more h xs ys = ap (λ zs. h ++ zs) (flat-append xs ys) ∙ sym (append_assoc h (flat xs) (flat ys))

  pub not_by-append : (n : ℕ) (xs ys : List (Link E)) → NotBy n xs → NotBy n ys → NotBy n (xs ++ ys)
  not_by-append n [] ys a b = b
  not_by-append n (k ∷ ks) ys a b = (a.0, not_by-append n ks ys a.1 b)

  pub numbered-snoc : (n : ℕ) (xs : List (Link E)) (by : ℕ) (g : List E) → Numbered n xs → 0 < by → by ≤ n → Numbered n (xs ++ link by g ∷ [])
  numbered-snoc n [] by g a pos le = ((pos, le), tt)
  numbered-snoc n (k ∷ ks) by g a pos le = (a.0, numbered-snoc n ks by g a.1 pos le)

  pub numbered-more : (n m : ℕ) → n ≤ m → (xs : List (Link E)) → Numbered n xs → Numbered m xs
  numbered-more n m le [] a = tt
  numbered-more n m le (k ∷ ks) a = let b = a.0.1 in ((a.0.0, omega arith), numbered-more n m le ks a.1)

  pub numbered-after : (n : ℕ) (xs ys : List (Link E)) → Numbered n (xs ++ ys) → Numbered n ys
  numbered-after n [] ys a = a
  numbered-after n (k ∷ ks) ys a = numbered-after n ks ys a.1

  pub numbered-not : (n m : ℕ) → n < m → (xs : List (Link E)) → Numbered n xs → NotBy m xs
  numbered-not n m lt [] a = tt
  numbered-not n m lt (k ∷ ks) a = let b = a.0.1 in ((λ e. omega arith), numbered-not n m lt ks a.1)

  pub times-append : (m : ℕ) (ps qs : List (Part E)) → times m (ps ++ qs) ≡ times m ps + times m qs
  times-append m [] qs = omega arith
  times-append m (p ∷ ps) qs = let e = times-append m ps qs in omega arith

  pub all_fit-append : (log : List (Link E)) (ps qs : List (Part E)) → AllFit log ps → AllFit log qs → AllFit log (ps ++ qs)
  all_fit-append log [] qs a b = b
  all_fit-append log (p ∷ ps) qs a b = (a.0, all_fit-append log ps qs a.1 b)

  -- a part whose number stands there is counted
  pub times-here : (m : ℕ) (log : List (Link E)) (ps : List (Part E)) → 0 < times m (part m log ∷ ps)
  times-here m log ps = let f : bit (m == m) ≡ 1 = ap bit (eq-eqb m m refl) in omega arith

  -- another number's group leaves each part as it was
  pub all_fit-snoc : (log : List (Link E)) (by : ℕ) (g : List E) (ps : List (Part E)) → AllFit log ps → times by ps ≡ 0 → AllFit (log ++ link by g ∷ []) ps
  all_fit-snoc log by g [] a none = tt
  all_fit-snoc log by g (p ∷ ps) a none = let fit = a.0 in
      let other : by ≢ p.by = λ e. let f : bit (p.by == by) ≡ 1 = ap bit (eq-eqb p.by by (sym e)) in omega arith in
      let none' : times by ps ≡ 0 = omega arith in (
        (fit.0 ++ link by g ∷ [], ap (λ zs. zs ++ link by g ∷ []) fit.1 ∙ append_assoc p.seen fit.0 (link by g ∷ []), not_by-append p.by fit.0 (link by g ∷ []) fit.2 (other, tt)),
        all_fit-snoc log by g ps a.1 none',
      )

  -- who has seen all fits
  pub fit-all : (log : List (Link E)) (by : ℕ) → Fit log (part by log)
  fit-all log by = ([], sym (append-nil log), tt)

module _ {F E O R : Type 0} (may : F → List E → ℕ → O → List E → R → Type 0) (f : F) where
  pub legal-after : (h : List E) (xs ys : List (Link E)) → Legal may f h (xs ++ ys) → Legal may f (h ++ flat xs) ys
  legal-after h [] ys a = subst (λ z. Legal may f z ys) (sym (append-nil h)) a
  legal-after h (k ∷ ks) ys a = subst (λ z. Legal may f z ys) (append_assoc h k.group (flat ks)) (legal-after (h ++ k.group) ks ys a.1)

  pub legal-before : (h : List E) (xs ys : List (Link E)) → Legal may f h (xs ++ ys) → Legal may f h xs
  legal-before h [] ys a = tt
  legal-before h (k ∷ ks) ys a = (a.0, legal-before (h ++ k.group) ks ys a.1)

  pub legal-snoc : (h : List E) (xs : List (Link E)) (by : ℕ) (op : O) (g : List E) (r : R) → Legal may f h xs → may f (h ++ flat xs) by op g r → Legal may f h (xs ++ link by g ∷ [])
  legal-snoc h [] by op g r a m = ((op, r, subst (λ z. may f z by op g r) (append-nil h) m), tt)
  legal-snoc h (k ∷ ks) by op g r a m = (a.0, legal-snoc (h ++ k.group) ks by op g r a.1 (subst (λ z. may f z by op g r) (sym (append_assoc h k.group (flat ks))) m))

module _ {V : Type 0} (f : V → ℕ) where
  pub total-set : (vs : List V) (i : ℕ) (v w : V) → get_elem? vs i ≡ some v → total f (set vs i w) + f v ≡ total f vs + f w
  total-set [] i v w e = absurd (some-ne-none v (sym e))
  total-set (x ∷ xs) zero v w e = let s : f x ≡ f v = ap f (some-injective x v e) in omega arith
  total-set (x ∷ xs) (suc i) v w e = let s = total-set xs i v w e in omega arith

  pub total-snoc : (vs : List V) (w : V) → total f (vs ++ w ∷ []) ≡ total f vs + f w
  total-snoc [] w = omega arith
  total-snoc (x ∷ xs) w = let s = total-snoc xs w in omega arith

  pub total-one : (vs : List V) (i : ℕ) (v : V) → get_elem? vs i ≡ some v → f v ≤ total f vs
  total-one [] i v e = absurd (some-ne-none v (sym e))
  total-one (x ∷ xs) zero v e = let s : f x ≡ f v = ap f (some-injective x v e) in omega arith
  total-one (x ∷ xs) (suc i) v e = let s = total-one xs i v e in omega arith

  pub total-two : (vs : List V) (i j : ℕ) (v w : V) → i ≢ j → get_elem? vs i ≡ some v → get_elem? vs j ≡ some w → f v + f w ≤ total f vs
  total-two [] i j v w n e h = absurd (some-ne-none v (sym e))
  total-two (x ∷ xs) zero zero v w n e h = absurd (n refl)
  total-two (x ∷ xs) zero (suc j) v w n e h = let s : f x ≡ f v = ap f (some-injective x v e) in let t = total-one xs j w h in omega arith
  total-two (x ∷ xs) (suc i) zero v w n e h = let s : f x ≡ f w = ap f (some-injective x w h) in let t = total-one xs i v e in omega arith
  total-two (x ∷ xs) (suc i) (suc j) v w n e h = let t = total-two xs i j v w (λ s. n (ap suc s)) e h in omega arith

pub once-most : (m n : ℕ) → once m n ≤ 1
once-most m n = cases (ltb 0 m && leb m n)
  where
    cases : (b : Bool) → bit b ≤ 1
    cases true = omega arith
    cases false = omega arith

pub once-in : (m n : ℕ) → 0 < once m n → (0 < m) × (m ≤ n)
once-in m n h = grind (arith)

pub once-full : (m n : ℕ) → 0 < m → m ≤ n → once m n ≡ 1
once-full m n a b = grind (arith)

pub once-suc : (m n : ℕ) → once m (n + 1) ≡ once m n + bit (n + 1 == m)
once-suc m n = grind (arith)

module _ {V : Type 0} (f : V → ℕ) where
  -- where the others have none, the total is this one's
  pub total-only : (vs : List V) (i : ℕ) (v : V) → get_elem? vs i ≡ some v → ((j : ℕ) (w : V) → j ≢ i → get_elem? vs j ≡ some w → f w ≡ 0) → total f vs ≡ f v
  total-only [] i v e none = absurd (some-ne-none v (sym e))
  total-only (x ∷ xs) zero v e none = let s : f x ≡ f v = ap f (some-injective x v e) in let t : total f xs ≡ 0 = total-none xs (λ j w h. none (suc j) w (λ z. omega arith) h) in omega arith
    where
      total-none : (ws : List V) → ((j : ℕ) (w : V) → get_elem? ws j ≡ some w → f w ≡ 0) → total f ws ≡ 0
      total-none [] zeros = refl
      total-none (y ∷ ys) zeros = let a = zeros zero y refl in let b = total-none ys (λ j w h. zeros (suc j) w h) in omega arith
  total-only (x ∷ xs) (suc i) v e none = let a = none zero x (λ z. omega arith) refl in let t = total-only xs i v e (λ j w n h. none (suc j) w (λ z. n (omega arith)) h) in omega arith

module _ {E : Type 0} where
  pub times-some : (ps : List (Part E)) → 0 < number ps → 0 < length ps
  times-some [] h = absurd (omega arith)
  times-some (p ∷ ps) h = omega arith

  pub times-none : (m : ℕ) (ps : List (Part E)) → length ps ≡ 0 → times m ps ≡ 0
  times-none m [] e = refl
  times-none m (p ∷ ps) e = absurd (omega arith)

pub once-zero : (m : ℕ) → once m 0 ≡ 0
once-zero m = grind (arith)

module _ {A : Type 0} where
  pub each_snoc : (P : ℕ → A → Type 0) (xs : List A) (y : A) (n : ℕ) → n ≡ length xs → ((k : ℕ) (p : A) → slice_get xs k ≡ Some p → P k p) → P n y → (k : ℕ) (p : A) → slice_get (xs ++ y ∷ []) k ≡ Some p → P k p
  each_snoc P [] y n e before last zero p h = subst (λ (z : ℕ × A). P z.0 z.1) (λ i. (e i, same_Some y p h i)) last
  each_snoc P [] y n e before last (suc k) p h = absurd (cc)
  each_snoc P (x ∷ xs) y n e before last zero p h = before zero p h
  each_snoc P (x ∷ xs) y n e before last (suc k) p h = each_snoc (λ i q. P (suc i) q) xs y (length xs) refl (λ i q. before (suc i) q) (subst (λ z. P z y) (let f : n ≡ suc (length xs) = omega arith in f) last) k p h

  pub each_pushed : (P : ℕ → A → Type 0) (xs zs : List A) (y : A) (n : ℕ) → zs ≡ xs ++ y ∷ [] → n ≡ length xs → ((k : ℕ) (p : A) → slice_get xs k ≡ Some p → P k p) → P n y → (k : ℕ) (p : A) → slice_get zs k ≡ Some p → P k p
  each_pushed P xs zs y n is e before last = subst (λ ws. (k : ℕ) (p : A) → slice_get ws k ≡ Some p → P k p) (sym is) (each_snoc P xs y n e before last)

module _ {A B : Type 0} where
  -- one element of xs, which is the last, goes to the other list
  pub map-last : (f : A → B) (all xs : List A) (x : A) (parts ys : List B) (whole : List B) → all ≡ xs ++ x ∷ [] → map f all ++ ys ≡ whole → parts ≡ f x ∷ [] → map f xs ++ (parts ++ ys) ≡ whole
  map-last f all xs x parts ys whole e w p = ap (λ zs. map f xs ++ (zs ++ ys)) p ∙ (sym (append_assoc (map f xs) (f x ∷ []) ys) ∙ (ap (λ zs. zs ++ ys) (sym (map-append f xs (x ∷ [])) ∙ ap (map f) (sym e)) ∙ w))

module _ {A : Type 0} where
  pub get-front : (xs : List A) (x : A) (all : List A) → all ≡ xs ++ x ∷ [] → (k : ℕ) (p : A) → slice_get xs k ≡ Some p → slice_get all k ≡ Some p
  get-front xs x all e k p h = subst (λ zs. slice_get zs k ≡ Some p) (sym e) (front xs k h)
    where
      front : (ys : List A) (k : ℕ) → slice_get ys k ≡ Some p → slice_get (ys ++ x ∷ []) k ≡ Some p
      front [] k h = absurd (cc)
      front (y ∷ ys) zero h = h
      front (y ∷ ys) (suc k) h = front ys k h

  pub get-last : (xs : List A) (x : A) (all : List A) → all ≡ xs ++ x ∷ [] → slice_get all (length xs) ≡ Some x
  get-last xs x all e = subst (λ zs. slice_get zs (length xs) ≡ Some x) (sym e) (last xs)
    where
      last : (ys : List A) → slice_get (ys ++ x ∷ []) (length ys) ≡ Some x
      last [] = refl
      last (y ∷ ys) = last ys

module _ {A : Type 0} (P : A → Type 0) where
  pub all-from_get : (xs : List A) → ((k : ℕ) (p : A) → slice_get xs k ≡ Some p → P p) → All P xs
  all-from_get xs each k d inside = each k (get_or xs k d) (there xs k d inside)
    where
      there : (ys : List A) (k : ℕ) (d : A) → k < length ys → slice_get ys k ≡ Some (get_or ys k d)
      there [] k d h = absurd (omega arith)
      there (y ∷ ys) zero d h = refl
      there (y ∷ ys) (suc k) d h = there ys k d (omega arith)

  pub get-from_all : (xs : List A) → All P xs → (k : ℕ) (p : A) → slice_get xs k ≡ Some p → P p
  get-from_all xs all k p e = let t = here xs k p e in subst P t.1 (all k p t.0)
    where
      here : (ys : List A) (k : ℕ) (p : A) → slice_get ys k ≡ Some p → (k < length ys) × (get_or ys k p ≡ p)
      here [] k p e = absurd (cc)
      here (y ∷ ys) zero p e = (omega arith, same_Some y p e)
      here (y ∷ ys) (suc k) p e = let t = here ys k p e in let u = t.0 in (omega arith, t.1)

module _ {E : Type 0} where
  pub groups_by-none : (n : ℕ) (ks : List (Link E)) → NotBy n ks → groups_by n ks ≡ []
  groups_by-none n [] a = refl
  groups_by-none n (k ∷ ks) a = ap (λ b. cond b (k ∷ groups_by n ks) (groups_by n ks)) (ne_eqb k.by n a.0) ∙ groups_by-none n ks a.1

  pub groups_by-append : (n : ℕ) (xs ys : List (Link E)) → groups_by n (xs ++ ys) ≡ groups_by n xs ++ groups_by n ys
  groups_by-append n [] ys = refl
  groups_by-append n (k ∷ ks) ys = by (k.by == n) (groups_by n ks) (groups_by-append n ks ys)
    where
      by : (b : Bool) {us : List (Link E)} (vs : List (Link E)) → us ≡ vs ++ groups_by n ys → cond b (k ∷ us) us ≡ cond b (k ∷ vs) vs ++ groups_by n ys
      by true vs e = ap (λ zs. k ∷ zs) e
      by false vs e = e

  -- a pass's own groups are those that the whole log has of it
  pub groups_by-fit : (log : List (Link E)) (p : Part E) → Fit log p → groups_by p.by log ≡ groups_by p.by p.seen
  groups_by-fit log p fit = ap (groups_by p.by) fit.1 ∙ (groups_by-append p.by p.seen fit.0 ∙ (ap (λ zs. groups_by p.by p.seen ++ zs) (groups_by-none p.by fit.0 fit.2) ∙ append-nil (groups_by p.by p.seen)))

  pub all_fit-get : {A : Type 0} (f : A → Part E) (log : List (Link E)) (xs : List A) → AllFit log (map f xs) → (k : ℕ) (x : A) → slice_get xs k ≡ Some x → Fit log (f x)
  all_fit-get f log [] a k x e = absurd (cc)
  all_fit-get f log (y ∷ ys) a zero x e = subst (λ z. Fit log (f z)) (same_Some y x e) a.0
  all_fit-get f log (y ∷ ys) a (suc k) x e = all_fit-get f log ys a.1 k x e

either_way : (b : Bool) (x : ℕ × ℕ) (us vs ws : List (ℕ × ℕ)) → us ≡ vs ++ ws → cond b (x ∷ us) us ≡ cond b (x ∷ vs) vs ++ ws
either_way true x us vs ws e = ap (λ zs. x ∷ zs) e
either_way false x us vs ws e = e

module _ {E : Type 0} where
  pub places_by-append : (n from : ℕ) (xs ys : List (Link E)) → places_by n from (xs ++ ys) ≡ places_by n from xs ++ places_by n (from + length (flat xs)) ys
  places_by-append n from [] ys = ap (λ (k : ℕ). places_by n k ys) (omega arith)
  places_by-append n from (k ∷ ks) ys =
      let next : ℕ = from + length k.group in
      let e : next + length (flat ks) ≡ from + length (k.group ++ flat ks) = (let l = length-append k.group (flat ks) in omega arith) in
      either_way (k.by == n) (from, length k.group) (places_by n next (ks ++ ys)) (places_by n next ks) (places_by n (from + length (k.group ++ flat ks)) ys)
      (places_by-append n next ks ys ∙ ap (λ (z : ℕ). places_by n next ks ++ places_by n z ys) e)

  pub places_by-none : (n from : ℕ) (ks : List (Link E)) → NotBy n ks → places_by n from ks ≡ []
  places_by-none n from [] a = refl
  places_by-none n from (k ∷ ks) a = ap (λ b. cond b ((from, length k.group) ∷ places_by n (from + length k.group) ks) (places_by n (from + length k.group) ks)) (ne_eqb k.by n a.0) ∙ places_by-none n (from + length k.group) ks a.1

  -- after an entry the pass has one more place, at the end
  pub places_by-entered : (n from : ℕ) (before between : List (Link E)) (g : List E) → NotBy n between
      → places_by n from ((before ++ between) ++ link n g ∷ []) ≡ places_by n from before ++ (from + length (flat (before ++ between)), length g) ∷ []
  places_by-entered n from before between g others =
      places_by-append n from (before ++ between) (link n g ∷ [])
      ∙ ((λ i. (places_by-append n from before between ∙ (ap (λ zs. places_by n from before ++ zs) (places_by-none n (from + length (flat before)) between others) ∙ append-nil (places_by n from before))) i
      ++ cond (eq-eqb n n refl i) ((from + length (flat (before ++ between)), length g) ∷ []) []))
