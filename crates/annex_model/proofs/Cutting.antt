-- A replied list that is cut before something of the remote's is replied up to the cut.
use Rattle.std.proofs.Common.{◌≡◌, ℕ, List, [], ◌∷◌, ◌++◌, refl, sym, ap, ◌∙◌, append_assoc, Bool, true, false, cond}
use Rattle.std.specs.Prelude.{map}
use Rattle.std.specs.List.{flat_map}
use Rattle.annex_model.specs.Talks.{Item, Side, shown, of_host, is_remote, remote_items, with_replies, item_is_aside}

abbrev pub Shown : Type 0
Shown = Side × List ℕ

abbrev pub of_remote : Shown → Bool
of_remote s = is_remote s.0

-- the first is the remote's
abbrev pub begins : List Shown → Bool
begins [] = false
begins (s ∷ ss) = of_remote s

-- all are the host's
abbrev pub AreHosts : List Shown → Type 0
AreHosts [] = Unit {0}
AreHosts (s ∷ ss) = (of_remote s ≡ false) × AreHosts ss

differ : {A : Type 0} (b c : Bool) → b ≡ true → c ≡ false → b ≡ c → A
differ b c t f e = let bad : true ≡ false = sym t ∙ e ∙ f in absurd cc

same_head : (x y : Shown) (xs ys : List Shown) → x ∷ xs ≡ y ∷ ys → x ≡ y
same_head x y xs ys e = cc

same_tail : (x y : Shown) (xs ys : List Shown) → x ∷ xs ≡ y ∷ ys → xs ≡ ys
same_tail x y xs ys e = cc

pub hosts_of : (lines : List (List ℕ)) → AreHosts (of_host lines)
hosts_of [] = tt
hosts_of (l ∷ ls) = (refl, hosts_of ls)

module _ (replies : ℕ → List (List ℕ)) where
  abbrev owed : Item → List Shown
  owed i = cond (item_is_aside i) (of_host (replies i.at)) []

  owed_hosts : (i : Item) → AreHosts (owed i)
  owed_hosts i = go (item_is_aside i)
    where
      go : (b : Bool) → AreHosts (cond b (of_host (replies i.at)) [])
      go true = hosts_of (replies i.at)
      go false = tt

  abbrev pub blocks : List Item → List Shown
  blocks xs = flat_map (with_replies replies) (remote_items xs)

  blocks_remote : (x : Item) (xs : List Item) → is_remote x.side ≡ true → blocks (x ∷ xs) ≡ shown x ∷ owed x ++ blocks xs
  blocks_remote x xs e = ap (λ (b : Bool). flat_map (with_replies replies) (cond b (x ∷ remote_items xs) (remote_items xs))) e

  blocks_host : (x : Item) (xs : List Item) → is_remote x.side ≡ false → blocks (x ∷ xs) ≡ blocks xs
  blocks_host x xs e = ap (λ (b : Bool). flat_map (with_replies replies) (cond b (x ∷ remote_items xs) (remote_items xs))) e

  blocks_begin : (xs : List Item) (more : List Shown) → begins more ≡ true → begins (blocks xs ++ more) ≡ true
  blocks_begin [] more b = b
  blocks_begin (x ∷ xs) more b = go (is_remote x.side) refl (blocks_begin xs more b)
    where
      go : (r : Bool) → is_remote x.side ≡ r → begins (blocks xs ++ more) ≡ true → begins (blocks (x ∷ xs) ++ more) ≡ true
      go true e later = ap (λ (ss : List Shown). begins (ss ++ more)) (blocks_remote x xs e) ∙ e
      go false e later = ap (λ (ss : List Shown). begins (ss ++ more)) (blocks_host x xs e) ∙ later

  -- with these of the host's still owed
  pub cut : (xs : List Item) (due z w : List Shown) → AreHosts due → begins z ≡ true → begins w ≡ true
      → map shown xs ++ z ≡ due ++ (blocks xs ++ w) → map shown xs ≡ due ++ blocks xs
  cut [] [] z w h bz bw e = refl
  cut [] (d ∷ ds) z w h bz bw e = differ (begins z) (of_remote d) bz h.0 (ap begins e)
  cut (x ∷ xs) due z w h bz bw e = go (is_remote x.side) refl (λ ds g f. cut xs ds z w g bz bw f) due h e
    where
      go : (r : Bool) → is_remote x.side ≡ r
          → ((ds : List Shown) → AreHosts ds → map shown xs ++ z ≡ ds ++ (blocks xs ++ w) → map shown xs ≡ ds ++ blocks xs)
          → (due : List Shown) → AreHosts due → map shown (x ∷ xs) ++ z ≡ due ++ (blocks (x ∷ xs) ++ w)
          → map shown (x ∷ xs) ≡ due ++ blocks (x ∷ xs)
      go true r later [] h e =
          let b = blocks_remote x xs r in
          let t : shown x ∷ (map shown xs ++ z) ≡ shown x ∷ ((owed x ++ blocks xs) ++ w) = e ∙ ap (λ (ss : List Shown). ss ++ w) b in
          let rest : map shown xs ++ z ≡ owed x ++ (blocks xs ++ w) =
          same_tail (shown x) (shown x) (map shown xs ++ z) ((owed x ++ blocks xs) ++ w) t ∙ append_assoc (owed x) (blocks xs) w in
          ap (λ (ss : List Shown). shown x ∷ ss) (later (owed x) (owed_hosts x) rest) ∙ sym b
      go true r later (d ∷ ds) h e = differ (is_remote x.side) (of_remote d) r h.0 (ap begins e)
      go false r later [] h e =
          differ (begins (blocks xs ++ w)) (is_remote x.side) (blocks_begin xs w bw) r (sym (ap begins e ∙ ap (λ (ss : List Shown). begins (ss ++ w)) (blocks_host x xs r)))
      go false r later (d ∷ ds) h e =
          let b = blocks_host x xs r in
          let t : shown x ∷ (map shown xs ++ z) ≡ d ∷ (ds ++ (blocks xs ++ w)) = e ∙ ap (λ (ss : List Shown). d ∷ (ds ++ (ss ++ w))) b in
          let first : shown x ≡ d = same_head (shown x) d (map shown xs ++ z) (ds ++ (blocks xs ++ w)) t in
          let rest = same_tail (shown x) d (map shown xs ++ z) (ds ++ (blocks xs ++ w)) t in
          ap (λ (ss : List Shown). shown x ∷ ss) (later ds h.1 rest) ∙ ap (λ (s : Shown). s ∷ (ds ++ blocks xs)) first
          ∙ ap (λ (ss : List Shown). d ∷ (ds ++ ss)) (sym b)
