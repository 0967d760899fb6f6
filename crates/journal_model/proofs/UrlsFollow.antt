-- The URLs that a search from the end finds are those that the registers hold.
use Rattle.std.proofs.Common.{◌≡◌, ℕ, Bool, true, false, cond, ◌&&◌, ◌||◌, List, [], ◌∷◌, filter, Some, None, unwrap_or, bytes_eq, nat_eq, refl, sym, ap, ◌∙◌}
use mathlib.Core.Bool.{false≢true}
use Rattle.std.specs.Prelude.{filter_map}
use Rattle.std.specs.declared.cmp.Ordering.TheVariants.{Less, Equal, Greater}
use Rattle.std.specs.Ordering.{match_ordering, ordering_reverse, is_eq}
use Rattle.std.specs.BTreeSet.{insert_key}
use Rattle.std.specs.List.{cons_option, list_any, starts_with, AllByRecursion}
use Rattle.std.specs.List.Sorted.{IsStrictlySortedBy}
use Rattle.std.proofs.lemmas.Cmp.{nat_list_cmp_total}
use Rattle.std.proofs.lemmas.Map.Keys.{sorted_head, sorted_tail}
use Rattle.std.proofs.lemmas.List.Folds.{list_any-append}
use Rattle.annex_model.specs.Messages.{RemoteMessage, Seturlpresent, Seturlmissing}
use Rattle.registers.specs.Tables.{by_bytes}
use Rattle.registers.specs.Links.{LinksRise}
use Rattle.registers.specs.Registers.{RegisterFile, IsKept, has_url, urls_of, config_of, creds_of, state_of}
use Rattle.registers.proofs.Orders.{sorted-insert_key}
use Rattle.registers.proofs.Tables.{is_eq-by_bytes, alike}
use Rattle.registers.proofs.Readings.{any_url, urls_rise}
use Rattle.journal_model.specs.declared.entry.Entry.{Entry}
use Rattle.journal_model.specs.declared.opening.Identity.{Identity}
use Rattle.journal_model.specs.Replies.{SameValues, values_of, set_by_all}
use Rattle.journal_model.specs.Registers.{settings, last_given, gives_config, gives_creds, gives_wanted, gives_state, gives_url, names_url, is_present, named_urls, in_rising_order, urls_at, values_at}
use Rattle.journal_model.proofs.Registering.{last_given-cons, follows, config_step, creds_step, wanted_step, state_step, url_step, still_rise}
use Rattle.ann_key.proofs.Booleans.{and_true, or_left, and_false, or_true}
use Rattle.ann_key.proofs.Lists.{equal_bytes as same_bytes, same_name as itself}

-- the text is one of the list
abbrev has : List ℕ → List (List ℕ) → Bool
has u xs = list_any (bytes_eq u) xs

-- ---- an order that is made by insertions
or_again : (a b c : Bool) → a ≡ b → (b || c) ≡ (a || (b || c))
or_again true true c e = refl
or_again false b c e = refl
or_again true false c e = absurd (false≢true (sym e))

or_swap : (a b c : Bool) → (b || (a || c)) ≡ (a || (b || c))
or_swap true true c = refl
or_swap true false c = refl
or_swap false b c = refl

has-insert_key : (u x : List ℕ) (ys : List (List ℕ)) → has u (insert_key by_bytes ys x) ≡ (bytes_eq u x || has u ys)
has-insert_key u x [] = refl
has-insert_key u x (y ∷ ys) =
    elim (by_bytes x y) as (λ o. by_bytes x y ≡ o → has u (match_ordering o (x ∷ y ∷ ys) (y ∷ ys) (y ∷ insert_key by_bytes ys x)) ≡ (bytes_eq u x || (bytes_eq u y || has u ys))) [
      | Less ↦ λ _. refl
      | Equal ↦ λ tied. or_again (bytes_eq u x) (bytes_eq u y) (has u ys) (ap (bytes_eq u) (same_bytes x y (alike x y tied)))
      | Greater ↦ λ _. ap (λ b. bytes_eq u y || b) (has-insert_key u x ys) ∙ or_swap (bytes_eq u x) (bytes_eq u y) (has u ys)
    ] refl

has-in_rising_order : (u : List ℕ) (xs : List (List ℕ)) → has u (in_rising_order xs) ≡ has u xs
has-in_rising_order u [] = refl
has-in_rising_order u (x ∷ xs) = has-insert_key u x (in_rising_order xs) ∙ ap (λ b. bytes_eq u x || b) (has-in_rising_order u xs)

rising : (xs : List (List ℕ)) → IsStrictlySortedBy by_bytes (in_rising_order xs)
unfolding IsStrictlySortedBy
rising [] = tt
rising (x ∷ xs) = sorted-insert_key nat_list_cmp_total x (in_rising_order xs) (rising xs)

-- ---- what a filter leaves
filtered : (e b rest any s : Bool) → (e ≡ true → b ≡ s) → rest ≡ (any && s) → cond b (e || rest) rest ≡ ((e || any) && s)
filtered true true rest any s same h = same refl
filtered true false rest any s same h = h ∙ ap (λ x. any && x) (sym (same refl)) ∙ and_false any ∙ same refl
filtered false true rest any s same h = h
filtered false false rest any s same h = h

has-filter : (u : List ℕ) (p : List ℕ → Bool) (xs : List (List ℕ)) → has u (filter p xs) ≡ (has u xs && p u)
has-filter u p [] = refl
has-filter u p (x ∷ xs) =
    shown (p x) ∙ filtered (bytes_eq u x) (p x) (has u (filter p xs)) (has u xs) (p u) (λ e. ap p (sym (same_bytes u x e))) (has-filter u p xs)
  where
    shown : (b : Bool) → has u (cond b (x ∷ filter p xs) (filter p xs)) ≡ cond b (bytes_eq u x || has u (filter p xs)) (has u (filter p xs))
    shown true = refl
    shown false = refl

-- ---- lists in order with the same texts
above : (x y : List ℕ) (ys : List (List ℕ)) → by_bytes x y ≡ Less → AllByRecursion (λ z. by_bytes y z ≡ Less) ys → AllByRecursion (λ z. by_bytes x z ≡ Less) ys
above x y [] h all = tt
above x y (z ∷ zs) h all = (nat_list_cmp_total.trans x y z h all.0, above x y zs h all.1)

not_among : (x : List ℕ) (ys : List (List ℕ)) → AllByRecursion (λ y. by_bytes x y ≡ Less) ys → has x ys ≡ false
not_among x [] all = refl
not_among x (y ∷ ys) all = ap (λ b. b || has x ys) (sym (is_eq-by_bytes x y) ∙ ap is_eq all.0) ∙ not_among x ys all.1

has_first : (x : List ℕ) (xs : List (List ℕ)) → has x (x ∷ xs) ≡ true
has_first x xs = ap (λ b. b || has x xs) (itself x)

-- a list whose first text is below another's first has a text that the other hasn't
first_alone : (x y : List ℕ) (xs ys : List (List ℕ)) → by_bytes x y ≡ Less → IsStrictlySortedBy by_bytes (y ∷ ys) → has x (x ∷ xs) ≡ has x (y ∷ ys) → ⊥
first_alone x y xs ys less s h =
    let all = sorted_head by_bytes y ys s in
    false≢true (sym (not_among x (y ∷ ys) (less, above x y ys less all)) ∙ sym h ∙ has_first x xs)

same_lists : (xs ys : List (List ℕ)) → IsStrictlySortedBy by_bytes xs → IsStrictlySortedBy by_bytes ys → ((u : List ℕ) → has u xs ≡ has u ys) → xs ≡ ys
same_lists [] [] s t h = refl
same_lists [] (y ∷ ys) s t h = absurd (false≢true (h y ∙ has_first y ys))
same_lists (x ∷ xs) [] s t h = absurd (false≢true (sym (h x) ∙ has_first x xs))
same_lists (x ∷ xs) (y ∷ ys) s t h =
    elim (by_bytes x y) as (λ o. by_bytes x y ≡ o → (x ∷ xs) ≡ (y ∷ ys)) [
      | Less ↦ λ less. absurd (first_alone x y xs ys less t (h x))
      | Equal ↦ λ tied.
          let e : x ≡ y = same_bytes x y (alike x y tied) in
          let rest : xs ≡ ys = same_lists xs ys (sorted_tail by_bytes x xs s) (sorted_tail by_bytes y ys t) (λ u. tails e u) in
          λ i. e i ∷ rest i
      | Greater ↦ λ more. absurd (first_alone y x ys xs (nat_list_cmp_total.antisymm y x ∙ ap ordering_reverse more) s (sym (h y)))
    ] refl
  where
    tails : x ≡ y → (u : List ℕ) → has u xs ≡ has u ys
    tails e u =
        elim (bytes_eq u x) as (λ b. bytes_eq u x ≡ b → has u xs ≡ has u ys) [
          | true ↦ λ is.
              let ux : u ≡ x = same_bytes u x is in
              (ap (λ z. has z xs) ux ∙ not_among x xs (sorted_head by_bytes x xs s))
              ∙ sym (ap (λ z. has z ys) (ux ∙ e) ∙ not_among y ys (sorted_head by_bytes y ys t))
          | false ↦ λ isnt.
              sym (ap (λ b. b || has u xs) isnt) ∙ h u ∙ ap (λ b. b || has u ys) (ap (bytes_eq u) (sym e) ∙ isnt)
        ] refl

-- ---- what is present was named
module _ (key url : List ℕ) where
  one_url : (k u : List ℕ) (given d : Bool) (us : List (List ℕ))
      → (unwrap_or (cond (bytes_eq key k && bytes_eq url u) (Some given) None) d || has url us) ≡ true
      → (d || has url (cons_option (cond (bytes_eq key k) (Some u) None) us)) ≡ true
  one_url k u given d us =
      elim (bytes_eq key k) as (λ a. (unwrap_or (cond (a && bytes_eq url u) (Some given) None) d || has url us) ≡ true → (d || has url (cons_option (cond a (Some u) None) us)) ≡ true) [
        | true ↦ elim (bytes_eq url u) as (λ b. (unwrap_or (cond b (Some given) None) d || has url us) ≡ true → (d || (b || has url us)) ≡ true) [
          | true ↦ λ _. or_true d
          | false ↦ λ h. h
        ]
        | false ↦ λ h. h
      ]

  named : (m : RemoteMessage) (d : Bool) (us : List (List ℕ)) → (unwrap_or (gives_url key url m) d || has url us) ≡ true → (d || has url (cons_option (names_url key m) us)) ≡ true
  named (Seturlpresent k u) d us h = one_url k u true d us h
  named (Seturlmissing k u) d us h = one_url k u false d us h
  named m d us h = h

  named_if_present : (ms : List RemoteMessage) (d : Bool) → last_given d (gives_url key url) ms ≡ true → (d || has url (filter_map (names_url key) ms)) ≡ true
  named_if_present [] d h = or_left d false h
  named_if_present (m ∷ ms) d h =
      named m d (filter_map (names_url key) ms)
      (named_if_present ms (unwrap_or (gives_url key url m) d) (sym (last_given-cons d (gives_url key url) m ms) ∙ h))

-- ---- the URLs
absorbed : (k b s : Bool) → (b ≡ true → k ≡ true) → (k && (b && s)) ≡ (b && s)
absorbed k true s h = ap (λ x. x && s) (h refl)
absorbed true false s h = refl
absorbed false false s h = refl

module _ (r : RegisterFile) (past : List Entry) (key : List ℕ) where
  named_before : (u : List ℕ) → is_present r past key u ≡ true → has u (named_urls r past key) ≡ true
  named_before u h =
      list_any-append (bytes_eq u) (urls_of r key []) (filter_map (names_url key) (settings past))
      ∙ ap (λ b. b || has u (filter_map (names_url key) (settings past))) (any_url key [] u r.urls ∙ and_true (has_url r key u))
      ∙ named_if_present key u (settings past) (has_url r key u) h

  -- the URLs that the search takes, in no order
  abbrev found : List ℕ → List (List ℕ)
  found prefix = filter (λ url. is_present r past key url && starts_with nat_eq url prefix) (named_urls r past key)

  pub urls_at_rise : (prefix : List ℕ) → IsStrictlySortedBy by_bytes (urls_at r past key prefix)
  urls_at_rise prefix = rising (found prefix)

  pub urls_follow : (prefix : List ℕ) → LinksRise r.urls → urls_at r past key prefix ≡ urls_of (set_by_all r (settings past)) key prefix
  urls_follow prefix rise =
      same_lists _ _ (urls_at_rise prefix) (urls_rise key prefix _ (still_rise (settings past) r rise)) same
    where
      same : (u : List ℕ) → has u (urls_at r past key prefix) ≡ has u (urls_of (set_by_all r (settings past)) key prefix)
      same u =
          has-in_rising_order u (found prefix)
          ∙ has-filter u (λ url. is_present r past key url && starts_with nat_eq url prefix) (named_urls r past key)
          ∙ absorbed (has u (named_urls r past key)) (is_present r past key u) (starts_with nat_eq u prefix) (named_before u)
          ∙ ap (λ b. b && starts_with nat_eq u prefix) (follows (λ r. has_url r key u) (gives_url key u) (url_step key u) (settings past) r)
          ∙ sym (any_url key prefix u (set_by_all r (settings past)).urls)

pub values_follow : (r : RegisterFile) (i : Identity) (past : List Entry) → IsKept r → SameValues (values_at r i past) (values_of (set_by_all r (settings past)) i)
values_follow r i past kept = record {
  config = λ name. follows (λ r. config_of r name) (gives_config name) (config_step name) (settings past) r;
  creds = λ setting. follows (λ r. creds_of r setting) (gives_creds setting) (creds_step setting) (settings past) r;
  wanted = follows (λ r. r.wanted) gives_wanted wanted_step (settings past) r;
  state = λ key. follows (λ r. state_of r key) (gives_state key) (state_step key) (settings past) r;
  urls = λ key prefix. urls_follow r past key prefix kept.urls_rise;
  uuid = refl;
  gitdir = refl;
  name = refl;
}
