-- What is read after a setting, and what the URLs that are read are.
use Rattle.std.proofs.Common.{◌≡◌, ℕ, ◌==◌, Bool, true, false, cond, not, ◌&&◌, ◌||◌, List, [], ◌∷◌, map, filter, length, Option, Some, None, unwrap_or, bytes_eq, nat_eq, if◌then◌else◌, refl, sym, ap, ◌∙◌, arith}
use Rattle.std.specs.declared.cmp.Ordering.TheVariants.{Less}
use Rattle.std.specs.Ordering.{ordering_then}
use Rattle.std.specs.List.{list_all, list_any, starts_with, AllByRecursion}
use Rattle.std.specs.List.Sorted.{IsStrictlySortedBy}
use Rattle.std.proofs.lemmas.Bool.Decides.{nat_tests}
use Rattle.std.proofs.lemmas.Cmp.{nat_list_cmp_total, tied_itself}
use Rattle.registers.specs.Tables.{Texts, by_bytes, value_at, text_at, put, without}
use Rattle.registers.specs.Logins.{Pairs, pair_at}
use Rattle.registers.specs.Links.{by_link, is_link, has_link, urls_at, LinksRise}
use Rattle.registers.specs.Registers.{RegisterFile, IsKept, is_line, state_of, has_url, with_state, with_url}
use Rattle.registers.specs.RegLines.{ConfigLine, StateLine, UrlLine, wanted_lines, keyed_lines_of, later_lines_of, lines_of, is_fit}
use Rattle.std.proofs.lemmas.List.Folds.{list_all-append, list_all-map}
use Rattle.registers.proofs.Tables.{value_at-put, value_at-without}
use Rattle.registers.proofs.Settings.{has_link-with_link, has_link-without_link}
use Rattle.ann_key.proofs.Lists.{equal_bytes as same_bytes}
use Rattle.std.proofs.lemmas.Bool.{and_parts as both, and_from as both_true}

unwrapped : {A : Type 0} (b : Bool) (v d : A) (o : Option A) → unwrap_or (cond b (Some v) o) d ≡ cond b v (unwrap_or o d)
unwrapped true v d o = refl
unwrapped false v d o = refl

taken : {A : Type 0} (b : Bool) (d : A) (o : Option A) → unwrap_or (cond b None o) d ≡ cond b d (unwrap_or o d)
taken true d o = refl
taken false d o = refl

pub text_at-put : (es : Texts) (name value other : List ℕ) → text_at (put es name value) other ≡ (if bytes_eq other name then value else text_at es other)
text_at-put es name value other = ap (λ o. unwrap_or o []) (value_at-put es name value other) ∙ unwrapped (bytes_eq other name) value [] _

pub pair_at-put : (es : Pairs) (name : List ℕ) (pair : List ℕ × List ℕ) (other : List ℕ) → pair_at (put es name pair) other ≡ (if bytes_eq other name then pair else pair_at es other)
pair_at-put es name pair other = ap (λ o. unwrap_or o ([], [])) (value_at-put es name pair other) ∙ unwrapped (bytes_eq other name) pair ([], []) _

pub text_at-without : (es : Texts) (name other : List ℕ) → text_at (without es name) other ≡ (if bytes_eq other name then [] else text_at es other)
text_at-without es name other = ap (λ o. unwrap_or o []) (value_at-without es name other) ∙ taken (bytes_eq other name) [] _

empty : (value : List ℕ) → (length value == 0) ≡ true → value ≡ []
empty [] h = refl
empty (b ∷ bytes) h = absurd (grind (arith, nat_tests))

pub state_of-with_state : (r : RegisterFile) (key value other : List ℕ) → state_of (with_state r key value) other ≡ (if bytes_eq other key then value else state_of r other)
state_of-with_state r key value other =
    elim (length value == 0) as (λ b. (length value == 0) ≡ b → text_at (if b then without r.state key else put r.state key value) other ≡ (if bytes_eq other key then value else state_of r other)) [
      | true ↦ λ none. text_at-without r.state key other ∙ ap (λ v. if bytes_eq other key then v else state_of r other) (sym (empty value none))
      | false ↦ λ _. text_at-put r.state key value other
    ] refl

or_cond : (a b : Bool) → (a || b) ≡ (if a then true else b)
or_cond true b = refl
or_cond false b = refl

and_cond : (a b : Bool) → (not a && b) ≡ (if a then false else b)
and_cond true b = refl
and_cond false b = refl

pub has_url-with_url : (r : RegisterFile) (key url : List ℕ) (present : Bool) (k u : List ℕ) → has_url (with_url r key url present) k u ≡ (if is_link k u (key, url) then present else has_url r k u)
has_url-with_url r key url true k u = has_link-with_link key url k u r.urls ∙ or_cond (is_link k u (key, url)) (has_url r k u)
has_url-with_url r key url false k u = has_link-without_link key url k u r.urls ∙ and_cond (is_link k u (key, url)) (has_url r k u)

-- ---- the URLs of a key
module _ (key prefix : List ℕ) where
  -- a: the key is this one; b: the URL begins with the prefix; e: the URL is the one asked for
  one_url : (a b e : Bool) (rest any s : Bool) → (e ≡ true → s ≡ b) → rest ≡ (any && s) → cond (a && b) (e || rest) rest ≡ (((a && e) || any) && s)
  one_url false b e rest any s same h = h
  one_url true false true rest any s same h = h ∙ ap (λ x. any && x) (same refl) ∙ none any ∙ sym (same refl)
    where
      none : (x : Bool) → (x && false) ≡ false
      none true = refl
      none false = refl
  one_url true false false rest any s same h = h
  one_url true true true rest any s same h = sym (same refl)
  one_url true true false rest any s same h = h

  pub any_url : (url : List ℕ) (links : Texts) → list_any (bytes_eq url) (urls_at links key prefix) ≡ (has_link links key url && starts_with nat_eq url prefix)
  any_url url [] = refl
  any_url url (l ∷ ls) =
      shown (bytes_eq key l.0 && starts_with nat_eq l.1 prefix)
      ∙ one_url (bytes_eq key l.0) (starts_with nat_eq l.1 prefix) (bytes_eq url l.1) _ (has_link ls key url) (starts_with nat_eq url prefix) (λ e. ap (λ u. starts_with nat_eq u prefix) (same_bytes url l.1 e)) (any_url url ls)
    where
      shown : (b : Bool) → list_any (bytes_eq url) (map (λ l. l.1) (cond b (l ∷ filter (λ l. bytes_eq key l.0 && starts_with nat_eq l.1 prefix) ls) (filter (λ l. bytes_eq key l.0 && starts_with nat_eq l.1 prefix) ls)))
          ≡ cond b (bytes_eq url l.1 || list_any (bytes_eq url) (urls_at ls key prefix)) (list_any (bytes_eq url) (urls_at ls key prefix))
      shown true = refl
      shown false = refl

  below_urls : (l : List ℕ × List ℕ) (ls : Texts) → bytes_eq key l.0 ≡ true → AllByRecursion (λ y. by_link l y ≡ Less) ls → AllByRecursion (λ u. by_bytes l.1 u ≡ Less) (urls_at ls key prefix)
  below_urls l [] same h = tt
  below_urls l (m ∷ ls) same h =
      let rest = below_urls l ls same h.1 in
      elim (bytes_eq key m.0 && starts_with nat_eq m.1 prefix) as (λ b. (bytes_eq key m.0 && starts_with nat_eq m.1 prefix) ≡ b → AllByRecursion (λ u. by_bytes l.1 u ≡ Less) (map (λ l. l.1) (cond b (m ∷ filter (λ l. bytes_eq key l.0 && starts_with nat_eq l.1 prefix) ls) (filter (λ l. bytes_eq key l.0 && starts_with nat_eq l.1 prefix) ls)))) [
        | true ↦ λ is. (below m (sym (same_bytes key l.0 same) ∙ same_bytes key m.0 (both _ _ is).0) h.0, rest)
        | false ↦ λ _. rest
      ] refl
    where
      below : (m : List ℕ × List ℕ) → l.0 ≡ m.0 → by_link l m ≡ Less → by_bytes l.1 m.1 ≡ Less
      below m e less = ap (λ o. ordering_then o (by_bytes l.1 m.1)) (sym (ap (by_bytes l.0) (sym e) ∙ tied_itself nat_list_cmp_total l.0)) ∙ less

  pub urls_rise : (links : Texts) → LinksRise links → IsStrictlySortedBy by_bytes (urls_at links key prefix)
  unfolding IsStrictlySortedBy
  urls_rise [] h = tt
  urls_rise (l ∷ ls) h =
      elim (bytes_eq key l.0 && starts_with nat_eq l.1 prefix) as (λ b. (bytes_eq key l.0 && starts_with nat_eq l.1 prefix) ≡ b → IsStrictlySortedBy by_bytes (map (λ l. l.1) (cond b (l ∷ filter (λ l. bytes_eq key l.0 && starts_with nat_eq l.1 prefix) ls) (filter (λ l. bytes_eq key l.0 && starts_with nat_eq l.1 prefix) ls)))) [
        | true ↦ λ is. (below_urls l ls (both _ _ is).0 h.0, urls_rise ls h.1)
        | false ↦ λ _. urls_rise ls h.1
      ] refl

-- ---- the classes of what is read
module _ {X : Type 0} (p : List ℕ → Bool) (q : X → Bool) (d : X) (default_passes : q d ≡ true) where
  pub read_passes : (name : List ℕ) (es : List (List ℕ × X)) → list_all (λ e. p e.0 && q e.1) es ≡ true → q (unwrap_or (value_at es name) d) ≡ true
  read_passes name [] h = default_passes
  read_passes name (e ∷ es) h =
      elim (bytes_eq name e.0) as (λ b. q (unwrap_or (cond b (Some e.1) (value_at es name)) d) ≡ true) [ true ↦ (both _ _ (both _ _ h).0).1 | false ↦ read_passes name es (both _ _ h).1 ]

pub urls_pass : (p q : List ℕ → Bool) (key prefix : List ℕ) (links : Texts) → list_all (λ l. p l.0 && q l.1) links ≡ true → list_all q (urls_at links key prefix) ≡ true
urls_pass p q key prefix [] h = refl
urls_pass p q key prefix (l ∷ ls) h =
    let rest = urls_pass p q key prefix ls (both _ _ h).1 in
    let here : q l.1 ≡ true = (both (p l.0) (q l.1) (both (p l.0 && q l.1) (list_all (λ l. p l.0 && q l.1) ls) h).0).1 in
    elim (bytes_eq key l.0 && starts_with nat_eq l.1 prefix) as (λ b. list_all q (map (λ l. l.1) (cond b (l ∷ filter (λ l. bytes_eq key l.0 && starts_with nat_eq l.1 prefix) ls) (filter (λ l. bytes_eq key l.0 && starts_with nat_eq l.1 prefix) ls))) ≡ true) [
      | true ↦ both_true _ _ here rest
      | false ↦ rest
    ]

-- one of two tests that all values pass
pub second_passes : (p a b : List ℕ → Bool) (es : Texts) → list_all (λ e. p e.0 && (a e.1 && b e.1)) es ≡ true → list_all (λ e. p e.0 && b e.1) es ≡ true
second_passes p a b [] h = refl
second_passes p a b (e ∷ es) h =
    let parts = both (p e.0 && (a e.1 && b e.1)) (list_all (λ e. p e.0 && (a e.1 && b e.1)) es) h in
    let here = both (p e.0) (a e.1 && b e.1) parts.0 in
    both_true _ _ (both_true _ _ here.0 (both (a e.1) (b e.1) here.1).1) (second_passes p a b es parts.1)

wanted_fit : (wanted : List ℕ) → is_line wanted ≡ true → list_all is_fit (wanted_lines wanted) ≡ true
wanted_fit [] h = refl
wanted_fit (b ∷ bytes) h = both_true _ _ h refl

pub lines_fit : (r : RegisterFile) → IsKept r → list_all is_fit (lines_of r) ≡ true
lines_fit r kept =
    let config = list_all-map is_fit (λ (e : List ℕ × List ℕ). ConfigLine e.0 e.1) r.config ∙ kept.config_texts in
    let state = list_all-map is_fit (λ (e : List ℕ × List ℕ). StateLine e.0 e.1) r.state ∙ kept.state_texts in
    let urls = list_all-map is_fit (λ (e : List ℕ × List ℕ). UrlLine e.0 e.1) r.urls ∙ kept.urls_texts in
    let keyed = list_all-append is_fit (map (λ (e : List ℕ × List ℕ). StateLine e.0 e.1) r.state) (map (λ (e : List ℕ × List ℕ). UrlLine e.0 e.1) r.urls) ∙ both_true _ _ state urls in
    let later = list_all-append is_fit (wanted_lines r.wanted) (keyed_lines_of r) ∙ both_true _ _ (wanted_fit r.wanted kept.wanted_text) keyed in
    list_all-append is_fit (map (λ (e : List ℕ × List ℕ). ConfigLine e.0 e.1) r.config) (later_lines_of r) ∙ both_true _ _ config later
