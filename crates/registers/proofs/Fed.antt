-- Entries in order, put one after the other into an empty list, give the list itself.
use Rattle.std.proofs.Common.{◌≡◌, ℕ, ◌==◌, Bool, true, false, ◌&&◌, List, [], ◌∷◌, ◌++◌, map, fold, length, nat_lt, if◌then◌else◌, refl, sym, ap, ◌∙◌, arith}
use Rattle.std.specs.declared.cmp.Ordering.{Ordering}
use Rattle.std.specs.declared.cmp.Ordering.TheVariants.{Less, Greater}
use Rattle.std.specs.Ordering.{match_ordering, ordering_reverse}
use Rattle.std.specs.Cmp.{IsTotalOrder}
use Rattle.std.specs.Map.{keys_of}
use Rattle.std.specs.List.{AllByRecursion, list_all}
use Rattle.std.specs.List.Sorted.{IsStrictlySortedBy}
use Rattle.std.proofs.lemmas.Bool.Decides.{nat_tests}
use Rattle.std.proofs.lemmas.Cmp.{nat_list_cmp_total}
use Rattle.std.proofs.lemmas.List.Sums.{fold-append}
use Rattle.registers.specs.Tables.{Texts, by_bytes, put, without, Rises}
use Rattle.registers.specs.Links.{by_link, with_link, LinksRise}
use Rattle.registers.specs.Registers.{RegisterFile, nothing_set, IsKept}
use Rattle.registers.specs.RegLines.{ConfigLine, StateLine, UrlLine, wanted_lines, lines_of, later_lines_of, keyed_lines_of, set_by_line, set_by_lines}
use Rattle.registers.proofs.Settings.{links_total}
use Rattle.std.proofs.lemmas.Bool.{and_parts as both}

one_by_one : {A : Type 0} (xs : List A) (x : A) (ys : List A) → (xs ++ x ∷ []) ++ ys ≡ xs ++ x ∷ ys
one_by_one [] x ys = refl
one_by_one (a ∷ xs) x ys = ap (λ rest. a ∷ rest) (one_by_one xs x ys)

-- ---- any insertion that goes to the end where all that is there is below
module _ {E : Type 0} (insert : List E → E → List E) (Below : E → E → Type 0) (Passes : E → Type 0) where
  abbrev pub AllBelow : List E → E → Type 0
  AllBelow done e = AllByRecursion (λ d. Below d e) done

  -- each of the first list is below each of the second
  abbrev pub Crosses : List E → List E → Type 0
  Crosses done es = AllByRecursion (λ d. AllByRecursion (Below d) es) done

  abbrev pub Ascends : List E → Type 0
  Ascends [] = Unit {0}
  Ascends (e ∷ es) = AllByRecursion (Below e) es × Ascends es

  heads : (done : List E) (e : E) (es : List E) → Crosses done (e ∷ es) → AllBelow done e
  heads [] e es h = tt
  heads (d ∷ done) e es h = (h.0.0, heads done e es h.1)

  tails : (done : List E) (e : E) (es : List E) → Crosses done (e ∷ es) → AllByRecursion (Below e) es → Crosses (done ++ e ∷ []) es
  tails [] e es h above = (above, tt)
  tails (d ∷ done) e es h above = (h.0.1, tails done e es h.1 above)

  pub fed : ((done : List E) (e : E) → Passes e → AllBelow done e → insert done e ≡ done ++ e ∷ []) → (done es : List E) → AllByRecursion Passes es → Crosses done es → Ascends es → fold insert done es ≡ done ++ es
  fed at_end done [] pass h up = sym (append_nil done)
    where
      append_nil : (xs : List E) → xs ++ [] ≡ xs
      append_nil [] = refl
      append_nil (x ∷ xs) = ap (λ rest. x ∷ rest) (append_nil xs)
  fed at_end done (e ∷ es) pass h up =
      ap (λ start. fold insert start es) (at_end done e pass.0 (heads done e es h))
      ∙ fed at_end (done ++ e ∷ []) es pass.1 (tails done e es h up.0) up.1
      ∙ one_by_one done e es

-- ---- the three kinds of entries
module _ {K : Type 0} {R : K → K → Ordering} (o : IsTotalOrder R) where
  above : (x y : K) → R y x ≡ Less → R x y ≡ Greater
  above x y h = o.antisymm x y ∙ ap ordering_reverse h

abbrev NameBelow : List ℕ × List ℕ → List ℕ × List ℕ → Type 0
NameBelow d e = by_bytes d.0 e.0 ≡ Less

abbrev LinkBelow : List ℕ × List ℕ → List ℕ × List ℕ → Type 0
LinkBelow d e = by_link d e ≡ Less

put_end : (done : Texts) (e : List ℕ × List ℕ) → AllByRecursion (λ d. NameBelow d e) done → put done e.0 e.1 ≡ done ++ e ∷ []
put_end [] e h = refl
put_end (d ∷ done) e h =
    ap (λ o. match_ordering o ((e.0, e.1) ∷ d ∷ done) ((d.0, e.1) ∷ done) (d ∷ put done e.0 e.1)) (above nat_list_cmp_total e.0 d.0 h.0)
    ∙ ap (λ rest. d ∷ rest) (put_end done e h.1)

link_end : (done : Texts) (e : List ℕ × List ℕ) → AllByRecursion (λ d. LinkBelow d e) done → with_link done e.0 e.1 ≡ done ++ e ∷ []
link_end [] e h = refl
link_end (d ∷ done) e h =
    ap (λ o. match_ordering o ((e.0, e.1) ∷ d ∷ done) (d ∷ done) (d ∷ with_link done e.0 e.1)) (above links_total e d h.0)
    ∙ ap (λ rest. d ∷ rest) (link_end done e h.1)

names_below : (e : List ℕ × List ℕ) (es : Texts) → AllByRecursion (λ y. by_bytes e.0 y ≡ Less) (keys_of es) → AllByRecursion (NameBelow e) es
names_below e [] h = tt
names_below e (x ∷ es) h = (h.0, names_below e es h.1)

names_ascend : (insert : Texts → List ℕ × List ℕ → Texts) (Passes : List ℕ × List ℕ → Type 0) (es : Texts) → Rises es → Ascends insert NameBelow Passes es
unfolding IsStrictlySortedBy
names_ascend insert Passes [] h = tt
names_ascend insert Passes (e ∷ es) h = (names_below e es h.0, names_ascend insert Passes es h.1)

links_ascend : (insert : Texts → List ℕ × List ℕ → Texts) (Passes : List ℕ × List ℕ → Type 0) (es : Texts) → LinksRise es → Ascends insert LinkBelow Passes es
unfolding IsStrictlySortedBy
links_ascend insert Passes [] h = tt
links_ascend insert Passes (e ∷ es) h = (h.0, links_ascend insert Passes es h.1)

abbrev put_entry : Texts → List ℕ × List ℕ → Texts
put_entry t e = put t e.0 e.1

abbrev put_state : Texts → List ℕ × List ℕ → Texts
put_state t e = if length e.1 == 0 then without t e.0 else put t e.0 e.1

abbrev put_link : Texts → List ℕ × List ℕ → Texts
put_link t e = with_link t e.0 e.1

abbrev IsAny : List ℕ × List ℕ → Type 0
IsAny e = Unit {0}

abbrev IsFilled : List ℕ × List ℕ → Type 0
IsFilled e = (length e.1 == 0) ≡ false

all_any : (es : Texts) → AllByRecursion IsAny es
all_any [] = tt
all_any (e ∷ es) = (tt, all_any es)

not_empty : (value : List ℕ) → nat_lt 0 (length value) ≡ true → (length value == 0) ≡ false
not_empty value h = grind (arith, nat_tests)

all_filled : (p q : List ℕ → Bool) (es : Texts) → list_all (λ e. p e.0 && (nat_lt 0 (length e.1) && q e.1)) es ≡ true → AllByRecursion IsFilled es
all_filled p q [] h = tt
all_filled p q (e ∷ es) h =
    let parts = both (p e.0 && (nat_lt 0 (length e.1) && q e.1)) (list_all (λ e. p e.0 && (nat_lt 0 (length e.1) && q e.1)) es) h in
    let value = both (nat_lt 0 (length e.1)) (q e.1) (both (p e.0) (nat_lt 0 (length e.1) && q e.1) parts.0).1 in
    (not_empty e.1 value.0, all_filled p q es parts.1)

state_end : (done : Texts) (e : List ℕ × List ℕ) → IsFilled e → AllByRecursion (λ d. NameBelow d e) done → put_state done e ≡ done ++ e ∷ []
state_end done e filled h = ap (λ b. if b then without done e.0 else put done e.0 e.1) filled ∙ put_end done e h

config_again : (es : Texts) → Rises es → fold put_entry [] es ≡ es
config_again es h = fed put_entry NameBelow IsAny (λ done e _ b. put_end done e b) [] es (all_any es) tt (names_ascend put_entry IsAny es h)

state_again : (es : Texts) → Rises es → AllByRecursion IsFilled es → fold put_state [] es ≡ es
state_again es h filled = fed put_state NameBelow IsFilled state_end [] es filled tt (names_ascend put_state IsFilled es h)

urls_again : (es : Texts) → LinksRise es → fold put_link [] es ≡ es
urls_again es h = fed put_link LinkBelow IsAny (λ done e _ b. link_end done e b) [] es (all_any es) tt (links_ascend put_link IsAny es h)

-- ---- line by line
feed_config : (r : RegisterFile) (es : Texts) → set_by_lines r (map (λ e. ConfigLine e.0 e.1) es) ≡ record r { config = fold put_entry r.config es }
feed_config r [] = refl
feed_config r (e ∷ es) = feed_config (record r { config = put_entry r.config e }) es

feed_state : (r : RegisterFile) (es : Texts) → set_by_lines r (map (λ e. StateLine e.0 e.1) es) ≡ record r { state = fold put_state r.state es }
feed_state r [] = refl
feed_state r (e ∷ es) = feed_state (record r { state = put_state r.state e }) es

feed_urls : (r : RegisterFile) (es : Texts) → set_by_lines r (map (λ e. UrlLine e.0 e.1) es) ≡ record r { urls = fold put_link r.urls es }
feed_urls r [] = refl
feed_urls r (e ∷ es) = feed_urls (record r { urls = put_link r.urls e }) es

feed_wanted : (config : Texts) (wanted : List ℕ) → set_by_lines (record nothing_set { config = config }) (wanted_lines wanted) ≡ record nothing_set { config = config; wanted = wanted }
feed_wanted config [] = refl
feed_wanted config (b ∷ bytes) = refl

pub lines_again : (r : RegisterFile) → IsKept r → set_by_lines nothing_set (lines_of r) ≡ record r { creds = [] }
lines_again r kept =
    let keyed = keyed_lines_of r in
    let states = map (λ (e : List ℕ × List ℕ). StateLine e.0 e.1) r.state in
    let urls = map (λ (e : List ℕ × List ℕ). UrlLine e.0 e.1) r.urls in
    fold-append set_by_line nothing_set (map (λ e. ConfigLine e.0 e.1) r.config) (later_lines_of r)
    ∙ ap (λ s. set_by_lines s (later_lines_of r)) (feed_config nothing_set r.config ∙ ap (λ t. record nothing_set { config = t }) (config_again r.config kept.config_rises))
    ∙ fold-append set_by_line (record nothing_set { config = r.config }) (wanted_lines r.wanted) keyed
    ∙ ap (λ s. set_by_lines s keyed) (feed_wanted r.config r.wanted)
    ∙ fold-append set_by_line (record nothing_set { config = r.config; wanted = r.wanted }) states urls
    ∙ ap (λ s. set_by_lines s urls) (feed_state (record nothing_set { config = r.config; wanted = r.wanted }) r.state
    ∙ ap (λ t. record nothing_set { config = r.config; wanted = r.wanted; state = t }) (state_again r.state kept.state_rises (all_filled _ _ r.state kept.state_texts)))
    ∙ feed_urls (record nothing_set { config = r.config; wanted = r.wanted; state = r.state }) r.urls
    ∙ ap (λ t. record nothing_set { config = r.config; wanted = r.wanted; state = r.state; urls = t }) (urls_again r.urls kept.urls_rise)
