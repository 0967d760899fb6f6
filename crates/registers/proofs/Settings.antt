-- What a setting does to the registers, and what it keeps.
use Rattle.std.proofs.Common.{◌≡◌, ◌≢◌, ℕ, ◌==◌, Bool, true, false, cond, not, ◌&&◌, ◌||◌, List, [], ◌∷◌, length, nat_lt, Some, None, Result, Ok, Err, OnOk, OnErr, bytes_eq, refl, sym, ap, ◌∙◌, if◌then◌else◌}
use mathlib.Core.Bool.{false≢true}
use Rattle.std.specs.declared.cmp.Ordering.TheVariants.{Less, Equal, Greater}
use Rattle.std.specs.Ordering.{match_ordering, is_eq}
use Rattle.std.specs.Cmp.{IsTotalOrder}
use Rattle.std.specs.List.{list_all}
use Rattle.std.specs.List.Sorted.{IsStrictlySortedBy}
use Rattle.ann_key.specs.Keys.{is_key}
use Rattle.registers.specs.Tables.{Texts, by_bytes, value_at, put, without}
use Rattle.registers.specs.Links.{by_link, is_link, has_link, with_link, without_link}
use Rattle.std.proofs.lemmas.Cmp.{nat_list_cmp_total, then_total, on_total}
use Rattle.registers.specs.Registers.{RegisterFile, nothing_set, has_url, SetsOnly, SetsConfig, SetsCreds, SetsWanted, SetsState, SetsUrl, with_config, with_creds, with_wanted, with_state, with_url, is_line, is_word, is_key_word, IsKept}
use Rattle.registers.proofs.Tables.{value_at-put, value_at-without}
use Rattle.registers.proofs.LinkLists.{same_link, is_eq-by_link}
use Rattle.registers.proofs.Orders.{sorted-insert_entry, sorted-insert_key, sorted-filter, sorted-filter_keys}
use Rattle.std.proofs.lemmas.Bool.{and_from as both_true, and_parts as both}
use Rattle.ann_key.proofs.Lists.{filled, equal_bytes as same_bytes, same_name as itself}

-- from what a call did where it succeeds, and from what it left where it doesn't
pub settled : {A E P Q : Type 0} (G : Type 0) (r : Result A E) → OnOk r P → OnErr r Q → (P → G) → (Q → G) → G
settled G (Ok a) p q f g = f p
settled G (Err e) p q f g = g q

pub on_ok : {A E P Q : Type 0} (r : Result A E) → OnOk r P → (P → Q) → OnOk r Q
on_ok (Ok a) p f = f p
on_ok (Err e) p f = tt

-- ---- alone
apart : (x y : List ℕ) → x ≢ y → bytes_eq x y ≡ false
apart x y h = elim (bytes_eq x y) as (λ b. bytes_eq x y ≡ b → b ≡ false) [ true ↦ λ e. absurd (h (same_bytes x y e)) | false ↦ λ _. refl ] refl

module _ {X : Type 0} (es : List (List ℕ × X)) (name : List ℕ) where
  pub sets_only-put : (value : X) → SetsOnly es (put es name value) name (Some value)
  sets_only-put value = record {
    this_name = value_at-put es name value name ∙ ap (λ b. cond b (Some value) (value_at es name)) (itself name);
    other_names = λ other h. value_at-put es name value other ∙ ap (λ b. cond b (Some value) (value_at es other)) (apart other name h);
  }

  pub sets_only-without : SetsOnly es (without es name) name None
  sets_only-without = record {
    this_name = value_at-without es name name ∙ ap (λ b. cond b None (value_at es name)) (itself name);
    other_names = λ other h. value_at-without es name other ∙ ap (λ b. cond b None (value_at es other)) (apart other name h);
  }

module _ (r : RegisterFile) where
  pub sets_config : (name value : List ℕ) → SetsConfig r (with_config r name value) name value
  sets_config name value = record { this_map = sets_only-put r.config name value; other_registers = refl }

  pub sets_creds : (setting user password : List ℕ) → SetsCreds r (with_creds r setting user password) setting user password
  sets_creds setting user password = record { this_map = sets_only-put r.creds setting (user, password); other_registers = refl }

  pub sets_wanted : (expression : List ℕ) → SetsWanted r (with_wanted r expression) expression
  sets_wanted expression = record { this_register = refl; other_registers = refl }

  pub sets_state : (key value : List ℕ) → SetsState r (with_state r key value) key value
  sets_state key value = record {
    this_map = elim (length value == 0) as (λ b. SetsOnly r.state (if b then without r.state key else put r.state key value) key (if b then None else Some value)) [ true ↦ sets_only-without r.state key | false ↦ sets_only-put r.state key value ];
    other_registers = refl;
  }

-- ---- has_url after a change
or_again : (a b c : Bool) → a ≡ b → (a || (b || c)) ≡ (b || c)
or_again true true c e = refl
or_again false b c e = refl
or_again true false c e = absurd (false≢true (sym e))

or_swap : (a b c : Bool) → (a || (b || c)) ≡ (b || (a || c))
or_swap true true c = refl
or_swap true false c = refl
or_swap false b c = refl

module _ (key url k u : List ℕ) where
  pub has_link-with_link : (links : Texts) → has_link (with_link links key url) k u ≡ (is_link k u (key, url) || has_link links k u)
  has_link-with_link [] = refl
  has_link-with_link (l ∷ ls) =
      elim (by_link (key, url) l) as (λ o. by_link (key, url) l ≡ o → has_link (match_ordering o ((key, url) ∷ l ∷ ls) (l ∷ ls) (l ∷ with_link ls key url)) k u ≡ (is_link k u (key, url) || (is_link k u l || has_link ls k u))) [
        | Less ↦ λ _. refl
        | Equal ↦ λ tied. sym (or_again _ _ _ (ap (is_link k u) (same_link key url l (sym (is_eq-by_link (key, url) l) ∙ ap is_eq tied))))
        | Greater ↦ λ _. ap (λ b. is_link k u l || b) (has_link-with_link ls) ∙ or_swap (is_link k u l) _ _
      ] refl

  pub has_link-without_link : (links : Texts) → has_link (without_link links key url) k u ≡ (not (is_link k u (key, url)) && has_link links k u)
  has_link-without_link [] = elim (is_link k u (key, url)) as (λ b. false ≡ (not b && false)) [ true ↦ refl | false ↦ refl ]
  has_link-without_link (l ∷ ls) =
      elim (is_link key url l) as (λ b. is_link key url l ≡ b → has_link (cond (not b) (l ∷ without_link ls key url) (without_link ls key url)) k u ≡ (not (is_link k u (key, url)) && (is_link k u l || has_link ls k u))) [
        | true ↦ λ is. has_link-without_link ls ∙ skipped (is_link k u (key, url)) (is_link k u l) _ (ap (is_link k u) (same_link key url l is))
        | false ↦ λ isnt. ap (λ b. is_link k u l || b) (has_link-without_link ls) ∙ passed (is_link k u l) (is_link k u (key, url)) _ (unlike l isnt)
      ] refl
    where
      skipped : (a b c : Bool) → a ≡ b → (not a && c) ≡ (not a && (b || c))
      skipped true b c e = refl
      skipped false true c e = absurd (false≢true e)
      skipped false false c e = refl

      passed : (a b c : Bool) → (a ≡ true → b ≡ false) → (a || (not b && c)) ≡ (not b && (a || c))
      passed true true c h = absurd (false≢true (sym (h refl)))
      passed true false c h = refl
      passed false b c h = refl

      -- a pair that is l isn't the one that goes
      unlike : (l : List ℕ × List ℕ) → is_link key url l ≡ false → is_link k u l ≡ true → is_link k u (key, url) ≡ false
      unlike l isnt is = elim (is_link k u (key, url)) as (λ b. is_link k u (key, url) ≡ b → b ≡ false) [
        | true ↦ λ e. sym (sym isnt ∙ ap (λ (p : List ℕ × List ℕ). is_link p.0 p.1 l) (sym (same_link k u (key, url) e)) ∙ is)
        | false ↦ λ _. refl
      ] refl

not_link : (k u key url : List ℕ) → (k ≡ key → u ≢ url) → is_link k u (key, url) ≡ false
not_link k u key url h = elim (is_link k u (key, url)) as (λ b. is_link k u (key, url) ≡ b → b ≡ false) [
  | true ↦ λ e. let same = same_link k u (key, url) e in absurd (h (ap (λ (p : List ℕ × List ℕ). p.0) same) (ap (λ (p : List ℕ × List ℕ). p.1) same))
  | false ↦ λ _. refl
] refl

link_itself : (key url : List ℕ) → is_link key url (key, url) ≡ true
link_itself key url = λ i. itself key i && itself url i

pub sets_url : (r : RegisterFile) (key url : List ℕ) (present : Bool) → SetsUrl r (with_url r key url present) key url present
sets_url r key url true = record {
  this_url = has_link-with_link key url key url r.urls ∙ ap (λ b. b || has_url r key url) (link_itself key url);
  other_urls = λ k u h. has_link-with_link key url k u r.urls ∙ ap (λ b. b || has_url r k u) (not_link k u key url h);
  other_registers = refl;
}
sets_url r key url false = record {
  this_url = has_link-without_link key url key url r.urls ∙ ap (λ b. not b && has_url r key url) (link_itself key url);
  other_urls = λ k u h. has_link-without_link key url k u r.urls ∙ ap (λ b. not b && has_url r k u) (not_link k u key url h);
  other_registers = refl;
}

-- ---- the texts of each register stay in their classes
module _ {X : Type 0} (p : List ℕ → Bool) (q : X → Bool) where
  abbrev pub pass : List (List ℕ × X) → Bool
  pass es = list_all (λ e. p e.0 && q e.1) es

  pub pass-put : (es : List (List ℕ × X)) (name : List ℕ) (value : X) → p name ≡ true → q value ≡ true → pass es ≡ true → pass (put es name value) ≡ true
  pass-put [] name value pn qv h = both_true _ _ (both_true _ _ pn qv) refl
  pass-put (e ∷ es) name value pn qv h =
      elim (by_bytes name e.0) as (λ o. pass (match_ordering o ((name, value) ∷ e ∷ es) ((e.0, value) ∷ es) (e ∷ put es name value)) ≡ true) [
        | Less ↦ both_true _ _ (both_true _ _ pn qv) h
        | Equal ↦ both_true _ _ (both_true _ _ (both _ _ (both _ _ h).0).0 qv) (both _ _ h).1
        | Greater ↦ both_true _ _ (both _ _ h).0 (pass-put es name value pn qv (both _ _ h).1)
      ]

  pub pass-without : (es : List (List ℕ × X)) (name : List ℕ) → pass es ≡ true → pass (without es name) ≡ true
  pass-without [] name h = refl
  pass-without (e ∷ es) name h =
      elim (bytes_eq name e.0) as (λ b. pass (cond (not b) (e ∷ without es name) (without es name)) ≡ true) [
        | true ↦ pass-without es name (both _ _ h).1
        | false ↦ both_true _ _ (both _ _ h).0 (pass-without es name (both _ _ h).1)
      ]

module _ (p q : List ℕ → Bool) where
  pub pass-with_link : (links : Texts) (key url : List ℕ) → p key ≡ true → q url ≡ true → pass p q links ≡ true → pass p q (with_link links key url) ≡ true
  pass-with_link [] key url pk qu h = both_true _ _ (both_true _ _ pk qu) refl
  pass-with_link (l ∷ ls) key url pk qu h =
      elim (by_link (key, url) l) as (λ o. pass p q (match_ordering o ((key, url) ∷ l ∷ ls) (l ∷ ls) (l ∷ with_link ls key url)) ≡ true) [
        | Less ↦ both_true _ _ (both_true _ _ pk qu) h
        | Equal ↦ h
        | Greater ↦ both_true _ _ (both _ _ h).0 (pass-with_link ls key url pk qu (both _ _ h).1)
      ]

  pub pass-without_link : (links : Texts) (key url : List ℕ) → pass p q links ≡ true → pass p q (without_link links key url) ≡ true
  pass-without_link [] key url h = refl
  pass-without_link (l ∷ ls) key url h =
      elim (is_link key url l) as (λ b. pass p q (cond (not b) (l ∷ without_link ls key url) (without_link ls key url)) ≡ true) [
        | true ↦ pass-without_link ls key url (both _ _ h).1
        | false ↦ both_true _ _ (both _ _ h).0 (pass-without_link ls key url (both _ _ h).1)
      ]

pub key_word : (key : List ℕ) → is_key key ≡ true → is_word key ≡ true → is_key_word key ≡ true
unfolding is_key_word
key_word key spelled word = both_true _ _ word spelled

pub links_total : IsTotalOrder by_link
links_total = then_total (on_total (λ (l : List ℕ × List ℕ). l.0) nat_list_cmp_total) (on_total (λ (l : List ℕ × List ℕ). l.1) nat_list_cmp_total)

module _ (r : RegisterFile) (kept : IsKept r) where
  pub kept_config : (name value : List ℕ) → is_word name ≡ true → is_line value ≡ true → IsKept (with_config r name value)
  kept_config name value word line = record {
    config_rises = sorted-insert_entry nat_list_cmp_total name value r.config kept.config_rises;
    creds_rise = kept.creds_rise;
    state_rises = kept.state_rises;
    urls_rise = kept.urls_rise;
    config_texts = pass-put is_word is_line r.config name value word line kept.config_texts;
    creds_texts = kept.creds_texts;
    wanted_text = kept.wanted_text;
    state_texts = kept.state_texts;
    urls_texts = kept.urls_texts;
  }

  pub kept_creds : (setting user password : List ℕ) → is_word setting ≡ true → is_word user ≡ true → is_line password ≡ true → IsKept (with_creds r setting user password)
  kept_creds setting user password word user_word line = record {
    config_rises = kept.config_rises;
    creds_rise = sorted-insert_entry nat_list_cmp_total setting (user, password) r.creds kept.creds_rise;
    state_rises = kept.state_rises;
    urls_rise = kept.urls_rise;
    config_texts = kept.config_texts;
    creds_texts = pass-put is_word (λ v. is_word v.0 && is_line v.1) r.creds setting (user, password) word (both_true _ _ user_word line) kept.creds_texts;
    wanted_text = kept.wanted_text;
    state_texts = kept.state_texts;
    urls_texts = kept.urls_texts;
  }

  pub kept_state : (key value : List ℕ) → is_key_word key ≡ true → is_line value ≡ true → IsKept (with_state r key value)
  kept_state key value word line =
      let is_text = λ (value : List ℕ). nat_lt 0 (length value) && is_line value in
      let file = λ (state : Texts). record r { state = state } in
      elim (length value == 0) as (λ b. (length value == 0) ≡ b → IsKept (file (if b then without r.state key else put r.state key value))) [
        | true ↦ λ _. record {
          config_rises = kept.config_rises;
          creds_rise = kept.creds_rise;
          state_rises = sorted-filter by_bytes _ r.state kept.state_rises;
          urls_rise = kept.urls_rise;
          config_texts = kept.config_texts;
          creds_texts = kept.creds_texts;
          wanted_text = kept.wanted_text;
          state_texts = pass-without is_key_word is_text r.state key kept.state_texts;
          urls_texts = kept.urls_texts;
        }
        | false ↦ λ some. record {
          config_rises = kept.config_rises;
          creds_rise = kept.creds_rise;
          state_rises = sorted-insert_entry nat_list_cmp_total key value r.state kept.state_rises;
          urls_rise = kept.urls_rise;
          config_texts = kept.config_texts;
          creds_texts = kept.creds_texts;
          wanted_text = kept.wanted_text;
          state_texts = pass-put is_key_word is_text r.state key value word (both_true _ _ (filled value some) line) kept.state_texts;
          urls_texts = kept.urls_texts;
        }
      ] refl

  pub kept_url : (key url : List ℕ) (present : Bool) → is_key_word key ≡ true → is_line url ≡ true → IsKept (with_url r key url present)
  kept_url key url true word line = record {
    config_rises = kept.config_rises;
    creds_rise = kept.creds_rise;
    state_rises = kept.state_rises;
    urls_rise = sorted-insert_key links_total (key, url) r.urls kept.urls_rise;
    config_texts = kept.config_texts;
    creds_texts = kept.creds_texts;
    wanted_text = kept.wanted_text;
    state_texts = kept.state_texts;
    urls_texts = pass-with_link is_key_word is_line r.urls key url word line kept.urls_texts;
  }
  kept_url key url false word line = record {
    config_rises = kept.config_rises;
    creds_rise = kept.creds_rise;
    state_rises = kept.state_rises;
    urls_rise = sorted-filter_keys by_link _ r.urls kept.urls_rise;
    config_texts = kept.config_texts;
    creds_texts = kept.creds_texts;
    wanted_text = kept.wanted_text;
    state_texts = kept.state_texts;
    urls_texts = pass-without_link is_key_word is_line r.urls key url kept.urls_texts;
  }

  pub kept_wanted : (expression : List ℕ) → is_line expression ≡ true → IsKept (with_wanted r expression)
  kept_wanted expression line = record {
    config_rises = kept.config_rises;
    creds_rise = kept.creds_rise;
    state_rises = kept.state_rises;
    urls_rise = kept.urls_rise;
    config_texts = kept.config_texts;
    creds_texts = kept.creds_texts;
    wanted_text = line;
    state_texts = kept.state_texts;
    urls_texts = kept.urls_texts;
  }

pub kept_nothing : IsKept nothing_set
unfolding IsStrictlySortedBy
kept_nothing = record { config_rises = tt; creds_rise = tt; state_rises = tt; urls_rise = tt; config_texts = refl; creds_texts = refl; wanted_text = refl; state_texts = refl; urls_texts = refl }
