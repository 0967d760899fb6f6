-- The line of a request reads back as its request, with its tag taken off.
use Rattle.std.proofs.Common.{◌≡◌, ◌<◌, ℕ, suc, zero, List, [], ◌∷◌, ◌++◌, ◌+◌, ◌%◌, ◌/◌, refl, sym, ap, subst, ◌∙◌, Bool, true, false, not, ◌==◌, cond, Some, None, Option, arith}
use Rattle.std.specs.Prelude.{◌&&◌, ◌^◌, decimal, nat_le, nat_lt, length}
use Rattle.std.specs.List.{list_all}
use Rattle.std.specs.Fmt.{digits, digits_onto, digit_glyph}
use Rattle.std.proofs.lemmas.Bool.Decides.{nat_tests}
use Rattle.std.proofs.lemmas.Slice.Eq.{bytes_eq-Decides}
use Rattle.ann_key.specs.Numbers.{is_digit, is_number, value_of}
use Rattle.annex_model.specs.Messages.{HostMessage, IsAskable, host_row, host_line, host_reading, word_of, field_of, is_space, number_field}
use Rattle.annex_model.specs.Tags.{untag, tagged_line, numbered}
use Rattle.annex_model.proofs.Readings.{spelled_of_host}
use Rattle.journal_model.specs.declared.entry.Entry.{Entry}
use Rattle.journal_model.specs.Journal.{addressed, on_wire, is_tagged, by_tag, first_of, open_jobs}
use Rattle.journal_model.specs.Legality.{asks_in_turn, is_in_turn}
use Rattle.annex_model.proofs.Classes.{followed_classes as followed_class}
use Rattle.ann_key.proofs.Booleans.{and_last as and_right}

-- ---- a printed number holds no space

abbrev spaceless : List ℕ → Bool
spaceless bs = list_all (λ b. not (is_space b)) bs

small_glyph : (d : ℕ) → d < 10 → (digit_glyph false d == 32) ≡ false
small_glyph d h = rw (below d h) (above d)
  where
    below : (d : ℕ) → d < 10 → nat_lt d 10 ≡ true
    below d h = grind (arith, nat_tests)

    above : (d : ℕ) → (48 + d == 32) ≡ false
    above d = grind (arith, nat_tests)

onto_spaceless : (k n : ℕ) (acc : List ℕ) → spaceless acc ≡ true → spaceless (digits_onto k 10 false n acc) ≡ true
onto_spaceless zero n acc h = h
onto_spaceless (suc k) n acc h =
    let more : spaceless (digit_glyph false (n % 10) ∷ acc) ≡ true = rw (small_glyph (n % 10) (omega arith)) h in
    go (n / 10 == 0) more (onto_spaceless k (n / 10) (digit_glyph false (n % 10) ∷ acc) more)
  where
    go : (b : Bool) → spaceless (digit_glyph false (n % 10) ∷ acc) ≡ true → spaceless (digits_onto k 10 false (n / 10) (digit_glyph false (n % 10) ∷ acc)) ≡ true
        → spaceless (cond b (digit_glyph false (n % 10) ∷ acc) (digits_onto k 10 false (n / 10) (digit_glyph false (n % 10) ∷ acc))) ≡ true
    go true m r = m
    go false m r = r

decimal_spaceless : (n : ℕ) → spaceless (decimal n) ≡ true
unfolding digits
decimal_spaceless n = onto_spaceless 64 n [] refl

spaceless_word : (bs rest : List ℕ) → spaceless bs ≡ true → word_of (bs ++ 32 ∷ rest) ≡ bs
spaceless_word [] rest h = refl
spaceless_word (b ∷ bs) rest h = go (is_space b) refl h (spaceless_word bs rest)
  where
    go : (s : Bool) → is_space b ≡ s → (not s && spaceless bs) ≡ true → (spaceless bs ≡ true → word_of (bs ++ 32 ∷ rest) ≡ bs)
        → cond s [] (b ∷ word_of (bs ++ 32 ∷ rest)) ≡ b ∷ bs
    go true e h r = absurd cc
    go false e h r = ap (λ (xs : List ℕ). b ∷ xs) (r h)

spaceless_field : (bs rest : List ℕ) → spaceless bs ≡ true → field_of (bs ++ 32 ∷ rest) ≡ Some rest
spaceless_field [] rest h = refl
spaceless_field (b ∷ bs) rest h = go (is_space b) refl h (spaceless_field bs rest)
  where
    go : (s : Bool) → is_space b ≡ s → (not s && spaceless bs) ≡ true → (spaceless bs ≡ true → field_of (bs ++ 32 ∷ rest) ≡ Some rest)
        → cond s (Some (bs ++ 32 ∷ rest)) (field_of (bs ++ 32 ∷ rest)) ≡ Some rest
    go true e h r = absurd cc
    go false e h r = r h

-- ---- the text of a tagged line

-- where it is read as a request at all, it is what was tagged
pub tagged_text : (job : ℕ) (message : List ℕ) (q : HostMessage) → host_reading (by_tag (tagged_line job message) (untag (tagged_line job message))).1 ≡ Some q
    → (by_tag (tagged_line job message) (untag (tagged_line job message))).1 ≡ message
tagged_text job message q h =
    let line = tagged_line job message in
    let untagged : untag line ≡ numbered (number_field (Some (decimal job))) (Some message) =
    ap (λ (w : List ℕ). numbered (number_field (Some w)) (field_of (decimal job ++ 32 ∷ message))) (spaceless_word (decimal job) message (decimal_spaceless job))
    ∙ ap (numbered (number_field (Some (decimal job)))) (spaceless_field (decimal job) message (decimal_spaceless job)) in
    ap (λ (t : Option (ℕ × List ℕ)). (by_tag line t).1) untagged
    ∙ go (is_number (decimal job)) (subst (λ (t : Option (ℕ × List ℕ)). host_reading (by_tag line t).1 ≡ Some q) untagged h)
  where
    go : (b : Bool) → host_reading (by_tag (tagged_line job message) (numbered (cond {A = Option ℕ} b (Some (value_of (decimal job))) None) (Some message))).1 ≡ Some q
        → (by_tag (tagged_line job message) (numbered (cond {A = Option ℕ} b (Some (value_of (decimal job))) None) (Some message))).1 ≡ message
    go true h = refl
    go false h = absurd (cc h)

-- ---- a request in its turn

-- the text of a line that is the canonical one of the message that it reads as
pub text_on_wire : (past : List Entry) (c job : ℕ) (line : List ℕ) (q : HostMessage) → host_reading (addressed past c line).1 ≡ Some q
    → line ≡ on_wire past c job (host_line q) → (addressed past c line).1 ≡ host_line q
text_on_wire past c job line q e wired = by_tags (is_tagged past c) refl wired e
  where
    by_tags : (b : Bool) → is_tagged past c ≡ b → line ≡ cond b (tagged_line job (host_line q)) (host_line q)
        → host_reading (cond {A = Option ℕ × List ℕ} b (by_tag line (untag line)) (first_of (open_jobs past c), line)).1 ≡ Some q
        → (cond {A = Option ℕ × List ℕ} b (by_tag line (untag line)) (first_of (open_jobs past c), line)).1 ≡ host_line q
    by_tags true t w r =
        let read = subst (λ (x : List ℕ). host_reading (by_tag x (untag x)).1 ≡ Some q) w r in
        subst (λ (x : List ℕ). (by_tag x (untag x)).1 ≡ host_line q) (sym w) (tagged_text job (host_line q) q read)
    by_tags false t w r = w

-- the text of the line is the canonical line of the request that it reads as
pub asked_text : (past : List Entry) (c job : ℕ) (line : List ℕ) (r : Option HostMessage) → host_reading (addressed past c line).1 ≡ r
    → asks_in_turn past c job line r ≡ true
    → (q : HostMessage) × (host_reading (addressed past c line).1 ≡ Some q) × ((addressed past c line).1 ≡ host_line q)
asked_text past c job line None e h = absurd cc
asked_text past c job line (Some q) e h =
    (q, e, text_on_wire past c job line q e ((bytes_eq-Decides line (on_wire past c job (host_line q))).0 (and_right (is_in_turn past c job q) _ h)))

-- ---- fields

pub number_below : (field : List ℕ) → is_number field ≡ true → value_of field < 2 ^ 64
number_below field h = below (value_of field) (and_right (nat_le 1 (length field) && nat_le (length field) 20 && list_all is_digit field) _ h)
  where
    below : (n : ℕ) → nat_lt n (2 ^ 64) ≡ true → n < 2 ^ 64
    below n h = grind (arith, nat_tests)

pub read_askable : (q : HostMessage) (line : List ℕ) → host_reading line ≡ Some q → IsAskable q
read_askable q line h =
    let s = spelled_of_host q line h in
    followed_class (host_row q).1 s.0 s.2
