-- A digest is that of its bytes.
use Rattle.std.proofs.Common.{◌≡◌, ℕ, ◌<◌, ◌≤◌, ◌⊎◌, inl, inr, List, length, take, get_or, sym, ap, ◌∙◌, arith, length-append, length-drop, drop}
use Rattle.std.specs.Prelude.{replicate}
use Rattle.std.proofs.lemmas.Grind.{get_or_default_zero}
use Rattle.std.proofs.lemmas.List.{get_or-take, length-take, length-replicate, get_or_append_left, take_all, same_lists}
use Rattle.std.proofs.lemmas.Bool.{cases_lt}
use Rattle.ann_digest.specs.Digests.{digest_bytes}
use Rattle.ann_digest.specs.declared.digest.Digest.{Digest}
use Rattle.journal_text.specs.Entries.Digits.{digest_of, padded}
use Rattle.ann_digest.proofs.Zeros.{get_or-zeros}
use Rattle.journal_model.proofs.SameDigest.{same_digest as digest_same}

apart : (a b : ℕ) → (a ≤ b) ⊎ (b < a)
apart a b = turned (cases_lt b a)
  where
    turned : (b < a) ⊎ (a ≤ b) → (a ≤ b) ⊎ (b < a)
    turned (inl h) = inr h
    turned (inr h) = inl h

module _ (d : Digest) (whole : length d.bytes ≡ 64) where
  given_len : length (digest_bytes d) ≡ d.len
  given_len = let few : d.len ≤ 64 = d.short in length-take d.len d.bytes ∙ omega arith

  uncut : take 64 (digest_bytes d) ≡ digest_bytes d
  uncut = let few : d.len ≤ 64 = d.short in let long = given_len in take_all 64 (digest_bytes d) (omega arith)

  padded_len : length (padded (digest_bytes d)) ≡ 64
  padded_len =
      let few : d.len ≤ 64 = d.short in
      let long = given_len in
      let zeros : List ℕ = replicate 64 0 in
      length-append (digest_bytes d) (drop (length (digest_bytes d)) (replicate 64 0)) ∙ omega (arith, length-drop (length (digest_bytes d)) zeros, length-replicate {A = ℕ} 64 0)

  each : (k e : ℕ) → k < 64 → get_or (padded (digest_bytes d)) k e ≡ get_or d.bytes k e
  each k e h = go (apart d.len k)
    where
      go : (d.len ≤ k) ⊎ (k < d.len) → get_or (padded (digest_bytes d)) k e ≡ get_or d.bytes k e
      go (inl past) =
          let long = given_len in
          let full = padded_len in
          get_or_default_zero (padded (digest_bytes d)) k e (omega arith)
          ∙ get_or-zeros (digest_bytes d) k (omega arith) h
          ∙ sym (d.blank k past h)
          ∙ sym (get_or_default_zero d.bytes k e (omega arith))
      go (inr there) =
          let long = given_len in
          get_or_append_left (digest_bytes d) (drop (length (digest_bytes d)) (replicate 64 0)) e k (omega arith) ∙ get_or-take d.len d.bytes k e there

  padded_back : padded (digest_bytes d) ≡ d.bytes
  padded_back = let full = padded_len in same_lists (padded (digest_bytes d)) d.bytes (full ∙ sym whole) (λ k e h. each k e (omega arith))

  -- a digest is that of its bytes
  pub digest_back : digest_of (digest_bytes d) ≡ d
  digest_back = digest_same (digest_of (digest_bytes d)) d (ap padded uncut ∙ padded_back) (ap length uncut ∙ given_len)
