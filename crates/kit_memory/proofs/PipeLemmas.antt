-- What went through a pipe, one item longer.
use Rattle.std.proofs.Common.{◌≡◌, ℕ, ◌+◌, ◌<◌, Bool, true, false, List, [], ◌∷◌, ◌++◌, length, take, set, get_or, Option, Some, None, refl, sym, ap, subst, inl, inr, ◌∙◌, append_assoc, append-nil, arith}
use Rattle.std.proofs.lemmas.Grind.{take_at_read, take-set_at}
use Rattle.rtrb.specs.declared.consumer.Consumer.{Consumer}
use Rattle.rtrb.specs.declared.producer.Producer.{Producer}
use Rattle.rtrb.specs.Ring.{IsPair, SameProducer, SameConsumer, ProducerLooked}
use Rattle.kit_memory.specs.Children.{Steps}
use Rattle.kit_memory.specs.Pipes.{bytes_in, has_end, is_stream}

pub bytes_both : (xs ys : List (Option ℕ)) → bytes_in (xs ++ ys) ≡ bytes_in xs ++ bytes_in ys
bytes_both [] ys = refl
bytes_both (None ∷ xs) ys = bytes_both xs ys
bytes_both (Some b ∷ xs) ys = ap (λ (bs : List ℕ). b ∷ bs) (bytes_both xs ys)

pub end_both : (xs ys : List (Option ℕ)) → has_end xs ≡ false → has_end (xs ++ ys) ≡ has_end ys
end_both [] ys h = refl
end_both (None ∷ xs) ys h = absurd cc
end_both (Some b ∷ xs) ys h = end_both xs ys h

-- of an open pipe

pub stream_open : (xs : List (Option ℕ)) → is_stream true xs ≡ true → has_end xs ≡ false
stream_open [] h = refl
stream_open (None ∷ []) h = absurd cc
stream_open (None ∷ x ∷ xs) h = absurd cc
stream_open (Some b ∷ xs) h = stream_open xs h

pub open_stream : (xs : List (Option ℕ)) → has_end xs ≡ false → is_stream true xs ≡ true
open_stream [] h = refl
open_stream (None ∷ xs) h = absurd cc
open_stream (Some b ∷ xs) h = open_stream xs h

pub stream_closes : (xs : List (Option ℕ)) → is_stream true xs ≡ true → is_stream false (xs ++ None ∷ []) ≡ true
stream_closes [] h = refl
stream_closes (None ∷ []) h = absurd cc
stream_closes (None ∷ x ∷ xs) h = absurd cc
stream_closes (Some b ∷ xs) h = stream_closes xs h

-- nothing follows the end
pub nothing_follows : (live : Bool) (xs ys : List (Option ℕ)) → is_stream live (xs ++ ys) ≡ true → has_end xs ≡ true → ys ≡ []
nothing_follows live [] ys h e = absurd cc
nothing_follows live (None ∷ []) [] h e = refl
nothing_follows live (None ∷ []) (y ∷ ys) h e = absurd cc
nothing_follows live (None ∷ x ∷ xs) ys h e = absurd cc
nothing_follows live (Some b ∷ xs) ys h e = nothing_follows live xs ys h e

-- ---- one item more

pub byte_more : (xs : List (Option ℕ)) (b : ℕ) → bytes_in (xs ++ Some b ∷ []) ≡ bytes_in xs ++ b ∷ []
byte_more xs b = bytes_both xs (Some b ∷ [])

pub end_more : (xs : List (Option ℕ)) → bytes_in (xs ++ None ∷ []) ≡ bytes_in xs
end_more xs = bytes_both xs (None ∷ []) ∙ append-nil (bytes_in xs)

pub byte_unended : (xs : List (Option ℕ)) (b : ℕ) → has_end xs ≡ false → has_end (xs ++ Some b ∷ []) ≡ false
byte_unended xs b h = end_both xs (Some b ∷ []) h

pub end_ends : (xs : List (Option ℕ)) → has_end xs ≡ false → has_end (xs ++ None ∷ []) ≡ true
end_ends xs h = end_both xs (None ∷ []) h

-- the bytes so far, and the next
pub put_more : (old new : List (Option ℕ)) (before bytes : List ℕ) (i : ℕ) (d : ℕ) → new ≡ old ++ Some (get_or bytes i d) ∷ [] → bytes_in old ≡ before ++ take i bytes → i < length bytes
    → bytes_in new ≡ before ++ take (i + 1) bytes
put_more old new before bytes i d e h within =
    ap bytes_in e ∙ byte_more old (get_or bytes i d) ∙ ap (λ (x : List ℕ). x ++ get_or bytes i d ∷ []) h ∙ append_assoc before (take i bytes) (get_or bytes i d ∷ [])
    ∙ ap (λ (x : List ℕ). before ++ x) (sym (take_at_read bytes i d within).1)

pub took_more : (old new : List (Option ℕ)) (before buf : List ℕ) (i b : ℕ) → new ≡ old ++ Some b ∷ [] → bytes_in old ≡ before ++ take i buf → i < length buf
    → bytes_in new ≡ before ++ take (i + 1) (set buf i b)
took_more old new before buf i b e h within =
    ap bytes_in e ∙ byte_more old b ∙ ap (λ (x : List ℕ). x ++ b ∷ []) h ∙ append_assoc before (take i buf) (b ∷ [])
    ∙ ap (λ (x : List ℕ). before ++ x) (sym (take-set_at buf i (i + 1) b refl within))

-- who holds both halves: what was written is what was heard and what follows, which is nothing once the end was heard
pub settled : (live : Bool) (items received known : List (Option ℕ)) → received ++ known ≡ items → is_stream live items ≡ true
    → (rest : List ℕ) × (bytes_in items ≡ bytes_in received ++ rest) × (has_end received ≡ true → rest ≡ [])
settled live items received known e s = (
  bytes_in known,
  ap bytes_in (sym e) ∙ bytes_both received known,
  (λ ends. ap bytes_in (nothing_follows live received known (ap (is_stream live) e ∙ s) ends)),
)

-- ---- the same ring

module _ {T A P : Type 0} where
  pub consumer_both : (a b c : Consumer T A P) → SameConsumer a b → SameConsumer b c → SameConsumer a c
  consumer_both a b c p q = ((q.0.0 ∙ p.0.0, q.0.1 ∙ p.0.1, q.0.2 ∙ p.0.2, q.0.3 ∙ p.0.3), q.1 ∙ p.1)

  pub producer_both : (a b c : Producer T A P) → SameProducer a b → SameProducer b c → SameProducer a c
  producer_both a b c p q = ((q.0.0 ∙ p.0.0, q.0.1 ∙ p.0.1, q.0.2 ∙ p.0.2, q.0.3 ∙ p.0.3), q.1 ∙ p.1)

  pub looked_both : (a b c : Producer T A P) → ProducerLooked a b → ProducerLooked b c → ProducerLooked a c
  looked_both a b c p q = (producer_both a b c p.0 q.0, q.1 ∙ p.1, omega (arith, p.2, q.2))

  pub pair_now : (p : Producer T A P) (b c : Consumer T A P) → IsPair p b → SameConsumer b c → IsPair p c
  pair_now p b c pair q = (q.0.0 ∙ pair.0, q.0.1 ∙ pair.1, q.0.2 ∙ pair.2, q.0.3 ∙ pair.3)

  -- of what holds one
  pub stepped : {S : Type 0} (ring : S → Consumer T A P) (old new : S) → Steps (λ a b. SameConsumer (ring a) (ring b)) old new → SameConsumer (ring old) (ring new)
  stepped {S = S} ring old new (inl e) = subst (λ (x : S). SameConsumer (ring old) (ring x)) (sym e) ((refl, refl, refl, refl), refl)
  stepped ring old new (inr s) = s
