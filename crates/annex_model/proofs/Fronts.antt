-- A part that talks goes on to a conversation.
use Rattle.std.proofs.Common.{◌≡◌, ℕ, List, [], ◌∷◌, ◌++◌, refl, sym, ap, subst, ◌∙◌, append_assoc, Bool, true, false, Some, Option, cond, ◌⊎◌, inl, inr}
use Rattle.std.specs.Prelude.{IsSome, codes, map, ◌&&◌}
use Rattle.std.specs.List.{list_all, flat_map}
use Rattle.annex_model.specs.declared.final_line.Final.{Final}
use Rattle.annex_model.specs.declared.final_line.Final.TheVariants.{Unsupported}
use Rattle.annex_model.specs.Messages.{RemoteMessage, UnsupportedRequest, Configend, Infovalue, Infoend, HostMessage, remote_reading}
use Rattle.annex_model.specs.Talks.{Item, Side, of_host, request_lines, with_replies, remote_items, Conv, ConvFront, Talking, Shape, OneLine, Configs, Infos, said, final_of, by_shape, shape_of, may_go_on, is_nothing, is_config, is_infofield, is_infovalue, are_configs, are_infos, are_pairs, is_unsupported, item_is_aside, IsReplied, shown}
use Rattle.annex_model.proofs.TalksGrow.{Conv-push, said-push, replied-push, from_remote}
use Rattle.std.proofs.lemmas.Bool.{and_parts as both}

-- a request has a line
asks_some : (lead : List (List ℕ)) (q : HostMessage) (more : List (Side × List ℕ)) → [] ≡ of_host (request_lines lead q) ++ more → ⊥
asks_some [] q more h = cc
asks_some (line ∷ lead) q more h = cc

not_empty : (replies : ℕ → List (List ℕ)) (q : HostMessage) (part : List Item) → IsReplied replies q part → part ≡ [] → ⊥
not_empty replies q part h e = asks_some h.lead q (flat_map (with_replies replies) (remote_items part)) (sym (ap (map shown) e) ∙ h.lines)

-- ---- what ends an answer of each shape

nothing_yet : (ms : List (Option RemoteMessage)) → is_nothing ms ≡ true → ms ≡ []
nothing_yet [] h = refl
nothing_yet (m ∷ ms) h = absurd cc

configs_end : (ms : List (Option RemoteMessage)) → list_all is_config ms ≡ true → are_configs (ms ++ Some Configend ∷ []) ≡ true
configs_end [] h = refl
configs_end (m ∷ []) h = h
configs_end (m ∷ (k ∷ ms)) h =
    let t : (is_config m ≡ true) × (list_all is_config (k ∷ ms) ≡ true) = both (is_config m) (list_all is_config (k ∷ ms)) h in
    rw (t.0, configs_end (k ∷ ms) t.1) refl

abbrev with_value : List (Option RemoteMessage) → List (Option RemoteMessage)
with_value ms = ms ++ Some (Infovalue []) ∷ []

abbrev with_end : List (Option RemoteMessage) → List (Option RemoteMessage)
with_end ms = ms ++ Some Infoend ∷ []

-- at once, or after a field once it has its value
infos_end : (ms : List (Option RemoteMessage)) → are_pairs ms ≡ true
    → (are_infos (with_end ms) ≡ true) ⊎ ((are_pairs (with_value ms) ≡ true) × (are_infos (with_end (with_value ms)) ≡ true))
infos_end [] h = inl refl
infos_end (f ∷ []) h = inr (rw h refl, rw h refl)
infos_end (f ∷ (v ∷ ms)) h = go (both (is_infofield f && is_infovalue v) (are_pairs ms) h).0 (infos_end ms (both (is_infofield f && is_infovalue v) (are_pairs ms) h).1)
  where
    go : (is_infofield f && is_infovalue v) ≡ true
        → (are_infos (with_end ms) ≡ true) ⊎ ((are_pairs (with_value ms) ≡ true) × (are_infos (with_end (with_value ms)) ≡ true))
        → (are_infos (with_end (f ∷ v ∷ ms)) ≡ true) ⊎ ((are_pairs (with_value (f ∷ v ∷ ms)) ≡ true) × (are_infos (with_end (with_value (f ∷ v ∷ ms))) ≡ true))
    go p (inl a) = inl (rw (p, a) refl)
    go p (inr b) = inr (rw (p, b.0) refl, rw (p, b.1) refl)

final_by_shape : (q : HostMessage) (ms : List (Option RemoteMessage)) (s : Shape) → shape_of q ≡ s → IsSome (by_shape s q ms) → IsSome (final_of q ms)
final_by_shape q ms s e h = go (is_unsupported ms) (subst (λ (x : Shape). IsSome (by_shape x q ms)) (sym e) h)
  where
    go : (b : Bool) → IsSome (by_shape (shape_of q) q ms) → IsSome (cond {A = Option Final} b (Some Unsupported) (by_shape (shape_of q) q ms))
    go true h = refl
    go false h = h

-- ---- the front

module _ (replies : ℕ → List (List ℕ)) (q : HostMessage) where
  -- this line ends it
  ended : (part : List Item) (text : List ℕ) → item_is_aside (from_remote 0 text) ≡ false → Talking replies q part
      → IsSome (final_of q (said part ++ remote_reading text ∷ [])) → ConvFront replies q part
  ended part text plain talking final = record {
    more = from_remote 0 text ∷ [];
    begun = not_empty replies q part talking.replied;
    goes_on = Conv-push replies q part 0 text plain talking final;
    replied = refl;
  }

  -- a value, and then the end
  ended_with_value : (part : List Item) → Talking replies q part → shape_of q ≡ Infos → are_pairs (with_value (said part)) ≡ true
      → are_infos (with_end (with_value (said part))) ≡ true → ConvFront replies q part
  ended_with_value part talking shape pairs infos =
      let value = from_remote 0 (codes "INFOVALUE") in
      let end = from_remote 0 (codes "INFOEND") in
      let told : said (part ++ value ∷ []) ≡ with_value (said part) = said-push part 0 (codes "INFOVALUE") refl in
      let more : Talking replies q (part ++ value ∷ []) = record {
        replied = replied-push replies q part 0 (codes "INFOVALUE") refl talking.replied;
        waits = subst (λ (s : Shape). may_go_on s (said (part ++ value ∷ [])) ≡ true) (sym shape)
            (subst (λ (ms : List (Option RemoteMessage)). are_pairs ms ≡ true) (sym told) pairs);
      } in
      let final : IsSome (final_of q (with_end (said (part ++ value ∷ [])))) =
      subst (λ (ms : List (Option RemoteMessage)). IsSome (final_of q (with_end ms))) (sym told)
      (final_by_shape q (with_end (with_value (said part))) Infos shape (rw infos refl)) in
      record {
        more = value ∷ end ∷ [];
        begun = not_empty replies q part talking.replied;
        goes_on = subst (λ (xs : List Item). Conv replies q xs) (append_assoc part (value ∷ []) (end ∷ []))
            (Conv-push replies q (part ++ value ∷ []) 0 (codes "INFOEND") refl more final);
        replied = refl;
      }

  by_shapes : (part : List Item) (s : Shape) → shape_of q ≡ s → may_go_on s (said part) ≡ true → Talking replies q part → ConvFront replies q part
  by_shapes part OneLine e h talking =
      ended part (codes "UNSUPPORTED-REQUEST") refl talking
      (subst (λ (ms : List (Option RemoteMessage)). IsSome (final_of q (ms ++ Some UnsupportedRequest ∷ []))) (sym (nothing_yet (said part) h)) refl)
  by_shapes part Configs e h talking =
      ended part (codes "CONFIGEND") refl talking
      (final_by_shape q (said part ++ Some Configend ∷ []) Configs e (rw (configs_end (said part) h) refl))
  by_shapes part Infos e h talking = go (infos_end (said part) h)
    where
      go : (are_infos (with_end (said part)) ≡ true)
          ⊎ ((are_pairs (with_value (said part)) ≡ true) × (are_infos (with_end (with_value (said part))) ≡ true)) → ConvFront replies q part
      go (inl a) = ended part (codes "INFOEND") refl talking (final_by_shape q (with_end (said part)) Infos e (rw a refl))
      go (inr b) = ended_with_value part talking e b.0 b.1

pub front_of : (replies : ℕ → List (List ℕ)) (q : HostMessage) (part : List Item) → Talking replies q part → ConvFront replies q part
front_of replies q part talking = by_shapes replies q part (shape_of q) refl talking.waits talking
