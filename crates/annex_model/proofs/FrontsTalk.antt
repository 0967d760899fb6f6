-- A front talks so far, or is whole.
use Rattle.std.proofs.Common.{◌≡◌, ℕ, List, [], ◌∷◌, ◌++◌, refl, sym, ap, subst, ◌∙◌, append-nil, Bool, true, false, not, cond, Some, None, Option, ◌⊎◌, inl, inr}
use Rattle.std.specs.Prelude.{IsSome, ◌&&◌, map, filter}
use Rattle.std.specs.List.{flat_map, last_or}
use Rattle.std.proofs.lemmas.List.Elements.{filter-append}
use Rattle.annex_model.specs.Messages.{RemoteMessage, HostMessage, remote_reading}
use Rattle.annex_model.specs.Talks.{Item, Conv, ConvFront, Talking, AreReplied, IsReplied, shown, of_host, request_lines, is_remote, remote_items, said, with_replies, final_of, awaits, item_is_aside, is_final_item, begins_with_remote}
use Rattle.annex_model.proofs.Awaiting.{before_awaits}
use Rattle.annex_model.proofs.Cutting.{Shown, hosts_of, blocks, cut, begins}
use Rattle.annex_model.proofs.TalksGrow.{flat_map-append}
use Rattle.std.proofs.lemmas.List.{map-append}
use Rattle.ann_key.proofs.Lists.{last_or-append, nil_back, not_nil}

remote_items-append : (xs ys : List Item) → remote_items (xs ++ ys) ≡ remote_items xs ++ remote_items ys
remote_items-append xs ys = filter-append (λ (x : Item). is_remote x.side) xs ys

pub said-append : (xs ys : List Item) → said (xs ++ ys) ≡ said xs ++ said ys
said-append xs ys =
    ap (λ (zs : List Item). map (λ (x : Item). remote_reading x.text) (filter (λ (x : Item). not (item_is_aside x)) zs)) (remote_items-append xs ys)
    ∙ ap (map (λ (x : Item). remote_reading x.text)) (filter-append (λ (x : Item). not (item_is_aside x)) (remote_items xs) (remote_items ys))
    ∙ map-append (λ (x : Item). remote_reading x.text) (filter (λ (x : Item). not (item_is_aside x)) (remote_items xs)) (filter (λ (x : Item). not (item_is_aside x)) (remote_items ys))

-- what ends with a final item says something
final_said : (o : Option Item) (x : Item) (xs : List Item) → is_final_item (last_or o (x ∷ xs)) ≡ true → said (x ∷ xs) ≡ [] → ⊥
final_said o x [] h none = not_nil (remote_reading x.text) [] (sym (one (parts (is_remote x.side) (item_is_aside x) h)) ∙ none)
  where
    parts : (r a : Bool) → (r && not a) ≡ true → (r ≡ true) × (a ≡ false)
    parts true false h = (refl, refl)
    parts true true h = absurd cc
    parts false a h = absurd cc

    one : (is_remote x.side ≡ true) × (item_is_aside x ≡ false) → said (x ∷ []) ≡ remote_reading x.text ∷ []
    one e = rw (e.0) (rw (e.1) refl)
final_said o x (y ∷ ys) h none = final_said (Some x) y ys h (later (said-append (x ∷ []) (y ∷ ys)) none)
  where
    later : said (x ∷ y ∷ ys) ≡ said (x ∷ []) ++ said (y ∷ ys) → said (x ∷ y ∷ ys) ≡ [] → said (y ∷ ys) ≡ []
    later e none = nil_back (said (x ∷ [])) (said (y ∷ ys)) (sym e ∙ none)

module _ (replies : ℕ → List (List ℕ)) (q : HostMessage) where
  waits_before : (part : List Item) (i : Item) (rest : List Item) → Conv replies q (part ++ i ∷ rest) → awaits q (said part) ≡ true
  waits_before part i rest c = go (said (i ∷ rest)) refl
    where
      last : is_final_item (last_or None (i ∷ rest)) ≡ true
      last = ap is_final_item (sym (last_or-append None part (i ∷ rest))) ∙ c.last

      go : (ms : List (Option RemoteMessage)) → said (i ∷ rest) ≡ ms → awaits q (said part) ≡ true
      go [] none = absurd (final_said None i rest last none)
      go (m ∷ ms) says =
          before_awaits q (said part) m ms
          (subst (λ (xs : List (Option RemoteMessage)). IsSome (final_of q xs)) (said-append part (i ∷ rest) ∙ ap (λ (xs : List (Option RemoteMessage)). said part ++ xs) says) c.answer)

  lines_before : (lead : List (List ℕ)) (part : List Item) (i : Item) (rest : List Item) → is_remote i.side ≡ true
      → AreReplied replies lead q (part ++ i ∷ rest) → AreReplied replies lead q part
  lines_before lead part i rest remote h =
      let lines : List Shown = of_host (request_lines lead q) in
      let z : List Shown = shown i ∷ map shown rest in
      let w : List Shown = blocks replies (i ∷ rest) in
      let parted : map shown part ++ z ≡ lines ++ (blocks replies part ++ w) =
      sym (map-append shown part (i ∷ rest)) ∙ h
      ∙ ap (λ (ss : List Shown). lines ++ ss)
      (ap (flat_map (with_replies replies)) (remote_items-append part (i ∷ rest)) ∙ flat_map-append (with_replies replies) (remote_items part) (remote_items (i ∷ rest))) in
      cut replies part lines z w (hosts_of (request_lines lead q)) remote (begin remote) parted
    where
      begin : is_remote i.side ≡ true → begins (blocks replies (i ∷ rest)) ≡ true
      begin e = ap (λ (b : Bool). begins (flat_map (with_replies replies) (cond b (i ∷ remote_items rest) (remote_items rest)))) e ∙ e

  replied_before : (part : List Item) (i : Item) (rest : List Item) → is_remote i.side ≡ true
      → IsReplied replies q (part ++ i ∷ rest) → IsReplied replies q part
  replied_before part i rest remote h = record { lead = h.lead; leads = h.leads; lines = lines_before h.lead part i rest remote h.lines }

  pub front_talks : (part : List Item) → ConvFront replies q part → Talking replies q part ⊎ Conv replies q part
  front_talks part f = by_more part f.begun f.more f.goes_on f.replied
    where
      by_more : (part : List Item) → (part ≡ [] → ⊥) → (more : List Item) → Conv replies q (part ++ more) → begins_with_remote more ≡ true
          → Talking replies q part ⊎ Conv replies q part
      by_more part begun [] c r = inr (subst (Conv replies q) (append-nil part) c)
      by_more part begun (i ∷ rest) c r =
          inl record { replied = replied_before part i rest r c.replied; waits = waits_before part i rest c }
