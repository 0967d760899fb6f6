-- Conversations grow by one thing that the remote says.
use Rattle.std.proofs.Common.{subst, true, append-nil, ◌≡◌, ℕ, List, [], ◌∷◌, ◌++◌, refl, sym, ap, ◌∙◌, append_assoc, false, not, None, Option}
use Rattle.std.specs.Prelude.{IsSome, map, filter}
use Rattle.std.specs.List.{flat_map}
use Rattle.std.proofs.lemmas.List.Elements.{filter-append}
use Rattle.annex_model.specs.Messages.{RemoteMessage, HostMessage, remote_reading}
use Rattle.annex_model.specs.Talks.{Item, Host, Remote, awaits, Conv, Talking, AreReplied, IsReplied, shown, of_host, request_lines, remote_items, said, with_replies, final_of, item_is_aside, is_remote}
use Rattle.ann_key.proofs.Lists.{last_or-push}
use Rattle.std.proofs.lemmas.List.{map-append}

pub flat_map-append : {X Y : Type 0} (f : X → List Y) (xs ys : List X) → flat_map f (xs ++ ys) ≡ flat_map f xs ++ flat_map f ys
flat_map-append f [] ys = refl
flat_map-append f (x ∷ xs) ys = ap (λ zs. f x ++ zs) (flat_map-append f xs ys) ∙ sym (append_assoc (f x) (flat_map f xs) (flat_map f ys))

abbrev pub from_remote : ℕ → List ℕ → Item
from_remote at text = record { side = Remote; at = at; text = text }

-- what is said, and what stands there, with one item of the remote more
pub said-push : (part : List Item) (at : ℕ) (text : List ℕ) → item_is_aside (from_remote at text) ≡ false
    → said (part ++ from_remote at text ∷ []) ≡ said part ++ remote_reading text ∷ []
said-push part at text plain =
    let i = from_remote at text in
    let items : remote_items (part ++ i ∷ []) ≡ remote_items part ++ i ∷ [] = filter-append (λ (x : Item). is_remote x.side) part (i ∷ []) in
    let kept : filter (λ (x : Item). not (item_is_aside x)) (i ∷ []) ≡ i ∷ [] = rw plain refl in
    ap (λ (xs : List Item). map (λ (x : Item). remote_reading x.text) (filter (λ (x : Item). not (item_is_aside x)) xs)) items
    ∙ ap (map (λ (x : Item). remote_reading x.text)) (filter-append (λ (x : Item). not (item_is_aside x)) (remote_items part) (i ∷ []) ∙ ap (λ (xs : List Item). filter (λ (x : Item). not (item_is_aside x)) (remote_items part) ++ xs) kept)
    ∙ map-append (λ (x : Item). remote_reading x.text) (filter (λ (x : Item). not (item_is_aside x)) (remote_items part)) (i ∷ [])

lines-push : (replies : ℕ → List (List ℕ)) (lead : List (List ℕ)) (q : HostMessage) (part : List Item) (at : ℕ) (text : List ℕ)
    → item_is_aside (from_remote at text) ≡ false → AreReplied replies lead q part → AreReplied replies lead q (part ++ from_remote at text ∷ [])
lines-push replies lead q part at text plain h =
    let i = from_remote at text in
    let items : remote_items (part ++ i ∷ []) ≡ remote_items part ++ i ∷ [] = filter-append (λ (x : Item). is_remote x.side) part (i ∷ []) in
    let one : flat_map (with_replies replies) (i ∷ []) ≡ shown i ∷ [] = rw plain refl in
    map-append shown part (i ∷ [])
    ∙ ap (λ xs. xs ++ shown i ∷ []) h
    ∙ append_assoc (of_host (request_lines lead q)) (flat_map (with_replies replies) (remote_items part)) (shown i ∷ [])
    ∙ ap (λ xs. of_host (request_lines lead q) ++ xs)
    (ap (λ xs. flat_map (with_replies replies) (remote_items part) ++ xs) (sym one)
    ∙ sym (flat_map-append (with_replies replies) (remote_items part) (i ∷ []))
    ∙ ap (flat_map (with_replies replies)) (sym items))

pub replied-push : (replies : ℕ → List (List ℕ)) (q : HostMessage) (part : List Item) (at : ℕ) (text : List ℕ)
    → item_is_aside (from_remote at text) ≡ false → IsReplied replies q part → IsReplied replies q (part ++ from_remote at text ∷ [])
replied-push replies q part at text plain h = record { lead = h.lead; leads = h.leads; lines = lines-push replies h.lead q part at text plain h.lines }

-- a last line makes a conversation of what is one so far
pub Conv-push : (replies : ℕ → List (List ℕ)) (q : HostMessage) (part : List Item) (at : ℕ) (text : List ℕ)
    → item_is_aside (from_remote at text) ≡ false → Talking replies q part
    → IsSome (final_of q (said part ++ remote_reading text ∷ [])) → Conv replies q (part ++ from_remote at text ∷ [])
Conv-push replies q part at text plain h final = record {
  replied = replied-push replies q part at text plain h.replied;
  answer = rw (said-push part at text plain) final;
  last = rw (last_or-push None part (from_remote at text), plain) refl;
}

-- ---- an aside, and the replies that it is owed

abbrev pub from_host : ℕ × List ℕ → Item
from_host r = record { side = Host; at = r.0; text = r.1 }

host_items : (rs : List (ℕ × List ℕ)) → remote_items (map from_host rs) ≡ []
host_items [] = refl
host_items (r ∷ rs) = host_items rs

shown_hosts : (rs : List (ℕ × List ℕ)) → map shown (map from_host rs) ≡ map (λ line. (Host, line)) (map (λ (r : ℕ × List ℕ). r.1) rs)
shown_hosts [] = refl
shown_hosts (r ∷ rs) = ap (λ xs. (Host, r.1) ∷ xs) (shown_hosts rs)

remote_items-aside : (part : List Item) (at : ℕ) (text : List ℕ) (rs : List (ℕ × List ℕ))
    → remote_items (part ++ from_remote at text ∷ map from_host rs) ≡ remote_items part ++ from_remote at text ∷ []
remote_items-aside part at text rs =
    filter-append (λ (x : Item). is_remote x.side) part (from_remote at text ∷ map from_host rs)
    ∙ ap (λ (xs : List Item). remote_items part ++ from_remote at text ∷ xs) (host_items rs)

-- an aside with its replies leaves a talk waiting
pub Talking-aside : (replies : ℕ → List (List ℕ)) (q : HostMessage) (part : List Item) (at : ℕ) (text : List ℕ) (rs : List (ℕ × List ℕ))
    → item_is_aside (from_remote at text) ≡ true → map (λ (r : ℕ × List ℕ). r.1) rs ≡ replies at → Talking replies q part
    → Talking replies q (part ++ from_remote at text ∷ map from_host rs)
Talking-aside replies q part at text rs aside replied h =
    let i = from_remote at text in
    let items = remote_items-aside part at text rs in
    let dropped : filter (λ (x : Item). not (item_is_aside x)) (i ∷ []) ≡ [] = rw aside refl in
    let told : said (part ++ i ∷ map from_host rs) ≡ said part =
    ap (λ (xs : List Item). map (λ (x : Item). remote_reading x.text) (filter (λ (x : Item). not (item_is_aside x)) xs)) items
    ∙ ap (map (λ (x : Item). remote_reading x.text)) (filter-append (λ (x : Item). not (item_is_aside x)) (remote_items part) (i ∷ []) ∙ ap (λ (xs : List Item). filter (λ (x : Item). not (item_is_aside x)) (remote_items part) ++ xs) dropped ∙ append-nil (filter (λ (x : Item). not (item_is_aside x)) (remote_items part))) in
    let one : shown i ∷ map shown (map from_host rs) ≡ flat_map (with_replies replies) (i ∷ []) =
    rw aside (ap (λ xs. shown i ∷ xs) (shown_hosts rs ∙ ap (map (λ line. (Host, line))) replied) ∙ sym (append-nil (shown i ∷ map (λ line. (Host, line)) (replies at)))) in
    let lead : List (List ℕ) = h.replied.lead in
    record {
      replied = record {
        lead = lead;
        leads = h.replied.leads;
        lines =
            map-append shown part (i ∷ map from_host rs)
            ∙ ap (λ xs. xs ++ (shown i ∷ map shown (map from_host rs))) h.replied.lines
            ∙ append_assoc (of_host (request_lines lead q)) (flat_map (with_replies replies) (remote_items part)) (shown i ∷ map shown (map from_host rs))
            ∙ ap (λ xs. of_host (request_lines lead q) ++ xs)
            (ap (λ xs. flat_map (with_replies replies) (remote_items part) ++ xs) one
            ∙ sym (flat_map-append (with_replies replies) (remote_items part) (i ∷ []))
            ∙ ap (flat_map (with_replies replies)) (sym items));
      };
      waits = subst (λ (ms : List (Option RemoteMessage)). awaits q ms ≡ true) (sym told) h.waits;
    }
