-- A step through a hall, as a step through a door.
use Rattle.std.proofs.Common.{◌≡◌, ◌≢◌, ℕ, List, [], ◌∷◌, ◌++◌, refl, sym, ap, subst, ◌∙◌, true, false, append-nil, append_assoc}
use Rattle.std.specs.Prelude.{All, ◌==◌, IfOk, OnErr, Result, Ok, Err}
use Rattle.std.proofs.lemmas.List.Elements.{All-head, All-tail}
use Rattle.ann_key.specs.declared.bytes.NoMemory.{NoMemory}
use Rattle.journal_model.specs.declared.entry.Entry.{Entry}
use Rattle.journal_model.specs.declared.opening.Opening.{Opening}
use Rattle.journal_model.specs.Legality.{Legal}
use Rattle.host_core.specs.declared.event.Event.{Event}
use Rattle.host_core.specs.declared.event.Reply.{Reply}
use Rattle.host_core.specs.Mays.{MayStep, IsMadeBy}
use Rattle.threads.specs.declared.view.Link.{Link}
use Rattle.threads.specs.Log.{flat, NotBy, Allowed, Legal as LegalLinks}
use Rattle.threads.specs.Passes.{HallValue, PassValue, HasEntered, seen_of}
use Rattle.journal_model.specs.Shares.{are_others}
use Rattle.child_link.specs.Doors.{Made, Stepped}
use Rattle.child_link.proofs.Roles.{others_append}
use Rattle.std.proofs.lemmas.Bool.{ne_eqb as differ}

made_apart : (m n : ℕ) → m ≢ n → (es : List Entry) → All (IsMadeBy m) es → are_others n es ≡ true
made_apart m n ne [] all = refl
made_apart m n ne (e ∷ es) all =
    let by : e.by ≡ m = All-head (IsMadeBy m) e es all in
    let other : (e.by == n) ≡ false = ap (λ (k : ℕ). k == n) by ∙ differ m n ne in
    rw (other, made_apart m n ne es (All-tail (IsMadeBy m) e es all)) refl

links_apart : (n : ℕ) (o : Opening) (before : List Entry) (ks : List (Link Entry)) → NotBy n ks → LegalLinks (Allowed IsMadeBy MayStep) o before ks → are_others n (flat ks) ≡ true
links_apart n o before [] apart legal = refl
links_apart n o before (k ∷ ks) apart legal =
    others_append n k.group (flat ks) (made_apart k.by n apart.0 k.group legal.0.2.0) (links_apart n o (before ++ k.group) ks apart.1 legal.1)

links_legal : (o : Opening) (before : List Entry) (ks : List (Link Entry)) → LegalLinks (Allowed IsMadeBy MayStep) o before ks → Legal o before → Legal o (before ++ flat ks)
links_legal o before [] legal l = subst (Legal o) (sym (append-nil before)) l
links_legal o before (k ∷ ks) legal l = subst (Legal o) (append_assoc before k.group (flat ks)) (links_legal o (before ++ k.group) ks legal.1 legal.0.2.1.legal)

module _ (h : HallValue Entry Opening) (before after : PassValue Entry Opening) (event : Event) where
  entered : (reply : Reply) → HasEntered IsMadeBy MayStep h before after event reply → Made h.fixed before.number false (seen_of before) (seen_of after) event reply
  entered reply e = record {
    past = seen_of before ++ flat e.between;
    passed = record { others = flat e.between; is = refl; apart = links_apart before.number h.fixed (seen_of before) e.between e.others e.between_legal; none = λ a. absurd cc };
    legal = links_legal h.fixed (seen_of before) e.between e.between_legal;
    shut = e.own.1.shut;
    reply_is = e.own.1.reply_is;
    is = e.seen ∙ ap (λ (g : List Entry). (seen_of before ++ flat e.between) ++ g) e.own.1.group_is;
  }

  pub stepped : (r : Result Reply NoMemory) → IfOk r (λ reply. HasEntered IsMadeBy MayStep h before after event reply) → OnErr r (after ≡ before)
      → Stepped h.fixed before.number false (seen_of before) (seen_of after) event r
  stepped (Ok reply) e k = entered reply e
  stepped (Err n) e k = record { others = []; is = ap seen_of k ∙ sym (append-nil (seen_of before)); apart = refl; none = λ a. refl }

  pub entered_legal : (r : Result Reply NoMemory) → IfOk r (λ reply. HasEntered IsMadeBy MayStep h before after event reply) → OnErr r (after ≡ before)
      → Legal h.fixed (seen_of before) → Legal h.fixed (seen_of after)
  entered_legal (Ok reply) e k l = subst (Legal h.fixed) (sym e.seen) e.own.1.legal
  entered_legal (Err n) e k l = subst (λ (p : PassValue Entry Opening). Legal h.fixed (seen_of p)) (sym k) l
