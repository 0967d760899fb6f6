-- What a pass has seen, and what stands when the hall is closed.
use Rattle.std.proofs.Common.{◌≡◌, ◌≢◌, ℕ, List, [], ◌∷◌, ◌++◌, refl, sym, ap, subst, ◌∙◌, append-nil, Bool, true, false, ◌==◌, cond, Some, slice_get, eq-eqb}
use Rattle.std.proofs.lemmas.List.{append_cancel_left}
use Rattle.std.proofs.lemmas.List.Elements.{filter_map-append}
use Rattle.threads.specs.declared.view.Link.{Link}
use Rattle.threads.specs.Log.{flat, NotBy, groups_by, Allowed, Legal as LegalLog}
use Rattle.threads.specs.Passes.{HasAllOf, HasClosed, IsPassOf, seen_of}
use Rattle.threads.proofs.Logs.{seen-more, legal-after, legal-before, groups_by-append, get-from_all}
use Rattle.kit_async_model.specs.declared.setup.Setup.{Setup}
use Rattle.kit_async_model.specs.declared.entry.Entry.{Entry}
use Rattle.kit_async_model.specs.Events.{IsMadeBy, MayStep}
use Rattle.kit_async_model.specs.Lines.{heard_line, heard_lines}
use Rattle.kit_async_core.specs.Halls.{KitHall, KitPass}
use Rattle.kit_async_model.specs.Standings.{standing}
use Rattle.kit_async_model.specs.Legality.{is_legal, Legal, IsFinished}
use Rattle.kit_async_core.proofs.KitHalls.{legal_log, halls_stay_legal}
use Rattle.kit_async_core.proofs.Listening.{none_log}
use Rattle.kit_async_model.proofs.Overs.{finished_stays}

-- no group of a number
not_by : (n : ℕ) (ks : List (Link Entry)) → groups_by n ks ≡ [] → NotBy n ks
not_by n [] h = tt
not_by n (k ∷ ks) h = go (k.by == n) refl h (not_by n ks)
  where
    go : (b : Bool) → (k.by == n) ≡ b → cond b (k ∷ groups_by n ks) (groups_by n ks) ≡ [] → (groups_by n ks ≡ [] → NotBy n ks) → (k.by ≢ n) × NotBy n ks
    go true e h r = absurd cc
    go false e h r = (λ z. (let bad : false ≡ true = sym e ∙ eq-eqb k.by n z in absurd cc), r h)

-- the links that stand after those that the pass has seen, none of which is its own
record Behind (log : List (Link Entry)) (p : KitPass) : Type 0 where
  more : List (Link Entry)
  whole : p.links ++ more ≡ log
  others : NotBy p.number more

behind : (log : List (Link Entry)) (p : KitPass) → HasAllOf log p → Behind log p
behind log p all = record { more = all.seen.0; whole = all.seen.1; others = not_by p.number all.seen.0 none }
  where
    none : groups_by p.number all.seen.0 ≡ []
    none = append_cancel_left (groups_by p.number p.links) (groups_by p.number all.seen.0) []
        (sym (groups_by-append p.number p.links all.seen.0) ∙ ap (groups_by p.number) all.seen.1 ∙ all.own ∙ sym (append-nil (groups_by p.number p.links)))

final_is : (h : KitHall) (passes : List KitPass) (final : List Entry) (fixed : Setup) (p : KitPass) (closed : HasClosed IsMadeBy MayStep h passes final fixed)
    → (b : Behind closed.log p) → p.start ≡ h.start → final ≡ seen_of p ++ flat b.more
final_is h passes final fixed p closed b begins =
    closed.is ∙ ap (λ (l : List (Link Entry)). h.start ++ flat l) (sym b.whole) ∙ seen-more h.start p.links b.more
    ∙ ap (λ (s : List Entry). (s ++ flat p.links) ++ flat b.more) (sym begins)

-- What stands at the end is what the pass has seen, and then what others made.
pub record Outgrown (h : KitHall) (final : List Entry) (p : KitPass) : Type 0 where
  pub more : List (Link Entry)
  pub whole : final ≡ seen_of p ++ flat more
  pub legal : LegalLog (Allowed IsMadeBy MayStep) h.fixed (seen_of p) more
  pub others : NotBy p.number more

pub outgrown : (h : KitHall) (passes : List KitPass) (final : List Entry) (fixed : Setup) (i : ℕ) (p : KitPass) → HasClosed IsMadeBy MayStep h passes final fixed
    → slice_get passes i ≡ Some p → IsPassOf h p → Outgrown h final p
outgrown h passes final fixed i p closed there ours =
    let b = behind closed.log p (get-from_all (HasAllOf closed.log) passes closed.each i p there) in
    let all = subst (λ (l : List (Link Entry)). LegalLog (Allowed IsMadeBy MayStep) h.fixed h.start l) (sym b.whole) closed.legal in
    record {
      more = b.more;
      whole = final_is h passes final fixed p closed b ours.2;
      legal = subst (λ (s : List Entry). LegalLog (Allowed IsMadeBy MayStep) h.fixed (s ++ flat p.links) b.more) (sym ours.2) (legal-after (Allowed IsMadeBy MayStep) h.fixed h.start p.links b.more all);
      others = b.others;
    }

pub final_heard : (h : KitHall) (passes : List KitPass) (final : List Entry) (fixed : Setup) (i : ℕ) (p : KitPass) → HasClosed IsMadeBy MayStep h passes final fixed
    → slice_get passes i ≡ Some p → IsPassOf h p → p.number ≡ 1 → heard_lines final ≡ heard_lines (seen_of p)
final_heard h passes final fixed i p closed there ours one =
    let o = outgrown h passes final fixed i p closed there ours in
    let none : heard_lines (flat o.more) ≡ [] = none_log h.fixed (seen_of p) o.more o.legal (subst (λ (n : ℕ). NotBy n o.more) one o.others) in
    ap heard_lines o.whole ∙ filter_map-append heard_line (seen_of p) (flat o.more)
    ∙ ap (λ (xs : List (List ℕ)). heard_lines (seen_of p) ++ xs) none ∙ append-nil (heard_lines (seen_of p))

-- what a pass has seen to be finished is finished in the end
pub final_finished : (h : KitHall) (passes : List KitPass) (final : List Entry) (fixed : Setup) (i : ℕ) (p : KitPass) → HasClosed IsMadeBy MayStep h passes final fixed
    → slice_get passes i ≡ Some p → IsPassOf h p → Legal h.fixed h.start → IsFinished h.fixed (standing h.fixed (seen_of p)) → IsFinished h.fixed (standing h.fixed final)
final_finished h passes final fixed i p closed there ours legal f =
    let b = behind closed.log p (get-from_all (HasAllOf closed.log) passes closed.each i p there) in
    let before = legal-before (Allowed IsMadeBy MayStep) h.fixed h.start p.links b.more
    (subst (λ (l : List (Link Entry)). LegalLog (Allowed IsMadeBy MayStep) h.fixed h.start l) (sym b.whole) closed.legal) in
    let seen : Legal h.fixed (seen_of p) =
    subst (λ (s : List Entry). Legal h.fixed (s ++ flat p.links)) (sym ours.2) (legal_log h.fixed h.start p.links before legal) in
    let whole = final_is h passes final fixed p closed b ours.2 in
    let all : Legal h.fixed final = (halls_stay_legal h passes final fixed closed legal).0 in
    let k : is_legal h.fixed (seen_of p ++ flat b.more) ≡ true = subst (λ (x : List Entry). is_legal h.fixed x ≡ true) whole all.follow in
    subst (λ (x : List Entry). IsFinished h.fixed (standing h.fixed x)) (sym whole) (finished_stays h.fixed (seen_of p) (flat b.more) k f seen.told).0
