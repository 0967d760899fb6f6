-- What one entry puts together.
use Rattle.std.proofs.Common.{◌≡◌, ℕ, List, [], ◌∷◌, ◌++◌, ◌+◌, length, length-append, refl, sym, ap, ◌∙◌, subst, Option, Some}
use Rattle.std.proofs.lemmas.List.{append_cancel_left}
use Rattle.std.proofs.lemmas.Option.{same_Some}
use Rattle.atomic_table.specs.Table.{Me}
use Rattle.threads.specs.declared.view.Link.{Link}
use Rattle.threads.specs.declared.view.Stage.TheVariants.{Out, Inside}
use Rattle.threads.specs.declared.view.View.{View}
use Rattle.threads.specs.Log.{link, part, flat, Fit, AllFit, NotBy, Numbered, number, seen, log_of, places_by, Allowed, Legal}
use Rattle.threads.specs.Rule.{at_stage, with_group, held_history}
use Rattle.threads.specs.Resting.{IsResting}
use Rattle.threads.specs.Passes.{HallValue, PassValue, IsPassOf, HasEntered}
use Rattle.threads.proofs.Logs.{flat-snoc, seen-more, legal-after, numbered-after, places_by-entered}

-- of the links that a pass had seen before and after: they go on with links of others, and then one of its own
pub record Enters {E F O R : Type 0} (may : F → List E → ℕ → O → List E → R → Type 0) (f : F) (start : List E) (seats by : ℕ) (before after : List (Link E)) (op : O) (reply : R) : Type 0 where
  pub between : List (Link E)
  pub group : List E
  pub others : NotBy by between
  pub passes : Numbered seats between
  pub links : after ≡ (before ++ between) ++ link by group ∷ []
  pub between_legal : Legal may f (start ++ flat before) between
  pub own : may f (start ++ flat (before ++ between)) by op group reply

module _ {X E F O R : Type 0} (history : X → List E) (fixed : X → F) (may : F → List E → ℕ → O → List E → R → Type 0) where
  abbrev M : Type 0
  M = Me (Option X) (View E F)

  abbrev Ready : ℕ → M → Type 0
  Ready n m = (n ≡ length (held_history history m.1)) × (f : F) × (g : List E) × (op : O) × (reply : R) × (m.0.fixed ≡ Some f) × (held_history history m.1 ≡ (m.0.start ++ flat (log_of m.0.stage)) ++ g)
      × may f (m.0.start ++ flat (log_of m.0.stage)) (number m.0.parts) op g reply

  abbrev Returnable : M → Type 0
  Returnable m = (x : X) × (m.1 ≡ (0, Some x) ∷ []) × (history x ≡ m.0.start ++ flat (log_of m.0.stage)) × (m.0.fixed ≡ Some (fixed x))

  module _ (before : M) (log : List (Link E)) (by : ℕ) (x y : X) (op : O) (g : List E) (reply : R)
      (rests : IsResting by before) (was : history x ≡ before.0.start ++ flat log) (opening : before.0.fixed ≡ Some (fixed x)) (more : history y ≡ history x ++ g) (kept : fixed y ≡ fixed x) (allowed : may (fixed x) (history x) by op g reply) where
    abbrev holding : M
    holding = (at_stage (Inside log) before.0, (0, Some y) ∷ [])

    by_is : by ≡ number before.0.parts
    by_is = sym (ap number rests.1)

    long : history y ≡ (before.0.start ++ flat log) ++ g
    long = more ∙ ap (λ h. h ++ g) was

    pub ready : (n : ℕ) → n ≡ length (history y) → (m : M) → m ≡ holding → Ready n m
    ready n is m e = subst (Ready n) (sym e) (is, fixed x, g, op, reply, opening, long, subst (λ (z : List E × ℕ). may (fixed x) z.0 z.1 op g reply) (λ i. (was i, by_is i)) allowed)

    module _ (m m' : M) (e : m ≡ holding) (g' : List E) (told : held_history history m.1 ≡ (m.0.start ++ flat (log_of m.0.stage)) ++ g') (noted : m' ≡ (with_group g' m.0, m.1)) where
      told' : history y ≡ (before.0.start ++ flat log) ++ g'
      told' = subst (λ (z : M). held_history history z.1 ≡ (z.0.start ++ flat (log_of z.0.stage)) ++ g') e told

      after : m' ≡ (with_group g' (at_stage (Inside log) before.0), (0, Some y) ∷ [])
      after = noted ∙ ap (λ (z : M). (with_group g' z.0, z.1)) e

      same_group : g' ≡ g
      same_group = append_cancel_left (before.0.start ++ flat log) g' g (sym told' ∙ long)

      pub returnable : Returnable m'
      returnable = subst Returnable (sym after) (y, refl, told' ∙ flat-snoc before.0.start log (number before.0.parts) g', opening ∙ ap Some (sym kept))

      -- what the pass knows when it is out again
      pub rested : (n : ℕ) → n ≡ length (history y) → (last : M) → last ≡ (at_stage Out m'.0, []) → IsResting by last × (n ≡ length (last.0.start ++ flat (seen last.0.parts)))
      rested n is last ended = subst (λ (z : M). IsResting by z × (n ≡ length (z.0.start ++ flat (seen z.0.parts)))) (sym (ended ∙ ap (λ (z : M). (at_stage Out z.0, [])) after)) (
        (refl, ap (λ (k : ℕ). part k (log ++ link (number before.0.parts) g' ∷ []) ∷ []) (sym by_is), refl, rests.3),
        is ∙ ap length (told' ∙ flat-snoc before.0.start log (number before.0.parts) g'),
      )

      pub enters : AllFit log before.0.parts → Legal may (fixed x) before.0.start log → Numbered before.0.seats log → (f : F) → before.0.fixed ≡ Some f
          → (last : M) → last ≡ (at_stage Out m'.0, []) → Enters may f before.0.start before.0.seats by (seen before.0.parts) (seen last.0.parts) op reply
      enters fits legal numbered f opened last ended =
          let fit : Fit log (part by (seen before.0.parts)) = (subst (AllFit log) rests.1 fits).0 in
          let f_is : fixed x ≡ f = same_Some (fixed x) f (sym opening ∙ opened) in
          let seen_is : seen last.0.parts ≡ log ++ link (number before.0.parts) g' ∷ [] = ap (λ (z : M). seen z.0.parts) (ended ∙ ap (λ (z : M). (at_stage Out z.0, [])) after) in record {
            between = fit.0;
            group = g;
            others = fit.2;
            passes = numbered-after before.0.seats (seen before.0.parts) fit.0 (subst (Numbered before.0.seats) fit.1 numbered);
            links = seen_is ∙ (λ i. fit.1 i ++ link (sym by_is i) (same_group i) ∷ []);
            between_legal = legal-after may f before.0.start (seen before.0.parts) fit.0 (subst (λ (z : F × List (Link E)). Legal may z.0 before.0.start z.1) (λ i. (f_is i, fit.1 i)) legal);
            own = subst (λ (z : F × List E). may z.0 z.1 by op g reply) (λ i. (f_is i, (was ∙ (λ k. before.0.start ++ flat (fit.1 k))) i)) allowed;
          }

module _ {E F O R : Type 0} (made_by : ℕ → E → Type 0) (may : F → List E → ℕ → O → List E → R → Type 0) where
  -- what a caller is told of one entry
  pub entered : (h : HallValue E F) (before next : PassValue E F) (op : O) (reply : R) → IsPassOf h before → next.start ≡ before.start → next.number ≡ before.number
      → Enters (Allowed made_by may) h.fixed before.start before.seats before.number before.links next.links op reply → HasEntered made_by may h before next op reply
  entered h before next op reply own same_start same_number e =
      let more = seen-more before.start before.links e.between in
      let from : ℕ = length before.start in
      let place : from + length (flat (before.links ++ e.between)) ≡ length ((before.start ++ flat before.links) ++ flat e.between) = sym (length-append before.start (flat (before.links ++ e.between))) ∙ ap length more in record {
        between = e.between;
        group = e.group;
        others = e.others;
        passes = subst (λ (z : ℕ). Numbered z e.between) own.1 e.passes;
        between_legal = e.between_legal;
        own = subst (λ (z : List E). Allowed made_by may h.fixed z before.number op e.group reply) more e.own;
        links = e.links;
        seen = (λ i. same_start i ++ flat (e.links i)) ∙ (sym (flat-snoc before.start (before.links ++ e.between) before.number e.group) ∙ ap (λ (z : List E). z ++ e.group) more);
        places = (λ i. places_by (same_number i) (length (same_start i)) (e.links i)) ∙ (places_by-entered before.number from before.links e.between e.group e.others ∙ ap (λ (z : ℕ). places_by before.number from before.links ++ (z, length e.group) ∷ []) place);
      }

  pub entered_from : (h : HallValue E F) {b before next : PassValue E F} (op : O) (reply : R) → b ≡ before → HasEntered made_by may h b next op reply → HasEntered made_by may h before next op reply
  entered_from h {next = next} op reply same e = subst (λ (z : PassValue E F). HasEntered made_by may h z next op reply) same e
