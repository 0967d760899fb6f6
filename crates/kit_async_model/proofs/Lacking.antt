-- Where no memory is found for the answer to a call, the journal stays legal.
use Rattle.std.proofs.Common.{◌≡◌, ℕ, List, [], ◌∷◌, ◌++◌, refl, sym, subst, Bool, true, false, cond, Some, None, Option}
use Rattle.std.specs.Prelude.{find}
use Rattle.kit_serve.specs.declared.kit.call.Said.{Said}
use Rattle.kit_serve.specs.Kit.Calls.{is_line_said}
use Rattle.kit_async_model.specs.declared.setup.Setup.{Setup}
use Rattle.kit_async_model.specs.declared.job.Job.{Job}
use Rattle.kit_async_model.specs.declared.entry.Entry.{Entry}
use Rattle.kit_async_model.specs.declared.entry.Entry.TheVariants.{Call, Lack}
use Rattle.kit_async_model.specs.declared.event.Event.TheVariants.{Called}
use Rattle.kit_async_model.specs.declared.event.Reply.{Reply}
use Rattle.kit_async_model.specs.declared.event.Reply.TheVariants.{Odd}
use Rattle.kit_async_model.specs.Standings.{Standing, after, standing}
use Rattle.kit_async_model.specs.Legality.{is_called, comes_where, follows, legal_from, is_legal, Legal}
use Rattle.kit_async_model.specs.Events.{only, remote_of, is_of_remote, due_said, called_step, call_step, if_it_is, event_step, step_of, IsUnsaid}
use Rattle.kit_async_model.proofs.Fronts.{parts, standing_append}
use Rattle.kit_async_model.proofs.Stepping.{join_from, steps_are_legal}
use Rattle.std.proofs.lemmas.Bool.{and_parts as both}

abbrev SomeDue : Setup → Standing → Entry → Type 0
SomeDue setup s call = (d : ℕ × List ℕ) × (rest : List (ℕ × List ℕ)) × ((after setup s call).due ≡ d ∷ rest)

-- a call after which something is said made that due
said_due : (setup : Setup) (s : Standing) (by : ℕ) (said : Said) (call answer : Entry) (more : List Entry) → (event_step setup s by (Called said)).group ≡ call ∷ answer ∷ more → SomeDue setup s call
said_due setup s by said call answer more e = go (is_of_remote setup by) e
  where
    dues : (c : Entry) (o : List (ℕ × List ℕ)) → (after setup s c).due ≡ o → c ∷ due_said o ≡ call ∷ answer ∷ more → SomeDue setup s call
    dues c [] e k = absurd cc
    dues c (d ∷ rest) e k = (d, rest, let is : c ≡ call = cc in subst (λ (x : Entry). (after setup s x).due ≡ d ∷ rest) is e)

    found : (o : Option Job) → (called_step setup s (remote_of by) said o).group ≡ call ∷ answer ∷ more → SomeDue setup s call
    found None k = absurd cc
    found (Some job) k = dues (Call job.number (remote_of by) said) (after setup s (Call job.number (remote_of by) said)).due refl k

    line : (b : Bool) → (cond b (called_step setup s (remote_of by) said (find (is_called setup s.jobs (remote_of by)) s.jobs)) (only Odd)).group ≡ call ∷ answer ∷ more → SomeDue setup s call
    line true k = found (find (is_called setup s.jobs (remote_of by)) s.jobs) k
    line false k = absurd cc

    go : (b : Bool) → (if_it_is b (call_step setup s (remote_of by) said)).group ≡ call ∷ answer ∷ more → SomeDue setup s call
    go true k = line (is_line_said said) k
    go false k = absurd cc

lack_follows : (setup : Setup) (s : Standing) (call : Entry) → follows setup s call ≡ true → SomeDue setup s call → legal_from setup s (call ∷ Lack ∷ []) ≡ true
lack_follows setup s call f d =
    let lack : follows setup (after setup s call) Lack ≡ true = subst (λ (o : List (ℕ × List ℕ)). comes_where setup (after setup s call) o Lack ≡ true) (sym d.2) refl in
    rw (f, lack) refl

pub unsaid_is_legal : (setup : Setup) (past : List Entry) (by : ℕ) (said : Said) (group : List Entry) (reply : Reply)
    → Legal setup past → IsUnsaid (step_of setup past by (Called said)) group reply → Legal setup (past ++ group)
unsaid_is_legal setup past by said group reply l u =
    let s : Standing = standing setup past in
    let whole : is_legal setup (past ++ (u.call ∷ u.answer ∷ u.more)) ≡ true = subst (λ (g : List Entry). is_legal setup (past ++ g) ≡ true) u.whole (steps_are_legal setup past by (Called said) l).follow in
    let first : follows setup s u.call ≡ true = (both (follows setup s u.call) _ (parts setup past (u.call ∷ u.answer ∷ u.more) whole).1).0 in
    let rest : legal_from setup s (u.call ∷ Lack ∷ []) ≡ true = lack_follows setup s u.call first (said_due setup s by said u.call u.answer u.more u.whole) in
    subst (λ (g : List Entry). Legal setup (past ++ g)) (sym u.group_is)
    (record {
      follow = join_from setup _ past (u.call ∷ Lack ∷ []) l.follow rest;
      told = subst (λ (t : Standing). t.due ≡ []) (sym (standing_append setup past (u.call ∷ Lack ∷ []))) refl;
    })
