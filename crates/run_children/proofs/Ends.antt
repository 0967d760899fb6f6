-- What a round leaves of its child: all is at rest, so it may be closed, and its link is held.
use Rattle.ann_outside.specs.Told.{DeskTold}
use Rattle.std.proofs.Common.{◌≡◌, ℕ, ◌+◌, List, [], ◌∷◌, ◌++◌, refl, sym, ap, subst, ◌∙◌, length, suc, map, Bool, true, false, not, ◌==◌, arith, ◌⊎◌, inl, inr}
use Rattle.std.specs.Prelude.{◌||◌}
use Rattle.std.specs.List.{list_all, list_any, range_with_len}
use Rattle.std.proofs.lemmas.List.Elements.{All-head}
use Rattle.journal_model.specs.declared.verdict.Why.TheVariants.{Closed}
use Rattle.journal_model.specs.declared.entry.Entry.{Entry}
use Rattle.journal_model.specs.declared.opening.Opening.{Opening}
use Rattle.journal_model.specs.Halves.{EarValue, MouthValue}
use Rattle.journal_model.specs.Journal.{any, is_started, is_tagged}
use Rattle.journal_model.specs.Legality.{Legal, may_stop}
use Rattle.journal_model.specs.Shares.{is_of_child}
use Rattle.journal_model.proofs.Turns.{tagged_on}
use Rattle.child_link.specs.Alone.{Closes}
use Rattle.child_link.proofs.Roles.{all_right}
use Rattle.child_link.proofs.Writings.{written_apart}
use Rattle.child_link.specs.Writings.{is_written_first}
use Rattle.crew_work.specs.Laws.Laws.{GoesOn}
use Rattle.crew_work.specs.Laws.Rounds.{IsAtRest, IsWired, LinkValue}
use Rattle.crew_rounds.specs.Tagged.Crewing.{DesksDid as CrewDesks}
use Rattle.crew_rounds.specs.Tagged.TaggedRounds.{TaggedLeaves}
use Rattle.child_life.specs.End.Wires.{IsHeld, is_mains}
use Rattle.child_life.proofs.EndLemmas.Held.{lone_held}
use Rattle.task_model.specs.declared.setup.Setup.{Setup}
use Rattle.crew_work.specs.Worker.Works.{TaskDone}
use Rattle.run_starts.proofs.Stinting.{may_close}
use Rattle.threads.specs.declared.roles.slot.Refused.{Refused}
use Rattle.crew_rounds.specs.declared.tagged.outcome.Outcome.{Outcome}
use Rattle.crew_rounds.specs.declared.tagged.outcome.Outcome.TheVariants.{Done, NoMemory, NoThreads}
use Rattle.crew_rounds.specs.Tagged.Outcomes.{IfDone, IfKept}
use Rattle.crew_rounds.specs.Tagged.Tagged.{TaggedCan}
use Rattle.run_children.specs.Servings.{CanBeServed, ServesAlone}
use Rattle.run_children.proofs.RoundDid.{in_range}
use Rattle.crew_work.proofs.LawsLemmas.Laboring.{started_lasts as started_then}
use Rattle.std.proofs.lemmas.Bool.{and_parts as both, ne_eqb as differ}
use Rattle.run_children.proofs.PoolChildrenLemmas.Own.{rest_shut}

-- entries of numbers from 1 on, of which the main thread made all that is of the child: none is
none_of_mains : (c m : ℕ) (xs : List Entry) → list_all (λ (e : Entry). list_any (λ (n : ℕ). n == e.by) (range_with_len 1 m)) xs ≡ true
    → list_all (λ (e : Entry). not (is_of_child c e.what) || e.by == 0) xs ≡ true → any (is_of_child c) xs ≡ false
none_of_mains c m [] h k = refl
none_of_mains c m (e ∷ xs) h k =
    let p = both (list_any (λ (n : ℕ). n == e.by) (range_with_len 1 m)) (list_all (λ (x : Entry). list_any (λ (n : ℕ). n == x.by) (range_with_len 1 m)) xs) h in
    let q = both (not (is_of_child c e.what) || e.by == 0) (list_all (λ (x : Entry). not (is_of_child c x.what) || x.by == 0) xs) k in
    let low = (in_range 1 m e.by p.0).0 in
    let other : (e.by == 0) ≡ false = differ e.by 0 (λ z. absurd (omega (arith, z, low))) in
    rw (go (is_of_child c e.what) (e.by == 0) other q.0, none_of_mains c m xs p.1 q.1) refl
  where
    go : (a b : Bool) → b ≡ false → (not a || b) ≡ true → a ≡ false
    go false b x y = refl
    go true false x y = absurd cc
    go true true x y = absurd cc

-- a child that takes tags was served alone only by the main thread
served_by_mains : (t m : Bool) → t ≡ true → (not t || m) ≡ true → m ≡ true
served_by_mains true m e h = h
served_by_mains false m e h = absurd cc

module _ (o : Opening) (setup : Setup) (m : ℕ) (start final : List Entry) (l : LinkValue) (desks desks' : List DeskTold) (goes : GoesOn start final (λ rest. TaggedLeaves o setup (range_with_len 1 m) start rest l desks desks')) where
  abbrev rest : List Entry
  rest = goes.0

  leaves : TaggedLeaves o setup (range_with_len 1 m) start rest l desks desks'
  leaves = goes.2

  pub round_calm : IsAtRest final
  round_calm = subst IsAtRest (sym goes.1) leaves.round.rounded.at_rest

  pub round_legal : Legal o final
  round_legal = subst (Legal o) (sym goes.1) leaves.round.rounded.legal

  pub round_started : (c : ℕ) → is_started start c ≡ true → is_started final c ≡ true
  round_started c h = ap (λ (j : List Entry). is_started j c) goes.1 ∙ started_then start rest c h

  pub round_closes : (c : ℕ) → may_stop final c Closed ≡ true
  round_closes c = may_close final c (rest_shut final round_calm c) round_calm.idle

  pub round_held : (c : ℕ) → l.ear.child ≡ c → is_tagged start c ≡ true → is_written_first start c ≡ true → IsHeld final l.ear l.mouth
  round_held c is tagged written = subst (λ (j : List Entry). IsHeld j l.ear l.mouth) (sym goes.1) record {
    link = (All-head (IsWired (start ++ rest)) l [] leaves.round.linked).wired;
    written = λ alone. written_apart start rest l.ear.child
        (none_of_mains l.ear.child m rest leaves.round.rounded.numbered
        (all_right (λ (e : Entry). not (is_of_child l.ear.child e.what) || e.by == 0) start rest
        (served_by_mains (is_tagged (start ++ rest) l.ear.child) (is_mains (start ++ rest) l.ear.child) (tagged_on start rest l.ear.child (subst (λ (d : ℕ). is_tagged start d ≡ true) (sym is) tagged)) alone)))
        (ap (is_written_first start) is ∙ written);
  }

-- where the child can be served, a round over it may begin
pub tagged_can : (o : Opening) (journal : List Entry) (ear : EarValue) (mouth : MouthValue) → CanBeServed o journal ear mouth true → TaggedCan o journal (record { ear = ear; mouth = mouth })
tagged_can o journal ear mouth h = record {
  calm = h.calm;
  begins = record { started = h.can.serves.started; tagged = sym h.tag; turn = h.wired.link.turn; unclosed = h.unclosed };
  serves = h.can.serves;
  ear = h.wired.link.ear;
  mouth = h.wired.link.mouth;
}

-- ---- what came of a round

pub by_done : {P : Type 0} (x : Outcome) → x ≡ Done → IfDone x P → P
by_done {P} x e h = subst (λ (y : Outcome). IfDone y P) e h

pub by_kept : {P : Type 0} (x : Outcome) → (x ≡ NoMemory) ⊎ ((refused : Refused) × (x ≡ NoThreads refused)) → IfKept x P → P
by_kept {P} x (inl e) h = subst (λ (y : Outcome). IfKept y P) e h
by_kept {P} x (inr e) h = subst (λ (y : Outcome). IfKept y P) e.1 h

-- where it didn't begin, what was done then was done from before it
pub alone_kept : {K : Type 0} (tells : K → DeskTold) (o p : Opening) (setup : Setup) (c d : ℕ) (old mid new : List Entry) (ks is : List K) (desks' : List DeskTold) → p ≡ o → d ≡ c → mid ≡ old → is ≡ ks
    → ServesAlone p setup d mid new (map tells is) desks' → ServesAlone o setup c old new (map tells ks) desks'
alone_kept {K} tells o p setup c d old mid new ks is desks' eo ec ej ek s =
    subst (λ (q : Opening). ServesAlone q setup c old new (map tells ks) desks') eo
    (subst (λ (k : ℕ). ServesAlone p setup k old new (map tells ks) desks') ec
    (subst (λ (j : List Entry). ServesAlone p setup d j new (map tells ks) desks') ej (subst (λ (xs : List K). ServesAlone p setup d mid new (map tells xs) desks') ek s)))

pub legal_kept : (o p : Opening) (old mid : List Entry) → p ≡ o → mid ≡ old → Legal o old → Legal p mid
legal_kept o p old mid eo ej h = subst (λ (q : Opening). Legal q mid) (sym eo) (subst (Legal o) (sym ej) h)

crew_as_many : (o : Opening) (setup : Setup) (start rest : List Entry) (first : ℕ) (dones : List (List TaskDone)) (ds es : List DeskTold) → CrewDesks o setup start rest first dones ds es → length ds ≡ length es
crew_as_many o setup start rest first [] [] [] h = refl
crew_as_many o setup start rest first [] [] (e ∷ es) h = absurd h
crew_as_many o setup start rest first [] (d ∷ ds) es h = absurd h
crew_as_many o setup start rest first (done ∷ dones) [] es h = absurd h
crew_as_many o setup start rest first (done ∷ dones) (d ∷ ds) [] h = absurd h
crew_as_many o setup start rest first (done ∷ dones) (d ∷ ds) (e ∷ es) h = ap (λ (n : ℕ). suc n) (crew_as_many o setup start rest (first + 1) dones ds es h.1)

pub round_as_many : (o : Opening) (setup : Setup) (m : ℕ) (start final : List Entry) (l : LinkValue) (desks desks' : List DeskTold)
    → GoesOn start final (λ rest. TaggedLeaves o setup (range_with_len 1 m) start rest l desks desks') → length desks ≡ length desks'
round_as_many o setup m start final l desks desks' goes = crew_as_many o setup start goes.0 4 goes.2.dones desks desks' goes.2.desks_did

-- ---- where no memory was found for a round

-- the child may be closed
pub starved_may : {o : Opening} {old mid : List Entry} {ear ear' : EarValue} {mouth : MouthValue} {tagged : Bool} → CanBeServed o old ear mouth tagged → mid ≡ old → ear' ≡ ear
    → (is_started mid ear'.child ≡ true) × (may_stop mid ear'.child Closed ≡ true)
starved_may {o} {old} {mid} {ear} {ear'} can ej ee =
    subst (λ (j : List Entry). (is_started j ear'.child ≡ true) × (may_stop j ear'.child Closed ≡ true)) (sym ej)
    (subst (λ (e : EarValue). (is_started old e.child ≡ true) × (may_stop old e.child Closed ≡ true)) (sym ee) (can.can.serves.started, may_close old ear.child can.can.rests.idle can.can.rests.rest))

pub starved_held : {o : Opening} {old mid : List Entry} {ear ear' : EarValue} {mouth mouth' : MouthValue} {tagged : Bool} → CanBeServed o old ear mouth tagged → mid ≡ old → (ear' ≡ ear) × (mouth' ≡ mouth) → IsHeld mid ear' mouth'
starved_held {o} {old} {mid} {ear} {ear'} {mouth} {mouth'} can ej el =
    subst (λ (j : List Entry). IsHeld j ear' mouth') (sym ej)
    (subst (λ (e : EarValue). IsHeld old e mouth') (sym el.0) (subst (λ (m : MouthValue). IsHeld old ear m) (sym el.1) (lone_held old ear mouth can.wired)))

pub starved_closes : {old mid new : List Entry} {c d : ℕ} → mid ≡ old → d ≡ c → Closes 0 d mid new → Closes 0 c old new
starved_closes {old} {mid} {new} {c} {d} ej ec h = subst (λ (k : ℕ). Closes 0 k old new) ec (subst (λ (j : List Entry). Closes 0 d j new) ej h)
