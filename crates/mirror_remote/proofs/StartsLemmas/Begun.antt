-- Children that are started one after the other, and stopped.
use Rattle.ann_outside.specs.Told.{ProgramsTold}
use Rattle.std.proofs.Common.{◌≡◌, ◌⊎◌, inl, inr, ◌∙◌, ℕ, zero, suc, ◌+◌, ◌-◌, ◌<◌, ◌≤◌, List, [], ◌∷◌, ◌++◌, refl, sym, ap, subst, Bool, true, false, Option, Some, None, append_assoc, append-nil, length, take, drop, get_or, add-one, arith}
use Rattle.std.specs.Prelude.{Result, Ok, Err}
use Rattle.std.proofs.lemmas.List.{map-append}
use Rattle.ann_outside.specs.Causes.{AddsOne, Rose, Stays}
use Rattle.ann_outside.specs.Starts.{Starts}
use Rattle.journal_model.specs.declared.verdict.Why.{Why}
use Rattle.journal_model.specs.declared.verdict.Why.TheVariants.{Memory}
use Rattle.journal_model.specs.declared.verdict.Verdict.{Verdict}
use Rattle.journal_model.specs.declared.entry.What.TheVariants.{NoStart}
use Rattle.journal_model.specs.declared.entry.Entry.{Entry}
use Rattle.journal_model.specs.Halves.{EarValue, MouthValue}
use Rattle.journal_model.specs.Shares.{is_memory}
use Rattle.host_core.specs.CoreValue.{CoreValue}
use Rattle.child_link.specs.Writings.{LoneWired}
use Rattle.child_life.specs.Start.Cores.{IsSameCore}
use Rattle.child_life.specs.declared.start.greeting.Came.{Came}
use Rattle.child_life.specs.declared.start.greeting.Came.TheVariants.{Ready as CameReady, Refused as CameRefused, Ended as CameEnded, Unsent as CameUnsent}
use Rattle.child_life.specs.declared.start.greeting.Mode.TheVariants.{Serve}
use Rattle.child_life.specs.Start.Greetings.{CameTo, Greeted, HasEnded, IsReady, IsRefused, IsUnsent}
use Rattle.child_life.specs.End.Programs.{AddsAll}
use Rattle.mirror_children.specs.declared.plan.plan.Plan.{Plan}
use Rattle.mirror_remote.specs.declared.starts.beginning.Cause.{Cause}
use Rattle.mirror_remote.specs.Starts.Openings.{mirror_opening}
use Rattle.mirror_children.specs.Children.{child_value, ChildValue, AreLinked, AreServing, IsServing}
use Rattle.mirror_remote.specs.Starts.Stops.{log_of, LogValue, StoppedValue, AreClosed, Stops, StopsAll}
use Rattle.mirror_remote.specs.Starts.Readiness.{AreAskedFor, AreLeftAs, AreReadyAs, AreStoppedAs, IsLeftAs, IsReadyAs, IsStoppedAs, IsUnready, starts_of}
use Rattle.mirror_remote.specs.Starts.Beginnings.{AreGreetedAs, BeginsAs, EndedAs, HasNotStarted, IsGreetedAs, StandsAs, StoodAs}
use Rattle.mirror_remote.proofs.StartsLemmas.Greeting.{first_child, greeted_first, linked_greeted, serving_ready, unwired}
use Rattle.child_life.proofs.EndLemmas.Across.{adds_one, adds_both}
use Rattle.journal_model.proofs.Across.{nothing_legal}

-- ---- the programs' starts

pub stays_adds : (a b c : Option Starts) (xs : Starts) → Stays a b → AddsAll b c xs → AddsAll a c xs
stays_adds None None None xs h k = tt
stays_adds None None (Some ws) xs h k = absurd k
stays_adds None (Some vs) c xs h k = absurd h
stays_adds (Some us) None c xs h k = absurd h
stays_adds (Some us) (Some vs) None xs h k = absurd k
stays_adds (Some us) (Some vs) (Some ws) xs h k = k ∙ ap (λ (l : Starts). l ++ xs) h

-- one more start, of the next plan's program
pub starts_next : (a b c : Option Starts) (ps : List Plan) (p : Plan) → AddsAll a b (starts_of ps) → AddsOne b c (p.program, true) → AddsAll a c (starts_of (ps ++ p ∷ []))
starts_next a b c ps p h k =
    subst (AddsAll a c) (sym (map-append (λ (x : Plan). (x.program, true)) ps (p ∷ []))) (adds_both a b c (starts_of ps) ((p.program, true) ∷ []) h (adds_one b c (p.program, true) k))

pub rose_later : (a b c : ℕ) → a ≤ b → Rose b c → Rose a c
rose_later a b c h k = omega (arith, h, k)

-- ---- one child

module _ (p : Plan) (old new : CoreValue) (ear : EarValue) (mouth : MouthValue) (empty : old.journal ≡ []) (opens : old.opening ≡ mirror_opening p.registers) (keeps : IsSameCore old new) (greeted : Greeted old.journal new.journal 0 false ear.child) where
  pub greeted_as : LoneWired new.journal ear mouth → mouth.child ≡ ear.child → IsGreetedAs p (child_value p.number new ear mouth)
  greeted_as wired both = record {
    number = refl;
    opening = keeps.opening ∙ opens;
    greeted = greeted_first old.journal new.journal ear.child empty greeted;
    linked = linked_greeted (child_value p.number new ear mouth) (first_child old.journal new.journal ear.child empty greeted) both
        (greeted_first old.journal new.journal ear.child empty greeted) (keeps.legal (nothing_legal old.opening old.journal empty)) wired;
  }

  first : ear.child ≡ 1
  first = first_child old.journal new.journal ear.child empty greeted

  ready_as : IsReady new.journal ear.child → IsReadyAs p (child_value p.number new ear mouth)
  ready_as r = record {
    number = refl;
    opening = keeps.opening ∙ opens;
    greeted = greeted_first old.journal new.journal ear.child empty greeted;
    ready = subst (IsReady new.journal) first r;
  }

  serving_as : LoneWired new.journal ear mouth → mouth.child ≡ ear.child → IsReady new.journal ear.child → IsServing (child_value p.number new ear mouth)
  serving_as wired both r = serving_ready (child_value p.number new ear mouth) (greeted_as wired both).linked (subst (IsReady new.journal) first r)

  refused_as : (v : Verdict) → IsRefused new.journal ear.child v → IsUnready new.journal
  refused_as v r = inl (v, subst (λ (k : ℕ). IsRefused new.journal k v) first r)

  ended_as : (why : Why) → HasEnded new.journal ear.child why → is_memory why ≡ false → IsUnready new.journal
  ended_as why e kept = inr (inl (why, subst (λ (k : ℕ). HasEnded new.journal k why) first e, kept))

  ended_stands : (why : Why) → HasEnded new.journal ear.child why → EndedAs why (child_value p.number new ear mouth)
  ended_stands Memory e = tt
  ended_stands why e = ended_as why e refl

  unsent_as : IsUnsent new.journal ear.child → IsUnready new.journal
  unsent_as u = inr (inr (subst (IsUnsent new.journal) first u))

  pub came_stands : (came : Came) → LoneWired new.journal ear mouth → mouth.child ≡ ear.child → CameTo Serve new.journal ear.child came → StandsAs p came (child_value p.number new ear mouth)
  came_stands (CameReady tagged) wired both t = (ready_as t.0, serving_as wired both t.0)
  came_stands (CameRefused v) wired both t = refused_as v t
  came_stands (CameEnded why) wired both t = ended_stands why t
  came_stands CameUnsent wired both t = unsent_as t

pub unstarted_as : (p : Plan) (old new : CoreValue) → old.journal ≡ [] → old.opening ≡ mirror_opening p.registers → IsSameCore old new → new.journal ≡ old.journal ++ record { by = 0; what = NoStart 0 } ∷ [] → HasNotStarted p new
unstarted_as p old new empty opens keeps grown =
    let only : new.journal ≡ record { by = 0; what = NoStart 0 } ∷ [] = grown ∙ ap (λ (j : List Entry). j ++ record { by = 0; what = NoStart 0 } ∷ []) empty in
    record { opening = keeps.opening ∙ opens; only = only; unwired = unwired (log_of new) only (keeps.legal (nothing_legal old.opening old.journal empty)) }

-- the child that was greeted comes after the others
pub greeted_begins : (p : Plan) (before after : ProgramsTold) (cs cs' : List ChildValue) (c : ChildValue) (came : Came) (r : Result (Unit {0}) Cause) → cs' ≡ cs ++ c ∷ [] → IsGreetedAs p c
    → AddsOne before.starts after.starts (p.program, true) → StandsAs p came c → StoodAs came p.number r → BeginsAs p before after cs cs' r
greeted_begins p before after cs cs' c (CameReady tagged) (Ok u) are greeted starts s h = (record { child = c; are = are; greeted = greeted; starts = starts }, s.0, s.1)
greeted_begins p before after cs cs' c (CameReady tagged) (Err e) are greeted starts s h = absurd cc
greeted_begins p before after cs cs' c (CameRefused v) r are greeted starts s h =
    subst (BeginsAs p before after cs cs') (sym h) (refl, (record { child = c; are = are; greeted = greeted; starts = starts }, s))
greeted_begins p before after cs cs' c (CameEnded Memory) r are greeted starts s h = subst (BeginsAs p before after cs cs') (sym h) (inl (record { child = c; are = are; greeted = greeted; starts = starts }))
greeted_begins p before after cs cs' c (CameEnded why) r are greeted starts s h =
    subst (BeginsAs p before after cs cs') (sym h) (refl, (record { child = c; are = are; greeted = greeted; starts = starts }, s))
greeted_begins p before after cs cs' c CameUnsent r are greeted starts s h =
    subst (BeginsAs p before after cs cs') (sym h) (refl, (record { child = c; are = are; greeted = greeted; starts = starts }, s))

-- ---- one more child

pub ready_next : (ps : List Plan) (cs : List ChildValue) (p : Plan) (c : ChildValue) → AreReadyAs ps cs → IsReadyAs p c → AreReadyAs (ps ++ p ∷ []) (cs ++ c ∷ [])
ready_next [] [] p c h r = (r, tt)
ready_next [] (x ∷ cs) p c h r = absurd h
ready_next (q ∷ ps) [] p c h r = absurd h
ready_next (q ∷ ps) (x ∷ cs) p c h r = (h.0, ready_next ps cs p c h.1 r)

pub greeted_next : (ps : List Plan) (cs : List ChildValue) (p : Plan) (c : ChildValue) → AreGreetedAs ps cs → IsGreetedAs p c → AreGreetedAs (ps ++ p ∷ []) (cs ++ c ∷ [])
greeted_next [] [] p c h r = (r, tt)
greeted_next [] (x ∷ cs) p c h r = absurd h
greeted_next (q ∷ ps) [] p c h r = absurd h
greeted_next (q ∷ ps) (x ∷ cs) p c h r = (h.0, greeted_next ps cs p c h.1 r)

pub serving_next : (cs : List ChildValue) (c : ChildValue) → AreServing cs → IsServing c → AreServing (cs ++ c ∷ [])
serving_next [] c h s = (s, tt)
serving_next (x ∷ cs) c h s = (h.0, serving_next cs c h.1 s)

pub linked_greeted_all : (ps : List Plan) (cs : List ChildValue) → AreGreetedAs ps cs → AreLinked cs
linked_greeted_all [] [] h = tt
linked_greeted_all [] (c ∷ cs) h = absurd h
linked_greeted_all (p ∷ ps) [] h = absurd h
linked_greeted_all (p ∷ ps) (c ∷ cs) h = (h.0.linked, linked_greeted_all ps cs h.1)

-- the plan at this place, with those before and after it
pub plan_at_place : (ps : List Plan) (i : ℕ) (p : Plan) → i < length ps → get_or ps i p ≡ p → ps ≡ take i ps ++ p ∷ drop (suc i) ps
plan_at_place [] i p within here = absurd (omega arith)
plan_at_place (q ∷ ps) zero p within here = ap (λ (x : Plan). x ∷ ps) here
plan_at_place (q ∷ ps) (suc i) p within here = ap (λ (l : List Plan). q ∷ l) (plan_at_place ps i p (omega (arith, within)) here)

take_suc : (ps : List Plan) (i : ℕ) (p : Plan) → i < length ps → get_or ps i p ≡ p → take (suc i) ps ≡ take i ps ++ p ∷ []
take_suc [] i p within here = absurd (omega arith)
take_suc (q ∷ ps) zero p within here = ap (λ (x : Plan). x ∷ []) here
take_suc (q ∷ ps) (suc i) p within here = ap (λ (l : List Plan). q ∷ l) (take_suc ps i p (omega (arith, within)) here)

pub take_next : (ps : List Plan) (i : ℕ) (p : Plan) → i < length ps → get_or ps i p ≡ p → take (i + 1) ps ≡ take i ps ++ p ∷ []
take_next ps i p within here = rw add-one (take_suc ps i p within here)

-- ---- they are stopped

unfoldable pub stopped_one : (p : Plan) (c : ChildValue) (old new : StoppedValue) → IsGreetedAs p c → (s : Stops c old new) → IsStoppedAs p s.log
stopped_one p c old new g s = record { opening = s.opening ∙ g.opening; past = c.journal; greeted = g.greeted; closes = s.closes }

-- each was stopped as its plan's
pub stopped_as : (ps : List Plan) (cs : List ChildValue) (old new : StoppedValue) → AreGreetedAs ps cs → StopsAll cs old new → (logs : List LogValue) × (new.logs ≡ old.logs ++ logs) × AreStoppedAs ps logs
stopped_as [] [] old new g same = ([], ap (λ (x : StoppedValue). x.logs) same ∙ sym (append-nil old.logs), tt)
stopped_as [] (c ∷ cs) old new g s = absurd g
stopped_as (p ∷ ps) [] old new g s = absurd g
stopped_as (p ∷ ps) (c ∷ cs) old new g (mid, one, rest) =
    let more = stopped_as ps cs mid new g.1 rest in
    (one.log ∷ more.0, more.1 ∙ ap (λ (l : List LogValue). l ++ more.0) one.logs ∙ append_assoc old.logs (one.log ∷ []) more.0, (stopped_one p c old mid g.0 one, more.2))

pub stops_split : (cs : List ChildValue) (c : ChildValue) (old new : StoppedValue) → StopsAll (cs ++ c ∷ []) old new → (mid : StoppedValue) × StopsAll cs old mid × Stops c mid new
stops_split [] c old new (last, one, same) = (old, refl, subst (λ (x : StoppedValue). Stops c old x) (sym same) one)
stops_split (d ∷ cs) c old new (first, one, rest) =
    let more = stops_split cs c first new rest in
    (more.0, (first, one, more.1), more.2)

-- each is closed
pub closed_as : (cs : List ChildValue) (old new : StoppedValue) → StopsAll cs old new → (logs : List LogValue) × (new.logs ≡ old.logs ++ logs) × AreClosed cs logs
closed_as [] old new same = ([], ap (λ (x : StoppedValue). x.logs) same ∙ sym (append-nil old.logs), tt)
closed_as (c ∷ cs) old new (mid, one, rest) =
    let more = closed_as cs mid new rest in
    (one.log ∷ more.0, more.1 ∙ ap (λ (l : List LogValue). l ++ more.0) one.logs ∙ append_assoc old.logs (one.log ∷ []) more.0, (one.opening, one.closes, more.2))

-- as many places were used
pub spare_left : (cs : List ChildValue) (old new : StoppedValue) → StopsAll cs old new → old.spare ≡ new.spare + length cs
spare_left [] old new same = let e : new.spare ≡ old.spare = ap (λ (x : StoppedValue). x.spare) same in omega (arith, e)
spare_left (c ∷ cs) old new (mid, one, rest) = let h = spare_left cs mid new rest in omega (arith, h, one.spare)

-- what was stopped is left
pub left_stopped : (ps : List Plan) (ls : List LogValue) → AreStoppedAs ps ls → AreLeftAs ps ls
left_stopped [] [] h = tt
left_stopped [] (l ∷ ls) h = absurd h
left_stopped (p ∷ ps) [] h = absurd h
left_stopped (p ∷ ps) (l ∷ ls) h = (inl h.0, left_stopped ps ls h.1)

pub left_next : (ps : List Plan) (ls : List LogValue) (p : Plan) (l : LogValue) → AreLeftAs ps ls → IsLeftAs p l → AreLeftAs (ps ++ p ∷ []) (ls ++ l ∷ [])
left_next [] [] p l h r = (r, tt)
left_next [] (x ∷ ls) p l h r = absurd h
left_next (q ∷ ps) [] p l h r = absurd h
left_next (q ∷ ps) (x ∷ ls) p l h r = (h.0, left_next ps ls p l h.1 r)

pub asked_for : (ps : List Plan) → AreAskedFor ps (starts_of ps)
asked_for [] = tt
asked_for (p ∷ ps) = (refl, asked_for ps)

pub asked_more : (ps : List Plan) (x : List ℕ × Bool) → AreAskedFor ps (starts_of ps ++ x ∷ [])
asked_more [] x = tt
asked_more (p ∷ ps) x = (refl, asked_more ps x)

pub asked_next : (ps : List Plan) (p : Plan) (b : Bool) → AreAskedFor (ps ++ p ∷ []) (starts_of ps ++ (p.program, b) ∷ [])
asked_next [] p b = (refl, tt)
asked_next (q ∷ ps) p b = (refl, asked_next ps p b)

-- the program that was asked for is the plan's
pub adds_of : (a b : Option Starts) (program asked : List ℕ) (gave : Bool) → asked ≡ program → AddsOne a b (asked, gave) → AddsOne a b (program, gave)
adds_of a b program asked gave e h = subst (λ (p : List ℕ). AddsOne a b (p, gave)) e h

pub may_adds : (a b : Option Starts) (program asked : List ℕ) → asked ≡ program → Stays a b ⊎ ((gave : Bool) × AddsOne a b (asked, gave)) → Stays a b ⊎ ((gave : Bool) × AddsOne a b (program, gave))
may_adds a b program asked e (inl h) = inl h
may_adds a b program asked e (inr (gave, h)) = inr (gave, adds_of a b program asked gave e h)
