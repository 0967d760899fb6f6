-- What follows of a Yes, and of a list of calls.
use Rattle.std.proofs.Common.{◌≡◌, inl, inr, ◌∙◌, ℕ, List, [], ◌∷◌, refl, sym, ap, subst, Bool, true, false, not, ◌==◌, Option, Some, None, length, cond, arith}
use Rattle.std.specs.Prelude.{◌||◌, codes, Result, Ok, Err, IfOk}
use Rattle.ann_key.specs.declared.bytes.NoMemory.{NoMemory}
use Rattle.std.specs.List.{list_all, list_any}
use Rattle.annex_model.specs.Messages.{HostMessage, Transfer, Checkpresent, Remove}
use Rattle.journal_model.specs.declared.verdict.Verdict.{Verdict}
use Rattle.kit_serve.specs.declared.kit.call.Said.{Said}
use Rattle.kit_serve.specs.declared.kit.call.Said.TheVariants.{Yes, No, Failure, Set}
use Rattle.kit_serve.specs.declared.kit.call.Asked.{Asked}
use Rattle.kit_serve.specs.declared.kit.call.Asked.TheVariants.{Prepare as AskPrepare, Initialize as AskInitialize, Store as AskStore, Retrieve as AskRetrieve, Check as AskCheck, Remove as AskRemove}
use Rattle.mirror_children.specs.declared.plan.plan.Plan.{Plan}
use Rattle.mirror_children.specs.Plan.Settings.{first_bad, plans_in}
use Rattle.mirror_children.specs.Children.{ChildValue}
use Rattle.mirror_children.specs.Rule.{all_said, check_said, failure, retrieve_said, Rules, is_absent, is_done, is_enough, last_refusal, Answers, AsksFront, GoesOn}
use Rattle.mirror_remote.specs.Mirrors.{BeginsTo, PreparesTo}
use Rattle.mirror_remote.specs.Starts.Outcomes.{MirrorValue}
use Rattle.mirror_remote.specs.Sessions.{is_prepare, is_prepared_after, prepared_by, AllDid, AreCalls, Called, IsFresh, Keeps}
use Rattle.std.proofs.lemmas.Bool.{and_parts as both, eqb-true as same_number}

-- a refusal is no Yes
refused : {A : Type 0} (cs : List ChildValue) (vs : List Verdict) → last_refusal cs vs ≡ Yes → A
refused [] [] h = absurd cc
refused [] (v ∷ vs) h = absurd cc
refused (c ∷ cs) [] h = absurd cc
refused (c ∷ cs) (v ∷ []) h = absurd cc
refused (c ∷ cs) (v ∷ w ∷ vs) h = refused cs (w ∷ vs) h

all_done : (b : Bool) (other : Said) → (other ≡ Yes → b ≡ true) → cond b Yes other ≡ Yes → b ≡ true
all_done true other never h = refl
all_done false other never h = never h

done_by_all : (cs : List ChildValue) (vs : List Verdict) → all_said cs vs ≡ Yes → list_all is_done vs ≡ true
done_by_all cs vs h = all_done (list_all is_done vs) (last_refusal cs vs) (λ e. refused cs vs e) h

done_by_check : (cs : List ChildValue) (vs : List Verdict) → check_said cs vs ≡ Yes → list_all is_done vs ≡ true
done_by_check cs vs h = all_done (list_all is_done vs) (cond (list_any is_absent vs) No (last_refusal cs vs)) (λ e. go (list_any is_absent vs) e) h
  where
    go : (b : Bool) → cond b No (last_refusal cs vs) ≡ Yes → list_all is_done vs ≡ true
    go true e = absurd cc
    go false e = refused cs vs e

-- as many were asked as there are
each_asked : (cs : List ChildValue) (vs : List Verdict) → list_all is_done vs ≡ true → is_enough is_done cs vs ≡ true → length vs ≡ length cs
each_asked cs vs done enough = same_number (length vs) (length cs) (ap (λ (b : Bool). not b || length vs == length cs) (sym done) ∙ enough)

did_each : (q : HostMessage) (old new : List ChildValue) (vs : List Verdict) → AsksFront is_done q old new vs → list_all is_done vs ≡ true → length vs ≡ length old → AllDid q old new
did_each q [] [] [] front done many = tt
did_each q [] (c ∷ new) [] front done many = absurd front
did_each q (c ∷ old) new [] front done many = absurd cc
did_each q [] new (v ∷ vs) front done many = absurd cc
did_each q (c ∷ old) [] (v ∷ vs) front done many = absurd front
did_each q (c ∷ old) (d ∷ new) (v ∷ vs) front done many =
    let t = both (is_done v) (list_all is_done vs) done in
    let rest : AsksFront is_done q old new vs = subst (λ (b : Bool). GoesOn b (AsksFront is_done q old new vs) old new vs) t.0 front.1 in
    let fewer : length vs ≡ length old = omega (arith, many) in
    ((v, front.0, t.0), did_each q old new vs rest t.1 fewer)

pub all_did : (q : HostMessage) (old new : List ChildValue) → Answers is_done q all_said old new Yes → AllDid q old new
all_did q old new a =
    let done = done_by_all new a.verdicts (sym a.is) in
    did_each q old new a.verdicts a.asked done (each_asked old a.verdicts done a.enough)

pub all_have : (q : HostMessage) (old new : List ChildValue) → Answers is_done q check_said old new Yes → AllDid q old new
all_have q old new a =
    let done = done_by_check new a.verdicts (sym a.is) in
    did_each q old new a.verdicts a.asked done (each_asked old a.verdicts done a.enough)

-- ---- lists of calls

front_none : (goes : Verdict → Bool) (q : HostMessage) (new : List ChildValue) (vs : List Verdict) → AsksFront goes q [] new vs → new ≡ []
front_none goes q [] [] f = refl
front_none goes q (c ∷ new) [] f = absurd f
front_none goes q new (v ∷ vs) f = absurd f

-- a mirror without children asks nobody
pub asks_nobody : (goes : Verdict → Bool) (q : HostMessage) (says : List ChildValue → List Verdict → Said) (old new : List ChildValue) (r : Result Said NoMemory) → old ≡ [] → Rules goes q says old new r
    → (new ≡ []) × IfOk r (λ said. said ≡ failure (codes "not prepared"))
asks_nobody goes q says [] new (Ok said) none k = k
asks_nobody goes q says [] new (Err e) none (vs, f) = (front_none goes q new vs f, tt)
asks_nobody goes q says (c ∷ old) new r none k = absurd cc

pub refuses_all : (asked : Asked) (answer : Result Said NoMemory) (old new : MirrorValue) → is_prepare asked ≡ false → old.children ≡ [] → Keeps asked answer old new
    → (new.children ≡ []) × IfOk answer (λ said. said ≡ failure (codes "not prepared"))
refuses_all (AskPrepare values) answer old new other none keeps = absurd cc
refuses_all (AskInitialize values) answer old new other none keeps = absurd cc
refuses_all (AskStore key file) answer old new other none keeps = asks_nobody is_done (Transfer true key file) all_said old.children new.children answer none keeps.0
refuses_all (AskRetrieve key file) answer old new other none keeps = asks_nobody (λ v. not (is_done v)) (Transfer false key file) retrieve_said old.children new.children answer none keeps.0
refuses_all (AskCheck key) answer old new other none keeps = asks_nobody is_done (Checkpresent key) check_said old.children new.children answer none keeps.0
refuses_all (AskRemove key) answer old new other none keeps = asks_nobody is_done (Remove key) all_said old.children new.children answer none keeps.0

-- a prepare that doesn't say Yes leaves no child
unbegun : (plans : List Plan) (old new : MirrorValue) (said : Said) → (said ≡ Yes → ⊥) → BeginsTo plans old new said → new.children ≡ []
unbegun [] old new said never (e, is) = e.children
unbegun (p ∷ ps) old new said never (inl (a, is)) = absurd (never is)
unbegun (p ∷ ps) old new said never (inr (n, s, is)) = s.none

unready : (o : Option ℕ) (plans : List Plan) (old new : MirrorValue) (said : Said) → (said ≡ Yes → ⊥) → PreparesTo o plans old new said → new.children ≡ []
unready (Some n) plans old new said never (e, is) = e.children
unready None plans old new said never b = unbegun plans old new said never b

emptied : (asked : Asked) (answer : Result Said NoMemory) (was : Bool) (old new : MirrorValue) → (was ≡ false → old.children ≡ []) → Keeps asked answer old new → prepared_by asked answer was ≡ false → new.children ≡ []
emptied (AskPrepare values) (Ok Yes) was old new known keeps h = absurd cc
emptied (AskPrepare values) (Ok (Set pairs)) was old new known keeps h = absurd cc
emptied (AskPrepare values) (Ok No) was old new known keeps h = unready (first_bad values) (plans_in values) old new No (λ e. absurd cc) keeps
emptied (AskPrepare values) (Ok (Failure text)) was old new known keeps h = unready (first_bad values) (plans_in values) old new (Failure text) (λ e. absurd cc) keeps
emptied (AskPrepare values) (Err e) was old new known keeps h = keeps.none
emptied (AskInitialize values) (Ok Yes) was old new known keeps h = absurd cc
emptied (AskInitialize values) (Ok (Set pairs)) was old new known keeps h = absurd cc
emptied (AskInitialize values) (Ok No) was old new known keeps h = unready (first_bad values) (plans_in values) old new No (λ e. absurd cc) keeps
emptied (AskInitialize values) (Ok (Failure text)) was old new known keeps h = unready (first_bad values) (plans_in values) old new (Failure text) (λ e. absurd cc) keeps
emptied (AskInitialize values) (Err e) was old new known keeps h = keeps.none
emptied (AskStore key file) answer was old new known keeps h = (refuses_all (AskStore key file) answer old new refl (known h) keeps).0
emptied (AskRetrieve key file) answer was old new known keeps h = (refuses_all (AskRetrieve key file) answer old new refl (known h) keeps).0
emptied (AskCheck key) answer was old new known keeps h = (refuses_all (AskCheck key) answer old new refl (known h) keeps).0
emptied (AskRemove key) answer was old new known keeps h = (refuses_all (AskRemove key) answer old new refl (known h) keeps).0

pub unprepared_empty : (m n : MirrorValue) (calls : List Called) → IsFresh m → AreCalls m calls n → is_prepared_after false calls ≡ false → n.children ≡ []
unprepared_empty m n calls fresh made h = go calls false m (λ e. fresh.0) made h
  where
    go : (calls : List Called) (was : Bool) (old : MirrorValue) → (was ≡ false → old.children ≡ []) → AreCalls old calls n → is_prepared_after was calls ≡ false → n.children ≡ []
    go [] was old known same h = ap (λ (x : MirrorValue). x.children) same ∙ known h
    go (call ∷ calls) was old known (mid, keeps, rest) h = go calls (prepared_by call.asked call.answer was) mid (λ e. emptied call.asked call.answer was old mid known keeps e) rest h
