-- What a worker did, task by task.
use Rattle.std.proofs.Common.{◌≡◌, ℕ, ◌<◌, List, [], ◌∷◌, ◌++◌, refl, sym, ap, subst, ◌∙◌, Bool, true, false, not, ◌==◌, cond, None, Option, arith, append_assoc, append-nil}
use Rattle.std.specs.Prelude.{◌&&◌, ◌||◌, if◌then◌else◌}
use Rattle.std.specs.List.{list_all, list_any, cons_option}
use Rattle.ann_outside.specs.DeskCauses.{Counts}
use Rattle.ann_outside.specs.declared.file_desk.Call.{Call}
use Rattle.journal_model.specs.declared.answer.Answer.{Answer}
use Rattle.journal_model.specs.declared.entry.What.{What}
use Rattle.journal_model.specs.declared.entry.What.TheVariants.{Claim, Ask, Lost, Note, Answer as Answered, Again}
use Rattle.journal_model.specs.declared.entry.Entry.{Entry}
use Rattle.journal_model.specs.declared.opening.Opening.{Opening}
use Rattle.journal_model.specs.Legality.{Legal, claims}
use Rattle.journal_model.specs.Makers.{is_taken_by}
use Rattle.journal_model.specs.Room.{claims_left}
use Rattle.journal_model.specs.Shares.{are_by, makes_only}
use Rattle.journal_model.proofs.ClaimsLeft.{claims_left_less}
use Rattle.journal_model.proofs.Looks.{entry}
use Rattle.task_model.specs.declared.setup.Setup.{Setup}
use Rattle.task_model.specs.declared.turn.TaskTurn.{TaskTurn}
use Rattle.task_model.specs.Askings.{closing}
use Rattle.crew_work.specs.Worker.Servings.{by_server}
use Rattle.crew_work.specs.Laws.Tasks.{claimed_turn, turns_by}
use Rattle.crew_work.proofs.LawsLemmas.Lasting.{run_stays}
use Rattle.crew_work.specs.Worker.Works.{AllRan, CausedInTurn, RanFor, TaskDone, all_calls, by_worker, ends_closed, is_closing, turns_of}
use Rattle.std.proofs.lemmas.Bool.{and_parts as both, eqb-true as same_number}
use Rattle.ann_key.proofs.Booleans.{left_false as either_left, right_false as either_right, or_neither as neither}

-- ---- lists

pub calls_both : (xs ys : List TaskDone) → all_calls (xs ++ ys) ≡ all_calls xs ++ all_calls ys
calls_both [] ys = refl
calls_both (r ∷ xs) ys = ap (λ (l : List Call). r.calls ++ l) (calls_both xs ys) ∙ sym (append_assoc r.calls (all_calls xs) (all_calls ys))

pub turns_both : (xs ys : List TaskDone) → turns_of (xs ++ ys) ≡ turns_of xs ++ turns_of ys
turns_both [] ys = refl
turns_both (r ∷ xs) ys = ap (λ (l : List (ℕ × ℕ)). (r.task, r.turn) ∷ l) (turns_both xs ys)

-- entries of a role that claims nothing, by its number, claim nothing by it
pub turns_by-none : (makes : What → Bool) → ((past : List Entry) (w : What) → makes w ≡ true → claimed_turn past w ≡ None) → (n : ℕ) (past xs : List Entry) → makes_only makes n xs ≡ true
    → turns_by n past xs ≡ []
turns_by-none makes none n past [] own = refl
turns_by-none makes none n past (e ∷ xs) own =
    let s : ((not (e.by == n) || makes e.what) ≡ true) × (makes_only makes n xs ≡ true) = both (not (e.by == n) || makes e.what) (makes_only makes n xs) own in
    ap (λ (o : Option (ℕ × ℕ)). cons_option o (turns_by n (past ++ e ∷ []) xs)) (go (e.by == n) s.0) ∙ turns_by-none makes none n (past ++ e ∷ []) xs s.1
  where
    go : (b : Bool) → (not b || makes e.what) ≡ true → (if b then claimed_turn past e.what else None) ≡ None
    go true h = none past e.what h
    go false h = refl

-- a task of which no turn was taken is not taken
pub turns_untaken : (n v : ℕ) (past xs : List Entry) → list_any (λ (u : ℕ × ℕ). u.0 == v) (turns_by n past xs) ≡ false → is_taken_by xs n v ≡ false
turns_untaken n v past [] h = refl
turns_untaken n v past (e ∷ xs) h = go (e.by == n) e.what h (turns_untaken n v (past ++ e ∷ []) xs)
  where
    go : (b : Bool) (w : What) → list_any (λ (u : ℕ × ℕ). u.0 == v) (cons_option (cond b (claimed_turn past w) None) (turns_by n (past ++ e ∷ []) xs)) ≡ false
        → (list_any (λ (u : ℕ × ℕ). u.0 == v) (turns_by n (past ++ e ∷ []) xs) ≡ false → is_taken_by xs n v ≡ false) → ((b && claims v w) || is_taken_by xs n v) ≡ false
    go false w k r = r k
    go true (Claim task child) k r = neither (task == v) (is_taken_by xs n v) (either_left (task == v) (list_any (λ (u : ℕ × ℕ). u.0 == v) (turns_by n (past ++ e ∷ []) xs)) k)
        (r (either_right (task == v) (list_any (λ (u : ℕ × ℕ). u.0 == v) (turns_by n (past ++ e ∷ []) xs)) k))
    go true w k r = r k

-- what closes a run is the last of what stands after others
pub ends_behind : (xs : List Entry) (y : Entry) (ys : List Entry) → ends_closed (y ∷ ys) ≡ true → ends_closed (xs ++ y ∷ ys) ≡ true
ends_behind [] y ys h = h
ends_behind (x ∷ []) y ys h = h
ends_behind (x ∷ z ∷ xs) y ys h = ends_behind (z ∷ xs) y ys h

pub ends_both : (xs ys : List Entry) → ends_closed xs ≡ true → ends_closed ys ≡ true → ends_closed (xs ++ ys) ≡ true
ends_both xs [] h k = ap ends_closed (append-nil xs) ∙ h
ends_both xs (y ∷ ys) h k = ends_behind xs y ys k

pub caused_both : (a b d : Counts) (xs ys : List TaskDone) → CausedInTurn a xs b → CausedInTurn b ys d → CausedInTurn a (xs ++ ys) d
caused_both a b d [] ys h k = subst (λ (w : Counts). CausedInTurn w ys d) h k
caused_both a b d (r ∷ xs) ys h k = (h.0, caused_both r.counts b d xs ys h.1 k)

pub ran_both : (o : Opening) (setup : Setup) (n c : ℕ) (journal : List Entry) (xs ys : List TaskDone) → AllRan o setup n c journal xs → AllRan o setup n c journal ys → AllRan o setup n c journal (xs ++ ys)
ran_both o setup n c journal [] ys h k = k
ran_both o setup n c journal (r ∷ xs) ys h k = (h.0, ran_both o setup n c journal xs ys h.1 k)

-- ---- what stays

-- a run so far stays
pub run_lasts : (o : Opening) (setup : Setup) (calls : List Call) (n c : ℕ) (u : TaskTurn) (answer : Answer) (past more : List Entry) → RanFor o setup calls n c u answer past → RanFor o setup calls n c u answer (past ++ more)
run_lasts o setup calls n c u answer past more h =
    let still = run_stays o setup calls n u.task u.turn past more h.run in
    record { run = still.0; child = still.1 ∙ h.child; answer_is = still.2 ∙ h.answer_is }

-- and so does each
pub runs_last : (o : Opening) (setup : Setup) (n c : ℕ) (past more : List Entry) (runs : List TaskDone) → AllRan o setup n c past runs → AllRan o setup n c (past ++ more) runs
runs_last o setup n c past more [] h = tt
runs_last o setup n c past more (r ∷ runs) h = (
  run_lasts o setup r.calls n c (record { task = r.task; turn = r.turn }) r.answer past more h.0,
  runs_last o setup n c past more runs h.1,
)

-- ---- one task

-- who serves a task that is one works
pub server_works : (c t : ℕ) → (t == 0) ≡ false → (w : What) → by_server c t w ≡ true → by_worker true c w ≡ true
server_works c t some (Ask child job task line) h =
    let s = both (child == c) (task == t) h in
    let e : (task == 0) ≡ false = ap (λ (k : ℕ). k == 0) (same_number task t s.1) ∙ some in
    rw (s.0, e) refl
server_works c t some (Lost child task) h =
    let s = both (child == c) (task == t) h in
    let e : (task == 0) ≡ false = ap (λ (k : ℕ). k == 0) (same_number task t s.1) ∙ some in
    rw (s.0, e) refl
server_works c t some (Note task chunk count) h = refl
server_works c t some (Claim task child) h = absurd cc
server_works c t some (Answered task answer) h = absurd cc
server_works c t some (Again task answer) h = absurd cc
server_works c t some w h = h

pub all_made : (makes p : What → Bool) → ((w : What) → makes w ≡ true → p w ≡ true) → (n : ℕ) (more : List Entry) → makes_only makes n more ≡ true → are_by n more ≡ true → list_all (λ (e : Entry). p e.what) more ≡ true
all_made makes p wide n [] own by = refl
all_made makes p wide n (e ∷ more) own by =
    let s : ((not (e.by == n) || makes e.what) ≡ true) × (makes_only makes n more ≡ true) = both (not (e.by == n) || makes e.what) (makes_only makes n more) own in
    let b : ((e.by == n) ≡ true) × (are_by n more ≡ true) = both (e.by == n) (are_by n more) by in
    rw (wide e.what (go (e.by == n) b.0 s.0), all_made makes p wide n more s.1 b.1) refl
  where
    go : (b : Bool) → b ≡ true → (not b || makes e.what) ≡ true → makes e.what ≡ true
    go true i h = h
    go false i h = absurd cc

pub server_claims_none : (c t : ℕ) (past : List Entry) (w : What) → by_server c t w ≡ true → claimed_turn past w ≡ None
server_claims_none c t past (Claim task child) h = absurd cc
server_claims_none c t past w h = refl

pub closing_works : (owns : Bool) (c : ℕ) (renewed : Bool) (t : ℕ) (answer : Answer) → by_worker owns c (closing renewed t answer) ≡ true
closing_works owns c true t answer = refl
closing_works owns c false t answer = refl

pub closing_closes : (renewed : Bool) (t : ℕ) (answer : Answer) → is_closing (closing renewed t answer) ≡ true
closing_closes true t answer = refl
closing_closes false t answer = refl

pub closing_claims : (past : List Entry) (renewed : Bool) (t : ℕ) (answer : Answer) → claimed_turn past (closing renewed t answer) ≡ None
closing_claims past true t answer = refl
closing_claims past false t answer = refl

-- ---- fewer claims are left

pub fewer_left : (o : Opening) (past new more : List Entry) (n c t : ℕ) → Legal o new → new ≡ (past ++ entry n (Claim t c) ∷ []) ++ more → claims_left o new < claims_left o past
fewer_left o past new more n c t legal is =
    let so : new ≡ past ++ entry n (Claim t c) ∷ more = is ∙ append_assoc past (entry n (Claim t c) ∷ []) more in
    subst (λ (x : List Entry). claims_left o x < claims_left o past) (sym so)
    (claims_left_less o past (entry n (Claim t c) ∷ more) (subst (Legal o) so legal) (omega arith))
