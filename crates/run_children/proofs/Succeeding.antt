-- The laws of a run by many workers.
use Rattle.ann_outside.specs.Told.{DeskTold}
use Rattle.std.proofs.Common.{◌≡◌, ℕ, ◌+◌, ◌<◌, List, [], ◌∷◌, ◌++◌, refl, true, Some, None, Option, inl, inr}
use Rattle.std.specs.Prelude.{All, is_some}
use Rattle.std.proofs.lemmas.List.Elements.{All-cons, All-head, All-nil, All-tail}
use Rattle.ann_key.specs.Keys.{Parts, key_reading}
use Rattle.journal_model.specs.declared.entry.Entry.{Entry}
use Rattle.journal_model.specs.declared.opening.Opening.{Opening}
use Rattle.journal_model.specs.Legality.{Legal}
use Rattle.task_model.specs.declared.setup.Setup.{Setup}
use Rattle.crew_work.specs.Worker.Works.{TaskDone}
use Rattle.run_starts.specs.TaskLaws.ChildrenWell.{AreKeysRead, ChildrenWell, IsDeskWell, IsDoneWell}
use Rattle.run_starts.specs.TaskLaws.RunWell.{AreAskedWell}
use Rattle.run_starts.proofs.TaskLawsLemmas.FilesStored.{file_keeps_stored, file_keeps_content}
use Rattle.run_starts.proofs.TaskLawsLemmas.OneStore.{keeps_stored_content}
use Rattle.run_starts.proofs.TaskLawsLemmas.Retrieving.{keeps_stored}
use Rattle.run_starts.proofs.TaskLawsLemmas.RunsWell.{one_succeeds}
use Rattle.run_children.specs.Desks.{AreDone, DesksDid, IsTaskDone}
use Rattle.run_children.specs.JobsKeep.{JobsKeep}
use Rattle.run_children.specs.JobsWell.{JobsSucceed, all_done}
use Rattle.run_children.proofs.NoneUnserved.{none_unserved}

module _ (o : Opening) (setup : Setup) (limit : ℕ) (journal : List Entry) where
  abbrev Well : TaskDone → Type 0
  Well r = (number : ℕ) → IsDeskWell o setup journal number r.task r.turn r.calls

  module _ (starts : 0 < limit) (keys : AreKeysRead o) (children : ChildrenWell journal) (asked : AreAskedWell o journal) where
    one_well : (r : TaskDone) → Well r → IsTaskDone o setup limit journal r → IsDoneWell o r
    one_well r desk (inr z) = absurd (none_unserved limit journal r.task starts children r.answer z.0)
    one_well r desk (inl c) = by_key (key_reading c.run.task.key) refl (keys r.task c.run.task c.run.is)
      where
        by_key : (x : Option Parts) → key_reading c.run.task.key ≡ x → is_some x ≡ true → IsDoneWell o r
        by_key None e s = absurd cc
        by_key (Some key) e s =
            one_succeeds o setup journal (record { number = c.number; task = r.task; turn = r.turn; calls = r.calls; answer = r.answer }) asked
            (record { run = c.run; answer_is = c.answer; key = key; keyed = e; desk = desk c.number c.run key e })

    all_well : (rs : List TaskDone) → All Well rs → AreDone o setup limit journal rs → All (IsDoneWell o) rs
    all_well [] h k = All-nil (IsDoneWell o)
    all_well (r ∷ rs) h k = All-cons (IsDoneWell o) r rs (one_well r (All-head Well r rs h) k.0) (all_well rs (All-tail Well r rs h) k.1)

    front : (xs ys : List TaskDone) → All Well (xs ++ ys) → All Well xs
    front [] ys h = All-nil Well
    front (x ∷ xs) ys h = All-cons Well x xs (All-head Well x (xs ++ ys) h) (front xs ys (All-tail Well x (xs ++ ys) h))

    back : (xs ys : List TaskDone) → All Well (xs ++ ys) → All Well ys
    back [] ys h = h
    back (x ∷ xs) ys h = back xs ys (All-tail Well x (xs ++ ys) h)

    both : (xs ys : List TaskDone) → All (IsDoneWell o) xs → All (IsDoneWell o) ys → All (IsDoneWell o) (xs ++ ys)
    both [] ys h k = k
    both (x ∷ xs) ys h k = All-cons (IsDoneWell o) x (xs ++ ys) (All-head (IsDoneWell o) x xs h) (both xs ys (All-tail (IsDoneWell o) x xs h) k)

    desks_well : (past entries : List Entry) (k : ℕ) (ds es : List DeskTold) (did : DesksDid o setup limit journal past entries k ds es) → All Well (all_done o setup limit journal past entries k ds es did)
        → All (IsDoneWell o) (all_done o setup limit journal past entries k ds es did)
    desks_well past entries k [] [] did h = All-nil (IsDoneWell o)
    desks_well past entries k [] (e ∷ es) did h = absurd did
    desks_well past entries k (d ∷ ds) [] did h = absurd did
    desks_well past entries k (d ∷ ds) (e ∷ es) did h =
        let rest : List TaskDone = all_done o setup limit journal past entries (k + 1) ds es did.1 in
        both did.0.done rest (all_well did.0.done (front did.0.done rest h) did.0.ran) (desks_well past entries (k + 1) ds es did.1 (back did.0.done rest h))

pub jobs_succeed : (o : Opening) (setup : Setup) (limit : ℕ) (journal past entries : List Entry) (k : ℕ) (desks desks' : List DeskTold) → JobsSucceed o setup limit journal past entries k desks desks'
jobs_succeed o setup limit journal past entries k desks desks' did w = desks_well o setup limit journal w.starts w.keys w.children w.asked past entries k desks desks' did w.desks

pub jobs_keep : (o : Opening) (setup : Setup) (journal : List Entry) → Legal o journal → JobsKeep o setup journal
jobs_keep o setup journal legal = record {
  stored = λ told number t key stores faithful got. keeps_stored o setup told journal number t key stores faithful got;
  content = λ told number t u key bytes stores faithful got plain chunks. keeps_stored_content o setup told journal number t u key bytes stores legal faithful got plain chunks;
  stored_file = λ told number t key stores faithful played got. file_keeps_stored o setup told journal number t key stores faithful played got;
  content_file = λ told number t u key bytes stores faithful played got plain chunks. file_keeps_content o setup told journal number t u key bytes stores legal faithful played got plain chunks;
}
