-- A get that is answered Got keeps what was stored.
use Rattle.std.proofs.Common.{◌≡◌, ℕ, ◌+◌, List, [], ◌∷◌, subst}
use Rattle.std.specs.Prelude.{false, Option, Some, map}
use Rattle.ann_key.specs.Keys.{Parts}
use Rattle.ann_outside.specs.declared.file_desk.Call.{Call}
use Rattle.annex_model.specs.Messages.{HostMessage, Transfer}
use Rattle.journal_model.specs.declared.answer.Answer.{Answer}
use Rattle.journal_model.specs.declared.answer.Answer.TheVariants as A
use Rattle.journal_model.specs.declared.entry.Entry.{Entry}
use Rattle.journal_model.specs.declared.opening.Opening.{Opening}
use Rattle.task_text.specs.declared.task.Work.{Work}
use Rattle.task_text.specs.declared.task.Work.TheVariants as W
use Rattle.task_model.specs.Askers.{Asking}
use Rattle.task_model.specs.declared.setup.Setup.{Setup}
use Rattle.task_model.specs.declared.turn.TaskTurn.{TaskTurn}
use Rattle.task_model.specs.Askings.{run_askings, run_notings}
use Rattle.task_model.specs.Names.{fetch_file}
use Rattle.task_model.specs.Requests.{AsksFor, AskInOrder}
use Rattle.task_model.specs.Gets.{asked_last, first_asked}
use Rattle.task_model.specs.Runs.{TaskRun}
use Rattle.crew_work.specs.Laws.JournalRuns.{JournalRun}
use Rattle.run_starts.specs.TaskLaws.Contents.{Shows, AreFetched}
use Rattle.run_starts.specs.TaskLaws.Changes.{Request}
use Rattle.run_starts.specs.TaskLaws.Faithful.{Told, sent, IsFaithful, IsStoredFor, AreStoredFor}
use Rattle.run_starts.specs.TaskLaws.Kept.{fetch_of}
use Rattle.run_starts.specs.TaskLaws.Retrieval.{KeepsStored}
use Rattle.run_starts.proofs.TaskLawsLemmas.GotEnds.{GotEnds, got_ends}
use Rattle.run_starts.proofs.TaskLawsLemmas.Keeping.{got_keeps}

-- the file of a transfer that fetches
named_so : (work : Work) (setup : Setup) (t : TaskTurn) (n : ℕ) (key file : List ℕ) → Transfer false key file ≡ fetch_of work setup t n key → file ≡ fetch_file setup t n
named_so W.XGet setup t n key file e = absurd cc
named_so _ setup t n key file e = cc

-- what the file of request n shows, where its key was stored
shown : (o : Opening) (setup : Setup) (told : Told) (journal : List Entry) (work : Work) (t : TaskTurn) (n : ℕ) (key : Parts) (a : Asking) (s : Request) → IsFaithful o setup told journal
    → AsksFor (fetch_of work setup t) n key a → IsStoredFor journal t a.request s → Shows (fetch_file setup t n) (sent o setup told s) (told.calls t)
shown o setup told journal work t n key a s faithful asks stored = by_request a.request asks stored
  where
    by_request : (request : Option HostMessage) → AsksFor (fetch_of work setup t) n key (record { request = request; name = a.name; verdict = a.verdict }) → IsStoredFor journal t request s
        → Shows (fetch_file setup t n) (sent o setup told s) (told.calls t)
    by_request (Some (Transfer false k file)) q (r, of_task, got) =
        let is : file ≡ fetch_file setup t n = named_so work setup t n k file q.0 in
        let P : TaskTurn → Type 0 = λ m. Shows file (sent o setup told s) (told.calls m) in
        let Q : List ℕ → Type 0 = λ f. Shows f (sent o setup told s) (told.calls t) in
        subst Q is (subst P of_task (faithful r s k file got))
    by_request request q got = absurd got

all_shown : (o : Opening) (setup : Setup) (told : Told) (journal : List Entry) (work : Work) (t : TaskTurn) (n : ℕ) (keys : List Parts) (asked : List Asking) (stores : List Request) → IsFaithful o setup told journal
    → AskInOrder (fetch_of work setup t) n keys asked → AreStoredFor journal t asked stores
    → AreFetched setup t (told.calls t) n asked (map (sent o setup told) stores)
all_shown o setup told journal work t n keys [] [] faithful asks stored = tt
all_shown o setup told journal work t n keys [] (s ∷ stores) faithful asks stored = absurd stored
all_shown o setup told journal work t n keys (a ∷ more) [] faithful asks stored = absurd stored
all_shown o setup told journal work t n [] (a ∷ more) (s ∷ stores) faithful asks stored = absurd asks
all_shown o setup told journal work t n (key ∷ keys) (a ∷ more) (s ∷ stores) faithful asks stored = (
  shown o setup told journal work t n key a s faithful asks.0 stored.0,
  all_shown o setup told journal work t (n + 1) keys more stores faithful asks.1 stored.1,
)

-- the run, where its turn is known
pub ran_in : (o : Opening) (setup : Setup) (calls : List Call) (number : ℕ) (t : TaskTurn) (journal : List Entry) (run : JournalRun o setup calls number t.task t.turn journal)
    → TaskRun run.task t setup run.layouts (run_askings run.run) calls (run_notings run.run) run.run.answer
ran_in o setup calls number t journal run =
    let P : ℕ → Type 0 = λ k. TaskRun run.task (record { task = t.task; turn = k }) setup run.layouts (run_askings run.run) calls (run_notings run.run) run.run.answer in
    subst P run.turn run.ran

pub keeps_stored : KeepsStored
keeps_stored o setup told journal number t key stores faithful got =
    got_keeps got.run.task t setup got.run.layouts (run_askings got.run.run) (told.calls t) (run_notings got.run.run) key (map (sent o setup told) stores) got.keyed ran got.afresh
    (all_shown o setup told journal got.run.task.work t (first_asked (run_askings got.run.run)) _ (asked_last (run_askings got.run.run)) stores faithful ends.asks.in_order got.stored)
  where
    ran : TaskRun got.run.task t setup got.run.layouts (run_askings got.run.run) (told.calls t) (run_notings got.run.run) A.Got
    ran = let P : Answer → Type 0 = λ x. TaskRun got.run.task t setup got.run.layouts (run_askings got.run.run) (told.calls t) (run_notings got.run.run) x in subst P got.got (ran_in o setup (told.calls t) number t journal got.run)

    ends : GotEnds setup t got.run.task.work got.run.task.file key got.run.layouts (run_askings got.run.run) (told.calls t)
    ends = got_ends got.run.task t setup got.run.layouts (run_askings got.run.run) (told.calls t) (run_notings got.run.run) key got.keyed ran
