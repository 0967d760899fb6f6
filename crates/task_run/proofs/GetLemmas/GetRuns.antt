-- Runs of gets in the plain layout.
use Rattle.std.proofs.Common.{◌≡◌, ℕ, zero, suc, ◌-◌, List, [], ◌∷◌, refl, ap, arith, drop}
use Rattle.std.specs.Prelude.{Bool, true, not, Option, Some, None, is_none, unwrap_or}
use Rattle.std.specs.List.{filter_map, cons_option}
use Rattle.task_model.specs.Stores.{is_size}
use Rattle.task_text.specs.Layouts.Layouts.{Part}
use Rattle.ann_key.specs.Keys.{Parts}
use Rattle.journal_model.specs.declared.verdict.Verdict.TheVariants.{Done}
use Rattle.annex_model.specs.Messages.{HostMessage}
use Rattle.task_text.specs.declared.task.Task.{Task}
use Rattle.task_text.specs.declared.task.Work.TheVariants as W
use Rattle.ann_outside.specs.declared.file_desk.Call.{Call}
use Rattle.task_model.specs.Askers.{Asking}
use Rattle.journal_model.specs.declared.answer.Answer.{Answer}
use Rattle.journal_model.specs.declared.answer.Answer.TheVariants as A
use Rattle.task_model.specs.declared.setup.Setup.{Setup}
use Rattle.task_model.specs.declared.turn.TaskTurn.{TaskTurn}
use Rattle.task_model.specs.Stops.{call_stop, AnsweredBy}
use Rattle.task_model.specs.Names.{part_of, fetch_file}
use Rattle.task_model.specs.Requests.{AsksFor}
use Rattle.task_model.specs.Layouts.{chunk_sizes, sizes_tried}
use Rattle.task_model.specs.Reads.{reads_of, read_of, is_run}
use Rattle.task_model.specs.Gets.{fetch_request, GetAsks, GetAnswers, held_reads, is_wrong}
use Rattle.task_model.specs.Runs.{RunOf}
use Rattle.task_model.specs.TaskCalls.{GetCalls}
use Rattle.task_model.proofs.GetCallsLaws.{Fair, Good}
use Rattle.task_model.proofs.Lists.{all_taken, none_stop}

pub no_chunks : (size : Option ℕ) → chunk_sizes size [] ≡ []
no_chunks None = refl
no_chunks (Some n) = refl

abbrev pub get_task : List ℕ → List ℕ → Task
get_task text file = record { work = W.Get; key = text; file = file; name = []; onto = [] }

-- the one request, which is done
abbrev pub done : Option HostMessage → ℕ → Asking
done request at = record { request = request; name = None; verdict = Done at }

none_tail : {Y : Type 0} (o : Option Y) (ys : List Y) → cons_option o ys ≡ [] → ys ≡ []
none_tail None ys h = h
none_tail (Some y) ys h = cc

none_dropped : {X Y : Type 0} (f : X → Option Y) (k : ℕ) (xs : List X) → filter_map f xs ≡ [] → filter_map f (drop k xs) ≡ []
none_dropped f zero xs h = h
none_dropped f (suc k) [] h = refl
none_dropped f (suc k) (x ∷ xs) h = none_dropped f k xs (none_tail (f x) (filter_map f xs) h)

get_calls : (setup : Setup) (t : TaskTurn) (file : List ℕ) (request : Option HostMessage) (at : ℕ) (calls : List Call) → Fair file (fetch_file setup t 1) calls
    → GetCalls setup t file (done request at ∷ []) calls
get_calls setup t file request at calls f = record { names = f.names; changes = f.changes; lengths = f.lengths }

get_asks : (setup : Setup) (t : TaskTurn) (key : Parts) (file : List ℕ) (request : Option HostMessage) (at : ℕ) (calls : List Call)
    → AsksFor (fetch_request setup t) 1 key (done request at) → Fair file (fetch_file setup t 1) calls → is_run 0 (reads_of (fetch_file setup t 1) calls) ≡ true
    → GetAsks setup t key (sizes_tried key []) file (done request at ∷ []) calls
get_asks setup t key file request at calls h f r = record {
  in_order = rw (no_chunks key.size, f.no_length) ((h, tt), tt);
  each_failed = refl;
  each_begun = rw (no_chunks key.size, f.no_length) refl;
  each_right = refl;
  held_read = let e : held_reads file calls ≡ [] = none_dropped (read_of (part_of file)) _ calls f.no_read in rw e refl;
  fetched_read = rw r refl;
}

-- ---- ends

abbrev pub Run : Setup → TaskTurn → Parts → List ℕ → List ℕ → Option HostMessage → ℕ → List Call → Answer → Type 0
Run setup t key text file request at calls answer = RunOf setup t (get_task text file) key [] (done request at ∷ []) calls [] answer

-- a get that goes on so far
pub record Going (setup : Setup) (t : TaskTurn) (key : Parts) (file : List ℕ) (request : Option HostMessage) (at : ℕ) (calls : List Call) : Type 0 where
  pub asks : AsksFor (fetch_request setup t) 1 key (done request at)
  pub good : Good file (fetch_file setup t 1) [] calls
  pub run : is_run 0 (reads_of (fetch_file setup t 1) calls) ≡ true

pub run_memory : (setup : Setup) (t : TaskTurn) (key : Parts) (text file : List ℕ) (request : Option HostMessage) (at : ℕ) (calls : List Call)
    → Going setup t key file request at calls → Run setup t key text file request at calls A.Memory
run_memory setup t key text file request at calls g = record {
  asked_till_stop = refl;
  calls_till_stop = all_taken (λ call. is_none (call_stop (part_of file) call)) _ calls g.good.free;
  found = g.good.found;
  work = (get_calls setup t file request at calls g.good.fair, get_asks setup t key file request at calls g.asks g.good.fair g.run, refl);
  answered = rw (none_stop (call_stop (part_of file)) calls g.good.free) tt;
}

pub run_finished : (setup : Setup) (t : TaskTurn) (key : Parts) (text file : List ℕ) (request : Option HostMessage) (at : ℕ) (calls : List Call) (answer : Answer)
    → Going setup t key file request at calls
    → AnsweredBy [] answer (GetAnswers setup t key (sizes_tried key []) file (done request at ∷ []) calls answer)
    → Run setup t key text file request at calls answer
run_finished setup t key text file request at calls answer g h = record {
  asked_till_stop = refl;
  calls_till_stop = all_taken (λ call. is_none (call_stop (part_of file) call)) _ calls g.good.free;
  found = g.good.found;
  work = (get_calls setup t file request at calls g.good.fair, get_asks setup t key file request at calls g.asks g.good.fair g.run, refl);
  answered = rw (none_stop (call_stop (part_of file)) calls g.good.free) h;
}

-- ---- answers

whole_part : (key : Parts) → Part
whole_part key = record { key = key; from = 0; to = unwrap_or key.size 0 }

pub wrong_if : (size : Option ℕ) (part : Part) (n : ℕ) (b : Bool) → part.from ≡ 0 → part.to ≡ unwrap_or size 0 → is_size size n ≡ b → is_wrong size part n ≡ not b
wrong_if None part n b f e h = ap not h
wrong_if (Some s) part n b f e h = let k : part.to - part.from ≡ s = omega (arith, f, e) in rw k (ap not h)
