-- What the roles of a round over a tagged child leave, put together.
use Rattle.std.proofs.Common.{◌≡◌, ℕ, List, [], ◌∷◌, refl, sym, subst, ◌∙◌, Some, zero, suc, arith}
use Rattle.std.specs.Prelude.{All, slice_get}
use Rattle.std.proofs.lemmas.List.{append_cancel_left}
use Rattle.std.proofs.lemmas.List.Elements.{All-nil, All-cons, All-head, All-tail}
use Rattle.threads.specs.Log.{flat}
use Rattle.journal_model.specs.declared.entry.Entry.{Entry}
use Rattle.journal_model.specs.declared.opening.Opening.{Opening}
use Rattle.crew_work.specs.Laws.Posts.{Post, tagged_crew}
use Rattle.crew_work.specs.Laws.Rounds.{CorePass, KeepsPost, Round, WorkerEnds}
use Rattle.crew_work.specs.Laws.Laws.{GoesOn, numbers_of}
use Rattle.crew_work.proofs.LawsLemmas.Gathering.{Closed, closed, turns_in}
use Rattle.crew_work.proofs.LawsLemmas.WholeRounds.{tagged_gathers}
use Rattle.crew_work.specs.Worker.Works.{TaskDone}
use Rattle.crew_work.specs.Laws.JournalRuns.{HasJournalRun}
use Rattle.crew_work.proofs.LawsLemmas.Lasting.{run_lasts}
use Rattle.crew_rounds.specs.Tagged.Crewing.{WorkerTells, calls_from}
use Rattle.crew_rounds.specs.Tagged.TaggedRounds.{TaggedCloses, passes_of}
use Rattle.crew_rounds.proofs.TaggedLemmas.Crewing.{Own, did_all, dones_of, ends_all}
use Rattle.crew_rounds.proofs.TaggedLemmas.Started.{started_positive}

all_keep : (o : Opening) (means : ℕ → ℕ → ℕ → List Entry → Type 0) (crew : ℕ → Post) (c : ℕ) (ps : List CorePass) → All (WorkerEnds o means crew c) ps → All (KeepsPost crew) ps
all_keep o means crew c [] h = All-nil (KeepsPost crew)
all_keep o means crew c (p ∷ ps) h =
    All-cons (KeepsPost crew) p ps (All-head (WorkerEnds o means crew c) p ps h).keeps (all_keep o means crew c ps (All-tail (WorkerEnds o means crew c) p ps h))

own_all : (o : Opening) (start rest : List Entry) (es : List WorkerTells) → ((i : ℕ) (p : CorePass) → slice_get (passes_of es) i ≡ Some p → Own o start rest p)
    → All (λ (e : WorkerTells). Own o start rest e.pass) es
own_all o start rest [] f = All-nil (λ (e : WorkerTells). Own o start rest e.pass)
own_all o start rest (e ∷ es) f = All-cons (λ (e : WorkerTells). Own o start rest e.pass) e es (f zero e.pass refl) (own_all o start rest es (λ i p is. f (suc i) p is))

pub tagged_closes : TaggedCloses
tagged_closes h setup final fixed l main ear mouth desks workers over legal calm begins one_child one two three keeps hears speaks manned i p there through = (
  rest,
  over.0.is,
  record {
    dones = dones;
    round = subst (λ (x : List Entry). Round h.fixed means (tagged_crew c) (numbers_of (main ∷ ear ∷ mouth ∷ passes_of workers)) h.start x (l ∷ [])) same goes.2;
    desks_did = did_all h setup c h.start rest (started_positive h.fixed h.start legal c begins.started) 4 desks workers manned
        (own_all h.fixed h.start rest workers (λ j q is. own_at (suc (suc (suc j))) q is));
  },
)
  where
    c : ℕ
    c = l.ear.child

    dones : List (List TaskDone)
    dones = dones_of h setup c 4 desks workers manned

    means : ℕ → ℕ → ℕ → List Entry → Type 0
    means = HasJournalRun h.fixed setup (calls_from 4 dones)

    ends : All (WorkerEnds h.fixed means (tagged_crew c) c) (passes_of workers)
    ends = ends_all h setup c (calls_from 4 dones) 4 desks workers manned (omega arith) (λ n t k far. refl)

    rest : List Entry
    rest = flat over.0.log

    goes : GoesOn h.start final (λ x. Round h.fixed means (tagged_crew c) (numbers_of (main ∷ ear ∷ mouth ∷ passes_of workers)) h.start x (l ∷ []))
    goes = tagged_gathers means (run_lasts h.fixed setup (calls_from 4 dones)) h final fixed l main ear mouth (passes_of workers) over legal calm begins one_child one two three
        keeps hears speaks ends i p there through

    same : goes.0 ≡ rest
    same = append_cancel_left h.start goes.0 rest (sym goes.1 ∙ over.0.is)

    all : All (KeepsPost (tagged_crew c)) (main ∷ ear ∷ mouth ∷ passes_of workers)
    all = All-cons (KeepsPost (tagged_crew c)) main (ear ∷ mouth ∷ passes_of workers) keeps
        (All-cons (KeepsPost (tagged_crew c)) ear (mouth ∷ passes_of workers) hears.keeps
        (All-cons (KeepsPost (tagged_crew c)) mouth (passes_of workers) speaks.keeps (all_keep h.fixed means (tagged_crew c) c (passes_of workers) ends)))

    shut : Closed h.fixed (tagged_crew c) h.start rest (main ∷ ear ∷ mouth ∷ passes_of workers)
    shut = closed (tagged_crew c) h (main ∷ ear ∷ mouth ∷ passes_of workers) final fixed over.0 over.1 all legal

    own_at : (k : ℕ) (q : CorePass) → slice_get (main ∷ ear ∷ mouth ∷ passes_of workers) k ≡ Some q → Own h.fixed h.start rest q
    own_at k q is = (shut.saw k q is, turns_in h.fixed (tagged_crew c) h.start rest (main ∷ ear ∷ mouth ∷ passes_of workers) shut k q is)
