-- The contracts of the three kinds of round, and of rounds in a row, for any meaning that lasts.
use Rattle.std.proofs.Common.{◌∷◌, ℕ, List}
use Rattle.threads.specs.Log.{flat}
use Rattle.threads.proofs.Logs.{get-from_all, all-from_get}
use Rattle.journal_model.specs.declared.entry.Entry.{Entry}
use Rattle.crew_work.specs.Laws.Posts.{tagged_crew, pool_crew, alone_crew}
use Rattle.crew_work.specs.Laws.Tasks.{Lasts}
use Rattle.crew_work.specs.Laws.Rounds.{KeepsPost}
use Rattle.crew_work.specs.Laws.Laws.{children_of, TaggedRound, PoolRound, AloneRound, EarlierStays}
use Rattle.crew_work.proofs.LawsLemmas.Gathering.{closed}
use Rattle.crew_work.proofs.LawsLemmas.Rounding.{tagged_keeps, tagged_round, pool_keeps, pool_round, alone_keeps, alone_round, wired_apart}

module _ (means : ℕ → ℕ → ℕ → List Entry → Type 0) (stays : Lasts means) where
  pub tagged_gathers : TaggedRound means
  tagged_gathers = λ h final fixed l main ear mouth workers over legal calm begins one_child one two three keeps hears speaks work i p there through.
      (let all = all-from_get (KeepsPost (tagged_crew l.ear.child)) (main ∷ ear ∷ mouth ∷ workers) (tagged_keeps h.fixed means stays l main ear mouth workers one two three keeps hears speaks work) in (
        flat over.0.log,
        over.0.is,
        tagged_round h.fixed means stays l main ear mouth workers one two three keeps hears speaks work h.start (flat over.0.log)
            (closed (tagged_crew l.ear.child) h (main ∷ ear ∷ mouth ∷ workers) final fixed over.0 over.1 all legal) legal calm begins one_child i p there through,
      ))

  pub pool_gathers : PoolRound means
  pool_gathers = λ h final fixed main links workers over legal calm distinct one by_place keeps manned p i there l at unclosed through.
      (let all = all-from_get (KeepsPost (pool_crew (children_of links))) (main ∷ workers) (pool_keeps h.fixed means stays main links workers one by_place keeps manned) in (
        flat over.0.log,
        over.0.is,
        pool_round h.fixed means stays main links workers one by_place keeps manned h.start (flat over.0.log)
            (closed (pool_crew (children_of links)) h (main ∷ workers) final fixed over.0 over.1 all legal) legal calm distinct p i there l at unclosed through,
      ))

  pub alone_gathers : AloneRound means
  alone_gathers = λ h final fixed l main others over legal calm unclosed one lone keeps apart through.
      (let each = get-from_all (KeepsPost (alone_crew l.ear.child)) others keeps in
      let differ = get-from_all _ others apart in
      let all = all-from_get (KeepsPost (alone_crew l.ear.child)) (main ∷ others) (alone_keeps h.fixed means stays l main others one lone each differ) in (
        flat over.0.log,
        over.0.is,
        alone_round h.fixed means stays l main others one lone each differ h.start (flat over.0.log)
            (closed (alone_crew l.ear.child) h (main ∷ others) final fixed over.0 over.1 all legal) legal calm unclosed through,
      ))

  pub earlier_stays : EarlierStays means
  earlier_stays = λ o crew numbers start rest links round l off wired. wired_apart start rest l (round.others l.ear.child off) wired
