use Rattle.std.proofs.Common.{◌≡◌, ◌∙◌, inl, inr, ◌++◌, ◌∷◌, [], List, ℕ, None, Some, Option, true, ap, subst, length, arith}
use Rattle.std.specs.Prelude.{slice_get, option_map, IfSome, remove, vec_items}
use Rattle.kit_async_model.specs.declared.entry.Entry.TheVariants.{Lack}
use Rattle.kit_async_model.specs.declared.job.Job.{Job}
use Rattle.kit_async_model.specs.Books.{AnswerKept, BookValue}
use Rattle.kit_async_model.specs.Jobs.{settles}
use Rattle.kit_async_model.specs.Standings.{told_by}
use Rattle.kit_async_core.proofs.Calls.{begun_is, some_room, still_within, answered_settles, lacking_settles}
use Rattle.kit_async_core.proofs.Saying.{say_all}
use Rattle.kit_async_model.proofs.Places.{read_is}
use Rattle.kit_async_core.proofs.book.Book.settle.Goals as goal

pub note_call-requires-clause-room : goal.note_call-requires-clause-room
note_call-requires-clause-room c =
    let old = c.args.self.now in
    let mid = c.begin_answer-answer.new.self in
    let b = begun_is old mid c.args.at c.args.said (option_map vec_items c.begin_answer-answer.result) c.begin_answer-answer.ensures.begun in
    omega (arith, some_room c.args.setup.now old c.args.remote c.args.said c.args.at c.requires.is c.requires.room, b.room)

pub say_all-requires : goal.say_all-requires
say_all-requires c =
    let old = c.args.self.now in
    let mid = c.begin_answer-answer.new.self in
    let kept : AnswerKept old mid c.args.at c.args.said c.in-Some.lines.items = c.in-Some.ensures.begun in
    omega (arith, some_room c.args.setup.now old c.args.remote c.args.said c.args.at c.requires.is c.requires.room, kept.room, c.note_call.ensures.noted.room, ap (λ (v : BookValue). v.room) c.self-in-Some.view_is)

pub close_job-requires : goal.close_job-requires
close_job-requires c =
    let old = c.args.self.now in
    let mid = c.begin_answer-answer.new.self in
    let b = begun_is old mid c.args.at c.args.said (Some c.in-Some.lines.items) c.in-Some.ensures.begun in
    let within = still_within c.args.setup.now old mid c.note_call.new.self c.args.remote c.args.said c.args.at c.requires.is b c.note_call.ensures.noted in
    omega (arith, within, ap (λ (v : BookValue). length v.stands.jobs) c.self-in-Some.view_is)

pub push-requires : goal.push-requires
push-requires c =
    let old = c.args.self.now in
    let mid = c.begin_answer-answer.new.self in
    let b = begun_is old mid c.args.at c.args.said None c.in-None.ensures.begun in
    omega (arith, some_room c.args.setup.now old c.args.remote c.args.said c.args.at c.requires.is c.requires.room, b.room, c.note_call.ensures.noted.room, ap (λ (v : BookValue). v.room) c.self-in-None.view_is)

pub returns-in-Some-clause-took : goal.returns-in-Some-clause-took
returns-in-Some-clause-took c =
    let setup = c.args.setup.now in
    let old = c.args.self.now in
    let mid = c.begin_answer-answer.new.self in
    let place : ℕ = c.args.at in
    let k = c.requires.is in
    let lines : List (List ℕ) = c.in-Some.lines.items in
    let n : ℕ = c.index.result.now.number in
    let settled : settles setup k.job c.args.said ≡ true = subst (λ (o : Option Job). IfSome o (λ job. settles setup job c.args.said ≡ true)) k.there c.requires.settles in
    let b = begun_is old mid place c.args.said (Some lines) c.in-Some.ensures.begun in
    let there : slice_get c.self.inside.jobs.items place ≡ Some k.job =
    ap (λ (v : BookValue). slice_get v.stands.jobs place) c.self.view_is ∙ ap (λ (js : List Job). slice_get js place) b.jobs ∙ k.there in
    let number : n ≡ k.job.number = ap (λ (j : Job). j.number) (read_is c.self.inside.jobs.items place k.job c.index.result.now there c.index.ensures) in
    inl (answered_settles setup old mid c.note_call.new.self _ c.args.remote c.args.said place n lines c.requires.apart k c.requires.live settled number
    c.in-Some.ensures.begun c.note_call.ensures.noted
    (c.close_job.ensures.journal ∙ c.say_all.ensures.entries ∙ ap (λ (v : BookValue). v.journal ++ say_all n lines) c.self-in-Some.view_is)
    (subst (λ (v : BookValue). IfSome (slice_get v.stands.jobs place) (λ job. c.close_job.new.self.stands ≡ record v.stands { due = []; told = told_by v.stands.prepared job v.stands.told; jobs = remove v.stands.jobs place }))
    c.self-in-Some.view_is c.close_job.ensures.stands)
    (omega (arith, c.close_job.ensures.room, c.say_all.ensures.room, ap (λ (v : BookValue). v.room) c.self-in-Some.view_is)))

pub returns-in-None-clause-took : goal.returns-in-None-clause-took
returns-in-None-clause-took c =
    let setup = c.args.setup.now in
    let old = c.args.self.now in
    let mid = c.begin_answer-answer.new.self in
    let k = c.requires.is in
    let i = c.self-in-None.inside in
    let settled : settles setup k.job c.args.said ≡ true = subst (λ (o : Option Job). IfSome o (λ job. settles setup job c.args.said ≡ true)) k.there c.requires.settles in
    inr (lacking_settles setup old mid c.note_call.new.self _ c.args.remote c.args.said c.args.at c.requires.apart k c.requires.live settled
    c.in-None.ensures.begun c.note_call.ensures.noted
    (c.push.ensures.entries ∙ ap (λ (v : BookValue). v.journal ++ Lack ∷ []) c.self-in-None.view_is)
    (ap (λ (v : BookValue). record v.stands { due = []; over = true }) c.self-in-None.view_is)
    (omega (arith, c.push.ensures.room, ap (λ (v : BookValue). v.room) c.self-in-None.view_is)))
