use Rattle.std.proofs.Common.{◌≡◌, ◌∙◌, ◌++◌, ◌∷◌, [], ℕ, Some, Bool, sym, ap, subst, arith}
use Rattle.std.specs.Prelude.{set, slice_get}
use Rattle.kit_async_model.specs.declared.entry.Entry.TheVariants.{Call}
use Rattle.kit_async_model.specs.declared.job.Job.{Job}
use Rattle.kit_async_model.specs.Books.{BookValue, most_calls}
use Rattle.kit_async_model.specs.Jobs.{prepared_after, settles}
use Rattle.kit_async_model.specs.Standings.{Standing, with_call}
use Rattle.kit_async_model.proofs.Places.{read_is}
use Rattle.kit_async_core.proofs.book.Book.note_call.Goals as goal

pub note_in-requires : goal.note_in-requires
note_in-requires c =
    let k = c.requires.is in
    let there = subst (λ (v : BookValue). slice_get v.stands.jobs c.args.at ≡ Some k.job) (sym c.self.view_is) k.there in
    let changed : c.index_mut.result.now ≡ k.job = read_is c.self.inside.jobs.items c.args.at k.job c.index_mut.result.now there c.index_mut.ensures.value in
    let read : c.index-job.result.now ≡ k.job = read_is c.self.inside.jobs.items c.args.at k.job c.index-job.result.now there c.index-job.ensures in
    let calls : c.index_mut.result.now.calls ≡ k.job.calls = ap (λ (j : Job). j.calls) changed in
    let most : c.most_calls-most.result ≡ most_calls c.args.setup.now k.job = c.most_calls-most.ensures ∙ ap (most_calls c.args.setup.now) read in
    omega (arith, calls, most, k.few, c.most_calls-most.type_inv)

pub returns-clause-noted : goal.returns-clause-noted
returns-clause-noted c =
    let k = c.requires.is in
    let i = c.self.inside in
    let setup = c.args.setup.now in
    let said = c.args.said in
    let place : ℕ = c.args.at in
    let s : Standing = record { due = []; tagged = i.tagged; prepared = i.prepared; told = i.told; jobs = i.jobs.items; over = i.over; closed = i.closed; unwritten = i.unwritten.items } in
    let there = subst (λ (v : BookValue). slice_get v.stands.jobs place ≡ Some k.job) (sym c.self.view_is) k.there in
    let changed : c.index_mut.result.now ≡ k.job = read_is i.jobs.items place k.job c.index_mut.result.now there c.index_mut.ensures.value in
    let read : c.index-job.result.now ≡ k.job = read_is i.jobs.items place k.job c.index-job.result.now there c.index-job.ensures in
    let settled : c.settles-settles.result ≡ settles setup k.job said = c.settles-settles.ensures ∙ ap (λ (j : Job). settles setup j said) read in
    let noted : c.note_in.new.job ≡ with_call (settles setup k.job said) k.job =
    c.note_in.ensures ∙ ap (λ (j : Job). with_call c.settles-settles.result j) changed ∙ ap (λ (b : Bool). with_call b k.job) settled in
    let prepared : c.prepared_by-prepared.result ≡ prepared_after setup k.job said s.prepared =
    c.prepared_by-prepared.ensures ∙ ap (λ (v : BookValue). prepared_after setup c.index-job.result.now said v.stands.prepared) (sym c.self.view_is)
    ∙ ap (λ (j : Job). prepared_after setup j said s.prepared) read in
    record {
      job = k.job;
      there = k.there;
      journal = c.push.ensures.entries ∙ ap (λ (j : Job). i.journal.entries ++ Call j.number c.args.remote said ∷ []) read
          ∙ ap (λ (v : BookValue). v.journal ++ Call k.job.number c.args.remote said ∷ []) c.self.view_is;
      room = omega (arith, c.push.ensures.room, ap (λ (v : BookValue). v.room) c.self.view_is);
      stands = ap (λ (p : Bool). record s { prepared = p; jobs = set s.jobs place c.note_in.new.job }) prepared
          ∙ ap (λ (j : Job). record s { prepared = prepared_after setup k.job said s.prepared; jobs = set s.jobs place j }) noted
          ∙ ap (λ (v : BookValue). record v.stands { prepared = prepared_after setup k.job said v.stands.prepared; jobs = set v.stands.jobs place (with_call (settles setup k.job said) k.job) }) c.self.view_is;
    }
