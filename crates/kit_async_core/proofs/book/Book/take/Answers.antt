use Rattle.std.proofs.Common.{◌≡◌, ◌∙◌, ◌++◌, ◌∷◌, [], List, ℕ, Some, sym, ap, subst, get_or, arith}
use Rattle.std.specs.Prelude.{position, set, not, slice_get}
use Rattle.kit_async_model.specs.declared.entry.Entry.{Entry}
use Rattle.kit_async_model.specs.declared.entry.Entry.TheVariants.{Take}
use Rattle.kit_async_model.specs.declared.job.Job.{Job}
use Rattle.kit_async_model.specs.Books.{BookValue, Took}
use Rattle.kit_async_model.specs.Events.{take_step, work_in, waiting}
use Rattle.kit_async_model.specs.Legality.{is_idle, is_free, is_turn_of}
use Rattle.kit_async_model.specs.Standings.{Standing}
use Rattle.kit_async_model.proofs.Places.{found_place, found_none, read_is}
use Rattle.kit_async_core.proofs.Calls.{turn_took, waiting_took, none_begun, none_free, take_took}
use Rattle.kit_async_core.proofs.book.Book.take.Goals as goal
use Rattle.std.proofs.lemmas.Bool.{and_parts as both, not-true as not_false}

pub returns-in-Some-clause-ok : goal.returns-in-Some-clause-ok
returns-in-Some-clause-ok c =
    let setup = c.args.setup.now in
    let job : Job = c.index.result.now in
    let place : ℕ = c.in-Some.at in
    turn_took setup c.args.self.now c.args.remote place job c.work.result
    (ap (λ (v : BookValue). position (is_turn_of setup v.stands.jobs c.args.remote) v.stands.jobs) (sym c.self.view_is)
    ∙ ap (λ (js : List Job). position (is_turn_of setup js c.args.remote) js) (sym c.as_slice.ensures.value) ∙ sym c.in-Some.ensures)
    (subst (λ (v : BookValue). job ≡ get_or v.stands.jobs place job) c.self.view_is c.index.ensures)
    c.work.ensures

pub returns-then-not-may_begin-clause-ok : goal.returns-then-not-may_begin-clause-ok
returns-then-not-may_begin-clause-ok c =
    let setup = c.args.setup.now in
    waiting_took setup c.args.self.now c.args.remote c.waiting.result
    (ap (λ (v : BookValue). position (is_turn_of setup v.stands.jobs c.args.remote) v.stands.jobs) (sym c.self.view_is)
    ∙ ap (λ (js : List Job). position (is_turn_of setup js c.args.remote) js) (sym c.as_slice.ensures.value) ∙ sym c.in_default.ensures)
    (none_begun setup c.args.self.now.stands c.args.remote (sym c.may_begin.ensures ∙ c.if-not-may_begin.true))
    (c.waiting.ensures ∙ ap waiting c.is_done.ensures)

pub returns-in_default-first_free-clause-ok : goal.returns-in_default-first_free-clause-ok
returns-in_default-first_free-clause-ok c =
    let setup = c.args.setup.now in
    waiting_took setup c.args.self.now c.args.remote c.waiting-in_default-first_free.result
    (ap (λ (v : BookValue). position (is_turn_of setup v.stands.jobs c.args.remote) v.stands.jobs) (sym c.self.view_is)
    ∙ ap (λ (js : List Job). position (is_turn_of setup js c.args.remote) js) (sym c.as_slice.ensures.value) ∙ sym c.in_default.ensures)
    (none_free setup c.args.self.now.stands c.args.remote
    (ap (λ (v : BookValue). position (is_free setup v.stands.jobs) v.stands.jobs) (sym c.self.view_is)
    ∙ ap (λ (js : List Job). position (is_free setup js) js) (sym c.as_slice-2.ensures.value) ∙ sym c.in_default-first_free.ensures))
    (c.waiting-in_default-first_free.ensures ∙ ap waiting c.is_done-in_default-first_free.ensures)

pub returns-clause-ok : goal.returns-clause-ok
returns-clause-ok c =
    let setup = c.args.setup.now in
    let old = c.args.self.now in
    let i = c.self.inside in
    let s : Standing = record { due = []; tagged = i.tagged; prepared = i.prepared; told = i.told; jobs = i.jobs.items; over = i.over; closed = i.closed; unwritten = i.unwritten.items } in
    let remote : ℕ = c.args.remote in
    let place : ℕ = c.in-Some-first_free.at in
    let none = found_none (is_turn_of setup old.stands.jobs remote) old.stands.jobs (ap (λ (v : BookValue). position (is_turn_of setup v.stands.jobs c.args.remote) v.stands.jobs) (sym c.self.view_is)
    ∙ ap (λ (js : List Job). position (is_turn_of setup js c.args.remote) js) (sym c.as_slice.ensures.value) ∙ sym c.in_default.ensures) in
    let begins = both (not old.stands.over) (is_idle old.stands.jobs remote) (sym c.may_begin.ensures ∙ c.if-not-may_begin.false) in
    let f = found_place (is_free setup old.stands.jobs) old.stands.jobs place
    (ap (λ (v : BookValue). position (is_free setup v.stands.jobs) v.stands.jobs) (sym c.self.view_is)
    ∙ ap (λ (js : List Job). position (is_free setup js) js) (sym c.as_slice-2.ensures.value) ∙ sym c.in-Some-first_free.ensures) in
    let there = subst (λ (v : BookValue). slice_get v.stands.jobs place ≡ Some f.job) (sym c.self.view_is) f.there in
    let read : c.index-job.result.now ≡ f.job = read_is i.jobs.items place f.job c.index-job.result.now there c.index-job.ensures in
    let changed : c.index_mut.result.now ≡ f.job = read_is i.jobs.items place f.job c.index_mut.result.now there c.index_mut.ensures.value in
    let reply : work_in setup f.job ≡ c.in_ok-reply.reply = sym (c.in_ok-reply.ensures ∙ ap (work_in setup) read) in
    subst (Took setup old _ (take_step setup old.stands remote)) reply
    (take_took setup old _ remote place c.requires.apart none (not_false old.stands.over begins.0) begins.1 f
    (c.push.ensures.entries ∙ ap (λ (j : Job). c.take_room.new.self.entries ++ Take j.number remote ∷ []) read
    ∙ ap (λ (es : List Entry). es ++ Take f.job.number remote ∷ []) (c.take_room.ensures.entries ∙ ap (λ (v : BookValue). v.journal) c.self.view_is))
    (ap (λ (j : Job). record s { jobs = set s.jobs place (record j { taken = Some remote }) }) changed
    ∙ ap (λ (v : BookValue). record v.stands { jobs = set v.stands.jobs place (record f.job { taken = Some remote }) }) c.self.view_is)
    (omega (arith, c.push.ensures.room, c.in_ok-take_room.ensures.ok, ap (λ (v : BookValue). v.room) c.self.view_is)))
