use Rattle.std.proofs.Common.{◌≡◌, ◌∙◌, ℕ, List, [], ◌∷◌, map, sym, subst, arith, length, refl, true, false}
use Rattle.std.specs.Prelude.{All, IsErr, MatchResult, is_ok}
use Rattle.std.proofs.lemmas.List.{length-map}
use Rattle.std.proofs.lemmas.List.Elements.{All-map}
use Rattle.journal_model.specs.declared.opening.Opening.{Opening}
use Rattle.journal_model.specs.Journal.{is_started}
use Rattle.journal_model.specs.Legality.{Legal}
use Rattle.child_life.specs.End.Wires.{IsHeld}
use Rattle.crew_rounds.specs.Tagged.Tagged.{link_of}
use Rattle.crew_work.specs.Laws.Laws.{children_of}
use Rattle.crew_work.specs.Laws.Rounds.{LinkValue}
use Rattle.run_starts.proofs.Ending.{cores_both}
use Rattle.run_children.specs.PoolChildren.Pools.{seat_value}
use Rattle.run_children.specs.Pools.{PoolServed}
use Rattle.run_children.specs.PoolSteps.{ClosesAll, ServesLinks, StarvedLinks}
use Rattle.run_children.proofs.PoolEnding.{closes_alone, if_ok, laid_alone, links_end, pool_serving, pool_started, roomless_may, roomless_pool, serving_back, starved_ends}
use Rattle.run_children.proofs.PoolLinks.{all_mapped, all_unmapped}
use Rattle.run_children.proofs.PoolWhole.{pool_can}
use Rattle.run_children.proofs.pooling.serve_pool.Goals as goal

pub gather-requires-clause-can : goal.gather-requires-clause-can
gather-requires-clause-can g c = λ κs fresh. pool_can c.args.bench.core.opening c.args.bench.core.journal (link_of c.args.link.ear c.args.link.mouth) false c.requires.ready.can

pub settle-requires-clause-fits : goal.settle-requires-clause-fits
settle-requires-clause-fits g c = λ κs fresh.
    serving_back (map (λ l. link_of l.ear l.mouth) c.serve_links-links.result.0.items) c.in-Whole.ensures.gathers.0 c.serve_links-links.ensures.same ∙ length-map c.serve_links-links.result.0.items (λ l. link_of l.ear l.mouth) ∙ sym c.serve_links-links.result.0.ok.0

pub settle-requires-clause-room : goal.settle-requires-clause-room
settle-requires-clause-room g c = λ κs fresh.
    (let many = c.requires.desks.0 in let jobs = c.len-jobs.ensures in let most = c.in-Whole.ensures.gathers.1.most (omega (arith, many, jobs)) in let room = c.requires.room in omega (arith, jobs, most, room))

pub close_links-requires-clause-started : goal.close_links-requires-clause-started
close_links-requires-clause-started g c =
    subst (λ xs. All (λ l. is_started c.gather.new.core.journal l.ear.child ≡ true) xs) (sym c.deref.ensures.value)
    (all_unmapped (λ (l : LinkValue). is_started c.gather.new.core.journal l.ear.child ≡ true) (λ l. link_of l.ear l.mouth) c.in-NoMemory.field-0.links.items (pool_started c.in-NoMemory.ensures.gathers.0))

pub settle-requires-in-NoMemory-clause-fits : goal.settle-requires-in-NoMemory-clause-fits
settle-requires-in-NoMemory-clause-fits g c = λ κs fresh.
    pool_serving c.in-NoMemory.ensures.gathers.0 ∙ length-map c.in-NoMemory.field-0.links.items (λ l. link_of l.ear l.mouth) ∙ sym c.in-NoMemory.field-0.links.ok.0

pub settle-requires-in-NoMemory-clause-room : goal.settle-requires-in-NoMemory-clause-room
settle-requires-in-NoMemory-clause-room g c = λ κs fresh.
    (let many = c.requires.desks.0 in let jobs = c.len-jobs.ensures in let most = c.in-NoMemory.ensures.gathers.1.most (omega (arith, many, jobs)) in let room = c.requires.room in omega (arith, jobs, most, room))

pub close_child-requires-clause-started : goal.close_child-requires-clause-started
close_child-requires-clause-started g c =
    (roomless_may c.args.bench.core.opening c.args.bench.core.journal c.gather.new.core.journal (link_of c.args.link.ear c.args.link.mouth) (link_of c.in-NoRoom.link.ear c.in-NoRoom.link.mouth) _ _ c.requires.ready.can c.in-NoRoom.ensures.gathers).0

pub close_child-requires-clause-idle : goal.close_child-requires-clause-idle
close_child-requires-clause-idle g c =
    (roomless_may c.args.bench.core.opening c.args.bench.core.journal c.gather.new.core.journal (link_of c.args.link.ear c.args.link.mouth) (link_of c.in-NoRoom.link.ear c.in-NoRoom.link.mouth) _ _ c.requires.ready.can c.in-NoRoom.ensures.gathers).1

pub returns-in-Whole-clause-served : goal.returns-in-Whole-clause-served
returns-in-Whole-clause-served g c =
    let o = c.args.bench.core.opening in
    let new = c.serve_links-links.result.1.core.journal in
    let jobs : c.len-jobs.result ≡ length (map g.K.Desk.told c.args.bench.desks.items) = c.len-jobs.ensures ∙ c.args.bench.desks.ok.0 ∙ sym (length-map c.args.bench.desks.items g.K.Desk.told) in
    subst (λ (program : List ℕ). PoolServed (IsErr c.serve_links-links.result.2) o c.args.setting.now.plan.now.setup c.args.setting.now.plan.now.starts program c.args.bench.core.journal new (map g.K.Desk.told c.args.bench.desks.items) (map g.K.Desk.told c.serve_links-links.result.1.desks.items) (is_ok c.serve_links-links.result.2)
    c.args.link.ear c.args.link.mouth (g.P.Programs.told c.args.programs.now) (g.P.Programs.told c.settle.new.programs) c.args.wires.now.items c.settle.new.wires.items) c.view-program.ensures
    (links_end o c.args.setting.now.plan.now.setup c.args.setting.now.plan.now.starts c.len-jobs.result c.view-program.result.now c.args.bench.core.journal c.gather.new.core.journal new (link_of c.args.link.ear c.args.link.mouth) (g.P.Programs.told c.args.programs.now) (g.P.Programs.told c.gather.new.programs) (g.P.Programs.told c.settle.new.programs)
    (map seat_value c.in-Whole.field-0.seats.items) (map (λ l. link_of l.ear l.mouth) c.in-Whole.field-0.links.items) (map (λ l. link_of l.ear l.mouth) c.serve_links-links.result.0.items) (map g.K.Desk.told c.args.bench.desks.items) (map g.K.Desk.told c.serve_links-links.result.1.desks.items)
    c.args.wires.now.items c.settle.new.wires.items jobs c.serve_links-links.result.2 c.in-Whole.ensures.gathers.0 c.requires.ready.can c.requires.ready.last_child
    (subst (λ (w : Opening). MatchResult c.serve_links-links.result.2 (λ _. ServesLinks w c.args.setting.now.plan.now.setup c.gather.new.core.journal new (map (λ l. link_of l.ear l.mouth) c.in-Whole.field-0.links.items) (map (λ l. link_of l.ear l.mouth) c.serve_links-links.result.0.items) (map g.K.Desk.told c.args.bench.desks.items) (map g.K.Desk.told c.serve_links-links.result.1.desks.items)) (λ _. StarvedLinks c.gather.new.core.journal new (map (λ l. link_of l.ear l.mouth) c.in-Whole.field-0.links.items) (map (λ l. link_of l.ear l.mouth) c.serve_links-links.result.0.items) (map g.K.Desk.told c.args.bench.desks.items) (map g.K.Desk.told c.serve_links-links.result.1.desks.items)))
    c.gather.ensures.core.opening c.serve_links-links.ensures.serves)
    (subst (λ (w : Opening). Legal w new) (c.serve_links-links.ensures.core.opening ∙ c.gather.ensures.core.opening) (c.serve_links-links.ensures.core.legal (c.gather.ensures.core.legal c.requires.ready.can.can.serves.legal)))
    c.serve_links-links.ensures.same (if_ok c.serve_links-links.result.2 (λ h. All-map (λ (l : LinkValue). IsHeld new l.ear l.mouth) (λ l. link_of l.ear l.mouth) c.serve_links-links.result.0.items h) c.serve_links-links.ensures.held)
    (all_mapped (λ (l : LinkValue). l.mouth.child ≡ l.ear.child) (λ l. link_of l.ear l.mouth) (λ l. l.one_child) c.serve_links-links.result.0.items) c.settle.ensures.laid c.settle.ensures.starts c.settle.ensures.later)

pub returns-in-Whole-clause-core : goal.returns-in-Whole-clause-core
returns-in-Whole-clause-core g c = cores_both c.gather.ensures.core c.serve_links-links.ensures.core

pub returns-in-NoMemory-clause-served : goal.returns-in-NoMemory-clause-served
returns-in-NoMemory-clause-served g c =
    let o = c.args.bench.core.opening in
    let new = c.close_links.new.core.journal in
    let jobs : c.len-jobs.result ≡ length (map g.K.Desk.told c.args.bench.desks.items) = c.len-jobs.ensures ∙ c.args.bench.desks.ok.0 ∙ sym (length-map c.args.bench.desks.items g.K.Desk.told) in
    subst (λ (program : List ℕ). PoolServed (true ≡ true) o c.args.setting.now.plan.now.setup c.args.setting.now.plan.now.starts program c.args.bench.core.journal new (map g.K.Desk.told c.args.bench.desks.items) (map g.K.Desk.told c.args.bench.desks.items) false
    c.args.link.ear c.args.link.mouth (g.P.Programs.told c.args.programs.now) (g.P.Programs.told c.settle-in-NoMemory.new.programs) c.args.wires.now.items c.settle-in-NoMemory.new.wires.items) c.view-program.ensures
    (starved_ends o c.args.setting.now.plan.now.setup c.args.setting.now.plan.now.starts c.len-jobs.result c.view-program.result.now c.args.bench.core.journal c.gather.new.core.journal new (link_of c.args.link.ear c.args.link.mouth) (g.P.Programs.told c.args.programs.now) (g.P.Programs.told c.gather.new.programs) (g.P.Programs.told c.settle-in-NoMemory.new.programs)
    (map seat_value c.in-NoMemory.field-0.seats.items) (map (λ l. link_of l.ear l.mouth) c.in-NoMemory.field-0.links.items) (map g.K.Desk.told c.args.bench.desks.items)
    c.args.wires.now.items c.settle-in-NoMemory.new.wires.items jobs (λ w. refl) c.in-NoMemory.ensures.gathers.0 c.requires.ready.can c.requires.ready.last_child
    (subst (λ xs. ClosesAll (children_of (map (λ l. link_of l.ear l.mouth) xs)) c.gather.new.core.journal new) c.deref.ensures.value c.close_links.ensures.closes)
    (subst (λ (w : Opening). Legal w new) (c.close_links.ensures.core.opening ∙ c.gather.ensures.core.opening) (c.close_links.ensures.core.legal (c.gather.ensures.core.legal c.requires.ready.can.can.serves.legal)))
    (all_mapped (λ (l : LinkValue). l.mouth.child ≡ l.ear.child) (λ l. link_of l.ear l.mouth) (λ l. l.one_child) c.in-NoMemory.field-0.links.items) c.settle-in-NoMemory.ensures.laid c.settle-in-NoMemory.ensures.starts c.settle-in-NoMemory.ensures.later)

pub returns-in-NoMemory-clause-room : goal.returns-in-NoMemory-clause-room
returns-in-NoMemory-clause-room g c = (
  (let many = c.requires.desks.0 in let jobs = c.len-jobs.ensures in let most = c.in-NoMemory.ensures.gathers.1.most (omega (arith, many, jobs)) in let laid = c.settle-in-NoMemory.ensures.room.0 in omega (arith, jobs, most, laid)),
  c.settle-in-NoMemory.ensures.room.1,
)

pub returns-in-NoMemory-clause-core : goal.returns-in-NoMemory-clause-core
returns-in-NoMemory-clause-core g c = cores_both c.gather.ensures.core c.close_links.ensures.core

pub returns-in-NoRoom-clause-served : goal.returns-in-NoRoom-clause-served
returns-in-NoRoom-clause-served g c =
    let o = c.args.bench.core.opening in
    let new = c.close_child.new.core.journal in
    let jobs : c.len-jobs.result ≡ length (map g.K.Desk.told c.args.bench.desks.items) = c.len-jobs.ensures ∙ c.args.bench.desks.ok.0 ∙ sym (length-map c.args.bench.desks.items g.K.Desk.told) in
    let link = link_of c.in-NoRoom.link.ear c.in-NoRoom.link.mouth in
    subst (λ (program : List ℕ). PoolServed _ o c.args.setting.now.plan.now.setup c.args.setting.now.plan.now.starts program c.args.bench.core.journal new (map g.K.Desk.told c.args.bench.desks.items) (map g.K.Desk.told c.args.bench.desks.items) false
    c.args.link.ear c.args.link.mouth (g.P.Programs.told c.args.programs.now) (g.P.Programs.told c.finish.new.programs) c.args.wires.now.items c.finish.new.wires.items) c.view-program.ensures
    (starved_ends o c.args.setting.now.plan.now.setup c.args.setting.now.plan.now.starts c.len-jobs.result c.view-program.result.now c.args.bench.core.journal c.gather.new.core.journal new (link_of c.args.link.ear c.args.link.mouth) (g.P.Programs.told c.args.programs.now) (g.P.Programs.told c.gather.new.programs) (g.P.Programs.told c.finish.new.programs)
    _ _ (map g.K.Desk.told c.args.bench.desks.items) c.args.wires.now.items c.finish.new.wires.items jobs (λ w. absurd w)
    (roomless_pool o c.len-jobs.result c.view-program.result.now c.args.bench.core.journal c.gather.new.core.journal (link_of c.args.link.ear c.args.link.mouth) link (g.P.Programs.told c.args.programs.now) (g.P.Programs.told c.gather.new.programs) c.requires.ready.can c.in-NoRoom.ensures.gathers) c.requires.ready.can c.requires.ready.last_child
    (closes_alone link c.gather.new.core.journal new c.close_child.ensures.closes)
    (subst (λ (w : Opening). Legal w new) (c.close_child.ensures.core.opening ∙ c.gather.ensures.core.opening) (c.close_child.ensures.core.legal (c.gather.ensures.core.legal c.requires.ready.can.can.serves.legal)))
    (all_mapped (λ (l : LinkValue). l.mouth.child ≡ l.ear.child) (λ l. link_of l.ear l.mouth) (λ l. l.one_child) (c.in-NoRoom.link ∷ []))
    (laid_alone link c.args.wires.now.items c.finish.new.wires.items c.finish.ensures.laid) c.finish.ensures.starts c.finish.ensures.later)
