use Rattle.ann_outside.specs.Told.{DeskTold, ProgramsTold}
use Rattle.std.proofs.Common.{◌≡◌, ◌∙◌, List, [], ◌∷◌, Bool, false, true, inl, refl, sym, ap, subst, arith, length}
use Rattle.std.specs.Prelude.{is_some}
use Rattle.annex_model.specs.Lines.{has_newline}
use Rattle.child_life.proofs.EndLemmas.Held.{lone_held}
use Rattle.child_link.specs.Wires.{WireValue}
use Rattle.crew_work.specs.Worker.Works.{CanWork}
use Rattle.journal_model.specs.declared.opening.Opening.{Opening}
use Rattle.run_starts.specs.Stints.{HasServed}
use Rattle.run_children.specs.Servings.{FirstServed}
use Rattle.run_children.specs.Starts.{OneJobStart}
use Rattle.run_children.proofs.Firsts.{first_ok, lone_leaves}
use Rattle.run_children.proofs.alone.start_one.Goals as goal

pub serve-requires-clause-tasks : goal.serve-requires-clause-tasks
serve-requires-clause-tasks g c = (ap (λ (w : Opening). w.tasks) c.begin_one.ensures.core.opening ∙ c.requires.handed.tasks.0, c.requires.handed.tasks.1)

pub serve-requires-clause-folder : goal.serve-requires-clause-folder
serve-requires-clause-folder g c = c.requires.handed.folder

pub serve-requires-clause-can : goal.serve-requires-clause-can
serve-requires-clause-can g c =
    subst (λ (w : Opening). CanWork w c.in-Ready.child.link.ear.child c.begin_one.new.core.journal) (sym c.begin_one.ensures.core.opening) c.in-Ready.ensures.begins.0.stands.can.can

pub finish-requires-clause-room : goal.finish-requires-clause-room
finish-requires-clause-room g c =
    let same : _ ≡ _ = c.begin_one.new.wires.ok.0 ∙ ap (λ (ws : List _). length ws) c.in-Ready.ensures.begins.1 ∙ sym c.args.wires.now.ok.0 in
    let room = c.requires.room in
    let capacity = c.begin_one.ensures.room.1 in
    omega (arith, same, room, capacity)

pub returns-in-Ready-clause-starts : goal.returns-in-Ready-clause-starts
returns-in-Ready-clause-starts g c =
    let o = c.args.core.now.opening in
    let old = c.args.core.now.journal in
    let mid = c.begin_one.new.core.journal in
    let new = c.serve.new.core.journal in
    let b = c.in-Ready.ensures.begins.0 in
    let link = c.in-Ready.child.link in
    let desk : DeskTold = g.K.Desk.told c.args.desk.now in
    let desk' : DeskTold = g.K.Desk.told c.serve.new.desk in
    let before : ProgramsTold = g.P.Programs.told c.args.programs.now in
    let between : ProgramsTold = g.P.Programs.told c.begin_one.new.programs in
    let after : ProgramsTold = g.P.Programs.told c.finish.new.programs in
    let wires : List WireValue = c.begin_one.new.wires.items in
    let wires' : List WireValue = c.finish.new.wires.items in
    let keeps = c.serve.ensures.link in
    let serves : HasServed o c.args.setting.now.plan.now.setup link.ear.child mid new desk desk' = subst (λ (w : Opening). HasServed w c.args.setting.now.plan.now.setup link.ear.child mid new desk desk') c.begin_one.ensures.core.opening c.serve.ensures.serves in
    let served : FirstServed (false ≡ true) o c.args.setting.now.plan.now.setup c.args.setting.now.plan.now.starts c.args.setting.now.plan.now.program mid new (desk ∷ []) (desk' ∷ []) true link.ear link.mouth between after wires wires' =
    inl (
      inl (record { desk = desk; desk' = desk'; others = []; before = refl; after = refl; served = serves }),
      inl refl,
      lone_leaves (false ≡ true) c.args.setting.now.plan.now.program new between after
          link.ear c.serve.new.link.ear link.mouth c.serve.new.link.mouth wires wires' c.finish.ensures.starts c.finish.ensures.later keeps.same_ear keeps.same_mouth c.serve.new.link.one_child
          (lone_held new c.serve.new.link.ear c.serve.new.link.mouth (keeps.wired b.stands.can.wired)) c.finish.ensures.laid,
    ) in
    subst (λ (ws : List WireValue). OneJobStart o c.args.setting.now.plan.now.setup c.args.setting.now.plan.now.starts c.args.offer c.is_offered.result true c.args.setting.now.plan.now.program old new (desk ∷ []) (desk' ∷ []) before after ws wires') c.in-Ready.ensures.begins.1
    (subst (λ (next : Bool). OneJobStart o c.args.setting.now.plan.now.setup c.args.setting.now.plan.now.starts c.args.offer next true c.args.setting.now.plan.now.program old new (desk ∷ []) (desk' ∷ []) before after wires wires') (sym c.is_offered.ensures)
    (first_ok o c.args.setting.now.plan.now.setup c.args.setting.now.plan.now.starts c.args.offer c.in-Ready.child.tagged old mid new (desk ∷ []) (desk' ∷ []) (false ≡ true) c.args.setting.now.plan.now.program link.ear link.mouth before between after wires wires'
    c.requires.may.legal c.requires.may.left b.greeted b.legal b.ready b.tag b.adds b.later b.numbered true refl (λ e. absurd cc) served))

pub returns-in-Turned-clause-starts : goal.returns-in-Turned-clause-starts
returns-in-Turned-clause-starts g c = c.in-Turned.ensures.begins (g.K.Desk.told c.args.desk.now ∷ []) (omega arith)

pub returns-in-NoMemory-clause-starts : goal.returns-in-NoMemory-clause-starts
returns-in-NoMemory-clause-starts g c = inl (c.in-NoMemory.ensures.begins (g.K.Desk.told c.args.desk.now ∷ []))
