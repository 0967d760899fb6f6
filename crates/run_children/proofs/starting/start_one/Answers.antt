use Rattle.ann_outside.specs.Told.{DeskTold, ProgramsTold}
use Rattle.std.proofs.Common.{◌≡◌, ◌<◌, ◌∙◌, ℕ, List, Bool, true, inl, map, sym, ap, subst, arith, length}
use Rattle.std.specs.Prelude.{IsErr, is_ok}
use Rattle.std.proofs.lemmas.List.{length-map}
use Rattle.ann_key.proofs.Numbers.{ok_no_err}
use Rattle.child_link.specs.Wires.{WireValue}
use Rattle.journal_model.specs.declared.opening.Opening.{Opening}
use Rattle.run_children.specs.Runs.{IsHanded}
use Rattle.run_children.specs.Servings.{FirstServed, StandsReady}
use Rattle.run_children.specs.Starts.{OneJobStart, RunLacksMemory}
use Rattle.run_children.proofs.Firsts.{first_err, first_ok}
use Rattle.run_children.proofs.starting.start_one.Goals as goal

pub begin_one-requires-clause-room : goal.begin_one-requires-clause-room
begin_one-requires-clause-room g c = λ κs fresh. (let some = c.requires.desks.0 in let room = c.requires.room in omega (arith, some, room))

pub serve_child-bench-requires-clause-handed : goal.serve_child-bench-requires-clause-handed
serve_child-bench-requires-clause-handed g c = λ κs fresh.
    subst (λ (w : Opening). IsHanded w c.args.setting.now.tasks.now c.args.setting.now.plan.now.setup) (sym c.begin_one.ensures.core.opening) c.requires.handed

pub serve_child-bench-requires-clause-ready : goal.serve_child-bench-requires-clause-ready
serve_child-bench-requires-clause-ready g c = λ κs fresh.
    subst (λ (w : Opening). StandsReady w c.begin_one.new.core.journal c.in-Ready.child.link.ear c.in-Ready.child.link.mouth c.in-Ready.child.tagged) (sym c.begin_one.ensures.core.opening) c.in-Ready.ensures.begins.0.stands

pub serve_child-bench-requires-clause-room : goal.serve_child-bench-requires-clause-room
serve_child-bench-requires-clause-room g c = λ κs fresh.
    let same : _ ≡ _ = c.begin_one.new.wires.ok.0 ∙ ap (λ (ws : List _). length ws) c.in-Ready.ensures.begins.1 ∙ sym c.args.wires.now.ok.0 in
    let room = c.requires.room in
    let capacity = c.begin_one.ensures.room.1 in
    omega (arith, same, room, capacity)

pub returns-in-Ok-clause-starts : goal.returns-in-Ok-clause-starts
returns-in-Ok-clause-starts g c =
    let o = c.args.bench.core.opening in
    let old = c.args.bench.core.journal in
    let mid = c.begin_one.new.core.journal in
    let new = c.serve_child-bench.result.0.core.journal in
    let b = c.in-Ready.ensures.begins.0 in
    let link = c.in-Ready.child.link in
    let desks : List DeskTold = map g.K.Desk.told c.args.bench.desks.items in
    let desks' : List DeskTold = map g.K.Desk.told c.serve_child-bench.result.0.desks.items in
    let before : ProgramsTold = g.P.Programs.told c.args.programs.now in
    let between : ProgramsTold = g.P.Programs.told c.begin_one.new.programs in
    let after : ProgramsTold = g.P.Programs.told c.serve_child-bench.new.programs in
    let wires : List WireValue = c.begin_one.new.wires.items in
    let wires' : List WireValue = c.serve_child-bench.new.wires.items in
    let r = c.serve_child-bench.result.1 in
    let served = subst (λ (w : Opening). FirstServed (IsErr r) w c.args.setting.now.plan.now.setup c.args.setting.now.plan.now.starts c.args.setting.now.plan.now.program mid new desks desks' (is_ok r) link.ear link.mouth between after wires wires') c.begin_one.ensures.core.opening c.serve_child-bench.ensures.served in
    subst (λ (ws : List WireValue). OneJobStart o c.args.setting.now.plan.now.setup c.args.setting.now.plan.now.starts c.args.offer c.is_offered.result true c.args.setting.now.plan.now.program old new desks desks' before after ws wires') c.in-Ready.ensures.begins.1
    (subst (λ (next : Bool). OneJobStart o c.args.setting.now.plan.now.setup c.args.setting.now.plan.now.starts c.args.offer next true c.args.setting.now.plan.now.program old new desks desks' before after wires wires') (sym c.is_offered.ensures)
    (first_ok o c.args.setting.now.plan.now.setup c.args.setting.now.plan.now.starts c.args.offer c.in-Ready.child.tagged old mid new desks desks' (IsErr r) c.args.setting.now.plan.now.program link.ear link.mouth before between after wires wires'
    c.requires.may.legal c.requires.may.left b.greeted b.legal b.ready b.tag b.adds b.later b.numbered (is_ok r) (ap is_ok c.in-Ok.is) (ok_no_err r _ c.in-Ok.is) served))

pub returns-in-Err-clause-starts : goal.returns-in-Err-clause-starts
returns-in-Err-clause-starts g c =
    let o = c.args.bench.core.opening in
    let old = c.args.bench.core.journal in
    let mid = c.begin_one.new.core.journal in
    let new = c.serve_child-bench.result.0.core.journal in
    let b = c.in-Ready.ensures.begins.0 in
    let link = c.in-Ready.child.link in
    let desks : List DeskTold = map g.K.Desk.told c.args.bench.desks.items in
    let desks' : List DeskTold = map g.K.Desk.told c.serve_child-bench.result.0.desks.items in
    let before : ProgramsTold = g.P.Programs.told c.args.programs.now in
    let between : ProgramsTold = g.P.Programs.told c.begin_one.new.programs in
    let after : ProgramsTold = g.P.Programs.told c.serve_child-bench.new.programs in
    let wires : List WireValue = c.begin_one.new.wires.items in
    let wires' : List WireValue = c.serve_child-bench.new.wires.items in
    let r = c.serve_child-bench.result.1 in
    let served = subst (λ (w : Opening). FirstServed (IsErr r) w c.args.setting.now.plan.now.setup c.args.setting.now.plan.now.starts c.args.setting.now.plan.now.program mid new desks desks' (is_ok r) link.ear link.mouth between after wires wires') c.begin_one.ensures.core.opening c.serve_child-bench.ensures.served in
    subst (λ (ws : List WireValue). RunLacksMemory o c.args.setting.now.plan.now.setup c.args.setting.now.plan.now.starts c.args.offer c.args.setting.now.plan.now.program old new desks desks' before after ws wires') c.in-Ready.ensures.begins.1
    (first_err o c.args.setting.now.plan.now.setup c.args.setting.now.plan.now.starts c.args.offer c.in-Ready.child.tagged old mid new desks desks' (IsErr r) c.args.setting.now.plan.now.program link.ear link.mouth before between after wires wires'
    c.requires.may.legal c.requires.may.left b.greeted b.legal b.ready b.tag b.adds b.later b.numbered (is_ok r) (ap is_ok c.in-Err.is) served)

pub returns-in-Turned-clause-starts : goal.returns-in-Turned-clause-starts
returns-in-Turned-clause-starts g c =
    c.in-Turned.ensures.begins (map g.K.Desk.told c.args.bench.desks.items)
    (subst (λ (n : ℕ). 0 < n) (c.args.bench.desks.ok.0 ∙ sym (length-map c.args.bench.desks.items g.K.Desk.told)) c.requires.desks.0)

pub returns-in-NoMemory-clause-starts : goal.returns-in-NoMemory-clause-starts
returns-in-NoMemory-clause-starts g c = inl (c.in-NoMemory.ensures.begins (map g.K.Desk.told c.args.bench.desks.items))
