use Rattle.std.proofs.Common.{ℕ, ◌≡◌, ◌+◌, ◌^◌, Bool, subst, arith}
use Rattle.rehearse_command.specs.World.Walks.{TriesAll, Walks}
use Rattle.rehearse_command.proofs.WorldLemmas.Walking.{changes_more, made_more, opens_walk, walks_end, walks_out}
use Rattle.rehearse_command.proofs.world.walks.make_moves.Goals as goal

pub moves-preserved : goal.moves-preserved
moves-preserved c =
    let tries =
    subst (λ (b : Bool). TriesAll c.args.seed (c.moves.before + 1) c.moves.world b c.make_move.new.world) c.if-not-branch.false c.in_ok-make_move.ensures.tries in (
      made_more c.args.seed c.moves.before c.args.world.now c.moves.world c.make_move.new.world c.moves.invariant.0 tries,
      c.in_ok-make_move.ensures.stands,
      changes_more c.args.world.now c.moves.world c.make_move.new.world c.moves.invariant.2 c.in_ok-make_move.ensures.files,
    )

pub returns-then-not-branch-clause-opening : goal.returns-then-not-branch-clause-opening
returns-then-not-branch-clause-opening c =
    let tries =
    subst (λ (b : Bool). TriesAll c.args.seed (c.moves.before + 1) c.moves.world b c.make_move.new.world) c.if-not-branch.true c.in_ok-make_move.ensures.tries in
    opens_walk c.args.seed c.args.world.now c.make_move.new.world
    (walks_end c.args.seed c.moves.before c.args.world.now c.moves.world c.make_move.new.world c.moves.invariant.0 tries)

pub returns : goal.returns
returns c =
    let all : c.moves.before ≡ 2 ^ 63 = omega (arith, c.moves-test.false, c.moves.auto.before-end) in
    let walks : Walks c.args.seed c.args.world.now c.moves.world = walks_out c.args.seed c.moves.before c.args.world.now c.moves.world c.moves.invariant.0 all in
    record {
      walks = walks;
      opening = opens_walk c.args.seed c.args.world.now c.moves.world walks;
      stands = c.moves.invariant.1;
      files = c.moves.invariant.2;
    }
