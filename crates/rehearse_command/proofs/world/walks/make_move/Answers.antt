use Rattle.std.proofs.Common.{ℕ, ◌+◌, ◌%◌, ◌<◌, Bool, sym, subst, arith}
use Rattle.pair_world.specs.Standing.{Stands}
use Rattle.pair_kit.specs.Stored.{ChangesFiles}
use Rattle.rehearse_command.specs.World.Walks.{Tries, place}
use Rattle.pair_kit.specs.Worlds.{WorldValue}
use Rattle.rehearse_command.proofs.WorldLemmas.Walking.{changes_none, tried_more}
use Rattle.rehearse_command.proofs.world.walks.make_move.Goals as goal

pub candidates-preserved : goal.candidates-preserved
candidates-preserved c =
    let t : ℕ = c.args.t in
    let before : ℕ = c.candidates.before in
    let tries =
    subst (λ (p : ℕ). Tries t ((p + before) % 24) c.candidates.world c.in_ok-try_move.field-0 c.try_move.new.world) c.place-from.ensures.value c.in_ok-try_move.ensures.tries in
    tried_more c.args.seed t before c.args.world.now c.candidates.world c.try_move.new.world c.candidates.invariant.0 c.candidates.invariant.1
    (subst (λ (b : Bool). Tries t ((place c.args.seed t + before) % 24) c.candidates.world b c.try_move.new.world) c.if-branch.false tries)

pub returns : goal.returns
returns c =
    let same = c.candidates.invariant.0 in
    record {
      tries = (same, λ k low. (let within : k < c.candidates.before = omega (arith, low, c.candidates-test.false) in c.candidates.invariant.1 k within));
      stands = subst Stands (sym same) c.requires.stands;
      files = subst (λ (w : WorldValue). ChangesFiles c.args.world.now w) (sym same) (changes_none c.args.world.now);
    }
