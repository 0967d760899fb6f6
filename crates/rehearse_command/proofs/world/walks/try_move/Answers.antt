use Rattle.std.proofs.Common.{sym, ◌∙◌}
use Rattle.rehearse_command.proofs.WorldLemmas.Walking.{changes_none, tries_none, tries_step}
use Rattle.rehearse_command.proofs.world.walks.try_move.Goals as goal

pub move_of-requires-clause-few : goal.move_of-requires-clause-few
move_of-requires-clause-few c = c.requires.stands.in_step.begins.few

pub returns-in_default : goal.returns-in_default
returns-in_default c = record {
  tries = tries_none c.args.t c.args.q c.args.world.now (sym c.in_ok-step.ensures ∙ c.in_default.is);
  stands = c.requires.stands;
  files = changes_none c.args.world.now;
}

pub returns : goal.returns
returns c = record {
  tries = tries_step c.args.t c.args.q c.args.world.now c.step.new.self c.in-Some.step c.in_ok-moved.moved c.was_made.result (sym c.in_ok-step.ensures ∙ c.in-Some.is)
      c.in_ok-moved.ensures.moves c.was_made.ensures;
  stands = c.in_ok-moved.ensures.stands;
  files = c.in_ok-moved.ensures.files;
}
