use Rattle.std.specs.Prelude.{option_map}
use Rattle.ann_key.specs.KeyRefs.{text_of}
use Rattle.info_and_init.proofs.InfoLemmas.Informing.{has_informed, sent_if}
use Rattle.info_and_init.proofs.info.doing.inform_ready.Goals as goal

pub ask_child-asked-requires-clause-key : goal.ask_child-asked-requires-clause-key
ask_child-asked-requires-clause-key g c = λ κs lives. sent_if text_of c.args.key c.requires.key

pub returns : goal.returns
returns g c =
    has_informed c.args.program.now (option_map text_of c.args.key) c.args.ready c.ask_child-asked.new.core.opening c.ask_child-asked.new.core.journal
    (g.P.Programs.told c.args.programs.now) (g.P.Programs.told c.ask_child-asked.new.programs) _ c.ask_child-asked.result
    c.requires.ready c.journal_of.ensures c.ask_child-asked.ensures.core.opening c.ask_child-asked.ensures.core.legal c.ask_child-asked.ensures.asked c.ask_child-asked.ensures.complete c.end_of.ensures
    c.ask_child-asked.ensures.leaves
