use Rattle.std.specs.Prelude.{option_map}
use Rattle.ann_key.specs.KeyRefs.{text_of}
use Rattle.info_and_init.proofs.InfoLemmas.Informing.{memory_informed}
use Rattle.info_and_init.proofs.info.doing.inform_fit.Goals as goal

pub returns-in_default : goal.returns-in_default
returns-in_default g c = memory_informed c.args.program.now (option_map text_of c.args.key) (g.P.Programs.told c.args.programs.now) c.nothing_made.result c.nothing_made.ensures

pub returns-in-Err : goal.returns-in-Err
returns-in-Err g c = memory_informed c.args.program.now (option_map text_of c.args.key) (g.P.Programs.told c.args.programs.now) c.nothing_made-in-Err.result c.nothing_made-in-Err.ensures
