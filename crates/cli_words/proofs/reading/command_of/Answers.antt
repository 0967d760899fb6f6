use Rattle.std.proofs.Common.{sym, subst}
use Rattle.std.specs.Prelude.{IfSome}
use Rattle.std.proofs.lemmas.Result.{IfOk-weaker}
use Rattle.cli_words.specs.Identities.{IsFit}
use Rattle.cli_words.specs.Ranges.{HasRanges}
use Rattle.cli_words.specs.Values.{texts_of}
use Rattle.cli_words.proofs.Fits.{command_fits}
use Rattle.cli_words.proofs.Ranging.{command_ranged}
use Rattle.cli_words.proofs.reading.command_of.Goals as goal

pub returns-clause-fit : goal.returns-clause-fit
returns-clause-fit c =
    IfOk-weaker c.command_in.result _ _ (λ command same. subst (λ o. IfSome o IsFit) (sym same) (command_fits (texts_of c.args.words.now))) c.command_in.ensures

pub returns-clause-ranges : goal.returns-clause-ranges
returns-clause-ranges c =
    IfOk-weaker c.command_in.result _ _ (λ command same. subst (λ o. IfSome o HasRanges) (sym same) (command_ranged (texts_of c.args.words.now))) c.command_in.ensures
