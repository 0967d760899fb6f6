-- The texts that are printed on request.
use Rattle.std.specs.Prelude.{ℕ, List, [], ◌∷◌, ◌++◌, codes}
use Rattle.cli_words.specs.declared.command.Page.{Page}
use Rattle.cli_words.specs.declared.command.Page.TheVariants.{Overview, Check, Info, Init, Run, Audit, Recover, Rehearse, Version}
use Rattle.cli_words.specs.declared.pages.TheConstants.{OVERVIEW, CHECK, INFO, INIT, RUN, AUDIT, RECOVER, REHEARSE}

abbrev pub version_line : List ℕ
version_line = codes "special 0.1.0" ++ 10 ∷ []

abbrev pub page_text : Page → List ℕ
page_text Overview = OVERVIEW.now
page_text Check = CHECK.now
page_text Info = INFO.now
page_text Init = INIT.now
page_text Run = RUN.now
page_text Audit = AUDIT.now
page_text Recover = RECOVER.now
page_text Rehearse = REHEARSE.now
page_text Version = version_line
