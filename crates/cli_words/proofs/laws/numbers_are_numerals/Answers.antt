use Rattle.cli_words.proofs.Numerals.{number_given, number_read}
use Rattle.cli_words.proofs.laws.numbers_are_numerals.Goals as goal

pub returns-clause-read : goal.returns-clause-read
returns-clause-read c = λ least most n text. number_read least most text n

pub returns-clause-given : goal.returns-clause-given
returns-clause-given c = λ least most n text. number_given least most text n
