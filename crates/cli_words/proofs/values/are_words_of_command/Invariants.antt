use Rattle.std.proofs.Common.{◌≡◌, true, take}
use Rattle.std.specs.List.{list_all}
use Rattle.cli_words.specs.Values.{is_word_of_command, texts_of}
use Rattle.cli_words.proofs.values.are_words_of_command.Given as goal

abbrev pub invariant-loop-word : goal.invariant-loop-word
invariant-loop-word l = list_all is_word_of_command (take l.word-index (texts_of l.words)) ≡ true
