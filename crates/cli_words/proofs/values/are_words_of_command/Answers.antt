use Rattle.std.proofs.Common.{◌∙◌, refl, sym, ap}
use Rattle.std.specs.Prelude.{string_bytes}
use Rattle.std.proofs.lemmas.List.Folds.{list_all_at, list_all_more}
use Rattle.cli_words.specs.Values.{is_word_of_command, texts_of}
use Rattle.cli_words.proofs.Spelt.{within, word_at}
use Rattle.cli_words.proofs.values.are_words_of_command.Goals as goal

pub returns-then-not-is_word_of_command : goal.returns-then-not-is_word_of_command
returns-then-not-is_word_of_command c =
    let words = c.args.words.now in
    let w = c.word-item.result in
    let at = word_at words c.loop-word.word-index w c.loop-word-test.true c.word-item.is in
    sym (list_all_at is_word_of_command (texts_of words) c.loop-word.word-index (string_bytes w) (within words c.loop-word.word-index c.loop-word-test.true)
    (ap is_word_of_command (at ∙ sym c.as_str.ensures.value) ∙ sym c.is_word_of_command.ensures ∙ c.if-not-is_word_of_command.true))

pub loop-word-preserved : goal.loop-word-preserved
loop-word-preserved c =
    let words = c.args.words.now in
    let w = c.word-item.result in
    let at = word_at words c.loop-word.word-index w c.loop-word-test.true c.word-item.is in
    let one = ap is_word_of_command (at ∙ sym c.as_str.ensures.value) ∙ sym c.is_word_of_command.ensures ∙ c.if-not-is_word_of_command.false in
    list_all_more is_word_of_command (texts_of words) c.loop-word.word-index (string_bytes w) (within words c.loop-word.word-index c.loop-word-test.true)
    ∙ rw (c.loop-word.invariant, one) refl
