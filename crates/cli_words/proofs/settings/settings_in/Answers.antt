use Rattle.std.proofs.Common.{◌∙◌, sym, ap}
use Rattle.std.specs.Prelude.{string_bytes}
use Rattle.cli_words.specs.Values.{texts_of}
use Rattle.cli_words.specs.Settings.{setting_in}
use Rattle.cli_words.proofs.Spelt.{none_of_all, one_more, within, word_at}
use Rattle.cli_words.proofs.settings.settings_in.Goals as goal

pub returns-in_default : goal.returns-in_default
returns-in_default c =
    let words = c.args.words.now in
    let i = c.loop-word.word-index in
    let w = c.word-item.result in
    let at = word_at words i w c.loop-word-test.true c.word-item.is in
    none_of_all (texts_of words) i (string_bytes w) (within words i c.loop-word-test.true)
    (sym c.in_default.is ∙ c.in_ok-setting.ensures ∙ ap setting_in (c.as_str.ensures.value ∙ sym at))

pub loop-word-preserved : goal.loop-word-preserved
loop-word-preserved c =
    let words = c.args.words.now in
    let i = c.loop-word.word-index in
    let w = c.word-item.result in
    let at = word_at words i w c.loop-word-test.true c.word-item.is in
    let more = one_more (texts_of words) i (string_bytes w) c.loop-word.list.items c.in-Some.setting (within words i c.loop-word-test.true)
    c.loop-word.invariant.0 c.loop-word.invariant.1
    (ap setting_in (at ∙ sym c.as_str.ensures.value) ∙ sym c.in_ok-setting.ensures ∙ c.in-Some.is) in
    (more.0, c.in_ok-push.ensures.items ∙ more.1)
