use Rattle.std.proofs.Common.{◌≡◌, ◌≤◌, List, [], ◌∷◌, length, refl, sym, ◌∙◌, arith}
use Rattle.std.proofs.lemmas.Result.{IfOk-weaker}
use Rattle.std.specs.Prelude.{String}
use Rattle.std.specs.declared.alloc.Global.{Global}
use Rattle.cli_words.specs.Values.{texts_of}
use Rattle.cli_words.specs.Words.{all_behind, command_of}
use Rattle.cli_words.proofs.reading.command_in.Goals as goal

several : (words : List (String Global)) → 2 ≤ length words → command_of (texts_of words) ≡ all_behind (texts_of words)
several [] h = absurd (omega arith)
several (word ∷ []) h = absurd (omega arith)
several (word ∷ next ∷ words) h = refl

pub returns-in-len2-up : goal.returns-in-len2-up
returns-in-len2-up c =
    IfOk-weaker c.behind.result _ _ (λ command same. same ∙ sym (several c.args.words.now c.in-len2-up.len_at_least)) c.behind.ensures
