use Rattle.std.proofs.Common.{◌≡◌, ◌∙◌, ap, sym, subst}
use Rattle.std.proofs.lemmas.Result.{IfOk-weaker}
use Rattle.clap.specs.Words.{app_of, fault_of, found_of, is_simple, is_simple_and_free, matches_of, rows_of, HasKind}
use Rattle.cli_words.specs.Grammar.{run_grammar}
use Rattle.cli_words.specs.Values.{texts_of}
use Rattle.cli_words.proofs.Parsing.{is_free_grammar, is_simple_grammar, refused, taken}
use Rattle.cli_words.proofs.run.run_of.Goals as goal

pub returns-in-Ok : goal.returns-in-Ok
returns-in-Ok c =
    let words = texts_of c.args.words.now in
    let same : app_of c.in_ok-grammar.grammar ≡ run_grammar = c.in_ok-grammar.ensures in
    let parse = c.in-Ok.ensures in
    let none = ap (λ a. fault_of a words) (sym same) ∙ parse.kinds (ap is_simple_and_free same ∙ is_free_grammar) in
    let rows = (parse.matches (ap is_simple same ∙ is_simple_grammar)).0 ∙ ap (λ a. matches_of a words) same in
    IfOk-weaker c.run_from.result _ _ (λ run made. made ∙ taken words (rows_of (found_of c.in-Ok.matches)) none rows) c.run_from.ensures

pub returns : goal.returns
returns c =
    let words = texts_of c.args.words.now in
    let same : app_of c.in_ok-grammar.grammar ≡ run_grammar = c.in_ok-grammar.ensures in
    let kinds = c.in-Err.ensures.kinds (ap is_simple_and_free same ∙ is_free_grammar) in
    refused words c.in-Err.error (subst (λ a. HasKind (fault_of a words) c.in-Err.error) same kinds) (λ memory. c.in_default.not-OutOfMemory (c.kind.ensures ∙ memory))
