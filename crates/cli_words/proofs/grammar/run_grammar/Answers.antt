use Rattle.std.proofs.Common.{◌≡◌, ◌∙◌, ap, IfOk, MatchResult, Result, Ok, Err}
use Rattle.clap.specs.Words.{App, Rule, app_of, with_rule}
use Rattle.cli_words.proofs.grammar.run_grammar.Goals as goal

-- one more option, over a command that is known
and : {C E : Type 0} (app : C → App) (old new : Result C E) (a : App) (o p : Rule)
    → IfOk new (λ c. MatchResult old (λ d. app c ≡ with_rule (app d) o) (λ e. ⊥)) → o ≡ p → IfOk old (λ d. app d ≡ a) → IfOk new (λ c. app c ≡ with_rule a p)
and app old (Err e) a o p more same known = tt
and app (Ok d) (Ok c) a o p more same known = more ∙ ap (λ b. with_rule b o) known ∙ ap (with_rule a) same
and app (Err e) (Ok c) a o p more same known = absurd more

pub returns : goal.returns
returns c =
    and app_of _ _ _ _ _ c.with.ensures c.with_value-7.ensures.rule
    (and app_of _ _ _ _ _ c.with-command-10.ensures c.with_value-6.ensures.rule
    (and app_of _ _ _ _ _ c.with-command-9.ensures c.with_value-5.ensures.rule
    (and app_of _ _ _ _ _ c.with-command-8.ensures c.optional-2.ensures.rule
    (and app_of _ _ _ _ _ c.with-command-7.ensures c.optional.ensures.rule
    (and app_of _ _ _ _ _ c.with-command-6.ensures c.with_value-4.ensures.rule
    (and app_of _ _ _ _ _ c.with-command-5.ensures c.with_value-3.ensures.rule
    (and app_of _ _ _ _ _ c.with-command-4.ensures c.with_value-2.ensures.rule
    (and app_of _ _ _ _ _ c.with-command-3.ensures c.with_value.ensures.rule
    (and app_of _ _ _ _ _ c.with-command-2.ensures c.needed-2.ensures.rule
    (and app_of (Ok c.new.result) _ _ _ _ c.with-command.ensures c.needed.ensures.rule c.new.ensures.app))))))))))
