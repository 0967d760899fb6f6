use Rattle.std.proofs.Common.{◌≡◌, ◌∙◌, ◌+◌, ◌-◌, ap, sym, arith}
use Rattle.std.proofs.lemmas.List.{get_or_past}
use Rattle.journal_look.specs.Lives.{life_of, unlived}
use Rattle.journal_look.proofs.life.find.Goals as goal

pub returns-then-child-eq0 : goal.returns-then-child-eq0
returns-then-child-eq0 c past are = c.unlived.ensures ∙ sym are.none ∙ ap (life_of past) (sym c.if-child-eq0.true)

pub returns-in-Some : goal.returns-in-Some
returns-in-Some c past are =
    let at : (c.args.child - 1) + 1 ≡ c.args.child = omega arith in
    let found = c.in-Some.ensures.lookup in
    found.3.1 unlived ∙ sym (are.each (c.args.child - 1)) ∙ ap (life_of past) at

pub returns-in-None : goal.returns-in-None
returns-in-None c past are =
    let at : (c.args.child - 1) + 1 ≡ c.args.child = omega arith in
    let found = c.in-None.ensures.lookup in
    c.unlived-in-None.ensures ∙ sym (are.each (c.args.child - 1) ∙ get_or_past c.args.lives.now (c.args.child - 1) unlived found.3) ∙ ap (life_of past) at
