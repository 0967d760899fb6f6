use Rattle.std.proofs.Common.{◌≡◌, ◌∙◌, ap, sym, List, ℕ, ◌++◌, append_assoc}
use Rattle.std.specs.Prelude.{codes, decimal}
use Rattle.task_model.proofs.names.request_text.Goals as goal

-- the parts of a name, put together from its end on
from_end : (work stamp number n said ending : List ℕ)
    → work ++ (codes "/" ++ (stamp ++ (codes "-" ++ (number ++ (codes "-" ++ (n ++ (said ++ ending)))))))
    ≡ work ++ codes "/" ++ stamp ++ codes "-" ++ number ++ codes "-" ++ n ++ said ++ ending
from_end work stamp number n said ending =
    let a : List ℕ = work ++ codes "/" in
    let b : List ℕ = a ++ stamp ++ codes "-" in
    let d : List ℕ = b ++ number ++ codes "-" in
    sym (append_assoc (d ++ n) said ending
    ∙ append_assoc d n (said ++ ending)
    ∙ append_assoc (b ++ number) (codes "-") (n ++ (said ++ ending))
    ∙ append_assoc b number (codes "-" ++ (n ++ (said ++ ending)))
    ∙ append_assoc (a ++ stamp) (codes "-") (number ++ (codes "-" ++ (n ++ (said ++ ending))))
    ∙ append_assoc a stamp (codes "-" ++ (number ++ (codes "-" ++ (n ++ (said ++ ending)))))
    ∙ append_assoc work (codes "/") (stamp ++ (codes "-" ++ (number ++ (codes "-" ++ (n ++ (said ++ ending)))))))

pub returns : goal.returns
returns c =
    let s = c.args.setup.now in
    let parts = from_end s.work (decimal s.stamp) (decimal c.args.number) (decimal c.args.n) c.args.said.now c.args.ending.now in
    c.from_string.ensures ∙ c.in_ok-name.ensures.ok
    ∙ ap (λ (work : List ℕ). work ++ (codes "/" ++ (decimal s.stamp ++ (codes "-" ++ (decimal c.args.number ++ (codes "-" ++ (decimal c.args.n ++ (c.args.said.now ++ c.args.ending.now)))))))) c.view-work.ensures
    ∙ parts
