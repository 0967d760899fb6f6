use Rattle.std.proofs.Common.{ℕ, List, [], ◌∷◌, ◌++◌, ap, ◌∙◌, append_assoc}
use Rattle.annex_model.specs.Messages.{Infofield, Infovalue, remote_line}
use Rattle.kit_async_model.proofs.about.push_pair.Goals as goal

pub returns-in_ok-push-2 : goal.returns-in_ok-push-2
returns-in_ok-push-2 c =
    let old : List (List ℕ) = c.args.lines.now.items in
    let name : List ℕ = remote_line (Infofield c.args.name.now) in
    let text : List ℕ = remote_line (Infovalue c.in-Some.text.now) in
    rw c.in-Some.is
    (c.in_ok-push-2.ensures.items
    ∙ ap (λ (x : List ℕ). c.push.new.self.items ++ x ∷ []) c.in_ok-write_remote-2.ensures.line
    ∙ ap (λ (ls : List (List ℕ)). ls ++ text ∷ []) (c.in_ok-push.ensures.items ∙ ap (λ (x : List ℕ). old ++ x ∷ []) c.in_ok-write_remote.ensures.line)
    ∙ append_assoc old (name ∷ []) (text ∷ []))
