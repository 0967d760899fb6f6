use Rattle.std.proofs.Common.{◌≡◌, ◌∙◌, ap, sym, true}
use Rattle.std.specs.Str.{is_utf8}
use Rattle.std.proofs.lemmas.Str.{is_utf8-from_IsUtf8}
use Rattle.crew_work.specs.Worker.Servings.{is_said_in_text}
use Rattle.crew_work.proofs.worker.lone_asker.name_before.Goals as goal

pub returns-in-Some : goal.returns-in-Some
returns-in-Some c =
    let text : is_utf8 c.view.result.now ≡ true = is_utf8-from_IsUtf8 c.view.result.now c.view.utf8 in
    ap is_said_in_text (sym c.in-Some.ensures) ∙ ap is_utf8 (sym c.view.ensures) ∙ text
