use Rattle.std.proofs.Common.{ℕ, List, ◌≡◌, ◌∙◌, refl, sym, subst, true, false}
use Rattle.std.specs.Prelude.{Some}
use Rattle.journal_model.specs.declared.entry.Entry.{Entry}
use Rattle.journal_model.specs.Legality.{may_ask}
use Rattle.host_talk.specs.declared.request.request.Request.TheVariants.{CheckExport}
use Rattle.host_core.specs.declared.event.Event.TheVariants.{Ask as AskEvent}
use Rattle.journal_audit.specs.Replays.{SaysName}
use Rattle.journal_audit.proofs.Suiting.{no_name, some_name}
use Rattle.journal_audit.proofs.events.name_event.Goals as goal

pub returns-in_default : goal.returns-in_default
returns-in_default c =
    no_name c.args.core.now.opening c.args.core.now.journal c.args.by c.args.child c.args.name.now
    (λ (t : ℕ). subst (λ (p : List Entry). may_ask p c.args.by t c.args.child ≡ false) c.journal.ensures (c.in_default.ensures.none refl t))

pub returns : goal.returns
returns c =
    let named : c.in_ok-name.name ≡ c.args.name.now = c.in_ok-name.ensures ∙ c.view.ensures in
    let ask = subst (λ (p : List Entry). may_ask p c.args.by c.in-Some.task c.args.child ≡ true) c.journal.ensures c.in-Some.ensures.some in
    λ job line reads.
    subst (λ (n : List ℕ). SaysName c.args.core.now.opening c.args.core.now.journal c.args.by c.args.child job line (Some (AskEvent c.args.child c.in-Some.task (CheckExport c.in_ok-key.key n)))) (sym named)
    (some_name c.args.core.now.opening c.args.core.now.journal c.args.by c.args.child c.in-Some.task c.in_ok-key.key c.args.name.now ask c.in_ok-key.ensures job line reads)
