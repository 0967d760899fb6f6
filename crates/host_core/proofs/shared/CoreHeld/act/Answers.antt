use Rattle.std.proofs.Common.{◌≡◌, ◌++◌, ℕ, List, refl, subst, sym}
use Rattle.std.specs.Prelude.{All, IfOk, OnOk, Ok, Err, Result}
use Rattle.ann_key.specs.declared.bytes.NoMemory.{NoMemory}
use Rattle.journal_model.specs.declared.entry.Entry.{Entry}
use Rattle.journal_model.specs.declared.opening.Opening.{Opening}
use Rattle.journal_model.specs.Legality.{Legal}
use Rattle.host_core.specs.declared.event.Event.{Event}
use Rattle.host_core.specs.declared.event.Reply.{Reply}
use Rattle.host_core.specs.CoreValue.{CoreValue}
use Rattle.host_core.specs.Steps.{step_of, told}
use Rattle.host_core.specs.Mays.{IsMadeBy, MayStep}
use Rattle.host_core.proofs.shared.CoreHeld.act.Goals as goal

acted : (r : Result Reply NoMemory) (old : CoreValue) (new : List Entry) (by : ℕ) (event : Event)
    → IfOk r (λ reply. reply ≡ told old.journal old.shut event (step_of old.opening old.journal by event).reply)
    → OnOk r (new ≡ old.journal ++ (step_of old.opening old.journal by event).group)
    → OnOk r (All (IsMadeBy by) (step_of old.opening old.journal by event).group)
    → Legal old.opening new
    → IfOk r (λ reply. (g : List Entry) × (new ≡ old.journal ++ g) × (All (IsMadeBy by) g × MayStep old.opening old.journal by event g reply))
acted (Ok reply) old new by event e j m l =
    ((step_of old.opening old.journal by event).group, j, (m, record { shut = old.shut; reply_is = e; group_is = refl; legal = subst (Legal old.opening) j l }))
acted (Err n) old new by event e j m l = tt

pub returns-clause-ok : goal.returns-clause-ok
returns-clause-ok c =
    subst
    (λ (v : CoreValue). IfOk c.step-answer.result (λ reply. (g : List Entry) × (v.journal ≡ c.args.self.now.journal ++ g) × (All (IsMadeBy c.args.by) g × MayStep c.args.self.now.opening c.args.self.now.journal c.args.by c.args.op g reply)))
    (sym c.heed.ensures)
    (acted c.step-answer.result c.args.self.now c.step-answer.new.self.journal c.args.by c.args.op c.step-answer.ensures.reply c.step-answer.ensures.journal c.step-answer.ensures.made
    (subst (λ (o : Opening). Legal o c.step-answer.new.self.journal) c.step-answer.ensures.opening c.step-answer.ensures.legal))
