-- What the desk's counts say of any task's answer.
use Rattle.std.proofs.Common.{◌≡◌, ◌∙◌, inr, refl, ap, arith}
use Rattle.std.specs.Prelude.{Result, Ok, Err, IfOk, true, false}
use Rattle.ann_key.specs.declared.bytes.NoMemory.{NoMemory}
use Rattle.ann_outside.specs.DeskCauses.{Counts}
use Rattle.journal_model.specs.declared.answer.Answer.{Answer}
use Rattle.journal_model.specs.declared.answer.Answer.TheVariants as A
use Rattle.task_model.specs.Ran.{HasTaskCauses, HasQuietCauses, may_follow_refusal}

pub from_quiet : (old new : Counts) (result : Result Answer NoMemory) → HasQuietCauses old new result → HasTaskCauses old new result
from_quiet old new result h = record {
  faults_later = h.faults_later;
  missing_later = h.missing_later;
  fault = h.fault;
  no_file = h.no_file;
  untold = h.untold;
}

-- no call was made
pub from_nothing : (counts : Counts) (result : Result Answer NoMemory) → may_follow_refusal result ≡ false → HasTaskCauses counts counts result
from_nothing counts result q = record {
  faults_later = omega arith;
  missing_later = omega arith;
  fault = λ e. absurd (told A.FileFault result e refl q);
  no_file = λ e. absurd (told A.NoFile result e refl q);
  untold = λ h. inr refl;
}
  where
    told : (answer : Answer) (result : Result Answer NoMemory) → result ≡ Ok answer → may_follow_refusal (Ok answer) ≡ true → may_follow_refusal result ≡ false → ⊥
    told answer result e f q = let g : may_follow_refusal result ≡ true = ap may_follow_refusal e ∙ f in cc

pub from_content : (counts : Counts) (result : Result Answer NoMemory) → IfOk result (λ answer. may_follow_refusal (Ok answer) ≡ false) → HasTaskCauses counts counts result
from_content counts (Ok answer) q = from_nothing counts (Ok answer) q
from_content counts (Err e) q = from_nothing counts (Err e) refl
