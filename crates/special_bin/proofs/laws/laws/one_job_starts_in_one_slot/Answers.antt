use Rattle.special_bin.proofs.LawsLemmas.OneSlot.{one_slot}
use Rattle.special_bin.proofs.laws.laws.one_job_starts_in_one_slot.Goals as goal

pub returns : goal.returns
returns c = one_slot
