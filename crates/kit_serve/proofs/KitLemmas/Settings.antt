-- A word that sets settings is a yes.
use Rattle.std.proofs.Common.{◌≡◌, ℕ, List, Some, refl}
use Rattle.annex_model.specs.Messages.{HostMessage, Prepare, Initremote, Transfer, Checkpresent, Remove}
use Rattle.kit_serve.specs.declared.kit.call.Said.TheVariants.{Yes, Set}
use Rattle.kit_serve.specs.declared.kit.describe.Pair.{Pair}
use Rattle.kit_serve.specs.Kit.Kits.{final_line}

pub set_answers : (request : HostMessage) (pairs : List Pair) → final_line (Some request) Yes ≡ final_line (Some request) (Set pairs)
set_answers Prepare pairs = refl
set_answers Initremote pairs = refl
set_answers (Transfer store key file) pairs = refl
set_answers (Checkpresent key) pairs = refl
set_answers (Remove key) pairs = refl
set_answers request pairs = refl
