-- The hall of a kit's core, and its passes.
use Rattle.threads.specs.Passes.{HallValue, PassValue}
use Rattle.kit_async_model.specs.declared.setup.Setup.{Setup}
use Rattle.kit_async_model.specs.declared.entry.Entry.{Entry}

abbrev pub KitPass : Type 0
KitPass = PassValue Entry Setup

abbrev pub KitHall : Type 0
KitHall = HallValue Entry Setup
