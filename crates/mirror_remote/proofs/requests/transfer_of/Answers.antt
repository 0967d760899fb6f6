use Rattle.ann_key.specs.KeyRefs.{text_of}
use Rattle.mirror_remote.proofs.Calls.{transfer_mirrored, transfer_same}
use Rattle.mirror_remote.proofs.requests.transfer_of.Goals as goal

pub returns-clause-is : goal.returns-clause-is
returns-clause-is c = transfer_same c.args.store (text_of c.args.key) c.args.file.now c.in_ok-key.key c.in_ok-file.file c.in_ok-key.ensures c.in_ok-file.ensures

pub returns-clause-mirrored : goal.returns-clause-mirrored
returns-clause-mirrored c =
    transfer_mirrored c.args.store (text_of c.args.key) c.args.file.now c.in_ok-key.key c.in_ok-file.file c.in_ok-key.ensures c.in_ok-file.ensures c.utf8.file c.requires.line c.requires.key
