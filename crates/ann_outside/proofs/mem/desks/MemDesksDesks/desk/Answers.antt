use Rattle.std.proofs.Common.{◌≡◌}
use Rattle.ann_outside.specs.MemDesks.{files_next, desks_left}
use Rattle.ann_outside.proofs.DeskLaws.{made_from-snoc, left-snoc}
use Rattle.ann_outside.proofs.mem.desks.MemDesksDesks.desk.Goals as goal

pub returns-clause-made : goal.returns-clause-made
returns-clause-made c =
    let s = c.args.self.now in
    let files : c.in_ok-desk.desk.state.files.items ≡ files_next (desks_left s) = rw c.reserve.ensures.items at c.in_ok-desk.ensures.files in
    rw (c.push_reserved.ensures.items, c.reserve.ensures.items, files) (made_from-snoc s.desks.items s.numbers.items c.args.number)

pub returns-clause-later : goal.returns-clause-later
returns-clause-later c =
    let s = c.args.self.now in
    rw (c.push_reserved.ensures.items, c.reserve.ensures.items) (left-snoc s.desks.items s.numbers.items c.args.number)
