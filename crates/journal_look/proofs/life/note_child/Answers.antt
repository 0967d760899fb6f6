use Rattle.std.proofs.Common.{◌∙◌, ap, arith}
use Rattle.journal_scan.specs.Shown.{what_shown}
use Rattle.journal_look.specs.Lives.{lived}
use Rattle.journal_look.proofs.Living.{noted_after, noted_at}
use Rattle.journal_look.proofs.life.note_child.Goals as goal

pub returns-then-at-len : goal.returns-then-at-len
returns-then-at-len c told past e is are =
    noted_at past e (what_shown c.args.what) c.args.lives.now.items c.args.child c.index-life.result.now c.lived.result is c.requires (omega arith) (omega (arith, c.len.ensures))
    c.index-life.ensures c.lived.ensures are

pub returns-then-at-len-2 : goal.returns-then-at-len-2
returns-then-at-len-2 c told past e is are =
    noted_after past e (what_shown c.args.what) c.args.lives.now.items c.args.child c.lived-then-at-len-2.result c.put.new.lives.items is c.requires (omega arith) (omega (arith, c.len-2.ensures))
    (c.lived-then-at-len-2.ensures ∙ ap (lived c.args.child (what_shown c.args.what)) c.unlived.ensures) (c.put.ensures told) are
