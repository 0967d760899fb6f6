use Rattle.std.proofs.Common.{◌≤◌, ◌-◌, ◌^◌, arith}
use Rattle.kit_serve.proofs.Talks.{turns_end}
use Rattle.kit_serve.proofs.serving.converse.Goals as goal

pub returns-in-Err-clause-ended : goal.returns-in-Err-clause-ended
returns-in-Err-clause-ended g c = λ begun old t. c.in-Err.ensures.ended begun old c.loop.counter (c.loop.invariant.goes begun old t)

pub returns-clause-ended : goal.returns-clause-ended
returns-clause-ended g c =
    let v = g.V.Voice in
    let all : 2 ^ 64 - 1 ≤ c.loop.counter = omega arith in λ begun old t.
    turns_end v.spoke v.is_over v.is_foul v.lacks begun old _ c.loop.voice c.loop.splitter.bytes c.loop.counter c.loop.invariant.live all (c.loop.invariant.goes begun old t)
