use Rattle.std.proofs.Common.{ℕ, ◌<◌, length, take, sym, ap, subst}
use Rattle.wire_line.proofs.Firsts.{end_of, found_at, found_none}
use Rattle.pair_kit.proofs.Lines.{has_of, lacks_of}
use Rattle.pair_kit.proofs.pipe.line_of.Goals as goal

pub returns-in-Some : goal.returns-in-Some
returns-in-Some c =
    let bytes = c.args.bytes.now in
    let f = found_at bytes c.in-Some.end c.in-Some.ensures in
    let within : end_of bytes < length bytes = subst (λ (n : ℕ). n < length bytes) (sym f.0) f.1 in
    (has_of bytes within, ap (λ (n : ℕ). take n bytes) (sym f.0))

pub returns-in-None : goal.returns-in-None
returns-in-None c = lacks_of c.args.bytes.now (found_none c.args.bytes.now c.in-None.ensures)
