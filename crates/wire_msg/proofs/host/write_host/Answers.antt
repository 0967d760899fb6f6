use Rattle.std.proofs.Common.{◌≡◌, ℕ, List, Some, refl, sym, subst}
use Rattle.annex_model.specs.Messages.{host_reading, host_line}
use Rattle.annex_model.proofs.Readings.{canonical_read}
use Rattle.wire_msg.specs.Shown.{host_shown}
use Rattle.wire_msg.proofs.host.write_host.Goals as goal

pub returns-clause-read : goal.returns-clause-read
returns-clause-read c =
    let m = host_shown c.args.message.now in
    let line : c.in_ok-line.line ≡ host_line m = rw (c.in_ok-line.ensures, c.word.ensures, c.parameters_of.ensures) refl in
    subst (λ (b : List ℕ). host_reading b ≡ Some m) (sym line) (canonical_read m c.requires)
