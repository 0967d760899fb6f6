use Rattle.std.proofs.Common.{◌≡◌, ℕ, List, Some, refl, sym, subst}
use Rattle.annex_model.specs.Messages.{remote_reading, remote_line}
use Rattle.annex_model.proofs.Readings.{canonical_remote_read}
use Rattle.wire_msg.specs.Shown.{remote_shown}
use Rattle.wire_msg.proofs.said.write_remote.Goals as goal

pub returns-clause-read : goal.returns-clause-read
returns-clause-read c =
    let m = remote_shown c.args.message.now in
    let line : c.in_ok-line.line ≡ remote_line m = rw (c.in_ok-line.ensures, c.word.ensures, c.parameters_of.ensures) refl in
    subst (λ (b : List ℕ). remote_reading b ≡ Some m) (sym line) (canonical_remote_read m c.requires)
