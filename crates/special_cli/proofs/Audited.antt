-- An audit that found no memory before it began.
use Rattle.std.proofs.Common.{◌≡◌, ◌∙◌, ℕ, Bool, true, false, List, [], Option, Some, None, Err, sym, ap, subst}
use Rattle.std.specs.Prelude.{IfSome}
use Rattle.audit_command.specs.Inputs.{AuditComesTo, audit_limits}
use Rattle.audit_command.specs.declared.error.AuditError.TheVariants.{NoMemory}
use Rattle.child_life.specs.End.Outsides.{OutsideValue}
use Rattle.cli_words.specs.declared.command.Command.{Command}
use Rattle.cli_words.specs.declared.command.Command.TheVariants.{Audit as AuditWord}
use Rattle.run_and_check.specs.Run.Inputs.{InputFlow, IsUnread}
use Rattle.special_cli.specs.Audits.{IsAuditOf, HasAudited}
use Rattle.special_cli.specs.Left.{RanValue, IsIdle}
use Rattle.special_cli.specs.declared.end.End.TheVariants.{Memory}
use Rattle.cli_words.proofs.TaskInputLemmas.Given.{given_none}
use Rattle.cli_words.specs.TaskInput.Reads.{HasGiven}

-- ---- the words

abbrev pub is_audit : Option Command → Bool
is_audit (Some AuditWord) = true
is_audit wish = false

pub other_words : {A : Type 0} (wish : Option Command) → is_audit wish ≡ false → wish ≡ Some AuditWord → A
other_words wish other e = absurd (let bad : false ≡ true = sym other ∙ ap is_audit e in cc)

-- ---- nothing was read

unread : (input : InputFlow) → IsUnread input → IsAuditOf input (Err NoMemory)
unread input h = record {
  bytes = [];
  gave = subst (λ (g : Option (List ℕ)). HasGiven input.given g input.left input.left' []) (sym h.given)
      (subst (λ (l : Option (List ℕ)). HasGiven input.given input.given input.left l []) (sym h.left) (given_none input.given input.left));
  read = tt;
  told = of_all input.left;
  counted = h.faults;
}
  where
    of_all : (left : Option (List ℕ)) → IfSome left (λ all. AuditComesTo audit_limits all (Err NoMemory))
    of_all None = tt
    of_all (Some all) = tt

pub nothing_audited : (before : OutsideValue) (input : InputFlow) (ran : RanValue) → ran.end ≡ Memory → IsIdle before ran.left → IsUnread input → HasAudited before input ran
nothing_audited before input ran e idle h = record { outcome = Err NoMemory; audit = unread input h; idle = idle; end_is = e }
