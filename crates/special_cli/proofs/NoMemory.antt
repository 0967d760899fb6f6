-- What stands where no memory was found for the words.
use Rattle.std.proofs.Common.{◌≡◌, ℕ, List, Option, Some, None, refl, sym, ap, subst, inl, inr}
use Rattle.special_cli.specs.declared.end.End.{End}
use Rattle.special_cli.specs.declared.end.End.TheVariants.{Memory}
use Rattle.cli_words.specs.declared.refusals.Reason.{Reason}
use Rattle.cli_words.specs.declared.command.InitWords.{InitWords}
use Rattle.run_and_check.specs.Run.Inputs.{InputFlow, IsUnread}
use Rattle.run_and_check.specs.declared.run.made.RunEnd.TheVariants as R
use Rattle.special_cli.proofs.Audited.{nothing_audited}
use Rattle.info_and_init.specs.declared.init.made.InitEnd.TheVariants as N
use Rattle.special_cli.specs.Setups.{HasSetUp}
use Rattle.special_cli.specs.Commands.{EndsCheck, HasChecked, HasInformed, UnlessRefused, Runs}
use Rattle.run_and_check.proofs.CheckLemmas.Checked.{unstarted_at}
use Rattle.info_and_init.specs.declared.info.made.InfoEnd.TheVariants as I
use Rattle.child_life.specs.End.Outsides.{OutsideValue}
use Rattle.special_cli.specs.Left.{RanValue, IsIdle}
use Rattle.cli_words.specs.Refusals.{reason_refused, refusal_if}
use Rattle.special_cli.proofs.Rehearsed.{nothing_rehearsed}
use Rattle.special_cli.specs.Walks.{WalksTasks}
use Rattle.audit_command.specs.Recoveries.{RecoverNames}
use Rattle.audit_command.specs.declared.recover.made.RecoverEnd.TheVariants as V
use Rattle.special_cli.specs.Recoveries.{HasRecovered}
use Rattle.rehearse_command.specs.declared.walk.made.WalkEnd.TheVariants as K
use Rattle.info_and_init.proofs.InfoLemmas.Informing.{nothing_informed}
use Rattle.run_starts.proofs.OnceLemmas.Leaving.{leaves_nothing}
use Rattle.cli_words.specs.declared.command.Command.{Command}
use Rattle.cli_words.specs.declared.command.Command.TheVariants.{Check, Info, Init, Run, Audit as AuditWord, Recover, Rehearse, Walk, Show}

nothing_checked : (clock : Option ℕ) (program key : List ℕ) (before : OutsideValue) (ran : RanValue) → ran.end ≡ Memory → IsIdle before ran.left → HasChecked clock program key before ran
nothing_checked clock program key before ran e idle = record {
  checked = unstarted_at clock key ran.left.journal idle.journal;
  ends = subst (λ (x : End). EndsCheck ran.left x) (sym e) idle.answers;
  objects = leaves_nothing _ before.programs ran.left.outside.programs program ran.left.journal ran.left.wires (ap (λ (o : OutsideValue). o.programs) idle.outside) idle.journal idle.wires;
  desks = record { made = ap (λ (o : OutsideValue). o.made) idle.outside; tables = idle.tables };
}

nothing_informed_of : (program : List ℕ) (key : Option (List ℕ)) (before : OutsideValue) (ran : RanValue) → ran.end ≡ Memory → IsIdle before ran.left → HasInformed program key before ran
nothing_informed_of program key before ran e idle = record {
  end = I.Memory;
  made = record {
    informed = nothing_informed key ran.left.journal idle.journal;
    ends = tt;
    objects = leaves_nothing _ before.programs ran.left.outside.programs program ran.left.journal ran.left.wires (ap (λ (o : OutsideValue). o.programs) idle.outside) idle.journal idle.wires;
  };
  none = idle.answers;
  desks = record { made = ap (λ (o : OutsideValue). o.made) idle.outside; tables = idle.tables };
  end_is = e;
}

nothing_set_up : (words : InitWords) (before : OutsideValue) (ran : RanValue) → ran.end ≡ Memory → IsIdle before ran.left → HasSetUp words before ran
nothing_set_up words before ran e idle = record {
  end = N.Memory;
  made = inl (refl, record { outside = idle.outside; journal = idle.journal; wires = idle.wires; tables = idle.tables });
  none = idle.answers;
  end_is = e;
}

nothing_walked : (seed tasks : ℕ) (before : OutsideValue) (ran : RanValue) → ran.end ≡ Memory → IsIdle before ran.left → WalksTasks seed tasks before ran
nothing_walked seed tasks before ran e idle = record {
  end = K.Memory;
  ends = (idle.journal, idle.answers);
  untouched = record { outside = idle.outside; wires = idle.wires; tables = idle.tables };
  end_is = e;
}

nothing_recovered : (names : RecoverNames) (before : OutsideValue) (ran : RanValue) → ran.end ≡ Memory → IsIdle before ran.left → HasRecovered names before ran
nothing_recovered names before ran e idle = record {
  end = V.Memory;
  made = inl (record { desks = ap (λ (o : OutsideValue). o.made) idle.outside; journal = idle.journal; tables = idle.tables; end = refl });
  programs = ap (λ (o : OutsideValue). o.programs) idle.outside;
  answers = idle.answers;
  wires = idle.wires;
  end_is = e;
}

pub runs_nothing : (clock : Option ℕ) (before : OutsideValue) (input : InputFlow) (command : Option Command) (ran : RanValue) → ran.end ≡ Memory → IsIdle before ran.left → IsUnread input
    → Runs clock before input command ran
runs_nothing clock before input None ran e idle unread = record { end_is = inr e; idle = idle }
runs_nothing clock before input (Some (Show page)) ran e idle unread = record { end_is = inr e; idle = idle }
runs_nothing clock before input (Some (Check program key)) ran e idle unread = go (reason_refused key)
  where
    go : (r : Option Reason) → UnlessRefused r before ran (HasChecked clock program key before ran)
    go None = nothing_checked clock program key before ran e idle
    go (Some reason) = record { end_is = inr e; idle = idle }
runs_nothing clock before input (Some (Info program key)) ran e idle unread = go (refusal_if key)
  where
    go : (r : Option Reason) → UnlessRefused r before ran (HasInformed program key before ran)
    go None = nothing_informed_of program key before ran e idle
    go (Some reason) = record { end_is = inr e; idle = idle }
runs_nothing clock before input (Some (Init words)) ran e idle unread = nothing_set_up words before ran e idle
runs_nothing clock before input (Some (Run words)) ran e idle unread =
    (R.Memory, inl (refl, record { outside = idle.outside; unread = unread; journal = idle.journal; answers = idle.answers; wires = idle.wires; tables = idle.tables }), e)
runs_nothing clock before input (Some AuditWord) ran e idle unread = nothing_audited before input ran e idle unread
runs_nothing clock before input (Some (Recover journal keep)) ran e idle unread = (unread, nothing_recovered (record { journal = journal; keep = keep }) before ran e idle)
runs_nothing clock before input (Some (Rehearse seed tasks)) ran e idle unread = (unread, nothing_rehearsed seed tasks before ran e idle)
runs_nothing clock before input (Some (Walk seed tasks)) ran e idle unread = (unread, nothing_walked seed tasks before ran e idle)
