-- What is told of an info.
use Rattle.std.specs.Prelude.{ℕ, ◌≡◌, ◌⊎◌, if◌then◌else◌, List, Option}
use Rattle.annex_model.specs.Lines.{text}
use Rattle.journal_model.specs.declared.entry.Entry.{Entry}
use Rattle.info_and_init.specs.Info.Infos.{info_lines, is_informed}
use Rattle.info_and_init.specs.Info.Informs.{InfoValue, IsComplete}
use Rattle.info_and_init.specs.declared.info.made.InfoEnd.{InfoEnd}
use Rattle.info_and_init.specs.declared.info.made.InfoEnd.TheVariants as I
use Rattle.special_cli.specs.declared.end.End.{End}
use Rattle.special_cli.specs.declared.end.End.TheVariants.{Refused, Memory, Informed}
use Rattle.special_cli.specs.Endings.{IsPrinted}
use Rattle.special_cli.specs.Left.{Left}

-- what is to be told of an info that ended so
abbrev pub end_of_info : InfoEnd → End
end_of_info (I.Refused reason) = Refused 1 reason
end_of_info I.Memory = Memory
end_of_info (I.Asked key) = Informed key

-- what is left of an info is what it made
abbrev pub informed_in : Left → InfoEnd → InfoValue
informed_in left end = record { journal = left.journal; wires = left.wires; end = end }

-- ---- what is printed

-- 0 where the child answered all
abbrev pub info_status : List Entry → Option (List ℕ) → ℕ
info_status journal key = if is_informed journal 1 key then 0 else 1

-- The lines of the journal are printed; at status 0 or 1 it is complete.
pub record IsInfoTold (status : ℕ) (taken taken' : Option (List ℕ)) (key : Option (List ℕ)) (journal : List Entry) : Type 0 where
  pub printed : IsPrinted status taken taken' (text (info_lines journal key)) (info_status journal key)
  pub complete : (status ≡ 0) ⊎ (status ≡ 1) → IsComplete key journal
