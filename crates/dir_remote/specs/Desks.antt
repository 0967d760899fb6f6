-- What each call does in the directory that was given, if one was, and says; by what the desk tells before and after it.
use Rattle.std.specs.Prelude.{ℕ, false, List, Option, Result, is_some}
use Rattle.ann_key.specs.declared.bytes.NoMemory.{NoMemory as WithoutMemory}
use Rattle.ann_outside.specs.Told.{DeskTold}
use Rattle.kit_serve.specs.declared.kit.call.Said.{Said}
use Rattle.dir_remote.specs.Answers.{Answers, StoreDoes, RetrieveDoes, CheckDoes, RemoveDoes, is_of_transfer, is_of_check, is_of_removal}
use Rattle.dir_remote.specs.Traces.{Each, IsCheckCall, IsRemoveCall, IsRetrieveCall, StoreTraces}

abbrev pub StoreAnswers : DeskTold → DeskTold → Option (List ℕ) → Option (List ℕ) → List ℕ → List ℕ → Result Said WithoutMemory → Type 0
StoreAnswers old new mark directory key file result =
    Answers is_of_transfer (λ d. StoreDoes d key file) (λ d. StoreTraces mark d key file) (is_some mark) directory key old new result

abbrev pub RetrieveAnswers : DeskTold → DeskTold → Option (List ℕ) → List ℕ → List ℕ → Result Said WithoutMemory → Type 0
RetrieveAnswers old new directory key file result =
    Answers is_of_transfer (λ d. RetrieveDoes d key file) (λ d _. Each (IsRetrieveCall d key file)) false directory key old new result

abbrev pub CheckAnswers : DeskTold → DeskTold → Option (List ℕ) → List ℕ → Result Said WithoutMemory → Type 0
CheckAnswers old new directory key result =
    Answers is_of_check (λ d. CheckDoes d key) (λ d _. Each (IsCheckCall d key)) false directory key old new result

abbrev pub RemoveAnswers : DeskTold → DeskTold → Option (List ℕ) → List ℕ → Result Said WithoutMemory → Type 0
RemoveAnswers old new directory key result =
    Answers is_of_removal (λ d. RemoveDoes d key) (λ d _. Each (IsRemoveCall d key)) false directory key old new result
