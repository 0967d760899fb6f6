-- From what was read to what a run begins with.
use Rattle.std.proofs.Common.{◌≡◌, ℕ, ◌+◌, ◌<◌, ◌≤◌, List, [], ◌∷◌, length, replicate, refl, sym, ap, subst, ◌∙◌, arith, Bool, true, false, cond, Some, None, Option, Ok, Err}
use Rattle.std.specs.Prelude.{Result, IfOk, IfSome, nat_lt, take, option_and_then}
use Rattle.std.proofs.lemmas.Bool.Decides.{nat_tests}
use Rattle.std.proofs.lemmas.List.{length-map, length-replicate}
use Rattle.ann_key.specs.declared.bytes.NoMemory.{NoMemory}
use Rattle.ann_outside.specs.Calls.{Log}
use Rattle.ann_outside.specs.Files.{Files}
use Rattle.task_text.specs.TaskLines.{fault_of, line_of}
use Rattle.task_text.specs.declared.task.Task.{Task}
use Rattle.registers.specs.Registers.{RegisterFile}
use Rattle.task_text.specs.declared.chunk_log.note.Note.{Note}
use Rattle.task_text.specs.ChunkLog.ChunkLines.{IsWrittenUuid}
use Rattle.kept_file.specs.Text.KeptFiles.{bad_line, registers_of, notes_of, CountsAs}
use Rattle.ann_outside.specs.declared.text_file.reading.FileRead.TheVariants as F
use Rattle.kept_file.specs.declared.desk.TheConstants.{MOST_BYTES}
use Rattle.kept_file.specs.declared.desk.reading.KeptRead.{KeptRead}
use Rattle.kept_file.specs.declared.desk.reading.KeptRead.TheVariants as K
use Rattle.kept_file.specs.Desk.KeptDesks.{IsKeptOf, IsReadAs, text_at, IsKeptAt}
use Rattle.cli_words.specs.Identities.{IsFit}
use Rattle.cli_words.specs.declared.command.Command.TheVariants.{Run}
use Rattle.cli_words.specs.declared.command.RunWords.{RunWords}
use Rattle.cli_words.specs.declared.refusals.Reason.{Reason}
use Rattle.cli_words.specs.TaskInput.InputLines.{lines_of}
use Rattle.cli_words.specs.declared.refusals.Reason.TheVariants.{Long, Many}
use Rattle.cli_words.specs.TaskInput.Inputs.{reason_for, reason_of, refused_or, first_refused, is_large, lines_within, or_large, refused_in, IsInput}
use Rattle.cli_words.specs.TaskInput.Reads.{HasGiven, IsCounted, InputComesTo}
use Rattle.cli_words.specs.declared.task_input.error.InputError.{InputError}
use Rattle.cli_words.specs.declared.task_input.limits.Limits.{Limits}
use Rattle.cli_words.specs.declared.task_input.limits.TheConstants.Limits.{TASKS}
use Rattle.journal_model.specs.Beginnings.{MayBegin}
use Rattle.journal_model.specs.Limits.{most_again}
use Rattle.journal_model.specs.declared.opening.Opening.{Opening}
use Rattle.run_and_check.specs.Run.Inputs.{InputFlow, IsTaken, IsTextFor, run_opening}
use Rattle.run_and_check.specs.Run.Runs.{HasText}
use Rattle.run_and_check.specs.Run.Beginnings.{HandsOn, IsReady, BeginsRun}
use Rattle.run_and_check.specs.declared.run.beginning.Kept.{Kept}
use Rattle.run_and_check.specs.declared.run.made.RunEnd.{RunEnd}

-- ---- the text of the kept file

-- what holds of the words with that kept file holds of them
pub with_keep : (P : RunWords → Type 0) (words : RunWords) (keep : Option (List ℕ)) → words.keep ≡ keep → P (record words { keep = keep }) → P words
with_keep P words keep e h = subst (λ (k : Option (List ℕ)). P (record words { keep = k })) (sym e) h

named_text : (words : RunWords) (told : Option Files) (name kept : List ℕ) → words.keep ≡ Some name → IfSome told (λ files. kept ≡ text_at name files) → IsTextFor words told kept
named_text words told name kept e h = with_keep (λ (w : RunWords). IsTextFor w told kept) words (Some name) e (go told h)
  where
    go : (told : Option Files) → IfSome told (λ files. kept ≡ text_at name files) → IsTextFor (record words { keep = Some name }) told kept
    go None h = tt
    go (Some files) h = h

-- some text was read, and where files are told it is the file's
module _ (words : RunWords) (told : Option Files) (name : List ℕ) (named : words.keep ≡ Some name) where
  found : (result : Result KeptRead NoMemory) (P : List ℕ → Type 0) → ((files : Files) → IsKeptAt name files result → P (text_at name files))
      → (kept : List ℕ) × P kept → IfSome told (λ files. IsKeptAt name files result) → HasText words told P
  found result P at read known = go told refl known
    where
      go : (t : Option Files) → told ≡ t → IfSome t (λ files. IsKeptAt name files result) → HasText words told P
      go None e h = (read.0, named_text words told name read.0 named (subst (λ (x : Option Files). IfSome x (λ files. read.0 ≡ text_at name files)) (sym e) tt), read.1)
      go (Some files) e h =
          (text_at name files, named_text words told name (text_at name files) named (subst (λ (x : Option Files). IfSome x (λ files'. text_at name files ≡ text_at name files')) (sym e) refl), at files h)

  kept_text : (old new : Option Log) (registers : RegisterFile) (notes : List Note) → IsReadAs old new name (Ok (K.Kept registers notes))
      → (kept : List ℕ) × IsKeptOf kept (Ok (K.Kept registers notes))
  kept_text old new registers notes (Ok (F.Text text), by, comes) = (text, comes)
  kept_text old new registers notes (Ok F.Missing, by, comes) = ([], comes)
  kept_text old new registers notes (Ok F.TooLarge, by, comes) = absurd (let bad : Ok (K.Kept registers notes) ≡ Ok K.TooLarge = comes in cc)
  kept_text old new registers notes (Ok F.Fault, by, comes) = absurd (let bad : Ok (K.Kept registers notes) ≡ Ok K.Fault = comes in cc)
  kept_text old new registers notes (Err e, by, comes) = absurd (let bad : Ok (K.Kept registers notes) ≡ Err e = comes in cc)

  bad_text : (old new : Option Log) (line : ℕ) → IsReadAs old new name (Ok (K.BadLine line)) → (kept : List ℕ) × (bad_line kept ≡ Some line)
  bad_text old new line (Ok (F.Text text), by, comes) = (text, comes)
  bad_text old new line (Ok F.Missing, by, comes) = ([], comes)
  bad_text old new line (Ok F.TooLarge, by, comes) = absurd (let bad : Ok (K.BadLine line) ≡ Ok K.TooLarge = comes in cc)
  bad_text old new line (Ok F.Fault, by, comes) = absurd (let bad : Ok (K.BadLine line) ≡ Ok K.Fault = comes in cc)
  bad_text old new line (Err e, by, comes) = absurd (let bad : Ok (K.BadLine line) ≡ Err e = comes in cc)

  pub hands_on : (old new : Option Log) (registers : RegisterFile) (notes : List Note) → IsReadAs old new name (Ok (K.Kept registers notes))
      → IfSome told (λ files. IsKeptAt name files (Ok (K.Kept registers notes))) → HandsOn words told (record { registers = registers; notes = notes })
  hands_on old new registers notes read known =
      let f = found (Ok (K.Kept registers notes)) (λ kept. IsKeptOf kept (Ok (K.Kept registers notes))) (λ files h. h) (kept_text old new registers notes read) known in
      record { kept = f.0; text = f.1; right = f.2.0; registers = f.2.1; notes = f.2.2 }

  pub has_bad_line : (old new : Option Log) (line : ℕ) → IsReadAs old new name (Ok (K.BadLine line))
      → IfSome told (λ files. IsKeptAt name files (Ok (K.BadLine line))) → HasText words told (λ kept. bad_line kept ≡ Some line)
  has_bad_line old new line read known =
      found (Ok (K.BadLine line)) (λ kept. bad_line kept ≡ Some line) (λ files h. h) (bad_text old new line read) known

  -- where no files are told, some text is that large
  large : (most : ℕ) → (kept : List ℕ) × (most < length kept)
  large most = (replicate (most + 1) 0, let long = length-replicate {A = ℕ} (most + 1) 0 in omega (arith, long))

  pub is_too_large : IfSome told (λ files. IsKeptAt name files (Ok K.TooLarge)) → HasText words told (λ kept. MOST_BYTES < length kept)
  is_too_large known = found (Ok K.TooLarge) (λ kept. MOST_BYTES < length kept) (λ files h. h) (large MOST_BYTES) known

-- ---- where none is named

unnamed_text : (words : RunWords) (told : Option Files) → words.keep ≡ None → IsTextFor words told []
unnamed_text words told e = with_keep (λ (w : RunWords). IsTextFor w told []) words None e refl

pub hands_on_nothing : (words : RunWords) (told : Option Files) (k : Kept) → words.keep ≡ None → k.registers ≡ registers_of [] → CountsAs k.notes (notes_of []) → HandsOn words told k
hands_on_nothing words told k e registers notes = record { kept = []; text = unnamed_text words told e; right = refl; registers = registers; notes = notes }

-- ---- the input

pub taken_as : (given given' left left' : Option (List ℕ)) (faults faults' : ℕ) (r r' : Result (List Task) InputError) → r ≡ r'
    → (bytes : List ℕ) × HasGiven given given' left left' bytes × InputComesTo TASKS bytes left' r → IfSome left (λ all. IsInput TASKS all r) → IsCounted faults faults' r
    → IsTaken TASKS (record { given = given; given' = given'; left = left; left' = left'; faults = faults; faults' = faults' }) r'
taken_as given given' left left' faults faults' r r' e h told counted =
    subst (IsTaken TASKS (record { given = given; given' = given'; left = left; left' = left'; faults = faults; faults' = faults' })) e record { bytes = h.0; gave = h.1; comes = h.2; told = told; counted = counted }

-- ---- the opening

pub is_ready : (words : RunWords) (clock : Option ℕ) (told : Option Files) (flow : InputFlow) (k : Kept) (tasks : List Task) (stamp : ℕ) (opening : Opening) → HandsOn words told k
    → IsTaken TASKS flow (Ok tasks) → IfSome clock (λ n. stamp ≡ n) → opening ≡ run_opening words tasks k.registers k.notes stamp → IsReady words clock told flow opening
is_ready words clock told flow k tasks stamp opening h input at is = record {
  stamp = stamp;
  at = at;
  kept = h.kept;
  text = h.text;
  right = h.right;
  tasks = tasks;
  input = input;
  begins = record { notes = k.notes; counts = h.notes; is = is ∙ ap (λ (r : RegisterFile). run_opening words tasks r k.notes stamp) h.registers };
}

-- ---- what a run may begin with

-- a line whose number is above the limit is refused
pub unrefused : (limits : Limits) (n : ℕ) (line : List ℕ) → reason_of limits n line ≡ None → n ≤ limits.lines
unrefused limits n line h = go (nat_lt limits.lines n) refl
  where
    go : (b : Bool) → nat_lt limits.lines n ≡ b → n ≤ limits.lines
    go true e = absurd (let bad : reason_of limits n line ≡ Some Many = ap (λ (b : Bool). cond {A = Option Reason} b (Some Many) (cond {A = Option Reason} (nat_lt limits.line (length line)) (Some Long) (option_and_then reason_for (fault_of line)))) e in cc)
    go false e = grind (arith, nat_tests)

none_first : (n : ℕ) (r : Option Reason) (next : Option (ℕ × Reason)) → refused_or n r next ≡ None → (r ≡ None) × (next ≡ None)
none_first n None next h = (refl, h)
none_first n (Some r) next h = absurd cc

few_lines : (limits : Limits) (n : ℕ) (lines : List (List ℕ)) → first_refused limits n lines ≡ None → n ≤ limits.lines + 1 → n + length lines ≤ limits.lines + 1
few_lines limits n [] h within = omega arith
few_lines limits n (line ∷ lines) h within =
    let both = none_first n (reason_of limits n line) (first_refused limits (n + 1) lines) h in
    let here : n ≤ limits.lines = unrefused limits n line both.0 in
    let rest : n + 1 + length lines ≤ limits.lines + 1 = few_lines limits (n + 1) lines both.1 (omega (arith, here)) in
    omega (arith, rest)

pub none_large : (large : Bool) (n : ℕ) (r : Option (ℕ × Reason)) → or_large large n r ≡ None → (large ≡ false) × (r ≡ None)
none_large true n (Some x) h = absurd cc
none_large true n None h = absurd cc
none_large false n (Some x) h = absurd cc
none_large false n None h = (refl, refl)

none_refused : (limits : Limits) (bytes : List ℕ) → refused_in limits bytes ≡ None → first_refused limits 1 (lines_of true bytes) ≡ None
none_refused limits bytes h =
    let none = none_large (is_large limits bytes) (length (lines_within limits bytes)) (first_refused limits 1 (lines_within limits bytes)) h in
    sym (ap (λ (b : Bool). first_refused limits 1 (cond {A = List (List ℕ)} b (lines_of false (take limits.bytes bytes)) (lines_of true bytes))) none.0) ∙ none.1

pub few_tasks : (limits : Limits) (bytes : List ℕ) (tasks : List Task) → IsInput limits bytes (Ok tasks) → length tasks ≤ limits.lines
few_tasks limits bytes tasks h =
    let few : 1 + length (lines_of true bytes) ≤ limits.lines + 1 = few_lines limits 1 (lines_of true bytes) (none_refused limits bytes h.0) (omega arith) in
    let same : length (lines_of true bytes) ≡ length tasks = ap (λ (ls : List (List ℕ)). length ls) h.1.whole ∙ length-map tasks line_of in
    omega (arith, few, same)

may_begin : (words : RunWords) (clock : Option ℕ) (told : Option Files) (flow : InputFlow) (opening : Opening) → IsFit (Run words) → IsWrittenUuid words.uuid → words.again ≤ most_again
    → IsReady words clock told flow opening → MayBegin opening
may_begin words clock told flow opening fit written again ready =
    let given = ready.input.comes.1 in
    subst MayBegin (sym ready.begins.is) record {
      few = few_tasks TASKS ready.input.bytes ready.tasks given;
      tasks = given.1.each;
      lines = fit.identity;
      uuid = written;
      again = again;
    }

pub may_begin_all : (words : RunWords) (clock : Option ℕ) (told : Option Files) (flow : InputFlow) (faults faults' : ℕ) (r : Result Opening RunEnd) → IsFit (Run words) → IsWrittenUuid words.uuid → words.again ≤ most_again
    → BeginsRun words clock told flow faults faults' r → IfOk r MayBegin
may_begin_all words clock told flow faults faults' (Ok opening) fit written again h = may_begin words clock told flow opening fit written again h
may_begin_all words clock told flow faults faults' (Err end) fit written again h = tt
