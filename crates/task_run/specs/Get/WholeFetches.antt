-- How the whole content is taken in, once the one request for it has its verdict.
use Rattle.std.specs.Prelude.{◌≡◌, Option, Result, Ok, unwrap_or}
use Rattle.std.specs.Bool.{MatchBool}
use Rattle.ann_key.specs.Keys.{Parts}
use Rattle.ann_key.specs.declared.bytes.NoMemory.{NoMemory}
use Rattle.ann_outside.specs.Calls.{Log}
use Rattle.journal_model.specs.declared.verdict.Verdict.{Verdict}
use Rattle.journal_model.specs.declared.answer.Answer.{Answer}
use Rattle.journal_model.specs.declared.answer.Answer.TheVariants.{Memory}
use Rattle.task_model.specs.Stops.{is_done_at}
use Rattle.task_model.specs.Ran.{undone_answer}
use Rattle.task_model.specs.Fetching.{Files3, Fetches}

-- where it is done, the fetched file is taken in; else no call is made, and the verdict gives the answer
abbrev pub TakesWhole : Files3 → Parts → Verdict → Option Log → Option Log → Result Answer NoMemory → Type 0
TakesWhole names key verdict old new result =
    MatchBool (is_done_at verdict) (Fetches names key old new result) ((new ≡ old) × (result ≡ Ok (unwrap_or (undone_answer verdict) Memory)))
