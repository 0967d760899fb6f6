-- What a reply of the core says, taken for its kind.
use Rattle.std.specs.Prelude.{Bool, true, false, Option, Some, None}
use Rattle.journal_model.specs.declared.verdict.Why.{Why}
use Rattle.journal_model.specs.declared.verdict.Verdict.{Verdict}
use Rattle.host_core.specs.declared.event.Reply.{Reply}
use Rattle.host_core.specs.declared.event.Reply.TheVariants.{Gone, Done, Verdict as Settled, Line, Job, Read, Wait}
use Rattle.child_link.specs.declared.events.Listening.{Listening}
use Rattle.child_link.specs.declared.events.Listening.TheVariants.{Read as ToRead, Rest as ToRest, Over as IsOver}
use Rattle.child_link.specs.declared.events.Fetched.{Fetched}
use Rattle.child_link.specs.declared.events.Fetched.TheVariants.{Line as NextLine, Rest as NoLine, Over as NoMore}
use Rattle.child_link.specs.declared.events.Asked.{Asked}
use Rattle.child_link.specs.declared.events.Asked.TheVariants.{Job as AsJob, Lost as AsLost, Odd as NotAsked}

-- why the child is gone
abbrev pub gone_why : Reply → Option Why
gone_why (Gone why) = why
gone_why _ = None

abbrev pub is_done : Reply → Bool
is_done Done = true
is_done _ = false

abbrev pub settled_as : Reply → Option Verdict
settled_as (Settled verdict) = Some verdict
settled_as _ = None

abbrev pub listening_of : Reply → Listening
listening_of Read = ToRead
listening_of Wait = ToRest
listening_of _ = IsOver

abbrev pub fetched_of : Reply → Fetched
fetched_of (Line line) = NextLine line
fetched_of Wait = NoLine
fetched_of _ = NoMore

abbrev pub asked_of : Reply → Asked
asked_of (Job job) = AsJob job
asked_of (Gone why) = AsLost why
asked_of _ = NotAsked
