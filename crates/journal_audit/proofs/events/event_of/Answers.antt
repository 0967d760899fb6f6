use Rattle.std.proofs.Common.{ℕ, ◌≡◌, ap, sym, subst, false}
use Rattle.std.specs.Prelude.{IfOk, Option}
use Rattle.host_core.specs.declared.event.Event.{Event}
use Rattle.journal_scan.specs.Shown.{what_shown}
use Rattle.journal_scan.specs.declared.entry.WhatRef.{WhatRef}
use Rattle.journal_audit.specs.Replays.{Suits, is_name}
use Rattle.journal_audit.proofs.Suiting.{suits_again, suits_answer, suits_claim}
use Rattle.journal_audit.proofs.events.event_of.Goals as goal

pub returns-in-Claim : goal.returns-in-Claim
returns-in-Claim c = λ by plain. suits_claim c.args.core.now.opening c.args.core.now.journal by (what_shown c.args.what) c.in-Claim.task c.in-Claim.child (ap what_shown c.in-Claim.is)

pub returns-in-Answer : goal.returns-in-Answer
returns-in-Answer c = λ by plain. suits_answer c.args.core.now.opening c.args.core.now.journal by (what_shown c.args.what) c.in-Answer.task c.in-Answer.answer (ap what_shown c.in-Answer.is)

pub returns-in-Again : goal.returns-in-Again
returns-in-Again c = λ by plain. suits_again c.args.core.now.opening c.args.core.now.journal by (what_shown c.args.what) c.in-Again.task c.in-Again.answer (ap what_shown c.in-Again.is)
