use Rattle.std.proofs.Common.{◌≡◌, ◌∙◌, sym, ap, subst, []}
use Rattle.annex_model.specs.Talks.{said}
use Rattle.wire_msg.specs.Shown.{host_shown}
use Rattle.host_talk.specs.declared.request.request.Request.{Request}
use Rattle.host_talk.specs.Request.Requests.{message_of}
use Rattle.host_talk.specs.Request.Hearings.{Follows}
use Rattle.journal_model.specs.Parts.{part}
use Rattle.host_core.proofs.Opened.{job_asked, no_text, no_message, asked_same, asked_waits}
use Rattle.host_core.proofs.Replaying.{nothing_begun}
use Rattle.host_core.proofs.talks.talk_of.Goals as goal

pub unreachable-requires : goal.unreachable-requires
unreachable-requires c =
    no_text c.args.opening.now c.args.journal.now.entries c.args.child c.args.job c.requires.legal c.requires.open c.in_default.ensures

pub unreachable-requires-in_default-read_host : goal.unreachable-requires-in_default-read_host
unreachable-requires-in_default-read_host c =
    no_message c.args.opening.now c.args.journal.now.entries c.args.child c.args.job c.in-Some.text.now c.requires.legal c.requires.open c.in-Some.ensures c.in_default-read_host.ensures.reading

pub request_of-requires : goal.request_of-requires
request_of-requires c =
    (job_asked c.args.opening.now c.args.journal.now.entries c.args.child c.args.job c.in-Some.text.now (host_shown c.in-Some-read_host.asked) c.requires.legal c.requires.open c.in-Some.ensures c.in-Some-read_host.ensures.reading).asks

pub replayed-requires : goal.replayed-requires
replayed-requires c =
    let q = host_shown c.in-Some-read_host.asked in
    let asked = job_asked c.args.opening.now c.args.journal.now.entries c.args.child c.args.job c.in-Some.text.now q c.requires.legal c.requires.open c.in-Some.ensures c.in-Some-read_host.ensures.reading in
    asked_waits (part c.args.journal.now.entries c.args.child c.args.job) q (message_of c.in_ok-request.request) asked c.in_ok-request.ensures

pub returns-then-takes_lines-clause-request : goal.returns-then-takes_lines-clause-request
returns-then-takes_lines-clause-request c =
    let q = host_shown c.in-Some-read_host.asked in
    let asked = job_asked c.args.opening.now c.args.journal.now.entries c.args.child c.args.job c.in-Some.text.now q c.requires.legal c.requires.open c.in-Some.ensures c.in-Some-read_host.ensures.reading in
    asked_same (part c.args.journal.now.entries c.args.child c.args.job) q (message_of c.in_ok-request.request) (message_of c.replayed.result.request) asked c.in_ok-request.ensures
    (ap (λ (r : Request). message_of r) c.replayed.ensures.request)

pub returns-else-takes_lines-clause-request : goal.returns-else-takes_lines-clause-request
returns-else-takes_lines-clause-request c =
    let q = host_shown c.in-Some-read_host.asked in
    let asked = job_asked c.args.opening.now c.args.journal.now.entries c.args.child c.args.job c.in-Some.text.now q c.requires.legal c.requires.open c.in-Some.ensures c.in-Some-read_host.ensures.reading in
    asked_same (part c.args.journal.now.entries c.args.child c.args.job) q (message_of c.in_ok-request.request) (message_of c.ask.result.request) asked c.in_ok-request.ensures
    (ap (λ (r : Request). message_of r) c.ask.ensures.request)

pub returns-else-takes_lines-clause-follows : goal.returns-else-takes_lines-clause-follows
returns-else-takes_lines-clause-follows c =
    let q = host_shown c.in-Some-read_host.asked in
    let p = part c.args.journal.now.entries c.args.child c.args.job in
    let asked = job_asked c.args.opening.now c.args.journal.now.entries c.args.child c.args.job c.in-Some.text.now q c.requires.legal c.requires.open c.in-Some.ensures c.in-Some-read_host.ensures.reading in
    let one = sym c.takes_lines.ensures ∙ c.if-takes_lines.false in
    let none : said p ≡ [] = nothing_begun q (said p) one asked.waits in
    subst (Follows c.ask.result) (sym none) c.ask.ensures.begins
