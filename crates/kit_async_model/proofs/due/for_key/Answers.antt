use Rattle.std.proofs.Common.{◌≡◌, true, false, rules, tests}
use Rattle.std.specs.Str.{is_utf8}
use Rattle.wire_msg.specs.Shown.{host_shown}
use Rattle.kit_async_model.proofs.Dues.{unprepared_due, no_text_due, worked_due}
use Rattle.kit_async_model.proofs.due.for_key.Goals as goal

pub returns-then-not-prepared : goal.returns-then-not-prepared
returns-then-not-prepared c =
    unprepared_due c.failed.result (host_shown c.args.request) c.args.prepared c.requires.key (search rules) c.requires.askable
    c.failed.ensures.line c.failed.ensures.sayable

pub returns-then-not-is_text : goal.returns-then-not-is_text
returns-then-not-is_text c =
    let text : is_utf8 c.args.file.now ≡ false = search (rules, tests) in
    no_text_due c.failed-then-not-is_text.result (host_shown c.args.request) c.args.prepared c.args.file.now c.requires.key (search rules) c.requires.askable
    c.requires.file text c.failed-then-not-is_text.ensures.line c.failed-then-not-is_text.ensures.sayable

pub returns-else-not-is_text : goal.returns-else-not-is_text
returns-else-not-is_text c =
    let text : is_utf8 c.args.file.now ≡ true = search (rules, tests) in
    worked_due (host_shown c.args.request) c.args.prepared c.args.file.now c.requires.key (search rules) c.requires.file text
