use Rattle.std.proofs.Common.{◌≡◌, ◌∙◌, sym, ap, false, Option}
use Rattle.std.specs.Prelude.{option_map}
use Rattle.std.specs.Str.{is_utf8}
use Rattle.std.proofs.lemmas.Str.{IsUtf8-from_is_utf8}
use Rattle.ann_key.specs.KeyRefs.{text_of}
use Rattle.annex_model.specs.Messages.{HostMessage}
use Rattle.kit_serve.specs.Kit.Kits.{asked_by}
use Rattle.kit_async_model.specs.Jobs.{asked_as, due_in, request_due, request_of, next_name}
use Rattle.kit_async_model.proofs.Dues.{not_asked, untold}
use Rattle.kit_async_model.proofs.job.Job.asked.Goals as goal
use Rattle.ann_key.proofs.Booleans.{never_true as is_false}

pub returns-in_default : goal.returns-in_default
returns-in_default c =
    sym
    (ap (option_map (asked_as (request_of c.args.self.now)))
    (not_asked c.due.result (due_in c.args.setup.now c.args.self.now) c.due.ensures c.in_default.not-Call))

pub returns-in_default-from_utf8 : goal.returns-in_default-from_utf8
returns-in_default-from_utf8 c =
    let job = c.args.self.now in
    let next = next_name c.args.setup.now job in
    let file = c.in-Some-Transfer.file.now in
    let text : is_utf8 file ≡ false = is_false (is_utf8 file) (λ h. c.in_default-from_utf8.ensures.cases.0 (IsUtf8-from_is_utf8 file h)) in
    let reading = rw c.in-Some-Transfer.field-0-is at c.in-Some-Transfer.ensures.reading in
    sym
    (ap (option_map (asked_as (request_of job)))
    (ap (λ (r : Option HostMessage). asked_by (request_due next job.values job.prepared r)) (sym reading)
    ∙ untold next job.values job.prepared c.in-Some-Transfer.store (text_of c.in-Some-Transfer.key) file text))
