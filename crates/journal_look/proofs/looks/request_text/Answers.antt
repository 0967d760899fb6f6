use Rattle.std.proofs.Common.{◌≡◌, List, subst, sym}
use Rattle.std.specs.Prelude.{IfSome}
use Rattle.journal_model.specs.declared.entry.Entry.{Entry}
use Rattle.journal_scan.specs.Looks.{asked_at}
use Rattle.journal_look.proofs.looks.request_text.Goals as goal

pub request_text-requires-clause-known : goal.request_text-requires-clause-known
request_text-requires-clause-known c =
    subst (λ (l : List Entry). IfSome c.place_of-place.result (λ at. at ≡ asked_at l c.args.child c.args.job)) (sym c.entries.ensures) c.place_of-place.ensures
