use Rattle.std.proofs.Common.{refl, subst, sym}
use Rattle.std.specs.Prelude.{option_map}
use Rattle.journal_model.specs.declared.entry.What.{What}
use Rattle.journal_scan.specs.Shown.{entry_shown}
use Rattle.journal_audit.specs.Replays.{IsTold}
use Rattle.journal_audit.proofs.Replaying.{on_ok}
use Rattle.journal_audit.proofs.replay.tell.Goals as goal

pub returns-in-Some-clause-told : goal.returns-in-Some-clause-told
returns-in-Some-clause-told c =
    on_ok c.tell_name.result c.tell_name.ensures.told (λ told.
    subst (λ (w : What). IsTold c.args.core.now.opening c.args.core.now.journal (record { by = c.args.entry.by; what = w }) (option_map entry_shown c.args.next) c.tell_name.new.core.journal)
    (sym c.in-Some.ensures.some) (told c.in-Some.field-0-1))

pub returns-in-None-clause-told : goal.returns-in-None-clause-told
returns-in-None-clause-told c =
    on_ok c.tell_plain.result c.tell_plain.ensures.told (λ told. told (c.in-None.ensures.none refl) (option_map entry_shown c.args.next))
