-- A hall of a kit's core is closed.
use Rattle.std.proofs.Common.{◌≡◌, List, [], ◌∷◌, ◌++◌, sym, subst, append_assoc, append-nil}
use Rattle.threads.specs.declared.view.Link.{Link}
use Rattle.threads.specs.Log.{flat, Allowed, Legal as LegalLog}
use Rattle.threads.specs.Passes.{HasClosed}
use Rattle.kit_async_model.specs.declared.setup.Setup.{Setup}
use Rattle.kit_async_model.specs.declared.entry.Entry.{Entry}
use Rattle.kit_async_model.specs.Events.{IsMadeBy, MayStep}
use Rattle.kit_async_model.specs.Legality.{Legal}
use Rattle.kit_async_core.specs.Halls.{KitHall, KitPass}

pub legal_log : (setup : Setup) (past : List Entry) (ks : List (Link Entry)) → LegalLog (Allowed IsMadeBy MayStep) setup past ks → Legal setup past → Legal setup (past ++ flat ks)
legal_log setup past [] h l = subst (Legal setup) (sym (append-nil past)) l
legal_log setup past (k ∷ ks) h l =
    subst (Legal setup) (append_assoc past k.group (flat ks)) (legal_log setup (past ++ k.group) ks h.1 h.0.2.1.legal)

pub halls_stay_legal : (h : KitHall) (passes : List KitPass) (final : List Entry) (fixed : Setup) → HasClosed IsMadeBy MayStep h passes final fixed
    → Legal h.fixed h.start → Legal h.fixed final × (fixed ≡ h.fixed)
halls_stay_legal h passes final fixed closed l =
    (subst (Legal h.fixed) (sym closed.is) (legal_log h.fixed h.start closed.log closed.legal l), closed.kept)
