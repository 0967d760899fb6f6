-- A kit that may hear any request, and one answer more.
use Rattle.std.proofs.Common.{ℕ, ◌≡◌, ◌&&◌, not, Bool, true, false, List, [], ◌∷◌, ◌++◌, Option, refl, sym, ap, ◌∙◌, subst, append_assoc}
use Rattle.std.proofs.lemmas.List.{append-nil}
use Rattle.std.proofs.lemmas.List.Elements.{filter_map-append}
use Rattle.annex_model.specs.Messages.{HostMessage}
use Rattle.kit_serve.specs.Kit.Kits.{Heard, messages, awaits_value, is_over, request_of, values_of}
use Rattle.kit_serve.specs.Kit.Stages.{KitValue, Follows, is_free, stage_by}
use Rattle.kit_serve.specs.Kit.Descriptions.{Description}
use Rattle.kit_serve.specs.Kit.Described.{Answered, ByKit, Aside, kit_part, kit_heard, is_about, goes_aside, answer_lines, described_behind, IsAnswered, AreAnsweredBehind}

free_by : (over awaits : Bool) (request : Option HostMessage) (values : List (List ℕ)) → is_free (stage_by over awaits request values) ≡ (not over && not awaits)
free_by true awaits request values = refl
free_by false true request values = refl
free_by false false request values = refl

pub free_followed : {R : Type 0} (settings : List (List ℕ)) (kit : KitValue R) (h : List Heard) → Follows settings kit h
    → is_free kit.stage ≡ (not (is_over settings (messages h)) && not (awaits_value settings (messages h)))
free_followed settings kit h f =
    ap is_free f.stage ∙ free_by (is_over settings (messages h)) (awaits_value settings (messages h)) (request_of (messages h)) (values_of (messages h))

pub aside_followed : {R : Type 0} (settings : List (List ℕ)) (kit : KitValue R) (h : List Heard) (request : Option HostMessage) → Follows settings kit h
    → goes_aside settings h request ≡ (is_free kit.stage && is_about request)
aside_followed settings kit h request f =
    ap (λ (b : Bool). b && is_about request) (sym (free_followed settings kit h f))

-- ---- one answer more

pub described_behind-push : (settings : List (List ℕ)) (before t : List Answered) (a : Answered)
    → described_behind settings before (t ++ a ∷ []) ≡ described_behind settings before t ++ answer_lines settings (kit_heard (before ++ t)) a
described_behind-push settings before [] a =
    append-nil (answer_lines settings (kit_heard before) a) ∙ ap (λ (b : List Answered). answer_lines settings (kit_heard b) a) (sym (append-nil before))
described_behind-push settings before (x ∷ rest) a =
    ap (λ (ls : List (List ℕ)). answer_lines settings (kit_heard before) x ++ ls) (described_behind-push settings (before ++ x ∷ []) rest a)
    ∙ sym (append_assoc (answer_lines settings (kit_heard before) x) (described_behind settings (before ++ x ∷ []) rest) (answer_lines settings (kit_heard ((before ++ x ∷ []) ++ rest)) a))
    ∙ ap (λ (b : List Answered). (answer_lines settings (kit_heard before) x ++ described_behind settings (before ++ x ∷ []) rest) ++ answer_lines settings (kit_heard b) a) (append_assoc before (x ∷ []) rest)

pub AreAnsweredBehind-push : (gives : Description → Type 0) (settings : List (List ℕ)) (before t : List Answered) (a : Answered)
    → AreAnsweredBehind gives settings before t → IsAnswered gives settings (kit_heard (before ++ t)) a → AreAnsweredBehind gives settings before (t ++ a ∷ [])
AreAnsweredBehind-push gives settings before [] a all one = (subst (λ (b : List Answered). IsAnswered gives settings (kit_heard b) a) (append-nil before) one, tt)
AreAnsweredBehind-push gives settings before (x ∷ rest) a all one = (
  all.0,
  AreAnsweredBehind-push gives settings (before ++ x ∷ []) rest a all.1
      (subst (λ (b : List Answered). IsAnswered gives settings (kit_heard b) a) (sym (append_assoc before (x ∷ []) rest)) one),
)

pub kit_heard-kit : (t : List Answered) (e : Heard) → kit_heard (t ++ ByKit e ∷ []) ≡ kit_heard t ++ e ∷ []
kit_heard-kit t e = filter_map-append kit_part t (ByKit e ∷ [])

pub kit_heard-aside : (t : List Answered) (request : Option HostMessage) (about : Description) → kit_heard (t ++ Aside request about ∷ []) ≡ kit_heard t
kit_heard-aside t request about = filter_map-append kit_part t (Aside request about ∷ []) ∙ append-nil (kit_heard t)
