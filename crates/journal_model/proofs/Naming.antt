-- A job's verdict is one that its request may have.
use Rattle.std.proofs.Common.{◌≡◌, ℕ, List, [], ◌∷◌, ◌++◌, refl, sym, ap, subst, ◌∙◌, not, true, false, Some, None, Option, length}
use Rattle.std.specs.Prelude.{IfSome}
use Rattle.journal_model.specs.declared.verdict.Verdict.{Verdict}
use Rattle.annex_model.specs.declared.final_line.Final.{Final}
use Rattle.annex_model.specs.Messages.{HostMessage, RemoteMessage, Export, host_reading}
use Rattle.annex_model.specs.Talks.{Item, Host, IsLead, said, final_of}
use Rattle.annex_model.proofs.Leads.{plain_asked}
use Rattle.journal_model.specs.declared.opening.Opening.{Opening}
use Rattle.journal_model.specs.declared.entry.What.TheVariants.{Lead, Ask}
use Rattle.journal_model.specs.declared.entry.Entry.{Entry}
use Rattle.journal_model.specs.Journal.{addressed, verdict_of}
use Rattle.journal_model.specs.Parts.{part, part_from}
use Rattle.annex_model.specs.Hearings.{asked_by, request_in}
use Rattle.journal_model.specs.Due.{replies_at}
use Rattle.journal_model.specs.Legality.{Legal, MayStand, may_come, asks_in_turn, is_led}
use Rattle.journal_model.specs.Projection.{Fits, PartFits, FitsFinal, final_in, IsNamed}
use Rattle.journal_model.proofs.Looks.{is_asked}
use Rattle.journal_model.proofs.Growing.{StandsFrom-split}
use Rattle.journal_model.proofs.Keeping.{plain_lead, in_turn_of}
use Rattle.journal_model.proofs.PartsGrow.{part_from-append}
use Rattle.journal_model.proofs.Projecting.{parts_fit, asked_parts}
use Rattle.std.proofs.lemmas.Option.{same_Some as same_some}
use Rattle.ann_key.proofs.Numbers.{same_number as same}
use Rattle.std.proofs.lemmas.Bool.{and_parts as both, not-true as not_true}

by_fit : (replies : ℕ → List (List ℕ)) (q : HostMessage) (p : List Item) (f : Option (Final × ℕ)) → FitsFinal replies q p f
    → IfSome f (λ x. (ms : List (Option RemoteMessage)) × (final_of q ms ≡ Some x.0))
by_fit replies q p None h = tt
by_fit replies q p (Some f) h = (said p, h.final)

by_part : (replies : ℕ → List (List ℕ)) (q : HostMessage) (p : List Item) (v : Verdict) → request_in p ≡ Some q → Fits replies p (Some v) → IsNamed q v
by_part replies q [] v first f = absurd cc
by_part replies q (i ∷ is) v first f =
    let is_q : f.0 ≡ q = same_some f.0 q (sym f.1 ∙ first) in
    by_fit replies q (i ∷ is) (final_in v) (subst (λ (r : HostMessage). PartFits replies r (i ∷ is) (Some v)) is_q f.3)

module _ (o : Opening) (past more : List Entry) (c by job task : ℕ) (line : List ℕ) (q : HostMessage) where
  abbrev asked : Entry
  asked = record { by = by; what = Ask c job task line }

  -- the part begins with the request
  first : Legal o past → is_asked past c job ≡ false → host_reading (addressed past c line).1 ≡ Some q → IsLead q []
      → request_in (part (past ++ asked ∷ more) c job) ≡ Some q
  first legal fresh reads plain =
      let none : part past c job ≡ [] = (asked_parts o past legal c job).1 fresh in
      let own : part_from c job past (asked ∷ more) ≡ record { side = Host; at = length past; text = (addressed past c line).1 } ∷ part_from c job (past ++ asked ∷ []) more =
      rw (same c, same job) refl in
      let whole : part (past ++ asked ∷ more) c job ≡ part past c job ++ part_from c job past (asked ∷ more) = part_from-append c job [] past (asked ∷ more) (λ p. refl) in
      rw (whole, none, own) (ap (λ (r : Option HostMessage). asked_by r (part_from c job (past ++ asked ∷ []) more)) reads ∙ plain_asked q (part_from c job (past ++ asked ∷ []) more) plain)

  -- where nothing is due, no request with a lead stands
  unled : Legal o past → host_reading (addressed past c line).1 ≡ Some q → Legal o (past ++ asked ∷ more) → IsLead q []
  unled legal reads after =
      let stands : MayStand o past [] asked =
      subst (λ (ds : List Entry). MayStand o past ds asked) legal.nothing_due (StandsFrom-split o [] [] past (asked ∷ more) after.stands).1.0 in
      let s = both (not (is_led (host_reading (addressed past c line).1))) (may_come o past by (Ask c job task line)) stands in
      let in_turn : asks_in_turn past c job line (host_reading (addressed past c line).1) ≡ true = (both _ _ (both _ _ s.1).0).1 in
      plain_lead q job (sym (ap is_led reads) ∙ not_true _ s.0) (in_turn_of past c job line (host_reading (addressed past c line).1) q reads in_turn)

  pub named : Legal o past → is_asked past c job ≡ false → host_reading (addressed past c line).1 ≡ Some q → Legal o (past ++ asked ∷ more)
      → (v : Verdict) → verdict_of (past ++ asked ∷ more) c job ≡ Some v → IsNamed q v
  named legal fresh reads after v is =
      let journal : List Entry = past ++ asked ∷ more in
      by_part (replies_at o journal) q (part journal c job) v (first legal fresh reads (unled legal reads after))
      (subst (λ (x : Option Verdict). Fits (replies_at o journal) (part journal c job) x) is (parts_fit o journal after c job))

-- the same of a request after a name
module _ (o : Opening) (past more : List Entry) (c by job task : ℕ) (said line name : List ℕ) (q : HostMessage) where
  abbrev lead : Entry
  lead = record { by = by; what = Lead c job said }

  abbrev led : Entry
  led = record { by = by; what = Ask c job task line }

  first_led : Legal o past → is_asked past c job ≡ false → host_reading (addressed past c said).1 ≡ Some (Export name) → host_reading (addressed (past ++ lead ∷ []) c line).1 ≡ Some q
      → request_in (part (past ++ lead ∷ led ∷ more) c job) ≡ Some q
  first_led legal fresh names reads =
      let mid : List Entry = past ++ lead ∷ [] in
      let none : part past c job ≡ [] = (asked_parts o past legal c job).1 fresh in
      let rest : List Item = record { side = Host; at = length mid; text = (addressed mid c line).1 } ∷ part_from c job (mid ++ led ∷ []) more in
      let own : part_from c job past (lead ∷ led ∷ more) ≡ record { side = Host; at = length past; text = (addressed past c said).1 } ∷ rest = rw (same c, same job) refl in
      let whole : part (past ++ lead ∷ led ∷ more) c job ≡ part past c job ++ part_from c job past (lead ∷ led ∷ more) =
      part_from-append c job [] past (lead ∷ led ∷ more) (λ p. refl) in
      rw (whole, none, own) (ap (λ (r : Option HostMessage). asked_by r rest) names ∙ reads)

  pub named_led : Legal o past → is_asked past c job ≡ false → host_reading (addressed past c said).1 ≡ Some (Export name) → host_reading (addressed (past ++ lead ∷ []) c line).1 ≡ Some q
      → Legal o (past ++ lead ∷ led ∷ more) → (v : Verdict) → verdict_of (past ++ lead ∷ led ∷ more) c job ≡ Some v → IsNamed q v
  named_led legal fresh names reads after v is =
      let journal : List Entry = past ++ lead ∷ led ∷ more in
      by_part (replies_at o journal) q (part journal c job) v (first_led legal fresh names reads)
      (subst (λ (x : Option Verdict). Fits (replies_at o journal) (part journal c job) x) is (parts_fit o journal after c job))
