-- Where a line gave a request's verdict, the job's part is a conversation about that request.
use Rattle.std.proofs.Common.{◌≡◌, inl, inr, ◌∙◌, ℕ, ◌≤◌, List, [], ◌∷◌, ◌++◌, refl, sym, ap, subst, Bool, true, false, Option, Some, None, append_assoc, length, arith}
use Rattle.std.specs.Prelude.{◌&&◌, IfSome}
use Rattle.std.specs.List.{list_all}
use Rattle.annex_model.specs.declared.final_line.Final.{Final}
use Rattle.annex_model.specs.Messages.{HostMessage, host_line, host_reading, is_askable}
use Rattle.annex_model.specs.Talks.{Host, IsLead, Item}
use Rattle.annex_model.specs.Hearings.{asked_by, request_in}
use Rattle.annex_model.proofs.Leads.{plain_asked}
use Rattle.annex_model.proofs.Classes.{test_askable}
use Rattle.annex_model.proofs.Readings.{canonical_read}
use Rattle.journal_model.specs.declared.verdict.Why.{Why}
use Rattle.journal_model.specs.declared.verdict.Verdict.{Verdict}
use Rattle.journal_model.specs.declared.entry.What.{What}
use Rattle.journal_model.specs.declared.entry.What.TheVariants.{Start, Ask}
use Rattle.journal_model.specs.declared.entry.Entry.{Entry}
use Rattle.journal_model.specs.declared.opening.Opening.{Opening}
use Rattle.journal_model.specs.Due.{replies_at}
use Rattle.journal_model.specs.Journal.{accepts_async, addressed, any, asked_jobs, is_tagged, offers, on_wire, verdict_of, why_of}
use Rattle.journal_model.specs.Legality.{Legal}
use Rattle.journal_model.specs.Parts.{part, part_from}
use Rattle.journal_model.specs.Projection.{Ends, Fits, FitsFinal, PartFits, final_in}
use Rattle.journal_model.specs.Shares.{by_asker}
use Rattle.journal_model.proofs.PartsGrow.{part_from-append}
use Rattle.journal_model.proofs.Projecting.{asked_parts, invariant, parts_fit}
use Rattle.host_core.specs.Steps.{next_job}
use Rattle.child_link.specs.Alone.{AskedAlone, IsSettled}
use Rattle.child_link.specs.Asks.{lost_as}
use Rattle.mirror_children.specs.Children.{ChildValue, IsLinked}
use Rattle.mirror_children.specs.Rule.{IsTold}
use Rattle.std.proofs.lemmas.Option.{same_Some as same_some}
use Rattle.std.proofs.lemmas.Bool.{and_parts as both}
use Rattle.ann_key.proofs.Numbers.{same_number as same}

-- ---- the child takes no tags

offers_none : (w : What) → by_asker 1 w ≡ true → offers 1 w ≡ false
offers_none (Start child slot offer) h = absurd cc
offers_none w h = refl

none_offered : (es : List Entry) → list_all (λ (e : Entry). by_asker 1 e.what) es ≡ true → any (offers 1) es ≡ false
none_offered [] h = refl
none_offered (e ∷ es) h =
    let t = both (by_asker 1 e.what) (list_all (λ (x : Entry). by_asker 1 x.what) es) h in
    rw (offers_none e.what t.0, none_offered es t.1) refl

untagged : (c : ChildValue) → IsLinked c → is_tagged c.journal 1 ≡ false
untagged c l =
    let none : any (offers 1) c.journal ≡ false = ap (any (offers 1)) l.first ∙ none_offered l.more l.own in
    ap (λ (b : Bool). b && accepts_async c.journal (verdict_of c.journal 1 0)) none

wired_so : (past : List Entry) (j : ℕ) (message : List ℕ) → is_tagged past 1 ≡ false → (addressed past 1 (on_wire past 1 j message)).1 ≡ message
wired_so past j message none = rw none refl

-- ---- the part of the job

by_fit : (replies : ℕ → List (List ℕ)) (q : HostMessage) (p : List Item) (f : Option (Final × ℕ)) → FitsFinal replies q p f → IfSome f (λ x. Ends replies q p x.0 x.1)
by_fit replies q p None h = tt
by_fit replies q p (Some f) h = h

by_part : (replies : ℕ → List (List ℕ)) (q : HostMessage) (p : List Item) (v : Verdict) → request_in p ≡ Some q → Fits replies p (Some v) → IfSome (final_in v) (λ x. Ends replies q p x.0 x.1)
by_part replies q [] v first f = absurd cc
by_part replies q (i ∷ is) v first f =
    let is_q : f.0 ≡ q = same_some f.0 q (sym f.1 ∙ first) in
    by_fit replies q (i ∷ is) (final_in v) (subst (λ (r : HostMessage). PartFits replies r (i ∷ is) (Some v)) is_q f.3)

-- the part begins with the request
first_asked : (o : Opening) (past more : List Entry) (q : HostMessage) → Legal o past → is_tagged past 1 ≡ false → is_askable q ≡ true → IsLead q []
    → request_in (part (past ++ record { by = 0; what = Ask 1 (next_job past 1) 0 (on_wire past 1 (next_job past 1) (host_line q)) } ∷ more) 1 (next_job past 1)) ≡ Some q
first_asked o past more q legal none askable plain =
    let job : ℕ = next_job past 1 in
    let line : List ℕ = on_wire past 1 job (host_line q) in
    let asked : Entry = record { by = 0; what = Ask 1 job 0 line } in
    let few : length (asked_jobs past 1) ≤ job = omega arith in
    let fresh : part past 1 job ≡ [] = (asked_parts o past legal 1 job).1 ((invariant o past legal).fresh 1 job few) in
    let reads : host_reading (addressed past 1 line).1 ≡ Some q = ap host_reading (wired_so past job (host_line q) none) ∙ canonical_read q (test_askable q askable) in
    let own : part_from 1 job past (asked ∷ more) ≡ record { side = Host; at = length past; text = (addressed past 1 line).1 } ∷ part_from 1 job (past ++ asked ∷ []) more = rw (same job) refl in
    let whole : part (past ++ asked ∷ more) 1 job ≡ part past 1 job ++ part_from 1 job past (asked ∷ more) = part_from-append 1 job [] past (asked ∷ more) (λ p. refl) in
    rw (whole, fresh, own) (ap (λ (r : Option HostMessage). asked_by r (part_from 1 job (past ++ asked ∷ []) more)) reads ∙ plain_asked q (part_from 1 job (past ++ asked ∷ []) more) plain)

settled_told : (c c' : ChildValue) (q : HostMessage) (v : Verdict) → IsLinked c → is_askable q ≡ true → IsLead q [] → Legal c'.opening c'.journal → IsSettled c.opening c.journal c'.journal 0 1 0 None q v → IsTold q c c' v
settled_told c c' q v l askable plain legal s =
    let job : ℕ = next_job c.journal 1 in
    let asked : Entry = record { by = 0; what = Ask 1 job 0 (on_wire c.journal 1 job (host_line q)) } in
    let is : c'.journal ≡ c.journal ++ asked ∷ s.goes.more = s.goes.is ∙ append_assoc c.journal (asked ∷ []) s.goes.more in
    let first : request_in (part c'.journal 1 job) ≡ Some q = ap (λ (j : List Entry). request_in (part j 1 job)) is ∙ first_asked c.opening c.journal s.goes.more q l.legal (untagged c l) askable plain in
    let replies = replies_at c'.opening c'.journal in
    by_part replies q (part c'.journal 1 job) v first (subst (λ (x : Option Verdict). Fits replies (part c'.journal 1 job) x) s.settled (parts_fit c'.opening c'.journal legal 1 job))

lost_told : (c c' : ChildValue) (q : HostMessage) (v : Verdict) (why : Option Why) → v ≡ lost_as why → IsTold q c c' v
lost_told c c' q v None e = subst (IsTold q c c') (sym e) tt
lost_told c c' q v (Some why) e = subst (IsTold q c c') (sym e) tt

pub asked_told : (c c' : ChildValue) (q : HostMessage) (v : Verdict) → IsLinked c → is_askable q ≡ true → IsLead q [] → Legal c'.opening c'.journal → AskedAlone c.opening c.journal c'.journal 0 1 0 None q v → IsTold q c c' v
asked_told c c' q v l askable plain legal (inl s) = settled_told c c' q v l askable plain legal s
asked_told c c' q v l askable plain legal (inr g) = lost_told c c' q v (why_of c.journal 1) g.lost
