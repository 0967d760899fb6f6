-- What a child's jobs are as the journal grows by its link's entries, or by one request.
use Rattle.std.proofs.Common.{◌≡◌, ℕ, List, [], ◌∷◌, ◌++◌, refl, ap, subst, ◌∙◌, append-nil, Bool, true, false, not, ◌==◌, cond, Some, None, ◌⊎◌, inl, inr}
use Rattle.std.specs.Prelude.{◌||◌, filter}
use Rattle.std.specs.List.{list_all, cons_option}
use Rattle.std.proofs.lemmas.List.Elements.{filter-append}
use Rattle.journal_model.specs.declared.verdict.Verdict.{Verdict}
use Rattle.annex_model.specs.Extensions.{names_of}
use Rattle.annex_model.specs.Messages.{HostMessage, host_line}
use Rattle.journal_model.specs.declared.entry.What.{What}
use Rattle.journal_model.specs.declared.entry.What.TheVariants.{Start, Ask, Lost}
use Rattle.journal_model.specs.declared.entry.Entry.{Entry}
use Rattle.journal_model.specs.declared.opening.Opening.{Opening}
use Rattle.journal_model.specs.Journal.{any, asks, offers, is_settled, asked_jobs, open_jobs, on_wire}
use Rattle.journal_model.specs.Legality.{offered_names}
use Rattle.journal_model.proofs.Looks.{any-append, each_of-append}
use Rattle.host_core.specs.Steps.{group_of, next_job}
use Rattle.journal_model.specs.Shares.{by_link}
use Rattle.child_link.specs.Alone.{GoesOn, AskedAlone, IsSettled, IsLost}
use Rattle.ann_key.proofs.Booleans.{or_false}
use Rattle.std.proofs.lemmas.Bool.{and_parts as both}
use Rattle.ann_key.proofs.Numbers.{same_number as same}
use Rattle.journal_model.proofs.Across.{none_left, idle_on, settled_on, verdict_settles as verdict_settled}

-- ---- a link's own entries

link_asks_none : (c : ℕ) (more : List Entry) → list_all (λ (e : Entry). by_link c e.what) more ≡ true → asked_jobs more c ≡ []
link_asks_none c [] h = refl
link_asks_none c (e ∷ more) h =
    let t : (by_link c e.what ≡ true) × (list_all (λ (e : Entry). by_link c e.what) more ≡ true) = both (by_link c e.what) (list_all (λ (e : Entry). by_link c e.what) more) h in
    step e.what t.0 (link_asks_none c more t.1)
  where
    step : (w : What) → by_link c w ≡ true → asked_jobs more c ≡ [] → cons_option (asks c w) (asked_jobs more c) ≡ []
    step (Ask child job task line) l r = absurd cc
    step w l r = r

link_offers_none : (c : ℕ) (more : List Entry) → list_all (λ (e : Entry). by_link c e.what) more ≡ true → any (offers c) more ≡ false
link_offers_none c [] h = refl
link_offers_none c (e ∷ more) h =
    let t : (by_link c e.what ≡ true) × (list_all (λ (e : Entry). by_link c e.what) more ≡ true) = both (by_link c e.what) (list_all (λ (e : Entry). by_link c e.what) more) h in
    step e.what t.0 (link_offers_none c more t.1)
  where
    step : (w : What) → by_link c w ≡ true → any (offers c) more ≡ false → (offers c w || any (offers c) more) ≡ false
    step (Start child slot offer) l r = absurd cc
    step w l r = r

-- under other names
pub goes_as : {n m c d : ℕ} {a b new : List Entry} → m ≡ n → d ≡ c → b ≡ a → GoesOn m d b new → GoesOn n c a new
goes_as {m = m} {c = c} {d = d} {a = a} {new = new} e f h g =
    subst (λ (k : ℕ). GoesOn k c a new) e (subst (λ (k : ℕ). GoesOn m k a new) f (subst (λ (j : List Entry). GoesOn m d j new) h g))

-- a link asks nothing
pub goes_jobs : {n : ℕ} (old new : List Entry) (c : ℕ) → GoesOn n c old new → asked_jobs new c ≡ asked_jobs old c
goes_jobs old new c g =
    ap (λ (x : List Entry). asked_jobs x c) g.is ∙ each_of-append (asks c) old g.more
    ∙ ap (λ (ks : List ℕ). asked_jobs old c ++ ks) (link_asks_none c g.more g.quiet) ∙ append-nil (asked_jobs old c)

pub goes_names : {n : ℕ} (old new : List Entry) (c : ℕ) → GoesOn n c old new → offered_names new c ≡ offered_names old c
goes_names old new c g =
    ap names_of (
    ap (any (offers c)) g.is ∙ any-append (offers c) old g.more ∙ ap (λ (b : Bool). any (offers c) old || b) (link_offers_none c g.more g.quiet) ∙ or_false (any (offers c) old)
    )

-- ---- an idle child

pub goes_idle : {n : ℕ} (old new : List Entry) (c : ℕ) → GoesOn n c old new → open_jobs old c ≡ [] → open_jobs new c ≡ []
goes_idle old new c g idle = ap (λ (x : List Entry). open_jobs x c) g.is ∙ idle_on old g.more c (link_asks_none c g.more g.quiet) idle

own_job : (b : Bool) (job : ℕ) → b ≡ true → cons_option (cond b (Some job) None) [] ≡ job ∷ []
own_job true job e = refl
own_job false job e = absurd cc

module _ (o : Opening) (old new : List Entry) (by c t : ℕ) (q : HostMessage) (verdict : Verdict) where
  abbrev request : List Entry
  request = group_of o old by (Ask c (next_job old c) t (on_wire old c (next_job old c) (host_line q)))

  -- a request that was settled is one job more
  pub jobs_settled : IsSettled o old new by c t None q verdict → asked_jobs new c ≡ asked_jobs old c ++ next_job old c ∷ []
  jobs_settled s =
      goes_jobs (old ++ request) new c s.goes ∙ each_of-append (asks c) old request
      ∙ ap (λ (ks : List ℕ). asked_jobs old c ++ ks) (own_job (c == c) (next_job old c) (same c))

  pub jobs_lost : IsLost o old new by c t verdict → asked_jobs new c ≡ asked_jobs old c
  jobs_lost l =
      ap (λ (x : List Entry). asked_jobs x c) l.made ∙ each_of-append (asks c) old (group_of o old by (Lost c t)) ∙ append-nil (asked_jobs old c)

  -- a request is one job more, or was lost
  pub jobs_asked : AskedAlone o old new by c t None q verdict → (asked_jobs new c ≡ asked_jobs old c) ⊎ (asked_jobs new c ≡ asked_jobs old c ++ next_job old c ∷ [])
  jobs_asked (inl s) = inr (jobs_settled s)
  jobs_asked (inr l) = inl (jobs_lost l)

  idle_settled : open_jobs old c ≡ [] → IsSettled o old new by c t None q verdict → open_jobs new c ≡ []
  idle_settled idle s =
      let is_left : ℕ → Bool = λ k. not (is_settled new c k) in
      let mid : List Entry = old ++ request in
      let keep : (k : ℕ) → is_settled old c k ≡ true → is_settled new c k ≡ true =
      λ k h. (ap (λ (x : List Entry). is_settled x c k) s.goes.is ∙ settled_on mid s.goes.more c k (settled_on old request c k h)) in
      let before : filter is_left (asked_jobs old c) ≡ [] = none_left old new c (asked_jobs old c) keep idle in
      let here : is_settled new c (next_job old c) ≡ true = verdict_settled new c (next_job old c) verdict s.settled in
      let last : filter is_left (next_job old c ∷ []) ≡ [] = rw here refl in
      ap (filter is_left) (jobs_settled s) ∙ filter-append is_left (asked_jobs old c) (next_job old c ∷ [])
      ∙ ap (λ (ks : List ℕ). ks ++ filter is_left (next_job old c ∷ [])) before ∙ last

  -- a request leaves an idle child idle
  pub idle_asked : open_jobs old c ≡ [] → AskedAlone o old new by c t None q verdict → open_jobs new c ≡ []
  idle_asked idle (inl s) = idle_settled idle s
  idle_asked idle (inr l) = ap (λ (x : List Entry). open_jobs x c) l.made ∙ idle_on old (group_of o old by (Lost c t)) c refl idle
