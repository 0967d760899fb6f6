-- The span of an open job, by the table of the open jobs.
use Rattle.std.proofs.Common.{◌≡◌, ◌∙◌, ℕ, ◌+◌, List, [], ◌∷◌, refl, sym, ap, subst, Bool, true, false, cond, Option, Some, None, length, take}
use Rattle.std.specs.Prelude.{◌==◌, ◌||◌, find}
use Rattle.std.specs.List.{All, list_any}
use Rattle.std.proofs.lemmas.List.Elements.{All-head, All-tail}
use Rattle.std.proofs.lemmas.Bool.{eqb-true as same_number, and_parts as both}
use Rattle.journal_model.specs.declared.entry.Entry.{Entry}
use Rattle.journal_model.specs.Journal.{any, first_of, offers, open_jobs, settles}
use Rattle.journal_model.proofs.Looks.{open_unsettled}
use Rattle.journal_scan.specs.Looks.{settled_at}
use Rattle.journal_scan.specs.Spans.{IsSpan}
use Rattle.journal_scan.proofs.Spanning.{span_is}
use Rattle.journal_look.specs.declared.jobs.Open.{Open}
use Rattle.journal_look.specs.Opens.{AreOpen, IsAsked, is_this}
use Rattle.journal_look.proofs.Opening.{is_open_here, none_first, place_here}
use Rattle.ann_key.proofs.Lists.{found_so}

found_any : (p : Open → Bool) (jobs : List Open) (x : Open) → find p jobs ≡ Some x → list_any p jobs ≡ true
found_any p [] x h = absurd cc
found_any p (y ∷ jobs) x h = go (p y) h (found_any p jobs x)
  where
    go : (b : Bool) → cond b (Some y) (find p jobs) ≡ Some x → (find p jobs ≡ Some x → list_any p jobs ≡ true) → (b || list_any p jobs) ≡ true
    go true h r = refl
    go false h r = r h

asked_found : (past : List Entry) (p : Open → Bool) (jobs : List Open) (x : Open) → All (IsAsked past) jobs → find p jobs ≡ Some x → IsAsked past x
asked_found past p [] x all h = absurd cc
asked_found past p (y ∷ jobs) x all h = go (p y) h (asked_found past p jobs x (All-tail (IsAsked past) y jobs all))
  where
    go : (b : Bool) → cond b (Some y) (find p jobs) ≡ Some x → (find p jobs ≡ Some x → IsAsked past x) → IsAsked past x
    go true h r =
        let is : y ≡ x = cc in
        subst (IsAsked past) is (All-head (IsAsked past) y jobs all)
    go false h r = r h

pub span_here : (past : List Entry) (jobs : List Open) (c j len : ℕ) (x : Open) → length past ≡ len → AreOpen past jobs → any (offers c) past ≡ false
    → find (is_this c j) jobs ≡ Some x → x.alone ≡ true → IsSpan past c j (record { asked = x.at; settled = len })
span_here past jobs c j len x long are plain found alone =
    span_is past c j x.at len plain (place_here past jobs c j x are found) (sym long ∙ sym (none_first (settles c j) past unsettled)) first
  where
    unsettled : any (settles c j) past ≡ false
    unsettled = open_unsettled past c j (sym (is_open_here past jobs c j are) ∙ found_any (is_this c j) jobs x found)

    parts : ((x.child == c) ≡ true) × ((x.job == j) ≡ true)
    parts = both (x.child == c) (x.job == j) (found_so (is_this c j) jobs x found)

    first : first_of (open_jobs (take (x.at + 1) past) c) ≡ Some j
    first =
        ap (λ (d : ℕ). first_of (open_jobs (take (x.at + 1) past) d)) (sym (same_number x.child c parts.0))
        ∙ (asked_found past (is_this c j) jobs x are.first found).alone alone
        ∙ ap (λ (k : ℕ). Some k) (same_number x.job j parts.1)
