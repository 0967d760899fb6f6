-- What stays of a child while nothing is made of it, and what stands after a start in its stint.
use Rattle.std.proofs.Common.{◌≡◌, ℕ, List, [], ◌∷◌, ◌++◌, refl, ap, ◌∙◌, Bool, true, false, not, ◌==◌, Some, None, Option}
use Rattle.std.specs.Prelude.{◌&&◌, ◌||◌, is_some, option_and_then}
use Rattle.std.specs.List.{list_all}
use Rattle.std.specs.Option.{option_or}
use Rattle.journal_model.specs.declared.verdict.Why.{Why}
use Rattle.journal_model.specs.declared.verdict.Why.TheVariants.{Closed}
use Rattle.journal_model.specs.declared.verdict.Verdict.{Verdict}
use Rattle.journal_model.specs.declared.entry.What.{What}
use Rattle.journal_model.specs.declared.entry.What.TheVariants.{Start, NoStart, Lead, Ask, Put, Sent, Mute, Got, End, Verdict as Settled, Lost}
use Rattle.journal_model.specs.declared.entry.Entry.{Entry}
use Rattle.journal_model.specs.declared.opening.Opening.{Opening}
use Rattle.journal_model.specs.Journal.{any, ends, mutes, offers, is_ended, is_mute, is_tagged, verdict_of, why_of}
use Rattle.journal_model.specs.Legality.{Legal, is_done, is_prepared, prepares, asks_prepare}
use Rattle.journal_model.specs.Shares.{is_closed, is_of_child}
use Rattle.journal_model.proofs.Looks.{any-append, or_none, settled_none, verdict_of-append}
use Rattle.journal_model.proofs.Linking.{why_of-append}
use Rattle.journal_model.proofs.Projecting.{invariant}
use Rattle.journal_model.proofs.Replying.{tag_kept}
use Rattle.journal_model.proofs.Turns.{without}
use Rattle.child_link.proofs.Linked.{any_narrower}
use Rattle.task_model.specs.TaskRuns.{refusal_of, refused_at}
use Rattle.run_starts.specs.Starting.{is_any_start, is_ready_untagged, is_spent, is_unclosed}
use Rattle.run_starts.specs.Stints.{in_stint}
use Rattle.std.proofs.lemmas.Bool.{and_parts as both, eqb-true as same_number}
use Rattle.ann_key.proofs.Booleans.{or_left, or_right, or_false}

-- ---- after a start

pub no_start_in : (c : ℕ) (w : What) → in_stint c w ≡ true → is_any_start w ≡ false
no_start_in c (Start child slot offer) h = absurd cc
no_start_in c (NoStart slot) h = absurd cc
no_start_in c w h = refl

-- it is of no other child
pub apart_in : (c d : ℕ) → (c == d) ≡ false → (w : What) → in_stint c w ≡ true → is_of_child d w ≡ false
apart_in c d other (Lead child job line) h = ap (λ (k : ℕ). k == d) (same_number child c h) ∙ other
apart_in c d other (Ask child job task line) h = ap (λ (k : ℕ). k == d) (same_number child c h) ∙ other
apart_in c d other (Put child job line) h = ap (λ (k : ℕ). k == d) (same_number child c h) ∙ other
apart_in c d other (Sent child) h = ap (λ (k : ℕ). k == d) (same_number child c h) ∙ other
apart_in c d other (Mute child) h = ap (λ (k : ℕ). k == d) (same_number child c h) ∙ other
apart_in c d other (Got child line) h = ap (λ (k : ℕ). k == d) (same_number child c h) ∙ other
apart_in c d other (End child why) h = ap (λ (k : ℕ). k == d) (same_number child c h) ∙ other
apart_in c d other (Settled child job verdict) h = ap (λ (k : ℕ). k == d) (same_number child c h) ∙ other
apart_in c d other (Lost child task) h = ap (λ (k : ℕ). k == d) (same_number child c h) ∙ other
apart_in c d other w h = refl

pub no_offer : (d : ℕ) (w : What) → is_any_start w ≡ false → offers d w ≡ false
no_offer d (Start child slot offer) h = absurd cc
no_offer d w h = refl

-- ---- a child of which nothing is made

pub prepares_of : (d : ℕ) (w : What) → prepares d w ≡ true → is_of_child d w ≡ true
prepares_of d (Ask child job task line) h = three (child == d) (job == 1) (asks_prepare line) h
  where
    three : (a b c : Bool) → (a && b && c) ≡ true → a ≡ true
    three true b c k = refl
    three false b c k = absurd cc
prepares_of d w h = absurd cc

module _ (past more : List Entry) (d : ℕ) (none : any (is_of_child d) more ≡ false) where
  verdict_none : (j : ℕ) → verdict_of more d j ≡ None
  verdict_none j = settled_none more d j ((without d more none).settled j)

  prepared_same : is_prepared (past ++ more) d ≡ is_prepared past d
  prepared_same =
      let v : verdict_of (past ++ more) d 1 ≡ verdict_of past d 1 = verdict_of-append d 1 past more ∙ or_none (verdict_of past d 1) (verdict_of more d 1) (verdict_none 1) in
      let a : any (prepares d) (past ++ more) ≡ any (prepares d) past =
      any-append (prepares d) past more ∙ ap (λ (b : Bool). any (prepares d) past || b) (any_narrower (prepares d) (is_of_child d) (prepares_of d) more none) ∙ or_false (any (prepares d) past) in
      ap (λ (x : Option Verdict). is_done x && any (prepares d) (past ++ more)) v ∙ ap (λ (b : Bool). is_done (verdict_of past d 1) && b) a

  pub ready_same : (o : Opening) → Legal o past → any (offers d) more ≡ false → is_ready_untagged (past ++ more) d ≡ is_ready_untagged past d
  ready_same o legal unoffered =
      let tag : is_tagged (past ++ more) d ≡ is_tagged past d = tag_kept past more d ((invariant o past legal).placed d) unoffered (verdict_none 0) in
      ap (λ (b : Bool). b && not (is_tagged (past ++ more) d)) prepared_same ∙ ap (λ (b : Bool). is_prepared past d && not b) tag

-- ---- what stays in any case

pub ended_on : (past more : List Entry) (d : ℕ) → is_ended past d ≡ true → is_ended (past ++ more) d ≡ true
ended_on past more d h = any-append (ends d) past more ∙ or_left (is_ended past d) (is_ended more d) h

pub mute_on : (past more : List Entry) (d : ℕ) → is_mute past d ≡ true → is_mute (past ++ more) d ≡ true
mute_on past more d h = any-append (mutes d) past more ∙ or_left (is_mute past d) (is_mute more d) h

refused_more : (v w : Option Verdict) → is_some (option_and_then refused_at v) ≡ true → is_some (option_and_then refused_at (option_or v w)) ≡ true
refused_more None w h = absurd cc
refused_more (Some v) w h = h

pub refused_on : (past more : List Entry) (d : ℕ) → is_some (refusal_of past d) ≡ true → is_some (refusal_of (past ++ more) d) ≡ true
refused_on past more d h =
    ap (λ (v : Option Verdict). is_some (option_and_then refused_at v)) (verdict_of-append d 1 past more) ∙ refused_more (verdict_of past d 1) (verdict_of more d 1) h

unclosed_more : (v w : Option Why) → is_unclosed v ≡ true → is_unclosed (option_or v w) ≡ true
unclosed_more None w h = absurd cc
unclosed_more (Some v) w h = h

pub unclosed_on : (past more : List Entry) (d : ℕ) → is_unclosed (why_of past d) ≡ true → is_unclosed (why_of (past ++ more) d) ≡ true
unclosed_on past more d h = ap is_unclosed (why_of-append past more d) ∙ unclosed_more (why_of past d) (why_of more d) h

pub spent_on : (past more : List Entry) (d : ℕ) → is_spent past d ≡ true → is_spent (past ++ more) d ≡ true
spent_on past more d h =
    go (is_some (refusal_of past d)) (is_mute past d) (is_unclosed (why_of past d)) (is_some (refusal_of (past ++ more) d)) (is_mute (past ++ more) d) (is_unclosed (why_of (past ++ more) d))
    (refused_on past more d) (mute_on past more d) (unclosed_on past more d) h
  where
    go : (a b c x y z : Bool) → (a ≡ true → x ≡ true) → (b ≡ true → y ≡ true) → (c ≡ true → z ≡ true) → (a || (b || c)) ≡ true → (x || (y || z)) ≡ true
    go true b c x y z f g k i = or_left x (y || z) (f refl)
    go false true c x y z f g k i = or_right x (y || z) (or_left y z (g refl))
    go false false true x y z f g k i = or_right x (y || z) (or_right y z (k refl))
    go false false false x y z f g k i = absurd cc

-- ---- ends that the host didn't make

abbrev pub is_unclosed_end : What → Bool
is_unclosed_end (End child why) = not (is_closed why)
is_unclosed_end w = true

pub why_unclosed : (why : Why) → is_closed why ≡ false → is_unclosed (Some why) ≡ true
why_unclosed Closed h = absurd cc
why_unclosed why h = refl

-- a child that such entries end
pub ended_unclosed : (c : ℕ) (xs : List Entry) → list_all (λ (e : Entry). is_unclosed_end e.what) xs ≡ true → is_ended xs c ≡ true → is_unclosed (why_of xs c) ≡ true
ended_unclosed c [] h k = absurd cc
ended_unclosed c (e ∷ xs) h k =
    let t = both (is_unclosed_end e.what) (list_all (λ (x : Entry). is_unclosed_end x.what) xs) h in
    ap is_unclosed (why_of-append (e ∷ []) xs c) ∙ step e.what t.0 k (ended_unclosed c xs t.1)
  where
    closed_not : (why : Why) → not (is_closed why) ≡ true → is_unclosed (Some why) ≡ true
    closed_not Closed n = absurd cc
    closed_not why n = refl

    step : (w : What) → is_unclosed_end w ≡ true → (ends c w || is_ended xs c) ≡ true → (is_ended xs c ≡ true → is_unclosed (why_of xs c) ≡ true)
        → is_unclosed (option_or (why_of (record { by = e.by; what = w } ∷ []) c) (why_of xs c)) ≡ true
    step (End child why) u i r = go (child == c) refl i
      where
        go : (b : Bool) → (child == c) ≡ b → (b || is_ended xs c) ≡ true → is_unclosed (option_or (why_of (record { by = e.by; what = End child why } ∷ []) c) (why_of xs c)) ≡ true
        go true x j = rw x (rw x (closed_not why u))
        go false x j = rw x (r j)
    step w u i r = r i
