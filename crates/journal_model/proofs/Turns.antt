-- What stays of a child's tags and of its turns, as a journal goes on.
use Rattle.std.proofs.Common.{zero, suc, ◌≡◌, ℕ, List, [], ◌∷◌, ◌++◌, refl, ap, ◌∙◌, Bool, true, false, not, None, Some, Option, append-nil}
use Rattle.std.specs.Prelude.{◌&&◌, ◌||◌, filter, slice_get}
use Rattle.std.specs.Option.{option_or}
use Rattle.journal_model.specs.declared.verdict.Verdict.{Verdict}
use Rattle.journal_model.specs.declared.verdict.Verdict.TheVariants.{Done}
use Rattle.annex_model.specs.Messages.{remote_reading}
use Rattle.annex_model.specs.Tags.{names_async}
use Rattle.journal_model.specs.declared.entry.What.{What}
use Rattle.journal_model.specs.declared.entry.What.TheVariants.{Ask, Got, Verdict as Settled}
use Rattle.journal_model.specs.declared.entry.Entry.{Entry}
use Rattle.journal_model.specs.Journal.{any, asks, got_lines, got_from, has_spoken, asked_jobs, settles, is_settled, open_jobs, verdict_of, offers, accepts_async, line_at, is_tagged}
use Rattle.journal_model.specs.Legality.{is_empty}
use Rattle.journal_model.specs.Wires.{may_hear, heard_from, is_heard_in_turn}
use Rattle.journal_model.specs.Shares.{is_of_child}
use Rattle.journal_model.proofs.Looks.{each_of-append, any-append, verdict_of-append}
use Rattle.journal_model.proofs.Heard.{heard_on, heard-append}
use Rattle.ann_key.proofs.Booleans.{or_false, or_true, left_false as either_left, right_false as either_right}
use Rattle.ann_key.proofs.Lists.{filter_alike as filter_same}
use Rattle.std.proofs.lemmas.Bool.{and_parts as both}

-- ---- a tagged child stays so

slice_get-more : (xs ys : List Entry) (at : ℕ) (e : Entry) → slice_get xs at ≡ Some e → slice_get (xs ++ ys) at ≡ Some e
slice_get-more [] ys at e h = absurd cc
slice_get-more (x ∷ xs) ys zero e h = h
slice_get-more (x ∷ xs) ys (suc at) e h = slice_get-more xs ys at e h

line_on : (past more : List Entry) (at : ℕ) → names_async (remote_reading (line_at past at)) ≡ true → names_async (remote_reading (line_at (past ++ more) at)) ≡ true
line_on past more at h = go (slice_get past at) refl
  where
    go : (o : Option Entry) → slice_get past at ≡ o → names_async (remote_reading (line_at (past ++ more) at)) ≡ true
    go None e = let bad : false ≡ true = rw e at h in absurd cc
    go (Some x) e = rw (slice_get-more past more at x e) (rw e at h)

accepts_on : (past more : List Entry) (v : Option Verdict) (w : Option Verdict) → accepts_async past v ≡ true → accepts_async (past ++ more) (option_or v w) ≡ true
accepts_on past more (Some (Done at)) w h = line_on past more at h
accepts_on past more (Some v) w h = absurd cc
accepts_on past more None w h = absurd cc

pub tagged_on : (past more : List Entry) (c : ℕ) → is_tagged past c ≡ true → is_tagged (past ++ more) c ≡ true
tagged_on past more c h =
    let t = both (any (offers c) past) (accepts_async past (verdict_of past c 0)) h in
    let offered : any (offers c) (past ++ more) ≡ true = any-append (offers c) past more ∙ ap (λ (b : Bool). b || any (offers c) more) t.0 in
    let accepted : accepts_async (past ++ more) (verdict_of (past ++ more) c 0) ≡ true =
    ap (accepts_async (past ++ more)) (verdict_of-append c 0 past more) ∙ accepts_on past more (verdict_of past c 0) (verdict_of more c 0) t.1 in
    rw (offered, accepted) refl

-- ---- a stretch without the child

pub record Without (c : ℕ) (more : List Entry) : Type 0 where
  pub gots : got_lines more c ≡ []
  pub spoken : has_spoken more c ≡ false
  pub asked : asked_jobs more c ≡ []
  pub settled : (j : ℕ) → is_settled more c j ≡ false

pub without : (c : ℕ) (more : List Entry) → any (is_of_child c) more ≡ false → Without c more
without c [] h = record { gots = refl; spoken = refl; asked = refl; settled = λ j. refl }
without c (e ∷ more) h = step e.what (either_left (is_of_child c e.what) (any (is_of_child c) more) h) (without c more (either_right (is_of_child c e.what) (any (is_of_child c) more) h))
  where
    step : (w : What) → is_of_child c w ≡ false → Without c more → Without c (record { by = e.by; what = w } ∷ more)
    step (Got child line) h r = record { gots = rw h r.gots; spoken = rw h r.spoken; asked = r.asked; settled = r.settled }
    step (Ask child job task line) h r = record { gots = r.gots; spoken = r.spoken; asked = rw h r.asked; settled = r.settled }
    step (Settled child job verdict) h r = record { gots = r.gots; spoken = r.spoken; asked = r.asked; settled = λ j. (rw h (r.settled j)) }
    step w h r = record { gots = r.gots; spoken = r.spoken; asked = r.asked; settled = r.settled }

open_same : (past more : List Entry) (c : ℕ) → Without c more → open_jobs (past ++ more) c ≡ open_jobs past c
open_same past more c w =
    ap (filter (λ j. not (is_settled (past ++ more) c j))) (each_of-append (asks c) past more ∙ ap (λ (x : List ℕ). asked_jobs past c ++ x) w.asked ∙ append-nil (asked_jobs past c))
    ∙ filter_same (λ j. not (is_settled (past ++ more) c j)) (λ j. not (is_settled past c j))
    (λ j. ap not (any-append (settles c j) past more ∙ ap (λ (b : Bool). is_settled past c j || b) (w.settled j) ∙ or_false (is_settled past c j))) (asked_jobs past c)

pub hears_on : (past more : List Entry) (c : ℕ) → Without c more → may_hear past c ≡ true → may_hear (past ++ more) c ≡ true
hears_on past more c w h = go (has_spoken past c) refl (is_tagged past c) refl h
  where
    spoken : has_spoken (past ++ more) c ≡ has_spoken past c
    spoken = any-append (got_from c) past more ∙ ap (λ (b : Bool). has_spoken past c || b) w.spoken ∙ or_false (has_spoken past c)

    go : (b : Bool) → has_spoken past c ≡ b → (t : Bool) → is_tagged past c ≡ t → (not b || (t || not (is_empty (open_jobs past c)))) ≡ true → may_hear (past ++ more) c ≡ true
    go false e t f h = rw (spoken, e) refl
    go true e true f h = rw (tagged_on past more c f) (or_true (not (has_spoken (past ++ more) c)))
    go true e false f h = rw (open_same past more c w) (last (not (has_spoken (past ++ more) c)) (is_tagged (past ++ more) c) (not (is_empty (open_jobs past c))) h)
      where
        last : (x y z : Bool) → z ≡ true → (x || (y || z)) ≡ true
        last true y z h = refl
        last false true z h = refl
        last false false z h = h

-- where others do nothing with the child, its lines stay in turn
pub turn_apart : (past more : List Entry) (c : ℕ) → any (is_of_child c) more ≡ false → is_heard_in_turn past c ≡ true → is_heard_in_turn (past ++ more) c ≡ true
turn_apart past more c none h = heard_on c past more (without c more none).gots h

-- ---- lines of a tagged child are always in turn

tagged_hears : (past : List Entry) (c : ℕ) → is_tagged past c ≡ true → may_hear past c ≡ true
tagged_hears past c t = rw t (or_true (not (has_spoken past c)))

tagged_from : (c : ℕ) (past more : List Entry) → is_tagged past c ≡ true → heard_from c past more ≡ true
tagged_from c past [] t = refl
tagged_from c past (e ∷ more) t = rw (tagged_hears past c t, tagged_from c (past ++ e ∷ []) more (tagged_on past (e ∷ []) c t)) (and_true (not (got_from c e.what)))
  where
    and_true : (b : Bool) → ((b || true) && true) ≡ true
    and_true true = refl
    and_true false = refl

pub tagged_turn : (past more : List Entry) (c : ℕ) → is_tagged past c ≡ true → is_heard_in_turn past c ≡ true → is_heard_in_turn (past ++ more) c ≡ true
tagged_turn past more c t h = heard-append c [] past more ∙ (rw (h, tagged_from c past more t) refl)
