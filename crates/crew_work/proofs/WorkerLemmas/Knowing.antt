-- The layouts of a task stay while it notes nothing, and the core tells them.
use Rattle.std.proofs.Common.{◌≡◌, ◌∙◌, ℕ, ◌+◌, List, [], ◌∷◌, ◌++◌, length, refl, sym, ap, subst, arith, length-append, append-nil, Bool, true, false, not, cond, ◌==◌, Option, Some, None}
use Rattle.std.specs.Prelude.{◌||◌, Result, Ok, Err, OnErr}
use Rattle.std.specs.List.{cons_option}
use Rattle.ann_key.specs.declared.bytes.NoMemory.{NoMemory}
use Rattle.annex_model.specs.Messages.{HostMessage}
use Rattle.task_text.specs.declared.task.Task.{Task}
use Rattle.journal_model.specs.declared.verdict.Verdict.{Verdict}
use Rattle.journal_model.specs.declared.entry.What.{What}
use Rattle.journal_model.specs.declared.entry.What.TheVariants.{Note}
use Rattle.journal_model.specs.declared.entry.Entry.{Entry}
use Rattle.journal_model.specs.declared.opening.Opening.{Opening}
use Rattle.journal_model.specs.Journal.{any}
use Rattle.journal_model.specs.Legality.{Legal, claims, closes, holder, is_claimed_by, task_of}
use Rattle.journal_model.specs.Shares.{Moved, makes_only}
use Rattle.journal_model.proofs.Holding.{held_busy}
use Rattle.journal_model.proofs.Unbounded.{Within, bounds, held_positive, none_by, unbounded}
use Rattle.child_link.specs.Asks.{never}
use Rattle.host_core.specs.declared.event.Event.TheVariants.{Layouts as LayoutsEvent}
use Rattle.host_core.specs.declared.event.Reply.{Reply}
use Rattle.host_core.specs.Steps.{Step, step_of, layouts_for}
use Rattle.task_model.specs.Askers.{Noting}
use Rattle.task_model.specs.Askings.{askings, asking_of, noting_of, notings_from}
use Rattle.child_link.specs.Doors.{Passed, Made}
use Rattle.crew_work.specs.Worker.AtTasks.{AskedFor, AtTask, NotedFor, SameTask, notings}
use Rattle.crew_work.specs.Worker.Noting.{by_noting}
use Rattle.crew_work.specs.Worker.KnownLayouts.{known_in, known_layouts, layouts_at}
use Rattle.crew_work.proofs.WorkerLemmas.Noted.{notings-append}
use Rattle.crew_work.proofs.WorkerLemmas.Pairs.{passed}
use Rattle.crew_work.proofs.WorkerLemmas.KeyNotes.{layouts_stay}
use Rattle.crew_work.proofs.WorkerLemmas.Serving.{at_asked}
use Rattle.ann_key.proofs.Booleans.{or_neither as neither}
use Rattle.journal_model.proofs.Testing.{only_others as others_make}

-- what gives no notes notes nothing
none_noted : (j : List Entry) (t : ℕ) (past : List Entry) (behind : ℕ) (xs : List Entry) → notings_from j t past behind xs ≡ [] → any (by_noting t) xs ≡ false
none_noted j t past behind [] h = refl
none_noted j t past behind (e ∷ xs) h =
    by_what e.what h (λ r. none_noted j t (past ++ e ∷ []) (behind + length (cons_option (asking_of j t past e.what) [])) xs r)
  where
    by_test : (b : Bool) (note : Noting) (more : List Noting) → cons_option (cond b (Some note) None) more ≡ [] → (b ≡ false) × (more ≡ [])
    by_test true note more h = absurd cc
    by_test false note more h = (refl, h)

    by_what : (w : What) → cons_option (noting_of t behind w) (notings_from j t (past ++ e ∷ []) (behind + length (cons_option (asking_of j t past e.what) [])) xs) ≡ []
        → (notings_from j t (past ++ e ∷ []) (behind + length (cons_option (asking_of j t past e.what) [])) xs ≡ [] → any (by_noting t) xs ≡ false)
        → (by_noting t w || any (by_noting t) xs) ≡ false
    by_what (Note task chunk count) h next =
        let p = by_test (task == t) (record { chunk = chunk; count = count; behind = behind }) _ h in
        rw p.0 (next p.1)
    by_what w h next = next h

-- whoever holds the task has noted nothing of it since, where its run wasn't closed
pub known_stay : (o : Opening) (n t : ℕ) (old more : List Entry) → AtTask o n t old → Legal o (old ++ more) → any (closes t) more ≡ false → notings (old ++ more) t ≡ notings old t
    → known_layouts o (old ++ more) t ≡ known_layouts o old t
known_stay o n t old more before legal unclosed same = layouts_stay o old more t legal (held_busy n (holder old t) before.held) unclosed unnoted
  where
    no_more : (xs ys : List Noting) → xs ++ ys ≡ xs → ys ≡ []
    no_more xs [] e = refl
    no_more xs (y ∷ ys) e = absurd (omega (arith, ap length e, length-append xs (y ∷ ys)))

    unnoted : any (by_noting t) more ≡ false
    unnoted =
        none_noted (old ++ more) t old (length (askings old t)) more
        (no_more (notings old t) (notings_from (old ++ more) t old (length (askings old t)) more) (sym (notings-append old more t before.shut) ∙ same))

-- a role that closes no run of a task that it holds closes none, nor do others
unclosed_on : (o : Opening) (n t : ℕ) (makes : What → Bool) → Within makes t → (old more : List Entry) → AtTask o n t old → Legal o (old ++ more) → makes_only makes n more ≡ true → any (closes t) more ≡ false
unclosed_on o n t makes within old more before legal own =
    (unbounded o old more n t (held_positive o old more n t legal before.held) legal before.held
    (none_by makes (bounds t) (λ w made. neither (claims t w) (closes t w) (within.unclaimed w made) (within.unclosed w made)) n more own)).1

pub known_same : (o : Opening) (n t : ℕ) {a : Bool} {old new : List Entry} → AtTask o n t old → SameTask o n t old new → Passed n a old new → known_layouts o new t ≡ known_layouts o old t
known_same o n t {a} {old} {new} at same p =
    let legal = subst (Legal o) p.is same.at.legal in
    ap (λ (j : List Entry). known_layouts o j t) p.is
    ∙ known_stay o n t old p.others at legal (unclosed_on o n t never (record { unclaimed = λ w h. absurd cc; unclosed = λ w h. absurd cc }) old p.others at legal (others_make never n p.others p.apart))
    (ap (λ (j : List Entry). notings j t) (sym p.is) ∙ same.noted)

-- a request and a note of nothing leave them
pub known_grown : {P Q : Type 0} (o : Opening) (n t : ℕ) {a : Bool} {makes mine : What → Bool} {old new : List Entry} → Within makes t → AtTask o n t old → AtTask o n t new → notings new t ≡ notings old t
    → Moved n a makes mine old new P Q → known_layouts o new t ≡ known_layouts o old t
known_grown o n t {a} {makes} {mine} {old} {new} within before after same s =
    let legal = subst (Legal o) s.is after.legal in
    ap (λ (j : List Entry). known_layouts o j t) s.is
    ∙ known_stay o n t old s.more before legal (unclosed_on o n t makes within old s.more before legal s.own)
    (ap (λ (j : List Entry). notings j t) (sym s.is) ∙ same)

noted_asked : (o : Opening) (n t : ℕ) (old new : List Entry) (name : Option (List ℕ)) (q : HostMessage) (result : Result Verdict NoMemory) → AskedFor o n t old new name q result → notings new t ≡ notings old t
noted_asked o n t old new name q (Ok v) h = h.noted
noted_asked o n t old new name q (Err e) h = h.noted

-- the same of an asker, whose door has the same opening and whose task is the same
module _ {P Q : Type 0} (o o' : Opening) (n t u : ℕ) {a : Bool} {makes mine : What → Bool} {old new : List Entry} (same_opening : o' ≡ o) (same_task : t ≡ u)
    (before : AtTask o n t old) (s : Moved n a makes mine old new P Q) (within : Within makes t) where
  known_now : known_layouts o new t ≡ known_layouts o old t → known_layouts o' new u ≡ known_layouts o old u
  known_now is =
      ap (λ (w : Opening). known_layouts w new u) same_opening
      ∙ subst (λ (k : ℕ). known_layouts o new k ≡ known_layouts o old k) same_task is

  pub known_asked : (name : Option (List ℕ)) (q : HostMessage) (result : Result Verdict NoMemory) → AskedFor o n t old new name q result → known_layouts o' new u ≡ known_layouts o old u
  known_asked name q result h = known_now (known_grown o n t within before (at_asked o n t old new name q result h) (noted_asked o n t old new name q result h) s)

  -- without memory nothing was noted
  pub known_noted : (chunk count : ℕ) (result : Result (Unit {0}) NoMemory) → NotedFor o n t old new chunk count result → OnErr result (known_layouts o' new u ≡ known_layouts o old u)
  known_noted chunk count (Ok done) h = tt
  known_noted chunk count (Err e) h = known_now (known_grown o n t within before h.at h.noted s)

  pub known_told : SameTask o n t old new → known_layouts o' new u ≡ known_layouts o old u
  known_told h = known_now (known_grown o n t within before h.at h.noted s)

-- what the core tells
pub told_so : (o : Opening) (n t : ℕ) {a : Bool} {old new : List Entry} {reply : Reply} → AtTask o n t old → Legal o new → Made o n a old new (LayoutsEvent t) reply
    → Passed n a old new × (known_in reply ≡ known_layouts o new t)
told_so o n t {a} {old} {new} {reply} at legal m = (here, ap known_in (m.reply_is ∙ ap (λ (s : Step). s.reply) step) ∙ said (task_of o t) ∙ ap (λ (j : List Entry). known_layouts o j t) (sym past_is))
  where
    held : is_claimed_by m.past n t ≡ true
    held = (passed o n t at (m.legal at.legal) m.passed).at.held

    step : step_of o m.past n (LayoutsEvent t) ≡ layouts_for o m.past (task_of o t)
    step = rw held refl

    nothing : (q : Option Task) → (layouts_for o m.past q).group ≡ []
    nothing None = refl
    nothing (Some task) = refl

    past_is : new ≡ m.past
    past_is = m.is ∙ ap (λ (s : Step). m.past ++ s.group) step ∙ ap (λ (g : List Entry). m.past ++ g) (nothing (task_of o t)) ∙ append-nil m.past

    here : Passed n a old new
    here = subst (λ (j : List Entry). Passed n a old j) (sym past_is) m.passed

    said : (q : Option Task) → known_in (layouts_for o m.past q).reply ≡ layouts_at o m.past q
    said None = refl
    said (Some task) = refl
