-- A verdict that names a line follows that line, and settles a job that was open then.
use Rattle.std.proofs.Common.{ℕ, ◌≡◌, ◌+◌, ◌<◌, ◌^◌, ◌⊎◌, inl, inr, Bool, true, false, not, cond, List, [], ◌∷◌, ◌++◌, length, map, Option, Some, None, refl, sym, ap, subst, ◌∙◌, arith, length-append}
use Rattle.std.specs.Prelude.{◌&&◌, ◌==◌, filter}
use Rattle.std.specs.List.{cons_option}
use Rattle.std.specs.Option.{option_or}
use Rattle.std.proofs.lemmas.Option.{none-some, same_Some}
use Rattle.annex_model.specs.declared.final_line.Final.{Final}
use Rattle.annex_model.specs.declared.final_line.Final.TheVariants.{Done}
use Rattle.annex_model.specs.Messages.{RemoteMessage, remote_reading}
use Rattle.annex_model.specs.Talks.{is_aside, said}
use Rattle.annex_model.specs.Hearings.{Hearing, Aside, Part, Settles, Strange, hearing, hearing_of, request_in}
use Rattle.journal_model.specs.declared.verdict.Why.{Why}
use Rattle.journal_model.specs.declared.verdict.Why.TheVariants.{Foul, Error as ErrorAt, Version as VersionFault}
use Rattle.journal_model.specs.declared.verdict.Verdict.{Verdict}
use Rattle.journal_model.specs.declared.verdict.Verdict.TheVariants.{Ended, Unsent}
use Rattle.journal_model.specs.declared.entry.What.{What}
use Rattle.journal_model.specs.declared.entry.What.TheVariants.{Mute, Got, End, Verdict as Settled}
use Rattle.journal_model.specs.declared.entry.Entry.{Entry}
use Rattle.journal_model.specs.declared.opening.Opening.{Opening}
use Rattle.journal_model.specs.Journal.{first_of, verdict_of, has_spoken, open_jobs, is_open, is_live, is_unsent, addressed}
use Rattle.journal_model.specs.Parts.{part}
use Rattle.journal_model.specs.Due.{verdict_at, ending, foul, replies, replying, due_by_got, due_after, after_hearing, after_late, after_message, after_line, is_passed, is_error, is_version_one, made_by}
use Rattle.journal_model.specs.Legality.{Legal, may_come}
use Rattle.journal_model.proofs.Growing.{Legal-induction, pair}
use Rattle.journal_model.proofs.Looks.{entry, verdict_of-append, settled_all, verdicts_one}
use Rattle.host_core.specs.declared.event.Event.{Event}
use Rattle.host_core.specs.Steps.{Step, step_of, group_of}
use Rattle.host_core.proofs.Stepping.{Came, step_came, plain_may}
use Rattle.pair_kit.specs.Answered.{place_in}
use Rattle.std.proofs.lemmas.Bool.{eqb-true as same_number}

-- The line is the next, and it settles the child's open job by a message that is no aside.
pub record Says (past : List Entry) (child : ℕ) (line : List ℕ) (c j at : ℕ) : Type 0 where
  pub child_is : child ≡ c
  pub place : at ≡ length past
  pub opened : is_open past c j ≡ true
  pub message : RemoteMessage
  pub reads : remote_reading (addressed past child line).1 ≡ Some message
  pub plain : is_aside message ≡ false

placed_at : (f : Final) (n : ℕ) → place_in (verdict_at f n) ≡ Some n
placed_at Done n = refl
placed_at f n = refl

-- ---- what a line makes due

module _ (o : Opening) (past : List Entry) (by child : ℕ) (line : List ℕ) where
  -- each verdict among these that names a line is said by this one
  abbrev Only : List What → Type 0
  Only ws = (c j at : ℕ) (v : Verdict) → verdict_of (made_by by ws) c j ≡ Some v → place_in v ≡ Some at → Says past child line c j at

  only_none : Only []
  only_none c j at v is place = absurd (none-some v is)

  only_ending : (why : Why) → Only (ending past child why)
  only_ending why c j at v is place = go (verdicts_one c j by child (Ended why) (open_jobs past child))
    where
      go : (verdict_of (settled_all by child (Ended why) (open_jobs past child)) c j ≡ None) ⊎ (verdict_of (settled_all by child (Ended why) (open_jobs past child)) c j ≡ Some (Ended why))
          → Says past child line c j at
      go (inl n) = absurd (none-some v (sym n ∙ is))
      go (inr s) = absurd (none-some at (ap place_in (same_Some (Ended why) v (sym s ∙ is)) ∙ place))

  replies_none : (k : ℕ) (lines : List (List ℕ)) (c j : ℕ) → verdict_of (made_by by (replying past child k lines)) c j ≡ None
  replies_none k [] c j = refl
  replies_none k (l ∷ ls) c j = replies_none k ls c j

  only_replies : (k : ℕ) (lines : List (List ℕ)) → Only (replying past child k lines)
  only_replies k lines c j at v is place = absurd (none-some v (sym (replies_none k lines c j) ∙ is))

  only_final : (k : ℕ) (f : Final) (m : RemoteMessage) → is_open past child k ≡ true → remote_reading (addressed past child line).1 ≡ Some m → is_aside m ≡ false
      → Only (Settled child k (verdict_at f (length past)) ∷ [])
  only_final k f m opened reads plain c j at v is place = go (child == c) refl (k == j) refl is
    where
      go : (a : Bool) → (child == c) ≡ a → (b : Bool) → (k == j) ≡ b → first_of (cons_option (cond (a && b) (Some (verdict_at f (length past))) None) []) ≡ Some v
          → Says past child line c j at
      go true x true y h = record {
        child_is = same_number child c x;
        place = same_Some at (length past) (sym place ∙ sym (ap place_in (same_Some (verdict_at f (length past)) v h)) ∙ placed_at f (length past));
        opened = subst (λ (d : ℕ). is_open past d j ≡ true) (same_number child c x) (subst (λ (i : ℕ). is_open past child i ≡ true) (same_number k j y) opened);
        message = m;
        reads = reads;
        plain = plain;
      }
      go true x false y h = absurd (none-some v h)
      go false x b y h = absurd (none-some v h)

  only_late : (job : Option ℕ) (m : RemoteMessage) → Only (after_late past child job m)
  only_late job m = go (is_passed past child job m)
    where
      go : (b : Bool) → Only (cond b [] (foul past child))
      go true = only_none
      go false = only_ending (Foul (length past))

  only_heard : (k : ℕ) (m : RemoteMessage) → is_open past child k ≡ true → remote_reading (addressed past child line).1 ≡ Some m
      → Only (after_hearing o past child k m (hearing (part past child k) m))
  only_heard k m opened reads = go (is_aside m) refl
    where
      by_hearing : is_aside m ≡ false → (h : Hearing) → Only (after_hearing o past child k m h)
      by_hearing plain Aside = only_replies k (replies o past m)
      by_hearing plain Part = only_none
      by_hearing plain (Settles f) = only_final k f m opened reads plain
      by_hearing plain Strange = only_ending (Foul (length past))

      go : (b : Bool) → is_aside m ≡ b → Only (after_hearing o past child k m (cond b Aside (hearing_of (request_in (part past child k)) (said (part past child k) ++ Some m ∷ []))))
      go true e = only_replies k (replies o past m)
      go false e = by_hearing e (hearing_of (request_in (part past child k)) (said (part past child k) ++ Some m ∷ []))

  only_message : (job : Option ℕ) (m : RemoteMessage) → remote_reading (addressed past child line).1 ≡ Some m → Only (after_message o past child job m)
  only_message None m reads = only_late None m
  only_message (Some k) m reads = go (is_open past child k) refl
    where
      go : (b : Bool) → is_open past child k ≡ b → Only (cond b (after_hearing o past child k m (hearing (part past child k) m)) (after_late past child (Some k) m))
      go true opened = only_heard k m opened reads
      go false shut = only_late (Some k) m

  only_line : (r : Option RemoteMessage) → remote_reading (addressed past child line).1 ≡ r → Only (after_line o past child (addressed past child line).0 r)
  only_line None reads = only_ending (Foul (length past))
  only_line (Some m) reads = only_message (addressed past child line).0 m reads

  only_got : Only (due_by_got o past child line)
  only_got = go (is_error (remote_reading (addressed past child line).1)) (not (has_spoken past child)) (is_version_one (remote_reading line))
    where
      go : (e b v : Bool) → Only (cond e (ending past child (ErrorAt (length past)))
          (cond b (cond v [] (ending past child (VersionFault (length past)))) (after_line o past child (addressed past child line).0 (remote_reading (addressed past child line).1))))
      go true b v = only_ending (ErrorAt (length past))
      go false true true = only_none
      go false true false = only_ending (VersionFault (length past))
      go false false v = only_line (remote_reading (addressed past child line).1) refl

-- ---- a group

-- The entry is a line of the child, which settles its open job by a message that is no aside.
pub record Settling (past : List Entry) (w : What) (c j at : ℕ) : Type 0 where
  pub line : List ℕ
  pub is : w ≡ Got c line
  pub place : at ≡ length past
  pub opened : is_open past c j ≡ true
  pub message : RemoteMessage
  pub reads : remote_reading (addressed past c line).1 ≡ Some message
  pub plain : is_aside message ≡ false

all_alike : (by child c j at : ℕ) (u v : Verdict) (ks : List ℕ) → place_in u ≡ None → verdict_of (settled_all by child u ks) c j ≡ Some v → place_in v ≡ Some at → ⊥
all_alike by child c j at u v ks none is place = go (verdicts_one c j by child u ks)
  where
    go : (verdict_of (settled_all by child u ks) c j ≡ None) ⊎ (verdict_of (settled_all by child u ks) c j ≡ Some u) → ⊥
    go (inl n) = none-some v (sym n ∙ is)
    go (inr s) = none-some at (sym none ∙ ap place_in (same_Some u v (sym s ∙ is)) ∙ place)

pub group_settles : (o : Opening) (past : List Entry) (by : ℕ) (w : What) → may_come o past by w ≡ true → (c j at : ℕ) (v : Verdict)
    → verdict_of (entry by w ∷ due_after o past (entry by w)) c j ≡ Some v → place_in v ≡ Some at → Settling past w c j at
group_settles o past by (Got child line) may c j at v is place =
    let s = only_got o past by child line c j at v is place in
    record {
      line = line;
      is = ap (λ (d : ℕ). Got d line) s.child_is;
      place = s.place;
      opened = s.opened;
      message = s.message;
      reads = subst (λ (d : ℕ). remote_reading (addressed past d line).1 ≡ Some s.message) s.child_is s.reads;
      plain = s.plain;
    }
group_settles o past by (End child why) may c j at v is place = absurd (all_alike by child c j at (Ended why) v (open_jobs past child) refl is place)
group_settles o past by (Mute child) may c j at v is place = absurd (go (is_live past child) is)
  where
    unsent : List ℕ
    unsent = filter (is_unsent past child) (open_jobs past child)

    go : (b : Bool) → verdict_of (made_by by (cond b (map (λ j. Settled child j Unsent) unsent) [])) c j ≡ Some v → ⊥
    go true h = all_alike by child c j at Unsent v unsent refl h place
    go false h = none-some v h
group_settles o past by (Settled child job verdict) may c j at v is place = absurd cc
group_settles o past by w may c j at v is place = absurd (none-some v is)

-- a verdict in what a step appends
pub step_settles : (o : Opening) (past : List Entry) (by : ℕ) (event : Event) → length past < 2 ^ 64 → (c j at : ℕ) (v : Verdict)
    → verdict_of (step_of o past by event).group c j ≡ Some v → place_in v ≡ Some at
    → (w : What) × ((step_of o past by event).group ≡ group_of o past by w) × Settling past w c j at
step_settles o past by event few c j at v is place = go (step_came o past by event few)
  where
    s : Step
    s = step_of o past by event

    in_group : (group : List Entry) → s.group ≡ group → verdict_of group c j ≡ Some v
    in_group group e = sym (ap (λ (g : List Entry). verdict_of g c j) e) ∙ is

    go : Came o past by s → (w : What) × (s.group ≡ group_of o past by w) × Settling past w c j at
    go (inl none) = absurd (none-some v (in_group [] none))
    go (inr (inl some)) =
        (some.0, some.2, group_settles o past by some.0 (plain_may o past by some.0 some.1) c j at v (in_group (group_of o past by some.0) some.2) place)
    go (inr (inr l)) = absurd (none-some v (in_group (pair by l.child l.job l.task l.name l.line) l.is))

-- ---- the journal

-- each line that a verdict names stands in a legal journal
pub places_within : (o : Opening) (journal : List Entry) → Legal o journal → (c j at : ℕ) (v : Verdict) → verdict_of journal c j ≡ Some v → place_in v ≡ Some at → at < length journal
places_within o journal l =
    Legal-induction o (λ past. (c j at : ℕ) (v : Verdict) → verdict_of past c j ≡ Some v → place_in v ≡ Some at → at < length past) (λ c j at v is place. absurd (none-some v is))
    (λ past e near before may. step past e.by e.what before may) journal l
  where
    step : (past : List Entry) (by : ℕ) (w : What) → ((c j at : ℕ) (v : Verdict) → verdict_of past c j ≡ Some v → place_in v ≡ Some at → at < length past) → may_come o past by w ≡ true
        → (c j at : ℕ) (v : Verdict) → verdict_of (past ++ entry by w ∷ due_after o past (entry by w)) c j ≡ Some v → place_in v ≡ Some at
        → at < length (past ++ entry by w ∷ due_after o past (entry by w))
    step past by w before may c j at v is place = go (verdict_of past c j) refl (sym (verdict_of-append c j past more) ∙ is)
      where
        more : List Entry
        more = entry by w ∷ due_after o past (entry by w)

        long : length (past ++ more) ≡ length past + length more
        long = length-append past more

        go : (u : Option Verdict) → verdict_of past c j ≡ u → option_or (verdict_of past c j) (verdict_of more c j) ≡ Some v → at < length (past ++ more)
        go (Some x) e h =
            let there : Some x ≡ Some v = ap (λ (u : Option Verdict). option_or u (verdict_of more c j)) (sym e) ∙ h in
            let within = before c j at v (e ∙ there) place in
            omega (arith, long, within)
        go None e h =
            let there : verdict_of more c j ≡ Some v = ap (λ (u : Option Verdict). option_or u (verdict_of more c j)) (sym e) ∙ h in
            let s = group_settles o past by w may c j at v there place in
            omega (arith, long, s.place)
