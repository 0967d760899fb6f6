-- Each verdict that names a line is an answer of its kit, and each move keeps it so.
use Rattle.std.proofs.Common.{ℕ, ◌≡◌, ◌<◌, ◌⊎◌, inl, inr, Bool, true, false, not, cond, List, [], ◌∷◌, ◌++◌, length, Option, Some, None, option_map, refl, sym, ap, subst, ◌∙◌, arith, append-nil, length-append}
use Rattle.std.specs.Prelude.{◌&&◌, ◌||◌, ◌==◌, map, filter, slice_get, codes}
use Rattle.std.specs.List.{list_any, cons_option}
use Rattle.std.specs.Option.{option_or}
use Rattle.std.proofs.lemmas.List.{length-map}
use Rattle.std.proofs.lemmas.List.Elements.{filter-append}
use Rattle.std.proofs.lemmas.Option.{none-some, same_Some, some_pair_parts, slice_get-map, slice_get_within}
use Rattle.annex_model.specs.Lines.{has_newline}
use Rattle.annex_model.specs.Messages.{RemoteMessage, Getconfig, HostMessage, remote_reading}
use Rattle.annex_model.specs.Talks.{is_aside}
use Rattle.annex_model.proofs.Readings.{canonical_remote_read}
use Rattle.wire_line.specs.HeldBytes.{first_line}
use Rattle.journal_model.specs.declared.verdict.Why.TheVariants.{Eof, LongLine, Full}
use Rattle.journal_model.specs.declared.verdict.Verdict.{Verdict}
use Rattle.journal_model.specs.declared.entry.What.{What}
use Rattle.journal_model.specs.declared.entry.What.TheVariants.{Sent, Got, End}
use Rattle.journal_model.specs.declared.entry.Entry.{Entry}
use Rattle.journal_model.specs.declared.opening.Opening.{Opening}
use Rattle.journal_model.specs.Journal.{each_of, first_of, open_jobs, is_open, is_settled, is_started, is_ended, is_live, is_full, is_tagged, unsent, got_lines, got_line, line_at, verdict_of, addressed}
use Rattle.journal_model.specs.Due.{due_after}
use Rattle.journal_model.specs.Legality.{is_empty}
use Rattle.journal_model.proofs.Looks.{entry, each_of-append, first_of-append, verdict_of-append}
use Rattle.kit_serve.specs.Kit.Kits.{is_over}
use Rattle.host_core.specs.declared.event.Event.{Event}
use Rattle.host_core.specs.declared.event.Event.TheVariants.{Got as GotEvent, Stop as StopEvent, Sent as SentEvent}
use Rattle.host_core.specs.declared.event.Reply.{Reply}
use Rattle.host_core.specs.declared.event.Reply.TheVariants.{Done, Gone}
use Rattle.host_core.specs.Steps.{step_of, group_of, append, odd, only, gone, may_end}
use Rattle.pair_kit.specs.Cues.{settings}
use Rattle.pair_kit.specs.declared.taken.Taken.{Taken}
use Rattle.pair_kit.specs.declared.answer.Answer.{Answer}
use Rattle.pair_world.specs.declared.step.Move.{Move}
use Rattle.pair_world.specs.declared.step.Move.TheVariants.{Event as EventMove, Write, ToKit, Work, ToHost, Hear, End as EndMove}
use Rattle.pair_world.specs.declared.step.Moved.{Moved}
use Rattle.pair_kit.specs.Pairs.{PairValue, taken_lines, is_child, pair_of}
use Rattle.pair_kit.specs.Works.{is_waiting, next_message, bytes_put, answered}
use Rattle.pair_kit.specs.Worlds.{WorldValue, IsLinked, AreLinked}
use Rattle.pair_world.specs.Moves.{Moves, is_barred, is_odd, is_unended, DoesEvent, DoesWrite, DoesToKit, DoesToHost, DoesWork, DoesHear, DoesEnd, reply_to, is_amiss, is_silent, is_long, heard_event}
use Rattle.pair_kit.specs.Paces.{IsSilent, IsIdle, IsBusy, KeepsStep, AreInStep}
use Rattle.pair_kit.specs.Answered.{line_for, request_of, answers_of, request_taken, answers_to, shown, IsAnsweredBy, AreAnswered, AreNoted}
use Rattle.pair_world.proofs.Journals.{Grows, Starts, Stays, grows_event, quiet_stop}
use Rattle.pair_world.proofs.Linking.{there, not_silent}
use Rattle.pair_kit.proofs.PaceAsks.{untagged_line}
use Rattle.pair_kit.proofs.PaceHeard.{HeardBusy, heard_busy}
use Rattle.pair_world.proofs.AnswerNotes.{by_made}
use Rattle.pair_kit.proofs.AnswerKits.{AreExpected, IsAnswer, last_answer, asking_line, requests, firsts}
use Rattle.pair_kit.proofs.AnswerAsks.{ask_lines, asks_counted, asks_placed, asks_written}
use Rattle.pair_kit.proofs.AnswerVerdicts.{Settling, step_settles, places_within}
use Rattle.ann_key.proofs.Numbers.{same_number as same}
use Rattle.std.proofs.lemmas.Bool.{eqb-true as same_number}
use Rattle.ann_key.proofs.Booleans.{true_and_false as true_not_false, left_false as first_false, right_false as second_false}
use Rattle.ann_key.proofs.Lists.{get_after as slice_get-here, slice_get-left}

-- ---- what stays

-- an answer stays, where the journal and the answers grow
stays : (old new : WorldValue) (more : List Entry) (added : List Answer) → new.journal ≡ old.journal ++ more → new.answers ≡ old.answers ++ added
    → (c j at : ℕ) → at < length old.journal → IsAnsweredBy old c j at → IsAnsweredBy new c j at
stays old new more added journal answers c j at within h = record {
  answer = h.answer;
  there =
      ap (λ (given : List Answer). slice_get (answers_of c given) j) answers
      ∙ ap (λ (given : List Answer). slice_get given j) (filter-append (λ (a : Answer). a.child == c) old.answers added)
      ∙ slice_get-left (answers_of c old.answers) (answers_of c added) j (slice_get_within (answers_of c old.answers) j h.answer h.there) ∙ h.there;
  request =
      ap (λ (past : List Entry). request_of past c j) journal ∙ ap first_of (each_of-append (line_for c j) old.journal more)
      ∙ first_of-append (each_of (line_for c j) old.journal) (each_of (line_for c j) more)
      ∙ ap (λ (r : Option (List ℕ)). option_or r (request_of more c j)) h.request;
  line = ap (λ (past : List Entry). line_at past at) journal ∙ ap got_line (slice_get-left old.journal more at within) ∙ h.line;
}

-- where the journal stays, all verdicts do
answered_still : (old new : WorldValue) (added : List Answer) → AreLinked old → new.journal ≡ old.journal → new.answers ≡ old.answers ++ added → AreAnswered old → AreAnswered new
answered_still old new added l journal answers h c j at v is place =
    let before : verdict_of old.journal c j ≡ Some v = sym (ap (λ (past : List Entry). verdict_of past c j) journal) ∙ is in
    stays old new [] added (journal ∙ sym (append-nil old.journal)) answers c j at (places_within old.opening old.journal l.legal c j at v before place) (h c j at v before place)

-- ---- a step of the core

-- after a step of the core, where what settles a job anew is an answer
answered_step : (old new : WorldValue) (by : ℕ) (event : Event) → AreLinked old → new.journal ≡ old.journal ++ (step_of old.opening old.journal by event).group → new.answers ≡ old.answers
    → ((c j at : ℕ) (w : What) → (step_of old.opening old.journal by event).group ≡ group_of old.opening old.journal by w → Settling old.journal w c j at → IsAnsweredBy new c j at)
    → AreAnswered old → AreAnswered new
answered_step old new by event l journal answers newest h c j at v is place =
    go (verdict_of old.journal c j) refl (sym (ap (λ (past : List Entry). verdict_of past c j) journal ∙ verdict_of-append c j old.journal more) ∙ is)
  where
    more : List Entry
    more = (step_of old.opening old.journal by event).group

    go : (u : Option Verdict) → verdict_of old.journal c j ≡ u → option_or (verdict_of old.journal c j) (verdict_of more c j) ≡ Some v → IsAnsweredBy new c j at
    go (Some x) e k =
        let before : verdict_of old.journal c j ≡ Some v = e ∙ (ap (λ (u : Option Verdict). option_or u (verdict_of more c j)) (sym e) ∙ k) in
        stays old new more [] journal (answers ∙ sym (append-nil old.answers)) c j at (places_within old.opening old.journal l.legal c j at v before place) (h c j at v before place)
    go None e k =
        let s = step_settles old.opening old.journal by event l.few c j at v (ap (λ (u : Option Verdict). option_or u (verdict_of more c j)) (sym e) ∙ k) place in
        newest c j at s.0 s.1 s.2

-- a group that gets a line of a child
gets_line : (o : Opening) (past : List Entry) (by c : ℕ) (line : List ℕ) → got_lines (group_of o past by (Got c line)) c ≡ [] → ⊥
gets_line o past by c line none =
    let more = got_lines (due_after o past (entry by (Got c line))) c in
    let first : got_lines (group_of o past by (Got c line)) c ≡ line ∷ more = ap (λ (b : Bool). cons_option (cond {A = Option (List ℕ)} b (Some line) None) more) (same c) in
    let bad : line ∷ more ≡ [] = sym first ∙ none in
    cc

-- where no line is got nothing is settled by one
answered_quiet : (old new : WorldValue) (by : ℕ) (event : Event) → AreLinked old → new.journal ≡ old.journal ++ (step_of old.opening old.journal by event).group → new.answers ≡ old.answers
    → ((c : ℕ) → got_lines (step_of old.opening old.journal by event).group c ≡ []) → AreAnswered old → AreAnswered new
answered_quiet old new by event l journal answers quiet h =
    answered_step old new by event l journal answers (λ c j at w is s. absurd (gets_line old.opening old.journal by c s.line
    (ap (λ (x : What). got_lines (group_of old.opening old.journal by x) c) (sym s.is) ∙ ap (λ (g : List Entry). got_lines g c) (sym is) ∙ quiet c))) h

-- ---- which line was heard

abbrev got_of : What → Option (ℕ × List ℕ)
got_of (Got child line) = Some (child, line)
got_of w = None

-- the line that a group begins with
abbrev first_got : List Entry → Option (ℕ × List ℕ)
first_got [] = None
first_got (e ∷ rest) = got_of e.what

no_got : {A : Type 0} (d : ℕ) (line : List ℕ) → ◌≡◌ {A = Option (ℕ × List ℕ)} None (Some (d, line)) → A
no_got d line e = absurd (none-some {A = ℕ × List ℕ} (d, line) e)

-- the line that is got from the side is its first, and is no longer than it may be
heard_first : (o : Opening) (past : List Entry) (c : ℕ) (side : List ℕ) (d : ℕ) (line : List ℕ) → first_got (step_of o past 0 (heard_event c side)).group ≡ Some (d, line)
    → (is_long side ≡ false) × (c ≡ d) × (first_line side ≡ line)
heard_first o past c side d line is = by_length (is_long side) refl is
  where
    stop : (odds ended : Bool) → first_got (cond odds odd (cond ended (only (gone past c)) (append o past 0 (End c LongLine) Done))).group ≡ Some (d, line) → ⊥
    stop true ended e = no_got d line e
    stop false true e = no_got d line e
    stop false false e = no_got d line e

    got : (odds ended full : Bool)
        → first_got (cond odds odd (cond ended (only (gone past c))
        (cond full (append o past 0 (End c Full) (Gone (Some Full))) (append o past 0 (Got c (first_line side)) Done)))).group ≡ Some (d, line)
        → (c ≡ d) × (first_line side ≡ line)
    got true ended full e = no_got d line e
    got false true full e = no_got d line e
    got false false true e = no_got d line e
    got false false false e = some_pair_parts c d (first_line side) line e

    by_length : (b : Bool) → is_long side ≡ b → first_got (step_of o past 0 (cond b (StopEvent c LongLine) (GotEvent c (first_line side)))).group ≡ Some (d, line)
        → (is_long side ≡ false) × (c ≡ d) × (first_line side ≡ line)
    by_length true long e = absurd (stop (not (is_started past c && may_end past c LongLine)) (is_ended past c) e)
    by_length false short e = let parts = got (not (is_started past c) || has_newline (first_line side)) (is_ended past c) (is_full past) e in (short, parts.0, parts.1)

-- ---- a line that settles a job of a child that keeps step

-- The answer of that number is there, and is this line, to the job of that number.
record IsFound (w : WorldValue) (c j : ℕ) (line : List ℕ) : Type 0 where
  answer : Answer
  there : slice_get (answers_of c w.answers) j ≡ Some answer
  request : request_of w.journal c j ≡ Some answer.request
  line_is : answer.line ≡ line

asking_reads : remote_reading asking_line ≡ Some (Getconfig (codes "directory"))
asking_reads = canonical_remote_read (Getconfig (codes "directory")) tt

-- a message that is no aside doesn't ask for the setting
not_asking : (line : List ℕ) (m : RemoteMessage) → remote_reading line ≡ Some m → is_aside m ≡ false → line ≡ asking_line → ⊥
not_asking line m reads plain is =
    let same : Getconfig (codes "directory") ≡ m = same_Some (Getconfig (codes "directory")) m (sym asking_reads ∙ ap remote_reading (sym is) ∙ reads) in
    true_not_false (is_aside m) (ap is_aside (sym same)) plain

-- what the answers of a kit and the Asks of the journal have at the last place is the same
at_last : (given : List Answer) (before : List (List ℕ × List ℕ)) (request line : List ℕ) (j : ℕ) → map shown given ≡ before ++ (request, line) ∷ [] → j ≡ length before
    → (a : Answer) × (slice_get given j ≡ Some a) × (a.request ≡ request) × (a.line ≡ line)
at_last given before request line j is number =
    go (slice_get given j) refl
    (sym (slice_get-map shown given j) ∙ ap (λ (l : List (List ℕ × List ℕ)). slice_get l j) is ∙ ap (slice_get (before ++ (request, line) ∷ [])) number ∙ slice_get-here before (request, line) [])
  where
    go : (o : Option Answer) → slice_get given j ≡ o → option_map shown o ≡ Some (request, line) → (a : Answer) × (slice_get given j ≡ Some a) × (a.request ≡ request) × (a.line ≡ line)
    go None e h = absurd (none-some {A = List ℕ × List ℕ} (request, line) h)
    go (Some a) e h =
        let parts = some_pair_parts a.request request a.line line h in
        (a, e, parts.0, parts.1)

module _ (w : WorldValue) (c j : ℕ) (line : List ℕ) (m : RemoteMessage) (l : AreLinked w) (s : AreInStep w) (n : AreNoted w) (k : is_child w.pairs c ≡ true)
    (untagged : is_tagged w.journal c ≡ false) (b : IsBusy w.journal c) (end : has_newline (pair_of w.pairs c).at_host ≡ true) (first : first_line (pair_of w.pairs c).at_host ≡ line)
    (opened : is_open w.journal c j ≡ true) (reads : remote_reading (addressed w.journal c line).1 ≡ Some m) (plain : is_aside m ≡ false) where
  busy_answered : HeardBusy w.journal c (pair_of w.pairs c) b.request (first_line (pair_of w.pairs c).at_host) → IsFound w c j line
  busy_answered h = record {
    answer = answer_at.0;
    there = answer_at.1;
    request = request_there ∙ ap Some (sym answer_at.2);
    line_is = answer_at.3 ∙ first;
  }
    where
      past : List Entry
      past = w.journal

      p : PairValue
      p = pair_of w.pairs c

      said : List ℕ
      said = first_line p.at_host

      linked : IsLinked past c p
      linked = l.linked c k

      all : List Taken
      all = h.before ++ h.last ∷ []

      request : List ℕ
      request = request_taken all

      expected : AreExpected p.taken
      expected = record {
        spelled = linked.heard.spelled;
        expected = ap (is_over settings) (sym h.heard_all) ∙ (s.expected c).expected;
        served = linked.heard.follows.served;
        whole = s.whole c;
      }

      its : IsAnswer h.before h.last said
      its =
          last_answer h.before h.last h.message said (subst AreExpected h.ends expected) h.reads h.says
          (not_asking said m (ap remote_reading (first ∙ sym (ap (λ (a : Option ℕ × List ℕ). a.1) (untagged_line past c line untagged))) ∙ reads) plain)

      given : map shown (answers_of c w.answers) ≡ answers_to h.before ++ (request, said) ∷ []
      given = (n c).answers_are ∙ ap answers_to h.ends ∙ its.answers_are

      asked : ask_lines past c ≡ firsts (answers_to h.before ++ (request, said) ∷ [])
      asked =
          sym (asks_written w.opening past l.legal c untagged) ∙ ap requests (h.all ∙ ap taken_lines h.ends) ∙ its.requests_are ∙ ap firsts its.answers_are

      job_is : j ≡ b.job
      job_is = sym (same_number b.job j (sym (or_false (b.job == j)) ∙ sym (ap (list_any (λ (x : ℕ). x == j)) b.open_job) ∙ opened))
        where
          or_false : (x : Bool) → (x || false) ≡ x
          or_false true = refl
          or_false false = refl

      number : j ≡ length (answers_to h.before)
      number =
          let last = b.last in
          let counted = asks_counted past c in
          let asked_count = ap (λ (ls : List (List ℕ)). length ls) asked in
          let mapped = length-map (answers_to h.before ++ (request, said) ∷ []) (λ (x : List ℕ × List ℕ). x.0) in
          let longer = length-append (answers_to h.before) ((request, said) ∷ []) in
          omega (arith, job_is, last, counted, asked_count, mapped, longer)

      answer_at : (a : Answer) × (slice_get (answers_of c w.answers) j ≡ Some a) × (a.request ≡ request) × (a.line ≡ said)
      answer_at = at_last (answers_of c w.answers) (answers_to h.before) request said j given number

      request_there : request_of past c j ≡ Some request
      request_there =
          asks_placed w.opening past l.legal c j ∙ ap (λ (ls : List (List ℕ)). slice_get ls j) asked
          ∙ slice_get-map (λ (x : List ℕ × List ℕ). x.0) (answers_to h.before ++ (request, said) ∷ []) j
          ∙ ap (option_map (λ (x : List ℕ × List ℕ). x.0))
          (ap (slice_get (answers_to h.before ++ (request, said) ∷ [])) number ∙ slice_get-here (answers_to h.before) (request, said) [])

-- with no job open none is settled
none_open : {A : Type 0} (past : List Entry) (c j : ℕ) → open_jobs past c ≡ [] → is_open past c j ≡ true → A
none_open past c j none opened = true_not_false (is_open past c j) opened (ap (list_any (λ (x : ℕ). x == j)) none)

-- a line of a child that keeps step, which settles a job, is its answer
found : (w : WorldValue) (c j at : ℕ) (x : What) → AreLinked w → AreInStep w → AreNoted w → is_child w.pairs c ≡ true → is_ended w.journal c ≡ false
    → has_newline (pair_of w.pairs c).at_host ≡ true → (t : Settling w.journal x c j at) → first_line (pair_of w.pairs c).at_host ≡ t.line → IsFound w c j t.line
found w c j at x l s n k live end t first = go steps.turn
  where
    alive : is_live w.journal c ≡ true
    alive = ap (λ (b : Bool). b && not (is_ended w.journal c)) (l.started c ∙ k) ∙ ap not live

    steps : KeepsStep w.journal c
    steps = s.steps c alive

    go : IsSilent w.journal c ⊎ (IsIdle w.journal c ⊎ IsBusy w.journal c) → IsFound w c j t.line
    go (inl silent) = none_open w.journal c j (ap (filter (λ (i : ℕ). not (is_settled w.journal c i))) silent.asked) t.opened
    go (inr (inl idle)) = none_open w.journal c j idle.none_open t.opened
    go (inr (inr b)) =
        busy_answered w c j t.line t.message l s n k steps.untagged b end first t.opened t.reads t.plain
        (heard_busy w.opening w.journal c (pair_of w.pairs c) l.legal (s.expected c) (l.linked c k) (s.whole c) b end)

-- ---- the moves

answered_hear : (old : WorldValue) (c : ℕ) (reply : Reply) (new : WorldValue) → is_ended old.journal c ≡ false → is_silent (pair_of old.pairs c).at_host ≡ false → DoesHear old c reply new
    → AreLinked old → AreInStep old → AreNoted old → AreAnswered old → AreAnswered new
answered_hear old c reply new live some d l s n h =
    answered_step old new 0 event l (ap (λ (w : WorldValue). w.journal) d.goes) (ap (λ (w : WorldValue). w.answers) d.goes) newest h
  where
    side : List ℕ
    side = (pair_of old.pairs c).at_host

    event : Event
    event = heard_event c side

    more : List Entry
    more = (step_of old.opening old.journal 0 event).group

    k : is_child old.pairs c ≡ true
    k = there old.pairs c (λ p. is_silent p.at_host) refl some

    answers : new.answers ≡ old.answers
    answers = ap (λ (w : WorldValue). w.answers) d.goes

    journal : new.journal ≡ old.journal ++ more
    journal = ap (λ (w : WorldValue). w.journal) d.goes

    its : (j at : ℕ) (w : What) → more ≡ group_of old.opening old.journal 0 w → (t : Settling old.journal w c j at) → is_long side ≡ false → first_line side ≡ t.line → IsAnsweredBy new c j at
    its j at w is t short first =
        let f = found old c j at w l s n k live (not_silent side some short) t first in
        let past = old.journal in
        let rest = due_after old.opening past (entry 0 w) in
        record {
          answer = f.answer;
          there = ap (λ (given : List Answer). slice_get (answers_of c given) j) answers ∙ f.there;
          request =
              ap (λ (x : List Entry). request_of x c j) journal ∙ ap first_of (each_of-append (line_for c j) past more)
              ∙ first_of-append (each_of (line_for c j) past) (each_of (line_for c j) more)
              ∙ ap (λ (r : Option (List ℕ)). option_or r (request_of more c j)) f.request;
          line =
              ap (λ (x : List Entry). line_at x at) journal ∙ ap (λ (g : List Entry). line_at (past ++ g) at) is
              ∙ ap (λ (i : ℕ). got_line (slice_get (past ++ entry 0 w ∷ rest) i)) t.place
              ∙ ap got_line (slice_get-here past (entry 0 w) rest) ∙ ap (λ (x : What). got_line (Some (entry 0 x))) t.is ∙ sym f.line_is;
        }

    newest : (d j at : ℕ) (w : What) → more ≡ group_of old.opening old.journal 0 w → Settling old.journal w d j at → IsAnsweredBy new d j at
    newest d j at w is t =
        let here = heard_first old.opening old.journal c side d t.line (ap first_got is ∙ ap got_of t.is) in
        subst (λ (x : ℕ). (u : Settling old.journal w x j at) → first_line side ≡ u.line → IsAnsweredBy new x j at) here.1 (λ u e. its j at w is u here.0 e) t here.2

sent_quiet : (o : Opening) (past : List Entry) (by child c : ℕ) → got_lines (step_of o past by (SentEvent child)).group c ≡ []
sent_quiet o past by child c = go (is_empty (unsent past child))
  where
    go : (b : Bool) → got_lines (cond b odd (append o past by (Sent child) Done)).group c ≡ []
    go true = refl
    go false = refl

event_quiet : (o : Opening) (past : List Entry) (by : ℕ) (shut : Bool) (event : Event) (c : ℕ) → Grows o past by shut event → got_lines (step_of o past by event).group c ≡ []
event_quiet o past by shut event c (Starts slot offer begun group) = ap (λ (g : List Entry). got_lines g c) group
event_quiet o past by shut event c (Stays begun calm) = (calm c).got

answered_work : (old : WorldValue) (c : ℕ) (m : Option HostMessage) (reply : Reply) (new : WorldValue) → DoesWork old c m reply new → AreLinked old → AreAnswered old → AreAnswered new
answered_work old c None reply new d l h = subst AreAnswered (sym d.1) h
answered_work old c (Some m) reply new d l h =
    let t = d.1 in
    answered_still old new (answered c t.pair.request t.line (bytes_put old.keys old.files t.asked)) l (ap (λ (w : WorldValue). w.journal) t.goes) (ap (λ (w : WorldValue). w.answers) t.goes) h

pub answered_moved : (old : WorldValue) (step : Move) (moved : Moved) (new : WorldValue) → Moves old step moved new → AreLinked old → AreInStep old → AreNoted old → AreAnswered old → AreAnswered new
answered_moved old (EventMove by event) moved new is l s n h =
    by_made AreAnswered (is_barred event || is_odd (reply_to old by event)) old (DoesEvent old by event) moved new is h
    (λ reply b d. answered_quiet old new by event l (ap (λ (w : WorldValue). w.journal) d.goes) (ap (λ (w : WorldValue). w.answers) d.goes)
    (λ c. event_quiet old.opening old.journal by old.shut event c
    (grows_event old.opening old.journal by old.shut event (first_false (is_barred event) (is_odd (reply_to old by event)) b))) h)
answered_moved old (Write c) moved new is l s n h =
    by_made AreAnswered (is_empty (unsent old.journal c) || is_ended old.journal c) old (DoesWrite old c) moved new is h
    (λ reply b d. answered_quiet old new 0 (SentEvent c) l (ap (λ (w : WorldValue). w.journal) d.goes) (ap (λ (w : WorldValue). w.answers) d.goes)
    (λ e. sent_quiet old.opening old.journal 0 c e) h)
answered_moved old (ToKit c amount) moved new is l s n h =
    by_made AreAnswered (is_amiss amount (pair_of old.pairs c).to_kit) old (DoesToKit old c amount) moved new is h
    (λ reply b d. answered_still old new [] l (ap (λ (w : WorldValue). w.journal) d.goes) (ap (λ (w : WorldValue). w.answers) d.goes ∙ sym (append-nil old.answers)) h)
answered_moved old (Work c) moved new is l s n h =
    by_made AreAnswered (is_waiting (pair_of old.pairs c).at_kit) old (DoesWork old c (next_message (pair_of old.pairs c).at_kit)) moved new is h
    (λ reply b d. answered_work old c (next_message (pair_of old.pairs c).at_kit) reply new d l h)
answered_moved old (ToHost c amount) moved new is l s n h =
    by_made AreAnswered (is_amiss amount (pair_of old.pairs c).to_host) old (DoesToHost old c amount) moved new is h
    (λ reply b d. answered_still old new [] l (ap (λ (w : WorldValue). w.journal) d.goes) (ap (λ (w : WorldValue). w.answers) d.goes ∙ sym (append-nil old.answers)) h)
answered_moved old (Hear c) moved new is l s n h =
    by_made AreAnswered (is_ended old.journal c || is_silent (pair_of old.pairs c).at_host) old (DoesHear old c) moved new is h
    (λ reply b d. answered_hear old c reply new (first_false (is_ended old.journal c) (is_silent (pair_of old.pairs c).at_host) b)
    (second_false (is_ended old.journal c) (is_silent (pair_of old.pairs c).at_host) b) d l s n h)
answered_moved old (EndMove c) moved new is l s n h =
    by_made AreAnswered (is_unended old c) old (DoesEnd old c) moved new is h
    (λ reply b d. answered_quiet old new 0 (StopEvent c Eof) l (ap (λ (w : WorldValue). w.journal) d.goes) (ap (λ (w : WorldValue). w.answers) d.goes)
    (λ e. ((quiet_stop old.opening old.journal 0 c Eof).1 e).got) h)

-- a world with no journal
pub answered_empty : (w : WorldValue) → w.journal ≡ [] → AreAnswered w
answered_empty w journal c j at v is place = absurd (none-some v (sym (ap (λ (past : List Entry). verdict_of past c j) journal) ∙ is))
