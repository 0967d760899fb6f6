-- The answers of the world are those that its kits gave.
use Rattle.std.proofs.Common.{ℕ, ◌≡◌, ◌-◌, ◌<◌, zero, suc, Bool, true, false, List, [], ◌∷◌, ◌++◌, get_or, Option, Some, None, option_map, refl, sym, ap, subst, ◌∙◌, arith, append_assoc, append-nil}
use Rattle.std.specs.Prelude.{◌||◌, ◌==◌, map}
use Rattle.std.proofs.lemmas.Bool.Decides.{nat_tests}
use Rattle.std.proofs.lemmas.List.{map-append}
use Rattle.std.proofs.lemmas.List.Elements.{filter-append}
use Rattle.std.proofs.lemmas.List.Sums.{fold-append}
use Rattle.annex_model.specs.Messages.{HostMessage, host_reading}
use Rattle.wire_line.specs.HeldBytes.{first_line}
use Rattle.journal_model.specs.Journal.{is_ended, unsent}
use Rattle.journal_model.specs.Legality.{is_empty}
use Rattle.journal_model.proofs.Testing.{by_either}
use Rattle.kit_serve.specs.declared.kit.call.Asked.{Asked}
use Rattle.kit_serve.specs.declared.kit.kit.Stage.{Stage}
use Rattle.kit_serve.specs.Kit.Kits.{Heard, messages, lines_to}
use Rattle.kit_serve.specs.Kit.Stages.{stage_of, is_free}
use Rattle.host_core.specs.declared.event.Reply.{Reply}
use Rattle.host_core.specs.declared.event.Reply.TheVariants.{Child}
use Rattle.pair_kit.specs.Shelves.{Items}
use Rattle.pair_kit.specs.Cues.{settings}
use Rattle.pair_kit.specs.declared.taken.Taken.{Taken}
use Rattle.pair_kit.specs.declared.answer.Answer.{Answer}
use Rattle.pair_world.specs.declared.step.Move.{Move}
use Rattle.pair_world.specs.declared.step.Move.TheVariants.{Event as EventMove, Write, ToKit, Work, ToHost, Hear, End as EndMove}
use Rattle.pair_world.specs.declared.step.Moved.{Moved}
use Rattle.pair_world.specs.declared.step.Moved.TheVariants.{Did, Not}
use Rattle.pair_kit.specs.Pairs.{PairValue, heard, heard_by, new_pair, no_pair, is_child, pair_of, with_pair, moved_to_kit, moved_to_host, written_to}
use Rattle.pair_kit.specs.Works.{call_for, is_waiting, next_message, request_with, last_said, bytes_put, answered, Takes}
use Rattle.pair_kit.specs.Worlds.{WorldValue, AreLinked}
use Rattle.pair_world.specs.Moves.{Moves, IsMade, is_barred, is_odd, is_unended, DoesEvent, DoesWrite, DoesToKit, DoesToHost, DoesTake, DoesWork, DoesHear, DoesEnd, reply_to, begun_by, line_of, is_amiss, is_silent, left_at}
use Rattle.pair_kit.specs.Answered.{answers_of, request_by, request_after, request_taken, noted, answer_with, answers_behind, answers_to, shown, IsNoted, AreNoted}
use Rattle.pair_kit.proofs.AnswerLines.{answers_push, request_push}
use Rattle.pair_world.proofs.Linking.{child_low, set_same, set_other, there, none_amiss, none_unsent, message_reads}
use Rattle.ann_key.proofs.Numbers.{same_number as same}
use Rattle.std.proofs.lemmas.Bool.{eqb-true as same_number}
use Rattle.ann_key.proofs.Booleans.{true_and_false as true_not_false, left_false as first_false, right_false as second_false}

-- ---- the answers of one child

shown_more : (c : ℕ) (xs ys : List Answer) → map shown (answers_of c (xs ++ ys)) ≡ map shown (answers_of c xs) ++ map shown (answers_of c ys)
shown_more c xs ys = ap (map shown) (filter-append (λ (a : Answer). a.child == c) xs ys) ∙ map-append shown (answers_of c xs) (answers_of c ys)

shown_one : (c : ℕ) (request : List ℕ) (line : Option (List ℕ)) (bytes : List ℕ) → map shown (answers_of c (answered c request line bytes)) ≡ noted request line
shown_one c request None bytes = refl
shown_one c request (Some line) bytes = rw (same c) refl

shown_none : (c d : ℕ) (request : List ℕ) (line : Option (List ℕ)) (bytes : List ℕ) → (c == d) ≡ false → map shown (answers_of d (answered c request line bytes)) ≡ []
shown_none c d request None bytes apart = refl
shown_none c d request (Some line) bytes apart = rw apart refl

-- ---- what a move leaves of each child

same_at : {X : Type 0} (g : PairValue → X) (pairs : List PairValue) (c : ℕ) (p : PairValue) → is_child pairs c ≡ true → g p ≡ g (pair_of pairs c)
    → (d : ℕ) → g (pair_of (with_pair pairs c p) d) ≡ g (pair_of pairs d)
same_at g pairs c p k e d = by_either (c == d) here other
  where
    here : (c == d) ≡ true → g (pair_of (with_pair pairs c p) d) ≡ g (pair_of pairs d)
    here eq = subst (λ (x : ℕ). g (pair_of (with_pair pairs c p) x) ≡ g (pair_of pairs x)) (same_number c d eq) (ap g (set_same pairs c p k) ∙ e)

    low : (d == 0) ≡ false → 0 < d
    low some = grind (arith, nat_tests)

    other : (c == d) ≡ false → g (pair_of (with_pair pairs c p) d) ≡ g (pair_of pairs d)
    other apart = by_either (d == 0) (λ none. rw none refl) (λ some. ap g (set_other pairs c d p (child_low pairs c k) (low some) apart))

-- a child that was just started is as none in what a kit took
begun_at : {X : Type 0} (g : PairValue → X) → g new_pair ≡ g no_pair → (pairs : List PairValue) (reply : Reply) (d : ℕ)
    → g (pair_of (pairs ++ begun_by reply) d) ≡ g (pair_of pairs d)
begun_at g alike pairs reply d = by_either (d == 0) (λ none. rw none refl) (λ some. rw some (by_reply reply (d - 1)))
  where
    started : (ps : List PairValue) (i : ℕ) → g (get_or (ps ++ new_pair ∷ []) i no_pair) ≡ g (get_or ps i no_pair)
    started [] zero = alike
    started [] (suc i) = refl
    started (p ∷ ps) zero = refl
    started (p ∷ ps) (suc i) = started ps i

    by_reply : (reply : Reply) (i : ℕ) → g (get_or (pairs ++ begun_by reply) i no_pair) ≡ g (get_or pairs i no_pair)
    by_reply (Child number) i = started pairs i
    by_reply reply i = ap (λ (ps : List PairValue). g (get_or ps i no_pair)) (append-nil pairs)

-- where each kit took what it took, and no answer came
noted_kept : (old new : WorldValue) → new.answers ≡ old.answers → ((c : ℕ) → (pair_of new.pairs c).taken ≡ (pair_of old.pairs c).taken)
    → ((c : ℕ) → (pair_of new.pairs c).request ≡ (pair_of old.pairs c).request) → AreNoted old → AreNoted new
noted_kept old new answers taken request h c = record {
  answers_are = ap (λ (given : List Answer). map shown (answers_of c given)) answers ∙ (h c).answers_are ∙ ap answers_to (sym (taken c));
  request_is = request c ∙ (h c).request_is ∙ ap request_taken (sym (taken c));
}

-- the same where one child's pair changes
noted_pair : (old new : WorldValue) (c : ℕ) (p : PairValue) → is_child old.pairs c ≡ true → new.answers ≡ old.answers → new.pairs ≡ with_pair old.pairs c p
    → p.taken ≡ (pair_of old.pairs c).taken → p.request ≡ (pair_of old.pairs c).request → AreNoted old → AreNoted new
noted_pair old new c p k answers pairs taken request h =
    noted_kept old new answers
    (λ d. ap (λ (ps : List PairValue). (pair_of ps d).taken) pairs ∙ same_at (λ (q : PairValue). q.taken) old.pairs c p k taken d)
    (λ d. ap (λ (ps : List PairValue). (pair_of ps d).request) pairs ∙ same_at (λ (q : PairValue). q.request) old.pairs c p k request d) h

-- ---- a kit takes a line

noted_taken : (c : ℕ) (keys files : Items) (old new : PairValue) (m : HostMessage) (asked : Option Asked) (line : Option (List ℕ)) (bytes : List ℕ) (answers : List Answer)
    → host_reading (first_line old.at_kit) ≡ Some m → Takes keys files old new m asked line → IsNoted c old answers → IsNoted c new (answers ++ answered c new.request line bytes)
noted_taken c keys files old new m asked line bytes answers reads t h = record {
  answers_are =
      shown_more c answers (answered c new.request line bytes)
      ∙ ap (λ (l : List (List ℕ × List ℕ)). l ++ map shown (answers_of c (answered c new.request line bytes))) h.answers_are
      ∙ ap (λ (l : List (List ℕ × List ℕ)). answers_to old.taken ++ l) (shown_one c new.request line bytes ∙ gives)
      ∙ sym (answers_push old.taken one m reads) ∙ ap answers_to (sym taken_now);
  request_is = request_now;
}
  where
    one : Taken
    one = record { line = first_line old.at_kit; call = call_for keys files asked }

    say : List (List ℕ)
    say = lines_to settings (heard old.taken) (record { message = m; call = call_for keys files asked })

    taken_now : new.taken ≡ old.taken ++ one ∷ []
    taken_now = ap (λ (p : PairValue). p.taken) t.goes

    request_now : new.request ≡ request_taken new.taken
    request_now =
        ap (λ (p : PairValue). p.request) t.goes ∙ ap (λ (r : List ℕ). request_with r m (first_line old.at_kit)) h.request_is
        ∙ sym (request_push old.taken one m reads) ∙ ap request_taken (sym taken_now)

    stage_now : new.kit.stage ≡ stage_of settings (messages (heard (old.taken ++ one ∷ [])))
    stage_now = t.follows.stage ∙ ap (λ (ts : List Taken). stage_of settings (messages (heard ts))) taken_now

    gives : noted new.request line
        ≡ noted (request_taken (old.taken ++ one ∷ [])) (last_said (is_free (stage_of settings (messages (heard (old.taken ++ one ∷ []))))) say)
    gives =
        ap (λ (r : List ℕ). noted r line) (request_now ∙ ap request_taken taken_now)
        ∙ ap (noted (request_taken (old.taken ++ one ∷ []))) (t.says ∙ ap (λ (s : Stage). last_said (is_free s) say) stage_now)

noted_take : (old new : WorldValue) (c : ℕ) (m : HostMessage) → is_child old.pairs c ≡ true → next_message (pair_of old.pairs c).at_kit ≡ Some m → DoesTake old c m new
    → AreNoted old → AreNoted new
noted_take old new c m k reads t h d = by_either (c == d) here other
  where
    added : List Answer
    added = answered c t.pair.request t.line (bytes_put old.keys old.files t.asked)

    answers : new.answers ≡ old.answers ++ added
    answers = ap (λ (w : WorldValue). w.answers) t.goes

    pairs : new.pairs ≡ with_pair old.pairs c t.pair
    pairs = ap (λ (w : WorldValue). w.pairs) t.goes

    its : IsNoted c t.pair (old.answers ++ added)
    its =
        noted_taken c old.keys old.files (pair_of old.pairs c) t.pair m t.asked t.line (bytes_put old.keys old.files t.asked) old.answers
        (message_reads (pair_of old.pairs c).at_kit m reads).1 t.takes (h c)

    whole : (e : ℕ) (p : PairValue) → pair_of (with_pair old.pairs c t.pair) e ≡ p → IsNoted e p (old.answers ++ added) → IsNoted e (pair_of new.pairs e) new.answers
    whole e p is kept =
        subst (IsNoted e (pair_of new.pairs e)) (sym answers)
        (subst (λ (q : PairValue). IsNoted e q (old.answers ++ added)) (sym (ap (λ (ps : List PairValue). pair_of ps e) pairs ∙ is)) kept)

    here : (c == d) ≡ true → IsNoted d (pair_of new.pairs d) new.answers
    here eq = subst (λ (x : ℕ). IsNoted x (pair_of new.pairs x) new.answers) (same_number c d eq) (whole c t.pair (set_same old.pairs c t.pair k) its)

    low : (d == 0) ≡ false → 0 < d
    low some = grind (arith, nat_tests)

    left : (c == d) ≡ false → pair_of (with_pair old.pairs c t.pair) d ≡ pair_of old.pairs d
    left apart = by_either (d == 0) (λ none. rw none refl) (λ some. set_other old.pairs c d t.pair (child_low old.pairs c k) (low some) apart)

    other : (c == d) ≡ false → IsNoted d (pair_of new.pairs d) new.answers
    other apart = whole d (pair_of old.pairs d) (left apart) record {
      answers_are =
          shown_more d old.answers added
          ∙ ap (λ (l : List (List ℕ × List ℕ)). map shown (answers_of d old.answers) ++ l) (shown_none c d t.pair.request t.line (bytes_put old.keys old.files t.asked) apart)
          ∙ append-nil (map shown (answers_of d old.answers)) ∙ (h d).answers_are;
      request_is = (h d).request_is;
    }

noted_work : (old new : WorldValue) (c : ℕ) (m : Option HostMessage) (reply : Reply) → is_child old.pairs c ≡ true → next_message (pair_of old.pairs c).at_kit ≡ m → DoesWork old c m reply new
    → AreNoted old → AreNoted new
noted_work old new c None reply k reads d h = subst AreNoted (sym d.1) h
noted_work old new c (Some m) reply k reads d h = noted_take old new c m k reads d.1 h

-- ---- the moves

-- a move can't be made and changes nothing, or is made
pub by_made : (P : WorldValue → Type 0) (b : Bool) (old : WorldValue) (Does : Reply → WorldValue → Type 0) (moved : Moved) (new : WorldValue) → IsMade b old Does moved new → P old
    → ((reply : Reply) → b ≡ false → Does reply new → P new) → P new
by_made P true old Does Not new is h f = subst P (sym is) h
by_made P true old Does (Did reply) new is h f = absurd is
by_made P false old Does Not new is h f = absurd is
by_made P false old Does (Did reply) new is h f = f reply refl is

-- a child to which a line is to be written is there
pub written_there : (w : WorldValue) (c : ℕ) → AreLinked w → is_empty (unsent w.journal c) ≡ false → is_child w.pairs c ≡ true
written_there w c l some =
    by_either (is_child w.pairs c) (λ is. is) (λ off. true_not_false (is_empty (unsent w.journal c)) (ap is_empty (none_unsent w c l off)) some)

pub noted_moved : (old : WorldValue) (step : Move) (moved : Moved) (new : WorldValue) → Moves old step moved new → AreLinked old → AreNoted old → AreNoted new
noted_moved old (EventMove by event) moved new is l h =
    by_made AreNoted (is_barred event || is_odd (reply_to old by event)) old (DoesEvent old by event) moved new is h
    (λ reply b d. noted_kept old new (ap (λ (w : WorldValue). w.answers) d.goes)
    (λ c. ap (λ (w : WorldValue). (pair_of w.pairs c).taken) d.goes ∙ begun_at (λ (p : PairValue). p.taken) refl old.pairs reply c)
    (λ c. ap (λ (w : WorldValue). (pair_of w.pairs c).request) d.goes ∙ begun_at (λ (p : PairValue). p.request) refl old.pairs reply c) h)
noted_moved old (Write c) moved new is l h =
    by_made AreNoted (is_empty (unsent old.journal c) || is_ended old.journal c) old (DoesWrite old c) moved new is h
    (λ reply b d. noted_pair old new c (written_to (line_of (unsent old.journal c)) (pair_of old.pairs c))
    (written_there old c l (first_false (is_empty (unsent old.journal c)) (is_ended old.journal c) b))
    (ap (λ (w : WorldValue). w.answers) d.goes) (ap (λ (w : WorldValue). w.pairs) d.goes) refl refl h)
noted_moved old (ToKit c n) moved new is l h =
    by_made AreNoted (is_amiss n (pair_of old.pairs c).to_kit) old (DoesToKit old c n) moved new is h
    (λ reply b d. noted_pair old new c (moved_to_kit n (pair_of old.pairs c)) (there old.pairs c (λ p. is_amiss n p.to_kit) (none_amiss n) b)
    (ap (λ (w : WorldValue). w.answers) d.goes) (ap (λ (w : WorldValue). w.pairs) d.goes) refl refl h)
noted_moved old (Work c) moved new is l h =
    by_made AreNoted (is_waiting (pair_of old.pairs c).at_kit) old (DoesWork old c (next_message (pair_of old.pairs c).at_kit)) moved new is h
    (λ reply b d. noted_work old new c (next_message (pair_of old.pairs c).at_kit) reply (there old.pairs c (λ p. is_waiting p.at_kit) refl b) refl d h)
noted_moved old (ToHost c n) moved new is l h =
    by_made AreNoted (is_amiss n (pair_of old.pairs c).to_host) old (DoesToHost old c n) moved new is h
    (λ reply b d. noted_pair old new c (moved_to_host n (pair_of old.pairs c)) (there old.pairs c (λ p. is_amiss n p.to_host) (none_amiss n) b)
    (ap (λ (w : WorldValue). w.answers) d.goes) (ap (λ (w : WorldValue). w.pairs) d.goes) refl refl h)
noted_moved old (Hear c) moved new is l h =
    by_made AreNoted (is_ended old.journal c || is_silent (pair_of old.pairs c).at_host) old (DoesHear old c) moved new is h
    (λ reply b d. noted_pair old new c (record (pair_of old.pairs c) { at_host = left_at reply (pair_of old.pairs c).at_host })
    (there old.pairs c (λ p. is_silent p.at_host) refl (second_false (is_ended old.journal c) (is_silent (pair_of old.pairs c).at_host) b))
    (ap (λ (w : WorldValue). w.answers) d.goes) (ap (λ (w : WorldValue). w.pairs) d.goes) refl refl h)
noted_moved old (EndMove c) moved new is l h =
    by_made AreNoted (is_unended old c) old (DoesEnd old c) moved new is h
    (λ reply b d. noted_kept old new (ap (λ (w : WorldValue). w.answers) d.goes) (λ e. ap (λ (w : WorldValue). (pair_of w.pairs e).taken) d.goes)
    (λ e. ap (λ (w : WorldValue). (pair_of w.pairs e).request) d.goes) h)

-- a world with no child
pub noted_empty : (w : WorldValue) → w.pairs ≡ [] → w.answers ≡ [] → AreNoted w
noted_empty w pairs answers c = record {
  answers_are = ap (λ (given : List Answer). map shown (answers_of c given)) answers ∙ ap answers_to (sym taken_none);
  request_is = request_none ∙ ap request_taken (sym taken_none);
}
  where
    none : {X : Type 0} (g : PairValue → X) → g (pair_of w.pairs c) ≡ g no_pair
    none g = ap (λ (ps : List PairValue). g (pair_of ps c)) pairs ∙ by_either (c == 0) (λ nought. rw nought refl) (λ some. rw some refl)

    taken_none : (pair_of w.pairs c).taken ≡ []
    taken_none = none (λ (p : PairValue). p.taken)

    request_none : (pair_of w.pairs c).request ≡ []
    request_none = none (λ (p : PairValue). p.request)
