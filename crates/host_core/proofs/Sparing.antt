-- Events that never take memory.
use Rattle.std.proofs.Common.{◌≡◌, ℕ, List, [], ◌∷◌, refl, Bool, true, false, not, cond, Option, Some, None, map}
use Rattle.std.specs.Prelude.{◌&&◌, ◌||◌, ◌==◌, nat_le, filter, option_map}
use Rattle.std.specs.List.{list_any}
use Rattle.journal_model.specs.declared.answer.Answer.{Answer}
use Rattle.journal_model.specs.declared.verdict.Why.{Why}
use Rattle.journal_model.specs.declared.verdict.Verdict.{Verdict}
use Rattle.journal_model.specs.declared.verdict.Verdict.TheVariants.{Ended, Unsent}
use Rattle.journal_model.specs.declared.entry.What.TheVariants.{Mute, End, Answer as Answered, Verdict as Settled, Again}
use Rattle.journal_model.specs.declared.entry.Entry.{Entry}
use Rattle.journal_model.specs.declared.opening.Opening.{Opening}
use Rattle.journal_model.specs.Journal.{first_of, is_started, is_ended, is_mute, is_live, is_unsent, open_jobs, unsent, verdict_of}
use Rattle.journal_model.specs.Due.{made_by}
use Rattle.journal_model.specs.Legality.{least_free, is_prepared, is_empty, is_run_again}
use Rattle.host_core.specs.declared.event.Event.{Event}
use Rattle.host_core.specs.declared.event.Event.TheVariants.{Claim as ClaimEvent, Lookup, Look, Listen, Stop, Sent as SentEvent, Mute as MuteEvent, Answer as AnswerEvent, Shut}
use Rattle.host_core.specs.declared.event.Reply.{Reply}
use Rattle.host_core.specs.declared.event.Reply.TheVariants.{NoTask, Read, Over, Wait, Done}
use Rattle.host_core.specs.Steps.{Step, step_of, needs_room, needs_memory, is_free, next_line, takes_no_memory, only, append, is_gone, claim, closing, are_all_claimed, is_asked, settled_so, listening, is_awaited, is_idle, may_end, may_answer}

verdicts_free : (by c : ℕ) (v : Verdict) (js : List ℕ) → list_any needs_room (made_by by (map (λ j. Settled c j v) js)) ≡ false
verdicts_free by c v [] = refl
verdicts_free by c v (j ∷ js) = verdicts_free by c v js

claim_free : (o : Opening) (past : List Entry) (by child : ℕ) (free : Option ℕ) → is_free (claim o past by child free) ≡ true
claim_free o past by child (Some t) = refl
claim_free o past by child None = go (are_all_claimed o past)
  where
    go : (b : Bool) → is_free (only (cond b NoTask Wait)) ≡ true
    go true = refl
    go false = refl

settled_free : (v : Option Verdict) → is_free (only (settled_so v)) ≡ true
settled_free (Some v) = refl
settled_free None = refl

listening_free : (o : Opening) (past : List Entry) (child : ℕ) → is_free (only (listening o past child)) ≡ true
listening_free o past child = go (is_awaited past child) (is_mute past child || is_idle o past child)
  where
    go : (a b : Bool) → is_free (only (cond a Read (cond b Over Wait))) ≡ true
    go true b = refl
    go false true = refl
    go false false = refl

end_free : (o : Opening) (past : List Entry) (by child : ℕ) (why : Why) → is_free (append o past by (End child why) Done) ≡ true
end_free o past by child why = let none = verdicts_free by child (Ended why) (open_jobs past child) in rw none refl

mute_free : (o : Opening) (past : List Entry) (by child : ℕ) → is_free (append o past by (Mute child) Done) ≡ true
mute_free o past by child = go (is_live past child)
  where
    go : (b : Bool)
        → (not (list_any needs_room (made_by by (cond b (map (λ j. Settled child j Unsent) (filter (is_unsent past child) (open_jobs past child))) []))) && true) ≡ true
    go true = let none = verdicts_free by child Unsent (filter (is_unsent past child) (open_jobs past child)) in rw none refl
    go false = refl

closing_free : (o : Opening) (past : List Entry) (by task : ℕ) (answer : Answer) → is_free (append o past by (closing o past task answer) Done) ≡ true
closing_free o past by task answer = go (is_run_again o past task answer)
  where
    go : (b : Bool) → is_free (append o past by (cond b (Again task answer) (Answered task answer)) Done) ≡ true
    go true = refl
    go false = refl

choice : (b : Bool) (s t : Step) → is_free s ≡ true → is_free t ≡ true → is_free (cond b s t) ≡ true
choice true s t h k = h
choice false s t h k = k

pub event_free : (o : Opening) (past : List Entry) (by : ℕ) (event : Event) → takes_no_memory event ≡ true → is_free (step_of o past by event) ≡ true
event_free o past by (ClaimEvent child) h =
    choice (child == 0 && by == 0) _ _ (claim_free o past by child (least_free o past))
    (choice (not (is_started past child && is_prepared past child)) _ _ refl (choice (is_gone past child) _ _ refl (claim_free o past by child (least_free o past))))
event_free o past by (Lookup child job) h = choice (is_asked past child job) _ _ (settled_free (verdict_of past child job)) refl
event_free o past by (Look child) h = choice (not (is_started past child)) _ _ refl (choice (is_gone past child) _ _ refl refl)
event_free o past by (Listen child) h = choice (not (is_started past child)) _ _ refl (choice (is_ended past child) _ _ refl (listening_free o past child))
event_free o past by (Stop child why) h =
    choice (not (is_started past child && may_end past child why)) _ _ refl (choice (is_ended past child) _ _ refl (end_free o past by child why))
event_free o past by (SentEvent child) h = choice (is_empty (unsent past child)) _ _ refl refl
event_free o past by (MuteEvent child) h = choice (is_started past child && not (is_mute past child)) _ _ (mute_free o past by child) refl
event_free o past by (AnswerEvent task answer) h = choice (may_answer past by task) _ _ (closing_free o past by task answer) refl
event_free o past by (Shut on) h = choice (nat_le by 1) _ _ refl refl
event_free o past by event h = absurd cc

-- where a line is to be written, it is answered
pub line_first : (rest : Reply) (us : List (Option ℕ × List ℕ)) (line : List ℕ) → Some line ≡ option_map (λ (w : Option ℕ × List ℕ). w.1) (first_of us)
    → needs_memory (next_line rest us) ≡ true
line_first rest [] line h = absurd cc
line_first rest (w ∷ ws) line h = refl
