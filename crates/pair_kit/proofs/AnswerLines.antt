-- What a line more makes of a kit's answers and of its request.
use Rattle.std.proofs.Common.{◌≡◌, List, [], ◌∷◌, ◌++◌, Option, Some, option_map, sym, ap, ◌∙◌, append_assoc, append-nil, ℕ}
use Rattle.std.proofs.lemmas.List.Sums.{fold-append}
use Rattle.annex_model.specs.Messages.{HostMessage, host_reading}
use Rattle.kit_serve.specs.Kit.Kits.{Heard, messages, lines_to}
use Rattle.kit_serve.specs.Kit.Stages.{stage_of, is_free}
use Rattle.pair_kit.specs.Cues.{settings}
use Rattle.pair_kit.specs.declared.taken.Taken.{Taken}
use Rattle.pair_kit.specs.Pairs.{heard, heard_by}
use Rattle.pair_kit.specs.Works.{request_with, last_said}
use Rattle.pair_kit.specs.Answered.{request_by, request_after, request_taken, noted, answer_with, answers_behind, answers_to}

pub answers_behind-push : (before xs : List Taken) (t : Taken) → answers_behind before (xs ++ t ∷ []) ≡ answers_behind before xs ++ answer_with (before ++ xs) t (heard_by t)
answers_behind-push before [] t =
    append-nil (answer_with before t (heard_by t)) ∙ ap (λ (b : List Taken). answer_with b t (heard_by t)) (sym (append-nil before))
answers_behind-push before (x ∷ rest) t =
    ap (λ (l : List (List ℕ × List ℕ)). answer_with before x (heard_by x) ++ l) (answers_behind-push (before ++ x ∷ []) rest t)
    ∙ sym (append_assoc (answer_with before x (heard_by x)) (answers_behind (before ++ x ∷ []) rest) (answer_with ((before ++ x ∷ []) ++ rest) t (heard_by t)))
    ∙ ap (λ (b : List Taken). (answer_with before x (heard_by x) ++ answers_behind (before ++ x ∷ []) rest) ++ answer_with b t (heard_by t)) (append_assoc before (x ∷ []) rest)

pub heard_one : (t : Taken) (m : HostMessage) → host_reading t.line ≡ Some m → heard_by t ≡ Some (record { message = m; call = t.call })
heard_one t m reads = ap (option_map (λ (x : HostMessage). let h : Heard = record { message = x; call = t.call } in h)) reads

-- the answer that a line more gives
pub answers_push : (taken : List Taken) (t : Taken) (m : HostMessage) → host_reading t.line ≡ Some m
    → answers_to (taken ++ t ∷ [])
    ≡ answers_to taken
    ++ noted (request_taken (taken ++ t ∷ [])) (last_said (is_free (stage_of settings (messages (heard (taken ++ t ∷ []))))) (lines_to settings (heard taken) (record { message = m; call = t.call })))
answers_push taken t m reads =
    answers_behind-push [] taken t ∙ ap (λ (o : Option Heard). answers_to taken ++ answer_with taken t o) (heard_one t m reads)

pub request_push : (taken : List Taken) (t : Taken) (m : HostMessage) → host_reading t.line ≡ Some m
    → request_taken (taken ++ t ∷ []) ≡ request_with (request_taken taken) m t.line
request_push taken t m reads =
    fold-append request_after [] taken (t ∷ []) ∙ ap (λ (o : Option HostMessage). request_by (request_taken taken) o t.line) reads
