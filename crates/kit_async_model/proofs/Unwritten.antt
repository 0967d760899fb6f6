-- What is not written yet is what was said after the lines that are.
use Rattle.std.proofs.Common.{◌≡◌, ℕ, zero, suc, ◌+◌, ◌≤◌, List, [], ◌∷◌, ◌++◌, refl, sym, ap, subst, ◌∙◌, append_assoc, append-nil, length, length-append, drop, drop-drop, Bool, true, false, Some, None, Option, arith}
use Rattle.std.specs.Prelude.{◌||◌, fold}
use Rattle.std.proofs.lemmas.List.{drop-append-le}
use Rattle.kit_async_model.specs.declared.setup.Setup.{Setup}
use Rattle.kit_async_model.specs.declared.job.Job.{Job}
use Rattle.kit_async_model.specs.declared.entry.Entry.{Entry}
use Rattle.kit_async_model.specs.declared.entry.Entry.TheVariants.{Heard, Take, Call, Say, Wrote, Close, Lack}
use Rattle.kit_async_model.specs.declared.hearing.Hearing.{Hearing}
use Rattle.kit_async_model.specs.declared.hearing.Hearing.TheVariants.{Foul, Unexpected, Aside, Asks, Replies}
use Rattle.kit_async_model.specs.Hearings.{text_in, hearing_of}
use Rattle.kit_async_model.specs.Jobs.{is_awaiting, job_of}
use Rattle.kit_async_model.specs.Legality.{is_some_line, comes_where, follows, legal_from, is_legal}
use Rattle.kit_async_model.specs.Lines.{count_wrotes, said_lines}
use Rattle.kit_async_model.specs.Standings.{Standing, opening, heard_as, is_some_due, said_line, said_in, after, standing}
use Rattle.kit_async_model.proofs.Overs.{called_written as called_unwritten}
use Rattle.std.proofs.lemmas.Bool.{and_parts as both}

heard_unwritten : (setup : Setup) (s : Standing) (text : List ℕ) (h : Hearing) → (heard_as setup s text h).unwritten ≡ s.unwritten
heard_unwritten setup s text Foul = refl
heard_unwritten setup s text Unexpected = refl
heard_unwritten setup s text Aside = refl
heard_unwritten setup s text (Asks number) = refl
heard_unwritten setup s text (Replies number) = refl

said_unwritten : (setup : Setup) (s : Standing) (o : Option Job) → (said_in setup s o).unwritten ≡ s.unwritten
said_unwritten setup s None = refl
said_unwritten setup s (Some job) = go (is_some_due s.due || s.over || is_awaiting setup job) refl
  where
    go : (b : Bool) → (is_some_due s.due || s.over || is_awaiting setup job) ≡ b → (said_in setup s (Some job)).unwritten ≡ s.unwritten
    go true e = rw e refl
    go false e = rw e refl

-- a line stands at the place
room_left : (k : ℕ) (xs : List (List ℕ)) → is_some_line (drop k xs) ≡ true → k + 1 ≤ length xs
room_left zero [] h = absurd cc
room_left zero (x ∷ xs) h = omega arith
room_left (suc k) [] h = absurd cc
room_left (suc k) (x ∷ xs) h = let l = room_left k xs h in omega (arith, l)

wrote_some : (setup : Setup) (s : Standing) (due : List (ℕ × List ℕ)) → comes_where setup s due Wrote ≡ true → is_some_line s.unwritten ≡ true
wrote_some setup s [] h = h
wrote_some setup s (d ∷ rest) h = absurd cc

abbrev Left : List (List ℕ) → ℕ → List (List ℕ) → Type 0
Left unwritten k xs = (unwritten ≡ drop k xs) × (k ≤ length xs)

left_from : (setup : Setup) (s : Standing) (es : List Entry) (k : ℕ) (xs : List (List ℕ)) → Left s.unwritten k xs → legal_from setup s es ≡ true
    → Left (fold (after setup) s es).unwritten (k + count_wrotes es) (xs ++ said_lines es)
left_from setup s [] k xs l h =
    let none : k + 0 ≡ k = omega arith in
    subst (λ (n : ℕ). Left s.unwritten n (xs ++ [])) (sym none) (subst (Left s.unwritten k) (sym (append-nil xs)) l)
left_from setup s (Heard line ∷ es) k xs l h =
    left_from setup (after setup s (Heard line)) es k xs
    (heard_unwritten setup s (text_in s.tagged line) (hearing_of setup s.jobs s.tagged line) ∙ l.0, l.1)
    (both (follows setup s (Heard line)) (legal_from setup (after setup s (Heard line)) es) h).1
left_from setup s (Take job remote ∷ es) k xs l h =
    left_from setup (after setup s (Take job remote)) es k xs l (both (follows setup s (Take job remote)) (legal_from setup (after setup s (Take job remote)) es) h).1
left_from setup s (Call job remote said ∷ es) k xs l h =
    left_from setup (after setup s (Call job remote said)) es k xs (called_unwritten setup s said (job_of s.jobs job) ∙ l.0, l.1)
    (both (follows setup s (Call job remote said)) (legal_from setup (after setup s (Call job remote said)) es) h).1
left_from setup s (Say job line ∷ es) k xs l h =
    let b = both (follows setup s (Say job line)) (legal_from setup (after setup s (Say job line)) es) h in
    let more : (after setup s (Say job line)).unwritten ≡ drop k (xs ++ line ∷ []) =
    said_unwritten setup (said_line s line) (job_of s.jobs job) ∙ ap (λ (ys : List (List ℕ)). ys ++ line ∷ []) l.0 ∙ sym (drop-append-le k xs (line ∷ []) l.1) in
    let few : k ≤ length (xs ++ line ∷ []) = let n = length-append xs (line ∷ []) in let f = l.1 in omega (arith, n, f) in
    subst (Left (fold (after setup) (after setup s (Say job line)) es).unwritten (k + count_wrotes es)) (append_assoc xs (line ∷ []) (said_lines es))
    (left_from setup (after setup s (Say job line)) es k (xs ++ line ∷ []) (more, few) b.1)
left_from setup s (Wrote ∷ es) k xs l h =
    let b = both (follows setup s Wrote) (legal_from setup (after setup s Wrote) es) h in
    let some : is_some_line (drop k xs) ≡ true = subst (λ (ys : List (List ℕ)). is_some_line ys ≡ true) l.0 (wrote_some setup s s.due b.0) in
    let more : (after setup s Wrote).unwritten ≡ drop (k + 1) xs = ap (λ (ys : List (List ℕ)). drop 1 ys) l.0 ∙ drop-drop 1 k xs in
    let count : (k + 1) + count_wrotes es ≡ k + (count_wrotes es + 1) = omega arith in
    subst (λ (n : ℕ). Left (fold (after setup) (after setup s Wrote) es).unwritten n (xs ++ said_lines es)) count
    (left_from setup (after setup s Wrote) es (k + 1) xs (more, room_left k xs some) b.1)
left_from setup s (Close ∷ es) k xs l h =
    left_from setup (after setup s Close) es k xs l (both (follows setup s Close) (legal_from setup (after setup s Close) es) h).1
left_from setup s (Lack ∷ es) k xs l h =
    left_from setup (after setup s Lack) es k xs l (both (follows setup s Lack) (legal_from setup (after setup s Lack) es) h).1

pub unwritten_are : (setup : Setup) (journal : List Entry) → is_legal setup journal ≡ true
    → ((standing setup journal).unwritten ≡ drop (count_wrotes journal) (said_lines journal)) × (count_wrotes journal ≤ length (said_lines journal))
unwritten_are setup journal h =
    let zero_first : 0 + count_wrotes journal ≡ count_wrotes journal = omega arith in
    subst (λ (n : ℕ). Left (standing setup journal).unwritten n (said_lines journal)) zero_first (left_from setup opening journal 0 [] (refl, omega arith) h)
