-- What a queue says after one more entry.
use Rattle.std.proofs.Common.{◌≡◌, ◌∙◌, cond, ℕ, ◌<◌, ◌≤◌, ◌⊎◌, List, [], ◌∷◌, ◌++◌, refl, sym, ap, Bool, true, false, not, length, set, replicate, arith, inl, inr, get_or-set_other}
use Rattle.std.specs.Prelude.{◌==◌, ◌&&◌, ◌||◌, filter}
use Rattle.std.proofs.lemmas.Bool.{cases_lt}
use Rattle.std.proofs.lemmas.Bool.Decides.{nat_tests}
use Rattle.std.proofs.lemmas.List.{get_or-replicate, get_or_past, length-replicate, length-set}
use Rattle.std.proofs.lemmas.List.Folds.{list_any-append}
use Rattle.std.proofs.lemmas.Map.Views.{any-filter_same}
use Rattle.journal_model.specs.declared.answer.Answer.{Answer}
use Rattle.journal_model.specs.declared.entry.What.{What}
use Rattle.journal_model.specs.declared.entry.What.TheVariants.{Claim, Answer as Answered, Again}
use Rattle.journal_model.specs.declared.entry.Entry.{Entry}
use Rattle.journal_model.specs.Legality.{claimed_after, is_busy, is_claimed}
use Rattle.task_queue.specs.Groups.{is_set}
use Rattle.task_queue.specs.Queues.{IsSaid, IsTurned, busy_after, is_among}
use Rattle.task_queue.specs.declared.queue.Queue.{Queue}
use Rattle.task_queue.proofs.Places.{written}

-- ---- which are busy

among_last : (busy : List ℕ) (u t : ℕ) → is_among (busy ++ u ∷ []) t ≡ (is_among busy t || u == t)
among_last busy u t = list_any-append (λ (b : ℕ). b == t) busy (u ∷ []) ∙ ap (λ (c : Bool). is_among busy t || c) (or_false (u == t))
  where
    or_false : (c : Bool) → (c || false) ≡ c
    or_false true = refl
    or_false false = refl

among_without : (busy : List ℕ) (u t : ℕ) → is_among (filter (λ b. not (b == u)) busy) t ≡ (is_among busy t && not (u == t))
among_without busy u t = any-filter_same (λ (b : ℕ). b == t) (λ (b : ℕ). not (b == u)) (not (u == t)) same busy ∙ swap (not (u == t)) (is_among busy t)
  where
    same : (b : ℕ) → (b == t) ≡ true → not (b == u) ≡ not (u == t)
    same b h = grind (arith, nat_tests)

    swap : (c d : Bool) → (c && d) ≡ (d && c)
    swap true true = refl
    swap true false = refl
    swap false true = refl
    swap false false = refl

-- ---- one more entry

pub said_claim : (past after : List Entry) (q r : Queue) (u child : ℕ) → IsTurned past (Claim u child) after → r.claimed.items ≡ set q.claimed.items u true → r.busy.items ≡ q.busy.items ++ u ∷ [] → IsSaid past q → IsSaid after r
said_claim past after q r u child turned claimed_is busy_is said = record {
  claimed = λ t some below.
      let within : t < length q.claimed.items = omega (arith, below, ap length claimed_is, length-set q.claimed.items u true) in
      ap (λ (l : List Bool). is_set l t) claimed_is ∙ written q.claimed.items u t true within ∙ ap (cond (u == t) true) (said.claimed t some within) ∙ claims (u == t) (is_claimed past t) ∙ sym (turned.claimed t);
  busy = λ t. ap (λ (l : List ℕ). is_among l t) busy_is ∙ among_last q.busy.items u t ∙ ap (λ (c : Bool). c || u == t) (said.busy t) ∙ sym (turned.busy t);
}
  where
    claims : (c d : Bool) → cond c true d ≡ (d || c)
    claims true true = refl
    claims true false = refl
    claims false true = refl
    claims false false = refl

pub said_answer : (past after : List Entry) (q r : Queue) (u : ℕ) (answer : Answer) → IsTurned past (Answered u answer) after → r.claimed.items ≡ q.claimed.items → r.busy.items ≡ filter (λ b. not (b == u)) q.busy.items → IsSaid past q → IsSaid after r
said_answer past after q r u answer turned claimed_is busy_is said = record {
  claimed = λ t some below. ap (λ (l : List Bool). is_set l t) claimed_is ∙ said.claimed t some (omega (arith, below, ap length claimed_is)) ∙ sym (turned.claimed t);
  busy = λ t. ap (λ (l : List ℕ). is_among l t) busy_is ∙ among_without q.busy.items u t ∙ ap (λ (c : Bool). c && not (u == t)) (said.busy t) ∙ sym (turned.busy t);
}

pub said_again : (past after : List Entry) (q r : Queue) (u : ℕ) (answer : Answer) → IsTurned past (Again u answer) after → r.claimed.items ≡ set q.claimed.items u false → r.busy.items ≡ filter (λ b. not (b == u)) q.busy.items → IsSaid past q → IsSaid after r
said_again past after q r u answer turned claimed_is busy_is said = record {
  claimed = λ t some below.
      let within : t < length q.claimed.items = omega (arith, below, ap length claimed_is, length-set q.claimed.items u false) in
      ap (λ (l : List Bool). is_set l t) claimed_is ∙ written q.claimed.items u t false within ∙ ap (cond (u == t) false) (said.claimed t some within) ∙ renews (u == t) (is_claimed past t) ∙ sym (turned.claimed t);
  busy = λ t. ap (λ (l : List ℕ). is_among l t) busy_is ∙ among_without q.busy.items u t ∙ ap (λ (c : Bool). c && not (u == t)) (said.busy t) ∙ sym (turned.busy t);
}
  where
    renews : (c d : Bool) → cond c false d ≡ (d && not c)
    renews true true = refl
    renews true false = refl
    renews false true = refl
    renews false false = refl

-- ---- at the begin

pub none_set : (n : ℕ) (flags : List Bool) (t : ℕ) → flags ≡ replicate n false → is_set flags t ≡ false
none_set n flags t is = ap (λ (l : List Bool). is_set l t) is ∙ go (cases_lt t n)
  where
    go : (t < n) ⊎ (n ≤ t) → is_set (replicate n false) t ≡ false
    go (inl within) = get_or-replicate n t false false within
    go (inr past) = get_or_past (replicate n false) t false (omega (arith, past, length-replicate n false))

pub none_said : (q : Queue) (n : ℕ) → q.claimed.items ≡ set (replicate n false) 0 true → q.busy.items ≡ [] → IsSaid [] q
none_said q n claimed_is busy_is = record {
  claimed = λ t some below.
      ap (λ (l : List Bool). is_set l t) claimed_is ∙ get_or-set_other (replicate n false) 0 t true false (λ e. (let none : ⊥ = omega (arith, e, some) in none)) ∙ none_set n (replicate n false) t refl;
  busy = λ t. ap (λ (l : List ℕ). is_among l t) busy_is;
}

-- ---- an entry of another kind

claimed_other : (t : ℕ) (w : What) (b : Bool) → ((task child : ℕ) → w ≡ Claim task child → ⊥) → ((task : ℕ) (answer : Answer) → w ≡ Again task answer → ⊥) → claimed_after t b w ≡ b
claimed_other t (Claim task child) b claim again = absurd (claim task child refl)
claimed_other t (Again task answer) b claim again = absurd (again task answer refl)
claimed_other t w b claim again = refl

busy_other : (t : ℕ) (w : What) (b : Bool) → ((task child : ℕ) → w ≡ Claim task child → ⊥) → ((task : ℕ) (answer : Answer) → w ≡ Answered task answer → ⊥) → ((task : ℕ) (answer : Answer) → w ≡ Again task answer → ⊥)
    → busy_after t b w ≡ b
busy_other t (Claim task child) b claim answer again = absurd (claim task child refl)
busy_other t (Answered task a) b claim answer again = absurd (answer task a refl)
busy_other t (Again task a) b claim answer again = absurd (again task a refl)
busy_other t w b claim answer again = refl

pub said_other : (past after : List Entry) (q : Queue) (w : What) → ((task child : ℕ) → w ≡ Claim task child → ⊥) → ((task : ℕ) (answer : Answer) → w ≡ Answered task answer → ⊥)
    → ((task : ℕ) (answer : Answer) → w ≡ Again task answer → ⊥) → IsTurned past w after → IsSaid past q → IsSaid after q
said_other past after q w claim answer again turned said = record {
  claimed = λ t some below. said.claimed t some below ∙ sym (claimed_other t w (is_claimed past t) claim again) ∙ sym (turned.claimed t);
  busy = λ t. said.busy t ∙ sym (busy_other t w (is_busy past t) claim answer again) ∙ sym (turned.busy t);
}
