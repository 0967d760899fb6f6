-- What a list of entries says through one small function of an entry.
use Rattle.std.proofs.Common.{◌≡◌, ℕ, List, [], ◌∷◌, refl, ap, ◌∙◌, Bool, true, ◌==◌, Some, None, Option}
use Rattle.std.specs.Prelude.{◌&&◌, filter_map, option_and_then}
use Rattle.std.specs.List.{list_all, cons_option}
use Rattle.journal_model.specs.declared.verdict.Why.{Why}
use Rattle.journal_model.specs.declared.verdict.Verdict.{Verdict}
use Rattle.journal_model.specs.declared.entry.What.{What}
use Rattle.journal_model.specs.declared.entry.What.TheVariants.{Claim, Start, NoStart, Lead, Ask, Put, Sent, Mute, Got, End, Verdict as Settled, Lost, Answer as Answered, Note as Noted, Again}
use Rattle.journal_model.specs.declared.entry.Entry.{Entry}
use Rattle.journal_model.specs.Journal.{each_of}
use Rattle.child_life.specs.Start.Greetings.{is_greeting_line, is_of_greeting}
use Rattle.run_starts.proofs.Tests.{each_none as none_of}
use Rattle.std.proofs.lemmas.Bool.{and_parts as both, eqb-true as same_number}

-- ---- what links and greetings don't say

-- nothing is said by a link's entries, nor by a request that is no task's
pub record Vanishes {X : Type 0} (f : What → Option X) : Type 0 where
  pub put : (c j : ℕ) (line : List ℕ) → f (Put c j line) ≡ None
  pub sent : (c : ℕ) → f (Sent c) ≡ None
  pub mute : (c : ℕ) → f (Mute c) ≡ None
  pub got : (c : ℕ) (line : List ℕ) → f (Got c line) ≡ None
  pub ended : (c : ℕ) (why : Why) → f (End c why) ≡ None
  pub settled : (c j : ℕ) (v : Verdict) → f (Settled c j v) ≡ None
  pub ask : (c j : ℕ) (line : List ℕ) → f (Ask c j 0 line) ≡ None
  pub lost : (c : ℕ) → f (Lost c 0) ≡ None

no_task : (c child task : ℕ) (b : Bool) → (child == c && (task == 0 && b)) ≡ true → task ≡ 0
no_task c child task b h =
    let t = both (child == c) (task == 0 && b) h in
    same_number task 0 (both (task == 0) b t.1).0

of_greeting : {X : Type 0} (f : What → Option X) → Vanishes f → (c : ℕ) (w : What) → is_of_greeting c w ≡ true → f w ≡ None
of_greeting f v c (Ask child job task line) h = ap (λ (t : ℕ). f (Ask child job t line)) (no_task c child task (is_greeting_line job line) h) ∙ v.ask child job line
of_greeting f v c (Lost child task) h = ap (λ (t : ℕ). f (Lost child t)) (same_number task 0 (both (child == c) (task == 0) h).1) ∙ v.lost child
of_greeting f v c (Put c' j line) h = v.put c' j line
of_greeting f v c (Sent c') h = v.sent c'
of_greeting f v c (Mute c') h = v.mute c'
of_greeting f v c (Got c' line) h = v.got c' line
of_greeting f v c (End c' why) h = v.ended c' why
of_greeting f v c (Settled c' j verdict) h = v.settled c' j verdict
of_greeting f v c (Lead child job line) h = absurd cc
of_greeting f v c (Claim task child) h = absurd cc
of_greeting f v c (Start child slot offer) h = absurd cc
of_greeting f v c (NoStart slot) h = absurd cc
of_greeting f v c (Answered task answer) h = absurd cc
of_greeting f v c (Noted task chunk count) h = absurd cc
of_greeting f v c (Again task answer) h = absurd cc

pub greeting_says_none : {X : Type 0} (f : What → Option X) → Vanishes f → (c : ℕ) (xs : List Entry) → list_all (λ (e : Entry). is_of_greeting c e.what) xs ≡ true → each_of f xs ≡ []
greeting_says_none f v c xs h = none_of f (is_of_greeting c) (of_greeting f v c) xs h

-- ---- one function through another

pub through : {X Y : Type 0} (f : What → Option Y) (g : What → Option X) (h : X → Option Y) → ((w : What) → f w ≡ option_and_then h (g w))
    → (xs : List Entry) → each_of f xs ≡ filter_map h (each_of g xs)
through f g h same [] = refl
through f g h same (e ∷ xs) = ap (λ (o : Option _). cons_option o (each_of f xs)) (same e.what) ∙ go (g e.what) (through f g h same xs)
  where
    go : (o : Option _) → each_of f xs ≡ filter_map h (each_of g xs) → cons_option (option_and_then h o) (each_of f xs) ≡ filter_map h (cons_option o (each_of g xs))
    go None r = r
    go (Some x) r = ap (λ (ys : List _). cons_option (h x) ys) r
