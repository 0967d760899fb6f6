-- Entries that one post alone makes are its number's.
use Rattle.std.proofs.Common.{◌≡◌, ℕ, List, subst, Bool, true, false, not, ◌==◌}
use Rattle.std.specs.Prelude.{◌||◌}
use Rattle.std.specs.List.{list_all}
use Rattle.journal_model.specs.declared.entry.What.{What}
use Rattle.journal_model.specs.declared.entry.Entry.{Entry}
use Rattle.journal_model.specs.Journal.{any}
use Rattle.journal_model.specs.Shares.{are_own}
use Rattle.journal_model.proofs.Testing.{into, all-each, none-each, by_either}
use Rattle.crew_work.specs.Laws.Posts.{Post, makes, OnlyAt, Nowhere}
use Rattle.ann_key.proofs.Numbers.{same_number as same}
use Rattle.ann_key.proofs.Booleans.{true_and_false as true_not_false}

-- entries that one post alone makes are its number's
pub owned : (crew : ℕ → Post) (pick : What → Bool) (n : ℕ) → OnlyAt crew pick n → (rest : List Entry)
    → list_all (λ e. makes (crew e.by) e.what) rest ≡ true → are_own pick n rest ≡ true
owned crew pick n apart rest h =
    all-each (λ (e : Entry). makes (crew e.by) e.what) (λ (e : Entry). not (pick e.what) || e.by == n)
    (λ e k. into (pick e.what) (e.by == n) (λ picked. one e k picked)) rest h
  where
    one : (e : Entry) → makes (crew e.by) e.what ≡ true → pick e.what ≡ true → (e.by == n) ≡ true
    one e k picked =
        by_either (e.by == n) (λ t. t)
        (λ f. true_not_false (makes (crew e.by) e.what) k (apart e.by e.what (λ z. true_not_false (e.by == n) (subst (λ (x : ℕ). (e.by == x) ≡ true) z (same e.by)) f) picked))

pub nobody : (crew : ℕ → Post) (pick : What → Bool) → Nowhere crew pick → (rest : List Entry)
    → list_all (λ e. makes (crew e.by) e.what) rest ≡ true → any pick rest ≡ false
nobody crew pick nowhere rest h =
    none-each (λ (e : Entry). pick e.what) (λ (e : Entry). makes (crew e.by) e.what)
    (λ e k. by_either (pick e.what) (λ t. true_not_false (makes (crew e.by) e.what) k (nowhere e.by e.what t)) (λ f. f)) rest h
