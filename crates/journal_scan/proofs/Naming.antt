-- The names of a task, one by one.
use Rattle.std.proofs.Common.{◌≡◌, ◌∙◌, sym, refl, List, [], ◌∷◌, Bool, false}
use Rattle.std.specs.Prelude.{ℕ, ◌&&◌, ◌||◌, not, bytes_eq}
use Rattle.std.specs.List.{list_any, filter}
use Rattle.task_text.specs.declared.task.Task.{Task}
use Rattle.journal_model.specs.Legality.{is_empty, share_name, task_names}
use Rattle.ann_key.proofs.Booleans.{or_false as or_nothing}

-- of two names, those that aren't empty
two : (p : List ℕ → Bool) (a b : List ℕ)
    → list_any p (filter (λ name. not (is_empty name)) (a ∷ b ∷ [])) ≡ ((not (is_empty a) && p a) || (not (is_empty b) && p b))
two p [] [] = refl
two p [] (y ∷ ys) = or_nothing (p (y ∷ ys))
two p (x ∷ xs) [] = refl
two p (x ∷ xs) (y ∷ ys) = rw (or_nothing (p (y ∷ ys))) refl

-- a name that isn't empty equals none that is
some_name : (x : ℕ) (xs a b : List ℕ)
    → (bytes_eq (x ∷ xs) a || bytes_eq (x ∷ xs) b) ≡ ((not (is_empty a) && bytes_eq (x ∷ xs) a) || (not (is_empty b) && bytes_eq (x ∷ xs) b))
some_name x xs [] [] = refl
some_name x xs [] (b ∷ bs) = refl
some_name x xs (a ∷ more) [] = refl
some_name x xs (a ∷ more) (b ∷ bs) = refl

pub named : (name : List ℕ) (t : Task) → is_empty name ≡ false → (bytes_eq name t.name || bytes_eq name t.onto) ≡ list_any (bytes_eq name) (task_names t)
named [] t some = absurd cc
named (x ∷ xs) t some = some_name x xs t.name t.onto ∙ sym (two (bytes_eq (x ∷ xs)) t.name t.onto)

pub shared : (s t : Task)
    → ((not (is_empty s.name) && list_any (bytes_eq s.name) (task_names t)) || (not (is_empty s.onto) && list_any (bytes_eq s.onto) (task_names t))) ≡ share_name s t
shared s t = sym (two (λ name. list_any (bytes_eq name) (task_names t)) s.name s.onto)
