-- No job is open, from one start to the next.
use Rattle.std.proofs.Common.{◌≡◌, ℕ, List, [], ◌++◌, sym, ap, ◌∙◌, true, ◌==◌}
use Rattle.std.specs.List.{list_all}
use Rattle.journal_model.specs.declared.entry.Entry.{Entry}
use Rattle.journal_model.specs.Journal.{any, open_jobs}
use Rattle.journal_model.specs.Shares.{is_of_child}
use Rattle.journal_model.proofs.Testing.{by_either}
use Rattle.run_starts.specs.Stints.{in_stint}
use Rattle.run_starts.proofs.Apart.{apart_in}
use Rattle.run_children.proofs.PoolChildrenLemmas.Own.{unasked}
use Rattle.std.proofs.lemmas.Bool.{eqb-true as same_number}
use Rattle.journal_model.proofs.Across.{none_so as any_none, idle_on}

-- each child has none
abbrev pub AreShut : List Entry → Type 0
AreShut journal = (c : ℕ) → open_jobs journal c ≡ []

-- nothing was made of any child but c, which is idle
pub shut_next : (old xs : List Entry) (c : ℕ) → list_all (λ (e : Entry). in_stint c e.what) xs ≡ true → open_jobs (old ++ xs) c ≡ [] → AreShut old → AreShut (old ++ xs)
shut_next old xs c within idle shut d = by_either (c == d)
    (λ it. ap (open_jobs (old ++ xs)) (sym (same_number c d it)) ∙ idle)
    (λ other. idle_on old xs d (unasked d xs (any_none (in_stint c) (is_of_child d) (apart_in c d other) xs within)) (shut d))
