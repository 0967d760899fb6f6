-- The part of a journal that is one job's.
use Rattle.std.specs.Prelude.{ℕ, ◌==◌, ◌&&◌, not, ◌+◌, Bool, false, if◌then◌else◌, List, [], ◌∷◌, ◌++◌, length, Option, Some, None, filter_map, slice_get, take, drop, option_and_then}
use Rattle.std.specs.List.{cons_option, range_with_len}
use Rattle.journal_model.specs.declared.verdict.Why.{Why}
use Rattle.journal_model.specs.declared.verdict.Why.TheVariants.{Foul, Error, Version}
use Rattle.annex_model.specs.Talks.{Item, Host, Remote}
use Rattle.journal_model.specs.declared.entry.What.{What}
use Rattle.journal_model.specs.declared.entry.What.TheVariants.{Lead, Ask, Put, Got, End}
use Rattle.journal_model.specs.declared.entry.Entry.{Entry}
use Rattle.journal_model.specs.Journal.{is_open, addressed}

-- the line at this place ended its child
abbrev pub is_place : ℕ → Why → Bool
is_place at (Foul place) = place == at
is_place at (Error place) = place == at
is_place at (Version place) = place == at
is_place at _ = false

-- the next entry is an end of c that names the place
abbrev pub ends_at : ℕ → ℕ → List Entry → Bool
ends_at c at [] = false
ends_at c at (e ∷ rest) = ends_at_what c at e.what
  where
    ends_at_what : ℕ → ℕ → What → Bool
    ends_at_what c at (End child why) = child == c && is_place at why
    ends_at_what c at _ = false

abbrev pub is_for : ℕ → Option ℕ → Bool
is_for j None = false
is_for j (Some k) = k == j

-- what the entry adds to the part of job j of c, where it stands between past and rest: a name, a request or a reply of the
-- host's, or a line that is for the job while it is open, but for the line that ends its child
abbrev pub item_of : ℕ → ℕ → List Entry → What → List Entry → Option Item
item_of c j past (Lead child job line) rest =
    if child == c && job == j then Some record { side = Host; at = length past; text = (addressed past c line).1 } else None
item_of c j past (Ask child job task line) rest =
    if child == c && job == j then Some record { side = Host; at = length past; text = (addressed past c line).1 } else None
item_of c j past (Put child job line) rest =
    if child == c && job == j then Some record { side = Host; at = length past; text = (addressed past c line).1 } else None
item_of c j past (Got child line) rest =
    if child == c && is_for j (addressed past c line).0 && is_open past c j && not (ends_at c (length past) rest)
    then Some record { side = Remote; at = length past; text = (addressed past c line).1 } else None
item_of c j past _ rest = None

-- the items of the journal's entries in order, by recursion with what stands before
abbrev pub part_from : ℕ → ℕ → List Entry → List Entry → List Item
part_from c j past [] = []
part_from c j past (e ∷ rest) = cons_option (item_of c j past e.what rest) (part_from c j (past ++ e ∷ []) rest)

abbrev pub part : List Entry → ℕ → ℕ → List Item
part journal c j = part_from c j [] journal

-- the same, place by place
abbrev pub item_at : List Entry → ℕ → ℕ → ℕ → Option Item
item_at journal c j at = option_and_then (λ e. item_of c j (take at journal) e.what (drop (at + 1) journal)) (slice_get journal at)

abbrev pub part_by_places : List Entry → ℕ → ℕ → List Item
part_by_places journal c j = filter_map (item_at journal c j) (range_with_len 0 (length journal))
