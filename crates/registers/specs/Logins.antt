-- Users and their passwords, under the names of settings.
use Rattle.std.specs.Prelude.{ℕ, List, [], map, unwrap_or, Vec}
use Rattle.std.specs.declared.alloc.Global.{Global}
use Rattle.registers.specs.Tables.{value_at}
use Rattle.registers.specs.declared.logins.Login.{Login}

-- a user and a password under each name
abbrev pub Pairs : Type 0
Pairs = List (List ℕ × (List ℕ × List ℕ))

-- what stands under the name, and two empty texts where nothing does
abbrev pub pair_at : Pairs → List ℕ → List ℕ × List ℕ
pair_at entries name = unwrap_or (value_at entries name) ([], [])

-- the texts in the vectors
abbrev pub pair_of : Login → List ℕ × List ℕ
pair_of login = (login.user.items, login.password.items)

abbrev pub pairs_of : List (Vec ℕ Global × Login) → Pairs
pairs_of entries = map (λ e. (e.0.items, pair_of e.1)) entries
