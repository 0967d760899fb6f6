-- What a worker, an ear and a mouth of a run make.
use Rattle.std.specs.Prelude.{ℕ, ◌≡◌, ◌==◌, ◌<◌, ◌||◌, not, if◌then◌else◌, nat_lt, Bool, true, false, List, [], ◌∷◌, ◌++◌}
use Rattle.std.specs.List.{list_all}
use Rattle.journal_model.specs.declared.entry.What.{What}
use Rattle.journal_model.specs.declared.entry.What.TheVariants.{Claim}
use Rattle.journal_model.specs.declared.entry.Entry.{Entry}
use Rattle.journal_model.specs.Journal.{is_started, is_tagged, starts}
use Rattle.journal_model.specs.Shares.{is_of_child}
use Rattle.crew_work.specs.Laws.Posts.{Idle, Lone, Post, makes, serves, tagged_crew}

-- The post of a number over the child: over one that takes tags that of a tagged crew; over another a worker has it for itself, from
-- number 2 on.
abbrev pub post_over : List Entry → ℕ → ℕ → Post
post_over past c by = if is_tagged past c then tagged_crew c by else (if nat_lt by 2 then Idle else Lone c)

-- the entry names the child, and is not its start
abbrev pub names : ℕ → What → Bool
names c (Claim task child) = child == c
names c w = is_of_child c w

-- the entries after the start of the child
abbrev pub since_start : ℕ → List Entry → List Entry
since_start c [] = []
since_start c (e ∷ rest) = if starts c e.what then rest else since_start c rest

-- of an entry: the number made it over the child; or the main thread made it; or another number did, and it doesn't name the child
abbrev pub is_paired : ℕ → ℕ → Entry → Bool
is_paired c by e = if e.by == by then serves c e.what else (e.by == 0 || not (names c e.what))

-- Since the child's start the number made entries over this child alone, and nobody else but the main thread made one that names it.
abbrev pub are_paired : List Entry → ℕ → ℕ → Bool
are_paired past c by = list_all (is_paired c by) (since_start c past)

-- The number made the entry at its post over the child, which was started; and if that takes no tags, the two are paired so far.
pub record PostedOver (past : List Entry) (by : ℕ) (w : What) (c : ℕ) : Type 0 where
  pub started : is_started past c ≡ true
  pub made : makes (post_over past c by) w ≡ true
  pub paired : is_tagged past c ≡ false → are_paired past c by ≡ true

-- what the main thread didn't make was made at a post over some child
abbrev pub IsPosted : List Entry → ℕ → What → Type 0
IsPosted past by w = 0 < by → (c : ℕ) × PostedOver past by w c

-- so was each of the entries, which stand after past
abbrev pub AllPosted : List Entry → List Entry → Type 0
AllPosted past [] = Unit {0}
AllPosted past (e ∷ rest) = IsPosted past e.by e.what × AllPosted (past ++ e ∷ []) rest
