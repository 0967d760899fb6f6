-- The posts of a round, and what each makes.
use Rattle.std.specs.Prelude.{ℕ, ◌≡◌, ◌≢◌, ◌-◌, ◌==◌, ◌&&◌, ◌||◌, nat_lt, if◌then◌else◌, Bool, true, false, List, Option, Some, None, slice_get}
use Rattle.journal_model.specs.declared.entry.What.{What}
use Rattle.journal_model.specs.declared.entry.What.TheVariants.{Claim, Start, NoStart, Lead, Ask, End, Verdict as Settled, Lost, Answer as Answered, Note as Noted, Again}
use Rattle.journal_model.specs.Shares.{is_memory, is_closed, by_ear, by_mouth, by_link}

-- a worker's: claims for its child, requests of it with the names before them, lost ones, notes of chunks, answers, and that a task is
-- to be run again
abbrev pub works : ℕ → What → Bool
works c (Claim task child) = child == c
works c (Lead child job line) = child == c
works c (Ask child job task line) = child == c
works c (Lost child task) = child == c
works c (Answered task answer) = true
works c (Noted task chunk count) = true
works c (Again task answer) = true
works c _ = false

-- who ends a child for lack of memory, where a round can't go on
abbrev pub gives_up : ℕ → What → Bool
gives_up c (End child why) = child == c && is_memory why
gives_up c (Settled child job verdict) = child == c
gives_up c _ = false

-- a worker's that has its child for itself
abbrev pub serves : ℕ → What → Bool
serves c w = by_link c w || works c w

-- between rounds the main thread does this: a start or a failed one, and a closing
abbrev pub is_mains : What → Bool
is_mains (Start child slot offer) = true
is_mains (NoStart slot) = true
is_mains (End child why) = is_closed why
is_mains _ = false

-- what a number does in a round: nothing, or a part over one child
pub data Post : Type 0 where
  Idle : Post
  Ender : ℕ → Post
  Ear : ℕ → Post
  Mouth : ℕ → Post
  Worker : ℕ → Post
  Lone : ℕ → Post

abbrev pub makes : Post → What → Bool
makes Idle w = false
makes (Ender c) w = gives_up c w
makes (Ear c) w = by_ear c w
makes (Mouth c) w = by_mouth c w
makes (Worker c) w = works c w
makes (Lone c) w = serves c w

-- over one tagged child: the main thread's pass may end the child for lack of memory alone; then come the ear's, the mouth's
-- and the workers'
abbrev pub tagged_crew : ℕ → ℕ → Post
tagged_crew c n = if nat_lt n 2 then Ender c else if n == 2 then Ear c else if n == 3 then Mouth c else Worker c

abbrev pub lone_post : Option ℕ → Post
lone_post None = Idle
lone_post (Some c) = Lone c

-- a pool: the main thread's pass is idle, and each of the others has one of the children
abbrev pub pool_crew : List ℕ → ℕ → Post
pool_crew children n = if nat_lt n 2 then Idle else lone_post (slice_get children (n - 2))

-- the main thread alone
abbrev pub alone_crew : ℕ → ℕ → Post
alone_crew c n = if n == 1 then Lone c else Idle

-- no other number's post makes such entries
abbrev pub OnlyAt : (ℕ → Post) → (What → Bool) → ℕ → Type 0
OnlyAt crew pick n = (m : ℕ) (w : What) → m ≢ n → pick w ≡ true → makes (crew m) w ≡ false

-- no post makes such entries
abbrev pub Nowhere : (ℕ → Post) → (What → Bool) → Type 0
Nowhere crew pick = (m : ℕ) (w : What) → pick w ≡ true → makes (crew m) w ≡ false
