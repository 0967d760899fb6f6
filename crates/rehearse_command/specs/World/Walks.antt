-- The walk: the tasks of a rehearsal are done in a world of four children, by moves that a seed chooses.
use Rattle.std.specs.Prelude.{ℕ, zero, suc, ◌≡◌, ◌⊎◌, ◌+◌, ◌*◌, ◌/◌, ◌%◌, ◌<◌, ◌^◌, ◌==◌, ◌&&◌, nat_le, Bool, true, false, if◌then◌else◌, List, [], map, filter, length, Option, Some, None, option_map, bytes_eq}
use Rattle.task_text.specs.declared.task.Task.{Task}
use Rattle.journal_model.specs.declared.answer.Answer.{Answer}
use Rattle.journal_model.specs.declared.answer.Answer.TheVariants.{Got}
use Rattle.journal_model.specs.Legality.{numbers_of, task_of}
use Rattle.run_answers.specs.Answers.{answer_of, given}
use Rattle.rehearse_plan.specs.Plans.{opening_of, files_of, content_of, key_number, number_of}
use Rattle.rehearse_plan.specs.Tallies.{count_of, words}
use Rattle.host_core.specs.declared.event.Reply.{Reply}
use Rattle.pair_world.specs.declared.step.Move.{Move}
use Rattle.pair_world.specs.declared.step.Move.TheVariants.{Event as EventMove, Write, ToKit, Work, ToHost, Hear}
use Rattle.pair_world.specs.declared.step.Moved.{Moved}
use Rattle.pair_world.specs.declared.step.Moved.TheVariants.{Did, Not}
use Rattle.pair_kit.specs.Shelves.{content, items_of}
use Rattle.pair_kit.specs.Pairs.{pair_of}
use Rattle.pair_kit.specs.Worlds.{WorldValue}
use Rattle.pair_world.specs.Moves.{Moves}
use Rattle.rehearse_command.specs.World.Workers.{next_of}

-- no child is started yet, and the files are those of the plan
abbrev pub first_world : ℕ → ℕ → WorldValue
first_world seed tasks = record { opening = opening_of seed tasks; journal = []; shut = false; keys = []; files = items_of (files_of tasks); pairs = []; answers = [] }

-- ---- the 24 moves that there may be

-- no more bytes than are there, and no more than the move's number gives
abbrev pub bytes_moved : ℕ → ℕ → ℕ
bytes_moved t there = if nat_le there (1 + t % 64) then there else 1 + t % 64

-- of one child: what its worker does, or one of the moves between it and the host
unfoldable pub move_of : WorldValue → ℕ → ℕ → ℕ → Option Move
move_of w t c kind =
    if kind == 0 then option_map (λ event. EventMove 0 event) (next_of w.opening w.journal c)
    else if kind == 1 then Some (Write c)
    else if kind == 2 then Some (ToKit c (bytes_moved t (length (pair_of w.pairs c).to_kit)))
    else if kind == 3 then Some (Work c)
    else if kind == 4 then Some (ToHost c (bytes_moved t (length (pair_of w.pairs c).to_host)))
    else Some (Hear c)

-- six for each child
abbrev pub candidate : WorldValue → ℕ → ℕ → Option Move
candidate w t q = move_of w t (1 + q / 6) (q % 6)

-- where move number t begins
abbrev pub place : ℕ → ℕ → ℕ
place seed t = (seed + t * t + t) % 24

-- ---- one move

-- there is no such move, or it can't be made
abbrev pub Rests : WorldValue → Option Move → Type 0
Rests w None = Unit {0}
Rests w (Some move) = Moves w move Not w

-- so many of the candidates from this place on, and round
abbrev pub AllRest : WorldValue → ℕ → ℕ → ℕ → Type 0
AllRest w t from n = (k : ℕ) → k < n → Rests w (candidate w t ((from + k) % 24))

-- the candidate was made
pub record MakesCandidate (t q : ℕ) (old new : WorldValue) : Type 0 where
  pub move : Move
  pub reply : Reply
  pub there : candidate old t q ≡ Some move
  pub makes : Moves old move (Did reply) new

-- Of the candidates from the move's place on the first that can be made was made.
pub record MakesOne (seed t : ℕ) (old new : WorldValue) : Type 0 where
  pub before : ℕ
  pub few : before < 24
  pub rest : AllRest old t (place seed t) before
  pub makes : MakesCandidate t ((place seed t + before) % 24) old new

abbrev pub was_made : Moved → Bool
was_made (Did reply) = true
was_made Not = false

-- a try of one candidate: it was made, or nothing has changed
abbrev pub Tries : ℕ → ℕ → WorldValue → Bool → WorldValue → Type 0
Tries t q old true new = MakesCandidate t q old new
Tries t q old false new = (new ≡ old) × Rests old (candidate old t q)

-- a try of all
abbrev pub TriesAll : ℕ → ℕ → WorldValue → Bool → WorldValue → Type 0
TriesAll seed t old true new = MakesOne seed t old new
TriesAll seed t old false new = (new ≡ old) × AllRest old t (place seed t) 24

-- ---- all moves

-- the moves with the numbers from 1 on were made, so many
abbrev pub AreMade : ℕ → ℕ → WorldValue → WorldValue → Type 0
AreMade seed zero first last = last ≡ first
AreMade seed (suc n) first last = (w : WorldValue) × AreMade seed n first w × MakesOne seed (suc n) w last

-- moves were made until none of the 24 could be, or as many as no machine makes
pub record Walks (seed : ℕ) (first last : WorldValue) : Type 0 where
  pub moves : ℕ
  pub made : AreMade seed moves first last
  pub ends : AllRest last (moves + 1) (place seed (moves + 1)) 24 ⊎ (moves ≡ 2 ^ 63)

-- the walk of so many tasks by that seed ends in that world
abbrev pub Walked : ℕ → ℕ → WorldValue → Type 0
Walked seed tasks w = Walks seed (first_world seed tasks) w

-- ---- what it comes to

-- how many answers count for each word
abbrev pub counts_in : WorldValue → List ℕ
counts_in w = map (λ word. count_of word (given w.opening w.journal)) words

abbrev pub is_got : Option Answer → Bool
is_got (Some Got) = true
is_got _ = false

abbrev pub file_of : Option Task → List ℕ
file_of None = []
file_of (Some t) = t.file

abbrev pub has_bytes : Option (List ℕ) → List ℕ → Bool
has_bytes None wanted = false
has_bytes (Some bytes) wanted = bytes_eq bytes wanted

-- the task's file has the content of its key
abbrev pub has_content : ℕ → ℕ → WorldValue → ℕ → Bool
has_content seed tasks w task = has_bytes (content (file_of (task_of w.opening task)) w.files) (content_of (key_number tasks (number_of seed task)))

-- and the task is answered as got
abbrev pub is_equal : ℕ → ℕ → WorldValue → ℕ → Bool
is_equal seed tasks w task = is_got (answer_of w.journal task) && has_content seed tasks w task

-- how many tasks are
abbrev pub equal_in : ℕ → ℕ → WorldValue → ℕ
equal_in seed tasks w = length (filter (is_equal seed tasks w) (numbers_of w.opening))
