-- Worked journals with asides that are answered.
use Rattle.std.specs.Prelude.{ℕ, List, [], ◌∷◌, ◌++◌, codes}
use Rattle.journal_model.specs.declared.verdict.Why.TheVariants.{Foul}
use Rattle.journal_model.specs.declared.verdict.Verdict.TheVariants.{Done, Ended}
use Rattle.journal_model.specs.declared.entry.What.TheVariants.{Put, Sent, End, Verdict as Settled}
use Rattle.journal_model.specs.declared.entry.Entry.{Entry}
use Rattle.journal_model.specs.declared.opening.Opening.{Opening}
use Rattle.journal_model.specs.Replies.{value_line, mixed_at}
use Rattle.journal_model.specs.Rows.{one_check, by_main, checking, success_of, sample_key, tagged_greeting}
use Rattle.journal_model.specs.RegisterRows.{before, says, saying, with_second}

-- config a is 1, and the key has a URL
abbrev pub with_settings : Opening
with_settings = record { tasks = one_check.tasks; registers = before; notes = []; identity = one_check.identity; stamp = one_check.stamp; again = 0 }

-- what child 1 is told in its open job
abbrev pub told : List ℕ → Entry
told line = by_main (Put 1 2 line)

-- the job ends with the line at that place
abbrev pub ends_well : ℕ → List Entry
ends_well at = success_of sample_key ∷ by_main (Settled 1 2 (Done at)) ∷ []

-- ---- answered

abbrev pub config_asked : List Entry
config_asked = saying (codes "GETCONFIG a" ∷ [])

abbrev pub config_told : List Entry
config_told = config_asked ++ told (codes "VALUE 1") ∷ by_main (Sent 1) ∷ ends_well 16

-- talk and a setting have no reply, and what was set is told after it
abbrev pub set_and_told : List Entry
set_and_told =
    saying (codes "PROGRESS 5" ∷ codes "SETCONFIG a 2" ∷ codes "GETCONFIG a" ∷ [])
    ++ told (codes "VALUE 2")
    ∷ says 1 (codes "GETCREDS s")
    ∷ told (codes "CREDS  ")
    ∷ ends_well 19

-- one reply for each URL, and an empty one
abbrev pub urls_asked : List Entry
urls_asked = saying (codes "SETURLPRESENT WORM--a http://a" ∷ codes "GETURLS WORM--a http:" ∷ [])

abbrev pub urls_told : List Entry
urls_told = urls_asked ++ told (codes "VALUE http://a") ∷ told (codes "VALUE http://b") ∷ told (codes "VALUE ") ∷ ends_well 18

abbrev pub directory_told : List Entry
directory_told = saying (codes "DIRHASH WORM--a" ∷ []) ++ told (value_line (mixed_at (codes "WORM--a"))) ∷ []

-- child 1 sets a state, and child 2 asks for it
abbrev pub state_asked : List Entry
state_asked = with_second (codes "SETSTATE WORM--a s" ∷ []) ++ says 2 (codes "GETSTATE WORM--a") ∷ []

abbrev pub state_told : List Entry
state_told =
    state_asked
    ++ by_main (Put 2 0 (codes "VALUE s"))
    ∷ says 2 (codes "EXTENSIONS")
    ∷ by_main (Settled 2 0 (Done 19))
    ∷ ends_well 21

-- over a tagged child, in two jobs
abbrev pub tagged_asked : List Entry
tagged_asked = tagged_greeting ++ says 1 (codes "J 2 SETCONFIG a 2") ∷ says 1 (codes "J 3 GETCONFIG a") ∷ []

abbrev pub tagged_told : List Entry
tagged_told =
    tagged_asked
    ++ by_main (Put 1 3 (codes "J 3 VALUE 2"))
    ∷ says 1 (codes "J 02 GETGITDIR")
    ∷ by_main (Put 1 2 (codes "J 2 VALUE .git"))
    ∷ says 1 (codes "J 3 CHECKPRESENT-SUCCESS WORM--b")
    ∷ by_main (Settled 1 3 (Done 19))
    ∷ []

-- ---- not as they should be

abbrev pub told_twice : List Entry
told_twice = config_asked ++ told (codes "VALUE 1") ∷ told (codes "VALUE 1") ∷ []

abbrev pub not_told : List Entry
not_told = config_asked ++ ends_well 14

abbrev pub other_value : List Entry
other_value = config_asked ++ told (codes "VALUE 2") ∷ []

abbrev pub by_other : List Entry
by_other = config_asked ++ record { by = 3; what = Put 1 2 (codes "VALUE 1") } ∷ []

abbrev pub ended_for_asking : List Entry
ended_for_asking = config_asked ++ by_main (End 1 (Foul 13)) ∷ by_main (Settled 1 2 (Ended (Foul 13))) ∷ []

abbrev pub told_behind_final : List Entry
told_behind_final = checking ++ success_of sample_key ∷ by_main (Settled 1 2 (Done 13)) ∷ told (codes "VALUE ") ∷ []

abbrev pub talk_told : List Entry
talk_told = saying (codes "PROGRESS 10" ∷ []) ++ told (codes "VALUE ") ∷ []

abbrev pub setting_told : List Entry
setting_told = saying (codes "SETCONFIG a 2" ∷ []) ++ told (codes "VALUE ") ∷ []

abbrev pub urls_cut : List Entry
urls_cut = urls_asked ++ told (codes "VALUE http://a") ∷ told (codes "VALUE ") ∷ []

abbrev pub urls_crossed : List Entry
urls_crossed = urls_asked ++ told (codes "VALUE http://b") ∷ []

-- as if each child had its own registers
abbrev pub state_unseen : List Entry
state_unseen = state_asked ++ by_main (Put 2 0 (codes "VALUE ")) ∷ []

abbrev pub other_tag : List Entry
other_tag = tagged_asked ++ by_main (Put 1 3 (codes "J 2 VALUE 2")) ∷ []

abbrev pub other_job : List Entry
other_job = tagged_asked ++ by_main (Put 1 2 (codes "J 2 VALUE 2")) ∷ []

abbrev pub no_tag : List Entry
no_tag = tagged_asked ++ by_main (Put 1 3 (codes "VALUE 2")) ∷ []
