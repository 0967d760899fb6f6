-- Worked journals with settings.
use Rattle.std.specs.Prelude.{ℕ, true, false, List, [], ◌∷◌, ◌++◌, map, codes}
use Rattle.journal_model.specs.declared.verdict.Why.TheVariants.{Foul}
use Rattle.annex_model.specs.Messages.{RemoteMessage}
use Rattle.registers.specs.Registers.{RegisterFile, nothing_set, with_config, with_url}
use Rattle.journal_model.specs.declared.entry.What.TheVariants.{Start, Ask, Got, End}
use Rattle.journal_model.specs.declared.entry.Entry.{Entry}
use Rattle.journal_model.specs.Replies.{replies_by}
use Rattle.journal_model.specs.Registers.{values_at}
use Rattle.journal_model.specs.Rows.{one_check, by_main, checking, tagged_greeting}

abbrev pub says : ℕ → List ℕ → Entry
says child line = by_main (Got child line)

-- what child 1 says in its open job
abbrev pub saying : List (List ℕ) → List Entry
saying lines = checking ++ map (says 1) lines

-- the same, and a second child after it, in its first job
abbrev pub with_second : List (List ℕ) → List Entry
with_second lines =
    saying lines
    ++ by_main (Start 2 0 false)
    ∷ by_main (Got 2 (codes "VERSION 1"))
    ∷ by_main (Ask 2 0 0 (codes "EXTENSIONS INFO GETGITREMOTENAME"))
    ∷ []

-- the line ends its child, and settles its job
abbrev pub foul_setting : List Entry
foul_setting = saying (codes "SETSTATE WORM--a s" ∷ []) ++ by_main (End 1 (Foul 13)) ∷ []

-- what child 1 says over its tagged link, with jobs 2 and 3 open
abbrev pub tagged_saying : List ℕ → List Entry
tagged_saying line = tagged_greeting ++ says 1 line ∷ []

-- three URLs of one key; two, of which one is said twice; and the one that it had, taken away and set again
abbrev pub urls_said : List (List ℕ)
urls_said = codes "SETURLPRESENT WORM--a http://c" ∷ codes "SETURLPRESENT WORM--a ftp://d" ∷ codes "SETURLPRESENT WORM--a http://a" ∷ []

abbrev pub url_said_twice : List (List ℕ)
url_said_twice = codes "SETURLPRESENT WORM--a http://c" ∷ codes "SETURLPRESENT WORM--a ftp://d" ∷ codes "SETURLPRESENT WORM--a http://c" ∷ []

abbrev pub url_said_again : List (List ℕ)
url_said_again = codes "SETURLMISSING WORM--a http://b" ∷ codes "SETURLPRESENT WORM--a http://b" ∷ []

-- config a was set when the run began, and the key had a URL
abbrev pub before : RegisterFile
before = with_url (with_config nothing_set (codes "a") (codes "1")) (codes "WORM--a") (codes "http://b") true

-- what the message is owed after the journal
abbrev pub owed : List Entry → RemoteMessage → List (List ℕ)
owed past m = replies_by (values_at before one_check.identity past) m
