-- What is said where a folder isn't as it is wanted.
use Rattle.std.specs.Prelude.{ℕ, ◌==◌, codes, List, ◌++◌, Option, Some, None, option_map}
use Rattle.std.specs.List.{before_first}
use Rattle.dir_remote.specs.declared.guard.place.Want.{Want}
use Rattle.dir_remote.specs.declared.guard.place.Want.TheVariants.{Full, Way, Made, Whole, Founded}
use Rattle.dir_remote.specs.declared.guard.place.Seen.{Seen}
use Rattle.dir_remote.specs.declared.guard.place.Seen.TheVariants.{Fits, Empty, Missing, Blocked, Failed}

-- of the directory: an empty folder may be a mount point without its disk
abbrev pub full_words : Seen → Option (List ℕ)
full_words Fits = None
full_words Empty = Some (codes " is empty: is its disk mounted? If it is, make a file .annex-remote-dir in it")
full_words Missing = Some (codes " is not there: is its disk mounted?")
full_words Blocked = Some (codes " is not a folder")
full_words Failed = Some (codes " can't be read")

-- of a folder on the way to a content, which may be missing
abbrev pub way_words : Seen → Option (List ℕ)
way_words Fits = None
way_words Empty = None
way_words Missing = None
way_words Blocked = Some (codes " is not a folder")
way_words Failed = Some (codes " can't be read")

-- of a folder that is made
abbrev pub made_words : Seen → Option (List ℕ)
made_words Fits = None
made_words Empty = None
made_words Missing = Some (codes " can't be made")
made_words Blocked = Some (codes " is not a folder")
made_words Failed = Some (codes " can't be made")

-- of the directory that is set up
abbrev pub founded_words : Seen → Option (List ℕ)
founded_words Fits = None
founded_words Empty = Some (codes " can't be written to")
founded_words Missing = Some (codes " can't be made")
founded_words Blocked = Some (codes " is not a folder")
founded_words Failed = Some (codes " can't be made")

-- what is said after the path, if the call is stopped
abbrev pub words_of : Want → Seen → Option (List ℕ)
words_of Full seen = full_words seen
words_of Way seen = way_words seen
words_of Made seen = made_words seen
words_of Whole seen = made_words seen
words_of Founded seen = founded_words seen

abbrev pub sentence_of : Want → List ℕ → Seen → Option (List ℕ)
sentence_of want path seen = option_map (λ words. path ++ words) (words_of want seen)

abbrev pub relative_sentence : List ℕ
relative_sentence = codes "directory is relative: give the whole path, such as /home/me/backup"

-- a sentence on one line
abbrev pub line_of : List ℕ → List ℕ
line_of text = before_first (λ b. b == 10) text
