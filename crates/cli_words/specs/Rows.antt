-- Worked words.
use Rattle.std.specs.Prelude.{ℕ, List, [], ◌∷◌, None, codes}
use Rattle.cli_words.specs.declared.command.RunWords.{RunWords}

abbrev pub Words : Type 0
Words = List (List ℕ)

-- a UUID, and other ways to write it
abbrev pub sample_uuid : List ℕ
sample_uuid = codes "01234567-89ab-cdef-0123-456789abcdef"

abbrev pub upper_uuid : List ℕ
upper_uuid = codes "01234567-89AB-CDEF-0123-456789ABCDEF"

abbrev pub plain_uuid : List ℕ
plain_uuid = codes "0123456789abcdef0123456789abcdef"

abbrev pub braced_uuid : List ℕ
braced_uuid = codes "{01234567-89ab-cdef-0123-456789abcdef}"

-- the least words of a run, and these after them
abbrev pub run_words : Words → Words
run_words more = codes "run" ∷ codes "--program" ∷ codes "p" ∷ codes "--uuid" ∷ sample_uuid ∷ more

-- what the least words say
abbrev pub least_run : RunWords
least_run = record {
  program = codes "p";
  uuid = sample_uuid;
  jobs = 4;
  chunk = 0;
  name = codes "remote";
  gitdir = codes ".git";
  keep = None;
  journal = None;
  work = codes ".";
  starts = 3;
  again = 0;
}

abbrev pub init_words : Words → Words
init_words more = codes "init" ∷ codes "p" ∷ sample_uuid ∷ codes "keep" ∷ more

abbrev pub rehearse_words : List ℕ → List ℕ → Words
rehearse_words seed tasks = codes "rehearse" ∷ seed ∷ tasks ∷ []

abbrev pub world_words : List ℕ → List ℕ → Words
world_words seed tasks = codes "rehearse" ∷ seed ∷ tasks ∷ codes "world" ∷ []
