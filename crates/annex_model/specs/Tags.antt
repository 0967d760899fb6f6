-- Tags: under the extension ASYNC a line begins with the number of its job.
-- https://git-annex.branchable.com/design/external_special_remote_protocol/async_appendix/
use Rattle.std.specs.Prelude.{ℕ, ◌≡◌, ◌==◌, ◌&&◌, Bool, false, if◌then◌else◌, List, ◌∷◌, ◌++◌, Option, Some, None, codes, IsTrue, decimal, bytes_eq}
use Rattle.std.specs.List.{list_any, slice_split}
use Rattle.ann_key.specs.Numbers.{is_number, value_of}
use Rattle.annex_model.specs.Messages.{RemoteMessage, Extensions, word_of, field_of, is_space, number_field}

-- J, a space, a spelling of the number, a space, and the rest
pub record Tagged (line : List ℕ) (number : ℕ) (rest : List ℕ) : Type 0 where
  pub digits : List ℕ
  pub whole : line ≡ codes "J " ++ digits ++ 32 ∷ rest
  pub form : IsTrue (is_number digits)
  pub value : value_of digits ≡ number

-- the tagged line that is written
abbrev pub tagged_line : ℕ → List ℕ → List ℕ
tagged_line number message = codes "J " ++ decimal number ++ 32 ∷ message

-- ---- reading, as a function of the line

abbrev pub numbered : Option ℕ → Option (List ℕ) → Option (ℕ × List ℕ)
numbered None rest = None
numbered (Some n) None = None
numbered (Some n) (Some rest) = Some (n, rest)

-- the number and the message of a tagged line
abbrev pub untag : List ℕ → Option (ℕ × List ℕ)
untag (a ∷ b ∷ more) = if a == 74 && b == 32 then numbered (number_field (Some (word_of more))) (field_of more) else None
untag line = None

-- what a line is without its tag
abbrev pub without_tag : List ℕ → Option (ℕ × List ℕ) → List ℕ
without_tag line None = line
without_tag line (Some t) = t.1

-- ---- the answer to EXTENSIONS

-- ASYNC stands among the words, which are separated by single spaces
abbrev pub names_async : Option RemoteMessage → Bool
names_async (Some (Extensions names)) = list_any (λ word. bytes_eq word (codes "ASYNC")) (slice_split is_space names)
names_async _ = false
