-- The directories of a key, as git-annex makes them of its digest.
use Rattle.std.specs.Prelude.{ℕ, ◌*◌, ◌/◌, ◌%◌, ◌^◌, List, [], ◌∷◌, ◌++◌, take, drop, codes, slice_index}
use Rattle.std.specs.Int.{w32, from_le_bytes}
use Rattle.hex.specs.Hex.{encode_lower}
use Rattle.md5.specs.Md5.{md5}

-- three hex digits of the digest, a slash, and the next three
abbrev pub lower_under : List ℕ → List ℕ
lower_under digest = let hex = encode_lower digest in take 3 hex ++ codes "/" ++ take 3 (drop 3 hex)

-- the letters that stand for five bits
abbrev pub letters : List ℕ
letters = codes "0123456789zqjxkmvwgpfZQJXKMVWGPF"

-- the letter for the five bits from place 6 n on
abbrev pub letter : ℕ → ℕ → ℕ
letter word n = slice_index letters (word / 2 ^ (6 * n) % 32)

-- of the first four bytes of the digest, the first one lowest: letters 1 and 0, a slash, letters 3 and 2
abbrev pub mixed_under : List ℕ → List ℕ
mixed_under digest =
    let word = from_le_bytes w32 (take 4 digest) in
    letter word 1 ∷ letter word 0 ∷ codes "/" ++ letter word 3 ∷ letter word 2 ∷ []

-- the directories of the text of a key without its chunk fields
abbrev pub lower_of : List ℕ → List ℕ
lower_of base = lower_under (md5 base)

abbrev pub mixed_of : List ℕ → List ℕ
mixed_of base = mixed_under (md5 base)
