-- What follows from the spelling of keys.
use Rattle.std.specs.Prelude.{ℕ, List, ◌≡◌, None}
use Rattle.ann_key.specs.Keys.{Parts, IsKey, with_chunk, without_chunk}
use Rattle.ann_key.specs.KeyErrors.{IsError}
use Rattle.ann_key.specs.declared.error.KeyError.{KeyError}

-- a key is spelled in one way
abbrev pub OneSpelling : Type 0
OneSpelling = (key : Parts) (a b : List ℕ) → IsKey a key → IsKey b key → a ≡ b

-- a text spells at most one key
abbrev pub OneReading : Type 0
OneReading = (text : List ℕ) (p q : Parts) → IsKey text p → IsKey text q → p ≡ q

-- the base of a key has no chunk; that of a key without one, and that of the key of one of its chunks, is the key itself
abbrev pub BasesStand : Type 0
BasesStand =
    (key : Parts) (size number : ℕ) (text base : List ℕ) → key.chunk ≡ None → IsKey text key
    → ((without_chunk key).chunk ≡ None)
    × (IsKey base (without_chunk key) → base ≡ text)
    × (IsKey base (without_chunk (with_chunk size number key)) → base ≡ text)

-- the key of a chunk is neither the key of another chunk nor that of the content
abbrev pub ChunksDiffer : Type 0
ChunksDiffer =
    (key : Parts) (text : List ℕ) (size number : ℕ) → IsKey text (with_chunk size number key)
    → ((s n : ℕ) → IsKey text (with_chunk s n key) → (size ≡ s) × (number ≡ n)) × (IsKey text (without_chunk key) → ⊥)

-- where there is an error there is no key
abbrev pub ErrorsExclude : Type 0
ErrorsExclude = (text : List ℕ) (e : KeyError) (key : Parts) → IsError text e → IsKey text key → ⊥
