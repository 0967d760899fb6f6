-- What the words of a remote's program ask for.
use Rattle.std.specs.Prelude.{ℕ, List, [], ◌∷◌, bytes_eq, codes, if◌then◌else◌}
use Rattle.ann_os.specs.declared.remote_words.wish.Wish.{Wish}
use Rattle.ann_os.specs.declared.remote_words.wish.Wish.TheVariants.{Serve, Help, Version, Refused}

abbrev pub wish_of_one : List ℕ → Wish
wish_of_one word = if bytes_eq word (codes "--help") then Help else (if bytes_eq word (codes "--version") then Version else Refused)

-- none asks to serve, one may ask for a text
abbrev pub wish_of : List (List ℕ) → Wish
wish_of [] = Serve
wish_of (word ∷ []) = wish_of_one word
wish_of (word ∷ next ∷ words) = Refused
