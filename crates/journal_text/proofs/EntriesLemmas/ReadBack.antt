-- What is written is read.
use Rattle.std.proofs.Common.{◌≡◌, ℕ, true, List, [], ◌∷◌, Option, Some, length, refl, ap, ◌∙◌, arith}
use Rattle.std.specs.Prelude.{codes, decimal, option_map, nat_le}
use Rattle.std.proofs.lemmas.Bool.Decides.{nat_tests}
use Rattle.std.proofs.lemmas.List.{append-nil, length-take}
use Rattle.hex.proofs.HexLemmas.{decode_of-encode_lower}
use Rattle.ann_digest.specs.Digests.{digest_bytes, digest_text}
use Rattle.ann_digest.specs.declared.digest.Digest.{Digest}
use Rattle.journal_model.specs.declared.verdict.Why.{Why}
use Rattle.journal_model.specs.declared.verdict.Why.TheVariants.{Eof, ReadFault, LongLine, Full, Memory, Closed, Foul, Error, Version}
use Rattle.journal_text.specs.Entries.Digits.{IsDigest, digest_at, digest_from}
use Rattle.journal_text.specs.Entries.Fields.{spaced, first_of, rest_of, by_rows}
use Rattle.journal_text.specs.Entries.Whys.{why_fields, why_at, why_rows, IsWhy}
use Rattle.journal_text.proofs.EntriesLemmas.DigestBack.{digest_back}
use Rattle.journal_text.proofs.EntriesLemmas.FirstFields.{is_field, first_back, rest_back, number_back}

-- a word, and what is read after it
pub worded : {M : Type 0} (read : List ℕ → List ℕ → Option M) (word : List ℕ) (fields : List (List ℕ)) → is_field word ≡ true
    → read (first_of (spaced (word ∷ fields))) (rest_of (spaced (word ∷ fields))) ≡ read word (spaced fields)
worded read word fields h = ap (λ (w : List ℕ). read w (rest_of (spaced (word ∷ fields)))) (first_back word fields h) ∙ ap (read word) (rest_back word fields h)

pub why_back : (why : Why) → IsWhy why → why_at (spaced (why_fields why)) ≡ Some why
why_back Eof h = worded (by_rows why_rows) (codes "eof") [] refl
why_back ReadFault h = worded (by_rows why_rows) (codes "readfault") [] refl
why_back LongLine h = worded (by_rows why_rows) (codes "longline") [] refl
why_back Full h = worded (by_rows why_rows) (codes "full") [] refl
why_back Memory h = worded (by_rows why_rows) (codes "memory") [] refl
why_back Closed h = worded (by_rows why_rows) (codes "closed") [] refl
why_back (Foul at) h = worded (by_rows why_rows) (codes "foul") (decimal at ∷ []) refl ∙ ap (option_map Foul) (number_back at [] h)
why_back (Error at) h = worded (by_rows why_rows) (codes "error") (decimal at ∷ []) refl ∙ ap (option_map Error) (number_back at [] h)
why_back (Version at) h = worded (by_rows why_rows) (codes "version") (decimal at ∷ []) refl ∙ ap (option_map Version) (number_back at [] h)

short : (n : ℕ) (d : Digest) → length d.bytes ≡ 64 → nat_le (length (digest_bytes d)) 64 ≡ true
short n d whole = let few = d.short in let long = length-take d.len d.bytes in grind (arith, nat_tests)

pub digest_read : (d : Digest) → IsDigest d → digest_at (spaced (digest_text d ∷ [])) ≡ Some d
digest_read d is =
    ap digest_at (append-nil (digest_text d))
    ∙ ap digest_from (decode_of-encode_lower (digest_bytes d) is.bytes)
    ∙ rw (short 0 d is.whole) (ap (λ (x : Digest). Some x) (digest_back d is.whole))
