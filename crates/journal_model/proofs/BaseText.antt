-- The text of the base key.
use Rattle.std.proofs.Common.{ℕ, List, [], Option, Some, None, refl, sym, subst}
use Rattle.std.specs.Prelude.{decimal}
use Rattle.ann_key.specs.Numbers.{IsNumeral}
use Rattle.ann_key.specs.Keys.{Parts, IsKey, IsField, without_chunk}
use Rattle.ann_key.proofs.Spelling.{read_of_spelled}
use Rattle.ann_key.proofs.Unique.{numeral_is_decimal}
use Rattle.journal_model.specs.Replies.{number_field, base_spelling, base_of, base_text}

field_spelled : (letter : ℕ) (o : Option ℕ) (text : List ℕ) → IsField letter o text → IsField letter o (number_field letter o)
field_spelled letter None text f = refl
field_spelled letter (Some n) text f = (decimal n, refl, subst (λ (d : List ℕ). IsNumeral n d) (numeral_is_decimal n f.0 f.2) f.2)

base_spelled : (text : List ℕ) (key : Parts) → IsKey text key → IsKey (base_spelling key) (without_chunk key)
base_spelled text key s = record {
  size = number_field 115 key.size;
  mtime = number_field 109 key.mtime;
  chunk = [];
  whole = refl;
  backend_class = s.backend_class;
  size_field = field_spelled 115 key.size s.size s.size_field;
  mtime_field = field_spelled 109 key.mtime s.mtime s.mtime_field;
  chunk_field = refl;
  name_class = s.name_class;
}

pub base_is_the_base : (text : List ℕ) (key : Parts) → IsKey text key → IsKey (base_text text) (without_chunk key)
unfolding base_text
base_is_the_base text key s =
    let P : Option Parts → Type 0 = λ o. IsKey (base_of text o) (without_chunk key) in
    subst P (sym (read_of_spelled text key s)) (base_spelled text key s)
