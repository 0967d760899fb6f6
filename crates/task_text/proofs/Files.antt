-- What a file's bytes are.
use Rattle.std.proofs.Common.{◌≡◌, ℕ, ◌==◌, not, false, List, length, IsTrue, ap}
use Rattle.std.specs.Str.{IsUtf8}
use Rattle.std.specs.List.{list_any}
use Rattle.std.proofs.lemmas.Bool.{and_from, and_parts}
use Rattle.std.proofs.lemmas.Str.{IsUtf8-from_is_utf8, is_utf8-from_IsUtf8}
use Rattle.task_text.specs.TaskLines.{is_file, is_name, is_tab}
use Rattle.ann_key.proofs.Booleans.{never_true as no_true}
use Rattle.ann_key.proofs.Lists.{filled as some_byte}

pub file_of : (bytes : List ℕ) → (length bytes == 0) ≡ false → list_any (λ b. b == 10) bytes ≡ false → IsUtf8 bytes → IsTrue (is_file bytes)
file_of bytes some one_line utf8 =
    and_from _ _ (some_byte bytes some) (and_from _ _ (is_utf8-from_IsUtf8 bytes utf8) (ap not one_line))

pub no_file_of : (bytes : List ℕ) → (IsUtf8 bytes → ⊥) → is_file bytes ≡ false
no_file_of bytes bad = no_true (is_file bytes) (λ h. bad (IsUtf8-from_is_utf8 bytes (and_parts _ _ (and_parts _ _ h).1).0))

pub name_of : (bytes : List ℕ) → list_any is_tab bytes ≡ false → IsTrue (is_file bytes) → IsTrue (is_name bytes)
name_of bytes untabbed file = and_from _ _ file (ap not untabbed)
