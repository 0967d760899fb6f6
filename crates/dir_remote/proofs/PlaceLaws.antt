-- The names of files in the directory differ where they should.
use Rattle.std.proofs.Common.{◌≡◌, ◌≢◌, ◌∙◌, ℕ, List, [], ◌∷◌, ◌++◌, refl, sym, ap, subst, take, drop, append_assoc, arith}
use Rattle.std.specs.Prelude.{Bool, true, false, Option, Some, None, IfSome, codes, ◌==◌, ◌||◌, nat_lt}
use Rattle.std.specs.List.{list_any, list_all}
use Rattle.std.proofs.lemmas.List.{append_cancel_left}
use Rattle.std.specs.Str.{IsAscii, IsUtf8}
use Rattle.std.proofs.lemmas.Bool.{and_parts, ltb-true}
use Rattle.std.proofs.lemmas.Str.{IsUtf8-from_ascii, IsAscii-append, IsAscii-take, IsAscii-drop}
use Rattle.std.proofs.lemmas.Str.Ascii.{IsAscii-cons, IsAscii-nil}
use Rattle.hex.specs.Hex.{encode_lower, lower_digits}
use Rattle.hex.proofs.HexLemmas.{IsAscii-encode_with}
use Rattle.md5.specs.Md5.{md5}
use Rattle.ann_key.specs.Keys.{Parts, IsKey, without_chunk}
use Rattle.ann_key.specs.FileNames.{file_name_of}
use Rattle.ann_key.specs.KeyRefs.{parts_of}
use Rattle.ann_key.specs.declared.key.KeyRef.{KeyRef}
use Rattle.ann_key.proofs.Spelling.{spelled_of_read}
use Rattle.ann_key.proofs.Unique.{spelling_unique}
use Rattle.ann_digest.specs.Directories.{lower_of}
use Rattle.dir_remote.specs.Contents.{IsContentName, IsMark, IsOutside, marked, place_of, temporary_name}
use Rattle.dir_remote.proofs.FileNameLaws.{is_slash, file_name_clean, file_name_tells}
use Rattle.ann_key.proofs.Booleans.{both_false as or_false}

slash_before : (front file : List ℕ) → list_any is_slash (front ++ 47 ∷ file) ≡ true
slash_before [] file = refl
slash_before (x ∷ front) file = by_test (x == 47) (slash_before front file)
  where
    by_test : (t : Bool) → list_any is_slash (front ++ 47 ∷ file) ≡ true → (t || list_any is_slash (front ++ 47 ∷ file)) ≡ true
    by_test true e = refl
    by_test false e = e

-- what stands after the last slash, and what stands before it
last_slash : (a b f g : List ℕ) → list_any is_slash f ≡ false → list_any is_slash g ≡ false → a ++ 47 ∷ f ≡ b ++ 47 ∷ g → (a ≡ b) × (f ≡ g)
last_slash [] [] f g clean clean' e = (refl, cc)
last_slash [] (y ∷ b) f g clean clean' e =
    let same : f ≡ b ++ 47 ∷ g = cc in
    let slash : list_any is_slash f ≡ true = ap (list_any is_slash) same ∙ slash_before b g in
    absurd cc
last_slash (x ∷ a) [] f g clean clean' e =
    let same : g ≡ a ++ 47 ∷ f = cc in
    let slash : list_any is_slash g ≡ true = ap (list_any is_slash) same ∙ slash_before a f in
    absurd cc
last_slash (x ∷ a) (y ∷ b) f g clean clean' e =
    let head : x ≡ y = cc in
    let tail : a ++ 47 ∷ f ≡ b ++ 47 ∷ g = cc in
    let rest = last_slash a b f g clean clean' tail in
    (cc rest.0, rest.1)

-- two names in one directory that are equal have equal folders and files
same_place : (directory folder folder' file file' : List ℕ) → list_any is_slash file ≡ false → list_any is_slash file' ≡ false
    → place_of directory folder file ≡ place_of directory folder' file' → (folder ≡ folder') × (file ≡ file')
same_place directory folder folder' file file' clean clean' e =
    let under : 47 ∷ (folder ++ 47 ∷ file) ≡ 47 ∷ (folder' ++ 47 ∷ file') = append_cancel_left directory (47 ∷ (folder ++ 47 ∷ file)) (47 ∷ (folder' ++ 47 ∷ file')) e in
    last_slash folder folder' file file' clean clean' cc

pub content_name_unique : (directory text n m : List ℕ) → IsContentName directory text n → IsContentName directory text m → n ≡ m
content_name_unique directory text n m p q =
    let parts : p.parts ≡ q.parts = by_some p.parts q.parts (sym p.read ∙ q.read) in
    let other : IsKey q.base (without_chunk p.parts) = rw parts q.base_is in
    let base : p.base ≡ q.base = spelling_unique (without_chunk p.parts) p.base q.base p.base_is other in
    p.whole ∙ ap (λ b. place_of directory (lower_of b) (file_name_of text)) base ∙ sym q.whole
  where
    by_some : (a b : Parts) → Some a ≡ Some b → a ≡ b
    by_some a b e = cc

pub content_names_differ : (directory text other n m : List ℕ) → other ≢ text → IsContentName directory other n → IsContentName directory text m → n ≢ m
content_names_differ directory text other n m differ p q e =
    let same = same_place directory (lower_of p.base) (lower_of q.base) (file_name_of other) (file_name_of text) (file_name_clean other) (file_name_clean text) (sym p.whole ∙ e ∙ q.whole) in
    differ (file_name_tells other text same.1)

lower_slash : (base : List ℕ) → list_any is_slash (lower_of base) ≡ true
lower_slash base =
    let hex = encode_lower (md5 base) in
    ap (list_any is_slash) (append_assoc (take 3 hex) (47 ∷ []) (take 3 (drop 3 hex))) ∙ slash_before (take 3 hex) (take 3 (drop 3 hex))

-- ---- marks

any_append : (p : ℕ → Bool) (xs ys : List ℕ) → list_any p xs ≡ false → list_any p ys ≡ false → list_any p (xs ++ ys) ≡ false
any_append p [] ys e f = f
any_append p (x ∷ xs) ys e f =
    let parts = or_false (p x) (list_any p xs) e in
    rw (parts.0) (any_append p xs ys parts.1 f)

clean_marked : (mark : Option (List ℕ)) (file : List ℕ) → IfSome mark IsMark → list_any is_slash file ≡ false → list_any is_slash (marked mark file) ≡ false
clean_marked None file m clean = clean
clean_marked (Some mark) file m clean = any_append is_slash mark (45 ∷ file) m.no_slash clean

pub temporary_name_differs : (mark : Option (List ℕ)) (directory text other n : List ℕ) → IfSome mark IsMark → IsContentName directory other n → n ≢ temporary_name mark directory text
temporary_name_differs mark directory text other n m p e =
    let same = same_place directory (lower_of p.base) (codes "tmp") (file_name_of other) (marked mark (file_name_of text)) (file_name_clean other)
    (clean_marked mark (file_name_of text) m (file_name_clean text)) (sym p.whole ∙ e) in
    let slash : true ≡ list_any is_slash (codes "tmp") = sym (lower_slash p.base) ∙ ap (list_any is_slash) same.0 in
    absurd cc

-- what stands before the first dash
first_dash : (a b f g : List ℕ) → list_any (λ c. c == 45) a ≡ false → list_any (λ c. c == 45) b ≡ false → a ++ 45 ∷ f ≡ b ++ 45 ∷ g → a ≡ b
first_dash [] [] f g clean clean' e = refl
first_dash [] (y ∷ b) f g clean clean' e =
    let head : 45 ≡ y = cc in
    let P : ℕ → Type 0 = λ c. (c == 45) ≡ false in
    let bad : (45 == 45) ≡ false = subst P (sym head) (or_false (y == 45) (list_any (λ c. c == 45) b) clean').0 in
    absurd cc
first_dash (x ∷ a) [] f g clean clean' e =
    let head : x ≡ 45 = cc in
    let P : ℕ → Type 0 = λ c. (c == 45) ≡ false in
    let bad : (45 == 45) ≡ false = subst P head (or_false (x == 45) (list_any (λ c. c == 45) a) clean).0 in
    absurd cc
first_dash (x ∷ a) (y ∷ b) f g clean clean' e =
    let head : x ≡ y = cc in
    let tail : a ++ 45 ∷ f ≡ b ++ 45 ∷ g = cc in
    let rest : a ≡ b = first_dash a b f g (or_false (x == 45) (list_any (λ c. c == 45) a) clean).1 (or_false (y == 45) (list_any (λ c. c == 45) b) clean').1 tail in
    cc

pub temporary_names_differ : (directory a b text other : List ℕ) → a ≢ b → IsMark a → IsMark b → temporary_name (Some a) directory text ≢ temporary_name (Some b) directory other
temporary_names_differ directory a b text other differ m n e =
    let same = same_place directory (codes "tmp") (codes "tmp") (marked (Some a) (file_name_of text)) (marked (Some b) (file_name_of other))
    (clean_marked (Some a) (file_name_of text) m (file_name_clean text)) (clean_marked (Some b) (file_name_of other) n (file_name_clean other)) e in
    differ (first_dash a b (file_name_of text) (file_name_of other) m.no_dash n.no_dash same.1)

pub content_name_inside : (directory text other n : List ℕ) → IsOutside directory other → IsContentName directory text n → other ≢ n
content_name_inside directory text other n outside p e = outside (lower_of p.base ++ 47 ∷ file_name_of text) (e ∙ p.whole)

pub temporary_name_inside : (mark : Option (List ℕ)) (directory text other : List ℕ) → IsOutside directory other → other ≢ temporary_name mark directory text
temporary_name_inside mark directory text other outside e = outside (codes "tmp" ++ 47 ∷ marked mark (file_name_of text)) e

-- ---- the folder is text

all_below : (xs : List ℕ) → list_all (λ b. nat_lt b 128) xs ≡ true → IsAscii xs
all_below [] e = IsAscii-nil
all_below (x ∷ xs) e =
    let parts = and_parts (nat_lt x 128) (list_all (λ b. nat_lt b 128) xs) e in
    IsAscii-cons x xs (ltb-true x 128 parts.0) (all_below xs parts.1)

lower_digits_ascii : IsAscii lower_digits
lower_digits_ascii = all_below lower_digits refl

lower_ascii : (base : List ℕ) → IsAscii (lower_of base)
lower_ascii base =
    let hex = encode_lower (md5 base) in
    let ascii : IsAscii hex = IsAscii-encode_with lower_digits (md5 base) lower_digits_ascii in
    (IsAscii-append (take 3 hex ++ codes "/") (take 3 (drop 3 hex))
    (IsAscii-append (take 3 hex) (codes "/") (IsAscii-take hex 3 ascii) (IsAscii-cons 47 [] (omega arith) IsAscii-nil))
    (IsAscii-take (drop 3 hex) 3 (IsAscii-drop hex 3 ascii)))

pub lower_text : (base : List ℕ) → IsUtf8 (lower_of base)
lower_text base = IsUtf8-from_ascii (lower_of base) (lower_ascii base)

-- so is the outer one
pub outer_text : (base : List ℕ) → IsUtf8 (take 3 (lower_of base))
outer_text base = IsUtf8-from_ascii (take 3 (lower_of base)) (IsAscii-take (lower_of base) 3 (lower_ascii base))

-- the base of a key that was read
pub base_of : (key : KeyRef) → (base : List ℕ) × IsKey base (without_chunk (parts_of key))
base_of key = (key.head.now ++ key.tail.now, spelled_of_read (key.head.now ++ key.tail.now) (without_chunk (parts_of key)) key.outside)
