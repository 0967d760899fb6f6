-- What is of its class is spelled by its text, and what is spelled is of its class.
use Rattle.std.proofs.Common.{◌≡◌, true, ◌<◌, ◌^◌, ℕ, List, [], ◌∷◌, ◌++◌, refl, subst, inl, arith}
use Rattle.std.specs.Prelude.{decimal, ◌||◌, ◌&&◌, ◌==◌, not, length, slice_index, nat_le, nat_lt}
use Rattle.std.specs.List.{list_all}
use Rattle.std.proofs.lemmas.Bool.Decides.{nat_tests}
use Rattle.ann_key.specs.Numbers.{is_number, is_digit, value_of}
use Rattle.ann_key.proofs.Unique.{decimal_is_numeral}
use Rattle.annex_model.specs.Messages.{Followed, Spelled, Param, Number, Key, Word, Rest, Direction, Scope, IsOfClass, AreOfClass, is_of_class, are_of_class, HostMessage, IsAskable, is_askable, host_row, field_text, fields_text}
use Rattle.annex_model.proofs.Shapes.{single}
use Rattle.std.proofs.lemmas.Bool.{and_parts as both}

text_spells : (p : Param) → IsOfClass p → Spelled p (field_text p)
text_spells (Number n) h =
    let d = decimal_is_numeral n h in
    ((both (is_number (decimal n)) (length (decimal n) == 1 || not (slice_index (decimal n) 0 == 48)) d.form).0, d.value)
text_spells (Key key) h = (refl, h)
text_spells (Word word) h = (refl, h)
text_spells (Rest rest) h = refl
text_spells (Direction store) h = refl
text_spells (Scope global) h = refl

last_follows : (p : Param) → IsOfClass p → Followed (p ∷ []) (32 ∷ field_text p)
last_follows (Number n) h = (decimal n, [], single (decimal n), text_spells (Number n) h, refl)
last_follows (Key key) h = (key, [], single key, text_spells (Key key) h, refl)
last_follows (Word word) h = (word, [], single word, text_spells (Word word) h, refl)
last_follows (Rest rest) h = inl refl
last_follows (Direction store) h = (field_text (Direction store), [], single (field_text (Direction store)), refl, refl)
last_follows (Scope global) h = (field_text (Scope global), [], single (field_text (Scope global)), refl, refl)

more_follow : (p q : Param) (ps : List Param) (more : List ℕ) → IsOfClass p → Followed (q ∷ ps) more → Followed (p ∷ q ∷ ps) (32 ∷ field_text p ++ more)
more_follow (Number n) q ps more h r = (decimal n, more, refl, text_spells (Number n) h, r)
more_follow (Key key) q ps more h r = (key, more, refl, text_spells (Key key) h, r)
more_follow (Word word) q ps more h r = (word, more, refl, text_spells (Word word) h, r)
more_follow (Rest rest) q ps more h r = (rest, more, refl, refl, r)
more_follow (Direction store) q ps more h r = (field_text (Direction store), more, refl, refl, r)
more_follow (Scope global) q ps more h r = (field_text (Scope global), more, refl, refl, r)

pub text_follows : (ps : List Param) → AreOfClass ps → Followed ps (fields_text ps)
text_follows [] h = refl
text_follows (p ∷ []) h = last_follows p h
text_follows (p ∷ (q ∷ ps)) h = more_follow p q ps (fields_text (q ∷ ps)) h.0 (text_follows (q ∷ ps) h.1)

-- ---- what is spelled is of its class

pub spelled_class : (p : Param) (field : List ℕ) → Spelled p field → IsOfClass p
spelled_class (Number n) field h =
    let t = (both (nat_le 1 (length field) && nat_le (length field) 20 && list_all is_digit field) (nat_lt (value_of field) (2 ^ 64)) h.0).1 in
    let small : value_of field < 2 ^ 64 = grind (arith, nat_tests) in
    subst (λ (x : ℕ). x < 2 ^ 64) h.1 small
spelled_class (Key key) field h = h.1
spelled_class (Word word) field h = h.1
spelled_class (Rest rest) field h = tt
spelled_class (Direction store) field h = tt
spelled_class (Scope global) field h = tt

last_class : (p : Param) (tail : List ℕ) → Followed (p ∷ []) tail → IsOfClass p
last_class (Number n) tail h = spelled_class (Number n) h.0 h.3
last_class (Key key) tail h = spelled_class (Key key) h.0 h.3
last_class (Word word) tail h = spelled_class (Word word) h.0 h.3
last_class (Rest rest) tail h = tt
last_class (Direction store) tail h = tt
last_class (Scope global) tail h = tt

-- the first parameter, and what follows it
first_class : (p q : Param) (ps : List Param) (tail : List ℕ) → Followed (p ∷ q ∷ ps) tail
    → IsOfClass p × ((more : List ℕ) × Followed (q ∷ ps) more)
first_class (Number n) q ps tail h = (spelled_class (Number n) h.0 h.3, (h.1, h.4))
first_class (Key key) q ps tail h = (spelled_class (Key key) h.0 h.3, (h.1, h.4))
first_class (Word word) q ps tail h = (spelled_class (Word word) h.0 h.3, (h.1, h.4))
first_class (Rest rest) q ps tail h = (tt, (h.1, h.4))
first_class (Direction store) q ps tail h = (tt, (h.1, h.4))
first_class (Scope global) q ps tail h = (tt, (h.1, h.4))

pub followed_classes : (ps : List Param) (tail : List ℕ) → Followed ps tail → AreOfClass ps
followed_classes [] tail h = tt
followed_classes (p ∷ []) tail h = last_class p tail h
followed_classes (p ∷ (q ∷ ps)) tail h =
    let f = first_class p q ps tail h in
    (f.0, followed_classes (q ∷ ps) f.1.0 f.1.1)

-- ---- the tests of the classes

class_test : (p : Param) → IsOfClass p → is_of_class p ≡ true
class_test (Number n) h = grind (arith, nat_tests)
class_test (Key key) h = h
class_test (Word word) h = h
class_test (Rest rest) h = refl
class_test (Direction store) h = refl
class_test (Scope global) h = refl

test_class : (p : Param) → is_of_class p ≡ true → IsOfClass p
test_class (Number n) h = grind (arith, nat_tests)
test_class (Key key) h = h
test_class (Word word) h = h
test_class (Rest rest) h = tt
test_class (Direction store) h = tt
test_class (Scope global) h = tt

pub classes_test : (ps : List Param) → AreOfClass ps → are_of_class ps ≡ true
classes_test [] h = refl
classes_test (p ∷ []) h = class_test p h
classes_test (p ∷ (q ∷ ps)) h = rw (class_test p h.0, classes_test (q ∷ ps) h.1) refl

pub test_classes : (ps : List Param) → are_of_class ps ≡ true → AreOfClass ps
test_classes [] h = tt
test_classes (p ∷ []) h = test_class p h
test_classes (p ∷ (q ∷ ps)) h =
    let t = both (is_of_class p) (are_of_class (q ∷ ps)) h in
    (test_class p t.0, test_classes (q ∷ ps) t.1)

pub askable_test : (q : HostMessage) → IsAskable q → is_askable q ≡ true
askable_test q h = classes_test (host_row q).1 h

pub test_askable : (q : HostMessage) → is_askable q ≡ true → IsAskable q
test_askable q h = test_classes (host_row q).1 h
