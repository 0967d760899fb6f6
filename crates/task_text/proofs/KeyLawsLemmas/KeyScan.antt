-- A scan of a key from the left, which hands on the rest and knows only which fields it has seen.
use Rattle.std.proofs.Common.{◌≡◌, ℕ, ◌+◌, ◌-◌, suc, zero, List, [], ◌∷◌, ◌++◌, length, take, drop, refl, sym, ap, ◌∙◌, Bool, true, false, not, cond, Some, None, Option, append_assoc, arith}
use Rattle.std.specs.Prelude.{◌==◌, ◌&&◌, ◌||◌, nat_lt, is_some}
use Rattle.std.specs.List.{list_all, prefix_len}
use Rattle.std.proofs.lemmas.Bool.{eqb-true, and_parts as both}
use Rattle.std.proofs.Math.Seq.{drop-append_seam}
use Rattle.ann_key.specs.Numbers.{is_digit, value_of, is_numeral, IsNumeral}
use Rattle.ann_key.specs.Keys.{Parts, is_backend_byte, is_backend, is_name, IsField, IsChunkField}
use Rattle.ann_key.specs.KeyErrors.{first_is, Begun, Fields, ChunkSize, IsFront, IsSizedFront, is_number_of}
use Rattle.ann_key.specs.declared.error.KeyError.{KeyError}
use Rattle.ann_key.specs.declared.error.KeyError.TheVariants.{Backend, Field, Number, Name}
use Rattle.ann_key.proofs.Spelling.{prefix_len_front, number_read}
use Rattle.ann_key.proofs.Chunks.{front_is}
use Rattle.ann_key.proofs.Errors.{digits_stop as no_digit_field, digits_stop_chunk as no_digit_chunk}

-- ---- the scan

-- whether a size, a time and a chunk were seen; or, after a size and a time, -S and a number
pub data Seen : Type 0 where
  Whole : Bool → Bool → Bool → Seen
  Sized : Bool → Bool → Seen

abbrev pub follows : Seen → ℕ → Bool
follows (Sized size mtime) b = b == 67
follows (Whole size mtime chunk) b =
    b == 45 || (b == 83 && not chunk) || (b == 109 && not chunk && not mtime) || (b == 115 && not chunk && not mtime && not size)

abbrev after_letter : Bool → Bool → Bool → ℕ → Seen
after_letter size mtime chunk b = cond (b == 83) (Sized size mtime) (cond (b == 109) (Whole size true chunk) (Whole true mtime chunk))

abbrev pub after : Seen → ℕ → Seen
after (Sized size mtime) b = Whole size mtime true
after (Whole size mtime chunk) b = after_letter size mtime chunk b

-- places are those of a text of `total` bytes, of which the rest is at hand
abbrev pub name_error : ℕ → List ℕ → Option KeyError
name_error total name =
    cond (is_name name) None (Some (Name (total - length name + prefix_len (λ b. not (b == 10)) name)))

abbrev number_then : ℕ → List ℕ → ℕ → Option KeyError → Option KeyError
number_then total rest letter next = cond (is_number_of letter rest) next (Some (Number (total - length rest)))

abbrev by_letter : ℕ → Seen → ℕ → List ℕ → Option KeyError → Option KeyError
by_letter total seen letter rest next =
    cond (follows seen letter) (cond (letter == 45) (name_error total rest) (number_then total rest letter next)) (Some (Field (total - length (letter ∷ rest))))

-- after so many fields, and no more than `fuel` of them to come
unfoldable pub scan : ℕ → ℕ → Seen → List ℕ → Option KeyError
scan total zero seen rest = None
scan total (suc fuel) seen [] = Some (Field (total - 0))
scan total (suc fuel) seen (x ∷ []) = Some (Field (cond (x == 45) (total - 0) (total - 1)))
scan total (suc fuel) seen (x ∷ (letter ∷ rest)) =
    cond (x == 45) (by_letter total seen letter rest (scan total fuel (after seen letter) (drop (prefix_len is_digit rest) rest))) (Some (Field (total - length (x ∷ letter ∷ rest))))

abbrev pub dash : List ℕ → Bool
dash bytes = first_is (λ b. b == 45) bytes

abbrev pub key_scan : ℕ → List ℕ → Option KeyError
key_scan fuel bytes =
    let n : ℕ = prefix_len is_backend_byte bytes in
    cond (nat_lt 0 n && dash (drop n bytes)) (scan (length bytes) fuel (Whole false false false) (drop n bytes)) (Some (Backend n))

-- ---- after a field the scan goes on

abbrev pub Leads : ℕ → Seen → List ℕ → Seen → List ℕ → Type 0
Leads total a xs b ys = (k : ℕ) × ((fuel : ℕ) → scan total (fuel + k) a xs ≡ scan total fuel b ys)

stays : (total : ℕ) (a : Seen) (xs : List ℕ) → Leads total a xs a xs
stays total a xs = (0, λ fuel. ap (λ (n : ℕ). scan total n a xs) (omega arith))

leads_on : (total : ℕ) (a b c : Seen) (xs ys zs : List ℕ) → Leads total a xs b ys → Leads total b ys c zs → Leads total a xs c zs
leads_on total a b c xs ys zs p q = (
  q.0 + p.0,
  λ fuel. let e : fuel + (q.0 + p.0) ≡ (fuel + q.0) + p.0 = omega arith in ap (λ (n : ℕ). scan total n a xs) e ∙ p.1 (fuel + q.0) ∙ q.1 fuel,
)

numbered : (n letter : ℕ) (digits rest : List ℕ) → IsNumeral n digits → (letter == 115 || letter == 109 || nat_lt 0 n) ≡ true → prefix_len is_digit rest ≡ 0
    → (is_number_of letter (digits ++ rest) ≡ true) × (drop (prefix_len is_digit (digits ++ rest)) (digits ++ rest) ≡ rest)
numbered n letter digits rest s may stop = go (is_numeral run) refl (number_read n digits rest s stop)
  where
    run : List ℕ
    run = take (prefix_len is_digit (digits ++ rest)) (digits ++ rest)

    behind : List ℕ
    behind = drop (prefix_len is_digit (digits ++ rest)) (digits ++ rest)

    go : (b : Bool) → is_numeral run ≡ b → cond {A = Option (ℕ × List ℕ)} b (Some (value_of run, behind)) None ≡ Some (n, rest)
        → ((is_numeral run && (letter == 115 || letter == 109 || nat_lt 0 (value_of run))) ≡ true) × (behind ≡ rest)
    go false e h = absurd cc
    go true e h =
        let p : ◌≡◌ {A = ℕ × List ℕ} (value_of run, behind) (n, rest) = cc in
        let v : value_of run ≡ n = ap (λ (q : ℕ × List ℕ). q.0) p in
        (rw (e, v, may) refl, ap (λ (q : ℕ × List ℕ). q.1) p)

step : (total n letter : ℕ) (seen : Seen) (digits rest : List ℕ) → follows seen letter ≡ true → (letter == 45) ≡ false → IsNumeral n digits
    → (letter == 115 || letter == 109 || nat_lt 0 n) ≡ true → prefix_len is_digit rest ≡ 0 → Leads total seen (45 ∷ letter ∷ (digits ++ rest)) (after seen letter) rest
unfolding scan
step total n letter seen digits rest f d s may stop = (1, λ fuel. rest_of fuel)
  where
    t : (is_number_of letter (digits ++ rest) ≡ true) × (drop (prefix_len is_digit (digits ++ rest)) (digits ++ rest) ≡ rest)
    t = numbered n letter digits rest s may stop

    rest_of : (fuel : ℕ) → scan total (fuel + 1) seen (45 ∷ letter ∷ (digits ++ rest)) ≡ scan total fuel (after seen letter) rest
    rest_of fuel = let e : fuel + 1 ≡ suc fuel = omega arith in rw (e, f, d, t.0, t.1) refl

size_leads : (total : ℕ) (o : Option ℕ) (text rest : List ℕ) → IsField 115 o text → prefix_len is_digit rest ≡ 0
    → Leads total (Whole false false false) (text ++ rest) (Whole (is_some o) false false) rest
size_leads total None text rest h stop = rw h (stays total (Whole false false false) rest)
size_leads total (Some n) text rest h stop = rw h.1 (step total n 115 (Whole false false false) h.0 rest refl refl h.2 refl stop)

mtime_leads : (total : ℕ) (size : Bool) (o : Option ℕ) (text rest : List ℕ) → IsField 109 o text → prefix_len is_digit rest ≡ 0
    → Leads total (Whole size false false) (text ++ rest) (Whole size (is_some o) false) rest
mtime_leads total size None text rest h stop = rw h (stays total (Whole size false false) rest)
mtime_leads total size (Some n) text rest h stop = rw h.1 (step total n 109 (Whole size false false) h.0 rest refl refl h.2 refl stop)

sized_leads : (total n : ℕ) (size mtime : Bool) (digits rest : List ℕ) → IsNumeral n digits → nat_lt 0 n ≡ true → prefix_len is_digit rest ≡ 0
    → Leads total (Whole size mtime false) (45 ∷ 83 ∷ (digits ++ rest)) (Sized size mtime) rest
sized_leads total n size mtime digits rest s least stop = step total n 83 (Whole size mtime false) digits rest refl refl s (rw least refl) stop

chunk_leads : (total : ℕ) (size mtime : Bool) (o : Option (ℕ × ℕ)) (text rest : List ℕ) → IsChunkField o text → prefix_len is_digit rest ≡ 0
    → Leads total (Whole size mtime false) (text ++ rest) (Whole size mtime (is_some o)) rest
chunk_leads total size mtime None text rest h stop = rw h (stays total (Whole size mtime false) rest)
chunk_leads total size mtime (Some c) text rest h stop =
    let behind : List ℕ = 45 ∷ 67 ∷ (h.1 ++ rest) in
    let least : (nat_lt 0 c.0 ≡ true) × (nat_lt 0 c.1 ≡ true) = both (nat_lt 0 c.0) (nat_lt 0 c.1) h.5 in
    let first : Leads total (Whole size mtime false) (45 ∷ 83 ∷ (h.0 ++ behind)) (Sized size mtime) behind =
    sized_leads total c.0 size mtime h.0 behind h.3 least.0 refl in
    let second : Leads total (Sized size mtime) behind (Whole size mtime true) rest =
    step total c.1 67 (Sized size mtime) h.1 rest refl refl h.4 (rw least.1 refl) stop in
    rw (h.2, append_assoc h.0 (45 ∷ 67 ∷ h.1) rest)
    (leads_on total (Whole size mtime false) (Sized size mtime) (Whole size mtime true) (45 ∷ 83 ∷ (h.0 ++ behind)) behind rest first second)

-- ---- after a front

abbrev pub seen_of : Begun → Seen
seen_of (Fields key) = Whole (is_some key.size) (is_some key.mtime) (is_some key.chunk)
seen_of (ChunkSize key) = Sized (is_some key.size) (is_some key.mtime)

dash_field : (letter : ℕ) (o : Option ℕ) (text rest : List ℕ) → IsField letter o text → (is_some o ≡ false → dash rest ≡ true) → dash (text ++ rest) ≡ true
dash_field letter None text rest h d = rw h (d refl)
dash_field letter (Some n) text rest h d = rw h.1 refl

dash_chunk : (o : Option (ℕ × ℕ)) (text rest : List ℕ) → IsChunkField o text → (is_some o ≡ false → dash rest ≡ true) → dash (text ++ rest) ≡ true
dash_chunk None text rest h d = rw h (d refl)
dash_chunk (Some c) text rest h d = rw h.2 refl

no_backend : (rest : List ℕ) → dash rest ≡ true → prefix_len is_backend_byte rest ≡ 0
no_backend [] d = absurd cc
no_backend (x ∷ rest) d = let e : x ≡ 45 = eqb-true x 45 d in rw e refl

backend_leads : (backend rest : List ℕ) (fuel : ℕ) → is_backend backend ≡ true → dash rest ≡ true
    → key_scan fuel (backend ++ rest) ≡ scan (length (backend ++ rest)) fuel (Whole false false false) rest
backend_leads backend rest fuel class d =
    let c : (nat_lt 0 (length backend) ≡ true) × (list_all is_backend_byte backend ≡ true) = both (nat_lt 0 (length backend)) (list_all is_backend_byte backend) class in
    let len : prefix_len is_backend_byte (backend ++ rest) ≡ length backend = prefix_len_front is_backend_byte backend rest c.1 (no_backend rest d) in
    rw (len, c.0, drop-append_seam backend rest, d) refl

-- the scan comes to what follows the front, which begins with no digit and, after a backend alone, with a dash
abbrev pub Comes : List ℕ → Seen → List ℕ → Type 0
Comes bytes seen rest = (k : ℕ) × ((fuel : ℕ) → key_scan (fuel + k) bytes ≡ scan (length bytes) fuel seen rest)

comes : (bytes backend text rest : List ℕ) (seen : Seen) → bytes ≡ backend ++ text → is_backend backend ≡ true → dash text ≡ true
    → Leads (length bytes) (Whole false false false) text seen rest → Comes bytes seen rest
comes bytes backend text rest seen e class d t = (
  t.0,
  λ fuel. ap (key_scan (fuel + t.0)) e ∙ backend_leads backend text (fuel + t.0) class d
      ∙ ap (λ (b : List ℕ). scan (length b) (fuel + t.0) (Whole false false false) text) (sym e) ∙ t.1 fuel,
)

pub fields_come : (front rest : List ℕ) (key : Parts) → IsFront front key → prefix_len is_digit rest ≡ 0
    → (is_some key.size ≡ false → is_some key.mtime ≡ false → is_some key.chunk ≡ false → dash rest ≡ true)
    → Comes (front ++ rest) (seen_of (Fields key)) rest
fields_come front rest key s stop d = comes bytes key.backend at_size rest (seen_of (Fields key)) split s.backend_class dashed leads
  where
    bytes : List ℕ
    bytes = front ++ rest

    at_chunk : List ℕ
    at_chunk = s.chunk ++ rest

    at_mtime : List ℕ
    at_mtime = s.mtime ++ at_chunk

    at_size : List ℕ
    at_size = s.size ++ at_mtime

    total : ℕ
    total = length bytes

    split : front ++ rest ≡ key.backend ++ (s.size ++ (s.mtime ++ (s.chunk ++ rest)))
    split = ap (λ (x : List ℕ). x ++ rest) (front_is front key s) ∙ simp append_assoc

    dashed : dash (s.size ++ (s.mtime ++ (s.chunk ++ rest))) ≡ true
    dashed =
        dash_field 115 key.size s.size (s.mtime ++ (s.chunk ++ rest)) s.size_field
        (λ a. dash_field 109 key.mtime s.mtime (s.chunk ++ rest) s.mtime_field (λ b. dash_chunk key.chunk s.chunk rest s.chunk_field (d a b)))

    no_digit : prefix_len is_digit (s.chunk ++ rest) ≡ 0
    no_digit = no_digit_chunk key.chunk s.chunk rest s.chunk_field stop

    leads : Leads total (Whole false false false) (s.size ++ (s.mtime ++ (s.chunk ++ rest))) (seen_of (Fields key)) rest
    leads =
        leads_on total (Whole false false false) (Whole (is_some key.size) false false) (seen_of (Fields key)) at_size at_mtime rest
        (size_leads total key.size s.size at_mtime s.size_field (no_digit_field 109 key.mtime s.mtime at_chunk s.mtime_field no_digit))
        (leads_on total (Whole (is_some key.size) false false) (Whole (is_some key.size) (is_some key.mtime) false) (seen_of (Fields key)) at_mtime at_chunk rest
        (mtime_leads total (is_some key.size) key.mtime s.mtime at_chunk s.mtime_field no_digit)
        (chunk_leads total (is_some key.size) (is_some key.mtime) key.chunk s.chunk rest s.chunk_field stop))

pub sized_comes : (front rest : List ℕ) (key : Parts) → IsSizedFront front key → prefix_len is_digit rest ≡ 0 → Comes (front ++ rest) (seen_of (ChunkSize key)) rest
sized_comes front rest key s stop = rw split both_come
  where
    behind : List ℕ
    behind = 45 ∷ 83 ∷ (s.digits ++ rest)

    split : front ++ rest ≡ s.front ++ (45 ∷ 83 ∷ (s.digits ++ rest))
    split = ap (λ (x : List ℕ). x ++ rest) s.whole ∙ append_assoc s.front (45 ∷ 83 ∷ s.digits) rest

    first : Comes (s.front ++ behind) (Whole (is_some key.size) (is_some key.mtime) (is_some key.chunk)) behind
    first = fields_come s.front behind key s.is_front refl (λ a b c. refl)

    second : Leads (length (s.front ++ behind)) (Whole (is_some key.size) (is_some key.mtime) false) behind (Sized (is_some key.size) (is_some key.mtime)) rest
    second = sized_leads (length (s.front ++ behind)) s.size (is_some key.size) (is_some key.mtime) s.digits rest s.numeral s.positive stop

    none : is_some key.chunk ≡ false
    none = rw s.no_chunk refl

    both_come : Comes (s.front ++ (45 ∷ 83 ∷ (s.digits ++ rest))) (Sized (is_some key.size) (is_some key.mtime)) rest
    both_come = let f : Comes (s.front ++ behind) (Whole (is_some key.size) (is_some key.mtime) false) behind = rw none at first in (
      second.0 + f.0,
      λ fuel. let e : fuel + (second.0 + f.0) ≡ (fuel + second.0) + f.0 = omega arith in
          ap (λ (n : ℕ). key_scan n (s.front ++ behind)) e ∙ f.1 (fuel + second.0) ∙ second.1 fuel,
    )
