-- Where bytes stop being a key they spell none.
use Rattle.std.proofs.Common.{◌≡◌, ℕ, ◌+◌, List, [], ◌∷◌, ◌++◌, length, take, drop, refl, sym, ap, subst, ◌∙◌, Bool, true, false, not, cond, Some, None, Option, append_assoc, inl, inr}
use Rattle.std.specs.Prelude.{◌==◌, ◌&&◌, ◌||◌, nat_lt, is_some, ◌⊎◌}
use Rattle.std.specs.List.{list_all, prefix_len}
use Rattle.std.proofs.lemmas.Bool.{eqb-true, not-true as not_true, or_cases as or_true, and_parts as both}
use Rattle.std.proofs.Math.Seq.{take-append_seam, drop-append_seam}
use Rattle.ann_key.specs.Numbers.{is_digit, value_of, is_numeral}
use Rattle.ann_key.specs.Keys.{Parts, is_backend_byte, is_backend, is_name, IsField, IsChunkField, begins, number_at, some_of, field_at, chunk_of, chunk_after, chunk_at, named, timed, sized, key_reading}
use Rattle.ann_key.specs.KeyErrors.{first_is, Begun, Fields, ChunkSize, IsFront, IsSizedFront, IsBegun, may_follow, ends_in_number, is_number_of, IsBadBackend, IsBadField, IsBadNumber, IsBadName, IsError}
use Rattle.ann_key.specs.declared.error.KeyError.{KeyError}
use Rattle.ann_key.specs.declared.error.KeyError.TheVariants.{Backend, Field, Number, Name}
use Rattle.ann_key.proofs.Spelling.{prefix_len_front, number_read}
use Rattle.ann_key.proofs.Chunks.{front_is}
use Rattle.ann_key.proofs.Booleans.{both_false as or_false}
use Rattle.ann_key.proofs.Options.{no_pair as no_error, no_number as no_field}

-- ---- tests

and_left : (a b : Bool) → (a && b) ≡ false → b ≡ true → a ≡ false
and_left true b h e = cc
and_left false b h e = refl

pub no_dash : (letter : ℕ) (rest : List ℕ) → first_is (λ b. b == 45) rest ≡ false → begins 45 letter rest ≡ false
no_dash letter [] h = refl
no_dash letter (x ∷ []) h = refl
no_dash letter (x ∷ (y ∷ rest)) h = rw h refl

pub no_first : (p : ℕ → Bool) (rest : List ℕ) → first_is p rest ≡ false → prefix_len p rest ≡ 0
no_first p [] h = refl
no_first p (x ∷ rest) h = rw h refl

no_second : (letter : ℕ) (more : List ℕ) → first_is (λ b. b == letter) more ≡ false → begins 45 letter (45 ∷ more) ≡ false
no_second letter [] h = refl
no_second letter (x ∷ more) h = h

-- ---- texts before the rest

pub digits_stop : (letter : ℕ) (o : Option ℕ) (text rest : List ℕ) → IsField letter o text → prefix_len is_digit rest ≡ 0 → prefix_len is_digit (text ++ rest) ≡ 0
digits_stop letter None text rest f h = rw f h
digits_stop letter (Some n) text rest f h = rw f.1 refl

pub digits_stop_chunk : (o : Option (ℕ × ℕ)) (text rest : List ℕ) → IsChunkField o text → prefix_len is_digit rest ≡ 0 → prefix_len is_digit (text ++ rest) ≡ 0
digits_stop_chunk None text rest f h = rw f h
digits_stop_chunk (Some c) text rest f h = rw f.2 refl

backend_stop : (letter : ℕ) (o : Option ℕ) (text rest : List ℕ) → IsField letter o text → (o ≡ None → prefix_len is_backend_byte rest ≡ 0) → prefix_len is_backend_byte (text ++ rest) ≡ 0
backend_stop letter None text rest f h = rw f (h refl)
backend_stop letter (Some n) text rest f h = rw f.1 refl

backend_stop_chunk : (o : Option (ℕ × ℕ)) (text rest : List ℕ) → IsChunkField o text → (o ≡ None → prefix_len is_backend_byte rest ≡ 0) → prefix_len is_backend_byte (text ++ rest) ≡ 0
backend_stop_chunk None text rest f h = rw f (h refl)
backend_stop_chunk (Some c) text rest f h = rw f.2 refl

begins_stop : (letter own : ℕ) (o : Option ℕ) (text rest : List ℕ) → (own == letter) ≡ false → IsField own o text → (o ≡ None → begins 45 letter rest ≡ false) → begins 45 letter (text ++ rest) ≡ false
begins_stop letter own None text rest e f h = rw f (h refl)
begins_stop letter own (Some n) text rest e f h = rw (f.1, e) refl

begins_stop_chunk : (letter : ℕ) (o : Option (ℕ × ℕ)) (text rest : List ℕ) → (83 == letter) ≡ false → IsChunkField o text → (o ≡ None → begins 45 letter rest ≡ false) → begins 45 letter (text ++ rest) ≡ false
begins_stop_chunk letter None text rest e f h = rw f (h refl)
begins_stop_chunk letter (Some c) text rest e f h = rw (f.2, e) refl

-- ---- what is read of them

field_scan : (letter : ℕ) (o : Option ℕ) (text rest : List ℕ) → (letter == letter) ≡ true → IsField letter o text → prefix_len is_digit rest ≡ 0
    → (o ≡ None → begins 45 letter rest ≡ false) → field_at letter (text ++ rest) ≡ Some (o, rest)
field_scan letter None text rest l f d h = rw (f, h refl) refl
field_scan letter (Some n) text rest l f d h = rw (f.1, l, number_read n f.0 rest f.2 d) refl

chunk_scan : (o : Option (ℕ × ℕ)) (text rest : List ℕ) → IsChunkField o text → prefix_len is_digit rest ≡ 0
    → (o ≡ None → begins 45 83 rest ≡ false) → chunk_at (text ++ rest) ≡ Some (o, rest)
chunk_scan None text rest f d h = rw (f, h refl) refl
chunk_scan (Some c) text rest f d h =
    let e : f.0 ++ 45 ∷ 67 ∷ f.1 ++ rest ≡ f.0 ++ (45 ∷ 67 ∷ (f.1 ++ rest)) = append_assoc f.0 (45 ∷ 67 ∷ f.1) rest in
    rw (f.2, e, number_read c.0 f.0 (45 ∷ 67 ∷ (f.1 ++ rest)) f.3 refl, number_read c.1 f.1 rest f.4 d, f.5) refl

backend_read : (backend rest : List ℕ) → is_backend backend ≡ true → prefix_len is_backend_byte rest ≡ 0
    → key_reading (backend ++ rest) ≡ sized backend (field_at 115 rest)
backend_read backend rest class stop =
    let c : (nat_lt 0 (length backend) ≡ true) × (list_all is_backend_byte backend ≡ true) = both (nat_lt 0 (length backend)) (list_all is_backend_byte backend) class in
    let len : prefix_len is_backend_byte (backend ++ rest) ≡ length backend = prefix_len_front is_backend_byte backend rest c.1 stop in
    rw (len, c.0, take-append_seam backend rest, drop-append_seam backend rest) refl

size_read : (backend text rest : List ℕ) (size : Option ℕ) → is_backend backend ≡ true → IsField 115 size text
    → prefix_len is_digit rest ≡ 0 → (size ≡ None → begins 45 115 rest ≡ false) → (size ≡ None → prefix_len is_backend_byte rest ≡ 0)
    → key_reading (backend ++ (text ++ rest)) ≡ timed backend size (field_at 109 rest)
size_read backend text rest size class f d h b =
    backend_read backend (text ++ rest) class (backend_stop 115 size text rest f b) ∙ ap (sized backend) (field_scan 115 size text rest refl f d h)

mtime_read : (backend s m rest : List ℕ) (size mtime : Option ℕ) → is_backend backend ≡ true → IsField 115 size s → IsField 109 mtime m
    → prefix_len is_digit rest ≡ 0 → (mtime ≡ None → begins 45 109 rest ≡ false) → (size ≡ None → mtime ≡ None → begins 45 115 rest ≡ false)
    → (size ≡ None → mtime ≡ None → prefix_len is_backend_byte rest ≡ 0)
    → key_reading (backend ++ (s ++ (m ++ rest))) ≡ named backend size mtime (chunk_at rest)
mtime_read backend s m rest size mtime class f g d h k b =
    size_read backend s (m ++ rest) size class f (digits_stop 109 mtime m rest g d)
    (λ e. begins_stop 115 109 mtime m rest refl g (k e))
    (λ e. backend_stop 109 mtime m rest g (b e))
    ∙ ap (timed backend size) (field_scan 109 mtime m rest refl g d h)

-- what may follow a front with these fields, as the scan needs it
pub record Stops (key : Parts) (rest : List ℕ) : Type 0 where
  pub digits : prefix_len is_digit rest ≡ 0
  pub backend : key.size ≡ None → key.mtime ≡ None → key.chunk ≡ None → prefix_len is_backend_byte rest ≡ 0
  pub size : key.size ≡ None → key.mtime ≡ None → key.chunk ≡ None → begins 45 115 rest ≡ false
  pub mtime : key.mtime ≡ None → key.chunk ≡ None → begins 45 109 rest ≡ false
  pub chunk : key.chunk ≡ None → begins 45 83 rest ≡ false

front_text : (text rest : List ℕ) (key : Parts) (s : IsFront text key) → text ++ rest ≡ key.backend ++ (s.size ++ (s.mtime ++ (s.chunk ++ rest)))
front_text text rest key s =
    ap (λ (x : List ℕ). x ++ rest) (front_is text key s)
    ∙ append_assoc key.backend (s.size ++ (s.mtime ++ s.chunk)) rest
    ∙ ap (λ (x : List ℕ). key.backend ++ x) (append_assoc s.size (s.mtime ++ s.chunk) rest ∙ ap (λ (x : List ℕ). s.size ++ x) (append_assoc s.mtime s.chunk rest))

-- after a front the name is read
front_scan : (text rest : List ℕ) (key : Parts) → IsFront text key → Stops key rest
    → key_reading (text ++ rest) ≡ named key.backend key.size key.mtime (Some (key.chunk, rest))
front_scan text rest key s t =
    ap key_reading (front_text text rest key s)
    ∙ mtime_read key.backend s.size s.mtime (s.chunk ++ rest) key.size key.mtime s.backend_class s.size_field s.mtime_field
    (digits_stop_chunk key.chunk s.chunk rest s.chunk_field t.digits)
    (λ e. begins_stop_chunk 109 key.chunk s.chunk rest refl s.chunk_field (t.mtime e))
    (λ e f. begins_stop_chunk 115 key.chunk s.chunk rest refl s.chunk_field (t.size e f))
    (λ e f. backend_stop_chunk key.chunk s.chunk rest s.chunk_field (t.backend e f))
    ∙ ap (named key.backend key.size key.mtime) (chunk_scan key.chunk s.chunk rest s.chunk_field t.digits t.chunk)

pub empty_chunk : (o : Option (ℕ × ℕ)) (text : List ℕ) → o ≡ None → IsChunkField o text → text ≡ []
empty_chunk None text e f = f
empty_chunk (Some c) text e f = absurd cc

-- after a front with no chunk the chunk is read
chunk_read : (text rest : List ℕ) (key : Parts) → IsFront text key → key.chunk ≡ None
    → prefix_len is_digit rest ≡ 0 → (key.mtime ≡ None → begins 45 109 rest ≡ false) → (key.size ≡ None → key.mtime ≡ None → begins 45 115 rest ≡ false)
    → (key.size ≡ None → key.mtime ≡ None → prefix_len is_backend_byte rest ≡ 0)
    → key_reading (text ++ rest) ≡ named key.backend key.size key.mtime (chunk_at rest)
chunk_read text rest key s none d h k b =
    ap key_reading (front_text text rest key s ∙ ap (λ (x : List ℕ). key.backend ++ (s.size ++ (s.mtime ++ (x ++ rest)))) (empty_chunk key.chunk s.chunk none s.chunk_field))
    ∙ mtime_read key.backend s.size s.mtime rest key.size key.mtime s.backend_class s.size_field s.mtime_field d h k b

-- ---- numbers

run : List ℕ → List ℕ
run bytes = take (prefix_len is_digit bytes) bytes

after_run : List ℕ → List ℕ
after_run bytes = drop (prefix_len is_digit bytes) bytes

number_cond : (bytes : List ℕ) → number_at bytes ≡ cond {A = Option (ℕ × List ℕ)} (is_numeral (run bytes)) (Some (value_of (run bytes), after_run bytes)) None
unfolding run after_run
number_cond bytes = refl

number_of : (letter : ℕ) (bytes : List ℕ) → is_number_of letter bytes ≡ (is_numeral (run bytes) && (letter == 115 || letter == 109 || nat_lt 0 (value_of (run bytes))))
unfolding run
number_of letter bytes = refl

-- a size or a time that isn't a number
bad_run : (letter : ℕ) (bytes : List ℕ) → (letter == 115 || letter == 109) ≡ true → is_number_of letter bytes ≡ false → number_at bytes ≡ None
bad_run letter bytes l h = number_cond bytes ∙ go (is_numeral (run bytes)) (rw l at (sym (number_of letter bytes) ∙ h))
  where
    go : (b : Bool) → (b && (true || nat_lt 0 (value_of (run bytes)))) ≡ false
        → cond {A = Option (ℕ × List ℕ)} b (Some (value_of (run bytes), after_run bytes)) None ≡ None
    go true e = absurd cc
    go false e = refl

chunk_of_zero : (size n : ℕ) (rest : List ℕ) → nat_lt 0 n ≡ false → chunk_of size (Some (n, rest)) ≡ None
chunk_of_zero size n rest e = go (nat_lt 0 size)
  where
    go : (b : Bool) → cond {A = Option (Option (ℕ × ℕ) × List ℕ)} (b && nat_lt 0 n) (Some (Some (size, n), rest)) None ≡ None
    go true = rw e refl
    go false = refl

chunk_of_nothing : (size : ℕ) (x : Option (ℕ × List ℕ)) → nat_lt 0 size ≡ false → chunk_of size x ≡ None
chunk_of_nothing size None e = refl
chunk_of_nothing size (Some (n, rest)) e = rw e refl

bad_size : (bytes : List ℕ) → is_number_of 83 bytes ≡ false → chunk_after (number_at bytes) ≡ None
bad_size bytes h = ap chunk_after (number_cond bytes) ∙ go (is_numeral (run bytes)) (sym (number_of 83 bytes) ∙ h)
  where
    dash : (b : Bool) → nat_lt 0 (value_of (run bytes)) ≡ false
        → cond {A = Option (Option (ℕ × ℕ) × List ℕ)} b (chunk_of (value_of (run bytes)) (number_at (drop 2 (after_run bytes)))) None ≡ None
    dash true e = chunk_of_nothing (value_of (run bytes)) (number_at (drop 2 (after_run bytes))) e
    dash false e = refl

    go : (b : Bool) → (b && nat_lt 0 (value_of (run bytes))) ≡ false
        → chunk_after (cond {A = Option (ℕ × List ℕ)} b (Some (value_of (run bytes), after_run bytes)) None) ≡ None
    go true e = dash (begins 45 67 (after_run bytes)) e
    go false e = refl

bad_number : (size : ℕ) (bytes : List ℕ) → is_number_of 67 bytes ≡ false → chunk_of size (number_at bytes) ≡ None
bad_number size bytes h = ap (chunk_of size) (number_cond bytes) ∙ go (is_numeral (run bytes)) (sym (number_of 67 bytes) ∙ h)
  where
    go : (b : Bool) → (b && nat_lt 0 (value_of (run bytes))) ≡ false
        → chunk_of size (cond {A = Option (ℕ × List ℕ)} b (Some (value_of (run bytes), after_run bytes)) None) ≡ None
    go true e = chunk_of_zero size (value_of (run bytes)) (after_run bytes) e
    go false e = refl

-- ---- each error

no_dashes : (backend : List ℕ) (size mtime : Option ℕ) (chunk : Option (ℕ × ℕ)) (rest : List ℕ) → begins 45 45 rest ≡ false → named backend size mtime (Some (chunk, rest)) ≡ None
no_dashes backend size mtime chunk rest e = rw e refl

backend_error : (bytes : List ℕ) (at : ℕ) → IsBadBackend bytes at → key_reading bytes ≡ None
backend_error bytes at h = go (nat_lt 0 n) refl
  where
    n : ℕ
    n = prefix_len is_backend_byte bytes

    R : List ℕ
    R = drop n bytes

    bad : (n == 0 || not (first_is (λ b. b == 45) R)) ≡ true
    bad = subst (λ (k : ℕ). (k == 0 || not (first_is (λ b. b == 45) (drop k bytes))) ≡ true) h.0 h.1

    no_first_dash : (a : Bool) → (n == 0) ≡ a → nat_lt 0 n ≡ true → first_is (λ b. b == 45) R ≡ false
    no_first_dash true e l = let z : n ≡ 0 = eqb-true n 0 e in let w : nat_lt 0 0 ≡ true = rw z at l in absurd cc
    no_first_dash false e l = let f : (false || not (first_is (λ b. b == 45) R)) ≡ true = rw e at bad in not_true (first_is (λ b. b == 45) R) f

    go : (b : Bool) → nat_lt 0 n ≡ b → cond {A = Option Parts} b (sized (take n bytes) (field_at 115 R)) None ≡ None
    go false e = refl
    go true e =
        let d : first_is (λ b. b == 45) R ≡ false = no_first_dash (n == 0) refl e in
        rw (no_dash 115 R d, no_dash 109 R d, no_dash 83 R d, no_dash 45 R d) refl

-- a number ends, and neither a digit nor a dash follows
stops_after : (key : Parts) (rest : List ℕ) → ends_in_number (Fields key) ≡ true → first_is (λ b. b == 45 || is_digit b) rest ≡ false → Stops key rest
stops_after key rest some e = record {
  digits = no_digit rest e;
  backend = λ a b c. absurd (none key.size key.mtime key.chunk some a b c);
  size = λ a b c. no_dash 115 rest d;
  mtime = λ a b. no_dash 109 rest d;
  chunk = λ a. no_dash 83 rest d;
}
  where
    no_digit : (rest : List ℕ) → first_is (λ b. b == 45 || is_digit b) rest ≡ false → prefix_len is_digit rest ≡ 0
    no_digit [] h = refl
    no_digit (x ∷ rest) h = let t : ((x == 45) ≡ false) × (is_digit x ≡ false) = or_false (x == 45) (is_digit x) h in let u : is_digit x ≡ false = t.1 in rw u refl

    no_dash_there : (rest : List ℕ) → first_is (λ b. b == 45 || is_digit b) rest ≡ false → first_is (λ b. b == 45) rest ≡ false
    no_dash_there [] h = refl
    no_dash_there (x ∷ rest) h = (or_false (x == 45) (is_digit x) h).0

    d : first_is (λ b. b == 45) rest ≡ false
    d = no_dash_there rest e

    none : (s m : Option ℕ) (c : Option (ℕ × ℕ)) → (is_some s || is_some m || is_some c) ≡ true → s ≡ None → m ≡ None → c ≡ None → ⊥
    none s m c h a b d = let w : (is_some {T = ℕ} None || is_some {T = ℕ} None || is_some {T = ℕ × ℕ} None) ≡ true = rw (a, b, d) at h in absurd cc

-- what `may_follow` says of a byte that may not
may_parts : (d c m s nc nm ns : Bool) → (d || (c && nc) || (m && nc && nm) || (s && nc && nm && ns)) ≡ false
    → (d ≡ false) × (nc ≡ true → c ≡ false) × (nc ≡ true → nm ≡ true → m ≡ false) × (nc ≡ true → nm ≡ true → ns ≡ true → s ≡ false)
may_parts d c m s nc nm ns h =
    let t : ((d || (c && nc) || (m && nc && nm)) ≡ false) × ((s && nc && nm && ns) ≡ false) = or_false (d || (c && nc) || (m && nc && nm)) (s && nc && nm && ns) h in
    let u : ((d || (c && nc)) ≡ false) × ((m && nc && nm) ≡ false) = or_false (d || (c && nc)) (m && nc && nm) t.0 in
    let v : (d ≡ false) × ((c && nc) ≡ false) = or_false d (c && nc) u.0 in (
      v.0,
      λ a. and_left c nc v.1 a,
      λ a b. and_left m nc (and_left (m && nc) nm u.1 b) a,
      λ a b e. and_left s nc (and_left (s && nc) nm (and_left (s && nc && nm) ns t.1 e) b) a,
    )

-- after a dash stands none of the bytes that may stand there
stops_at_dash : (key : Parts) (more : List ℕ) → first_is (may_follow (Fields key)) more ≡ false → Stops key (45 ∷ more) × (begins 45 45 (45 ∷ more) ≡ false)
stops_at_dash key [] h = (record { digits = refl; backend = λ a b c. refl; size = λ a b c. refl; mtime = λ a b. refl; chunk = λ a. refl }, refl)
stops_at_dash key (x ∷ more) h = (
  record {
    digits = refl;
    backend = λ a b c. refl;
    size = λ a b c. t.3 (none_chunk c) (none_field key.mtime b) (none_field key.size a);
    mtime = λ a b. t.2 (none_chunk b) (none_field key.mtime a);
    chunk = λ a. t.1 (none_chunk a);
  },
  t.0,
)
  where
    t : ((x == 45) ≡ false) × (not (is_some key.chunk) ≡ true → (x == 83) ≡ false)
        × (not (is_some key.chunk) ≡ true → not (is_some key.mtime) ≡ true → (x == 109) ≡ false)
        × (not (is_some key.chunk) ≡ true → not (is_some key.mtime) ≡ true → not (is_some key.size) ≡ true → (x == 115) ≡ false)
    t = may_parts (x == 45) (x == 83) (x == 109) (x == 115) (not (is_some key.chunk)) (not (is_some key.mtime)) (not (is_some key.size)) h

    none_chunk : key.chunk ≡ None → not (is_some key.chunk) ≡ true
    none_chunk e = rw e refl

    none_field : (o : Option ℕ) → o ≡ None → not (is_some o) ≡ true
    none_field o e = rw e refl

-- after -S and a chunk size the number of the chunk is read
sized_scan : (text rest : List ℕ) (key : Parts) (s : IsSizedFront text key) → prefix_len is_digit rest ≡ 0
    → key_reading (text ++ rest) ≡ named key.backend key.size key.mtime (chunk_after (Some (s.size, rest)))
sized_scan text rest key s d =
    ap key_reading (ap (λ (x : List ℕ). x ++ rest) s.whole ∙ append_assoc s.front (45 ∷ 83 ∷ s.digits) rest)
    ∙ chunk_read s.front (45 ∷ 83 ∷ (s.digits ++ rest)) key s.is_front s.no_chunk refl (λ e. refl) (λ e f. refl) (λ e f. refl)
    ∙ ap (λ (x : Option (ℕ × List ℕ)). named key.backend key.size key.mtime (chunk_after x)) (number_read s.size s.digits rest s.numeral d)

no_chunk_number : (key : Parts) (size : ℕ) (rest : List ℕ) → begins 45 67 rest ≡ false → named key.backend key.size key.mtime (chunk_after (Some (size, rest))) ≡ None
no_chunk_number key size rest e = rw e refl

field_error : (bytes : List ℕ) (at : ℕ) → IsBadField bytes at → key_reading bytes ≡ None
field_error bytes at h = ap key_reading h.whole ∙ by_begun h.begun h.is_begun h.stop
  where
    no_digit : (rest : List ℕ) → first_is (λ b. b == 45 || is_digit b) rest ≡ false → prefix_len is_digit rest ≡ 0
    no_digit [] e = refl
    no_digit (x ∷ rest) e = let t : ((x == 45) ≡ false) × (is_digit x ≡ false) = or_false (x == 45) (is_digit x) e in let u : is_digit x ≡ false = t.1 in rw u refl

    no_dash_there : (rest : List ℕ) → first_is (λ b. b == 45 || is_digit b) rest ≡ false → first_is (λ b. b == 45) rest ≡ false
    no_dash_there [] e = refl
    no_dash_there (x ∷ rest) e = (or_false (x == 45) (is_digit x) e).0

    by_begun : (begun : Begun) → IsBegun h.front begun
        → ((ends_in_number begun ≡ true) × (at ≡ length h.front) × (not (first_is (λ b. b == 45 || is_digit b) h.rest) ≡ true))
        ⊎ ((more : List ℕ) × (h.rest ≡ 45 ∷ more) × (at ≡ length h.front + 1) × (not (first_is (may_follow begun) more) ≡ true))
        → key_reading (h.front ++ h.rest) ≡ None
    by_begun (Fields key) s (inl t) =
        let e : first_is (λ b. b == 45 || is_digit b) h.rest ≡ false = not_true (first_is (λ b. b == 45 || is_digit b) h.rest) t.2 in
        front_scan h.front h.rest key s (stops_after key h.rest t.0 e)
        ∙ no_dashes key.backend key.size key.mtime key.chunk h.rest (no_dash 45 h.rest (no_dash_there h.rest e))
    by_begun (Fields key) s (inr (more, is, place, bad)) =
        let u : Stops key (45 ∷ more) × (begins 45 45 (45 ∷ more) ≡ false) = stops_at_dash key more (not_true (first_is (may_follow (Fields key)) more) bad) in
        ap (λ (x : List ℕ). key_reading (h.front ++ x)) is ∙ front_scan h.front (45 ∷ more) key s u.0
        ∙ no_dashes key.backend key.size key.mtime key.chunk (45 ∷ more) u.1
    by_begun (ChunkSize key) s (inl t) =
        let e : first_is (λ b. b == 45 || is_digit b) h.rest ≡ false = not_true (first_is (λ b. b == 45 || is_digit b) h.rest) t.2 in
        sized_scan h.front h.rest key s (no_digit h.rest e) ∙ no_chunk_number key s.size h.rest (no_dash 67 h.rest (no_dash_there h.rest e))
    by_begun (ChunkSize key) s (inr (more, is, place, bad)) =
        let e : first_is (may_follow (ChunkSize key)) more ≡ false = not_true (first_is (may_follow (ChunkSize key)) more) bad in
        ap (λ (x : List ℕ). key_reading (h.front ++ x)) is ∙ sized_scan h.front (45 ∷ more) key s refl
        ∙ no_chunk_number key s.size (45 ∷ more) (no_second 67 more e)

-- the letter that stands where `may_follow` lets it
abbrev Choice : Parts → ℕ → Type 0
Choice key letter =
    ((letter ≡ 83) × (key.chunk ≡ None))
    ⊎ (((letter ≡ 109) × (key.chunk ≡ None) × (key.mtime ≡ None))
    ⊎ ((letter ≡ 115) × (key.chunk ≡ None) × (key.mtime ≡ None) × (key.size ≡ None)))

chosen : (key : Parts) (letter : ℕ) → (not (letter == 45) && may_follow (Fields key) letter) ≡ true → Choice key letter
chosen key letter h = first (or_true (D || (C && nc) || (M && nc && nm)) (S && nc && nm && ns) t.1)
  where
    D : Bool
    D = letter == 45

    C : Bool
    C = letter == 83

    M : Bool
    M = letter == 109

    S : Bool
    S = letter == 115

    nc : Bool
    nc = not (is_some key.chunk)

    nm : Bool
    nm = not (is_some key.mtime)

    ns : Bool
    ns = not (is_some key.size)

    t : (not (letter == 45) ≡ true) × ((D || (C && nc) || (M && nc && nm) || (S && nc && nm && ns)) ≡ true)
    t = both (not (letter == 45)) (D || (C && nc) || (M && nc && nm) || (S && nc && nm && ns)) h

    third : (D ≡ true) ⊎ ((C && nc) ≡ true) → Choice key letter
    third (inl e) = let d : not (letter == 45) ≡ true = t.0 in let f : (letter == 45) ≡ true = e in let w : not true ≡ true = rw f at d in absurd cc
    third (inr e) = let u : (C ≡ true) × (nc ≡ true) = both C nc e in inl (eqb-true letter 83 u.0, no_error key.chunk u.1)

    second : ((D || (C && nc)) ≡ true) ⊎ ((M && nc && nm) ≡ true) → Choice key letter
    second (inl e) = third (or_true D (C && nc) e)
    second (inr e) =
        let u : ((M && nc) ≡ true) × (nm ≡ true) = both (M && nc) nm e in
        let v : (M ≡ true) × (nc ≡ true) = both M nc u.0 in
        inr (inl (eqb-true letter 109 v.0, no_error key.chunk v.1, no_field key.mtime u.1))

    first : ((D || (C && nc) || (M && nc && nm)) ≡ true) ⊎ ((S && nc && nm && ns) ≡ true) → Choice key letter
    first (inl e) = second (or_true (D || (C && nc)) (M && nc && nm) e)
    first (inr e) =
        let u : ((S && nc && nm) ≡ true) × (ns ≡ true) = both (S && nc && nm) ns e in
        let v : ((S && nc) ≡ true) × (nm ≡ true) = both (S && nc) nm u.0 in
        let w : (S ≡ true) × (nc ≡ true) = both S nc v.0 in
        inr (inr (eqb-true letter 115 w.0, no_error key.chunk w.1, no_field key.mtime v.1, no_field key.size u.1))

pub empty_field : (letter : ℕ) (o : Option ℕ) (text : List ℕ) → o ≡ None → IsField letter o text → text ≡ []
empty_field letter None text e f = f
empty_field letter (Some n) text e f = absurd cc

bad_chunk : (front rest : List ℕ) (key : Parts) → IsFront front key → key.chunk ≡ None → is_number_of 83 rest ≡ false → key_reading (front ++ 45 ∷ 83 ∷ rest) ≡ None
bad_chunk front rest key s none bad =
    chunk_read front (45 ∷ 83 ∷ rest) key s none refl (λ e. refl) (λ e f. refl) (λ e f. refl) ∙ ap (named key.backend key.size key.mtime) (bad_size rest bad)

bad_mtime : (front rest : List ℕ) (key : Parts) → IsFront front key → key.chunk ≡ None → key.mtime ≡ None → is_number_of 109 rest ≡ false → key_reading (front ++ 45 ∷ 109 ∷ rest) ≡ None
bad_mtime front rest key s no_chunk no_mtime bad =
    let R : List ℕ = 45 ∷ 109 ∷ rest in
    ap key_reading (front_text front R key s
    ∙ ap (λ (x : List ℕ). key.backend ++ (s.size ++ (s.mtime ++ (x ++ R)))) (empty_chunk key.chunk s.chunk no_chunk s.chunk_field)
    ∙ ap (λ (x : List ℕ). key.backend ++ (s.size ++ (x ++ R))) (empty_field 109 key.mtime s.mtime no_mtime s.mtime_field))
    ∙ size_read key.backend s.size R key.size s.backend_class s.size_field refl (λ e. refl) (λ e. refl)
    ∙ ap (λ (x : Option (ℕ × List ℕ)). timed key.backend key.size (some_of x)) (bad_run 109 rest refl bad)

bad_field_size : (front rest : List ℕ) (key : Parts) → IsFront front key → key.chunk ≡ None → key.mtime ≡ None → key.size ≡ None → is_number_of 115 rest ≡ false
    → key_reading (front ++ 45 ∷ 115 ∷ rest) ≡ None
bad_field_size front rest key s no_chunk no_mtime no_size bad =
    let R : List ℕ = 45 ∷ 115 ∷ rest in
    ap key_reading (front_text front R key s
    ∙ ap (λ (x : List ℕ). key.backend ++ (s.size ++ (s.mtime ++ (x ++ R)))) (empty_chunk key.chunk s.chunk no_chunk s.chunk_field)
    ∙ ap (λ (x : List ℕ). key.backend ++ (s.size ++ (x ++ R))) (empty_field 109 key.mtime s.mtime no_mtime s.mtime_field)
    ∙ ap (λ (x : List ℕ). key.backend ++ (x ++ R)) (empty_field 115 key.size s.size no_size s.size_field))
    ∙ backend_read key.backend R s.backend_class refl
    ∙ ap (λ (x : Option (ℕ × List ℕ)). sized key.backend (some_of x)) (bad_run 115 rest refl bad)

number_error : (bytes : List ℕ) (at : ℕ) → IsBadNumber bytes at → key_reading bytes ≡ None
number_error bytes at h = ap key_reading h.whole ∙ by_begun h.begun h.is_begun h.is_letter
  where
    bad : is_number_of h.letter h.rest ≡ false
    bad = not_true (is_number_of h.letter h.rest) h.no_number

    bad_at : (l : ℕ) → h.letter ≡ l → is_number_of l h.rest ≡ false
    bad_at l e = subst (λ (x : ℕ). is_number_of x h.rest ≡ false) e bad

    text : (l : ℕ) → h.letter ≡ l → key_reading (h.front ++ 45 ∷ h.letter ∷ h.rest) ≡ key_reading (h.front ++ 45 ∷ l ∷ h.rest)
    text l e = ap (λ (x : ℕ). key_reading (h.front ++ 45 ∷ x ∷ h.rest)) e

    by_letter : (key : Parts) → IsFront h.front key → Choice key h.letter → key_reading (h.front ++ 45 ∷ h.letter ∷ h.rest) ≡ None
    by_letter key s (inl t) = text 83 t.0 ∙ bad_chunk h.front h.rest key s t.1 (bad_at 83 t.0)
    by_letter key s (inr (inl t)) = text 109 t.0 ∙ bad_mtime h.front h.rest key s t.1 t.2 (bad_at 109 t.0)
    by_letter key s (inr (inr t)) = text 115 t.0 ∙ bad_field_size h.front h.rest key s t.1 t.2 t.3 (bad_at 115 t.0)

    by_begun : (begun : Begun) → IsBegun h.front begun → (not (h.letter == 45) && may_follow begun h.letter) ≡ true → key_reading (h.front ++ 45 ∷ h.letter ∷ h.rest) ≡ None
    by_begun (Fields key) s l = by_letter key s (chosen key h.letter l)
    by_begun (ChunkSize key) s l =
        let e : h.letter ≡ 67 = eqb-true h.letter 67 (both (not (h.letter == 45)) (h.letter == 67) l).1 in
        text 67 e ∙ sized_scan h.front (45 ∷ 67 ∷ h.rest) key s refl ∙ ap (named key.backend key.size key.mtime) (bad_number s.size h.rest (bad_at 67 e))

name_error : (bytes : List ℕ) (at : ℕ) → IsBadName bytes at → key_reading bytes ≡ None
name_error bytes at h =
    ap key_reading h.whole
    ∙ front_scan h.front (45 ∷ 45 ∷ h.name) h.key h.is_front record { digits = refl; backend = λ a b c. refl; size = λ a b c. refl; mtime = λ a b. refl; chunk = λ a. refl }
    ∙ (let e : is_name h.name ≡ false = not_true (is_name h.name) h.no_name in rw e refl)

pub error_reading : (bytes : List ℕ) (e : KeyError) → IsError bytes e → key_reading bytes ≡ None
error_reading bytes (Backend at) h = backend_error bytes at h
error_reading bytes (Field at) h = field_error bytes at h
error_reading bytes (Number at) h = number_error bytes at h
error_reading bytes (Name at) h = name_error bytes at h
