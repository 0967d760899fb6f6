-- What the scan has read before a place, and what stops it there.
use Rattle.std.proofs.Common.{◌≡◌, ℕ, ◌+◌, ◌≤◌, suc, List, [], ◌∷◌, ◌++◌, length, take, drop, refl, sym, ap, subst, ◌∙◌, Bool, true, false, not, cond, Ok, Err, Some, None, Option, append_assoc, arith, inl, inr}
use Rattle.std.specs.Prelude.{◌==◌, ◌&&◌, ◌||◌, nat_lt, is_some, ◌⊎◌}
use Rattle.std.specs.List.{list_all, prefix_len}
use Rattle.std.proofs.lemmas.List.{take-append-drop, drop-drop, append_cancel_right, length-take-le}
use Rattle.std.proofs.lemmas.Bool.{eqb-true}
use Rattle.std.proofs.lemmas.List.Folds.{length-prefix_len}
use Rattle.ann_key.specs.Numbers.{is_digit, value_of, is_numeral, IsNumeral}
use Rattle.ann_key.specs.Keys.{Parts, is_backend_byte, is_backend, is_name, IsField, begins, number_at, some_of, field_at, chunk_of, chunk_after, chunk_at, key_reading}
use Rattle.ann_key.specs.KeyErrors.{first_is, Begun, Fields, ChunkSize, IsFront, IsBegun, may_follow, ends_in_number, is_number_of, IsError}
use Rattle.ann_key.specs.Scans.{BackendScan, NumberScan, FieldScan, ChunkNumberScan, ChunkScan, NameStop, stop_place}
use Rattle.ann_key.specs.declared.error.KeyError.{KeyError}
use Rattle.ann_key.specs.declared.error.KeyError.TheVariants.{Field, Number, Name}
use Rattle.ann_key.proofs.Spelling.{begins_split, prefix_passes, number_spelled, field_spelled, chunk_spelled, ChunkSpelled, read_of_spelled}
use Rattle.ann_key.proofs.Chunks.{front_is}
use Rattle.ann_key.proofs.Scans.{positive}
use Rattle.ann_key.proofs.Options.{no_pair as none_chunk, no_number as none_is}

-- ---- fronts

abbrev parts : List ℕ → ℕ → Option ℕ → Option ℕ → Option (ℕ × ℕ) → List ℕ → Parts
parts bytes n size mtime chunk name = record { backend = take n bytes; size = size; mtime = mtime; chunk = chunk; name = name }

-- the bytes before the place are a front, whatever name follows
pub record FrontAt (bytes : List ℕ) (n at : ℕ) (size mtime : Option ℕ) (chunk : Option (ℕ × ℕ)) : Type 0 where
  pub within : at ≤ length bytes
  pub front : (name : List ℕ) → is_name name ≡ true → IsFront (take at bytes) (parts bytes n size mtime chunk name)

cut : (bytes text : List ℕ) (at end : ℕ) → drop at bytes ≡ text ++ drop end bytes → take end bytes ≡ take at bytes ++ text
cut bytes text at end h =
    append_cancel_right (take end bytes) (take at bytes ++ text) (drop end bytes)
    (take-append-drop end bytes ∙ sym (take-append-drop at bytes) ∙ ap (λ (x : List ℕ). take at bytes ++ x) h ∙ sym (append_assoc (take at bytes) text (drop end bytes)))

pub backend_front : (bytes : List ℕ) (n : ℕ) → BackendScan bytes (Ok n) → FrontAt bytes n n None None None
backend_front bytes n h = record {
  within = h.2;
  front = λ name c. record { size = []; mtime = []; chunk = []; whole = refl; backend_class = class; size_field = refl; mtime_field = refl; chunk_field = refl; name_class = c };
}
  where
    class : is_backend (take n bytes) ≡ true
    class =
        let len : length (take n bytes) ≡ n = ap (λ (k : ℕ). length (take k bytes)) h.0 ∙ length-prefix_len is_backend_byte bytes ∙ sym h.0 in
        let long : nat_lt 0 (length (take n bytes)) ≡ true = rw len h.1 in
        let passes : list_all is_backend_byte (take n bytes) ≡ true =
        ap (λ (k : ℕ). list_all is_backend_byte (take k bytes)) h.0 ∙ prefix_passes is_backend_byte bytes in
        rw (long, passes) refl

pub size_front : (bytes : List ℕ) (n end : ℕ) (size : Option ℕ) → FrontAt bytes n n None None None → FieldScan bytes n 115 (Ok (size, end)) → FrontAt bytes n end size None None
size_front bytes n end size f h = record { within = h.1; front = front }
  where
    s : (text : List ℕ) × (drop n bytes ≡ text ++ drop end bytes) × IsField 115 size text
    s = field_spelled 115 (drop n bytes) size (drop end bytes) h.0

    front : (name : List ℕ) → is_name name ≡ true → IsFront (take end bytes) (parts bytes n size None None name)
    front name c = let k : IsFront (take n bytes) (parts bytes n None None None name) = f.front name c in record {
      size = s.0;
      mtime = [];
      chunk = [];
      whole = ap (λ (x : List ℕ). x ++ 45 ∷ 45 ∷ name) (cut bytes s.0 n end s.1) ∙ append_assoc (take n bytes) s.0 (45 ∷ 45 ∷ name);
      backend_class = k.backend_class;
      size_field = s.2;
      mtime_field = refl;
      chunk_field = refl;
      name_class = c;
    }

pub mtime_front : (bytes : List ℕ) (n at end : ℕ) (size mtime : Option ℕ) → FrontAt bytes n at size None None → FieldScan bytes at 109 (Ok (mtime, end)) → FrontAt bytes n end size mtime None
mtime_front bytes n at end size mtime f h = record { within = h.1; front = front }
  where
    m : (text : List ℕ) × (drop at bytes ≡ text ++ drop end bytes) × IsField 109 mtime text
    m = field_spelled 109 (drop at bytes) mtime (drop end bytes) h.0

    front : (name : List ℕ) → is_name name ≡ true → IsFront (take end bytes) (parts bytes n size mtime None name)
    front name c = let k : IsFront (take at bytes) (parts bytes n size None None name) = f.front name c in record {
      size = k.size;
      mtime = m.0;
      chunk = [];
      whole = whole k (45 ∷ 45 ∷ name);
      backend_class = k.backend_class;
      size_field = k.size_field;
      mtime_field = m.2;
      chunk_field = refl;
      name_class = c;
    }
      where
        whole : (k : IsFront (take at bytes) (parts bytes n size None None name)) (N : List ℕ) → take end bytes ++ N ≡ take n bytes ++ (k.size ++ (m.0 ++ N))
        whole k N =
            let no_mtime : k.mtime ≡ [] = k.mtime_field in
            let no_chunk : k.chunk ≡ [] = k.chunk_field in
            ap (λ (x : List ℕ). x ++ N) (cut bytes m.0 at end m.1 ∙ ap (λ (x : List ℕ). x ++ m.0) (front_is (take at bytes) (parts bytes n size None None name) k))
            ∙ rw (no_mtime, no_chunk) (simp append_assoc)

pub chunk_front : (bytes : List ℕ) (n at end : ℕ) (size mtime : Option ℕ) (chunk : Option (ℕ × ℕ)) → FrontAt bytes n at size mtime None → ChunkScan bytes at (Ok (chunk, end))
    → FrontAt bytes n end size mtime chunk
chunk_front bytes n at end size mtime chunk f h = record { within = h.1; front = front }
  where
    t : ChunkSpelled (drop at bytes) (chunk, drop end bytes)
    t = chunk_spelled (drop at bytes) chunk (drop end bytes) h.0

    front : (name : List ℕ) → is_name name ≡ true → IsFront (take end bytes) (parts bytes n size mtime chunk name)
    front name c = let k : IsFront (take at bytes) (parts bytes n size mtime None name) = f.front name c in record {
      size = k.size;
      mtime = k.mtime;
      chunk = t.0;
      whole = whole k (45 ∷ 45 ∷ name);
      backend_class = k.backend_class;
      size_field = k.size_field;
      mtime_field = k.mtime_field;
      chunk_field = t.2;
      name_class = c;
    }
      where
        whole : (k : IsFront (take at bytes) (parts bytes n size mtime None name)) (N : List ℕ) → take end bytes ++ N ≡ take n bytes ++ (k.size ++ (k.mtime ++ (t.0 ++ N)))
        whole k N =
            let no_chunk : k.chunk ≡ [] = k.chunk_field in
            ap (λ (x : List ℕ). x ++ N) (cut bytes t.0 at end t.1 ∙ ap (λ (x : List ℕ). x ++ t.0) (front_is (take at bytes) (parts bytes n size mtime None name) k))
            ∙ rw no_chunk (simp append_assoc)

-- ---- what stops the scan

-- two dashes or a letter after one
split_at : (bytes : List ℕ) (at letter : ℕ) → begins 45 letter (drop at bytes) ≡ true → bytes ≡ take at bytes ++ 45 ∷ letter ∷ drop (at + 2) bytes
split_at bytes at letter b =
    sym (take-append-drop at bytes)
    ∙ ap (λ (x : List ℕ). take at bytes ++ x) (begins_split 45 letter (drop at bytes) b ∙ ap (λ (x : List ℕ). 45 ∷ letter ∷ x) (drop-drop 2 at bytes))

pub number_stop : (bytes : List ℕ) (at letter : ℕ) (begun : Begun) → at ≤ length bytes → IsBegun (take at bytes) begun → begins 45 letter (drop at bytes) ≡ true
    → is_number_of letter (drop (at + 2) bytes) ≡ false → (not (letter == 45) && may_follow begun letter) ≡ true → IsError bytes (Number (at + 2))
number_stop bytes at letter begun w is b bad may = record {
  front = take at bytes;
  letter = letter;
  rest = drop (at + 2) bytes;
  begun = begun;
  whole = split_at bytes at letter b;
  is_begun = is;
  is_letter = may;
  place = ap (λ (k : ℕ). k + 2) (sym (length-take-le at bytes w));
  no_number = ap not bad;
}

-- a letter after which no number stands, of the size or of the time
pub field_stop : (bytes : List ℕ) (n at letter : ℕ) (size mtime : Option ℕ) (e : KeyError) → FrontAt bytes n at size mtime None → FieldScan bytes at letter (Err e)
    → (not (letter == 45) && may_follow (Fields (parts bytes n size mtime None (97 ∷ []))) letter) ≡ true → IsError bytes e
field_stop bytes n at letter size mtime e f h may =
    subst (IsError bytes) (sym h.2) (number_stop bytes at letter (Fields (parts bytes n size mtime None (97 ∷ []))) f.within (f.front (97 ∷ []) refl) h.0 h.1 may)

-- no dash, or none of what may follow it
byte_stop : (bytes : List ℕ) (at : ℕ) (begun : Begun) → at ≤ length bytes → IsBegun (take at bytes) begun
    → ((more : List ℕ) → drop at bytes ≡ 45 ∷ more → first_is (may_follow begun) more ≡ false)
    → (first_is (λ b. b == 45) (drop at bytes) ≡ false → (ends_in_number begun ≡ true) × (first_is is_digit (drop at bytes) ≡ false))
    → IsError bytes (Field (stop_place bytes at))
byte_stop bytes at begun w is dash none = go (first_is (λ b. b == 45) (drop at bytes)) refl
  where
    first_split : (rest : List ℕ) → first_is (λ b. b == 45) rest ≡ true → (more : List ℕ) × (rest ≡ 45 ∷ more)
    first_split [] e = absurd cc
    first_split (x ∷ rest) e = let is : x ≡ 45 = eqb-true x 45 e in (rest, ap (λ (b : ℕ). b ∷ rest) is)

    neither : (rest : List ℕ) → first_is (λ b. b == 45) rest ≡ false → first_is is_digit rest ≡ false → first_is (λ b. b == 45 || is_digit b) rest ≡ false
    neither [] d e = refl
    neither (x ∷ rest) d e = let f : is_digit x ≡ false = e in rw (d, f) refl

    len : at ≡ length (take at bytes)
    len = sym (length-take-le at bytes w)

    go : (b : Bool) → first_is (λ b. b == 45) (drop at bytes) ≡ b → IsError bytes (Field (cond b (at + 1) at))
    go true e = let t : (more : List ℕ) × (drop at bytes ≡ 45 ∷ more) = first_split (drop at bytes) e in record {
      front = take at bytes;
      rest = drop at bytes;
      begun = begun;
      whole = sym (take-append-drop at bytes);
      is_begun = is;
      stop = inr (t.0, t.1, ap (λ (k : ℕ). k + 1) len, ap not (dash t.0 t.1));
    }
    go false e = record {
      front = take at bytes;
      rest = drop at bytes;
      begun = begun;
      whole = sym (take-append-drop at bytes);
      is_begun = is;
      stop = inl ((none e).0, len, ap not (neither (drop at bytes) e (none e).1));
    }

-- ---- after a number stands no digit

after_prefix : (p : ℕ → Bool) (xs : List ℕ) → first_is p (drop (prefix_len p xs) xs) ≡ false
after_prefix p [] = refl
after_prefix p (x ∷ xs) = go (p x) refl (after_prefix p xs)
  where
    go : (b : Bool) → p x ≡ b → first_is p (drop (prefix_len p xs) xs) ≡ false → first_is p (drop (cond b (1 + prefix_len p xs) 0) (x ∷ xs)) ≡ false
    go true e r = let n : 1 + prefix_len p xs ≡ suc (prefix_len p xs) = omega arith in rw n r
    go false e r = e

number_ends : (bytes rest : List ℕ) (n : ℕ) → number_at bytes ≡ Some (n, rest) → first_is is_digit rest ≡ false
number_ends bytes rest n h = go (is_numeral run) h
  where
    run : List ℕ
    run = take (prefix_len is_digit bytes) bytes

    go : (b : Bool) → cond {A = Option (ℕ × List ℕ)} b (Some (value_of run, drop (prefix_len is_digit bytes) bytes)) None ≡ Some (n, rest) → first_is is_digit rest ≡ false
    go false h = absurd cc
    go true h =
        let p : ◌≡◌ {A = ℕ × List ℕ} (value_of run, drop (prefix_len is_digit bytes) bytes) (n, rest) = cc in
        ap (λ (q : ℕ × List ℕ). first_is is_digit q.1) (sym p) ∙ after_prefix is_digit bytes

-- a field that stands, and one that doesn't
present : (letter : ℕ) (bytes rest : List ℕ) (n : ℕ) → field_at letter bytes ≡ Some (Some n, rest) → first_is is_digit rest ≡ false
present letter bytes rest n h = go (begins 45 letter bytes) h
  where
    by_number : (x : Option (ℕ × List ℕ)) → number_at (drop 2 bytes) ≡ x → some_of x ≡ Some (Some n, rest) → first_is is_digit rest ≡ false
    by_number None e h = absurd cc
    by_number (Some (m, more)) e h =
        let p : ◌≡◌ {A = Option ℕ × List ℕ} (Some m, more) (Some n, rest) = cc in
        ap (λ (q : Option ℕ × List ℕ). first_is is_digit q.1) (sym p) ∙ number_ends (drop 2 bytes) more m e

    go : (b : Bool) → cond {A = Option (Option ℕ × List ℕ)} b (some_of (number_at (drop 2 bytes))) (Some (None, bytes)) ≡ Some (Some n, rest) → first_is is_digit rest ≡ false
    go true h = by_number (number_at (drop 2 bytes)) refl h
    go false h = let p : ◌≡◌ {A = Option ℕ × List ℕ} (None, bytes) (Some n, rest) = cc in let q : ◌≡◌ {A = Option ℕ} None (Some n) = ap (λ (q : Option ℕ × List ℕ). q.0) p in absurd cc

absent : (letter : ℕ) (bytes rest : List ℕ) → field_at letter bytes ≡ Some (None, rest) → (begins 45 letter bytes ≡ false) × (bytes ≡ rest)
absent letter bytes rest h = go (begins 45 letter bytes) refl h
  where
    by_number : (x : Option (ℕ × List ℕ)) → some_of x ≡ Some (None, rest) → (begins 45 letter bytes ≡ false) × (bytes ≡ rest)
    by_number None h = absurd cc
    by_number (Some (m, more)) h =
        let p : ◌≡◌ {A = Option ℕ × List ℕ} (Some m, more) (None, rest) = cc in
        let q : ◌≡◌ {A = Option ℕ} (Some m) None = ap (λ (q : Option ℕ × List ℕ). q.0) p in absurd cc

    go : (b : Bool) → begins 45 letter bytes ≡ b → cond {A = Option (Option ℕ × List ℕ)} b (some_of (number_at (drop 2 bytes))) (Some (None, bytes)) ≡ Some (None, rest)
        → (begins 45 letter bytes ≡ false) × (bytes ≡ rest)
    go true e h = by_number (number_at (drop 2 bytes)) h
    go false e h = let p : ◌≡◌ {A = Option ℕ × List ℕ} (None, bytes) (None, rest) = cc in (e, ap (λ (q : Option ℕ × List ℕ). q.1) p)

chunk_present : (bytes rest : List ℕ) (c : ℕ × ℕ) → chunk_at bytes ≡ Some (Some c, rest) → first_is is_digit rest ≡ false
chunk_present bytes rest c h = go (begins 45 83 bytes) h
  where
    by_second : (size : ℕ) (after : List ℕ) (x : Option (ℕ × List ℕ)) → number_at after ≡ x → chunk_of size x ≡ Some (Some c, rest) → first_is is_digit rest ≡ false
    by_second size after None e h = absurd cc
    by_second size after (Some (m, more)) e h = least (nat_lt 0 size && nat_lt 0 m) h
      where
        least : (b : Bool) → cond {A = Option (Option (ℕ × ℕ) × List ℕ)} b (Some (Some (size, m), more)) None ≡ Some (Some c, rest) → first_is is_digit rest ≡ false
        least true h =
            let p : ◌≡◌ {A = Option (ℕ × ℕ) × List ℕ} (Some (size, m), more) (Some c, rest) = cc in
            ap (λ (q : Option (ℕ × ℕ) × List ℕ). first_is is_digit q.1) (sym p) ∙ number_ends after more m e
        least false h = absurd cc

    by_first : (x : Option (ℕ × List ℕ)) → chunk_after x ≡ Some (Some c, rest) → first_is is_digit rest ≡ false
    by_first None h = absurd cc
    by_first (Some (size, after)) h = dash (begins 45 67 after) h
      where
        dash : (b : Bool) → cond b (chunk_of size (number_at (drop 2 after))) None ≡ Some (Some c, rest) → first_is is_digit rest ≡ false
        dash true h = by_second size (drop 2 after) (number_at (drop 2 after)) refl h
        dash false h = absurd cc

    go : (b : Bool) → cond {A = Option (Option (ℕ × ℕ) × List ℕ)} b (chunk_after (number_at (drop 2 bytes))) (Some (None, bytes)) ≡ Some (Some c, rest) → first_is is_digit rest ≡ false
    go true h = by_first (number_at (drop 2 bytes)) h
    go false h =
        let p : ◌≡◌ {A = Option (ℕ × ℕ) × List ℕ} (None, bytes) (Some c, rest) = cc in
        let q : ◌≡◌ {A = Option (ℕ × ℕ)} None (Some c) = ap (λ (q : Option (ℕ × ℕ) × List ℕ). q.0) p in absurd cc

chunk_absent : (bytes rest : List ℕ) → chunk_at bytes ≡ Some (None, rest) → (begins 45 83 bytes ≡ false) × (bytes ≡ rest)
chunk_absent bytes rest h = go (begins 45 83 bytes) refl h
  where
    by_second : (size : ℕ) (x : Option (ℕ × List ℕ)) → chunk_of size x ≡ Some (None, rest) → (begins 45 83 bytes ≡ false) × (bytes ≡ rest)
    by_second size None h = absurd cc
    by_second size (Some (m, more)) h = least (nat_lt 0 size && nat_lt 0 m) h
      where
        least : (b : Bool) → cond {A = Option (Option (ℕ × ℕ) × List ℕ)} b (Some (Some (size, m), more)) None ≡ Some (None, rest) → (begins 45 83 bytes ≡ false) × (bytes ≡ rest)
        least true h =
            let p : ◌≡◌ {A = Option (ℕ × ℕ) × List ℕ} (Some (size, m), more) (None, rest) = cc in
            let q : ◌≡◌ {A = Option (ℕ × ℕ)} (Some (size, m)) None = ap (λ (q : Option (ℕ × ℕ) × List ℕ). q.0) p in absurd cc
        least false h = absurd cc

    by_first : (x : Option (ℕ × List ℕ)) → chunk_after x ≡ Some (None, rest) → (begins 45 83 bytes ≡ false) × (bytes ≡ rest)
    by_first None h = absurd cc
    by_first (Some (size, after)) h = dash (begins 45 67 after) h
      where
        dash : (b : Bool) → cond b (chunk_of size (number_at (drop 2 after))) None ≡ Some (None, rest) → (begins 45 83 bytes ≡ false) × (bytes ≡ rest)
        dash true h = by_second size (number_at (drop 2 after)) h
        dash false h = absurd cc

    go : (b : Bool) → begins 45 83 bytes ≡ b → cond {A = Option (Option (ℕ × ℕ) × List ℕ)} b (chunk_after (number_at (drop 2 bytes))) (Some (None, bytes)) ≡ Some (None, rest)
        → (begins 45 83 bytes ≡ false) × (bytes ≡ rest)
    go true e h = by_first (number_at (drop 2 bytes)) h
    go false e h = let p : ◌≡◌ {A = Option (ℕ × ℕ) × List ℕ} (None, bytes) (None, rest) = cc in (e, ap (λ (q : Option (ℕ × ℕ) × List ℕ). q.1) p)

-- ---- the chunk

pub chunk_stop : (bytes : List ℕ) (n at : ℕ) (size mtime : Option ℕ) (e : KeyError) → FrontAt bytes n at size mtime None → ChunkScan bytes at (Err e) → IsError bytes e
chunk_stop bytes n at size mtime e f h = by_part h.1
  where
    key : Parts
    key = parts bytes n size mtime None (97 ∷ [])

    by_part : ((is_number_of 83 (drop (at + 2) bytes) ≡ false) × (e ≡ Number (at + 2)))
        ⊎ ((size : ℕ) × (end : ℕ) × NumberScan bytes (at + 2) 83 (Ok (size, end)) × ChunkNumberScan bytes end (Err e))
        → IsError bytes e
    by_part (inl t) =
        subst (IsError bytes) (sym t.1)
        (number_stop bytes at 83 (Fields (parts bytes n size mtime None (97 ∷ []))) f.within (f.front (97 ∷ []) refl) h.0 t.0 (may size mtime))
      where
        may : (s m : Option ℕ) → (not (83 == 45) && may_follow (Fields (parts bytes n s m None (97 ∷ []))) 83) ≡ true
        may s m = refl
    by_part (inr (size, end, number, stop)) = by_stop stop
      where
        s : (digits : List ℕ) × (drop (at + 2) bytes ≡ digits ++ drop end bytes) × IsNumeral size digits
        s = number_spelled (drop (at + 2) bytes) size (drop end bytes) number.0

        sized : IsBegun (take end bytes) (ChunkSize key)
        sized = record {
          front = take at bytes;
          digits = s.0;
          size = size;
          whole = cut bytes (45 ∷ 83 ∷ s.0) at end
              (begins_split 45 83 (drop at bytes) h.0 ∙ ap (λ (x : List ℕ). 45 ∷ 83 ∷ x) (drop-drop 2 at bytes ∙ s.1));
          is_front = f.front (97 ∷ []) refl;
          no_chunk = refl;
          numeral = s.2;
          positive = positive (drop (at + 2) bytes) (drop end bytes) size number.1 number.0;
        }

        no_letter : (more : List ℕ) → begins 45 67 (45 ∷ more) ≡ false → first_is (λ b. b == 67) more ≡ false
        no_letter [] e = refl
        no_letter (x ∷ more) e = e

        by_stop : ((begins 45 67 (drop end bytes) ≡ false) × (e ≡ Field (stop_place bytes end)))
            ⊎ ((begins 45 67 (drop end bytes) ≡ true) × (is_number_of 67 (drop (end + 2) bytes) ≡ false) × (e ≡ Number (end + 2)))
            → IsError bytes e
        by_stop (inl t) =
            subst (IsError bytes) (sym t.1)
            (byte_stop bytes end (ChunkSize key) number.2 sized
            (λ more is. no_letter more (ap (begins 45 67) (sym is) ∙ t.0))
            (λ d. (refl, number_ends (drop (at + 2) bytes) (drop end bytes) size number.0)))
        by_stop (inr t) = subst (IsError bytes) (sym t.2) (number_stop bytes end 67 (ChunkSize key) number.2 sized t.0 t.1 refl)

-- ---- the name

and_no : (a c : Bool) → (c ≡ true → a ≡ false) → (a && c) ≡ false
and_no a true h = let e : a ≡ false = h refl in rw e refl
and_no true false h = refl
and_no false false h = refl

none_of : (d c m s nc nm ns : Bool) → d ≡ false → (nc ≡ true → c ≡ false) → (nc ≡ true → nm ≡ true → m ≡ false) → (nc ≡ true → nm ≡ true → ns ≡ true → s ≡ false)
    → (d || (c && nc) || (m && nc && nm) || (s && nc && nm && ns)) ≡ false
none_of d c m s nc nm ns hd hc hm hs =
    let ec : (c && nc) ≡ false = and_no c nc hc in
    let em : (m && nc && nm) ≡ false = and_no (m && nc) nm (λ a. and_no m nc (λ b. hm b a)) in
    let es : (s && nc && nm && ns) ≡ false = and_no (s && nc && nm) ns (λ x. and_no (s && nc) nm (λ a. and_no s nc (λ b. hs b a x))) in
    rw (hd, ec, em, es) refl

-- the texts of the fields that were read, each after the last
pub record Fielded (r0 r1 r2 r3 : List ℕ) (size mtime : Option ℕ) (chunk : Option (ℕ × ℕ)) : Type 0 where
  pub size_is : field_at 115 r0 ≡ Some (size, r1)
  pub mtime_is : field_at 109 r1 ≡ Some (mtime, r2)
  pub chunk_is : chunk_at r2 ≡ Some (chunk, r3)

-- none of the letters that may follow stands after the dash
nothing_follows : (r0 r1 r2 more : List ℕ) (size mtime : Option ℕ) (chunk : Option (ℕ × ℕ)) (backend name : List ℕ) → Fielded r0 r1 r2 (45 ∷ more) size mtime chunk
    → begins 45 45 (45 ∷ more) ≡ false → first_is (may_follow (Fields record { backend = backend; size = size; mtime = mtime; chunk = chunk; name = name })) more ≡ false
nothing_follows r0 r1 r2 [] size mtime chunk backend name f d = refl
nothing_follows r0 r1 r2 (x ∷ more) size mtime chunk backend name f d =
    none_of (x == 45) (x == 83) (x == 109) (x == 115) (not (is_some chunk)) (not (is_some mtime)) (not (is_some size)) d no_chunk no_mtime no_size
  where
    D : List ℕ
    D = 45 ∷ x ∷ more

    c : not (is_some chunk) ≡ true → (begins 45 83 r2 ≡ false) × (r2 ≡ D)
    c e = chunk_absent r2 D (f.chunk_is ∙ ap (λ (o : Option (ℕ × ℕ)). let p : Option (Option (ℕ × ℕ) × List ℕ) = Some (o, D) in p) (none_chunk chunk e))

    m : not (is_some mtime) ≡ true → (begins 45 109 r1 ≡ false) × (r1 ≡ r2)
    m e = absent 109 r1 r2 (f.mtime_is ∙ ap (λ (o : Option ℕ). let p : Option (Option ℕ × List ℕ) = Some (o, r2) in p) (none_is mtime e))

    s : not (is_some size) ≡ true → (begins 45 115 r0 ≡ false) × (r0 ≡ r1)
    s e = absent 115 r0 r1 (f.size_is ∙ ap (λ (o : Option ℕ). let p : Option (Option ℕ × List ℕ) = Some (o, r1) in p) (none_is size e))

    no_chunk : not (is_some chunk) ≡ true → (x == 83) ≡ false
    no_chunk e = ap (begins 45 83) (sym (c e).1) ∙ (c e).0

    no_mtime : not (is_some chunk) ≡ true → not (is_some mtime) ≡ true → (x == 109) ≡ false
    no_mtime e g = ap (begins 45 109) (sym ((m g).1 ∙ (c e).1)) ∙ (m g).0

    no_size : not (is_some chunk) ≡ true → not (is_some mtime) ≡ true → not (is_some size) ≡ true → (x == 115) ≡ false
    no_size e g h = ap (begins 45 115) (sym ((s h).1 ∙ (m g).1 ∙ (c e).1)) ∙ (s h).0

-- where no dash stands a number has been read, and it has ended
number_before : (r0 r1 r2 r3 : List ℕ) (size mtime : Option ℕ) (chunk : Option (ℕ × ℕ)) → Fielded r0 r1 r2 r3 size mtime chunk
    → first_is (λ b. b == 45) r0 ≡ true → first_is (λ b. b == 45) r3 ≡ false
    → ((is_some size || is_some mtime || is_some chunk) ≡ true) × (first_is is_digit r3 ≡ false)
number_before r0 r1 r2 r3 size mtime (Some c) f a b = (any (is_some size || is_some mtime), chunk_present r2 r3 c f.chunk_is)
  where
    any : (x : Bool) → (x || true) ≡ true
    any true = refl
    any false = refl
number_before r0 r1 r2 r3 size (Some n) None f a b =
    let e : r2 ≡ r3 = (chunk_absent r2 r3 f.chunk_is).1 in
    (any (is_some size), ap (first_is is_digit) (sym e) ∙ present 109 r1 r2 n f.mtime_is)
  where
    any : (x : Bool) → (x || true || false) ≡ true
    any true = refl
    any false = refl
number_before r0 r1 r2 r3 (Some n) None None f a b =
    let e : r1 ≡ r3 = (absent 109 r1 r2 f.mtime_is).1 ∙ (chunk_absent r2 r3 f.chunk_is).1 in
    (refl, ap (first_is is_digit) (sym e) ∙ present 115 r0 r1 n f.size_is)
number_before r0 r1 r2 r3 None None None f a b =
    let e : r0 ≡ r3 = (absent 115 r0 r1 f.size_is).1 ∙ (absent 109 r1 r2 f.mtime_is).1 ∙ (chunk_absent r2 r3 f.chunk_is).1 in
    let t : first_is (λ b. b == 45) r3 ≡ true = ap (first_is (λ b. b == 45)) (sym e) ∙ a in
    absurd cc

-- all that stands before the name
pub record Before (bytes : List ℕ) (n a1 a2 a3 : ℕ) (size mtime : Option ℕ) (chunk : Option (ℕ × ℕ)) : Type 0 where
  pub backend : BackendScan bytes (Ok n)
  pub size_scan : FieldScan bytes n 115 (Ok (size, a1))
  pub mtime_scan : FieldScan bytes a1 109 (Ok (mtime, a2))
  pub chunk_scan : ChunkScan bytes a2 (Ok (chunk, a3))

pub name_stop : (bytes : List ℕ) (n a1 a2 a3 : ℕ) (size mtime : Option ℕ) (chunk : Option (ℕ × ℕ)) (e : KeyError) → Before bytes n a1 a2 a3 size mtime chunk
    → NameStop bytes a3 e → IsError bytes e
name_stop bytes n a1 a2 a3 size mtime chunk e b h = go h
  where
    key : Parts
    key = parts bytes n size mtime chunk (97 ∷ [])

    f : FrontAt bytes n a3 size mtime chunk
    f = chunk_front bytes n a2 a3 size mtime chunk (mtime_front bytes n a1 a2 size mtime (size_front bytes n a1 size (backend_front bytes n b.backend) b.size_scan) b.mtime_scan) b.chunk_scan

    fields : Fielded (drop n bytes) (drop a1 bytes) (drop a2 bytes) (drop a3 bytes) size mtime chunk
    fields = record { size_is = b.size_scan.0; mtime_is = b.mtime_scan.0; chunk_is = b.chunk_scan.0 }

    go : ((begins 45 45 (drop a3 bytes) ≡ false) × (e ≡ Field (stop_place bytes a3)))
        ⊎ ((begins 45 45 (drop a3 bytes) ≡ true) × (is_name (drop (a3 + 2) bytes) ≡ false)
        × (e ≡ Name (a3 + 2 + prefix_len (λ b. not (b == 10)) (drop (a3 + 2) bytes)))) → IsError bytes e
    go (inl t) =
        subst (IsError bytes) (sym t.1)
        (byte_stop bytes a3 (Fields (parts bytes n size mtime chunk (97 ∷ []))) f.within (f.front (97 ∷ []) refl)
        (λ more is. nothing_follows (drop n bytes) (drop a1 bytes) (drop a2 bytes) more size mtime chunk (take n bytes) (97 ∷ [])
        (subst (λ (x : List ℕ). Fielded (drop n bytes) (drop a1 bytes) (drop a2 bytes) x size mtime chunk) is fields)
        (ap (begins 45 45) (sym is) ∙ t.0))
        (λ d. number_before (drop n bytes) (drop a1 bytes) (drop a2 bytes) (drop a3 bytes) size mtime chunk fields b.backend.3 d))
    go (inr t) = subst (IsError bytes) (sym t.2) record {
      front = take a3 bytes;
      name = drop (a3 + 2) bytes;
      key = parts bytes n size mtime chunk (97 ∷ []);
      whole = split_at bytes a3 45 t.0;
      is_front = f.front (97 ∷ []) refl;
      no_name = ap not t.1;
      place = ap (λ (k : ℕ). k + 2 + prefix_len (λ b. not (b == 10)) (drop (a3 + 2) bytes)) (sym (length-take-le a3 bytes f.within));
    }

-- ---- the key that was read

pub reading_before : (bytes : List ℕ) (n a1 a2 a3 : ℕ) (size mtime : Option ℕ) (chunk : Option (ℕ × ℕ)) → Before bytes n a1 a2 a3 size mtime chunk
    → begins 45 45 (drop a3 bytes) ≡ true → is_name (drop (a3 + 2) bytes) ≡ true
    → key_reading bytes ≡ Some (parts bytes n size mtime chunk (drop (a3 + 2) bytes))
reading_before bytes n a1 a2 a3 size mtime chunk b d c =
    let name : drop 2 (drop a3 bytes) ≡ drop (a3 + 2) bytes = drop-drop 2 a3 bytes in
    rw (← b.backend.0, b.backend.1, b.size_scan.0, b.mtime_scan.0, b.chunk_scan.0, d, name, c) refl

pub tail_before : (bytes : List ℕ) (at : ℕ) → begins 45 45 (drop at bytes) ≡ true → drop at bytes ≡ 45 ∷ 45 ∷ drop (at + 2) bytes
tail_before bytes at d = begins_split 45 45 (drop at bytes) d ∙ ap (λ (x : List ℕ). 45 ∷ 45 ∷ x) (drop-drop 2 at bytes)

pub outside_before : (bytes : List ℕ) (n a1 a2 a3 : ℕ) (size mtime : Option ℕ) (chunk : Option (ℕ × ℕ)) → Before bytes n a1 a2 a3 size mtime chunk
    → begins 45 45 (drop a3 bytes) ≡ true → is_name (drop (a3 + 2) bytes) ≡ true
    → key_reading (take a2 bytes ++ drop a3 bytes) ≡ Some (parts bytes n size mtime None (drop (a3 + 2) bytes))
outside_before bytes n a1 a2 a3 size mtime chunk b d c =
    let f : FrontAt bytes n a2 size mtime None =
    mtime_front bytes n a1 a2 size mtime (size_front bytes n a1 size (backend_front bytes n b.backend) b.size_scan) b.mtime_scan in
    ap (λ (x : List ℕ). key_reading (take a2 bytes ++ x)) (tail_before bytes a3 d)
    ∙ read_of_spelled (take a2 bytes ++ 45 ∷ 45 ∷ drop (a3 + 2) bytes) (parts bytes n size mtime None (drop (a3 + 2) bytes)) (f.front (drop (a3 + 2) bytes) c)
