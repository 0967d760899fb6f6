-- A mouth's half of a wire: what others leave of it, and how it goes on.
use Rattle.std.proofs.Common.{zero, suc, ◌≡◌, ℕ, ◌+◌, ◌<◌, ◌≤◌, List, [], ◌∷◌, ◌++◌, refl, sym, ap, subst, ◌∙◌, Bool, true, false, not, cond, None, Option, append_assoc, append-nil, length, take, drop, arith, length-append, length-drop}
use Rattle.std.specs.Prelude.{IfSome, ◌||◌, map, filter}
use Rattle.std.specs.Io.KnownBytes.{Appends}
use Rattle.std.proofs.lemmas.List.{take-append-le, map-append}
use Rattle.std.proofs.lemmas.List.Elements.{filter-append}
use Rattle.std.proofs.Math.Seq.{take-add}
use Rattle.annex_model.specs.Lines.{text}
use Rattle.journal_model.specs.declared.entry.What.{What}
use Rattle.journal_model.specs.declared.entry.What.TheVariants.{Sent, Mute}
use Rattle.journal_model.specs.declared.entry.Entry.{Entry}
use Rattle.journal_model.specs.Journal.{any, each_of, writes, sends, mutes, ends, is_ended, is_mute, unsent}
use Rattle.journal_model.specs.Wires.{Took, sent_lines, next_text}
use Rattle.journal_model.specs.Shares.{is_said}
use Rattle.journal_model.specs.Halves.{MouthValue, MouthWired}
use Rattle.journal_model.proofs.Looks.{each_of-append, any-append}
use Rattle.journal_model.proofs.Soft.{IsSoft}
use Rattle.journal_model.proofs.Linking.{sent_count, sent_count-append, mute_more as mute_same}
use Rattle.journal_model.proofs.Ears.{told_maps, told_grows}
use Rattle.ann_key.proofs.Numbers.{same_number as same}
use Rattle.ann_key.proofs.Booleans.{left_false as either_left, right_false as either_right, true_and_false as true_not_false}
use Rattle.annex_model.proofs.Across.{text-append}

abbrev pub Written : Type 0
Written = List (Option ℕ × List ℕ)

abbrev pub written : List Entry → ℕ → Written
written past c = each_of (writes c) past

abbrev texts : Written → List (List ℕ)
texts ws = map (λ w. w.1) ws

-- ---- what others leave

none_sent : (c : ℕ) (more : List Entry) → any (is_said c) more ≡ false → (filter (λ e. sends c e.what) more ≡ []) × (is_mute more c ≡ false)
none_sent c [] h = (refl, refl)
none_sent c (e ∷ more) h = step e.what (either_left (is_said c e.what) (any (is_said c) more) h) (none_sent c more (either_right (is_said c e.what) (any (is_said c) more) h))
  where
    step : (w : What) → is_said c w ≡ false → (filter (λ e. sends c e.what) more ≡ []) × (is_mute more c ≡ false)
        → (cond (sends c w) (record { by = e.by; what = w } ∷ filter (λ x. sends c x.what) more) (filter (λ x. sends c x.what) more) ≡ []) × ((mutes c w || is_mute more c) ≡ false)
    step (Sent child) h r = (rw h r.0, r.1)
    step (Mute child) h r = (r.0, rw h r.1)
    step w h r = r

-- what a stretch that covers nothing leaves of the lines
module _ (past more : List Entry) (c : ℕ) (none : sent_count more c ≡ 0) (covered : sent_count past c ≤ length (written past c)) where
  count_same : sent_count (past ++ more) c ≡ sent_count past c
  count_same = omega (arith, sent_count-append past more c, none)

  written_more : written (past ++ more) c ≡ written past c ++ written more c
  written_more = each_of-append (writes c) past more

  pub lines_same : sent_lines (past ++ more) c ≡ sent_lines past c
  lines_same =
      ap (λ (m : ℕ). texts (take m (written (past ++ more) c))) count_same
      ∙ ap (λ (x : Written). texts (take (sent_count past c) x)) written_more
      ∙ ap texts (take-append-le (sent_count past c) (written past c) (written more c) covered)

  pub unsent_more : unsent (past ++ more) c ≡ unsent past c ++ written more c
  unsent_more =
      ap (λ (m : ℕ). drop m (written (past ++ more) c)) count_same
      ∙ ap (drop (sent_count past c)) written_more
      ∙ drop_more (sent_count past c) (written past c) (written more c) covered
    where
      drop_more : (k : ℕ) (xs ys : Written) → k ≤ length xs → drop k (xs ++ ys) ≡ drop k xs ++ ys
      drop_more zero xs ys h = refl
      drop_more (suc k) [] ys h = absurd (omega (arith, h))
      drop_more (suc k) (x ∷ xs) ys h = drop_more k xs ys (omega (arith, h))

  pub covered_more : sent_count (past ++ more) c ≤ length (written (past ++ more) c)
  covered_more = omega (arith, count_same, ap (λ (x : Written). length x) written_more, length-append (written past c) (written more c), covered)

-- where no line is to be written, none is begun
abbrev begun_of : ℕ → Written → ℕ
begun_of n [] = 0
begun_of n (w ∷ ws) = n

begun_same : (n : ℕ) (ws more : Written) → take n (next_text ws) ≡ take (begun_of n ws) (next_text (ws ++ more))
begun_same n [] more = take-nil n
  where
    take-nil : (k : ℕ) → take k (let e : List ℕ = [] in e) ≡ []
    take-nil zero = refl
    take-nil (suc k) = refl
begun_same n (w ∷ ws) more = refl

begun_zero : (n : ℕ) (ws : Written) → n ≡ 0 → begun_of n ws ≡ 0
begun_zero n [] h = refl
begun_zero n (w ∷ ws) h = h

calm : (a b x y : Bool) → not ((a || x) || (b || y)) ≡ true → not (a || b) ≡ true
calm true b x y h = absurd cc
calm false true true y h = absurd cc
calm false true false y h = absurd cc
calm false false x y h = refl

took_on : (past more : List Entry) (c : ℕ) (t : List ℕ) → sent_count more c ≡ 0 → sent_count past c ≤ length (written past c) → Took past c t → Took (past ++ more) c t
took_on past more c t none covered k = record {
  begun = begun_of k.begun (unsent past c);
  bytes =
      k.bytes
      ∙ ap (λ (x : List ℕ). text (sent_lines past c) ++ x) (begun_same k.begun (unsent past c) (written more c))
      ∙ ap (λ (x : Written). text (sent_lines past c) ++ take (begun_of k.begun (unsent past c)) (next_text x)) (sym (unsent_more past more c none covered))
      ∙ ap (λ (x : List (List ℕ)). text x ++ take (begun_of k.begun (unsent past c)) (next_text (unsent (past ++ more) c))) (sym (lines_same past more c none covered));
  whole = λ h.
      begun_zero k.begun (unsent past c) (k.whole (calm (is_mute past c) (is_ended past c) (is_mute more c) (is_ended more c)
      (ap (λ (b : Bool). not (b || (is_ended past c || is_ended more c))) (sym (any-append (mutes c) past more))
      ∙ ap (λ (b : Bool). not (is_mute (past ++ more) c || b)) (sym (any-append (ends c) past more)) ∙ h)));
}

-- a stretch in which nothing is known of the child's input
pub mouth_apart : (past more : List Entry) (v : MouthValue) → any (is_said v.child) more ≡ false → MouthWired past v → MouthWired (past ++ more) v
mouth_apart past more v none h =
    let q = none_sent v.child more none in
    let zero : sent_count more v.child ≡ 0 = ap (λ (l : List Entry). length l) q.0 in
    record {
      covered = covered_more past more v.child zero h.covered;
      took = told_maps (Took past v.child) (Took (past ++ more) v.child) v.taken (λ t. took_on past more v.child t zero h.covered) h.took;
      fault = λ e. h.fault (sym (mute_same past more v.child q.1) ∙ e);
    }

-- ---- what it does itself

-- where the child is neither mute nor ended, nothing of the next line was taken
took_rest : (past : List Entry) (c : ℕ) (t : List ℕ) → Took past c t → is_mute past c ≡ false → is_ended past c ≡ false → t ≡ text (sent_lines past c)
took_rest past c t k m e =
    let zero : k.begun ≡ 0 = k.whole (rw (m, e) refl) in
    k.bytes ∙ ap (λ (n : ℕ). text (sent_lines past c) ++ take n (next_text (unsent past c))) zero ∙ append-nil (text (sent_lines past c))

-- the next line was written whole
took_sent : (past : List Entry) (by c : ℕ) (w : Option ℕ × List ℕ) (ws : Written) (t : List ℕ) → unsent past c ≡ w ∷ ws → t ≡ text (sent_lines past c)
    → Took (past ++ record { by = by; what = Sent c } ∷ []) c (t ++ (w.1 ++ 10 ∷ []))
took_sent past by c w ws t next e =
    let one : List Entry = record { by = by; what = Sent c } ∷ [] in
    let W = written past c in
    let S = sent_count past c in
    let w' : written (past ++ one) c ≡ W = each_of-append (writes c) past one ∙ append-nil W in
    let covers : sent_count one c ≡ 1 = rw (same c) refl in
    let n : sent_count (past ++ one) c ≡ S + 1 = omega (arith, sent_count-append past one c, covers) in
    let first : take (S + 1) W ≡ take S W ++ w ∷ [] = take-add S 1 W ∙ ap (λ (x : Written). take S W ++ take 1 x) next in
    let lines : sent_lines (past ++ one) c ≡ sent_lines past c ++ w.1 ∷ [] =
    ap (λ (m : ℕ). texts (take m (written (past ++ one) c))) n ∙ ap (λ (x : Written). texts (take (S + 1) x)) w' ∙ ap texts first
    ∙ map-append (λ (y : Option ℕ × List ℕ). y.1) (take S W) (w ∷ []) in
    record {
      begun = 0;
      bytes =
          ap (λ (x : List ℕ). x ++ (w.1 ++ 10 ∷ [])) e
          ∙ sym (text-append (sent_lines past c) (w.1 ∷ []))
          ∙ ap text (sym lines)
          ∙ sym (append-nil (text (sent_lines (past ++ one) c)));
      whole = λ h. refl;
    }

-- writing stopped in the next line
took_mute : (past due : List Entry) (by c n : ℕ) (w : Option ℕ × List ℕ) (ws : Written) (t : List ℕ) → IsSoft c due → unsent past c ≡ w ∷ ws → t ≡ text (sent_lines past c)
    → sent_count past c ≤ length (written past c)
    → Took (past ++ record { by = by; what = Mute c } ∷ due) c (t ++ take n (w.1 ++ 10 ∷ []))
took_mute past due by c n w ws t soft next e covered =
    let more : List Entry = record { by = by; what = Mute c } ∷ due in
    let zero : sent_count more c ≡ 0 = ap (λ (l : List Entry). length l) soft.sent in
    let lines = lines_same past more c zero covered in
    let rest : unsent (past ++ more) c ≡ w ∷ (ws ++ written more c) = unsent_more past more c zero covered ∙ ap (λ (x : Written). x ++ written more c) next in
    record {
      begun = n;
      bytes =
          ap (λ (x : List ℕ). x ++ take n (w.1 ++ 10 ∷ [])) e
          ∙ ap (λ (x : List (List ℕ)). text x ++ take n (w.1 ++ 10 ∷ [])) (sym lines)
          ∙ ap (λ (x : Written). text (sent_lines (past ++ more) c) ++ take n (next_text x)) (sym rest);
      whole = λ h.
          (let own : is_mute more c ≡ true = rw (same c) refl in
          let is : is_mute (past ++ more) c ≡ true = any-append (mutes c) past more ∙ ap (λ (b : Bool). is_mute past c || b) own ∙ or_true (is_mute past c) in
          let bad : not (true || is_ended (past ++ more) c) ≡ true = ap (λ (b : Bool). not (b || is_ended (past ++ more) c)) (sym is) ∙ h in
          absurd cc);
    }
  where
    or_true : (b : Bool) → (b || true) ≡ true
    or_true true = refl
    or_true false = refl

-- what stood before the line was written, where others went on while it was
pub record Stood (past : List Entry) (v : MouthValue) (w : Option ℕ × List ℕ) (ws : Written) : Type 0 where
  pub unsent : unsent past v.child ≡ w ∷ ws
  pub covered : sent_count past v.child ≤ length (written past v.child)
  pub took : IfSome v.taken (λ t. t ≡ text (sent_lines past v.child))
  pub loud : is_mute past v.child ≡ false

pub stood : (past more : List Entry) (v : MouthValue) (w : Option ℕ × List ℕ) (ws : Written) → any (is_said v.child) more ≡ false
    → is_ended past v.child ≡ false → is_mute past v.child ≡ false → unsent past v.child ≡ w ∷ ws → MouthWired past v → Stood (past ++ more) v w (ws ++ written more v.child)
stood past more v w ws none live loud next h =
    let c = v.child in
    let q = none_sent c more none in
    let zero : sent_count more c ≡ 0 = ap (λ (l : List Entry). length l) q.0 in
    record {
      unsent = unsent_more past more c zero h.covered ∙ ap (λ (x : Written). x ++ written more c) next;
      covered = covered_more past more c zero h.covered;
      took = told_maps (Took past c) (λ t. t ≡ text (sent_lines (past ++ more) c)) v.taken
          (λ t k. took_rest past c t k loud live ∙ ap text (sym (lines_same past more c zero h.covered))) h.took;
      loud = mute_same past more c q.1 ∙ loud;
    }

pub mouth_sent : (past : List Entry) (by : ℕ) (v v' : MouthValue) (w : Option ℕ × List ℕ) (ws : Written) → v' ≡ record v { taken = v'.taken; faults = v'.faults }
    → Appends v.taken v'.taken (w.1 ++ 10 ∷ []) → (v.taken ≡ None → v'.taken ≡ None) → Stood past v w ws → MouthWired (past ++ record { by = by; what = Sent v.child } ∷ []) v'
mouth_sent past by v v' w ws same' grows silent h =
    let c = v.child in
    let one : List Entry = record { by = by; what = Sent c } ∷ [] in
    let covers : sent_count one c ≡ 1 = rw (same c) refl in
    let w' : written (past ++ one) c ≡ written past c = each_of-append (writes c) past one ∙ append-nil (written past c) in
    subst (MouthWired (past ++ one)) (sym same') (record {
      covered = omega (arith, sent_count-append past one c, covers, ap (λ (x : Written). length x) w', length-drop (sent_count past c) (written past c), ap (λ (x : Written). length x) h.unsent, h.covered);
      took = told_grows (λ t. t ≡ text (sent_lines past c)) (Took (past ++ one) c) v.taken v'.taken (w.1 ++ 10 ∷ []) grows silent (λ t. took_sent past by c w ws t h.unsent) h.took;
      fault = λ e. true_not_false (is_mute (past ++ one) c) e (mute_same past one c refl ∙ h.loud);
    })

pub mouth_mute : (past due : List Entry) (by n : ℕ) (v v' : MouthValue) (w : Option ℕ × List ℕ) (ws : Written) → v' ≡ record v { taken = v'.taken; faults = v'.faults } → IsSoft v.child due
    → Appends v.taken v'.taken (take n (w.1 ++ 10 ∷ [])) → (v.taken ≡ None → v'.taken ≡ None) → 0 < v'.faults → Stood past v w ws
    → MouthWired (past ++ record { by = by; what = Mute v.child } ∷ due) v'
mouth_mute past due by n v v' w ws same' soft grows silent fault h =
    let c = v.child in
    let more : List Entry = record { by = by; what = Mute c } ∷ due in
    let zero : sent_count more c ≡ 0 = ap (λ (l : List Entry). length l) soft.sent in
    subst (MouthWired (past ++ more)) (sym same') (record {
      covered = covered_more past more c zero h.covered;
      took = told_grows (λ t. t ≡ text (sent_lines past c)) (Took (past ++ more) c) v.taken v'.taken (take n (w.1 ++ 10 ∷ [])) grows silent
          (λ t e. took_mute past due by c n w ws t soft h.unsent e h.covered) h.took;
      fault = λ e. fault;
    })

-- ---- at the start

-- an inlet that took nothing, where nothing was written to the child
pub mouth_start : (journal : List Entry) (v : MouthValue) → sent_count journal v.child ≡ 0 → written journal v.child ≡ [] → is_mute journal v.child ≡ false
    → IfSome v.taken (λ bytes. bytes ≡ []) → MouthWired journal v
mouth_start journal v none nothing loud taken = record {
  covered = omega (arith, none);
  took = told_maps (λ bytes. bytes ≡ []) (Took journal v.child) v.taken
      (λ bytes e. record {
        begun = 0;
        bytes =
            e
            ∙ sym (ap (λ (w : Written). text (texts (take (sent_count journal v.child) w)) ++ []) nothing ∙ ap (λ (w : Written). text (texts w) ++ []) (take-nil (sent_count journal v.child)));
        whole = λ h. refl;
      }) taken;
  fault = λ e. true_not_false (is_mute journal v.child) e loud;
}
  where
    take-nil : (n : ℕ) → take n (let e : Written = [] in e) ≡ []
    take-nil zero = refl
    take-nil (suc n) = refl
