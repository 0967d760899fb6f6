-- While a task is busy no other is that names its key, so nobody else notes anything of the key.
use Rattle.std.proofs.Common.{◌≡◌, ◌∙◌, ℕ, zero, suc, ◌+◌, ◌-◌, ◌<◌, ◌≤◌, List, [], ◌∷◌, ◌++◌, length, map, filter, refl, sym, ap, subst, arith, append_assoc, append-nil, Bool, true, false, cond, not, ◌==◌, Option, Some, None, bytes_eq}
use Rattle.std.specs.Prelude.{◌&&◌, ◌||◌, nat_lt, if◌then◌else◌, is_some, slice_get, option_map}
use Rattle.std.specs.List.{list_all, list_any, cons_option, range_with_len}
use Rattle.std.specs.declared.cmp.Ordering.{Ordering}
use Rattle.std.specs.declared.cmp.Ordering.TheVariants.{Less, Equal, Greater}
use Rattle.std.proofs.lemmas.Slice.Eq.{bytes_eq-Decides}
use Rattle.std.proofs.lemmas.Option.{slice_get_within}
use Rattle.std.proofs.lemmas.Bool.{eq-eqb, and_parts as both, eqb-true as same_number}
use Rattle.std.proofs.lemmas.List.Sums.{fold-append}
use Rattle.task_text.specs.ChunkLog.NoteBooks.{inserted, place_cmp, placed, is_no_later}
use Rattle.task_text.specs.ChunkLog.Current.{is_current, layouts_of, standing_of, in_rank, layout_of}
use Rattle.task_text.specs.declared.chunk_log.note.Note.{Note as NoteLine}
use Rattle.task_text.proofs.ChunkLogLemmas.Places.{same_place}
use Rattle.task_text.proofs.ChunkLogLemmas.Newest.{layouts_current}
use Rattle.task_text.specs.declared.task.Task.{Task}
use Rattle.journal_model.specs.declared.holder.Holder.{Holder}
use Rattle.journal_model.specs.declared.entry.What.{What}
use Rattle.journal_model.specs.declared.entry.What.TheVariants.{Claim, Note, Answer as Answered, Again}
use Rattle.journal_model.specs.declared.entry.Entry.{Entry}
use Rattle.journal_model.specs.declared.opening.Opening.{Opening}
use Rattle.journal_model.specs.Journal.{any, each_of, is_live, is_mute}
use Rattle.journal_model.specs.Due.{due_after}
use Rattle.journal_model.specs.Legality.{Legal, claims, closes, is_busy, is_claimed, is_claimed_by, is_free, is_number, least_free, numbers_of, task_of, both_conflict, conflicts, clashes, share_name, holder, turned_by, may_come, may_note, has_open_job, is_prepared}
use Rattle.journal_model.specs.Notes.{noted, note_of, with_notes, AreCurrentAt}
use Rattle.journal_model.proofs.Looks.{entry, each_of-append}
use Rattle.journal_model.proofs.Holding.{claimed, closed, due_names, holder_append, unturned, held_busy}
use Rattle.journal_model.proofs.Working.{busy_stays, claim_busy}
use Rattle.journal_model.proofs.Growing.{Legal-induction}
use Rattle.journal_model.proofs.Noting.{current_of_book}
use Rattle.host_core.specs.Books.{notes_after}
use Rattle.crew_work.specs.Worker.Noting.{by_noting}
use Rattle.crew_work.specs.Worker.KnownLayouts.{known_layouts, layouts_at, BusyKeysDiffer, LayoutsStay, LayoutsSinceClaim}
use Rattle.ann_key.proofs.Numbers.{same_number as same}
use Rattle.ann_key.proofs.Booleans.{left_false as either_left, right_false as either_right, true_and_false as true_not_false}
use Rattle.ann_key.proofs.Lists.{found_so as find_holds}

-- ---- two busy tasks

record NoTwo (o : Opening) (past : List Entry) : Type 0 where
  pub differ : (t u : ℕ) (s r : Task) → is_busy past t ≡ true → is_busy past u ≡ true → task_of o t ≡ Some s → task_of o u ≡ Some r → s.key ≡ r.key → t ≡ u

-- who is busy after an entry that doesn't claim him was so before
busy_before : (o : Opening) (past : List Entry) (by : ℕ) (w : What) (t : ℕ) → claims t w ≡ false → is_busy (past ++ entry by w ∷ due_after o past (entry by w)) t ≡ true → is_busy past t ≡ true
busy_before o past by w t n b = was (holder past t) w n (sym (ap is_some after) ∙ b)
  where
    after : holder (past ++ entry by w ∷ due_after o past (entry by w)) t ≡ turned_by t (holder past t) by w
    after =
        holder_append past (entry by w ∷ due_after o past (entry by w)) t
        ∙ unturned t (turned_by t (holder past t) by w) (due_after o past (entry by w)) (due_names claimed (λ c j v. refl) (λ c why. refl) (λ c j l. refl) o past by w)
        (due_names closed (λ c j v. refl) (λ c why. refl) (λ c j l. refl) o past by w)

    left_busy : (x : Bool) (h : Option Holder) → is_some (cond x None h) ≡ true → is_some h ≡ true
    left_busy true h b = absurd cc
    left_busy false h b = b

    was : (h : Option Holder) (w : What) → claims t w ≡ false → is_some (turned_by t h by w) ≡ true → is_some h ≡ true
    was h (Claim task child) n b = rw n at b
    was h (Answered task answer) n b = left_busy (task == t) h b
    was h (Again task answer) n b = left_busy (task == t) h b
    was h w n b = b

-- a task that is claimed was free
free_at : (o : Opening) (past : List Entry) (by t : ℕ) (w : What) → may_come o past by w ≡ true → claims t w ≡ true → is_free o past t ≡ true
free_at o past by t (Claim task child) m k =
    let P : ℕ → Type 0 = λ x. is_free o past x ≡ true in
    subst P (same_number task t k) (by_least (least_free o past) refl (both (is_number task (least_free o past)) ((child == 0 && by == 0) || (is_prepared past child && is_live past child && not (is_mute past child))) m).0)
  where
    by_least : (l : Option ℕ) → least_free o past ≡ l → is_number task l ≡ true → is_free o past task ≡ true
    by_least None e h = absurd cc
    by_least (Some n) e h = find_holds (is_free o past) (numbers_of o) task (e ∙ ap (λ (x : ℕ). Some x) (same_number n task h))
free_at o past by t w m k = absurd cc

-- no busy task is in the way of a free one
none_at : (p : ℕ → Bool) (a n u : ℕ) → list_any p (range_with_len a n) ≡ false → a ≤ u → u < a + n → p u ≡ false
none_at p a zero u h l b = absurd (omega arith)
none_at p a (suc n) u h l b = by_first (a == u) refl (λ o. none_at p (a + 1) n u (either_right (p a) (list_any p (range_with_len (a + 1) n)) h) (omega (arith, o)) (omega arith))
  where
    by_first : (x : Bool) → (a == u) ≡ x → ((a ≡ u → ⊥) → p u ≡ false) → p u ≡ false
    by_first true e next = let P : ℕ → Type 0 = λ z. p z ≡ false in subst P (same_number a u e) (either_left (p a) (list_any p (range_with_len (a + 1) n)) h)
    by_first false e next = next other
      where
        other : a ≡ u → ⊥
        other q = let s : (a == u) ≡ true = eq-eqb a u q in absurd cc

not_in_way : (o : Opening) (past : List Entry) (t u : ℕ) (s r : Task) → is_free o past t ≡ true → is_busy past u ≡ true → task_of o t ≡ Some s → task_of o u ≡ Some r → bytes_eq r.key s.key ≡ false
not_in_way o past t u s r f b et eu = either_left (bytes_eq r.key s.key) (clashes r.file s.file) (either_left (bytes_eq r.key s.key || clashes r.file s.file) (share_name r s) conflict)
  where
    turned_off : (x : Bool) → not x ≡ true → x ≡ false
    turned_off true e = absurd cc
    turned_off false e = refl

    none : list_any (λ v. is_busy past v && both_conflict (task_of o v) (task_of o t)) (numbers_of o) ≡ false
    none = turned_off _ (both (not (is_claimed past t)) (not (list_any (λ v. is_busy past v && both_conflict (task_of o v) (task_of o t)) (numbers_of o))) f).1

    within : (0 < u) × (u - 1 < length o.tasks)
    within = by_zero (u == 0) refl eu
      where
        by_zero : (x : Bool) → (u == 0) ≡ x → cond x None (slice_get o.tasks (u - 1)) ≡ Some r → (0 < u) × (u - 1 < length o.tasks)
        by_zero true e h = absurd cc
        by_zero false e h = (positive u e, slice_get_within o.tasks (u - 1) r h)
          where
            positive : (n : ℕ) → (n == 0) ≡ false → 0 < n
            positive zero e = let z : true ≡ false = e in absurd cc
            positive (suc n) e = omega arith

    here : (is_busy past u && both_conflict (task_of o u) (task_of o t)) ≡ false
    here = none_at (λ v. is_busy past v && both_conflict (task_of o v) (task_of o t)) 1 (length o.tasks) u none (omega (arith, within.0)) (omega (arith, within.0, within.1))

    conflict : conflicts r s ≡ false
    conflict = rw (b, eu, et) at here

no_two_step : (o : Opening) (past : List Entry) (by : ℕ) (w : What) → NoTwo o past → may_come o past by w ≡ true → NoTwo o (past ++ entry by w ∷ due_after o past (entry by w))
no_two_step o past by w kept may = record { differ = λ t u s r bt bu et eu k. by_claims t u s r bt bu et eu k (claims t w) (claims u w) refl refl }
  where
    one_claim : (t u : ℕ) (w : What) → claims t w ≡ true → claims u w ≡ true → t ≡ u
    one_claim t u (Claim task child) k l = sym (same_number task t k) ∙ same_number task u l
    one_claim t u w k l = absurd cc

    same_key : (s r : Task) → s.key ≡ r.key → bytes_eq s.key r.key ≡ true
    same_key s r k = (bytes_eq-Decides s.key r.key).1 k

    by_claims : (t u : ℕ) (s r : Task) → is_busy (past ++ entry by w ∷ due_after o past (entry by w)) t ≡ true → is_busy (past ++ entry by w ∷ due_after o past (entry by w)) u ≡ true
        → task_of o t ≡ Some s → task_of o u ≡ Some r → s.key ≡ r.key → (x y : Bool) → claims t w ≡ x → claims u w ≡ y → t ≡ u
    by_claims t u s r bt bu et eu k true true ct cu = one_claim t u w ct cu
    by_claims t u s r bt bu et eu k true false ct cu =
        true_not_false (bytes_eq r.key s.key) (same_key r s (sym k)) (not_in_way o past t u s r (free_at o past by t w may ct) (busy_before o past by w u cu bu) et eu)
    by_claims t u s r bt bu et eu k false true ct cu =
        true_not_false (bytes_eq s.key r.key) (same_key s r k) (not_in_way o past u t r s (free_at o past by u w may cu) (busy_before o past by w t ct bt) eu et)
    by_claims t u s r bt bu et eu k false false ct cu = kept.differ t u s r (busy_before o past by w t ct bt) (busy_before o past by w u cu bu) et eu k

-- ---- who notes is busy

abbrev NoteHere : Opening → List Entry → What → Type 0
NoteHere o past (Note u chunk count) = NoTwo o past × (is_busy past u ≡ true)
NoteHere o past w = Unit {0}

abbrev NotesStand : Opening → List Entry → List Entry → Type 0
NotesStand o past [] = Unit {0}
NotesStand o past (e ∷ rest) = NoteHere o past e.what × NotesStand o (past ++ e ∷ []) rest

stand_join : (o : Opening) (past xs ys : List Entry) → NotesStand o past xs → NotesStand o (past ++ xs) ys → NotesStand o past (xs ++ ys)
stand_join o past [] ys a b = subst (λ (p : List Entry). NotesStand o p ys) (append-nil past) b
stand_join o past (e ∷ xs) ys a b = (a.0, stand_join o (past ++ e ∷ []) xs ys a.1 (subst (λ (p : List Entry). NotesStand o p ys) (sym (append_assoc past (e ∷ []) xs)) b))

stand_later : (o : Opening) (past xs ys : List Entry) → NotesStand o past (xs ++ ys) → NotesStand o (past ++ xs) ys
stand_later o past [] ys a = subst (λ (p : List Entry). NotesStand o p ys) (sym (append-nil past)) a
stand_later o past (e ∷ xs) ys a = subst (λ (p : List Entry). NotesStand o p ys) (append_assoc past (e ∷ []) xs) (stand_later o (past ++ e ∷ []) xs ys a.1)

abbrev note_task : What → Option ℕ
note_task (Note u chunk count) = Some u
note_task w = None

none_stand : (o : Opening) (past xs : List Entry) → each_of note_task xs ≡ [] → NotesStand o past xs
none_stand o past [] h = tt
none_stand o past (e ∷ xs) h = by_what e.what h (λ r. none_stand o (past ++ e ∷ []) xs r)
  where
    by_what : (w : What) → cons_option (note_task w) (each_of note_task xs) ≡ [] → (each_of note_task xs ≡ [] → NotesStand o (past ++ e ∷ []) xs) → NoteHere o past w × NotesStand o (past ++ e ∷ []) xs
    by_what (Note u chunk count) h r = absurd cc
    by_what w h r = (tt, r h)

note_here : (o : Opening) (past : List Entry) (by : ℕ) (w : What) → may_come o past by w ≡ true → NoTwo o past → NoteHere o past w
note_here o past by (Note u chunk count) m n = (
  n,
  held_busy by (holder past u) (both (is_claimed_by past by u) (may_note (task_of o u)) (both (is_claimed_by past by u && may_note (task_of o u)) (not (has_open_job past u)) (both (is_claimed_by past by u && may_note (task_of o u) && not (has_open_job past u)) (nat_lt 0 chunk) m).0).0).0,
)
note_here o past by w m n = tt

stands : (o : Opening) (journal : List Entry) → Legal o journal → NoTwo o journal × NotesStand o [] journal
stands o journal l = Legal-induction o (λ p. NoTwo o p × NotesStand o [] p) (record { differ = λ t u s r bt bu et eu k. absurd cc }, tt)
    (λ past e legal before may. (
      no_two_step o past e.by e.what before.0 may,
      stand_join o [] past (e ∷ due_after o past e) before.1 (note_here o past e.by e.what may before.0, none_stand o (past ++ e ∷ []) (due_after o past e) (due_names note_task (λ c j v. refl) (λ c why. refl) (λ c j x. refl) o past e.by e.what)),
    )) journal l

pub busy_keys_differ : BusyKeysDiffer
busy_keys_differ o journal l t u s r bt bu et eu k = (stands o journal l).0.differ t u s r bt bu et eu k

-- ---- what others note while a task is busy

others_note : (o : Opening) (past more : List Entry) (t : ℕ) (s : Task) → NotesStand o past more → is_busy past t ≡ true → any (closes t) more ≡ false → any (by_noting t) more ≡ false → task_of o t ≡ Some s
    → list_all (λ (n : NoteLine). not (bytes_eq n.key s.key)) (each_of (noted o) more) ≡ true
others_note o past [] t s st b a n e = refl
others_note o past (x ∷ more) t s st b a n e =
    by_what x.what st.0 (either_left (by_noting t x.what) (any (by_noting t) more) n)
    (others_note o (past ++ x ∷ []) more t s st.1 (busy_stays past (x ∷ []) t b one) (either_right (closes t x.what) (any (closes t) more) a) (either_right (by_noting t x.what) (any (by_noting t) more) n) e)
  where
    one : any (closes t) (x ∷ []) ≡ false
    one = rw (either_left (closes t x.what) (any (closes t) more) a) refl

    by_key : (u : ℕ) (r : Task) → task_of o u ≡ Some r → NoTwo o past → is_busy past u ≡ true → (u == t) ≡ false → (k : Bool) → bytes_eq r.key s.key ≡ k → not k ≡ true
    by_key u r eu two bu d true k = absurd (apart d (two.differ u t r s bu b eu e ((bytes_eq-Decides r.key s.key).0 k)))
      where
        apart : (u == t) ≡ false → u ≡ t → ⊥
        apart d q = let h : (u == t) ≡ true = eq-eqb u t q in cc
    by_key u r eu two bu d false k = refl

    by_what : (w : What) → NoteHere o past w → by_noting t w ≡ false → list_all (λ (n : NoteLine). not (bytes_eq n.key s.key)) (each_of (noted o) more) ≡ true
        → list_all (λ (n : NoteLine). not (bytes_eq n.key s.key)) (cons_option (noted o w) (each_of (noted o) more)) ≡ true
    by_what (Note u chunk count) h d rest = by_task (task_of o u) refl
      where
        by_task : (q : Option Task) → task_of o u ≡ q → list_all (λ (n : NoteLine). not (bytes_eq n.key s.key)) (cons_option (option_map (note_of o chunk count) q) (each_of (noted o) more)) ≡ true
        by_task None eu = rest
        by_task (Some r) eu = rw (by_key u r eu h.0 h.1 d (bytes_eq r.key s.key) refl, rest) refl
    by_what w h d rest = rest

-- ---- notes of other keys leave a key's layouts

module _ (key uuid : List ℕ) where
  not_current : (n : NoteLine) → bytes_eq n.key key ≡ false → is_current key uuid n ≡ false
  not_current n h = rw h refl

  kept_rank : (n : NoteLine) (book : List NoteLine) → bytes_eq n.key key ≡ false → filter (is_current key uuid) (inserted n book) ≡ filter (is_current key uuid) book
  kept_rank n [] h = rw (not_current n h) refl
  kept_rank n (first ∷ rest) h = by_place (place_cmp first n) refl (kept_rank n rest h)
    where
      by_later : (b : Bool) → first.key ≡ n.key → filter (is_current key uuid) ((if b then n else first) ∷ rest) ≡ filter (is_current key uuid) (first ∷ rest)
      by_later true k = rw (not_current n h, not_current first (ap (λ (x : List ℕ). bytes_eq x key) k ∙ h)) refl
      by_later false k = refl

      by_place : (c : Ordering) → place_cmp first n ≡ c → filter (is_current key uuid) (inserted n rest) ≡ filter (is_current key uuid) rest
          → filter (is_current key uuid) (placed n first rest (inserted n rest) c) ≡ filter (is_current key uuid) (first ∷ rest)
      by_place Less e next = ap (λ (l : List NoteLine). cond (is_current key uuid first) (first ∷ l) l) next
      by_place Equal e next = by_later (is_no_later first.line.stamp n.line.stamp) (same_place first n e).key
      by_place Greater e next = rw (not_current n h) refl

  same_layouts : (book notes : List NoteLine) → list_all (λ (n : NoteLine). not (bytes_eq n.key key)) notes ≡ true → layouts_of (with_notes book notes) key uuid ≡ layouts_of book key uuid
  unfolding layouts_of
  same_layouts book [] h = refl
  same_layouts book (n ∷ notes) h =
      let a = both (not (bytes_eq n.key key)) (list_all (λ (n : NoteLine). not (bytes_eq n.key key)) notes) h in
      same_layouts (inserted n book) notes a.1 ∙ one n (turned_off (bytes_eq n.key key) a.0)
    where
      turned_off : (x : Bool) → not x ≡ true → x ≡ false
      turned_off true e = absurd cc
      turned_off false e = refl

      one : (n : NoteLine) → bytes_eq n.key key ≡ false → layouts_of (inserted n book) key uuid ≡ layouts_of book key uuid
      one n h = ap (λ (l : List NoteLine). map layout_of (in_rank (map standing_of l))) (kept_rank n book h)

notes_append : (o : Opening) (past more : List Entry) → notes_after o (past ++ more) ≡ with_notes (notes_after o past) (each_of (noted o) more)
notes_append o past more =
    ap (λ (l : List NoteLine). with_notes o.notes l) (each_of-append (noted o) past more) ∙ fold-append (λ b n. inserted n b) o.notes (each_of (noted o) past) (each_of (noted o) more)

stay : (o : Opening) (past more : List Entry) (t : ℕ) → NotesStand o past more → is_busy past t ≡ true → any (closes t) more ≡ false → any (by_noting t) more ≡ false → known_layouts o (past ++ more) t ≡ known_layouts o past t
stay o past more t st b a n = by_task (task_of o t) refl
  where
    by_task : (q : Option Task) → task_of o t ≡ q → layouts_at o (past ++ more) q ≡ layouts_at o past q
    by_task None e = refl
    by_task (Some s) e =
        ap (λ (l : List NoteLine). layouts_of l s.key o.identity.uuid) (notes_append o past more)
        ∙ same_layouts s.key o.identity.uuid (notes_after o past) (each_of (noted o) more) (others_note o past more t s st b a n e)

pub layouts_stay : LayoutsStay
layouts_stay o past more t l b a n = stay o past more t (stand_later o [] past more (stands o (past ++ more) l).1) b a n

pub layouts_since_claim : LayoutsSinceClaim
layouts_since_claim o past within by c t task order e l a n = subst (λ (x : List (ℕ × ℕ)). AreCurrentAt o past task.key x) (sym known) at_claim
  where
    at_claim : AreCurrentAt o past task.key (layouts_of (notes_after o past) task.key o.identity.uuid)
    at_claim = current_of_book o past task.key (layouts_of (notes_after o past) task.key o.identity.uuid) order (layouts_current (notes_after o past) task.key o.identity.uuid)

    split : past ++ entry by (Claim t c) ∷ within ≡ (past ++ entry by (Claim t c) ∷ []) ++ within
    split = sym (append_assoc past (entry by (Claim t c) ∷ []) within)

    later : NotesStand o (past ++ entry by (Claim t c) ∷ []) within
    later = (stand_later o [] past (entry by (Claim t c) ∷ within) (stands o (past ++ entry by (Claim t c) ∷ within) l).1).1

    busy : is_busy (past ++ entry by (Claim t c) ∷ []) t ≡ true
    busy = claim_busy past by t (Claim t c) [] (same t) refl

    known : known_layouts o (past ++ entry by (Claim t c) ∷ within) t ≡ layouts_of (notes_after o past) task.key o.identity.uuid
    known =
        ap (λ (j : List Entry). known_layouts o j t) split
        ∙ stay o (past ++ entry by (Claim t c) ∷ []) within t later busy a n
        ∙ ap (λ (q : Option Task). layouts_at o (past ++ entry by (Claim t c) ∷ []) q) e
        ∙ ap (λ (l : List NoteLine). layouts_of l task.key o.identity.uuid) (notes_append o past (entry by (Claim t c) ∷ []))
