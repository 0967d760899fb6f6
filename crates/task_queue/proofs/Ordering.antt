-- A queue stays in order, with room, and that of its opening.
use Rattle.std.proofs.Common.{◌≡◌, ◌∙◌, ℕ, ◌+◌, ◌<◌, ◌≤◌, ◌⊎◌, Vec, List, [], ◌∷◌, ◌++◌, refl, sym, ap, subst, Bool, true, false, not, length, set, arith, inl, inr, length-append, get_or-set_other, get_or-set_same}
use Rattle.std.specs.Prelude.{◌==◌, filter, count_by, vec_capacity}
use Rattle.std.specs.declared.alloc.Global.{Global}
use Rattle.std.proofs.lemmas.Bool.{cases_lt, eqb-true, or_cases}
use Rattle.std.proofs.lemmas.List.{length-set}
use Rattle.std.proofs.lemmas.List.Folds.{list_any-append}
use Rattle.journal_model.specs.declared.opening.Opening.{Opening}
use Rattle.journal_model.specs.Legality.{both_conflict, task_of}
use Rattle.task_queue.specs.declared.alike.By.{By}
use Rattle.task_queue.specs.declared.alike.By.TheVariants.{Key, File}
use Rattle.task_queue.specs.declared.groups.Groups.{Groups}
use Rattle.task_queue.specs.declared.marks.Marks.{Marks}
use Rattle.task_queue.specs.declared.queue.Queue.{Queue}
use Rattle.task_queue.specs.Blocks.{AreInBlocks}
use Rattle.task_queue.specs.Groups.{AreGroups, is_set, number_at}
use Rattle.task_queue.specs.Held.{HasReadyBefore, IsHandedOn, is_group_busy}
use Rattle.task_queue.specs.Kept.{AreKept, CallsFirst}
use Rattle.task_queue.specs.Queues.{ArePlaced, AreTasks, AreUnclaimed, HasRoom, IsOf, IsOrdered, IsPlaced, is_among}
use Rattle.task_queue.specs.Ways.{AreBare}
use Rattle.task_queue.specs.Woken.{AreWatched, AreWoken}
use Rattle.task_queue.proofs.Keeping.{claimed_kept, up}
use Rattle.task_queue.proofs.Places.{any_kept, at_set, count_down, count_up, marked, marked_from, set_here, unmarked_other, unmarked_was}
use Rattle.task_queue.proofs.Placing.{AreBut, Follows, IsCalledOn, claimed_placed, follows, follows_more, let_go_placed, off_placed, renewed_placed}

-- ---- a ready task is put off

-- it isn't ready, and in each of its groups the next one is, or a busy one is of it
pub record IsPassed (q : Queue) (u : ℕ) (by_key by_file : Bool) (first second third : List Bool) : Type 0 where
  pub unmarked : first ≡ set q.ready.flags.items u false
  pub keys : IsHandedOn q.keys.of.items q.claimed.items (number_at q.keys.of.items u) (u + 1) by_key first second
  pub files : IsHandedOn q.files.of.items q.claimed.items (number_at q.files.of.items u) (u + 1) by_file second third
  pub key_held : by_key ≡ is_group_busy q.keys.of.items q.busy.items u
  pub file_held : by_file ≡ is_group_busy q.files.of.items q.busy.items u

-- what is said of lists that are the queue's
pub passed : (q : Queue) (u : ℕ) (claimed claimed_too : List Bool) (busy busy_too : List ℕ) (by_key by_file : Bool) (first second third : List Bool)
    → claimed ≡ q.claimed.items → busy ≡ q.busy.items → claimed_too ≡ q.claimed.items → busy_too ≡ q.busy.items → first ≡ set q.ready.flags.items u false
    → by_key ≡ is_group_busy q.keys.of.items busy u → IsHandedOn q.keys.of.items claimed (number_at q.keys.of.items u) (u + 1) by_key first second
    → by_file ≡ is_group_busy q.files.of.items busy_too u → IsHandedOn q.files.of.items claimed_too (number_at q.files.of.items u) (u + 1) by_file second third
    → IsPassed q u by_key by_file first second third
passed q u claimed claimed_too busy busy_too by_key by_file first second third claimed_is busy_is claimed_too_is busy_too_is unmarked key_held keys file_held files = record {
  unmarked = unmarked;
  keys = subst (λ (l : List Bool). IsHandedOn q.keys.of.items l (number_at q.keys.of.items u) (u + 1) by_key first second) claimed_is keys;
  files = subst (λ (l : List Bool). IsHandedOn q.files.of.items l (number_at q.files.of.items u) (u + 1) by_file second third) claimed_too_is files;
  key_held = key_held ∙ ap (λ (l : List ℕ). is_group_busy q.keys.of.items l u) busy_is;
  file_held = file_held ∙ ap (λ (l : List ℕ). is_group_busy q.files.of.items l u) busy_too_is;
}

off_long : (q : Queue) (u : ℕ) (by_key by_file : Bool) (first second third : List Bool) → IsOrdered q → IsPassed q u by_key by_file first second third → length third ≡ length q.claimed.items
off_long q u by_key by_file first second third are is = is.files.long ∙ is.keys.long ∙ ap length is.unmarked ∙ length-set q.ready.flags.items u false ∙ are.long.ready

off_but : (q : Queue) (u : ℕ) (by_key by_file : Bool) (first second third : List Bool) → IsPassed q u by_key by_file first second third → AreBut u q.ready.flags.items third
off_but q u by_key by_file first second third is = λ t apart h.
    is.files.kept t (is.keys.kept t (up (set q.ready.flags.items u false) first t (sym is.unmarked) (get_or-set_other q.ready.flags.items u t false false apart ∙ h)))

-- what is ready now was, or is an unclaimed task after that one
off_from : (q : Queue) (u : ℕ) (by_key by_file : Bool) (first second third : List Bool) (t : ℕ) → IsPassed q u by_key by_file first second third → is_set third t ≡ true
    → (is_set (set q.ready.flags.items u false) t ≡ true) ⊎ ((u + 1 ≤ t) × (is_set q.claimed.items t ≡ false))
off_from q u by_key by_file first second third t is h = go (is.files.others t h)
  where
    by : (is_set first t ≡ true) ⊎ ((u + 1 ≤ t) × (is_set q.claimed.items t ≡ false)) → (is_set (set q.ready.flags.items u false) t ≡ true) ⊎ ((u + 1 ≤ t) × (is_set q.claimed.items t ≡ false))
    by (inl k) = inl (up first (set q.ready.flags.items u false) t is.unmarked k)
    by (inr k) = inr k

    go : (is_set second t ≡ true) ⊎ ((u + 1 ≤ t) × (is_set q.claimed.items t ≡ false)) → (is_set (set q.ready.flags.items u false) t ≡ true) ⊎ ((u + 1 ≤ t) × (is_set q.claimed.items t ≡ false))
    go (inl k) = by (is.keys.others t k)
    go (inr k) = inr k

pub off_ordered : (q : Queue) (ready : Marks) (waits : Vec ℕ Global) (watched : Vec Bool Global) (u : ℕ) (by_key by_file : Bool) (first second : List Bool) → IsOrdered q
    → IsPassed q u by_key by_file first second ready.flags.items → AreInBlocks ready.flags.items ready.blocks.items
    → length waits.items ≡ length q.claimed.items → length watched.items ≡ length q.claimed.items → AreWatched waits.items watched.items
    → ((t : ℕ) → is_among q.busy.items (number_at q.waits.items t) ≡ true → is_among q.busy.items (number_at waits.items t) ≡ true)
    → IsPlaced q.keys.of.items q.files.of.items q.busy.items waits.items ready.flags.items u
    → IsOrdered (record q { ready = ready; waits = waits; watched = watched })
off_ordered q ready waits watched u by_key by_file first second are is blocks waits_long watched_long watches still own = record {
  long = record { ready = off_long q u by_key by_file first second ready.flags.items are is; waits = waits_long; watched = watched_long };
  keys = are.keys;
  files = are.files;
  blocks = blocks;
  no_task = are.no_task;
  busy = are.busy;
  watched = watches;
  unclaimed = record { each = λ t h. free_at t (off_from q u by_key by_file first second ready.flags.items t is h) };
  placed = off_placed q.keys.of.items q.files.of.items q.busy.items q.waits.items waits.items q.claimed.items q.ready.flags.items ready.flags.items u
      (off_but q u by_key by_file first second ready.flags.items is) key_follows file_follows still own are.placed;
}
  where
    first_long : length first ≡ length q.claimed.items
    first_long = ap length is.unmarked ∙ length-set q.ready.flags.items u false ∙ are.long.ready

    key_follows : Follows q.keys.of.items q.busy.items q.claimed.items ready.flags.items u
    key_follows = follows_more q.keys.of.items q.busy.items q.claimed.items second ready.flags.items u is.files.kept
        (follows q.keys.of.items q.busy.items q.claimed.items first second u by_key are.keys.long first_long is.key_held is.keys)

    file_follows : Follows q.files.of.items q.busy.items q.claimed.items ready.flags.items u
    file_follows = follows q.files.of.items q.busy.items q.claimed.items second ready.flags.items u by_file are.files.long (is.keys.long ∙ first_long) is.file_held is.files

    free_at : (t : ℕ) → (is_set (set q.ready.flags.items u false) t ≡ true) ⊎ ((u + 1 ≤ t) × (is_set q.claimed.items t ≡ false)) → is_set q.claimed.items t ≡ false
    free_at t (inl k) = are.unclaimed.each t (unmarked_was q.ready.flags.items u t k)
    free_at t (inr k) = k.1

-- a busy one of a group of its own holds it
pub off_held : (q : Queue) (ready : Marks) (u : ℕ) (by_key by_file : Bool) (first second : List Bool) → IsOrdered q → IsPassed q u by_key by_file first second ready.flags.items
    → AreInBlocks ready.flags.items ready.blocks.items → (by_key ≡ true) ⊎ (by_file ≡ true) → IsOrdered (record q { ready = ready })
off_held q ready u by_key by_file first second are is blocks held =
    off_ordered q ready q.waits q.watched u by_key by_file first second are is blocks are.long.waits are.long.watched are.watched (λ t h. h) (own held)
  where
    own : (by_key ≡ true) ⊎ (by_file ≡ true) → IsPlaced q.keys.of.items q.files.of.items q.busy.items q.waits.items ready.flags.items u
    own (inl e) = inr (inr (inl (inl (sym is.key_held ∙ e))))
    own (inr e) = inr (inr (inr (inl (sym is.file_held ∙ e))))

-- it waits for another one
pub off_waiting : (q : Queue) (ready : Marks) (waits : Vec ℕ Global) (watched : Vec Bool Global) (u b : ℕ) (by_key by_file : Bool) (first second : List Bool) → IsOrdered q
    → IsPassed q u by_key by_file first second ready.flags.items → AreInBlocks ready.flags.items ready.blocks.items
    → u < length q.claimed.items → is_among q.busy.items b ≡ true → waits.items ≡ set q.waits.items u b → watched.items ≡ set q.watched.items b true
    → IsOrdered (record q { ready = ready; waits = waits; watched = watched })
off_waiting q ready waits watched u b by_key by_file first second are is blocks within among waits_is watched_is =
    off_ordered q ready waits watched u by_key by_file first second are is blocks
    (ap length waits_is ∙ length-set q.waits.items u b ∙ are.long.waits) (ap length watched_is ∙ length-set q.watched.items b true ∙ are.long.watched)
    (subst (λ (l : List ℕ). AreWatched l watched.items) (sym waits_is) (subst (AreWatched (set q.waits.items u b)) (sym watched_is) watched_so))
    (λ t h. subst (λ (l : List ℕ). is_among q.busy.items (number_at l t) ≡ true) (sym waits_is) (still t h)) (inr (inl here))
  where
    watched_so : AreWatched (set q.waits.items u b) (set q.watched.items b true)
    watched_so = record {
      each = λ t. at_set (λ (n : ℕ). 0 < n → is_set (set q.watched.items b true) n ≡ true) q.waits.items u t b 0
          (λ e w some. set_here q.watched.items b true (omega (arith, (are.busy.each b among).1, are.long.watched)))
          (λ other some. marked q.watched.items b (number_at q.waits.items t) (are.watched.each t some));
    }

    still : (t : ℕ) → is_among q.busy.items (number_at q.waits.items t) ≡ true → is_among q.busy.items (number_at (set q.waits.items u b) t) ≡ true
    still t h = at_set (λ (n : ℕ). is_among q.busy.items n ≡ true) q.waits.items u t b 0 (λ e w. among) (λ other. h)

    here : is_among q.busy.items (number_at waits.items u) ≡ true
    here = subst (λ (l : List ℕ). is_among q.busy.items (number_at l u) ≡ true) (sym waits_is)
        (subst (λ (n : ℕ). is_among q.busy.items n ≡ true) (sym (get_or-set_same q.waits.items u b 0 (omega (arith, within, are.long.waits)))) among)

pub off_of : (o : Opening) (q : Queue) (ready : Marks) (waits : Vec ℕ Global) (watched : Vec Bool Global) (u b : ℕ) → both_conflict (task_of o b) (task_of o u) ≡ true → waits.items ≡ set q.waits.items u b → IsOf o q
    → IsOf o (record q { ready = ready; waits = waits; watched = watched })
off_of o q ready waits watched u b conflict waits_is are = record {
  long = are.long;
  keys = are.keys;
  files = are.files;
  waits = λ t. subst (λ (l : List ℕ). 0 < number_at l t → both_conflict (task_of o (number_at l t)) (task_of o t) ≡ true) (sym waits_is)
      (at_set (λ (n : ℕ). 0 < n → both_conflict (task_of o n) (task_of o t) ≡ true) q.waits.items u t b 0
      (λ e w some. ap (λ (k : ℕ). both_conflict (task_of o b) (task_of o k)) e ∙ conflict) (λ other. are.waits t));
}

-- no task up to this one is ready
pub off_bare : (q : Queue) (u : ℕ) (by_key by_file : Bool) (first second third : List Bool) → IsOrdered q → u < length q.claimed.items → IsPassed q u by_key by_file first second third
    → AreBare q.ready.flags.items u → AreBare third (u + 1)
off_bare q u by_key by_file first second third are within is bare = record { each = λ t below. go t below (is_set third t) refl }
  where
    none : (t : ℕ) → t < u + 1 → is_set (set q.ready.flags.items u false) t ≡ true → ⊥
    none t below h = by (cases_lt t u)
      where
        by : (t < u) ⊎ (u ≤ t) → ⊥
        by (inl less) = (let bad : false ≡ true = sym (bare.each t less) ∙ unmarked_was q.ready.flags.items u t h in cc)
        by (inr more) = unmarked_other q.ready.flags.items u t (omega (arith, within, are.long.ready)) h (omega (arith, below, more))

    go : (t : ℕ) → t < u + 1 → (c : Bool) → is_set third t ≡ c → is_set third t ≡ false
    go t below false e = e
    go t below true e = absurd (by (off_from q u by_key by_file first second third t is e))
      where
        by : (is_set (set q.ready.flags.items u false) t ≡ true) ⊎ ((u + 1 ≤ t) × (is_set q.claimed.items t ≡ false)) → ⊥
        by (inl k) = none t below k
        by (inr k) = omega (arith, k.0, below)

-- ---- a task is claimed

pub claimed_ordered : (q : Queue) (claimed : Vec Bool Global) (ready : Marks) (busy : Vec ℕ Global) (u : ℕ) → IsOrdered q → 0 < u → u < length q.claimed.items
    → claimed.items ≡ set q.claimed.items u true → ready.flags.items ≡ set q.ready.flags.items u false → AreInBlocks ready.flags.items ready.blocks.items → busy.items ≡ q.busy.items ++ u ∷ []
    → IsOrdered (record q { claimed = claimed; ready = ready; busy = busy })
claimed_ordered q claimed ready busy u are some within claimed_is flags blocks busy_is = record {
  long = record { ready = ap length flags ∙ length-set q.ready.flags.items u false ∙ are.long.ready ∙ sym long; waits = are.long.waits ∙ sym long; watched = are.long.watched ∙ sym long };
  keys = subst (λ (l : List Bool). AreKept l q.keys) (sym claimed_is) (claimed_kept q.keys q.claimed.items u are.keys);
  files = subst (λ (l : List Bool). AreKept l q.files) (sym claimed_is) (claimed_kept q.files q.claimed.items u are.files);
  blocks = blocks;
  no_task = ap (λ (l : List Bool). is_set l 0) claimed_is ∙ marked q.claimed.items u 0 are.no_task;
  busy = subst (λ (l : List ℕ). AreTasks l (length claimed.items)) (sym busy_is) (subst (AreTasks (q.busy.items ++ u ∷ [])) (sym long) tasks);
  watched = are.watched;
  unclaimed = subst (λ (l : List Bool). AreUnclaimed l ready.flags.items) (sym claimed_is) (subst (AreUnclaimed (set q.claimed.items u true)) (sym flags) unclaimed);
  placed = subst (λ (l : List ℕ). ArePlaced q.keys.of.items q.files.of.items l q.waits.items claimed.items ready.flags.items) (sym busy_is)
      (subst (λ (l : List Bool). ArePlaced q.keys.of.items q.files.of.items (q.busy.items ++ u ∷ []) q.waits.items l ready.flags.items) (sym claimed_is)
      (subst (ArePlaced q.keys.of.items q.files.of.items (q.busy.items ++ u ∷ []) q.waits.items (set q.claimed.items u true)) (sym flags)
      (claimed_placed q.keys.of.items q.files.of.items q.busy.items q.waits.items q.claimed.items q.ready.flags.items u are.placed)));
}
  where
    long : length claimed.items ≡ length q.claimed.items
    long = ap length claimed_is ∙ length-set q.claimed.items u true

    tasks : AreTasks (q.busy.items ++ u ∷ []) (length q.claimed.items)
    tasks = record { each = λ t h. by t (or_cases (is_among q.busy.items t) (is_among (u ∷ []) t) (sym (list_any-append (λ (b : ℕ). b == t) q.busy.items (u ∷ [])) ∙ h)) }
      where
        by : (t : ℕ) → (is_among q.busy.items t ≡ true) ⊎ (is_among (u ∷ []) t ≡ true) → (0 < t) × (t < length q.claimed.items)
        by t (inl k) = are.busy.each t k
        by t (inr k) = last (or_cases (u == t) false k)
          where
            last : ((u == t) ≡ true) ⊎ (false ≡ true) → (0 < t) × (t < length q.claimed.items)
            last (inl e) = (let same : u ≡ t = eqb-true u t e in (omega (arith, same, some), omega (arith, same, within)))
            last (inr bad) = absurd cc

    unclaimed : AreUnclaimed (set q.claimed.items u true) (set q.ready.flags.items u false)
    unclaimed = record {
      each = λ t h. at_set (λ (b : Bool). b ≡ false) q.claimed.items u t true false
          (λ e w. absurd (unmarked_other q.ready.flags.items u t (omega (arith, within, are.long.ready)) h e))
          (λ other. are.unclaimed.each t (unmarked_was q.ready.flags.items u t h));
    }

pub claimed_room : (q : Queue) (claimed : Vec Bool Global) (ready : Marks) (busy : Vec ℕ Global) (u : ℕ) → HasRoom q → u < length q.claimed.items → is_set q.claimed.items u ≡ false
    → claimed.items ≡ set q.claimed.items u true → busy.items ≡ q.busy.items ++ u ∷ [] → vec_capacity q.busy ≤ vec_capacity busy
    → HasRoom (record q { claimed = claimed; ready = ready; busy = busy })
claimed_room q claimed ready busy u are within free claimed_is busy_is room = record {
  left =
      let one = count_up q.claimed.items u within free in
      omega (arith, ap length claimed_is, length-set q.claimed.items u true, ap (count_by not) claimed_is, ap length busy_is, length-append q.busy.items (u ∷ []), are.left, one);
  room = omega (arith, ap length claimed_is, length-set q.claimed.items u true, are.room, room);
}

-- ---- a busy task is let go

same_groups : (by : By) (o : Opening) (old new : List ℕ) → new ≡ old → AreGroups by o old → AreGroups by o new
same_groups by o old new same are = subst (AreGroups by o) (sym same) are

called_on : (groups : List ℕ) (claimed old new : List Bool) (u : ℕ) → length groups ≡ length claimed → length old ≡ length claimed → IsHandedOn groups claimed (number_at groups u) 0 false old new
    → IsCalledOn groups claimed new u
called_on groups claimed old new u groups_long old_long called = λ t below free same.
    called.first refl t (omega arith) (omega (arith, below, groups_long)) (omega (arith, below, old_long)) free same

pub let_go_ordered : (q : Queue) (keys files : Groups) (woken second : List Bool) (ready : Marks) (busy : Vec ℕ Global) (u : ℕ) → IsOrdered q
    → AreWoken q.waits.items q.claimed.items u (length q.waits.items) q.ready.flags.items woken
    → CallsFirst q.claimed.items u q.keys keys woken second → CallsFirst q.claimed.items u q.files files second ready.flags.items
    → AreInBlocks ready.flags.items ready.blocks.items → busy.items ≡ filter (λ b. not (b == u)) q.busy.items
    → IsOrdered (record q { keys = keys; files = files; ready = ready; busy = busy })
let_go_ordered q keys files woken second ready busy u are wakes by_key by_file blocks busy_is = record {
  long = record { ready = by_file.called.long ∙ second_long; waits = are.long.waits; watched = are.long.watched };
  keys = by_key.kept;
  files = by_file.kept;
  blocks = blocks;
  no_task = are.no_task;
  busy = subst (λ (l : List ℕ). AreTasks l (length q.claimed.items)) (sym busy_is)
      (record { each = λ t h. are.busy.each t (any_kept (λ (b : ℕ). b == t) (λ (b : ℕ). not (b == u)) q.busy.items h) });
  watched = are.watched;
  unclaimed = record { each = λ t h. last t (by_file.called.others t h) };
  placed = subst (λ (l : List ℕ). ArePlaced l files.of.items busy.items q.waits.items q.claimed.items ready.flags.items) (sym by_key.same)
      (subst (λ (l : List ℕ). ArePlaced q.keys.of.items l busy.items q.waits.items q.claimed.items ready.flags.items) (sym by_file.same)
      (subst (λ (l : List ℕ). ArePlaced q.keys.of.items q.files.of.items l q.waits.items q.claimed.items ready.flags.items) (sym busy_is) placed));
}
  where
    woken_long : length woken ≡ length q.claimed.items
    woken_long = wakes.long ∙ are.long.ready

    second_long : length second ≡ length q.claimed.items
    second_long = by_key.called.long ∙ woken_long

    was_free : (t : ℕ) → (is_set q.ready.flags.items t ≡ true) ⊎ (is_set q.claimed.items t ≡ false) → is_set q.claimed.items t ≡ false
    was_free t (inl k) = are.unclaimed.each t k
    was_free t (inr k) = k

    middle : (t : ℕ) → (is_set woken t ≡ true) ⊎ ((0 ≤ t) × (is_set q.claimed.items t ≡ false)) → is_set q.claimed.items t ≡ false
    middle t (inl k) = was_free t (wakes.others t k)
    middle t (inr k) = k.1

    last : (t : ℕ) → (is_set second t ≡ true) ⊎ ((0 ≤ t) × (is_set q.claimed.items t ≡ false)) → is_set q.claimed.items t ≡ false
    last t (inl k) = middle t (by_key.called.others t k)
    last t (inr k) = k.1

    stays : (t : ℕ) → is_set woken t ≡ true → is_set ready.flags.items t ≡ true
    stays t h = by_file.called.kept t (by_key.called.kept t h)

    key_called : IsCalledOn q.keys.of.items q.claimed.items ready.flags.items u
    key_called = λ t below free same. more t (called_on q.keys.of.items q.claimed.items woken second u are.keys.long woken_long by_key.called t below free same)
      where
        more : (t : ℕ) → (is_set second t ≡ true) ⊎ HasReadyBefore q.keys.of.items second t → (is_set ready.flags.items t ≡ true) ⊎ HasReadyBefore q.keys.of.items ready.flags.items t
        more t (inl r) = inl (by_file.called.kept t r)
        more t (inr h) = inr (record { number = h.number; before = h.before; marked = by_file.called.kept h.number h.marked; same = h.same })

    placed : ArePlaced q.keys.of.items q.files.of.items (filter (λ (b : ℕ). not (b == u)) q.busy.items) q.waits.items q.claimed.items ready.flags.items
    placed = let_go_placed q.keys.of.items q.files.of.items q.busy.items q.waits.items q.claimed.items q.ready.flags.items ready.flags.items u
        (λ t h. stays t (wakes.kept t h))
        (λ t below waiting free. stays t (wakes.woken t (omega (arith, below, are.long.waits)) (omega (arith, below, are.long.ready)) waiting free))
        key_called (called_on q.files.of.items q.claimed.items second ready.flags.items u are.files.long second_long by_file.called) are.placed

pub let_go_of : (o : Opening) (q : Queue) (keys files : Groups) (ready : Marks) (busy : Vec ℕ Global) → keys.of.items ≡ q.keys.of.items → files.of.items ≡ q.files.of.items → IsOf o q
    → IsOf o (record q { keys = keys; files = files; ready = ready; busy = busy })
let_go_of o q keys files ready busy by_key by_file are = record {
  long = are.long;
  keys = same_groups Key o q.keys.of.items keys.of.items by_key are.keys;
  files = same_groups File o q.files.of.items files.of.items by_file are.files;
  waits = are.waits;
}

-- ---- a task is to be claimed again

pub renewed_ordered : (q : Queue) (claimed : Vec Bool Global) (keys files : Groups) (ready : Marks) (u : ℕ) → IsOrdered q → 0 < u → u < length q.claimed.items
    → claimed.items ≡ set q.claimed.items u false → AreKept (set q.claimed.items u false) keys → keys.of.items ≡ q.keys.of.items
    → AreKept (set q.claimed.items u false) files → files.of.items ≡ q.files.of.items
    → ready.flags.items ≡ set q.ready.flags.items u true → AreInBlocks ready.flags.items ready.blocks.items
    → IsOrdered (record q { claimed = claimed; keys = keys; files = files; ready = ready })
renewed_ordered q claimed keys files ready u are some within claimed_is keys_kept by_key files_kept by_file flags blocks = record {
  long = record { ready = ap length flags ∙ length-set q.ready.flags.items u true ∙ are.long.ready ∙ sym long; waits = are.long.waits ∙ sym long; watched = are.long.watched ∙ sym long };
  keys = subst (λ (l : List Bool). AreKept l keys) (sym claimed_is) keys_kept;
  files = subst (λ (l : List Bool). AreKept l files) (sym claimed_is) files_kept;
  blocks = blocks;
  no_task = ap (λ (l : List Bool). is_set l 0) claimed_is ∙ get_or-set_other q.claimed.items u 0 false false (λ e. (let none : ⊥ = omega (arith, e, some) in none)) ∙ are.no_task;
  busy = subst (AreTasks q.busy.items) (sym long) are.busy;
  watched = are.watched;
  unclaimed = subst (λ (l : List Bool). AreUnclaimed l ready.flags.items) (sym claimed_is) (subst (AreUnclaimed (set q.claimed.items u false)) (sym flags) unclaimed);
  placed = subst (λ (l : List ℕ). ArePlaced l files.of.items q.busy.items q.waits.items claimed.items ready.flags.items) (sym by_key)
      (subst (λ (l : List ℕ). ArePlaced q.keys.of.items l q.busy.items q.waits.items claimed.items ready.flags.items) (sym by_file)
      (subst (λ (l : List Bool). ArePlaced q.keys.of.items q.files.of.items q.busy.items q.waits.items l ready.flags.items) (sym claimed_is)
      (subst (ArePlaced q.keys.of.items q.files.of.items q.busy.items q.waits.items (set q.claimed.items u false)) (sym flags)
      (renewed_placed q.keys.of.items q.files.of.items q.busy.items q.waits.items q.claimed.items q.ready.flags.items u are.long.ready are.placed))));
}
  where
    long : length claimed.items ≡ length q.claimed.items
    long = ap length claimed_is ∙ length-set q.claimed.items u false

    unclaimed : AreUnclaimed (set q.claimed.items u false) (set q.ready.flags.items u true)
    unclaimed = record { each = λ t h. by t (marked_from q.ready.flags.items u t h) }
      where
        by : (t : ℕ) → (t ≡ u) ⊎ (is_set q.ready.flags.items t ≡ true) → is_set (set q.claimed.items u false) t ≡ false
        by t (inl e) = ap (is_set (set q.claimed.items u false)) e ∙ set_here q.claimed.items u false within
        by t (inr k) = at_set (λ (b : Bool). b ≡ false) q.claimed.items u t false false (λ e w. refl) (λ other. are.unclaimed.each t k)

pub renewed_of : (o : Opening) (q : Queue) (claimed : Vec Bool Global) (keys files : Groups) (ready : Marks) (u : ℕ) → claimed.items ≡ set q.claimed.items u false → keys.of.items ≡ q.keys.of.items
    → files.of.items ≡ q.files.of.items → IsOf o q → IsOf o (record q { claimed = claimed; keys = keys; files = files; ready = ready })
renewed_of o q claimed keys files ready u claimed_is by_key by_file are = record {
  long = ap length claimed_is ∙ length-set q.claimed.items u false ∙ are.long;
  keys = same_groups Key o q.keys.of.items keys.of.items by_key are.keys;
  files = same_groups File o q.files.of.items files.of.items by_file are.files;
  waits = are.waits;
}

-- one fewer is busy than there was room for
pub renewed_room : (before q : Queue) (claimed : Vec Bool Global) (keys files : Groups) (ready : Marks) (u : ℕ) → HasRoom before → q.claimed ≡ before.claimed → u < length q.claimed.items
    → length q.busy.items < length before.busy.items → HasRoom q → claimed.items ≡ set q.claimed.items u false
    → HasRoom (record q { claimed = claimed; keys = keys; files = files; ready = ready })
renewed_room before q claimed keys files ready u was same within less are claimed_is = record {
  left =
      let one = count_down q.claimed.items u within in
      omega (
        arith,
        ap length claimed_is,
        length-set q.claimed.items u false,
        ap (count_by not) claimed_is,
        was.left,
        one,
        less,
        ap (λ (v : Vec Bool Global). length v.items) same,
        ap (λ (v : Vec Bool Global). count_by not v.items) same,
      );
  room = omega (arith, ap length claimed_is, length-set q.claimed.items u false, are.room);
}
