-- A queue in which no task is claimed.
use Rattle.std.proofs.Common.{◌≡◌, ◌∙◌, ℕ, ◌+◌, ◌<◌, ◌≤◌, ◌⊎◌, List, [], refl, sym, ap, subst, Bool, true, false, not, length, set, replicate, arith, inl, inr, get_or-set_other}
use Rattle.std.specs.Prelude.{vec_capacity}
use Rattle.std.proofs.lemmas.Bool.{cases_eq, cases_lt}
use Rattle.std.proofs.lemmas.List.{get_or-replicate, get_or_past, length-replicate, length-set}
use Rattle.std.proofs.lemmas.List.Sums.{count_by-le-length}
use Rattle.journal_model.specs.declared.opening.Opening.{Opening}
use Rattle.task_queue.specs.declared.alike.By.{By}
use Rattle.task_queue.specs.declared.alike.By.TheVariants.{Key, File}
use Rattle.task_queue.specs.declared.groups.Groups.{Groups}
use Rattle.task_queue.specs.declared.queue.Queue.{Queue}
use Rattle.task_queue.specs.Blocks.{AreInBlocks}
use Rattle.task_queue.specs.Groups.{AreChained, AreGroups, AreWithin, IsFirst, is_set, number_at}
use Rattle.task_queue.specs.Kept.{AreKept}
use Rattle.task_queue.specs.Ways.{AreReady}
use Rattle.task_queue.specs.Queues.{HasRoom, IsOrdered, IsPlaced, IsQueued, is_among}
use Rattle.task_queue.proofs.Grouping.{first_less, no_group}
use Rattle.task_queue.proofs.Places.{set_here}
use Rattle.task_queue.proofs.Turning.{none_said, none_set}

no_number : (n : ℕ) (numbers : List ℕ) (t : ℕ) → numbers ≡ replicate n 0 → number_at numbers t ≡ 0
no_number n numbers t is = ap (λ (l : List ℕ). number_at l t) is ∙ go (cases_lt t n)
  where
    go : (t < n) ⊎ (n ≤ t) → number_at (replicate n 0) t ≡ 0
    go (inl within) = get_or-replicate n t 0 0 within
    go (inr past) = get_or_past (replicate n 0) t 0 (omega (arith, past, length-replicate {A = ℕ} n 0))

positive_from : (k : ℕ) → (k ≡ 0 → ⊥) → 0 < k
positive_from k apart = grind arith

less : (a b : ℕ) → a ≤ b → (a ≡ b → ⊥) → a < b
less a b more apart = grind arith

-- the groups of an opening, while no task is claimed
pub record IsFresh (by : By) (o : Opening) (g : Groups) : Type 0 where
  pub groups : AreGroups by o g.of.items
  pub within : AreWithin g.of.items
  pub chained : AreChained g.of.items g.next.items g.firsts.items 0

fresh_kept : (by : By) (o : Opening) (g : Groups) (claimed : List Bool) → length claimed ≡ length o.tasks + 1 → IsFresh by o g → AreKept claimed g
fresh_kept by o g claimed long fresh = record {
  long = fresh.groups.long ∙ sym long;
  within = fresh.within;
  next = record { each = λ t below. fresh.chained.each_next t (omega arith) below };
  firsts = record { long = fresh.chained.firsts_long; each = λ k below. first_less g.of.items [] claimed k 0 (number_at g.firsts.items k) (λ t free. refl) (fresh.chained.each_first k below) };
}

-- the lists of a new queue
pub record IsNew (q : Queue) (n : ℕ) : Type 0 where
  pub long : length q.keys.of.items ≡ n
  pub claimed : q.claimed.items ≡ set (replicate n false) 0 true
  pub busy : q.busy.items ≡ []
  pub room : n ≤ vec_capacity q.busy
  pub waits : q.waits.items ≡ replicate n 0
  pub watched : q.watched.items ≡ replicate n false
  pub ready : AreReady q.keys.firsts.items q.ready.flags.items

new_ordered : (o : Opening) (q : Queue) (n : ℕ) → 0 < n → IsNew q n → IsFresh Key o q.keys → IsFresh File o q.files → AreInBlocks q.ready.flags.items q.ready.blocks.items → IsOrdered q
new_ordered o q n some new keys files blocks = record {
  long = record {
    ready = new.ready.long ∙ keys.chained.firsts_long ∙ new.long ∙ sym claimed_long;
    waits = ap length new.waits ∙ length-replicate {A = ℕ} n 0 ∙ sym claimed_long;
    watched = ap length new.watched ∙ length-replicate n false ∙ sym claimed_long;
  };
  keys = fresh_kept Key o q.keys q.claimed.items numbered keys;
  files = fresh_kept File o q.files q.claimed.items numbered files;
  blocks = blocks;
  no_task = ap (λ (l : List Bool). is_set l 0) new.claimed ∙ set_here (replicate n false) 0 true (omega (arith, length-replicate n false, some));
  busy = record { each = λ t h. absurd (let bad : false ≡ true = ap (λ (l : List ℕ). is_among l t) (sym new.busy) ∙ h in cc) };
  watched = record { each = λ t some. absurd (omega (arith, some, no_number n q.waits.items t new.waits)) };
  unclaimed = record { each = λ t h. free_at t h };
  placed = record { each = λ t positive below free. placed t positive (omega (arith, below, claimed_long)) };
}
  where
    claimed_long : length q.claimed.items ≡ n
    claimed_long = ap length new.claimed ∙ length-set (replicate n false) 0 true ∙ length-replicate n false

    numbered : length q.claimed.items ≡ length o.tasks + 1
    numbered = claimed_long ∙ sym new.long ∙ keys.groups.long

    placed : (t : ℕ) → 0 < t → t < n → IsPlaced q.keys.of.items q.files.of.items q.busy.items q.waits.items q.ready.flags.items t
    placed t positive below = go (cases_eq first 0) (cases_eq first t)
      where
        group : ℕ
        group = number_at q.keys.of.items t

        first : ℕ
        first = number_at q.keys.firsts.items group

        group_within : group < length q.keys.of.items
        group_within = keys.within.each t (omega (arith, below, new.long))

        is : IsFirst q.keys.of.items [] group 0 first
        is = keys.chained.each_first group group_within

        before : first ≤ t
        before = is.least t (omega arith) (omega (arith, below, new.long)) refl refl

        marked : 0 < first → is_set q.ready.flags.items first ≡ true
        marked more = new.ready.each group (omega (arith, group_within, keys.chained.firsts_long)) (omega (arith, before, below, new.long, keys.chained.firsts_long)) more

        own : number_at q.keys.of.items first ≡ group
        own = is.own (omega (arith, before, below, new.long))

        go : (first ≡ 0) ⊎ (first ≡ 0 → ⊥) → (first ≡ t) ⊎ (first ≡ t → ⊥) → IsPlaced q.keys.of.items q.files.of.items q.busy.items q.waits.items q.ready.flags.items t
        go (inl zero_is) other = absurd (no_group Key o q.keys.of.items t keys.groups positive (omega (arith, below, new.long)) (ap (number_at q.keys.of.items) (sym zero_is) ∙ own))
        go (inr more) (inl same) = inl (subst (λ (k : ℕ). is_set q.ready.flags.items k ≡ true) same (marked (positive_from first more)))
        go (inr more) (inr other) = inr (inr (inl (inr (record { number = first; before = less first t before other; marked = marked (positive_from first more); same = own }))))

    free_at : (t : ℕ) → is_set q.ready.flags.items t ≡ true → is_set q.claimed.items t ≡ false
    free_at t h =
        ap (λ (l : List Bool). is_set l t) new.claimed
        ∙ get_or-set_other (replicate n false) 0 t true false (λ e. (let bad : false ≡ true = sym new.ready.no_task ∙ ap (is_set q.ready.flags.items) (sym e) ∙ h in cc)) ∙ none_set n (replicate n false) t refl

new_room : (q : Queue) (n : ℕ) → IsNew q n → HasRoom q
new_room q n new = record {
  left = omega (arith, ap length new.busy, count_by-le-length not q.claimed.items);
  room = omega (arith, ap length new.claimed, length-set (replicate n false) 0 true, length-replicate n false, new.room);
}

pub new_queued : (o : Opening) (q : Queue) (n : ℕ) → IsNew q n → IsFresh Key o q.keys → IsFresh File o q.files → AreInBlocks q.ready.flags.items q.ready.blocks.items → IsQueued o [] q
new_queued o q n new keys files blocks = record {
  ordered = new_ordered o q n (omega (arith, new.long, keys.groups.long)) new keys files blocks;
  roomy = new_room q n new;
  fits = record {
    long = ap length new.claimed ∙ length-set (replicate n false) 0 true ∙ length-replicate n false ∙ sym new.long ∙ keys.groups.long;
    keys = keys.groups;
    files = files.groups;
    waits = λ t some. absurd (omega (arith, some, no_number n q.waits.items t new.waits));
  };
  said = none_said q n new.claimed new.busy;
}
