-- What a mouth does keeps it wired to the journal, and so does what others do.
use Rattle.std.proofs.Common.{◌≡◌, ℕ, ◌<◌, List, [], ◌∷◌, ◌++◌, refl, sym, subst, ◌∙◌, Bool, true, false, cond, None, Option, inl, inr, take}
use Rattle.std.specs.Prelude.{map, filter}
use Rattle.std.specs.List.{list_all}
use Rattle.std.specs.Io.KnownBytes.{Appends}
use Rattle.journal_model.specs.declared.verdict.Why.TheVariants.{Memory}
use Rattle.journal_model.specs.declared.verdict.Verdict.{Verdict}
use Rattle.journal_model.specs.declared.verdict.Verdict.TheVariants.{Ended, Unsent}
use Rattle.journal_model.specs.declared.entry.What.{What}
use Rattle.journal_model.specs.declared.entry.What.TheVariants.{Mute, End, Verdict as Settled}
use Rattle.journal_model.specs.declared.entry.Entry.{Entry}
use Rattle.journal_model.specs.declared.opening.Opening.{Opening}
use Rattle.journal_model.specs.Journal.{any, is_ended, is_mute, is_live, is_unsent, open_jobs, unsent}
use Rattle.journal_model.specs.Due.{due_by, ended_jobs, made_by}
use Rattle.journal_model.proofs.Soft.{soft_stretch, soft_mute}
use Rattle.host_core.specs.Steps.{group_of}
use Rattle.journal_model.specs.Shares.{is_said, is_by_line, by_mouth, Moved}
use Rattle.child_link.specs.Doors.{Passed, Ends, Sends, Mutes}
use Rattle.journal_model.specs.Halves.{MouthValue, MouthWired}
use Rattle.child_link.proofs.Roles.{moved_by, moved_on}
use Rattle.journal_model.proofs.Mouths.{Written, written, Stood, stood, mouth_sent, mouth_mute, mouth_apart}
use Rattle.ann_key.proofs.Numbers.{same_number as same}
use Rattle.ann_key.proofs.Booleans.{true_and_false as true_not_false}

-- ---- what it makes is a mouth's

verdicts_by_mouth : (c : ℕ) (v : Verdict) (jobs : List ℕ) → is_by_line v ≡ false → list_all (by_mouth c) (map (λ j. Settled c j v) jobs) ≡ true
verdicts_by_mouth c v [] h = refl
verdicts_by_mouth c v (j ∷ jobs) h = rw (same c, h, verdicts_by_mouth c v jobs h) refl

mute_by_mouth : (o : Opening) (past : List Entry) (c : ℕ) → list_all (by_mouth c) (Mute c ∷ due_by o past (Mute c)) ≡ true
mute_by_mouth o past c = rw (same c) (go (is_live past c))
  where
    go : (b : Bool) → list_all (by_mouth c) (cond b (map (λ j. Settled c j Unsent) (filter (is_unsent past c) (open_jobs past c))) []) ≡ true
    go true = verdicts_by_mouth c Unsent (filter (is_unsent past c) (open_jobs past c)) refl
    go false = refl

end_by_mouth : (past : List Entry) (c : ℕ) → list_all (by_mouth c) (End c Memory ∷ ended_jobs past c Memory) ≡ true
end_by_mouth past c = rw (same c, verdicts_by_mouth c (Ended Memory) (open_jobs past c) refl) refl

-- ---- what it did

-- others alone went on
pub mouth_on : {n : ℕ} {a : Bool} {old new : List Entry} {makes : What → Bool} (v : MouthValue) → Passed n a old new → Moved n a makes (is_said v.child) old new (MouthWired old v) (MouthWired new v)
mouth_on {old = old} v s = moved_on s (λ none h. subst (λ (j : List Entry). MouthWired j v) (sym s.is) (mouth_apart old s.others v none h))

-- the child ended for lack of memory
pub mouth_ends : {n : ℕ} {a : Bool} {o : Opening} {old new : List Entry} (v : MouthValue) → Ends o n a old new v.child Memory
    → Moved n a (by_mouth v.child) (is_said v.child) old new (MouthWired old v) (MouthWired new v)
mouth_ends v (inr s) = mouth_on v s.0
mouth_ends {n} {a} {o} {old} {new} v (inl s) =
    moved_by s (end_by_mouth s.past v.child) (λ none h.
    subst (λ (j : List Entry). MouthWired j v) (sym s.is)
    (mouth_apart s.past (group_of o s.past n (End v.child Memory)) v (unsaid (open_jobs s.past v.child))
    (subst (λ (j : List Entry). MouthWired j v) (sym s.passed.is) (mouth_apart old s.passed.others v none h))))
  where
    unsaid : (jobs : List ℕ) → any (is_said v.child) (made_by n (map (λ j. Settled v.child j (Ended Memory)) jobs)) ≡ false
    unsaid [] = refl
    unsaid (j ∷ jobs) = unsaid jobs

module _ {n : ℕ} {a : Bool} {old : List Entry} (v v' : MouthValue) (w : Option ℕ × List ℕ) (ws : Written)
    (live : is_ended old v.child ≡ false) (loud : is_mute old v.child ≡ false) (next : unsent old v.child ≡ w ∷ ws) where
  at_place : {past : List Entry} (s : Passed n a old past) → any (is_said v.child) s.others ≡ false → MouthWired old v → Stood past v w (ws ++ written s.others v.child)
  at_place s none h = subst (λ (j : List Entry). Stood j v w (ws ++ written s.others v.child)) (sym s.is) (stood old s.others v w ws none live loud next h)

  module _ {o : Opening} {new : List Entry} (same' : v' ≡ record v { taken = v'.taken; faults = v'.faults }) (silent : v.taken ≡ None → v'.taken ≡ None) where
    -- the next line was written whole, while others went on
    pub mouth_sends : Appends v.taken v'.taken (w.1 ++ 10 ∷ []) → Sends o n a old new v.child
        → Moved n a (by_mouth v.child) (is_said v.child) old new (MouthWired old v) (MouthWired new v')
    mouth_sends grows (inl s) =
        moved_by s (rw (same v.child) refl) (λ none h.
        subst (λ (j : List Entry). MouthWired j v') (sym s.is)
        (mouth_sent s.past n v v' w (ws ++ written s.passed.others v.child) same' grows silent (at_place s.passed none h)))
    mouth_sends grows (inr s) =
        moved_on s.0 (λ none h. (let next' = (at_place s.0 none h).unsent in let bad : [] ≡ w ∷ (ws ++ written s.0.others v.child) = sym s.1 ∙ next' in absurd cc))

    -- writing stopped in it
    pub mouth_mutes : (k : ℕ) → Appends v.taken v'.taken (take k (w.1 ++ 10 ∷ [])) → 0 < v'.faults → Mutes o n a old new v.child
        → Moved n a (by_mouth v.child) (is_said v.child) old new (MouthWired old v) (MouthWired new v')
    mouth_mutes k grows fault (inl s) =
        moved_by s (mute_by_mouth o s.past v.child) (λ none h.
        subst (λ (j : List Entry). MouthWired j v') (sym s.is)
        (mouth_mute s.past (made_by n (due_by o s.past (Mute v.child))) n k v v' w (ws ++ written s.passed.others v.child) same'
        (soft_stretch v.child n (due_by o s.past (Mute v.child)) (soft_mute o s.past v.child)) grows silent fault (at_place s.passed none h)))
    mouth_mutes k grows fault (inr s) =
        moved_on s.0 (λ none h. true_not_false (is_mute new v.child) s.1 (at_place s.0 none h).loud)
