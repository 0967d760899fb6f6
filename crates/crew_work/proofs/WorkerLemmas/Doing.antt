-- What a worker made, thing by thing.
use Rattle.std.proofs.Common.{◌≡◌, ℕ, List, [], ◌∷◌, ◌++◌, refl, sym, ap, subst, ◌∙◌, Bool, true, false, not, ◌==◌, None, append_assoc}
use Rattle.std.specs.Prelude.{◌||◌}
use Rattle.std.specs.List.{cons_option}
use Rattle.journal_model.specs.declared.entry.What.{What}
use Rattle.journal_model.specs.declared.entry.What.TheVariants.{Lead, Ask, Lost, Note}
use Rattle.journal_model.specs.declared.entry.Entry.{Entry}
use Rattle.journal_model.specs.Journal.{any}
use Rattle.journal_model.specs.Shares.{Moved, are_by, are_own, is_of_child, makes_only}
use Rattle.journal_model.proofs.Looks.{any-append, entry}
use Rattle.journal_model.proofs.Testing.{all-join, all-split, only_others as others_make}
use Rattle.child_link.specs.Asks.{never}
use Rattle.child_link.specs.Doors.{Passed}
use Rattle.child_link.proofs.Roles.{others_none}
use Rattle.crew_work.specs.Worker.Servings.{by_jobs, by_server}
use Rattle.crew_work.specs.Worker.Works.{Did, by_task, by_worker}
use Rattle.crew_work.specs.Laws.Tasks.{claimed_turn, turns_by}
use Rattle.crew_work.proofs.LawsLemmas.Turning.{turns_by-append}
use Rattle.journal_model.proofs.Unbounded.{Within}
use Rattle.crew_work.proofs.WorkerLemmas.Serving.{server_within, wider as wider_made}
use Rattle.crew_work.proofs.WorkerLemmas.Working.{server_claims_none as server_claims, server_works, turns_by-none}
use Rattle.std.proofs.lemmas.Bool.{and_parts as both, eqb-true as same_number}
use Rattle.ann_key.proofs.Numbers.{same_number as same}
use Rattle.ann_key.proofs.Booleans.{or_neither as neither}

-- ---- the kinds

jobs_serve : (c t : ℕ) (w : What) → by_jobs c t w ≡ true → by_server c t w ≡ true
jobs_serve c t (Lead child job line) h = h
jobs_serve c t (Ask child job task line) h = h
jobs_serve c t (Lost child task) h = h
jobs_serve c t (Note task chunk count) h = h
jobs_serve c t w h = absurd cc

pub jobs_within : (c t : ℕ) → Within (by_jobs c t) t
jobs_within c t =
    let s : Within (by_server c t) t = server_within c t in
    record { unclaimed = λ w h. s.unclaimed w (jobs_serve c t w h); unclosed = λ w h. s.unclosed w (jobs_serve c t w h) }

pub task_serves : (owns : Bool) (c t : ℕ) (w : What) → by_task owns c t w ≡ true → by_server c t w ≡ true
task_serves true c t w h = h
task_serves false c t w h = jobs_serve c t w h

-- who serves a task that is one works
jobs_work : (c t : ℕ) → (t == 0) ≡ false → (w : What) → by_jobs c t w ≡ true → by_worker false c w ≡ true
jobs_work c t some (Lead child job line) h = h
jobs_work c t some (Ask child job task line) h =
    let s = both (child == c) (task == t) h in
    let e : (task == 0) ≡ false = ap (λ (k : ℕ). k == 0) (same_number task t s.1) ∙ some in
    rw (s.0, e) refl
jobs_work c t some (Lost child task) h =
    let s = both (child == c) (task == t) h in
    let e : (task == 0) ≡ false = ap (λ (k : ℕ). k == 0) (same_number task t s.1) ∙ some in
    rw (s.0, e) refl
jobs_work c t some (Note task chunk count) h = refl
jobs_work c t some w h = absurd cc

task_run : (owns : Bool) (c t : ℕ) → (t == 0) ≡ false → (w : What) → by_task owns c t w ≡ true → by_worker owns c w ≡ true
task_run true c t some w h = server_works c t some w h
task_run false c t some w h = jobs_work c t some w h

-- ---- what one number made of a list

never_claims : (past : List Entry) (w : What) → never w ≡ true → claimed_turn past w ≡ None
never_claims past w h = absurd cc

-- others claim nothing by this number, and one entry of its own claims what it says
turns_one : (n : ℕ) (past others : List Entry) (w : What) → makes_only never n others ≡ true → turns_by n past (others ++ entry n w ∷ []) ≡ cons_option (claimed_turn (past ++ others) w) []
turns_one n past others w h =
    turns_by-append n past others (entry n w ∷ []) ∙ ap (λ (l : List (ℕ × ℕ)). l ++ turns_by n (past ++ others) (entry n w ∷ [])) (turns_by-none never never_claims n past others h)
    ∙ (rw (same n) refl)

-- ---- what was done

module _ {owns : Bool} {n : ℕ} {a : Bool} {c : ℕ} where
  pub did_both : {x y z : List Entry} {P Q R : Type 0} {ts us : List (ℕ × ℕ)} → Did owns n a c x y P Q ts → Did owns n a c y z Q R us
      → Did owns n a c x z P R (ts ++ us)
  did_both {x = x} {y = y} {ts = ts} {us = us} s k = record {
    moved = record {
      more = s.moved.more ++ k.moved.more;
      is = k.moved.is ∙ ap (λ (l : List Entry). l ++ k.moved.more) s.moved.is ∙ append_assoc x s.moved.more k.moved.more;
      own = all-join (λ (e : Entry). not (e.by == n) || by_worker owns c e.what) s.moved.more k.moved.more s.moved.own k.moved.own;
      lone = λ h. all-join (λ (e : Entry). e.by == n) s.moved.more k.moved.more (s.moved.lone h) (k.moved.lone h);
      kept = λ h p. k.moved.kept (all-split (λ (e : Entry). not (is_of_child c e.what) || e.by == n) s.moved.more k.moved.more h).1
          (s.moved.kept (all-split (λ (e : Entry). not (is_of_child c e.what) || e.by == n) s.moved.more k.moved.more h).0 p);
    };
    claimed = turns_by-append n x s.moved.more k.moved.more
        ∙ ap (λ (l : List (ℕ × ℕ)). l ++ turns_by n (x ++ s.moved.more) k.moved.more) s.claimed
        ∙ ap (λ (l : List (ℕ × ℕ)). ts ++ l) (ap (λ (p : List Entry). turns_by n p k.moved.more) (sym s.moved.is) ∙ k.claimed);
  }

  -- what it made for a task claims nothing
  pub did_run : {x y : List Entry} {P Q : Type 0} (t : ℕ) → (t == 0) ≡ false → Moved n a (by_task owns c t) (is_of_child c) x y P Q → Did owns n a c x y P Q []
  did_run {x} t some s = record {
    moved = record { more = s.more; is = s.is; own = wider_made (by_task owns c t) (by_worker owns c) (task_run owns c t some) n s.more s.own; lone = s.lone; kept = s.kept };
    claimed = turns_by-none (by_task owns c t) (λ past w h. server_claims c t past w (task_serves owns c t w h)) n x s.more s.own;
  }

  module _ (X : List Entry → Type 0) (stays : (past more : List Entry) → any (is_of_child c) more ≡ false → X past → X (past ++ more)) where
    pub did_pass : {x y : List Entry} → Passed n a x y → Did owns n a c x y (X x) (X y) []
    did_pass {x} {y} s = record {
      moved = record {
        more = s.others;
        is = s.is;
        own = others_make (by_worker owns c) n s.others s.apart;
        lone = λ h. subst (λ (l : List Entry). are_by n l ≡ true) (sym (s.none h)) refl;
        kept = λ h p. subst X (sym s.is) (stays x s.others (others_none (is_of_child c) n s.others s.apart h) p);
      };
      claimed = turns_by-none never never_claims n x s.others (others_make never n s.others s.apart);
    }

    -- after others, an entry that a worker makes, and that isn't the child's
    pub did_make : {x p y : List Entry} (w : What) → Passed n a x p → y ≡ p ++ entry n w ∷ [] → by_worker owns c w ≡ true → is_of_child c w ≡ false
        → Did owns n a c x y (X x) (X y) (cons_option (claimed_turn p w) [])
    did_make {x} {p} {y} w s is works_so apart = record {
      moved = record {
        more = s.others ++ one;
        is = whole;
        own = all-join (λ (e : Entry). not (e.by == n) || by_worker owns c e.what) s.others one (others_make (by_worker owns c) n s.others s.apart)
            (rw (works_so, same n) refl);
        lone = λ h. subst (λ (l : List Entry). are_by n (l ++ one) ≡ true) (sym (s.none h)) (rw (same n) refl);
        kept = λ h q. subst X (sym whole) (stays x (s.others ++ one) (none h) q);
      };
      claimed = turns_one n x s.others w (others_make never n s.others s.apart) ∙ ap (λ (q : List Entry). cons_option (claimed_turn q w) []) (sym s.is);
    }
      where
        one : List Entry
        one = entry n w ∷ []

        whole : y ≡ x ++ (s.others ++ one)
        whole = is ∙ ap (λ (l : List Entry). l ++ one) s.is ∙ append_assoc x s.others one

        none : are_own (is_of_child c) n (s.others ++ one) ≡ true → any (is_of_child c) (s.others ++ one) ≡ false
        none h = any-append (is_of_child c) s.others one
            ∙ neither (any (is_of_child c) s.others) (any (is_of_child c) one) (others_none (is_of_child c) n s.others s.apart (all-split (λ (e : Entry). not (is_of_child c e.what) || e.by == n) s.others one h).0) (rw apart refl)
