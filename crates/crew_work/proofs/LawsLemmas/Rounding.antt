-- The contract of a round from what its roles promise.
use Rattle.std.proofs.Common.{◌≡◌, ◌≢◌, zero, suc, ℕ, ◌+◌, ◌-◌, List, [], ◌∷◌, ◌++◌, refl, sym, ap, subst, ◌∙◌, Bool, true, false, not, ◌==◌, cond, Some, None, Option, arith, slice_get, ◌⊎◌}
use Rattle.std.specs.Prelude.{◌&&◌, ◌||◌, nat_lt, All, map, option_and_then, find}
use Rattle.std.specs.List.{list_any}
use Rattle.std.specs.Option.{option_or}
use Rattle.std.proofs.lemmas.Bool.Decides.{nat_tests}
use Rattle.std.proofs.lemmas.List.Folds.{list_any-append}
use Rattle.std.proofs.lemmas.Option.{same_Some}
use Rattle.threads.specs.Log.{flat}
use Rattle.threads.specs.Passes.{seen_of}
use Rattle.threads.proofs.Logs.{get-from_all, all-from_get}
use Rattle.journal_model.specs.declared.verdict.Why.{Why}
use Rattle.journal_model.specs.declared.verdict.Why.TheVariants.{Closed as WasClosed}
use Rattle.journal_model.specs.declared.entry.What.{What}
use Rattle.journal_model.specs.declared.entry.What.TheVariants.{Claim, Sent, Mute, Got, End, Again}
use Rattle.journal_model.specs.declared.entry.Entry.{Entry}
use Rattle.journal_model.specs.declared.opening.Opening.{Opening}
use Rattle.journal_model.specs.Journal.{any, starts, ends, end_why, is_started, why_of}
use Rattle.journal_model.specs.Legality.{Legal, claims}
use Rattle.journal_model.specs.Halves.{EarValue, MouthValue, EarWired, MouthWired}
use Rattle.journal_model.specs.Makers.{is_taken_by}
use Rattle.journal_model.specs.Shares.{are_own, makes_only, is_heard, is_said, is_of_child, is_closed, by_ear, by_mouth}
use Rattle.journal_model.proofs.Ears.{ear_apart}
use Rattle.journal_model.proofs.Holders.{untaken_unheld}
use Rattle.journal_model.proofs.Linking.{why_of-append}
use Rattle.journal_model.proofs.Looks.{any-append}
use Rattle.journal_model.proofs.Mouths.{mouth_apart}
use Rattle.journal_model.proofs.Testing.{by_either, any-fewer, none-each}
use Rattle.journal_model.proofs.Turns.{turn_apart, tagged_turn}
use Rattle.host_core.specs.Steps.{are_all_claimed}
use Rattle.ann_key.specs.Pairs.{Pairwise}
use Rattle.crew_work.specs.Laws.Posts.{Post, Lone, lone_post, makes, gives_up, is_mains, tagged_crew, pool_crew, alone_crew, OnlyAt, Nowhere}
use Rattle.crew_work.specs.Laws.Tasks.{Lasts, HasRun, HoldsNoMore, IsThrough, is_renewal, takes_turn}
use Rattle.crew_work.specs.Laws.Rounds.{CorePass, LinkValue, IsWired, since, KeepsPost, IsAtRest, EarEnds, MouthEnds, WorkerEnds, LoneEnds, IsAmong, IsLostChild, Round}
use Rattle.crew_work.specs.Laws.Laws.{MayBeginTagged, Distinct, children_of, numbers_of}
use Rattle.crew_work.proofs.LawsLemmas.Owning.{nobody}
use Rattle.crew_work.proofs.LawsLemmas.Gathering.{Closed, gathers, lasts, pass_of, rounded, turns_in}
use Rattle.crew_work.proofs.LawsLemmas.Crews.{mains_nowhere, heard_at_ear, said_at_mouth, child_at_lone, child_at_main, elsewhere_tagged, elsewhere_pool, elsewhere_alone}
use Rattle.crew_work.proofs.LawsLemmas.Halls.{Saw, drop_start}
use Rattle.crew_work.proofs.LawsLemmas.Renewing.{Through, left_in, renewer_lives, renews_by}
use Rattle.crew_work.proofs.LawsLemmas.Turning.{is_turn, turn_made, untaken_turns}
use Rattle.ann_key.proofs.Numbers.{same_number as same}
use Rattle.std.proofs.lemmas.Bool.{ne_eqb as differ}
use Rattle.ann_key.proofs.Booleans.{left_false as either_left, right_false as either_right, true_and_false as true_not_false, or_left, or_right, or_neither as neither}

-- ---- passes that claim nothing, and that leave no task to be run again

-- a pass makes nothing that its post doesn't
pub unmaking_only : (crew : ℕ → Post) (p : CorePass) → makes_only (makes (crew p.number)) p.number (since p) ≡ true → (pick : What → Bool) → ((w : What) → pick w ≡ true → makes (crew p.number) w ≡ false)
    → list_any (λ e. e.by == p.number && pick e.what) (since p) ≡ false
unmaking_only crew p only pick none =
    none-each (λ (e : Entry). e.by == p.number && pick e.what) (λ (e : Entry). not (e.by == p.number) || makes (crew p.number) e.what)
    (λ e h. by_either (pick e.what)
    (λ is. go (e.by == p.number) (pick e.what) (makes (crew p.number) e.what) (none e.what is) h)
    (λ off. rw off (and_false (e.by == p.number)))) (since p) only
  where
    go : (b q m : Bool) → m ≡ false → (not b || m) ≡ true → (b && q) ≡ false
    go true q true e h = absurd cc
    go true q false e h = absurd cc
    go false q m e h = refl

    and_false : (b : Bool) → (b && false) ≡ false
    and_false true = refl
    and_false false = refl

pub unclaiming_only : (crew : ℕ → Post) (p : CorePass) → makes_only (makes (crew p.number)) p.number (since p) ≡ true → ((t : ℕ) (w : What) → claims t w ≡ true → makes (crew p.number) w ≡ false)
    → (t : ℕ) → is_taken_by (since p) p.number t ≡ false
unclaiming_only crew p only none t = unmaking_only crew p only (claims t) (none t)

pub unclaiming : (crew : ℕ → Post) (p : CorePass) → KeepsPost crew p → ((t : ℕ) (w : What) → claims t w ≡ true → makes (crew p.number) w ≡ false)
    → (t : ℕ) → is_taken_by (since p) p.number t ≡ false
unclaiming crew p k none t = unclaiming_only crew p k.only none t

-- a pass that claims nothing holds no more than at its begin
pub unclaiming_holds : (p : CorePass) → ((t : ℕ) → is_taken_by (since p) p.number t ≡ false) → HoldsNoMore p.number p.start (seen_of p)
unclaiming_holds p none t free =
    untaken_unheld p.start (flat p.links) p.number t (ap (λ (x : List Entry). is_taken_by x p.number t) (sym (drop_start p.start (flat p.links))) ∙ none t) free

pub claim_not_heard : (c t : ℕ) (w : What) → claims t w ≡ true → by_ear c w ≡ false
claim_not_heard c t (Claim task child) h = refl
claim_not_heard c t w h = absurd cc

pub claim_not_end : (c t : ℕ) (w : What) → claims t w ≡ true → gives_up c w ≡ false
claim_not_end c t (Claim task child) h = refl
claim_not_end c t w h = absurd cc

pub claim_not_said : (c t : ℕ) (w : What) → claims t w ≡ true → by_mouth c w ≡ false
claim_not_said c t (Claim task child) h = refl
claim_not_said c t w h = absurd cc

renewal_not_heard : (c : ℕ) (w : What) → is_renewal w ≡ true → by_ear c w ≡ false
renewal_not_heard c (Again task answer) h = refl
renewal_not_heard c w h = absurd cc

renewal_not_end : (c : ℕ) (w : What) → is_renewal w ≡ true → gives_up c w ≡ false
renewal_not_end c (Again task answer) h = refl
renewal_not_end c w h = absurd cc

renewal_not_said : (c : ℕ) (w : What) → is_renewal w ≡ true → by_mouth c w ≡ false
renewal_not_said c (Again task answer) h = refl
renewal_not_said c w h = absurd cc

-- ---- closings

no_closing : (c : ℕ) (more : List Entry) → any is_mains more ≡ false → why_of more c ≡ Some WasClosed → ⊥
no_closing c [] h is = absurd cc
no_closing c (e ∷ more) h is =
    step e.what (either_left (is_mains e.what) (any is_mains more) h) (no_closing c more (either_right (is_mains e.what) (any is_mains more) h)) is
  where
    found : Bool → What → Option Why
    found b w = option_and_then (λ (x : Entry). end_why c x.what) (cond b (Some (record { by = e.by; what = w })) (find (λ (x : Entry). ends c x.what) more))

    step : (w : What) → is_mains w ≡ false → (why_of more c ≡ Some WasClosed → ⊥) → found (ends c w) w ≡ Some WasClosed → ⊥
    step (End child x) h r is = go (child == c) refl is
      where
        go : (b : Bool) → (child == c) ≡ b → found b (End child x) ≡ Some WasClosed → ⊥
        go true e is =
            let here : Some x ≡ Some WasClosed = sym (let k : end_why c (End child x) ≡ Some x = rw e refl in k) ∙ is in
            let closed : x ≡ WasClosed = cc in
            let t : is_closed x ≡ true = ap is_closed closed in
            true_not_false (is_closed x) t h
        go false e is = r is
    step w h r is = r is

not_closed : (past more : List Entry) (c : ℕ) → (why_of past c ≡ Some WasClosed → ⊥) → any is_mains more ≡ false → why_of (past ++ more) c ≡ Some WasClosed → ⊥
not_closed past more c before none is = go (why_of past c) refl (sym (why_of-append past more c) ∙ is)
  where
    go : (u : Option Why) → why_of past c ≡ u → option_or (why_of past c) (why_of more c) ≡ Some WasClosed → ⊥
    go (Some x) e k = before (e ∙ (ap (λ (v : Option Why). option_or v (why_of more c)) (sym e) ∙ k))
    go None e k = no_closing c more none (ap (λ (v : Option Why). option_or v (why_of more c)) (sym e) ∙ k)

-- ---- the round

-- each half of a link, and both, stay while nothing is made of the child
pub wired_apart : (past more : List Entry) (l : LinkValue) → any (is_of_child l.ear.child) more ≡ false → IsWired past l → IsWired (past ++ more) l
wired_apart past more l none w = record {
  one_child = w.one_child;
  started = any-append (starts l.ear.child) past more ∙ or_left (is_started past l.ear.child) (is_started more l.ear.child) w.started;
  wired = record {
    ear = ear_apart past more l.ear (heard_of_child l.ear.child more none) w.wired.ear;
    mouth = mouth_apart past more l.mouth (said_of_child l.mouth.child more (ap (λ (c : ℕ). any (is_of_child c) more) w.one_child ∙ none)) w.wired.mouth;
    turn = turn_apart past more l.ear.child none w.wired.turn;
  };
}
  where
    heard_of_child : (c : ℕ) (more : List Entry) → any (is_of_child c) more ≡ false → any (is_heard c) more ≡ false
    heard_of_child c more h = any-fewer (λ (e : Entry). is_of_child c e.what) (λ (e : Entry). is_heard c e.what) (λ e k. step e.what k) more h
      where
        step : (w : What) → is_of_child c w ≡ false → is_heard c w ≡ false
        step (Got child line) h = h
        step (End child why) h = rw h refl
        step w h = refl

    said_of_child : (c : ℕ) (more : List Entry) → any (is_of_child c) more ≡ false → any (is_said c) more ≡ false
    said_of_child c more h = any-fewer (λ (e : Entry). is_of_child c e.what) (λ (e : Entry). is_said c e.what) (λ e k. step e.what k) more h
      where
        step : (w : What) → is_of_child c w ≡ false → is_said c w ≡ false
        step (Sent child) h = h
        step (Mute child) h = h
        step w h = refl

-- what each pass of a list promises, place by place
abbrev pub Each : (CorePass → Type 0) → List CorePass → Type 0
Each P ps = (i : ℕ) (p : CorePass) → slice_get ps i ≡ Some p → P p

each_cons : (P : CorePass → Type 0) (p : CorePass) (ps : List CorePass) → P p → Each P ps → Each P (p ∷ ps)
each_cons P p ps h r zero q there = subst P (same_Some p q there) h
each_cons P p ps h r (suc i) q there = r i q there

abbrev Ran : (ℕ → ℕ → ℕ → List Entry → Type 0) → CorePass → Type 0
Ran means p = HasRun means p.number p.start (since p) (seen_of p)

module _ (o : Opening) (crew : ℕ → Post) (start rest : List Entry) (ps : List CorePass) (c : Closed o crew start rest ps) where
  ran_in : (means : ℕ → ℕ → ℕ → List Entry → Type 0) → Lasts means → Each (Ran means) ps → (n : ℕ) → HasRun means n start rest (start ++ rest)
  ran_in means stays ran n t k h =
      let has = pass_of o crew start rest ps c n (turn_made n start rest t k h) in
      let here : takes_turn start rest has.pass.number t k ≡ true = subst (λ (m : ℕ). takes_turn start rest m t k ≡ true) (sym has.is) h in
      let seen : takes_turn start (since has.pass) has.pass.number t k ≡ true =
      ap (list_any (is_turn t k)) (sym (turns_in o crew start rest ps c has.place has.pass has.there)) ∙ here in
      let own : takes_turn has.pass.start (since has.pass) has.pass.number t k ≡ true =
      subst (λ (x : List Entry). takes_turn x (since has.pass) has.pass.number t k ≡ true) (sym (c.saw has.place has.pass has.there).begins) seen in
      subst (λ (m : ℕ). means m t k (start ++ rest)) has.is
      (lasts o crew start rest ps c (means has.pass.number t k) (λ past more m. stays has.pass.number t k past more m) has.place has.pass has.there (ran has.place has.pass has.there t k own))

  none_of_mains : any is_mains rest ≡ false
  none_of_mains = nobody crew is_mains (mains_nowhere crew) rest c.posts

  -- a child that wasn't closed isn't
  still_unclosed : (d : ℕ) → (why_of start d ≡ Some WasClosed → ⊥) → why_of (start ++ rest) d ≡ Some WasClosed → ⊥
  still_unclosed d before = not_closed start rest d before none_of_mains

  -- where one pass is through, and each that left a task to be run again
  left_here : (links : List LinkValue) → Each (λ q. list_any (renews_by q.number) (since q) ≡ true → Through o crew start rest ps c links still_unclosed q) ps
      → (i : ℕ) (p : CorePass) → slice_get ps i ≡ Some p → (child : ℕ) → IsAmong child links → (why_of start child ≡ Some WasClosed → ⊥) → IsThrough o (seen_of p) child
      → (are_all_claimed o (start ++ rest) ≡ true) ⊎ ((d : ℕ) × IsAmong d links × IsLostChild (start ++ rest) d)
  left_here links each i p there child among before through = left_in o crew start rest ps c links still_unclosed each i p there (child, among, before, through)

  others_in : (child : ℕ) → Nowhere crew (is_of_child child) → any (is_of_child child) rest ≡ false
  others_in child none = nobody crew (is_of_child child) none rest c.posts

  ear_in : (v : EarValue) (i : ℕ) (p : CorePass) → slice_get ps i ≡ Some p → OnlyAt crew (is_heard v.child) p.number
      → (are_own (is_heard v.child) p.number (since p) ≡ true → EarWired (seen_of p) v) → EarWired (start ++ rest) v
  ear_in v i p there only wired = gathers o crew start rest ps c (λ past. EarWired past v) (is_heard v.child) (λ past more none h. ear_apart past more v none h) i p there only wired

  mouth_in : (v : MouthValue) (i : ℕ) (p : CorePass) → slice_get ps i ≡ Some p → OnlyAt crew (is_said v.child) p.number
      → (are_own (is_said v.child) p.number (since p) ≡ true → MouthWired (seen_of p) v) → MouthWired (start ++ rest) v
  mouth_in v i p there only wired = gathers o crew start rest ps c (λ past. MouthWired past v) (is_said v.child) (λ past more none h. mouth_apart past more v none h) i p there only wired

  link_in : (l : LinkValue) (i : ℕ) (p : CorePass) → slice_get ps i ≡ Some p → OnlyAt crew (is_of_child l.ear.child) p.number
      → (are_own (is_of_child l.ear.child) p.number (since p) ≡ true → IsWired (seen_of p) l) → IsWired (start ++ rest) l
  link_in l i p there only wired = gathers o crew start rest ps c (λ past. IsWired past l) (is_of_child l.ear.child) (λ past more none h. wired_apart past more l none h) i p there only wired

one_link : (P : LinkValue → Type 0) (l : LinkValue) → P l → All P (l ∷ [])
one_link P l h = all-from_get P (l ∷ []) go
  where
    go : (k : ℕ) (m : LinkValue) → slice_get (l ∷ []) k ≡ Some m → P m
    go zero m there = subst P (same_Some l m there) h
    go (suc k) m there = absurd cc

idle_ran : (means : ℕ → ℕ → ℕ → List Entry → Type 0) (crew : ℕ → Post) (p : CorePass) → KeepsPost crew p → ((t : ℕ) (w : What) → claims t w ≡ true → makes (crew p.number) w ≡ false) → Ran means p
idle_ran means crew p k none t j h =
    true_not_false (takes_turn p.start (since p) p.number t j) h (ap (list_any (is_turn t j)) (untaken_turns p.number p.start (since p) (unclaiming crew p k none)))

-- a pass that leaves no task to be run again has no more to promise of it
idle_through : {A : Type 0} (crew : ℕ → Post) (p : CorePass) → KeepsPost crew p → ((w : What) → is_renewal w ≡ true → makes (crew p.number) w ≡ false)
    → list_any (renews_by p.number) (since p) ≡ true → A
idle_through crew p k none h = true_not_false (list_any (renews_by p.number) (since p)) h (unmaking_only crew p k.only is_renewal none)

one_among : (c : ℕ) (l : LinkValue) → l.ear.child ≡ c → IsAmong c (l ∷ [])
one_among c l is = or_left (l.ear.child == c) false (subst (λ (x : ℕ). (l.ear.child == x) ≡ true) is (same l.ear.child))

other_than : (c d : ℕ) → (d == c) ≡ false → c ≢ d
other_than c d off e = true_not_false (d == c) (subst (λ (x : ℕ). (d == x) ≡ true) (sym e) (same d)) off

-- ---- over a tagged child

module _ (o : Opening) (means : ℕ → ℕ → ℕ → List Entry → Type 0) (stays : Lasts means) (l : LinkValue) (main ear mouth : CorePass) (workers : List CorePass)
    (one : main.number ≡ 1) (two : ear.number ≡ 2) (three : mouth.number ≡ 3)
    (keeps : KeepsPost (tagged_crew l.ear.child) main) (hears : EarEnds (tagged_crew l.ear.child) l.ear ear) (speaks : MouthEnds (tagged_crew l.ear.child) l.mouth mouth)
    (work : All (WorkerEnds o means (tagged_crew l.ear.child) l.ear.child) workers) where
  abbrev crew : ℕ → Post
  crew = tagged_crew l.ear.child

  pub tagged_keeps : Each (KeepsPost crew) (main ∷ ear ∷ mouth ∷ workers)
  tagged_keeps =
      each_cons (KeepsPost crew) main (ear ∷ mouth ∷ workers) keeps
      (each_cons (KeepsPost crew) ear (mouth ∷ workers) hears.keeps
      (each_cons (KeepsPost crew) mouth workers speaks.keeps
      (λ i p there. (get-from_all (WorkerEnds o means crew l.ear.child) workers work i p there).keeps)))

  none_main : (t : ℕ) (w : What) → claims t w ≡ true → makes (crew main.number) w ≡ false
  none_main t w h = subst (λ (n : ℕ). makes (crew n) w ≡ false) (sym one) (claim_not_end l.ear.child t w h)

  none_ear : (t : ℕ) (w : What) → claims t w ≡ true → makes (crew ear.number) w ≡ false
  none_ear t w h = subst (λ (n : ℕ). makes (crew n) w ≡ false) (sym two) (claim_not_heard l.ear.child t w h)

  none_mouth : (t : ℕ) (w : What) → claims t w ≡ true → makes (crew mouth.number) w ≡ false
  none_mouth t w h = subst (λ (n : ℕ). makes (crew n) w ≡ false) (sym three) (claim_not_said l.ear.child t w h)

  tagged_ran : Each (Ran means) (main ∷ ear ∷ mouth ∷ workers)
  tagged_ran =
      each_cons (Ran means) main (ear ∷ mouth ∷ workers) (idle_ran means crew main keeps none_main)
      (each_cons (Ran means) ear (mouth ∷ workers) (idle_ran means crew ear hears.keeps none_ear)
      (each_cons (Ran means) mouth workers (idle_ran means crew mouth speaks.keeps none_mouth)
      (λ i p there. (get-from_all (WorkerEnds o means crew l.ear.child) workers work i p there).ran)))

  module _ (start rest : List Entry) (c : Closed o crew start rest (main ∷ ear ∷ mouth ∷ workers)) (unclosed : why_of start l.ear.child ≡ Some WasClosed → ⊥) where
    abbrev Renewed : CorePass → Type 0
    Renewed q = list_any (renews_by q.number) (since q) ≡ true
        → Through o crew start rest (main ∷ ear ∷ mouth ∷ workers) c (l ∷ []) (still_unclosed o crew start rest (main ∷ ear ∷ mouth ∷ workers) c) q

    tagged_through : Each Renewed (main ∷ ear ∷ mouth ∷ workers)
    tagged_through =
        each_cons Renewed main (ear ∷ mouth ∷ workers) (idle_through crew main keeps none_main_again)
        (each_cons Renewed ear (mouth ∷ workers) (idle_through crew ear hears.keeps none_ear_again)
        (each_cons Renewed mouth workers (idle_through crew mouth speaks.keeps none_mouth_again)
        (λ i p there h. (l.ear.child, one_among l.ear.child l refl, unclosed, (get-from_all (WorkerEnds o means crew l.ear.child) workers work i p there).through h))))
      where
        none_main_again : (w : What) → is_renewal w ≡ true → makes (crew main.number) w ≡ false
        none_main_again w h = subst (λ (n : ℕ). makes (crew n) w ≡ false) (sym one) (renewal_not_end l.ear.child w h)

        none_ear_again : (w : What) → is_renewal w ≡ true → makes (crew ear.number) w ≡ false
        none_ear_again w h = subst (λ (n : ℕ). makes (crew n) w ≡ false) (sym two) (renewal_not_heard l.ear.child w h)

        none_mouth_again : (w : What) → is_renewal w ≡ true → makes (crew mouth.number) w ≡ false
        none_mouth_again w h = subst (λ (n : ℕ). makes (crew n) w ≡ false) (sym three) (renewal_not_said l.ear.child w h)

  pub tagged_round : (start rest : List Entry) → Closed o crew start rest (main ∷ ear ∷ mouth ∷ workers)
      → Legal o start → IsAtRest start → MayBeginTagged start l.ear.child → l.mouth.child ≡ l.ear.child
      → (i : ℕ) (p : CorePass) → slice_get (main ∷ ear ∷ mouth ∷ workers) i ≡ Some p → IsThrough o (seen_of p) l.ear.child
      → Round o means crew (numbers_of (main ∷ ear ∷ mouth ∷ workers)) start rest (l ∷ [])
  tagged_round start rest c legal calm begins one_child i p there through = record {
    rounded = rounded o crew start rest ps c legal calm;
    linked = one_link (IsWired (start ++ rest)) l wired;
    ran = ran_in o crew start rest ps c means stays tagged_ran;
    others = λ child off. others_in o crew start rest ps c child (elsewhere_tagged child l.ear.child (other_than child l.ear.child (either_left (l.ear.child == child) false off)));
    left = left_here o crew start rest ps c (l ∷ []) (tagged_through start rest c begins.unclosed) i p there l.ear.child (one_among l.ear.child l refl) begins.unclosed through;
  }
    where
      ps : List CorePass
      ps = main ∷ ear ∷ mouth ∷ workers

      heard : EarWired (start ++ rest) l.ear
      heard = ear_in o crew start rest ps c l.ear 1 ear refl (subst (OnlyAt crew (is_heard l.ear.child)) (sym two) (heard_at_ear l.ear.child)) hears.wired

      said : MouthWired (start ++ rest) l.mouth
      said = mouth_in o crew start rest ps c l.mouth 2 mouth refl
          (subst (λ (d : ℕ). OnlyAt crew (is_said d) mouth.number) (sym one_child) (subst (OnlyAt crew (is_said l.ear.child)) (sym three) (said_at_mouth l.ear.child))) speaks.wired

      wired : IsWired (start ++ rest) l
      wired = record {
        one_child = one_child;
        started = any-append (starts l.ear.child) start rest ∙ or_left (is_started start l.ear.child) (is_started rest l.ear.child) begins.started;
        wired = record { ear = heard; mouth = said; turn = tagged_turn start rest l.ear.child begins.tagged begins.turn };
      }

-- ---- a pool

module _ {A B : Type 0} (f : A → B) where
  mapped : (xs : List A) (i : ℕ) (y : B) → slice_get (map f xs) i ≡ Some y → (x : A) × (slice_get xs i ≡ Some x) × (f x ≡ y)
  mapped [] i y there = absurd cc
  mapped (x ∷ xs) zero y there = (x, refl, same_Some (f x) y there)
  mapped (x ∷ xs) (suc i) y there = mapped xs i y there

  map_there : (xs : List A) (i : ℕ) (x : A) → slice_get xs i ≡ Some x → slice_get (map f xs) i ≡ Some (f x)
  map_there [] i x there = absurd cc
  map_there (y ∷ xs) zero x there = ap (λ z. Some (f z)) (same_Some y x there)
  map_there (y ∷ xs) (suc i) x there = map_there xs i x there

-- the second of a pair, by its place, and the first
module _ {A B : Type 0} (R : A → B → Type 0) where
  pub of_second : (xs : List A) (ys : List B) → Pairwise R xs ys → (i : ℕ) (y : B) → slice_get ys i ≡ Some y → (x : A) × (slice_get xs i ≡ Some x) × R x y
  of_second [] [] all i y there = absurd cc
  of_second [] (z ∷ ys) all i y there = absurd all
  of_second (x ∷ xs) [] all i y there = absurd all
  of_second (x ∷ xs) (z ∷ ys) all zero y there = (x, refl, subst (R x) (same_Some z y there) all.0)
  of_second (x ∷ xs) (z ∷ ys) all (suc i) y there = of_second xs ys all.1 i y there

  pub of_first : (xs : List A) (ys : List B) → Pairwise R xs ys → (i : ℕ) (x : A) → slice_get xs i ≡ Some x → (y : B) × (slice_get ys i ≡ Some y) × R x y
  of_first [] [] all i x there = absurd cc
  of_first [] (z ∷ ys) all i x there = absurd all
  of_first (w ∷ xs) [] all i x there = absurd all
  of_first (w ∷ xs) (z ∷ ys) all zero x there = (z, refl, subst (λ v. R v z) (same_Some w x there) all.0)
  of_first (w ∷ xs) (z ∷ ys) all (suc i) x there = of_first xs ys all.1 i x there

no_child : (c : ℕ) (links : List LinkValue) → list_any (λ l. l.ear.child == c) links ≡ false → list_any (λ d. d == c) (children_of links) ≡ false
no_child c [] h = refl
no_child c (l ∷ links) h =
    neither (l.ear.child == c) (list_any (λ d. d == c) (children_of links)) (either_left (l.ear.child == c) (list_any (λ m. m.ear.child == c) links) h)
    (no_child c links (either_right (l.ear.child == c) (list_any (λ m. m.ear.child == c) links) h))

among_at : (links : List LinkValue) (i : ℕ) (l : LinkValue) → slice_get links i ≡ Some l → IsAmong l.ear.child links
among_at [] i l there = absurd cc
among_at (m ∷ links) zero l there =
    or_left (m.ear.child == l.ear.child) (list_any (λ x. x.ear.child == l.ear.child) links)
    (subst (λ (x : LinkValue). (m.ear.child == x.ear.child) ≡ true) (same_Some m l there) (same m.ear.child))
among_at (m ∷ links) (suc i) l there =
    or_right (m.ear.child == l.ear.child) (list_any (λ x. x.ear.child == l.ear.child) links) (among_at links i l there)

module _ (o : Opening) (means : ℕ → ℕ → ℕ → List Entry → Type 0) (stays : Lasts means) (main : CorePass) (links : List LinkValue) (workers : List CorePass)
    (one : main.number ≡ 1) (by_place : (i : ℕ) (p : CorePass) → slice_get workers i ≡ Some p → p.number ≡ i + 2)
    (keeps : KeepsPost (pool_crew (children_of links)) main) (manned : Pairwise (LoneEnds o means (pool_crew (children_of links))) links workers) where
  abbrev pool : ℕ → Post
  pool = pool_crew (children_of links)

  none_main_pool : (t : ℕ) (w : What) → claims t w ≡ true → makes (pool main.number) w ≡ false
  none_main_pool t w h = subst (λ (n : ℕ). makes (pool n) w ≡ false) (sym one) refl

  -- the worker at a place, and its link
  record Manned (i : ℕ) (p : CorePass) : Type 0 where
    pub link : LinkValue
    pub at : slice_get links i ≡ Some link
    pub ends : LoneEnds o means pool link p

  manned_at : (i : ℕ) (p : CorePass) → slice_get workers i ≡ Some p → Manned i p
  manned_at i p there = (let q = of_second (LoneEnds o means pool) links workers manned i p there in record { link = q.0; at = q.1; ends = q.2 })

  -- its post is over this link's child
  child_here : (i : ℕ) (p : CorePass) (m : LinkValue) → slice_get workers i ≡ Some p → slice_get links i ≡ Some m → slice_get (children_of links) (p.number - 2) ≡ Some m.ear.child
  child_here i p m there at =
      let number : p.number ≡ i + 2 = by_place i p there in
      subst (λ (k : ℕ). slice_get (children_of links) k ≡ Some m.ear.child) (omega (arith, number)) (map_there (λ (x : LinkValue). x.ear.child) links i m at)

  pub pool_keeps : Each (KeepsPost pool) (main ∷ workers)
  pool_keeps = each_cons (KeepsPost pool) main workers keeps (λ i p there. (manned_at i p there).ends.works.keeps)

  pool_ran : Each (Ran means) (main ∷ workers)
  pool_ran = each_cons (Ran means) main workers (idle_ran means pool main keeps none_main_pool) (λ i p there. (manned_at i p there).ends.works.ran)

  module _ (start rest : List Entry) (c : Closed o pool start rest (main ∷ workers)) (legal : Legal o start) (calm : IsAtRest start) where
    abbrev RenewedLone : CorePass → Type 0
    RenewedLone q = list_any (renews_by q.number) (since q) ≡ true → Through o pool start rest (main ∷ workers) c links (still_unclosed o pool start rest (main ∷ workers) c) q

    -- a worker that left a task to be run again claimed one for its child, when this lived
    lone_unclosed : (i : ℕ) (p : CorePass) → slice_get workers i ≡ Some p → (m : LinkValue) → slice_get links i ≡ Some m → list_any (renews_by p.number) (since p) ≡ true
        → why_of start m.ear.child ≡ Some WasClosed → ⊥
    lone_unclosed i p there m at h =
        renewer_lives o pool start rest p.number m.ear.child (omega (arith, number)) legal c.legal calm.idle c.posts own
        (ap (list_any (renews_by p.number)) s.behind ∙ list_any-append (renews_by p.number) (since p) s.later
        ∙ or_left (list_any (renews_by p.number) (since p)) (list_any (renews_by p.number) s.later) h)
      where
        number : p.number ≡ i + 2
        number = by_place i p there

        s : Saw o start rest p
        s = c.saw (suc i) p there

        own : (task child : ℕ) → makes (pool p.number) (Claim task child) ≡ true → (child == m.ear.child) ≡ true
        own task child k =
            let late : nat_lt p.number 2 ≡ false = grind (arith, nat_tests, number) in
            let post : pool p.number ≡ Lone m.ear.child = (rw late (ap lone_post (child_here i p m there at))) in
            subst (λ (q : Post). makes q (Claim task child) ≡ true) post k

    pool_through : Each RenewedLone (main ∷ workers)
    pool_through = each_cons RenewedLone main workers (idle_through pool main keeps none_again) (λ i p there h. at_place i p there h)
      where
        none_again : (w : What) → is_renewal w ≡ true → makes (pool main.number) w ≡ false
        none_again w h = subst (λ (n : ℕ). makes (pool n) w ≡ false) (sym one) refl

        at_place : (i : ℕ) (p : CorePass) → slice_get workers i ≡ Some p → RenewedLone p
        at_place i p there h =
            let m = manned_at i p there in
            (m.link.ear.child, among_at links i m.link m.at, lone_unclosed i p there m.link m.at h, m.ends.works.through h)

  pub pool_round : (start rest : List Entry) → Closed o pool start rest (main ∷ workers)
      → Legal o start → IsAtRest start → Distinct (children_of links)
      → (p : CorePass) (i : ℕ) → slice_get workers i ≡ Some p
      → (l : LinkValue) → slice_get links i ≡ Some l → (why_of start l.ear.child ≡ Some WasClosed → ⊥) → IsThrough o (seen_of p) l.ear.child
      → Round o means pool (numbers_of (main ∷ workers)) start rest links
  pool_round start rest c legal calm distinct p i there l at unclosed through = record {
    rounded = rounded o pool start rest ps c legal calm;
    linked = all-from_get (IsWired (start ++ rest)) links linked;
    ran = ran_in o pool start rest ps c means stays pool_ran;
    others = λ child off. others_in o pool start rest ps c child (elsewhere_pool child (children_of links) (no_child child links off));
    left = left_here o pool start rest ps c links (pool_through start rest c legal calm) (suc i) p there l.ear.child (among_at links i l at) unclosed through;
  }
    where
      ps : List CorePass
      ps = main ∷ workers

      linked : (k : ℕ) (m : LinkValue) → slice_get links k ≡ Some m → IsWired (start ++ rest) m
      linked k m is =
          let q = of_first (LoneEnds o means pool) links workers manned k m is in
          let number : q.0.number ≡ k + 2 = by_place k q.0 q.1 in
          link_in o pool start rest ps c m (suc k) q.0 q.1 (child_at_lone (children_of links) q.0.number m.ear.child distinct (omega (arith, number)) (child_here k q.0 m q.1 is)) q.2.wired

-- ---- the main thread alone

module _ (o : Opening) (means : ℕ → ℕ → ℕ → List Entry → Type 0) (stays : Lasts means) (l : LinkValue) (main : CorePass) (others : List CorePass)
    (one : main.number ≡ 1) (lone : LoneEnds o means (alone_crew l.ear.child) l main)
    (keeps : Each (KeepsPost (alone_crew l.ear.child)) others) (rest_of : Each (λ p. p.number ≢ 1) others) where
  abbrev alone : ℕ → Post
  alone = alone_crew l.ear.child

  none_other : (p : CorePass) → p.number ≢ 1 → (t : ℕ) (w : What) → claims t w ≡ true → makes (alone p.number) w ≡ false
  none_other p n t w h = rw (differ p.number 1 n) refl

  pub alone_keeps : Each (KeepsPost alone) (main ∷ others)
  alone_keeps = each_cons (KeepsPost alone) main others lone.works.keeps keeps

  alone_ran : Each (Ran means) (main ∷ others)
  alone_ran = each_cons (Ran means) main others lone.works.ran (λ i p there. idle_ran means alone p (keeps i p there) (none_other p (rest_of i p there)))

  module _ (start rest : List Entry) (c : Closed o alone start rest (main ∷ others)) (unclosed : why_of start l.ear.child ≡ Some WasClosed → ⊥) where
    abbrev RenewedAlone : CorePass → Type 0
    RenewedAlone q = list_any (renews_by q.number) (since q) ≡ true → Through o alone start rest (main ∷ others) c (l ∷ []) (still_unclosed o alone start rest (main ∷ others) c) q

    alone_through : Each RenewedAlone (main ∷ others)
    alone_through =
        each_cons RenewedAlone main others (λ h. (l.ear.child, one_among l.ear.child l refl, unclosed, lone.works.through h))
        (λ i p there. idle_through alone p (keeps i p there) (λ w h. rw (differ p.number 1 (rest_of i p there)) refl))

  pub alone_round : (start rest : List Entry) → Closed o alone start rest (main ∷ others)
      → Legal o start → IsAtRest start → (why_of start l.ear.child ≡ Some WasClosed → ⊥) → IsThrough o (seen_of main) l.ear.child
      → Round o means alone (numbers_of (main ∷ others)) start rest (l ∷ [])
  alone_round start rest c legal calm unclosed through = record {
    rounded = rounded o alone start rest ps c legal calm;
    linked = one_link (IsWired (start ++ rest)) l
        (link_in o alone start rest ps c l 0 main refl (subst (OnlyAt alone (is_of_child l.ear.child)) (sym one) (child_at_main l.ear.child)) lone.wired);
    ran = ran_in o alone start rest ps c means stays alone_ran;
    others = λ child off. others_in o alone start rest ps c child (elsewhere_alone child l.ear.child (other_than child l.ear.child (either_left (l.ear.child == child) false off)));
    left = left_here o alone start rest ps c (l ∷ []) (alone_through start rest c unclosed) 0 main refl l.ear.child (one_among l.ear.child l refl) unclosed through;
  }
    where
      ps : List CorePass
      ps = main ∷ others
