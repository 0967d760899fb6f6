-- Workers that take turns, place by place.
use Rattle.std.proofs.Common.{◌≡◌, ℕ, zero, suc, ◌+◌, List, [], ◌∷◌, map, refl, sym, ap, subst, ◌∙◌, set, Bool, true, false, not, ◌&&◌, None, Some, Option, slice_get, ◌++◌, take, drop, length, arith}
use Rattle.std.specs.Prelude.{All}
use Rattle.std.proofs.lemmas.List.{take-append-le, take_all}
use Rattle.std.proofs.lemmas.List.Elements.{All-nil, All-cons, All-head, All-tail}
use Rattle.threads.specs.declared.roles.back.Back.{Back}
use Rattle.threads.specs.declared.roles.back.Back.TheVariants.{Stayed, Ran}
use Rattle.threads.specs.Roles.Back.{CameBack}
use Rattle.threads.specs.Roles.BackRole.{role_of}
use Rattle.ann_key.specs.Pairs.{Pairwise}
use Rattle.kit_async_core.specs.Halls.{KitHall, KitPass}
use Rattle.kit_async.specs.Work.Calling.{HandValue, WorkerRan}
use Rattle.kit_async.specs.Work.Passes.{Stands}
use Rattle.kit_async.proofs.WorkLemmas.Workers.{ran_both, ran_none}
use Rattle.kit_async.specs.declared.work.why.Why.{Why}
use Rattle.kit_async.specs.Work.Reading.{EarValue, ReaderRan}
use Rattle.kit_async.specs.Work.Writing.{MouthValue, WriterRan}
use Rattle.kit_async.specs.declared.work.turn.Turn.{Turn}
use Rattle.kit_async.specs.declared.work.turn.Turn.TheVariants.{Went, Rests, Over}
use Rattle.kit_async.specs.Work.Passes.{both_turns, is_rest}
use Rattle.kit_async.specs.Work.Reading.{ear_of}
use Rattle.kit_async.specs.Work.Writing.{mouth_of}
use Rattle.kit_async.proofs.WorkLemmas.Readers.{ran_none as read_none}
use Rattle.kit_async.proofs.WorkLemmas.Writers.{wrote_none}
use Rattle.ann_outside.specs.Told.{SinkTold, SourceTold}
use Rattle.kit_async.specs.declared.roles.Reader.{Reader}
use Rattle.kit_async.specs.declared.roles.Writer.{Writer}
use Rattle.std.specs.Prelude.{bytes_eq, codes}
use Rattle.std.proofs.lemmas.Bool.{not-true, and_parts as both}
use Rattle.kit_serve.specs.Limits.{longest_line}
use Rattle.wire_line.specs.HeldBytes.{first_line, has_line}
use Rattle.kit_async_model.specs.Hearings.{text_in}
use Rattle.kit_async.specs.Turns.{holds, is_tagged, is_transfer, ReaderCan, ReaderRuns, ReaderWent, WorkerWent, WriterCan, WriterRuns, WriterWent}

-- one turn more, in the same hall
pub reader_on : (h k : KitHall) (p q r : KitPass) (e f g : EarValue) (a b c : Option Why) → k ≡ h → ReaderWent h p q e f a b → ReaderWent k q r f g b c → ReaderWent h p r e g a c
reader_on h k p q r e f g a b c same x y = λ begun ear ran. subst (λ (l : KitHall). ReaderWent l q r f g b c) same y begun ear (x begun ear ran)

pub writer_on : (h k : KitHall) (p q r : KitPass) (m w v : MouthValue) (a b c : Option Why) → k ≡ h → WriterWent h p q m w a b → WriterWent k q r w v b c → WriterWent h p r m v a c
writer_on h k p q r m w v a b c same x y = λ begun mouth ran. subst (λ (l : KitHall). WriterWent l q r w v b c) same y begun mouth (x begun mouth ran)

-- ---- many

pub reads_none : {S R : Type 0} (told : S → SourceTold) (a : Reader S R) → ReaderCan told a → ReaderRuns told a a
reads_none told a can = (λ begun ear ran. ran, can, refl)

pub reads_on : {S R : Type 0} (told : S → SourceTold) (a b c : Reader S R) → ReaderRuns told a b → ReaderRuns told b c → ReaderRuns told a c
reads_on told a b c x y = (
  reader_on a.hall.now b.hall.now a.pass b.pass c.pass (ear_of (told a.source) a.splitter.bytes) (ear_of (told b.source) b.splitter.bytes) (ear_of (told c.source) c.splitter.bytes) a.why b.why c.why x.2 x.0 y.0,
  y.1,
  y.2 ∙ x.2,
)

-- since it began, where it hadn't ended
pub reads_since : {S R : Type 0} (told : S → SourceTold) (a b : Reader S R) → ReaderCan told a → a.why ≡ None → ReaderRuns told a b
    → ReaderRan a.hall.now a.pass b.pass (ear_of (told a.source) a.splitter.bytes) (ear_of (told b.source) b.splitter.bytes) b.why
reads_since told a b can going x =
    let e : EarValue = ear_of (told a.source) a.splitter.bytes in
    x.0 a.pass e (subst (λ (why : Option Why). ReaderRan a.hall.now a.pass a.pass e e why) (sym going) (read_none a.hall.now a.pass e can.0 can.1))

pub writes_none : {W R : Type 0} (told : W → SinkTold) (a : Writer W R) → WriterCan told a → WriterRuns told a a
writes_none told a can = (λ begun mouth ran. ran, can, refl)

pub writes_on : {W R : Type 0} (told : W → SinkTold) (a b c : Writer W R) → WriterRuns told a b → WriterRuns told b c → WriterRuns told a c
writes_on told a b c x y = (
  writer_on a.hall.now b.hall.now a.pass b.pass c.pass (mouth_of (told a.sink)) (mouth_of (told b.sink)) (mouth_of (told c.sink)) a.why b.why c.why x.2 x.0 y.0,
  y.1,
  y.2 ∙ x.2,
)

pub writes_since : {W R : Type 0} (told : W → SinkTold) (a b : Writer W R) → WriterCan told a → a.why ≡ None → WriterRuns told a b
    → WriterRan a.hall.now a.pass b.pass (mouth_of (told a.sink)) (mouth_of (told b.sink)) b.why
writes_since told a b can going x =
    let m : MouthValue = mouth_of (told a.sink) in
    x.0 a.pass m (subst (λ (why : Option Why). WriterRan a.hall.now a.pass a.pass m m why) (sym going) (wrote_none a.hall.now a.pass m can.0 can.1))

-- ---- what is held

-- where a line stands first, the test is of it
pub holds_in : (test : List ℕ → Bool) (limit : ℕ) (held line : List ℕ) (b : Bool) → limit ≡ longest_line → has_line limit held ≡ true → line ≡ first_line held → b ≡ test line → b ≡ holds test held
holds_in test limit held line b same has first is =
    is ∙ ap test first ∙ ap (λ (x : Bool). x && test (first_line held)) (sym (subst (λ (n : ℕ). has_line n held ≡ true) same has))

pub has_none : (limit : ℕ) (held : List ℕ) → limit ≡ longest_line → not (has_line limit held) ≡ true → has_line longest_line held ≡ false
has_none limit held same none = not-true (has_line longest_line held) (subst (λ (n : ℕ). not (has_line n held) ≡ true) same none)

-- where none does, it holds of nothing
pub holds_none : (test : List ℕ → Bool) (limit : ℕ) (held : List ℕ) → limit ≡ longest_line → not (has_line limit held) ≡ true → false ≡ holds test held
holds_none test limit held same none = ap (λ (x : Bool). x && test (first_line held)) (sym (has_none limit held same none))

-- a transfer has a tag
pub transfer_tagged : (held : List ℕ) → holds is_transfer held ≡ true → holds is_tagged held ≡ true
transfer_tagged held e =
    let p = both (has_line longest_line held) (is_transfer (first_line held)) e in
    let q = both (is_tagged (first_line held)) (bytes_eq (take 9 (text_in true (first_line held))) (codes "TRANSFER ")) p.1 in
    ap (λ (x : Bool). x && is_tagged (first_line held)) p.0 ∙ q.0

-- where there is nothing to do after two turns, there is nothing after the first
pub both_rest : (a b : Turn) → both_turns a b ≡ Rests → is_rest a ≡ true
both_rest Went b e = cc
both_rest Rests b e = refl
both_rest (Over why) Went e = cc
both_rest (Over why) Rests e = cc
both_rest (Over why) (Over other) e = cc

-- a list whose places were all written
pub back_whole : {A : Type 0} (xs ys : List A) (n : ℕ) → n ≡ length xs → length ys ≡ length xs → take n (ys ++ drop (length ys) xs) ≡ ys
back_whole xs ys n is long = take-append-le n ys (drop (length ys) xs) (omega arith) ∙ take_all n ys (omega arith)

-- what holds of a role, and of what a run leaves of it, holds of what came back
pub came_as : {E : Type 0} (ran : E → E → Type 0) (P : E → Type 0) (a : E) (b : Back E) → CameBack ran a b → P a → ((x : E) → ran a x → P x) → P (role_of b)
came_as ran P a (Stayed x) same here leaves = subst P (sym same) here
came_as ran P a (Ran x) r here leaves = leaves x r

module _ {W : Type 0} (hall : W → KitHall) (number : W → ℕ) (pass : W → KitPass) (hand : W → HandValue) where
  abbrev pub Goes : W → W → Type 0
  Goes w v = WorkerWent (hall w) (number w) (pass w) (hand w) (hall v) (number v) (pass v) (hand v)

  abbrev pub Can : W → Type 0
  Can w = Stands (hall w) (number w + 3) (pass w)

  went_none : (w : W) → Can w → Goes w w
  went_none w c = (ran_none (hall w) (number w) (pass w) (hand w) c, refl, refl)

  went_both : (w v u : W) → Goes w v → Goes v u → Goes w u
  went_both w v u a b =
      let there : WorkerRan (hall w) (number v) (pass v) (pass u) (hand v) (hand u) = subst (λ (h : KitHall). WorkerRan h (number v) (pass v) (pass u) (hand v) (hand u)) a.1 b.0 in
      let same : WorkerRan (hall w) (number w) (pass v) (pass u) (hand v) (hand u) = subst (λ (n : ℕ). WorkerRan (hall w) n (pass v) (pass u) (hand v) (hand u)) a.2 there in
      (ran_both (hall w) (number w) (pass w) (pass v) (pass u) (hand w) (hand v) (hand u) a.0 same, b.1 ∙ a.1, b.2 ∙ a.2)

  can_still : (w v : W) → Goes w v → Can v
  can_still w v a =
      subst (λ (n : ℕ). Stands (hall v) (n + 3) (pass v)) (sym a.2) (subst (λ (h : KitHall). Stands h (number w + 3) (pass v)) (sym a.1) a.0.stands)

  pub all_none : (ws : List W) → All Can ws → Pairwise Goes ws ws
  all_none [] all = tt
  all_none (w ∷ ws) all = (went_none w (All-head Can w ws all), all_none ws (All-tail Can w ws all))

  pub all_both : (ws vs us : List W) → Pairwise Goes ws vs → Pairwise Goes vs us → Pairwise Goes ws us
  all_both [] [] [] a b = tt
  all_both [] [] (u ∷ us) a b = absurd b
  all_both [] (v ∷ vs) us a b = absurd a
  all_both (w ∷ ws) [] us a b = absurd a
  all_both (w ∷ ws) (v ∷ vs) [] a b = absurd b
  all_both (w ∷ ws) (v ∷ vs) (u ∷ us) a b = (went_both w v u a.0 b.0, all_both ws vs us a.1 b.1)

  pub all_can : (ws vs : List W) → Pairwise Goes ws vs → All Can vs
  all_can [] [] a = All-nil Can
  all_can [] (v ∷ vs) a = absurd a
  all_can (w ∷ ws) [] a = absurd a
  all_can (w ∷ ws) (v ∷ vs) a = All-cons Can v vs (can_still w v a.0) (all_can ws vs a.1)

  pub one_can : (ws vs : List W) (i : ℕ) (v : W) → Pairwise Goes ws vs → slice_get vs i ≡ Some v → Can v
  one_can [] [] i v a there = cc
  one_can [] (x ∷ vs) i v a there = absurd a
  one_can (w ∷ ws) [] i v a there = absurd a
  one_can (w ∷ ws) (x ∷ vs) zero v a there = let same : x ≡ v = cc in subst Can same (can_still w x a.0)
  one_can (w ∷ ws) (x ∷ vs) (suc i) v a there = one_can ws vs i v a.1 there

  pub one_goes : (ws vs : List W) (i : ℕ) (v u : W) → Pairwise Goes ws vs → slice_get vs i ≡ Some v → Goes v u → Pairwise Goes ws (set vs i u)
  one_goes [] [] i v u a there b = cc
  one_goes [] (x ∷ vs) i v u a there b = absurd a
  one_goes (w ∷ ws) [] i v u a there b = absurd a
  one_goes (w ∷ ws) (x ∷ vs) zero v u a there b = let same : x ≡ v = cc in (went_both w v u (subst (Goes w) same a.0) b, a.1)
  one_goes (w ∷ ws) (x ∷ vs) (suc i) v u a there b = (a.0, one_goes ws vs i v u a.1 there b)

  pub all_came : (ws : List W) (bs : List (Back W)) → All Can ws → Pairwise (CameBack Goes) ws bs → Pairwise Goes ws (map role_of bs)
  all_came [] [] can all = tt
  all_came [] (b ∷ bs) can all = absurd all
  all_came (w ∷ ws) [] can all = absurd all
  all_came (w ∷ ws) (b ∷ bs) can all =
      (came_as Goes (Goes w) w b all.0 (went_none w (All-head Can w ws can)) (λ x r. r), all_came ws bs (All-tail Can w ws can) all.1)
