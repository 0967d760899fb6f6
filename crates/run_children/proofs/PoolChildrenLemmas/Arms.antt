-- What one start came to: a child that serves, one that is over, or none.
use Rattle.ann_outside.specs.Told.{ProgramsTold}
use Rattle.std.proofs.Common.{◌≡◌, ℕ, ◌≤◌, List, [], ◌∷◌, ◌++◌, refl, sym, ap, subst, ◌∙◌, append_assoc, append-nil, true, false, not, ◌==◌, Some, None, arith, inl, inr}
use Rattle.std.specs.Prelude.{is_some}
use Rattle.std.specs.List.{list_all}
use Rattle.std.proofs.lemmas.List.Elements.{All-cons, All-nil}
use Rattle.ann_outside.specs.Causes.{AddsOne, Rose}
use Rattle.journal_model.specs.declared.verdict.Why.TheVariants.{Closed}
use Rattle.journal_model.specs.declared.entry.What.TheVariants.{Start, NoStart}
use Rattle.journal_model.specs.declared.entry.Entry.{Entry}
use Rattle.journal_model.specs.declared.opening.Opening.{Opening}
use Rattle.journal_model.specs.Halves.{EarValue, MouthValue}
use Rattle.journal_model.specs.Journal.{asked_jobs, is_ended, is_started, open_jobs, starts, verdict_of, why_of}
use Rattle.journal_model.specs.Legality.{Legal, is_busy, is_done, is_prepared, may_stop}
use Rattle.journal_model.specs.Shares.{is_of_child}
use Rattle.journal_model.proofs.Holding.{holder_append}
use Rattle.journal_model.proofs.Linking.{why_is_end}
use Rattle.journal_model.proofs.Looks.{any-append, or_none, verdict_of-append}
use Rattle.journal_model.proofs.Testing.{all-each, all-join}
use Rattle.child_link.specs.Alone.{Closes}
use Rattle.child_link.specs.Writings.{LoneWired}
use Rattle.child_life.specs.Start.Greetings.{AreNumbered, Greeted, IsReady, is_of_greeting}
use Rattle.child_link.specs.Wires.{WireValue}
use Rattle.child_life.proofs.EndLemmas.Held.{lone_held}
use Rattle.crew_work.specs.Worker.KnownLayouts.{IsBook}
use Rattle.crew_work.specs.Laws.Rounds.{IsAtRest, LinkValue}
use Rattle.run_starts.specs.Starting.{is_unclosed}
use Rattle.run_starts.specs.Rounds.{is_of_run}
use Rattle.run_starts.specs.Stints.{AreLinked, StartsOne, main_entry, next_child}
use Rattle.run_starts.proofs.Leaving.{rose_still, starts_child, of_start}
use Rattle.run_starts.proofs.Losing.{greeted_next, lost_both, lost_greeting, lost_tasks}
use Rattle.run_starts.proofs.Served.{all_unclosed, greeting_unclosed, new_unclosed}
use Rattle.run_starts.proofs.Stinting.{Closing, closing, closing_loses, closing_part, greeting_part, may_close, of_closing}
use Rattle.crew_rounds.specs.Tagged.Tagged.{link_of}
use Rattle.crew_rounds.specs.Tagged.PoolChildren.{MayServe}
use Rattle.run_children.specs.PoolChildren.Pools.{AreSeated, OverBy, SeatValue, Serves, is_among}
use Rattle.run_children.specs.PoolChildren.Seats.{SeatsOne, SeatsOver}
use Rattle.run_children.proofs.PoolChildrenLemmas.Own.{greeting_own, own_rests, rest_shut, undone_unready}
use Rattle.ann_key.proofs.Numbers.{same_number as same}
use Rattle.ann_key.proofs.Booleans.{or_left, or_right}
use Rattle.child_life.proofs.EndLemmas.Across.{adds_one}
use Rattle.journal_model.proofs.Across.{idle_on}

-- ---- a child that was greeted

module _ (old g : List Entry) (slot c : ℕ) (greeted : Greeted old g slot false c) where
  abbrev begun : Entry
  begun = main_entry (Start c slot false)

  pub own : list_all (λ (e : Entry). is_of_child c e.what) greeted.more ≡ true
  own = all-each (λ (e : Entry). is_of_greeting c e.what) (λ (e : Entry). is_of_child c e.what) (λ e. greeting_own c e.what) greeted.more greeted.own

  pub greeted_started : is_started g c ≡ true
  greeted_started =
      ap (λ (j : List Entry). is_started j c) greeted.grown ∙ any-append (starts c) old (begun ∷ greeted.more)
      ∙ or_right (is_started old c) (is_started (begun ∷ greeted.more) c) (or_left (c == c) (is_started greeted.more c) (same c))

  begun_rests : ((t : ℕ) → is_busy old t ≡ false) → (t : ℕ) → is_busy (old ++ begun ∷ []) t ≡ false
  begun_rests rest t = ap is_some (holder_append old (begun ∷ []) t) ∙ rest t

  pub greeted_rests : ((t : ℕ) → is_busy old t ≡ false) → (t : ℕ) → is_busy g t ≡ false
  greeted_rests rest t =
      ap (λ (j : List Entry). is_busy j t) (greeted.grown ∙ sym (append_assoc old (begun ∷ []) greeted.more)) ∙ own_rests c greeted.more own (old ++ begun ∷ []) (begun_rests rest) t

  -- so it may be closed
  pub greeted_closes : IsAtRest old → may_stop g c Closed ≡ true
  greeted_closes calm = may_close g c greeted.idle (greeted_rests calm.idle)

  pub greeted_open : (o : Opening) → Legal o old → why_of g c ≡ Some Closed → ⊥
  greeted_open o legal h =
      let why : why_of (old ++ begun ∷ greeted.more) c ≡ Some Closed = ap (λ (j : List Entry). why_of j c) (sym greeted.grown) ∙ h in
      let ended : is_ended (old ++ begun ∷ greeted.more) c ≡ true = sym (why_is_end (old ++ begun ∷ greeted.more) c) ∙ ap is_some why in
      let unclosed : is_unclosed (why_of (old ++ begun ∷ greeted.more) c) ≡ true =
      new_unclosed o old (begun ∷ greeted.more) c legal greeted.next (all_unclosed (is_of_greeting c) (greeting_unclosed c) greeted.more greeted.own) ended in
      let bad : false ≡ true = ap is_unclosed (sym why) ∙ unclosed in
      absurd cc

module _ (o : Opening) (program : List ℕ) (slot : ℕ) (old g : List Entry) (before mid : ProgramsTold) (ear : EarValue) (mouth : MouthValue) (seats seats' : List SeatValue) (links links' : List LinkValue)
    (greeted : Greeted old g slot false ear.child) (one : mouth.child ≡ ear.child) (numbered : AreNumbered mid.starts ear mouth) (adds : AddsOne before.starts mid.starts (program, true)) (faults : before.faults ≤ mid.faults) where
  -- the child is ready
  pub ready_seats : Legal o old → Legal o g → IsBook o.notes → IsReady g ear.child → LoneWired g ear mouth → seats' ≡ seats ++ Serves ∷ [] → links' ≡ links ++ link_of ear mouth ∷ []
      → SeatsOne o program slot old g before mid seats seats' links links'
  ready_seats before_legal legal book ready wired seats_are links_are = record {
    first = Start ear.child slot false;
    later = greeted.more;
    is = greeted.grown;
    start = inl (ap (λ (n : ℕ). Start n slot false) greeted.next);
    within = subst (λ (n : ℕ). list_all (λ (e : Entry). is_of_child n e.what) greeted.more ≡ true) greeted.next (own old g slot ear.child greeted);
    main = greeted.main;
    asks = (greeting_part ear.child greeted.more greeted.own greeted.main).asks;
    lost = lost_greeting (old ++ main_entry (Start ear.child slot false) ∷ []) ear.child greeted.more (greeted_next old ear.child slot false) greeted.own;
    idle = subst (λ (n : ℕ). open_jobs g n ≡ []) greeted.next greeted.idle;
    seat = Serves ∷ [];
    link = link_of ear mouth ∷ [];
    seats_are = seats_are;
    links_are = links_are;
    ended = (let here : is_among (link_of ear mouth ∷ []) ear.child ≡ true = or_left (ear.child == ear.child) false (same ear.child) in rw (or_right (is_ended g ear.child) (is_among (link_of ear mouth ∷ []) ear.child) here) refl);
    ready = (let here : is_among (link_of ear mouth ∷ []) ear.child ≡ true = or_left (ear.child == ear.child) false (same ear.child) in rw (or_right (not (is_prepared g ear.child)) (is_among (link_of ear mouth ∷ []) ear.child) here) refl);
    serve = All-cons (MayServe o g) (link_of ear mouth) [] (record {
      serves = record {
        legal = legal;
        number = (let n = greeted.next in omega (arith, n));
        started = greeted_started old g slot ear.child greeted;
        prepared = ready.prepared;
        book = book;
      };
      unclosed = greeted_open old g slot ear.child greeted o before_legal;
      wired = wired;
    }) (All-nil (MayServe o g));
    one_child = All-cons (λ (l : LinkValue). l.mouth.child ≡ l.ear.child) (link_of ear mouth) [] one (All-nil (λ (l : LinkValue). l.mouth.child ≡ l.ear.child));
    seated = (refl, of_start before.starts mid.starts (program, true) mouth.number adds numbered.0, of_start before.starts mid.starts (program, true) ear.number adds numbered.1, tt);
    adds = adds_one before.starts mid.starts (program, true) adds;
    faults = rose_still 0 before.faults before.faults mid.faults (omega arith) faults;
    later_faults = faults;
  }

  -- it isn't, and was closed
  module _ (new : List Entry) (after : ProgramsTold) (undone : is_done (verdict_of g ear.child 1) ≡ false) (closes : Closes 0 ear.child g new) (wired : LoneWired new ear mouth) (over : SeatsOver ear mouth mid after seats seats' links links') where
    k : Closing ear.child g new
    k = closing ear.child g new closes

    its : StartsOne program new (Start ear.child 0 false) before after [] (over.wire ∷ [])
    its = starts_child program new ear.child false before mid.starts after mid.faults ear mouth [] (over.wire ∷ []) adds over.starts faults over.later_faults numbered refl one
        (lone_held new ear mouth wired) (over.wire, refl, over.left)

    laid_one : (ws : List WireValue) → over.wire ∷ [] ≡ [] ++ ws → AreLinked before.starts new 0 (Some ear.child ∷ []) ws
        → AreSeated before.starts new 0 (Some ear.child ∷ []) (OverBy over.wire ∷ []) []
    laid_one ws is h = (let l = subst (AreLinked before.starts new 0 (Some ear.child ∷ [])) (sym is) h in (l.0, l.1, tt))

    unready : is_prepared new ear.child ≡ false
    unready = undone_unready new ear.child (ap is_done (ap (λ (j : List Entry). verdict_of j ear.child 1) k.is ∙ verdict_of-append ear.child 1 g k.tail
        ∙ or_none (verdict_of g ear.child 1) (verdict_of k.tail ear.child 1) (of_closing ear.child k.tail k.one (λ (x : List Entry). verdict_of x ear.child 1 ≡ None) refl refl)) ∙ undone)

    abbrev more : List Entry
    more = greeted.more ++ k.tail

    pub over_seats : SeatsOne o program slot old new before after seats seats' links links'
    over_seats = record {
      first = Start ear.child slot false;
      later = more;
      is = k.is ∙ ap (λ (j : List Entry). j ++ k.tail) greeted.grown ∙ append_assoc old (main_entry (Start ear.child slot false) ∷ greeted.more) k.tail;
      start = inl (ap (λ (n : ℕ). Start n slot false) greeted.next);
      within = subst (λ (n : ℕ). list_all (λ (e : Entry). is_of_child n e.what) more ≡ true) greeted.next
          (all-join (λ (e : Entry). is_of_child ear.child e.what) greeted.more k.tail (own old g slot ear.child greeted)
          (of_closing ear.child k.tail k.one (λ (x : List Entry). list_all (λ (e : Entry). is_of_child ear.child e.what) x ≡ true) refl (rw (same ear.child) refl)));
      main = all-join (λ (e : Entry). e.by == 0) greeted.more k.tail greeted.main (closing_part ear.child k.tail k.one).main;
      asks = all-join (λ (e : Entry). is_of_run e.what) greeted.more k.tail (greeting_part ear.child greeted.more greeted.own greeted.main).asks (closing_part ear.child k.tail k.one).asks;
      idle = subst (λ (n : ℕ). open_jobs new n ≡ []) greeted.next
          (ap (λ (j : List Entry). open_jobs j ear.child) k.is ∙ idle_on g k.tail ear.child (of_closing ear.child k.tail k.one (λ (x : List Entry). asked_jobs x ear.child ≡ []) refl refl) greeted.idle);
      lost = lost_both (old ++ main_entry (Start ear.child slot false) ∷ []) greeted.more k.tail
          (lost_greeting (old ++ main_entry (Start ear.child slot false) ∷ []) ear.child greeted.more (greeted_next old ear.child slot false) greeted.own)
          (lost_tasks ((old ++ main_entry (Start ear.child slot false) ∷ []) ++ greeted.more) k.tail (closing_loses ear.child k.tail k.one));
      seat = OverBy over.wire ∷ [];
      link = [];
      seats_are = over.seats_are;
      links_are = over.links_are ∙ sym (append-nil links);
      ended = rw (or_left (is_ended new ear.child) false k.ended) refl;
      ready = rw unready refl;
      serve = All-nil (MayServe o new);
      one_child = All-nil (λ (l : LinkValue). l.mouth.child ≡ l.ear.child);
      seated = laid_one its.new its.laid its.linked;
      adds = its.adds;
      faults = its.faults;
      later_faults = its.later;
    }

-- no child was started
pub fault_seats : (o : Opening) (program : List ℕ) (slot : ℕ) (old new : List Entry) (before after : ProgramsTold) (seats : List SeatValue) (links : List LinkValue) → new ≡ old ++ main_entry (NoStart slot) ∷ [] → IsAtRest old
    → AddsOne before.starts after.starts (program, false) → Rose before.faults after.faults → before.faults ≤ after.faults → SeatsOne o program slot old new before after seats seats links links
fault_seats o program slot old new before after seats links is calm adds rose later = record {
  first = NoStart slot;
  later = [];
  is = is;
  start = inr refl;
  within = refl;
  main = refl;
  asks = refl;
  idle = ap (λ (j : List Entry). open_jobs j (next_child old)) is ∙ idle_on old (main_entry (NoStart slot) ∷ []) (next_child old) refl (rest_shut old calm (next_child old));
  seat = [];
  link = [];
  seats_are = sym (append-nil seats);
  links_are = sym (append-nil links);
  ended = refl;
  ready = refl;
  serve = All-nil (MayServe o new);
  one_child = All-nil (λ (l : LinkValue). l.mouth.child ≡ l.ear.child);
  seated = tt;
  adds = adds_one before.starts after.starts (program, false) adds;
  lost = tt;
  faults = rose;
  later_faults = later;
}
