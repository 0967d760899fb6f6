-- A greeting of a child that was started just now tells of it, from the journal before its start on.
use Rattle.std.proofs.Common.{◌≡◌, ℕ, ◌+◌, List, [], ◌∷◌, ◌++◌, sym, ap, subst, ◌∙◌, append_assoc, Bool}
use Rattle.ann_outside.specs.declared.Sink.{Ghosts as SinkGhosts}
use Rattle.ann_outside.specs.declared.Source.{Ghosts as SourceGhosts}
use Rattle.journal_model.specs.declared.entry.What.TheVariants.{Start}
use Rattle.journal_model.specs.declared.entry.Entry.{Entry}
use Rattle.journal_model.specs.Legality.{count, is_start}
use Rattle.journal_model.proofs.Looks.{entry}
use Rattle.child_life.specs.declared.start.greeting.Greeting.{Greeting}
use Rattle.child_life.specs.declared.start.greeting.Greeting.TheVariants.{Child, StartFault, NoMemory}
use Rattle.journal_model.specs.Halves.{EarValue, MouthValue}
use Rattle.child_life.specs.declared.start.greeting.Mode.{Mode}
use Rattle.child_life.specs.Start.Greetings.{CameTo, GreetedFor, TellsFor, IfHasLink}
use Rattle.child_life.specs.Start.Stages.{GreetsOn, TellsOf}

-- what follows of the halves of a greeting's link
pub has_link : {I O S : Type 0} {sinks : SinkGhosts I} {sources : SourceGhosts O} (P Q : EarValue → MouthValue → Type 0) (greeting : Greeting I O S sinks sources) → ((e : EarValue) (m : MouthValue) → P e m → Q e m) → IfHasLink P greeting → IfHasLink Q greeting
has_link P Q (Child link stub came) f h = f link.ear link.mouth h
has_link P Q StartFault f h = tt
has_link P Q NoMemory f h = tt

module _ (mode : Mode) (old mid new : List Entry) (slot : ℕ) (offer : Bool) (c : ℕ) (number : c ≡ count is_start old + 1)
    (is : mid ≡ old ++ entry 0 (Start c slot offer) ∷ []) (on : GreetsOn mode mid new c) where
  greeted : GreetedFor mode old new slot offer c
  greeted = record {
    next = number;
    more = on.more;
    grown = on.is ∙ ap (λ (l : List Entry). l ++ on.more) is ∙ append_assoc old (entry 0 (Start c slot offer) ∷ []) on.more;
    own = on.own;
    main = on.main;
    idle = on.idle;
    lost = on.lost;
  }

  pub tells_whole : {I O S : Type 0} {sinks : SinkGhosts I} {sources : SourceGhosts O} (greeting : Greeting I O S sinks sources) → TellsOf mode new c greeting → TellsFor mode old new slot offer greeting
  tells_whole (Child link stub came) t =
      let e = sym t.0 in
      (subst (GreetedFor mode old new slot offer) e greeted, subst (λ (k : ℕ). CameTo mode new k came) e t.1)
  tells_whole StartFault t = absurd t
  tells_whole NoMemory t = absurd t
