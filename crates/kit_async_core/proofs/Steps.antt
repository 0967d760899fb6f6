-- What a core that keeps its book keeps true, and what comes of an event.
use Rattle.std.proofs.Common.{◌≡◌, inl, inr, ℕ, ◌≤◌, List, [], ◌++◌, refl, sym, ap, subst, ◌∙◌, true, arith}
use Rattle.std.specs.Prelude.{All, fold, Result, Ok, Err, IfOk, OnErr}
use Rattle.std.proofs.lemmas.List.{append-nil}
use Rattle.std.proofs.lemmas.List.Elements.{All-nil}
use Rattle.ann_key.specs.declared.bytes.NoMemory.{NoMemory}
use Rattle.kit_async_model.specs.declared.setup.Setup.{Setup}
use Rattle.kit_async_model.specs.declared.entry.Entry.{Entry}
use Rattle.kit_async_model.specs.declared.event.Event.{Event}
use Rattle.kit_async_model.specs.declared.event.Event.TheVariants.{Hear, Take, Called, Next, Wrote, Close, Break}
use Rattle.kit_async_model.specs.declared.event.Reply.{Reply}
use Rattle.kit_async_model.specs.declared.event.Reply.TheVariants.{Broken}
use Rattle.kit_async_model.specs.Standings.{Standing, after, standing}
use Rattle.kit_async_model.specs.Legality.{Legal}
use Rattle.kit_async_model.specs.Events.{IsMadeBy, Stepped, event_step, step_of, is_call, can_break, IsUnsaid, MayStep}
use Rattle.kit_async_model.specs.Books.{BookValue, AreApart, room_owed, TookEvent, BookIsAsBefore, IsBook}
use Rattle.kit_async_core.specs.Steps.{Comes}
use Rattle.kit_async_model.proofs.Fronts.{standing_append}
use Rattle.kit_async_model.proofs.Apart.{standing_apart}
use Rattle.kit_async_model.proofs.Making.{steps_are_made, lacks_are_made}
use Rattle.kit_async_model.proofs.Stepping.{steps_are_legal}
use Rattle.kit_async_model.proofs.Lacking.{unsaid_is_legal}

-- ---- the book

pub book_apart : (setup : Setup) (book : BookValue) → IsBook setup book → AreApart book.stands.jobs
book_apart setup book b = subst (λ (s : Standing). AreApart s.jobs) (sym b.stands) (standing_apart setup book.journal)

-- the step is that of the journal
step_is : (setup : Setup) (book : BookValue) (by : ℕ) (event : Event) → IsBook setup book → event_step setup book.stands by event ≡ step_of setup book.journal by event
step_is setup book by event b = ap (λ (s : Standing). event_step setup s by event) b.stands

-- how it stands after a group
stands_on : (setup : Setup) (old new : BookValue) (group : List Entry) → IsBook setup old → new.journal ≡ old.journal ++ group → new.stands ≡ fold (after setup) old.stands group
    → new.stands ≡ standing setup new.journal
stands_on setup old new group b j s =
    s ∙ ap (λ (t : Standing). fold (after setup) t group) b.stands ∙ sym (standing_append setup old.journal group) ∙ ap (standing setup) (sym j)

unsaid_event : (setup : Setup) (past : List Entry) (by : ℕ) (event : Event) (group : List Entry) (reply : Reply) → Legal setup past → is_call event ≡ true
    → IsUnsaid (step_of setup past by event) group reply → Legal setup (past ++ group)
unsaid_event setup past by (Called said) group reply l c u = unsaid_is_legal setup past by said group reply l u
unsaid_event setup past by (Hear line) group reply l c u = absurd cc
unsaid_event setup past by Take group reply l c u = absurd cc
unsaid_event setup past by Next group reply l c u = absurd cc
unsaid_event setup past by Wrote group reply l c u = absurd cc
unsaid_event setup past by Close group reply l c u = absurd cc
unsaid_event setup past by Break group reply l c u = absurd cc

unsaid_made : (setup : Setup) (past : List Entry) (by : ℕ) (event : Event) (group : List Entry) (reply : Reply) → is_call event ≡ true
    → IsUnsaid (step_of setup past by event) group reply → All (IsMadeBy by) group
unsaid_made setup past by (Called said) group reply c u = lacks_are_made setup past by said group reply u
unsaid_made setup past by (Hear line) group reply c u = absurd cc
unsaid_made setup past by Take group reply c u = absurd cc
unsaid_made setup past by Next group reply c u = absurd cc
unsaid_made setup past by Wrote group reply c u = absurd cc
unsaid_made setup past by Close group reply c u = absurd cc
unsaid_made setup past by Break group reply c u = absurd cc

-- what came of an event: its group, which is legal and its number's
record Came (setup : Setup) (old new : BookValue) (by : ℕ) (event : Event) (reply : Reply) : Type 0 where
  group : List Entry
  journal : new.journal ≡ old.journal ++ group
  stands : new.stands ≡ standing setup new.journal
  room : room_owed setup new.stands ≤ new.room
  made : All (IsMadeBy by) group
  may : MayStep setup old.journal by event group reply

came : (setup : Setup) (old new : BookValue) (by : ℕ) (event : Event) (reply : Reply) → IsBook setup old → TookEvent setup old new by event reply → Came setup old new by event reply
came setup old new by event reply b (inl t) =
    let step : Stepped = step_of setup old.journal by event in
    let is : event_step setup old.stands by event ≡ step = step_is setup old by event b in
    record {
      group = step.group;
      journal = t.journal ∙ ap (λ (x : Stepped). old.journal ++ x.group) is;
      stands = stands_on setup old new (event_step setup old.stands by event).group b t.journal t.stands;
      room = t.room b.room;
      made = steps_are_made setup old.journal by event;
      may = record {
        step = inl (record { reply_is = t.reply_is ∙ ap (λ (x : Stepped). x.reply) is; group_is = refl });
        legal = steps_are_legal setup old.journal by event b.legal;
      };
    }
came setup old new by event reply b (inr t) =
    let l = t.1 in
    let unsaid : IsUnsaid (step_of setup old.journal by event) l.group reply = subst (λ (x : Stepped). IsUnsaid x l.group reply) (step_is setup old by event b) l.unsaid in
    record {
      group = l.group;
      journal = l.journal;
      stands = stands_on setup old new l.group b l.journal l.stands;
      room = l.room b.room;
      made = unsaid_made setup old.journal by event l.group reply t.0 unsaid;
      may = record {
        step = inr (inr (t.0, unsaid));
        legal = unsaid_event setup old.journal by event l.group reply b.legal t.0 unsaid;
      };
    }

-- it is a book still
pub book_kept : (setup : Setup) (old new : BookValue) (by : ℕ) (event : Event) (r : Result Reply NoMemory) → IsBook setup old
    → IfOk r (TookEvent setup old new by event) → OnErr r (BookIsAsBefore old new) → IsBook setup new
book_kept setup old new by event (Ok reply) b t e =
    let k = came setup old new by event reply b t in
    record { legal = subst (Legal setup) (sym k.journal) k.may.legal; stands = k.stands; room = k.room }
book_kept setup old new by event (Err n) b t e =
    let owed : room_owed setup new.stands ≡ room_owed setup old.stands = ap (room_owed setup) e.stands in
    record {
      legal = subst (Legal setup) (sym e.journal) b.legal;
      stands = e.stands ∙ b.stands ∙ ap (standing setup) (sym e.journal);
      room = omega (arith, owed, b.room, e.room);
    }

-- ---- what is answered

pub step_comes : (setup : Setup) (old new : BookValue) (by : ℕ) (event : Event) (r : Result Reply NoMemory) → IsBook setup old
    → IfOk r (TookEvent setup old new by event) → IfOk r (Comes setup old.journal new.journal by event)
step_comes setup old new by event (Err n) b t = tt
step_comes setup old new by event (Ok reply) b t =
    let k = came setup old new by event reply b t in
    (k.group, k.journal, k.made, k.may)

-- a core that is broken off
pub broken_comes : (setup : Setup) (old : BookValue) (by : ℕ) (event : Event) → IsBook setup old → can_break event ≡ true → Comes setup old.journal old.journal by event Broken
broken_comes setup old by event b may = (
  [],
  sym (append-nil old.journal),
  All-nil (IsMadeBy by),
  record {
    step = inr (inl (record { may = may; reply_is = refl; group_is = refl }));
    legal = subst (Legal setup) (sym (append-nil old.journal)) b.legal;
  },
)
