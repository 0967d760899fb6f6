-- The lines that were heard are those that the reader told and the core took.
use Rattle.std.proofs.Common.{◌≡◌, ◌≢◌, ◌⊎◌, inl, inr, ℕ, List, [], ◌∷◌, ◌++◌, refl, ap, subst, ◌∙◌, append-nil, Bool, true, false, None}
use Rattle.std.specs.Prelude.{◌||◌, All}
use Rattle.std.proofs.lemmas.List.Elements.{filter_map-append, All-head, All-tail}
use Rattle.threads.specs.declared.view.Link.{Link}
use Rattle.threads.specs.Log.{flat, NotBy, Allowed, Legal as LegalLog}
use Rattle.threads.specs.Passes.{HasEntered, seen_of}
use Rattle.kit_async_model.specs.declared.setup.Setup.{Setup}
use Rattle.kit_async_model.specs.declared.entry.Entry.{Entry}
use Rattle.kit_async_model.specs.declared.entry.Entry.TheVariants.{Heard, Take, Call, Say, Wrote, Close, Lack}
use Rattle.kit_async_model.specs.declared.event.Event.{Event}
use Rattle.kit_async_model.specs.declared.event.Event.TheVariants.{Hear, Take as TakeUp, Called, Next, Wrote as Written, Close as Deafen, Break}
use Rattle.kit_async_model.specs.declared.event.Reply.{Reply}
use Rattle.kit_async_model.specs.declared.event.Reply.TheVariants.{Broken}
use Rattle.kit_async_model.specs.Standings.{Standing, after, standing}
use Rattle.kit_async_model.specs.Legality.{may_hear}
use Rattle.kit_async_model.specs.Events.{IsMadeBy, MayStep, IsStepped, IsBrokenOff, IsUnsaid, is_call, due_said, heard_reply, hear_step, waiting, close_step, event_step, step_of}
use Rattle.kit_async_model.specs.Lines.{heard_line, heard_lines, hears}
use Rattle.kit_async_core.specs.Halls.{KitHall, KitPass}

-- ---- of others

unheard : (by : ℕ) → by ≢ 1 → (e : Entry) → IsMadeBy by e → heard_line e ≡ None
unheard by other (Heard line) made = absurd (other made)
unheard by other (Take job remote) made = refl
unheard by other (Call job remote said) made = refl
unheard by other (Say job line) made = refl
unheard by other Wrote made = refl
unheard by other Close made = refl
unheard by other Lack made = refl

none_group : (by : ℕ) → by ≢ 1 → (group : List Entry) → All (IsMadeBy by) group → heard_lines group ≡ []
none_group by other [] made = refl
none_group by other (e ∷ group) made =
    rw (unheard by other e (All-head (IsMadeBy by) e group made)) (none_group by other group (All-tail (IsMadeBy by) e group made))

pub none_log : (setup : Setup) (past : List Entry) (ks : List (Link Entry)) → LegalLog (Allowed IsMadeBy MayStep) setup past ks → NotBy 1 ks → heard_lines (flat ks) ≡ []
none_log setup past [] h n = refl
none_log setup past (k ∷ ks) h n =
    filter_map-append heard_line k.group (flat ks)
    ∙ (rw (none_group k.by n.0 k.group h.0.2.0, none_log setup (past ++ k.group) ks h.1 n.1) refl)

-- ---- of the reader

due_unheard : (due : List (ℕ × List ℕ)) → heard_lines (due_said due) ≡ []
due_unheard [] = refl
due_unheard (d ∷ rest) = due_unheard rest

heard_hears : (line : List ℕ) (b : Bool) → line ∷ [] ≡ hears (Hear line) (heard_reply b)
heard_hears line true = refl
heard_hears line false = refl

waiting_hears : (line : List ℕ) (b : Bool) → [] ≡ hears (Hear line) (waiting b)
waiting_hears line true = refl
waiting_hears line false = refl

hear_hears : (setup : Setup) (s : Standing) (line : List ℕ) → heard_lines (hear_step setup s line).group ≡ hears (Hear line) (hear_step setup s line).reply
hear_hears setup s line = go (may_hear setup s) refl
  where
    go : (b : Bool) → may_hear setup s ≡ b → heard_lines (hear_step setup s line).group ≡ hears (Hear line) (hear_step setup s line).reply
    go true e = rw (e, due_unheard (after setup s (Heard line)).due) (heard_hears line (after setup s (Heard line)).over)
    go false e = rw e (waiting_hears line (s.over || s.closed))

close_hears : (s : Standing) → heard_lines (close_step s).group ≡ []
close_hears s = go (s.over || s.closed) refl
  where
    go : (b : Bool) → (s.over || s.closed) ≡ b → heard_lines (close_step s).group ≡ []
    go true e = rw e refl
    go false e = rw e refl

event_hears : (setup : Setup) (s : Standing) (event : Event) → heard_lines (event_step setup s 1 event).group ≡ hears event (event_step setup s 1 event).reply
event_hears setup s (Hear line) = hear_hears setup s line
event_hears setup s TakeUp = refl
event_hears setup s (Called said) = refl
event_hears setup s Next = refl
event_hears setup s Written = refl
event_hears setup s Deafen = close_hears s
event_hears setup s Break = refl

broken_hears : (event : Event) → [] ≡ hears event Broken
broken_hears (Hear line) = refl
broken_hears TakeUp = refl
broken_hears (Called said) = refl
broken_hears Next = refl
broken_hears Written = refl
broken_hears Deafen = refl
broken_hears Break = refl

-- the reader calls no remote
uncalled : (setup : Setup) (s : Standing) (event : Event) (group : List Entry) (reply : Reply) → is_call event ≡ true → IsUnsaid (event_step setup s 1 event) group reply → ⊥
uncalled setup s (Hear line) group reply c u = absurd cc
uncalled setup s TakeUp group reply c u = absurd cc
uncalled setup s (Called said) group reply c u = let w : [] ≡ u.call ∷ u.answer ∷ u.more = u.whole in absurd cc
uncalled setup s Next group reply c u = absurd cc
uncalled setup s Written group reply c u = absurd cc
uncalled setup s Deafen group reply c u = absurd cc
uncalled setup s Break group reply c u = absurd cc

own_hears : (setup : Setup) (past : List Entry) (event : Event) (group : List Entry) (reply : Reply) → MayStep setup past 1 event group reply → heard_lines group ≡ hears event reply
own_hears setup past event group reply m = go m.step
  where
    s : Standing
    s = standing setup past

    go : IsStepped (step_of setup past 1 event) group reply ⊎ (IsBrokenOff event group reply ⊎ ((is_call event ≡ true) × IsUnsaid (step_of setup past 1 event) group reply))
        → heard_lines group ≡ hears event reply
    go (inl k) = rw (k.group_is, k.reply_is) (event_hears setup s event)
    go (inr (inl b)) = rw (b.group_is, b.reply_is) (broken_hears event)
    go (inr (inr u)) = absurd (uncalled setup s event group reply u.0 u.1)

pub reader_hears : (h : KitHall) (before after : KitPass) (event : Event) (reply : Reply) → before.number ≡ 1 → HasEntered IsMadeBy MayStep h before after event reply
    → heard_lines (seen_of after) ≡ heard_lines (seen_of before) ++ hears event reply
reader_hears h before after event reply one e =
    let others = subst (λ (n : ℕ). NotBy n e.between) one e.others in
    let own = subst (λ (n : ℕ). Allowed IsMadeBy MayStep h.fixed (seen_of before ++ flat e.between) n event e.group reply) one e.own in
    let between : heard_lines (flat e.between) ≡ [] = none_log h.fixed (seen_of before) e.between e.between_legal others in
    let mine : heard_lines e.group ≡ hears event reply = own_hears h.fixed (seen_of before ++ flat e.between) event e.group reply own.1 in
    ap heard_lines e.seen
    ∙ filter_map-append heard_line (seen_of before ++ flat e.between) e.group
    ∙ ap (λ (xs : List (List ℕ)). xs ++ heard_lines e.group)
    (filter_map-append heard_line (seen_of before) (flat e.between) ∙ ap (λ (xs : List (List ℕ)). heard_lines (seen_of before) ++ xs) between ∙ append-nil (heard_lines (seen_of before)))
    ∙ ap (λ (xs : List (List ℕ)). heard_lines (seen_of before) ++ xs) mine
