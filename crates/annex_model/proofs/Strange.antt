-- After a front that awaits a line, a message that is no aside is foul exactly where it can't follow.
use Rattle.std.proofs.Common.{◌≡◌, ℕ, List, [], ◌∷◌, ◌++◌, refl, sym, ap, subst, ◌∙◌, append_assoc, append-nil, Bool, true, false, Some, None, Option, ◌⊎◌, inl, inr}
use Rattle.std.specs.Prelude.{IsSome, if◌then◌else◌}
use Rattle.annex_model.specs.declared.final_line.Final.{Final}
use Rattle.annex_model.specs.Messages.{RemoteMessage, HostMessage, IsAskable, remote_reading}
use Rattle.annex_model.specs.Talks.{Item, Conv, ConvFront, Talking, IsReplied, said, is_aside, spells_aside, final_of, awaits, item_is_aside}
use Rattle.annex_model.specs.Hearings.{Aside, Strange, by_answer, hearing_of, hearing, request_in}
use Rattle.annex_model.proofs.Leads.{part_asks}
use Rattle.annex_model.proofs.Awaiting.{before_awaits}
use Rattle.annex_model.proofs.Fronts.{front_of}
use Rattle.annex_model.proofs.FrontsTalk.{front_talks, said-append}
use Rattle.annex_model.proofs.TalksGrow.{from_remote, said-push, replied-push, Conv-push}
use Rattle.ann_key.proofs.Options.{none_not, some_is}

abbrev Said : Type 0
Said = List (Option RemoteMessage)

strange_answer : (o : Option Final) (w : Bool) → by_answer o w ≡ Strange → (o ≡ None) × (w ≡ false)
strange_answer (Some f) w h = absurd cc
strange_answer None true h = absurd cc
strange_answer None false h = (refl, refl)

module _ (replies : ℕ → List (List ℕ)) (q : HostMessage) (part : List Item) where
  replied_of : ConvFront replies q part → IsReplied replies q part
  replied_of front = go (front_talks replies q part front)
    where
      go : Talking replies q part ⊎ Conv replies q part → IsReplied replies q part
      go (inl t) = t.replied
      go (inr c) = c.replied

  module _ (at : ℕ) (text : List ℕ) (m : RemoteMessage) where
    plain_hearing : IsAskable q → ConvFront replies q part → is_aside m ≡ false
        → hearing part m ≡ by_answer (final_of q (said part ++ Some m ∷ [])) (awaits q (said part ++ Some m ∷ []))
    plain_hearing askable front plain =
        ap (λ (b : Bool). if b then Aside else hearing_of (request_in part) (said part ++ Some m ∷ [])) plain
        ∙ ap (λ (r : Option HostMessage). hearing_of r (said part ++ Some m ∷ [])) (part_asks replies q part askable (replied_of front))

    line_is_plain : remote_reading text ≡ Some m → is_aside m ≡ false → item_is_aside (from_remote at text) ≡ false
    line_is_plain reads plain = ap spells_aside reads ∙ plain

    -- what is said with the line, and with more after it
    said_with : (more : List Item) → remote_reading text ≡ Some m → is_aside m ≡ false
        → said (part ++ from_remote at text ∷ more) ≡ (said part ++ Some m ∷ []) ++ said more
    said_with more reads plain =
        ap said (sym (append_assoc part (from_remote at text ∷ []) more))
        ∙ said-append (part ++ from_remote at text ∷ []) more
        ∙ ap (λ (ms : Said). ms ++ said more)
        (said-push part at text (line_is_plain reads plain) ∙ ap (λ (o : Option RemoteMessage). said part ++ o ∷ []) reads)

    pub strange_blocks : IsAskable q → ConvFront replies q part → remote_reading text ≡ Some m → is_aside m ≡ false
        → hearing part m ≡ Strange → (more : List Item) → Conv replies q (part ++ from_remote at text ∷ more) → ⊥
    strange_blocks askable front reads plain strange more conv =
        go (said more) (subst (λ (ms : Said). IsSome (final_of q ms)) (said_with more reads plain) conv.answer)
      where
        off : (final_of q (said part ++ Some m ∷ []) ≡ None) × (awaits q (said part ++ Some m ∷ []) ≡ false)
        off = strange_answer (final_of q (said part ++ Some m ∷ [])) (awaits q (said part ++ Some m ∷ [])) (sym (plain_hearing askable front plain) ∙ strange)

        go : (ms : Said) → IsSome (final_of q ((said part ++ Some m ∷ []) ++ ms)) → ⊥
        go [] h = none_not (final_of q (said part ++ Some m ∷ [])) off.0 (subst (λ (xs : Said). IsSome (final_of q xs)) (append-nil (said part ++ Some m ∷ [])) h)
        go (k ∷ ks) h = let w : awaits q (said part ++ Some m ∷ []) ≡ true = before_awaits q (said part ++ Some m ∷ []) k ks h in absurd (let bad : true ≡ false = sym w ∙ off.1 in cc)

    pub blocked_strange : IsAskable q → ConvFront replies q part → awaits q (said part) ≡ true → remote_reading text ≡ Some m → is_aside m ≡ false
        → ((more : List Item) → Conv replies q (part ++ from_remote at text ∷ more) → ⊥) → hearing part m ≡ Strange
    blocked_strange askable front waits reads plain blocked =
        plain_hearing askable front plain ∙ go (final_of q (said part ++ Some m ∷ [])) (awaits q (said part ++ Some m ∷ [])) refl refl
      where
        talks : Talking replies q part
        talks = record { replied = replied_of front; waits = waits }

        whole : (f : Final) → final_of q (said part ++ Some m ∷ []) ≡ Some f → Conv replies q (part ++ from_remote at text ∷ [])
        whole f e =
            Conv-push replies q part at text (line_is_plain reads plain) talks
            (some_is (final_of q (said part ++ remote_reading text ∷ [])) f (ap (λ (o : Option RemoteMessage). final_of q (said part ++ o ∷ [])) reads ∙ e))

        longer : awaits q (said part ++ Some m ∷ []) ≡ true → ConvFront replies q (part ++ from_remote at text ∷ [])
        longer w = front_of replies q (part ++ from_remote at text ∷ []) record {
          replied = replied-push replies q part at text (line_is_plain reads plain) talks.replied;
          waits = ap (awaits q) (said_with [] reads plain ∙ append-nil (said part ++ Some m ∷ [])) ∙ w;
        }

        go_on : ConvFront replies q (part ++ from_remote at text ∷ []) → ⊥
        go_on f = blocked f.more (subst (Conv replies q) (append_assoc part (from_remote at text ∷ []) f.more) f.goes_on)

        go : (o : Option Final) (w : Bool) → final_of q (said part ++ Some m ∷ []) ≡ o → awaits q (said part ++ Some m ∷ []) ≡ w
            → by_answer o w ≡ Strange
        go (Some f) w e v = absurd (blocked [] (whole f e))
        go None true e v = absurd (go_on (longer v))
        go None false e v = refl
