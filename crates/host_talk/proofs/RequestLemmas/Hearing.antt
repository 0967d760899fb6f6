-- What is heard, and what may follow a talk so far.
use Rattle.std.proofs.Common.{◌≡◌, ℕ, List, [], ◌∷◌, ◌++◌, refl, sym, ap, ◌∙◌, Bool, true, false, Option, Some, None, if◌then◌else◌, append_assoc, append-nil, subst}
use mathlib.Core.Logic.{inl, inr}
use Rattle.std.specs.Prelude.{IsSome, IsTrue, ◌⊎◌, map}
use Rattle.annex_model.specs.declared.final_line.Final.{Final}
use Rattle.annex_model.specs.Messages.{RemoteMessage, HostMessage, remote_reading}
use Rattle.annex_model.specs.Talks.{Item, Conv, Talking, is_aside, spells_aside, final_of, awaits, said}
use Rattle.annex_model.proofs.TalksGrow.{said-push, replied-push, Conv-push, Talking-aside}
use Rattle.annex_model.specs.Hearings.{by_answer}
use Rattle.host_talk.specs.declared.request.talk.Heard.{Heard}
use Rattle.host_talk.specs.declared.request.talk.Heard.TheVariants.{Aside, Part, Settled, Foul}
use Rattle.host_talk.specs.Request.Hearings.{heard_as, heard, is_taken, are_taken, from_remote, from_host}
use Rattle.host_talk.proofs.RequestLemmas.Lists.{and_fst, and_snd, awaits_first}
use Rattle.ann_key.proofs.Options.{none_not, some_is}
use Rattle.ann_key.proofs.Booleans.{false_is_true as false_true}

-- ---- what a hearing says of the answer

pub settled_final : (o : Option Final) (w : Bool) (f : Final) → heard_as (by_answer o w) ≡ Settled f → o ≡ Some f
settled_final (Some g) w f h = cc
settled_final None true f h = absurd cc
settled_final None false f h = absurd cc

pub final_settled : (o : Option Final) (w : Bool) (f : Final) → o ≡ Some f → heard_as (by_answer o w) ≡ Settled f
final_settled (Some g) w f h = cc
final_settled None w f h = absurd cc

foul_final : (o : Option Final) (w : Bool) → heard_as (by_answer o w) ≡ Foul → (o ≡ None) × (w ≡ false)
foul_final (Some g) w h = absurd cc
foul_final None true h = absurd cc
foul_final None false h = (refl, refl)

pub part_waits : (o : Option Final) (w : Bool) → heard_as (by_answer o w) ≡ Part → w ≡ true
part_waits (Some g) w h = absurd cc
part_waits None true h = refl
part_waits None false h = absurd cc

part_open : (o : Option Final) (w : Bool) → heard_as (by_answer o w) ≡ Part → o ≡ None
part_open (Some g) w h = absurd cc
part_open None w h = refl

no_aside : (o : Option Final) (w : Bool) → heard_as (by_answer o w) ≡ Aside → ⊥
no_aside (Some g) w h = absurd cc
no_aside None true h = absurd cc
no_aside None false h = absurd cc

pub part_plain : (aside : Bool) (h : Heard) → (if aside then Aside else h) ≡ Part → h ≡ Part
part_plain true h is = absurd cc
part_plain false h is = is

pub settled_plain : (aside : Bool) (h : Heard) (f : Final) → (if aside then Aside else h) ≡ Settled f → h ≡ Settled f
settled_plain true h f is = absurd cc
settled_plain false h f is = is

aside_is : (aside : Bool) (o : Option Final) (w : Bool) → (if aside then Aside else heard_as (by_answer o w)) ≡ Aside → aside ≡ true
aside_is true o w is = refl
aside_is false o w is = absurd (no_aside o w is)

-- what is no aside is heard by the answer that it makes
plain_heard : (q : HostMessage) (ms : List (Option RemoteMessage)) (m : RemoteMessage) → is_aside m ≡ false
    → heard q ms m ≡ heard_as (by_answer (final_of q (ms ++ Some m ∷ [])) (awaits q (ms ++ Some m ∷ [])))
plain_heard q ms m plain = ap (λ (b : Bool). if b then Aside else heard_as (by_answer (final_of q (ms ++ Some m ∷ [])) (awaits q (ms ++ Some m ∷ [])))) plain

-- ---- one line more in a part

line_is_plain : (text : List ℕ) (m : RemoteMessage) → remote_reading text ≡ Some m → is_aside m ≡ false → spells_aside (remote_reading text) ≡ false
line_is_plain text m reads plain = ap spells_aside reads ∙ plain

-- the line's message, as what is said with it
said_with : (part : List Item) (at : ℕ) (text : List ℕ) (m : RemoteMessage) → remote_reading text ≡ Some m → is_aside m ≡ false
    → said (part ++ from_remote at text ∷ []) ≡ said part ++ Some m ∷ []
said_with part at text m reads plain =
    said-push part at text (line_is_plain text m reads plain) ∙ ap (λ (o : Option RemoteMessage). said part ++ o ∷ []) reads

makes_conv : (replies : ℕ → List (List ℕ)) (q : HostMessage) (part : List Item) (at : ℕ) (text : List ℕ) (m : RemoteMessage) (f : Final)
    → Talking replies q part → remote_reading text ≡ Some m → is_aside m ≡ false → final_of q (said part ++ Some m ∷ []) ≡ Some f
    → Conv replies q (part ++ from_remote at text ∷ [])
makes_conv replies q part at text m f talks reads plain final =
    Conv-push replies q part at text (line_is_plain text m reads plain) talks
    (some_is (final_of q (said part ++ remote_reading text ∷ [])) f (ap (λ (o : Option RemoteMessage). final_of q (said part ++ o ∷ [])) reads ∙ final))

makes_talk : (replies : ℕ → List (List ℕ)) (q : HostMessage) (part : List Item) (at : ℕ) (text : List ℕ) (m : RemoteMessage)
    → Talking replies q part → remote_reading text ≡ Some m → is_aside m ≡ false → awaits q (said part ++ Some m ∷ []) ≡ true
    → Talking replies q (part ++ from_remote at text ∷ [])
makes_talk replies q part at text m talks reads plain waits = record {
  replied = replied-push replies q part at text (line_is_plain text m reads plain) talks.replied;
  waits = ap (awaits q) (said_with part at text m reads plain) ∙ waits;
}

makes_no_conv : (replies : ℕ → List (List ℕ)) (q : HostMessage) (part : List Item) (at : ℕ) (text : List ℕ) (m : RemoteMessage)
    → remote_reading text ≡ Some m → is_aside m ≡ false → final_of q (said part ++ Some m ∷ []) ≡ None
    → Conv replies q (part ++ from_remote at text ∷ []) → ⊥
makes_no_conv replies q part at text m reads plain none conv =
    none_not (final_of q (said (part ++ from_remote at text ∷ []))) (ap (final_of q) (said_with part at text m reads plain) ∙ none) conv.answer

-- ---- the laws

pub settled_conv : (replies : ℕ → List (List ℕ)) (q : HostMessage) (part : List Item) (at : ℕ) (text : List ℕ) (m : RemoteMessage) (f : Final)
    → Talking replies q part → remote_reading text ≡ Some m → is_aside m ≡ false → heard q (said part) m ≡ Settled f
    → Conv replies q (part ++ from_remote at text ∷ []) × (final_of q (said (part ++ from_remote at text ∷ [])) ≡ Some f)
settled_conv replies q part at text m f talks reads plain h =
    let final : final_of q (said part ++ Some m ∷ []) ≡ Some f =
    settled_final (final_of q (said part ++ Some m ∷ [])) (awaits q (said part ++ Some m ∷ [])) f (sym (plain_heard q (said part) m plain) ∙ h) in (
      makes_conv replies q part at text m f talks reads plain final,
      ap (final_of q) (said_with part at text m reads plain) ∙ final,
    )

pub conv_settled : (q : HostMessage) (part : List Item) (at : ℕ) (text : List ℕ) (m : RemoteMessage) (f : Final)
    → remote_reading text ≡ Some m → is_aside m ≡ false → final_of q (said (part ++ from_remote at text ∷ [])) ≡ Some f → heard q (said part) m ≡ Settled f
conv_settled q part at text m f reads plain h =
    plain_heard q (said part) m plain
    ∙ final_settled (final_of q (said part ++ Some m ∷ [])) (awaits q (said part ++ Some m ∷ [])) f
    (ap (final_of q) (sym (said_with part at text m reads plain)) ∙ h)

pub part_goes_on : (replies : ℕ → List (List ℕ)) (q : HostMessage) (part : List Item) (at : ℕ) (text : List ℕ) (m : RemoteMessage)
    → Talking replies q part → remote_reading text ≡ Some m → is_aside m ≡ false → heard q (said part) m ≡ Part
    → (Conv replies q (part ++ from_remote at text ∷ []) → ⊥) × Talking replies q (part ++ from_remote at text ∷ [])
part_goes_on replies q part at text m talks reads plain h =
    let by : heard_as (by_answer (final_of q (said part ++ Some m ∷ [])) (awaits q (said part ++ Some m ∷ []))) ≡ Part = sym (plain_heard q (said part) m plain) ∙ h in (
      makes_no_conv replies q part at text m reads plain (part_open (final_of q (said part ++ Some m ∷ [])) (awaits q (said part ++ Some m ∷ [])) by),
      makes_talk replies q part at text m talks reads plain (part_waits (final_of q (said part ++ Some m ∷ [])) (awaits q (said part ++ Some m ∷ [])) by),
    )

pub talk_is_part : (replies : ℕ → List (List ℕ)) (q : HostMessage) (part : List Item) (at : ℕ) (text : List ℕ) (m : RemoteMessage)
    → Talking replies q part → remote_reading text ≡ Some m → is_aside m ≡ false
    → (Conv replies q (part ++ from_remote at text ∷ []) → ⊥) → Talking replies q (part ++ from_remote at text ∷ [])
    → heard q (said part) m ≡ Part
talk_is_part replies q part at text m talks reads plain no_conv talk =
    plain_heard q (said part) m plain ∙ go (final_of q (said part ++ Some m ∷ [])) (awaits q (said part ++ Some m ∷ [])) refl (ap (awaits q) (sym (said_with part at text m reads plain)) ∙ talk.waits)
  where
    go : (o : Option Final) (w : Bool) → final_of q (said part ++ Some m ∷ []) ≡ o → w ≡ true → heard_as (by_answer o w) ≡ Part
    go (Some f) w e v = absurd (no_conv (makes_conv replies q part at text m f talks reads plain e))
    go None true e v = refl
    go None false e v = false_true v

pub aside_goes_on : (replies : ℕ → List (List ℕ)) (q : HostMessage) (part : List Item) (at : ℕ) (text : List ℕ) (m : RemoteMessage) (lines : List (ℕ × List ℕ))
    → Talking replies q part → remote_reading text ≡ Some m → heard q (said part) m ≡ Aside
    → map (λ (line : ℕ × List ℕ). line.1) lines ≡ replies at
    → Talking replies q (part ++ from_remote at text ∷ map from_host lines)
aside_goes_on replies q part at text m lines talks reads h owed =
    Talking-aside replies q part at text lines
    (ap spells_aside reads ∙ aside_is (is_aside m) (final_of q (said part ++ Some m ∷ [])) (awaits q (said part ++ Some m ∷ [])) h)
    owed talks

pub foul_blocks : (replies : ℕ → List (List ℕ)) (q : HostMessage) (part : List Item) (at : ℕ) (text : List ℕ) (m : RemoteMessage)
    → remote_reading text ≡ Some m → is_aside m ≡ false → heard q (said part) m ≡ Foul
    → (Conv replies q (part ++ from_remote at text ∷ []) → ⊥) × (Talking replies q (part ++ from_remote at text ∷ []) → ⊥)
foul_blocks replies q part at text m reads plain h =
    let both = foul_final (final_of q (said part ++ Some m ∷ [])) (awaits q (said part ++ Some m ∷ [])) (sym (plain_heard q (said part) m plain) ∙ h) in (
      makes_no_conv replies q part at text m reads plain both.0,
      (λ talking. false_true (sym both.1 ∙ ap (awaits q) (sym (said_with part at text m reads plain)) ∙ talking.waits)),
    )

pub blocks_foul : (replies : ℕ → List (List ℕ)) (q : HostMessage) (part : List Item) (at : ℕ) (text : List ℕ) (m : RemoteMessage)
    → Talking replies q part → remote_reading text ≡ Some m → is_aside m ≡ false
    → (Conv replies q (part ++ from_remote at text ∷ []) → ⊥) → (Talking replies q (part ++ from_remote at text ∷ []) → ⊥)
    → heard q (said part) m ≡ Foul
blocks_foul replies q part at text m talks reads plain no_conv no_talk =
    plain_heard q (said part) m plain ∙ go (final_of q (said part ++ Some m ∷ [])) (awaits q (said part ++ Some m ∷ [])) refl refl
  where
    go : (o : Option Final) (w : Bool) → final_of q (said part ++ Some m ∷ []) ≡ o → awaits q (said part ++ Some m ∷ []) ≡ w
        → heard_as (by_answer o w) ≡ Foul
    go (Some f) w e v = absurd (no_conv (makes_conv replies q part at text m f talks reads plain e))
    go None true e v = absurd (no_talk (makes_talk replies q part at text m talks reads plain v))
    go None false e v = refl

-- ---- messages taken one by one

abbrev pub IsAnswer : HostMessage → List (Option RemoteMessage) → Type 0
IsAnswer q ms = IsTrue (awaits q ms) ⊎ IsSome (final_of q ms)

taken_is_answer : (q : HostMessage) (ms : List (Option RemoteMessage)) (m : RemoteMessage) (h : Heard) → heard q ms m ≡ h → is_taken h ≡ true → IsAnswer q (ms ++ Some m ∷ [])
taken_is_answer q ms m Aside is taken = false_true taken
taken_is_answer q ms m Foul is taken = false_true taken
taken_is_answer q ms m Part is taken =
    inl (part_waits (final_of q (ms ++ Some m ∷ [])) (awaits q (ms ++ Some m ∷ [])) (part_plain (is_aside m) _ is))
taken_is_answer q ms m (Settled f) is taken =
    inr (some_is (final_of q (ms ++ Some m ∷ [])) f (settled_final (final_of q (ms ++ Some m ∷ [])) (awaits q (ms ++ Some m ∷ [])) f (settled_plain (is_aside m) _ f is)))

answers_on : (q : HostMessage) (ms : List (Option RemoteMessage)) (more : List RemoteMessage) → IsAnswer q ms → are_taken q ms more ≡ true → IsAnswer q (ms ++ map Some more)
answers_on q ms [] h taken = subst (λ (xs : List (Option RemoteMessage)). IsAnswer q xs) (sym (append-nil ms)) h
answers_on q ms (m ∷ more) h taken =
    subst (λ (xs : List (Option RemoteMessage)). IsAnswer q xs) (append_assoc ms (Some m ∷ []) (map Some more))
    (answers_on q (ms ++ Some m ∷ []) more
    (taken_is_answer q ms m (heard q ms m) refl (and_fst (is_taken (heard q ms m)) (are_taken q (ms ++ Some m ∷ []) more) taken))
    (and_snd (is_taken (heard q ms m)) (are_taken q (ms ++ Some m ∷ []) more) taken))

pub taken_answers : (q : HostMessage) (ms : List RemoteMessage) → are_taken q [] ms ≡ true → IsAnswer q (map Some ms)
taken_answers q ms taken = answers_on q [] ms (inl (awaits_first q)) taken
