-- A child that goes on, and what is read of it.
use Rattle.std.proofs.Common.{◌≡◌, ℕ, ◌+◌, ◌-◌, ◌≤◌, Bool, true, false, List, [], ◌∷◌, ◌++◌, length, take, drop, codes, Option, Some, None, Result, Ok, Err, refl, sym, ap, ◌∙◌, subst, inl, inr, arith, length-append}
use Rattle.std.specs.Io.KnownBytes.{Appends}
use Rattle.std.proofs.lemmas.List.{append-nil, take-append-le, take_all, length-drop}
use Rattle.annex_model.specs.Lines.{text}
use Rattle.std.proofs.Math.Seq.{take-add}
use Rattle.kit_serve.specs.declared.kit.call.Call.{Call}
use Rattle.kit_serve.specs.declared.kit.kit.Step.{Step}
use Rattle.kit_serve.specs.Kit.Stages.{KitValue, Follows}
use Rattle.kit_serve.specs.Kit.Descriptions.{untold}
use Rattle.kit_memory.specs.Children.{StandsAt, IsChild, Grows, nothing_told, IsProgress, AreProgress, IsMixed, ChattyValue, Chats}
use Rattle.kit_serve.specs.Sessions.{Spoke}
use Rattle.kit_serve.specs.Turns.{end_of}
use Rattle.kit_serve.specs.Voices.{Spoken, Utters, Replies, Hears, Bytes, Talking}
use Rattle.kit_serve.specs.declared.end.End.{End}
use Rattle.kit_serve.specs.declared.end.End.TheVariants.{Eof, Bad, ReadFault, WriteFault, Memory}
use Rattle.kit_serve.proofs.KitVoices.{begins_spoke}
use Rattle.kit_serve.proofs.Talks.{talking_begins}

-- ---- a child

pub at_talk : {V : Type 0} (spoke : Spoken V) (over : V → Bool) (foul : V → List ℕ → Type 0) (lacks : V → V → List ℕ → Type 0) (begun voice : V) (told : Bytes) (held : List ℕ) (end : Option End)
    → StandsAt spoke over foul lacks begun voice told held end → end ≡ None → ((turns : ℕ) × Talking spoke begun nothing_told told voice held turns) × (over voice ≡ false)
at_talk spoke over foul lacks begun voice told held None s e = s
at_talk spoke over foul lacks begun voice told held (Some end) s e = absurd cc

pub went_on : {S V : Type 0} (heard : S → List ℕ) (at_end : S → Bool) (spoke : Spoken V) (over : V → Bool) (foul : V → List ℕ → Type 0) (lacks : V → V → List ℕ → Type 0)
    (source source' : S) (voice voice' : V) (held held' said said' : List ℕ) (read : ℕ) (end end' : Option End)
    → (i : IsChild heard at_end spoke over foul lacks (record { source = source; voice = voice; held = held; said = Some said; read = read; end = end }))
    → Grows (Some said) (Some said') → StandsAt spoke over foul lacks i.begun voice' (record { given = Some (heard source'); taken = Some said' }) held' end'
    → (end' ≡ Some Eof → at_end source' ≡ true)
    → IsChild heard at_end spoke over foul lacks (record { source = source'; voice = voice'; held = held'; said = Some said'; read = read; end = end' })
went_on heard at_end spoke over foul lacks source source' voice voice' held held' said said' read end end' i g s e = record {
  begun = i.begun;
  begins = i.begins;
  stands = s;
  within = let l : length said' ≡ length said + length g.0 = ap length g.1 ∙ length-append said g.0 in let w : read ≤ length said = i.within in omega arith;
  ended = e;
}

-- it has said its version, and nothing was heard
pub child_begins : {S V : Type 0} (heard : S → List ℕ) (at_end : S → Bool) (spoke : Spoken V) (over : V → Bool) (foul : V → List ℕ → Type 0) (lacks : V → V → List ℕ → Type 0)
    (source : S) (voice : V) (held : List ℕ) (told said : Option (List ℕ)) → heard source ≡ [] → over voice ≡ false → spoke voice voice [] [] → held ≡ []
    → told ≡ Some [] → Appends told said (codes "VERSION 1" ++ 10 ∷ [])
    → IsChild heard at_end spoke over foul lacks (record { source = source; voice = voice; held = held; said = said; read = 0; end = None })
child_begins heard at_end spoke over foul lacks source voice held None said nothing live begins empty fresh took = absurd cc
child_begins heard at_end spoke over foul lacks source voice held (Some told) None nothing live begins empty fresh took = absurd took
child_begins heard at_end spoke over foul lacks source voice held (Some told) (Some said) nothing live begins empty fresh took =
    let none : told ≡ [] = cc in
    record {
      begun = voice;
      begins = begins;
      stands = (
        (
          0,
          subst (λ (bytes : List ℕ). Talking spoke voice nothing_told (record { given = Some bytes; taken = Some said }) voice held 0) (sym nothing)
              (talking_begins spoke (Some []) (Some []) (Some said) voice held empty (took ∙ ap (λ (xs : List ℕ). xs ++ (codes "VERSION 1" ++ 10 ∷ [])) none) (λ untold. absurd cc) begins),
        ),
        live,
      );
      within = omega arith;
      ended = λ e. absurd cc;
    }

pub read_stays : (read : ℕ) (said said' : List ℕ) → read ≤ length said → Grows (Some said) (Some said') → ◌≡◌ {A = Option (List ℕ)} (Some (take read said')) (Some (take read said))
read_stays read said said' w g = ap (λ (x : List ℕ). Some x) (ap (λ (x : List ℕ). take read x) g.1 ∙ take-append-le read said g.0 w)

same_grows : (old new : Option (List ℕ)) → new ≡ old → Grows old new
same_grows None new e = ([], tt)
same_grows (Some xs) new e = rw e ([], sym (append-nil xs))

-- what is said to a line is taken after what was taken
pub heard_grows : {V T : Type 0} (spoke : Spoken V) (over : V → Bool) (foul : V → List ℕ → Type 0) (lacks : V → V → List ℕ → Type 0) (old new : V) (taken taken' : Option (List ℕ)) (line : List ℕ)
    (result : Result T End) → Hears spoke over foul lacks old new taken taken' line result → Grows taken taken'
heard_grows spoke over foul lacks old new taken taken' line (Ok x) h = (text h.0.say, h.0.took)
heard_grows spoke over foul lacks old new taken taken' line (Err Bad) (inl h) = (text h.0.say, h.0.took)
heard_grows spoke over foul lacks old new taken taken' line (Err Bad) (inr h) = same_grows taken taken' h.2
heard_grows spoke over foul lacks old new taken taken' line (Err WriteFault) h = (take h.n (text h.say), h.took)
heard_grows spoke over foul lacks old new taken taken' line (Err Memory) h = same_grows taken taken' h.1
heard_grows spoke over foul lacks old new taken taken' line (Err Eof) h = absurd h
heard_grows spoke over foul lacks old new taken taken' line (Err ReadFault) h = absurd h

pub stays_grown : (told : Option (List ℕ)) → Grows told told
stays_grown told = same_grows told told refl

-- no line is the end of what is heard
pub no_end : {V T : Type 0} (spoke : Spoken V) (over : V → Bool) (foul : V → List ℕ → Type 0) (lacks : V → V → List ℕ → Type 0) (old new : V) (taken taken' : Option (List ℕ)) (line : List ℕ)
    (result : Result T End) → Hears spoke over foul lacks old new taken taken' line result → end_of result ≡ Some Eof → ⊥
no_end spoke over foul lacks old new taken taken' line (Ok x) h e = absurd cc
no_end spoke over foul lacks old new taken taken' line (Err Bad) h e = absurd cc
no_end spoke over foul lacks old new taken taken' line (Err WriteFault) h e = absurd cc
no_end spoke over foul lacks old new taken taken' line (Err Memory) h e = absurd cc
no_end spoke over foul lacks old new taken taken' line (Err Eof) h e = absurd h
no_end spoke over foul lacks old new taken taken' line (Err ReadFault) h e = absurd h

-- ---- PROGRESS lines

pub progress_more : (n : ℕ) (told : List (List ℕ)) (line : List ℕ) → AreProgress n told → IsProgress n line → AreProgress n (told ++ line ∷ [])
progress_more n [] line a p = (p, tt)
progress_more n (l ∷ told) line a p = (a.0, progress_more n told line a.1 p)

pub mixed_same : (n : ℕ) (plain : List (List ℕ)) → IsMixed n plain plain
mixed_same n [] = refl
mixed_same n (line ∷ plain) = inl (plain, refl, mixed_same n plain)

pub mixed_after : (n : ℕ) (told plain : List (List ℕ)) → AreProgress n told → IsMixed n plain (told ++ plain)
mixed_after n [] plain a = mixed_same n plain
mixed_after n (line ∷ told) plain a = inr (a.0, mixed_after n told plain a.1)

pub mixed_both : (n : ℕ) (plain more said say : List (List ℕ)) → IsMixed n plain said → IsMixed n more say → IsMixed n (plain ++ more) (said ++ say)
mixed_both n plain more [] say m k = rw m k
mixed_both n plain more (line ∷ said) say (inl h) k = inl (h.0 ++ more, ap (λ (x : List (List ℕ)). x ++ more) h.1, mixed_both n h.0 more said say h.2 k)
mixed_both n plain more (line ∷ said) say (inr h) k = inr (h.0, mixed_both n plain more said say h.1 k)

-- ---- what is read

rest_whole : (shown : List ℕ) (read : ℕ) → take (length shown - read) (drop read shown) ≡ drop read shown
rest_whole shown read = take_all (length shown - read) (drop read shown) (let l : length (drop read shown) ≡ length shown - read = length-drop read shown in omega arith)

pub read_more : (items shown : List ℕ) (read n : ℕ) → ◌≡◌ {A = Option (List ℕ)} (Some items) (Some shown)
    → take (read + n) items ≡ take read items ++ take n (take (length shown - read) (drop read shown))
read_more items shown read n e =
    let s : items ≡ shown = cc in
    take-add read n items ∙ ap (λ (x : List ℕ). take read items ++ take n x) (ap (drop read) s ∙ sym (rest_whole shown read))

-- ---- a voice with PROGRESS lines

pub replied : {V : Type 0} (spoke : Spoken V) (over : V → Bool) (foul : V → List ℕ → Type 0) (old new : V) (line : List ℕ) (o : Option Step) (step : Step)
    → o ≡ Some step → Replies spoke over foul old new line o → Utters spoke old new line step.say × (step.over ≡ over new)
replied spoke over foul old new line None step e h = absurd cc
replied spoke over foul old new line (Some s) step e h =
    let w : s ≡ step = cc in subst (λ (x : Step). Utters spoke old new line x.say × (x.over ≡ over new)) w h

pub chats_utter : {R : Type 0} (settings_of : R → List (List ℕ)) (calls : R → Option (List Call)) (old new : ChattyValue R) (line : List ℕ) (say more : List (List ℕ))
    → Utters (Spoke settings_of calls (λ (_ : R). untold)) old.kit new.kit line say → new.progress ≡ old.progress → IsMixed old.progress say more → Utters (Chats settings_of calls) old new line more
chats_utter settings_of calls old new line say more u same m = λ begun lines said s. record {
  plain = s.plain ++ say;
  spoke = u begun.kit lines s.plain s.spoke;
  mixed = mixed_both begun.progress s.plain say said more s.mixed (subst (λ (n : ℕ). IsMixed n say more) s.same m);
  same = same ∙ s.same;
}

pub chats_begin : {R : Type 0} (settings_of : R → List (List ℕ)) (calls : R → Option (List Call)) (kit : KitValue R) (n : ℕ)
    → ((settings : List (List ℕ)) → Follows settings kit []) → Chats settings_of calls (record { kit = kit; progress = n }) (record { kit = kit; progress = n }) [] []
chats_begin settings_of calls kit n follows = record { plain = []; spoke = begins_spoke settings_of calls (λ _. untold) kit follows; mixed = refl; same = refl }
