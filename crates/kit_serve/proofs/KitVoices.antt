-- A kit as what answers lines, and what goes aside.
use Rattle.std.proofs.Common.{◌≡◌, ℕ, ◌<◌, ◌&&◌, not, Bool, true, false, List, [], ◌∷◌, ◌++◌, length, map, Option, Some, None, option_map, refl, sym, ap, ◌∙◌, subst, inl, inr, ⊎_elim, ◌⊎◌, append_assoc}
use Rattle.std.proofs.lemmas.List.{map-append, append-nil}
use Rattle.annex_model.specs.Lines.{has_newline}
use Rattle.annex_model.specs.Messages.{HostMessage, host_reading}
use Rattle.kit_serve.specs.declared.kit.call.Call.{Call}
use Rattle.kit_serve.specs.declared.kit.kit.Stage.{Stage}
use Rattle.kit_serve.specs.declared.kit.kit.Stage.TheVariants.{Waiting, Readying, Over}
use Rattle.kit_serve.specs.Kit.Kits.{Heard, messages, calls_of, with_call, awaits_value, is_over, IsAskedBy, due_of}
use Rattle.kit_serve.specs.Kit.Stages.{KitValue, Follows, Steps, Stops, is_free, is_last}
use Rattle.kit_serve.specs.Kit.Descriptions.{Description, aside_lines}
use Rattle.kit_serve.specs.Kit.Described.{Answered, ByKit, Aside, read_as, kit_heard, is_about, goes_aside, described_lines}
use Rattle.kit_serve.proofs.KitLemmas.Behind.{calls_of-push}
use Rattle.kit_serve.proofs.KitLemmas.Following.{last_over}
use Rattle.kit_serve.proofs.KitLemmas.Waiting.{aside_followed, free_followed, described_behind-push, AreAnsweredBehind-push, kit_heard-kit, kit_heard-aside}
use Rattle.kit_serve.specs.Limits.{longest_line, next_line}
use Rattle.kit_serve.specs.declared.end.End.{End}
use Rattle.kit_serve.specs.declared.end.End.TheVariants.{Eof, Bad, ReadFault, WriteFault, Memory}
use Rattle.kit_serve.specs.Sessions.{Ended, EndsKit, IsGiven, IsLive, IsFoul, as_list, MayBeLast, AreMade, IsEnd, IsBadNext, IsMemoryCause, IsNextLine, Spoke, Lacks}
use Rattle.kit_serve.specs.Voices.{Utters, Bytes, Talked, IsWritten, IsEndless, Lacking, opening_text}

-- ---- calls

pub made_more : (told : Option (List Call)) (made : List Call) (call : Option Call)
    → with_call (option_map (λ calls. calls ++ made) told) call ≡ option_map (λ calls. calls ++ (made ++ as_list call)) told
made_more told made None = ap (λ m. option_map (λ (calls : List Call). calls ++ m) told) (sym (append-nil made))
made_more None made (Some call) = refl
made_more (Some calls) made (Some call) = ap Some (append_assoc calls made (call ∷ []))

pub calls_one : (e : Heard) → calls_of (e ∷ []) ≡ as_list e.call
calls_one e = elim e.call as (λ c. calls_of (record { message = e.message; call = c } ∷ []) ≡ as_list c) [ None ↦ refl | Some c ↦ refl ]

pub calls_nothing : (told : Option (List Call)) → told ≡ option_map (λ calls. calls ++ []) told
calls_nothing None = refl
calls_nothing (Some calls) = ap Some (sym (append-nil calls))

-- ---- where a kit stands

live_followed : {R : Type 0} (settings : List (List ℕ)) (kit : KitValue R) (t : List Answered) → Follows settings kit (kit_heard t) → is_last kit.stage ≡ false → IsLive settings t
live_followed settings kit t f live = sym (last_over settings (messages (kit_heard t))) ∙ ap is_last (sym f.stage) ∙ live

-- a kit that isn't free, nor over, awaits a value; and one that is free doesn't
awaits_busy : (over awaits : Bool) → (not over && not awaits) ≡ false → over ≡ false → awaits ≡ true
awaits_busy true awaits busy live = cc
awaits_busy false true busy live = refl
awaits_busy false false busy live = cc

awaits_free : (over awaits : Bool) → (not over && not awaits) ≡ true → awaits ≡ false
awaits_free true awaits free = cc
awaits_free false true free = cc
awaits_free false false free = refl

-- a kit that has heard nothing isn't over
pub begins_live : {R : Type 0} (kit : KitValue R) → ((settings : List (List ℕ)) → Follows settings kit []) → is_last kit.stage ≡ false
begins_live kit follows = ap is_last (follows []).stage

pub begins_spoke : {R : Type 0} (settings_of : R → List (List ℕ)) (calls : R → Option (List Call)) (describes : R → Description) (kit : KitValue R)
    → ((settings : List (List ℕ)) → Follows settings kit []) → Spoke settings_of calls describes kit kit [] []
begins_spoke settings_of calls describes kit follows = record {
  t = [];
  read = refl;
  says = refl;
  answered = tt;
  follows = follows (settings_of kit.remote);
  called = calls_nothing (calls kit.remote);
  same = refl;
  live = inl refl;
}

-- the kit is over by its last message, or goes on
live_or_over : {R : Type 0} (calls : R → Option (List Call)) (settings : List (List ℕ)) (kit kit' : KitValue R) (m : HostMessage) (say : List (List ℕ)) (over : Bool) (t : List Answered)
    → (s : Steps calls settings kit kit' m say over) → Follows settings kit (kit_heard t) → is_last kit.stage ≡ false
    → IsLive settings (t ++ ByKit (record { message = m; call = s.call }) ∷ []) ⊎ EndsKit settings (t ++ ByKit (record { message = m; call = s.call }) ∷ [])
live_or_over calls settings kit kit' m say true t s f live = inr record {
  front = t;
  last = record { message = m; call = s.call };
  whole = refl;
  live = live_followed settings kit t f live;
  over = ap (λ (h : List Heard). is_over settings (messages h)) (kit_heard-kit t (record { message = m; call = s.call })) ∙ sym (s.step (kit_heard t) f).ends;
}
live_or_over calls settings kit kit' m say false t s f live =
    inl (ap (λ (h : List Heard). is_over settings (messages h)) (kit_heard-kit t (record { message = m; call = s.call })) ∙ sym (s.step (kit_heard t) f).ends)

pub free_live : (stage : Stage) → is_free stage ≡ true → is_last stage ≡ false
free_live Waiting e = refl
free_live (Readying by_prepare values) e = cc
free_live Over e = cc

-- ---- one line

read_more : (lines : List (List ℕ)) (line : List ℕ) (t : List Answered) (a : Answered) → map host_reading lines ≡ map read_as t → host_reading line ≡ read_as a
    → map host_reading (lines ++ line ∷ []) ≡ map read_as (t ++ a ∷ [])
read_more lines line t a read one =
    map-append host_reading lines (line ∷ []) ∙ ap (λ (l : List (Option HostMessage)). l ++ host_reading line ∷ []) read
    ∙ ap (λ (o : Option HostMessage). map read_as t ++ o ∷ []) one ∙ sym (map-append read_as t (a ∷ []))

-- an answer aside
pub aside_utters : {R : Type 0} (settings_of : R → List (List ℕ)) (calls : R → Option (List Call)) (describes : R → Description) (kit : KitValue R) (line : List ℕ) (request : Option HostMessage) (say : List (List ℕ))
    → host_reading line ≡ request → say ≡ aside_lines (describes kit.remote) request → is_free kit.stage ≡ true → is_about request ≡ true
    → Utters (Spoke settings_of calls describes) kit kit line say
aside_utters settings_of calls describes kit line request say reads says free about = λ begun lines said s.
    let settings = settings_of begun.remote in
    let a : Answered = Aside request (describes kit.remote) in
    let same : kit_heard (s.t ++ a ∷ []) ≡ kit_heard s.t = kit_heard-aside s.t request (describes kit.remote) in
    let goes : goes_aside settings (kit_heard s.t) request ≡ true = aside_followed settings kit (kit_heard s.t) request s.follows ∙ ap (λ (b : Bool). b && is_about request) free ∙ about in
    record {
      t = s.t ++ a ∷ [];
      read = read_more lines line s.t a s.read reads;
      says = ap (λ (l : List (List ℕ)). l ++ say) s.says ∙ ap (λ (l : List (List ℕ)). described_lines settings s.t ++ l) says ∙ sym (described_behind-push settings [] s.t a);
      answered = AreAnsweredBehind-push (IsGiven describes) settings [] s.t a s.answered (goes, (kit.remote, refl));
      follows = subst (λ (h : List Heard). Follows settings kit h) (sym same) s.follows;
      called = s.called ∙ ap (λ (h : List Heard). option_map (λ told. told ++ calls_of h) (calls begun.remote)) (sym same);
      same = s.same;
      live = inl (ap (λ (h : List Heard). is_over settings (messages h)) same ∙ live_followed settings kit s.t s.follows (free_live kit.stage free));
    }

-- an answer of the kit
pub kit_utters : {R : Type 0} (settings_of : R → List (List ℕ)) (calls : R → Option (List Call)) (describes : R → Description) (kit kit' : KitValue R) (line : List ℕ) (m : HostMessage) (say : List (List ℕ)) (over : Bool)
    → host_reading line ≡ Some m → Steps calls (settings_of kit.remote) kit kit' m say over → (is_free kit.stage && is_about (Some m)) ≡ false → is_last kit.stage ≡ false
    → settings_of kit'.remote ≡ settings_of kit.remote → Utters (Spoke settings_of calls describes) kit kit' line say
kit_utters settings_of calls describes kit kit' line m say over reads steps stays live kept = λ begun lines said s.
    let settings = settings_of begun.remote in
    let now : Steps calls settings kit kit' m say over = subst (λ (x : List (List ℕ)). Steps calls x kit kit' m say over) s.same steps in
    let e : Heard = record { message = m; call = now.call } in
    let a : Answered = ByKit e in
    let h : List Heard = kit_heard s.t in
    let step = now.step h s.follows in
    let more : kit_heard (s.t ++ a ∷ []) ≡ h ++ e ∷ [] = kit_heard-kit s.t e in
    let goes : goes_aside settings h (Some m) ≡ false = aside_followed settings kit h (Some m) s.follows ∙ stays in
    record {
      t = s.t ++ a ∷ [];
      read = read_more lines line s.t a s.read reads;
      says = ap (λ (l : List (List ℕ)). l ++ say) s.says ∙ ap (λ (l : List (List ℕ)). described_lines settings s.t ++ l) step.says ∙ sym (described_behind-push settings [] s.t a);
      answered = AreAnsweredBehind-push (IsGiven describes) settings [] s.t a s.answered (goes, step.asks);
      follows = subst (λ (g : List Heard). Follows settings kit' g) (sym more) (now.follows h s.follows);
      called = now.gained ∙ ap (λ t. with_call t now.call) s.called ∙ made_more (calls begun.remote) (calls_of h) now.call
          ∙ ap (λ l. option_map (λ (cs : List Call). cs ++ l) (calls begun.remote))
          (ap (λ l. calls_of h ++ l) (sym (calls_one e)) ∙ sym (calls_of-push h e) ∙ ap calls_of (sym more));
      same = kept ∙ s.same;
      live = live_or_over calls settings kit kit' m say over s.t now s.follows live;
    }

-- ---- the end

-- what the remote was called for, where its kit found no memory
lacks_made : (settings : List (List ℕ)) (t : List Answered) (rest : List ℕ) (m : HostMessage) (call : Option Call)
    → has_newline rest ≡ true → host_reading (next_line rest) ≡ Some m → (call ≡ None) ⊎ IsAskedBy (due_of settings (kit_heard t) m) call → MayBeLast settings t rest call
lacks_made settings t rest m None has reads asked = tt
lacks_made settings t rest m (Some call) has reads asked =
    record { m = m; whole = has; reads = reads; asks = ⊎_elim (λ (none : Some call ≡ None). cc) (λ (due : IsAskedBy (due_of settings (kit_heard t) m) (Some call)). due) asked }

not_over : {R : Type 0} (settings : List (List ℕ)) (kit : KitValue R) (t : List Answered) → Follows settings kit (kit_heard t) → is_last kit.stage ≡ true → IsLive settings t ⊎ EndsKit settings t → EndsKit settings t
not_over settings kit t f over (inl live) =
    let this : true ≡ false = sym over ∙ ap is_last f.stage ∙ last_over settings (messages (kit_heard t)) ∙ live in cc
not_over settings kit t f over (inr ends) = ends

-- a line that spells nothing ends a kit that awaits a value
foul_next : {R : Type 0} (settings : List (List ℕ)) (kit : KitValue R) (t : List Answered) (rest : List ℕ) → Follows settings kit (kit_heard t) → IsLive settings t
    → (longest_line < length (next_line rest)) ⊎ ((has_newline rest ≡ true) × IsFoul kit (next_line rest)) → IsBadNext settings t rest
foul_next settings kit t rest f live (inl long) = inl long
foul_next settings kit t rest f live (inr (whole, foul)) = inr (
  whole,
  foul.reads,
  awaits_busy (is_over settings (messages (kit_heard t))) (awaits_value settings (messages (kit_heard t))) (sym (free_followed settings kit (kit_heard t) f) ∙ foul.busy) live,
)

-- a line with a message, or one that comes to a free kit, is owed an answer
owed_message : (settings : List (List ℕ)) (t : List Answered) (rest : List ℕ) (m : HostMessage) → has_newline rest ≡ true → host_reading (next_line rest) ≡ Some m → IsNextLine settings t rest
owed_message settings t rest m whole reads = record { whole = whole; owed = λ none. let this : Some m ≡ None = sym reads ∙ none in cc }

owed_free : {R : Type 0} (settings : List (List ℕ)) (kit : KitValue R) (t : List Answered) (rest : List ℕ) → Follows settings kit (kit_heard t) → has_newline rest ≡ true → is_free kit.stage ≡ true
    → IsNextLine settings t rest
owed_free settings kit t rest f whole free = record {
  whole = whole;
  owed = λ none. awaits_free (is_over settings (messages (kit_heard t))) (awaits_value settings (messages (kit_heard t))) (sym (free_followed settings kit (kit_heard t) f) ∙ free);
}

-- with the kit that heard all the lines, and the call that may have been made after them
kit_ended : {R : Type 0} (settings_of : R → List (List ℕ)) (calls : R → Option (List Call)) (describes : R → Description) (begun last before : KitValue R) (old new : Bytes) (end : End) (call : Option Call)
    → (t : Talked (Spoke settings_of calls describes) (λ (kit : KitValue R). is_last kit.stage) IsFoul (Lacks settings_of calls) begun old new last end)
    → (s : Spoke settings_of calls describes begun before t.lines t.said) → calls last.remote ≡ with_call (calls before.remote) call
    → AreMade end (calls_of (kit_heard s.t) ++ as_list call) (settings_of begun.remote) s.t t.rest → IsEnd end (settings_of begun.remote) s.t t.rest
    → (end ≡ Memory → IsMemoryCause (settings_of begun.remote) s.t t.lines t.bytes t.rest)
    → Ended (IsGiven describes) (settings_of begun.remote) (record { given = old.given; taken = old.taken; calls = calls begun.remote }) (record { given = new.given; taken = new.taken; calls = calls last.remote }) end
kit_ended settings_of calls describes begun last before old new end call t s gained made ends memory = record {
  bytes = t.bytes;
  lines = t.lines;
  rest = t.rest;
  t = s.t;
  out = t.out;
  made = calls_of (kit_heard s.t) ++ as_list call;
  gains = record {
    gave = t.passes.gave;
    gave_silent = t.passes.gave_silent;
    took = t.passes.took;
    took_silent = t.passes.took_silent;
    called = gained ∙ ap (λ c. with_call c call) s.called ∙ made_more (calls begun.remote) (calls_of (kit_heard s.t)) call;
  };
  heard = record { cut = t.cut; short = t.short; read = s.read; answered = s.answered };
  written = subst (λ (said : List (List ℕ)). IsWritten end t.out (opening_text said)) s.says t.written;
  calls = made;
  ends = ends;
  memory = memory;
}

-- memory ran out for a read
read_ended : {R : Type 0} (settings_of : R → List (List ℕ)) (calls : R → Option (List Call)) (describes : R → Description) (begun last : KitValue R) (old new : Bytes)
    → (t : Talked (Spoke settings_of calls describes) (λ (kit : KitValue R). is_last kit.stage) IsFoul (Lacks settings_of calls) begun old new last Memory)
    → Spoke settings_of calls describes begun last t.lines t.said → is_last last.stage ≡ false → (has_newline t.rest ≡ false) ⊎ IsEndless t.lines t.bytes
    → Ended (IsGiven describes) (settings_of begun.remote) (record { given = old.given; taken = old.taken; calls = calls begun.remote }) (record { given = new.given; taken = new.taken; calls = calls last.remote }) Memory
read_ended settings_of calls describes begun last old new t s live cause =
    kit_ended settings_of calls describes begun last last old new Memory None t s refl (None, refl, tt) (live_followed (settings_of begun.remote) last s.t s.follows live)
    (λ memory. ⊎_elim (λ (none : has_newline t.rest ≡ false). inl none) (λ (endless : IsEndless t.lines t.bytes). inr (inl endless)) cause)

-- memory ran out for the next line
line_ended : {R : Type 0} (settings_of : R → List (List ℕ)) (calls : R → Option (List Call)) (describes : R → Description) (begun last before : KitValue R) (old new : Bytes)
    → (t : Talked (Spoke settings_of calls describes) (λ (kit : KitValue R). is_last kit.stage) IsFoul (Lacks settings_of calls) begun old new last Memory)
    → Spoke settings_of calls describes begun before t.lines t.said → is_last before.stage ≡ false → has_newline t.rest ≡ true → Lacks settings_of calls before last (next_line t.rest)
    → Ended (IsGiven describes) (settings_of begun.remote) (record { given = old.given; taken = old.taken; calls = calls begun.remote }) (record { given = new.given; taken = new.taken; calls = calls last.remote }) Memory
line_ended settings_of calls describes begun last before old new t s live whole (inl l) =
    let settings = settings_of begun.remote in
    let stops : Stops calls settings before last l.m = subst (λ (x : List (List ℕ)). Stops calls x before last l.m) s.same l.stops in
    kit_ended settings_of calls describes begun last before old new Memory stops.call t s stops.gained
    (stops.call, refl, lacks_made settings s.t t.rest l.m stops.call whole l.reads (stops.asks (kit_heard s.t) s.follows)) (live_followed settings before s.t s.follows live)
    (λ memory. inr (inr (owed_message settings s.t t.rest l.m whole l.reads)))
line_ended settings_of calls describes begun last before old new t s live whole (inr (free, about, same)) =
    let settings = settings_of begun.remote in
    kit_ended settings_of calls describes begun last before old new Memory None t s (ap (λ (k : KitValue _). calls k.remote) same) (None, refl, tt) (live_followed settings before s.t s.follows live)
    (λ memory. inr (inr (owed_free settings before s.t t.rest s.follows whole free)))

pub ended_of : {R : Type 0} (settings_of : R → List (List ℕ)) (calls : R → Option (List Call)) (describes : R → Description) (begun last : KitValue R) (old new : Bytes) (end : End)
    → Talked (Spoke settings_of calls describes) (λ (kit : KitValue R). is_last kit.stage) IsFoul (Lacks settings_of calls) begun old new last end
    → Ended (IsGiven describes) (settings_of begun.remote) (record { given = old.given; taken = old.taken; calls = calls begun.remote }) (record { given = new.given; taken = new.taken; calls = calls last.remote }) end
ended_of settings_of calls describes begun last old new Eof t =
    let s = t.ends.0 in
    kit_ended settings_of calls describes begun last last old new Eof None t s refl (append-nil (calls_of (kit_heard s.t)))
    (live_followed (settings_of begun.remote) last s.t s.follows t.ends.1, t.ends.2) (λ other. cc)
ended_of settings_of calls describes begun last old new ReadFault t =
    let s = t.ends.0 in
    kit_ended settings_of calls describes begun last last old new ReadFault None t s refl (append-nil (calls_of (kit_heard s.t)))
    (live_followed (settings_of begun.remote) last s.t s.follows t.ends.1, t.ends.2) (λ other. cc)
ended_of {R = R} settings_of calls describes begun last old new Bad t =
    let s = t.ends.0 in
    let settings = settings_of begun.remote in
    kit_ended settings_of calls describes begun last last old new Bad None t s refl (append-nil (calls_of (kit_heard s.t)))
    (⊎_elim (λ (over : is_last last.stage ≡ true). inl (not_over settings last s.t s.follows over s.live))
    (λ (bad : (is_last last.stage ≡ false) × ((longest_line < length (next_line t.rest)) ⊎ ((has_newline t.rest ≡ true) × IsFoul last (next_line t.rest)))).
    let live = live_followed settings last s.t s.follows bad.0 in
    inr (live, foul_next settings last s.t t.rest s.follows live bad.1)) t.ends.1) (λ other. cc)
ended_of settings_of calls describes begun last old new WriteFault t =
    let s = t.ends in
    kit_ended settings_of calls describes begun last last old new WriteFault None t s refl (append-nil (calls_of (kit_heard s.t))) s.live (λ other. cc)
ended_of {R = R} settings_of calls describes begun last old new Memory t =
    ⊎_elim (λ (reading : Spoke settings_of calls describes begun last t.lines t.said × (is_last last.stage ≡ false) × ((has_newline t.rest ≡ false) ⊎ IsEndless t.lines t.bytes)).
    read_ended settings_of calls describes begun last old new t reading.0 reading.1 reading.2)
    (λ (l : Lacking (Spoke settings_of calls describes) (λ (kit : KitValue R). is_last kit.stage) (Lacks settings_of calls) begun last t.lines t.said t.rest).
    line_ended settings_of calls describes begun last l.before old new t l.stands l.live l.whole l.found_none) t.ends

-- its settings stay, whatever the end
lacks_kept : {R : Type 0} (settings_of : R → List (List ℕ)) (calls : R → Option (List Call)) (before last : KitValue R) (line : List ℕ) → Lacks settings_of calls before last line
    → settings_of last.remote ≡ settings_of before.remote
lacks_kept settings_of calls before last line (inl l) = l.same
lacks_kept settings_of calls before last line (inr (free, about, same)) = ap (λ (k : KitValue _). settings_of k.remote) same

pub settings_kept : {R : Type 0} (settings_of : R → List (List ℕ)) (calls : R → Option (List Call)) (describes : R → Description) (begun last : KitValue R) (old new : Bytes) (end : End)
    → Talked (Spoke settings_of calls describes) (λ (kit : KitValue R). is_last kit.stage) IsFoul (Lacks settings_of calls) begun old new last end
    → settings_of last.remote ≡ settings_of begun.remote
settings_kept settings_of calls describes begun last old new Eof t = let s = t.ends.0 in s.same
settings_kept settings_of calls describes begun last old new ReadFault t = let s = t.ends.0 in s.same
settings_kept settings_of calls describes begun last old new Bad t = let s = t.ends.0 in s.same
settings_kept settings_of calls describes begun last old new WriteFault t = let s = t.ends in s.same
settings_kept {R = R} settings_of calls describes begun last old new Memory t =
    ⊎_elim (λ (reading : Spoke settings_of calls describes begun last t.lines t.said × (is_last last.stage ≡ false) × ((has_newline t.rest ≡ false) ⊎ IsEndless t.lines t.bytes)).
    let s = reading.0 in s.same)
    (λ (l : Lacking (Spoke settings_of calls describes) (λ (kit : KitValue R). is_last kit.stage) (Lacks settings_of calls) begun last t.lines t.said t.rest).
    let s = l.stands in lacks_kept settings_of calls l.before last (next_line t.rest) l.found_none ∙ s.same) t.ends
