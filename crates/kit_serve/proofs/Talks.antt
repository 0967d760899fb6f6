-- One turn more of a host that is talked to, and the end.
use Rattle.std.proofs.Common.{◌≡◌, ℕ, ◌+◌, ◌-◌, ◌^◌, ◌<◌, ◌≤◌, ◌==◌, Bool, true, false, not, List, [], ◌∷◌, ◌++◌, length, take, codes, Option, None, Result, Ok, Err, OnOk, IfErr, IsTrue, refl, sym, ap, ◌∙◌, subst, inl, inr, ⊎_elim, arith, length-append}
use Rattle.std.specs.Io.KnownBytes.{Appends}
use Rattle.std.proofs.Math.Seq.{take-append-add}
use Rattle.std.proofs.lemmas.List.Folds.{list_any-append}
use Rattle.ann_outside.specs.Causes.{Rose}
use Rattle.ann_outside.proofs.Telling.{appends_both}
use Rattle.annex_model.specs.Lines.{text, has_newline}
use Rattle.wire_line.specs.HeldBytes.{has_line, first_line, TakesLine}
use Rattle.kit_serve.specs.Limits.{longest_line, next_line}
use Rattle.kit_serve.specs.declared.end.End.{End}
use Rattle.kit_serve.specs.declared.end.End.TheVariants.{Eof, Bad, ReadFault, WriteFault, Memory}
use Rattle.kit_serve.specs.Turns.{ReadsOn, ReadsOnce, Streams, Turned, Half, Leaves}
use Rattle.kit_serve.specs.Voices.{Spoken, Writes, Falters, Hears, opening_text, Bytes, Passes, Talking, IsWritten, EndsBy, Talked}
use Rattle.ann_key.proofs.Booleans.{or_true, not_and_so as true_not}
use Rattle.ann_key.proofs.Lists.{appends_nothing}
use Rattle.annex_model.proofs.Across.{text-append}
use Rattle.wire_line.proofs.Limits.{short_line, short_push}

-- ---- what is held

-- a line that was taken away ended in what was held
ends_in : (held line after : List ℕ) → held ≡ line ++ 10 ∷ after → has_newline held ≡ true
ends_in held line after whole =
    ap has_newline whole ∙ list_any-append (λ b. b == 10) line (10 ∷ after) ∙ or_true (has_newline line)

-- ---- one turn

opening_more : (said say : List (List ℕ)) → opening_text said ++ text say ≡ opening_text (said ++ say)
opening_more said say = sym (text-append (codes "VERSION 1" ∷ said) say)

-- more was written
passes_more : (old new new' : Bytes) (bytes out more : List ℕ) → Passes old new bytes out → new'.given ≡ new.given
    → Appends new.taken new'.taken more → (new.taken ≡ None → new'.taken ≡ None) → Passes old new' bytes (out ++ more)
passes_more old new new' bytes out more p same took silent = record {
  gave = subst (λ (g : Option (List ℕ)). Appends old.given g bytes) (sym same) p.gave;
  gave_silent = λ untold. same ∙ p.gave_silent untold;
  took = appends_both old.taken new.taken new'.taken out more p.took took;
  took_silent = λ untold. silent (p.took_silent untold);
}

-- nothing more was written
passes_same : (old new : Bytes) (taken : Option (List ℕ)) (bytes out : List ℕ) → Passes old new bytes out → taken ≡ new.taken
    → Passes old (record { given = new.given; taken = taken }) bytes out
passes_same old new taken bytes out p same = record {
  gave = p.gave;
  gave_silent = p.gave_silent;
  took = subst (λ (t : Option (List ℕ)). Appends old.taken t out) (sym same) p.took;
  took_silent = λ untold. same ∙ p.took_silent untold;
}

-- more was read
passes_read : {T : Type 0} (old : Bytes) (given given' taken : Option (List ℕ)) (bytes out held held' : List ℕ) (result : Result T End)
    → Passes old (record { given = given; taken = taken }) bytes out → (r : ReadsOn given given' held held' result)
    → Passes old (record { given = given'; taken = taken }) (bytes ++ r.piece) out
passes_read old given given' taken bytes out held held' result p r = record {
  gave = appends_both old.given given given' bytes r.piece p.gave r.told;
  gave_silent = λ untold. r.silent (p.gave_silent untold);
  took = p.took;
  took_silent = p.took_silent;
}

talking_writes : {V : Type 0} (spoke : Spoken V) (begun : V) (old : Bytes) (given taken taken' : Option (List ℕ)) (voice voice' : V) (held held' line : List ℕ) (turns : ℕ)
    → Writes spoke voice voice' taken taken' line → TakesLine held line held' → length line ≤ longest_line
    → Talking spoke begun old (record { given = given; taken = taken }) voice held turns
    → Talking spoke begun old (record { given = given; taken = taken' }) voice' held' (turns + 1)
talking_writes spoke begun old given taken taken' voice voice' held held' line turns w takes fits t = record {
  bytes = t.bytes;
  lines = t.lines ++ line ∷ [];
  said = t.said ++ w.say;
  passes = subst (λ (o : List ℕ). Passes old (record { given = given; taken = taken' }) t.bytes o) (opening_more t.said w.say)
      (passes_more old (record { given = given; taken = taken }) (record { given = given; taken = taken' }) t.bytes (opening_text t.said) (text w.say) t.passes refl w.took w.silent);
  cut = takes t.bytes t.lines t.cut;
  short = short_push longest_line t.lines line t.short fits;
  stands = w.utters begun t.lines t.said t.stands;
  many = let long : length (t.lines ++ line ∷ []) ≡ length t.lines + 1 = length-append t.lines (line ∷ []) in omega (arith, t.many);
}

talking_read : {V T : Type 0} (spoke : Spoken V) (begun : V) (old : Bytes) (given given' taken : Option (List ℕ)) (voice : V) (held held' : List ℕ) (turns turns' : ℕ) (result : Result T End)
    → (r : ReadsOn given given' held held' result) → turns' ≤ turns + length r.piece
    → Talking spoke begun old (record { given = given; taken = taken }) voice held turns
    → Talking spoke begun old (record { given = given'; taken = taken }) voice held' turns'
talking_read spoke begun old given given' taken voice held held' turns turns' result r some t = record {
  bytes = t.bytes ++ r.piece;
  lines = t.lines;
  said = t.said;
  passes = passes_read old given given' taken t.bytes (opening_text t.said) held held' result t.passes r;
  cut = r.cut t.bytes t.lines t.cut;
  short = t.short;
  stands = t.stands;
  many = let long : length (t.bytes ++ r.piece) ≡ length t.bytes + length r.piece = length-append t.bytes r.piece in omega (arith, t.many, some);
}

-- ---- the end

-- nothing more came of it
talked_now : {V : Type 0} (spoke : Spoken V) (over : V → Bool) (foul : V → List ℕ → Type 0) (lacks : V → V → List ℕ → Type 0) (begun : V) (old new : Bytes) (voice last : V) (held : List ℕ) (turns : ℕ) (end : End)
    → Talking spoke begun old new voice held turns → ((out : List ℕ) → IsWritten end out out)
    → ((lines said : List (List ℕ)) (bytes : List ℕ) → spoke begun voice lines said → turns ≤ length lines + length bytes → EndsBy spoke over foul lacks end begun last lines said held bytes)
    → Talked spoke over foul lacks begun old new last end
talked_now spoke over foul lacks begun old new voice last held turns end t written ends = record {
  bytes = t.bytes;
  lines = t.lines;
  rest = held;
  said = t.said;
  out = opening_text t.said;
  passes = t.passes;
  cut = t.cut;
  short = t.short;
  written = written (opening_text t.said);
  ends = ends t.lines t.said t.bytes t.stands t.many;
}

-- the last answer wasn't written whole
falters_end : {V : Type 0} (spoke : Spoken V) (over : V → Bool) (foul : V → List ℕ → Type 0) (lacks : V → V → List ℕ → Type 0) (begun : V) (old : Bytes) (given taken taken' : Option (List ℕ)) (voice voice' : V) (held held' line : List ℕ) (turns : ℕ)
    → Falters spoke voice voice' taken taken' line → TakesLine held line held' → length line ≤ longest_line
    → Talking spoke begun old (record { given = given; taken = taken }) voice held turns
    → Talked spoke over foul lacks begun old (record { given = given; taken = taken' }) voice' WriteFault
falters_end spoke over foul lacks begun old given taken taken' voice voice' held held' line turns f takes fits t = record {
  bytes = t.bytes;
  lines = t.lines ++ line ∷ [];
  rest = held';
  said = t.said ++ f.say;
  out = opening_text t.said ++ take f.n (text f.say);
  passes = passes_more old (record { given = given; taken = taken }) (record { given = given; taken = taken' }) t.bytes (opening_text t.said) (take f.n (text f.say)) t.passes refl f.took f.silent;
  cut = takes t.bytes t.lines t.cut;
  short = short_push longest_line t.lines line t.short fits;
  written = (length (opening_text t.said) + f.n, sym (take-append-add (opening_text t.said) (text f.say) f.n) ∙ ap (take (length (opening_text t.said) + f.n)) (opening_more t.said f.say));
  ends = f.utters begun t.lines t.said t.stands;
}

-- ---- what is written and read in a turn

pub turned_line : (old new : Streams) (held : List ℕ) → IsTrue (has_line longest_line held) → new.rooms ≡ old.rooms → new.given ≡ old.given → Turned old new held
turned_line old new held has rooms given = record {
  at_line = λ line. (rooms, given);
  at_read = λ none. let this : true ≡ false = sym has ∙ none in cc;
}

pub turned_read : (old new : Streams) (held : List ℕ) → IsTrue (not (has_line longest_line held)) → new.taken ≡ old.taken → new.flushed ≡ old.flushed → ReadsOnce old.rooms new.rooms → Turned old new held
turned_read old new held none taken flushed once = record {
  at_line = λ line. absurd (true_not (has_line longest_line held) line none);
  at_read = λ no_line. (taken, flushed, once);
}

pub leaves_both : (old now new : Half) (fault : Type 0) → Leaves old now ⊥ → Leaves now new fault → Leaves old new fault
leaves_both old now new fault p q = record {
  later = omega (arith, p.later, q.later);
  cause = λ f. let rose : Rose now.faults new.faults = q.cause f in omega (arith, p.later);
  quiet = λ none. q.quiet none ∙ p.quiet (λ x. x);
  opened = q.opened;
  number = q.number ∙ p.number;
}

-- a fault that didn't come may be any other
pub leaves_as : (old new : Half) (fault fault' : Type 0) → Leaves old new fault → (fault → ⊥) → (fault' → ⊥) → Leaves old new fault'
leaves_as old new fault fault' p none none' = record {
  later = p.later;
  cause = λ f. absurd (none' f);
  quiet = λ x. p.quiet none;
  opened = p.opened;
  number = p.number;
}

-- ---- what a line came to

pub heard_goes : {V T : Type 0} (spoke : Spoken V) (over : V → Bool) (foul : V → List ℕ → Type 0) (lacks : V → V → List ℕ → Type 0) (given taken taken' : Option (List ℕ)) (voice voice' : V) (held held' : List ℕ) (result : Result T End)
    → Hears spoke over foul lacks voice voice' taken taken' (first_line held) result → TakesLine held (first_line held) held' → IsTrue (has_line longest_line held)
    → OnOk result ((begun : V) (old : Bytes) (turns : ℕ) → Talking spoke begun old (record { given = given; taken = taken }) voice held turns
    → Talking spoke begun old (record { given = given; taken = taken' }) voice' held' (turns + 1))
heard_goes spoke over foul lacks given taken taken' voice voice' held held' (Ok x) heard takes has = λ begun old turns t.
    talking_writes spoke begun old given taken taken' voice voice' held held' (first_line held) turns heard.0 takes (short_line longest_line held has) t
heard_goes spoke over foul lacks given taken taken' voice voice' held held' (Err e) heard takes has = tt

pub heard_ends : {V T : Type 0} (spoke : Spoken V) (over : V → Bool) (foul : V → List ℕ → Type 0) (lacks : V → V → List ℕ → Type 0) (given taken taken' : Option (List ℕ)) (voice voice' : V) (held held' : List ℕ) (result : Result T End)
    → Hears spoke over foul lacks voice voice' taken taken' (first_line held) result → TakesLine held (first_line held) held' → held ≡ first_line held ++ 10 ∷ held'
    → IsTrue (has_line longest_line held) → over voice ≡ false
    → IfErr result (λ end. (begun : V) (old : Bytes) (turns : ℕ) → Talking spoke begun old (record { given = given; taken = taken }) voice held turns
    → Talked spoke over foul lacks begun old (record { given = given; taken = taken' }) voice' end)
heard_ends spoke over foul lacks given taken taken' voice voice' held held' (Ok x) heard takes whole has live = tt
heard_ends {V = V} spoke over foul lacks given taken taken' voice voice' held held' (Err Bad) heard takes whole has live = λ begun old turns t.
    ⊎_elim (λ (w : Writes spoke voice voice' taken taken' (first_line held) × (over voice' ≡ true)).
    talked_now spoke over foul lacks begun old (record { given = given; taken = taken' }) voice' voice' held' (turns + 1) Bad
    (talking_writes spoke begun old given taken taken' voice voice' held held' (first_line held) turns w.0 takes (short_line longest_line held has) t)
    (λ out. refl) (λ lines said bytes s many. (s, inl w.1)))
    (λ (f : foul voice (first_line held) × (voice' ≡ voice) × (taken' ≡ taken)).
    let t' : Talking spoke begun old (record { given = given; taken = taken' }) voice held turns =
    record {
      bytes = t.bytes;
      lines = t.lines;
      said = t.said;
      passes = passes_same old (record { given = given; taken = taken }) taken' t.bytes (opening_text t.said) t.passes f.2;
      cut = t.cut;
      short = t.short;
      stands = t.stands;
      many = t.many;
    } in
    subst (λ (v : V). Talked spoke over foul lacks begun old (record { given = given; taken = taken' }) v Bad) (sym f.1)
    (talked_now spoke over foul lacks begun old (record { given = given; taken = taken' }) voice voice held turns Bad t' (λ out. refl)
    (λ lines said bytes s many. (s, inr (live, inr (ends_in held (first_line held) held' whole, f.0)))))) heard
heard_ends spoke over foul lacks given taken taken' voice voice' held held' (Err WriteFault) heard takes whole has live = λ begun old turns t.
    falters_end spoke over foul lacks begun old given taken taken' voice voice' held held' (first_line held) turns heard takes (short_line longest_line held has) t
heard_ends spoke over foul lacks given taken taken' voice voice' held held' (Err Memory) heard takes whole has live = λ begun old turns t.
    record {
      bytes = t.bytes;
      lines = t.lines;
      rest = held;
      said = t.said;
      out = opening_text t.said;
      passes = passes_same old (record { given = given; taken = taken }) taken' t.bytes (opening_text t.said) t.passes heard.1;
      cut = t.cut;
      short = t.short;
      written = refl;
      ends = inr (record { before = voice; stands = t.stands; live = live; whole = ends_in held (first_line held) held' whole; found_none = heard.0 });
    }
heard_ends spoke over foul lacks given taken taken' voice voice' held held' (Err Eof) heard takes whole has live = absurd heard
heard_ends spoke over foul lacks given taken taken' voice voice' held held' (Err ReadFault) heard takes whole has live = absurd heard

pub long_ends : {V : Type 0} (spoke : Spoken V) (over : V → Bool) (foul : V → List ℕ → Type 0) (lacks : V → V → List ℕ → Type 0) (new : Bytes) (voice : V) (held : List ℕ)
    → longest_line < length (next_line held) → over voice ≡ false
    → (begun : V) (old : Bytes) (turns : ℕ) → Talking spoke begun old new voice held turns → Talked spoke over foul lacks begun old new voice Bad
long_ends spoke over foul lacks new voice held long live begun old turns t =
    talked_now spoke over foul lacks begun old new voice voice held turns Bad t (λ out. refl) (λ lines said bytes s many. (s, inr (live, inl long)))

-- ---- what a read came to

pub read_goes : {V T : Type 0} (spoke : Spoken V) (given given' taken : Option (List ℕ)) (voice : V) (held held' : List ℕ) (result : Result T End)
    → ReadsOn given given' held held' result
    → OnOk result ((begun : V) (old : Bytes) (turns : ℕ) → Talking spoke begun old (record { given = given; taken = taken }) voice held turns
    → Talking spoke begun old (record { given = given'; taken = taken }) voice held' (turns + 1))
read_goes spoke given given' taken voice held held' (Ok x) r = λ begun old turns t.
    talking_read spoke begun old given given' taken voice held held' turns (turns + 1) (Ok x) r (let some : 0 < length r.piece = r.some in omega arith) t
read_goes spoke given given' taken voice held held' (Err e) r = tt

-- the talk as it stands where a read ended it
read_last : {V T : Type 0} (spoke : Spoken V) (given given' taken : Option (List ℕ)) (voice : V) (held held' : List ℕ) (result : Result T End)
    → ReadsOn given given' held held' result → (begun : V) (old : Bytes) (turns : ℕ) → Talking spoke begun old (record { given = given; taken = taken }) voice held turns
    → Talking spoke begun old (record { given = given'; taken = taken }) voice held' turns
read_last spoke given given' taken voice held held' result r begun old turns t =
    talking_read spoke begun old given given' taken voice held held' turns turns result r (omega arith) t

pub read_ends : {V T : Type 0} (spoke : Spoken V) (over : V → Bool) (foul : V → List ℕ → Type 0) (lacks : V → V → List ℕ → Type 0) (given given' taken : Option (List ℕ)) (voice : V) (held held' : List ℕ) (result : Result T End)
    → ReadsOn given given' held held' result → IfErr result (λ _. held' ≡ held) → has_newline held ≡ false → over voice ≡ false
    → (result ≡ Err Bad → ⊥) → (result ≡ Err WriteFault → ⊥)
    → IfErr result (λ end. (begun : V) (old : Bytes) (turns : ℕ) → Talking spoke begun old (record { given = given; taken = taken }) voice held turns
    → Talked spoke over foul lacks begun old (record { given = given'; taken = taken }) voice end)
read_ends spoke over foul lacks given given' taken voice held held' (Ok x) r kept none live not_bad not_write = tt
read_ends spoke over foul lacks given given' taken voice held held' (Err Eof) r kept none live not_bad not_write = λ begun old turns t.
    talked_now spoke over foul lacks begun old (record { given = given'; taken = taken }) voice voice held' turns Eof
    (read_last spoke given given' taken voice held held' (Err Eof) r begun old turns t) (λ out. refl) (λ lines said bytes s many. (s, live, ap has_newline kept ∙ none))
read_ends spoke over foul lacks given given' taken voice held held' (Err ReadFault) r kept none live not_bad not_write = λ begun old turns t.
    talked_now spoke over foul lacks begun old (record { given = given'; taken = taken }) voice voice held' turns ReadFault
    (read_last spoke given given' taken voice held held' (Err ReadFault) r begun old turns t) (λ out. refl) (λ lines said bytes s many. (s, live, ap has_newline kept ∙ none))
read_ends spoke over foul lacks given given' taken voice held held' (Err Memory) r kept none live not_bad not_write = λ begun old turns t.
    talked_now spoke over foul lacks begun old (record { given = given'; taken = taken }) voice voice held' turns Memory
    (read_last spoke given given' taken voice held held' (Err Memory) r begun old turns t) (λ out. refl) (λ lines said bytes s many. inl (s, live, inl (ap has_newline kept ∙ none)))
read_ends spoke over foul lacks given given' taken voice held held' (Err Bad) r kept none live not_bad not_write = absurd (not_bad refl)
read_ends spoke over foul lacks given given' taken voice held held' (Err WriteFault) r kept none live not_bad not_write = absurd (not_write refl)

-- ---- the whole

-- no more turns are counted
pub turns_end : {V : Type 0} (spoke : Spoken V) (over : V → Bool) (foul : V → List ℕ → Type 0) (lacks : V → V → List ℕ → Type 0) (begun : V) (old new : Bytes) (voice : V) (held : List ℕ) (turns : ℕ)
    → over voice ≡ false → 2 ^ 64 - 1 ≤ turns → Talking spoke begun old new voice held turns → Talked spoke over foul lacks begun old new voice Memory
turns_end spoke over foul lacks begun old new voice held turns live all t =
    talked_now spoke over foul lacks begun old new voice voice held turns Memory t (λ out. refl)
    (λ lines said bytes s many. inl (s, live, inr (late (length lines + length bytes) many)))
  where
    late : (n : ℕ) → turns ≤ n → 2 ^ 64 - 1 ≤ n
    late n more = omega arith

-- only the version was said, and nothing was read
pub talking_begins : {V : Type 0} (spoke : Spoken V) (given taken taken' : Option (List ℕ)) (voice : V) (held : List ℕ)
    → held ≡ [] → Appends taken taken' (codes "VERSION 1" ++ 10 ∷ []) → (taken ≡ None → taken' ≡ None) → spoke voice voice [] []
    → Talking spoke voice (record { given = given; taken = taken }) (record { given = given; taken = taken' }) voice held 0
talking_begins spoke given taken taken' voice held empty took silent begins = record {
  bytes = [];
  lines = [];
  said = [];
  passes = record { gave = appends_nothing given; gave_silent = λ untold. untold; took = took; took_silent = silent };
  cut = record { whole = sym empty; apart = refl };
  short = refl;
  stands = begins;
  many = omega arith;
}

-- not all of the version was written
pub unsaid_ends : {V : Type 0} (spoke : Spoken V) (over : V → Bool) (foul : V → List ℕ → Type 0) (lacks : V → V → List ℕ → Type 0) (given taken taken' : Option (List ℕ)) (voice : V)
    → ((n : ℕ) × Appends taken taken' (take n (codes "VERSION 1" ++ 10 ∷ []))) → (taken ≡ None → taken' ≡ None) → spoke voice voice [] []
    → Talked spoke over foul lacks voice (record { given = given; taken = taken }) (record { given = given; taken = taken' }) voice WriteFault
unsaid_ends spoke over foul lacks given taken taken' voice took silent begins = record {
  bytes = [];
  lines = [];
  rest = [];
  said = [];
  out = take took.0 (codes "VERSION 1" ++ 10 ∷ []);
  passes = record { gave = appends_nothing given; gave_silent = λ untold. untold; took = took.1; took_silent = silent };
  cut = record { whole = refl; apart = refl };
  short = refl;
  written = (took.0, refl);
  ends = begins;
}
