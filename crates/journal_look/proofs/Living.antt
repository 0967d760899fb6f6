-- The lives of the children after one more entry.
use Rattle.std.proofs.Common.{◌≡◌, ◌≢◌, ◌∙◌, ℕ, ◌+◌, ◌-◌, ◌<◌, List, [], ◌∷◌, ◌++◌, refl, sym, ap, subst, Bool, true, false, cond, Option, Some, None, length, get_or, set, take, ◌≤◌, not, get_or-set_same, get_or-set_other, arith, inl, inr, length-append}
use Rattle.std.specs.Prelude.{◌==◌, ◌||◌, ◌⊎◌, filter, is_some}
use Rattle.std.specs.List.{cons_option}
use Rattle.std.specs.Option.{option_or}
use Rattle.std.proofs.lemmas.List.{take_more, length-take-le, get_or_default, get_or_past, get_or-append_right}
use Rattle.std.proofs.lemmas.List.Elements.{filter-append}
use Rattle.std.proofs.lemmas.List.Filters.{length-filter_both}
use Rattle.std.proofs.lemmas.Grind.{common_steps}
use Rattle.journal_model.specs.declared.entry.What.{What}
use Rattle.journal_model.specs.declared.entry.What.TheVariants.{Claim, Start, NoStart, Lead, Ask, Put, Sent, Mute, Got, End, Verdict as Settled, Lost, Answer as Answered, Note as Noted, Again}
use Rattle.journal_model.specs.declared.entry.Entry.{Entry}
use Rattle.journal_model.specs.Journal.{any, each_of, starts, ends, mutes, got_from, offers, sends, asks, end_why, verdict_in, first_of, why_of, verdict_of}
use Rattle.journal_model.specs.Legality.{count, is_start, prepares}
use Rattle.journal_model.proofs.Looks.{any-append, each_of-append, verdict_of-append}
use Rattle.journal_model.proofs.Linking.{why_of-append}
use Rattle.journal_scan.specs.Looks.{written_to, is_no_start}
use Rattle.journal_look.specs.declared.life.Life.{Life}
use Rattle.journal_look.specs.declared.life.Lives.{Lives}
use Rattle.journal_look.specs.Lives.{AreLived, AreLives, about, counted, kept, life_of, lived, unlived}
use Rattle.std.proofs.lemmas.Bool.{ne_eqb as differ}

-- ---- one more entry

any_more : (p : What → Bool) (past : List Entry) (e : Entry) → any p (past ++ e ∷ []) ≡ (p e.what || any p past)
any_more p past e = any-append p past (e ∷ []) ∙ turned (any p past) (p e.what)
  where
    turned : (a b : Bool) → (a || (b || false)) ≡ (b || a)
    turned true true = refl
    turned true false = refl
    turned false true = refl
    turned false false = refl

count_more : (p : What → Bool) (past : List Entry) (e : Entry) → count p (past ++ e ∷ []) ≡ counted (p e.what) (count p past)
count_more p past e = ap length (filter-append (λ (d : Entry). p d.what) past (e ∷ [])) ∙ go (p e.what)
  where
    before : List Entry
    before = filter (λ (d : Entry). p d.what) past

    go : (b : Bool) → length (before ++ cond b (e ∷ []) []) ≡ counted b (length before)
    go true = length-append before (e ∷ [])
    go false = length-append before [] ∙ omega arith

each_more : {X : Type 0} (f : What → Option X) (past : List Entry) (e : Entry) → length (each_of f (past ++ e ∷ [])) ≡ counted (is_some (f e.what)) (length (each_of f past))
each_more {X = X} f past e = ap length (each_of-append f past (e ∷ [])) ∙ go (f e.what)
  where
    go : (o : Option X) → length (each_of f past ++ cons_option o []) ≡ counted (is_some o) (length (each_of f past))
    go (Some x) = length-append (each_of f past) (x ∷ [])
    go None = length-append (each_of f past) [] ∙ omega arith

or_kept : {X : Type 0} (o new : Option X) → option_or o new ≡ kept new o
or_kept None None = refl
or_kept None (Some x) = refl
or_kept (Some y) None = refl
or_kept (Some y) (Some x) = refl

one_verdict : (c j : ℕ) (e : Entry) → verdict_of (e ∷ []) c j ≡ verdict_in c j e.what
one_verdict c j e = go (verdict_in c j e.what)
  where
    go : {X : Type 0} (o : Option X) → first_of (cons_option o []) ≡ o
    go None = refl
    go (Some x) = refl

verdict_more : (past : List Entry) (e : Entry) (c j : ℕ) → verdict_of (past ++ e ∷ []) c j ≡ kept (verdict_in c j e.what) (verdict_of past c j)
verdict_more past e c j = verdict_of-append c j past (e ∷ []) ∙ ap (option_or (verdict_of past c j)) (one_verdict c j e) ∙ or_kept (verdict_of past c j) (verdict_in c j e.what)

one_why : (c : ℕ) (e : Entry) → why_of (e ∷ []) c ≡ end_why c e.what
one_why c e = go e.by e.what
  where
    go : (by : ℕ) (w : What) → why_of (record { by = by; what = w } ∷ []) c ≡ end_why c w
    go by (End child why) = ended (child == c) refl
      where
        ended : (b : Bool) → (child == c) ≡ b → why_of (record { by = by; what = End child why } ∷ []) c ≡ cond (child == c) (Some why) None
        ended true h = rw h (rw h refl)
        ended false h = rw h refl
    go by w = refl

why_more : (past : List Entry) (e : Entry) (c : ℕ) → why_of (past ++ e ∷ []) c ≡ kept (end_why c e.what) (why_of past c)
why_more past e c = why_of-append past (e ∷ []) c ∙ ap (option_or (why_of past c)) (one_why c e) ∙ or_kept (why_of past c) (end_why c e.what)

life_more : (past : List Entry) (e : Entry) (c : ℕ) → life_of (past ++ e ∷ []) c ≡ lived c e.what (life_of past c)
life_more past e c =
    let started = any_more (starts c) past e in
    let offered = any_more (offers c) past e in
    let spoken = any_more (got_from c) past e in
    let mute = any_more (mutes c) past e in
    let ended = any_more (ends c) past e in
    let why = why_more past e c in
    let first = verdict_more past e c 0 in
    let second = verdict_more past e c 1 in
    let prepared = any_more (prepares c) past e in
    let asked = each_more (asks c) past e in
    let written = each_more (written_to c) past e in
    let sent = count_more (sends c) past e in
    cc

-- of another child the entry says nothing
lived_other : (c : ℕ) (w : What) (life : Life) → ((b : ℕ) → about w ≡ Some b → b ≢ c) → lived c w life ≡ life
lived_other c (Start child slot offer) life other = let h = differ child c (other child refl) in rw h refl
lived_other c (Lead child job line) life other = let h = differ child c (other child refl) in rw h refl
lived_other c (Ask child job task line) life other = let h = differ child c (other child refl) in rw h refl
lived_other c (Put child job line) life other = let h = differ child c (other child refl) in rw h refl
lived_other c (Sent child) life other = let h = differ child c (other child refl) in rw h refl
lived_other c (Mute child) life other = let h = differ child c (other child refl) in rw h refl
lived_other c (Got child line) life other = let h = differ child c (other child refl) in rw h refl
lived_other c (End child why) life other = let h = differ child c (other child refl) in rw h refl
lived_other c (Settled child job verdict) life other = let h = differ child c (other child refl) in rw h refl
lived_other c (Claim task child) life other = refl
lived_other c (NoStart slot) life other = refl
lived_other c (Lost child task) life other = refl
lived_other c (Answered task answer) life other = refl
lived_other c (Noted task chunk count) life other = refl
lived_other c (Again task answer) life other = refl

still : (past : List Entry) (e : Entry) (c : ℕ) → ((b : ℕ) → about e.what ≡ Some b → b ≢ c) → life_of (past ++ e ∷ []) c ≡ life_of past c
still past e c other = life_more past e c ∙ lived_other c e.what (life_of past c) other

-- ---- the table

-- an entry that is about no child
pub lives_same : (past : List Entry) (e : Entry) (lives : List Life) → about e.what ≡ None → AreLives past lives → AreLives (past ++ e ∷ []) lives
lives_same past e lives nobody are = record {
  none = still past e 0 (λ b h. absurd (neither b h)) ∙ are.none;
  each = λ k. still past e (k + 1) (λ b h. absurd (neither b h)) ∙ are.each k;
}
  where
    neither : (b : ℕ) → about e.what ≡ Some b → ⊥
    neither b h = let two : None ≡ Some b = sym nobody ∙ h in absurd cc

only : (w : What) (c k : ℕ) → about w ≡ Some c → c ≢ k → (b : ℕ) → about w ≡ Some b → b ≢ k
only w c k is other b h = let same : c ≡ b = cc in subst (λ (x : ℕ). x ≢ k) same other

-- an entry that is about the child at a place of the table
pub lives_set : (past : List Entry) (e : Entry) (lives : List Life) (at : ℕ) → at < length lives → about e.what ≡ Some (at + 1) → AreLives past lives
    → AreLives (past ++ e ∷ []) (set lives at (lived (at + 1) e.what (get_or lives at unlived)))
lives_set past e lives at long is are = record {
  none = still past e 0 (only e.what (at + 1) 0 is (λ h. absurd (omega arith))) ∙ are.none;
  each = λ k. go k (either k);
}
  where
    either : (k : ℕ) → (k ≡ at) ⊎ (k ≢ at)
    either k = grind arith

    here : life_of (past ++ e ∷ []) (at + 1) ≡ lived (at + 1) e.what (get_or lives at unlived)
    here = life_more past e (at + 1) ∙ ap (lived (at + 1) e.what) (are.each at)

    go : (k : ℕ) → (k ≡ at) ⊎ (k ≢ at) → life_of (past ++ e ∷ []) (k + 1) ≡ get_or (set lives at (lived (at + 1) e.what (get_or lives at unlived))) k unlived
    go k (inl same) =
        subst (λ (n : ℕ). life_of (past ++ e ∷ []) (n + 1) ≡ get_or (set lives at (lived (at + 1) e.what (get_or lives at unlived))) n unlived) (sym same)
        (here ∙ sym (get_or-set_same lives at (lived (at + 1) e.what (get_or lives at unlived)) unlived long))
    go k (inr other) =
        still past e (k + 1) (only e.what (at + 1) (k + 1) is (λ h. other (omega arith)))
        ∙ are.each k
        ∙ sym (get_or-set_other lives at k (lived (at + 1) e.what (get_or lives at unlived)) unlived other)

-- an entry that is about the first child after the table
pub lives_push : (past : List Entry) (e : Entry) (lives : List Life) → about e.what ≡ Some (length lives + 1) → AreLives past lives
    → AreLives (past ++ e ∷ []) (lives ++ lived (length lives + 1) e.what unlived ∷ [])
lives_push past e lives is are = record {
  none = still past e 0 (only e.what (length lives + 1) 0 is (λ h. absurd (omega arith))) ∙ are.none;
  each = λ k. go k (either k);
}
  where
    n : ℕ
    n = length lives

    either : (k : ℕ) → (k ≡ length lives) ⊎ (k ≢ length lives)
    either k = grind arith

    last : Life
    last = lived (length lives + 1) e.what unlived

    there : get_or (lives ++ lived (length lives + 1) e.what unlived ∷ []) (length lives) unlived ≡ lived (length lives + 1) e.what unlived
    there = get_or-append_right lives (lived (length lives + 1) e.what unlived ∷ []) (length lives) (length lives) unlived refl (omega arith)
        ∙ (let zero_left : length lives - length lives ≡ 0 = omega arith in rw zero_left refl)

    elsewhere : (k : ℕ) → k ≢ length lives → get_or (lives ++ lived (length lives + 1) e.what unlived ∷ []) k unlived ≡ get_or lives k unlived
    elsewhere k other = grind (arith, common_steps)

    go : (k : ℕ) → (k ≡ length lives) ⊎ (k ≢ length lives) → life_of (past ++ e ∷ []) (k + 1) ≡ get_or (lives ++ lived (length lives + 1) e.what unlived ∷ []) k unlived
    go k (inl same) =
        subst (λ (m : ℕ). life_of (past ++ e ∷ []) (m + 1) ≡ get_or (lives ++ lived (length lives + 1) e.what unlived ∷ []) m unlived) (sym same)
        (life_more past e (length lives + 1)
        ∙ ap (lived (length lives + 1) e.what) (are.each (length lives) ∙ get_or_past lives (length lives) unlived (omega arith))
        ∙ sym there)
    go k (inr other) =
        still past e (k + 1) (only e.what (length lives + 1) (k + 1) is (λ h. other (omega arith)))
        ∙ are.each k
        ∙ sym (elsewhere k other)

-- that, by the entry's child and by what stands there
pub noted_at : (past : List Entry) (e : Entry) (w : What) (lives : List Life) (child : ℕ) (old new : Life) → e.what ≡ w → about w ≡ Some child → 0 < child → child - 1 < length lives
    → old ≡ get_or lives (child - 1) old → new ≡ lived child w old → AreLives past lives → AreLives (past ++ e ∷ []) (set lives (child - 1) new)
noted_at past e w lives child old new same is some long there next are =
    let at : child ≡ (child - 1) + 1 = omega arith in
    let about_it : about e.what ≡ Some ((child - 1) + 1) = ap about same ∙ is ∙ ap (λ (k : ℕ). Some k) at in
    let stood : get_or lives (child - 1) unlived ≡ old = get_or_default lives (child - 1) unlived old long ∙ sym there in
    let value : lived ((child - 1) + 1) e.what (get_or lives (child - 1) unlived) ≡ new =
    ap (λ (k : ℕ). lived k e.what (get_or lives (child - 1) unlived)) (sym at)
    ∙ ap (λ (v : What). lived child v (get_or lives (child - 1) unlived)) same
    ∙ ap (lived child w) stood
    ∙ sym next in
    subst (λ (x : Life). AreLives (past ++ e ∷ []) (set lives (child - 1) x)) value (lives_set past e lives (child - 1) long about_it are)

pub noted_after : (past : List Entry) (e : Entry) (w : What) (lives : List Life) (child : ℕ) (new : Life) (more : List Life) → e.what ≡ w → about w ≡ Some child → 0 < child
    → child - 1 ≡ length lives → new ≡ lived child w unlived → more ≡ lives ++ new ∷ [] → AreLives past lives → AreLives (past ++ e ∷ []) more
noted_after past e w lives child new more same is some last next put are =
    let at : child ≡ length lives + 1 = omega arith in
    let about_it : about e.what ≡ Some (length lives + 1) = ap about same ∙ is ∙ ap (λ (k : ℕ). Some k) at in
    let value : lives ++ lived (length lives + 1) e.what unlived ∷ [] ≡ more =
    ap (λ (k : ℕ). lives ++ lived k e.what unlived ∷ []) (sym at)
    ∙ ap (λ (v : What). lives ++ lived child v unlived ∷ []) same
    ∙ ap (λ (x : Life). lives ++ x ∷ []) (sym next)
    ∙ sym put in
    subst (AreLives (past ++ e ∷ [])) value (lives_push past e lives about_it are)

-- ---- the counts beside it

pub lived_more : (past : List Entry) (e : Entry) (old new : Lives) → AreLived past old → AreLives (past ++ e ∷ []) new.each.items
    → new.starts ≡ counted (is_start e.what) old.starts → new.no_start ≡ (is_no_start e.what || old.no_start) → AreLived (past ++ e ∷ []) new
lived_more past e old new are each starts no_start = record {
  each = each;
  starts = starts ∙ ap (counted (is_start e.what)) are.starts ∙ sym (count_more is_start past e);
  no_start = no_start ∙ ap (λ (b : Bool). is_no_start e.what || b) are.no_start ∙ sym (any_more is_no_start past e);
}

-- ---- through the entries

no_more : {X : Type 0} (f : What → Option X) (past : List Entry) → length (each_of f past) ≤ length past
no_more f [] = omega arith
no_more f (e ∷ past) = let h : length (each_of f (e ∷ past)) ≤ length past + 1 = go (f e.what) (each_of f past) (no_more f past) in omega (arith, h)
  where
    go : {X : Type 0} (o : Option X) (xs : List X) → length xs ≤ length past → length (cons_option o xs) ≤ length past + 1
    go None xs h = omega (arith, h)
    go (Some x) xs h = omega (arith, h)

counted_no_more : (p : What → Bool) (past : List Entry) → count p past ≤ length past
counted_no_more p past = omega (arith, length-filter_both (λ (d : Entry). p d.what) (λ (d : Entry). not (p d.what)) (λ d. refl) past)

pub life_next : (entries : List Entry) (n c : ℕ) (e : Entry) (life more : Life) → n < length entries → e ≡ get_or entries n e → more ≡ lived c e.what life → life ≡ life_of (take n entries) c
    → more ≡ life_of (take (n + 1) entries) c
life_next entries n c e life more long at is before =
    is ∙ ap (lived c e.what) before ∙ ap (λ (d : Entry). lived c d.what (life_of (take n entries) c)) at
    ∙ sym (life_more (take n entries) (get_or entries n e) c) ∙ ap (λ (es : List Entry). life_of es c) (sym (take_more entries n e long))

-- none of the counts of a life is higher than the number of entries
pub record AreFew (life : Life) (n : ℕ) : Type 0 where
  pub asked : life.asked ≤ n
  pub written : life.written ≤ n
  pub sent : life.sent ≤ n

pub few_through : (entries : List Entry) (n c : ℕ) (life : Life) → n < length entries → life ≡ life_of (take n entries) c → AreFew life n
few_through entries n c life long is =
    let short : length (take n entries) ≡ n = length-take-le n entries (omega (arith, long)) in
    subst (λ (l : Life). AreFew l n) (sym is) (record {
      asked = omega (arith, short, no_more (asks c) (take n entries));
      written = omega (arith, short, no_more (written_to c) (take n entries));
      sent = omega (arith, short, counted_no_more (sends c) (take n entries));
    })
