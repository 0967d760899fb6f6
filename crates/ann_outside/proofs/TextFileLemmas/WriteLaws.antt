-- How a file grows piece by piece, and how a text takes its place.
use Rattle.std.proofs.Common.{◌≡◌, ◌≢◌, ◌∙◌, ℕ, ◌+◌, ◌-◌, ◌≤◌, List, [], ◌∷◌, ◌++◌, length, map, refl, sym, ap, subst, arith, append_assoc, append-nil, take, drop, length-append, inl, inr}
use Rattle.std.specs.Prelude.{codes, Option, Some, None, option_map, Result, Ok, Err}
use Rattle.std.specs.List.{concat}
use Rattle.std.proofs.lemmas.List.{take-append-drop}
use Rattle.std.proofs.Math.Seq.{take-add}
use Rattle.ann_outside.specs.Calls.{Log, Gained, logged}
use Rattle.ann_outside.specs.DeskCauses.{Counts, HasCauses}
use Rattle.ann_outside.specs.Files.{Files, content, WhereTold, OthersStay, CreateDoes, AppendDoes, RenameDoes}
use Rattle.ann_outside.specs.declared.file_desk.DeskError.{DeskError}
use Rattle.ann_outside.specs.declared.file_desk.DeskError.TheVariants as E
use Rattle.ann_outside.specs.declared.file_desk.Call.{Call}
use Rattle.ann_outside.specs.declared.file_desk.Call.TheVariants.{Create, Append, Rename}
use Rattle.ann_outside.specs.TextFile.Writes.{new_name, append_calls, replace_calls, IsRefusal, IsStopped, AppendsAll, Replaces, HasGrown, GrowsBy, IsReplacedBy, IsAppending}
use Rattle.ann_outside.proofs.TextFileLemmas.Logs.{gained_nothing, gained_more, gained_call, gained_without}
use Rattle.ann_key.proofs.Lists.{option_twice, concat-snoc}

-- ---- the calls

append_calls-append : (name : List ℕ) (xs ys : List (List ℕ)) → append_calls name (xs ++ ys) ≡ append_calls name xs ++ append_calls name ys
append_calls-append name [] ys = refl
append_calls-append name (x ∷ xs) ys = ap (λ (l : List Call). Append name x (Ok tt) ∷ l) (append_calls-append name xs ys)

pub appending_nothing : (log : Option Log) (name bytes : List ℕ) → bytes ≡ [] → IsAppending log log name bytes
appending_nothing log name bytes e = record { pieces = []; all = sym e; calls = gained_nothing log }

-- the first bytes of a text, and the next piece
take_next : (at end : ℕ) (text : List ℕ) → at ≤ end → take at text ++ take (end - at) (drop at text) ≡ take end text
take_next at end text low =
    let sum : at + (end - at) ≡ end = omega (arith, low) in
    sym (take-add at (end - at) text) ∙ ap (λ (k : ℕ). take k text) sum

pub appending_more : (a b c : Option Log) (name text : List ℕ) (at end : ℕ) → at ≤ end → IsAppending a b name (take at text)
    → c ≡ logged b (Append name (take (end - at) (drop at text)) (Ok tt)) → IsAppending a c name (take end text)
appending_more a b c name text at end low r e =
    let piece : List ℕ = take (end - at) (drop at text) in
    record {
      pieces = r.pieces ++ piece ∷ [];
      all = concat-snoc r.pieces piece ∙ ap (λ (l : List ℕ). l ++ piece) r.all ∙ take_next at end text low;
      calls = subst (Gained a c) (sym (append_calls-append name r.pieces (piece ∷ [])))
          (gained_more a b c (append_calls name r.pieces) (Append name piece (Ok tt) ∷ []) r.calls (e ∙ gained_call b (Append name piece (Ok tt)) refl));
    }

pub appends_whole : (a b : Option Log) (name bytes text : List ℕ) → bytes ≡ text → IsAppending a b name bytes → AppendsAll a b name text (Ok tt)
appends_whole a b name bytes text e r = (r.pieces, r.all ∙ e, r.calls)

pub append_refusal : (b c : Option Log) (name piece : List ℕ) (e : DeskError) → c ≡ logged b (Append name piece (Err e))
    → (ending : List Call) × IsRefusal e (Append name piece (Ok tt)) ending × Gained b c ending
append_refusal b c name piece E.NoMemory e = ([], refl, e ∙ gained_without b (Append name piece (Err E.NoMemory)) refl)
append_refusal b c name piece E.Failed e = (Append name piece (Err E.Failed) ∷ [], refl, e ∙ gained_call b (Append name piece (Err E.Failed)) refl)
append_refusal b c name piece E.Missing e = (Append name piece (Err E.Missing) ∷ [], refl, e ∙ gained_call b (Append name piece (Err E.Missing)) refl)

pub appends_refused : (a b c : Option Log) (name text : List ℕ) (at n : ℕ) (e : DeskError) → IsAppending a b name (take at text)
    → c ≡ logged b (Append name (take n (drop at text)) (Err e)) → AppendsAll a c name text (Err e)
appends_refused a b c name text at n e r is =
    let piece : List ℕ = take n (drop at text) in
    let rest : List ℕ = drop n (drop at text) in
    let refusal = append_refusal b c name piece e is in (
      r.pieces ++ piece ∷ rest ∷ [],
      whole r.pieces piece rest ∙ ap (λ (l : List ℕ). l ++ (piece ++ rest)) r.all ∙ ap (λ (l : List ℕ). take at text ++ l) (take-append-drop n (drop at text)) ∙ take-append-drop at text,
      record {
        before = append_calls name r.pieces;
        call = Append name piece (Ok tt);
        after = Append name rest (Ok tt) ∷ [];
        all_is = append_calls-append name r.pieces (piece ∷ rest ∷ []);
        ending = refusal.0;
        refused = refusal.1;
        calls = gained_more a b c (append_calls name r.pieces) refusal.0 r.calls refusal.2;
      },
    )
  where
    whole : (pieces : List (List ℕ)) (x y : List ℕ) → concat (pieces ++ x ∷ y ∷ []) ≡ concat pieces ++ (x ++ y)
    whole [] x y = ap (λ (l : List ℕ). x ++ l) (append-nil y)
    whole (p ∷ pieces) x y = ap (λ (l : List ℕ). p ++ l) (whole pieces x y) ∙ sym (append_assoc p (concat pieces) (x ++ y))

-- the file was made, the text added, and the name given, or not
module _ (a : Option Log) (name fresh text : List ℕ) (other : fresh ≡ new_name name) where
  abbrev made : Call
  made = Create fresh (Ok tt)

  -- the calls, by the other name
  calls_by : (pieces : List (List ℕ)) → made ∷ append_calls fresh pieces ++ Rename fresh name (Ok tt) ∷ [] ≡ replace_calls name pieces
  calls_by pieces = ap (λ (n : List ℕ). Create n (Ok tt) ∷ append_calls n pieces ++ Rename n name (Ok tt) ∷ []) other

  pub replace_unmade : (b : Option Log) (e : DeskError) → (e ≡ E.Missing → ⊥) → b ≡ logged a (Create fresh (Err e)) → Replaces a b name text (Err e)
  replace_unmade b e found is =
      let refusal = refused e found is in (
        text ∷ [],
        append-nil text,
        record {
          before = [];
          call = made;
          after = append_calls fresh (text ∷ []) ++ Rename fresh name (Ok tt) ∷ [];
          all_is = sym (calls_by (text ∷ []));
          ending = refusal.0;
          refused = refusal.1;
          calls = refusal.2;
        },
      )
    where
      refused : (e : DeskError) → (e ≡ E.Missing → ⊥) → b ≡ logged a (Create fresh (Err e)) → (ending : List Call) × IsRefusal e made ending × Gained a b ending
      refused E.NoMemory found e = ([], refl, e ∙ gained_without a (Create fresh (Err E.NoMemory)) refl)
      refused E.Failed found e = (Create fresh (Err E.Failed) ∷ [], refl, e ∙ gained_call a (Create fresh (Err E.Failed)) refl)
      refused E.Missing found e = absurd (found refl)

  module _ (b : Option Log) (create : b ≡ logged a (Create fresh (Ok tt))) where
    begun : Gained a b (made ∷ [])
    begun = create ∙ gained_call a made refl

    pub replace_cut : (c : Option Log) (e : DeskError) → AppendsAll b c fresh text (Err e) → Replaces a c name text (Err e)
    replace_cut c e (pieces, all, s) = (
      pieces,
      all,
      record {
        before = made ∷ s.before;
        call = s.call;
        after = s.after ++ Rename fresh name (Ok tt) ∷ [];
        all_is = sym (calls_by pieces) ∙ ap (λ (l : List Call). made ∷ l ++ Rename fresh name (Ok tt) ∷ []) s.all_is ∙ ap (λ (l : List Call). made ∷ l) (append_assoc s.before (s.call ∷ s.after) (Rename fresh name (Ok tt) ∷ []));
        ending = s.ending;
        refused = s.refused;
        calls = gained_more a b c (made ∷ []) (s.before ++ s.ending) begun s.calls;
      },
    )

    module _ (c : Option Log) (appended : AppendsAll b c fresh text (Ok tt)) where
      abbrev written : List Call
      written = made ∷ append_calls fresh appended.0

      wrote : Gained a c written
      wrote = gained_more a b c (made ∷ []) (append_calls fresh appended.0) begun appended.2

      pub replace_named : (d : Option Log) (result : Result (Unit {0}) DeskError) → d ≡ logged c (Rename fresh name result) → Replaces a d name text result
      replace_named d (Ok tt) is =
          (appended.0, appended.1, subst (Gained a d) (calls_by appended.0) (gained_more a c d written (Rename fresh name (Ok tt) ∷ []) wrote (is ∙ gained_call c (Rename fresh name (Ok tt)) refl)))
      replace_named d (Err e) is =
          let refusal = refused e is in (
            appended.0,
            appended.1,
            record {
              before = written;
              call = Rename fresh name (Ok tt);
              after = [];
              all_is = sym (calls_by appended.0);
              ending = refusal.0;
              refused = refusal.1;
              calls = gained_more a c d written refusal.0 wrote refusal.2;
            },
          )
        where
          refused : (e : DeskError) → d ≡ logged c (Rename fresh name (Err e)) → (ending : List Call) × IsRefusal e (Rename fresh name (Ok tt)) ending × Gained c d ending
          refused E.NoMemory e = ([], refl, e ∙ gained_without c (Rename fresh name (Err E.NoMemory)) refl)
          refused E.Failed e = (Rename fresh name (Err E.Failed) ∷ [], refl, e ∙ gained_call c (Rename fresh name (Err E.Failed)) refl)
          refused E.Missing e = (Rename fresh name (Err E.Missing) ∷ [], refl, e ∙ gained_call c (Rename fresh name (Err E.Missing)) refl)

-- ---- what is told of files

option_none : {A B : Type 0} (f : A → B) (o : Option A) → option_map f o ≡ None → o ≡ None
option_none f None e = refl
option_none f (Some x) e = absurd cc

pub grows_nothing : (name bytes : List ℕ) (files : Files) → bytes ≡ [] → HasGrown name bytes files files
grows_nothing name bytes files e = (subst (λ (l : List ℕ). content name files ≡ option_map (λ b. b ++ l) (content name files)) (sym e) (go (content name files)), λ other d. refl)
  where
    go : (c : Option (List ℕ)) → c ≡ option_map (λ b. b ++ []) c
    go None = refl
    go (Some l) = ap Some (sym (append-nil l))

pub grows_more : (name text : List ℕ) (at end : ℕ) → at ≤ end → (x y z : Files) → HasGrown name (take at text) x y → AppendDoes name (take (end - at) (drop at text)) (Ok tt) y z → HasGrown name (take end text) x z
grows_more name text at end low x y z (grown, others) (there, added, stay) = (
  added ∙ ap (option_map (λ l. l ++ take (end - at) (drop at text))) grown ∙ option_twice (content name x) (take at text) (take (end - at) (drop at text))
      ∙ ap (λ (t : List ℕ). option_map (λ l. l ++ t) (content name x)) (take_next at end text low),
  λ other d. stay other d ∙ others other d,
)

pub grows_refused : (name bytes piece text : List ℕ) (e : DeskError) (x y z : Files) → HasGrown name bytes x y → AppendDoes name piece (Err e) y z → GrowsBy name text (Err e) x z
grows_refused name bytes piece text E.NoMemory x y z (grown, others) stay = λ other d. stay other ∙ others other d
grows_refused name bytes piece text E.Failed x y z (grown, others) (cut, stay) = λ other d. stay other d ∙ others other d
grows_refused name bytes piece text E.Missing x y z (grown, others) (none, stay) = (option_none _ (content name x) (sym grown ∙ none), λ other d. stay other ∙ others other d)

pub grows_whole : (name bytes text : List ℕ) (x y : Files) → bytes ≡ text → HasGrown name bytes x y → GrowsBy name text (Ok tt) x y
grows_whole name bytes text x y e h = subst (λ (t : List ℕ). HasGrown name t x y) e h

-- ---- the file is replaced

new_is_other : (name : List ℕ) → new_name name ≡ name → ⊥
new_is_other name e = absurd (let size : length (name ++ codes ".new") ≡ length name = ap (λ (l : List ℕ). length l) e in omega (arith, size, length-append name (codes ".new")))

-- the text stands under the other name
pub record IsWritten (fresh text : List ℕ) (x y : Files) : Type 0 where
  pub is : content fresh y ≡ Some text
  pub others : OthersStay (λ o. o ≡ fresh) x y

module _ (name fresh text : List ℕ) (other : fresh ≡ new_name name) where
  pub unmade_stays : (e : DeskError) (x y : Files) → (e ≡ E.Missing → ⊥) → CreateDoes fresh (Err e) x y → IsReplacedBy name text (Err e) x y
  unmade_stays E.NoMemory x y found h = λ o d. h o
  unmade_stays E.Failed x y found h = λ o d. h o (λ e. d (e ∙ other))
  unmade_stays E.Missing x y found h = absurd h

  pub cut_stays : (e : DeskError) (x y z : Files) → CreateDoes fresh (Ok tt) x y → GrowsBy fresh text (Err e) y z → IsReplacedBy name text (Err e) x z
  cut_stays E.NoMemory x y z (made, stay) h = λ o d. h o (λ e. d (e ∙ other)) ∙ stay o (λ e. d (e ∙ other))
  cut_stays E.Failed x y z (made, stay) h = λ o d. h o (λ e. d (e ∙ other)) ∙ stay o (λ e. d (e ∙ other))
  cut_stays E.Missing x y z (made, stay) (none, h) = λ o d. h o (λ e. d (e ∙ other)) ∙ stay o (λ e. d (e ∙ other))

  pub text_written : (x y z : Files) → CreateDoes fresh (Ok tt) x y → GrowsBy fresh text (Ok tt) y z → IsWritten fresh text x z
  text_written x y z (made, stay) (grown, others) = record { is = grown ∙ ap (option_map (λ l. l ++ text)) made; others = λ o d. others o d ∙ stay o d }

  pub named : (result : Result (Unit {0}) DeskError) (x y z : Files) → IsWritten fresh text x y → RenameDoes fresh name result y z → IsReplacedBy name text result x z
  named (Ok tt) x y z w (there, moved, gone, stay) = (
    moved ∙ w.is,
    subst (λ (n : List ℕ). content n z ≡ None) other (gone (λ e. new_is_other name (sym other ∙ e))),
    λ o d. stay o (λ e. d (inr (e ∙ other))) (λ e. d (inl e)) ∙ w.others o (λ e. d (inr (e ∙ other))),
  )
  named (Err E.NoMemory) x y z w stay = λ o d. stay o ∙ w.others o (λ e. d (e ∙ other))
  named (Err E.Failed) x y z w stay = λ o d. stay o ∙ w.others o (λ e. d (e ∙ other))
  named (Err E.Missing) x y z w (none, stay) = λ o d. stay o ∙ w.others o (λ e. d (e ∙ other))

  -- where files are told, the file that was made is found
  pub cut_untold : (e : DeskError) (a b c : Option Files) → e ≡ E.Missing → WhereTold a b (CreateDoes fresh (Ok tt)) → WhereTold b c (GrowsBy fresh text (Err e)) → a ≡ None
  cut_untold E.NoMemory a b c is p q = absurd cc
  cut_untold E.Failed a b c is p q = absurd cc
  cut_untold E.Missing None b c is p q = refl
  cut_untold E.Missing (Some x) None c is p q = absurd p
  cut_untold E.Missing (Some x) (Some y) None is p q = absurd q
  cut_untold E.Missing (Some x) (Some y) (Some z) is p q = absurd (let bad : Some [] ≡ None = sym p.0 ∙ q.0 in cc)

  pub named_untold : (result : Result (Unit {0}) DeskError) (a b c : Option Files) → result ≡ Err E.Missing → WhereTold a b (IsWritten fresh text) → WhereTold b c (RenameDoes fresh name result) → a ≡ None
  named_untold (Ok tt) a b c is p q = absurd cc
  named_untold (Err E.NoMemory) a b c is p q = absurd cc
  named_untold (Err E.Failed) a b c is p q = absurd cc
  named_untold (Err E.Missing) None b c is p q = refl
  named_untold (Err E.Missing) (Some x) None c is p q = absurd p
  named_untold (Err E.Missing) (Some x) (Some y) None is p q = absurd q
  named_untold (Err E.Missing) (Some x) (Some y) (Some z) is p q = absurd (let bad : Some text ≡ None = sym p.is ∙ q.0 in cc)

-- ---- the causes

pub causes_same : {T : Type 0} (old new : Counts) (x : T) → new ≡ old → HasCauses old new (Ok x)
causes_same old new x e = record {
  faults_later = let same : new.faults ≡ old.faults = ap (λ (c : Counts). c.faults) e in omega (arith, same);
  missing_later = let same : new.missing ≡ old.missing = ap (λ (c : Counts). c.missing) e in omega (arith, same);
  failed = λ is. cc;
  missing = λ is. cc;
  done = e;
  no_memory = λ is. cc;
}

pub causes_from : {T : Type 0} (old mid new : Counts) (result : Result T DeskError) → mid ≡ old → HasCauses mid new result → HasCauses old new result
causes_from old mid new result e h = subst (λ (k : Counts). HasCauses k new result) e h

pub causes_none : {T : Type 0} (counts : Counts) → HasCauses {T = T} counts counts (Err E.NoMemory)
causes_none counts = record { faults_later = omega arith; missing_later = omega arith; failed = λ is. cc; missing = λ is. cc; done = tt; no_memory = λ is. refl }

-- nothing was asked of the desk
pub replace_nothing : (log : Option Log) (name text : List ℕ) → Replaces log log name text (Err E.NoMemory)
replace_nothing log name text = (
  text ∷ [],
  append-nil text,
  record {
    before = [];
    call = Create (new_name name) (Ok tt);
    after = append_calls (new_name name) (text ∷ []) ++ Rename (new_name name) name (Ok tt) ∷ [];
    all_is = refl;
    ending = [];
    refused = refl;
    calls = gained_nothing log;
  },
)
