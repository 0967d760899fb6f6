-- Each Put of a legal journal is a reply that a line is owed.
use Rattle.std.proofs.Common.{◌≡◌, ℕ, zero, suc, ◌+◌, ◌-◌, ◌<◌, ◌≤◌, List, [], ◌∷◌, ◌++◌, refl, sym, ap, subst, ◌∙◌, Bool, true, false, length, cond, Some, None, Option, arith, take}
use Rattle.std.specs.Prelude.{map, filter, slice_get, nat_lt}
use Rattle.std.proofs.lemmas.List.{take-append-le}
use Rattle.std.proofs.Math.Seq.{take-append_seam}
use Rattle.std.proofs.lemmas.Bool.Decides.{nat_tests}
use Rattle.std.proofs.lemmas.Option.{slice_get_within}
use Rattle.annex_model.specs.Messages.{remote_reading}
use Rattle.journal_model.specs.declared.verdict.Why.{Why}
use Rattle.journal_model.specs.declared.verdict.Verdict.{Verdict}
use Rattle.journal_model.specs.declared.verdict.Verdict.TheVariants.{Ended, Unsent}
use Rattle.journal_model.specs.declared.opening.Opening.{Opening}
use Rattle.journal_model.specs.declared.entry.What.{What}
use Rattle.journal_model.specs.declared.entry.What.TheVariants.{Claim, Start, NoStart, Lead, Ask, Put, Sent, Mute, Got, End, Verdict as Settled, Lost, Answer as Answered, Note as Noted, Again}
use Rattle.journal_model.specs.declared.entry.Entry.{Entry}
use Rattle.journal_model.specs.Journal.{is_live, is_open, is_unsent, open_jobs, on_wire, addressed}
use Rattle.journal_model.specs.Due.{due_after, due_by_got, made_by, verdict_at, replying, replies_at, replies_to, replies_said}
use Rattle.journal_model.specs.Legality.{Legal, may_come}
use Rattle.journal_model.specs.Projection.{IsReply, PutsReply}
use Rattle.journal_model.proofs.Growing.{Legal-induction}
use Rattle.journal_model.proofs.Looks.{entry, settled_all}
use Rattle.journal_model.proofs.Soft.{got_cases}
use Rattle.ann_key.proofs.Lists.{get_after as slice_get-here, slice_get-left}

slice_get-right : {X : Type 0} (xs ys : List X) (n : ℕ) → slice_get (xs ++ ys) (length xs + n) ≡ slice_get ys n
slice_get-right [] ys n = ap (slice_get ys) (let e : 0 + n ≡ n = omega arith in e)
slice_get-right (x ∷ xs) ys n =
    let e : length (x ∷ xs) + n ≡ suc (length xs + n) = omega arith in
    ap (slice_get (x ∷ xs ++ ys)) e ∙ slice_get-right xs ys n

none_some : {X : Type 0} {A : Type 0} (x : X) → None ≡ Some x → A
none_some x h = absurd cc

-- ---- a reply stays one in a longer journal

pub replies_at-append : (o : Opening) (past more : List Entry) (at : ℕ) → at < length past → replies_at o (past ++ more) at ≡ replies_at o past at
replies_at-append o past more at h =
    ap (λ (before : List Entry). replies_to o before (slice_get (past ++ more) at)) (take-append-le at past more (omega (arith, h)))
    ∙ ap (replies_to o (take at past)) (slice_get-left past more at h)

reply_stays : (o : Opening) (past more : List Entry) (at by c j : ℕ) (line : List ℕ) → IsReply o past at by c j line → IsReply o (past ++ more) at by c j line
reply_stays o past more at by c j line r =
    let within : r.from < length past = slice_get_within past r.from (entry by (Got c r.said)) r.got in
    let same : take r.from (past ++ more) ≡ take r.from past = take-append-le r.from past more (omega (arith, within)) in
    record {
      from = r.from;
      nth = r.nth;
      said = r.said;
      reply = r.reply;
      place = r.place;
      got = slice_get-left past more r.from within ∙ r.got;
      job = ap (λ (before : List Entry). (addressed before c r.said).0) same ∙ r.job;
      opened = ap (λ (before : List Entry). is_open before c j) same ∙ r.opened;
      owed = ap (λ (lines : List (List ℕ)). slice_get lines r.nth) (replies_at-append o past more r.from within) ∙ r.owed;
      wired = r.wired ∙ ap (λ (before : List Entry). on_wire before c j r.reply) (sym same);
    }

-- ---- what is due holds no other Put

abbrev NoPut : List Entry → Type 0
NoPut due = (i by c j : ℕ) (line : List ℕ) → slice_get due i ≡ Some (entry by (Put c j line)) → ⊥

abbrev what_in : Option Entry → What
what_in None = Sent 0
what_in (Some e) = e.what

abbrev by_in : Option Entry → ℕ
by_in None = 0
by_in (Some e) = e.by

no_put_here : (by by' c j : ℕ) (line : List ℕ) (child job : ℕ) (v : Verdict) → Some (entry by (Settled child job v)) ≡ Some (entry by' (Put c j line)) → ⊥
no_put_here by by' c j line child job v h = let bad : Settled child job v ≡ Put c j line = ap what_in h in cc

verdicts_no_put : (by child : ℕ) (v : Verdict) (ks : List ℕ) → NoPut (settled_all by child v ks)
verdicts_no_put by child v [] i by' c j line h = none_some (entry by' (Put c j line)) h
verdicts_no_put by child v (k ∷ ks) zero by' c j line h = no_put_here by by' c j line child k v h
verdicts_no_put by child v (k ∷ ks) (suc i) by' c j line h = verdicts_no_put by child v ks i by' c j line h

-- the nth reply
nth_reply : (past : List Entry) (by child k : ℕ) (lines : List (List ℕ)) (i by' c j : ℕ) (line : List ℕ)
    → slice_get (made_by by (replying past child k lines)) i ≡ Some (entry by' (Put c j line))
    → (reply : List ℕ) × (slice_get lines i ≡ Some reply) × (by ≡ by') × (child ≡ c) × (k ≡ j) × (line ≡ on_wire past child k reply)
nth_reply past by child k [] i by' c j line h = none_some (entry by' (Put c j line)) h
nth_reply past by child k (l ∷ ls) zero by' c j line h =
    let same : Put child k (on_wire past child k l) ≡ Put c j line = ap what_in h in
    (l, refl, ap by_in h, cc same, cc same, cc same)
nth_reply past by child k (l ∷ ls) (suc i) by' c j line h = nth_reply past by child k ls i by' c j line h

-- ---- the groups

-- a Put of what the line makes due
abbrev GotPut : Opening → List Entry → ℕ → ℕ → List ℕ → List What → Type 0
GotPut o past by child said due =
    (i by' c j : ℕ) (line : List ℕ) → slice_get (made_by by due) i ≡ Some (entry by' (Put c j line))
    → (reply : List ℕ) × (slice_get (replies_said o past (remote_reading (addressed past child said).1)) i ≡ Some reply)
    × (by ≡ by') × (child ≡ c) × ((addressed past child said).0 ≡ Some j) × (is_open past child j ≡ true) × (line ≡ on_wire past child j reply)

got_put : (o : Opening) (past : List Entry) (by child : ℕ) (said : List ℕ) → GotPut o past by child said (due_by_got o past child said)
got_put o past by child said =
    got_cases (GotPut o past by child said) o past child said
    (λ i by' c j line h. none_some (entry by' (Put c j line)) h)
    (λ why soft i by' c j line h. absurd (no_end why i by' c j line h))
    (λ k f opened i by' c j line h. absurd (verdicts_no_put by child (verdict_at f (length past)) (k ∷ []) i by' c j line h))
    answer
  where
    no_end : (why : Why) → NoPut (entry by (End child why) ∷ settled_all by child (Ended why) (open_jobs past child))
    no_end why zero by' c j line h = let bad : End child why ≡ Put c j line = ap what_in h in cc
    no_end why (suc i) by' c j line h = verdicts_no_put by child (Ended why) (open_jobs past child) i by' c j line h

    answer : (k : ℕ) (lines : List (List ℕ)) → is_open past child k ≡ true → (addressed past child said).0 ≡ Some k
        → lines ≡ replies_said o past (remote_reading (addressed past child said).1) → GotPut o past by child said (replying past child k lines)
    answer k lines opened for owed i by' c j line h =
        let r = nth_reply past by child k lines i by' c j line h in (
          r.0,
          ap (λ (ls : List (List ℕ)). slice_get ls i) (sym owed) ∙ r.1,
          r.2,
          r.3,
          for ∙ ap (λ (x : ℕ). Some x) r.4,
          subst (λ (x : ℕ). is_open past child x ≡ true) r.4 opened,
          r.5 ∙ ap (λ (x : ℕ). on_wire past child x r.0) r.4,
        )

-- an entry that makes nothing due
alone : (w : What) (by i by' c j : ℕ) (line : List ℕ) → slice_get (entry by w ∷ []) i ≡ Some (entry by' (Put c j line)) → (w ≡ Put c j line → ⊥) → ⊥
alone w by zero by' c j line h other = other (ap what_in h)
alone w by (suc i) by' c j line h other = none_some (entry by' (Put c j line)) h

-- a Put of a group
group_put : (o : Opening) (past : List Entry) (by : ℕ) (w : What) → may_come o past by w ≡ true → (i by' c j : ℕ) (line : List ℕ)
    → slice_get (entry by w ∷ due_after o past (entry by w)) i ≡ Some (entry by' (Put c j line))
    → IsReply o (past ++ entry by w ∷ due_after o past (entry by w)) (length past + i) by' c j line
group_put o past by (Got child said) may zero by' c j line h = absurd (let bad : Got child said ≡ Put c j line = ap what_in h in cc)
group_put o past by (Got child said) may (suc i) by' c j line h =
    let r = got_put o past by child said i by' c j line h in
    let due : List Entry = due_after o past (entry by (Got child said)) in
    let before : take (length past) (past ++ entry by (Got child said) ∷ due) ≡ past = take-append_seam past (entry by (Got child said) ∷ due) in
    let here : slice_get (past ++ entry by (Got child said) ∷ due) (length past) ≡ Some (entry by (Got child said)) = slice_get-here past (entry by (Got child said)) due in
    subst (λ (d : ℕ). IsReply o (past ++ entry by (Got child said) ∷ due) (length past + suc i) by' d j line) r.3
    (record {
      from = length past;
      nth = i;
      said = said;
      reply = r.0;
      place = omega arith;
      got = here ∙ ap (λ (n : ℕ). Some (entry n (Got child said))) r.2;
      job = ap (λ (xs : List Entry). (addressed xs child said).0) before ∙ r.4;
      opened = ap (λ (xs : List Entry). is_open xs child j) before ∙ r.5;
      owed =
          ap (λ (ls : List (List ℕ)). slice_get ls i)
          (ap (λ (xs : List Entry). replies_to o xs (slice_get (past ++ entry by (Got child said) ∷ due) (length past))) before ∙ ap (replies_to o past) here)
          ∙ r.1;
      wired = r.6 ∙ ap (λ (xs : List Entry). on_wire xs child j r.0) (sym before);
    })
group_put o past by (End child why) may zero by' c j line h = absurd (let bad : End child why ≡ Put c j line = ap what_in h in cc)
group_put o past by (End child why) may (suc i) by' c j line h = absurd (verdicts_no_put by child (Ended why) (open_jobs past child) i by' c j line h)
group_put o past by (Mute child) may zero by' c j line h = absurd (let bad : Mute child ≡ Put c j line = ap what_in h in cc)
group_put o past by (Mute child) may (suc i) by' c j line h = absurd (by_life (is_live past child) h)
  where
    by_life : (b : Bool) → slice_get (made_by by (cond b (map (λ (k : ℕ). Settled child k Unsent) (filter (is_unsent past child) (open_jobs past child))) [])) i ≡ Some (entry by' (Put c j line)) → ⊥
    by_life true h = verdicts_no_put by child Unsent (filter (is_unsent past child) (open_jobs past child)) i by' c j line h
    by_life false h = none_some (entry by' (Put c j line)) h
group_put o past by (Put child job l) may i by' c j line h = absurd cc
group_put o past by (Claim task child) may i by' c j line h = absurd (alone (Claim task child) by i by' c j line h (λ e. cc))
group_put o past by (Start child slot offer) may i by' c j line h = absurd (alone (Start child slot offer) by i by' c j line h (λ e. cc))
group_put o past by (NoStart slot) may i by' c j line h = absurd (alone (NoStart slot) by i by' c j line h (λ e. cc))
group_put o past by (Lead child job l) may i by' c j line h = absurd (alone (Lead child job l) by i by' c j line h (λ e. cc))
group_put o past by (Ask child job task l) may i by' c j line h = absurd (alone (Ask child job task l) by i by' c j line h (λ e. cc))
group_put o past by (Sent child) may i by' c j line h = absurd (alone (Sent child) by i by' c j line h (λ e. cc))
group_put o past by (Settled child job verdict) may i by' c j line h = absurd cc
group_put o past by (Lost child task) may i by' c j line h = absurd (alone (Lost child task) by i by' c j line h (λ e. cc))
group_put o past by (Answered task answer) may i by' c j line h = absurd (alone (Answered task answer) by i by' c j line h (λ e. cc))
group_put o past by (Again task answer) may i by' c j line h = absurd (alone (Again task answer) by i by' c j line h (λ e. cc))
group_put o past by (Noted task chunk count) may i by' c j line h = absurd (alone (Noted task chunk count) by i by' c j line h (λ e. cc))

-- ---- each legal journal

pub puts_reply : (o : Opening) (journal : List Entry) → Legal o journal → PutsReply o journal
puts_reply o journal l =
    Legal-induction o (PutsReply o) (λ at by c j line h. none_some (entry by (Put c j line)) h) (λ past e legal before may. step past e.by e.what before may) journal l
  where
    step : (past : List Entry) (by : ℕ) (w : What) → PutsReply o past → may_come o past by w ≡ true → PutsReply o (past ++ entry by w ∷ due_after o past (entry by w))
    step past by w before may at by' c j line h = by_place (nat_lt at (length past)) refl
      where
        group : List Entry
        group = entry by w ∷ due_after o past (entry by w)

        by_place : (b : Bool) → nat_lt at (length past) ≡ b → IsReply o (past ++ group) at by' c j line
        by_place true e =
            let within : at < length past = grind (arith, nat_tests) in
            reply_stays o past group at by' c j line (before at by' c j line (sym (slice_get-left past group at within) ∙ h))
        by_place false e =
            let beyond : length past ≤ at = grind (arith, nat_tests) in
            let place : length past + (at - length past) ≡ at = omega (arith, beyond) in
            let there : slice_get group (at - length past) ≡ Some (entry by' (Put c j line)) =
            sym (ap (slice_get (past ++ group)) (sym place) ∙ slice_get-right past group (at - length past)) ∙ h in
            subst (λ (n : ℕ). IsReply o (past ++ group) n by' c j line) place (group_put o past by w may (at - length past) by' c j line there)
