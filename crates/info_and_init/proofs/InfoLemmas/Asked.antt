-- From a child that is ready over its answers to all, or to its end.
use Rattle.std.proofs.Common.{◌≡◌, ◌⊎◌, inl, inr, ◌∙◌, ℕ, zero, suc, ◌+◌, List, [], ◌∷◌, ◌++◌, refl, sym, ap, subst, Bool, true, false, not, cond, ◌==◌, Option, Some, None, append_assoc, append-nil, length, map, take, get_or, ◌<◌, ◌≤◌, arith, length-append}
use Rattle.std.specs.Prelude.{◌&&◌, ◌||◌, IsTrue, nat_lt, find, option_and_then, is_some}
use Rattle.std.specs.List.{list_all, cons_option}
use Rattle.std.specs.Option.{option_or}
use Rattle.std.proofs.lemmas.List.{map-append, take-map}
use Rattle.std.proofs.Math.Seq.{take-suc}
use Rattle.std.proofs.lemmas.List.Folds.{list_all-append}
use Rattle.journal_model.specs.declared.verdict.Why.{Why}
use Rattle.journal_model.specs.declared.verdict.Verdict.{Verdict}
use Rattle.journal_model.specs.declared.verdict.Verdict.TheVariants.{Ended, Unsent}
use Rattle.annex_model.specs.Messages.{HostMessage, Listconfigs, Getcost, Getavailability, Getinfo, Exportsupported, Whereis, Transferexport, Checkpresentexport, Removeexport, Renameexport, host_line, is_askable}
use Rattle.annex_model.specs.Talks.{has_lead}
use Rattle.journal_model.specs.declared.entry.What.{What}
use Rattle.journal_model.specs.declared.entry.What.TheVariants.{Start, Ask, End, Lost}
use Rattle.journal_model.specs.declared.entry.Entry.{Entry}
use Rattle.journal_model.specs.declared.opening.Opening.{Opening}
use Rattle.journal_model.specs.Journal.{any, each_of, starts, ends, mutes, end_why, offers, is_started, is_ended, is_mute, is_tagged, on_wire, open_jobs, asked_jobs, verdict_of, why_of}
use Rattle.journal_model.specs.Legality.{Legal, count, is_prepared, is_empty, is_greeted, is_in_turn, may_work}
use Rattle.journal_model.specs.Projection.{final_in}
use Rattle.journal_model.proofs.Looks.{any-append, each_of-append, verdict_of-append}
use Rattle.journal_model.proofs.Linking.{why_is_end}
use Rattle.journal_model.proofs.Verdicts.{ended_verdict, unsent_verdict}
use Rattle.host_talk.specs.declared.request.request.Request.{Request}
use Rattle.host_talk.specs.Request.Requests.{message_of, name_of}
use Rattle.host_talk.proofs.RequestLemmas.Reading.{unnamed}
use Rattle.host_core.specs.Steps.{group_of, is_named_well, next_job, may_request}
use Rattle.journal_model.specs.Shares.{are_by, by_link, is_closed}
use Rattle.child_link.specs.Alone.{AskedAlone, IsSettled, IsLost}
use Rattle.child_life.specs.Start.Greetings.{is_of_greeting, loses, Greeted, IsReady}
use Rattle.child_life.proofs.StartLemmas.Losing.{count_behind, count_none, links_unlost}
use Rattle.child_life.proofs.StartLemmas.Jobs.{idle_asked, jobs_settled}
use Rattle.info_and_init.specs.Info.Infos.{is_answered, are_answered}
use Rattle.info_and_init.specs.Info.Askings.{is_of_asking, line_to, asked_lines, Asks, AsksFront, HasFailed, is_question, is_kept, MayGoOn}
use Rattle.ann_key.proofs.Booleans.{and_false as no_offer, or_true}
use Rattle.child_life.proofs.StartLemmas.Requests.{not_lost}
use Rattle.std.proofs.lemmas.Bool.{and_parts as both}
use Rattle.ann_key.proofs.Numbers.{same_number as same}
use Rattle.child_link.proofs.Roles.{by_append as main_both}
use Rattle.task_model.proofs.Across.{prepared_on}
use Rattle.journal_model.proofs.Across.{all_in as all_so, none_so}

-- ---- one fact of each entry

nothing_so : {X : Type 0} (p : What → Bool) (f : What → Option X) → ((w : What) → p w ≡ true → f w ≡ None) → (es : List Entry)
    → list_all (λ (e : Entry). p e.what) es ≡ true → each_of f es ≡ []
nothing_so p f so [] h = refl
nothing_so p f so (e ∷ es) h =
    let t = both (p e.what) (list_all (λ (x : Entry). p x.what) es) h in
    rw (so e.what t.0, nothing_so p f so es t.1) refl

pub all_both : (p : What → Bool) (xs ys : List Entry) → list_all (λ (e : Entry). p e.what) xs ≡ true → list_all (λ (e : Entry). p e.what) ys ≡ true
    → list_all (λ (e : Entry). p e.what) (xs ++ ys) ≡ true
all_both p xs ys h k = list_all-append (λ (e : Entry). p e.what) xs ys ∙ ap (λ (b : Bool). b && list_all (λ (e : Entry). p e.what) ys) h ∙ k

link_asking : (c : ℕ) (w : What) → by_link c w ≡ true → is_of_asking c w ≡ true
link_asking c (Ask child job task line) h = absurd cc
link_asking c (Lost child task) h = absurd cc
link_asking c w h = h

link_line : (c : ℕ) (w : What) → by_link c w ≡ true → line_to c w ≡ None
link_line c (Ask child job task line) h = absurd cc
link_line c w h = refl

asking_offers : (c d : ℕ) (w : What) → is_of_asking c w ≡ true → offers d w ≡ false
asking_offers c d (Start child slot offer) h = absurd cc
asking_offers c d w h = refl

asking_kept : (c : ℕ) (w : What) → is_of_asking c w ≡ true → is_kept w ≡ true
asking_kept c (End child why) h = (both (child == c) (not (is_closed why)) h).1
asking_kept c w h = refl

pub greeting_offers : (c d : ℕ) (w : What) → is_of_greeting c w ≡ true → offers d w ≡ false
greeting_offers c d (Start child slot offer) h = absurd cc
greeting_offers c d w h = refl

greeting_kept : (c : ℕ) (w : What) → is_of_greeting c w ≡ true → is_kept w ≡ true
greeting_kept c (End child why) h = (both (child == c) (not (is_closed why)) h).1
greeting_kept c w h = refl

-- ---- a child that is ready

pub may_begin : (journal : List Entry) (c : ℕ) → Greeted [] journal 0 false c → IsReady journal c → MayGoOn [] journal journal c
may_begin journal c g r =
    let first : Entry = record { by = 0; what = Start c 0 false } in
    record {
      asks = record {
        more = [];
        is = sym (append-nil journal);
        own = refl;
        main = refl;
        lines = sym (append-nil (asked_lines journal c));
        idle = g.idle;
        lost = none_yet;
      };
      unlost = refl;
      started = ap (λ (x : List Entry). is_started x c) g.grown ∙ ap (λ (b : Bool). b || is_started g.more c) (same c);
      prepared = r.prepared;
      plain =
          ap (any (offers c)) g.grown ∙ ap (λ (b : Bool). b || any (offers c) g.more) (no_offer (c == c))
          ∙ none_so (is_of_greeting c) (offers c) (greeting_offers c c) g.more g.own;
      kept = ap (list_all (λ (e : Entry). is_kept e.what)) g.grown ∙ all_so (is_of_greeting c) is_kept (greeting_kept c) g.more g.own;
      jobs = ap length r.jobs;
      answers = refl;
    }
  where
    none_yet : count (loses c) [] ≤ 1
    none_yet = let none : count (loses c) [] ≡ 0 = refl in omega (arith, none)

-- ---- the next question may be asked

in_turn : (past : List Entry) (c job : ℕ) (q : HostMessage) → is_question q ≡ true → nat_lt 1 job ≡ true → (is_in_turn past c job q ≡ true) × (is_askable q ≡ true)
in_turn past c job Listconfigs h late = (rw late refl, refl)
in_turn past c job Getcost h late = (rw late refl, refl)
in_turn past c job Getavailability h late = (rw late refl, refl)
in_turn past c job Getinfo h late = (rw late refl, refl)
in_turn past c job Exportsupported h late = (rw late refl, refl)
in_turn past c job (Whereis key) h late = (rw late refl, h)
in_turn past c job q h late = absurd cc

late : (n : ℕ) → nat_lt 1 (n + 2) ≡ true
late n = grind arith

greeted_late : (past : List Entry) (c n : ℕ) → is_prepared past c ≡ true → is_greeted past c (n + 2) ≡ true
greeted_late past c n h =
    let zeroth : (n + 2 == 0) ≡ false = grind arith in
    let first : (n + 2 == 1) ≡ false = grind arith in
    rw (zeroth, first, h) refl

pub may_next : (asked : List HostMessage) (old new : List Entry) (c d by : ℕ) (q : HostMessage) → d ≡ c → by ≡ 0 → MayGoOn asked old new c → is_question q ≡ true
    → may_request new by 0 d q ≡ true
may_next asked old new c d by q e f m h =
    let turn = in_turn new c (next_job new c) q h (ap (nat_lt 1) m.jobs ∙ late (length asked)) in
    let greeted : is_greeted new c (next_job new c) ≡ true = ap (is_greeted new c) m.jobs ∙ greeted_late new c (length asked) m.prepared in
    let work : may_work new by 0 c ≡ true = ap (λ (k : ℕ). may_work new k 0 c) f in
    let free : (is_tagged new c || is_empty (open_jobs new c)) ≡ true = ap (λ (ks : List ℕ). is_tagged new c || is_empty ks) m.asks.idle ∙ or_true (is_tagged new c) in
    ap (λ (k : ℕ). may_request new by 0 k q) e
    ∙ all_five (is_started new c) (is_greeted new c (next_job new c)) (may_work new by 0 c) (is_tagged new c || is_empty (open_jobs new c)) (is_in_turn new c (next_job new c) q) (is_askable q)
    m.started greeted work free turn.0 turn.1
  where
    all_five : (a b k l m n : Bool) → a ≡ true → b ≡ true → k ≡ true → l ≡ true → m ≡ true → n ≡ true → (a && (b && k && l) && m && n) ≡ true
    all_five a b k l m n u v w x y z = rw (u, v, w, x, y, z) refl

-- ---- it was asked

push_answers : (journal : List Entry) (c : ℕ) (qs : List HostMessage) (q : HostMessage) (j : ℕ)
    → are_answered journal c qs j ≡ true → is_answered journal c (length qs + j) ≡ true → are_answered journal c (qs ++ q ∷ []) j ≡ true
push_answers journal c [] q j h k =
    let here : 0 + j ≡ j = omega arith in
    ap (λ (b : Bool). b && true) (ap (is_answered journal c) (sym here) ∙ k)
push_answers journal c (x ∷ qs) q j h k =
    let t = both (is_answered journal c j) (are_answered journal c qs (j + 1)) h in
    let next : suc (length qs) + j ≡ length qs + (j + 1) = omega arith in
    rw (t.0, push_answers journal c qs q (j + 1) t.1 (ap (is_answered journal c) (sym next) ∙ k)) refl

answered_on : (old more : List Entry) (c j : ℕ) → is_answered old c j ≡ true → is_answered (old ++ more) c j ≡ true
answered_on old more c j h = ap by_verdict (verdict_of-append c j old more) ∙ go (verdict_of old c j) h
  where
    by_verdict : Option Verdict → Bool
    by_verdict None = false
    by_verdict (Some v) = is_some (final_in v)

    go : (v : Option Verdict) → by_verdict v ≡ true → by_verdict (option_or v (verdict_of more c j)) ≡ true
    go (Some v) h = h
    go None h = absurd cc

all_answered_on : (old more : List Entry) (c : ℕ) (qs : List HostMessage) (j : ℕ) → are_answered old c qs j ≡ true → are_answered (old ++ more) c qs j ≡ true
all_answered_on old more c [] j h = refl
all_answered_on old more c (q ∷ qs) j h =
    let t = both (is_answered old c j) (are_answered old c qs (j + 1)) h in
    rw (answered_on old more c j t.0, all_answered_on old more c qs (j + 1) t.1) refl

-- no question has a lead, so no name was said before it
question_leads : (q : HostMessage) → is_question q ≡ true → has_lead q ≡ false
question_leads (Transferexport store key file) h = absurd cc
question_leads (Checkpresentexport key) h = absurd cc
question_leads (Removeexport key) h = absurd cc
question_leads (Renameexport key onto) h = absurd cc
question_leads q h = refl

pub question_named : (r : Request) → is_question (message_of r) ≡ true → is_named_well (name_of r) ≡ true
question_named r h = ap is_named_well (unnamed r (question_leads (message_of r) h))

pub asked_plain : (o : Opening) (old new : List Entry) (by c : ℕ) (r : Request) (v : Verdict) → is_question (message_of r) ≡ true → AskedAlone o old new by c 0 (name_of r) (message_of r) v
    → AskedAlone o old new by c 0 None (message_of r) v
asked_plain o old new by c r v h a = subst (λ (n : Option (List ℕ)). AskedAlone o old new by c 0 n (message_of r) v) (unnamed r (question_leads (message_of r) h)) a

module _ (o : Opening) (asked : List HostMessage) (old mid new : List Entry) (c by : ℕ) (q : HostMessage) (first : by ≡ 0) (m : MayGoOn asked old mid c) where
  abbrev line : List ℕ
  line = on_wire mid c (next_job mid c) (host_line q)

  abbrev request : List Entry
  request = group_of o mid by (Ask c (next_job mid c) 0 line)

  plain_line : line ≡ host_line q
  plain_line = rw m.plain refl

  own_line : (b : Bool) → b ≡ true → cons_option (cond b (Some line) None) [] ≡ line ∷ []
  own_line true e = refl
  own_line false e = absurd cc

  module _ (v : Verdict) (s : IsSettled o mid new by c 0 None q v) where
    abbrev more : List Entry
    more = request ++ s.goes.more

    grown : new ≡ mid ++ more
    grown = s.goes.is ∙ append_assoc mid request s.goes.more

    own : list_all (λ (e : Entry). is_of_asking c e.what) more ≡ true
    own = all_both (is_of_asking c) request s.goes.more (rw (same c) refl) (all_so (by_link c) (is_of_asking c) (link_asking c) s.goes.more s.goes.quiet)

    main : are_by 0 more ≡ true
    main = subst (λ (k : ℕ). are_by k more ≡ true) first (main_both by request s.goes.more (rw (same by) refl) s.goes.own)

    own_lines : asked_lines more c ≡ host_line q ∷ []
    own_lines =
        each_of-append (line_to c) request s.goes.more
        ∙ ap (λ (ls : List (List ℕ)). asked_lines request c ++ ls) (nothing_so (by_link c) (line_to c) (link_line c) s.goes.more s.goes.quiet)
        ∙ append-nil (asked_lines request c) ∙ own_line (c == c) (same c) ∙ ap (λ (l : List ℕ). l ∷ []) plain_line

    lines : asked_lines new c ≡ asked_lines old c ++ map host_line (asked ++ q ∷ [])
    lines =
        ap (λ (x : List Entry). asked_lines x c) grown ∙ each_of-append (line_to c) mid more
        ∙ ap (λ (ls : List (List ℕ)). asked_lines mid c ++ ls) own_lines
        ∙ ap (λ (ls : List (List ℕ)). ls ++ host_line q ∷ []) m.asks.lines
        ∙ append_assoc (asked_lines old c) (map host_line asked) (host_line q ∷ [])
        ∙ ap (λ (ls : List (List ℕ)). asked_lines old c ++ ls) (sym (map-append host_line asked (q ∷ [])))

    own_unlost : any (loses c) more ≡ false
    own_unlost = any-append (loses c) request s.goes.more ∙ links_unlost c c s.goes.more s.goes.quiet

    pub asks_settled : Asks (asked ++ q ∷ []) old new c
    asks_settled = record {
      more = m.asks.more ++ more;
      is = grown ∙ ap (λ (x : List Entry). x ++ more) m.asks.is ∙ append_assoc old m.asks.more more;
      own = all_both (is_of_asking c) m.asks.more more m.asks.own own;
      main = main_both 0 m.asks.more more m.asks.main main;
      lines = lines;
      idle = idle_asked o mid new by c 0 q v m.asks.idle (inl s);
      lost = omega (arith, count_behind c m.asks.more more m.unlost, count_none c more own_unlost);
    }

    pub goes_settled : is_some (final_in v) ≡ true → MayGoOn (asked ++ q ∷ []) old new c
    unfolding asks_settled
    goes_settled final =
        let here : is_answered (mid ++ more) c (length asked + 2) ≡ true = ap (is_answered (mid ++ more) c) (sym m.jobs) ∙ ap (λ (x : List Entry). is_answered x c (next_job mid c)) (sym grown) ∙ settled in
        record {
          asks = asks_settled;
          unlost = any-append (loses c) m.asks.more more ∙ (rw (m.unlost, own_unlost) refl);
          started = ap (λ (x : List Entry). is_started x c) grown ∙ any-append (starts c) mid more ∙ ap (λ (b : Bool). b || is_started more c) m.started;
          prepared = ap (λ (x : List Entry). is_prepared x c) grown ∙ prepared_on mid more c m.prepared;
          plain = ap (any (offers c)) grown ∙ any-append (offers c) mid more ∙ ap (λ (b : Bool). b || any (offers c) more) m.plain ∙ none_so (is_of_asking c) (offers c) (asking_offers c c) more own;
          kept = ap (list_all (λ (e : Entry). is_kept e.what)) grown ∙ all_both is_kept mid more m.kept (all_so (is_of_asking c) is_kept (asking_kept c) more own);
          jobs = next;
          answers = ap (λ (x : List Entry). are_answered x c (asked ++ q ∷ []) 2) grown ∙ push_answers (mid ++ more) c asked q 2 (all_answered_on mid more c asked 2 m.answers) here;
        }
      where
        settled : is_answered new c (next_job mid c) ≡ true
        settled = rw s.settled final

        next : next_job new c ≡ length (asked ++ q ∷ []) + 2
        next =
            let one : next_job new c ≡ next_job mid c + 1 = ap length (jobs_settled o mid new by c 0 q v s) ∙ length-append (asked_jobs mid c) (next_job mid c ∷ []) in
            let two : length (asked ++ q ∷ []) ≡ length asked + 1 = length-append asked (q ∷ []) in
            omega (arith, one, two, m.jobs)

  pub goes_on : (v : Verdict) → is_some (final_in v) ≡ true → AskedAlone o mid new by c 0 None q v → MayGoOn (asked ++ q ∷ []) old new c
  goes_on v final (inl s) = goes_settled v s final
  goes_on v final (inr l) = not_lost v (why_of mid c) final l.lost

  pub asks_lost : (v : Verdict) → IsLost o mid new by c 0 v → Asks asked old new c
  asks_lost v l =
      let lost : List Entry = group_of o mid by (Lost c 0) in
      let by_main : are_by by lost ≡ true = rw (same by) refl in
      let one : count (loses c) lost ≡ 1 = rw (same c) refl in
      record {
        more = m.asks.more ++ lost;
        is = l.made ∙ ap (λ (x : List Entry). x ++ lost) m.asks.is ∙ append_assoc old m.asks.more lost;
        own = all_both (is_of_asking c) m.asks.more lost m.asks.own (rw (same c) refl);
        main = main_both 0 m.asks.more lost m.asks.main (subst (λ (k : ℕ). are_by k lost ≡ true) first by_main);
        lines = ap (λ (x : List Entry). asked_lines x c) l.made ∙ each_of-append (line_to c) mid lost ∙ append-nil (asked_lines mid c) ∙ m.asks.lines;
        idle = idle_asked o mid new by c 0 q v m.asks.idle (inr l);
        lost = omega (arith, count_behind c m.asks.more lost m.unlost, one);
      }

-- ---- the child has failed

unclosed : (c : ℕ) (es : List Entry) (why : Why) → list_all (λ (e : Entry). is_kept e.what) es ≡ true → why_of es c ≡ Some why → is_closed why ≡ false
unclosed c [] why h is = absurd cc
unclosed c (e ∷ es) why h is =
    let t = both (is_kept e.what) (list_all (λ (x : Entry). is_kept x.what) es) h in
    go (ends c e.what) is (unclosed c es why t.1)
  where
    one : (w : What) → is_kept w ≡ true → end_why c w ≡ Some why → is_closed why ≡ false
    one (End child x) kept is = pick (child == c) is
      where
        open_end : (b : Bool) → not b ≡ true → b ≡ false
        open_end true h = absurd cc
        open_end false h = refl

        pick : (b : Bool) → cond b (Some x) None ≡ Some why → is_closed why ≡ false
        pick true e = let same_why : x ≡ why = cc in ap is_closed (sym same_why) ∙ open_end (is_closed x) kept
        pick false e = absurd cc
    one w kept is = absurd cc

    go : (b : Bool) → option_and_then (λ (x : Entry). end_why c x.what) (cond b (Some e) (find (λ (x : Entry). ends c x.what) es)) ≡ Some why
        → (why_of es c ≡ Some why → is_closed why ≡ false) → is_closed why ≡ false
    go true k later = one e.what (both (is_kept e.what) (list_all (λ (x : Entry). is_kept x.what) es) h).0 k
    go false k later = later k

failed_end : (journal : List Entry) (c : ℕ) → list_all (λ (e : Entry). is_kept e.what) journal ≡ true → is_ended journal c ≡ true → HasFailed journal c
failed_end journal c kept h = go (why_of journal c) refl
  where
    go : (o : Option Why) → why_of journal c ≡ o → HasFailed journal c
    go (Some why) e = inl (why, e, unclosed c journal why kept e)
    go None e = let bad : false ≡ true = ap is_some (sym e) ∙ why_is_end journal c ∙ h in absurd cc

module _ (o o' : Opening) (asked : List HostMessage) (old mid new : List Entry) (c by : ℕ) (q : HostMessage) (first : by ≡ 0) (m : MayGoOn asked old mid c) where
  keeps : (v : Verdict) → AskedAlone o mid new by c 0 None q v → list_all (λ (e : Entry). is_kept e.what) new ≡ true
  keeps v (inl s) =
      ap (list_all (λ (e : Entry). is_kept e.what)) (grown o asked old mid new c by q first m v s)
      ∙ all_both is_kept mid (more o asked old mid new c by q first m v s) m.kept (all_so (is_of_asking c) is_kept (asking_kept c) (more o asked old mid new c by q first m v s) (own o asked old mid new c by q first m v s))
  keeps v (inr l) = ap (list_all (λ (e : Entry). is_kept e.what)) l.made ∙ all_both is_kept mid (group_of o mid by (Lost c 0)) m.kept refl

  lost_failed : (v : Verdict) → IsLost o mid new by c 0 v → HasFailed new c
  lost_failed v l = go (is_ended mid c) refl l.gone
    where
      go : (b : Bool) → is_ended mid c ≡ b → IsTrue (b || is_mute mid c) → HasFailed new c
      go true e h =
          failed_end new c (keeps v (inr l)) (ap (λ (x : List Entry). is_ended x c) l.made ∙ any-append (ends c) mid (group_of o mid by (Lost c 0)) ∙ ap (λ (b : Bool). b || is_ended (group_of o mid by (Lost c 0)) c) e)
      go false e h = inr (ap (λ (x : List Entry). is_mute x c) l.made ∙ any-append (mutes c) mid (group_of o mid by (Lost c 0)) ∙ ap (λ (b : Bool). b || is_mute (group_of o mid by (Lost c 0)) c) h)

  -- a question without an answer is the last
  pub stops : (v : Verdict) → Legal o' new → is_some (final_in v) ≡ false → AskedAlone o mid new by c 0 None q v → (Asks asked old new c ⊎ Asks (asked ++ q ∷ []) old new c) × HasFailed new c
  stops v legal over (inr l) = (inl (asks_lost o asked old mid new c by q first m v l), lost_failed v l)
  stops (Ended why) legal over (inl s) =
      (inr (asks_settled o asked old mid new c by q first m (Ended why) s), failed_end new c (keeps (Ended why) (inl s)) (ended_verdict o' new legal c (next_job mid c) why s.settled))
  stops Unsent legal over (inl s) = (inr (asks_settled o asked old mid new c by q first m Unsent s), inr (unsent_verdict o' new legal c (next_job mid c) s.settled))
  stops v legal over (inl s) = absurd cc

-- ---- request by request

pub asked_question : (rs : List Request) (n : ℕ) (r : Request) → list_all is_question (map message_of rs) ≡ true → n < length rs → r ≡ get_or rs n r → is_question (message_of r) ≡ true
asked_question rs n r h within here = ap (λ (x : Request). is_question (message_of x)) here ∙ go rs n h within
  where
    go : (rs : List Request) (n : ℕ) → list_all is_question (map message_of rs) ≡ true → n < length rs → is_question (message_of (get_or rs n r)) ≡ true
    go [] n h within = absurd (omega arith)
    go (x ∷ rs) zero h within = (both (is_question (message_of x)) (list_all is_question (map message_of rs)) h).0
    go (x ∷ rs) (suc n) h within = go rs n (both (is_question (message_of x)) (list_all is_question (map message_of rs)) h).1 (omega arith)

pub one_more : (rs : List Request) (n : ℕ) (r : Request) → n < length rs → r ≡ get_or rs n r
    → map message_of (take n rs) ++ message_of r ∷ [] ≡ map message_of (take (n + 1) rs)
one_more rs n r within here =
    let next : suc n ≡ n + 1 = omega arith in
    ap (λ (x : Request). map message_of (take n rs) ++ message_of x ∷ []) here
    ∙ sym (map-append message_of (take n rs) (get_or rs n r ∷ []))
    ∙ ap (map message_of) (sym (take-suc rs n r within) ∙ ap (λ (k : ℕ). take k rs) next)

pub front : (rs : List Request) (n : ℕ) (old new : List Entry) (c : ℕ) → Asks (map message_of (take n rs)) old new c → AsksFront (map message_of rs) old new c
front rs n old new c a = (n, subst (λ (qs : List HostMessage). Asks qs old new c) (sym (take-map message_of n rs)) a)

pub front_either : (rs : List Request) (n : ℕ) (r : Request) (old new : List Entry) (c : ℕ) → n < length rs → r ≡ get_or rs n r
    → Asks (map message_of (take n rs)) old new c ⊎ Asks (map message_of (take n rs) ++ message_of r ∷ []) old new c → AsksFront (map message_of rs) old new c
front_either rs n r old new c within here (inl a) = front rs n old new c a
front_either rs n r old new c within here (inr a) = front rs (n + 1) old new c (subst (λ (qs : List HostMessage). Asks qs old new c) (one_more rs n r within here) a)
