-- What a legal journal writes to a child without tags: its requests are the lines of its Asks, in the order of its jobs.
use Rattle.std.proofs.Common.{ℕ, ◌≡◌, zero, suc, Bool, true, false, not, cond, List, [], ◌∷◌, ◌++◌, length, map, Option, Some, None, refl, sym, ap, ◌∙◌, arith, append-nil}
use Rattle.std.specs.Prelude.{◌||◌, ◌&&◌, ◌==◌, filter, slice_get, bytes_eq}
use Rattle.std.specs.List.{list_any, cons_option}
use Rattle.std.specs.Option.{option_or}
use Rattle.std.proofs.lemmas.Bool.Decides.{nat_tests}
use Rattle.std.proofs.lemmas.List.{map-append}
use Rattle.std.proofs.lemmas.List.Folds.{list_any-append}
use Rattle.annex_model.specs.Messages.{RemoteMessage, Dirhash, DirhashLower, Getconfig, Getcreds, Getuuid, Getgitdir, Getgitremotename, Getwanted, Getstate, Geturls, remote_reading}
use Rattle.annex_model.specs.Messages.{HostMessage, Export, Value, host_reading, host_line}
use Rattle.annex_model.specs.Tags.{tagged_line}
use Rattle.annex_model.specs.Turns.{turn_of, is_at}
use Rattle.annex_model.proofs.Readings.{canonical_read}
use Rattle.journal_model.specs.declared.verdict.Verdict.{Verdict}
use Rattle.journal_model.specs.declared.verdict.Verdict.TheVariants.{Ended, Unsent}
use Rattle.journal_model.specs.declared.entry.What.{What}
use Rattle.journal_model.specs.declared.entry.What.TheVariants.{Lead, Ask, Put, Mute, Got, End, Verdict as Settled}
use Rattle.journal_model.specs.declared.entry.Entry.{Entry}
use Rattle.journal_model.specs.declared.opening.Opening.{Opening}
use Rattle.journal_model.specs.Journal.{each_of, first_of, asks, writes, asked_jobs, open_jobs, is_live, is_mute, is_tagged, is_unsent, on_wire, addressed}
use Rattle.journal_model.specs.Registers.{values_at}
use Rattle.journal_model.specs.Replies.{Values, mixed_at, lower_at, value_line, creds_line, replies_by}
use Rattle.journal_model.specs.Room.{is_ask}
use Rattle.journal_model.specs.Due.{replies_said, replying, due_by_got, due_after, made_by}
use Rattle.journal_model.specs.Legality.{Legal, may_come, may_ask, may_lead, is_in_turn, asks_in_turn, says_name, suits_child}
use Rattle.journal_model.proofs.Growing.{Legal-induction, none_asks, due_none_asks, no_request}
use Rattle.journal_model.proofs.Looks.{entry, each_of-append, first_of-append, or_none}
use Rattle.journal_model.proofs.Soft.{got_cases}
use Rattle.journal_model.proofs.Testing.{by_either}
use Rattle.journal_model.proofs.Turns.{tagged_on}
use Rattle.pair_kit.specs.Answered.{line_for, request_of}
use Rattle.pair_kit.specs.Paces.{written_lines}
use Rattle.pair_kit.proofs.PaceRequests.{turn_asks}
use Rattle.pair_kit.proofs.PaceAsks.{untagged_line}
use Rattle.pair_kit.proofs.AnswerKits.{asks_by, is_request, requests, requests-append}
use Rattle.std.proofs.lemmas.Bool.{and_parts as both, eqb-true as same_number}
use Rattle.ann_key.proofs.Booleans.{true_and_false as true_not_false, left_false as either_left, right_false as either_right}

-- the lines that ask jobs of the child
abbrev pub ask_line : ℕ → What → Option (List ℕ)
ask_line c (Ask child job task line) = cond (child == c) (Some line) None
ask_line c w = None

abbrev pub ask_lines : List Entry → ℕ → List (List ℕ)
ask_lines journal c = each_of (ask_line c) journal

pub asks_counted : (journal : List Entry) (c : ℕ) → length (ask_lines journal c) ≡ length (asked_jobs journal c)
asks_counted [] c = refl
asks_counted (e ∷ journal) c = step e.what (asks_counted journal c)
  where
    before : List Entry
    before = journal

    step : (w : What) → length (ask_lines before c) ≡ length (asked_jobs before c)
        → length (cons_option (ask_line c w) (ask_lines before c)) ≡ length (cons_option (asks c w) (asked_jobs before c))
    step (Ask child job task line) r = go (child == c)
      where
        go : (b : Bool) → length (cons_option (cond b (Some line) None) (ask_lines before c)) ≡ length (cons_option (cond b (Some job) None) (asked_jobs before c))
        go true = omega (arith, r)
        go false = r
    step w r = r

-- ---- no entry that is due asks

none_in : {X : Type 0} (f : What → Option X) → ((w : What) → is_ask w ≡ false → f w ≡ None) → (xs : List Entry) → none_asks xs ≡ true → each_of f xs ≡ []
none_in f none [] h = refl
none_in {X} f none (e ∷ xs) h =
    let s = no_request e xs h in
    ap (λ (o : Option X). cons_option o (each_of f xs)) (none e.what s.0) ∙ none_in f none xs s.1

no_line : (c : ℕ) (w : What) → is_ask w ≡ false → ask_line c w ≡ None
no_line c (Ask child job task line) h = absurd cc
no_line c w h = refl

no_line_for : (c j : ℕ) (w : What) → is_ask w ≡ false → line_for c j w ≡ None
no_line_for c j (Ask child job task line) h = absurd cc
no_line_for c j w h = refl

due_unasked : (o : Opening) (past : List Entry) (by c : ℕ) (w : What) → ask_lines (due_after o past (entry by w)) c ≡ []
due_unasked o past by c w = none_in (ask_line c) (no_line c) (due_after o past (entry by w)) (due_none_asks o past (entry by w))

-- ---- the third and the fourth of five tests

of_five : (a b c d e : Bool) → (a && b && c && d && e) ≡ true → (c ≡ true) × (d ≡ true)
of_five true true true true e h = (refl, refl)
of_five true true true false e h = absurd cc
of_five true true false d e h = absurd cc
of_five true false c d e h = absurd cc
of_five false b c d e h = absurd cc

-- ---- jobs are numbered as they are asked

-- what is found at its number, with one more at the end
placed_last : (xs : List (List ℕ)) (line : List ℕ) (n j : ℕ) → n ≡ length xs
    → option_or (slice_get xs j) (first_of (cons_option (cond (n == j) (Some line) None) [])) ≡ slice_get (xs ++ line ∷ []) j
placed_last [] line n zero e = let here : (n == zero) ≡ true = grind (arith, nat_tests) in rw here refl
placed_last [] line n (suc i) e = let past : (n == suc i) ≡ false = grind (arith, nat_tests) in rw past refl
placed_last (x ∷ xs) line n zero e = refl
placed_last (x ∷ xs) line n (suc i) e =
    let shorter : (n == suc i) ≡ (length xs == i) = grind (arith, nat_tests) in
    ap (λ (b : Bool). option_or (slice_get xs i) (first_of (cons_option (cond b (Some line) None) []))) shorter ∙ placed_last xs line (length xs) i refl

module _ (o : Opening) (past : List Entry) (by c j : ℕ) (before : request_of past c j ≡ slice_get (ask_lines past c) j) where
  stays_placed : option_or (request_of past c j) None ≡ slice_get (ask_lines past c ++ []) j
  stays_placed = or_none (request_of past c j) None refl ∙ before ∙ ap (λ (l : List (List ℕ)). slice_get l j) (sym (append-nil (ask_lines past c)))

  placed_by : (w : What) → may_come o past by w ≡ true
      → option_or (request_of past c j) (first_of (cons_option (line_for c j w) [])) ≡ slice_get (ask_lines past c ++ cons_option (ask_line c w) []) j
  placed_by (Ask child job task line) may = go (child == c) refl
    where
      number : (child == c) ≡ true → job ≡ length (ask_lines past c)
      number e =
          let five = of_five (is_live past child) (not (is_mute past child)) (job == length (asked_jobs past child))
          (asks_in_turn past child job line (host_reading (addressed past child line).1)) (may_ask past by task child) may in
          same_number job (length (asked_jobs past child)) five.0
          ∙ ap (λ (x : ℕ). length (asked_jobs past x)) (same_number child c e) ∙ sym (asks_counted past c)

      go : (b : Bool) → (child == c) ≡ b
          → option_or (request_of past c j) (first_of (cons_option (cond (b && job == j) (Some line) None) [])) ≡ slice_get (ask_lines past c ++ cons_option (cond b (Some line) None) []) j
      go false e = stays_placed
      go true e =
          ap (λ (r : Option (List ℕ)). option_or r (first_of (cons_option (cond (job == j) (Some line) None) []))) before
          ∙ placed_last (ask_lines past c) line job j (number e)
  placed_by w may = stays_placed

  placed_step : (w : What) → may_come o past by w ≡ true
      → request_of (past ++ entry by w ∷ due_after o past (entry by w)) c j ≡ slice_get (ask_lines (past ++ entry by w ∷ due_after o past (entry by w)) c) j
  placed_step w may =
      ap first_of (each_of-append (line_for c j) past more) ∙ first_of-append (each_of (line_for c j) past) (each_of (line_for c j) more)
      ∙ ap (λ (l : List (List ℕ)). option_or (request_of past c j) (first_of (cons_option (line_for c j w) l)))
      (none_in (line_for c j) (no_line_for c j) (due_after o past (entry by w)) (due_none_asks o past (entry by w)))
      ∙ placed_by w may
      ∙ sym (ap (λ (l : List (List ℕ)). slice_get l j)
      (each_of-append (ask_line c) past more ∙ ap (λ (l : List (List ℕ)). ask_lines past c ++ cons_option (ask_line c w) l) (due_unasked o past by c w)))
    where
      more : List Entry
      more = entry by w ∷ due_after o past (entry by w)

-- the line that asks a job is the one of its number
pub asks_placed : (o : Opening) (journal : List Entry) → Legal o journal → (c j : ℕ) → request_of journal c j ≡ slice_get (ask_lines journal c) j
asks_placed o journal l =
    Legal-induction o (λ past. (c j : ℕ) → request_of past c j ≡ slice_get (ask_lines past c) j) (λ c j. refl)
    (λ past e near before may c j. placed_step o past e.by c j (before c j) e.what may) journal l

-- ---- what is no request

value_plain : (value : List ℕ) → is_request (value_line value) ≡ false
value_plain value = ap asks_by (canonical_read (Value value) tt)

creds_plain : (login : List ℕ × List ℕ) → is_request (creds_line login) ≡ false
creds_plain login = refl

one_plain : (line : List ℕ) → is_request line ≡ false → list_any is_request (line ∷ []) ≡ false
one_plain line h = ap (λ (b : Bool). b || false) h

values_plain : (urls : List (List ℕ)) → list_any is_request (map value_line urls) ≡ false
values_plain [] = refl
values_plain (url ∷ urls) = ap (λ (b : Bool). b || list_any is_request (map value_line urls)) (value_plain url) ∙ values_plain urls

replies_plain : (v : Values) (m : RemoteMessage) → list_any is_request (replies_by v m) ≡ false
replies_plain v (Dirhash key) = one_plain (value_line (mixed_at key)) (value_plain (mixed_at key))
replies_plain v (DirhashLower key) = one_plain (value_line (lower_at key)) (value_plain (lower_at key))
replies_plain v (Getconfig name) = one_plain (value_line (v.config name)) (value_plain (v.config name))
replies_plain v (Getcreds setting) = one_plain (creds_line (v.creds setting)) (creds_plain (v.creds setting))
replies_plain v Getuuid = one_plain (value_line v.uuid) (value_plain v.uuid)
replies_plain v Getgitdir = one_plain (value_line v.gitdir) (value_plain v.gitdir)
replies_plain v Getgitremotename = one_plain (value_line v.name) (value_plain v.name)
replies_plain v Getwanted = one_plain (value_line v.wanted) (value_plain v.wanted)
replies_plain v (Getstate key) = one_plain (value_line (v.state key)) (value_plain (v.state key))
replies_plain v (Geturls key prefix) =
    list_any-append is_request (map value_line (v.urls key prefix)) (value_line [] ∷ [])
    ∙ ap (λ (b : Bool). b || list_any is_request (value_line [] ∷ [])) (values_plain (v.urls key prefix)) ∙ one_plain (value_line []) (value_plain [])
replies_plain v m = refl

said_plain : (o : Opening) (past : List Entry) (r : Option RemoteMessage) → list_any is_request (replies_said o past r) ≡ false
said_plain o past None = refl
said_plain o past (Some m) = replies_plain (values_at o.registers o.identity past) m

name_plain : (past : List Entry) (c job : ℕ) (line : List ℕ) (r : Option HostMessage) → says_name past c job line r ≡ true → asks_by r ≡ false
name_plain past c job line None h = refl
name_plain past c job line (Some (Export name)) h = refl
name_plain past c job line (Some m) h = absurd cc

asked_plain : (past : List Entry) (c job : ℕ) (line : List ℕ) (r : Option HostMessage) → asks_in_turn past c job line r ≡ true → asks_by r ≡ true
asked_plain past c job line None h = absurd cc
asked_plain past c job line (Some q) h =
    let turn = both (is_in_turn past c job q) (bytes_eq line (on_wire past c job (host_line q))) h in
    turn_asks q job (both (is_at (turn_of q) job) (suits_child past c q) turn.0).0

-- ---- what is written

abbrev texts : List (Option ℕ × List ℕ) → List (List ℕ)
texts ws = map (λ w. w.1) ws

module _ (o : Opening) (past : List Entry) (by c : ℕ) (untagged : is_tagged past c ≡ false) where
  abbrev asked_in : List What → List (List ℕ)
  asked_in ws = requests (written_lines (made_by by ws) c)

  plain_text : (child : ℕ) (line : List ℕ) → (child == c) ≡ true → (addressed past child line).1 ≡ line
  plain_text child line e =
      ap (λ (a : Option ℕ × List ℕ). a.1) (untagged_line past child line (ap (is_tagged past) (same_number child c e) ∙ untagged))

  plain_wire : (child job : ℕ) (line : List ℕ) → (child == c) ≡ true → on_wire past child job line ≡ line
  plain_wire child job line e =
      ap (λ (b : Bool). cond b (tagged_line job line) line) (ap (is_tagged past) (same_number child c e) ∙ untagged)

  verdicts_unwritten : (child : ℕ) (v : Verdict) (jobs : List ℕ) → written_lines (made_by by (map (λ j. Settled child j v) jobs)) c ≡ []
  verdicts_unwritten child v [] = refl
  verdicts_unwritten child v (j ∷ jobs) = verdicts_unwritten child v jobs

  replies_written : (child j : ℕ) (lines : List (List ℕ)) → list_any is_request lines ≡ false → asked_in (replying past child j lines) ≡ []
  replies_written child j [] h = refl
  replies_written child j (l ∷ ls) h = go (child == c) refl (replies_written child j ls (either_right (is_request l) (list_any is_request ls) h))
    where
      wired : List ℕ
      wired = on_wire past child j l

      rest : List (Option ℕ × List ℕ)
      rest = each_of (writes c) (made_by by (replying past child j ls))

      go : (b : Bool) → (child == c) ≡ b → requests (texts rest) ≡ []
          → requests (texts (cons_option (cond {A = Option (Option ℕ × List ℕ)} b (Some (None, wired)) None) rest)) ≡ []
      go false e r = r
      go true e r =
          ap (λ (b : Bool). cond b (wired ∷ requests (texts rest)) (requests (texts rest)))
          (ap is_request (plain_wire child j l e) ∙ either_left (is_request l) (list_any is_request ls) h)
          ∙ r

  got_written : (child : ℕ) (line : List ℕ) → asked_in (due_by_got o past child line) ≡ []
  got_written child line =
      got_cases (λ ws. asked_in ws ≡ []) o past child line refl (λ why soft. ap requests (verdicts_unwritten child (Ended why) (open_jobs past child)))
      (λ j f opened. refl)
      (λ j ls opened for owed. replies_written child j ls (ap (list_any is_request) owed ∙ said_plain o past (remote_reading (addressed past child line).1)))

  written_by : (w : What) → may_come o past by w ≡ true
      → requests (texts (cons_option (writes c w) (each_of (writes c) (due_after o past (entry by w))))) ≡ cons_option (ask_line c w) []
  written_by (Lead child job line) may = go (child == c) refl
    where
      go : (b : Bool) → (child == c) ≡ b → requests (texts (cons_option (cond {A = Option (Option ℕ × List ℕ)} b (Some (None, line)) None) [])) ≡ []
      go false e = refl
      go true e =
          let five = of_five (is_live past child) (not (is_mute past child)) (job == length (asked_jobs past child))
          (says_name past child job line (host_reading (addressed past child line).1)) (may_lead past by child) may in
          ap (λ (b : Bool). cond b (line ∷ []) [])
          (ap is_request (sym (plain_text child line e)) ∙ name_plain past child job line (host_reading (addressed past child line).1) five.1)
  written_by (Ask child job task line) may = go (child == c) refl
    where
      go : (b : Bool) → (child == c) ≡ b
          → requests (texts (cons_option (cond {A = Option (Option ℕ × List ℕ)} b (Some (Some job, line)) None) [])) ≡ cons_option (cond b (Some line) None) []
      go false e = refl
      go true e =
          let five = of_five (is_live past child) (not (is_mute past child)) (job == length (asked_jobs past child))
          (asks_in_turn past child job line (host_reading (addressed past child line).1)) (may_ask past by task child) may in
          ap (λ (b : Bool). cond b (line ∷ []) [])
          (ap is_request (sym (plain_text child line e)) ∙ asked_plain past child job line (host_reading (addressed past child line).1) five.1)
  written_by (Put child job line) may = absurd cc
  written_by (Got child line) may = got_written child line
  written_by (End child why) may = ap requests (verdicts_unwritten child (Ended why) (open_jobs past child))
  written_by (Mute child) may = go (is_live past child)
    where
      go : (b : Bool) → asked_in (cond b (map (λ j. Settled child j Unsent) (filter (is_unsent past child) (open_jobs past child))) []) ≡ []
      go true = ap requests (verdicts_unwritten child Unsent (filter (is_unsent past child) (open_jobs past child)))
      go false = refl
  written_by w may = refl

  written_step : (w : What) → may_come o past by w ≡ true → requests (written_lines past c) ≡ ask_lines past c
      → requests (written_lines (past ++ entry by w ∷ due_after o past (entry by w)) c) ≡ ask_lines (past ++ entry by w ∷ due_after o past (entry by w)) c
  written_step w may before =
      ap (λ (ws : List (Option ℕ × List ℕ)). requests (texts ws)) (each_of-append (writes c) past more)
      ∙ ap requests (map-append (λ (x : Option ℕ × List ℕ). x.1) (each_of (writes c) past) (each_of (writes c) more))
      ∙ requests-append (written_lines past c) (written_lines more c)
      ∙ ap (λ (l : List (List ℕ)). l ++ requests (written_lines more c)) before
      ∙ ap (λ (l : List (List ℕ)). ask_lines past c ++ l) (written_by w may ∙ ap (cons_option (ask_line c w)) (sym (due_unasked o past by c w)))
      ∙ sym (each_of-append (ask_line c) past more)
    where
      more : List Entry
      more = entry by w ∷ due_after o past (entry by w)

-- the requests that are written are the lines of the Asks
pub asks_written : (o : Opening) (journal : List Entry) → Legal o journal → (c : ℕ) → is_tagged journal c ≡ false → requests (written_lines journal c) ≡ ask_lines journal c
asks_written o journal l =
    Legal-induction o (λ past. (c : ℕ) → is_tagged past c ≡ false → requests (written_lines past c) ≡ ask_lines past c) (λ c t. refl)
    (λ past e near before may c t.
    (let more = e ∷ due_after o past e in
    let earlier : is_tagged past c ≡ false = by_either (is_tagged past c) (λ y. true_not_false (is_tagged (past ++ more) c) (tagged_on past more c y) t) (λ n. n) in
    written_step o past e.by c earlier e.what may (before c earlier)))
    journal l
