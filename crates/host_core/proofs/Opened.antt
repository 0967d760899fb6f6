-- What a legal journal says of an open job: it has a request, and more of its answer must come.
use Rattle.std.proofs.Common.{◌≡◌, ◌≢◌, ◌∙◌, ℕ, zero, suc, ◌+◌, ◌<◌, ◌≤◌, List, [], ◌∷◌, ◌++◌, refl, sym, ap, subst, Bool, true, false, not, cond, Option, Some, None, length, take, append_assoc, arith}
use Rattle.std.specs.Prelude.{◌&&◌, ◌||◌, ◌==◌, nat_lt, option_and_then, bytes_eq, slice_get}
use Rattle.std.specs.Str.{is_utf8}
use Rattle.std.proofs.lemmas.Slice.Eq.{bytes_eq-Decides}
use Rattle.std.proofs.lemmas.List.{append-nil, take-append-le}
use Rattle.std.proofs.lemmas.List.Folds.{list_any-append}
use Rattle.std.specs.List.{list_any, cons_option, prefix_len}
use Rattle.journal_model.specs.declared.verdict.Verdict.{Verdict}
use Rattle.annex_model.specs.Extensions.{names_of}
use Rattle.annex_model.specs.Lines.{has_newline}
use Rattle.annex_model.specs.Messages.{RemoteMessage, HostMessage, AskExtensions, Transfer, Export, Transferexport, Renameexport, Value, Creds, HostError, host_reading, host_line}
use Rattle.annex_model.specs.Talks.{Item, Host, IsLead, Talking, is_aside, awaits, said}
use Rattle.annex_model.proofs.Leads.{asked_more, plain_asked}
use Rattle.annex_model.proofs.Readings.{canonical_read}
use Rattle.journal_model.specs.declared.opening.Opening.{Opening}
use Rattle.journal_model.specs.declared.entry.What.{What}
use Rattle.journal_model.specs.declared.entry.What.TheVariants.{Lead, Ask, Put}
use Rattle.journal_model.specs.declared.entry.Entry.{Entry}
use Rattle.journal_model.specs.Journal.{any, each_of, asks, offers, is_open, addressed, verdict_of, asked_jobs, on_wire}
use Rattle.journal_model.specs.Parts.{item_of, part_from, part}
use Rattle.annex_model.specs.Hearings.{asked_by, request_in, Aside, hearing, hearing_of}
use Rattle.journal_model.specs.Due.{replies_at, due_after}
use Rattle.journal_model.specs.Room.{is_ask}
use Rattle.journal_model.specs.Legality.{Legal, MayStand, may_come, needs_lead, is_led, asks_in_turn, says_name, is_in_turn, is_text, offered_names}
use Rattle.journal_model.specs.Projection.{Fits}
use Rattle.journal_model.proofs.Asking.{asked_text}
use Rattle.journal_model.proofs.Growing.{Led, Legal-group, due_none_asks, group_keeps, groups_from, is_lead, none_asks, pair, pair_group}
use Rattle.journal_model.proofs.Keeping.{in_turn_of, named_text, plain_lead}
use Rattle.journal_model.proofs.Looks.{is_asked, each_of-append, entry, unasked_closed, open_unsettled, settled_none}
use Rattle.journal_model.proofs.PartsGrow.{part-group}
use Rattle.journal_model.proofs.Projecting.{parts_fit, asked_parts}
use Rattle.host_talk.specs.declared.request.talk.Heard.TheVariants.{Aside as HeardAside}
use Rattle.host_talk.specs.Request.Hearings.{heard, heard_as}
use Rattle.journal_scan.specs.Looks.{asked_at, hosts_line, is_hosts, request_text, text_after}
use Rattle.host_talk.specs.Request.Requests.{is_request}
use Rattle.std.proofs.lemmas.Bool.{not-true as not_true, and_parts as both, eqb-true as same_number}
use Rattle.ann_key.proofs.Numbers.{same_number as same}
use Rattle.ann_key.proofs.Lists.{get_after as slice_get-here, slice_get-left}

-- ---- it has a request, to which nothing but the beginning of an answer was said

talking : (replies : ℕ → List (List ℕ)) (p : List Item) (v : Option Verdict) → Fits replies p v → v ≡ None → (p ≡ [] → ⊥)
    → (q : HostMessage) × (request_in p ≡ Some q) × Talking replies q p
talking replies [] v f e some = absurd (some refl)
talking replies (i ∷ is) None f e some = (f.0, f.1, f.3.talking)
talking replies (i ∷ is) (Some v) f e some = absurd cc

pub opened : (o : Opening) (past : List Entry) (c j : ℕ) → Legal o past → is_open past c j ≡ true
    → (q : HostMessage) × (request_in (part past c j) ≡ Some q) × Talking (replies_at o past) q (part past c j)
opened o past c j legal is =
    talking (replies_at o past) (part past c j) (verdict_of past c j) (parts_fit o past legal c j)
    (settled_none past c j (open_unsettled past c j is))
    (λ none. closed_open (unasked_closed c j past ((asked_parts o past legal c j).0 none)))
  where
    closed_open : is_open past c j ≡ false → ⊥
    closed_open shut = cc (shut, is)

-- ---- which asks something

pub turn_asks : (past : List Entry) (c job : ℕ) (q : HostMessage) → is_in_turn past c job q ≡ true → is_request q ≡ true
turn_asks past c job (AskExtensions names) h =
    let t = both (job == 0) (bytes_eq names (offered_names past c)) h in
    told (any (offers c) past) ((bytes_eq-Decides names (offered_names past c)).0 t.1)
  where
    told : (b : Bool) → names ≡ names_of b → is_request (AskExtensions names) ≡ true
    told true e = subst (λ (x : List ℕ). is_request (AskExtensions x) ≡ true) (sym e) refl
    told false e = subst (λ (x : List ℕ). is_request (AskExtensions x) ≡ true) (sym e) refl
turn_asks past c job (Transfer store key file) h =
    let t = both (nat_lt 1 job) (is_text file) h in
    (both (is_utf8 file) (not (has_newline file)) t.1).0
turn_asks past c job (Transferexport store key file) h =
    let t = both (nat_lt 1 job) (is_text file) h in
    (both (is_utf8 file) (not (has_newline file)) t.1).0
turn_asks past c job (Renameexport key onto) h =
    let t = both (nat_lt 1 job) (is_text onto) h in
    (both (is_utf8 onto) (not (has_newline onto)) t.1).0
turn_asks past c job (Export name) h = absurd cc
turn_asks past c job (Value value) h = absurd cc
turn_asks past c job (Creds user password) h = absurd cc
turn_asks past c job (HostError text) h = absurd cc
turn_asks past c job q h = refl

line_asks : (past : List Entry) (c job : ℕ) (line : List ℕ) (r : Option HostMessage) (q : HostMessage) → r ≡ Some q → asks_in_turn past c job line r ≡ true → is_request q ≡ true
line_asks past c job line r q e h =
    turn_asks past c job q (both (is_in_turn past c job q) (bytes_eq line (on_wire past c job (host_line q))) (subst (λ (x : Option HostMessage). asks_in_turn past c job line x ≡ true) e h)).0

-- ---- the text of a job's request

-- The journal has the text of the request of an asked job, which its part asks.
pub record Begins (past : List Entry) (c j : ℕ) : Type 0 where
  pub text : List ℕ
  pub asks : HostMessage
  pub there : request_text past c j ≡ Some text
  pub reads : host_reading text ≡ Some asks
  pub first : request_in (part past c j) ≡ Some asks
  pub request : is_request asks ≡ true

take_front : (xs ys : List Entry) → take (length xs) (xs ++ ys) ≡ xs
take_front [] [] = refl
take_front [] (y ∷ ys) = refl
take_front (x ∷ xs) ys = ap (λ (l : List Entry). x ∷ l) (take_front xs ys)

-- the first request or reply of a job stands after entries that are none of its
first_at : (c j : ℕ) (front : List Entry) (e : Entry) (more : List Entry) → any (is_hosts c j) front ≡ false → is_hosts c j e.what ≡ true → asked_at (front ++ e ∷ more) c j ≡ length front
first_at c j [] e more none here = rw here refl
first_at c j (x ∷ front) e more none here = go (is_hosts c j x.what) none (first_at c j front e more)
  where
    go : (b : Bool) → (b || any (is_hosts c j) front) ≡ false
        → (any (is_hosts c j) front ≡ false → is_hosts c j e.what ≡ true → asked_at (front ++ e ∷ more) c j ≡ length front)
        → cond (not b) (1 + asked_at (front ++ e ∷ more) c j) 0 ≡ suc (length front)
    go true n r = absurd cc
    go false n r = let rest = r n here in omega (arith, rest)

text_at : (c j : ℕ) (front : List Entry) (e : Entry) (more : List Entry) → any (is_hosts c j) front ≡ false → is_hosts c j e.what ≡ true
    → request_text (front ++ e ∷ more) c j ≡ Some (addressed front c (hosts_line e.what)).1
text_at c j front e more none here =
    let all : List Entry = front ++ e ∷ more in
    ap (λ (n : ℕ). text_after (take n all) c (slice_get all n)) (first_at c j front e more none here)
    ∙ ap (λ (o : Option Entry). text_after (take (length front) all) c o) (slice_get-here front e more)
    ∙ ap (λ (p : List Entry). text_after p c (Some e)) (take_front front (e ∷ more))

-- a request that is there stays
within : (past : List Entry) (c : ℕ) (n : ℕ) (text : List ℕ) → text_after (take n past) c (slice_get past n) ≡ Some text → n < length past
within past c n text h = go past n (some (slice_get past n) refl h)
  where
    some : (o : Option Entry) → slice_get past n ≡ o → text_after (take n past) c (slice_get past n) ≡ Some text → (e : Entry) × (slice_get past n ≡ Some e)
    some (Some e) is h = (e, is)
    some None is h = absurd (let bad : None ≡ Some text = ap (text_after (take n past) c) (sym is) ∙ h in cc)

    go : (xs : List Entry) (n : ℕ) → (e : Entry) × (slice_get xs n ≡ Some e) → n < length xs
    go [] n h = absurd (let bad = h.1 in cc)
    go (x ∷ xs) zero h = omega arith
    go (x ∷ xs) (suc n) h = let r = go xs n h in omega (arith, r)

at_stays : (c j : ℕ) (past more : List Entry) → asked_at past c j < length past → asked_at (past ++ more) c j ≡ asked_at past c j
at_stays c j [] more h = absurd (let bad : ⊥ = omega (arith, h) in bad)
at_stays c j (x ∷ past) more h = go (is_hosts c j x.what) h (at_stays c j past more)
  where
    go : (b : Bool) → cond (not b) (1 + asked_at past c j) 0 < suc (length past) → (asked_at past c j < length past → asked_at (past ++ more) c j ≡ asked_at past c j)
        → cond (not b) (1 + asked_at (past ++ more) c j) 0 ≡ cond (not b) (1 + asked_at past c j) 0
    go true h r = refl
    go false h r = ap (λ (n : ℕ). 1 + n) (r (omega (arith, h)))

text_stays : (c j : ℕ) (past more : List Entry) (text : List ℕ) → request_text past c j ≡ Some text → request_text (past ++ more) c j ≡ Some text
text_stays c j past more text h =
    let n = asked_at past c j in
    let low : n < length past = within past c n text h in
    ap (λ (k : ℕ). text_after (take k (past ++ more)) c (slice_get (past ++ more) k)) (at_stays c j past more low)
    ∙ ap (λ (p : List Entry). text_after p c (slice_get (past ++ more) n)) (take-append-le n past more (omega (arith, low)))
    ∙ ap (text_after (take n past) c) (slice_get-left past more n low) ∙ h

begins_on : (o : Opening) (past : List Entry) (e : Entry) (due : List Entry) (c j : ℕ) → may_come o past e.by e.what ≡ true → Begins past c j → Begins (past ++ e ∷ due) c j
begins_on o past e due c j may b = record {
  text = b.text;
  asks = b.asks;
  there = text_stays c j past (e ∷ due) b.text b.there;
  reads = b.reads;
  first = ap request_in (part-group o c j past e due may) ∙ asked_more (part past c j) (part_from c j past (e ∷ due)) b.asks b.first;
  request = b.request;
}

-- a job without a part has no request and no reply
none_hosts : (c j : ℕ) (before past : List Entry) → part_from c j before past ≡ [] → any (is_hosts c j) past ≡ false
none_hosts c j before [] h = refl
none_hosts c j before (e ∷ past) h = go e.what h (none_hosts c j (before ++ e ∷ []) past)
  where
    rest : List Item
    rest = part_from c j (before ++ e ∷ []) past

    plain : (x : Option Item) → cons_option x rest ≡ [] → rest ≡ []
    plain None h = h
    plain (Some i) h = absurd cc

    one : (b : Bool) (i : Item) → cons_option (cond b (Some i) None) rest ≡ [] → (b ≡ false) × (rest ≡ [])
    one true i h = absurd cc
    one false i h = (refl, h)

    go : (w : What) → cons_option (item_of c j before w past) rest ≡ [] → (rest ≡ [] → any (is_hosts c j) past ≡ false) → (is_hosts c j w || any (is_hosts c j) past) ≡ false
    go (Ask child job task line) h r =
        let s = one (child == c && job == j) record { side = Host; at = length before; text = (addressed before c line).1 } h in rw s.0 (r s.1)
    go (Put child job line) h r =
        let s = one (child == c && job == j) record { side = Host; at = length before; text = (addressed before c line).1 } h in rw s.0 (r s.1)
    go w h r = r (plain (item_of c j before w past) h)

asked_by_ask : (c j child job : ℕ) → list_any (λ k. k == j) (cons_option (cond (child == c) (Some job) None) []) ≡ true → ((child == c) ≡ true) × ((job == j) ≡ true)
asked_by_ask c j child job h = go (child == c) refl h
  where
    plain : (b : Bool) → (b || false) ≡ true → b ≡ true
    plain true h = refl
    plain false h = absurd cc

    go : (b : Bool) → (child == c) ≡ b → list_any (λ k. k == j) (cons_option (cond b (Some job) None) []) ≡ true → ((child == c) ≡ true) × ((job == j) ≡ true)
    go true e h = (e, plain (job == j) h)
    go false e h = absurd cc

-- a job that is asked now
module _ (o : Opening) (past : List Entry) (by child job task : ℕ) (line : List ℕ) (legal : Legal o past) (un : is_asked past child job ≡ false) where
  empty : part past child job ≡ []
  empty = (asked_parts o past legal child job).1 un

  hosts : any (is_hosts child job) past ≡ false
  hosts = none_hosts child job [] past empty

  own : is_hosts child job (Ask child job task line) ≡ true
  own = rw (same child, same job) refl

  begins_plain : MayStand o past [] (entry by (Ask child job task line)) → Begins (past ++ entry by (Ask child job task line) ∷ []) child job
  begins_plain stands =
      let e : Entry = entry by (Ask child job task line) in
      let s = both (not (is_led (host_reading (addressed past child line).1))) (may_come o past by (Ask child job task line)) stands in
      let in_turn : asks_in_turn past child job line (host_reading (addressed past child line).1) ≡ true = (both _ _ (both _ _ s.1).0).1 in
      let q = asked_text past child job line (host_reading (addressed past child line).1) refl in_turn in
      let plain : IsLead q.0 [] = plain_lead q.0 job (sym (ap is_led q.1) ∙ not_true _ s.0) (in_turn_of past child job line (host_reading (addressed past child line).1) q.0 q.1 in_turn) in
      let item : Item = record { side = Host; at = length past; text = (addressed past child line).1 } in
      let whole : part (past ++ e ∷ []) child job ≡ item ∷ [] = part-group o child job past e [] s.1 ∙ rw (empty, same child, same job) refl in
      record {
        text = (addressed past child line).1;
        asks = q.0;
        there = text_at child job past e [] hosts own;
        reads = q.1;
        first = ap request_in whole ∙ ap (λ (r : Option HostMessage). asked_by r []) q.1 ∙ plain_asked q.0 [] plain;
        request = line_asks past child job line (host_reading (addressed past child line).1) q.0 q.1 in_turn;
      }

  begins_named : (name : List ℕ) → Led o past by child job task name line → Begins (past ++ pair by child job task name line) child job
  begins_named name l =
      let e : Entry = entry by (Lead child job name) in
      let a : Entry = entry by (Ask child job task line) in
      let mid : List Entry = past ++ e ∷ [] in
      let says = named_text past child job name (host_reading (addressed past child name).1) refl (both _ _ (both _ _ l.first).0).1 in
      let in_turn : asks_in_turn mid child job line (host_reading (addressed mid child line).1) ≡ true = (both _ _ (both _ _ l.second).0).1 in
      let q = asked_text mid child job line (host_reading (addressed mid child line).1) refl in_turn in
      let one : Item = record { side = Host; at = length past; text = (addressed past child name).1 } in
      let two : Item = record { side = Host; at = length mid; text = (addressed mid child line).1 } in
      let whole : part (past ++ pair by child job task name line) child job ≡ one ∷ two ∷ [] = part-group o child job past e (a ∷ []) l.first ∙ rw (empty, same child, same job) refl in
      let quiet : any (is_hosts child job) mid ≡ false = list_any-append (λ (x : Entry). is_hosts child job x.what) past (e ∷ []) ∙ rw hosts refl in
      let there : request_text (mid ++ a ∷ []) child job ≡ Some (addressed mid child line).1 = text_at child job mid a [] quiet own in
      record {
        text = (addressed mid child line).1;
        asks = q.0;
        there = ap (λ (x : List Entry). request_text x child job) (sym (append_assoc past (e ∷ []) (a ∷ []))) ∙ there;
        reads = q.1;
        first = ap request_in whole ∙ ap (λ (r : Option HostMessage). asked_by r (two ∷ [])) (ap host_reading says.1 ∙ canonical_read (Export says.0) tt) ∙ q.1;
        request = line_asks mid child job line (host_reading (addressed mid child line).1) q.0 q.1 in_turn;
      }

-- entries of which none asks ask no job
none_jobs : (c : ℕ) (xs : List Entry) → none_asks xs ≡ true → asked_jobs xs c ≡ []
none_jobs c [] h = refl
none_jobs c (e ∷ xs) h =
    let s = both (not (is_ask e.what)) (none_asks xs) h in
    go e.what s.0 (none_jobs c xs s.1)
  where
    go : (w : What) → not (is_ask w) ≡ true → asked_jobs xs c ≡ [] → cons_option (asks c w) (asked_jobs xs c) ≡ []
    go (Ask child job task line) h r = absurd cc
    go w h r = r

abbrev AllBegin : List Entry → Type 0
AllBegin past = (c j : ℕ) → is_asked past c j ≡ true → Begins past c j

grown_asks : (past more : List Entry) (c j : ℕ) → is_asked (past ++ more) c j ≡ (is_asked past c j || list_any (λ k. k == j) (asked_jobs more c))
grown_asks past more c j =
    ap (list_any (λ k. k == j)) (each_of-append (asks c) past more) ∙ list_any-append (λ k. k == j) (asked_jobs past c) (asked_jobs more c)

-- a job of another child or number is not the one that is asked now
at_job : (P : ℕ → ℕ → Type 0) (c j child job : ℕ) → (child == c) ≡ true → (job == j) ≡ true → P child job → P c j
at_job P c j child job a b p = subst (λ (x : ℕ). P x j) (same_number child c a) (subst (P child) (same_number job j b) p)

module _ (o : Opening) where
  plain_step : (past : List Entry) (by : ℕ) (w : What) → Legal o past → AllBegin past → MayStand o past [] (entry by w) → is_lead w ≡ false → AllBegin (past ++ entry by w ∷ due_after o past (entry by w))
  plain_step past by w legal all stands plain c j asked = go (is_asked past c j) refl (sym (grown_asks past (entry by w ∷ due_after o past (entry by w)) c j) ∙ asked)
    where
      due : List Entry
      due = due_after o past (entry by w)

      may : may_come o past by w ≡ true
      may = (both (not (needs_lead past w)) (may_come o past by w) stands).1

      fresh : (v : What) → MayStand o past [] (entry by v) → list_any (λ k. k == j) (cons_option (asks c v) []) ≡ true → is_asked past c j ≡ false → Begins (past ++ entry by v ∷ due_after o past (entry by v)) c j
      fresh (Ask child job task line) st h un =
          let s = asked_by_ask c j child job h in
          let un' : is_asked past child job ≡ false = at_job (λ (x k : ℕ). is_asked past x k ≡ false) child job c j (flip child c s.0) (flip job j s.1) un in
          at_job (λ (x k : ℕ). Begins (past ++ entry by (Ask child job task line) ∷ []) x k) c j child job s.0 s.1 (begins_plain o past by child job task line legal un' st)
        where
          flip : (m n : ℕ) → (m == n) ≡ true → (n == m) ≡ true
          flip m n h = subst (λ (x : ℕ). (x == m) ≡ true) (same_number m n h) (same m)
      fresh v st h un = absurd cc

      alone : asked_jobs (entry by w ∷ due) c ≡ cons_option (asks c w) []
      alone = ap (λ (js : List ℕ). cons_option (asks c w) js) (none_jobs c due (due_none_asks o past (entry by w)))

      go : (b : Bool) → is_asked past c j ≡ b → (b || list_any (λ k. k == j) (asked_jobs (entry by w ∷ due) c)) ≡ true → Begins (past ++ entry by w ∷ due) c j
      go true e h = begins_on o past (entry by w) due c j may (all c j e)
      go false e h = fresh w stands (ap (list_any (λ k. k == j)) (sym alone) ∙ h) e

  pair_step : (past : List Entry) (by child job task : ℕ) (name line : List ℕ) → Legal o past → AllBegin past → Led o past by child job task name line
      → AllBegin (past ++ pair by child job task name line)
  pair_step past by child job task name line legal all l c j asked = go (is_asked past c j) refl (sym (grown_asks past (pair by child job task name line) c j) ∙ asked)
    where
      flip : (m n : ℕ) → (m == n) ≡ true → (n == m) ≡ true
      flip m n h = subst (λ (x : ℕ). (x == m) ≡ true) (same_number m n h) (same m)

      go : (b : Bool) → is_asked past c j ≡ b → (b || list_any (λ k. k == j) (asked_jobs (pair by child job task name line) c)) ≡ true → Begins (past ++ pair by child job task name line) c j
      go true e h = begins_on o past (entry by (Lead child job name)) (entry by (Ask child job task line) ∷ []) c j l.first (all c j e)
      go false e h =
          let s = asked_by_ask c j child job h in
          let un : is_asked past child job ≡ false = at_job (λ (x k : ℕ). is_asked past x k ≡ false) child job c j (flip child c s.0) (flip job j s.1) e in
          at_job (λ (x k : ℕ). Begins (past ++ pair by child job task name line) x k) c j child job s.0 s.1 (begins_named o past by child job task line legal un name l)

  all_begin : (past : List Entry) → Legal o past → AllBegin past
  all_begin past legal =
      let Both : List Entry → Type 0 = λ p. Legal o p × AllBegin p in
      let r : Both past = groups_from o Both record {
        plain = λ p e b may plain. (Legal-group o p e b.0 may plain, plain_step p e.by e.what b.0 b.1 may plain);
        pairs = λ p by child job task name line b l. (
          group_keeps o p (pair by child job task name line) b.0 (pair_group o p by child job task name line l),
          pair_step p by child job task name line b.0 b.1 l,
        );
      } [] [] past refl (record { stands = tt; nothing_due = refl }, λ c j h. absurd cc) legal.stands legal.nothing_due in
      r.1

-- ---- what the code reads of it

pub record BeginsAsked (p : List Item) (q : HostMessage) : Type 0 where
  pub request : request_in p ≡ Some q
  pub asks : is_request q ≡ true
  pub waits : awaits q (said p) ≡ true

open_asked : (past : List Entry) (c j : ℕ) → is_open past c j ≡ true → is_asked past c j ≡ true
open_asked past c j is = go (is_asked past c j) refl
  where
    go : (b : Bool) → is_asked past c j ≡ b → is_asked past c j ≡ true
    go true e = e
    go false e = absurd (let bad : true ≡ false = sym is ∙ unasked_closed c j past e in cc)

pub job_asked : (o : Opening) (past : List Entry) (c j : ℕ) (text : List ℕ) (q : HostMessage) → Legal o past → is_open past c j ≡ true
    → Some text ≡ request_text past c j → Some q ≡ host_reading text → BeginsAsked (part past c j) q
job_asked o past c j text q legal is first reads =
    let p = part past c j in
    let job = opened o past c j legal is in
    let b = all_begin o past legal c j (open_asked past c j is) in
    let same_text : text ≡ b.text = cc (first, b.there) in
    let same_request : q ≡ b.asks = cc (reads ∙ ap host_reading same_text, b.reads) in
    let request : request_in p ≡ Some q = b.first ∙ ap Some (sym same_request) in
    let same : job.0 ≡ q = cc (job.1, request) in
    record {
      request = request;
      asks = subst (λ (x : HostMessage). is_request x ≡ true) (sym same_request) b.request;
      waits = subst (λ (x : HostMessage). awaits x (said p) ≡ true) same job.2.waits;
    }

pub no_text : (o : Opening) (past : List Entry) (c j : ℕ) → Legal o past → is_open past c j ≡ true → None ≡ request_text past c j → ⊥
no_text o past c j legal is none = let b = all_begin o past legal c j (open_asked past c j is) in cc (none, b.there)

pub no_message : (o : Opening) (past : List Entry) (c j : ℕ) (text : List ℕ) → Legal o past → is_open past c j ≡ true
    → Some text ≡ request_text past c j → None ≡ host_reading text → ⊥
no_message o past c j text legal is first none =
    let b = all_begin o past legal c j (open_asked past c j is) in
    let same_text : text ≡ b.text = cc (first, b.there) in
    cc (none ∙ ap host_reading same_text, b.reads)

-- ---- the talk about its request

pub asked_same : (p : List Item) (q r s : HostMessage) → BeginsAsked p q → r ≡ q → s ≡ r → request_in p ≡ Some s
asked_same p q r s asked same told = asked.request ∙ ap Some (sym (told ∙ same))

pub asked_waits : (p : List Item) (q r : HostMessage) → BeginsAsked p q → r ≡ q → awaits r (said p) ≡ true
asked_waits p q r asked same = subst (λ (x : HostMessage). awaits x (said p) ≡ true) (sym same) asked.waits

-- a talk about the job's request hears what the job does
pub heard_in : (p : List Item) (m : RemoteMessage) (r : HostMessage) → request_in p ≡ Some r → heard r (said p) m ≡ heard_as (hearing p m)
heard_in p m r request = go (is_aside m) (request_in p) request
  where
    ms : List (Option RemoteMessage)
    ms = said p ++ Some m ∷ []

    go : (a : Bool) (q : Option HostMessage) → q ≡ Some r → cond a HeardAside (heard_as (hearing_of (Some r) ms)) ≡ heard_as (cond a Aside (hearing_of q ms))
    go true q e = refl
    go false q e = ap (λ (x : Option HostMessage). heard_as (hearing_of x ms)) (sym e)
