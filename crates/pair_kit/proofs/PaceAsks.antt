-- A request that is asked of an idle child makes it busy.
use Rattle.std.proofs.Common.{ℕ, ◌≡◌, ◌==◌, ◌⊎◌, inl, inr, Bool, true, false, not, cond, List, [], ◌∷◌, ◌++◌, length, map, filter, filter_map, Option, Some, None, is_some, bytes_eq, refl, sym, ap, subst, ◌∙◌, arith, append-nil, append_assoc, length-append}
use Rattle.std.specs.Prelude.{◌&&◌, ◌||◌}
use Rattle.std.specs.List.{list_all, list_any, cons_option}
use Rattle.std.proofs.lemmas.List.{map-append}
use Rattle.std.proofs.lemmas.List.Elements.{filter-append, filter_map-append}
use Rattle.std.proofs.lemmas.List.Folds.{list_all-append}
use Rattle.annex_model.specs.Lines.{has_newline}
use Rattle.annex_model.specs.Messages.{HostMessage, Export, host_line, host_reading}
use Rattle.annex_model.specs.Tags.{untag}
use Rattle.annex_model.specs.Talks.{Item, Host, said}
use Rattle.annex_model.specs.Hearings.{asked_by, request_in}
use Rattle.annex_model.specs.Turns.{turn_of, is_at}
use Rattle.annex_model.proofs.Leads.{plain_asked}
use Rattle.annex_model.proofs.Readings.{canonical_read}
use Rattle.journal_model.specs.declared.entry.What.{What}
use Rattle.journal_model.specs.declared.entry.What.TheVariants.{Lead, Ask}
use Rattle.journal_model.specs.declared.entry.Entry.{Entry}
use Rattle.journal_model.specs.declared.opening.Opening.{Opening}
use Rattle.journal_model.specs.Journal.{any, each_of, first_of, asks, writes, line_from, mutes, settles, got_lines, asked_jobs, open_jobs, is_settled, is_mute, is_tagged, by_tag, on_wire, addressed}
use Rattle.journal_model.specs.Parts.{part, part_from}
use Rattle.journal_model.specs.Legality.{Legal, may_come, is_greeted, said_version, is_empty, is_in_turn, asks_in_turn, says_name, is_text, suits_child, is_led, needs_lead}
use Rattle.journal_model.proofs.Asking.{asked_text, read_askable}
use Rattle.journal_model.proofs.Growing.{Led, pair}
use Rattle.journal_model.proofs.Keeping.{in_turn_of, named_text, plain_lead}
use Rattle.journal_model.proofs.Looks.{entry, is_asked, each_of-append, unsettled}
use Rattle.journal_model.proofs.Named.{same_addressed, same_ask}
use Rattle.journal_model.proofs.PartsGrow.{NamesNoLine, come_names_none, part_from-append}
use Rattle.journal_model.proofs.Projecting.{invariant, asked_parts}
use Rattle.journal_model.proofs.Replying.{tag_kept}
use Rattle.journal_model.proofs.Verdicts.{unasked_none}
use Rattle.kit_serve.specs.Kit.Kits.{is_over, request_of as request_of_messages}
use Rattle.pair_kit.specs.Cues.{settings}
use Rattle.pair_kit.specs.Answered.{line_for}
use Rattle.pair_kit.specs.Paces.{written_lines, written, replies_to, is_message_line, IsSilent, IsIdle, IsBusy, KeepsStep}
use Rattle.pair_kit.proofs.PaceEntries.{ChildInStep, touches, any_same, each_same}
use Rattle.pair_kit.proofs.PaceKits.{still_expects}
use Rattle.pair_kit.proofs.PaceRequests.{is_asking, turn_asks, asks_no_name, asks_current, request_line_free, name_line_free, expects_request, expects_name, expects_named}
use Rattle.pair_kit.proofs.PaceSaid.{replies_to-append, one_reply}
use Rattle.ann_key.proofs.Numbers.{same_number as same}
use Rattle.std.proofs.lemmas.Bool.{eqb-true as same_number, and_parts as both}
use Rattle.ann_key.proofs.Lists.{filter_alike}

-- ---- what may be asked

-- the text of a line of a child without tags is the line
pub untagged_line : (past : List Entry) (c : ℕ) (line : List ℕ) → is_tagged past c ≡ false → addressed past c line ≡ (first_of (open_jobs past c), line)
untagged_line past c line e = ap (λ (b : Bool). cond {A = Option ℕ × List ℕ} b (by_tag line (untag line)) (first_of (open_jobs past c), line)) e

-- An idle child without tags is asked by the line of a request that suits it, as its next job.
pub record Asked (past : List Entry) (c job : ℕ) (line : List ℕ) : Type 0 where
  pub idle : IsIdle past c
  pub untagged : is_tagged past c ≡ false
  pub number : job ≡ length (asked_jobs past c)
  pub request : HostMessage
  pub reads : host_reading line ≡ Some request
  pub asking : is_asking request ≡ true
  pub whole : has_newline line ≡ false
  pub turn : is_at (turn_of request) job ≡ true

idle_of : (past : List Entry) (c : ℕ) → KeepsStep past c → is_greeted past c (length (asked_jobs past c)) ≡ true → (is_tagged past c || is_empty (open_jobs past c)) ≡ true → IsIdle past c
idle_of past c k greeted free = go k.turn
  where
    spoken : IsSilent past c → said_version past c ≡ true
    spoken s = subst (λ (ks : List ℕ). is_greeted past c (length ks) ≡ true) s.asked greeted

    none : IsSilent past c → said_version past c ≡ false
    none s = let gots = s.got in rw gots refl

    shut : is_empty (open_jobs past c) ≡ true
    shut = sym (ap (λ (b : Bool). b || is_empty (open_jobs past c)) k.untagged) ∙ free

    go : IsSilent past c ⊎ (IsIdle past c ⊎ IsBusy past c) → IsIdle past c
    go (inl s) = absurd (let bad : true ≡ false = sym (spoken s) ∙ none s in cc)
    go (inr (inl i)) = i
    go (inr (inr b)) = absurd (let bad : false ≡ true = sym (ap (λ (ks : List ℕ). is_empty ks) b.open_job) ∙ shut in cc)

pub asked_so : (o : Opening) (past : List Entry) (by c job task : ℕ) (line : List ℕ) → ChildInStep past c → may_come o past by (Ask c job task line) ≡ true → Asked past c job line
asked_so o past by c job task line h may =
    let five = both _ _ may in
    let four = both _ _ five.0 in
    let three = both _ _ four.0 in
    let two = both _ _ three.0 in
    let k = h.steps two.0 in
    let able = both _ _ five.1 in
    let greeted = both _ _ able.0 in
    let text : (addressed past c line).1 ≡ line = ap (λ (a : Option ℕ × List ℕ). a.1) (untagged_line past c line k.untagged) in
    let q = asked_text past c job line (host_reading (addressed past c line).1) refl four.1 in
    let reads : host_reading line ≡ Some q.0 = sym (ap host_reading text) ∙ q.1 in
    let spelled : line ≡ host_line q.0 = sym text ∙ q.2 in
    let turn = in_turn_of past c job line (host_reading (addressed past c line).1) q.0 q.1 four.1 in
    let asking = turn_asks q.0 job turn in
    record {
      idle = idle_of past c k greeted.0 able.1;
      untagged = k.untagged;
      number = same_number job (length (asked_jobs past c)) three.1;
      request = q.0;
      reads = reads;
      asking = asking;
      whole = ap has_newline spelled ∙ request_line_free past c q.0 (read_askable q.0 line reads) (suits (host_reading (addressed past c line).1) q.0 q.1 four.1) asking;
      turn = turn;
    }
  where
    suits : (r : Option HostMessage) (q : HostMessage) → r ≡ Some q → asks_in_turn past c job line r ≡ true → suits_child past c q ≡ true
    suits r q e t =
        (both (is_at (turn_of q) job) (suits_child past c q)
        (both (is_in_turn past c job q) (bytes_eq line (on_wire past c job (host_line q))) (subst (λ (x : Option HostMessage). asks_in_turn past c job line x ≡ true) e t)).0).1

-- ---- the child is busy

-- What asks the job: the lines that it writes, and what it makes of the job's part.
record Asking (past group : List Entry) (c job : ℕ) (line : List ℕ) (q : HostMessage) : Type 0 where
  front : List (List ℕ)
  names : List HostMessage
  wrote : map (λ (w : Option ℕ × List ℕ). w.1) (each_of (writes c) group) ≡ front ++ line ∷ []
  spell : filter_map host_reading front ≡ names
  whole : list_all is_message_line (front ++ line ∷ []) ≡ true
  expected : is_over settings ((written past c ++ names) ++ q ∷ []) ≡ false
  unsaid : replies_to names ≡ 0
  gots : got_lines group c ≡ []
  jobs : asked_jobs group c ≡ job ∷ []
  settled : (j : ℕ) → is_settled group c j ≡ false
  lines : each_of (line_for c job) group ≡ line ∷ []
  items : List Item
  added : part_from c job past group ≡ items
  begins : request_in items ≡ Some q
  nothing : said items ≡ []

-- a job that wasn't asked has no line
unasked_line : (past : List Entry) (c j : ℕ) → is_asked past c j ≡ false → each_of (line_for c j) past ≡ []
unasked_line [] c j h = refl
unasked_line (e ∷ past) c j h = step e.what h (unasked_line past c j)
  where
    step : (w : What) → list_any (λ (k : ℕ). k == j) (cons_option (asks c w) (asked_jobs past c)) ≡ false → (is_asked past c j ≡ false → each_of (line_for c j) past ≡ [])
        → cons_option (line_for c j w) (each_of (line_for c j) past) ≡ []
    step (Ask child job task line) h r = go (child == c) h
      where
        go : (b : Bool) → list_any (λ (k : ℕ). k == j) (cons_option (cond {A = Option ℕ} b (Some job) None) (asked_jobs past c)) ≡ false
            → cons_option (cond {A = Option (List ℕ)} (b && job == j) (Some line) None) (each_of (line_for c j) past) ≡ []
        go false h = r h
        go true h = by_job (job == j) h
          where
            by_job : (b : Bool) → (b || is_asked past c j) ≡ false → cons_option (cond {A = Option (List ℕ)} b (Some line) None) (each_of (line_for c j) past) ≡ []
            by_job true h = absurd cc
            by_job false h = r h
    step w h r = r h

-- the one job that is open is the new one
one_open : (past group : List Entry) (c job : ℕ) → open_jobs past c ≡ [] → is_settled past c job ≡ false → asked_jobs group c ≡ job ∷ [] → ((j : ℕ) → is_settled group c j ≡ false)
    → open_jobs (past ++ group) c ≡ job ∷ []
one_open past group c job none fresh jobs settled =
    let now : List Entry = past ++ group in
    let stay : (j : ℕ) → not (is_settled now c j) ≡ not (is_settled past c j) = λ j. ap not (any_same (settles c j) past group (settled j)) in
    let last : filter (λ (j : ℕ). not (is_settled now c j)) (job ∷ []) ≡ job ∷ [] =
    ap (λ (b : Bool). cond {A = List ℕ} b (job ∷ []) []) (stay job ∙ ap not fresh) in
    ap (filter (λ (j : ℕ). not (is_settled now c j))) (each_of-append (asks c) past group ∙ ap (λ (ks : List ℕ). asked_jobs past c ++ ks) jobs)
    ∙ filter-append (λ (j : ℕ). not (is_settled now c j)) (asked_jobs past c) (job ∷ [])
    ∙ ap (λ (ks : List ℕ). ks ++ filter (λ (j : ℕ). not (is_settled now c j)) (job ∷ []))
    (filter_alike (λ (j : ℕ). not (is_settled now c j)) (λ (j : ℕ). not (is_settled past c j)) stay (asked_jobs past c) ∙ none)
    ∙ last

lines_grown : (past group : List Entry) (c job : ℕ) (line : List ℕ) (q : HostMessage) (a : Asking past group c job line q) → written_lines (past ++ group) c ≡ written_lines past c ++ (a.front ++ line ∷ [])
lines_grown past group c job line q a =
    ap (map (λ (w : Option ℕ × List ℕ). w.1)) (each_of-append (writes c) past group) ∙ map-append (λ (w : Option ℕ × List ℕ). w.1) (each_of (writes c) past) (each_of (writes c) group)
    ∙ ap (λ (ls : List (List ℕ)). written_lines past c ++ ls) a.wrote

written_grown : (past group : List Entry) (c job : ℕ) (line : List ℕ) (q : HostMessage) (a : Asking past group c job line q) → host_reading line ≡ Some q
    → written (past ++ group) c ≡ (written past c ++ a.names) ++ q ∷ []
written_grown past group c job line q a reads =
    ap (filter_map host_reading) (lines_grown past group c job line q a) ∙ filter_map-append host_reading (written_lines past c) (a.front ++ line ∷ [])
    ∙ ap (λ (ms : List HostMessage). written past c ++ ms) (filter_map-append host_reading a.front (line ∷ [])
    ∙ ap (λ (ms : List HostMessage). ms ++ filter_map host_reading (line ∷ [])) a.spell
    ∙ ap (λ (r : Option HostMessage). a.names ++ cons_option r []) reads)
    ∙ sym (append_assoc (written past c) a.names (q ∷ []))

busy_from : (o : Opening) (past group : List Entry) (c job : ℕ) (line : List ℕ) → Legal o past → NamesNoLine c group → (s : Asked past c job line) → Asking past group c job line s.request
    → IsBusy (past ++ group) c
busy_from o past group c job line legal names s a =
    let now : List Entry = past ++ group in
    let ms = written_grown past group c job line s.request a s.reads in
    let inv = invariant o past legal in
    let new : is_asked past c job ≡ false = inv.fresh c job (let n = s.number in omega (arith, n)) in
    let empty : part past c job ≡ [] = (asked_parts o past legal c job).1 new in
    let items : part now c job ≡ a.items =
    part_from-append c job [] past group names ∙ ap (λ (is : List Item). is ++ part_from c job past group) empty ∙ a.added in
    let asked : asked_jobs now c ≡ asked_jobs past c ++ job ∷ [] = each_of-append (asks c) past group ∙ ap (λ (ks : List ℕ). asked_jobs past c ++ ks) a.jobs in
    record {
      job = job;
      line = line;
      request = s.request;
      open_job = one_open past group c job s.idle.none_open (unsettled past c job (unasked_none o past legal c job new)) a.jobs a.settled;
      last = (let n = s.number in let l = ap (λ (ks : List ℕ). length ks) asked ∙ length-append (asked_jobs past c) (job ∷ []) in omega (arith, n, l));
      got =
          (let gots = ap (λ (ls : List (List ℕ)). length ls) (each_same (line_from c) past group a.gots) in
          let were = s.idle.got in
          let is = ap replies_to ms ∙ replies_to-append (written past c ++ a.names) (s.request ∷ []) in
          let front = replies_to-append (written past c) a.names in
          let unsaid = a.unsaid in
          let one = one_reply s.request (asks_no_name s.request s.asking) in
          omega (arith, gots, were, is, front, unsaid, one));
      asked = ap first_of (each_of-append (line_for c job) past group ∙ ap (λ (ls : List (List ℕ)). ls ++ each_of (line_for c job) group) (unasked_line past c job new) ∙ a.lines);
      spelled = s.reads;
      asking = ap request_in items ∙ a.begins;
      current = ap request_of_messages ms ∙ asks_current (written past c ++ a.names) s.request s.asking;
      earlier = written past c ++ a.names;
      message = s.request;
      ends = ms;
      answerable = asks_no_name s.request s.asking;
      nothing_said = ap said items ∙ a.nothing;
    }

-- the child is in step then
asks_in_step : (o : Opening) (past group : List Entry) (c job : ℕ) (line : List ℕ) → Legal o past → NamesNoLine c group → ChildInStep past c → is_mute group c ≡ false
    → is_tagged (past ++ group) c ≡ is_tagged past c
    → (s : Asked past c job line) → Asking past group c job line s.request → ChildInStep (past ++ group) c
asks_in_step o past group c job line legal names h unmuted tagged s a = record {
  unmuted = any_same (mutes c) past group unmuted ∙ h.unmuted;
  expected = record {
    lines = ap (list_all is_message_line) (lines_grown past group c job line s.request a) ∙ list_all-append is_message_line (written_lines past c) (a.front ++ line ∷ [])
        ∙ ap (λ (b : Bool). b && list_all is_message_line (a.front ++ line ∷ [])) h.expected.lines ∙ a.whole;
    expected = ap (is_over settings) (written_grown past group c job line s.request a s.reads) ∙ a.expected;
  };
  steps = λ live. record { untagged = tagged ∙ s.untagged; turn = inr (inr (busy_from o past group c job line legal names s a)) };
}

message_line : (line : List ℕ) (m : HostMessage) → has_newline line ≡ false → host_reading line ≡ Some m → is_message_line line ≡ true
message_line line m whole reads = ap (λ (b : Bool). not b && is_some (host_reading line)) whole ∙ ap is_some reads

-- ---- a request alone

pub ask_apart : (by child c job task : ℕ) (line : List ℕ) → (child == c) ≡ false → any (touches c) (entry by (Ask child job task line) ∷ []) ≡ false
ask_apart by child c job task line n = rw n refl

pub ask_in_step : (o : Opening) (past : List Entry) (by c job task : ℕ) (line : List ℕ) → Legal o past → ChildInStep past c → may_come o past by (Ask c job task line) ≡ true
    → needs_lead past (Ask c job task line) ≡ false → ChildInStep (past ++ entry by (Ask c job task line) ∷ []) c
ask_in_step o past by c job task line legal h may unled =
    let s = asked_so o past by c job task line h may in
    let group : List Entry = entry by (Ask c job task line) ∷ [] in
    let own : (c == c) ≡ true = same c in
    let text : (addressed past c line).1 ≡ line = ap (λ (a : Option ℕ × List ℕ). a.1) (untagged_line past c line s.untagged) in
    let read : host_reading (addressed past c line).1 ≡ Some s.request = ap host_reading text ∙ s.reads in
    let lead = plain_lead s.request job (sym (ap is_led read) ∙ unled) s.turn in
    let item : Item = record { side = Host; at = length past; text = (addressed past c line).1 } in
    asks_in_step o past group c job line legal (come_names_none o past c by (Ask c job task line) [] may) h refl
    (tag_kept past group c ((invariant o past legal).placed c) refl refl) s record {
      front = [];
      names = [];
      wrote = rw own refl;
      spell = refl;
      whole = ap (λ (b : Bool). b && true) (message_line line s.request s.whole s.reads);
      expected = ap (λ (ms : List HostMessage). is_over settings (ms ++ s.request ∷ [])) (append-nil (written past c))
          ∙ still_expects (written past c) s.request (expects_request (written past c) s.request h.expected.expected s.idle.stage s.asking);
      unsaid = refl;
      gots = refl;
      jobs = rw own refl;
      settled = λ j. refl;
      lines = (let j = same job in rw (own, j) refl);
      items = item ∷ [];
      added = (let j = same job in rw (own, j) refl);
      begins = ap (λ (r : Option HostMessage). asked_by r []) read ∙ plain_asked s.request [] lead;
      nothing = refl;
    }

-- ---- a request after its name

pub pair_apart : (by child c job task : ℕ) (name line : List ℕ) → (child == c) ≡ false → any (touches c) (pair by child job task name line) ≡ false
pair_apart by child c job task name line n = rw n refl

pub led_in_step : (o : Opening) (past : List Entry) (by c job task : ℕ) (name line : List ℕ) → Legal o past → ChildInStep past c → Led o past by c job task name line
    → ChildInStep (past ++ pair by c job task name line) c
led_in_step o past by c job task name line legal h l =
    let first : Entry = entry by (Lead c job name) in
    let mid : List Entry = past ++ first ∷ [] in
    let group : List Entry = pair by c job task name line in
    let may : may_come o past by (Ask c job task line) ≡ true = sym (same_ask past by c job name o c job task line) ∙ l.second in
    let s = asked_so o past by c job task line h may in
    let own : (c == c) ≡ true = same c in
    let fourth = both _ _ (both _ _ l.first).0 in
    let named = named_text past c job name (host_reading (addressed past c name).1) refl fourth.1 in
    let text : (addressed past c name).1 ≡ name = ap (λ (a : Option ℕ × List ℕ). a.1) (untagged_line past c name s.untagged) in
    let spelled : name ≡ host_line (Export named.0) = sym text ∙ named.1 in
    let reads : host_reading name ≡ Some (Export named.0) = ap host_reading spelled ∙ canonical_read (Export named.0) tt in
    let own_text : is_text named.0 ≡ true = text_of (host_reading (addressed past c name).1) named.0 (ap host_reading text ∙ reads) fourth.1 in
    let later : (addressed mid c line).1 ≡ line =
    ap (λ (a : Option ℕ × List ℕ). a.1) (same_addressed past by c job name c line ∙ untagged_line past c line s.untagged) in
    let on = still_expects (written past c) (Export named.0) (expects_name (written past c) named.0 h.expected.expected s.idle.stage) in
    let lead : Item = record { side = Host; at = length past; text = (addressed past c name).1 } in
    let item : Item = record { side = Host; at = length mid; text = (addressed mid c line).1 } in
    asks_in_step o past group c job line legal (come_names_none o past c by (Lead c job name) (entry by (Ask c job task line) ∷ []) l.first) h refl
    (tag_kept past group c ((invariant o past legal).placed c) refl refl) s record {
      front = name ∷ [];
      names = Export named.0 ∷ [];
      wrote = rw own refl;
      spell = ap (λ (r : Option HostMessage). cons_option r []) reads;
      whole = ap (λ (b : Bool). b && (is_message_line line && true)) (message_line name (Export named.0) (ap has_newline spelled ∙ name_line_free named.0 own_text) reads)
          ∙ ap (λ (b : Bool). b && true) (message_line line s.request s.whole s.reads);
      expected = still_expects (written past c ++ Export named.0 ∷ []) s.request (expects_named (written past c) named.0 s.request on s.asking);
      unsaid = refl;
      gots = refl;
      jobs = rw own refl;
      settled = λ j. refl;
      lines = (let j = same job in rw (own, j) refl);
      items = lead ∷ item ∷ [];
      added = (let j = same job in rw (own, j) refl);
      begins = ap (λ (r : Option HostMessage). asked_by r (item ∷ [])) (ap host_reading text ∙ reads) ∙ ap host_reading later ∙ s.reads;
      nothing = refl;
    }
  where
    text_of : (r : Option HostMessage) (n : List ℕ) → r ≡ Some (Export n) → says_name past c job name r ≡ true → is_text n ≡ true
    text_of r n e t = (both (is_text n) (bytes_eq name (on_wire past c job (host_line (Export n)))) (subst (λ (x : Option HostMessage). says_name past c job name x ≡ true) e t)).0
