-- What a line is that the host hears of a child that keeps step. Of a silent child it is its version; of an idle one there is none; and
-- of a busy one it is what its kit, which took all that was written, says to the last message (`HeardBusy`).
use Rattle.std.proofs.Common.{ℕ, ◌≡◌, ◌+◌, ◌==◌, ◌⊎◌, Bool, true, false, not, cond, List, [], ◌∷◌, ◌++◌, length, take, drop, map, filter, filter_map, Option, Some, None, is_some, codes, refl, sym, ap, subst, ◌∙◌, arith, append_assoc, append-nil, length-append}
use Rattle.std.specs.Prelude.{◌&&◌}
use Rattle.std.specs.List.{list_all, cons_option}
use Rattle.std.proofs.lemmas.Bool.{and_parts}
use Rattle.std.proofs.lemmas.List.{map-append, take-append-drop}
use Rattle.std.proofs.lemmas.List.Elements.{filter_map-append}
use Rattle.std.proofs.lemmas.List.Folds.{list_all-append}
use Rattle.annex_model.specs.Lines.{has_newline, text}
use Rattle.annex_model.specs.Messages.{RemoteMessage, HostMessage, host_reading, remote_reading, remote_line}
use Rattle.wire_line.specs.HeldBytes.{first_line, after_line}
use Rattle.journal_model.specs.declared.entry.What.{What}
use Rattle.journal_model.specs.declared.entry.What.TheVariants.{Got}
use Rattle.journal_model.specs.declared.entry.Entry.{Entry}
use Rattle.journal_model.specs.declared.opening.Opening.{Opening}
use Rattle.journal_model.specs.Journal.{each_of, writes, sends, line_from, got_lines, is_live, is_full}
use Rattle.journal_model.specs.Due.{due_by, due_after}
use Rattle.journal_model.specs.Legality.{Legal, may_come}
use Rattle.journal_model.specs.Wires.{sent_lines}
use Rattle.journal_model.proofs.Growing.{Legal-induction}
use Rattle.journal_model.proofs.Linking.{got_more}
use Rattle.journal_model.proofs.Soft.{soft_stretch}
use Rattle.kit_serve.specs.declared.kit.kit.Stage.{Stage}
use Rattle.kit_serve.specs.Kit.Kits.{Heard, messages, is_over, request_of, IsServed, IsAskedBy, due_of, said_by, lines_to, lines_behind}
use Rattle.kit_serve.specs.Kit.Stages.{stage_of}
use Rattle.kit_serve.proofs.KitLemmas.Behind.{messages-push, lines_behind-push}
use Rattle.pair_kit.specs.declared.taken.Taken.{Taken}
use Rattle.pair_kit.specs.Cues.{settings}
use Rattle.pair_kit.specs.Pairs.{PairValue, heard, is_spelled, are_spelled, taken_lines, said_lines}
use Rattle.pair_kit.specs.Worlds.{IsRead, IsLinked}
use Rattle.pair_kit.specs.Paces.{written_lines, written, is_name, replies_to, is_message_line, is_line_call, is_whole, IsExpected, IsSilent, IsIdle, IsBusy}
use Rattle.pair_kit.proofs.Lines.{first_split}
use Rattle.pair_kit.proofs.Taking.{heard_more}
use Rattle.pair_kit.proofs.PaceKits.{GoesOn, Finishes, SaysOne, is_fine, expects}
use Rattle.pair_kit.proofs.PaceSaid.{SaidWell, AreSound, is_one_line, replies_to-append, one_reply, says_reads, one_says, front_goes_on, served_front, sound_front, messages_heard, heard_sound, said_so}
use Rattle.pair_kit.proofs.PaceTexts.{text_front, all_front, same_last, EndsBy, ends_by, heads, tails, no_last}
use Rattle.journal_model.proofs.Bounds.{due_soft as soft_due}
use Rattle.wire_line.proofs.Firsts.{no_newline_before as first_whole}
use Rattle.ann_key.proofs.Lists.{nil_back as none_behind, no_items as empty_is}
use Rattle.annex_model.proofs.Across.{text-append}

-- ---- the lines that a kit took are the first that are written to it

whole_messages : (lines : List (List ℕ)) → list_all is_message_line lines ≡ true → list_all is_one_line lines ≡ true
whole_messages [] h = refl
whole_messages (l ∷ ls) h =
    let t = and_parts (is_message_line l) (list_all is_message_line ls) h in
    ap (λ (b : Bool). b && list_all is_one_line ls) (and_parts (not (has_newline l)) (is_some (host_reading l)) t.0).0 ∙ whole_messages ls t.1

whole_taken : (taken : List Taken) → list_all is_whole taken ≡ true → list_all is_one_line (taken_lines taken) ≡ true
whole_taken [] h = refl
whole_taken (t ∷ taken) h =
    let parts = and_parts (is_whole t) (list_all is_whole taken) h in
    ap (λ (b : Bool). b && list_all is_one_line (taken_lines taken)) (and_parts (not (has_newline t.line)) (is_line_call t.call) parts.0).0 ∙ whole_taken taken parts.1

pub record HasTaken (journal : List Entry) (c : ℕ) (p : PairValue) : Type 0 where
  pub later : List (List ℕ)
  pub lines : written_lines journal c ≡ taken_lines p.taken ++ later
  pub spelled : written journal c ≡ messages (heard p.taken) ++ filter_map host_reading later
  pub goes_on : is_over settings (messages (heard p.taken)) ≡ false
  pub says : SaidWell p.taken

pub has_taken : (journal : List Entry) (c : ℕ) (p : PairValue) → IsExpected journal c → IsLinked journal c p → list_all is_whole p.taken ≡ true → HasTaken journal c p
has_taken journal c p x h whole =
    let W = each_of (writes c) journal in
    let n = length (filter (λ (e : Entry). sends c e.what) journal) in
    let rest : List (List ℕ) = map (λ (w : Option ℕ × List ℕ). w.1) (drop n W) in
    let split : written_lines journal c ≡ sent_lines journal c ++ rest =
    sym (ap (map (λ (w : Option ℕ × List ℕ). w.1)) (take-append-drop n W)) ∙ map-append (λ (w : Option ℕ × List ℕ). w.1) (take n W) (drop n W) in
    let all = whole_messages (written_lines journal c) x.lines in
    let sent = (all_front is_one_line (sent_lines journal c) rest (sym (ap (list_all is_one_line) split) ∙ all)).0 in
    let front = text_front (sent_lines journal c) (taken_lines p.taken) (p.at_kit ++ p.to_kit) sent (whole_taken p.taken whole)
    (h.fed.bytes ∙ append_assoc (text (taken_lines p.taken)) p.at_kit p.to_kit) in
    let later : List (List ℕ) = front.0 ++ rest in
    let lines : written_lines journal c ≡ taken_lines p.taken ++ later =
    split ∙ ap (λ (ls : List (List ℕ)). ls ++ rest) front.1 ∙ append_assoc (taken_lines p.taken) front.0 rest in
    let spelled : written journal c ≡ messages (heard p.taken) ++ filter_map host_reading later =
    ap (filter_map host_reading) lines ∙ filter_map-append host_reading (taken_lines p.taken) later
    ∙ ap (λ (ms : List HostMessage). ms ++ filter_map host_reading later) (sym (messages_heard p.taken)) in
    let on = front_goes_on (messages (heard p.taken)) (filter_map host_reading later) (sym (ap (is_over settings) spelled) ∙ x.expected) in
    record { later = later; lines = lines; spelled = spelled; goes_on = on; says = said_so p.taken on h.heard.follows.served whole }

-- ---- the lines that were got are the first that the kit said

gots_step : (o : Opening) (c : ℕ) (past : List Entry) (by : ℕ) (w : What) → list_all is_one_line (got_lines past c) ≡ true → may_come o past by w ≡ true
    → list_all is_one_line (got_lines (past ++ record { by = by; what = w } ∷ due_after o past (record { by = by; what = w })) c) ≡ true
gots_step o c past by w before may =
    let e : Entry = record { by = by; what = w } in
    let quiet : got_lines (due_after o past e) c ≡ [] = (soft_stretch c by (due_by o past w) (soft_due o past w)).got in
    let grown : got_lines (past ++ e ∷ due_after o past e) c ≡ got_lines past c ++ cons_option (line_from c w) [] =
    got_more past (e ∷ due_after o past e) c (cons_option (line_from c w) []) (ap (λ (ls : List (List ℕ)). cons_option (line_from c w) ls) quiet) in
    ap (list_all is_one_line) grown ∙ list_all-append is_one_line (got_lines past c) (cons_option (line_from c w) [])
    ∙ ap (λ (b : Bool). b && list_all is_one_line (cons_option (line_from c w) [])) before ∙ by_kind w may
  where
    by_kind : (w : What) → may_come o past by w ≡ true → list_all is_one_line (cons_option (line_from c w) []) ≡ true
    by_kind (Got child line) m = go (child == c)
      where
        fits : not (has_newline line) ≡ true
        fits = (and_parts (is_live past child) (not (has_newline line)) (and_parts (is_live past child && not (has_newline line)) (not (is_full past)) m).0).1

        go : (b : Bool) → list_all is_one_line (cons_option (cond {A = Option (List ℕ)} b (Some line) None) []) ≡ true
        go true = ap (λ (x : Bool). x && true) fits
        go false = refl
    by_kind w m = refl

-- a line that was got is one line
pub gots_whole : (o : Opening) (journal : List Entry) → Legal o journal → (c : ℕ) → list_all is_one_line (got_lines journal c) ≡ true
gots_whole o journal legal c =
    Legal-induction o (λ (past : List Entry). list_all is_one_line (got_lines past c) ≡ true) refl (λ past e l before may. gots_step o c past e.by e.what before may) journal legal

-- the line that is heard is the next that the kit said
pub record HasHeardLine (journal : List Entry) (c : ℕ) (p : PairValue) : Type 0 where
  pub later : List (List ℕ)
  pub lines : said_lines p.taken ≡ (got_lines journal c ++ first_line p.at_host ∷ []) ++ later

pub has_heard : (o : Opening) (journal : List Entry) (c : ℕ) (p : PairValue) → Legal o journal → IsRead journal c p → SaidWell p.taken → has_newline p.at_host ≡ true
    → HasHeardLine journal c p
has_heard o journal c p legal r s end =
    let gots = got_lines journal c in
    let line = first_line p.at_host in
    let after = after_line p.at_host in
    let own : list_all is_one_line (line ∷ []) ≡ true = ap (λ (b : Bool). not b && true) (first_whole p.at_host) in
    let single : list_all is_one_line (gots ++ line ∷ []) ≡ true =
    list_all-append is_one_line gots (line ∷ []) ∙ ap (λ (b : Bool). b && list_all is_one_line (line ∷ [])) (gots_whole o journal legal c) ∙ own in
    let bytes : text (gots ++ line ∷ []) ++ (after ++ p.to_host) ≡ text (said_lines p.taken) =
    ap (λ (l : List ℕ). l ++ (after ++ p.to_host)) (text-append gots (line ∷ []))
    ∙ append_assoc (text gots) (line ++ 10 ∷ []) (after ++ p.to_host)
    ∙ ap (λ (l : List ℕ). text gots ++ l) (sym (append_assoc (line ++ 10 ∷ []) after p.to_host))
    ∙ ap (λ (l : List ℕ). text gots ++ (l ++ p.to_host)) (append_assoc line (10 ∷ []) after ∙ sym (first_split p.at_host end))
    ∙ sym (append_assoc (text gots) p.at_host p.to_host)
    ∙ r.bytes in
    let front = text_front (said_lines p.taken) (gots ++ line ∷ []) (after ++ p.to_host) s.whole single (sym bytes) in
    record { later = front.0; lines = front.1 }

heard_number : (journal : List Entry) (c : ℕ) (p : PairValue) (h : HasHeardLine journal c p) → length (said_lines p.taken) ≡ length (got_lines journal c) + 1 + length h.later
heard_number journal c p h =
    ap (λ (ls : List (List ℕ)). length ls) h.lines ∙ length-append (got_lines journal c ++ first_line p.at_host ∷ []) h.later
    ∙ ap (λ (n : ℕ). n + length h.later) (length-append (got_lines journal c) (first_line p.at_host ∷ []))

-- ---- a silent child and an idle one

pub heard_silent : (o : Opening) (journal : List Entry) (c : ℕ) (p : PairValue) → Legal o journal → IsExpected journal c → IsLinked journal c p → list_all is_whole p.taken ≡ true
    → IsSilent journal c → has_newline p.at_host ≡ true → first_line p.at_host ≡ codes "VERSION 1"
heard_silent o journal c p legal x h whole silent end =
    let t = has_taken journal c p x h whole in
    let k = has_heard o journal c p legal h.read t.says end in
    sym (heads (codes "VERSION 1") (first_line p.at_host) (lines_behind settings [] (heard p.taken)) k.later (k.lines ∙ ap (λ (ls : List (List ℕ)). (ls ++ first_line p.at_host ∷ []) ++ k.later) silent.got))

pub heard_idle : {A : Type 0} (o : Opening) (journal : List Entry) (c : ℕ) (p : PairValue) → Legal o journal → IsExpected journal c → IsLinked journal c p
    → list_all is_whole p.taken ≡ true → IsIdle journal c → has_newline p.at_host ≡ true → A
heard_idle o journal c p legal x h whole idle end =
    let t = has_taken journal c p x h whole in
    let k = has_heard o journal c p legal h.read t.says end in
    absurd (omega (
      arith,
      heard_number journal c p k,
      t.says.number,
      idle.got,
      ap replies_to t.spelled,
      replies_to-append (messages (heard p.taken)) (filter_map host_reading t.later),
    ))

-- ---- a busy child

-- The kit took all that is written to it. The line is what it says to the last message, which is of this request: it asks for the
-- setting's value, or answers the request.
pub record HeardBusy (journal : List Entry) (c : ℕ) (p : PairValue) (request : HostMessage) (line : List ℕ) : Type 0 where
  pub all : written_lines journal c ≡ taken_lines p.taken
  pub heard_all : written journal c ≡ messages (heard p.taken)
  pub before : List Taken
  pub last : Taken
  pub message : HostMessage
  pub ends : p.taken ≡ before ++ last ∷ []
  pub reads : host_reading last.line ≡ Some message
  pub asked : request_of (messages (heard p.taken)) ≡ Some request
  pub says : lines_to settings (heard before) (record { message = message; call = last.call }) ≡ line ∷ []
  pub reply : RemoteMessage
  pub spells : remote_reading line ≡ Some reply
  pub fine : is_fine reply ≡ true
  pub next : GoesOn reply (stage_of settings (written journal c)) ⊎ Finishes request reply (stage_of settings (written journal c))

-- where nothing more is said to the messages after the front, and the last of all is no name, there are none
none_later : (front later earlier : List HostMessage) (m : HostMessage) → front ++ later ≡ earlier ++ m ∷ [] → replies_to later ≡ 0 → is_name m ≡ false → later ≡ []
none_later [] later earlier m e none n =
    absurd (omega (arith, ap replies_to e, replies_to-append earlier (m ∷ []), one_reply m n, none))
none_later (x ∷ front) later [] m e none n = none_behind front later (tails x m (front ++ later) [] e)
none_later (x ∷ front) later (y ∷ earlier) m e none n = none_later front later earlier m (tails x y (front ++ later) (earlier ++ m ∷ []) e) none n

-- lines that spell messages are none where no message is
none_spelled : (lines : List (List ℕ)) → list_all is_message_line lines ≡ true → filter_map host_reading lines ≡ [] → lines ≡ []
none_spelled [] h e = refl
none_spelled (l ∷ ls) h e =
    let spells = (and_parts (not (has_newline l)) (is_some (host_reading l)) (and_parts (is_message_line l) (list_all is_message_line ls) h).0).1 in
    go (host_reading l) spells e
  where
    go : (r : Option HostMessage) → is_some r ≡ true → cons_option r (filter_map host_reading ls) ≡ [] → l ∷ ls ≡ []
    go None s e = absurd cc
    go (Some m) s e = absurd cc

-- what was taken last, where something was
taken_last : (taken : List Taken) (earlier : List HostMessage) (m : HostMessage) → messages (heard taken) ≡ earlier ++ m ∷ [] → EndsBy taken
taken_last [] earlier m e = no_last earlier m e
taken_last (t ∷ taken) earlier m e = ends_by t taken

-- and what it spells
spelled_last : (before : List Taken) (last : Taken) → are_spelled (before ++ last ∷ []) ≡ true → (m : HostMessage) × (host_reading last.line ≡ Some m)
spelled_last before last h = go (host_reading last.line) refl (and_parts (is_spelled last) true (all_front is_spelled before (last ∷ []) h).1).0
  where
    go : (r : Option HostMessage) → host_reading last.line ≡ r → is_spelled last ≡ true → (m : HostMessage) × (host_reading last.line ≡ Some m)
    go (Some m) e s = (m, e)
    go None e s = absurd (let bad : false ≡ true = sym (ap is_some e) ∙ s in cc)

-- the line to the last message, by what was taken
module _ (o : Opening) (journal : List Entry) (c : ℕ) (p : PairValue) (legal : Legal o journal) (x : IsExpected journal c) (h : IsLinked journal c p)
    (whole : list_all is_whole p.taken ≡ true) (b : IsBusy journal c) (end : has_newline p.at_host ≡ true) where
  took : HasTaken journal c p
  took = has_taken journal c p x h whole

  hears : HasHeardLine journal c p
  hears = has_heard o journal c p legal h.read took.says end

  abbrev taken_messages : List HostMessage
  taken_messages = messages (heard p.taken)

  abbrev later_messages : List HostMessage
  later_messages = filter_map host_reading took.later

  counted : length (got_lines journal c) ≡ replies_to taken_messages + replies_to later_messages
  counted = b.got ∙ ap replies_to took.spelled ∙ replies_to-append taken_messages later_messages

  nothing_later : (replies_to later_messages ≡ 0) × (length hears.later ≡ 0)
  nothing_later =
      let n = heard_number journal c p hears in
      let s = took.says.number in
      let g = counted in
      (omega (arith, n, s, g), omega (arith, n, s, g))

  no_messages : later_messages ≡ []
  no_messages = none_later taken_messages later_messages b.earlier b.message (sym took.spelled ∙ b.ends) nothing_later.0 b.answerable

  no_lines : took.later ≡ []
  no_lines = none_spelled took.later (all_front is_message_line (taken_lines p.taken) took.later (sym (ap (list_all is_message_line) took.lines) ∙ x.lines)).1 no_messages

  all_lines : written_lines journal c ≡ taken_lines p.taken
  all_lines = took.lines ∙ ap (λ (ls : List (List ℕ)). taken_lines p.taken ++ ls) no_lines ∙ append-nil (taken_lines p.taken)

  all_heard : written journal c ≡ taken_messages
  all_heard = took.spelled ∙ ap (λ (ms : List HostMessage). taken_messages ++ ms) no_messages ∙ append-nil taken_messages

  last_one : EndsBy p.taken
  last_one = taken_last p.taken b.earlier b.message (sym all_heard ∙ b.ends)

  spelled : (m : HostMessage) × (host_reading last_one.last.line ≡ Some m)
  spelled = spelled_last last_one.before last_one.last (sym (ap are_spelled last_one.is) ∙ h.heard.spelled)

  abbrev last_heard : Heard
  last_heard = record { message = spelled.0; call = last_one.last.call }

  heard_is : heard p.taken ≡ heard last_one.before ++ last_heard ∷ []
  heard_is = ap heard last_one.is ∙ heard_more last_one.before last_one.last.line last_one.last.call spelled.0 spelled.1

  messages_are : taken_messages ≡ messages (heard last_one.before) ++ spelled.0 ∷ []
  messages_are = ap messages heard_is ∙ messages-push (heard last_one.before) last_heard

  answerable : is_name spelled.0 ≡ false
  answerable =
      let same : spelled.0 ≡ b.message = same_last (messages (heard last_one.before)) b.earlier spelled.0 b.message (sym messages_are ∙ sym all_heard ∙ b.ends) in
      ap is_name same ∙ b.answerable

  current : request_of taken_messages ≡ Some b.request
  current = sym (ap request_of all_heard) ∙ b.current

  asked : IsAskedBy (due_of settings (heard last_one.before) spelled.0) last_heard.call
  asked = (served_front [] (heard last_one.before) last_heard (subst (λ (hs : List Heard). IsServed settings hs) heard_is h.heard.follows.served)).1

  abbrev last_said : List RemoteMessage
  last_said = said_by (due_of settings (heard last_one.before) spelled.0) (request_of (messages (heard last_one.before) ++ spelled.0 ∷ [])) last_one.last.call

  says : SaysOne b.request last_said (stage_of settings (messages (heard last_one.before) ++ spelled.0 ∷ []))
  says =
      one_says (heard last_one.before) last_heard (expects (messages (heard last_one.before)) spelled.0 (sym (ap (is_over settings) messages_are) ∙ took.goes_on)) asked
      (sound_front (heard last_one.before) last_heard (subst (λ (hs : List Heard). AreSound hs) heard_is (heard_sound p.taken whole))).1 answerable b.request (sym (ap request_of messages_are) ∙ current)

  to_last : lines_to settings (heard last_one.before) last_heard ≡ remote_line says.reply ∷ []
  to_last = ap (map remote_line) says.is

  line_is : first_line p.at_host ≡ remote_line says.reply
  line_is =
      let said : said_lines p.taken ≡ (codes "VERSION 1" ∷ lines_behind settings [] (heard last_one.before)) ++ remote_line says.reply ∷ [] =
      ap (λ (hs : List Heard). codes "VERSION 1" ∷ lines_behind settings [] hs) heard_is
      ∙ ap (λ (ls : List (List ℕ)). codes "VERSION 1" ∷ ls) (lines_behind-push settings [] (heard last_one.before) last_heard
      ∙ ap (λ (ls : List (List ℕ)). lines_behind settings [] (heard last_one.before) ++ ls) to_last) in
      let got : said_lines p.taken ≡ got_lines journal c ++ first_line p.at_host ∷ [] =
      hears.lines ∙ ap (λ (ls : List (List ℕ)). (got_lines journal c ++ first_line p.at_host ∷ []) ++ ls) (empty_is hears.later nothing_later.1) ∙ append-nil (got_lines journal c ++ first_line p.at_host ∷ []) in
      same_last (got_lines journal c) (codes "VERSION 1" ∷ lines_behind settings [] (heard last_one.before)) (first_line p.at_host) (remote_line says.reply) (sym got ∙ said)

  stage_same : stage_of settings (messages (heard last_one.before) ++ spelled.0 ∷ []) ≡ stage_of settings (written journal c)
  stage_same = sym (ap (stage_of settings) (all_heard ∙ messages_are))

  pub heard_busy : HeardBusy journal c p b.request (first_line p.at_host)
  heard_busy = record {
    all = all_lines;
    heard_all = all_heard;
    before = last_one.before;
    last = last_one.last;
    message = spelled.0;
    ends = last_one.is;
    reads = spelled.1;
    asked = current;
    says = to_last ∙ ap (λ (l : List ℕ). l ∷ []) (sym line_is);
    reply = says.reply;
    spells = ap remote_reading line_is ∙ says_reads b.request last_said (stage_of settings (messages (heard last_one.before) ++ spelled.0 ∷ [])) says;
    fine = says.fine;
    next = subst (λ (s : Stage). GoesOn says.reply s ⊎ Finishes b.request says.reply s) stage_same says.next;
  }
