-- What a line of a child that keeps step makes due, and that the child keeps step after it.
use Rattle.std.proofs.Common.{ℕ, ◌≡◌, ◌+◌, ◌==◌, inl, inr, Bool, true, false, not, cond, List, [], ◌∷◌, ◌++◌, length, map, filter, filter_map, Option, Some, None, is_some, codes, bytes_eq, unwrap_or, refl, sym, ap, subst, ◌∙◌, arith, length-append}
use Rattle.std.specs.Prelude.{◌&&◌, ◌||◌}
use Rattle.std.specs.List.{list_all, list_any, cons_option}
use Rattle.std.specs.Map.{lookup}
use Rattle.std.specs.Option.{option_or}
use Rattle.std.proofs.lemmas.Bool.{and_parts, and_right, not-true, eqb-true as same_number}
use Rattle.std.proofs.lemmas.List.{map-append}
use Rattle.std.proofs.lemmas.List.Elements.{filter_map-append}
use Rattle.std.proofs.lemmas.List.Folds.{list_all-append}
use Rattle.annex_model.specs.declared.final_line.Final.{Final}
use Rattle.annex_model.specs.declared.final_line.Final.TheVariants.{Done, Failed, Absent, Unknown, Unsupported}
use Rattle.annex_model.specs.Lines.{has_newline}
use Rattle.annex_model.specs.Messages.{RemoteMessage, Version, Getconfig, HostMessage, Value, host_line, host_reading, remote_reading}
use Rattle.annex_model.specs.Tags.{tagged_line, names_async}
use Rattle.annex_model.specs.Talks.{Item, Host, Remote, is_aside, spells_aside, item_is_aside, final_of, awaits, said}
use Rattle.annex_model.specs.Hearings.{Aside, Settles, by_answer, hearing_of, hearing, request_in}
use Rattle.annex_model.proofs.FrontsTalk.{said-append}
use Rattle.annex_model.proofs.Leads.{asked_more}
use Rattle.annex_model.proofs.Readings.{canonical_read}
use Rattle.registers.specs.Registers.{IsKept, config_of, is_line, is_word, are_texts}
use Rattle.registers.specs.Tables.{Texts, text_at}
use Rattle.journal_model.specs.declared.verdict.Why.TheVariants.{Error as ErrorAt, Version as VersionFault}
use Rattle.journal_model.specs.declared.verdict.Verdict.{Verdict}
use Rattle.journal_model.specs.declared.entry.What.{What}
use Rattle.journal_model.specs.declared.entry.What.TheVariants.{Put, Got, Verdict as Settled}
use Rattle.journal_model.specs.declared.entry.Entry.{Entry}
use Rattle.journal_model.specs.declared.opening.Opening.{Opening}
use Rattle.journal_model.specs.Journal.{any, each_of, first_of, asks, writes, line_from, got_from, mutes, settles, offers, got_lines, asked_jobs, open_jobs, is_settled, is_open, has_spoken, is_tagged, accepts_async, got_line, verdict_of, addressed}
use Rattle.journal_model.specs.Parts.{part, part_from, is_for, ends_at}
use Rattle.journal_model.specs.Due.{due_by_got, after_line, after_hearing, after_late, ending, is_error, is_version_one, verdict_at}
use Rattle.journal_model.specs.Registers.{config_at, last_given, gives_config, settings as settings_made}
use Rattle.journal_model.proofs.Linking.{got_more}
use Rattle.journal_model.proofs.Looks.{entry, any-append, each_of-append, verdict_of-append, silent_lines}
use Rattle.journal_model.proofs.PartsGrow.{part_from-append}
use Rattle.journal_model.proofs.Replying.{IsPlaced, tag_kept}
use Rattle.kit_serve.specs.declared.kit.kit.Stage.TheVariants.{Waiting}
use Rattle.kit_serve.specs.Kit.Kits.{is_over, request_of as request_of_messages}
use Rattle.kit_serve.specs.Kit.Stages.{is_free, stage_of}
use Rattle.kit_serve.proofs.KitLemmas.Behind.{request_of-push}
use Rattle.pair_kit.specs.Cues.{settings}
use Rattle.pair_kit.specs.Answered.{line_for}
use Rattle.pair_kit.specs.Paces.{written_lines, written, replies_to, is_message_line, IsSilent, IsBusy}
use Rattle.pair_kit.proofs.PaceAsks.{untagged_line}
use Rattle.pair_kit.proofs.PaceEntries.{ChildInStep, any_same, each_same, open_same, expected_same}
use Rattle.pair_kit.proofs.PaceKits.{still_expects}
use Rattle.pair_kit.proofs.PaceRequests.{expects_value, value_line_free}
use Rattle.pair_kit.proofs.PaceSaid.{replies_to-append, one_reply}
use Rattle.ann_key.proofs.Numbers.{same_number as same}
use Rattle.ann_key.proofs.Lists.{filter_alike, get_after as slice_get-here}
use Rattle.ann_key.proofs.Booleans.{or_false}

-- ---- what is due

-- a busy child has said its version
spoken : (past : List Entry) (c : ℕ) → IsBusy past c → has_spoken past c ≡ true
spoken past c b = go (has_spoken past c) refl
  where
    go : (s : Bool) → has_spoken past c ≡ s → s ≡ true
    go true e = refl
    go false e =
        absurd (omega (
          arith,
          b.got,
          ap (λ (ls : List (List ℕ)). length ls) (silent_lines past c e),
          ap replies_to b.ends,
          replies_to-append b.earlier (b.message ∷ []),
          one_reply b.message b.answerable,
        ))

-- a line of a busy child is heard in its one open job
due_line : (o : Opening) (past : List Entry) (c : ℕ) (line : List ℕ) (b : IsBusy past c) (r : RemoteMessage) → is_tagged past c ≡ false → remote_reading line ≡ Some r → is_error (Some r) ≡ false
    → due_by_got o past c line ≡ after_hearing o past c b.job r (hearing (part past c b.job) r)
due_line o past c line b r untagged reads fair =
    let fault = ending past c (ErrorAt (length past)) in
    let first : List What = cond (is_version_one (remote_reading line)) [] (ending past c (VersionFault (length past))) in
    let to : addressed past c line ≡ (Some b.job, line) = untagged_line past c line untagged ∙ ap (λ (ks : List ℕ). let t : Option ℕ × List ℕ = (first_of ks, line) in t) b.open_job in
    let opened : is_open past c b.job ≡ true = ap (list_any (λ (k : ℕ). k == b.job)) b.open_job ∙ ap (λ (x : Bool). x || false) (same b.job) in
    ap (λ (a : Option ℕ × List ℕ). cond (is_error (remote_reading a.1)) fault (cond (not (has_spoken past c)) first (after_line o past c a.0 (remote_reading a.1)))) to
    ∙ ap (λ (x : Option RemoteMessage). cond (is_error x) fault (cond (not (has_spoken past c)) first (after_line o past c (Some b.job) x))) reads
    ∙ ap (λ (x : Bool). cond x fault (cond (not (has_spoken past c)) first (after_line o past c (Some b.job) (Some r)))) fair
    ∙ ap (λ (x : Bool). cond (not x) first (after_line o past c (Some b.job) (Some r))) (spoken past c b)
    ∙ ap (λ (x : Bool). cond x (after_hearing o past c b.job r (hearing (part past c b.job) r)) (after_late past c (Some b.job) r)) opened

-- the verdict, where the line answers the request
pub due_final : (o : Opening) (past : List Entry) (c : ℕ) (line : List ℕ) (b : IsBusy past c) (r : RemoteMessage) (f : Final) → is_tagged past c ≡ false → remote_reading line ≡ Some r
    → is_error (Some r) ≡ false → is_aside r ≡ false → final_of b.request (Some r ∷ []) ≡ Some f → due_by_got o past c line ≡ Settled c b.job (verdict_at f (length past)) ∷ []
due_final o past c line b r f untagged reads fair plain settles =
    let p = part past c b.job in
    let heard : hearing p r ≡ Settles f =
    ap (λ (x : Bool). cond x Aside (hearing_of (request_in p) (said p ++ Some r ∷ []))) plain
    ∙ ap (λ (q : Option HostMessage). hearing_of q (said p ++ Some r ∷ [])) b.asking
    ∙ ap (λ (ms : List (Option RemoteMessage)). hearing_of (Some b.request) (ms ++ Some r ∷ [])) b.nothing_said
    ∙ ap (λ (x : Option Final). by_answer x (awaits b.request (Some r ∷ []))) settles in
    due_line o past c line b r untagged reads fair ∙ ap (after_hearing o past c b.job r) heard

-- the value that is asked for
abbrev pub value_of_setting : Opening → List Entry → List ℕ
value_of_setting o past = config_at o.registers past (codes "directory")

pub due_value : (o : Opening) (past : List Entry) (c : ℕ) (line : List ℕ) (b : IsBusy past c) (r : RemoteMessage) → is_tagged past c ≡ false → remote_reading line ≡ Some r
    → r ≡ Getconfig (codes "directory") → due_by_got o past c line ≡ Put c b.job (host_line (Value (value_of_setting o past))) ∷ []
due_value o past c line b r untagged reads is =
    let value = host_line (Value (value_of_setting o past)) in
    due_line o past c line b r untagged reads (ap (λ (m : RemoteMessage). is_error (Some m)) is)
    ∙ ap (λ (m : RemoteMessage). after_hearing o past c b.job m (hearing (part past c b.job) m)) is
    ∙ ap (λ (x : Bool). Put c b.job (cond x (tagged_line b.job value) value) ∷ []) untagged

-- nothing, where it is a silent child's version
pub due_version : (o : Opening) (past : List Entry) (c : ℕ) (line : List ℕ) → is_tagged past c ≡ false → got_lines past c ≡ [] → remote_reading line ≡ Some (Version 1) → due_by_got o past c line ≡ []
due_version o past c line untagged none reads =
    let fault = ending past c (ErrorAt (length past)) in
    let wrong = ending past c (VersionFault (length past)) in
    ap (λ (a : Option ℕ × List ℕ). cond (is_error (remote_reading a.1)) fault (cond (not (has_spoken past c)) (cond (is_version_one (remote_reading line)) [] wrong) (after_line o past c a.0 (remote_reading a.1))))
    (untagged_line past c line untagged)
    ∙ ap (λ (x : Option RemoteMessage). cond (is_error x) fault (cond (not (has_spoken past c)) (cond (is_version_one x) [] wrong) (after_line o past c (first_of (open_jobs past c)) x))) reads
    ∙ ap (λ (x : Bool). cond {A = List What} (not x) [] (after_line o past c (first_of (open_jobs past c)) (Some (Version 1)))) (mute past none)
  where
    mute : (past : List Entry) → got_lines past c ≡ [] → has_spoken past c ≡ false
    mute [] h = refl
    mute (e ∷ past) h = step e.what h (mute past)
      where
        step : (w : What) → cons_option (line_from c w) (got_lines past c) ≡ [] → (got_lines past c ≡ [] → has_spoken past c ≡ false) → (got_from c w || has_spoken past c) ≡ false
        step (Got child line) h r = go (child == c) h
          where
            go : (b : Bool) → cons_option (cond {A = Option (List ℕ)} b (Some line) None) (got_lines past c) ≡ [] → (b || has_spoken past c) ≡ false
            go true h = absurd cc
            go false h = r h
        step w h r = r h

-- ---- a value is one line

line_free : (bytes : List ℕ) → is_line bytes ≡ true → has_newline bytes ≡ false
line_free [] h = refl
line_free (x ∷ xs) h =
    let t = and_parts (not (x == 10)) (is_line xs) h in
    ap (λ (b : Bool). b || has_newline xs) (not-true (x == 10) t.0) ∙ line_free xs t.1

text_free : (es : Texts) (name : List ℕ) → are_texts is_word is_line es ≡ true → has_newline (text_at es name) ≡ false
text_free [] name h = refl
text_free (e ∷ es) name h =
    let t = and_parts (is_word e.0 && is_line e.1) (are_texts is_word is_line es) h in
    go (bytes_eq name e.0) (and_parts (is_word e.0) (is_line e.1) t.0).1 (text_free es name t.1)
  where
    go : (b : Bool) → is_line e.1 ≡ true → has_newline (text_at es name) ≡ false → has_newline (unwrap_or (cond {A = Option (List ℕ)} b (Some e.1) (lookup (bytes_eq name) es)) []) ≡ false
    go true l r = line_free e.1 l
    go false l r = r

-- where nothing was set, the value is what the run began with
pub value_free : (o : Opening) (past : List Entry) → IsKept o.registers → settings_made past ≡ [] → has_newline (value_of_setting o past) ≡ false
value_free o past kept unset =
    let begun : value_of_setting o past ≡ config_of o.registers (codes "directory") =
    ap (λ (ms : List RemoteMessage). last_given (config_of o.registers (codes "directory")) (gives_config (codes "directory")) ms) unset in
    ap has_newline begun ∙ text_free o.registers.config (codes "directory") kept.config_texts

-- ---- a version

pub got_alone : (by c : ℕ) (line : List ℕ) → got_lines (entry by (Got c line) ∷ []) c ≡ line ∷ []
got_alone by c line = let own = same c in rw own refl

pub greets_in_step : (past : List Entry) (by c : ℕ) (line : List ℕ) → IsPlaced past c → IsSilent past c → is_tagged past c ≡ false → ChildInStep past c
    → ChildInStep (past ++ entry by (Got c line) ∷ []) c
greets_in_step past by c line placed silent untagged h =
    let group : List Entry = entry by (Got c line) ∷ [] in
    let now : List Entry = past ++ group in
    let lines : written_lines now c ≡ written_lines past c = ap (map (λ (w : Option ℕ × List ℕ). w.1)) (each_same (writes c) past group refl) in
    let none : written now c ≡ [] = ap (filter_map host_reading) (lines ∙ silent.written) in
    let gots : got_lines now c ≡ line ∷ [] = got_more past group c (line ∷ []) (got_alone by c line) ∙ ap (λ (ls : List (List ℕ)). ls ++ line ∷ []) silent.got in
    record {
      unmuted = any_same (mutes c) past group refl ∙ h.unmuted;
      expected = expected_same past now c lines h.expected;
      steps = λ live. record {
        untagged = tag_kept past group c placed refl refl ∙ untagged;
        turn = inr (inl (record {
          got = ap (λ (ls : List (List ℕ)). length ls) gots ∙ ap (λ (ms : List HostMessage). 1 + replies_to ms) (sym none);
          none_open = open_same past group c refl (λ j. refl) ∙ ap (filter (λ (j : ℕ). not (is_settled past c j))) silent.asked;
          stage = ap (stage_of settings) none;
        }));
      };
    }

-- ---- an answer

-- a line and the verdict that it gives
abbrev pub settled_by : ℕ → ℕ → List ℕ → ℕ → Verdict → List Entry
settled_by by c line j v = entry by (Got c line) ∷ entry by (Settled c j v) ∷ []

twice : (s t : ℕ → Bool) (xs : List ℕ) → filter (λ (k : ℕ). not (s k || t k)) xs ≡ filter (λ (k : ℕ). not (t k)) (filter (λ (k : ℕ). not (s k)) xs)
twice s t [] = refl
twice s t (x ∷ xs) = go (s x) (twice s t xs)
  where
    go : (b : Bool) → filter (λ (k : ℕ). not (s k || t k)) xs ≡ filter (λ (k : ℕ). not (t k)) (filter (λ (k : ℕ). not (s k)) xs)
        → cond (not (b || t x)) (x ∷ filter (λ (k : ℕ). not (s k || t k)) xs) (filter (λ (k : ℕ). not (s k || t k)) xs)
        ≡ filter (λ (k : ℕ). not (t k)) (cond (not b) (x ∷ filter (λ (k : ℕ). not (s k)) xs) (filter (λ (k : ℕ). not (s k)) xs))
    go true r = r
    go false r = ap (λ (ks : List ℕ). cond (not (t x)) (x ∷ ks) ks) r

-- the job that is settled was the one that was open
none_open : (past : List Entry) (by c : ℕ) (line : List ℕ) (j : ℕ) (v : Verdict) → open_jobs past c ≡ j ∷ [] → open_jobs (past ++ settled_by by c line j v) c ≡ []
none_open past by c line j v one =
    let group : List Entry = settled_by by c line j v in
    let now : List Entry = past ++ group in
    let own = same c in
    let here : (k : ℕ) → any (settles c k) group ≡ (j == k) = λ k. (rw own (or_false (j == k))) in
    let settled : (k : ℕ) → not (is_settled now c k) ≡ not (is_settled past c k || (j == k)) =
    λ k. ap not (any-append (settles c k) past group ∙ ap (λ (b : Bool). is_settled past c k || b) (here k)) in
    ap (filter (λ (k : ℕ). not (is_settled now c k))) (each_same (asks c) past group refl)
    ∙ filter_alike (λ (k : ℕ). not (is_settled now c k)) (λ (k : ℕ). not (is_settled past c k || (j == k))) settled (asked_jobs past c)
    ∙ twice (is_settled past c) (λ (k : ℕ). j == k) (asked_jobs past c)
    ∙ ap (filter (λ (k : ℕ). not (j == k))) one
    ∙ ap (λ (b : Bool). cond {A = List ℕ} (not b) (j ∷ []) []) (same j)

-- and the answer gives no tags
tag_settled : (past : List Entry) (by c : ℕ) (line : List ℕ) (j : ℕ) (f : Final) → IsPlaced past c → is_tagged past c ≡ false → verdict_of past c j ≡ None
    → names_async (remote_reading line) ≡ false → is_tagged (past ++ settled_by by c line j (verdict_at f (length past))) c ≡ false
tag_settled past by c line j f placed untagged unsettled plain = by_job (j == 0) refl
  where
    group : List Entry
    group = settled_by by c line j (verdict_at f (length past))

    now : List Entry
    now = past ++ group

    names_none : (f : Final) → accepts_async now (Some (verdict_at f (length past))) ≡ false
    names_none Done = ap (λ (e : Option Entry). names_async (remote_reading (got_line e))) (slice_get-here past (entry by (Got c line)) (entry by (Settled c j (verdict_at f (length past))) ∷ [])) ∙ plain
    names_none Failed = refl
    names_none Absent = refl
    names_none Unknown = refl
    names_none Unsupported = refl

    by_job : (b : Bool) → (j == 0) ≡ b → is_tagged now c ≡ false
    by_job false e =
        let own = same c in
        let none : verdict_of group c 0 ≡ None = rw (own, e) refl in
        tag_kept past group c placed refl none ∙ untagged
    by_job true e =
        let own = same c in
        let before : verdict_of past c 0 ≡ None = subst (λ (k : ℕ). verdict_of past c k ≡ None) (same_number j 0 e) unsettled in
        let here : verdict_of group c 0 ≡ Some (verdict_at f (length past)) = rw (own, e) refl in
        let verdict : verdict_of now c 0 ≡ Some (verdict_at f (length past)) =
        verdict_of-append c 0 past group ∙ ap (λ (v : Option Verdict). option_or v (verdict_of group c 0)) before ∙ here in
        ap (λ (v : Option Verdict). any (offers c) now && accepts_async now v) verdict ∙ ap (λ (b : Bool). any (offers c) now && b) (names_none f) ∙ and_right (any (offers c) now) false refl

pub settles_in_step : (past : List Entry) (by c : ℕ) (line : List ℕ) (b : IsBusy past c) (f : Final) → IsPlaced past c → is_tagged past c ≡ false → verdict_of past c b.job ≡ None
    → names_async (remote_reading line) ≡ false → stage_of settings (written past c) ≡ Waiting → ChildInStep past c
    → ChildInStep (past ++ settled_by by c line b.job (verdict_at f (length past))) c
settles_in_step past by c line b f placed untagged unsettled plain free h =
    let group : List Entry = settled_by by c line b.job (verdict_at f (length past)) in
    let now : List Entry = past ++ group in
    let lines : written_lines now c ≡ written_lines past c = ap (map (λ (w : Option ℕ × List ℕ). w.1)) (each_same (writes c) past group refl) in
    let ms : written now c ≡ written past c = ap (filter_map host_reading) lines in
    let own = same c in
    let gots : got_lines now c ≡ got_lines past c ++ line ∷ [] = got_more past group c (line ∷ []) (rw own refl) in
    record {
      unmuted = any_same (mutes c) past group refl ∙ h.unmuted;
      expected = expected_same past now c lines h.expected;
      steps = λ live. record {
        untagged = tag_settled past by c line b.job f placed untagged unsettled plain;
        turn = inr (inl (record {
          got =
              (let n = ap (λ (ls : List (List ℕ)). length ls) gots ∙ length-append (got_lines past c) (line ∷ []) in
              let were = b.got in
              let told = ap replies_to ms in
              omega (arith, n, were, told));
          none_open = none_open past by c line b.job (verdict_at f (length past)) b.open_job;
          stage = ap (stage_of settings) ms ∙ free;
        }));
      };
    }

-- ---- a value

-- a line and the reply to it
abbrev pub replied_by : ℕ → ℕ → List ℕ → ℕ → List ℕ → List Entry
replied_by by c line j value = entry by (Got c line) ∷ entry by (Put c j value) ∷ []

-- neither an aside nor a reply is said in the answer
said_nothing : (a b : Bool) (at at' : ℕ) (text text' : List ℕ) → item_is_aside (record { side = Remote; at = at; text = text }) ≡ true
    → said (cons_option (cond {A = Option Item} a (Some (record { side = Remote; at = at; text = text })) None)
    (cons_option (cond {A = Option Item} b (Some (record { side = Host; at = at'; text = text' })) None) [])) ≡ []
said_nothing true true at at' text text' aside = rw aside refl
said_nothing true false at at' text text' aside = rw aside refl
said_nothing false true at at' text text' aside = refl
said_nothing false false at at' text text' aside = refl

pub value_in_step : (past : List Entry) (by c : ℕ) (line value : List ℕ) (b : IsBusy past c) (r : RemoteMessage) → IsPlaced past c → is_tagged past c ≡ false → remote_reading line ≡ Some r
    → is_aside r ≡ true → is_free (stage_of settings (written past c)) ≡ false → has_newline value ≡ false → ChildInStep past c
    → ChildInStep (past ++ replied_by by c line b.job (host_line (Value value))) c
value_in_step past by c line value b r placed untagged reads aside busy whole h =
    let reply : List ℕ = host_line (Value value) in
    let group : List Entry = replied_by by c line b.job reply in
    let now : List Entry = past ++ group in
    let own = same c in
    let wrote : map (λ (w : Option ℕ × List ℕ). w.1) (each_of (writes c) group) ≡ reply ∷ [] = rw own refl in
    let lines : written_lines now c ≡ written_lines past c ++ reply ∷ [] =
    ap (map (λ (w : Option ℕ × List ℕ). w.1)) (each_of-append (writes c) past group) ∙ map-append (λ (w : Option ℕ × List ℕ). w.1) (each_of (writes c) past) (each_of (writes c) group)
    ∙ ap (λ (ls : List (List ℕ)). written_lines past c ++ ls) wrote in
    let back : host_reading reply ≡ Some (Value value) = canonical_read (Value value) tt in
    let ms : written now c ≡ written past c ++ Value value ∷ [] =
    ap (filter_map host_reading) lines ∙ filter_map-append host_reading (written_lines past c) (reply ∷ [])
    ∙ ap (λ (x : Option HostMessage). written past c ++ cons_option x []) back in
    let gots : got_lines now c ≡ got_lines past c ++ line ∷ [] = got_more past group c (line ∷ []) (rw own refl) in
    let parts : part now c b.job ≡ part past c b.job ++ part_from c b.job past group = part_from-append c b.job [] past group (λ p. refl) in
    let text : (addressed past c line).1 ≡ line = ap (λ (a : Option ℕ × List ℕ). a.1) (untagged_line past c line untagged) in
    let passed : item_is_aside (record { side = Remote; at = length past; text = (addressed past c line).1 }) ≡ true =
    ap (λ (l : List ℕ). item_is_aside (record { side = Remote; at = length past; text = l })) text ∙ ap spells_aside reads ∙ aside in
    record {
      unmuted = any_same (mutes c) past group refl ∙ h.unmuted;
      expected = record {
        lines = ap (list_all is_message_line) lines ∙ list_all-append is_message_line (written_lines past c) (reply ∷ [])
            ∙ ap (λ (x : Bool). x && list_all is_message_line (reply ∷ [])) h.expected.lines
            ∙ ap (λ (x : Bool). (not x && is_some (host_reading reply)) && true) (value_line_free value whole) ∙ ap (λ (x : Option HostMessage). is_some x && true) back;
        expected = ap (is_over settings) ms ∙ still_expects (written past c) (Value value) (expects_value (written past c) value h.expected.expected busy);
      };
      steps = λ live. record {
        untagged = tag_kept past group c placed refl refl ∙ untagged;
        turn = inr (inr (record {
          job = b.job;
          line = b.line;
          request = b.request;
          open_job = open_same past group c refl (λ j. refl) ∙ b.open_job;
          last = b.last ∙ ap (λ (ks : List ℕ). length ks) (sym (each_same (asks c) past group refl));
          got =
              (let n = ap (λ (ls : List (List ℕ)). length ls) gots ∙ length-append (got_lines past c) (line ∷ []) in
              let were = b.got in
              let told = ap replies_to ms ∙ replies_to-append (written past c) (Value value ∷ []) in
              let one = one_reply (Value value) refl in
              omega (arith, n, were, told, one));
          asked = ap first_of (each_same (line_for c b.job) past group refl) ∙ b.asked;
          spelled = b.spelled;
          asking = ap request_in parts ∙ asked_more (part past c b.job) (part_from c b.job past group) b.request b.asking;
          current = ap request_of_messages ms ∙ request_of-push (written past c) (Value value) ∙ b.current;
          earlier = written past c;
          message = Value value;
          ends = ms;
          answerable = refl;
          nothing_said =
              ap said parts ∙ said-append (part past c b.job) (part_from c b.job past group) ∙ ap (λ (xs : List (Option RemoteMessage)). xs ++ said (part_from c b.job past group)) b.nothing_said
              ∙ said_nothing (c == c && is_for b.job (addressed past c line).0 && is_open past c b.job && not (ends_at c (length past) (entry by (Put c b.job reply) ∷ []))) (c == c && b.job == b.job)
              (length past) (length (past ++ entry by (Got c line) ∷ [])) (addressed past c line).1 (addressed (past ++ entry by (Got c line) ∷ []) c reply).1 passed;
        }));
      };
    }
