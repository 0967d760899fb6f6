-- A line that the host hears of a child keeps every child in step: it is the child's version, asks for a value, or answers a request.
use Rattle.std.proofs.Common.{ℕ, ◌≡◌, ◌==◌, ◌⊎◌, inl, inr, Bool, true, false, not, cond, List, [], ◌∷◌, ◌++◌, length, Option, Some, None, refl, sym, ap, subst, ◌∙◌, append-nil}
use Rattle.std.specs.Prelude.{◌&&◌, ◌||◌}
use Rattle.std.specs.List.{list_all, list_any, cons_option}
use Rattle.std.proofs.lemmas.Bool.{and_parts, not-true, and_parts as both}
use Rattle.annex_model.specs.Lines.{has_newline}
use Rattle.annex_model.specs.Messages.{RemoteMessage, Version, Value, host_line, remote_reading}
use Rattle.annex_model.specs.Tags.{names_async}
use Rattle.annex_model.specs.Talks.{is_aside}
use Rattle.wire_line.specs.HeldBytes.{first_line}
use Rattle.journal_model.specs.declared.entry.What.{What}
use Rattle.journal_model.specs.declared.entry.What.TheVariants.{Got, Put, Verdict as Settled}
use Rattle.journal_model.specs.declared.entry.Entry.{Entry}
use Rattle.journal_model.specs.declared.opening.Opening.{Opening}
use Rattle.journal_model.specs.Journal.{is_open, is_live, is_full, addressed, is_tagged}
use Rattle.journal_model.specs.Parts.{ends_at}
use Rattle.journal_model.specs.Due.{due_by_got, is_error, made_by, verdict_at}
use Rattle.journal_model.specs.Legality.{Legal, may_come}
use Rattle.journal_model.specs.Replies.{is_setting}
use Rattle.journal_model.specs.Registers.{HasNoLine, is_open_job, if_setting, setting_of, settings_from, settings as settings_made}
use Rattle.journal_model.proofs.Looks.{entry, open_unsettled, settled_none}
use Rattle.journal_model.proofs.PartsGrow.{come_names_none}
use Rattle.journal_model.proofs.Projecting.{invariant}
use Rattle.journal_model.proofs.Registering.{settings-append, settings_from-none}
use Rattle.kit_serve.specs.Kit.Stages.{stage_of}
use Rattle.host_core.specs.Steps.{group_of}
use Rattle.pair_kit.specs.Cues.{settings}
use Rattle.pair_kit.specs.Pairs.{PairValue}
use Rattle.pair_kit.specs.Worlds.{IsLinked}
use Rattle.pair_kit.specs.Paces.{written, is_whole, IsSilent, IsIdle, IsBusy, KeepsStep}
use Rattle.pair_kit.proofs.PaceAnswers.{due_version, due_value, due_final, value_of_setting, value_free, greets_in_step, settles_in_step, value_in_step}
use Rattle.pair_kit.proofs.PaceAsks.{untagged_line}
use Rattle.pair_kit.proofs.PaceEntries.{ChildInStep}
use Rattle.pair_kit.proofs.PaceGroups.{JournalInStep, Goes, child_grows}
use Rattle.pair_kit.proofs.PaceHeard.{HeardBusy, heard_silent, heard_idle, heard_busy}
use Rattle.pair_kit.proofs.PaceKits.{GoesOn, Finishes}
use Rattle.host_core.proofs.Noting.{unset as neither}
use Rattle.ann_key.proofs.Numbers.{same_number as same}

-- ---- nothing is set

-- a line that spells no setting sets nothing
got_unset : (o : Opening) (past : List Entry) (by c : ℕ) (line : List ℕ) (due : List Entry) (r : RemoteMessage) → may_come o past by (Got c line) ≡ true → HasNoLine due
    → is_tagged past c ≡ false → remote_reading line ≡ Some r → is_setting r ≡ false → settings_made past ≡ [] → settings_made (past ++ entry by (Got c line) ∷ due) ≡ []
got_unset o past by c line due r may none untagged reads plain unset =
    let e : Entry = entry by (Got c line) in
    let taken : Bool = is_open_job past c (addressed past c line).0 && not (ends_at c (length past) due) in
    let text : (addressed past c line).1 ≡ line = ap (λ (a : Option ℕ × List ℕ). a.1) (untagged_line past c line untagged) in
    let no_setting : if_setting (remote_reading (addressed past c line).1) ≡ None =
    ap (λ (l : List ℕ). if_setting (remote_reading l)) text ∙ ap if_setting reads ∙ ap (λ (b : Bool). cond {A = Option RemoteMessage} b (Some r) None) plain in
    let nothing : setting_of past (Got c line) due ≡ None = ap (λ (s : Option RemoteMessage). cond {A = Option RemoteMessage} taken s None) no_setting ∙ neither taken in
    settings-append past (e ∷ due) (λ d p. come_names_none o past d by (Got c line) due may p)
    ∙ ap (λ (ms : List RemoteMessage). settings_made past ++ ms)
    (ap (λ (s : Option RemoteMessage). cons_option s (settings_from (past ++ e ∷ []) due)) nothing ∙ settings_from-none (past ++ e ∷ []) due none)
    ∙ append-nil (settings_made past) ∙ unset

-- ---- a line of a live child

module _ (o : Opening) (past : List Entry) (c : ℕ) (p : PairValue) (legal : Legal o past) (h : JournalInStep o past) (linked : IsLinked past c p) (whole : list_all is_whole p.taken ≡ true)
    (may : may_come o past 0 (Got c (first_line p.at_host)) ≡ true) (end : has_newline p.at_host ≡ true) where
  abbrev line : List ℕ
  line = first_line p.at_host

  child : ChildInStep past c
  child = h.children c

  live : is_live past c ≡ true
  live = (both (is_live past c) (not (has_newline line)) (both (is_live past c && not (has_newline line)) (not (is_full past)) may).0).0

  -- what the line makes due is known
  by_due : (ws : List What) → due_by_got o past c line ≡ ws → Goes o past (entry 0 (Got c line) ∷ made_by 0 ws) → Goes o past (group_of o past 0 (Got c line))
  by_due ws due g = subst (λ (xs : List What). Goes o past (entry 0 (Got c line) ∷ made_by 0 xs)) (sym due) g

  hears_version : KeepsStep past c → IsSilent past c → Goes o past (group_of o past 0 (Got c line))
  hears_version k silent =
      let reads : remote_reading line ≡ Some (Version 1) = ap remote_reading (heard_silent o past c p legal child.expected linked whole silent end) in
      by_due [] (due_version o past c line k.untagged silent.got reads)
      (child_grows o past 0 (Got c line) [] c legal h may (λ d apart. (rw apart refl)) (got_unset o past 0 c line [] (Version 1) may refl k.untagged reads refl h.unset)
      (greets_in_step past 0 c line ((invariant o past legal).placed c) silent k.untagged child) refl)

  hears_busy : KeepsStep past c → (b : IsBusy past c) → HeardBusy past c p b.request line → Goes o past (group_of o past 0 (Got c line))
  hears_busy k b x = go x.next
    where
      fine : (is_error (Some x.reply) ≡ false) × (is_setting x.reply ≡ false) × (names_async (Some x.reply) ≡ false)
      fine =
          let t = and_parts (not (is_error (Some x.reply))) (not (is_setting x.reply) && not (names_async (Some x.reply))) x.fine in
          let u = and_parts (not (is_setting x.reply)) (not (names_async (Some x.reply))) t.1 in
          (not-true (is_error (Some x.reply)) t.0, not-true (is_setting x.reply) u.0, not-true (names_async (Some x.reply)) u.1)

      go : GoesOn x.reply (stage_of settings (written past c)) ⊎ Finishes b.request x.reply (stage_of settings (written past c)) → Goes o past (group_of o past 0 (Got c line))
      go (inl on) =
          let value = value_of_setting o past in
          let w : What = Put c b.job (host_line (Value value)) in
          by_due (w ∷ []) (due_value o past c line b x.reply k.untagged x.spells on.is)
          (child_grows o past 0 (Got c line) (entry 0 w ∷ []) c legal h may (λ d apart. (rw apart refl)) (got_unset o past 0 c line (entry 0 w ∷ []) x.reply may refl k.untagged x.spells fine.1 h.unset)
          (value_in_step past 0 c line value b x.reply ((invariant o past legal).placed c) k.untagged x.spells (ap is_aside on.is) on.busy (value_free o past h.kept h.unset) child) refl)
      go (inr fin) =
          let w : What = Settled c b.job (verdict_at fin.final (length past)) in
          let opened : is_open past c b.job ≡ true = ap (list_any (λ (j : ℕ). j == b.job)) b.open_job ∙ ap (λ (t : Bool). t || false) (same b.job) in
          by_due (w ∷ []) (due_final o past c line b x.reply fin.final k.untagged x.spells fine.0 fin.plain fin.settles)
          (child_grows o past 0 (Got c line) (entry 0 w ∷ []) c legal h may (λ d apart. (rw apart refl)) (got_unset o past 0 c line (entry 0 w ∷ []) x.reply may refl k.untagged x.spells fine.1 h.unset)
          (settles_in_step past 0 c line b fin.final ((invariant o past legal).placed c) k.untagged (settled_none past c b.job (open_unsettled past c b.job opened))
          (ap names_async x.spells ∙ fine.2) fin.free child) refl)

  pub hear_goes : Goes o past (group_of o past 0 (Got c (first_line p.at_host)))
  hear_goes = go (child.steps live) (child.steps live).turn
    where
      go : KeepsStep past c → IsSilent past c ⊎ (IsIdle past c ⊎ IsBusy past c) → Goes o past (group_of o past 0 (Got c (first_line p.at_host)))
      go k (inl silent) = hears_version k silent
      go k (inr (inl idle)) = heard_idle o past c p legal child.expected linked whole idle end
      go k (inr (inr busy)) = hears_busy k busy (heard_busy o past c p legal child.expected linked whole busy end)
