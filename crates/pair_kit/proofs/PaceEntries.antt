-- Entries that don't touch a child leave it in step.
use Rattle.std.proofs.Common.{ℕ, ◌≡◌, ◌+◌, ◌==◌, ◌⊎◌, inl, inr, Bool, true, false, not, List, [], ◌∷◌, ◌++◌, length, map, filter, filter_map, Option, None, refl, sym, ap, ◌∙◌, append-nil}
use Rattle.std.specs.Prelude.{◌&&◌, ◌||◌}
use Rattle.std.specs.List.{list_all}
use Rattle.std.proofs.lemmas.Bool.{or_parts}
use Rattle.annex_model.specs.Messages.{HostMessage, host_reading}
use Rattle.annex_model.specs.Talks.{Item, said}
use Rattle.annex_model.specs.Hearings.{request_in}
use Rattle.journal_model.specs.declared.entry.What.{What}
use Rattle.journal_model.specs.declared.entry.What.TheVariants.{Start, Lead, Ask, Put, Mute, Got, End, Verdict as Settled}
use Rattle.journal_model.specs.declared.entry.Entry.{Entry}
use Rattle.journal_model.specs.Journal.{any, each_of, first_of, starts, ends, mutes, settles, offers, asks, writes, line_from, got_lines, asked_jobs, open_jobs, is_settled, is_started, is_ended, is_mute, is_live, is_tagged, verdict_of}
use Rattle.journal_model.specs.Parts.{part, part_from}
use Rattle.journal_model.proofs.Looks.{entry, any-append, each_of-append}
use Rattle.journal_model.proofs.PartsGrow.{NamesNoLine, part_from-append}
use Rattle.journal_model.proofs.Replying.{IsPlaced, tag_kept}
use Rattle.kit_serve.specs.Kit.Kits.{is_over, request_of as request_of_messages}
use Rattle.kit_serve.specs.Kit.Stages.{stage_of}
use Rattle.pair_kit.specs.Cues.{settings}
use Rattle.pair_kit.specs.Answered.{line_for, request_of}
use Rattle.pair_kit.specs.Paces.{written_lines, written, replies_to, is_message_line, IsExpected, IsSilent, IsIdle, IsBusy, KeepsStep}
use Rattle.ann_key.proofs.Lists.{filter_alike}
use Rattle.ann_key.proofs.Booleans.{or_false}

-- ---- one child of a journal

-- a child is as it should be
pub record ChildInStep (journal : List Entry) (c : ℕ) : Type 0 where
  pub unmuted : is_mute journal c ≡ false
  pub expected : IsExpected journal c
  pub steps : is_live journal c ≡ true → KeepsStep journal c

-- what a journal says of a child is what an earlier one said
pub record SameChild (past now : List Entry) (c : ℕ) : Type 0 where
  pub gots : got_lines now c ≡ got_lines past c
  pub lines : written_lines now c ≡ written_lines past c
  pub asked : asked_jobs now c ≡ asked_jobs past c
  pub opened : open_jobs now c ≡ open_jobs past c
  pub tagged : is_tagged now c ≡ is_tagged past c
  pub muted : is_mute now c ≡ is_mute past c
  pub live : is_live now c ≡ is_live past c
  pub requests : (j : ℕ) → request_of now c j ≡ request_of past c j
  pub parts : (j : ℕ) → part now c j ≡ part past c j

pub expected_same : (past now : List Entry) (c : ℕ) → written_lines now c ≡ written_lines past c → IsExpected past c → IsExpected now c
expected_same past now c same x = record {
  lines = ap (list_all is_message_line) same ∙ x.lines;
  expected = ap (λ (ls : List (List ℕ)). is_over settings (filter_map host_reading ls)) same ∙ x.expected;
}

silent_same : (past now : List Entry) (c : ℕ) → SameChild past now c → IsSilent past c → IsSilent now c
silent_same past now c s h = record { got = s.gots ∙ h.got; written = s.lines ∙ h.written; asked = s.asked ∙ h.asked }

written_same : (past now : List Entry) (c : ℕ) → SameChild past now c → written now c ≡ written past c
written_same past now c s = ap (filter_map host_reading) s.lines

idle_same : (past now : List Entry) (c : ℕ) → SameChild past now c → IsIdle past c → IsIdle now c
idle_same past now c s h = record {
  got = ap (λ (ls : List (List ℕ)). length ls) s.gots ∙ h.got ∙ ap (λ (ms : List HostMessage). 1 + replies_to ms) (sym (written_same past now c s));
  none_open = s.opened ∙ h.none_open;
  stage = ap (stage_of settings) (written_same past now c s) ∙ h.stage;
}

busy_same : (past now : List Entry) (c : ℕ) → SameChild past now c → IsBusy past c → IsBusy now c
busy_same past now c s h = record {
  job = h.job;
  line = h.line;
  request = h.request;
  open_job = s.opened ∙ h.open_job;
  last = h.last ∙ ap (λ (ks : List ℕ). length ks) (sym s.asked);
  got = ap (λ (ls : List (List ℕ)). length ls) s.gots ∙ h.got ∙ ap replies_to (sym (written_same past now c s));
  asked = s.requests h.job ∙ h.asked;
  spelled = h.spelled;
  asking = ap request_in (s.parts h.job) ∙ h.asking;
  current = ap request_of_messages (written_same past now c s) ∙ h.current;
  earlier = h.earlier;
  message = h.message;
  ends = written_same past now c s ∙ h.ends;
  answerable = h.answerable;
  nothing_said = ap said (s.parts h.job) ∙ h.nothing_said;
}

keeps_same : (past now : List Entry) (c : ℕ) → SameChild past now c → KeepsStep past c → KeepsStep now c
keeps_same past now c s h = record { untagged = s.tagged ∙ h.untagged; turn = go h.turn }
  where
    go : IsSilent past c ⊎ (IsIdle past c ⊎ IsBusy past c) → IsSilent now c ⊎ (IsIdle now c ⊎ IsBusy now c)
    go (inl x) = inl (silent_same past now c s x)
    go (inr (inl x)) = inr (inl (idle_same past now c s x))
    go (inr (inr x)) = inr (inr (busy_same past now c s x))

pub child_same : (past now : List Entry) (c : ℕ) → SameChild past now c → ChildInStep past c → ChildInStep now c
child_same past now c s h = record {
  unmuted = s.muted ∙ h.unmuted;
  expected = expected_same past now c s.lines h.expected;
  steps = λ live. keeps_same past now c s (h.steps (sym s.live ∙ live));
}

-- ---- a stretch without the child

-- the entry is about the child, and more than that a line to it is sent
abbrev pub touches : ℕ → What → Bool
touches c (Start child slot offer) = child == c
touches c (Lead child job line) = child == c
touches c (Ask child job task line) = child == c
touches c (Put child job line) = child == c
touches c (Mute child) = child == c
touches c (Got child line) = child == c
touches c (End child why) = child == c
touches c (Settled child job verdict) = child == c
touches c w = false

pub record Apart (c : ℕ) (more : List Entry) : Type 0 where
  pub gots : got_lines more c ≡ []
  pub writes : each_of (writes c) more ≡ []
  pub asked : asked_jobs more c ≡ []
  pub settled : (j : ℕ) → is_settled more c j ≡ false
  pub verdicts : (j : ℕ) → verdict_of more c j ≡ None
  pub offered : any (offers c) more ≡ false
  pub started : is_started more c ≡ false
  pub ended : is_ended more c ≡ false
  pub muted : is_mute more c ≡ false
  pub requests : (j : ℕ) → each_of (line_for c j) more ≡ []
  pub parts : (j : ℕ) (past : List Entry) → part_from c j past more ≡ []

pub apart : (c : ℕ) (more : List Entry) → any (touches c) more ≡ false → Apart c more
apart c [] h = record {
  gots = refl;
  writes = refl;
  asked = refl;
  settled = λ j. refl;
  verdicts = λ j. refl;
  offered = refl;
  started = refl;
  ended = refl;
  muted = refl;
  requests = λ j. refl;
  parts = λ j past. refl;
}
apart c (e ∷ more) h =
    let t = or_parts (touches c e.what) (any (touches c) more) h in
    step e.by e.what t.0 (apart c more t.1)
  where
    step : (by : ℕ) (w : What) → touches c w ≡ false → Apart c more → Apart c (entry by w ∷ more)
    step by (Start child slot offer) n r = record {
      gots = r.gots;
      writes = r.writes;
      asked = r.asked;
      settled = r.settled;
      verdicts = r.verdicts;
      offered = rw n r.offered;
      started = rw n r.started;
      ended = r.ended;
      muted = r.muted;
      requests = r.requests;
      parts = λ j past. r.parts j (past ++ entry by (Start child slot offer) ∷ []);
    }
    step by (Lead child job line) n r = record {
      gots = r.gots;
      writes = rw n r.writes;
      asked = r.asked;
      settled = r.settled;
      verdicts = r.verdicts;
      offered = r.offered;
      started = r.started;
      ended = r.ended;
      muted = r.muted;
      requests = r.requests;
      parts = λ j past. (rw n (r.parts j (past ++ entry by (Lead child job line) ∷ [])));
    }
    step by (Ask child job task line) n r = record {
      gots = r.gots;
      writes = rw n r.writes;
      asked = rw n r.asked;
      settled = r.settled;
      verdicts = r.verdicts;
      offered = r.offered;
      started = r.started;
      ended = r.ended;
      muted = r.muted;
      requests = λ j. (rw n (r.requests j));
      parts = λ j past. (rw n (r.parts j (past ++ entry by (Ask child job task line) ∷ [])));
    }
    step by (Put child job line) n r = record {
      gots = r.gots;
      writes = rw n r.writes;
      asked = r.asked;
      settled = r.settled;
      verdicts = r.verdicts;
      offered = r.offered;
      started = r.started;
      ended = r.ended;
      muted = r.muted;
      requests = r.requests;
      parts = λ j past. (rw n (r.parts j (past ++ entry by (Put child job line) ∷ [])));
    }
    step by (Mute child) n r = record {
      gots = r.gots;
      writes = r.writes;
      asked = r.asked;
      settled = r.settled;
      verdicts = r.verdicts;
      offered = r.offered;
      started = r.started;
      ended = r.ended;
      muted = rw n r.muted;
      requests = r.requests;
      parts = λ j past. r.parts j (past ++ entry by (Mute child) ∷ []);
    }
    step by (Got child line) n r = record {
      gots = rw n r.gots;
      writes = r.writes;
      asked = r.asked;
      settled = r.settled;
      verdicts = r.verdicts;
      offered = r.offered;
      started = r.started;
      ended = r.ended;
      muted = r.muted;
      requests = r.requests;
      parts = λ j past. (rw n (r.parts j (past ++ entry by (Got child line) ∷ [])));
    }
    step by (End child why) n r = record {
      gots = r.gots;
      writes = r.writes;
      asked = r.asked;
      settled = r.settled;
      verdicts = r.verdicts;
      offered = r.offered;
      started = r.started;
      ended = rw n r.ended;
      muted = r.muted;
      requests = r.requests;
      parts = λ j past. r.parts j (past ++ entry by (End child why) ∷ []);
    }
    step by (Settled child job verdict) n r = record {
      gots = r.gots;
      writes = r.writes;
      asked = r.asked;
      settled = λ j. (rw n (r.settled j));
      verdicts = λ j. (rw n (r.verdicts j));
      offered = r.offered;
      started = r.started;
      ended = r.ended;
      muted = r.muted;
      requests = r.requests;
      parts = λ j past. r.parts j (past ++ entry by (Settled child job verdict) ∷ []);
    }
    step by w n r = record {
      gots = r.gots;
      writes = r.writes;
      asked = r.asked;
      settled = r.settled;
      verdicts = r.verdicts;
      offered = r.offered;
      started = r.started;
      ended = r.ended;
      muted = r.muted;
      requests = r.requests;
      parts = λ j past. r.parts j (past ++ entry by w ∷ []);
    }

-- ---- what stays

pub any_same : (p : What → Bool) (past more : List Entry) → any p more ≡ false → any p (past ++ more) ≡ any p past
any_same p past more none = any-append p past more ∙ ap (λ (b : Bool). any p past || b) none ∙ or_false (any p past)

pub each_same : {X : Type 0} (f : What → Option X) (past more : List Entry) → each_of f more ≡ [] → each_of f (past ++ more) ≡ each_of f past
each_same {X = X} f past more none =
    each_of-append f past more ∙ ap (λ (xs : List X). each_of f past ++ xs) none ∙ append-nil (each_of f past)

pub open_same : (past more : List Entry) (c : ℕ) → asked_jobs more c ≡ [] → ((j : ℕ) → is_settled more c j ≡ false) → open_jobs (past ++ more) c ≡ open_jobs past c
open_same past more c asked settled =
    ap (filter (λ (j : ℕ). not (is_settled (past ++ more) c j))) (each_same (asks c) past more asked)
    ∙ filter_alike (λ (j : ℕ). not (is_settled (past ++ more) c j)) (λ (j : ℕ). not (is_settled past c j)) (λ j. ap not (any_same (settles c j) past more (settled j))) (asked_jobs past c)

pub part_same : (past more : List Entry) (c j : ℕ) → NamesNoLine c more → part_from c j past more ≡ [] → part (past ++ more) c j ≡ part past c j
part_same past more c j names none =
    part_from-append c j [] past more names ∙ ap (λ (is : List Item). part past c j ++ is) none ∙ append-nil (part past c j)

pub live_same : (past more : List Entry) (c : ℕ) → is_started more c ≡ false → is_ended more c ≡ false → is_live (past ++ more) c ≡ is_live past c
live_same past more c started ended =
    ap (λ (b : Bool). b && not (is_ended (past ++ more) c)) (any_same (starts c) past more started)
    ∙ ap (λ (b : Bool). is_started past c && not b) (any_same (ends c) past more ended)

pub apart_same : (past more : List Entry) (c : ℕ) → IsPlaced past c → NamesNoLine c more → Apart c more → SameChild past (past ++ more) c
apart_same past more c placed names a = record {
  gots = each_same (line_from c) past more a.gots;
  lines = ap (map (λ (w : Option ℕ × List ℕ). w.1)) (each_same (writes c) past more a.writes);
  asked = each_same (asks c) past more a.asked;
  opened = open_same past more c a.asked a.settled;
  tagged = tag_kept past more c placed a.offered (a.verdicts 0);
  muted = any_same (mutes c) past more a.muted;
  live = live_same past more c a.started a.ended;
  requests = λ j. ap first_of (each_same (line_for c j) past more (a.requests j));
  parts = λ j. part_same past more c j names (a.parts j past);
}

-- a child that the stretch doesn't touch stays in step
pub stays_in_step : (past more : List Entry) (c : ℕ) → IsPlaced past c → NamesNoLine c more → any (touches c) more ≡ false → ChildInStep past c → ChildInStep (past ++ more) c
stays_in_step past more c placed names none h = child_same past (past ++ more) c (apart_same past more c placed names (apart c more none)) h
