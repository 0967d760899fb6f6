-- What the roles promise, each of its own pass, is what a kit promises.
use Rattle.std.proofs.Common.{◌≡◌, ◌⊎◌, inl, inr, ℕ, ◌+◌, ◌<◌, List, [], ◌∷◌, ◌++◌, refl, sym, ap, subst, ◌∙◌, Bool, true, false, not, ◌&&◌, ◌||◌, codes, length, Some, None, Option, IfSome}
use Rattle.std.specs.Prelude.{option_map}
use Rattle.std.specs.List.{list_any, list_all}
use Rattle.annex_model.specs.Lines.{text, has_newline}
use Rattle.threads.specs.Log.{flat}
use Rattle.threads.specs.Passes.{HasClosed}
use Rattle.kit_serve.specs.declared.kit.call.Call.{Call}
use Rattle.kit_serve.specs.Limits.{longest_line, next_line}
use Rattle.kit_async_model.specs.declared.entry.Entry.{Entry}
use Rattle.kit_async_model.specs.declared.entry.Entry.TheVariants.{Say}
use Rattle.kit_async_model.specs.declared.setup.Setup.{Setup}
use Rattle.kit_async_model.specs.Callings.{calls_of}
use Rattle.kit_async_model.specs.Legality.{Legal, is_done, is_finished, is_lack, is_some_line, IsFinished}
use Rattle.kit_async_model.specs.Jobs.{is_awaiting}
use Rattle.kit_async_model.specs.Lines.{heard_lines}
use Rattle.kit_async_model.specs.Standings.{Standing, standing}
use Rattle.kit_async_model.specs.Events.{IsMadeBy, MayStep}
use Rattle.kit_async_core.specs.Halls.{KitHall, KitPass}
use Rattle.kit_async_core.proofs.KitHalls.{halls_stay_legal}
use Rattle.kit_async.specs.declared.work.why.Why.{Why as RoleWhy}
use Rattle.kit_async.specs.declared.work.why.Why.TheVariants.{Eof as RoleEof, ReadFault as RoleReadFault, Long, WriteFault as RoleWriteFault, Memory as RoleMemory}
use Rattle.kit_async.specs.Work.Calling.{HandValue}
use Rattle.kit_async.specs.Work.Reading.{EarValue, ReadingEnds}
use Rattle.kit_async.specs.Work.Writing.{MouthValue, IsFaltered, IsWritten, written_lines}
use Rattle.kit_async.proofs.WorkLemmas.Ends.{readers_end, workers_end, writers_end}
use Rattle.kit_async.specs.declared.why.Why.{Why}
use Rattle.kit_async.specs.declared.why.Why.TheVariants.{Eof, ReadFault, WriteFault, Bad, Memory}
use Rattle.kit_async.specs.Endings.{AllWorked, ReaderDid, WriterDid, calls_told, tells_of, why_by, why_stopped, why_read, why_rest}
use Rattle.kit_async.specs.Served.{Gained, IsEnd, IsWrittenBy, Serves}
use Rattle.std.proofs.lemmas.Bool.{and_parts as both}

-- ---- the begin

pub version_legal : (setup : Setup) (journal : List Entry) → journal ≡ Say 0 (codes "VERSION 1") ∷ [] → Legal setup journal
version_legal setup journal is = subst (Legal setup) (sym is) (record { follow = refl; told = refl })

-- ---- the remotes

gained : (h : KitHall) (passes : List KitPass) (final : List Entry) (fixed : Setup) (n : ℕ) (olds news : List HandValue) → HasClosed IsMadeBy MayStep h passes final fixed → h.start ≡ Say 0 (codes "VERSION 1") ∷ [] → AllWorked h passes n olds news
    → Gained h.fixed final n (calls_told olds) (calls_told news)
gained h passes final fixed n [] [] closed begins all = tt
gained h passes final fixed n [] (b ∷ news) closed begins all = absurd all
gained h passes final fixed n (a ∷ olds) [] closed begins all = absurd all
gained h passes final fixed n (a ∷ olds) (b ∷ news) closed begins all = (
  workers_end h passes final fixed all.0.begun all.0.pass n a b closed all.0.among all.0.ran (ap (calls_of h.fixed n) begins),
  gained h passes final fixed (n + 1) olds news closed begins all.1,
)

-- ---- what was written

rest_written : (read : Option RoleWhy) (finished over lacks : Bool) (journal : List Entry) (bytes : List ℕ) → bytes ≡ text (written_lines journal)
    → IsWrittenBy (why_rest read finished over lacks) journal bytes
rest_written read false over lacks journal bytes e = e
rest_written read true true true journal bytes e = e
rest_written read true true false journal bytes e = e
rest_written None true false lacks journal bytes e = e
rest_written (Some RoleEof) true false lacks journal bytes e = e
rest_written (Some RoleReadFault) true false lacks journal bytes e = e
rest_written (Some Long) true false lacks journal bytes e = e
rest_written (Some RoleWriteFault) true false lacks journal bytes e = e
rest_written (Some RoleMemory) true false lacks journal bytes e = e

written : (read wrote : Option RoleWhy) (finished over lacks : Bool) (journal : List Entry) (bytes : List ℕ) → IsWritten wrote journal bytes
    → IsWrittenBy (why_by read wrote finished over lacks) journal bytes
written read None finished over lacks journal bytes e = rest_written read finished over lacks journal bytes e
written read (Some RoleEof) finished over lacks journal bytes e = rest_written read finished over lacks journal bytes e
written read (Some RoleReadFault) finished over lacks journal bytes e = rest_written read finished over lacks journal bytes e
written read (Some Long) finished over lacks journal bytes e = rest_written read finished over lacks journal bytes e
written read (Some RoleWriteFault) finished over lacks journal bytes e = e
written read (Some RoleMemory) finished over lacks journal bytes e = rest_written read finished over lacks journal bytes e

-- ---- how it stands

no_line : (lines : List (List ℕ)) → not (is_some_line lines) ≡ true → lines ≡ []
no_line [] h = refl
no_line (line ∷ lines) h = absurd cc

finished_is : (setup : Setup) (s : Standing) → is_finished setup s ≡ true → IsFinished setup s
finished_is setup s h = let b = both (is_done setup s) (not (is_some_line s.unwritten)) h in record { done = b.0; written = no_line s.unwritten b.1 }

-- it hears no more, where all is done and no line ended it
closed_by : (over closed all : Bool) → (over || (closed && all)) ≡ true → over ≡ false → closed ≡ true
closed_by true closed all h o = absurd cc
closed_by false true all h o = refl
closed_by false false all h o = absurd cc

module _ (setup : Setup) (journal : List Entry) (f : EarValue) where
  abbrev s : Standing
  s = standing setup journal

  read_ended : (read : Option RoleWhy) → IsFinished setup s → s.over ≡ false → s.closed ≡ true → ReadingEnds read f → IsEnd (why_read read) setup journal f.held f.left
  read_ended None k o c r = tt
  read_ended (Some RoleEof) k o c r = (k, o, c, r.0, r.1)
  read_ended (Some RoleReadFault) k o c r = (k, o, c, r)
  read_ended (Some Long) k o c r = (k, inr (o, c, r))
  read_ended (Some RoleWriteFault) k o c r = tt
  read_ended (Some RoleMemory) k o c r = tt

  rest_ended : (read : Option RoleWhy) (finished over lacks : Bool) → is_finished setup s ≡ finished → s.over ≡ over → list_any is_lack journal ≡ lacks → ReadingEnds read f
      → IsEnd (why_rest read finished over lacks) setup journal f.held f.left
  rest_ended read false over lacks k o l r = tt
  rest_ended read true true true k o l r = tt
  rest_ended read true true false k o l r = (finished_is setup s k, inl (o, l))
  rest_ended read true false lacks k o l r =
      let all = finished_is setup s k in
      read_ended read all o (closed_by s.over s.closed (list_all (is_awaiting setup) s.jobs) all.done o) r

  ended : (read wrote : Option RoleWhy) (finished over lacks : Bool) → is_finished setup s ≡ finished → s.over ≡ over → list_any is_lack journal ≡ lacks → ReadingEnds read f
      → IsEnd (why_by read wrote finished over lacks) setup journal f.held f.left
  ended read None finished over lacks k o l r = rest_ended read finished over lacks k o l r
  ended read (Some RoleEof) finished over lacks k o l r = rest_ended read finished over lacks k o l r
  ended read (Some RoleReadFault) finished over lacks k o l r = rest_ended read finished over lacks k o l r
  ended read (Some Long) finished over lacks k o l r = rest_ended read finished over lacks k o l r
  ended read (Some RoleWriteFault) finished over lacks k o l r = tt
  ended read (Some RoleMemory) finished over lacks k o l r = rest_ended read finished over lacks k o l r

-- ---- all

pub roles_serve : (h : KitHall) (passes : List KitPass) (final : List Entry) (fixed : Setup) (e f : EarValue) (m w : MouthValue) (olds news : List HandValue) (read wrote : Option RoleWhy)
    → HasClosed IsMadeBy MayStep h passes final fixed → h.start ≡ Say 0 (codes "VERSION 1") ∷ [] → e.held ≡ [] → ReaderDid h passes e f read → WriterDid h passes m w wrote → AllWorked h passes 0 olds news
    → Serves h.fixed (tells_of e m olds) (tells_of f w news) (record { entries = final; why = why_stopped h.fixed final read wrote })
roles_serve h passes final fixed e f m w olds news read wrote closed begins empty r x all =
    let legal = (halls_stay_legal h passes final fixed closed (version_legal h.fixed h.start begins)).0 in
    let reads = readers_end h passes final fixed r.begun r.pass e f read closed r.among r.ran (ap heard_lines begins) empty in
    let writes = writers_end h passes final fixed x.begun x.pass m w wrote closed x.among x.ran (ap written_lines begins) in
    let s : Standing = standing h.fixed final in
    record {
      given = reads.bytes;
      taken = writes.bytes;
      rest = f.held;
      legal = legal.follow;
      begins = λ _. (flat closed.log, closed.is ∙ ap (λ (start : List Entry). start ++ flat closed.log) begins);
      told = λ _. legal.told;
      gave = (reads.gave, reads.silent);
      cut = reads.cut;
      short = reads.short;
      took = (writes.took, writes.silent);
      written = written read wrote (is_finished h.fixed s) s.over (list_any is_lack final) final writes.bytes writes.written;
      gained = gained h passes final fixed 0 olds news closed begins all;
      ended = ended h.fixed final f read wrote (is_finished h.fixed s) s.over (list_any is_lack final) refl refl refl r.ran.ends;
    }
