-- What a role did, of the journal at the end.
use Rattle.std.proofs.Common.{◌≡◌, ℕ, ◌+◌, List, [], ◌∷◌, ◌++◌, refl, sym, ap, subst, ◌∙◌, append-nil, take, Some, None, Option, IsTrue}
use Rattle.std.specs.Prelude.{option_map}
use Rattle.std.specs.List.{list_all}
use Rattle.annex_model.specs.Lines.{text, Cut}
use Rattle.threads.specs.Log.{flat, NotBy}
use Rattle.threads.specs.Passes.{HasClosed, seen_of}
use Rattle.kit_serve.specs.declared.kit.call.Call.{Call}
use Rattle.kit_serve.specs.Limits.{is_short}
use Rattle.kit_async_model.specs.declared.entry.Entry.{Entry}
use Rattle.kit_async_model.specs.declared.setup.Setup.{Setup}
use Rattle.kit_async_model.specs.Callings.{calls_of}
use Rattle.kit_async_model.specs.Events.{IsMadeBy, MayStep}
use Rattle.kit_async_model.specs.Lines.{heard_lines}
use Rattle.kit_async_core.specs.Halls.{KitHall, KitPass}
use Rattle.kit_async_core.proofs.Closings.{Outgrown, final_heard, outgrown}
use Rattle.kit_async_core.proofs.Lasting.{uncalled_log}
use Rattle.kit_async.specs.declared.work.why.Why.{Why}
use Rattle.kit_async.specs.declared.work.why.Why.TheVariants.{Eof, ReadFault, Long, WriteFault, Memory}
use Rattle.kit_async.specs.Work.Calling.{HandValue, Works, WorkerRan}
use Rattle.kit_async.specs.Work.Ends.{IsAmong}
use Rattle.kit_async.specs.Work.Reading.{EarValue, Reads, ReaderRan}
use Rattle.kit_async.specs.Work.Writing.{MouthValue, IsFaltered, IsNextLine, IsWritten, Writes, WriterRan, written_lines}
use Rattle.kit_async.proofs.WorkLemmas.Writers.{next_stays, none_log, written_stays}
use Rattle.ann_key.proofs.Lists.{appends_nothing}

-- ---- the reader

nothing_read : (journal : List Entry) (e : EarValue) → heard_lines journal ≡ [] → e.held ≡ [] → Reads e.given journal e
nothing_read journal e none empty = record {
  bytes = [];
  gave = appends_nothing e.given;
  silent = λ untold. untold;
  cut = subst (λ (held : List ℕ). Cut [] (heard_lines journal) held) (sym empty) (subst (λ (ls : List (List ℕ)). Cut [] ls []) (sym none) (record { whole = refl; apart = refl }));
  short = ap (λ (ls : List (List ℕ)). list_all is_short ls) none;
}

pub readers_end : (h : KitHall) (passes : List KitPass) (final : List Entry) (fixed : Setup) (begun p : KitPass) (e f : EarValue) (why : Option Why) → HasClosed IsMadeBy MayStep h passes final fixed → IsAmong h passes begun p
    → ReaderRan h begun p e f why → heard_lines h.start ≡ [] → e.held ≡ [] → Reads e.given final f
readers_end h passes final fixed begun p e f why closed k ran none empty =
    let same : heard_lines final ≡ heard_lines (seen_of p) = final_heard h passes final fixed k.place p closed k.there ran.stands.pass ran.stands.number_is in
    let r = ran.reads e.given (nothing_read (seen_of begun) e (ap heard_lines k.fresh ∙ none) empty) in
    record {
      bytes = r.bytes;
      gave = r.gave;
      silent = r.silent;
      cut = subst (λ (ls : List (List ℕ)). Cut r.bytes ls f.held) (sym same) r.cut;
      short = ap (λ (ls : List (List ℕ)). list_all is_short ls) same ∙ r.short;
    }

-- ---- the writer

nothing_written : (journal : List Entry) (m : MouthValue) → written_lines journal ≡ [] → Writes m.taken None journal m
nothing_written journal m none = record { bytes = []; took = appends_nothing m.taken; silent = λ untold. untold; written = sym (ap text none) }

faltered_on : (past final : List Entry) (bytes : List ℕ) → written_lines final ≡ written_lines past → ((line : List ℕ) → IsNextLine past line → IsNextLine final line) → IsFaltered past bytes
    → IsFaltered final bytes
faltered_on past final bytes same next f = record {
  line = f.line;
  n = f.n;
  next = next f.line f.next;
  are = f.are ∙ ap (λ (ls : List (List ℕ)). text ls ++ take f.n (f.line ++ 10 ∷ [])) (sym same);
}

written_on : (why : Option Why) (past final : List Entry) (bytes : List ℕ) → written_lines final ≡ written_lines past → ((line : List ℕ) → IsNextLine past line → IsNextLine final line)
    → IsWritten why past bytes → IsWritten why final bytes
written_on None past final bytes same next e = e ∙ ap text (sym same)
written_on (Some Eof) past final bytes same next e = e ∙ ap text (sym same)
written_on (Some ReadFault) past final bytes same next e = e ∙ ap text (sym same)
written_on (Some Long) past final bytes same next e = e ∙ ap text (sym same)
written_on (Some WriteFault) past final bytes same next e = faltered_on past final bytes same next e
written_on (Some Memory) past final bytes same next e = e ∙ ap text (sym same)

pub writers_end : (h : KitHall) (passes : List KitPass) (final : List Entry) (fixed : Setup) (begun p : KitPass) (m w : MouthValue) (why : Option Why) → HasClosed IsMadeBy MayStep h passes final fixed → IsAmong h passes begun p
    → WriterRan h begun p m w why → written_lines h.start ≡ [] → Writes m.taken why final w
writers_end h passes final fixed begun p m w why closed k ran none =
    let o = outgrown h passes final fixed k.place p closed k.there ran.stands.pass in
    let others = none_log h.fixed (seen_of p) o.more o.legal (subst (λ (n : ℕ). NotBy n o.more) ran.stands.number_is o.others) in
    let r = ran.writes m.taken (nothing_written (seen_of begun) m (ap written_lines k.fresh ∙ none)) in
    record {
      bytes = r.bytes;
      took = r.took;
      silent = r.silent;
      written =
          written_on why (seen_of p) final r.bytes (ap written_lines o.whole ∙ written_stays h.fixed (seen_of p) (flat o.more) ran.stands.legal.follow others)
          (λ line next. subst (λ (j : List Entry). IsNextLine j line) (sym o.whole) (next_stays (seen_of p) (flat o.more) line others next)) r.written;
    }

-- ---- who calls a remote

pub as_it_was : (calls : Option (List Call)) → calls ≡ option_map (λ (told : List Call). told ++ []) calls
as_it_was None = refl
as_it_was (Some told) = ap (λ (cs : List Call). Some cs) (sym (append-nil told))

pub workers_end : (h : KitHall) (passes : List KitPass) (final : List Entry) (fixed : Setup) (begun p : KitPass) (remote : ℕ) (a b : HandValue) → HasClosed IsMadeBy MayStep h passes final fixed → IsAmong h passes begun p
    → WorkerRan h remote begun p a b → calls_of h.fixed remote h.start ≡ [] → Works a.calls h.fixed remote final b
workers_end h passes final fixed begun p remote a b closed k ran none =
    let o = outgrown h passes final fixed k.place p closed k.there ran.stands.pass in
    let same = uncalled_log h.fixed remote (seen_of p) o.more o.legal (subst (λ (n : ℕ). NotBy n o.more) ran.stands.number_is o.others) in
    let uncalled : calls_of h.fixed remote (seen_of begun) ≡ [] = ap (calls_of h.fixed remote) k.fresh ∙ none in
    ran.works a.calls (as_it_was a.calls ∙ ap (λ (cs : List Call). option_map (λ (told : List Call). told ++ cs) a.calls) (sym uncalled))
    ∙ ap (λ (cs : List Call). option_map (λ (told : List Call). told ++ cs) a.calls) (sym same ∙ sym (ap (calls_of h.fixed remote) o.whole))
