-- What a kit that was served, or wasn't, keeps of its contract.
use Rattle.std.proofs.Common.{◌≡◌, ℕ, ◌+◌, ◌<◌, List, [], ◌∷◌, map, refl, sym, ap, subst, ◌∙◌, Bool, true, false, codes, length, Some, None, Option, get_or, arith}
use Rattle.std.specs.List.{list_any}
use Rattle.ann_outside.specs.Causes.{Rose}
use Rattle.ann_outside.specs.Told.{SinkTold, SourceTold}
use Rattle.threads.specs.Passes.{HasClosed}
use Rattle.threads.proofs.RolesLemmas.Dealing.{map_map}
use Rattle.kit_serve.specs.declared.kit.call.Call.{Call}
use Rattle.kit_async_model.specs.declared.entry.Entry.{Entry}
use Rattle.kit_async_model.specs.declared.entry.Entry.TheVariants.{Say}
use Rattle.kit_async_model.specs.declared.setup.Setup.{Setup}
use Rattle.kit_async_model.specs.Events.{IsMadeBy, MayStep}
use Rattle.kit_async_model.specs.Legality.{is_finished, is_lack}
use Rattle.kit_async_model.specs.Standings.{Standing, standing}
use Rattle.kit_async_core.specs.Halls.{KitHall, KitPass}
use Rattle.kit_async.specs.declared.work.why.Why.{Why as RoleWhy}
use Rattle.kit_async.specs.declared.work.why.Why.TheVariants.{Eof as RoleEof, ReadFault as RoleReadFault, Long, WriteFault as RoleWriteFault, Memory as RoleMemory}
use Rattle.kit_async.specs.Work.Calling.{HandValue, hand_of}
use Rattle.kit_async.specs.Work.Reading.{ear_of}
use Rattle.kit_async.specs.Work.Writing.{mouth_of}
use Rattle.kit_async.specs.declared.why.Why.{Why}
use Rattle.kit_async.specs.declared.why.Why.TheVariants.{Eof, ReadFault, WriteFault, Bad, Memory}
use Rattle.kit_async.specs.Endings.{AllWorked, ReaderDid, WriterDid, calls_told, why_by, why_read, why_rest, why_stopped}
use Rattle.kit_async.specs.Served.{Gained, HasCauses, JournalValue, Serves, Tells, tells_by}
use Rattle.kit_async.proofs.Gathered.{roles_serve}
use Rattle.kit_async.proofs.WorkLemmas.Ends.{as_it_was as no_calls}
use Rattle.ann_key.proofs.Lists.{appends_nothing}

-- ---- why it stopped, by why its roles ended

rest_read : (t : Why) → (Memory ≡ t → ⊥) → (Bad ≡ t → ⊥) → (read : Option RoleWhy) (finished over lacks : Bool) → why_rest read finished over lacks ≡ t → why_read read ≡ t
rest_read t m b read false over lacks e = absurd (m e)
rest_read t m b read true true true e = absurd (m e)
rest_read t m b read true true false e = absurd (b e)
rest_read t m b read true false lacks e = e

by_read : (t : Why) → (Memory ≡ t → ⊥) → (Bad ≡ t → ⊥) → (WriteFault ≡ t → ⊥) → (read wrote : Option RoleWhy) (finished over lacks : Bool)
    → why_by read wrote finished over lacks ≡ t → why_read read ≡ t
by_read t m b w read None finished over lacks e = rest_read t m b read finished over lacks e
by_read t m b w read (Some RoleEof) finished over lacks e = rest_read t m b read finished over lacks e
by_read t m b w read (Some RoleReadFault) finished over lacks e = rest_read t m b read finished over lacks e
by_read t m b w read (Some Long) finished over lacks e = rest_read t m b read finished over lacks e
by_read t m b w read (Some RoleWriteFault) finished over lacks e = absurd (w e)
by_read t m b w read (Some RoleMemory) finished over lacks e = rest_read t m b read finished over lacks e

fault_read : (read : Option RoleWhy) → why_read read ≡ ReadFault → read ≡ Some RoleReadFault
fault_read None e = absurd cc
fault_read (Some RoleEof) e = absurd cc
fault_read (Some RoleReadFault) e = refl
fault_read (Some Long) e = absurd cc
fault_read (Some RoleWriteFault) e = absurd cc
fault_read (Some RoleMemory) e = absurd cc

eof_read : (read : Option RoleWhy) → why_read read ≡ Eof → read ≡ Some RoleReadFault → ⊥
eof_read read e bad = let no : ReadFault ≡ Eof = sym (ap why_read bad) ∙ e in absurd cc

rest_never : (read : Option RoleWhy) (finished over lacks : Bool) → why_rest read finished over lacks ≡ WriteFault → ⊥
rest_never read false over lacks e = absurd cc
rest_never read true true true e = absurd cc
rest_never read true true false e = absurd cc
rest_never None true false lacks e = absurd cc
rest_never (Some RoleEof) true false lacks e = absurd cc
rest_never (Some RoleReadFault) true false lacks e = absurd cc
rest_never (Some Long) true false lacks e = absurd cc
rest_never (Some RoleWriteFault) true false lacks e = absurd cc
rest_never (Some RoleMemory) true false lacks e = absurd cc

by_wrote : (read wrote : Option RoleWhy) (finished over lacks : Bool) → why_by read wrote finished over lacks ≡ WriteFault → wrote ≡ Some RoleWriteFault
by_wrote read None finished over lacks e = absurd (rest_never read finished over lacks e)
by_wrote read (Some RoleEof) finished over lacks e = absurd (rest_never read finished over lacks e)
by_wrote read (Some RoleReadFault) finished over lacks e = absurd (rest_never read finished over lacks e)
by_wrote read (Some Long) finished over lacks e = absurd (rest_never read finished over lacks e)
by_wrote read (Some RoleWriteFault) finished over lacks e = refl
by_wrote read (Some RoleMemory) finished over lacks e = absurd (rest_never read finished over lacks e)

-- ---- where it was served

settings_from : (h : KitHall) (passes : List KitPass) (n : ℕ) (olds news : List HandValue) → AllWorked h passes n olds news
    → map (λ (a : HandValue). a.settings) news ≡ map (λ (a : HandValue). a.settings) olds
settings_from h passes n [] [] all = refl
settings_from h passes n [] (b ∷ news) all = absurd all
settings_from h passes n (a ∷ olds) [] all = absurd all
settings_from h passes n (a ∷ olds) (b ∷ news) all =
    ap (λ (x : List (List ℕ)). x ∷ map (λ (c : HandValue). c.settings) news) all.0.ran.settings
    ∙ ap (λ (l : List (List (List ℕ))). a.settings ∷ l) (settings_from h passes (n + 1) olds news all.1)

module _ {K S W : Type 0} (settings : K → List (List ℕ)) (calls : K → Option (List Call)) (source : S → SourceTold) (sink : W → SinkTold)
    (h : KitHall) (passes : List KitPass) (s t : S) (w v : W) (olds news : List K) (held : List ℕ) (read wrote : Option RoleWhy) (journal : JournalValue)
    (reads : ReaderDid h passes (ear_of (source s) []) (ear_of (source t) held) read)
    (writes : WriterDid h passes (mouth_of (sink w)) (mouth_of (sink v)) wrote)
    (all : AllWorked h passes 0 (map (λ (k : K). hand_of (calls k) (settings k)) olds) (map (λ (k : K). hand_of (calls k) (settings k)) news))
    (why_is : journal.why ≡ why_stopped h.fixed journal.entries read wrote) where
  abbrev tells : S → W → List (Option (List Call)) → Tells
  tells x y cs = tells_by (source x) (sink y) cs

  abbrev hand : K → HandValue
  hand k = hand_of (calls k) (settings k)

  told : (ks : List K) → calls_told (map hand ks) ≡ map calls ks
  told ks = map_map hand (λ (a : HandValue). a.calls) ks

  pub served : (setup : Setup) → HasClosed IsMadeBy MayStep h passes journal.entries h.fixed → h.start ≡ Say 0 (codes "VERSION 1") ∷ [] → h.fixed ≡ setup
      → Serves setup (tells s w (map calls olds)) (tells t v (map calls news)) journal
  served setup closed begins fixed =
      let base = roles_serve h passes journal.entries h.fixed (ear_of (source s) []) (ear_of (source t) held) (mouth_of (sink w)) (mouth_of (sink v))
      (map hand olds) (map hand news) read wrote closed begins refl reads writes all in
      subst (λ (x : Setup). Serves x (tells s w (map calls olds)) (tells t v (map calls news)) journal) fixed
      (subst (λ (y : Why). Serves h.fixed (tells s w (map calls olds)) (tells t v (map calls news)) (record { entries = journal.entries; why = y })) (sym why_is)
      (subst (λ (cs : List (Option (List Call))). Serves h.fixed (tells s w cs) (tells t v (map calls news)) (record { entries = journal.entries; why = why_stopped h.fixed journal.entries read wrote })) (told olds)
      (subst (λ (cs : List (Option (List Call))). Serves h.fixed (tells s w (calls_told (map hand olds))) (tells t v cs) (record { entries = journal.entries; why = why_stopped h.fixed journal.entries read wrote })) (told news) base)))

  pub caused : HasCauses journal.why (source s) (source t) (sink w) (sink v)
  caused =
      let k : Standing = standing h.fixed journal.entries in
      let f : Bool = is_finished h.fixed k in
      let l : Bool = list_any is_lack journal.entries in
      record {
        read = λ e. reads.ran.source.cause (fault_read read (by_read ReadFault (λ (bad : Memory ≡ ReadFault). absurd cc) (λ (bad : Bad ≡ ReadFault). absurd cc) (λ (bad : WriteFault ≡ ReadFault). absurd cc) read wrote f k.over l (sym why_is ∙ e)));
        unread = λ e. reads.ran.source.quiet
            (eof_read read (by_read Eof (λ (bad : Memory ≡ Eof). absurd cc) (λ (bad : Bad ≡ Eof). absurd cc) (λ (bad : WriteFault ≡ Eof). absurd cc) read wrote f k.over l (sym why_is ∙ e)));
        wrote = λ e. writes.ran.sink.cause (by_wrote read wrote f k.over l (sym why_is ∙ e));
        unwritten = λ never. writes.ran.sink.quiet (λ bad. never (why_is ∙ ap (λ (o : Option RoleWhy). why_by read o f k.over l) bad));
      }

  pub still_open : ((source t).is_open ≡ true) × ((sink v).is_open ≡ true)
  still_open = (reads.ran.source.opened, writes.ran.sink.opened)

  pub same_settings : map settings news ≡ map settings olds
  same_settings =
      sym (map_map hand (λ (a : HandValue). a.settings) news) ∙ settings_from h passes 0 (map hand olds) (map hand news) all ∙ map_map hand (λ (a : HandValue). a.settings) olds

-- ---- where it wasn't

gained_none : (setup : Setup) (n : ℕ) (calls : List (Option (List Call))) → Gained setup [] n calls calls
gained_none setup n [] = tt
gained_none setup n (o ∷ calls) = (no_calls o, gained_none setup (n + 1) calls)

nothing : (setup : Setup) (tells : Tells) → Serves setup tells tells (record { entries = []; why = Memory })
nothing setup tells = record {
  given = [];
  taken = [];
  rest = [];
  legal = refl;
  begins = λ (never : Memory ≡ Memory → ⊥). absurd (never refl);
  told = λ (never : Memory ≡ Memory → ⊥). absurd (never refl);
  gave = (appends_nothing tells.given, λ untold. untold);
  cut = record { whole = refl; apart = refl };
  short = refl;
  took = (appends_nothing tells.taken, λ untold. untold);
  written = refl;
  gained = gained_none setup 0 tells.calls;
  ended = tt;
}

pub unserved : (setup : Setup) (tells : Tells) (journal : JournalValue) → journal.entries ≡ [] → journal.why ≡ Memory → Serves setup tells tells journal
unserved setup tells journal none why_is =
    subst (λ (es : List Entry). Serves setup tells tells (record { entries = es; why = journal.why })) (sym none)
    (subst (λ (y : Why). Serves setup tells tells (record { entries = []; why = y })) (sym why_is) (nothing setup tells))

pub uncaused : (why : Why) (source : SourceTold) (sink : SinkTold) → why ≡ Memory → HasCauses why source source sink sink
uncaused why source sink is = record {
  read = λ e. (let bad : Memory ≡ ReadFault = sym is ∙ e in absurd cc);
  unread = λ e. refl;
  wrote = λ e. (let bad : Memory ≡ WriteFault = sym is ∙ e in absurd cc);
  unwritten = λ never. refl;
}
