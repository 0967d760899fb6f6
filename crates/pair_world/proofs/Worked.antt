-- A kit's work as a move of the world.
use Rattle.std.proofs.Common.{ℕ, ◌≡◌, ◌+◌, ◌-◌, ◌<◌, Bool, true, false, List, ◌++◌, length, set, get_or, Option, None, refl, sym, ap, subst, ◌∙◌, arith}
use Rattle.std.proofs.lemmas.List.{get_or_read, set-get_or}
use Rattle.annex_model.specs.Messages.{HostMessage}
use Rattle.host_core.specs.declared.event.Reply.{Reply}
use Rattle.host_core.specs.declared.event.Reply.TheVariants.{Done}
use Rattle.pair_kit.specs.declared.answer.Answer.{Answer}
use Rattle.pair_world.specs.declared.step.Move.TheVariants.{Work}
use Rattle.pair_world.specs.declared.step.Moved.TheVariants.{Did}
use Rattle.pair_kit.specs.Shelves.{Items}
use Rattle.pair_kit.specs.Pairs.{PairValue, no_pair, pair_of, with_pair}
use Rattle.pair_kit.specs.Works.{is_waiting, next_message, keys_after, files_after, answered}
use Rattle.pair_kit.specs.Outcomes.{IsSame, TakesOne}
use Rattle.pair_kit.specs.Worlds.{WorldValue}
use Rattle.pair_world.specs.Moves.{Moves, IsMade, DoesWork, DoesTake}
use Rattle.pair_world.proofs.Linking.{pair_at}

-- ---- the child at a place

pair_there : (pairs : List PairValue) (c at : ℕ) (p : PairValue) → at + 1 ≡ c → at < length pairs → p ≡ get_or pairs at p → p ≡ pair_of pairs c
pair_there pairs c at p place within read =
    let index : at ≡ c - 1 = omega (arith, place) in
    get_or_read pairs at p within read no_pair ∙ ap (λ (n : ℕ). get_or pairs n no_pair) index ∙ sym (pair_at pairs c (omega (arith, place)))

set_there : (pairs : List PairValue) (c at : ℕ) (p : PairValue) → at + 1 ≡ c → set pairs at p ≡ with_pair pairs c p
set_there pairs c at p place =
    let index : at ≡ c - 1 = omega (arith, place) in
    ap (λ (n : ℕ). set pairs n p) index

-- ---- moves that are made

made : (b : Bool) (old new : WorldValue) (Does : Reply → WorldValue → Type 0) (reply : Reply) → b ≡ false → Does reply new → IsMade b old Does (Did reply) new
made true old new Does reply e d = cc
made false old new Does reply e d = d

-- ---- a kit's work

-- where the kit takes nothing, all stays
still : (view new : WorldValue) (at : ℕ) (q p : PairValue) (k f : Items) → at < length view.pairs → q ≡ get_or view.pairs at q → IsSame view.keys view.files q k f p
    → new ≡ record view { keys = k; files = f; pairs = set view.pairs at p } → new ≡ view
still view new at q p k f within read same is =
    let pair : p ≡ get_or view.pairs at no_pair = same.pair_stays ∙ get_or_read view.pairs at q within read no_pair in
    is
    ∙ ap (λ (x : Items). let w : WorldValue = record view { keys = x; files = f; pairs = set view.pairs at p } in w) same.keys_stay
    ∙ ap (λ (x : Items). let w : WorldValue = record view { files = x; pairs = set view.pairs at p } in w) same.files_stay
    ∙ ap (λ (x : PairValue). let w : WorldValue = record view { pairs = set view.pairs at x } in w) pair
    ∙ ap (λ (ps : List PairValue). let w : WorldValue = record view { pairs = ps } in w) (set-get_or view.pairs at no_pair)

-- the kit is over
pub works_over : (view w new : WorldValue) (c at : ℕ) (q p : PairValue) (k f : Items) → view ≡ w → at + 1 ≡ c → at < length view.pairs → q ≡ get_or view.pairs at q
    → (is_waiting q.at_kit ≡ false) × (next_message q.at_kit ≡ None) × IsSame view.keys view.files q k f p
    → new ≡ record view { keys = k; files = f; pairs = set view.pairs at p } → Moves w (Work c) (Did Done) new
works_over view w new c at q p k f same place within read worked is =
    let here = pair_there view.pairs c at q place within read in
    let none : next_message (pair_of view.pairs c).at_kit ≡ None = ap (λ (x : PairValue). next_message x.at_kit) (sym here) ∙ worked.1 in
    subst (λ (v : WorldValue). Moves v (Work c) (Did Done) new) same
    (made (is_waiting (pair_of view.pairs c).at_kit) view new (DoesWork view c (next_message (pair_of view.pairs c).at_kit)) Done
    (ap (λ (x : PairValue). is_waiting x.at_kit) (sym here) ∙ worked.0)
    (subst (λ (m : Option HostMessage). DoesWork view c m Done new) (sym none) (refl, still view new at q p k f within read worked.2 is)))

does_take : (view new : WorldValue) (c at : ℕ) (p : PairValue) (k f : Items) (answer : Option (List ℕ)) (bytes : List ℕ) (answers : List Answer) → at + 1 ≡ c
    → (t : TakesOne view.keys view.files (pair_of view.pairs c) k f p answer bytes) → answers ≡ view.answers ++ answered c p.request answer bytes
    → new ≡ record view { keys = k; files = f; pairs = set view.pairs at p; answers = answers } → DoesTake view c t.message new
does_take view new c at p k f answer bytes answers place t added is =
    let keys = keys_after view.keys view.files t.asked in
    let files = files_after view.keys view.files t.asked in
    record {
      pair = p;
      asked = t.asked;
      line = answer;
      takes = t.takes;
      goes =
          is
          ∙ ap (λ (x : Items). let v : WorldValue = record view { keys = x; files = f; pairs = set view.pairs at p; answers = answers } in v) t.serves.keys_are
          ∙ ap (λ (x : Items). let v : WorldValue = record view { keys = keys; files = x; pairs = set view.pairs at p; answers = answers } in v) t.serves.files_are
          ∙ ap (λ (ps : List PairValue). let v : WorldValue = record view { keys = keys; files = files; pairs = ps; answers = answers } in v) (set_there view.pairs c at p place)
          ∙ ap (λ (more : List Answer). let v : WorldValue = record view { keys = keys; files = files; pairs = with_pair view.pairs c p; answers = more } in v)
          (added ∙ ap (λ (b : List ℕ). view.answers ++ answered c p.request answer b) t.serves.bytes_are);
    }

-- a line is taken
pub works_line : (view w new : WorldValue) (c at : ℕ) (q p : PairValue) (k f : Items) (answer : Option (List ℕ)) (bytes : List ℕ) (answers : List Answer) → view ≡ w → at + 1 ≡ c
    → at < length view.pairs → q ≡ get_or view.pairs at q → (is_waiting q.at_kit ≡ false) × TakesOne view.keys view.files q k f p answer bytes
    → answers ≡ view.answers ++ answered c p.request answer bytes
    → new ≡ record view { keys = k; files = f; pairs = set view.pairs at p; answers = answers } → Moves w (Work c) (Did Done) new
works_line view w new c at q p k f answer bytes answers same place within read worked added is =
    let here = pair_there view.pairs c at q place within read in
    let t : TakesOne view.keys view.files (pair_of view.pairs c) k f p answer bytes = subst (λ (x : PairValue). TakesOne view.keys view.files x k f p answer bytes) here worked.1 in
    subst (λ (v : WorldValue). Moves v (Work c) (Did Done) new) same
    (made (is_waiting (pair_of view.pairs c).at_kit) view new (DoesWork view c (next_message (pair_of view.pairs c).at_kit)) Done
    (ap (λ (x : PairValue). is_waiting x.at_kit) (sym here) ∙ worked.0)
    (subst (λ (m : Option HostMessage). DoesWork view c m Done new) (sym t.next) (refl, does_take view new c at p k f answer bytes answers place t added is)))
