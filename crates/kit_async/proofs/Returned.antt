-- What the roles of a kit did, with their passes among those that came back.
use Rattle.std.proofs.Common.{◌≡◌, ℕ, zero, suc, ◌+◌, List, [], ◌∷◌, ◌++◌, map, refl, sym, ap, subst, ◌∙◌, length, Some, None, Option, slice_get, true, arith}
use Rattle.std.specs.Prelude.{All, reverse}
use Rattle.std.proofs.Math.Seq.{append_snoc}
use Rattle.std.proofs.lemmas.List.{length-map, length-reverse}
use Rattle.std.proofs.lemmas.List.Elements.{All-nil, All-cons, All-head, All-tail}
use Rattle.ann_key.specs.Pairs.{Pairwise}
use Rattle.threads.specs.Passes.{IsPassOf}
use Rattle.threads.proofs.RolesLemmas.Dealing.{all_reverse, map_map, pairwise_length, pairwise_reverse}
use Rattle.kit_async_model.specs.Legality.{Legal}
use Rattle.kit_async_core.specs.Halls.{KitHall, KitPass}
use Rattle.kit_async.specs.declared.work.why.Why.{Why}
use Rattle.kit_async.specs.Work.Calling.{HandValue}
use Rattle.kit_async.specs.Work.Passes.{Stands}
use Rattle.kit_async.specs.Work.Reading.{EarValue, ReaderRan}
use Rattle.kit_async.specs.Work.Writing.{MouthValue, WriterRan}
use Rattle.kit_async.proofs.WorkLemmas.Readers.{ran_none as read_none}
use Rattle.kit_async.proofs.WorkLemmas.Workers.{ran_none as worked_none}
use Rattle.kit_async.proofs.WorkLemmas.Writers.{wrote_none}
use Rattle.kit_async.specs.Dealt.{AreFresh, AreNumbered}
use Rattle.kit_async.specs.Endings.{AllWorked, ReaderDid, WriterDid}
use Rattle.kit_async.proofs.Playing.{At, Goes, fresh_seen, own_from, worked_from}
use Rattle.ann_key.proofs.Lists.{get_after}

-- ---- fresh passes

pub fresh_own : (h : KitHall) (first : ℕ) (ps : List KitPass) → AreFresh h first ps → All (IsPassOf h) ps
fresh_own h first [] all = All-nil (IsPassOf h)
fresh_own h first (p ∷ ps) all = All-cons (IsPassOf h) p ps all.0.0.pass (fresh_own h (first + 1) ps all.1)

pub fresh_from : (h : KitHall) (first : ℕ) (ps : List KitPass) → Legal h.fixed h.start → All (IsPassOf h) ps
    → ((k : ℕ) (p : KitPass) → slice_get ps k ≡ Some p → (p.number ≡ first + k) × (p.links ≡ [])) → AreFresh h first ps
fresh_from h first [] legal own told = tt
fresh_from h first (p ∷ ps) legal own told =
    let is = told 0 p refl in
    let mine = All-head (IsPassOf h) p ps own in (
      (
        record { pass = mine; number_is = (let n = is.0 in omega (arith, n)); legal = subst (Legal h.fixed) (sym (fresh_seen h p mine is.1)) legal },
        is.1,
      ),
      fresh_from h (first + 1) ps legal (All-tail (IsPassOf h) p ps own) (λ k q there. (let it = told (suc k) q there in ((let n = it.0 in omega (arith, n)), it.1))),
    )

-- ---- where nobody did anything

pub reader_idle : (h : KitHall) (ps : List KitPass) (n : ℕ) (e : EarValue) → AreFresh h 1 ps → length ps ≡ 2 + n → e.half.is_open ≡ true → ReaderDid h ps e e None
reader_idle h [] n e fresh long opened = absurd (omega (arith, long))
reader_idle h (p ∷ ps) n e fresh long opened = record {
  begun = p;
  pass = p;
  among = record { place = 0; there = refl; fresh = fresh_seen h p fresh.0.0.pass fresh.0.1 };
  ran = read_none h p e fresh.0.0 opened;
}

pub writer_idle : (h : KitHall) (ps : List KitPass) (n : ℕ) (m : MouthValue) → AreFresh h 1 ps → length ps ≡ 2 + n → m.half.is_open ≡ true → WriterDid h ps m m None
writer_idle h [] n m fresh long opened = absurd (omega (arith, long))
writer_idle h (o ∷ []) n m fresh long opened = absurd (omega (arith, long))
writer_idle h (o ∷ p ∷ ps) n m fresh long opened = record {
  begun = p;
  pass = p;
  among = record { place = 1; there = refl; fresh = fresh_seen h p fresh.1.0.0.pass fresh.1.0.1 };
  ran = wrote_none h p m fresh.1.0.0 opened;
}

idle_from : {K : Type 0} (hand : K → HandValue) (h : KitHall) (passes front ps : List KitPass) (ks : List K) (n : ℕ) → passes ≡ front ++ ps → AreFresh h (n + 3) ps
    → length ps ≡ length ks → AllWorked h passes n (map hand ks) (map hand ks)
idle_from hand h passes front ps [] n whole fresh long = tt
idle_from hand h passes front [] (k ∷ ks) n whole fresh long = absurd (omega (arith, long))
idle_from hand h passes front (p ∷ ps) (k ∷ ks) n whole fresh long =
    let next : n + 3 + 1 ≡ n + 1 + 3 = omega arith in (
      record {
        begun = p;
        pass = p;
        among = record {
          place = length front;
          there = ap (λ (qs : List KitPass). slice_get qs (length front)) whole ∙ get_after front p ps;
          fresh = fresh_seen h p fresh.0.0.pass fresh.0.1;
        };
        ran = worked_none h n p (hand k) fresh.0.0;
      },
      idle_from hand h passes (front ++ p ∷ []) ps ks (n + 1) (whole ∙ sym (append_snoc front p ps)) (subst (λ (m : ℕ). AreFresh h m ps) next fresh.1) (omega (arith, long)),
    )

pub workers_idle : {K : Type 0} (hand : K → HandValue) (h : KitHall) (ps : List KitPass) (ks : List K) → AreFresh h 1 ps → length ps ≡ 2 + length ks
    → AllWorked h ps 0 (map hand ks) (map hand ks)
workers_idle hand h [] ks fresh long = absurd (omega (arith, long))
workers_idle hand h (o ∷ []) ks fresh long = absurd (omega (arith, long))
workers_idle hand h (o ∷ p ∷ ps) ks fresh long = idle_from hand h (o ∷ p ∷ ps) (o ∷ p ∷ []) ps ks 0 refl fresh.1.1 (omega (arith, long))

-- ---- the roles, as they were made and as they came back

pub as_many : {W K : Type 0} (remote : W → K) (ks : List K) (ws : List W) → ks ≡ map remote (reverse ws) → length ws ≡ length ks
as_many remote ks ws is = sym (ap length is ∙ length-map (reverse ws) remote ∙ length-reverse ws)

-- what is seen of a source or a sink stays, whoever holds it
pub reader_back : {S : Type 0} (ear : S → List ℕ → EarValue) (h : KitHall) (qs : List KitPass) (s t u v : S) (held held' : List ℕ) (why why' : Option Why)
    → s ≡ t → held ≡ [] → v ≡ u → why' ≡ why → ReaderDid h qs (ear s held) (ear u held') why → (rest : List ℕ) × ReaderDid h qs (ear t []) (ear v rest) why'
reader_back {S = S} ear h qs s t u v held held' why why' begun empty ended is did = (
  held',
  subst (λ (w : Option Why). ReaderDid h qs (ear t []) (ear v held') w) (sym is)
      (subst (λ (x : S). ReaderDid h qs (ear t []) (ear x held') why) (sym ended)
      (subst (λ (x : S). ReaderDid h qs (ear x []) (ear u held') why) begun
      (subst (λ (l : List ℕ). ReaderDid h qs (ear s l) (ear u held') why) empty did))),
)

pub writer_back : {S : Type 0} (mouth : S → MouthValue) (h : KitHall) (qs : List KitPass) (s t u v : S) (why why' : Option Why)
    → s ≡ t → v ≡ u → why' ≡ why → WriterDid h qs (mouth s) (mouth u) why → WriterDid h qs (mouth t) (mouth v) why'
writer_back {S = S} mouth h qs s t u v why why' begun ended is did =
    subst (λ (w : Option Why). WriterDid h qs (mouth t) (mouth v) w) (sym is)
    (subst (λ (x : S). WriterDid h qs (mouth t) (mouth x) why) (sym ended)
    (subst (λ (x : S). WriterDid h qs (mouth x) (mouth u) why) begun did))

module _ {W K : Type 0} (hall : W → KitHall) (number : W → ℕ) (pass : W → KitPass) (remote : W → K) (hand : K → HandValue) where
  abbrev pub Went : W → W → Type 0
  Went = Goes hall number pass (λ w. hand (remote w))

  module _ (h : KitHall) (ps qs : List KitPass) (first third second fourth : KitPass) (ws vs : List W)
      (made : ps ≡ first ∷ second ∷ map pass (reverse ws)) (back : qs ≡ third ∷ fourth ∷ map pass (reverse vs))
      (at : All (At hall number pass (λ w. hand (remote w)) h) ws) (numbers : AreNumbered 0 (map number (reverse ws))) (fresh : AreFresh h 1 ps) (goes : Pairwise Went ws vs) where
    begun : AreFresh h 1 (first ∷ second ∷ map pass (reverse ws))
    begun = subst (AreFresh h 1) made fresh

    around : Pairwise Went (reverse ws) (reverse vs)
    around = pairwise_reverse Went ws vs goes

    pub reader_did : (k : KitHall) (e f : EarValue) (why : Option Why) → k ≡ h → ReaderRan k first third e f why → ReaderDid h qs e f why
    reader_did k e f why same ran = record {
      begun = first;
      pass = third;
      among = record { place = 0; there = ap (λ (l : List KitPass). slice_get l 0) back; fresh = fresh_seen h first begun.0.0.pass begun.0.1 };
      ran = subst (λ (l : KitHall). ReaderRan l first third e f why) same ran;
    }

    pub writer_did : (k : KitHall) (m w : MouthValue) (why : Option Why) → k ≡ h → WriterRan k second fourth m w why → WriterDid h qs m w why
    writer_did k m w why same ran = record {
      begun = second;
      pass = fourth;
      among = record { place = 1; there = ap (λ (l : List KitPass). slice_get l 1) back; fresh = fresh_seen h second begun.1.0.0.pass begun.1.0.1 };
      ran = subst (λ (l : KitHall). WriterRan l second fourth m w why) same ran;
    }

    pub workers_did : (ks js : List K) → ks ≡ map remote (reverse ws) → js ≡ map remote (reverse vs) → AllWorked h qs 0 (map hand ks) (map hand js)
    workers_did ks js old new =
        subst (λ (l : List HandValue). AllWorked h qs 0 l (map hand js)) (sym (ap (map hand) old ∙ map_map remote hand (reverse ws)))
        (subst (λ (l : List HandValue). AllWorked h qs 0 (map (λ (w : W). hand (remote w)) (reverse ws)) l) (sym (ap (map hand) new ∙ map_map remote hand (reverse vs)))
        (worked_from hall number pass (λ w. hand (remote w)) h qs 0 (third ∷ fourth ∷ []) (reverse ws) (reverse vs) back
        (all_reverse (At hall number pass (λ w. hand (remote w)) h) ws at) numbers begun.1.1 around))

    pub all_own : IsPassOf h third → IsPassOf h fourth → All (IsPassOf h) qs × (length qs ≡ length ps)
    all_own x y =
        let whole = ap length back in
        let before = ap length made in
        let there = length-map (reverse vs) pass in
        let here = length-map (reverse ws) pass in
        let same = pairwise_length Went (reverse ws) (reverse vs) around in (
          subst (All (IsPassOf h)) (sym back)
              (All-cons (IsPassOf h) third (fourth ∷ map pass (reverse vs)) x
              (All-cons (IsPassOf h) fourth (map pass (reverse vs)) y
              (own_from hall number pass (λ w. hand (remote w)) h (reverse ws) (reverse vs) (all_reverse (At hall number pass (λ w. hand (remote w)) h) ws at) around))),
          omega (arith, whole, before, there, here, same),
        )
