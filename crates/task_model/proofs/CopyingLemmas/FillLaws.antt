-- How the file that a copy writes fills, piece by piece.
use Rattle.std.proofs.Common.{◌≡◌, ◌≢◌, ◌∙◌, ℕ, zero, suc, ◌+◌, ◌-◌, ◌<◌, ◌≤◌, ◌⊎◌, List, [], ◌++◌, length, take, drop, refl, sym, ap, subst, arith, inl, inr, take-add, length-take, length-take-le, length-drop, drop-drop}
use Rattle.std.specs.Prelude.{Bool, true, false, bytes_eq, min, Option, Some, None, option_map, unwrap_or, IfSome, Result, Ok, Err}
use Rattle.std.specs.Bool.{MatchBool}
use Rattle.std.proofs.lemmas.Bool.{cases_lt}
use Rattle.std.proofs.lemmas.Slice.Eq.{bytes_eq-Decides}
use Rattle.std.proofs.lemmas.List.{take_all, take-take}
use Rattle.ann_key.specs.declared.bytes.NoMemory.{NoMemory}
use Rattle.ann_outside.specs.Files.{Files, content, WhereTold, AllStay, OthersStay, ReadIs, CreateDoes, AppendDoes}
use Rattle.ann_outside.specs.declared.file_desk.DeskError.{DeskError}
use Rattle.ann_outside.specs.declared.file_desk.DeskError.TheVariants as E
use Rattle.task_model.specs.declared.copying.copied.Copied.{Copied}
use Rattle.task_model.specs.declared.copying.copied.Copied.TheVariants.{Done, Fault, Missing}
use Rattle.task_model.specs.Copying.Copies.{refusal_of}
use Rattle.task_model.specs.Copying.FilesAfter.{bytes_in, FileGrows, PieceGrows, GrownSoFar, IsWholeCopy, LeavesFront, LeavesMade, HoldsRange, IsUnmade}
use Rattle.task_model.proofs.CopyingLemmas.Telling.{told_still}
use Rattle.ann_key.proofs.Lists.{map_nil, option_twice as map_both}
use Rattle.ann_outside.proofs.Across.{where_then as told_both, where_so as told_map, told_same}

-- ---- nothing, and one after the other

grows_nothing : (from to : List ℕ) (at : ℕ) (x y : Files) → AllStay x y → FileGrows from to at 0 x y
grows_nothing from to at x y stay = record { grew = stay to ∙ sym (map_nil (content to x)); others = λ other d. stay other }

-- the file that is read stays, where it isn't the one that is written
read_stays : (from to : List ℕ) (x y : Files) → from ≢ to → OthersStay (λ other. other ≡ to) x y → bytes_in from y ≡ bytes_in from x
read_stays from to x y apart others = ap (λ c. unwrap_or c []) (others from apart)

grows_both : (from to : List ℕ) (at m place n : ℕ) (x y z : Files) → from ≢ to → place ≡ at + m → FileGrows from to at m x y → FileGrows from to place n y z → FileGrows from to at (m + n) x z
grows_both from to at m place n x y z apart is g h = record {
  grew = h.grew ∙ ap (option_map (λ bytes. bytes ++ take n (drop place (bytes_in from y)))) g.grew ∙ map_both (content to x) first (take n (drop place (bytes_in from y))) ∙ ap (λ l. option_map (λ bytes. bytes ++ l) (content to x)) joined;
  others = λ other d. h.others other d ∙ g.others other d;
}
  where
    source : List ℕ
    source = bytes_in from x

    first : List ℕ
    first = take m (drop at source)

    next : take n (drop place (bytes_in from y)) ≡ take n (drop m (drop at source))
    next = rw (read_stays from to x y apart g.others, is) (ap (take n) (sym (drop-drop m at source)))

    joined : first ++ take n (drop place (bytes_in from y)) ≡ take (m + n) (drop at source)
    joined = ap (λ l. first ++ l) next ∙ sym (take-add m n (drop at source))

-- ---- one piece

-- what was read of the file is what it holds there
read_is : (from buffer : List ℕ) (at n : ℕ) (x : Files) → ReadIs from at buffer x (Ok n) → (take n buffer ≡ take n (drop at (bytes_in from x))) × (n ≡ 0 → length (bytes_in from x) ≤ at)
read_is from buffer at n x h = by_content (content from x) h
  where
    by_content : (c : Option (List ℕ)) → (c ≢ None) × ((bytes : List ℕ) → c ≡ Some bytes → (take n buffer ≡ take n (drop at bytes)) × (n ≡ 0 → length bytes ≤ at))
        → (take n buffer ≡ take n (drop at (unwrap_or c []))) × (n ≡ 0 → length (unwrap_or c []) ≤ at)
    by_content None k = absurd (k.0 refl)
    by_content (Some bytes) k = k.1 bytes refl

-- so much is there
there_is : (buffer source : List ℕ) (at n : ℕ) → n ≤ length buffer → take n buffer ≡ take n (drop at source) → n ≤ length source - at
there_is buffer source at n most same =
    let long : n ≡ min n (length (drop at source)) = sym (length-take-le n buffer most) ∙ ap length same ∙ length-take n (drop at source) in
    omega (arith, long, length-drop at source)

piece_ends : (from to buffer : List ℕ) (at room : ℕ) (x y : Files) → y ≡ x → ReadIs from at buffer x (Ok 0) → PieceGrows from to at room (Ok 0) x y
piece_ends from to buffer at room x y same h =
    let r = read_is from buffer at 0 x h in
    (grows_nothing from to at x y (λ other. ap (content other) same), omega arith, r.1)

piece_comes : (from to buffer : List ℕ) (at room n : ℕ) (x y z : Files) → y ≡ x → (n ≡ 0 → ⊥) → n ≤ length buffer → ReadIs from at buffer x (Ok n)
    → AppendDoes to (take n buffer) (Ok tt) y z → PieceGrows from to at room (Ok n) x z
piece_comes from to buffer at room n x y z same some most h app =
    let r = read_is from buffer at n x h in (
      record {
        grew = app.1 ∙ ap (λ c. option_map (λ bytes. bytes ++ take n buffer) c) (ap (content to) same) ∙ ap (λ l. option_map (λ bytes. bytes ++ l) (content to x)) r.0;
        others = λ other d. app.2 other d ∙ ap (content other) same;
      },
      there_is buffer (bytes_in from x) at n most r.0,
      λ none. absurd (some none),
    )

-- a front of a front
front_of : (k n : ℕ) (l : List ℕ) → (j : ℕ) × (j ≤ n) × (take k (take n l) ≡ take j l)
front_of k n l = by_case (cases_lt n k)
  where
    by_case : (n < k) ⊎ (k ≤ n) → (j : ℕ) × (j ≤ n) × (take k (take n l) ≡ take j l)
    by_case (inl more) = (n, omega arith, take_all k (take n l) (omega (arith, length-take n l)))
    by_case (inr few) = (k, few, take-take k n l few)

piece_refused : (from to buffer : List ℕ) (at room n : ℕ) (e : DeskError) (x y z : Files) → y ≡ x → n ≤ room → ReadIs from at buffer x (Ok n)
    → AppendDoes to (take n buffer) (Err e) y z → PieceGrows from to at room (Err e) x z
piece_refused from to buffer at room n E.NoMemory x y z same most h stay = (0, omega arith, grows_nothing from to at x z (λ other. stay other ∙ ap (content other) same))
piece_refused from to buffer at room n E.Missing x y z same most h app = (0, omega arith, grows_nothing from to at x z (λ other. app.1 other ∙ ap (content other) same))
piece_refused from to buffer at room n E.Failed x y z same most h app =
    let r = read_is from buffer at n x h in
    let k = app.0.0 in
    let f = front_of k n (drop at (bytes_in from x)) in (
      f.0,
      omega (arith, f.1, most),
      record {
        grew = app.0.1 ∙ ap (λ c. option_map (λ bytes. bytes ++ take k (take n buffer)) c) (ap (content to) same)
            ∙ ap (λ l. option_map (λ bytes. bytes ++ l) (content to x)) (ap (take k) r.0 ∙ f.2);
        others = λ other d. app.1 other d ∙ ap (content other) same;
      },
    )

-- ---- a piece, where files are told

pub fills_end : (from to buffer : List ℕ) (at room n : ℕ) (a b : Option Files) → n ≡ 0 → b ≡ a → IfSome a (λ fs. ReadIs from at buffer fs (Ok n)) → WhereTold a b (PieceGrows from to at room (Ok 0))
fills_end from to buffer at room zero a b none same told =
    told_map (λ x y. (y ≡ x) × ReadIs from at buffer x (Ok 0)) (PieceGrows from to at room (Ok 0)) a b
    (λ x y h. piece_ends from to buffer at room x y h.0 h.1) (told_same (λ fs. ReadIs from at buffer fs (Ok 0)) a b same told)
fills_end from to buffer at room (suc n) a b none same told = absurd (omega (arith, none))

pub fills_piece : (from to buffer : List ℕ) (at room n : ℕ) (a b c : Option Files) → b ≡ a → (n ≡ 0 → ⊥) → n ≤ length buffer
    → IfSome a (λ fs. ReadIs from at buffer fs (Ok n)) → WhereTold b c (AppendDoes to (take n buffer) (Ok tt)) → WhereTold a c (PieceGrows from to at room (Ok n))
fills_piece from to buffer at room n a b c same some most told does =
    told_both (λ x y. (y ≡ x) × ReadIs from at buffer x (Ok n)) (AppendDoes to (take n buffer) (Ok tt)) (PieceGrows from to at room (Ok n)) a b c
    (λ x y z h app. piece_comes from to buffer at room n x y z h.0 some most h.1 app) (told_same (λ fs. ReadIs from at buffer fs (Ok n)) a b same told) does

pub fills_unread : (from to : List ℕ) (at room : ℕ) (e : DeskError) (a b : Option Files) → b ≡ a → WhereTold a b (PieceGrows from to at room (Err e))
fills_unread from to at room e a b same = told_still (PieceGrows from to at room (Err e)) a b same (λ x. (0, omega arith, grows_nothing from to at x x (λ other. refl)))

pub fills_unwritten : (from to buffer : List ℕ) (at room n : ℕ) (e : DeskError) (a b c : Option Files) → b ≡ a → n ≤ room
    → IfSome a (λ fs. ReadIs from at buffer fs (Ok n)) → WhereTold b c (AppendDoes to (take n buffer) (Err e)) → WhereTold a c (PieceGrows from to at room (Err e))
fills_unwritten from to buffer at room n e a b c same most told does =
    told_both (λ x y. (y ≡ x) × ReadIs from at buffer x (Ok n)) (AppendDoes to (take n buffer) (Err e)) (PieceGrows from to at room (Err e)) a b c
    (λ x y z h app. piece_refused from to buffer at room n e x y z h.0 most h.1 app) (told_same (λ fs. ReadIs from at buffer fs (Ok n)) a b same told) does

-- ---- the loop, where files are told

pub filling_begins : (from to : List ℕ) (at : ℕ) (a : Option Files) → WhereTold a a (GrownSoFar from to at 0)
filling_begins from to at a = told_still (GrownSoFar from to at 0) a a refl (λ x. record { got = grows_nothing from to at x x (λ other. refl); there = omega arith })

goes_on : (from to : List ℕ) (at m place room n : ℕ) (x y z : Files) → from ≢ to → place ≡ at + m → GrownSoFar from to at m x y → PieceGrows from to place room (Ok n) y z → GrownSoFar from to at (m + n) x z
goes_on from to at m place room n x y z apart is f p = record { got = grows_both from to at m place n x y z apart is f.got p.0; there = omega (arith, f.there, bound, is) }
  where
    bound : n ≤ length (bytes_in from x) - place
    bound = rw (ap length (sym (read_stays from to x y apart f.got.others))) p.1

pub filling_goes_on : (from to : List ℕ) (at m place room n : ℕ) (a b c : Option Files) → from ≢ to → place ≡ at + m
    → WhereTold a b (GrownSoFar from to at m) → WhereTold b c (PieceGrows from to place room (Ok n)) → WhereTold a c (GrownSoFar from to at (m + n))
filling_goes_on from to at m place room n a b c apart is f p =
    told_both (GrownSoFar from to at m) (PieceGrows from to place room (Ok n)) (GrownSoFar from to at (m + n)) a b c (λ x y z. goes_on from to at m place room n x y z apart is) f p

-- from the range's begin on, up to a place further on
pub filled_to : (from to : List ℕ) (at place n : ℕ) (a b : Option Files) → at ≤ place → WhereTold a b (GrownSoFar from to at ((place - at) + n)) → WhereTold a b (GrownSoFar from to at ((place + n) - at))
filled_to from to at place n a b low f = subst (λ (m : ℕ). WhereTold a b (GrownSoFar from to at m)) (omega (arith, low)) f

-- ---- its ends, where files are told

pub fills_whole : (from to : List ℕ) (at m wanted : ℕ) (a b : Option Files) → m ≡ wanted → WhereTold a b (GrownSoFar from to at m) → WhereTold a b (LeavesFront from to at wanted (Ok (Done m)))
fills_whole from to at m wanted a b all f =
    told_map (GrownSoFar from to at m) (LeavesFront from to at wanted (Ok (Done m))) a b
    (λ x y h. record { count = m; got = h.got; most = omega (arith, all); all = (refl, omega (arith, all, h.there)) }) f

pub fills_short : (from to : List ℕ) (at m place room n wanted : ℕ) (a b c : Option Files) → from ≢ to → place ≡ at + m → m ≤ wanted → n ≡ 0
    → WhereTold a b (GrownSoFar from to at m) → WhereTold b c (PieceGrows from to place room (Ok n)) → WhereTold a c (LeavesFront from to at wanted (Ok (Done m)))
fills_short from to at m place room n wanted a b c apart is most none f p =
    told_both (GrownSoFar from to at m) (PieceGrows from to place room (Ok n)) (LeavesFront from to at wanted (Ok (Done m))) a b c step f p
  where
    step : (x y z : Files) → GrownSoFar from to at m x y → PieceGrows from to place room (Ok n) y z → LeavesFront from to at wanted (Ok (Done m)) x z
    step x y z h q =
        let long : length (bytes_in from y) ≡ length (bytes_in from x) = ap length (read_stays from to x y apart h.got.others) in
        let ends : length (bytes_in from y) ≤ place = q.2 none in
        record {
          count = m + n;
          got = grows_both from to at m place n x y z apart is h.got q.0;
          most = omega (arith, most, none);
          all = (omega (arith, none), omega (arith, most, h.there, long, ends, is));
        }

-- a copy that was refused isn't held to have come whole
all_of_refusal : (e : DeskError) (count wanted there : ℕ) → IsWholeCopy (refusal_of e) count wanted there
all_of_refusal E.NoMemory count wanted there = tt
all_of_refusal E.Failed count wanted there = tt
all_of_refusal E.Missing count wanted there = tt

pub fills_refused : (from to : List ℕ) (at m place room wanted : ℕ) (e : DeskError) (a b c : Option Files) → from ≢ to → place ≡ at + m → m + room ≤ wanted
    → WhereTold a b (GrownSoFar from to at m) → WhereTold b c (PieceGrows from to place room (Err e)) → WhereTold a c (LeavesFront from to at wanted (refusal_of e))
fills_refused from to at m place room wanted e a b c apart is most f p =
    told_both (GrownSoFar from to at m) (PieceGrows from to place room (Err e)) (LeavesFront from to at wanted (refusal_of e)) a b c
    (λ x y z h q. record {
      count = m + q.0;
      got = grows_both from to at m place q.0 x y z apart is h.got q.2;
      most = omega (arith, most, q.1);
      all = all_of_refusal e (m + q.0) wanted (length (bytes_in from x) - at);
    }) f p

pub fills_nothing : (from to : List ℕ) (at wanted : ℕ) (e : NoMemory) (a : Option Files) → WhereTold a a (LeavesFront from to at wanted (Err e))
fills_nothing from to at wanted e a =
    told_still (LeavesFront from to at wanted (Err e)) a a refl (λ x. record { count = 0; got = grows_nothing from to at x x (λ other. refl); most = omega arith; all = tt })

-- ---- a file that is made

pub made_apart : (file name : List ℕ) (from to : ℕ) (result : Result Copied NoMemory) (a b : Option Files) → file ≢ name → WhereTold a b (LeavesFront file name from (to - from) result)
    → WhereTold a b (LeavesMade file name from to result)
made_apart file name from to result a b apart f =
    told_map (LeavesFront file name from (to - from) result) (LeavesMade file name from to result) a b (λ x y h. record { apart = λ d. h; itself = λ e. absurd (apart e) }) f

pub made_itself : (file name : List ℕ) (from to : ℕ) (result : Result Copied NoMemory) (a b : Option Files) → file ≡ name → b ≡ a → WhereTold a b (LeavesMade file name from to result)
made_itself file name from to result a b one same =
    told_still (LeavesMade file name from to result) a b same (λ x. record { apart = λ d. absurd (d one); itself = λ e other. refl })

-- two names are one or not
pub own_or_apart : (file name : List ℕ) → MatchBool (bytes_eq file name) (file ≡ name) (file ≢ name)
own_or_apart file name = by_test (bytes_eq file name) refl
  where
    by_test : (t : Bool) → bytes_eq file name ≡ t → MatchBool t (file ≡ name) (file ≢ name)
    by_test true e = (bytes_eq-Decides file name).0 e
    by_test false e = λ one. let both : bytes_eq file name ≡ true = (bytes_eq-Decides file name).1 one in cc

pub holds_range : (file name : List ℕ) (from to : ℕ) (result : Result Copied NoMemory) (a b c : Option Files) → (own : Bool) → MatchBool own (file ≡ name) (file ≢ name)
    → WhereTold a b (CreateDoes name (Ok tt)) → WhereTold b c (LeavesMade file name from to result) → WhereTold a c (HoldsRange file name from to result)
holds_range file name from to result a b c own test made fills =
    told_both (CreateDoes name (Ok tt)) (LeavesMade file name from to result) (HoldsRange file name from to result) a b c (step own test) made fills
  where
    step : (own : Bool) → MatchBool own (file ≡ name) (file ≢ name) → (x y z : Files) → CreateDoes name (Ok tt) x y → LeavesMade file name from to result y z → HoldsRange file name from to result x z
    step true one x y z h f = record {
      count = 0;
      holds = f.itself one name ∙ h.0;
      most = omega arith;
      all = λ d. absurd (d one);
      itself = λ e. refl;
      others = λ other d. f.itself one other ∙ h.1 other d;
    }
    step false apart x y z h f =
        let k = f.apart apart in
        let same : bytes_in file y ≡ bytes_in file x = read_stays file name x y apart h.1 in
        record {
          count = k.count;
          holds = k.got.grew ∙ ap (option_map (λ bytes. bytes ++ take k.count (drop from (bytes_in file y)))) h.0 ∙ ap (λ l. Some (take k.count (drop from l))) same;
          most = k.most;
          all = λ d. subst (λ (l : List ℕ). IsWholeCopy result k.count (to - from) (length l - from)) same k.all;
          itself = λ e. absurd (apart e);
          others = λ other d. k.got.others other d ∙ h.1 other d;
        }

pub unmade : (name : List ℕ) (e : DeskError) (a b : Option Files) → WhereTold a b (CreateDoes name (Err e)) → WhereTold a b (IsUnmade name (refusal_of e))
unmade name e a b does = told_map (CreateDoes name (Err e)) (IsUnmade name (refusal_of e)) a b (by_error e) does
  where
    by_error : (f : DeskError) (x y : Files) → CreateDoes name (Err f) x y → IsUnmade name (refusal_of f) x y
    by_error E.Failed x y h = h
    by_error E.Missing x y h = h
    by_error E.NoMemory x y h = h
