-- Tries of moves, one after the other, and what they keep.
use Rattle.std.proofs.Common.{ℕ, zero, suc, ◌≡◌, ◌+◌, ◌*◌, ◌%◌, ◌<◌, ◌^◌, Bool, true, false, List, [], ◌++◌, Option, Some, None, refl, sym, ap, subst, inl, inr, ◌∙◌, arith, append_assoc, append-nil}
use Rattle.std.specs.Prelude.{◌==◌, ◌||◌, fold}
use Rattle.std.proofs.lemmas.Bool.Decides.{nat_tests}
use Rattle.std.proofs.lemmas.Nat.{mul-mod}
use Rattle.std.proofs.lemmas.List.Sums.{fold-append}
use Rattle.annex_model.specs.Messages.{HostMessage}
use Rattle.journal_model.specs.Journal.{is_ended, unsent}
use Rattle.journal_model.specs.Legality.{is_empty}
use Rattle.host_core.specs.declared.event.Reply.{Reply}
use Rattle.pair_kit.specs.declared.answer.Answer.{Answer}
use Rattle.pair_world.specs.declared.step.Move.{Move}
use Rattle.pair_world.specs.declared.step.Move.TheVariants.{Event as EventMove, Write, ToKit, Work, ToHost, Hear, End}
use Rattle.pair_world.specs.declared.step.Moved.{Moved}
use Rattle.pair_world.specs.declared.step.Moved.TheVariants.{Did, Not}
use Rattle.pair_kit.specs.Shelves.{Items}
use Rattle.pair_kit.specs.Pairs.{pair_of}
use Rattle.pair_kit.specs.Works.{is_waiting, next_message}
use Rattle.pair_kit.specs.Worlds.{WorldValue}
use Rattle.pair_world.specs.Moves.{Moves, IsMade, DoesEvent, DoesWrite, DoesToKit, DoesWork, DoesToHost, DoesHear, DoesEnd, is_barred, is_odd, reply_to, is_amiss, is_silent, is_unended}
use Rattle.pair_kit.specs.Stored.{ChangesFiles, filed}
use Rattle.rehearse_command.specs.World.Walks.{AllRest, AreMade, MakesCandidate, MakesOne, Rests, Tries, TriesAll, Walks, candidate, place, was_made}
use Rattle.std.proofs.lemmas.Bool.{eqb-true as same_number}

-- ---- where a move begins

pub place_of_rest : (seed t : ℕ) → (seed + (t % 24) * (t % 24) + t % 24) % 24 ≡ (seed + t * t + t) % 24
place_of_rest seed t =
    let e : (t * t) % 24 ≡ (t % 24 * (t % 24)) % 24 = mul-mod t t 24 in
    omega (arith, e)

-- ---- a move that can't be made changes nothing

unmade : (b : Bool) (old new : WorldValue) (Does : Reply → WorldValue → Type 0) → IsMade b old Does Not new → new ≡ old
unmade true old new Does is = is
unmade false old new Does is = absurd is

same_world : (old new : WorldValue) (m : Move) → Moves old m Not new → new ≡ old
same_world old new (EventMove by event) is = unmade (is_barred event || is_odd (reply_to old by event)) old new (DoesEvent old by event) is
same_world old new (Write c) is = unmade (is_empty (unsent old.journal c) || is_ended old.journal c) old new (DoesWrite old c) is
same_world old new (ToKit c n) is = unmade (is_amiss n (pair_of old.pairs c).to_kit) old new (DoesToKit old c n) is
same_world old new (Work c) is = unmade (is_waiting (pair_of old.pairs c).at_kit) old new (DoesWork old c (next_message (pair_of old.pairs c).at_kit)) is
same_world old new (ToHost c n) is = unmade (is_amiss n (pair_of old.pairs c).to_host) old new (DoesToHost old c n) is
same_world old new (Hear c) is = unmade (is_ended old.journal c || is_silent (pair_of old.pairs c).at_host) old new (DoesHear old c) is
same_world old new (End c) is = unmade (is_unended old c) old new (DoesEnd old c) is

-- ---- one try

pub tries_none : (t q : ℕ) (w : WorldValue) → candidate w t q ≡ None → Tries t q w false w
tries_none t q w e = (refl, subst (λ (m : Option Move). Rests w m) (sym e) tt)

tries_not : (t q : ℕ) (old new : WorldValue) (m : Move) → candidate old t q ≡ Some m → Moves old m Not new → Tries t q old false new
tries_not t q old new m e is =
    let same : new ≡ old = same_world old new m is in
    (same, subst (λ (o : Option Move). Rests old o) (sym e) (subst (λ (w : WorldValue). Moves old m Not w) same is))

tries_did : (t q : ℕ) (old new : WorldValue) (m : Move) (reply : Reply) → candidate old t q ≡ Some m → Moves old m (Did reply) new → Tries t q old true new
tries_did t q old new m reply e is = record { move = m; reply = reply; there = e; makes = is }

pub tries_step : (t q : ℕ) (old new : WorldValue) (m : Move) (moved : Moved) (b : Bool) → candidate old t q ≡ Some m → Moves old m moved new → b ≡ was_made moved → Tries t q old b new
tries_step t q old new m (Did reply) b there is e = subst (λ (x : Bool). Tries t q old x new) (sym e) (tries_did t q old new m reply there is)
tries_step t q old new m Not b there is e = subst (λ (x : Bool). Tries t q old x new) (sym e) (tries_not t q old new m there is)

-- ---- tries of all

pub none_tried : (w : WorldValue) (t from : ℕ) → AllRest w t from 0
none_tried w t from k low = absurd (omega (arith, low))

one_tried : (w : WorldValue) (t from n : ℕ) → AllRest w t from n → Rests w (candidate w t ((from + n) % 24)) → AllRest w t from (n + 1)
one_tried w t from n all one k low = go (k == n) refl
  where
    go : (b : Bool) → (k == n) ≡ b → Rests w (candidate w t ((from + k) % 24))
    go true e = subst (λ (j : ℕ). Rests w (candidate w t ((from + j) % 24))) (sym (same_number k n e)) one
    go false e = let less : k < n = grind (arith, nat_tests) in all k less

pub tried_one : (seed t before : ℕ) (old w new : WorldValue) → before < 24 → w ≡ old → AllRest old t (place seed t) before
    → Tries t ((place seed t + before) % 24) w true new → TriesAll seed t old true new
tried_one seed t before old w new few same rest made = record {
  before = before;
  few = few;
  rest = rest;
  makes = subst (λ (v : WorldValue). MakesCandidate t ((place seed t + before) % 24) v new) same made;
}

pub tried_more : (seed t before : ℕ) (old w new : WorldValue) → w ≡ old → AllRest old t (place seed t) before
    → Tries t ((place seed t + before) % 24) w false new → (new ≡ old) × AllRest old t (place seed t) (before + 1)
tried_more seed t before old w new same rest tries =
    (tries.0 ∙ same, one_tried old t (place seed t) before rest (subst (λ (v : WorldValue). Rests v (candidate v t ((place seed t + before) % 24))) same tries.1))

-- ---- moves

pub made_more : (seed n : ℕ) (first w last : WorldValue) → AreMade seed n first w → TriesAll seed (n + 1) w true last → AreMade seed (n + 1) first last
made_more seed n first w last made one =
    let e : suc n ≡ n + 1 = omega arith in
    subst (λ (k : ℕ). AreMade seed k first last) e (w, made, subst (λ (k : ℕ). MakesOne seed k w last) (sym e) one)

pub walks_end : (seed n : ℕ) (first w last : WorldValue) → AreMade seed n first w → TriesAll seed (n + 1) w false last → Walks seed first last
walks_end seed n first w last made tries = record {
  moves = n;
  made = subst (λ (v : WorldValue). AreMade seed n first v) (sym tries.0) made;
  ends = inl (subst (λ (v : WorldValue). AllRest v (n + 1) (place seed (n + 1)) 24) (sym tries.0) tries.1);
}

pub walks_out : (seed n : ℕ) (first last : WorldValue) → AreMade seed n first last → n ≡ 2 ^ 63 → Walks seed first last
walks_out seed n first last made all = record { moves = n; made = made; ends = inr all }

-- ---- what is kept

pub changes_none : (w : WorldValue) → ChangesFiles w w
changes_none w = record { added = []; answers = sym (append-nil w.answers); files = refl }

pub changes_more : (a b c : WorldValue) → ChangesFiles a b → ChangesFiles b c → ChangesFiles a c
changes_more a b c h k = record {
  added = h.added ++ k.added;
  answers = k.answers ∙ ap (λ (xs : List Answer). xs ++ k.added) h.answers ∙ append_assoc a.answers h.added k.added;
  files = k.files ∙ ap (λ (fs : Items). fold filed fs k.added) h.files ∙ sym (fold-append filed a.files h.added k.added);
}

opens_made : (b : Bool) (old new : WorldValue) (Does : Reply → WorldValue → Type 0) (reply : Reply) → (Does reply new → new.opening ≡ old.opening)
    → IsMade b old Does (Did reply) new → new.opening ≡ old.opening
opens_made true old new Does reply keeps is = absurd is
opens_made false old new Does reply keeps is = keeps is

opens_work : (old new : WorldValue) (c : ℕ) (next : Option HostMessage) (reply : Reply) → DoesWork old c next reply new → new.opening ≡ old.opening
opens_work old new c None reply does = ap (λ (w : WorldValue). w.opening) does.1
opens_work old new c (Some m) reply does = ap (λ (w : WorldValue). w.opening) does.1.goes

pub opens_so : (old new : WorldValue) (m : Move) (reply : Reply) → Moves old m (Did reply) new → new.opening ≡ old.opening
opens_so old new (EventMove by event) reply is =
    opens_made (is_barred event || is_odd (reply_to old by event)) old new (DoesEvent old by event) reply (λ does. ap (λ (w : WorldValue). w.opening) does.goes) is
opens_so old new (Write c) reply is =
    opens_made (is_empty (unsent old.journal c) || is_ended old.journal c) old new (DoesWrite old c) reply (λ does. ap (λ (w : WorldValue). w.opening) does.goes) is
opens_so old new (ToKit c n) reply is =
    opens_made (is_amiss n (pair_of old.pairs c).to_kit) old new (DoesToKit old c n) reply (λ does. ap (λ (w : WorldValue). w.opening) does.goes) is
opens_so old new (Work c) reply is =
    opens_made (is_waiting (pair_of old.pairs c).at_kit) old new (DoesWork old c (next_message (pair_of old.pairs c).at_kit)) reply
    (opens_work old new c (next_message (pair_of old.pairs c).at_kit) reply) is
opens_so old new (ToHost c n) reply is =
    opens_made (is_amiss n (pair_of old.pairs c).to_host) old new (DoesToHost old c n) reply (λ does. ap (λ (w : WorldValue). w.opening) does.goes) is
opens_so old new (Hear c) reply is =
    opens_made (is_ended old.journal c || is_silent (pair_of old.pairs c).at_host) old new (DoesHear old c) reply (λ does. ap (λ (w : WorldValue). w.opening) does.goes) is
opens_so old new (End c) reply is = opens_made (is_unended old c) old new (DoesEnd old c) reply (λ does. ap (λ (w : WorldValue). w.opening) does.goes) is

-- so the opening stays over a walk
opens_all : (seed n : ℕ) (first last : WorldValue) → AreMade seed n first last → last.opening ≡ first.opening
opens_all seed zero first last made = ap (λ (w : WorldValue). w.opening) made
opens_all seed (suc n) first last (w, made, one) = opens_so w last one.makes.move one.makes.reply one.makes.makes ∙ opens_all seed n first w made

pub opens_walk : (seed : ℕ) (first last : WorldValue) → Walks seed first last → last.opening ≡ first.opening
opens_walk seed first last walks = opens_all seed walks.moves first last walks.made
