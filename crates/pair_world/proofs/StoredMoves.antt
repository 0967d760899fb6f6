-- The keys and the files, and what was answered, after each move.
use Rattle.std.proofs.Common.{ℕ, ◌≡◌, ◌&&◌, ◌||◌, not, Bool, true, false, cond, fold, List, [], ◌∷◌, ◌++◌, Option, Some, None, Result, Ok, Err, IfOk, OnOk, refl, sym, ap, subst, ◌∙◌, append-nil}
use Rattle.std.proofs.lemmas.Bool.{false≢true}
use Rattle.std.proofs.lemmas.Slice.Eq.{bytes_eq-Decides}
use Rattle.annex_model.specs.Messages.{HostMessage, Transfer, Remove, host_reading}
use Rattle.annex_model.proofs.Readings.{spelled_of_host, askable_of_spelled}
use Rattle.wire_line.specs.HeldBytes.{first_line}
use Rattle.host_core.specs.declared.event.Reply.{Reply}
use Rattle.journal_model.specs.Journal.{unsent, is_ended}
use Rattle.journal_model.specs.Legality.{is_empty}
use Rattle.kit_serve.specs.declared.kit.call.Asked.{Asked}
use Rattle.kit_serve.specs.declared.kit.call.Asked.TheVariants.{Prepare as AskPrepare, Initialize as AskInitialize, Store as AskStore, Retrieve as AskRetrieve, Check as AskCheck, Remove as AskRemove}
use Rattle.kit_serve.specs.Kit.Kits.{Heard, messages, request_of, is_over, is_unexpected, awaits_value, due_of, lines_to}
use Rattle.kit_serve.specs.Kit.Stages.{is_free}
use Rattle.kit_serve.proofs.KitLemmas.Behind.{request_of-push}
use Rattle.kit_serve.proofs.KitLemmas.Waiting.{free_followed}
use Rattle.pair_kit.specs.declared.answer.Answer.{Answer}
use Rattle.pair_world.specs.declared.step.Move.{Move}
use Rattle.pair_world.specs.declared.step.Move.TheVariants.{Event as EventMove, Write, ToKit, Work, ToHost, Hear, End as EndMove}
use Rattle.pair_world.specs.declared.step.Moved.{Moved}
use Rattle.pair_world.specs.declared.step.Moved.TheVariants.{Did, Not}
use Rattle.pair_kit.specs.Shelves.{Items, content, without, with_item}
use Rattle.pair_kit.specs.Cues.{settings}
use Rattle.pair_kit.specs.Pairs.{PairValue, heard, pair_of}
use Rattle.pair_kit.specs.Works.{is_waiting, has_whole, next_message, call_for, keys_after, files_after, bytes_put, put_found, last_said, answered, Takes}
use Rattle.pair_kit.specs.Worlds.{WorldValue}
use Rattle.pair_world.specs.Moves.{IsMade, is_barred, is_odd, is_amiss, is_silent, is_unended, reply_to, DoesEvent, DoesWrite, DoesToKit, DoesToHost, DoesWork, DoesHear, DoesEnd, Moves}
use Rattle.pair_kit.specs.Stored.{granted_by, is_store_of, is_retrieve_of, is_remove_of, stores, removes, file_after, filed, IsLastStored, Keeps, ChangesFiles}
use Rattle.pair_kit.proofs.Taking.{heard_more}
use Rattle.pair_kit.proofs.Shelved.{content-without, content-with_item}
use Rattle.pair_kit.proofs.StoredLast.{kept, AreKept, kept_more, kept_none}
use Rattle.pair_kit.proofs.StoredGrants.{is_still, is_call, IsCall, AreStill, IsOne, Grants, Effect, effect, suits_due, call_request, call_value, call_free}

-- ---- a kit's work

of_cond : (b : Bool) (o : Option HostMessage) (m : HostMessage) → cond b o None ≡ Some m → o ≡ Some m
of_cond true o m e = e
of_cond false o m e = cc

-- what a kit's answer grants is what was done for it
pub taken_effect : (keys files : Items) (c : ℕ) (old new : PairValue) (m : HostMessage) (asked : Option Asked) (line : Option (List ℕ))
    → host_reading (first_line old.at_kit) ≡ Some m → Takes keys files old new m asked line
    → Effect keys files asked (answered c new.request line (bytes_put keys files asked))
taken_effect keys files c old new m asked line reads t =
    subst (λ (l : Option (List ℕ)). Effect keys files asked (answered c new.request l (bytes_put keys files asked))) (sym t.says)
    (subst (λ (a : Option Asked). Effect keys files a (answered c new.request
    (last_said (is_free new.kit.stage) (lines_to settings (heard old.taken) (record { message = m; call = call_for keys files a }))) (bytes_put keys files a)))
    (sym t.asks)
    (effect keys files c new.request (request_of (messages (heard old.taken) ++ m ∷ [])) (is_free new.kit.stage) (due_of settings (heard old.taken) m)
    (suits_due (heard old.taken) m (host_reading new.request) (is_free new.kit.stage) call)))
  where
    e : Heard
    e = record { message = m; call = call_for keys files asked }

    more : heard new.taken ≡ heard old.taken ++ e ∷ []
    more = ap (λ (p : PairValue). heard p.taken) t.goes ∙ heard_more old.taken (first_line old.at_kit) (call_for keys files asked) m reads

    call : is_over settings (messages (heard old.taken)) ≡ false → is_unexpected (awaits_value settings (messages (heard old.taken))) m ≡ false → is_call m ≡ true
        → IsCall (request_of (messages (heard old.taken) ++ m ∷ [])) (host_reading new.request) (is_free new.kit.stage) m
    call live expected called = record {
      request_is = request_of-push (messages (heard old.taken)) m ∙ call_request (request_of (messages (heard old.taken))) m called;
      read_is = ap (λ (p : PairValue). host_reading p.request) t.goes
          ∙ ap (λ (b : Bool). host_reading (cond b old.request (first_line old.at_kit))) (call_value m called) ∙ reads;
      free_is = free_followed settings new.kit (heard new.taken) t.follows
          ∙ ap (λ (h : List Heard). not (is_over settings (messages h)) && not (awaits_value settings (messages h))) more
          ∙ call_free (heard old.taken) e live expected called;
      askable = askable_of_spelled m (first_line old.at_kit) (spelled_of_host m (first_line old.at_kit) reads);
    }

-- ---- a move, by what was asked of a remote in it and by the answers that were added

pub record Changed (old new : WorldValue) : Type 0 where
  pub asked : Option Asked
  pub added : List Answer
  pub does : Effect old.keys old.files asked added
  pub keys_are : new.keys ≡ keys_after old.keys old.files asked
  pub files_are : new.files ≡ files_after old.keys old.files asked
  pub answers_are : new.answers ≡ old.answers ++ added

-- the rest of the world alone changed
changed_rest : (old new : WorldValue) {next : WorldValue} → new ≡ next → next.keys ≡ old.keys → next.files ≡ old.files → next.answers ≡ old.answers → Changed old new
changed_rest old new is keys files answers = record {
  asked = None;
  added = [];
  does = tt;
  keys_are = ap (λ (w : WorldValue). w.keys) is ∙ keys;
  files_are = ap (λ (w : WorldValue). w.files) is ∙ files;
  answers_are = ap (λ (w : WorldValue). w.answers) is ∙ answers ∙ sym (append-nil old.answers);
}

changed_work : (old : WorldValue) (c : ℕ) (m : Option HostMessage) (reply : Reply) (new : WorldValue) → next_message (pair_of old.pairs c).at_kit ≡ m
    → DoesWork old c m reply new → Changed old new
changed_work old c None reply new next d = changed_rest old new d.1 refl refl refl
changed_work old c (Some m) reply new next d =
    let t = d.1 in
    let side = (pair_of old.pairs c).at_kit in
    let reads : host_reading (first_line side) ≡ Some m = of_cond (has_whole side) (host_reading (first_line side)) m next in
    record {
      asked = t.asked;
      added = answered c t.pair.request t.line (bytes_put old.keys old.files t.asked);
      does = taken_effect old.keys old.files c (pair_of old.pairs c) t.pair m t.asked t.line reads t.takes;
      keys_are = ap (λ (w : WorldValue). w.keys) t.goes;
      files_are = ap (λ (w : WorldValue). w.files) t.goes;
      answers_are = ap (λ (w : WorldValue). w.answers) t.goes;
    }

by_made : (b : Bool) (old : WorldValue) (Does : Reply → WorldValue → Type 0) (moved : Moved) (new : WorldValue) → IsMade b old Does moved new
    → ((reply : Reply) → Does reply new → Changed old new) → Changed old new
by_made true old Does Not new is f = changed_rest old new is refl refl refl
by_made true old Does (Did reply) new is f = absurd is
by_made false old Does Not new is f = absurd is
by_made false old Does (Did reply) new is f = f reply is

changed : (old : WorldValue) (step : Move) (moved : Moved) (new : WorldValue) → Moves old step moved new → Changed old new
changed old (EventMove by event) moved new is =
    by_made (is_barred event || is_odd (reply_to old by event)) old (DoesEvent old by event) moved new is (λ reply d. changed_rest old new d.goes refl refl refl)
changed old (Write c) moved new is =
    by_made (is_empty (unsent old.journal c) || is_ended old.journal c) old (DoesWrite old c) moved new is (λ reply d. changed_rest old new d.goes refl refl refl)
changed old (ToKit c n) moved new is =
    by_made (is_amiss n (pair_of old.pairs c).to_kit) old (DoesToKit old c n) moved new is (λ reply d. changed_rest old new d.goes refl refl refl)
changed old (Work c) moved new is =
    by_made (is_waiting (pair_of old.pairs c).at_kit) old (DoesWork old c (next_message (pair_of old.pairs c).at_kit)) moved new is
    (λ reply d. changed_work old c (next_message (pair_of old.pairs c).at_kit) reply new refl d)
changed old (ToHost c n) moved new is =
    by_made (is_amiss n (pair_of old.pairs c).to_host) old (DoesToHost old c n) moved new is (λ reply d. changed_rest old new d.goes refl refl refl)
changed old (Hear c) moved new is =
    by_made (is_ended old.journal c || is_silent (pair_of old.pairs c).at_host) old (DoesHear old c) moved new is (λ reply d. changed_rest old new d.goes refl refl refl)
changed old (EndMove c) moved new is =
    by_made (is_unended old c) old (DoesEnd old c) moved new is (λ reply d. changed_rest old new d.goes refl refl refl)

-- ---- the keys

still_store : (q : Option HostMessage) (key : List ℕ) → is_still q ≡ true → is_store_of key q ≡ false
still_store None key still = refl
still_store (Some (Transfer store k file)) key still = cc
still_store (Some q) key still = refl

still_remove : (q : Option HostMessage) (key : List ℕ) → is_still q ≡ true → is_remove_of key q ≡ false
still_remove None key still = refl
still_remove (Some (Remove k)) key still = cc
still_remove (Some q) key still = refl

still_retrieve : (q : Option HostMessage) (key : List ℕ) → is_still q ≡ true → is_retrieve_of key q ≡ false
still_retrieve None key still = refl
still_retrieve (Some (Transfer store k file)) key still = cc
still_retrieve (Some q) key still = refl

-- the answer's content, where it is known what the answer grants
kept_same : (a : Answer) (key bytes : List ℕ) (q : Option HostMessage) (before : Option (List ℕ)) → granted_by a ≡ q → a.bytes ≡ bytes
    → kept (is_store_of key q) (is_remove_of key q) bytes before ≡ kept (stores key a) (removes key a) a.bytes before
kept_same a key bytes q before grants same =
    sym (ap (λ (x : Option HostMessage). kept (is_store_of key x) (is_remove_of key x) a.bytes before) grants
    ∙ ap (λ (b : List ℕ). kept (is_store_of key q) (is_remove_of key q) b before) same)

kept_still : (answers : List Answer) (keys : Items) (added : List Answer) → AreStill added → AreKept answers keys → AreKept (answers ++ added) keys
kept_still answers keys [] still h = subst (λ (l : List Answer). AreKept l keys) (sym (append-nil answers)) h
kept_still answers keys (a ∷ []) still h =
    kept_more answers a keys keys h
    (λ key. sym (ap (λ (s : Bool). kept s (removes key a) a.bytes (content key keys)) (still_store (granted_by a) key still)
    ∙ ap (λ (r : Bool). kept false r a.bytes (content key keys)) (still_remove (granted_by a) key still)))
    (λ key is. absurd (false≢true (sym (still_retrieve (granted_by a) key still) ∙ is)))
kept_still answers keys (a ∷ b ∷ added) still h = absurd still

kept_stored : (answers : List Answer) (keys : Items) (key file : List ℕ) (o : Option (List ℕ)) (added : List Answer) → Grants (Transfer true key file) o added → AreKept answers keys
    → AreKept (answers ++ added) (put_found key o keys)
kept_stored answers keys key file None added still h = kept_still answers keys added still h
kept_stored answers keys key file (Some bytes) added one h =
    subst (λ (l : List Answer). AreKept (answers ++ l) (with_item key bytes keys)) (sym one.one)
    (kept_more answers one.answer keys (with_item key bytes keys) h
    (λ k. content-with_item key k bytes keys ∙ kept_same one.answer k bytes (Some (Transfer true key file)) (content k keys) one.grants one.bytes_are)
    (λ k is. absurd (false≢true (sym (ap (is_retrieve_of k) one.grants) ∙ is))))

kept_retrieved : (answers : List Answer) (keys : Items) (key file : List ℕ) (o : Option (List ℕ)) (added : List Answer) → content key keys ≡ o → Grants (Transfer false key file) o added
    → AreKept answers keys → AreKept (answers ++ added) keys
kept_retrieved answers keys key file None added found still h = kept_still answers keys added still h
kept_retrieved answers keys key file (Some bytes) added found one h =
    subst (λ (l : List Answer). AreKept (answers ++ l) keys) (sym one.one)
    (kept_more answers one.answer keys keys h
    (λ k. kept_same one.answer k bytes (Some (Transfer false key file)) (content k keys) one.grants one.bytes_are)
    (λ k is.
    (let same : key ≡ k = (bytes_eq-Decides key k).0 (sym (ap (is_retrieve_of k) one.grants) ∙ is) in
    subst (λ (b : List ℕ). IsLastStored answers k b) (sym one.bytes_are)
    (subst (λ (n : List ℕ). IsLastStored answers n bytes) same ((h.1 key bytes).0 found)))))

kept_removed : (answers : List Answer) (keys : Items) (key : List ℕ) (added : List Answer) → IsOne (Remove key) [] added → AreKept answers keys
    → AreKept (answers ++ added) (without key keys)
kept_removed answers keys key added one h =
    subst (λ (l : List Answer). AreKept (answers ++ l) (without key keys)) (sym one.one)
    (kept_more answers one.answer keys (without key keys) h
    (λ k. content-without key k keys ∙ kept_same one.answer k [] (Some (Remove key)) (content k keys) one.grants one.bytes_are)
    (λ k is. absurd (false≢true (sym (ap (is_retrieve_of k) one.grants) ∙ is))))

kept_effect : (answers : List Answer) (keys files : Items) (asked : Option Asked) (added : List Answer) → Effect keys files asked added → AreKept answers keys
    → AreKept (answers ++ added) (keys_after keys files asked)
kept_effect answers keys files None added e h = kept_still answers keys added e h
kept_effect answers keys files (Some (AskPrepare values)) added e h = kept_still answers keys added e h
kept_effect answers keys files (Some (AskInitialize values)) added e h = kept_still answers keys added e h
kept_effect answers keys files (Some (AskStore key file)) added e h = kept_stored answers keys key file (content file files) added e h
kept_effect answers keys files (Some (AskRetrieve key file)) added e h = kept_retrieved answers keys key file (content key keys) added refl e h
kept_effect answers keys files (Some (AskCheck key)) added e h = kept_still answers keys added e h
kept_effect answers keys files (Some (AskRemove key)) added e h = kept_removed answers keys key added e h

-- after each move a key has what was stored last, and each retrieval gave it
pub keeps_moved : (old : WorldValue) (step : Move) (moved : Moved) (new : WorldValue) → Moves old step moved new → Keeps old → Keeps new
keeps_moved old step moved new is keeps =
    let d = changed old step moved new is in
    let more : AreKept (old.answers ++ d.added) (keys_after old.keys old.files d.asked) =
    kept_effect old.answers old.keys old.files d.asked d.added d.does (keeps.gives, keeps.holds) in
    let h : AreKept new.answers new.keys =
    subst (λ (k : Items). AreKept new.answers k) (sym d.keys_are) (subst (λ (l : List Answer). AreKept l (keys_after old.keys old.files d.asked)) (sym d.answers_are) more) in
    record { gives = h.0; holds = h.1 }

-- a world in which nothing is stored and nothing was answered
pub keeps_empty : (w : WorldValue) → w.keys ≡ [] → w.answers ≡ [] → Keeps w
keeps_empty w keys answers =
    let h : AreKept w.answers w.keys = subst (λ (k : Items). AreKept w.answers k) (sym keys) (subst (λ (l : List Answer). AreKept l []) (sym answers) kept_none) in
    record { gives = h.0; holds = h.1 }

-- ---- the files

still_file : (q : Option HostMessage) (bytes : List ℕ) (files : Items) → is_still q ≡ true → files ≡ file_after q bytes files
still_file None bytes files still = refl
still_file (Some (Transfer store k file)) bytes files still = cc
still_file (Some q) bytes files still = refl

filed_still : (files : Items) (added : List Answer) → AreStill added → files ≡ fold filed files added
filed_still files [] still = refl
filed_still files (a ∷ []) still = still_file (granted_by a) a.bytes files still
filed_still files (a ∷ b ∷ added) still = absurd still

filed_one : (files : Items) (q : HostMessage) (bytes : List ℕ) (added : List Answer) → IsOne q bytes added → file_after (Some q) bytes files ≡ fold filed files added
filed_one files q bytes added one =
    sym (ap (fold filed files) one.one
    ∙ ap (λ (x : Option HostMessage). file_after x one.answer.bytes files) one.grants
    ∙ ap (λ (b : List ℕ). file_after (Some q) b files) one.bytes_are)

filed_stored : (files : Items) (key file : List ℕ) (o : Option (List ℕ)) (added : List Answer) → Grants (Transfer true key file) o added → files ≡ fold filed files added
filed_stored files key file None added still = filed_still files added still
filed_stored files key file (Some bytes) added one = filed_one files (Transfer true key file) bytes added one

filed_retrieved : (files : Items) (key file : List ℕ) (o : Option (List ℕ)) (added : List Answer) → Grants (Transfer false key file) o added
    → put_found file o files ≡ fold filed files added
filed_retrieved files key file None added still = filed_still files added still
filed_retrieved files key file (Some bytes) added one = filed_one files (Transfer false key file) bytes added one

filed_effect : (keys files : Items) (asked : Option Asked) (added : List Answer) → Effect keys files asked added → files_after keys files asked ≡ fold filed files added
filed_effect keys files None added e = filed_still files added e
filed_effect keys files (Some (AskPrepare values)) added e = filed_still files added e
filed_effect keys files (Some (AskInitialize values)) added e = filed_still files added e
filed_effect keys files (Some (AskStore key file)) added e = filed_stored files key file (content file files) added e
filed_effect keys files (Some (AskRetrieve key file)) added e = filed_retrieved files key file (content key keys) added e
filed_effect keys files (Some (AskCheck key)) added e = filed_still files added e
filed_effect keys files (Some (AskRemove key)) added e = filed_one files (Remove key) [] added e

-- the answers that a move adds tell all that it changes in the files
pub files_moved : (old : WorldValue) (step : Move) (moved : Moved) (new : WorldValue) → Moves old step moved new → ChangesFiles old new
files_moved old step moved new is =
    let d = changed old step moved new is in
    record { added = d.added; answers = d.answers_are; files = d.files_are ∙ filed_effect old.keys old.files d.asked d.added d.does }

-- ---- of a call's result

pub keeps_ok : {E : Type 0} (old new : WorldValue) (step : Move) (r : Result Moved E) → IfOk r (λ moved. Moves old step moved new) → Keeps old → OnOk r (Keeps new)
keeps_ok old new step (Ok moved) is keeps = keeps_moved old step moved new is keeps
keeps_ok old new step (Err e) is keeps = tt

pub files_ok : {E : Type 0} (old new : WorldValue) (step : Move) (r : Result Moved E) → IfOk r (λ moved. Moves old step moved new) → OnOk r (ChangesFiles old new)
files_ok old new step (Ok moved) is = files_moved old step moved new is
files_ok old new step (Err e) is = tt
