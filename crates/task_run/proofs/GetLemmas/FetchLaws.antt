-- How a get's calls at its desk come about.
use Rattle.std.proofs.Common.{◌≡◌, ◌∙◌, ℕ, ◌-◌, List, [], ◌∷◌, ◌++◌, length, refl}
use Rattle.std.specs.Prelude.{Option, Result, Ok, Err, true, false}
use Rattle.std.specs.List.{concat}
use Rattle.ann_key.specs.Keys.{Parts}
use Rattle.ann_key.specs.declared.bytes.NoMemory.{NoMemory}
use Rattle.ann_digest.specs.Fits.{IsSaidOf}
use Rattle.ann_digest.specs.declared.fit.Fit.{Fit}
use Rattle.ann_digest.specs.declared.fit.Fit.TheVariants as F
use Rattle.ann_digest.specs.declared.checker.Checker.{Checker}
use Rattle.ann_outside.specs.Calls.{Log, Gained, logged}
use Rattle.ann_outside.specs.declared.file_desk.DeskError.{DeskError}
use Rattle.ann_outside.specs.declared.file_desk.DeskError.TheVariants as E
use Rattle.ann_outside.specs.declared.file_desk.Call.{Call}
use Rattle.ann_outside.specs.declared.file_desk.Call.TheVariants.{Size, Create, Remove}
use Rattle.task_model.specs.declared.copying.copied.Copied.TheVariants.{Done}
use Rattle.task_model.specs.Copying.Copies.{copy_calls, Copies, EndsCopy, EndsRefused, refusal_of}
use Rattle.task_model.proofs.CopyingLemmas.CopyLaws.{gained_more, gained_call}
use Rattle.journal_model.specs.declared.answer.Answer.{Answer}
use Rattle.task_model.specs.Stores.{is_size}
use Rattle.task_model.specs.Ran.{refusal}
use Rattle.task_model.proofs.Gains.{gained_create, gained_remove, gained_rename, gained_size_refused}
use Rattle.task_model.specs.Fetching.{Files3, Outcome, if_made, settled, settling, NotMade, NotCopied, NotRemoved, Settled, move_calls, Moves, NotSized, WrongSize, Moved, fetch_result, Fetches}

pub gained_settling : (names : Files3) (fit : Fit) (old new : Option Log) (r : Outcome) → new ≡ logged old (settling names fit r) → Gained old new (if_made r (settling names fit r))
gained_settling names F.Fits old new r e = gained_rename old new names.part names.file r e
gained_settling names (F.Size n) old new r e = gained_remove old new names.part r e
gained_settling names (F.Hash digest) old new r e = gained_remove old new names.part r e

-- ---- a move

pub not_made : (names : Files3) (key : Parts) (n : ℕ) (old new : Option Log) (e : DeskError) → new ≡ logged old (Create names.part (Err e)) → Moves names key n old new (refusal e)
not_made names key n old new e l = record { how = NotMade e; calls = gained_create old new names.part (Err e) l; result_is = refl; so = tt }

pub not_copied : (names : Files3) (key : Parts) (n : ℕ) (a b c : Option Log) (before after : Checker) (e : DeskError)
    → b ≡ logged a (Create names.part (Ok tt)) → Copies b c names.fetch names.part n before after (refusal_of e) → Moves names key n a c (refusal e)
not_copied names key n a b c before after e l m = record {
  how = NotCopied m.pieces m.ending e;
  calls = gained_more a b c (Create names.part (Ok tt) ∷ []) (copy_calls names.fetch names.part 0 m.pieces ++ m.ending) (l ∙ gained_call a (Create names.part (Ok tt)) refl) m.calls;
  result_is = refl;
  so = refused_end e m.ends;
}
  where
    refused_end : (e : DeskError) → EndsCopy names.fetch names.part (length (concat m.pieces)) (n - length (concat m.pieces)) (refusal_of e) m.ending
        → EndsRefused e names.fetch names.part (length (concat m.pieces)) m.ending
    refused_end E.NoMemory h = h
    refused_end E.Failed h = h
    refused_end E.Missing h = h

-- the calls up to the removal of the fetched file
to_removal : (names : Files3) (a b c d : Option Log) (copied more : List Call) → b ≡ logged a (Create names.part (Ok tt)) → Gained b c copied → Gained c d more
    → Gained a d (Create names.part (Ok tt) ∷ copied ++ more)
to_removal names a b c d copied more l m r =
    gained_more a b d (Create names.part (Ok tt) ∷ []) (copied ++ more) (l ∙ gained_call a (Create names.part (Ok tt)) refl) (gained_more b c d copied more m r)

pub not_removed : (names : Files3) (key : Parts) (n k : ℕ) (a b c d : Option Log) (before after : Checker) (e : DeskError)
    → b ≡ logged a (Create names.part (Ok tt)) → Copies b c names.fetch names.part n before after (Ok (Done k)) → d ≡ logged c (Remove names.fetch (Err e)) → Moves names key n a d (refusal e)
not_removed names key n k a b c d before after e l m r = record {
  how = NotRemoved m.pieces m.ending e;
  calls = to_removal names a b c d (copy_calls names.fetch names.part 0 m.pieces ++ m.ending) (if_made (Err e) (Remove names.fetch (Err e))) l m.calls (gained_remove c d names.fetch (Err e) r);
  result_is = refl;
  so = m.ends;
}

pub is_settled : (names : Files3) (key : Parts) (n k : ℕ) (a b c d f : Option Log) (before after : Checker) (fit : Fit) (r : Outcome) (result : Result Answer NoMemory)
    → b ≡ logged a (Create names.part (Ok tt)) → (m : Copies b c names.fetch names.part n before after (Ok (Done k))) → d ≡ logged c (Remove names.fetch (Ok tt))
    → f ≡ logged d (settling names fit r) → result ≡ settled fit r → IsSaidOf key (concat m.pieces) fit → Moves names key n a f result
is_settled names key n k a b c d f before after fit r result l m e s is said = record {
  how = Settled m.pieces m.ending fit r;
  calls = to_removal names a b c f (copy_calls names.fetch names.part 0 m.pieces ++ m.ending) (Remove names.fetch (Ok tt) ∷ if_made r (settling names fit r)) l m.calls
      (gained_more c d f (Remove names.fetch (Ok tt) ∷ []) (if_made r (settling names fit r)) (e ∙ gained_call c (Remove names.fetch (Ok tt)) refl) (gained_settling names fit d f r s));
  result_is = is;
  so = (m.ends, said, m.most);
}

-- ---- a fetch

pub not_sized : (names : Files3) (key : Parts) (old new : Option Log) (e : DeskError) → new ≡ logged old (Size names.fetch (Err e)) → Fetches names key old new (refusal e)
not_sized names key old new e l = record { how = NotSized e; calls = gained_size_refused old new names.fetch e l; result_is = refl; so = tt }

pub wrong_size : (names : Files3) (key : Parts) (a b c : Option Log) (n : ℕ) (r : Outcome) (result : Result Answer NoMemory)
    → b ≡ logged a (Size names.fetch (Ok n)) → is_size key.size n ≡ false → c ≡ logged b (Remove names.part r) → result ≡ fetch_result (WrongSize n r) → Fetches names key a c result
wrong_size names key a b c n r result l s m is = record {
  how = WrongSize n r;
  calls = gained_more a b c (Size names.fetch (Ok n) ∷ []) (if_made r (Remove names.part r)) (l ∙ gained_call a (Size names.fetch (Ok n)) refl) (gained_remove b c names.part r m);
  result_is = is;
  so = s;
}

pub is_moved : (names : Files3) (key : Parts) (a b c : Option Log) (n : ℕ) (result : Result Answer NoMemory)
    → b ≡ logged a (Size names.fetch (Ok n)) → is_size key.size n ≡ true → Moves names key n b c result → Fetches names key a c result
is_moved names key a b c n result l s m = record {
  how = Moved n m.how;
  calls = gained_more a b c (Size names.fetch (Ok n) ∷ []) (move_calls names m.how) (l ∙ gained_call a (Size names.fetch (Ok n)) refl) m.calls;
  result_is = m.result_is;
  so = (s, m.so);
}
