-- How the calls that fetch one chunk come about.
use Rattle.std.proofs.Common.{◌≡◌, ◌∙◌, ℕ, ◌-◌, ◌==◌, List, [], ◌∷◌, ◌++◌, length, refl, subst}
use Rattle.std.specs.Prelude.{Option, Result, Ok, Err, false}
use Rattle.std.specs.List.{concat}
use Rattle.ann_key.specs.declared.bytes.NoMemory.{NoMemory}
use Rattle.ann_digest.specs.declared.checker.Checker.{Checker}
use Rattle.ann_outside.specs.Calls.{Log, Gained, logged}
use Rattle.ann_outside.specs.declared.file_desk.DeskError.{DeskError}
use Rattle.ann_outside.specs.declared.file_desk.DeskError.TheVariants as E
use Rattle.ann_outside.specs.declared.file_desk.Call.{Call}
use Rattle.ann_outside.specs.declared.file_desk.Call.TheVariants.{Size, Remove}
use Rattle.task_model.specs.declared.copying.copied.Copied.TheVariants.{Done}
use Rattle.task_model.specs.Copying.Copies.{copy_calls, Copies, EndsCopy, EndsRefused, refusal_of}
use Rattle.task_model.proofs.CopyingLemmas.CopyLaws.{gained_more, gained_call}
use Rattle.task_run.specs.declared.get.get_chunk.Went.{Went}
use Rattle.task_run.specs.declared.get.get_chunk.Went.TheVariants as T
use Rattle.task_model.specs.Ran.{refusal}
use Rattle.task_model.specs.Fetching.{Outcome, if_made}
use Rattle.task_run.specs.Get.ChunkFetches.{over_with, Come, Unmeasured, Misfit, Uncopied, Unremoved, Came, IsOfCopy, copied_calls, come_calls, come_result, CopiesOver, Comes}
use Rattle.task_model.proofs.Gains.{gained_remove, gained_size_refused}

refused_end : (fetch part : List ℕ) (at left : ℕ) (ending : List Call) (e : DeskError) → EndsCopy fetch part at left (refusal_of e) ending → EndsRefused e fetch part at ending
refused_end fetch part at left ending E.NoMemory h = h
refused_end fetch part at left ending E.Failed h = h
refused_end fetch part at left ending E.Missing h = h

pub over_uncopied : (part fetch : List ℕ) (n : ℕ) (a b : Option Log) (before after : Checker) (e : DeskError) → Copies a b fetch part n before after (refusal_of e)
    → CopiesOver part fetch n before after a b (over_with (refusal e))
over_uncopied part fetch n a b before after e m = record {
  how = Uncopied m.pieces m.ending e;
  of_copy = tt;
  calls = m.calls;
  result_is = refl;
  so = refused_end fetch part (length (concat m.pieces)) (n - length (concat m.pieces)) m.ending e m.ends;
}

pub over_unremoved : (part fetch : List ℕ) (n k : ℕ) (a b c : Option Log) (before after : Checker) (e : DeskError) → Copies a b fetch part n before after (Ok (Done k))
    → c ≡ logged b (Remove fetch (Err e)) → CopiesOver part fetch n before after a c (over_with (refusal e))
over_unremoved part fetch n k a b c before after e m l = record {
  how = Unremoved m.pieces m.ending e;
  of_copy = tt;
  calls = gained_more a b c (copy_calls fetch part 0 m.pieces ++ m.ending) (if_made (Err e) (Remove fetch (Err e))) m.calls (gained_remove b c fetch (Err e) l);
  result_is = refl;
  so = m.ends;
}

pub over_came : (part fetch : List ℕ) (n k : ℕ) (a b c : Option Log) (before after : Checker) → Copies a b fetch part n before after (Ok (Done k))
    → c ≡ logged b (Remove fetch (Ok tt)) → CopiesOver part fetch n before after a c (Ok T.Whole)
over_came part fetch n k a b c before after m l = record {
  how = Came m.pieces m.ending;
  of_copy = tt;
  calls = gained_more a b c (copy_calls fetch part 0 m.pieces ++ m.ending) (Remove fetch (Ok tt) ∷ []) m.calls (l ∙ gained_call b (Remove fetch (Ok tt)) refl);
  result_is = refl;
  so = (m.ends, m.most, m.checked);
}

pub comes_unmeasured : (part fetch : List ℕ) (n : ℕ) (a b : Option Log) (before : Checker) (e : DeskError) → b ≡ logged a (Size fetch (Err e))
    → Comes part fetch n before before a b (over_with (refusal e))
comes_unmeasured part fetch n a b before e l = record { how = Unmeasured e; calls = gained_size_refused a b fetch e l; result_is = refl; so = tt }

pub comes_misfit : (part fetch : List ℕ) (n m : ℕ) (a b c : Option Log) (before : Checker) (r : Outcome) (result : Result Went NoMemory)
    → b ≡ logged a (Size fetch (Ok m)) → (m == n) ≡ false → c ≡ logged b (Remove part r) → result ≡ come_result (Misfit m r) → Comes part fetch n before before a c result
comes_misfit part fetch n m a b c before r result l d k is = record {
  how = Misfit m r;
  calls = gained_more a b c (Size fetch (Ok m) ∷ []) (if_made r (Remove part r)) (l ∙ gained_call a (Size fetch (Ok m)) refl) (gained_remove b c part r k);
  result_is = is;
  so = d;
}

behind_size : (part fetch : List ℕ) (n : ℕ) (how : Come) → IsOfCopy how → Size fetch (Ok n) ∷ copied_calls part fetch how ≡ come_calls part fetch n how
behind_size part fetch n (Unmeasured e) o = absurd o
behind_size part fetch n (Misfit m r) o = absurd o
behind_size part fetch n (Uncopied pieces ending e) o = refl
behind_size part fetch n (Unremoved pieces ending e) o = refl
behind_size part fetch n (Came pieces ending) o = refl

pub comes_copied : (part fetch : List ℕ) (n : ℕ) (a b c : Option Log) (before after : Checker) (result : Result Went NoMemory)
    → b ≡ logged a (Size fetch (Ok n)) → CopiesOver part fetch n before after b c result → Comes part fetch n before after a c result
comes_copied part fetch n a b c before after result l o = record {
  how = o.how;
  calls = let P : List Call → Type 0 = λ l. Gained a c l in
      subst P (behind_size part fetch n o.how o.of_copy) (gained_more a b c (Size fetch (Ok n) ∷ []) (copied_calls part fetch o.how) (l ∙ gained_call a (Size fetch (Ok n)) refl) o.calls);
  result_is = o.result_is;
  so = o.so;
}
