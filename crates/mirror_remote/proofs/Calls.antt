-- The calls that ask the children, as the mirror is seen.
use Rattle.std.proofs.Common.{◌≡◌, ◌∙◌, ℕ, List, [], sym, ap, subst, Bool, true, not}
use Rattle.std.specs.Prelude.{IsTrue, Result, Ok, Err}
use Rattle.std.specs.Str.{IsUtf8, is_utf8}
use Rattle.std.proofs.lemmas.Str.{is_utf8-from_IsUtf8}
use Rattle.ann_key.specs.declared.bytes.NoMemory.{NoMemory}
use Rattle.annex_model.specs.Lines.{has_newline}
use Rattle.annex_model.specs.Messages.{HostMessage, Transfer, is_sent_key}
use Rattle.journal_model.specs.declared.verdict.Verdict.{Verdict}
use Rattle.journal_model.specs.Legality.{is_text}
use Rattle.kit_serve.specs.declared.kit.call.Said.{Said}
use Rattle.mirror_children.specs.Children.{ChildValue}
use Rattle.mirror_children.specs.Rule.{AreAsBefore, Rules, is_mirrored}
use Rattle.mirror_remote.specs.Starts.Outcomes.{MirrorValue}
use Rattle.mirror_children.proofs.Fronts.{before_refl}
use Rattle.std.proofs.lemmas.Bool.{and_from as both_true}

-- ---- the request

-- of the key and the file that were passed
pub transfer_same : (store : Bool) (key file k f : List ℕ) → k ≡ key → f ≡ file → Transfer store k f ≡ Transfer store key file
transfer_same store key file k f same_key same_file = ap (λ (x : List ℕ). Transfer store x f) same_key ∙ ap (λ (x : List ℕ). Transfer store key x) same_file

-- it is one of a mirror's
pub transfer_mirrored : (store : Bool) (key file k f : List ℕ) → k ≡ key → f ≡ file → IsUtf8 file → IsTrue (not (has_newline file)) → IsTrue (is_sent_key key) → is_mirrored (Transfer store k f) ≡ true
transfer_mirrored store key file k f same_key same_file utf8 line sent =
    let whole : is_text file ≡ true = both_true (is_utf8 file) (not (has_newline file)) (is_utf8-from_IsUtf8 file utf8) line in
    subst (λ (q : HostMessage). is_mirrored q ≡ true) (sym (transfer_same store key file k f same_key same_file)) (both_true (is_text file) (is_sent_key key) whole sent)

-- ---- the children

module _ (goes : Verdict → Bool) (q : HostMessage) (says : List ChildValue → List Verdict → Said) (old : MirrorValue) (cs : List ChildValue) (same : cs ≡ old.children) where
  -- no memory was found for the request, so nobody was asked
  pub nobody_asked : (r : Result Said NoMemory) (e : NoMemory) → r ≡ Err e → Rules goes q says old.children cs r
  nobody_asked (Err x) e is = ([], subst (AreAsBefore old.children) (sym same) (before_refl old.children))
  nobody_asked (Ok said) e is = absurd cc

  -- they were asked it
  pub ruled : (asked : HostMessage) (new : List ChildValue) (r : Result Said NoMemory) → asked ≡ q → Rules goes asked says cs new r → Rules goes q says old.children new r
  ruled asked new r is h =
      subst (λ (x : HostMessage). Rules goes x says old.children new r) is (subst (λ (xs : List ChildValue). Rules goes asked says xs new r) same h)
