-- A text that isn't there isn't told at status 0.
use Rattle.std.proofs.Common.{◌≡◌, ◌⊎◌, ◌∙◌, ℕ, List, [], ◌∷◌, Option, Some, None, refl, sym, ap, subst, inl, inr, lit≤}
use Rattle.std.specs.Prelude.{IfSome, codes}
use Rattle.ann_outside.specs.Files.{Files, content}
use Rattle.ann_outside.specs.Told.{DeskTold}
use Rattle.audit_command.specs.Recoveries.{EndsRecovery, RecoverDesks, HasRecovered}
use Rattle.audit_command.specs.declared.recover.made.RecoverEnd.{RecoverEnd}
use Rattle.audit_command.specs.declared.recover.made.RecoverEnd.TheVariants.{FileFailed, TextTooLarge, Refused, Memory, Unbegun, Wrong, Answered}
use Rattle.cli_words.specs.Texts.{file_line}
use Rattle.special_cli.specs.Recoveries.{end_of_recovery, recovered_in}
use Rattle.special_cli.specs.Tells.{IsToldOf}
use Rattle.special_bin.specs.Laws.Lost.{IsLost, empty_desk, having_made, lost_left, lost_names, nothing_read, took}
use Rattle.special_bin.proofs.LawsLemmas.AtZero.{not_zero}

-- it is told at status 6
pub lost_told : IsLost 6 file_line
lost_told = (
  end_of_recovery FileFailed,
  record {
    end = FileFailed;
    made = inr (inr record {
      d = record { read = Some []; reader = empty_desk 1; told = Some []; keeper = empty_desk 0 };
      tables = refl;
      between = Some (record { number = 0; files = Some [] } ∷ []);
      first = refl;
      second = refl;
      ends = (refl, inr (lit≤ tt), λ other named. refl);
      kept = tt;
      named = tt;
      same = refl;
    });
    programs = refl;
    answers = refl;
    wires = refl;
    end_is = refl;
  },
  record { given = refl; left = refl; faults = refl },
  (inl record { status_is = refl; appended = refl }, record { faults = refl; taken = refl }),
)

-- no desk told a text
no_text : {A : Type 0} (read : Option Files) (text : List ℕ) → read ≡ Some [] → IfSome read (λ files. content (codes "j") files ≡ Some text) → A
no_text read text none is = absurd (let bad : None ≡ Some text = subst (λ (r : Option Files). IfSome r (λ files. content (codes "j") files ≡ Some text)) none is in cc)

ends_at_zero : {A : Type 0} (d : RecoverDesks) (end : RecoverEnd) → d.read ≡ Some [] → EndsRecovery lost_names d [] end → IsToldOf lost_left 0 (took []) (took []) (end_of_recovery end) → A
ends_at_zero d FileFailed none ends told = not_zero 6 _ (took []) refl told.0
ends_at_zero d TextTooLarge none ends told = not_zero 6 _ (took []) refl told.0
ends_at_zero d (Refused line) none ends (inl said) = not_zero 3 _ (took []) refl said.0
ends_at_zero d (Refused line) none ends (inr said) = not_zero 7 _ (took []) refl said.0
ends_at_zero d Memory none ends told = not_zero 7 _ (took []) refl told.0
ends_at_zero d Unbegun none ends told = no_text d.read ends.1.0 none ends.1.1
ends_at_zero d (Wrong misplaced) none ends (inl said) = not_zero 1 _ (took []) refl said.0
ends_at_zero d (Wrong misplaced) none ends (inr said) = not_zero 7 _ (took []) refl said.0
ends_at_zero d (Answered answers kept) none ends told = no_text d.read ends.text none ends.is

-- it isn't told at status 0
pub lost_unbegun : IsLost 0 [] → ⊥
lost_unbegun (end, h, unread, told) = go h.made
  where
    second : (a b : DeskTold) → empty_desk 0 ∷ empty_desk 1 ∷ [] ≡ a ∷ b ∷ [] → empty_desk 1 ≡ b
    second a b e = cc

    go : HasRecovered lost_names (Some []) lost_left.outside.made (recovered_in lost_left h.end) → ⊥
    go (inl idle) = let bad : empty_desk 0 ∷ empty_desk 1 ∷ [] ≡ [] = idle.tables in cc
    go (inr (inl one)) = let bad : empty_desk 0 ∷ empty_desk 1 ∷ [] ≡ one.table ∷ [] = one.tables in cc
    go (inr (inr both)) =
        ends_at_zero both.d h.end (sym both.same ∙ ap (λ (t : DeskTold). t.files) (sym (second both.d.keeper both.d.reader both.tables))) both.ends
        (subst (IsToldOf lost_left 0 (took []) (took [])) h.end_is told)
