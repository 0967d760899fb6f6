-- What one start says, and that nothing is started in its stretch.
use Rattle.std.proofs.Common.{◌≡◌, ℕ, List, refl, sym, ap, subst, Bool, true, false, ◌==◌, inl, inr}
use Rattle.std.specs.Prelude.{◌&&◌}
use Rattle.journal_model.specs.declared.entry.What.{What}
use Rattle.journal_model.specs.declared.entry.Entry.{Entry}
use Rattle.journal_model.specs.declared.opening.Opening.{Opening}
use Rattle.journal_model.specs.Journal.{any, offers}
use Rattle.journal_model.specs.Shares.{is_of_child}
use Rattle.run_starts.specs.Starting.{OffersWell, is_any_start, is_offered}
use Rattle.run_starts.specs.Rounds.{IsLostIn, is_of_run}
use Rattle.run_starts.specs.Stints.{IsStart, Stretch, in_stint, next_child}
use Rattle.run_starts.proofs.Apart.{no_start_in}
use Rattle.journal_model.proofs.Across.{none_so as any_none}

-- ---- the start itself

-- what one start says
pub record SaysStart (past : List Entry) (offer : Bool) (first : What) : Type 0 where
  pub asks : is_of_run first ≡ true
  pub loses : (journal : List Entry) → IsLostIn journal first
  pub offers_well : (may : Bool) → offer ≡ (may && is_offered past) → OffersWell may past first
  pub of_none : (d : ℕ) → is_of_child d first ≡ false
  pub offers_next : (d : ℕ) → (next_child past == d) ≡ false → offers d first ≡ false

pub says_start : (past : List Entry) (offer : Bool) (first : What) → IsStart past offer first → SaysStart past offer first
says_start past offer first (inl e) = subst (SaysStart past offer) (sym e) record {
  asks = refl;
  loses = λ journal. tt;
  offers_well = λ may h. h;
  of_none = λ d. refl;
  offers_next = λ d other. ap (λ (b : Bool). b && offer) other;
}
says_start past offer first (inr e) = subst (SaysStart past offer) (sym e) record {
  asks = refl;
  loses = λ journal. tt;
  offers_well = λ may h. tt;
  of_none = λ d. refl;
  offers_next = λ d other. refl;
}

-- ---- what stands after the start

pub starts_none : {o : Opening} {offer next : Bool} {first : What} {old new : List Entry} (s : Stretch o offer next first old new) → any is_any_start s.later ≡ false
starts_none {o} {offer} {next} {first} {old} s = any_none (in_stint (next_child old)) is_any_start (no_start_in (next_child old)) s.later s.within
