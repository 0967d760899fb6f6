-- No name stands last in a legal journal, and so none before what is asked next without one.
use Rattle.std.proofs.Common.{◌≡◌, ℕ, List, [], ◌∷◌, ◌++◌, refl, sym, ap, subst, ◌∙◌, append_assoc, Bool, true, false, not, Some, None, Option}
use Rattle.std.specs.Prelude.{◌&&◌, option_and_then}
use Rattle.std.specs.List.{last_or, list_all}
use Rattle.std.proofs.lemmas.List.{append-nil}
use Rattle.journal_model.specs.declared.opening.Opening.{Opening}
use Rattle.journal_model.specs.declared.verdict.Verdict.TheVariants.{Ended}
use Rattle.journal_model.specs.declared.entry.What.{What}
use Rattle.journal_model.specs.declared.entry.What.TheVariants.{Lead, Ask, Put, Mute, Got, End, Verdict as Settled}
use Rattle.journal_model.specs.declared.entry.Entry.{Entry}
use Rattle.annex_model.specs.Messages.{HostMessage, Export, host_line, host_reading}
use Rattle.annex_model.proofs.Readings.{canonical_read}
use Rattle.journal_model.specs.Journal.{addressed, open_jobs}
use Rattle.journal_model.specs.Due.{due_after, due_by, due_by_got, made_by}
use Rattle.journal_model.specs.Legality.{Legal, MayStand}
use Rattle.journal_model.proofs.Growing.{is_lead, groups_from, Led, Steps}
use Rattle.journal_model.proofs.Looks.{entry}
use Rattle.journal_model.proofs.Soft.{is_soft, is_soft_why, soft_got, soft_mute, soft_verdicts}
use Rattle.task_model.specs.Askings.{name_before, name_in, name_said}
use Rattle.ann_key.proofs.Lists.{last_or-append}
use Rattle.std.proofs.lemmas.Bool.{and_parts as both}
use Rattle.ann_key.proofs.Numbers.{same_number as same}

-- the last entry, if there is one, says no name
abbrev pub is_unnamed : Option Entry → Bool
is_unnamed None = true
is_unnamed (Some e) = not (is_lead e.what)

abbrev none_lead : List Entry → Bool
none_lead xs = list_all (λ e. not (is_lead e.what)) xs

soft_none_lead : (by : ℕ) (ws : List What) → list_all is_soft ws ≡ true → none_lead (made_by by ws) ≡ true
soft_none_lead by [] h = refl
soft_none_lead by (Settled child job verdict ∷ ws) h = soft_none_lead by ws h
soft_none_lead by (Put child job line ∷ ws) h = soft_none_lead by ws h
soft_none_lead by (End child why ∷ ws) h = soft_none_lead by ws (both (is_soft_why why) (list_all is_soft ws) h).1
soft_none_lead by (w ∷ ws) h = absurd cc

-- what an entry makes due says no name
due_none_lead : (o : Opening) (past : List Entry) (e : Entry) → none_lead (due_after o past e) ≡ true
due_none_lead o past e = go e.by e.what
  where
    go : (by : ℕ) (w : What) → none_lead (made_by by (due_by o past w)) ≡ true
    go by (Got c line) = soft_none_lead by (due_by_got o past c line) (soft_got o past c line)
    go by (End c why) = soft_none_lead by (due_by o past (End c why)) (soft_verdicts c (Ended why) (open_jobs past c))
    go by (Mute c) = soft_none_lead by (due_by o past (Mute c)) (soft_mute o past c)
    go by w = refl

last_unnamed : (o : Option Entry) (xs : List Entry) → is_unnamed o ≡ true → none_lead xs ≡ true → is_unnamed (last_or o xs) ≡ true
last_unnamed o [] h k = h
last_unnamed o (x ∷ xs) h k = let s = both (not (is_lead x.what)) (none_lead xs) k in last_unnamed (Some x) xs s.0 s.1

pub legal_unnamed : (o : Opening) (past : List Entry) → Legal o past → is_unnamed (last_or None past) ≡ true
legal_unnamed o past legal = groups_from o Ends steps [] [] past refl refl legal.stands legal.nothing_due
  where
    Ends : List Entry → Type 0
    Ends p = is_unnamed (last_or None p) ≡ true

    off : (b : Bool) → b ≡ false → not b ≡ true
    off b h = rw h refl

    steps : Steps o Ends
    steps = record {
      plain = λ p e h may k.
          ap is_unnamed (last_or-append None p (e ∷ due_after o p e))
          ∙ last_unnamed (Some e) (due_after o p e) (off (is_lead e.what) k) (due_none_lead o p e);
      pairs = λ p by child job task name line h led.
          ap is_unnamed (last_or-append None p (entry by (Lead child job name) ∷ entry by (Ask child job task line) ∷ []));
    }

-- where the journal is legal no name is said of what is asked next
pub none_before : (o : Opening) (past : List Entry) (c j : ℕ) → Legal o past → name_before past c j ≡ None
none_before o past c j legal = by_last (last_or None past) (legal_unnamed o past legal)
  where
    by_what : (w : What) → not (is_lead w) ≡ true → name_said past c j w ≡ None
    by_what (Lead child job line) h = absurd cc
    by_what w h = refl

    by_last : (last : Option Entry) → is_unnamed last ≡ true → option_and_then (λ (e : Entry). name_said past c j e.what) last ≡ None
    by_last None h = refl
    by_last (Some e) h = by_what e.what h

-- after a name that is read so, it is the one before its job
pub one_before : (past : List Entry) (by c j : ℕ) (line name : List ℕ) → host_reading (addressed (past ++ entry by (Lead c j line) ∷ []) c line).1 ≡ Some (Export name)
    → name_before (past ++ entry by (Lead c j line) ∷ []) c j ≡ Some name
one_before past by c j line name reads =
    ap (option_and_then (λ (e : Entry). name_said (past ++ entry by (Lead c j line) ∷ []) c j e.what)) (last_or-append None past (entry by (Lead c j line) ∷ []))
    ∙ rw (same c, same j) (ap name_in reads)
