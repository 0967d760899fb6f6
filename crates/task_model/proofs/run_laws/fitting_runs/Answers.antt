use Rattle.std.proofs.Common.{rules, refl, sym, subst, ap, ◌∙◌}
use Rattle.std.specs.Fmt.{digits}
use Rattle.annex_model.specs.Messages.{HostMessage, Transfer}
use Rattle.std.specs.Prelude.{bytes_eq}
use Rattle.ann_outside.specs.declared.file_desk.Call.{Call}
use Rattle.ann_outside.specs.declared.file_desk.Call.TheVariants.{Size, ReadAt, Cut}
use Rattle.task_model.specs.Reads.{holds, are_found_so}
use Rattle.task_model.specs.Rows.{sized, moved, renamed, fetched_1, fetched_2_1, resumed_ten, ten_bytes}
use Rattle.task_model.proofs.HeldLaws.{holds_more, so_front, so_behind, holds_cut}
use Rattle.task_model.proofs.run_laws.fitting_runs.Goals as goal
use Rattle.std.specs.Prelude.{Option, Some, Ok, unwrap_or, ◌∷◌, ℕ, List, ◌≡◌, ◌++◌, true, false, [], codes}
use Rattle.ann_key.proofs.Lists.{same_name}
use Rattle.ann_digest.proofs.WormKeys.{no_digest}

-- two contents that differ
not_all : (a b : List ℕ) → bytes_eq a b ≡ false → Some a ≡ Some b → ⊥
not_all a b d e =
    let P : Option (List ℕ) → Type 0 = λ o. bytes_eq a (unwrap_or o []) ≡ true in
    let h : false ≡ true = sym d ∙ subst P e (same_name a) in cc

not_ten : (a : List ℕ) → bytes_eq a ten_bytes ≡ false → Some a ≡ Some ten_bytes → ⊥
not_ten a d e = not_all a ten_bytes d e

pub returns-clause-got : goal.returns-clause-got
unfolding digits
returns-clause-got c = record {
  asked_till_stop = refl;
  calls_till_stop = refl;
  found = refl;
  work = (
    record { names = refl; changes = refl; lengths = refl },
    record { in_order = search rules; each_failed = refl; each_begun = refl; each_right = refl; held_read = refl; fetched_read = refl },
    refl,
  );
  answered = record { answered = record { begun = refl; by_length = (refl, record { said = record { size = refl; name = λ naming e. absurd (no_digest naming.kind naming.extended e) }; held_whole = refl; fetched_whole = refl }); part = record { moved = refl; held = λ before found. refl; renamed = refl } } };
}

pub returns-clause-got_own : goal.returns-clause-got_own
unfolding digits
returns-clause-got_own c = record {
  asked_till_stop = refl;
  calls_till_stop = refl;
  found = refl;
  work = (
    record { names = refl; changes = refl; lengths = refl },
    record { in_order = search rules; each_failed = refl; each_begun = refl; each_right = refl; held_read = refl; fetched_read = refl },
    refl,
  );
  answered = record { answered = record { begun = refl; by_length = (refl, record { said = record { size = refl; name = λ naming e. absurd (no_digest naming.kind naming.extended e) }; held_whole = refl; fetched_whole = refl }); part = record { moved = refl; held = λ before found. refl; renamed = refl } } };
}

-- what is removed after the renaming isn't got
pub returns-clause-got_away : goal.returns-clause-got_away
unfolding digits
returns-clause-got_away c = λ r. let h : false ≡ true = r.answered.answered.part.renamed in cc

-- what part held, cut to eight bytes, is what was read of it
resumed_holds : (before : List ℕ) → are_found_so (codes "o.part") (Some before) resumed_ten ≡ true → holds (codes "o.part") (Some before) resumed_ten ≡ Some ten_bytes
resumed_holds before found =
    let looks : List Call = ReadAt (codes "o.part") 0 (Ok (codes "01234567")) ∷ [] in
    let front : List Call = Size (codes "o.part") (Ok 9) ∷ Cut (codes "o.part") 8 (Ok tt) ∷ looks in
    let more : List Call = sized fetched_1 2 ++ moved fetched_1 (codes "o.part") (codes "89") ++ renamed in
    let so : are_found_so (codes "o.part") (Some before) front ≡ true = so_front (codes "o.part") (Some before) front more found in
    let behind : are_found_so (codes "o.part") (Some before) (Cut (codes "o.part") 8 (Ok tt) ∷ looks) ≡ true =
    so_behind (codes "o.part") (Some before) (Size (codes "o.part") (Ok 9) ∷ []) (Cut (codes "o.part") 8 (Ok tt) ∷ looks) so in
    holds_more (codes "o.part") (Some before) front more ∙ ap (λ o. holds (codes "o.part") o more) (holds_cut (codes "o.part") before 8 looks refl refl behind)

pub returns-clause-resumed : goal.returns-clause-resumed
unfolding digits
returns-clause-resumed c = record {
  asked_till_stop = refl;
  calls_till_stop = refl;
  found = refl;
  work = (
    record { names = refl; changes = refl; lengths = refl },
    record { in_order = search rules; each_failed = refl; each_begun = refl; each_right = refl; held_read = refl; fetched_read = refl },
    refl,
  );
  answered = record { answered = record { begun = refl; by_length = (refl, record { said = record { size = refl; name = λ naming e. absurd (no_digest naming.kind naming.extended e) }; held_whole = refl; fetched_whole = refl }); part = record { moved = refl; held = resumed_holds; renamed = refl } } };
}

pub returns-clause-got_then : goal.returns-clause-got_then
unfolding digits
returns-clause-got_then c = record {
  asked_till_stop = refl;
  calls_till_stop = refl;
  found = refl;
  work = (
    record { names = refl; changes = refl; lengths = refl },
    record { in_order = search rules; each_failed = refl; each_begun = refl; each_right = refl; held_read = refl; fetched_read = refl },
    refl,
  );
  answered = record { answered = record { begun = refl; by_length = (refl, record { said = record { size = refl; name = λ naming e. absurd (no_digest naming.kind naming.extended e) }; held_whole = refl; fetched_whole = refl }); part = record { moved = refl; held = λ before found. refl; renamed = refl } } };
}

abbrev file_named : HostMessage → List ℕ
file_named (Transfer store key file) = file
file_named _ = []

-- its request names the file of another task
pub returns-clause-got_as_other : goal.returns-clause-got_as_other
unfolding digits
returns-clause-got_as_other c = λ r.
    let P : HostMessage → Type 0 = λ m. bytes_eq (file_named m) fetched_2_1 ≡ true in
    let h : false ≡ true = subst P r.work.1.in_order.0.0.0 refl in cc

pub returns-clause-got_again : goal.returns-clause-got_again
unfolding digits
returns-clause-got_again c = record {
  asked_till_stop = refl;
  calls_till_stop = refl;
  found = refl;
  work = (
    record { names = refl; changes = refl; lengths = refl },
    record { in_order = search rules; each_failed = refl; each_begun = refl; each_right = refl; held_read = refl; fetched_read = refl },
    refl,
  );
  answered = record { answered = record { begun = refl; by_length = (refl, record { said = record { size = refl; name = λ naming e. absurd (no_digest naming.kind naming.extended e) }; held_whole = refl; fetched_whole = refl }); part = record { moved = refl; held = λ before found. refl; renamed = refl } } };
}

-- the files of another turn have other names
pub returns-clause-other_turn : goal.returns-clause-other_turn
unfolding digits
returns-clause-other_turn c = λ r.
    let P : HostMessage → Type 0 = λ m. bytes_eq (file_named m) fetched_1 ≡ true in
    let h : false ≡ true = subst P r.work.1.in_order.0.0.0 refl in cc

-- where part held nine bytes at first, it holds others in the end
pub returns-clause-grown_on_nine : goal.returns-clause-grown_on_nine
unfolding digits
returns-clause-grown_on_nine c = λ r. not_ten (codes "01234567889") refl (r.answered.answered.part.held (codes "012345678") refl)

pub returns-clause-cut_behind_resumed : goal.returns-clause-cut_behind_resumed
unfolding digits
returns-clause-cut_behind_resumed c = λ r. not_ten (codes "012345678") refl (r.answered.answered.part.held (codes "012345678") refl)

pub returns-clause-cut_behind : goal.returns-clause-cut_behind
unfolding digits
returns-clause-cut_behind c = λ r. not_all (codes "ab") (codes "abc") refl (r.answered.answered.part.held [] refl)
