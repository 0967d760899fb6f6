-- A live child that has spoken said its version first. It belongs to journal_model.
use Rattle.std.proofs.Common.{◌≡◌, ℕ, List, ◌++◌, sym, ap, ◌∙◌, true, false, Some, None, Option, inl, inr}
use Rattle.std.specs.Prelude.{IfNone, is_some}
use Rattle.journal_model.specs.declared.verdict.Why.{Why}
use Rattle.journal_model.specs.declared.entry.Entry.{Entry}
use Rattle.journal_model.specs.declared.opening.Opening.{Opening}
use Rattle.journal_model.specs.Journal.{ends, got_from, is_ended, why_of}
use Rattle.journal_model.specs.Legality.{Legal, said_version}
use Rattle.journal_model.proofs.Linking.{why_is_end}
use Rattle.child_link.specs.Asks.{HasBegun}
use Rattle.child_link.proofs.Roles.{any_on}
use Rattle.journal_model.proofs.Versions.{spoke_version}
use Rattle.ann_key.proofs.Booleans.{true_and_false as true_not_false}

-- where a child that has ended or has spoken has no reason to have ended, it said its version
pub version_where_none : (o : Opening) (past new more : List Entry) (c : ℕ) (why : Option Why) → Legal o new → new ≡ past ++ more → HasBegun past c → why ≡ why_of new c
    → IfNone why (said_version new c ≡ true)
version_where_none o past new more c (Some w) legal is begun e = tt
version_where_none o past new more c None legal is begun e = go begun
  where
    live : is_ended new c ≡ false
    live = sym (why_is_end new c) ∙ ap is_some (sym e)

    go : HasBegun past c → said_version new c ≡ true
    go (inl ended) = true_not_false (is_ended new c) (any_on (ends c) past more new is ended) live
    go (inr spoken) = spoke_version o new legal c (any_on (got_from c) past more new is spoken) live
