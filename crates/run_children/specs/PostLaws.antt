-- What follows of the posts of a run.
use Rattle.std.specs.Prelude.{ℕ, ◌≡◌, ◌<◌, true, false, List, [], ◌∷◌, ◌++◌}
use Rattle.journal_model.specs.declared.entry.Entry.{Entry}
use Rattle.journal_model.specs.Journal.{is_tagged}
use Rattle.run_children.specs.Posts.{AllPosted, names}

-- Of the entries that name a child without tags, all that the main thread didn't make are one number's.
abbrev pub HasOneNumber : Type 0
HasOneNumber =
    (front mid back : List Entry) (e f : Entry) (c : ℕ) → AllPosted [] (front ++ e ∷ (mid ++ f ∷ back)) → 0 < e.by → 0 < f.by
    → names c e.what ≡ true → names c f.what ≡ true → is_tagged (front ++ e ∷ mid) c ≡ false → e.by ≡ f.by
