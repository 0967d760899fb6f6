-- What a call says of the children that it asked.
use Rattle.std.proofs.Common.{◌≡◌, ◌∙◌, ◌==◌, ℕ, zero, suc, ◌<◌, List, [], ◌∷◌, ◌++◌, refl, sym, ap, Bool, true, false, not, length, slice_index_or, arith}
use Rattle.std.specs.Prelude.{if◌then◌else◌, codes, Result, Ok, Err, IfOk}
use Rattle.ann_key.specs.declared.bytes.NoMemory.{NoMemory}
use Rattle.annex_model.specs.Messages.{HostMessage}
use Rattle.journal_model.specs.declared.verdict.Verdict.{Verdict}
use Rattle.kit_serve.specs.declared.kit.call.Said.{Said}
use Rattle.kit_serve.specs.declared.kit.call.Said.TheVariants.{Yes, No}
use Rattle.mirror_children.specs.Children.{ChildValue}
use Rattle.mirror_children.specs.Asking.{AskedTo}
use Rattle.mirror_children.specs.Rule.{all_said, check_said, failure, is_absent, is_done, last_refusal, refusal, retrieve_said, Answers, AnswersOver, Rules, RulesAll, RulesCheck, RulesRetrieve}
use Rattle.mirror_children.proofs.Fronts.{answers_all, answers_any, answers_check, refused_by}
use Rattle.std.proofs.lemmas.Bool.{eqb-true as same_number}

-- a mirror without children
pub none_rules : (goes : Verdict → Bool) (q : HostMessage) (says : List ChildValue → List Verdict → Said) (cs : List ChildValue) (r : Result Said NoMemory) → length cs ≡ 0
    → IfOk r (λ said. said ≡ failure (codes "not prepared")) → Rules goes q says cs cs r
none_rules goes q says [] (Ok said) none h = (refl, h)
none_rules goes q says [] (Err e) none h = ([], tt)
none_rules goes q says (c ∷ cs) r none h = absurd (let bad : suc (length cs) ≡ 0 = none in omega (arith, bad))

over : (goes : Verdict → Bool) (q : HostMessage) (says : List ChildValue → List Verdict → Said) (old new : List ChildValue) (said : Said) → 0 < length old
    → Answers goes q says old new said → AnswersOver goes q says old new said
over goes q says [] new said some a = absurd (omega (arith, some))
over goes q says (c ∷ old) new said some a = a

module _ (q : HostMessage) (old new : List ChildValue) (at : ℕ) (v : Verdict) (some : 0 < length old) where
  module _ (a : AskedTo is_done q old new at v) where
    -- each child did it
    pub all_yes : is_done v ≡ true → RulesAll q old new (Ok Yes)
    all_yes done = over is_done q all_said old new Yes some (answers_all q old new at v a Yes (ap (λ (b : Bool). if b then Yes else last_refusal new (a.before ++ v ∷ [])) (sym done)))

    -- the last one didn't
    pub all_refused : (c : ChildValue) (r : Result Said NoMemory) → is_done v ≡ false → slice_index_or new at c ≡ c → IfOk r (λ said. said ≡ refusal c v) → RulesAll q old new r
    all_refused c (Ok said) fails here h =
        over is_done q all_said old new said some
        (answers_all q old new at v a said (h ∙ sym (refused_by q old new at v a c here) ∙ ap (λ (b : Bool). if b then Yes else last_refusal new (a.before ++ v ∷ [])) (sym fails)))
    all_refused c (Err e) fails here h = (a.before ++ v ∷ [], a.asked)

    -- each child has it
    pub check_yes : is_done v ≡ true → RulesCheck q old new (Ok Yes)
    check_yes done =
        over is_done q check_said old new Yes some
        (answers_check q old new at v a Yes (ap (λ (b : Bool). if b then Yes else if is_absent v then No else last_refusal new (a.before ++ v ∷ [])) (sym done)))

    -- the last one says that it isn't there
    pub check_no : is_done v ≡ false → is_absent v ≡ true → RulesCheck q old new (Ok No)
    check_no fails absent =
        over is_done q check_said old new No some
        (answers_check q old new at v a No (ap (λ (b : Bool). if b then No else last_refusal new (a.before ++ v ∷ [])) (sym absent)
        ∙ ap (λ (b : Bool). if b then Yes else if is_absent v then No else last_refusal new (a.before ++ v ∷ [])) (sym fails)))

    -- the last one doesn't know
    pub check_refused : (c : ChildValue) (r : Result Said NoMemory) → is_done v ≡ false → is_absent v ≡ false → slice_index_or new at c ≡ c → IfOk r (λ said. said ≡ refusal c v) → RulesCheck q old new r
    check_refused c (Ok said) fails there here h =
        over is_done q check_said old new said some
        (answers_check q old new at v a said (h ∙ sym (refused_by q old new at v a c here) ∙ ap (λ (b : Bool). if b then No else last_refusal new (a.before ++ v ∷ [])) (sym there)
        ∙ ap (λ (b : Bool). if b then Yes else if is_absent v then No else last_refusal new (a.before ++ v ∷ [])) (sym fails)))
    check_refused c (Err e) fails there here h = (a.before ++ v ∷ [], a.asked)

  module _ (a : AskedTo (λ v. not (is_done v)) q old new at v) where
    -- the last one gave it
    pub any_yes : is_done v ≡ true → RulesRetrieve q old new (Ok Yes)
    any_yes done = over (λ v. not (is_done v)) q retrieve_said old new Yes some (answers_any q old new at v a Yes (ap (λ (b : Bool). if b then Yes else failure (codes "no mirror gave it")) (sym done)))

    -- none did
    pub any_refused : (r : Result Said NoMemory) → is_done v ≡ false → IfOk r (λ said. said ≡ failure (codes "no mirror gave it")) → RulesRetrieve q old new r
    any_refused (Ok said) fails h =
        over (λ v. not (is_done v)) q retrieve_said old new said some
        (answers_any q old new at v a said (h ∙ ap (λ (b : Bool). if b then Yes else failure (codes "no mirror gave it")) (sym fails)))
    any_refused (Err e) fails h = (a.before ++ v ∷ [], a.asked)

-- ---- whether there is a child

-- a list that isn't empty by its count
pub some_left : (b : Bool) (n m : ℕ) → b ≡ false → b ≡ (n == 0) → n ≡ m → 0 < m
some_left true n m fails is same = absurd cc
some_left false zero m fails is same = absurd cc
some_left false (suc n) m fails is same = omega (arith, same)

-- and one that is
pub none_left : (b : Bool) (n m : ℕ) → b ≡ true → b ≡ (n == 0) → n ≡ m → m ≡ 0
none_left true n m holds is same = sym same ∙ same_number n 0 (sym is)
none_left false n m holds is same = absurd cc
