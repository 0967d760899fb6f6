use Rattle.std.proofs.Common.{◌≡◌, ℕ, List, refl, true, arith}
use Rattle.journal_model.specs.declared.entry.What.{What}
use Rattle.journal_model.specs.declared.entry.Entry.{Entry}
use Rattle.journal_model.specs.Journal.{is_started}
use Rattle.crew_work.specs.Laws.Posts.{makes}
use Rattle.run_children.specs.Posts.{IsPosted, are_paired, post_over}
use Rattle.run_children.proofs.rows.paired_numbers.Goals as goal

-- the main thread's
own : (past : List Entry) (w : What) → IsPosted past 0 w
own past w = λ some. absurd (let bad : ⊥ = omega (arith, some) in bad)

over : (past : List Entry) (by c : ℕ) (w : What) → is_started past c ≡ true → makes (post_over past c by) w ≡ true → are_paired past c by ≡ true → IsPosted past by w
over past by c w started made paired = λ some. (c, record { started = started; made = made; paired = λ plain. paired })

pub returns-clause-two : goal.returns-clause-two
returns-clause-two f = (own _ _, (own _ _, (over _ 2 1 _ refl refl refl, (over _ 3 2 _ refl refl refl, (over _ 3 2 _ refl refl refl, (over _ 2 1 _ refl refl refl, tt))))))

pub returns-clause-next : goal.returns-clause-next
returns-clause-next f = (
  own _ _,
  (
    own _ _,
    (
      over _ 2 1 _ refl refl refl,
      (
        over _ 3 2 _ refl refl refl,
        (
          over _ 3 2 _ refl refl refl,
          (
            over _ 2 1 _ refl refl refl,
            (over _ 3 2 _ refl refl refl, (over _ 3 2 _ refl refl refl, (own _ _, (own _ _, (own _ _, (over _ 2 3 _ refl refl refl, tt)))))),
          ),
        ),
      ),
    ),
  ),
)
