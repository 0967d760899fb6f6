use Rattle.std.proofs.Common.{List, ℕ, arith, false, refl, sym, subst, ◌∙◌, None, true}
use Rattle.ann_outside.specs.Causes.{AddsOne}
use Rattle.ann_outside.specs.Desks.{no_counts}
use Rattle.journal_model.specs.declared.answer.Answer.{Answer}
use Rattle.journal_model.specs.declared.answer.Answer.TheVariants.{StartFault}
use Rattle.journal_model.specs.declared.entry.What.TheVariants.{Start, NoStart}
use Rattle.journal_model.specs.declared.opening.Opening.{Opening}
use Rattle.journal_model.specs.Legality.{Legal}
use Rattle.child_life.proofs.EndLemmas.Held.{lone_held}
use Rattle.crew_work.specs.Worker.KnownLayouts.{IsBook}
use Rattle.run_starts.specs.Stints.{AnswersOne, TurnsAway, next_child}
use Rattle.run_starts.proofs.Leaving.{starts_child, starts_none}
use Rattle.run_starts.proofs.Stinting.{greeting_rests, greeting_started}
use Rattle.run_starts.proofs.Meeting.{came_ready, came_some, came_unready}
use Rattle.run_starts.proofs.Unready.{IsUnready, away_stint, fault_rests, fault_stint}
use Rattle.run_children.proofs.Objects.{one_all}
use Rattle.run_children.proofs.PoolStretch.{greeted_count, greeted_pool, greeted_slot, greeted_unclaimed}
use Rattle.run_children.proofs.Stretching.{away_idle, away_quiet, can_be_served, fault_idle, fault_quiet, job_start, quiet_none, stint_any}
use Rattle.run_children.proofs.beginning.begin_one.Goals as goal

pub turn_away-requires-clause-rest : goal.turn_away-requires-clause-rest
turn_away-requires-clause-rest g c = greeting_rests c.args.core.now.journal c.greet.new.core.journal c.args.offer c.in-Child.link.ear.child c.in-Child.ensures.tells.0 c.requires.may.calm.idle

pub turn_away-requires-clause-started : goal.turn_away-requires-clause-started
turn_away-requires-clause-started g c = greeting_started c.args.core.now.journal c.greet.new.core.journal c.args.offer c.in-Child.link.ear.child c.in-Child.ensures.tells.0

pub unready_answer-requires : goal.unready_answer-requires
unready_answer-requires g c = came_some c.greet.new.core.journal c.in-Child.link.ear.child c.in-Child.came (sym c.in-None.ensures) c.in-Child.ensures.tells.1

pub answer_one-requires-clause-rest : goal.answer_one-requires-clause-rest
answer_one-requires-clause-rest g c =
    fault_rests c.args.core.now.opening c.args.setting.now.plan.now.setup c.args.offer c.args.core.now.journal c.greet.new.core.journal c.greet.new.core.journal (record { counts = no_counts; files = None; log = None }) c.requires.may.left c.requires.may.calm.idle c.in-StartFault.ensures.tells

pub returns-in-Some-clause-begins : goal.returns-in-Some-clause-begins
returns-in-Some-clause-begins g c =
    let o = c.args.core.now.opening in
    let old = c.args.core.now.journal in
    let mid = c.greet.new.core.journal in
    let child = c.in-Child.link.ear.child in
    let tells = c.in-Child.ensures.tells in
    let legal : Legal o mid = subst (λ (w : Opening). Legal w mid) c.greet.ensures.core.opening (c.greet.ensures.core.legal c.requires.may.legal) in
    let is_ready = came_ready mid child c.in-Child.came c.in-Some.tagged (sym c.in-Some.ensures) tells.1 in
    let one = greeted_count o old mid c.args.offer child tells.0 in (
      record {
        stands = record {
          can = can_be_served o old mid c.args.offer child tells.0 c.requires.may.legal legal
              c.in-Child.link.ear c.in-Child.link.mouth c.in-Some.tagged refl is_ready.0 is_ready.1
              (subst (λ (w : Opening). IsBook w.notes) (c.opening.ensures ∙ c.greet.ensures.core.opening) c.know_book.ensures) c.requires.may.calm c.in-Child.ensures.wired;
          few = (let few = c.requires.may.few in omega (arith, one, few));
          pool = λ plain. greeted_pool o old mid c.args.offer child tells.0 is_ready.0 (sym is_ready.1 ∙ plain);
          last = greeted_slot o old mid c.args.offer child tells.0;
          since = greeted_unclaimed o old mid c.args.offer child tells.0;
          last_child = tells.0.next ∙ sym one;
        };
        greeted = tells.0;
        legal = legal;
        ready = is_ready.0;
        tag = is_ready.1;
        adds = subst (λ (p : List ℕ). AddsOne (g.P.Programs.told c.args.programs.now).starts (g.P.Programs.told c.greet.new.programs).starts (p, true)) c.view-program.ensures c.in-Child.ensures.starts;
        later = c.in-Child.ensures.later;
        numbered = c.in-Child.ensures.numbers;
      },
      refl,
    )

pub returns-in-None-clause-begins : goal.returns-in-None-clause-begins
returns-in-None-clause-begins g c desks some =
    let o = c.args.core.now.opening in
    let old = c.args.core.now.journal in
    let mid = c.greet.new.core.journal in
    let new = c.turn_away.new.core.journal in
    let child = c.in-Child.link.ear.child in
    let answer : Answer = c.unready_answer.result in
    let away : TurnsAway o child mid new answer = subst (λ (w : Opening). TurnsAway w child mid new answer) c.greet.ensures.core.opening c.turn_away.ensures.away in
    let unready : IsUnready mid child answer = came_unready mid child c.in-Child.came answer c.in-Child.ensures.tells.1 c.unready_answer.ensures in
    let quiet = away_quiet o c.args.offer old mid new child answer unready.undone c.in-Child.ensures.tells.0 away in
    job_start quiet.more quiet.is
    (one_all quiet.more (quiet_none quiet)
    (starts_child c.args.setting.now.plan.now.program new child c.args.offer (g.P.Programs.told c.args.programs.now) (g.P.Programs.told c.greet.new.programs).starts
    (g.P.Programs.told c.finish.new.programs) (g.P.Programs.told c.greet.new.programs).faults
    c.in-Child.link.ear c.in-Child.link.mouth _ _ (subst (λ (p : List ℕ). AddsOne (g.P.Programs.told c.args.programs.now).starts (g.P.Programs.told c.greet.new.programs).starts (p, true)) c.view-program.ensures c.in-Child.ensures.starts)
    c.finish.ensures.starts c.in-Child.ensures.later c.finish.ensures.later c.in-Child.ensures.numbers refl c.in-Child.link.one_child
    (lone_held new c.in-Child.link.ear c.in-Child.link.mouth (c.turn_away.ensures.wired c.in-Child.ensures.wired)) c.finish.ensures.laid))
    (stint_any o c.args.setting.now.plan.now.setup c.args.setting.now.plan.now.starts c.args.offer c.args.offer (Start child 0 c.args.offer) old new desks some
    (λ d. away_stint o c.args.setting.now.plan.now.setup c.args.offer old mid new child answer d c.requires.may.left c.requires.may.calm.idle c.in-Child.ensures.tells.0 unready away)
    true quiet
    (λ shut. away_idle o child (next_child old) mid new answer c.in-Child.ensures.tells.0.next c.in-Child.ensures.tells.0.idle away))

pub returns-in-StartFault-clause-begins : goal.returns-in-StartFault-clause-begins
returns-in-StartFault-clause-begins g c desks some =
    let o = c.args.core.now.opening in
    let old = c.args.core.now.journal in
    let mid = c.greet.new.core.journal in
    let new = c.answer_one.new.core.journal in
    let one : AnswersOne o mid new (λ t. StartFault) c.answer_one.result = subst (λ (w : Opening). AnswersOne w mid new (λ t. StartFault) c.answer_one.result) c.greet.ensures.core.opening c.answer_one.ensures.answers in
    let quiet = fault_quiet o old mid new StartFault c.answer_one.result c.in-StartFault.ensures.tells one in
    job_start quiet.more quiet.is
    (one_all quiet.more (quiet_none quiet)
    (starts_none c.args.setting.now.plan.now.program new (g.P.Programs.told c.args.programs.now)
    (g.P.Programs.told c.greet.new.programs) _ _
    (subst (λ (p : List ℕ). AddsOne (g.P.Programs.told c.args.programs.now).starts (g.P.Programs.told c.greet.new.programs).starts (p, false)) c.view-program.ensures c.in-StartFault.ensures.starts)
    (c.in-StartFault.ensures.fault refl) c.in-StartFault.ensures.later refl))
    (stint_any o c.args.setting.now.plan.now.setup c.args.setting.now.plan.now.starts c.args.offer c.args.offer (NoStart 0) old new desks some
    (λ d. fault_stint o c.args.setting.now.plan.now.setup c.args.offer old mid new d c.requires.may.left c.requires.may.calm.idle c.in-StartFault.ensures.tells c.answer_one.result one)
    true quiet
    (λ shut. fault_idle o (next_child old) old mid new StartFault c.answer_one.result c.in-StartFault.ensures.tells one shut))
