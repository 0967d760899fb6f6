use Rattle.std.proofs.Common.{◌≡◌, ◌<◌, ◌∙◌, ℕ, List, refl, sym, ap, subst, map, take, length, arith, inr, true, false, None}
use Rattle.std.specs.Prelude.{is_some}
use Rattle.annex_model.specs.Messages.{HostMessage}
use Rattle.journal_model.specs.declared.entry.Entry.{Entry}
use Rattle.journal_model.specs.Journal.{is_started}
use Rattle.journal_model.specs.Projection.{final_in}
use Rattle.host_talk.specs.Request.Requests.{message_of}
use Rattle.child_link.specs.Alone.{AskedAlone}
use Rattle.child_link.proofs.Roles.{same_both}
use Rattle.child_link.proofs.Solo.{keeps_own, keeps_both}
use Rattle.info_and_init.specs.Info.Askings.{Asks, MayGoOn}
use Rattle.info_and_init.proofs.InfoLemmas.Asked.{may_next, goes_on, stops, asked_plain, asked_question, question_named, one_more, front, front_either}
use Rattle.info_and_init.proofs.info.asking.ask_each.Goals as goal

pub ask_alone-requires-clause-may : goal.ask_alone-requires-clause-may
ask_alone-requires-clause-may g c =
    let before = c.loop-request.invariant in
    let within : c.loop-request.request-index < length c.args.requests.now = omega arith in
    may_next (map message_of (take c.loop-request.request-index c.args.requests.now)) (g.D.Door.view c.args.door.now).seen (g.D.Door.view c.loop-request.door).seen
    c.args.link.now.ear.child c.loop-request.link.ear.child (g.D.Door.view c.loop-request.door).number (message_of c.request-item.result) before.link.same_ear.0 (before.door.number ∙ c.requires.main.first) before.goes
    (asked_question c.args.requests.now c.loop-request.request-index c.request-item.result c.requires.questions within c.request-item.is)

pub ask_alone-requires-clause-named : goal.ask_alone-requires-clause-named
ask_alone-requires-clause-named g c =
    question_named c.request-item.result (asked_question c.args.requests.now c.loop-request.request-index c.request-item.result c.requires.questions (omega arith) c.request-item.is)

pub returns-in_err-verdict-clause-asks : goal.returns-in_err-verdict-clause-asks
returns-in_err-verdict-clause-asks g c =
    let old = (g.D.Door.view c.args.door.now).seen in
    subst (λ (new : List Entry). (n : ℕ) × Asks (take n (map message_of c.args.requests.now)) old new c.args.link.now.ear.child) (sym c.in_err-verdict.ensures.none)
    (front c.args.requests.now c.loop-request.request-index old (g.D.Door.view c.loop-request.door).seen c.args.link.now.ear.child c.loop-request.invariant.goes.asks)

pub returns-then-not-is_final-clause-asks : goal.returns-then-not-is_final-clause-asks
returns-then-not-is_final-clause-asks g c =
    let before = c.loop-request.invariant in
    let mid = (g.D.Door.view c.loop-request.door).seen in
    let new = (g.D.Door.view c.ask_alone.new.door).seen in
    let o = (g.D.Door.view c.loop-request.door).opening in
    let by = (g.D.Door.view c.loop-request.door).number in
    let q = message_of c.request-item.result in
    let v = c.in_ok-verdict.verdict in
    let over : is_some (final_in v) ≡ false = cc in
    let within : c.loop-request.request-index < length c.args.requests.now = omega arith in
    let end =
    stops o (g.D.Door.view c.ask_alone.new.door).opening (map message_of (take c.loop-request.request-index c.args.requests.now)) (g.D.Door.view c.args.door.now).seen mid new c.args.link.now.ear.child by q (before.door.number ∙ c.requires.main.first) before.goes v
    ((same_both before.door c.in_ok-verdict.ensures.door).legal c.requires.legal) over (subst (λ (k : ℕ). AskedAlone o mid new by k 0 None q v) before.link.same_ear.0
    (asked_plain o mid new by c.loop-request.link.ear.child c.request-item.result v (asked_question c.args.requests.now c.loop-request.request-index c.request-item.result c.requires.questions (omega arith) c.request-item.is) c.in_ok-verdict.ensures.asked)) in
    front_either c.args.requests.now c.loop-request.request-index c.request-item.result (g.D.Door.view c.args.door.now).seen new c.args.link.now.ear.child within c.request-item.is end.0

pub returns-then-not-is_final-clause-comes : goal.returns-then-not-is_final-clause-comes
returns-then-not-is_final-clause-comes g c =
    let before = c.loop-request.invariant in
    let mid = (g.D.Door.view c.loop-request.door).seen in
    let new = (g.D.Door.view c.ask_alone.new.door).seen in
    let o = (g.D.Door.view c.loop-request.door).opening in
    let by = (g.D.Door.view c.loop-request.door).number in
    let q = message_of c.request-item.result in
    let v = c.in_ok-verdict.verdict in
    let over : is_some (final_in v) ≡ false = cc in
    let end =
    stops o (g.D.Door.view c.ask_alone.new.door).opening (map message_of (take c.loop-request.request-index c.args.requests.now)) (g.D.Door.view c.args.door.now).seen mid new c.args.link.now.ear.child by q (before.door.number ∙ c.requires.main.first) before.goes v
    ((same_both before.door c.in_ok-verdict.ensures.door).legal c.requires.legal) over (subst (λ (k : ℕ). AskedAlone o mid new by k 0 None q v) before.link.same_ear.0
    (asked_plain o mid new by c.loop-request.link.ear.child c.request-item.result v (asked_question c.args.requests.now c.loop-request.request-index c.request-item.result c.requires.questions (omega arith) c.request-item.is) c.in_ok-verdict.ensures.asked)) in
    inr end.1

pub loop-request-preserved : goal.loop-request-preserved
loop-request-preserved g c =
    let before = c.loop-request.invariant in
    let after = c.in_ok-verdict.ensures in
    let old = (g.D.Door.view c.args.door.now).seen in
    let mid = (g.D.Door.view c.loop-request.door).seen in
    let new = (g.D.Door.view c.ask_alone.new.door).seen in
    let o = (g.D.Door.view c.loop-request.door).opening in
    let by = (g.D.Door.view c.loop-request.door).number in
    let q = message_of c.request-item.result in
    let v = c.in_ok-verdict.verdict in
    let final : is_some (final_in v) ≡ true = cc in
    let within : c.loop-request.request-index < length c.args.requests.now = omega arith in
    record {
      goes =
          subst (λ (qs : List HostMessage). MayGoOn qs old new c.args.link.now.ear.child) (one_more c.args.requests.now c.loop-request.request-index c.request-item.result within c.request-item.is)
          (goes_on o (map message_of (take c.loop-request.request-index c.args.requests.now)) old mid new c.args.link.now.ear.child by q (before.door.number ∙ c.requires.main.first) before.goes v final
          (subst (λ (k : ℕ). AskedAlone o mid new by k 0 None q v) before.link.same_ear.0
          (asked_plain o mid new by c.loop-request.link.ear.child c.request-item.result v (asked_question c.args.requests.now c.loop-request.request-index c.request-item.result c.requires.questions (omega arith) c.request-item.is) after.asked)));
      link = keeps_both before.link after.link;
      door = same_both before.door after.door;
    }

pub returns-clause-asks : goal.returns-clause-asks
returns-clause-asks g c =
    front c.args.requests.now c.loop-request.request-index (g.D.Door.view c.args.door.now).seen (g.D.Door.view c.loop-request.door).seen c.args.link.now.ear.child c.loop-request.invariant.goes.asks

pub loop-request-init : goal.loop-request-init
loop-request-init g c = record {
  goes = c.requires.begins;
  link = keeps_own (λ h. h);
  door = record { opening = refl; number = refl; alone = refl; loans = refl; home = refl; legal = λ h. h };
}

pub ask_alone-requires-clause-alone : goal.ask_alone-requires-clause-alone
ask_alone-requires-clause-alone g c = c.loop-request.invariant.door.alone ∙ c.requires.main.lone

pub ask_alone-requires-clause-started : goal.ask_alone-requires-clause-started
ask_alone-requires-clause-started g c = ap (is_started (g.D.Door.view c.loop-request.door).seen) c.loop-request.invariant.link.same_ear.0 ∙ c.loop-request.invariant.goes.started

pub ask_alone-requires-clause-legal : goal.ask_alone-requires-clause-legal
ask_alone-requires-clause-legal g c = c.loop-request.invariant.door.legal c.requires.legal

pub returns-in_err-verdict-clause-link : goal.returns-in_err-verdict-clause-link
returns-in_err-verdict-clause-link g c = keeps_both c.loop-request.invariant.link c.in_err-verdict.ensures.link

pub returns-in_err-verdict-clause-door : goal.returns-in_err-verdict-clause-door
returns-in_err-verdict-clause-door g c = same_both c.loop-request.invariant.door c.in_err-verdict.ensures.door

pub returns-then-not-is_final-clause-link : goal.returns-then-not-is_final-clause-link
returns-then-not-is_final-clause-link g c = keeps_both c.loop-request.invariant.link c.in_ok-verdict.ensures.link

pub returns-then-not-is_final-clause-door : goal.returns-then-not-is_final-clause-door
returns-then-not-is_final-clause-door g c = same_both c.loop-request.invariant.door c.in_ok-verdict.ensures.door
