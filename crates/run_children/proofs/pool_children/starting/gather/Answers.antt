use Rattle.std.proofs.Common.{◌++◌, ◌∷◌, [], ap, sym, subst, ◌∙◌, map, refl, length, vec_len, arith}
use Rattle.std.proofs.lemmas.List.{length-map}
use Rattle.journal_model.specs.declared.opening.Opening.{Opening}
use Rattle.journal_model.specs.Legality.{Legal}
use Rattle.crew_rounds.specs.Tagged.Tagged.{link_of}
use Rattle.run_starts.proofs.Ending.{cores_both}
use Rattle.run_children.specs.PoolChildren.Pools.{Serves, seat_value}
use Rattle.run_children.proofs.PoolChildrenLemmas.Gathers.{begins_as, below_slot, next_seat, short_pool, whole_pool, within_jobs}
use Rattle.run_children.proofs.pool_children.starting.gather.Goals as goal

pub slots-init : goal.slots-init
slots-init g c =
    record {
      standing = begins_as c.args.core.now.opening c.args.jobs c.args.program.now c.args.core.now.journal (link_of c.args.link.ear c.args.link.mouth) (g.P.Programs.told c.args.programs.now) c.requires.can
          _ _ c.requires.pool c.requires.last c.requires.since c.requires.last_child c.args.link.one_child
          (c.seat_serving.ensures.seats ∙ ap (λ xs. map seat_value xs ++ Serves ∷ []) c.in-Ok.ensures.none.1)
          (c.seat_serving.ensures.links ∙ ap (λ ls. map (λ l. link_of l.ear l.mouth) ls ++ link_of c.args.link.ear c.args.link.mouth ∷ []) c.in-Ok.ensures.none.0);
      core = record { opening = refl; legal = λ l. l };
      room = (
        (let had = c.in-Ok.ensures.room.0 in let now = c.seat_serving.ensures.room.0 in omega (arith, had, now)),
        (let had = c.in-Ok.ensures.room.1 in let now = c.seat_serving.ensures.room.1 in omega (arith, had, now)),
      );
    }

pub seat_one-requires-clause-room : goal.seat_one-requires-clause-room
seat_one-requires-clause-room g c = λ κs within.
    let low = below_slot c.slots.invariant.standing (vec_len c.slots.pool.links) (vec_len c.slots.pool.seats) (c.slots.pool.links.ok.0 ∙ sym (length-map c.slots.pool.links.items _)) (c.slots.pool.seats.ok.0 ∙ sym (length-map c.slots.pool.seats.items _)) in
    let test = c.slots-test.true in
    let room = c.slots.invariant.room in
    (omega (arith, low.0, test, room.0), omega (arith, low.1, test, room.1))

pub slots-preserved : goal.slots-preserved
slots-preserved g c =
    let o = c.args.core.now.opening in
    let cur = c.slots.core.journal in
    let new = c.seat_one.new.core.journal in
    let same = c.slots.invariant.core.opening in
    let core = c.in_default-seat_one.ensures.core in
    let legal : Legal o new = subst (λ (w : Opening). Legal w new) (core.opening ∙ same) (core.legal (subst (λ (w : Opening). Legal w cur) (sym same) c.slots.invariant.standing.legal)) in
    let fewer = c.min.ensures in
    let most = c.max-most.ensures in
    let left = c.unclaimed.ensures in
    let test = c.slots-test.true in
    let low = c.slots.auto.slot in
    record {
      standing = next_seat o c.slots.core.opening c.args.jobs c.args.program.now c.args.core.now.journal cur new (link_of c.args.link.ear c.args.link.mouth) (g.P.Programs.told c.args.programs.now)
          (g.P.Programs.told c.slots.programs) (g.P.Programs.told c.seat_one.new.programs)
          _ _ _ _ c.slots.slot same c.slots.invariant.standing c.in_default-seat_one.ensures.seats legal (omega (arith, fewer, most, left, test, low)) (omega (arith, fewer, most, left, test, low));
      core = cores_both c.slots.invariant.core core;
      room = (
        (let had = c.slots.invariant.room.0 in let now = c.in_default-seat_one.ensures.room.0 in omega (arith, had, now)),
        (let had = c.slots.invariant.room.1 in let now = c.in_default-seat_one.ensures.room.1 in omega (arith, had, now)),
      );
    }

pub returns-in-Err-clause-gathers : goal.returns-in-Err-clause-gathers
returns-in-Err-clause-gathers g c =
    let none = c.in-Err.ensures.seats in
    let fewer = c.min.ensures in
    let most = c.max-most.ensures in
    let test = c.slots-test.true in
    let low = c.slots.auto.slot in (
      short_pool c.slots.invariant.standing none,
      within_jobs c.slots.invariant.standing (vec_len c.seat_one.new.pool.links) (vec_len c.seat_one.new.pool.seats)
          (c.seat_one.new.pool.links.ok.0 ∙ sym (length-map c.seat_one.new.pool.links.items _) ∙ ap (λ ls. length ls) none.links_are)
          (c.seat_one.new.pool.seats.ok.0 ∙ sym (length-map c.seat_one.new.pool.seats.items _) ∙ ap (λ xs. length xs) none.seats_are)
          (λ pos. omega (arith, fewer, most, test, low, pos)),
    )

pub returns-in-Err-clause-core : goal.returns-in-Err-clause-core
returns-in-Err-clause-core g c = cores_both c.slots.invariant.core c.in-Err.ensures.core

pub returns-clause-gathers : goal.returns-clause-gathers
returns-clause-gathers g c =
    let fewer = c.min.ensures in
    let most = c.max-most.ensures in
    let left = c.unclaimed.ensures in
    let over = c.slots-test.false in
    let end = c.slots.auto.slot-end in (
      whole_pool c.slots.invariant.standing (omega (arith, fewer, most, left, over)),
      within_jobs c.slots.invariant.standing (vec_len c.slots.pool.links) (vec_len c.slots.pool.seats) (c.slots.pool.links.ok.0 ∙ sym (length-map c.slots.pool.links.items _)) (c.slots.pool.seats.ok.0 ∙ sym (length-map c.slots.pool.seats.items _))
          (λ pos. omega (arith, fewer, most, over, end, pos)),
    )
