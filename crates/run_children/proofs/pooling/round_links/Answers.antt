use Rattle.std.proofs.Common.{◌≡◌, ◌++◌, ◌∙◌, List, map, sym, ap, arith, length, length-append}
use Rattle.std.specs.Prelude.{reverse}
use Rattle.std.proofs.lemmas.List.{length-map, length-reverse}
use Rattle.crew_rounds.specs.Tagged.Tagged.{link_of}
use Rattle.run_children.proofs.PoolServing.{round_beside}
use Rattle.run_children.proofs.pooling.round_links.Goals as goal
use Rattle.crew_rounds.proofs.PoolLemmas.Backs.{links_still as link_same}
use Rattle.crew_rounds.proofs.TaggedLemmas.Closing.{if_done, if_kept}

pub put_back-requires : goal.put_back-requires
put_back-requires g c = record {
  room =
      let taken = c.in-Ok.ensures.taken in
      let all = ap (λ (xs : List _). length xs) taken.0 ∙ length-append c.in-Ok.used.items (reverse c.take_first.new.desks.items) in
      let turned = length-reverse c.take_first.new.desks.items in
      let were = c.args.bench.desks.ok in
      let are = c.take_first.new.desks.ok in
      let used = c.in-Ok.used.ok.0 in
      let back = c.round_pool-core.ensures.same.1 in
      let cap = c.take_first.ensures.capacity in
      omega (arith, all, turned, were.0, were.1, are.0, used, back, cap);
}

pub returns-in-Ok-clause-round : goal.returns-in-Ok-clause-round
returns-in-Ok-clause-round g c =
    let taken = c.in-Ok.ensures.taken in
    let links : c.in-Ok.used.len ≡ length (map (λ l. link_of l.ear l.mouth) c.args.links.items) = taken.1 ∙ c.len.ensures ∙ c.args.links.ok.0 ∙ sym (length-map c.args.links.items (λ l. link_of l.ear l.mouth)) in
    if_done c.round_pool-core.result.outcome
    (round_beside g.K.Desk.told c.args.bench.core.opening c.args.setup.now c.args.bench.core.journal c.round_pool-core.result.core.journal (map (λ l. link_of l.ear l.mouth) c.args.links.items)
    (map (λ l. link_of l.ear l.mouth) c.round_pool-core.result.links.items) c.args.bench.desks.items c.in-Ok.used.items c.round_pool-core.result.desks.items c.put_back.new.desks.items
    (reverse c.take_first.new.desks.items) c.in-Ok.used.len (sym c.in-Ok.used.ok.0 ∙ links) links taken.0 c.put_back.ensures.back) c.round_pool-core.ensures.round

pub returns-in-Ok-clause-kept : goal.returns-in-Ok-clause-kept
returns-in-Ok-clause-kept g c =
    if_kept c.round_pool-core.result.outcome (λ k. (k.0, (k.1.0, c.put_back.ensures.back ∙ ap (λ (xs : List _). xs ++ reverse c.take_first.new.desks.items) k.1.1 ∙ sym c.in-Ok.ensures.taken.0))) c.round_pool-core.ensures.kept

pub returns-in-Err-clause-same : goal.returns-in-Err-clause-same
returns-in-Err-clause-same g c = link_same (map (λ l. link_of l.ear l.mouth) c.args.links.items)
