use Rattle.std.proofs.Common.{◌≡◌, ◌++◌, ◌∷◌, [], ℕ, Option, None, Some, ap, sym, ◌∙◌, subst, length-set, arith}
use Rattle.rtrb.specs.Ring.{received}
use Rattle.kit_memory.specs.Pipes.{bytes_in, has_end}
use Rattle.kit_memory.proofs.PipeLemmas.{byte_unended, consumer_both, end_ends, end_more, took_more}
use Rattle.kit_memory.proofs.pipe.take_some.Goals as goal

pub returns-in-Ok-None-clause-bytes : goal.returns-in-Ok-None-clause-bytes
returns-in-Ok-None-clause-bytes c =
    let items = received c.loop-at.ring in
    let e : received c.pop.new.self ≡ items ++ None ∷ [] = subst (λ (o : Option ℕ). received c.pop.new.self ≡ items ++ o ∷ []) c.in-Ok-None.field-0-is c.in-Ok-None.ensures.ok.0 in
    ap bytes_in e ∙ end_more items ∙ c.loop-at.invariant.bytes

pub returns-in-Ok-None-clause-end : goal.returns-in-Ok-None-clause-end
returns-in-Ok-None-clause-end c =
    let items = received c.loop-at.ring in
    let e : received c.pop.new.self ≡ items ++ None ∷ [] = subst (λ (o : Option ℕ). received c.pop.new.self ≡ items ++ o ∷ []) c.in-Ok-None.field-0-is c.in-Ok-None.ensures.ok.0 in
    sym (ap has_end e ∙ end_ends items c.loop-at.invariant.unended)

pub loop-at-preserved : goal.loop-at-preserved
loop-at-preserved c =
    let items = received c.loop-at.ring in
    let byte = c.in-Ok-Some.byte in
    let e : received c.pop.new.self ≡ items ++ Some byte ∷ [] = subst (λ (o : Option ℕ). received c.pop.new.self ≡ items ++ o ∷ []) c.in-Ok-Some.field-0-is c.in-Ok-Some.ensures.ok.0 in
    record {
      long = length-set c.loop-at.buf c.loop-at.at byte ∙ c.loop-at.invariant.long;
      ring = consumer_both c.args.ring.now c.loop-at.ring c.pop.new.self c.loop-at.invariant.ring c.pop.ensures.ring;
      bytes = took_more items (received c.pop.new.self) (bytes_in (received c.args.ring.now)) c.loop-at.buf c.loop-at.at byte e c.loop-at.invariant.bytes (omega (arith, c.loop-at.invariant.long, c.loop-at-test.true));
      unended = ap has_end e ∙ byte_unended items byte c.loop-at.invariant.unended;
    }
