use Rattle.std.proofs.Common.{subst, ap, ◌∙◌, List, ℕ, Option, inl, inr}
use Rattle.std.proofs.Common.{take}
use Rattle.std.specs.Io.KnownBytes.{Appends}
use Rattle.child_link.specs.Writings.{mouth_value}
use Rattle.child_link.proofs.Mouths.{mouth_sends, mouth_mutes}
use Rattle.child_link.proofs.mouth.send.Goals as goal

pub returns-in-Ok-clause-moved : goal.returns-in-Ok-clause-moved
returns-in-Ok-clause-moved g c =
    let before = c.args.inlet.now in
    let after = c.write.new.inlet in
    let v = mouth_value c.args.child (g.I.Sink.told before) in
    let w = mouth_value c.args.child (g.I.Sink.told after) in
    let next = c.requires.next in
    mouth_sends v w next.next next.more next.live next.loud next.unsent
    (ap (λ (k : Option ℕ). mouth_value c.args.child (record (g.I.Sink.told after) { number = k })) c.write.ensures.number) c.write.ensures.silent
    (subst (λ (x : List ℕ). Appends v.taken w.taken x) (c.view-bytes.ensures ∙ next.whole) c.in-Ok.ensures.ok) c.sent.ensures.sends

pub returns-in-Err-clause-moved : goal.returns-in-Err-clause-moved
returns-in-Err-clause-moved g c =
    let before = c.args.inlet.now in
    let after = c.write.new.inlet in
    let v = mouth_value c.args.child (g.I.Sink.told before) in
    let w = mouth_value c.args.child (g.I.Sink.told after) in
    let next = c.requires.next in
    let k = c.write.ensures.prefix.0 in
    mouth_mutes v w next.next next.more next.live next.loud next.unsent
    (ap (λ (j : Option ℕ). mouth_value c.args.child (record (g.I.Sink.told after) { number = j })) c.write.ensures.number) c.write.ensures.silent k
    (subst (λ (x : List ℕ). Appends v.taken w.taken (take k x)) (c.view-bytes.ensures ∙ next.whole) c.write.ensures.prefix.1) c.in-Err.ensures.err c.mute.ensures.mutes

pub returns-in-Ok-clause-writing : goal.returns-in-Ok-clause-writing
returns-in-Ok-clause-writing g c =
    inl (subst (λ (x : List ℕ). Appends (g.I.Sink.told c.args.inlet.now).taken (g.I.Sink.told c.write.new.inlet).taken x) c.view-bytes.ensures c.in-Ok.ensures.ok, c.sent.ensures.sends)

pub returns-in-Err-clause-writing : goal.returns-in-Err-clause-writing
returns-in-Err-clause-writing g c =
    let k = c.write.ensures.prefix.0 in
    inr (
      (k, subst (λ (x : List ℕ). Appends (g.I.Sink.told c.args.inlet.now).taken (g.I.Sink.told c.write.new.inlet).taken (take k x)) c.view-bytes.ensures c.write.ensures.prefix.1),
      c.in-Err.ensures.err,
      c.mute.ensures.mutes,
    )
