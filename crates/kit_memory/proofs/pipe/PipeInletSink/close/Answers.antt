use Rattle.std.proofs.Common.{◌≡◌, ℕ, Bool, true, false, List, Some, ap, ◌∙◌, subst}
use Rattle.rtrb.specs.Ring.{sent}
use Rattle.kit_memory.specs.Pipes.{bytes_in, is_stream}
use Rattle.kit_memory.proofs.PipeLemmas.{end_more, stream_open, stream_closes}
use Rattle.kit_memory.proofs.pipe.PipeInletSink.close.Goals as goal

pub push_reserved-requires : goal.push_reserved-requires
push_reserved-requires g c =
    let items = sent c.args.self.now.ring in
    (c.args.self.now.room c.requires, stream_open items (subst (λ (b : Bool). is_stream b items ≡ true) c.requires c.args.self.now.stream))

pub invariant_of-self : goal.invariant_of-self
invariant_of-self g c =
    let items = sent c.args.self.now.ring in
    record {
      stream = ap (is_stream false) c.push_reserved.ensures.sent.0 ∙ stream_closes items (subst (λ (b : Bool). is_stream b items ≡ true) c.requires c.args.self.now.stream);
      room = λ e. absurd cc;
    }

pub returns-clause-bytes : goal.returns-clause-bytes
returns-clause-bytes g c =
    ap (λ (x : List ℕ). Some x) (ap bytes_in c.push_reserved.ensures.sent.0 ∙ end_more (sent c.args.self.now.ring))
