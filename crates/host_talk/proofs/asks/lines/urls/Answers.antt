use Rattle.std.proofs.Common.{◌++◌, List, ℕ, Bor, map, ap, ◌∙◌}
use Rattle.registers.specs.Registers.{urls_of}
use Rattle.registers.proofs.Listing.{all_left}
use Rattle.journal_model.specs.Replies.{value_line}
use Rattle.host_talk.proofs.asks.lines.urls.Goals as goal

pub loop-url-init : goal.loop-url-init
loop-url-init c =
    let urls : List (List ℕ) = urls_of c.args.registers.now c.args.key.now c.args.prefix.now in
    all_left (λ (url : Bor (List ℕ)). url.now) value_line c.new-lines.result.items _ c.in_ok-url-items.url-items.items urls
    c.into_iter-url-iterator.ensures.into_iter_gives.0 c.in_ok-url-items.ensures.value
    ∙ ap (λ (before : List (List ℕ)). before ++ map value_line urls) c.new-lines.ensures.items
