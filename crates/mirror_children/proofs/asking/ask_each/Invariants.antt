use Rattle.host_talk.specs.Request.Requests.{message_of}
use Rattle.mirror_children.specs.Asking.{goes_while}
use Rattle.mirror_children.proofs.Fronts.{IsAt}
use Rattle.mirror_children.proofs.asking.ask_each.Given as goal

-- those before this place were asked, and went on
abbrev pub invariant-children : goal.invariant-children
invariant-children g l = IsAt (goes_while l.while_done) (message_of l.request) l.fn.children.items l.children.items l.at
