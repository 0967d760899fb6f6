use Rattle.std.proofs.Common.{◌≡◌, ◌⊎◌, List, Bool, sym, ap, subst, length, true, false, arith, inl, inr}
use Rattle.task_queue.specs.Kept.{AreKept}
use Rattle.task_queue.proofs.Ordering.{IsPassed, off_bare, off_held, off_of, off_waiting, passed}
use Rattle.task_queue.proofs.queue.Queue.put_off.Goals as goal
use Rattle.task_queue.proofs.queue.Queue.put_off.Goals.{After-pass_on-by_file}

pub pass_on-by_key-requires-clause-kept : goal.pass_on-by_key-requires-clause-kept
pass_on-by_key-requires-clause-kept c = subst (λ (l : List Bool). AreKept l c.args.self.now.keys) (sym c.deref.ensures.value) c.requires.ordered.keys

pub pass_on-by_key-requires-clause-within : goal.pass_on-by_key-requires-clause-within
pass_on-by_key-requires-clause-within c = omega (arith, ap length c.deref.ensures.value, c.requires.within)

pub pass_on-by_file-requires-clause-kept : goal.pass_on-by_file-requires-clause-kept
pass_on-by_file-requires-clause-kept c = subst (λ (l : List Bool). AreKept l c.args.self.now.files) (sym c.deref-3.ensures.value) c.requires.ordered.files

pub pass_on-by_file-requires-clause-within : goal.pass_on-by_file-requires-clause-within
pass_on-by_file-requires-clause-within c = omega (arith, ap length c.deref-3.ensures.value, c.requires.within)

there : (c : After-pass_on-by_file)
    → IsPassed c.args.self.now c.args.task c.pass_on-by_key.result c.pass_on-by_file.result c.unmark.new.self.flags.items c.pass_on-by_key.new.ready.flags.items c.pass_on-by_file.new.ready.flags.items
there c = passed c.args.self.now c.args.task c.deref.result.now c.deref-3.result.now c.deref-2.result.now c.deref-4.result.now c.pass_on-by_key.result c.pass_on-by_file.result
    c.unmark.new.self.flags.items c.pass_on-by_key.new.ready.flags.items c.pass_on-by_file.new.ready.flags.items
    c.deref.ensures.value c.deref-2.ensures.value c.deref-3.ensures.value c.deref-4.ensures.value c.unmark.ensures.flags
    c.pass_on-by_key.ensures.held c.pass_on-by_key.ensures.passed c.pass_on-by_file.ensures.held c.pass_on-by_file.ensures.passed

either : (a b : Bool) → (a ≡ true) ⊎ ((a ≡ false) × (b ≡ true)) → (a ≡ true) ⊎ (b ≡ true)
either a b (inl h) = inl h
either a b (inr h) = inr h.1

pub returns-then-by_key-clause-ordered : goal.returns-then-by_key-clause-ordered
returns-then-by_key-clause-ordered c =
    off_held c.args.self.now c.pass_on-by_file.new.ready c.args.task c.pass_on-by_key.result c.pass_on-by_file.result c.unmark.new.self.flags.items c.pass_on-by_key.new.ready.flags.items
    c.requires.ordered (there (goal.at.returns-then-by_key-clause-ordered c).After-pass_on-by_file) c.pass_on-by_file.ensures.blocks
    (either c.pass_on-by_key.result c.pass_on-by_file.result c.then-by_key.either)

pub returns-then-by_key-clause-fits : goal.returns-then-by_key-clause-fits
returns-then-by_key-clause-fits c = λ o conflict fits. record { long = fits.long; keys = fits.keys; files = fits.files; waits = fits.waits }

pub returns-then-by_key-clause-bare : goal.returns-then-by_key-clause-bare
returns-then-by_key-clause-bare c =
    off_bare c.args.self.now c.args.task c.pass_on-by_key.result c.pass_on-by_file.result c.unmark.new.self.flags.items c.pass_on-by_key.new.ready.flags.items c.pass_on-by_file.new.ready.flags.items
    c.requires.ordered c.requires.within (there (goal.at.returns-then-by_key-clause-bare c).After-pass_on-by_file)

pub returns-clause-ordered : goal.returns-clause-ordered
returns-clause-ordered c =
    off_waiting c.args.self.now c.pass_on-by_file.new.ready c.put_number.new.numbers c.put_flag.new.flags c.args.task c.args.other c.pass_on-by_key.result c.pass_on-by_file.result
    c.unmark.new.self.flags.items c.pass_on-by_key.new.ready.flags.items c.requires.ordered (there (goal.at.returns-clause-ordered c).After-pass_on-by_file) c.pass_on-by_file.ensures.blocks
    c.requires.within c.requires.busy c.put_number.ensures c.put_flag.ensures

pub returns-clause-fits : goal.returns-clause-fits
returns-clause-fits c = λ o conflict fits. off_of o c.args.self.now c.pass_on-by_file.new.ready c.put_number.new.numbers c.put_flag.new.flags c.args.task c.args.other conflict c.put_number.ensures fits

pub returns-clause-bare : goal.returns-clause-bare
returns-clause-bare c =
    off_bare c.args.self.now c.args.task c.pass_on-by_key.result c.pass_on-by_file.result c.unmark.new.self.flags.items c.pass_on-by_key.new.ready.flags.items c.pass_on-by_file.new.ready.flags.items
    c.requires.ordered c.requires.within (there (goal.at.returns-clause-bare c).After-pass_on-by_file)
