use Rattle.std.proofs.Common.{[], refl, subst}
use Rattle.std.specs.Prelude.{option_map}
use Rattle.ann_key.specs.KeyRefs.{text_of}
use Rattle.child_life.specs.declared.start.greeting.Mode.TheVariants.{Serve}
use Rattle.child_life.specs.Start.Greetings.{CameTo}
use Rattle.info_and_init.proofs.InfoLemmas.Talking.{if_ok, ready_complete, ready_talked, unready_complete, unready_talked}
use Rattle.info_and_init.proofs.info.interview.interview.Goals as goal

pub returns-in-Ready-clause-interviewed : goal.returns-in-Ready-clause-interviewed
returns-in-Ready-clause-interviewed g c =
    let key = option_map text_of c.args.key in
    let ready = (subst (CameTo Serve c.args.core.now.journal c.args.link.now.ear.child) c.in-Ready.is c.requires.comes).0 in (
      ready_talked c.args.core.now.opening key [] c.args.core.now.journal c.ask_all.new.core.journal c.args.link.now.ear.child c.ask_all.new.link.ear.child
          refl c.requires.legal c.requires.greeted ready c.ask_all.ensures.asks c.ask_all.ensures.link.same_ear.0,
      if_ok c.ask_all.result _ _
          (ready_complete c.args.core.now.opening key [] c.args.core.now.journal c.ask_all.new.core.journal c.args.link.now.ear.child refl c.requires.legal c.requires.greeted ready)
          c.ask_all.ensures.comes,
    )

pub returns-in_default-clause-interviewed : goal.returns-in_default-clause-interviewed
returns-in_default-clause-interviewed g c =
    let key = option_map text_of c.args.key in (
      unready_talked c.args.core.now.opening key [] c.args.core.now.journal c.args.link.now.ear.child refl c.requires.legal c.requires.greeted,
      unready_complete key c.args.core.now.journal c.args.link.now.ear.child c.args.came c.requires.greeted c.in_default.not-Ready c.requires.comes,
    )
