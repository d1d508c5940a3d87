use Rattle.elab_units.proofs.Bare.{bare_more, bare_whole}
use Rattle.elab_units.proofs.beginning.bare_traits.Goals as goal

pub loop-preserved : goal.loop-preserved
loop-preserved c = bare_more c.loop.traits.items c.push.new.self.items c.no_traits.result c.loop.index c.loop.invariant c.in_ok-push.ensures.items
    c.no_traits.ensures

pub returns : goal.returns
returns c = bare_whole c.loop.traits.items c.args.known.now c.loop.index c.loop.invariant c.loop.auto.index-end c.loop-test.false
