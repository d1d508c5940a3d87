use Rattle.std.proofs.Common.{length, refl, sym}
use Rattle.std.proofs.lemmas.Bool.{ltb-true}
use Rattle.std.proofs.lemmas.Option.{slice_get_read}
use Rattle.clone_gen.proofs.Orders.{bodies_set}
use Rattle.clone_gen.proofs.entries.put_bodies.Goals as goal

pub returns-in-Some : goal.returns-in-Some
returns-in-Some c = λ o. bodies_set o c.args.funcs.now.items c.args.index c.in-Some.func.now c.args.bodies.plain c.args.bodies.safe
    (slice_get_read c.args.funcs.now.items (length c.args.funcs.now.items) c.args.index c.in-Some.func.now refl
    (ltb-true c.args.index (length c.args.funcs.now.items) (sym c.in-Some.ensures.item.0)) c.in-Some.ensures.value)
