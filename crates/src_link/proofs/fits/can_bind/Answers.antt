use Rattle.std.proofs.Common.{subst, map}
use Rattle.std.proofs.lemmas.Result.{IfOk-weaker}
use Rattle.cpp_types.specs.Class.{InOrder, classes_of}
use Rattle.cpp_tree.specs.Units.{program_of, unit_of}
use Rattle.src_link.specs.Fits.{UnitsFit}
use Rattle.src_link.proofs.Binds.{binds}
use Rattle.src_link.proofs.fits.can_bind.Goals as goal

pub returns : goal.returns
returns c =
    let order = subst (λ l. InOrder (classes_of l)) c.as_slice-classes.ensures.value (c.is_ordered.ensures c.if-not-is_ordered.false) in
    let fit =
    subst (λ l. UnitsFit (classes_of l) (map unit_of c.args.program.now.units.items)) c.as_slice-classes.ensures.value
    (subst (λ l. UnitsFit (classes_of c.as_slice-classes.result.now) (map unit_of l)) c.as_slice-units.ensures.value
    (c.in_ok-fit.ensures c.if-not-fit.false)) in
    IfOk-weaker c.has_room.result _ _ (λ b h e. binds (program_of c.args.program.now) fit order (h e)) c.has_room.ensures
