use Rattle.std.proofs.Common.{◌≡◌, ◌∙◌, List, Some, slice_get, length, ap, sym, subst, refl}
use Rattle.std.proofs.lemmas.Bool.{ltb-true}
use Rattle.std.proofs.lemmas.Option.{slice_get_read}
use Rattle.cpp_tree.specs.declared.program.UnitTree.{UnitTree}
use Rattle.cpp_tree.specs.Units.{Unit, program_of}
use Rattle.tx_code.specs.Objects.{object_view}
use Rattle.clone_gen.specs.Generated.{IsObjectOf}
use Rattle.clone_gen.proofs.Orders.{unit_at}
use Rattle.clone_gen.proofs.generating.generate.Goals as goal

pub returns-clause-unit : goal.returns-clause-unit
returns-clause-unit c = λ u h.
    let units = c.deref.result.now in
    let here : slice_get units c.args.unit ≡ Some c.in-Some.tree.now =
    slice_get_read units (length units) c.args.unit c.in-Some.tree.now refl
    (ltb-true c.args.unit (length units) (sym c.in-Some.ensures.lookup.0)) c.in-Some.ensures.lookup.1 in
    let there : slice_get c.args.program.now.units.items c.args.unit ≡ Some c.in-Some.tree.now =
    sym (ap (λ (z : List UnitTree). slice_get z c.args.unit) c.deref.ensures.value) ∙ here in
    subst (λ (z : Unit). IsObjectOf (program_of c.args.program.now) z c.args.safe.now c.args.source.now (object_view c.in_ok-object.object))
    (unit_at c.args.program.now.units.items c.args.unit c.in-Some.tree.now u there h) c.in_ok-object.ensures
