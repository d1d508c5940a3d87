use Rattle.std.proofs.Common.{◌≡◌, ◌∷◌, false, map, refl, ap, ◌∙◌}
use Rattle.cpp_types.specs.Typ.{signature_of}
use Rattle.elab_make.specs.cpp_tree.Arena.{trees_of, tree_at}
use Rattle.elab_make.specs.elab_ctx.Ctx.{ctx_of, work_of, func_of}
use Rattle.elab_make.specs.elab_ctx.Steps.{Operand}
use Rattle.elab_make.specs.elab_ctx.Operands.{operands_in}
use Rattle.elab_make.specs.elab_rules.Initialising.{places_from, func_at}
use Rattle.elab_make.specs.elab_rules.Names.{is_method}
use Rattle.elab_make.specs.elab_rules.Calls.{as_object, member_kind}
use Rattle.elab_call.proofs.Chosen.{chosen_is, called_in_place}
use Rattle.elab_call.proofs.Grown.{operands_kept, are_in_grown}
use Rattle.elab_call.proofs.Made.{makes_grown}
use Rattle.elab_call.proofs.calls.call_method_of.Goals as goal

pub called_on-requires-clause-arguments : goal.called_on-requires-clause-arguments
called_on-requires-clause-arguments c = are_in_grown (trees_of c.args.work.now.nodes.items)
    (trees_of c.as_source.new.nodes.items) c.args.os.now c.in_ok-object.ensures.grows c.requires.arguments

pub returns : goal.returns
returns c =
    let ctx = ctx_of c.args.env.now in
    let w = work_of c.args.work.now in
    let old = trees_of c.args.work.now.nodes.items in
    let mid = trees_of c.as_source.new.nodes.items in
    let os = operands_in old c.args.os.now in
    let object = tree_at old c.args.object in
    let best = c.in_ok-best.best in
    let places = places_from (is_method c.args.class (func_at ctx.funcs c.args.func).declared.name) 0 ctx.funcs in
    let first : Operand = record { tree = object; at = c.args.at; zero = false } in
    let found : c.deref.result.now ≡ places = c.deref.ensures.value ∙ c.in_ok-places.ensures
    ∙ ap (λ z. places_from (is_method c.args.class z) 0 (map func_of c.args.env.now.funcs)) c.name_at.ensures in
    makes_grown old mid _ _ c.called_on.result _ _ c.in_ok-object.ensures.grows
    (chosen_is ctx w c.args.at (member_kind ctx c.args.class) (as_object c.args.at c.args.class object) os places c.deref.result.now (first ∷ os)
    (first ∷ os) best found refl c.in_ok-best.ensures
    ∙ called_in_place ctx w w c.args.at (member_kind ctx c.args.class) c.in_ok-kind.kind (signature_of c.in-Some.found.now.rec.ty)
    (as_object c.args.at c.args.class object) (tree_at mid c.in_ok-object.object) os (operands_in mid c.args.os.now) best
    (func_of c.in-Some.found.now) c.in-Some.ensures c.in_ok-kind.ensures refl c.in_ok-object.ensures.is
    (operands_kept old mid c.args.os.now c.in_ok-object.ensures.grows c.requires.arguments) refl) c.called_on.ensures
