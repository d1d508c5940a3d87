use Rattle.std.proofs.Common.{◌∙◌, ◌<◌, ◌≤◌, ◌∷◌, [], List, Some, length, map, ap, arith, refl, rules}
use Rattle.std.proofs.lemmas.List.{length-map}
use Rattle.std.proofs.lemmas.Option.{slice_get_read}
use Rattle.elab_entry.specs.cpp_tree.Units.{Func as TypedFunc, func_of}
use Rattle.elab_decls.proofs.Lists.{changed_at}
use Rattle.elab_units.specs.Joined.{placed_in}
use Rattle.elab_units.specs.Made.{with_body, with_bodies}
use Rattle.elab_units.proofs.Bodied.{one_put, behind_all}
use Rattle.tree_forests.proofs.Forests.{one_gets, same_gets}
use Rattle.elab_units.proofs.shown.put_one.Goals as goal

pub returns-in-Some-clause-shown : goal.returns-in-Some-clause-shown
returns-in-Some-clause-shown c trees rest =
    let within : c.args.body.func < length c.args.funcs.now.items = search rules in
    ap (λ (z : List TypedFunc). with_bodies 0 z rest)
    (changed_at (func_of trees) (λ (z : TypedFunc). with_body z
    (Some (placed_in trees c.args.body))) c.args.funcs.now.items c.args.body.func c.in-Some.func.now c.put_body.new.func
    (func_of trees c.in-Some.func.now) within c.in-Some.ensures.value (c.put_body.ensures.shown trees))
    ∙ one_put 0 c.args.body.func (map (func_of trees) c.args.funcs.now.items) (placed_in trees c.args.body) rest (func_of trees c.in-Some.func.now)
    (omega arith)

pub returns-in-None-clause-shown : goal.returns-in-None-clause-shown
returns-in-None-clause-shown c trees rest =
    let past : length c.args.funcs.now.items ≤ c.args.body.func = search (rules, arith) in
    behind_all 0 (map (func_of trees) c.args.funcs.now.items) (placed_in trees c.args.body) rest
    (omega (arith, past, length-map c.args.funcs.now.items (func_of trees)))

pub returns-in-Some-clause-root : goal.returns-in-Some-clause-root
returns-in-Some-clause-root c =
    let within : c.args.body.func < length c.args.funcs.now.items = search rules in
    one_gets c.args.body.func c.args.funcs.now.items c.in-Some.func.now c.put_body.new.func (c.args.body.tree ∷ [])
    (slice_get_read c.args.funcs.now.items (length c.args.funcs.now.items) c.args.body.func c.in-Some.func.now refl within c.in-Some.ensures.value)
    c.put_body.ensures.root

pub returns-in-None-clause-root : goal.returns-in-None-clause-root
returns-in-None-clause-root c = same_gets c.args.funcs.now.items (c.args.body.tree ∷ [])
