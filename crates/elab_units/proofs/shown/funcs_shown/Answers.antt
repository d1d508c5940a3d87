use Rattle.std.proofs.Common.{◌∙◌, List, None, map, ap, sym}
use Rattle.elab_entry.specs.cpp_types.Class.{Class}
use Rattle.elab_entry.specs.cpp_tree.Units.{Func as TypedFunc}
use Rattle.elab_entry.specs.elab_ctx.Ctx.{Func, func_of}
use Rattle.elab_entry.specs.elab_rules.Programs.{typed_func}
use Rattle.elab_entry.specs.elab_rules.Statements.{Body}
use Rattle.elab_units.specs.Joined.{placed_in}
use Rattle.elab_units.specs.Made.{with_bodies}
use Rattle.elab_units.proofs.Bodied.{bodies_given, map_twice}
use Rattle.tree_forests.proofs.Forests.{gets_after}
use Rattle.elab_units.proofs.shown.funcs_shown.Goals as goal

pub returns-clause-shown : goal.returns-clause-shown
returns-clause-shown c trees st classes bodies =
    let fs = map func_of c.args.funcs.items in
    c.put_bodies.ensures.shown trees
    ∙ ap (λ (z : List TypedFunc). with_bodies 0 z (map (placed_in trees) c.args.bodies.items))
    (c.in_ok-list.ensures.shown trees ∙ map_twice (λ (f : Func). typed_func _ f None) func_of c.args.funcs.items)
    ∙ ap (λ (z : List Class). with_bodies 0 (map (λ (f : Func). typed_func z f None) fs) (map (placed_in trees) c.args.bodies.items)) (sym classes)
    ∙ ap (λ (z : List Body). with_bodies 0 (map (λ (f : Func). typed_func st.ctx.classes f None) fs) z) (sym bodies)
    ∙ bodies_given st 0 fs

pub returns-clause-roots : goal.returns-clause-roots
returns-clause-roots c = gets_after _ _ _ _ c.in_ok-list.ensures.bare c.put_bodies.ensures.roots
