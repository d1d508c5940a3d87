use Rattle.std.proofs.Common.{◌≡◌, ◌∙◌, ap, sym, refl}
use Rattle.cpp_types.specs.Typ.{typ_of}
use Rattle.elab_entry.specs.cpp_tree.Arena.{trees_of}
use Rattle.elab_entry.specs.elab_ctx.Ctx.{Work, work_of, with_item}
use Rattle.elab_entry.specs.elab_rules.Implicit.{parts_copied, source_object, source_const}
use Rattle.elab_entry.specs.elab_scopes.States.{state_of}
use Rattle.elab_implicit.proofs.CopyLists.{lists_same, same_nodes}
use Rattle.elab_implicit.proofs.copying.parts_copied.Goals as goal

pub returns : goal.returns
returns c =
    let work : work_of c.add_item.new.work ≡ with_item (work_of c.args.st.now.work) (typ_of c.args.param.now) = c.in_ok-_place.ensures.item
    ∙ ap (with_item (work_of c.args.st.now.work)) c.in_ok-item.ensures in
    lists_same c.args.st.now _ _ _ _ _ (same_nodes _ _ (ap trees_of c.in_ok-_place.ensures.nodes)) refl
    (ap (λ (w : Work). parts_copied (record (state_of c.args.st.now) { work = w }) c.args.at c.args.class
    (source_object c.args.class (typ_of c.args.param.now) c.args.at) (source_const (typ_of c.args.param.now))) (sym work)) c.parts_from.ensures
