use Rattle.std.proofs.Common.{◌≡◌, ◌∙◌, ◌++◌, sym, refl, subst, ap, get_or, take, slice_get, Some, List}
use Rattle.std.proofs.lemmas.List.{take_more, take_all}
use Rattle.std.proofs.lemmas.Result.{IfOk-weaker}
use Rattle.cpp_ast.specs.declared.arena.NodeId.{NodeId}
use Rattle.cpp_ast.specs.Trees.{kids_with}
use Rattle.unit_syntax.specs.Copies.{body_in, IsCopied, AreCopied}
use Rattle.unit_syntax.proofs.CopiedTrees.{none_copied, one_more_copied, node_copied}
use Rattle.unit_syntax.proofs.whole.+copies.Goals as goal

abbrev no_id : NodeId
no_id = record { 0 = 0 }

pub all_copied-ids-init : goal.all_copied-ids-init
all_copied-ids-init t c =
    subst (λ (copies : List NodeId). AreCopied c.args.unit.now c.args.to.now c.args.to.now _ copies) (sym c.new-copies.ensures.items)
    (none_copied c.args.unit.now c.args.to.now)

pub all_copied-ids-preserved : goal.all_copied-ids-preserved
all_copied-ids-preserved t c =
    let id : NodeId = get_or c.args.ids.now c.ids.id-index no_id in
    let one : IsCopied c.args.unit.now c.ids.to c.copied.new.to id c.in_ok-copy.copy = c.in_ok-copy.ensures in
    rw (take_more c.args.ids.now c.ids.id-index no_id c.ids-test.true, c.in_ok-put.ensures)
    (one_more_copied c.args.unit.now c.args.to.now c.ids.to c.copied.new.to (take c.ids.id-index c.args.ids.now) c.ids.copies.items id
    c.in_ok-copy.copy c.ids.invariant one)

pub all_copied-returns : goal.all_copied-returns
all_copied-returns t c =
    subst (λ (ids : List NodeId). AreCopied c.args.unit.now c.args.to.now c.ids.to ids c.ids.copies.items)
    (take_all c.ids.id-index c.args.ids.now c.ids-test.false) c.ids.invariant

pub copied-returns : goal.copied-returns
copied-returns t c =
    let body : body_in (slice_get c.args.table.now c.args.id.0) ≡ body_in (Some c.body_of.result) = c.body_of.ensures in
    let ids : c.deref-2.result.now ≡ kids_with c.node-node.result.now.kids.items c.args.unit.now.bodies.items c.args.id.0 =
    c.deref-2.ensures.value ∙ c.in_ok-ids.ensures ∙ ap (λ (is : List NodeId). c.deref.result.now ++ is) (sym body)
    ∙ ap (λ (is : List NodeId). is ++ body_in (slice_get c.args.table.now c.args.id.0)) c.deref.ensures.value
    ∙ sym (c.requires.each c.node-node.result.now.kids.items c.args.id.0) in
    IfOk-weaker c.add.result _ _ (λ copy h. node_copied c.args.unit.now c.args.to.now c.all_copied.new.to c.add.new.nodes c.args.id copy
    c.node-node.result.now _ c.deref-2.result.now c.node-node.ensures.node ids c.in_ok-kids.ensures refl refl refl h.0 h.1) c.add.ensures
