use Rattle.std.proofs.Common.{◌≡◌, ◌∙◌, Err, rules}
use Rattle.elab_expr.specs.cpp_tree.Arena.{trees_of, tree_at}
use Rattle.elab_expr.specs.elab_ctx.Ctx.{ctx_of, work_of}
use Rattle.elab_expr.specs.elab_ctx.Operands.{operand_in}
use Rattle.elab_expr.proofs.Stages.{operand_kept}
use Rattle.elab_expr.proofs.elab_ctx.Looks.{at_grown}
use Rattle.elab_scopes.proofs.Labelling.{label_is, tells_fault}
use Rattle.elab_scopes.proofs.labels.label_word.Goals as goal

pub returns-clause-word : goal.returns-clause-word
returns-clause-word c =
    let before = trees_of c.args.work.now.nodes.items in
    let made = trees_of c.initial_alone.new.work.nodes.items in
    let all = trees_of c.value.new.nodes.items in
    label_is (ctx_of c.args.env.now) (work_of c.args.work.now) (work_of c.initial_alone.new.work) (operand_in before c.args.o) (operand_in made c.args.o)
    (tree_at made c.in_ok-made.made) (tree_at all c.in_ok-made.made) (tree_at all c.in_ok-value.value)
    c.in_ok-made.ensures.made.is (at_grown made all c.in_ok-made.made c.in_ok-value.ensures.grows c.in_ok-made.ensures.made.within)
    (operand_kept before made c.args.o c.in_ok-made.ensures.made.grows c.requires) c.in_ok-value.ensures.is c.in_ok-made.ensures.kept
    ∙ c.in_ok-word.ensures

pub returns-in_err-word-clause-word : goal.returns-in_err-word-clause-word
returns-in_err-word-clause-word c =
    let is_error : c.from_residual-in_err-word.result ≡ Err c.in_err-word.field-0.0 = search rules in
    let before = trees_of c.args.work.now.nodes.items in
    let made = trees_of c.initial_alone.new.work.nodes.items in
    let all = trees_of c.value.new.nodes.items in
    tells_fault c.from_residual-in_err-word.result c.in_err-word.field-0.0 _ _ is_error
    (label_is (ctx_of c.args.env.now) (work_of c.args.work.now) (work_of c.initial_alone.new.work) (operand_in before c.args.o) (operand_in made c.args.o)
    (tree_at made c.in_ok-made.made) (tree_at all c.in_ok-made.made) (tree_at all c.in_ok-value.value)
    c.in_ok-made.ensures.made.is (at_grown made all c.in_ok-made.made c.in_ok-value.ensures.grows c.in_ok-made.ensures.made.within)
    (operand_kept before made c.args.o c.in_ok-made.ensures.made.grows c.requires) c.in_ok-value.ensures.is c.in_ok-made.ensures.kept)
    c.in_err-word.ensures
