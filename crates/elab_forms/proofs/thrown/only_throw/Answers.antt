use Rattle.std.proofs.Common.{◌∙◌, sym, ap, arith}
use Rattle.elab_make.specs.cpp_tree.Arena.{trees_of, tree_at}
use Rattle.elab_forms.specs.Parts.{only_throw}
use Rattle.elab_forms.proofs.Taken.{no_throw}
use Rattle.elab_forms.proofs.thrown.only_throw.Goals as goal

pub returns-in_default-2-clause-is : goal.returns-in_default-2-clause-is
returns-in_default-2-clause-is c = let h = c.in_default.len_at_least in
    let trees = trees_of c.args.nodes.now.items in
    sym (ap (λ z. only_throw c.args.at z (tree_at trees c.args.id)) c.in_ok-kids_at.ensures.kids
    ∙ no_throw trees c.in_ok-kids_at.field-0.now c.args.at (tree_at trees c.args.id) (omega arith))
