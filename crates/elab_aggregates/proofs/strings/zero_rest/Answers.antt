use Rattle.std.proofs.Common.{◌∙◌, sym, ap}
use Rattle.elab_make.specs.cpp_types.Typ.{typ_of}
use Rattle.elab_make.specs.cpp_types.declared.ranks.Cat.TheVariants.{Prvalue}
use Rattle.elab_make.specs.cpp_types.Class.{classes_of}
use Rattle.elab_make.specs.cpp_tree.declared.kinds.TKind.TheVariants.{Piece}
use Rattle.elab_make.specs.cpp_tree.Trees.{node, one}
use Rattle.elab_make.specs.elab_ctx.Ctx.{ctx_of}
use Rattle.elab_make.specs.elab_rules.Objects.{zeros}
use Rattle.elab_aggregates.proofs.StringParts.{zero_is, list_adds}
use Rattle.elab_aggregates.proofs.strings.zero_rest.Goals as goal

pub returns : goal.returns
returns c = list_adds _ _ _ c.in_ok-kid.kid _ _ c.in_ok-kid.ensures
    (zero_is (ctx_of c.args.env.now) (typ_of c.args.element.now) c.args.at c.args.offset c.args.count c.if-count-eq0.false
    ∙ ap (λ z. one (node (Piece c.args.offset) z Prvalue c.args.at (one (zeros (classes_of c.args.env.now.classes.items) c.args.at z))))
    (sym c.in_ok-ty.ensures)) c.one_of.ensures
