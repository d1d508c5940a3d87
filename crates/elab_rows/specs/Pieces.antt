-- A member of the object of a lambda.
use Rattle.std.specs.Prelude.{Result, Ok}
use Rattle.elab_casts.specs.cpp_types.declared.classes.At.{At}
use Rattle.elab_casts.specs.cpp_types.declared.ranks.Cat.TheVariants.{Prvalue}
use Rattle.elab_casts.specs.cpp_tree.declared.kinds.TKind.TheVariants.{Piece}
use Rattle.elab_casts.specs.cpp_tree.declared.faults.ElabFault.{ElabFault}
use Rattle.elab_casts.specs.cpp_tree.Trees.{Tree, node, more}
use Rattle.elab_casts.specs.elab_ctx.Ctx.{Ctx, Work, Capture}
use Rattle.elab_casts.specs.elab_ctx.Steps.{and_then, Made}
use Rattle.elab_casts.specs.elab_rules.Objects.{Part, destroys}
use Rattle.elab_casts.specs.elab_rules.Expressions.{captured}

abbrev pub piece_tree : Ctx → Part → At → Tree → Tree
piece_tree c p at e = node (Piece p.offset) p.typ Prvalue at (more e (destroys c at p.typ))

abbrev pub one_piece : Ctx → Work → Part → Capture → Result Made ElabFault
one_piece c w p x = and_then (captured c w x) (λ (m : Made). Ok (record { tree = piece_tree c p x.at m.tree; work = m.work }))
