use Rattle.std.proofs.Common.{List, ap, sym}
use Rattle.elab_expr.specs.cpp_ast.declared.arena.NodeId.{NodeId}
use Rattle.elab_expr.specs.elab_rules.Globals.{is_definition}
use Rattle.elab_expr.specs.elab_types.Syntax.{trees_at}
use Rattle.class_members.specs.Shown.{storage_of}
use Rattle.elab_decls.proofs.globals.is_definition.Goals as goal

pub returns-in-None : goal.returns-in-None
returns-in-None c trees = ap (λ (z : List NodeId). is_definition (storage_of c.args.storage) (trees_at trees z)) (sym c.in-None.ensures.kid)

pub returns-in-Some : goal.returns-in-Some
returns-in-Some c trees = ap (λ (z : List NodeId). is_definition (storage_of c.args.storage) (trees_at trees z)) (sym c.in-Some.ensures.kid)
