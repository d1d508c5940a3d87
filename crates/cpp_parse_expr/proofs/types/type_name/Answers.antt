use Rattle.std.proofs.Common.{refl}
use Rattle.cpp_ast.specs.declared.kinds.NodeKind.TheVariants.{TypeName}
use Rattle.cpp_syntax.specs.Terminals.{is_type_name}
use Rattle.cpp_syntax.proofs.ReaderLoops.{within}
use Rattle.cpp_syntax.proofs.LeafReaders.{always_leaf}
use Rattle.cpp_parse_expr.proofs.types.type_name.Goals as goal

pub returns : goal.returns
returns c = always_leaf _ TypeName is_type_name _ _ _ _ c.requires.begins (within c.args.text.now c.args.at is_type_name refl c.requires.begins) c.leaf.ensures
