-- The forms of nodes as the code tells them apart.
use Rattle.std.specs.Prelude.{Bool, true, false, ◌&&◌, List, Some, None, is_some}
use Rattle.elab_rows.specs.cpp_lex.Tokens.{Lexeme}
use Rattle.elab_rows.specs.cpp_ast.declared.kinds.NodeKind.{NodeKind}
use Rattle.elab_rows.specs.cpp_ast.declared.kinds.NodeKind.TheVariants as k
use Rattle.elab_rows.specs.cpp_ast.Trees as syntax
use Rattle.elab_rows.specs.cpp_types.Typ.{Typ}
use Rattle.elab_rows.specs.elab_ctx.Steps.{spelling}
use Rattle.elab_rows.specs.elab_types.Specified.{pointer_qualified}

-- a leaf, or a form whose kids are all operands
abbrev pub is_over_operands : NodeKind → Bool
is_over_operands k.ParenthesizedExpression = false
is_over_operands k.FunctionCall = false
is_over_operands k.FunctionalCast = false
is_over_operands k.StaticCast = false
is_over_operands k.CastExpression = false
is_over_operands k.SizeofExpression = false
is_over_operands k.SizeofType = false
is_over_operands k.Lambda = false
is_over_operands k.QualifiedId = false
is_over_operands kind = true

abbrev pub is_cast : NodeKind → Bool
is_cast k.StaticCast = true
is_cast k.CastExpression = true
is_cast kind = false

-- a specifier that holds a type-id
abbrev pub is_exception : NodeKind → Bool
is_exception k.TxException = true
is_exception kind = false

abbrev pub is_integer_literal : NodeKind → Bool
is_integer_literal k.IntegerLiteral = true
is_integer_literal kind = false

-- `const` or `volatile` behind a star
abbrev pub is_qualifier : NodeKind → Bool
is_qualifier k.CvQualifier = true
is_qualifier kind = false

abbrev pub are_qualifiers : syntax.Trees → Bool
are_qualifiers syntax.none = true
are_qualifiers (syntax.more (syntax.node kind p token kids) ts) = is_qualifier kind && is_some token && are_qualifiers ts

-- a pointer with all of them
abbrev pub all_qualified : List Lexeme → Typ → syntax.Trees → Typ
all_qualified s t syntax.none = t
all_qualified s t (syntax.more (syntax.node kind p (Some n) kids) ts) = all_qualified s (pointer_qualified (spelling s n) t) ts
all_qualified s t (syntax.more (syntax.node kind p None kids) ts) = all_qualified s t ts
