-- The one expression of an initialiser, step by step.
use Rattle.std.specs.Prelude.{Option, Some, None}
use Rattle.elab_scopes.specs.cpp_ast.declared.kinds.NodeKind.TheVariants as k
use Rattle.elab_scopes.specs.cpp_ast.Trees.{Tree, node, Trees, none, more}

-- what stands alone
abbrev pub only_value : Trees → Option Tree
only_value (more e none) = Some e
only_value es = None

-- what is not in braces
abbrev pub plain_value : Tree → Option Tree
plain_value (node k.BracedInitList p token items) = None
plain_value e = Some e

-- behind `=`
abbrev pub equal_value : Trees → Option Tree
equal_value (more e none) = plain_value e
equal_value es = None

abbrev pub expression_in : Tree → Option Tree
expression_in (node k.EqualInitializer p token es) = equal_value es
expression_in (node kind p token es) = only_value es

-- of an initialiser, if it is one
abbrev pub value_of : Trees → Option Tree
value_of (more x none) = expression_in x
value_of ts = None
