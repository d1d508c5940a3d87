use Rattle.std.proofs.Common.{◌≡◌, refl, sym}
use Rattle.cpp_syntax.proofs.DeclaratorShapes.{id_name, id_qualified, id_missing}
use Rattle.cpp_syntax.proofs.outline.Outline.behind_declarator_id.Goals as goal

pub returns-then-is_name_at : goal.returns-then-is_name_at
returns-then-is_name_at c = (sym c.if-not-may_be_named.ensures, id_name (sym c.if-is_name_at.ensures.test))

pub returns-then-is_qualified_name : goal.returns-then-is_qualified_name
returns-then-is_qualified_name c = (sym c.if-not-may_be_named.ensures, id_qualified (sym c.if-is_qualified_name.ensures))

pub returns : goal.returns
returns c = λ e. id_missing (sym c.if-is_name_at.ensures.test) (sym c.if-is_qualified_name.ensures)
