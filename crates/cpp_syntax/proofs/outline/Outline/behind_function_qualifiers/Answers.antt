use Rattle.cpp_syntax.proofs.DeclaratorShapes.{qualifiers_found}
use Rattle.cpp_syntax.proofs.outline.Outline.behind_function_qualifiers.Goals as goal

pub returns : goal.returns
returns c = qualifiers_found c.behind_const.ensures c.behind_safety.ensures c.behind_noexcept.ensures
