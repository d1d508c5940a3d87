use Rattle.cpp_syntax.proofs.UnitBodies.{unit_of, unit_only}
use Rattle.cpp_syntax.proofs.laws.units.Goals as goal

pub returns : goal.returns
returns c = record {
  is_unit = λ source read trees decls x w f. unit_of x w f;
  no_other = λ source read trees decls other x w f u. unit_only x w f other u;
}
