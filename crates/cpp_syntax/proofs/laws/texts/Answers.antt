use Rattle.cpp_syntax.proofs.FirstTerminals.{ends_behind, not_empty}
use Rattle.cpp_syntax.proofs.DeclaratorForms.{begins_form}
use Rattle.cpp_syntax.proofs.BalancedDerivations.{form_balanced}
use Rattle.cpp_syntax.proofs.WithinTokens.{inside}
use Rattle.std.proofs.Common.{refl}
use Rattle.cpp_syntax.proofs.laws.texts.Goals as goal

pub returns : goal.returns
returns c = record {
  forward = λ source f a b r x. ends_behind x;
  inside = λ source f a b r x h. inside x refl h;
  balanced = λ source f a b r x. form_balanced x;
  filled = λ source f a b r x e. not_empty x e;
  first = λ source f a b r x h. begins_form x h;
}
