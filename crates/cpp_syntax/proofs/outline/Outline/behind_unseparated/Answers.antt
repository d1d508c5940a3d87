use Rattle.std.proofs.Common.{◌≡◌, ◌<◌, ℕ, length, refl, arith}
use Rattle.cpp_syntax.proofs.IndependentDerivations.{free_none}
use Rattle.cpp_syntax.proofs.Recognisers.{behind_any, many_starts, many_goes, many_stops}
use Rattle.cpp_syntax.proofs.DeclarationShapes.{token_starts}
use Rattle.cpp_syntax.proofs.outline.Outline.behind_unseparated.Goals as goal

pub tokens-init : goal.tokens-init
tokens-init c = many_starts

pub returns-in_default : goal.returns-in_default
returns-in_default c = many_stops c.tokens.invariant (free_none refl (rw c.in_default.is at c.in_ok-behind.ensures) c.tokens.invariant.got)

pub tokens-smaller : goal.tokens-smaller
tokens-smaller c = let h = token_starts (rw c.in-Some.is at c.in_ok-behind.ensures) in let i = h.0 in let j = h.1 in omega (arith, i, j)

pub tokens-preserved : goal.tokens-preserved
tokens-preserved c = many_goes c.tokens.invariant (behind_any (rw c.in-Some.is at c.in_ok-behind.ensures) refl c.tokens.invariant.got) refl refl
