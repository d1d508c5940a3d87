-- What a lambda captures: a variable at hand, or `this` (C++14 5.1.2 p8 to p15).
use Rattle.std.specs.Prelude.{◌≡◌, ℕ, List, Some, slice_get}
use Rattle.elab_rules.specs.cpp_lex.Tokens.{Lexeme}
use Rattle.elab_rules.specs.cpp_ast.Trees as syntax
use Rattle.elab_rules.specs.elab_ctx.Ctx.{Ctx, Capture}
use Rattle.elab_rules.specs.Lambdas.{Otherwise, Used, explicit_captures, default_captures}
use Rattle.elab_fits.specs.Standing.{On}
use Rattle.elab_fits_forms.specs.Expressions.{IsCapture}

abbrev pub AreCaptures : Ctx → List Capture → Type 0
AreCaptures c xs = (i : ℕ) (x : Capture) → slice_get xs i ≡ Some x → IsCapture c x

-- Laws

-- what is written between the brackets
abbrev pub ExplicitAreCaptures : Type 0
ExplicitAreCaptures = (s : List Lexeme) (c : Ctx) (d : Otherwise) (ts : syntax.Trees) → On (AreCaptures c) (explicit_captures s c d ts)

-- and what the default there says
abbrev pub DefaultsAreCaptures : Type 0
DefaultsAreCaptures = (c : Ctx) (d : Otherwise) (xs : List Capture) (us : List Used) → AreCaptures c xs → On (AreCaptures c) (default_captures c d xs us)
