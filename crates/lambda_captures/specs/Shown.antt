-- What the records of the code show.
use Rattle.std.specs.Prelude.{ℕ, Vec, List, [], ◌∷◌, map, fold}
use Rattle.elab_init.specs.cpp_lex.Tokens.{Lexeme}
use Rattle.std.specs.declared.alloc.Global.{Global}
use Rattle.elab_init.specs.elab_ctx.declared.env.Capture.{Capture as CaptureRec}
use Rattle.elab_init.specs.elab_ctx.Ctx.{Capture, capture_of}
use Rattle.elab_init.specs.elab_ctx.Steps.{spelling}
use Rattle.elab_init.specs.elab_rules.Lambdas.{Used, Scan, Otherwise, nothing, by_copy, by_reference}
use Rattle.lambda_captures.specs.declared.scanning.Used.{Used as UsedRec}
use Rattle.lambda_captures.specs.declared.scanning.Scan.{Scan as ScanRec}
use Rattle.lambda_captures.specs.declared.explicit.Otherwise.{Otherwise as OtherwiseRec}
use Rattle.lambda_captures.specs.declared.explicit.Otherwise.TheVariants as defaults

-- What a body names

abbrev pub used_of : UsedRec → Used
used_of u = record { variable = u.variable; at = u.at }

abbrev pub with_own : List Lexeme → List (List ℕ) → ℕ → List (List ℕ)
with_own s names t = spelling s t ∷ names

-- the names that were declared, the last one first; they are kept by their tokens, the last one last
abbrev pub own_of : List Lexeme → List ℕ → List (List ℕ)
own_of s tokens = fold (with_own s) [] tokens

abbrev pub scan_of : List Lexeme → ScanRec → Scan
scan_of s x = record { own = own_of s x.own.items; used = map used_of x.used.items }

-- Captures

abbrev pub captures_of : Vec CaptureRec Global → List Capture
captures_of v = map capture_of v.items

abbrev pub otherwise_of : OtherwiseRec → Otherwise
otherwise_of defaults.Nothing = nothing
otherwise_of defaults.ByCopy = by_copy
otherwise_of defaults.ByReference = by_reference
