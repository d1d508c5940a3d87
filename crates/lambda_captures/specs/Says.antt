-- What answers say of what is to be answered.
use Rattle.std.specs.Prelude.{◌≡◌, Bool, true, List, map, take, length, Result, Ok, Err}
use Rattle.std.specs.Borrow.{Bor}
use Rattle.elab_init.specs.cpp_lex.Tokens.{Lexeme}
use Rattle.elab_init.specs.cpp_types.declared.types.Ty.{Ty}
use Rattle.elab_init.specs.cpp_types.Typ.{Typ, typ_of}
use Rattle.elab_init.specs.cpp_tree.declared.faults.ElabFault.{ElabFault}
use Rattle.elab_init.specs.elab_ctx.Ctx.{Capture, capture_of}
use Rattle.elab_init.specs.elab_ctx.declared.env.Capture.{Capture as CaptureRec}
use Rattle.elab_init.specs.elab_ctx.Says.{Faults}
use Rattle.elab_init.specs.elab_rules.Lambdas.{Scan}
use Rattle.lambda_captures.specs.declared.scanning.Scan.{Scan as ScanRec}
use Rattle.lambda_captures.specs.Shown.{scan_of}

-- these are the captures that are to be answered
abbrev pub Collects : List CaptureRec → Result (Unit {0}) ElabFault → Result (List Capture) ElabFault → Type 0
Collects new (Ok u) x = x ≡ Ok (map capture_of new)
Collects new (Err e) x = Faults e x

-- a type is known
abbrev pub Knows : Result (Bor Ty) ElabFault → Result Typ ElabFault → Type 0
Knows (Ok t) x = x ≡ Ok (typ_of t.now)
Knows (Err e) x = Faults e x

-- it is refused where it is to be
abbrev pub Passes : Result (Unit {0}) ElabFault → Result Bool ElabFault → Type 0
Passes (Ok u) x = x ≡ Ok true
Passes (Err e) x = Faults e x

-- what a body names was read as far as `x`; names that were declared before are kept
pub record Scanned (s : List Lexeme) (old new : ScanRec) (x : Scan) : Type 0 where
  pub kept : take (length old.own.items) new.own.items ≡ old.own.items
  pub is : scan_of s new ≡ x
