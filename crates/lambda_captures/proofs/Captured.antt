-- Captures that are written.
use Rattle.std.proofs.Common.{◌≡◌, ◌∙◌, ℕ, Bool, true, false, ◌||◌, List, Option, Some, None, Result, Ok, refl, sym, ap, subst}
use Rattle.elab_init.specs.cpp_lex.Tokens.{Lexeme}
use Rattle.elab_init.specs.cpp_ast.Trees.{Tree, node, Trees}
use Rattle.elab_init.specs.cpp_ast.declared.arena.At.{At as SyntaxAt}
use Rattle.elab_init.specs.cpp_ast.declared.kinds.NodeKind.{NodeKind}
use Rattle.elab_init.specs.cpp_ast.declared.kinds.NodeKind.TheVariants as k
use Rattle.elab_init.specs.cpp_types.Typ.{Typ}
use Rattle.elab_init.specs.cpp_types.Class.{held}
use Rattle.elab_init.specs.cpp_types.Conversion.{referred}
use Rattle.elab_init.specs.cpp_types.declared.classes.At.{At}
use Rattle.elab_init.specs.cpp_tree.declared.faults.ElabFault.{ElabFault}
use Rattle.elab_init.specs.cpp_tree.declared.faults.IllRule.TheVariants.{OutOfProfile, Incomplete, NoCopy}
use Rattle.elab_init.specs.cpp_tree.Typing.{form_in}
use Rattle.elab_init.specs.elab_ctx.declared.env.Capture.{Capture as CaptureRec}
use Rattle.elab_init.specs.elab_ctx.Ctx.{Ctx, Capture}
use Rattle.elab_init.specs.elab_ctx.Steps.{and_then, check, at_of}
use Rattle.elab_init.specs.elab_rules.Operators.{is_complete}
use Rattle.elab_init.specs.elab_rules.Lambdas.{Otherwise, explicit_capture, captured_as, copies_closure, copies_elements, variable_type, capture_variable}
use Rattle.lambda_captures.specs.Steps.{explicit_this, capture_typed, with_capture}
use Rattle.lambda_captures.specs.Says.{Collects}

collects_same : (new : List CaptureRec) (r : Result (Unit {0}) ElabFault) (x y : Result (List Capture) ElabFault) → y ≡ x → Collects new r x → Collects new r y
collects_same new r x y e m = subst (λ (z : Result (List Capture) ElabFault). Collects new r z) (sym e) m

this_is : (s : List Lexeme) (c : Ctx) (d : Otherwise) (xs : List Capture) (p : SyntaxAt) (o : Option ℕ) (kids : Trees)
    → explicit_capture s c d xs (node k.ThisCapture p o kids) ≡ explicit_this c d xs (at_of p)
this_is s c d xs p (Some t) kids = refl
this_is s c d xs p None kids = refl

pub this_captured : (new : List CaptureRec) (r : Result (Unit {0}) ElabFault) (s : List Lexeme) (c : Ctx) (d : Otherwise) (xs : List Capture) (t : Tree)
    (kind : NodeKind) (p : SyntaxAt) (o : Option ℕ) (kids : Trees) (at : At) →
    t ≡ node kind p o kids → kind ≡ k.ThisCapture → at ≡ at_of p → Collects new r (explicit_this c d xs at) → Collects new r (explicit_capture s c d xs t)
this_captured new r s c d xs t kind p o kids at e h q m =
    collects_same new r (explicit_this c d xs at) (explicit_capture s c d xs t)
    (ap (explicit_capture s c d xs) (e ∙ ap (λ (z : NodeKind). node z p o kids) h) ∙ this_is s c d xs p o kids ∙ ap (explicit_this c d xs) (sym q)) m

-- Variables

-- steps that nothing is made in, one by one or together
checked : {A : Type 0} (at : At) (a b d : Bool) (x : A)
    → and_then (check at OutOfProfile a) (λ y. and_then (check at Incomplete b) (λ z. and_then (check at NoCopy d) (λ u. Ok x)))
    ≡ and_then (and_then (check at OutOfProfile a) (λ y. and_then (check at Incomplete b) (λ z. check at NoCopy d))) (λ u. Ok x)
checked at false b d x = refl
checked at true false d x = refl
checked at true true false x = refl
checked at true true true x = refl

variable_is : (c : Ctx) (xs : List Capture) (at : At) (i : ℕ) (by_ref : Bool) (t : Typ) → variable_type c at i ≡ Ok t
    → capture_variable c xs at i by_ref ≡ capture_typed c xs at i by_ref t
variable_is c xs at i by_ref t h = rw h (checked at (by_ref || copies_closure c (form_in (referred t))) (by_ref || is_complete c (held (referred t)))
    (by_ref || copies_elements c (referred t)) (with_capture xs (Some i) by_ref (captured_as by_ref t) at))

pub variable_captured : (new : List CaptureRec) (r : Result (Unit {0}) ElabFault) (c : Ctx) (xs : List Capture) (at : At) (i : ℕ) (by_ref : Bool) (t : Typ)
    → variable_type c at i ≡ Ok t → Collects new r (capture_typed c xs at i by_ref t) → Collects new r (capture_variable c xs at i by_ref)
variable_captured new r c xs at i by_ref t h m =
    collects_same new r (capture_typed c xs at i by_ref t) (capture_variable c xs at i by_ref) (variable_is c xs at i by_ref t h) m
