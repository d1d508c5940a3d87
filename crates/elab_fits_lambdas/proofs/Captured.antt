-- What a lambda captures is at hand.
use Rattle.std.proofs.Common.{◌≡◌, refl, ℕ, Bool, true, false, ◌||◌, List, [], ◌∷◌, slice_get, Option, Some, None, is_some, Ok}
use Rattle.std.specs.Prelude.{if◌then◌else◌, not, ◌&&◌}
use Rattle.std.proofs.Common.{subst}
use Rattle.std.proofs.lemmas.Option.{same_Some}
use Rattle.elab_rules.specs.cpp_types.Typ.{Typ, ptr}
use Rattle.elab_rules.specs.cpp_types.Class.{held}
use Rattle.elab_rules.specs.cpp_types.Conversion.{referred}
use Rattle.elab_rules.specs.cpp_types.declared.classes.At.{At}
use Rattle.elab_rules.specs.cpp_lex.Tokens.{Lexeme}
use Rattle.elab_rules.specs.cpp_ast.declared.kinds.NodeKind.TheVariants as k
use Rattle.elab_rules.specs.cpp_ast.Trees as syntax
use Rattle.elab_rules.specs.cpp_tree.declared.faults.IllRule.TheVariants.{UnknownName, BadInit, OutOfProfile, Incomplete, NoCopy, Capture as CaptureRule}
use Rattle.elab_rules.specs.cpp_tree.Notation.{plain}
use Rattle.elab_rules.specs.cpp_tree.Typing.{form_in}
use Rattle.elab_rules.specs.elab_ctx.Ctx.{Ctx, Capture, Variable, This}
use Rattle.elab_rules.specs.elab_ctx.Steps.{check, expect, each_of, at_of, spelling}
use Rattle.elab_rules.specs.Operators.{is_complete}
use Rattle.elab_rules.specs.Lambdas.{Otherwise, nothing, by_copy, by_reference, Used, capture_variable, variable_type, captured_as, copies_closure}
use Rattle.elab_rules.specs.Lambdas.{copies_elements, capture_this, explicit_variable, named_variable, explicit_capture, capture_used}
use Rattle.elab_rules.specs.Lambdas.{captured_uses, is_captured, adds}
use Rattle.elab_fits.specs.Standing.{On}
use Rattle.elab_fits.proofs.Steps.{bind, skip, expected, either}
use Rattle.elab_contexts.proofs.Lists.{one_more}
use Rattle.elab_fits_forms.specs.Expressions.{IsCapturedVariable, IsCapture}
use Rattle.elab_fits_lambdas.specs.Captured.{AreCaptures, ExplicitAreCaptures, DefaultsAreCaptures}

-- a variable at hand whose type is known
record IsTyped (c : Ctx) (i : ℕ) (t : Typ) : Type 0 where
  variable : Variable
  at : slice_get c.variables i ≡ Some variable
  known : variable.typ ≡ Some t

typed : (c : Ctx) (at : At) (i : ℕ) → On (IsTyped c i) (variable_type c at i)
typed c at i = expected (IsTyped c i) at UnknownName (slice_get c.variables i) _ (λ v e. by v v.typ refl e)
  where
    by : (v : Variable) (o : Option Typ) → v.typ ≡ o → slice_get c.variables i ≡ Some v → On (IsTyped c i) (expect at BadInit o)
    by v (Some t) f e = record { variable = v; at = e; known = f }
    by v None f e = tt

captured : (c : Ctx) (at : At) (i : ℕ) (by_ref : Bool) (t : Typ) → IsTyped c i t
    → IsCapture c (record { variable = Some i; by_ref = by_ref; typ = captured_as by_ref t; at = at })
captured c at i by_ref t h = record {
  variable = λ j e. subst (λ (n : ℕ). IsCapturedVariable c (record { variable = Some i; by_ref = by_ref; typ = captured_as by_ref t; at = at }) n)
      (same_Some i j e) (record { variable = h.variable; at = h.at; typ = t; known = h.known; is = refl });
  this = λ e. absurd cc;
}

captured_this : (c : Ctx) (at : At) (t : This) → c.this ≡ Some t
    → IsCapture c (record { variable = None; by_ref = false; typ = plain (ptr t.typ); at = at })
captured_this c at t e = record { variable = λ i f. absurd cc; this = λ f. record { this = t; at = e; is = refl } }

variable_all : (c : Ctx) (xs : List Capture) (at : At) (i : ℕ) (by_ref : Bool) → AreCaptures c xs → On (AreCaptures c) (capture_variable c xs at i by_ref)
variable_all c xs at i by_ref w = bind (IsTyped c i) (AreCaptures c) (variable_type c at i) _ (typed c at i)
    (λ t h. skip (AreCaptures c) (check at OutOfProfile (by_ref || copies_closure c (form_in (referred t)))) _
    (λ y. skip (AreCaptures c) (check at Incomplete (by_ref || is_complete c (held (referred t)))) _
    (λ z. skip (AreCaptures c) (check at NoCopy (by_ref || copies_elements c (referred t))) _
    (λ x. one_more (IsCapture c) xs _ w (captured c at i by_ref t h)))))

this_all : (c : Ctx) (xs : List Capture) (at : At) → AreCaptures c xs → On (AreCaptures c) (capture_this c xs at)
this_all c xs at w = expected (AreCaptures c) at CaptureRule c.this _ (λ t e. one_more (IsCapture c) xs _ w (captured_this c at t e))

explicit_one : (c : Ctx) (d : Otherwise) (xs : List Capture) (at : At) (name : List ℕ) (by_ref : Bool) → AreCaptures c xs
    → On (AreCaptures c) (explicit_variable c d xs at name by_ref)
explicit_one c d xs at name by_ref w = skip (AreCaptures c) (named_variable c at name) _
    (λ i. skip (AreCaptures c) (check at CaptureRule (adds d by_ref && not (is_captured (Some i) xs))) _ (λ y. variable_all c xs at i by_ref w))

one_all : (s : List Lexeme) (c : Ctx) (d : Otherwise) (xs : List Capture) (t : syntax.Tree) → AreCaptures c xs
    → On (AreCaptures c) (explicit_capture s c d xs t)
one_all s c d xs (syntax.node k.SimpleCapture p (Some t) kids) w = explicit_one c d xs (at_of p) (spelling s t) false w
one_all s c d xs (syntax.node k.ReferenceCapture p (Some t) kids) w = explicit_one c d xs (at_of p) (spelling s t) true w
one_all s c d xs (syntax.node k.ThisCapture p token kids) w =
    skip (AreCaptures c) (check (at_of p) CaptureRule (adds d false && not (is_captured None xs))) _ (λ y. this_all c xs (at_of p) w)
one_all s c d xs t w = w

each_all : (s : List Lexeme) (c : Ctx) (d : Otherwise) (xs : List Capture) (ts : syntax.Trees) → AreCaptures c xs
    → On (AreCaptures c) (each_of (explicit_capture s c d) xs ts)
each_all s c d xs syntax.none w = w
each_all s c d xs (syntax.more t ts) w = bind (AreCaptures c) (AreCaptures c) (explicit_capture s c d xs t) _ (one_all s c d xs t w)
    (λ ys v. each_all s c d ys ts v)

pub explicit_all : ExplicitAreCaptures
explicit_all s c d ts = each_all s c d [] ts (λ i x e. absurd cc)

used_all : (c : Ctx) (by_ref : Bool) (xs : List Capture) (at : At) (o : Option ℕ) → AreCaptures c xs → On (AreCaptures c) (capture_used c by_ref xs at o)
used_all c by_ref xs at (Some i) w = variable_all c xs at i by_ref w
used_all c by_ref xs at None w = either (AreCaptures c) (is_some c.this) _ _ (λ e. this_all c xs at w) (λ e. w)

uses_all : (c : Ctx) (by_ref : Bool) (xs : List Capture) (us : List Used) → AreCaptures c xs → On (AreCaptures c) (captured_uses c by_ref xs us)
uses_all c by_ref xs [] w = w
uses_all c by_ref xs (u ∷ us) w =
    bind (AreCaptures c) (AreCaptures c) (if is_captured u.variable xs then Ok xs else capture_used c by_ref xs u.at u.variable) _
    (either (AreCaptures c) (is_captured u.variable xs) _ _ (λ e. w) (λ e. used_all c by_ref xs u.at u.variable w)) (λ ys v. uses_all c by_ref ys us v)

pub default_all : DefaultsAreCaptures
default_all c nothing xs us w = w
default_all c by_copy xs us w = uses_all c false xs us w
default_all c by_reference xs us w = uses_all c true xs us w
