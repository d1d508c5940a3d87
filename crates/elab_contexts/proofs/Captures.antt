-- What a lambda captures by copy is complete.
use Rattle.std.proofs.Common.{◌≡◌, refl, subst, ℕ, Bool, true, false, ◌||◌, List, [], ◌∷◌, slice_get, Option, Some, None, is_some, nat_le, Result, Ok, Err}
use Rattle.std.specs.Prelude.{if◌then◌else◌, not, ◌&&◌}
use Rattle.std.proofs.lemmas.Option.{same_Some}
use Rattle.elab_rules.specs.cpp_types.Typ.{Typ, typ, void, int, enum, null, ptr, ref, array, func, class, closure, tx_ex}
use Rattle.elab_rules.specs.cpp_types.Class.{completion_of, held}
use Rattle.elab_rules.specs.cpp_types.Conversion.{referred}
use Rattle.elab_rules.specs.cpp_types.declared.classes.At.{At}
use Rattle.elab_rules.specs.cpp_lex.Tokens.{Lexeme}
use Rattle.elab_rules.specs.cpp_ast.declared.kinds.NodeKind.TheVariants as k
use Rattle.elab_rules.specs.cpp_ast.Trees as syntax
use Rattle.elab_rules.specs.cpp_tree.declared.faults.ElabFault.{ElabFault}
use Rattle.elab_rules.specs.cpp_tree.declared.faults.IllRule.TheVariants.{OutOfProfile, Incomplete, NoCopy, Capture as CaptureRule}
use Rattle.elab_rules.specs.cpp_tree.Typing.{form_in}
use Rattle.elab_rules.specs.elab_ctx.Ctx.{Ctx, Capture}
use Rattle.elab_rules.specs.elab_ctx.Steps.{and_then, check, expect, each_of, at_of, spelling}
use Rattle.elab_rules.specs.Operators.{is_complete}
use Rattle.elab_rules.specs.Sizes.{sized}
use Rattle.elab_rules.specs.cpp_tree.declared.faults.ElabFault.TheVariants.{Limit}
use Rattle.elab_rules.specs.cpp_tree.declared.faults.LimitKind.TheVariants.{Size}
use Rattle.elab_rules.specs.cpp_layout.declared.extents.TheConstants.{GREATEST_SIZE}
use Rattle.elab_rules.specs.Lambdas.{Otherwise, nothing, by_copy, by_reference, Used, capture_variable, variable_type, captured_as, copied_as, copies_closure}
use Rattle.elab_rules.specs.Lambdas.{copies_elements, capture_this, explicit_variable, named_variable, explicit_capture, explicit_captures, capture_used}
use Rattle.elab_rules.specs.Lambdas.{captured_uses, default_captures, is_captured, adds}
use Rattle.elab_fits.specs.Standing.{On}
use Rattle.elab_fits.proofs.Steps.{bind, skip, either_way as either, checked}
use Rattle.elab_contexts.specs.Steps.{IsWhole}
use Rattle.elab_contexts.proofs.Lists.{one_more}

-- a size that is asked for
pub within_size : {B : Type 0} (Q : B → Type 0) (at : At) (n : ℕ) (f : Bool → Result B ElabFault) → (nat_le n GREATEST_SIZE ≡ true → On Q (f true))
    → On Q (and_then (sized at n) f)
within_size Q at n f h = by (nat_le n GREATEST_SIZE) refl
  where
    by : (b : Bool) → nat_le n GREATEST_SIZE ≡ b → On Q (and_then (if b then Ok true else Err (Limit at Size)) f)
    by true e = h e
    by false e = tt

pub is_whole : (c : Ctx) (o : Option ℕ) → is_complete c o ≡ true → IsWhole c.classes o
is_whole c None h n e = absurd cc
is_whole c (Some m) h n e = subst (λ (i : ℕ). is_some (completion_of c.classes i) ≡ true) (same_Some m n e) h

copied_whole : (c : Ctx) (t : Typ) → is_complete c (held t) ≡ true → IsWhole c.classes (held (copied_as t))
copied_whole c (typ (func s) d v) h = λ n e. absurd cc
copied_whole c (typ void d v) h = λ n e. absurd cc
copied_whole c (typ (int i) d v) h = λ n e. absurd cc
copied_whole c (typ (enum i s) d v) h = λ n e. absurd cc
copied_whole c (typ null d v) h = λ n e. absurd cc
copied_whole c (typ (ptr t) d v) h = λ n e. absurd cc
copied_whole c (typ (ref t) d v) h = λ n e. absurd cc
copied_whole c (typ (array t b) d v) h = is_whole c (held t) h
copied_whole c (typ (class m) d v) h = is_whole c (Some m) h
copied_whole c (typ (closure m) d v) h = is_whole c (Some m) h
copied_whole c (typ (tx_ex t) d v) h = is_whole c (held t) h

captured_whole : (c : Ctx) (by_ref : Bool) (t : Typ) → (by_ref || is_complete c (held (referred t))) ≡ true → IsWhole c.classes (held (captured_as by_ref t))
captured_whole c true t h = λ n e. absurd cc
captured_whole c false t h = copied_whole c (referred t) h

-- what is captured so far
abbrev pub AllWhole : Ctx → List Capture → Type 0
AllWhole c xs = (i : ℕ) (x : Capture) → slice_get xs i ≡ Some x → IsWhole c.classes (held x.typ)

variable_whole : (c : Ctx) (xs : List Capture) (at : At) (i : ℕ) (by_ref : Bool) → AllWhole c xs → On (AllWhole c) (capture_variable c xs at i by_ref)
variable_whole c xs at i by_ref w = skip (AllWhole c) (variable_type c at i) _
    (λ t. skip (AllWhole c) (check at OutOfProfile (by_ref || copies_closure c (form_in (referred t)))) _
    (λ y. checked (AllWhole c) at Incomplete (by_ref || is_complete c (held (referred t))) _
    (λ z. skip (AllWhole c) (check at NoCopy (by_ref || copies_elements c (referred t))) _
    (λ x. one_more (λ (y : Capture). IsWhole c.classes (held y.typ)) xs _ w (captured_whole c by_ref t z)))))

this_whole : (c : Ctx) (xs : List Capture) (at : At) → AllWhole c xs → On (AllWhole c) (capture_this c xs at)
this_whole c xs at w = skip (AllWhole c) (expect at CaptureRule c.this) _
    (λ t. one_more (λ (y : Capture). IsWhole c.classes (held y.typ)) xs _ w (λ n e. absurd cc))

explicit_whole : (c : Ctx) (d : Otherwise) (xs : List Capture) (at : At) (name : List ℕ) (by_ref : Bool) → AllWhole c xs
    → On (AllWhole c) (explicit_variable c d xs at name by_ref)
explicit_whole c d xs at name by_ref w = skip (AllWhole c) (named_variable c at name) _
    (λ i. skip (AllWhole c) (check at CaptureRule (adds d by_ref && not (is_captured (Some i) xs))) _ (λ y. variable_whole c xs at i by_ref w))

one_whole : (s : List Lexeme) (c : Ctx) (d : Otherwise) (xs : List Capture) (t : syntax.Tree) → AllWhole c xs → On (AllWhole c) (explicit_capture s c d xs t)
one_whole s c d xs (syntax.node k.SimpleCapture p (Some t) kids) w = explicit_whole c d xs (at_of p) (spelling s t) false w
one_whole s c d xs (syntax.node k.ReferenceCapture p (Some t) kids) w = explicit_whole c d xs (at_of p) (spelling s t) true w
one_whole s c d xs (syntax.node k.ThisCapture p token kids) w =
    skip (AllWhole c) (check (at_of p) CaptureRule (adds d false && not (is_captured None xs))) _ (λ y. this_whole c xs (at_of p) w)
one_whole s c d xs t w = w

each_whole : (s : List Lexeme) (c : Ctx) (d : Otherwise) (xs : List Capture) (ts : syntax.Trees) → AllWhole c xs
    → On (AllWhole c) (each_of (explicit_capture s c d) xs ts)
each_whole s c d xs syntax.none w = w
each_whole s c d xs (syntax.more t ts) w = bind (AllWhole c) (AllWhole c) (explicit_capture s c d xs t) _ (one_whole s c d xs t w)
    (λ ys v. each_whole s c d ys ts v)

pub explicit_all : (s : List Lexeme) (c : Ctx) (d : Otherwise) (ts : syntax.Trees) → On (AllWhole c) (explicit_captures s c d ts)
explicit_all s c d ts = each_whole s c d [] ts (λ i x e. absurd cc)

used_whole : (c : Ctx) (by_ref : Bool) (xs : List Capture) (at : At) (o : Option ℕ) → AllWhole c xs → On (AllWhole c) (capture_used c by_ref xs at o)
used_whole c by_ref xs at (Some i) w = variable_whole c xs at i by_ref w
used_whole c by_ref xs at None w = either (AllWhole c) (is_some c.this) _ _ (this_whole c xs at w) w

uses_whole : (c : Ctx) (by_ref : Bool) (xs : List Capture) (us : List Used) → AllWhole c xs → On (AllWhole c) (captured_uses c by_ref xs us)
uses_whole c by_ref xs [] w = w
uses_whole c by_ref xs (u ∷ us) w = bind (AllWhole c) (AllWhole c) (if is_captured u.variable xs then Ok xs else capture_used c by_ref xs u.at u.variable) _
    (either (AllWhole c) (is_captured u.variable xs) _ _ w (used_whole c by_ref xs u.at u.variable w)) (λ ys v. uses_whole c by_ref ys us v)

pub default_all : (c : Ctx) (d : Otherwise) (xs : List Capture) (us : List Used) → AllWhole c xs → On (AllWhole c) (default_captures c d xs us)
default_all c nothing xs us w = w
default_all c by_copy xs us w = uses_whole c false xs us w
default_all c by_reference xs us w = uses_whole c true xs us w
