-- Lambdas keep the types of a context sound: each adds a class, whose members are its captures, and a function, its call.
use Rattle.std.proofs.Common.{◌≡◌, refl, ◌∙◌, ℕ, Bool, true, false, not, ◌&&◌, ◌||◌, List, [], ◌∷◌, ◌++◌}
use Rattle.std.proofs.Common.{Option, Some, None, is_some, Result, Ok}
use Rattle.std.specs.Prelude.{if◌then◌else◌, slice_get}
use Rattle.std.specs.List.{list_all}
use Rattle.std.proofs.lemmas.Bool.{and_parts}
use Rattle.std.proofs.lemmas.List.Folds.{list_all-append}
use Rattle.elab_rules.specs.cpp_types.Typ.{Typ, typ, void, int, enum, null, ptr, ref, array, func, class, closure, tx_ex}
use Rattle.elab_rules.specs.cpp_types.Class.{Class}
use Rattle.elab_rules.specs.cpp_types.Conversion.{referred}
use Rattle.elab_rules.specs.cpp_types.declared.classes.At.{At}
use Rattle.elab_rules.specs.cpp_lex.Tokens.{Lexeme}
use Rattle.elab_rules.specs.cpp_ast.declared.kinds.NodeKind.TheVariants as k
use Rattle.elab_rules.specs.cpp_ast.Trees as syntax
use Rattle.elab_rules.specs.cpp_tree.declared.faults.ElabFault.{ElabFault}
use Rattle.elab_rules.specs.cpp_tree.declared.faults.IllRule.TheVariants.{UnknownName, BadInit, Capture as CaptureRule, OutOfProfile, Incomplete, NoCopy}
use Rattle.elab_rules.specs.cpp_tree.Notation.{plain}
use Rattle.elab_rules.specs.cpp_tree.Typing.{form_in}
use Rattle.elab_rules.specs.elab_ctx.Ctx.{Ctx, Work, Capture}
use Rattle.elab_rules.specs.elab_ctx.Steps.{expect, check, each_of, at_of, spelling}
use Rattle.elab_rules.specs.Operators
use Rattle.elab_rules.specs.cpp_types.Class
use Rattle.elab_rules.specs.Lambdas as lambdas
use Rattle.elab_fits.specs.Standing.{On}
use Rattle.elab_fits.proofs.Steps.{bind, skip, expected, either_way as either}
use Rattle.elab_sound_types.specs.Types.{target, variable, is_sound}
use Rattle.elab_sound_types.specs.Contexts.{HasSoundTypes, is_sound_known, is_sound_variable}
use Rattle.elab_sound_types.specs.Contexts.{is_sound_capture}
use Rattle.elab_sound_types.proofs.Sound.{both}
use Rattle.elab_sound_types.proofs.Names.{at_place, this_object}

-- Captures (C++14 5.1.2)

referred_target : (cs : List Class) (t : Typ) → is_sound cs variable t ≡ true → is_sound cs target (referred t) ≡ true
referred_target cs (typ (ref u) c v) h = (and_parts (not (c || v)) (is_sound cs target u) h).1
referred_target cs (typ void c v) h = absurd cc
referred_target cs (typ (int k) c v) h = refl
referred_target cs (typ (enum e s) c v) h = refl
referred_target cs (typ null c v) h = refl
referred_target cs (typ (ptr t) c v) h = h
referred_target cs (typ (array t k) c v) h = h
referred_target cs (typ (func s) c v) h = absurd cc
referred_target cs (typ (class k) c v) h = h
referred_target cs (typ (closure k) c v) h = h
referred_target cs (typ (tx_ex (typ f d w)) c v) h = h

copied_sound : (cs : List Class) (t : Typ) → is_sound cs target t ≡ true → is_sound cs variable (lambdas.copied_as t) ≡ true
copied_sound cs (typ (func s) c v) h = h
copied_sound cs (typ void c v) h = absurd cc
copied_sound cs (typ (int k) c v) h = refl
copied_sound cs (typ (enum e s) c v) h = refl
copied_sound cs (typ null c v) h = refl
copied_sound cs (typ (ptr t) c v) h = h
copied_sound cs (typ (ref t) c v) h = absurd cc
copied_sound cs (typ (array t k) c v) h = h
copied_sound cs (typ (class k) c v) h = h
copied_sound cs (typ (closure k) c v) h = h
copied_sound cs (typ (tx_ex (typ f d w)) c v) h = h

captured_sound : (cs : List Class) (b : Bool) (t : Typ) → is_sound cs variable t ≡ true → is_sound cs variable (lambdas.captured_as b t) ≡ true
captured_sound cs true t h = referred_target cs t h
captured_sound cs false t h = copied_sound cs (referred t) (referred_target cs t h)

abbrev pub AreCaptures : List Class → List Capture → Type 0
AreCaptures cs xs = list_all (is_sound_capture cs) xs ≡ true

one_more : (cs : List Class) (xs : List Capture) (x : Capture) → is_sound_capture cs x ≡ true → AreCaptures cs xs → AreCaptures cs (xs ++ x ∷ [])
one_more cs xs x h g = list_all-append (is_sound_capture cs) xs (x ∷ []) ∙ both g (both h refl)

each_sound : {R : Type 0} (P : R → Type 0) (step : R → syntax.Tree → Result R ElabFault) (r : R) (ts : syntax.Trees) → P r
    → ((x : R) (t : syntax.Tree) → P x → On P (step x t)) → On P (each_of step r ts)
each_sound P step r syntax.none h g = h
each_sound P step r (syntax.more t ts) h g = bind P P (step r t) _ (g r t h) (λ x i. each_sound P step x ts i g)

module _ (c : Ctx) (w : Work) (h : HasSoundTypes c w) where
  abbrev cs : List Class
  cs = c.classes

  abbrev IsVariable : Typ → Type 0
  IsVariable t = is_sound cs variable t ≡ true

  capture_variable : (xs : List Capture) (at : At) (i : ℕ) (by_ref : Bool) → AreCaptures cs xs → On (AreCaptures cs) (lambdas.capture_variable c xs at i by_ref)
  capture_variable xs at i by_ref g = bind IsVariable (AreCaptures cs) (lambdas.variable_type c at i) _
      (expected IsVariable at UnknownName (slice_get c.variables i) _ (λ v e. known_by v.typ at (at_place (is_sound_variable cs) c.variables i v h.variables e)))
      (λ t j. skip (AreCaptures cs) (check at OutOfProfile (by_ref || lambdas.copies_closure c (form_in (referred t)))) _
      (λ y. skip (AreCaptures cs) (check at Incomplete (by_ref || Operators.is_complete c (Class.held (referred t)))) _
      (λ z. skip (AreCaptures cs) (check at NoCopy (by_ref || lambdas.copies_elements c (referred t))) _
      (λ x. one_more cs xs (record { variable = Some i; by_ref = by_ref; typ = lambdas.captured_as by_ref t; at = at }) (captured_sound cs by_ref t j) g))))
    where
      known_by : (o : Option Typ) (at : At) → is_sound_known cs o ≡ true → On IsVariable (expect at BadInit o)
      known_by (Some t) at j = j
      known_by None at j = tt

  capture_this : (xs : List Capture) (at : At) → AreCaptures cs xs → On (AreCaptures cs) (lambdas.capture_this c xs at)
  capture_this xs at g = expected (AreCaptures cs) at CaptureRule c.this _
      (λ t e. one_more cs xs (record { variable = None; by_ref = false; typ = plain (ptr t.typ); at = at }) (this_object cs c.this t h.this e) g)

  explicit_variable : (d : lambdas.Otherwise) (xs : List Capture) (at : At) (name : List ℕ) (by_ref : Bool) → AreCaptures cs xs
      → On (AreCaptures cs) (lambdas.explicit_variable c d xs at name by_ref)
  explicit_variable d xs at name by_ref g = skip (AreCaptures cs) (lambdas.named_variable c at name) _
      (λ i. skip (AreCaptures cs) (check at CaptureRule (lambdas.adds d by_ref && not (lambdas.is_captured (Some i) xs))) _
      (λ y. capture_variable xs at i by_ref g))

  explicit_capture : (s : List Lexeme) (d : lambdas.Otherwise) (xs : List Capture) (t : syntax.Tree) → AreCaptures cs xs
      → On (AreCaptures cs) (lambdas.explicit_capture s c d xs t)
  explicit_capture s d xs (syntax.node k.SimpleCapture p (Some t) kids) g = explicit_variable d xs (at_of p) (spelling s t) false g
  explicit_capture s d xs (syntax.node k.ReferenceCapture p (Some t) kids) g = explicit_variable d xs (at_of p) (spelling s t) true g
  explicit_capture s d xs (syntax.node k.ThisCapture p token kids) g =
      skip (AreCaptures cs) (check (at_of p) CaptureRule (lambdas.adds d false && not (lambdas.is_captured None xs))) _ (λ y. capture_this xs (at_of p) g)
  explicit_capture s d xs t g = g

  pub explicit_captures : (s : List Lexeme) (d : lambdas.Otherwise) (ts : syntax.Trees) → On (AreCaptures cs) (lambdas.explicit_captures s c d ts)
  explicit_captures s d ts = each_sound (AreCaptures cs) (lambdas.explicit_capture s c d) [] ts refl (λ xs t g. explicit_capture s d xs t g)

  capture_used : (by_ref : Bool) (xs : List Capture) (at : At) (o : Option ℕ) → AreCaptures cs xs → On (AreCaptures cs) (lambdas.capture_used c by_ref xs at o)
  capture_used by_ref xs at (Some i) g = capture_variable xs at i by_ref g
  capture_used by_ref xs at None g = either (AreCaptures cs) (is_some c.this) _ _ (capture_this xs at g) g

  captured_uses : (by_ref : Bool) (xs : List Capture) (us : List lambdas.Used) → AreCaptures cs xs → On (AreCaptures cs) (lambdas.captured_uses c by_ref xs us)
  captured_uses by_ref xs [] g = g
  captured_uses by_ref xs (u ∷ us) g = bind (AreCaptures cs) (AreCaptures cs)
      (if lambdas.is_captured u.variable xs then Ok xs else lambdas.capture_used c by_ref xs u.at u.variable) _
      (either (AreCaptures cs) (lambdas.is_captured u.variable xs) _ _ g (capture_used by_ref xs u.at u.variable g))
      (λ ys i. captured_uses by_ref ys us i)

  pub default_captures : (d : lambdas.Otherwise) (xs : List Capture) (us : List lambdas.Used) → AreCaptures cs xs
      → On (AreCaptures cs) (lambdas.default_captures c d xs us)
  default_captures lambdas.nothing xs us g = g
  default_captures lambdas.by_copy xs us g = captured_uses false xs us g
  default_captures lambdas.by_reference xs us g = captured_uses true xs us g
