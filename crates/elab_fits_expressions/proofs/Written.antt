-- Types that are written are sound: what is not is refused (C++14 8.3).
use Rattle.std.proofs.Common.{◌≡◌, refl, subst, ℕ, suc, Bool, true, false, not, ◌&&◌, ◌==◌, nat_le, nat_lt, List, [], ◌∷◌, Option, slice_get}
use Rattle.std.proofs.Common.{Some, None, codes, pos, int_lt}
use Rattle.std.specs.Prelude.{if◌then◌else◌}
use Rattle.std.specs.Str.{bytes_eq}
use Rattle.std.proofs.lemmas.Bool.{and_parts}
use Rattle.elab_rules.specs.tx_ints.declared.kinds.IntKind.{IntKind}
use Rattle.elab_rules.specs.tx_ints.Words.{value_of_word}
use Rattle.elab_rules.specs.cpp_types.Typ.{Typ, typ, Form, void, int, enum, null, ptr, ref, array, func, class, closure, tx_ex}
use Rattle.elab_rules.specs.cpp_types.Class.{Class}
use Rattle.elab_rules.specs.cpp_types.declared.classes.At.{At}
use Rattle.elab_rules.specs.cpp_lex.Tokens.{Lexeme}
use Rattle.elab_rules.specs.cpp_ast.declared.kinds.NodeKind.TheVariants as k
use Rattle.elab_rules.specs.cpp_ast.Trees as syntax
use Rattle.elab_rules.specs.cpp_tree.declared.faults.IllRule.TheVariants.{UnknownName, BadDeclaration, OutOfProfile, AbstractObject, NotConstant, NotTriviallyCopyable}
use Rattle.elab_rules.specs.cpp_tree.Trees.{typ_in}
use Rattle.elab_rules.specs.cpp_tree.Notation.{plain}
use Rattle.elab_rules.specs.cpp_tree.Typing.{form_in, is_void, is_reference, unqualified, qualified}
use Rattle.elab_rules.specs.cpp_tree.Rows.{Setting}
use Rattle.elab_rules.specs.cpp_layout.declared.extents.TheConstants.{GREATEST_SIZE}
use Rattle.elab_rules.specs.elab_ctx.Ctx.{Ctx, Work, Closure}
use Rattle.elab_rules.specs.elab_ctx.Types.{Named, type_called}
use Rattle.elab_rules.specs.elab_ctx.Steps.{and_then, expect, check, at_of, spelling, Operand}
use Rattle.elab_rules.specs.Constants.{constant}
use Rattle.elab_rules.specs.Operators.{value, arithmetic}
use Rattle.elab_rules.specs.Types as types
use Rattle.elab_rules.specs.Types.{Specifiers, no_specifiers, Parameter, Declared, Qualifiers, has_auto, type_named, word_form, integer_words, words_of}
use Rattle.elab_rules.specs.Types.{with_qualifiers, may_be_thrown, is_reference_form, is_array_form, is_function_form, is_bounded, auto_in, declared_name, owner_token}
use Rattle.elab_rules.specs.Types.{qualifiers_of, is_declared_safe, is_name}
use Rattle.elab_rules.specs.Expressions as expressions
use Rattle.elab_fits.specs.Standing.{On}
use Rattle.elab_fits.proofs.Nodes.{both}
use Rattle.elab_fits.proofs.Steps.{bind, skip, checked, expected, either}
use Rattle.elab_fits_forms.specs.Types.{is_sound, is_target, is_parameter, are_parameters, is_result}
use Rattle.elab_fits_forms.specs.Context.{Holds}
use Rattle.elab_fits_forms.proofs.Types.{sound_target, qualified_target}
use Rattle.elab_fits_expressions.specs.Written.{IsSound, AreParameters, IsSoundDeclared}

-- What is there

abbrev pub IfThere : {A : Type 0} → (A → Type 0) → Option A → Type 0
IfThere P (Some a) = P a
IfThere P None = Unit {0}

if_there : {A : Type 0} (P : A → Type 0) (o : Option A) (a : A) → IfThere P o → o ≡ Some a → P a
if_there {A} P (Some b) a h e = by b a h (same b a e)
  where
    same : (x y : A) → Some x ≡ Some y → x ≡ y
    same x y d = cc

    by : (x y : A) → P x → x ≡ y → P y
    by x y p d = subst P d p
if_there {A} P None a h e = absurd cc

there_if : {A : Type 0} (P : A → Type 0) (b : Bool) (x y : Option A) → IfThere P x → IfThere P y → IfThere P (if b then x else y)
there_if P true x y h g = h
there_if P false x y h g = g

pub not_true : (b : Bool) → not b ≡ true → b ≡ false
not_true true h = absurd cc
not_true false h = refl

-- Specifiers (C++14 7.1.6)

abbrev IsWord : List Class → Form → Type 0
IsWord n f = is_sound n (plain f) ≡ true

named_sound : (n : List Class) (name : List ℕ) (xs : List Named) → ((i : ℕ) (x : Named) → slice_get xs i ≡ Some x → IsSound n x.typ)
    → IfThere (IsSound n) (type_called name xs)
named_sound n name [] h = tt
named_sound n name (x ∷ xs) h = there_if (IsSound n) (bytes_eq name x.name) _ _ (h 0 x refl) (named_sound n name xs (λ i y e. h (suc i) y e))

word_sound : (n : List Class) (w : types.Words) → IfThere (IsWord n) (integer_words w)
word_sound n w =
    there_if (IsWord n) (w.chars == 1 && w.ints == 0 && types.is_modified w 1) _ _ refl (
    there_if (IsWord n) (w.shorts == 1 && types.is_modified w 1) _ _ refl (
    there_if (IsWord n) (w.longs == 1 && types.is_modified w 1) _ _ refl (
    there_if (IsWord n) (w.longs == 2 && types.is_modified w 2) _ _ refl (
    there_if (IsWord n) (nat_lt 0 w.all && types.is_modified w 0) _ _ refl tt))))

form_sound : (n : List Class) (words : List (List ℕ)) → IfThere (IsWord n) (word_form words)
form_sound n (word ∷ []) =
    there_if (IsWord n) (bytes_eq word (codes "void")) _ _ refl (
    there_if (IsWord n) (bytes_eq word (codes "bool")) _ _ refl (
    there_if (IsWord n) (bytes_eq word (codes "auto")) _ _ refl (word_sound n (words_of (word ∷ [])))))
form_sound n [] = word_sound n (words_of [])
form_sound n (word ∷ other ∷ words) = word_sound n (words_of (word ∷ other ∷ words))

words_sound : (n : List Class) (o : Option Form) → IfThere (IsWord n) o → IfThere (IsSound n) (types.words_type o)
words_sound n (Some f) h = h
words_sound n None h = tt

base_sound : (n : List Class) (o : Option Typ) (words : List (List ℕ)) → IfThere (IsSound n) o → IfThere (IsSound n) (types.base_type o words)
base_sound n (Some t) words h = h
base_sound n None words h = words_sound n (word_form words) (form_sound n words)

-- qualifiers
qualified_sound : (n : List Class) (c v : Bool) (t : Typ) → IsSound n t → IsSound n (qualified c v t)
qualified_sound n c v (typ (array t m) d w) h = qualified_target n c v t h
qualified_sound n c v (typ void d w) h = h
qualified_sound n c v (typ (int k) d w) h = h
qualified_sound n c v (typ (enum e s) d w) h = h
qualified_sound n c v (typ null d w) h = h
qualified_sound n c v (typ (ptr t) d w) h = h
qualified_sound n c v (typ (ref t) d w) h = h
qualified_sound n c v (typ (func s) d w) h = h
qualified_sound n c v (typ (class m) d w) h = h
qualified_sound n c v (typ (closure m) d w) h = h
qualified_sound n c v (typ (tx_ex t) d w) h = h

written_sound : (n : List Class) (c v : Bool) (t : Typ) → IsSound n t → IsSound n (with_qualifiers c v t)
written_sound n c v (typ (func s) d w) h = h
written_sound n c v (typ (array t m) d w) h = qualified_sound n c v (typ (array t m) d w) h
written_sound n c v (typ void d w) h = h
written_sound n c v (typ (int k) d w) h = h
written_sound n c v (typ (enum e s) d w) h = h
written_sound n c v (typ null d w) h = h
written_sound n c v (typ (ptr t) d w) h = h
written_sound n c v (typ (ref t) d w) h = h
written_sound n c v (typ (class m) d w) h = h
written_sound n c v (typ (closure m) d w) h = h
written_sound n c v (typ (tx_ex t) d w) h = h

-- what is named is sound
abbrev pub AreSpecifiers : List Class → Specifiers → Type 0
AreSpecifiers n d = IfThere (IsSound n) d.named

pub specified_type : (n : List Class) (at : At) (d : Specifiers) → AreSpecifiers n d → On (IsSound n) (types.specified_type at d)
specified_type n at d h = expected (IsSound n) at BadDeclaration (types.base_type d.named d.words) _
    (λ t e. written_sound n d.is_const d.is_volatile t
    (if_there (IsSound n) (types.base_type d.named d.words) t (base_sound n d.named d.words h) e))

-- Declarators (8.3)

form_reference : (t : Typ) → is_reference_form (form_in t) ≡ false → is_reference t ≡ false
form_reference (typ (ref t) c v) h = absurd cc
form_reference (typ void c v) h = refl
form_reference (typ (int k) c v) h = refl
form_reference (typ (enum e s) c v) h = refl
form_reference (typ null c v) h = refl
form_reference (typ (ptr t) c v) h = refl
form_reference (typ (array t n) c v) h = refl
form_reference (typ (func s) c v) h = refl
form_reference (typ (class n) c v) h = refl
form_reference (typ (closure n) c v) h = refl
form_reference (typ (tx_ex t) c v) h = refl

target_from : (n : List Class) (t : Typ) → not (is_reference_form (form_in t)) ≡ true → not (is_void t) ≡ true → IsSound n t → is_target n t ≡ true
target_from n t r v h = sound_target n t h (not_true (is_void t) v) (form_reference t (not_true (is_reference_form (form_in t)) r))

pub pointer_to : (n : List Class) (at : At) (t : Typ) → IsSound n t → On (IsSound n) (types.pointer_to at t)
pointer_to n at t h = checked (IsSound n) at BadDeclaration (not (is_reference_form (form_in t))) _
    (λ r. checked (IsSound n) at OutOfProfile (not (is_void t) && is_bounded t) _
    (λ v. target_from n t r (and_parts (not (is_void t)) (is_bounded t) v).0 h))

pub reference_to : (n : List Class) (at : At) (t : Typ) → IsSound n t → On (IsSound n) (types.reference_to at t)
reference_to n at t h = checked (IsSound n) at BadDeclaration (not (is_reference_form (form_in t)) && not (is_void t)) _
    (λ r. skip (IsSound n) (check at OutOfProfile (is_bounded t)) _
    (λ y. let p = and_parts (not (is_reference_form (form_in t))) (not (is_void t)) r in target_from n t p.0 p.1 h))

element_sound : (n : List Class) (t : Typ) → types.is_element t ≡ true → IsSound n t → is_target n t ≡ true
element_sound n t i h =
    let a = and_parts (not (is_reference_form (form_in t)) && not (is_void t) && not (is_function_form (form_in t)) && not (auto_in (form_in t))) (is_bounded t) i in
    let b = and_parts (not (is_reference_form (form_in t)) && not (is_void t) && not (is_function_form (form_in t))) (not (auto_in (form_in t))) a.0 in
    let d = and_parts (not (is_reference_form (form_in t)) && not (is_void t)) (not (is_function_form (form_in t))) b.0 in
    let e = and_parts (not (is_reference_form (form_in t))) (not (is_void t)) d.0 in
    target_from n t e.0 e.1 h

pub array_of : (n : List Class) (c : Ctx) (at p : At) (t : Typ) (kind : IntKind) (w : ℕ) → IsSound n t → On (IsSound n) (types.array_of c at p t kind w)
array_of n c at p t kind w h = checked (IsSound n) at BadDeclaration (types.is_element t) _
    (λ i. skip (IsSound n) (check p BadDeclaration (int_lt (pos 0) (value_of_word kind w))) _
    (λ y. either (IsSound n) (nat_le w GREATEST_SIZE && types.is_within_size c t w) _ _ (λ e. element_sound n t i h) (λ e. tt)))

pub open_array : (n : List Class) (at : At) (t : Typ) → IsSound n t → On (IsSound n) (types.open_array at t)
open_array n at t h = checked (IsSound n) at BadDeclaration (types.is_element t) _ (λ i. element_sound n t i h)

bounded : (n : List Class) (c : Ctx) (w : Work) (at : At) (t : Typ) (o : Operand) → IsSound n t → On (IsSound n) (expressions.bounded c w at t o)
bounded n c w at t o h = skip (IsSound n) (expressions.bound_kind o.at (arithmetic (form_in (typ_in (value o))))) _
    (λ kind. skip (IsSound n) (expect o.at NotConstant (constant w.globals (value o))) _ (λ m. array_of n c at o.at t kind m h))

-- a parameter is no array and no function
abbrev pub IsParameter : List Class → Typ → Type 0
IsParameter n t = is_parameter n t ≡ true

adjusted_sound : (n : List Class) (t : Typ) → is_void t ≡ false → IsSound n t → IsParameter n (types.adjusted t)
adjusted_sound n (typ (array t m) c v) i h = qualified_target n c v t h
adjusted_sound n (typ (func s) c v) i h = h
adjusted_sound n (typ void c v) i h = absurd cc
adjusted_sound n (typ (int m) c v) i h = refl
adjusted_sound n (typ (enum e s) c v) i h = refl
adjusted_sound n (typ null c v) i h = refl
adjusted_sound n (typ (ptr t) c v) i h = h
adjusted_sound n (typ (ref t) c v) i h = h
adjusted_sound n (typ (class m) c v) i h = h
adjusted_sound n (typ (closure m) c v) i h = h
adjusted_sound n (typ (tx_ex t) c v) i h = h

pub parameter_type : (n : List Class) (c : Ctx) (at : At) (t : Typ) → IsSound n t → On (IsParameter n) (types.parameter_type c at t)
parameter_type n c at t h = checked (IsParameter n) at BadDeclaration (not (is_void t)) _
    (λ i. skip (IsParameter n) (check at OutOfProfile (not (has_auto t))) _
    (λ y. skip (IsParameter n) (check at AbstractObject (not (types.is_abstract_type c t))) _ (λ z. adjusted_sound n t (not_true (is_void t) i) h)))

unqualified_parameter : (n : List Class) (t : Typ) → IsParameter n t → IsParameter n (unqualified t)
unqualified_parameter n (typ (array t m) c v) h = absurd cc
unqualified_parameter n (typ (func s) c v) h = absurd cc
unqualified_parameter n (typ void c v) h = absurd cc
unqualified_parameter n (typ (int m) c v) h = refl
unqualified_parameter n (typ (enum e s) c v) h = refl
unqualified_parameter n (typ null c v) h = refl
unqualified_parameter n (typ (ptr t) c v) h = h
unqualified_parameter n (typ (ref t) c v) h = h
unqualified_parameter n (typ (class m) c v) h = h
unqualified_parameter n (typ (closure m) c v) h = h
unqualified_parameter n (typ (tx_ex t) c v) h = h

types_sound : (n : List Class) (ps : List Parameter) → AreParameters n ps → are_parameters n (types.types_of ps) ≡ true
types_sound n [] h = refl
types_sound n (p ∷ ps) h = both (unqualified_parameter n p.typ h.0) (types_sound n ps h.1)

result_sound : (n : List Class) (t : Typ) → is_array_form (form_in t) ≡ false → is_function_form (form_in t) ≡ false → IsSound n t → is_result n t ≡ true
result_sound n (typ (array t m) c v) a f h = absurd cc
result_sound n (typ (func s) c v) a f h = absurd cc
result_sound n (typ void c v) a f h = h
result_sound n (typ (int m) c v) a f h = h
result_sound n (typ (enum e s) c v) a f h = h
result_sound n (typ null c v) a f h = h
result_sound n (typ (ptr t) c v) a f h = h
result_sound n (typ (ref t) c v) a f h = h
result_sound n (typ (class m) c v) a f h = h
result_sound n (typ (closure m) c v) a f h = h
result_sound n (typ (tx_ex t) c v) a f h = h

pub function_of : (n : List Class) (c : Ctx) (at : At) (r : Typ) (ps : List Parameter) (safe : Bool) → IsSound n r → AreParameters n ps
    → On (IsSound n) (types.function_of c at r ps safe)
function_of n c at r ps safe h g = checked (IsSound n) at BadDeclaration (types.is_result r) _
    (λ i. skip (IsSound n) (check at OutOfProfile (not (has_auto r))) _
    (λ a. skip (IsSound n) (check at AbstractObject (not (types.is_abstract_type c r))) _
    (λ y. skip (IsSound n) (types.within_parameters at ps) _
    (λ z. let p = and_parts (not (is_array_form (form_in r))) (not (is_function_form (form_in r))) i in both (types_sound n ps g)
    (result_sound n r (not_true (is_array_form (form_in r)) p.0) (not_true (is_function_form (form_in r)) p.1) h)))))

with_function : (n : List Class) (at : At) (b : Bool) (ps : List Parameter) (q : Qualifiers) (d : Declared) → AreParameters n ps → IsSoundDeclared n d
    → On (IsSoundDeclared n) (types.with_function at b ps q d)
with_function n at true ps q d h g = record { typ = g.typ; params = h }
with_function n at false ps q d h g = skip (IsSoundDeclared n) (check at BadDeclaration (not q.is_const && not q.is_dynamic)) _ (λ y. g)

alone : (n : List Class) (name owner : Option ℕ) (b : Bool) (t : Typ) → IsSound n t → IsSoundDeclared n (declared_name name owner b t)
alone n name owner b t h = record { typ = h; params = tt }

typ_if : (P : Typ → Type 0) (b : Bool) (x y : Typ) → P x → P y → P (if b then x else y)
typ_if P true x y h g = h
typ_if P false x y h g = g

specifiers_if : (n : List Class) (b : Bool) (x y : Specifiers) → AreSpecifiers n x → AreSpecifiers n y → AreSpecifiers n (if b then x else y)
specifiers_if n true x y h g = h
specifiers_if n false x y h g = g

abbrev pub IsParameterOf : List Class → Parameter → Type 0
IsParameterOf n p = is_parameter n p.typ ≡ true

module _ (lexemes : List Lexeme) (s : Setting) (c : Ctx) (v : Work) (h : Holds s c v) where
  abbrev n : List Class
  n = c.classes

  -- what a `std::tx_exception` may hold
  thrown : (t : Typ) → may_be_thrown c t ≡ true → IsSound n t → IsSound n (plain (tx_ex t))
  thrown (typ (int m) false false) i g = refl
  thrown (typ (enum e x) false false) i g = refl
  thrown (typ (class m) false false) i g = both (h.copyable m i) g
  thrown t i g = absurd cc

  mutual
    pub specified : (l : List Closure) (w : Work) (d : Specifiers) (t : syntax.Tree) → AreSpecifiers n d
        → On (AreSpecifiers n) (expressions.specified_with lexemes c l w d t)
    specified l w d (syntax.node k.CvQualifier p (Some t) kids) g = specifiers_if n (bytes_eq (spelling lexemes t) (codes "const")) _ _ g g
    specified l w d (syntax.node k.SimpleTypeSpecifier p (Some t) kids) g = g
    specified l w d (syntax.node k.TypeName p (Some t) kids) g =
        expected (AreSpecifiers n) (at_of p) UnknownName (type_named (spelling lexemes t) c.types) _
        (λ u e. if_there (IsSound n) (type_named (spelling lexemes t) c.types) u (named_sound n (spelling lexemes t) c.types h.types) e)
    specified l w d (syntax.node k.TxException p token (syntax.more t syntax.none)) g =
        bind (IsSound n) (AreSpecifiers n) (expressions.type_id_with lexemes c l w t) _ (type_id l w t)
        (λ u i. checked (AreSpecifiers n) (at_of p) NotTriviallyCopyable (may_be_thrown c u) _ (λ j. thrown u j i))
    specified l w d (syntax.node kind p token kids) g = tt

    pub all_specified : (l : List Closure) (w : Work) (d : Specifiers) (ts : syntax.Trees) → AreSpecifiers n d
        → On (AreSpecifiers n) (expressions.all_specified_with lexemes c l w d ts)
    all_specified l w d syntax.none g = g
    all_specified l w d (syntax.more t ts) g = bind (AreSpecifiers n) (AreSpecifiers n) (expressions.specified_with lexemes c l w d t) _ (specified l w d t g)
        (λ x i. all_specified l w x ts i)

    pub specifiers : (l : List Closure) (w : Work) (t : syntax.Tree) → On (IsSound n) (expressions.specifiers_with lexemes c l w t)
    specifiers l w (syntax.node kind p token kids) = bind (AreSpecifiers n) (IsSound n) (expressions.all_specified_with lexemes c l w no_specifiers kids) _
        (all_specified l w no_specifiers kids tt) (λ d i. specified_type n (at_of p) d i)

    pub type_id : (l : List Closure) (w : Work) (t : syntax.Tree) → On (IsSound n) (expressions.type_id_with lexemes c l w t)
    type_id l w (syntax.node kind p token (syntax.more base (syntax.more d syntax.none))) =
        bind (IsSound n) (IsSound n) (expressions.specifiers_with lexemes c l w base) _ (specifiers l w base)
        (λ t i. bind (IsSoundDeclared n) (IsSound n) (expressions.declared_with lexemes c l w (at_of p) t d) _ (declared_of l w (at_of p) t d i) (λ r j. j.typ))
    type_id l w (syntax.node kind p token syntax.none) = tt
    type_id l w (syntax.node kind p token (syntax.more a syntax.none)) = tt
    type_id l w (syntax.node kind p token (syntax.more a (syntax.more b (syntax.more d ts)))) = tt

    pub declared_of : (l : List Closure) (w : Work) (at : At) (t : Typ) (d : syntax.Tree) → IsSound n t
        → On (IsSoundDeclared n) (expressions.declared_with lexemes c l w at t d)
    declared_of l w at t (syntax.node k.DeclaratorId p token kids) g = alone n token None false t g
    declared_of l w at t (syntax.node k.DestructorId p token kids) g = alone n token None true t g
    declared_of l w at t (syntax.node k.QualifiedDeclaratorId p token kids) g = alone n token (owner_token kids) false t g
    declared_of l w at t (syntax.node k.QualifiedDestructorId p token kids) g = alone n token (owner_token kids) true t g
    declared_of l w at t (syntax.node k.OmittedId p token kids) g = alone n None None false t g
    declared_of l w at t (syntax.node k.ParenthesizedDeclarator p token (syntax.more d syntax.none)) g = declared_of l w at t d g
    declared_of l w at t (syntax.node k.PointerDeclarator p token kids) g = bind (IsSound n) (IsSoundDeclared n) (types.pointer_to at t) _
        (pointer_to n at t g) (λ u i. pointed l w at u kids i)
    declared_of l w at t (syntax.node k.ReferenceDeclarator p token (syntax.more d syntax.none)) g =
        bind (IsSound n) (IsSoundDeclared n) (types.reference_to at t) _ (reference_to n at t g) (λ u i. declared_of l w at u d i)
    declared_of l w at t (syntax.node k.ArrayDeclarator p token (syntax.more d syntax.none)) g =
        bind (IsSound n) (IsSoundDeclared n) (types.open_array at t) _ (open_array n at t g) (λ u i. declared_of l w at u d i)
    declared_of l w at t (syntax.node k.ArrayDeclarator p token (syntax.more d (syntax.more e syntax.none))) g =
        skip (IsSoundDeclared n) (and_then (expressions.expression_with lexemes c l w e) (expressions.chosen_operand c)) _
        (λ x. bind (IsSound n) (IsSoundDeclared n) (expressions.bounded c w at t x.operand) _ (bounded n c w at t x.operand g)
        (λ u i. declared_of l w at u d i))
    declared_of l w at t (syntax.node k.FunctionDeclarator p token (syntax.more d (syntax.more ps (syntax.more q syntax.none)))) g =
        bind (AreParameters n) (IsSoundDeclared n) (expressions.parameters_in_with lexemes c l w ps) _ (parameters_in l w ps)
        (λ xs i. bind (IsSound n) (IsSoundDeclared n) (types.function_of c at t xs (is_declared_safe (qualifiers_of lexemes q))) _
        (function_of n c at t xs (is_declared_safe (qualifiers_of lexemes q)) g i)
        (λ u j. bind (IsSoundDeclared n) (IsSoundDeclared n) (expressions.declared_with lexemes c l w at u d) _ (declared_of l w at u d j)
        (λ r m. with_function n at (is_name d) xs (qualifiers_of lexemes q) r i m)))
    declared_of l w at t (syntax.node kind p token kids) g = tt

    pub pointed : (l : List Closure) (w : Work) (at : At) (t : Typ) (ts : syntax.Trees) → IsSound n t
        → On (IsSoundDeclared n) (expressions.pointed_with lexemes c l w at t ts)
    pointed l w at t (syntax.more (syntax.node k.CvQualifier p (Some i) kids) ts) g = pointed l w at _ ts
        (typ_if (IsSound n) (bytes_eq (spelling lexemes i) (codes "const")) _ _ (written_sound n true false t g) (written_sound n false true t g))
    pointed l w at t (syntax.more d syntax.none) g = declared_of l w at t d g
    pointed l w at t ts g = tt

    pub parameters_in : (l : List Closure) (w : Work) (t : syntax.Tree) → On (AreParameters n) (expressions.parameters_in_with lexemes c l w t)
    parameters_in l w (syntax.node kind p token kids) = parameters l w kids

    pub parameters : (l : List Closure) (w : Work) (ts : syntax.Trees) → On (AreParameters n) (expressions.parameters_with lexemes c l w ts)
    parameters l w syntax.none = tt
    parameters l w (syntax.more t ts) = bind (IsParameterOf n) (AreParameters n) (expressions.parameter_with lexemes c l w t) _ (parameter_of l w t)
        (λ x i. bind (AreParameters n) (AreParameters n) (expressions.parameters_with lexemes c l w ts) _ (parameters l w ts) (λ xs j. (i, j)))

    pub parameter_of : (l : List Closure) (w : Work) (t : syntax.Tree) → On (IsParameterOf n) (expressions.parameter_with lexemes c l w t)
    parameter_of l w (syntax.node kind p token (syntax.more base (syntax.more d syntax.none))) =
        bind (IsSound n) (IsParameterOf n) (expressions.specifiers_with lexemes c l w base) _ (specifiers l w base)
        (λ t i. bind (IsSoundDeclared n) (IsParameterOf n) (expressions.declared_with lexemes c l w (at_of p) t d) _ (declared_of l w (at_of p) t d i)
        (λ r j. bind (IsParameter n) (IsParameterOf n) (types.parameter_type c (at_of p) r.typ) _ (parameter_type n c (at_of p) r.typ j.typ) (λ u m. m)))
    parameter_of l w (syntax.node kind p token syntax.none) = tt
    parameter_of l w (syntax.node kind p token (syntax.more a syntax.none)) = tt
    parameter_of l w (syntax.node kind p token (syntax.more a (syntax.more b (syntax.more d ts)))) = tt

-- The laws

pub types_law : (lexemes : List Lexeme) (s : Setting) (c : Ctx) (l : List Closure) (w : Work) (t : syntax.Tree) → Holds s c w
    → On (IsSound c.classes) (expressions.type_id_with lexemes c l w t)
types_law lexemes s c l w t h = type_id lexemes s c w h l w t

pub specifiers_law : (lexemes : List Lexeme) (s : Setting) (c : Ctx) (l : List Closure) (w : Work) (t : syntax.Tree) → Holds s c w
    → On (IsSound c.classes) (expressions.specifiers_with lexemes c l w t)
specifiers_law lexemes s c l w t h = specifiers lexemes s c w h l w t

pub declarators_law : (lexemes : List Lexeme) (s : Setting) (c : Ctx) (l : List Closure) (w : Work) (at : At) (t : Typ) (d : syntax.Tree) → Holds s c w
    → IsSound c.classes t → On (IsSoundDeclared c.classes) (expressions.declared_with lexemes c l w at t d)
declarators_law lexemes s c l w at t d h g = declared_of lexemes s c w h l w at t d g

pub parameters_law : (lexemes : List Lexeme) (s : Setting) (c : Ctx) (l : List Closure) (w : Work) (t : syntax.Tree) → Holds s c w
    → On (AreParameters c.classes) (expressions.parameters_in_with lexemes c l w t)
parameters_law lexemes s c l w t h = parameters_in lexemes s c w h l w t
