-- Types that are written are those that C++ has (C++14 8.3): what is not sound is refused.
use Rattle.std.proofs.Common.{◌≡◌, refl, ℕ, Bool, true, false, not, ◌&&◌, ◌||◌, ◌==◌, nat_le, nat_lt, List, [], ◌∷◌, length, Option}
use Rattle.std.proofs.Common.{Some, None, codes, pos, int_lt}
use Rattle.std.specs.Prelude.{if◌then◌else◌}
use Rattle.std.specs.List.{list_all}
use Rattle.std.specs.Str.{bytes_eq}
use Rattle.std.proofs.lemmas.Bool.{and_parts}
use Rattle.elab_rules.specs.tx_ints.declared.kinds.IntKind.{IntKind}
use Rattle.elab_rules.specs.tx_ints.Words.{value_of_word}
use Rattle.elab_rules.specs.cpp_types.Typ.{Typ, typ, Form, void, int, enum, null, ptr, ref, array, func, class, closure, tx_ex}
use Rattle.elab_rules.specs.cpp_types.Class.{Class}
use Rattle.elab_rules.specs.cpp_types.declared.classes.At.{At}
use Rattle.elab_rules.specs.cpp_lex.Tokens.{Lexeme}
use Rattle.elab_rules.specs.cpp_ast.declared.kinds.NodeKind.TheVariants as k
use Rattle.elab_rules.specs.cpp_ast.Trees as syntax
use Rattle.elab_rules.specs.cpp_tree.declared.faults.IllRule.TheVariants.{UnknownName, BadDeclaration, OutOfProfile, AbstractObject, NotConstant, NotTriviallyCopyable}
use Rattle.elab_rules.specs.cpp_tree.Trees.{typ_in}
use Rattle.elab_rules.specs.cpp_tree.Notation.{plain}
use Rattle.elab_rules.specs.cpp_tree.Typing.{form_in, is_void, unqualified, qualified}
use Rattle.elab_rules.specs.cpp_layout.declared.extents.TheConstants.{GREATEST_SIZE}
use Rattle.elab_rules.specs.elab_ctx.Ctx.{Ctx, Work, Closure}
use Rattle.elab_rules.specs.elab_ctx.Types.{Named, type_called}
use Rattle.elab_rules.specs.elab_ctx.Steps.{and_then, expect, check, at_of, spelling, Operand}
use Rattle.elab_rules.specs.Constants.{constant}
use Rattle.elab_rules.specs.Operators.{value, arithmetic}
use Rattle.elab_rules.specs.Types as types
use Rattle.elab_rules.specs.Types.{Specifiers, no_specifiers, Parameter, Declared, Qualifiers, has_auto, type_named, word_form, integer_words, words_of}
use Rattle.elab_rules.specs.Types.{may_be_thrown, is_reference_form, is_array_form, is_function_form, is_bounded, auto_in, declared_name, owner_token}
use Rattle.elab_rules.specs.Types.{qualifiers_of, is_declared_safe, is_name}
use Rattle.elab_rules.specs.Expressions as expressions
use Rattle.elab_fits.specs.Standing.{On}
use Rattle.elab_fits.proofs.Steps.{bind, skip, checked, expected, either_way as either}
use Rattle.elab_sound_types.specs.Types.{object, target, parameter, denoted, declared, is_lambda, is_sound, are_sound, is_unqualified}
use Rattle.elab_sound_types.specs.Contexts.{HasSoundTypes, is_sound_name, is_sound_parameter}
use Rattle.elab_sound_types.specs.Laws.{IsSoundDeclared}
use Rattle.elab_sound_types.proofs.Sound.{both, declared_target, denoted_object, declared_result, unqualified_sound, written_sound, qualified_object, sound_as}
use Rattle.elab_sound_types.proofs.Sound.{object_target, all_declared}
use Rattle.elab_sound_types.proofs.Objects.{not_true}
use Rattle.elab_sound_types.proofs.Names.{IfThere, if_there, there_if}

-- Specifiers (C++14 7.1.6)

abbrev pub IsDenoted : List Class → Typ → Type 0
IsDenoted cs t = is_sound cs denoted t ≡ true

abbrev IsWord : List Class → Form → Type 0
IsWord cs f = is_sound cs denoted (plain f) ≡ true

named_sound : (cs : List Class) (name : List ℕ) (xs : List Named) → list_all (is_sound_name cs) xs ≡ true → IfThere (IsDenoted cs) (type_called name xs)
named_sound cs name [] h = tt
named_sound cs name (x ∷ xs) h = let p = and_parts (is_sound_name cs x) (list_all (is_sound_name cs) xs) h in
    there_if (IsDenoted cs) (bytes_eq name x.name) _ _ (λ e. p.0) (named_sound cs name xs p.1)

word_sound : (cs : List Class) (w : types.Words) → IfThere (IsWord cs) (integer_words w)
word_sound cs w =
    there_if (IsWord cs) (w.chars == 1 && w.ints == 0 && types.is_modified w 1) _ _ (λ e. refl) (
    there_if (IsWord cs) (w.shorts == 1 && types.is_modified w 1) _ _ (λ e. refl) (
    there_if (IsWord cs) (w.longs == 1 && types.is_modified w 1) _ _ (λ e. refl) (
    there_if (IsWord cs) (w.longs == 2 && types.is_modified w 2) _ _ (λ e. refl) (
    there_if (IsWord cs) (nat_lt 0 w.all && types.is_modified w 0) _ _ (λ e. refl) tt))))

form_sound : (cs : List Class) (words : List (List ℕ)) → IfThere (IsWord cs) (word_form words)
form_sound cs (word ∷ []) =
    there_if (IsWord cs) (bytes_eq word (codes "void")) _ _ (λ e. refl) (
    there_if (IsWord cs) (bytes_eq word (codes "bool")) _ _ (λ e. refl) (
    there_if (IsWord cs) (bytes_eq word (codes "auto")) _ _ (λ e. refl) (word_sound cs (words_of (word ∷ [])))))
form_sound cs [] = word_sound cs (words_of [])
form_sound cs (word ∷ other ∷ words) = word_sound cs (words_of (word ∷ other ∷ words))

words_sound : (cs : List Class) (o : Option Form) → IfThere (IsWord cs) o → IfThere (IsDenoted cs) (types.words_type o)
words_sound cs (Some f) h = h
words_sound cs None h = tt

base_sound : (cs : List Class) (o : Option Typ) (words : List (List ℕ)) → IfThere (IsDenoted cs) o → IfThere (IsDenoted cs) (types.base_type o words)
base_sound cs (Some t) words h = h
base_sound cs None words h = words_sound cs (word_form words) (form_sound cs words)

-- what is named is sound
abbrev pub AreSpecifiers : List Class → Specifiers → Type 0
AreSpecifiers cs d = IfThere (IsDenoted cs) d.named

pub specified_type : (cs : List Class) (at : At) (d : Specifiers) → AreSpecifiers cs d → On (IsDenoted cs) (types.specified_type at d)
specified_type cs at d h = expected (IsDenoted cs) at BadDeclaration (types.base_type d.named d.words) _
    (λ t e. written_sound cs denoted d.is_const d.is_volatile t
    (if_there (IsDenoted cs) (types.base_type d.named d.words) t (base_sound cs d.named d.words h) e))

-- what a `std::tx_exception` may hold: objects of classes that are copied as bytes, and these are complete
thrown : (c : Ctx) (w : Work) (t : Typ) → HasSoundTypes c w → may_be_thrown c t ≡ true → is_sound c.classes denoted t ≡ true
    → is_sound c.classes denoted (plain (tx_ex t)) ≡ true
thrown c w (typ (int m) false false) s i h = refl
thrown c w (typ (enum e x) false false) s i h = refl
thrown c w (typ (class m) false false) s i h =
    both (s.copied m i) (and_parts (nat_lt m (length c.classes)) (not (is_lambda c.classes m)) h).1
thrown c w t s i h = absurd cc

-- Declarators (8.3)

-- what may stand somewhere may stand wherever something is declared
pub as_declared : (cs : List Class) (t : Typ) → IsDenoted cs t → is_sound cs declared t ≡ true
as_declared cs t h = sound_as cs denoted declared t (all_declared denoted) h

not_void : (cs : List Class) (t : Typ) → not (is_reference_form (form_in t)) ≡ true → not (is_void t) ≡ true → is_bounded t ≡ true → IsDenoted cs t
    → is_sound cs target t ≡ true
not_void cs t r v b h = declared_target cs t (not_true (is_reference_form (form_in t)) r) (not_true (is_void t) v) b (as_declared cs t h)

pub pointer_to : (cs : List Class) (at : At) (t : Typ) → IsDenoted cs t → On (IsDenoted cs) (types.pointer_to at t)
pointer_to cs at t h = checked (IsDenoted cs) at BadDeclaration (not (is_reference_form (form_in t))) _
    (λ r. checked (IsDenoted cs) at OutOfProfile (not (is_void t) && is_bounded t) _
    (λ v. let p = and_parts (not (is_void t)) (is_bounded t) v in not_void cs t r p.0 p.1 h))

pub reference_to : (cs : List Class) (at : At) (t : Typ) → IsDenoted cs t → On (IsDenoted cs) (types.reference_to at t)
reference_to cs at t h = checked (IsDenoted cs) at BadDeclaration (not (is_reference_form (form_in t)) && not (is_void t)) _
    (λ r. checked (IsDenoted cs) at OutOfProfile (is_bounded t) _
    (λ b. let p = and_parts (not (is_reference_form (form_in t))) (not (is_void t)) r in not_void cs t p.0 p.1 b h))

element_sound : (cs : List Class) (t : Typ) → types.is_element t ≡ true → IsDenoted cs t → is_sound cs object t ≡ true
element_sound cs t i h =
    let a = and_parts (not (is_reference_form (form_in t)) && not (is_void t) && not (is_function_form (form_in t)) && not (auto_in (form_in t))) (is_bounded t) i in
    let b = and_parts (not (is_reference_form (form_in t)) && not (is_void t) && not (is_function_form (form_in t))) (not (auto_in (form_in t))) a.0 in
    let d = and_parts (not (is_reference_form (form_in t)) && not (is_void t)) (not (is_function_form (form_in t))) b.0 in
    let e = and_parts (not (is_reference_form (form_in t))) (not (is_void t)) d.0 in
    denoted_object cs t (not_true (is_reference_form (form_in t)) e.0) (not_true (is_void t) e.1) (not_true (is_function_form (form_in t)) d.1) a.1 h

pub array_of : (cs : List Class) (c : Ctx) (at p : At) (t : Typ) (kind : IntKind) (w : ℕ) → IsDenoted cs t → On (IsDenoted cs) (types.array_of c at p t kind w)
array_of cs c at p t kind w h = checked (IsDenoted cs) at BadDeclaration (types.is_element t) _
    (λ i. skip (IsDenoted cs) (check p BadDeclaration (int_lt (pos 0) (value_of_word kind w))) _
    (λ y. either (IsDenoted cs) (nat_le w GREATEST_SIZE && types.is_within_size c t w) _ _ (element_sound cs t i h) tt))

pub open_array : (cs : List Class) (at : At) (t : Typ) → IsDenoted cs t → On (IsDenoted cs) (types.open_array at t)
open_array cs at t h = checked (IsDenoted cs) at BadDeclaration (types.is_element t) _ (λ i. element_sound cs t i h)

bounded : (cs : List Class) (c : Ctx) (w : Work) (at : At) (t : Typ) (o : Operand) → IsDenoted cs t → On (IsDenoted cs) (expressions.bounded c w at t o)
bounded cs c w at t o h = skip (IsDenoted cs) (expressions.bound_kind o.at (arithmetic (form_in (typ_in (value o))))) _
    (λ kind. skip (IsDenoted cs) (expect o.at NotConstant (constant w.globals (value o))) _ (λ m. array_of cs c at o.at t kind m h))

-- a parameter is no array and no function
adjusted_sound : (cs : List Class) (t : Typ) → is_void t ≡ false → IsDenoted cs t → is_sound cs parameter (types.adjusted t) ≡ true
adjusted_sound cs (typ (array t m) c v) i h =
    sound_as cs object target (qualified c v t) object_target (qualified_object cs c v t (and_parts (not (c || v)) (is_sound cs object t) h).1)
adjusted_sound cs (typ (func s) c v) i h = h
adjusted_sound cs (typ void c v) i h = absurd cc
adjusted_sound cs (typ (int m) c v) i h = refl
adjusted_sound cs (typ (enum e s) c v) i h = refl
adjusted_sound cs (typ null c v) i h = refl
adjusted_sound cs (typ (ptr t) c v) i h = h
adjusted_sound cs (typ (ref t) c v) i h = h
adjusted_sound cs (typ (class m) c v) i h = h
adjusted_sound cs (typ (closure m) c v) i h = absurd cc
adjusted_sound cs (typ (tx_ex (typ f d w)) c v) i h = h

abbrev pub IsParameter : List Class → Typ → Type 0
IsParameter cs t = is_sound cs parameter t ≡ true

pub parameter_type : (cs : List Class) (c : Ctx) (at : At) (t : Typ) → IsDenoted cs t → On (IsParameter cs) (types.parameter_type c at t)
parameter_type cs c at t h = checked (IsParameter cs) at BadDeclaration (not (is_void t)) _
    (λ i. skip (IsParameter cs) (check at OutOfProfile (not (has_auto t))) _
    (λ y. skip (IsParameter cs) (check at AbstractObject (not (types.is_abstract_type c t))) _ (λ z. adjusted_sound cs t (not_true (is_void t) i) h)))

abbrev pub AreParameters : List Class → List Parameter → Type 0
AreParameters cs ps = list_all (is_sound_parameter cs) ps ≡ true

unqualified_is : (t : Typ) → is_unqualified (unqualified t) ≡ true
unqualified_is (typ f c v) = refl

types_sound : (cs : List Class) (ps : List Parameter) → AreParameters cs ps → are_sound cs (types.types_of ps) ≡ true
types_sound cs [] h = refl
types_sound cs (p ∷ ps) h = let a = and_parts (is_sound_parameter cs p) (list_all (is_sound_parameter cs) ps) h in
    both (unqualified_is p.typ) (both (unqualified_sound cs parameter p.typ a.0) (types_sound cs ps a.1))

pub function_of : (cs : List Class) (c : Ctx) (at : At) (r : Typ) (ps : List Parameter) (safe : Bool) → is_sound cs declared r ≡ true → AreParameters cs ps
    → On (IsDenoted cs) (types.function_of c at r ps safe)
function_of cs c at r ps safe h g = checked (IsDenoted cs) at BadDeclaration (types.is_result r) _
    (λ i. skip (IsDenoted cs) (check at OutOfProfile (not (has_auto r))) _
    (λ a. skip (IsDenoted cs) (check at AbstractObject (not (types.is_abstract_type c r))) _
    (λ y. skip (IsDenoted cs) (types.within_parameters at ps) _
    (λ z. let p = and_parts (not (is_array_form (form_in r))) (not (is_function_form (form_in r))) i in both (types_sound cs ps g)
    (declared_result cs r (not_true (is_array_form (form_in r)) p.0) (not_true (is_function_form (form_in r)) p.1) h)))))

with_function : (cs : List Class) (at : At) (b : Bool) (ps : List Parameter) (q : Qualifiers) (d : Declared) → AreParameters cs ps → IsSoundDeclared cs d
    → On (IsSoundDeclared cs) (types.with_function at b ps q d)
with_function cs at true ps q d h g = record { typ = g.typ; params = h }
with_function cs at false ps q d h g = skip (IsSoundDeclared cs) (check at BadDeclaration (not q.is_const && not q.is_dynamic)) _ (λ y. g)

alone : (cs : List Class) (name owner : Option ℕ) (b : Bool) (t : Typ) → IsDenoted cs t → IsSoundDeclared cs (declared_name name owner b t)
alone cs name owner b t h = record { typ = h; params = refl }

typ_if : (P : Typ → Type 0) (b : Bool) (x y : Typ) → P x → P y → P (if b then x else y)
typ_if P true x y h g = h
typ_if P false x y h g = g

specifiers_if : (cs : List Class) (b : Bool) (x y : Specifiers) → AreSpecifiers cs x → AreSpecifiers cs y → AreSpecifiers cs (if b then x else y)
specifiers_if cs true x y h g = h
specifiers_if cs false x y h g = g

-- Of a context with sound types

abbrev pub IsParameterOf : List Class → Parameter → Type 0
IsParameterOf cs p = is_sound cs parameter p.typ ≡ true

module _ (s : List Lexeme) (c : Ctx) (v : Work) (h : HasSoundTypes c v) where
  abbrev cs : List Class
  cs = c.classes

  mutual
    pub specified : (l : List Closure) (w : Work) (d : Specifiers) (t : syntax.Tree) → AreSpecifiers cs d
        → On (AreSpecifiers cs) (expressions.specified_with s c l w d t)
    specified l w d (syntax.node k.CvQualifier p (Some t) kids) g = specifiers_if cs (bytes_eq (spelling s t) (codes "const")) _ _ g g
    specified l w d (syntax.node k.SimpleTypeSpecifier p (Some t) kids) g = g
    specified l w d (syntax.node k.TypeName p (Some t) kids) g = expected (AreSpecifiers cs) (at_of p) UnknownName (type_named (spelling s t) c.types) _
        (λ u e. if_there (IsDenoted cs) (type_named (spelling s t) c.types) u (named_sound cs (spelling s t) c.types h.types) e)
    specified l w d (syntax.node k.TxException p token (syntax.more t syntax.none)) g =
        bind (IsDenoted cs) (AreSpecifiers cs) (expressions.type_id_with s c l w t) _ (type_id l w t)
        (λ u i. checked (AreSpecifiers cs) (at_of p) NotTriviallyCopyable (may_be_thrown c u) _ (λ j. thrown c v u h j i))
    specified l w d (syntax.node kind p token kids) g = tt

    pub all_specified : (l : List Closure) (w : Work) (d : Specifiers) (ts : syntax.Trees) → AreSpecifiers cs d
        → On (AreSpecifiers cs) (expressions.all_specified_with s c l w d ts)
    all_specified l w d syntax.none g = g
    all_specified l w d (syntax.more t ts) g = bind (AreSpecifiers cs) (AreSpecifiers cs) (expressions.specified_with s c l w d t) _ (specified l w d t g)
        (λ x i. all_specified l w x ts i)

    pub specifiers : (l : List Closure) (w : Work) (t : syntax.Tree) → On (IsDenoted cs) (expressions.specifiers_with s c l w t)
    specifiers l w (syntax.node kind p token kids) = bind (AreSpecifiers cs) (IsDenoted cs) (expressions.all_specified_with s c l w no_specifiers kids) _
        (all_specified l w no_specifiers kids tt) (λ d i. specified_type cs (at_of p) d i)

    pub type_id : (l : List Closure) (w : Work) (t : syntax.Tree) → On (IsDenoted cs) (expressions.type_id_with s c l w t)
    type_id l w (syntax.node kind p token (syntax.more base (syntax.more d syntax.none))) =
        bind (IsDenoted cs) (IsDenoted cs) (expressions.specifiers_with s c l w base) _ (specifiers l w base)
        (λ t i. bind (IsSoundDeclared cs) (IsDenoted cs) (expressions.declared_with s c l w (at_of p) t d) _ (declared_of l w (at_of p) t d i) (λ r j. j.typ))
    type_id l w (syntax.node kind p token syntax.none) = tt
    type_id l w (syntax.node kind p token (syntax.more a syntax.none)) = tt
    type_id l w (syntax.node kind p token (syntax.more a (syntax.more b (syntax.more d ts)))) = tt

    pub declared_of : (l : List Closure) (w : Work) (at : At) (t : Typ) (d : syntax.Tree) → IsDenoted cs t
        → On (IsSoundDeclared cs) (expressions.declared_with s c l w at t d)
    declared_of l w at t (syntax.node k.DeclaratorId p token kids) g = alone cs token None false t g
    declared_of l w at t (syntax.node k.DestructorId p token kids) g = alone cs token None true t g
    declared_of l w at t (syntax.node k.QualifiedDeclaratorId p token kids) g = alone cs token (owner_token kids) false t g
    declared_of l w at t (syntax.node k.QualifiedDestructorId p token kids) g = alone cs token (owner_token kids) true t g
    declared_of l w at t (syntax.node k.OmittedId p token kids) g = alone cs None None false t g
    declared_of l w at t (syntax.node k.ParenthesizedDeclarator p token (syntax.more d syntax.none)) g = declared_of l w at t d g
    declared_of l w at t (syntax.node k.PointerDeclarator p token kids) g = bind (IsDenoted cs) (IsSoundDeclared cs) (types.pointer_to at t) _
        (pointer_to cs at t g) (λ u i. pointed l w at u kids i)
    declared_of l w at t (syntax.node k.ReferenceDeclarator p token (syntax.more d syntax.none)) g =
        bind (IsDenoted cs) (IsSoundDeclared cs) (types.reference_to at t) _ (reference_to cs at t g) (λ u i. declared_of l w at u d i)
    declared_of l w at t (syntax.node k.ArrayDeclarator p token (syntax.more d syntax.none)) g =
        bind (IsDenoted cs) (IsSoundDeclared cs) (types.open_array at t) _ (open_array cs at t g) (λ u i. declared_of l w at u d i)
    declared_of l w at t (syntax.node k.ArrayDeclarator p token (syntax.more d (syntax.more e syntax.none))) g =
        skip (IsSoundDeclared cs) (and_then (expressions.expression_with s c l w e) (expressions.chosen_operand c)) _
        (λ x. bind (IsDenoted cs) (IsSoundDeclared cs) (expressions.bounded c w at t x.operand) _ (bounded cs c w at t x.operand g)
        (λ u i. declared_of l w at u d i))
    declared_of l w at t (syntax.node k.FunctionDeclarator p token (syntax.more d (syntax.more ps (syntax.more q syntax.none)))) g =
        bind (AreParameters cs) (IsSoundDeclared cs) (expressions.parameters_in_with s c l w ps) _ (parameters_in l w ps)
        (λ xs i. bind (IsDenoted cs) (IsSoundDeclared cs) (types.function_of c at t xs (is_declared_safe (qualifiers_of s q))) _
        (function_of cs c at t xs (is_declared_safe (qualifiers_of s q)) (as_declared cs t g) i)
        (λ u j. bind (IsSoundDeclared cs) (IsSoundDeclared cs) (expressions.declared_with s c l w at u d) _ (declared_of l w at u d j)
        (λ r m. with_function cs at (is_name d) xs (qualifiers_of s q) r i m)))
    declared_of l w at t (syntax.node kind p token kids) g = tt

    pub pointed : (l : List Closure) (w : Work) (at : At) (t : Typ) (ts : syntax.Trees) → IsDenoted cs t
        → On (IsSoundDeclared cs) (expressions.pointed_with s c l w at t ts)
    pointed l w at t (syntax.more (syntax.node k.CvQualifier p (Some i) kids) ts) g = pointed l w at _ ts
        (typ_if (IsDenoted cs) (bytes_eq (spelling s i) (codes "const")) _ _ (written_sound cs denoted true false t g) (written_sound cs denoted false true t g))
    pointed l w at t (syntax.more d syntax.none) g = declared_of l w at t d g
    pointed l w at t ts g = tt

    pub parameters_in : (l : List Closure) (w : Work) (t : syntax.Tree) → On (AreParameters cs) (expressions.parameters_in_with s c l w t)
    parameters_in l w (syntax.node kind p token kids) = parameters l w kids

    pub parameters : (l : List Closure) (w : Work) (ts : syntax.Trees) → On (AreParameters cs) (expressions.parameters_with s c l w ts)
    parameters l w syntax.none = refl
    parameters l w (syntax.more t ts) = bind (IsParameterOf cs) (AreParameters cs) (expressions.parameter_with s c l w t) _ (parameter_of l w t)
        (λ x i. bind (AreParameters cs) (AreParameters cs) (expressions.parameters_with s c l w ts) _ (parameters l w ts) (λ xs j. both i j))

    pub parameter_of : (l : List Closure) (w : Work) (t : syntax.Tree) → On (IsParameterOf cs) (expressions.parameter_with s c l w t)
    parameter_of l w (syntax.node kind p token (syntax.more base (syntax.more d syntax.none))) =
        bind (IsDenoted cs) (IsParameterOf cs) (expressions.specifiers_with s c l w base) _ (specifiers l w base)
        (λ t i. bind (IsSoundDeclared cs) (IsParameterOf cs) (expressions.declared_with s c l w (at_of p) t d) _ (declared_of l w (at_of p) t d i)
        (λ r j. bind (IsParameter cs) (IsParameterOf cs) (types.parameter_type c (at_of p) r.typ) _ (parameter_type cs c (at_of p) r.typ j.typ) (λ u m. m)))
    parameter_of l w (syntax.node kind p token syntax.none) = tt
    parameter_of l w (syntax.node kind p token (syntax.more a syntax.none)) = tt
    parameter_of l w (syntax.node kind p token (syntax.more a (syntax.more b (syntax.more d ts)))) = tt
