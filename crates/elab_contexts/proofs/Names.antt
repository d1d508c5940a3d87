-- What a declarator declares is of a type that can be written.
use Rattle.std.proofs.Common.{◌≡◌, refl, ◌∙◌, subst, ℕ, zero, suc, Bool, true, false, ◌==◌, nat_le, nat_lt, pos, List, [], ◌∷◌, Option, Some, None}
use Rattle.std.specs.Prelude.{if◌then◌else◌, not, ◌&&◌, codes, int_lt}
use Rattle.std.specs.Str.{bytes_eq}
use Rattle.std.proofs.lemmas.Option.{same_Some}
use Rattle.elab_rules.specs.tx_ints.declared.kinds.IntKind.{IntKind}
use Rattle.elab_rules.specs.tx_ints.declared.kinds.IntKind.TheVariants.{Bool as BoolKind, Short, UShort, Int, UInt, Long, ULong, LLong, ULLong}
use Rattle.elab_rules.specs.tx_ints.Words.{value_of_word}
use Rattle.elab_rules.specs.cpp_types.Typ.{Typ, typ, Form, void, int, enum, null, ptr, ref, array, func, class, closure, tx_ex}
use Rattle.elab_rules.specs.cpp_types.Class.{Class}
use Rattle.elab_rules.specs.cpp_types.declared.classes.At.{At}
use Rattle.elab_rules.specs.cpp_lex.Tokens.{Lexeme}
use Rattle.elab_rules.specs.cpp_ast.declared.kinds.NodeKind.TheVariants as k
use Rattle.elab_rules.specs.cpp_ast.Trees as syntax
use Rattle.elab_rules.specs.cpp_layout.declared.extents.TheConstants.{GREATEST_SIZE}
use Rattle.elab_rules.specs.cpp_tree.declared.faults.IllRule.TheVariants.{UnknownName, BadDeclaration, OutOfProfile, NotTriviallyCopyable, NotConstant, AbstractObject}
use Rattle.elab_rules.specs.cpp_tree.Notation.{plain}
use Rattle.elab_rules.specs.cpp_tree.Trees.{typ_in}
use Rattle.elab_rules.specs.cpp_tree.Typing.{form_in, is_void}
use Rattle.elab_rules.specs.elab_ctx.Ctx.{Ctx, Work, Closure}
use Rattle.elab_rules.specs.elab_ctx.Types.{Named, type_called, named_too}
use Rattle.elab_rules.specs.elab_ctx.Steps.{and_then, check, expect, at_of, spelling, Operand}
use Rattle.elab_rules.specs.Constants.{constant}
use Rattle.elab_rules.specs.Operators.{value, arithmetic}
use Rattle.elab_rules.specs.Types.{Specifiers, Declared, Parameter, Qualifiers, Words, words_of, type_named, no_specifiers, specified_type, with_qualifiers}
use Rattle.elab_rules.specs.Types.{base_type, words_type, word_form, integer_words, may_be_thrown, pointer_to, reference_to, open_array, array_of, function_of}
use Rattle.elab_rules.specs.Types.{with_function, is_element, is_reference_form, is_bounded, is_within_size, is_result, has_auto, is_abstract_type, within_parameters}
use Rattle.elab_rules.specs.Types.{is_declared_safe, qualifiers_of, is_name, is_modified, signed_kind, char_kind, auto_form}
use Rattle.elab_rules.specs.Expressions.{specified_with, all_specified_with, specifiers_with, type_id_with, declared_with, pointed_with, bounded, bound_kind}
use Rattle.elab_rules.specs.Expressions.{expression_with, chosen_operand, parameters_in_with}
use Rattle.elab_fits.specs.Standing.{On}
use Rattle.elab_fits.proofs.Steps.{bind, skip, either_way as either, expected}
use Rattle.elab_contexts.specs.Holding.{HasTypeNames}
use Rattle.elab_contexts.specs.Steps.{is_written}

-- Names

called_by : (classes : List Class) (n : Named) (t : Typ) (b : Bool) (o : Option Typ) → is_written classes n.typ ≡ true
    → (o ≡ Some t → is_written classes t ≡ true) → (if b then Some n.typ else o) ≡ Some t → is_written classes t ≡ true
called_by classes n t true o h k q = subst (λ (u : Typ). is_written classes u ≡ true) (same_Some n.typ t q) h
called_by classes n t false o h k q = k q

-- what a name stands for is listed
pub called_listed : (classes : List Class) (ns : List Named) (name : List ℕ) → HasTypeNames classes ns → (t : Typ) → type_called name ns ≡ Some t
    → is_written classes t ≡ true
called_listed classes [] name h t e = absurd cc
called_listed classes (n ∷ ns) name h t e = called_by classes n t (bytes_eq name n.name) (type_called name ns) (h zero n refl)
    (called_listed classes ns name (λ i x f. h (suc i) x f) t) e

behind_one : (classes : List Class) (n : Named) (ns : List Named) → is_written classes n.typ ≡ true → HasTypeNames classes ns → HasTypeNames classes (n ∷ ns)
behind_one classes n ns h k zero x e = subst (λ (y : Named). is_written classes y.typ ≡ true) (same_Some n x e) h
behind_one classes n ns h k (suc i) x e = k i x e

either_list : (classes : List Class) (b : Bool) (xs ys : List Named) → HasTypeNames classes xs → HasTypeNames classes ys
    → HasTypeNames classes (if b then xs else ys)
either_list classes true xs ys h k = h
either_list classes false xs ys h k = k

-- a further name
pub named_listed : (classes : List Class) (ns : List Named) (name : List ℕ) (t : Typ) → HasTypeNames classes ns → is_written classes t ≡ true
    → HasTypeNames classes (named_too ns name t)
named_listed classes [] name t h q = behind_one classes (record { name = name; typ = t }) [] q (λ i x e. absurd cc)
named_listed classes (n ∷ ns) name t h q = either_list classes (bytes_eq name n.name) (record { name = n.name; typ = t } ∷ ns) (n ∷ named_too ns name t)
    (behind_one classes (record { name = n.name; typ = t }) ns q (λ i x e. h (suc i) x e))
    (behind_one classes n (named_too ns name t) (h zero n refl) (named_listed classes ns name t (λ i x e. h (suc i) x e) q))

-- Specifiers

abbrev pub Listed : Ctx → Typ → Type 0
Listed c t = is_written c.classes t ≡ true

abbrev ListedNamed : Ctx → Specifiers → Type 0
ListedNamed c d = (t : Typ) → d.named ≡ Some t → Listed c t

qualified_listed : (c : Ctx) (q v : Bool) (t : Typ) → Listed c t → Listed c (with_qualifiers q v t)
qualified_listed c q v (typ void d w) h = refl
qualified_listed c q v (typ (int i) d w) h = refl
qualified_listed c q v (typ (enum n s) d w) h = refl
qualified_listed c q v (typ null d w) h = refl
qualified_listed c q v (typ (ptr t) d w) h = refl
qualified_listed c q v (typ (ref t) d w) h = refl
qualified_listed c q v (typ (array t n) d w) h = refl
qualified_listed c q v (typ (func s) d w) h = refl
qualified_listed c q v (typ (class n) d w) h = h
qualified_listed c q v (typ (closure n) d w) h = absurd cc
qualified_listed c q v (typ (tx_ex t) d w) h = refl

-- words stand for no class
abbrev IsNoClass : Ctx → Option Form → Type 0
IsNoClass c o = (f : Form) → o ≡ Some f → Listed c (plain f)

if_no_class : (c : Ctx) (b : Bool) (x y : Option Form) → IsNoClass c x → IsNoClass c y → IsNoClass c (if b then x else y)
if_no_class c true x y h k = h
if_no_class c false x y h k = k

no_class : (c : Ctx) (g : Form) → Listed c (plain g) → IsNoClass c (Some g)
no_class c g h f e = subst (λ (x : Form). Listed c (plain x)) (same_Some g f e) h

no_form : (c : Ctx) → IsNoClass c None
no_form c f e = absurd cc

integers_no_class : (c : Ctx) (w : Words) → IsNoClass c (integer_words w)
integers_no_class c w =
    if_no_class c (w.chars == 1 && w.ints == 0 && is_modified w 1) _ _ (no_class c (int (char_kind w)) refl)
    (if_no_class c (w.shorts == 1 && is_modified w 1) _ _ (no_class c (int (signed_kind w Short UShort)) refl)
    (if_no_class c (w.longs == 1 && is_modified w 1) _ _ (no_class c (int (signed_kind w Long ULong)) refl)
    (if_no_class c (w.longs == 2 && is_modified w 2) _ _ (no_class c (int (signed_kind w LLong ULLong)) refl)
    (if_no_class c (nat_lt 0 w.all && is_modified w 0) _ _ (no_class c (int (signed_kind w Int UInt)) refl) (no_form c)))))

words_no_class : (c : Ctx) (ws : List (List ℕ)) → IsNoClass c (word_form ws)
words_no_class c [] = integers_no_class c (words_of [])
words_no_class c (x ∷ []) = if_no_class c (bytes_eq x (codes "void")) _ _ (no_class c void refl)
    (if_no_class c (bytes_eq x (codes "bool")) _ _ (no_class c (int BoolKind) refl)
    (if_no_class c (bytes_eq x (codes "auto")) _ _ (no_class c auto_form refl) (integers_no_class c (words_of (x ∷ [])))))
words_no_class c (x ∷ (y ∷ ws)) = integers_no_class c (words_of (x ∷ (y ∷ ws)))

words_listed : (c : Ctx) (o : Option Form) → IsNoClass c o → (t : Typ) → words_type o ≡ Some t → Listed c t
words_listed c None h t e = absurd cc
words_listed c (Some f) h t e = subst (Listed c) (same_Some (plain f) t e) (h f refl)

base_listed : (c : Ctx) (o : Option Typ) (ws : List (List ℕ)) → ((t : Typ) → o ≡ Some t → Listed c t) → (t : Typ) → base_type o ws ≡ Some t → Listed c t
base_listed c (Some u) ws h t e = h t e
base_listed c None ws h t e = words_listed c (word_form ws) (words_no_class c ws) t e

specified_listed : (c : Ctx) (at : At) (d : Specifiers) → ListedNamed c d → On (Listed c) (specified_type at d)
specified_listed c at d h = expected (Listed c) at BadDeclaration (base_type d.named d.words) _
    (λ t e. qualified_listed c d.is_const d.is_volatile t (base_listed c d.named d.words h t e))

if_listed : (c : Ctx) (b : Bool) (x y : Specifiers) → ListedNamed c x → ListedNamed c y → ListedNamed c (if b then x else y)
if_listed c true x y h k = h
if_listed c false x y h k = k

one_listed : (s : List Lexeme) (c : Ctx) (l : List Closure) (w : Work) (d : Specifiers) (t : syntax.Tree) → HasTypeNames c.classes c.types → ListedNamed c d
    → On (ListedNamed c) (specified_with s c l w d t)
one_listed s c l w d (syntax.node k.CvQualifier p (Some t) kids) n h = if_listed c (bytes_eq (spelling s t) (codes "const")) _ _ h h
one_listed s c l w d (syntax.node k.SimpleTypeSpecifier p (Some t) kids) n h = h
one_listed s c l w d (syntax.node k.TypeName p (Some t) kids) n h =
    expected (ListedNamed c) (at_of p) UnknownName (type_named (spelling s t) c.types) _
    (λ u e v q. called_listed c.classes c.types (spelling s t) n v (e ∙ q))
one_listed s c l w d (syntax.node k.TxException p token (syntax.more t syntax.none)) n h =
    skip (ListedNamed c) (type_id_with s c l w t) _
    (λ u. skip (ListedNamed c) (check (at_of p) NotTriviallyCopyable (may_be_thrown c u)) _ (λ y v q. subst (Listed c) (same_Some _ v q) refl))
one_listed s c l w d t n h = tt

all_listed : (s : List Lexeme) (c : Ctx) (l : List Closure) (w : Work) (d : Specifiers) (ts : syntax.Trees) → HasTypeNames c.classes c.types → ListedNamed c d
    → On (ListedNamed c) (all_specified_with s c l w d ts)
all_listed s c l w d syntax.none n h = h
all_listed s c l w d (syntax.more t ts) n h = bind (ListedNamed c) (ListedNamed c) (specified_with s c l w d t) _ (one_listed s c l w d t n h)
    (λ x i. all_listed s c l w x ts n i)

pub specifiers_listed : (s : List Lexeme) (c : Ctx) (l : List Closure) (w : Work) (t : syntax.Tree) → HasTypeNames c.classes c.types
    → On (Listed c) (specifiers_with s c l w t)
specifiers_listed s c l w (syntax.node kind p token kids) n = bind (ListedNamed c) (Listed c) (all_specified_with s c l w no_specifiers kids) _
    (all_listed s c l w no_specifiers kids n (λ t e. absurd cc)) (λ d i. specified_listed c (at_of p) d i)

-- Declarators

abbrev pub ListedDeclared : Ctx → Declared → Type 0
ListedDeclared c r = Listed c r.typ

pointer_listed : (c : Ctx) (at : At) (t : Typ) → On (Listed c) (pointer_to at t)
pointer_listed c at t = skip (Listed c) (check at BadDeclaration (not (is_reference_form (form_in t)))) _
    (λ y. skip (Listed c) (check at OutOfProfile (not (is_void t) && is_bounded t)) _ (λ z. refl))

reference_listed : (c : Ctx) (at : At) (t : Typ) → On (Listed c) (reference_to at t)
reference_listed c at t = skip (Listed c) (check at BadDeclaration (not (is_reference_form (form_in t)) && not (is_void t))) _
    (λ y. skip (Listed c) (check at OutOfProfile (is_bounded t)) _ (λ z. refl))

open_listed : (c : Ctx) (at : At) (t : Typ) → On (Listed c) (open_array at t)
open_listed c at t = skip (Listed c) (check at BadDeclaration (is_element t)) _ (λ x. refl)

array_listed : (c d : Ctx) (at p : At) (t : Typ) (kind : IntKind) (n : ℕ) → On (Listed c) (array_of d at p t kind n)
array_listed c d at p t kind n = skip (Listed c) (check at BadDeclaration (is_element t)) _
    (λ x. skip (Listed c) (check p BadDeclaration (int_lt (pos 0) (value_of_word kind n))) _
    (λ y. either (Listed c) (nat_le n GREATEST_SIZE && is_within_size d t n) _ _ refl tt))

bounded_listed : (c : Ctx) (w : Work) (at : At) (t : Typ) (o : Operand) → On (Listed c) (bounded c w at t o)
bounded_listed c w at t o = skip (Listed c) (bound_kind o.at (arithmetic (form_in (typ_in (value o))))) _
    (λ kind. skip (Listed c) (expect o.at NotConstant (constant w.globals (value o))) _ (λ n. array_listed c c at o.at t kind n))

function_listed : (c : Ctx) (at : At) (r : Typ) (ps : List Parameter) (safe : Bool) → On (Listed c) (function_of c at r ps safe)
function_listed c at r ps safe = skip (Listed c) (check at BadDeclaration (is_result r)) _
    (λ x. skip (Listed c) (check at OutOfProfile (not (has_auto r))) _
    (λ a. skip (Listed c) (check at AbstractObject (not (is_abstract_type c r))) _
    (λ y. skip (Listed c) (within_parameters at ps) _ (λ z. refl))))

with_listed : (c : Ctx) (at : At) (b : Bool) (ps : List Parameter) (q : Qualifiers) (d : Declared) → ListedDeclared c d
    → On (ListedDeclared c) (with_function at b ps q d)
with_listed c at true ps q d h = h
with_listed c at false ps q d h = skip (ListedDeclared c) (check at BadDeclaration (not q.is_const && not q.is_dynamic)) _ (λ y. h)

if_typ : (c : Ctx) (b : Bool) (x y : Typ) → Listed c x → Listed c y → Listed c (if b then x else y)
if_typ c true x y h k = h
if_typ c false x y h k = k

mutual
  pub declared_listed : (s : List Lexeme) (c : Ctx) (l : List Closure) (w : Work) (at : At) (t : Typ) (d : syntax.Tree) → Listed c t
      → On (ListedDeclared c) (declared_with s c l w at t d)
  declared_listed s c l w at t (syntax.node k.DeclaratorId p token kids) h = h
  declared_listed s c l w at t (syntax.node k.DestructorId p token kids) h = h
  declared_listed s c l w at t (syntax.node k.QualifiedDeclaratorId p token kids) h = h
  declared_listed s c l w at t (syntax.node k.QualifiedDestructorId p token kids) h = h
  declared_listed s c l w at t (syntax.node k.OmittedId p token kids) h = h
  declared_listed s c l w at t (syntax.node k.ParenthesizedDeclarator p token (syntax.more d syntax.none)) h = declared_listed s c l w at t d h
  declared_listed s c l w at t (syntax.node k.PointerDeclarator p token kids) h =
      bind (Listed c) (ListedDeclared c) (pointer_to at t) _ (pointer_listed c at t) (λ u i. pointed_listed s c l w at u kids i)
  declared_listed s c l w at t (syntax.node k.ReferenceDeclarator p token (syntax.more d syntax.none)) h =
      bind (Listed c) (ListedDeclared c) (reference_to at t) _ (reference_listed c at t) (λ u i. declared_listed s c l w at u d i)
  declared_listed s c l w at t (syntax.node k.ArrayDeclarator p token (syntax.more d syntax.none)) h =
      bind (Listed c) (ListedDeclared c) (open_array at t) _ (open_listed c at t) (λ u i. declared_listed s c l w at u d i)
  declared_listed s c l w at t (syntax.node k.ArrayDeclarator p token (syntax.more d (syntax.more e syntax.none))) h =
      skip (ListedDeclared c) (and_then (expression_with s c l w e) (chosen_operand c)) _
      (λ x. bind (Listed c) (ListedDeclared c) (bounded c w at t x.operand) _ (bounded_listed c w at t x.operand)
      (λ u i. declared_listed s c l w at u d i))
  declared_listed s c l w at t (syntax.node k.FunctionDeclarator p token (syntax.more d (syntax.more ps (syntax.more q syntax.none)))) h =
      skip (ListedDeclared c) (parameters_in_with s c l w ps) _
      (λ xs. bind (Listed c) (ListedDeclared c) (function_of c at t xs (is_declared_safe (qualifiers_of s q))) _
      (function_listed c at t xs (is_declared_safe (qualifiers_of s q)))
      (λ u i. bind (ListedDeclared c) (ListedDeclared c) (declared_with s c l w at u d) _ (declared_listed s c l w at u d i)
      (λ r j. with_listed c at (is_name d) xs (qualifiers_of s q) r j)))
  declared_listed s c l w at t d h = tt

  pointed_listed : (s : List Lexeme) (c : Ctx) (l : List Closure) (w : Work) (at : At) (t : Typ) (ts : syntax.Trees) → Listed c t
      → On (ListedDeclared c) (pointed_with s c l w at t ts)
  pointed_listed s c l w at t (syntax.more (syntax.node k.CvQualifier p (Some n) kids) ts) h =
      pointed_listed s c l w at _ ts (if_typ c (bytes_eq (spelling s n) (codes "const")) _ _ (qualified_listed c true false t h) (qualified_listed c false true t h))
  pointed_listed s c l w at t (syntax.more d syntax.none) h = declared_listed s c l w at t d h
  pointed_listed s c l w at t ts h = tt

-- the type of a type-id
pub type_id_listed : (s : List Lexeme) (c : Ctx) (l : List Closure) (w : Work) (t : syntax.Tree) → HasTypeNames c.classes c.types
    → On (Listed c) (type_id_with s c l w t)
type_id_listed s c l w (syntax.node kind p token (syntax.more base (syntax.more d syntax.none))) n =
    bind (Listed c) (Listed c) (specifiers_with s c l w base) _ (specifiers_listed s c l w base n)
    (λ t i. bind (ListedDeclared c) (Listed c) (declared_with s c l w (at_of p) t d) _ (declared_listed s c l w (at_of p) t d i) (λ r j. j))
type_id_listed s c l w t n = tt
