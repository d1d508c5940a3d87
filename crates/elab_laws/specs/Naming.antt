-- What a name stands for (C++14 3.4.1), and what the expression is then (5.1.1 p8).
use Rattle.std.specs.Prelude.{◌≡◌, ◌↔◌, ◌<◌, ℕ, Bool, false, List, [], ◌∷◌, drop, Option, Some, None, Ok, slice_get}
use Rattle.std.specs.Str.{bytes_eq}
use Rattle.elab_rules.specs.cpp_types.Typ.{Typ, typ, enum, ref, ptr, func}
use Rattle.elab_rules.specs.cpp_types.declared.classes.At.{At}
use Rattle.elab_rules.specs.cpp_types.Conversion.{referred}
use Rattle.elab_rules.specs.cpp_lex.Tokens.{Lexeme}
use Rattle.elab_rules.specs.cpp_ast.Trees as syntax
use Rattle.elab_rules.specs.cpp_ast.declared.arena.At.{At as SyntaxAt}
use Rattle.elab_rules.specs.cpp_ast.declared.kinds.NodeKind.{NodeKind}
use Rattle.elab_rules.specs.cpp_ast.declared.kinds.NodeKind.TheVariants as k
use Rattle.elab_rules.specs.cpp_names.Names.{Names, entity_of, found_in, with_name}
use Rattle.elab_rules.specs.cpp_names.declared.entity.Entity.{Entity}
use Rattle.elab_rules.specs.cpp_names.declared.entity.EntityKind.TheVariants as entities
use Rattle.elab_rules.specs.cpp_tree.declared.kinds.TKind.TheVariants.{Literal, Function}
use Rattle.elab_rules.specs.cpp_tree.Trees.{Tree, kind_of, typ_in}
use Rattle.elab_rules.specs.cpp_tree.Units.{Global}
use Rattle.elab_rules.specs.cpp_tree.Typing.{form_in, qualified}
use Rattle.elab_rules.specs.cpp_tree.Notation.{plain}
use Rattle.elab_rules.specs.elab_ctx.Ctx.{Ctx, Work, Variable, Enumerator, This, Lambda}
use Rattle.elab_rules.specs.elab_ctx.Steps.{Typed, at_of, spelling}
use Rattle.elab_rules.specs.Initialising.{func_at, places_from}
use Rattle.elab_rules.specs.Names.{Captured, captured_from, is_outer, is_free, is_local_entity, member_here, this_tree, Found, field, methods, is_const_typ}
use Rattle.elab_rules.specs.Names.{is_volatile_object}
use Rattle.elab_rules.specs.Types.{type_named}
use Rattle.elab_rules.specs.Expressions.{expression_of, scope_name}
use Rattle.elab_laws.specs.Reading.{On, IsPrvalue, IsLvalue, operand_of}

-- the first of a list of which something is known, and what that is
pub record IsFirst {A B : Type 0} (known : A → Option B) (xs : List A) (b : B) : Type 0 where
  pub place : ℕ
  pub first : A
  pub there : slice_get xs place ≡ Some first
  pub is_known : known first ≡ Some b
  pub none_before : (j : ℕ) (x : A) → j < place → slice_get xs j ≡ Some x → known x ≡ None

-- a name stands for what the innermost scope that declares it says; the innermost scope is the first
abbrev pub StandsFor : List Names → List ℕ → Entity → Type 0
StandsFor scopes name e = IsFirst (λ (scope : Names). entity_of scope name) scopes e

-- a declaration in a scope of its own
abbrev pub declared : List Names → List ℕ → Entity → List Names
declared scopes name e = with_name ([] ∷ scopes) name e

-- What the expression is

-- an lvalue of the type of the variable, or of the type to which it refers (5 p5)
pub record OfVariable (c : Ctx) (i : ℕ) (e : Tree) : Type 0 where
  pub variable : Variable
  pub there : slice_get c.variables i ≡ Some variable
  pub typ : Typ
  pub is_known : variable.typ ≡ Some typ
  pub result : IsLvalue (referred typ) e

pub record OfGlobal (w : Work) (i : ℕ) (e : Tree) : Type 0 where
  pub global : Global
  pub there : slice_get w.globals i ≡ Some global
  pub result : IsLvalue global.typ e

-- a prvalue of the type of its enum
pub record OfEnumerator (c : Ctx) (i : ℕ) (e : Tree) : Type 0 where
  pub enumerator : Enumerator
  pub there : slice_get c.enumerators i ≡ Some enumerator
  pub value : kind_of e ≡ Literal enumerator.word
  pub result : IsPrvalue enumerator.typ e

-- a member of the object of the lambda (5.1.2 p18): what a reference refers to, and else with the `const` of that object
abbrev pub captured_type : This → Typ → Typ
captured_type this (typ (ref t) d v) = t
captured_type this t = qualified (is_const_typ this.typ) false t

pub record OfCapture (c : Ctx) (l : Lambda) (i : ℕ) (e : Tree) : Type 0 where
  pub captured : Captured
  pub there : captured_from 0 (Some i) l.captures ≡ Some captured
  pub this : This
  pub this_is : c.this ≡ Some this
  pub result : IsLvalue (captured_type this captured.capture.typ) e

-- `(*this).name` (9.3.1 p3), where `this` points to the object
pub data OfOwn (object : Typ) (e : Tree) : Found → Type 0 where
  own_field : (n i : ℕ) (t : Typ) → IsLvalue (qualified (is_const_typ object) (is_volatile_object object) t) e → OfOwn object e (field n i t)
  own_functions : (k : ℕ) → kind_of e ≡ Function k → OfOwn object e (methods k)

pub record ThroughThis (c : Ctx) (at : At) (f : Found) (e : Tree) : Type 0 where
  pub pointer : Tree
  pub pointer_is : this_tree c at ≡ Ok pointer
  pub object : Typ
  pub points : form_in (typ_in pointer) ≡ ptr object
  pub member : OfOwn object e f

-- the only function of the name, an lvalue (13.4)
pub record OfFunction (c : Ctx) (i : ℕ) (e : Tree) : Type 0 where
  pub place : ℕ
  pub only : places_from (is_free (func_at c.funcs i).declared.name) 0 c.funcs ≡ place ∷ []
  pub is : kind_of e ≡ Function place
  pub result : IsLvalue (plain (func (func_at c.funcs place).declared.signature)) e

-- The laws

abbrev pub Innermost : Type 0
Innermost = (scopes : List Names) (name : List ℕ) (e : Entity) → (found_in scopes name ≡ Some e) ↔ StandsFor scopes name e

abbrev pub Hides : Type 0
Hides = (scopes : List Names) (name : List ℕ) (e : Entity) → found_in (declared scopes name e) name ≡ Some e

abbrev pub OthersStay : Type 0
OthersStay = (scopes : List Names) (name other : List ℕ) (e : Entity) → bytes_eq other name ≡ false
    → found_in (declared scopes name e) other ≡ found_in scopes other

abbrev pub GivesBack : Type 0
GivesBack = (scopes : List Names) (name : List ℕ) (e : Entity) → drop 1 (declared scopes name e) ≡ scopes

abbrev pub named : SyntaxAt → ℕ → syntax.Tree
named p t = syntax.node k.UnqualifiedId p (Some t) syntax.none

-- a variable of the function at hand; with a lambda around, one of its own
abbrev pub Variables : Type 0
Variables = (s : List Lexeme) (c : Ctx) (w : Work) (p : SyntaxAt) (t : ℕ) (e : Entity) → StandsFor c.scopes (spelling s t) e → e.kind ≡ entities.Local
    → is_outer e.id c.lambda ≡ None →
    On (λ (r : Typed). OfVariable c e.id r.operand.tree) (expression_of s c w (named p t))

-- a variable of a function around a lambda, which has to capture it (5.1.2 p12)
abbrev pub Captures : Type 0
Captures = (s : List Lexeme) (c : Ctx) (w : Work) (p : SyntaxAt) (t : ℕ) (e : Entity) (l : Lambda) → StandsFor c.scopes (spelling s t) e
    → e.kind ≡ entities.Local → is_outer e.id c.lambda ≡ Some l →
    On (λ (r : Typed). OfCapture c l e.id r.operand.tree) (expression_of s c w (named p t))

-- a member of the class at hand, where no variable of the function has the name
abbrev pub OwnMembers : Type 0
OwnMembers = (s : List Lexeme) (c : Ctx) (w : Work) (p : SyntaxAt) (t : ℕ) (f : Found) → is_local_entity (found_in c.scopes (spelling s t)) ≡ false
    → member_here c (spelling s t) c.class ≡ Some f →
    On (λ (r : Typed). ThroughThis c (at_of p) f r.operand.tree) (expression_of s c w (named p t))

-- these where no member of the class at hand has the name
abbrev pub Globals : Type 0
Globals = (s : List Lexeme) (c : Ctx) (w : Work) (p : SyntaxAt) (t : ℕ) (e : Entity) → StandsFor c.scopes (spelling s t) e → e.kind ≡ entities.Global
    → member_here c (spelling s t) c.class ≡ None →
    On (λ (r : Typed). OfGlobal w e.id r.operand.tree) (expression_of s c w (named p t))

abbrev pub Enumerators : Type 0
Enumerators = (s : List Lexeme) (c : Ctx) (w : Work) (p : SyntaxAt) (t : ℕ) (e : Entity) → StandsFor c.scopes (spelling s t) e → e.kind ≡ entities.Enumerator
    → member_here c (spelling s t) c.class ≡ None →
    On (λ (r : Typed). OfEnumerator c e.id r.operand.tree) (expression_of s c w (named p t))

abbrev pub Functions : Type 0
Functions = (s : List Lexeme) (c : Ctx) (w : Work) (p : SyntaxAt) (t : ℕ) (e : Entity) → StandsFor c.scopes (spelling s t) e → e.kind ≡ entities.Funcs
    → member_here c (spelling s t) c.class ≡ None →
    On (λ (r : Typed). OfFunction c e.id r.operand.tree) (operand_of s c w (named p t))

-- `E::N`, where the scope of the file has the enumerator by this name (5.1.1 p11)
abbrev pub QualifiedEnumerators : Type 0
QualifiedEnumerators = (s : List Lexeme) (c : Ctx) (w : Work) (p q : SyntaxAt) (n t : ℕ) (kind : NodeKind) (kids : syntax.Trees) (name : List ℕ)
    (scoped d v : Bool) (e : Entity) →
    type_named (spelling s t) c.types ≡ Some (typ (enum name scoped) d v) → StandsFor c.scopes (scope_name name (spelling s n)) e → e.kind ≡ entities.Enumerator
    →
    On (λ (r : Typed). OfEnumerator c e.id r.operand.tree)
    (expression_of s c w (syntax.node k.QualifiedId p (Some n) (syntax.more (syntax.node kind q (Some t) kids) syntax.none)))
