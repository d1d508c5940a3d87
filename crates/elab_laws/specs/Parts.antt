-- Members of objects: `x.name` and `p->name` (C++14 5.2.5), where a name hides those of the bases (10.2).
use Rattle.std.specs.Prelude.{◌≡◌, ℕ, true, List, ◌∷◌, Some, codes}
use Rattle.elab_rules.specs.cpp_types.Typ.{Typ}
use Rattle.elab_rules.specs.cpp_types.Conversion.{bases}
use Rattle.elab_rules.specs.cpp_lex.Tokens.{Lexeme}
use Rattle.elab_rules.specs.cpp_ast.Trees as syntax
use Rattle.elab_rules.specs.cpp_ast.declared.arena.At.{At as SyntaxAt}
use Rattle.elab_rules.specs.cpp_ast.declared.kinds.NodeKind.TheVariants as k
use Rattle.elab_rules.specs.cpp_tree.declared.kinds.TKind.TheVariants.{Function, Default}
use Rattle.elab_rules.specs.cpp_tree.Trees.{Tree, kind_of, typ_in}
use Rattle.elab_rules.specs.cpp_tree.Typing.{qualified}
use Rattle.elab_rules.specs.elab_ctx.Ctx.{Ctx, Work}
use Rattle.elab_rules.specs.elab_ctx.Steps.{Operand, spelling}
use Rattle.elab_rules.specs.Initialising.{class_number}
use Rattle.elab_rules.specs.Names.{Found, field, methods, own_member, is_const_typ, is_volatile_object, is_tx_exception}
use Rattle.elab_rules.specs.Expressions.{expression_of}
use Rattle.elab_laws.specs.Reading.{On, IsLvalue, OfOne}
use Rattle.elab_laws.specs.Arithmetic.{PointsTo}
use Rattle.elab_laws.specs.Naming.{IsFirst}

-- a member of a class, its own or that of the nearest base that has the name
abbrev pub Nearest : Ctx → List ℕ → ℕ → Found → Type 0
Nearest c name n f = IsFirst (λ (m : ℕ). own_member c name m) (n ∷ bases c.classes n) f

-- a member of an object of a type
pub data OfMember (c : Ctx) (name : List ℕ) (object : Typ) (e : Tree) : Type 0 where
  -- an lvalue of the type of the member, with the qualifiers of the object (5.2.5 p4)
  is_field : (n m i : ℕ) (t : Typ) → class_number object ≡ Some n → Nearest c name n (field m i t)
      → IsLvalue (qualified (is_const_typ object) (is_volatile_object object) t) e → OfMember c name object e
  -- functions of the name, of which a call chooses one
  are_functions : (n k : ℕ) → class_number object ≡ Some n → Nearest c name n (methods k) → kind_of e ≡ Function k → OfMember c name object e
  -- `get` of a `std::tx_exception`
  is_get : is_tx_exception object ≡ true → name ≡ codes "get" → kind_of e ≡ Default → OfMember c name object e

-- `p->name` is `(*p).name` (5.2.5 p2)
pub record ThroughPointer (c : Ctx) (name : List ℕ) (x : Operand) (e : Tree) : Type 0 where
  pub target : Typ
  pub pointer : PointsTo x target
  pub member : OfMember c name target e

-- The laws

abbrev pub Members : Type 0
Members = (s : List Lexeme) (c : Ctx) (w : Work) (p : SyntaxAt) (t : ℕ) (a : syntax.Tree) →
    On (OfOne s c w a (λ (x : Operand). OfMember c (spelling s t) (typ_in x.tree)))
    (expression_of s c w (syntax.node k.MemberAccess p (Some t) (syntax.more a syntax.none)))

abbrev pub PointerMembers : Type 0
PointerMembers = (s : List Lexeme) (c : Ctx) (w : Work) (p : SyntaxAt) (t : ℕ) (a : syntax.Tree) →
    On (OfOne s c w a (ThroughPointer c (spelling s t))) (expression_of s c w (syntax.node k.PointerMemberAccess p (Some t) (syntax.more a syntax.none)))
