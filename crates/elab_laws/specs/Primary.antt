-- Literals (C++14 2.14), parentheses and `this` (5.1.1), lambdas (5.1.2).
use Rattle.std.specs.Prelude.{◌≡◌, ℕ, suc, Bool, true, false, List, length, Option, Some, None, Ok}
use Rattle.elab_rules.specs.tx_ints.declared.kinds.IntKind.{IntKind}
use Rattle.elab_rules.specs.tx_ints.declared.kinds.IntKind.TheVariants.{Bool as BoolKind, Char}
use Rattle.elab_rules.specs.cpp_types.Typ.{Typ, typ, int, null, ptr, array, closure}
use Rattle.elab_rules.specs.cpp_types.declared.classes.At.{At}
use Rattle.elab_rules.specs.cpp_lex.Tokens.{Lexeme}
use Rattle.elab_rules.specs.cpp_lex.Ints.{int_type_of}
use Rattle.elab_rules.specs.cpp_ast.Trees as syntax
use Rattle.elab_rules.specs.cpp_ast.declared.arena.At.{At as SyntaxAt}
use Rattle.elab_rules.specs.cpp_ast.declared.kinds.NodeKind.{NodeKind}
use Rattle.elab_rules.specs.cpp_ast.declared.kinds.NodeKind.TheVariants as k
use Rattle.elab_rules.specs.cpp_tree.declared.kinds.TKind.TheVariants.{Literal}
use Rattle.elab_rules.specs.cpp_tree.Trees.{Tree, kind_of}
use Rattle.elab_rules.specs.cpp_tree.Notation.{plain}
use Rattle.elab_rules.specs.elab_ctx.Ctx.{Ctx, Work, This, Closure, Lambda}
use Rattle.elab_rules.specs.elab_ctx.Steps.{Typed, spelling, value_at, at_of}
use Rattle.elab_rules.specs.Names.{Captured, captured_from}
use Rattle.elab_rules.specs.Strings.{string_bytes}
use Rattle.elab_rules.specs.Expressions.{expression_of, closure_at}
use Rattle.elab_laws.specs.Reading.{On, IsPrvalue, IsLvalue}

-- a rule holds of each form of a kind that is one token and elaborates
abbrev pub EachLeaf : NodeKind → (List Lexeme → Ctx → ℕ → Tree → Type 0) → Type 0
EachLeaf kind rule = (s : List Lexeme) (c : Ctx) (w : Work) (p : SyntaxAt) (t : ℕ)
    → On (λ (r : Typed). rule s c t r.operand.tree) (expression_of s c w (syntax.node kind p (Some t) syntax.none))

-- an integer has the first type of its row that holds its value (2.14.2), and is that value
pub record Integer (s : List Lexeme) (c : Ctx) (t : ℕ) (e : Tree) : Type 0 where
  pub kind : IntKind
  pub fits : int_type_of (spelling s t) (value_at s t) ≡ Some kind
  pub result : IsPrvalue (plain (int kind)) e
  pub value : kind_of e ≡ Literal (value_at s t)

-- 2.14.3, 2.14.6, 2.14.7
abbrev pub Character : List Lexeme → Ctx → ℕ → Tree → Type 0
Character s c t e = IsPrvalue (plain (int Char)) e

abbrev pub Boolean : List Lexeme → Ctx → ℕ → Tree → Type 0
Boolean s c t e = IsPrvalue (plain (int BoolKind)) e

abbrev pub Pointer : List Lexeme → Ctx → ℕ → Tree → Type 0
Pointer s c t e = IsPrvalue (plain null) e

-- an lvalue: an array of `const char`, with a zero behind what is written (2.14.5 p8)
abbrev pub Text : List Lexeme → Ctx → ℕ → Tree → Type 0
Text s c t e = IsLvalue (plain (array (typ (int Char) true false) (suc (length (string_bytes (spelling s t)))))) e

-- in parentheses an expression is what it is without (5.1.1 p6)
pub record Parenthesized (s : List Lexeme) (c : Ctx) (w : Work) (e : syntax.Tree) (r : Typed) : Type 0 where
  pub inner : Typed
  pub inner_is : expression_of s c w e ≡ Ok inner
  pub same : r.operand.tree ≡ inner.operand.tree

-- `this` is a pointer to the object at hand (9.3.2 p1)
pub record ThisPointer (c : Ctx) (e : Tree) : Type 0 where
  pub this : This
  pub is_there : c.this ≡ Some this
  pub result : IsPrvalue (plain (ptr this.typ)) e

-- in a lambda, the pointer that it captured (5.1.2 p18)
pub record CapturedPointer (l : Lambda) (e : Tree) : Type 0 where
  pub captured : Captured
  pub is_there : captured_from 0 None l.captures ≡ Some captured
  pub result : (t : Typ) (d v : Bool) → captured.capture.typ ≡ typ (ptr t) d v → IsPrvalue (plain (ptr t)) e

-- a lambda is a prvalue of its class (5.1.2 p2, p3), which was made for its place
pub record OfClosure (c : Ctx) (at : At) (e : Tree) : Type 0 where
  pub made : Closure
  pub is_there : closure_at at c.closures ≡ Some made
  pub result : IsPrvalue (plain (closure made.class)) e

-- The laws

abbrev pub Integers : Type 0
Integers = EachLeaf k.IntegerLiteral Integer

abbrev pub Characters : Type 0
Characters = EachLeaf k.CharacterLiteral Character

abbrev pub Booleans : Type 0
Booleans = EachLeaf k.BooleanLiteral Boolean

abbrev pub Pointers : Type 0
Pointers = EachLeaf k.PointerLiteral Pointer

abbrev pub Texts : Type 0
Texts = EachLeaf k.StringLiteral Text

abbrev pub Parentheses : Type 0
Parentheses = (s : List Lexeme) (c : Ctx) (w : Work) (p : SyntaxAt) (t : Option ℕ) (e : syntax.Tree)
    → On (Parenthesized s c w e) (expression_of s c w (syntax.node k.ParenthesizedExpression p t (syntax.more e syntax.none)))

-- where no lambda is around
abbrev pub Thises : Type 0
Thises = (s : List Lexeme) (c : Ctx) (w : Work) (p : SyntaxAt) (t : ℕ) → c.lambda ≡ None
    → On (λ (r : Typed). ThisPointer c r.operand.tree) (expression_of s c w (syntax.node k.This p (Some t) syntax.none))

-- in the body of one
abbrev pub CapturedThises : Type 0
CapturedThises = (s : List Lexeme) (c : Ctx) (w : Work) (p : SyntaxAt) (t : ℕ) (l : Lambda) → c.lambda ≡ Some l
    → On (λ (r : Typed). CapturedPointer l r.operand.tree) (expression_of s c w (syntax.node k.This p (Some t) syntax.none))

abbrev pub Lambdas : Type 0
Lambdas = (s : List Lexeme) (c : Ctx) (w : Work) (p : SyntaxAt) (t : Option ℕ) (kids : syntax.Trees)
    → On (λ (r : Typed). OfClosure c (at_of p) r.operand.tree) (expression_of s c w (syntax.node k.Lambda p t kids))
