-- Trees that can be moved to another function: of the frame they have only the pointer `this`, which is read, and what they make themselves behind it.
use Rattle.std.specs.Prelude.{◌≡◌, ℕ, zero, ◌+◌, ◌≤◌, ◌==◌, Bool, true, false, not, ◌&&◌, List, length, Some, None, slice_get, cond, Ok}
use Rattle.elab_rules.specs.cpp_types.Typ.{Typ, typ, ptr, class}
use Rattle.elab_rules.specs.cpp_types.Equal.{typ_eq}
use Rattle.elab_rules.specs.cpp_types.declared.classes.At.{At}
use Rattle.elab_rules.specs.cpp_types.declared.ranks.Cat.TheVariants.{Prvalue}
use Rattle.elab_rules.specs.cpp_lex.Tokens.{Lexeme}
use Rattle.elab_rules.specs.cpp_ast.Trees as syntax
use Rattle.elab_rules.specs.cpp_tree.declared.kinds.TKind.{TKind}
use Rattle.elab_rules.specs.cpp_tree.declared.kinds.TKind.TheVariants.{Local, Load, Materialize, FullExpression, Pieces, Init, Defer, Switch, Return, Handler}
use Rattle.elab_rules.specs.cpp_tree.Notation.{plain}
use Rattle.elab_rules.specs.cpp_tree.Trees.{Tree, node, Trees, none, more}
use Rattle.elab_rules.specs.elab_ctx.Ctx.{Ctx, Work, This, Closure}
use Rattle.elab_rules.specs.elab_ctx.Steps.{Made, Typed}
use Rattle.elab_rules.specs.Expressions.{expression_with}
use Rattle.elab_rules.specs.Braces.{string_object}
use Rattle.elab_rules.specs.Lambdas.{lambdas_of}
use Rattle.elab_rules.specs.Members.{in_object}
use Rattle.elab_fits_braces.specs.Qualified.{are_made}
use Rattle.elab_rules.specs.Statements.{State, Full, Lambdas, full_operand, copy_initialised}

-- the type of the pointer `this`
abbrev pub Sought : Type 0
Sought = Typ

abbrev pub one_if : Bool → ℕ
one_if b = cond b 1 0

-- the first item of the frame is no temporary
unfoldable pub at_place : ℕ → ℕ
at_place q = one_if (q == 0)

abbrev pub is_named_class : Typ → Bool
is_named_class (typ (class n) c v) = true
is_named_class t = false

-- nodes that can't be moved, nor made anew with more qualifiers: a full-expression in another, what says something of its function, and an object of a class
-- a part of which is built by what stands for a value elsewhere too
abbrev pub own_count : TKind → Typ → Trees → ℕ
own_count (Local q) t kids = 1
own_count (Materialize q argument) t kids = at_place q
own_count FullExpression t kids = 1
own_count Init t kids = 1
own_count Defer t kids = 1
own_count Switch t kids = 1
own_count Return t kids = 1
own_count (Handler q) t kids = 1
own_count Pieces t kids = one_if (is_named_class t && not (are_made kids))
own_count kind t kids = 0

-- how many of them a tree holds; `this` that is read is none
abbrev mutual
  pub held : Sought → Tree → ℕ
  held g (node (Load k false) t Prvalue at (more (node (Local zero) u cat p kids) none)) = one_if (not (typ_eq g t))
  held g (node kind t cat at kids) = own_count kind t kids + all_held g kids

  pub all_held : Sought → Trees → ℕ
  all_held g none = 0
  all_held g (more t ts) = held g t + all_held g ts

pub record IsFirst (g : Sought) (t : This) : Type 0 where
  pub place : t.place ≡ 0
  pub typ : plain (ptr t.typ) ≡ g

-- a function that has only `this`, as an initialiser of a member has
pub record OnlyThis (g : Sought) (c : Ctx) : Type 0 where
  pub variables : (i : ℕ) → slice_get c.variables i ≡ None
  pub outside : c.lambda ≡ None
  pub this : (t : This) → c.this ≡ Some t → IsFirst g t

abbrev pub ExpressionsMove : Type 0
ExpressionsMove = (g : Sought) (s : List Lexeme) (c : Ctx) (l : List Closure) (w : Work) (e : syntax.Tree) (x : Typed) → OnlyThis g c → 1 ≤ length w.frame
    → expression_with s c l w e ≡ Ok x → held g x.operand.tree ≡ 0

-- Initialisers of members

-- what makes the lambdas of an expression leaves what the function has as it is
pub record LeavesThis (a b : State) : Type 0 where
  pub variables : b.ctx.variables ≡ a.ctx.variables
  pub lambda : b.ctx.lambda ≡ a.ctx.lambda
  pub this : b.ctx.this ≡ a.ctx.this
  pub frame : b.work.frame ≡ a.work.frame

abbrev pub KeepsThis : Lambdas → Type 0
KeepsThis lams = (s : List Lexeme) (st : State) (e : syntax.Tree) (x : State) → lams s st e ≡ Ok x → LeavesThis st x

abbrev pub LambdasKeepThis : Type 0
LambdasKeepThis = KeepsThis lambdas_of

-- what initialises a member by an expression
abbrev pub CopiesMove : Type 0
CopiesMove = (lams : Lambdas) → KeepsThis lams → (s : List Lexeme) (st : State) (n : ℕ) (t : Typ) (e : syntax.Tree) (f : Full) (m : Made)
    → full_operand lams s (in_object st n) e ≡ Ok f → copy_initialised f.state.ctx f.state.work t f.operand ≡ Ok m
    → held (plain (ptr (plain (class n)))) m.tree ≡ 0

-- and by a string
abbrev pub StringsMove : Type 0
StringsMove = (g : Sought) (c : Ctx) (t : Typ) (at : At) (bytes : List ℕ) (x : Tree) → string_object c t at bytes ≡ Ok x → held g x ≡ 0
