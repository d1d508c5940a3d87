-- A bound that is an integer literal is the same whatever was made before.
use Rattle.std.proofs.Common.{◌≡◌, ◌==◌, ℕ, true, List, Option, Some, None, Result, Ok, Err, refl, sym, ap, ◌∙◌}
use Rattle.elab_rows.specs.tx_ints.declared.kinds.IntKind.{IntKind}
use Rattle.elab_rows.specs.cpp_lex.Tokens.{Lexeme}
use Rattle.elab_rows.specs.cpp_lex.Ints.{int_type_of}
use Rattle.elab_rows.specs.cpp_types.Typ.{Typ, int}
use Rattle.elab_rows.specs.cpp_types.declared.classes.At.{At}
use Rattle.elab_rows.specs.cpp_types.declared.ranks.Cat.TheVariants.{Prvalue}
use Rattle.elab_rows.specs.cpp_ast.declared.arena.At.{At as SyntaxAt}
use Rattle.elab_rows.specs.cpp_ast.declared.kinds.NodeKind.{NodeKind}
use Rattle.elab_rows.specs.cpp_ast.declared.kinds.NodeKind.TheVariants as k
use Rattle.elab_rows.specs.cpp_ast.Trees.{Tree, node, Trees, none, kind_of}
use Rattle.elab_rows.specs.cpp_tree.declared.faults.ElabFault.{ElabFault}
use Rattle.elab_rows.specs.cpp_tree.declared.faults.IllRule.TheVariants.{OutOfProfile}
use Rattle.elab_rows.specs.cpp_tree.declared.kinds.TKind.TheVariants.{Literal}
use Rattle.elab_rows.specs.cpp_tree.Notation.{plain}
use Rattle.elab_rows.specs.cpp_tree.Trees.{Tree as TypedTree, node as typed, none as no_trees}
use Rattle.elab_rows.specs.elab_ctx.Ctx.{Ctx, Work, Closure}
use Rattle.elab_rows.specs.elab_ctx.Steps.{and_then, expect, at_of, spelling, value_at, Typed}
use Rattle.elab_rows.specs.elab_ctx.Operands.{operand_in}
use Rattle.elab_rows.specs.elab_ctx.declared.operand.Operand.{Operand as OperandRec}
use Rattle.elab_rows.specs.elab_ctx.Says.{Faults}
use Rattle.elab_rows.proofs.elab_ctx.Making.{faults_in, faults_same}
use Rattle.elab_rows.specs.elab_rules.Expressions.{expression_with, chosen_operand, bounded, leaf_or_row}
use Rattle.elab_rows.specs.elab_types.Shown.{Says}
use Rattle.elab_rows.specs.Typed.{TypedAt}
use Rattle.elab_expr.specs.Forms.{is_integer_literal}
use Rattle.elab_expr.proofs.Declaring.{says_same, then_known, bound_of}
use Rattle.elab_expr.proofs.Stages.{first_fault}

-- the same operand with another work
abbrev moved : Work → Result Typed ElabFault → Result Typed ElabFault
moved w (Ok x) = Ok (record { operand = x.operand; work = w })
moved w (Err e) = Err e

abbrev literal_by : At → ℕ → Work → Option IntKind → Result Typed ElabFault
literal_by at n w x = and_then (expect at OutOfProfile x)
    (λ (kind : IntKind). Ok (record { operand = record { tree = typed (Literal n) (plain (int kind)) Prvalue at no_trees; at = at; zero = n == 0 }; work = w }))

literal_moved : (c : Ctx) (at : At) (n : ℕ) (v w : Work) (x : Option IntKind)
    → and_then (literal_by at n w x) (chosen_operand c) ≡ moved w (literal_by at n v x)
literal_moved c at n v w (Some kind) = refl
literal_moved c at n v w None = refl

literal_at : (s : List Lexeme) (c : Ctx) (l : List Closure) (v w : Work) (kind : NodeKind) (p : SyntaxAt) (n : ℕ) → is_integer_literal kind ≡ true
    → and_then (expression_with s c l w (node kind p (Some n) none)) (chosen_operand c) ≡ moved w (leaf_or_row s c v kind (at_of p) n)
literal_at s c l v w k.IntegerLiteral p n h = literal_moved c (at_of p) (value_at s n) v w (int_type_of (spelling s n) (value_at s n))
literal_at s c l v w kind p n h = absurd cc

literal_is : (s : List Lexeme) (c : Ctx) (l : List Closure) (v w : Work) (t : Tree) (kind : NodeKind) (p : SyntaxAt) (token : Option ℕ) (kids : Trees) (n : ℕ)
    → t ≡ node kind p token kids → is_integer_literal (kind_of t) ≡ true → token ≡ Some n → kids ≡ none
    → and_then (expression_with s c l w t) (chosen_operand c) ≡ moved w (leaf_or_row s c v kind (at_of p) n)
literal_is s c l v w t kind p token kids n e h g q = rw (e, g, q) (literal_at s c l v w kind p n (sym (ap (λ z. is_integer_literal (kind_of z)) e) ∙ h))

pub literal_says : {A : Type 0} (show : A → Typ) (r : Result A ElabFault) (s : List Lexeme) (c : Ctx) (l : List Closure) (v w w1 : Work) (at : At) (u : Typ)
    (t : Tree) (kind : NodeKind) (p : SyntaxAt) (token : Option ℕ) (kids : Trees) (n : ℕ) (a b : List TypedTree) (o : OperandRec) → t ≡ node kind p token kids
    → is_integer_literal (kind_of t) ≡ true → token ≡ Some n → kids ≡ none → TypedAt a b w1 o (leaf_or_row s c v kind (at_of p) n)
    → Says show r (bounded c w at u (operand_in b o)) → Says show r (bound_of s c l w at u t)
literal_says show r s c l v w w1 at u t kind p token kids n a b o e h g q m d =
    says_same show r (bounded c w at u (operand_in b o)) (bound_of s c l w at u t)
    (then_known (and_then (expression_with s c l w t) (chosen_operand c)) (record { operand = operand_in b o; work = w })
    (λ (x : Typed). bounded c w at u x.operand) (literal_is s c l v w t kind p token kids n e h g q ∙ ap (moved w) m.is)) d

pub literal_fault : (s : List Lexeme) (c : Ctx) (l : List Closure) (v w : Work) (at : At) (u : Typ) (t : Tree) (kind : NodeKind) (p : SyntaxAt)
    (token : Option ℕ) (kids : Trees) (n : ℕ) (f : ElabFault) → t ≡ node kind p token kids → is_integer_literal (kind_of t) ≡ true → token ≡ Some n
    → kids ≡ none → Faults f (leaf_or_row s c v kind (at_of p) n) → Faults f (bound_of s c l w at u t)
literal_fault s c l v w at u t kind p token kids n f e h g q m =
    first_fault f (and_then (expression_with s c l w t) (chosen_operand c)) (λ (x : Typed). bounded c w at u x.operand)
    (faults_same f (moved w (leaf_or_row s c v kind (at_of p) n)) (and_then (expression_with s c l w t) (chosen_operand c))
    (literal_is s c l v w t kind p token kids n e h g q) (faults_in (moved w) f (leaf_or_row s c v kind (at_of p) n) (λ d. refl) m))
