-- No expression is a `throw` of an object.
use Rattle.std.proofs.Common.{◌≡◌, refl, subst, ℕ, true, false, List, [], ◌∷◌, Some, None, Result, Ok, codes}
use Rattle.std.specs.Str.{bytes_eq}
use Rattle.elab_rules.specs.tx_ints.declared.kinds.BinOp.{BinOp}
use Rattle.elab_rules.specs.tx_ints.declared.kinds.BinOp.TheVariants.{Add, Sub}
use Rattle.elab_rules.specs.cpp_types.declared.classes.At.{At}
use Rattle.elab_rules.specs.cpp_lex.Tokens.{Lexeme}
use Rattle.elab_rules.specs.cpp_lex.Ints.{int_type_of}
use Rattle.elab_rules.specs.cpp_ast.declared.kinds.NodeKind.{NodeKind}
use Rattle.elab_rules.specs.cpp_ast.declared.kinds.NodeKind.TheVariants as k
use Rattle.elab_rules.specs.cpp_ast.Trees as syntax
use Rattle.elab_rules.specs.cpp_tree.declared.faults.ElabFault.{ElabFault}
use Rattle.elab_rules.specs.cpp_tree.declared.faults.IllRule.TheVariants.{OutOfProfile}
use Rattle.elab_rules.specs.cpp_tree.Trees.{Tree, typ_in}
use Rattle.elab_rules.specs.elab_ctx.Ctx.{Ctx, Work, Closure}
use Rattle.elab_rules.specs.elab_ctx.Steps.{and_then, expect, at_of, spelling, token_place, value_at, Operand, Made, Typed, TypedAll}
use Rattle.elab_rules.specs.Objects.{parts_of}
use Rattle.elab_rules.specs.Types.{no_specifiers}
use Rattle.elab_rules.specs.Types as types
use Rattle.elab_rules.specs.Operators as operators
use Rattle.elab_rules.specs.Names as names
use Rattle.elab_rules.specs.Calls as calls
use Rattle.elab_rules.specs.Casts as casts
use Rattle.elab_rules.specs.Expressions as expressions
use Rattle.elab_fits.specs.Standing.{On}
use Rattle.elab_fits.proofs.Steps.{bind, skip, either}
use Rattle.elab_throws_apart.specs.Throws.{AreApart, ApartIsNoThrow, ExpressionsAreApart, ChosenAreApart, OperandsAreApart, TextsThrowApart}
use Rattle.elab_throws_apart.proofs.Trees.{Apart, MadeApart, no_throw, no_throws}
use Rattle.elab_throws_apart.proofs.Operators as by_operator
use Rattle.elab_throws_apart.proofs.Names as by_name
use Rattle.elab_throws_apart.proofs.Casts as by_cast

-- Answers

abbrev TypedApart : Typed → Type 0
TypedApart x = Apart x.operand.tree

abbrev AllApart : TypedAll → Type 0
AllApart x = AreApart x.operands

an_operand : (at : At) (r : Result Made ElabFault) → On MadeApart r → On TypedApart (expressions.an_operand at r)
an_operand at r h = bind MadeApart TypedApart r _ h (λ m i. i)

a_tree : (at : At) (w : Work) (r : Result Tree ElabFault) → On Apart r → On TypedApart (expressions.a_tree at w r)
a_tree at w r h = bind Apart TypedApart r _ h (λ t i. i)

chosen : (c : Ctx) (r : Result Typed ElabFault) → On TypedApart r → On TypedApart (and_then r (expressions.chosen_operand c))
chosen c r h = bind TypedApart TypedApart r _ h (λ x i. bind Apart TypedApart (names.resolved c x.operand.tree) _
    (by_name.resolved c x.operand.tree i) (λ t j. j))

module _ (s : List Lexeme) (c : Ctx) where
  -- Forms without operands

  leaf_of : (w : Work) (kind : NodeKind) (at : At) (t : ℕ) → On TypedApart (expressions.leaf_of s c w kind at t)
  leaf_of w k.IntegerLiteral at t = skip TypedApart (expect at OutOfProfile (int_type_of (spelling s t) (value_at s t))) _ (λ kind. refl)
  leaf_of w k.CharacterLiteral at t = refl
  leaf_of w k.BooleanLiteral at t = refl
  leaf_of w k.PointerLiteral at t = refl
  leaf_of w k.StringLiteral at t = refl
  leaf_of w k.This at t = a_tree at w (names.this_tree c at) (by_name.this_tree c at)
  leaf_of w k.UnqualifiedId at t = a_tree at w (names.named c w at (spelling s t)) (by_name.named c w at (spelling s t))
  leaf_of w k.StdAbort at t = refl
  leaf_of w kind at t = tt

  leaf_or_row : (w : Work) (kind : NodeKind) (at : At) (t : ℕ) → On TypedApart (expressions.leaf_or_row s c w kind at t)
  leaf_or_row w k.ThrowExpression at t = an_operand at (casts.throw c w at []) (by_cast.throw c w at [])
  leaf_or_row w kind at t = leaf_of w kind at t

  -- Forms over operands

  operator_of : (w : Work) (at : At) (name : List ℕ) (a b : Operand) → On Apart (expressions.operator_of c w at name a b)
  operator_of w at name a b = either Apart (bytes_eq name (codes "&&")) _ _ (λ h. by_operator.logical c w true at a b)
      (λ h. either Apart (bytes_eq name (codes "||")) _ _ (λ i. by_operator.logical c w false at a b)
      (λ i. skip Apart (expect at OutOfProfile (operators.binary_operator name)) _ (λ (op : BinOp). by_operator.binary c op at a b)))

  unary_of : (w : Work) (at : At) (name : List ℕ) (a : Operand) → Apart a.tree → On Apart (expressions.unary_of c w at name a)
  unary_of w at name a h = either Apart (bytes_eq name (codes "++")) _ _ (λ i. by_operator.step c Add false at a)
      (λ i. either Apart (bytes_eq name (codes "--")) _ _ (λ j. by_operator.step c Sub false at a)
      (λ j. either Apart (bytes_eq name (codes "+")) _ _ (λ l. by_operator.plus at a h)
      (λ l. either Apart (bytes_eq name (codes "-")) _ _ (λ m. by_operator.minus at a)
      (λ m. either Apart (bytes_eq name (codes "!")) _ _ (λ n. by_operator.negation c w at a)
      (λ n. either Apart (bytes_eq name (codes "~")) _ _ (λ o. by_operator.complement at a)
      (λ o. either Apart (bytes_eq name (codes "*")) _ _ (λ p. by_operator.indirection at a) (λ p. by_operator.address_of at a)))))))

  assignment_of : (w : Work) (at : At) (name : List ℕ) (a b : Operand) → On MadeApart (expressions.assignment_of c w at name a b)
  assignment_of w at name a b = either MadeApart (bytes_eq name (codes "=")) _ _ (λ h. by_operator.assignment c w at a b)
      (λ h. bind Apart MadeApart (and_then (expect at OutOfProfile (operators.compound_operator name)) (λ (op : BinOp). operators.compound c op at a b)) _
      (skip Apart (expect at OutOfProfile (operators.compound_operator name)) _ (λ op. by_operator.compound c op at a b)) (λ t i. i))

  row_of : (w : Work) (kind : NodeKind) (at : At) (t : ℕ) (os : List Operand) → AreApart os → On TypedApart (expressions.row_of s c w kind at t os)
  row_of w k.Subscript at t (a ∷ b ∷ []) g = a_tree at w (operators.subscript c at a b) (by_operator.subscript c at a b)
  row_of w k.PostfixIncrement at t (a ∷ []) g = a_tree at w (operators.step c (expressions.postfix_operator (spelling s t)) true at a)
      (by_operator.step c (expressions.postfix_operator (spelling s t)) true at a)
  row_of w k.UnaryExpression at t (a ∷ []) g = a_tree at w (expressions.unary_of c w at (spelling s t) a) (unary_of w at (spelling s t) a g.0)
  row_of w k.BinaryExpression at t (a ∷ b ∷ []) g = a_tree at w (expressions.operator_of c w at (spelling s t) a b) (operator_of w at (spelling s t) a b)
  row_of w k.ConditionalExpression at t (a ∷ b ∷ d ∷ []) g = an_operand at (operators.conditional c w at a b d) (by_operator.conditional c w at a b d)
  row_of w k.AssignmentExpression at t (a ∷ b ∷ []) g =
      an_operand at (expressions.assignment_of c w at (spelling s t) a b) (assignment_of w at (spelling s t) a b)
  row_of w k.CommaExpression at t (a ∷ b ∷ []) g = refl
  row_of w k.ThrowExpression at t os g = an_operand at (casts.throw c w at os) (by_cast.throw c w at os)
  row_of w k.MemberAccess at t (a ∷ []) g = an_operand at (names.member_access c w at (token_place s at.source t) (spelling s t) a)
      (by_name.member_access c w at (token_place s at.source t) (spelling s t) a)
  row_of w k.PointerMemberAccess at t (a ∷ []) g = skip TypedApart (expressions.pointed_operand at a) _
      (λ o. an_operand at (names.member_access c w at (token_place s at.source t) (spelling s t) o)
      (by_name.member_access c w at (token_place s at.source t) (spelling s t) o))
  row_of w kind at t os g = tt

  closure_object : (l : List Closure) (w : Work) (at : At) → On MadeApart (expressions.closure_object c l w at)
  closure_object l w at = skip MadeApart (expect at OutOfProfile (expressions.closure_at at l)) _
      (λ x. skip MadeApart (expressions.captured_pieces c w (parts_of c.classes x.class) x.captures) _ (λ m. refl))

  -- Expressions

  mutual
    of_expression : (l : List Closure) (w : Work) (e : syntax.Tree) → On TypedApart (expressions.expression_with s c l w e)
    of_expression l w (syntax.node k.ParenthesizedExpression p token (syntax.more e syntax.none)) =
        bind TypedApart TypedApart (expressions.expression_with s c l w e) _ (of_expression l w e) (λ x j. j)
    of_expression l w (syntax.node k.FunctionCall p token (syntax.more f es)) =
        skip TypedApart (expressions.expression_with s c l w f) _ (λ x. skip TypedApart (expressions.operands_with s c l x.work es) _
        (λ xs. an_operand (at_of p) (calls.call c xs.work (at_of p) x.operand xs.operands) (by_cast.call c xs.work (at_of p) x.operand xs.operands)))
    of_expression l w (syntax.node k.FunctionalCast p token (syntax.more base es)) =
        skip TypedApart (expressions.specified_with s c l w no_specifiers base) _
        (λ d. skip TypedApart (and_then (types.specified_type (at_of p) d) (expressions.written_type (at_of p))) _
        (λ t. bind AllApart TypedApart (expressions.operands_with s c l w es) _ (of_operands l w es)
        (λ xs o. an_operand (at_of p) (casts.functional c xs.work (at_of p) t xs.operands) (by_cast.functional c xs.work (at_of p) t xs.operands o))))
    of_expression l w (syntax.node k.StaticCast p token (syntax.more t (syntax.more e syntax.none))) =
        skip TypedApart (and_then (expressions.type_id_with s c l w t) (expressions.written_type (at_of p))) _
        (λ u. bind TypedApart TypedApart (and_then (expressions.expression_with s c l w e) (expressions.chosen_operand c)) _
        (chosen c (expressions.expression_with s c l w e) (of_expression l w e))
        (λ x m. an_operand (at_of p) (casts.cast c x.work (at_of p) u x.operand) (by_cast.cast c x.work (at_of p) u x.operand m)))
    of_expression l w (syntax.node k.CastExpression p token (syntax.more t (syntax.more e syntax.none))) =
        skip TypedApart (and_then (expressions.type_id_with s c l w t) (expressions.written_type (at_of p))) _
        (λ u. bind TypedApart TypedApart (and_then (expressions.expression_with s c l w e) (expressions.chosen_operand c)) _
        (chosen c (expressions.expression_with s c l w e) (of_expression l w e))
        (λ x m. an_operand (at_of p) (casts.cast c x.work (at_of p) u x.operand) (by_cast.cast c x.work (at_of p) u x.operand m)))
    of_expression l w (syntax.node k.SizeofExpression p token (syntax.more e syntax.none)) =
        skip TypedApart (and_then (expressions.expression_with s c [] w e) (expressions.chosen_operand c)) _
        (λ x. a_tree (at_of p) w (casts.size_literal c (at_of p) x.operand.at (typ_in x.operand.tree))
        (by_cast.size_literal c (at_of p) x.operand.at (typ_in x.operand.tree)))
    of_expression l w (syntax.node k.SizeofType p token (syntax.more t syntax.none)) =
        skip TypedApart (and_then (expressions.type_id_with s c [] w t) (expressions.written_type (at_of p))) _
        (λ u. a_tree (at_of p) w (casts.size_literal c (at_of p) (at_of p) u) (by_cast.size_literal c (at_of p) (at_of p) u))
    of_expression l w (syntax.node k.Lambda p token kids) = an_operand (at_of p) (expressions.closure_object c l w (at_of p)) (closure_object l w (at_of p))
    of_expression l w (syntax.node k.QualifiedId p (Some m) (syntax.more (syntax.node kind q (Some t) kids) syntax.none)) =
        a_tree (at_of p) w (expressions.qualified_name c w (at_of p) (spelling s t) (spelling s m)) (by_name.qualified_name c w (at_of p) (spelling s t) (spelling s m))
    of_expression l w (syntax.node kind p (Some t) syntax.none) = leaf_or_row w kind (at_of p) t
    of_expression l w (syntax.node kind p (Some t) kids) = bind AllApart TypedApart (expressions.operands_with s c l w kids) _ (of_operands l w kids)
        (λ xs j. row_of xs.work kind (at_of p) t xs.operands j)
    of_expression l w (syntax.node kind p None kids) = tt

    of_operands : (l : List Closure) (w : Work) (es : syntax.Trees) → On AllApart (expressions.operands_with s c l w es)
    of_operands l w syntax.none = tt
    of_operands l w (syntax.more t ts) = bind TypedApart AllApart (and_then (expressions.expression_with s c l w t) (expressions.chosen_operand c)) _
        (chosen c (expressions.expression_with s c l w t) (of_expression l w t))
        (λ x j. bind AllApart AllApart (expressions.operands_with s c l x.work ts) _ (of_operands l x.work ts) (λ xs m. (j, m)))

-- The laws

on_ok : {A : Type 0} (P : A → Type 0) (r : Result A ElabFault) (x : A) → On P r → r ≡ Ok x → P x
on_ok P r x h e = subst (On P) e h

pub apart_law : ApartIsNoThrow
apart_law = no_throw

pub expressions_law : ExpressionsAreApart
expressions_law s c l w e x h = on_ok TypedApart (expressions.expression_with s c l w e) x (of_expression s c l w e) h

pub chosen_law : ChosenAreApart
chosen_law s c l w e x h = on_ok TypedApart (and_then (expressions.expression_with s c l w e) (expressions.chosen_operand c)) x
    (chosen c (expressions.expression_with s c l w e) (of_expression s c l w e)) h

pub operands_law : OperandsAreApart
operands_law s c l w es x h = on_ok AllApart (expressions.operands_with s c l w es) x (of_operands s c l w es) h

pub texts_law : TextsThrowApart
texts_law s = record {
  read = λ c w e x h. no_throw x.operand (chosen_law s c c.closures w e x h);
  read_all = λ c w es x h. no_throws x.operands (operands_law s c c.closures w es x h);
}
