-- An operand that is said to be the literal 0 is its tree.
use Rattle.std.proofs.Common.{◌≡◌, refl, sym, ap, ℕ, Bool, true, false, List, [], ◌∷◌, Some, None, Result, Ok, subst, eqb-true}
use Rattle.elab_rules.specs.tx_ints.declared.kinds.IntKind.{IntKind}
use Rattle.elab_rules.specs.cpp_types.declared.classes.At.{At}
use Rattle.elab_rules.specs.cpp_types.declared.ranks.Cat.TheVariants.{Prvalue}
use Rattle.elab_rules.specs.cpp_lex.Tokens.{Lexeme}
use Rattle.elab_rules.specs.cpp_lex.Ints.{int_type_of}
use Rattle.elab_rules.specs.cpp_ast.declared.kinds.NodeKind.{NodeKind}
use Rattle.elab_rules.specs.cpp_ast.declared.kinds.NodeKind.TheVariants as k
use Rattle.elab_rules.specs.cpp_ast.Trees as syntax
use Rattle.elab_rules.specs.cpp_types.Typ.{int}
use Rattle.elab_rules.specs.cpp_tree.declared.kinds.TKind.TheVariants.{Literal}
use Rattle.elab_rules.specs.cpp_tree.declared.faults.ElabFault.{ElabFault}
use Rattle.elab_rules.specs.cpp_tree.declared.faults.IllRule.TheVariants.{OutOfProfile}
use Rattle.elab_rules.specs.cpp_tree.Trees.{Tree, node, none, typ_in}
use Rattle.elab_rules.specs.cpp_tree.Notation.{plain}
use Rattle.elab_rules.specs.elab_ctx.Ctx.{Ctx, Work, Closure}
use Rattle.elab_rules.specs.elab_ctx.Steps.{and_then, at_of, spelling, token_place, value_at, Operand, Made, Typed, TypedAll}
use Rattle.elab_rules.specs.Types.{no_specifiers, specified_type}
use Rattle.elab_rules.specs.Operators
use Rattle.elab_rules.specs.Names
use Rattle.elab_rules.specs.Calls
use Rattle.elab_rules.specs.Casts
use Rattle.elab_rules.specs.Expressions
use Rattle.elab_fits.specs.Standing.{On}
use Rattle.elab_fits.specs.Scalars.{IsZero}
use Rattle.elab_fits.proofs.Steps.{bind, skip, expected, known}
use Rattle.elab_sound_types.specs.Laws.{AreLiterals, ZerosAreLiterals, OperandZerosAreLiterals}

-- what holds of an answer holds of the value that it is
pub on_ok : {A : Type 0} (P : A → Type 0) (r : Result A ElabFault) (x : A) → On P r → r ≡ Ok x → P x
on_ok P r x h e = subst (λ (z : Result _ ElabFault). On P z) e h

abbrev literal : Typed → Type 0
literal x = x.operand.zero ≡ true → IsZero x.operand.tree

abbrev literals : TypedAll → Type 0
literals x = AreLiterals x.operands

an_operand : (at : At) (r : Result Made ElabFault) → On literal (Expressions.an_operand at r)
an_operand at r = skip literal r _ (λ m h. absurd cc)

a_tree : (at : At) (w : Work) (r : Result Tree ElabFault) → On literal (Expressions.a_tree at w r)
a_tree at w r = skip literal r _ (λ t h. absurd cc)

-- the literal itself

is_zero : (kind : IntKind) (at : At) (n : ℕ) → n ≡ 0 → IsZero (node (Literal n) (plain (int kind)) Prvalue at none)
is_zero kind at n e = record { kind = kind; place = at; is = ap (λ (m : ℕ). node (Literal m) (plain (int kind)) Prvalue at none) e }

resolved : (c : Ctx) (e : Tree) (z : Bool) → (z ≡ true → IsZero e) → On (λ (t : Tree). z ≡ true → IsZero t) (Names.resolved c e)
resolved c e true h = subst (λ (x : Tree). On (λ (t : Tree). true ≡ true → IsZero t) (Names.resolved c x)) (sym (h refl).is)
    (λ i. record { kind = (h refl).kind; place = (h refl).place; is = refl })
resolved c e false h = known (λ (t : Tree). false ≡ true → IsZero t) (Names.resolved c e) (λ t i. absurd cc)

chosen : (c : Ctx) (r : Result Typed ElabFault) → On literal r → On literal (and_then r (Expressions.chosen_operand c))
chosen c r h = bind literal literal r _ h (λ x g. bind (λ (t : Tree). x.operand.zero ≡ true → IsZero t) literal (Names.resolved c x.operand.tree) _
    (resolved c x.operand.tree x.operand.zero g) (λ t i. i))

leaf_of : (s : List Lexeme) (c : Ctx) (w : Work) (kind : NodeKind) (at : At) (t : ℕ) → On literal (Expressions.leaf_of s c w kind at t)
leaf_of s c w k.IntegerLiteral at t = expected literal at OutOfProfile (int_type_of (spelling s t) (value_at s t)) _
    (λ kind e h. is_zero kind at (value_at s t) (eqb-true (value_at s t) 0 h))
leaf_of s c w k.CharacterLiteral at t = λ h. absurd cc
leaf_of s c w k.BooleanLiteral at t = λ h. absurd cc
leaf_of s c w k.PointerLiteral at t = λ h. absurd cc
leaf_of s c w k.StringLiteral at t = λ h. absurd cc
leaf_of s c w k.This at t = a_tree at w (Names.this_tree c at)
leaf_of s c w k.UnqualifiedId at t = a_tree at w (Names.named c w at (spelling s t))
leaf_of s c w k.StdAbort at t = λ h. absurd cc
leaf_of s c w kind at t = tt

row_of : (s : List Lexeme) (c : Ctx) (w : Work) (kind : NodeKind) (at : At) (t : ℕ) (os : List Operand) → On literal (Expressions.row_of s c w kind at t os)
row_of s c w k.Subscript at t (a ∷ b ∷ []) = a_tree at w (Operators.subscript c at a b)
row_of s c w k.PostfixIncrement at t (a ∷ []) = a_tree at w (Operators.step c (Expressions.postfix_operator (spelling s t)) true at a)
row_of s c w k.UnaryExpression at t (a ∷ []) = a_tree at w (Expressions.unary_of c w at (spelling s t) a)
row_of s c w k.BinaryExpression at t (a ∷ b ∷ []) = a_tree at w (Expressions.operator_of c w at (spelling s t) a b)
row_of s c w k.ConditionalExpression at t (a ∷ b ∷ d ∷ []) = an_operand at (Operators.conditional c w at a b d)
row_of s c w k.AssignmentExpression at t (a ∷ b ∷ []) = an_operand at (Expressions.assignment_of c w at (spelling s t) a b)
row_of s c w k.CommaExpression at t (a ∷ b ∷ []) = λ h. absurd cc
row_of s c w k.ThrowExpression at t os = an_operand at (Casts.throw c w at os)
row_of s c w k.MemberAccess at t (a ∷ []) = an_operand at (Names.member_access c w at (token_place s at.source t) (spelling s t) a)
row_of s c w k.PointerMemberAccess at t (a ∷ []) = skip literal (Expressions.pointed_operand at a) _
    (λ o. an_operand at (Names.member_access c w at (token_place s at.source t) (spelling s t) o))
row_of s c w kind at t os = tt

leaf_or_row : (s : List Lexeme) (c : Ctx) (w : Work) (kind : NodeKind) (at : At) (t : ℕ) → On literal (Expressions.leaf_or_row s c w kind at t)
leaf_or_row s c w k.ThrowExpression at t = an_operand at (Casts.throw c w at [])
leaf_or_row s c w kind at t = leaf_of s c w kind at t

module _ (s : List Lexeme) (c : Ctx) where
  mutual
    pub expression : (l : List Closure) (w : Work) (e : syntax.Tree) → On literal (Expressions.expression_with s c l w e)
    expression l w (syntax.node k.ParenthesizedExpression p token (syntax.more e syntax.none)) =
        bind literal literal (Expressions.expression_with s c l w e) _ (expression l w e) (λ x h. h)
    expression l w (syntax.node k.FunctionCall p token (syntax.more f es)) = skip literal (Expressions.expression_with s c l w f) _
        (λ x. skip literal (Expressions.operands_with s c l x.work es) _ (λ xs. an_operand (at_of p) (Calls.call c xs.work (at_of p) x.operand xs.operands)))
    expression l w (syntax.node k.FunctionalCast p token (syntax.more base es)) = skip literal (Expressions.specified_with s c l w no_specifiers base) _
        (λ d. skip literal (and_then (specified_type (at_of p) d) (Expressions.written_type (at_of p))) _
        (λ t. skip literal (Expressions.operands_with s c l w es) _ (λ xs. an_operand (at_of p) (Casts.functional c xs.work (at_of p) t xs.operands))))
    expression l w (syntax.node k.StaticCast p token (syntax.more t (syntax.more e syntax.none))) =
        skip literal (and_then (Expressions.type_id_with s c l w t) (Expressions.written_type (at_of p))) _
        (λ u. skip literal (and_then (Expressions.expression_with s c l w e) (Expressions.chosen_operand c)) _
        (λ x. an_operand (at_of p) (Casts.cast c x.work (at_of p) u x.operand)))
    expression l w (syntax.node k.CastExpression p token (syntax.more t (syntax.more e syntax.none))) =
        skip literal (and_then (Expressions.type_id_with s c l w t) (Expressions.written_type (at_of p))) _
        (λ u. skip literal (and_then (Expressions.expression_with s c l w e) (Expressions.chosen_operand c)) _
        (λ x. an_operand (at_of p) (Casts.cast c x.work (at_of p) u x.operand)))
    expression l w (syntax.node k.SizeofExpression p token (syntax.more e syntax.none)) =
        skip literal (and_then (Expressions.expression_with s c [] w e) (Expressions.chosen_operand c)) _
        (λ x. a_tree (at_of p) w (Casts.size_literal c (at_of p) x.operand.at (typ_in x.operand.tree)))
    expression l w (syntax.node k.SizeofType p token (syntax.more t syntax.none)) =
        skip literal (and_then (Expressions.type_id_with s c [] w t) (Expressions.written_type (at_of p))) _
        (λ u. a_tree (at_of p) w (Casts.size_literal c (at_of p) (at_of p) u))
    expression l w (syntax.node k.Lambda p token kids) = an_operand (at_of p) (Expressions.closure_object c l w (at_of p))
    expression l w (syntax.node k.QualifiedId p (Some n) (syntax.more (syntax.node kind q (Some t) kids) syntax.none)) =
        a_tree (at_of p) w (Expressions.qualified_name c w (at_of p) (spelling s t) (spelling s n))
    expression l w (syntax.node kind p (Some t) syntax.none) = leaf_or_row s c w kind (at_of p) t
    expression l w (syntax.node kind p (Some t) kids) = skip literal (Expressions.operands_with s c l w kids) _
        (λ xs. row_of s c xs.work kind (at_of p) t xs.operands)
    expression l w (syntax.node kind p None kids) = tt

    pub operands : (l : List Closure) (w : Work) (es : syntax.Trees) → On literals (Expressions.operands_with s c l w es)
    operands l w syntax.none = tt
    operands l w (syntax.more t ts) = bind literal literals (and_then (Expressions.expression_with s c l w t) (Expressions.chosen_operand c)) _
        (chosen c (Expressions.expression_with s c l w t) (expression l w t)) (λ x g.
        bind literals literals (Expressions.operands_with s c l x.work ts) _ (operands l x.work ts) (λ xs h. (g, h)))

pub zeros_law : ZerosAreLiterals
zeros_law s c l w e x h = on_ok literal (Expressions.expression_with s c l w e) x (expression s c l w e) h

pub operand_zeros_law : OperandZerosAreLiterals
operand_zeros_law s c l w es x h = on_ok literals (Expressions.operands_with s c l w es) x (operands s c l w es) h
