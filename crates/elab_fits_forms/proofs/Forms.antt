-- The rows of expressions, over operands that stand.
use Rattle.std.proofs.Common.{◌≡◌, refl, ℕ, Bool, true, false, List, [], ◌∷◌, Result, Ok, Err}
use Rattle.std.specs.Prelude.{if◌then◌else◌, codes}
use Rattle.std.specs.Str.{bytes_eq}
use Rattle.elab_rules.specs.tx_ints.declared.kinds.BinOp.{BinOp}
use Rattle.elab_rules.specs.tx_ints.declared.kinds.BinOp.TheVariants.{Add, Sub}
use Rattle.elab_rules.specs.tx_ints.Integers.{is_shift}
use Rattle.elab_rules.specs.cpp_types.declared.classes.At.{At}
use Rattle.elab_rules.specs.cpp_lex.Tokens.{Lexeme}
use Rattle.elab_rules.specs.cpp_ast.declared.kinds.NodeKind.{NodeKind}
use Rattle.elab_rules.specs.cpp_ast.declared.kinds.NodeKind.TheVariants as k
use Rattle.elab_rules.specs.cpp_tree.declared.faults.ElabFault.{ElabFault}
use Rattle.elab_rules.specs.cpp_tree.declared.faults.IllRule.TheVariants.{OutOfProfile}
use Rattle.elab_rules.specs.cpp_tree.Trees.{Tree}
use Rattle.elab_rules.specs.cpp_tree.Rows.{Setting}
use Rattle.elab_rules.specs.elab_ctx.Ctx.{Ctx, Work}
use Rattle.elab_rules.specs.elab_ctx.Steps.{and_then, expect, Operand, Made, spelling, token_place}
use Rattle.elab_rules.specs.Operators.{binary_operator, compound_operator, indirection, subscript}
use Rattle.elab_rules.specs.Operators.{compound, step, comma, conditional, same_work}
use Rattle.elab_rules.specs.Names.{member_access}
use Rattle.elab_rules.specs.Casts.{throw}
use Rattle.elab_rules.specs.Expressions.{an_operand, a_tree, operator_of, unary_of, assignment_of, postfix_operator, pointed_operand, row_of}
use Rattle.elab_fits.specs.Standing.{On}
use Rattle.elab_fits.proofs.Steps.{bind, expected, either}
use Rattle.elab_fits_forms.specs.Types.{is_empty}
use Rattle.elab_fits_forms.specs.Meaning.{Proper, Means, ProperOperand}
use Rattle.elab_fits_forms.specs.Context.{Holds}
use Rattle.elab_fits_forms.specs.Names.{MadeMeans, TypedMeans}
use Rattle.elab_fits_forms.specs.Forms.{MadeStands, ProperOperands, Covered}
use Rattle.elab_fits_forms.proofs.Members.{members_mean}
use Rattle.elab_fits_forms.proofs.Leaves.{plain_operand}
use Rattle.elab_fits_forms.proofs.Settled.{commas_stand}
use Rattle.elab_fits_forms.proofs.Joined.{all_choices}
use Rattle.elab_fits_forms.proofs.Throws.{value_throws}
use Rattle.elab_fits_forms.proofs.Steps.{step_proper, assignments_stand}
use Rattle.elab_fits_forms.proofs.Operators.{binary_proper, logical_proper, negation_proper, minus_proper, complement_proper, plus_proper, address_proper}
use Rattle.elab_fits_forms.proofs.Operators.{indirection_proper, subscript_proper, compound_proper}

-- Answers

pub tree_typed : (s : Setting) (c : Ctx) (at : At) (w : Work) (r : Result Tree ElabFault) → On (Proper s c) r → On (TypedMeans s c) (a_tree at w r)
tree_typed s c at w (Ok e) h = λ r. plain_operand s c at e (Means.standing h)
tree_typed s c at w (Err e) h = tt

pub made_typed : (s : Setting) (c : Ctx) (at : At) (r : Result Made ElabFault) → On (MadeStands s c) r → On (TypedMeans s c) (an_operand at r)
made_typed s c at (Ok m) h = λ r. plain_operand s c at m.tree (Means.standing (h r))
made_typed s c at (Err e) h = tt

means_typed : (s : Setting) (c : Ctx) (at : At) (r : Result Made ElabFault) → On (MadeMeans s c) r → On (TypedMeans s c) (an_operand at r)
means_typed s c at (Ok m) h = λ r. plain_operand s c at m.tree (h r)
means_typed s c at (Err e) h = tt

worked : (s : Setting) (c : Ctx) (w : Work) (r : Result Tree ElabFault) → On (Proper s c) r → On (MadeStands s c) (same_work w r)
worked s c w (Ok e) h = λ r. h
worked s c w (Err e) h = tt

-- Operators by their words

postfix_no_shift : (name : List ℕ) → is_shift (postfix_operator name) ≡ false
postfix_no_shift name = by (bytes_eq name (codes "++"))
  where
    by : (b : Bool) → is_shift (if b then Add else Sub) ≡ false
    by true = refl
    by false = refl

operator_proper : (s : Setting) (c : Ctx) (w : Work) (at : At) (name : List ℕ) (a b : Operand) → ProperOperand s c a → ProperOperand s c b
    → On (Proper s c) (operator_of c w at name a b)
operator_proper s c w at name a b x y = either (Proper s c) (bytes_eq name (codes "&&")) _ _ (λ h. logical_proper s c w true at a b x y)
    (λ h. either (Proper s c) (bytes_eq name (codes "||")) _ _ (λ g. logical_proper s c w false at a b x y)
    (λ g. expected (Proper s c) at OutOfProfile (binary_operator name) _ (λ op e. binary_proper s c op at a b x y)))

unary_proper : (s : Setting) (c : Ctx) (w : Work) (at : At) (name : List ℕ) (a : Operand) → ProperOperand s c a → On (Proper s c) (unary_of c w at name a)
unary_proper s c w at name a x = either (Proper s c) (bytes_eq name (codes "++")) _ _ (λ h. step_proper s c Add false at a refl x)
    (λ h. either (Proper s c) (bytes_eq name (codes "--")) _ _ (λ g. step_proper s c Sub false at a refl x)
    (λ g. either (Proper s c) (bytes_eq name (codes "+")) _ _ (λ i. plus_proper s c at a x)
    (λ i. either (Proper s c) (bytes_eq name (codes "-")) _ _ (λ j. minus_proper s c at a x)
    (λ j. either (Proper s c) (bytes_eq name (codes "!")) _ _ (λ l. negation_proper s c w at a x)
    (λ l. either (Proper s c) (bytes_eq name (codes "~")) _ _ (λ m. complement_proper s c at a x)
    (λ m. either (Proper s c) (bytes_eq name (codes "*")) _ _ (λ n. indirection_proper s c at a x) (λ n. address_proper s c at a x)))))))

assignment_proper : (s : Setting) (c : Ctx) (w : Work) (at : At) (name : List ℕ) (a b : Operand) → Holds s c w → ProperOperand s c a → ProperOperand s c b
    → On (MadeStands s c) (assignment_of c w at name a b)
assignment_proper s c w at name a b h x y = either (MadeStands s c) (bytes_eq name (codes "=")) _ _ (λ g. assignments_stand s c w at a b h x y)
    (λ g. worked s c w (and_then (expect at OutOfProfile (compound_operator name)) (λ (op : BinOp). compound c op at a b))
    (expected (Proper s c) at OutOfProfile (compound_operator name) _ (λ op e. compound_proper s c op at a b x y)))

-- what a pointer points to, as an operand
pointed_proper : (s : Setting) (c : Ctx) (at : At) (a : Operand) → ProperOperand s c a → On (ProperOperand s c) (pointed_operand at a)
pointed_proper s c at a x = by (indirection at a) (indirection_proper s c at a x)
  where
    by : (r : Result Tree ElabFault) → On (Proper s c) r
        → On (ProperOperand s c) (and_then r (λ (t : Tree). Ok (record { tree = t; at = at; zero = false })))
    by (Ok e) h = record { proper = h; zero = λ z. absurd cc }
    by (Err e) h = tt

pub rows_mean : (lexemes : List Lexeme) (s : Setting) (c : Ctx) (w : Work) (kind : NodeKind) (at : At) (t : ℕ) (os : List Operand) → Holds s c w
    → is_empty (spelling lexemes t) ≡ false → ProperOperands s c os → Covered kind os → On (TypedMeans s c) (row_of lexemes c w kind at t os)
rows_mean l s c w k.Subscript at t (a ∷ b ∷ []) h n (ProperOperands.more x (ProperOperands.more y xs)) i =
    tree_typed s c at w (subscript c at a b) (subscript_proper s c at a b x y)
rows_mean l s c w k.PostfixIncrement at t (a ∷ []) h n (ProperOperands.more x xs) i =
    tree_typed s c at w (step c (postfix_operator (spelling l t)) true at a)
    (step_proper s c (postfix_operator (spelling l t)) true at a (postfix_no_shift (spelling l t)) x)
rows_mean l s c w k.UnaryExpression at t (a ∷ []) h n (ProperOperands.more x xs) i =
    tree_typed s c at w (unary_of c w at (spelling l t) a) (unary_proper s c w at (spelling l t) a x)
rows_mean l s c w k.BinaryExpression at t (a ∷ b ∷ []) h n (ProperOperands.more x (ProperOperands.more y xs)) i =
    tree_typed s c at w (operator_of c w at (spelling l t) a b) (operator_proper s c w at (spelling l t) a b x y)
rows_mean l s c w k.ConditionalExpression at t (a ∷ b ∷ d ∷ []) h n (ProperOperands.more x (ProperOperands.more y (ProperOperands.more z xs))) i =
    made_typed s c at (conditional c w at a b d) (all_choices s c w at a b d h x y z)
rows_mean l s c w k.AssignmentExpression at t (a ∷ b ∷ []) h n (ProperOperands.more x (ProperOperands.more y xs)) i =
    made_typed s c at (assignment_of c w at (spelling l t) a b) (assignment_proper s c w at (spelling l t) a b h x y)
rows_mean l s c w k.CommaExpression at t (a ∷ b ∷ []) h n (ProperOperands.more x (ProperOperands.more y xs)) i =
    λ r. plain_operand s c at (comma c w at a b).tree (Means.standing (commas_stand s c w at a b h x y r))
rows_mean l s c w k.ThrowExpression at t os h n x i = made_typed s c at (throw c w at os) (value_throws s c w at os h x i)
rows_mean l s c w k.MemberAccess at t (a ∷ []) h n (ProperOperands.more x xs) i =
    means_typed s c at (member_access c w at (token_place l at.source t) (spelling l t) a)
    (members_mean s c w at (token_place l at.source t) (spelling l t) a h n x)
rows_mean l s c w k.PointerMemberAccess at t (a ∷ []) h n (ProperOperands.more x xs) i =
    bind (ProperOperand s c) (TypedMeans s c) (pointed_operand at a) _ (pointed_proper s c at a x)
    (λ o y. means_typed s c at (member_access c w at (token_place l at.source t) (spelling l t) o)
    (members_mean s c w at (token_place l at.source t) (spelling l t) o h n y))
rows_mean l s c w kind at t os h n x i = tt
