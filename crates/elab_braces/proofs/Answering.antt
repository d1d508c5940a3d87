-- What is made of operands that were made before it.
use Rattle.std.proofs.Common.{◌≡◌, ◌≢◌, List, [], ◌∷◌, length, Result, Ok, Err, refl, ap, sym, ◌∙◌, subst}
use Rattle.elab_expr.specs.cpp_lex.Tokens.{Lexeme}
use Rattle.elab_expr.specs.cpp_ast.declared.kinds.NodeKind.{NodeKind}
use Rattle.elab_expr.specs.cpp_ast.declared.arena.At.{At as SyntaxAt}
use Rattle.elab_expr.specs.cpp_ast.Trees as syntax
use Rattle.elab_expr.specs.cpp_types.Typ.{Typ, typ, ref}
use Rattle.elab_expr.specs.cpp_types.declared.classes.At.{At}
use Rattle.elab_expr.specs.cpp_tree.declared.faults.ElabFault.{ElabFault}
use Rattle.elab_expr.specs.cpp_tree.declared.arena.TNodeId.{TNodeId}
use Rattle.elab_expr.specs.cpp_tree.Trees.{Tree}
use Rattle.elab_expr.specs.elab_ctx.Ctx.{Ctx, Work, Closure}
use Rattle.elab_expr.specs.elab_ctx.Steps.{and_then, Made, Typed, TypedAll}
use Rattle.elab_expr.specs.elab_ctx.Operands.{operand_in, operands_in}
use Rattle.elab_expr.specs.elab_ctx.declared.operand.Operand.{Operand as OperandRec}
use Rattle.elab_expr.specs.elab_ctx.Says.{Faults, Makes}
use Rattle.elab_expr.proofs.elab_ctx.Looks.{grows_trans}
use Rattle.elab_expr.proofs.elab_ctx.Making.{faults_in, faults_same}
use Rattle.elab_expr.specs.elab_rules.Expressions.{expression_with, expression_of, operands_with, chosen_operand}
use Rattle.elab_expr.specs.elab_rules.Initialising.{from_values}
use Rattle.elab_expr.specs.elab_rules.Statements.{directly_initialised}
use Rattle.elab_expr.specs.elab_rows.Typed.{TypedAt, AllTyped}
use Rattle.elab_braces.specs.Forms.{by_values_in}

value_makes : (old mid new : List Tree) (w v : Work) (o : OperandRec) (r : Result TNodeId ElabFault) (x : Result Typed ElabFault)
    (f : Typed → Result Made ElabFault) → TypedAt old mid w o x → Makes mid new v r (f (record { operand = operand_in mid o; work = w }))
    → Makes old new v r (and_then x f)
value_makes old mid new w v o (Ok r) x f a m = record {
  grows = grows_trans a.grows m.grows;
  within = m.within;
  is = ap
      (λ (z : Result Typed ElabFault). and_then z f) a.is ∙ m.is;
}
value_makes old mid new w v o (Err e) x f a m = faults_same e _ _ (ap (λ (z : Result Typed ElabFault). and_then z f) a.is) m

values_make : (old mid new : List Tree) (w v : Work) (os : List OperandRec) (r : Result TNodeId ElabFault) (x : Result TypedAll ElabFault)
    (f : TypedAll → Result Made ElabFault) → AllTyped old mid w os x → Makes mid new v r (f (record { operands = operands_in mid os; work = w }))
    → Makes old new v r (and_then x f)
values_make old mid new w v os (Ok r) x f a m = record {
  grows = grows_trans a.grows m.grows;
  within = m.within;
  is = ap
      (λ (z : Result TypedAll ElabFault). and_then z f) a.is ∙ m.is;
}
values_make old mid new w v os (Err e) x f a m = faults_same e _ _ (ap (λ (z : Result TypedAll ElabFault). and_then z f) a.is) m

-- of an expression whose lambdas stand in the context
pub value_given : (s : List Lexeme) (c : Ctx) (v w u : Work) (l : List Closure) (e : syntax.Tree) (o : OperandRec) (old mid new : List Tree)
    (r : Result TNodeId ElabFault) (f : Typed → Result Made ElabFault) → l ≡ c.closures
    → TypedAt old mid w o (and_then (expression_with s c l v e) (chosen_operand c)) → Makes mid new u r (f (record { operand = operand_in mid o; work = w }))
    → Makes old new u r (and_then (and_then (expression_of s c v e) (chosen_operand c)) f)
value_given s c v w u l e o old mid new r f h a m = subst
    (λ (z : List Closure). Makes old new u r (and_then (and_then (expression_with s c z v e) (chosen_operand c)) f)) h (value_makes old mid new w u o r _ f a m)

-- of the values of an initialiser in parentheses
pub values_given : (s : List Lexeme) (c : Ctx) (v w u : Work) (t : Typ) (at : At) (l : List Closure) (x : syntax.Tree) (kind : NodeKind) (p : SyntaxAt)
    (token : _) (kids es : syntax.Trees) (os ps : List OperandRec) (old mid new : List Tree) (r : Result TNodeId ElabFault) → l ≡ c.closures → es ≡ kids
    → x ≡ syntax.node kind p token kids → ps ≡ os → AllTyped old mid w os (operands_with s c l v es)
    → Makes mid new u r (directly_initialised c w t at (operands_in mid ps)) → Makes old new u r (by_values_in s c v t at x)
values_given s c v w u t at l x kind p token kids es os ps old mid new r h k e n a m =
    let made : Makes mid new u r (directly_initialised c w t at (operands_in mid os)) =
    subst (λ (z : List OperandRec). Makes mid new u r (directly_initialised c w t at (operands_in mid z))) n m in
    let all : Makes old new u r (and_then (operands_with s c l v es) (λ (xs : TypedAll). directly_initialised c xs.work t at xs.operands)) =
    values_make old mid new w u os r (operands_with s c l v es) (λ (xs : TypedAll). directly_initialised c xs.work t at xs.operands) a made in
    let there : Makes old new u r (and_then (operands_with s c c.closures v kids) (λ (xs : TypedAll). directly_initialised c xs.work t at xs.operands)) =
    subst (λ (z : syntax.Trees). Makes old new u r
    (and_then (operands_with s c c.closures v z) (λ (xs : TypedAll). directly_initialised c xs.work t at xs.operands))) k
    (subst (λ (z : List Closure). Makes old new u r
    (and_then (operands_with s c z v es) (λ (xs : TypedAll). directly_initialised c xs.work t at xs.operands))) h all) in
    subst (λ (z : syntax.Tree). Makes old new u r (by_values_in s c v t at z)) (sym e) there

pub value_refused : (s : List Lexeme) (c : Ctx) (v : Work) (l : List Closure) (e : syntax.Tree) (f : ElabFault) (g : Typed → Result Made ElabFault)
    → l ≡ c.closures → Faults f (and_then (expression_with s c l v e) (chosen_operand c))
    → Faults f (and_then (and_then (expression_of s c v e) (chosen_operand c)) g)
value_refused s c v l e f g h m = subst (λ (z : List Closure). Faults f (and_then (and_then (expression_with s c z v e) (chosen_operand c)) g)) h
    (faults_in (λ (z : Result Typed ElabFault). and_then z g) f _ (λ d. refl) m)

pub values_refused : (s : List Lexeme) (c : Ctx) (v : Work) (t : Typ) (at : At) (l : List Closure) (x : syntax.Tree) (kind : NodeKind) (p : SyntaxAt)
    (token : _) (kids es : syntax.Trees) (f : ElabFault) → l ≡ c.closures → es ≡ kids → x ≡ syntax.node kind p token kids → Faults f (operands_with s c l v es)
    → Faults f (by_values_in s c v t at x)
values_refused s c v t at l x kind p token kids es f h k e m =
    let there : Faults f (operands_with s c c.closures v kids) =
    subst (λ (z : syntax.Trees). Faults f (operands_with s c c.closures v z)) k (subst (λ (z : List Closure). Faults f (operands_with s c z v es)) h m) in
    subst (λ (z : syntax.Tree). Faults f (by_values_in s c v t at z)) (sym e)
    (faults_in (λ (z : Result TypedAll ElabFault). and_then z (λ (xs : TypedAll). directly_initialised c xs.work t at xs.operands)) f _ (λ d. refl) there)

-- no one value for a reference
directly_other : (c : Ctx) (w : Work) (t : Typ) (at : At) (trees : List Tree) (os : List OperandRec) → length os ≢ 1
    → directly_initialised c w t at (operands_in trees os) ≡ from_values c w t at (operands_in trees os)
directly_other c w (typ (ref u) d v) at trees [] n = refl
directly_other c w (typ (ref u) d v) at trees (o ∷ []) n = absurd (n refl)
directly_other c w (typ (ref u) d v) at trees (o ∷ (p ∷ os)) n = refl
directly_other c w (typ f d v) at trees os n = refl

pub directly_makes : (c : Ctx) (w u : Work) (t : Typ) (at : At) (trees : List Tree) (os : List OperandRec) (old new : List Tree) (r : Result TNodeId ElabFault)
    → length os ≢ 1 → Makes old new u r (from_values c w t at (operands_in trees os)) → Makes old new u r (directly_initialised c w t at (operands_in trees os))
directly_makes c w u t at trees os old new r n m = subst (λ (z : Result Made ElabFault). Makes old new u r z) (sym (directly_other c w t at trees os n)) m
