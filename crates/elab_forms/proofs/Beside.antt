-- Operands beside others: `,`, a `throw` in `? :`, and a `std::tx_exception` that is written with its value.
use Rattle.std.proofs.Common.{◌≡◌, ◌<◌, ◌∙◌, List, length, Result, Ok, Err, IfOk, sym, ap, subst}
use Rattle.std.specs.declared.alloc.AllocError.{AllocError}
use Rattle.elab_make.specs.cpp_types.Typ.{Typ}
use Rattle.elab_make.specs.cpp_types.declared.classes.At.{At}
use Rattle.elab_make.specs.cpp_types.declared.ranks.Cat.TheVariants.{Lvalue}
use Rattle.elab_make.specs.cpp_tree.declared.arena.TNodeId.{TNodeId}
use Rattle.elab_make.specs.cpp_tree.Trees.{Tree}
use Rattle.elab_make.specs.cpp_tree.Arena.{tree_at, Adds}
use Rattle.elab_make.specs.elab_ctx.Ctx.{Ctx, Work}
use Rattle.elab_make.specs.elab_ctx.Steps.{Made, Operand}
use Rattle.elab_make.specs.elab_ctx.Says.{Puts}
use Rattle.elab_make.specs.elab_ctx.Operands.{operand_in}
use Rattle.elab_make.specs.elab_ctx.declared.operand.Operand.{Operand as OperandRec}
use Rattle.elab_make.proofs.elab_ctx.Looks.{grows_trans, at_grown, within_grown}
use Rattle.elab_make.specs.elab_rules.Initialising.{with_tree, exception_copied, seen_as}
use Rattle.elab_make.specs.elab_rules.Operators.{dropped, settled, bare_throw, comma_of, comma, conditional_node, conditional_like, joined_class, shared}
use Rattle.elab_forms.specs.Rows.{beside_throw, behind_throw}
use Rattle.elab_forms.proofs.Steps.{at_operand, three_ok}

-- a copy of an object that was made, as one of a type that is known by an equation
pub exception_puts : (c : Ctx) (at : At) (t u : Typ) (n0 n1 n2 : List Tree) (w : Work) (o : TNodeId) (m : Made) (r : Result TNodeId AllocError) → u ≡ t
    → Puts n0 n1 w o m → IfOk r (λ (id : TNodeId). Adds n1 n2 id (exception_copied c u at (tree_at n1 o)))
    → IfOk r (λ (id : TNodeId). Puts n0 n2 w id (with_tree (exception_copied c t at) m))
exception_puts c at t u n0 n1 n2 w o m (Ok r) e p q = record {
  grows = grows_trans p.grows q.grows;
  within = q.within;
  is = q.is ∙ ap (λ (z : Typ). exception_copied c z at (tree_at n1 o)) e ∙ ap (exception_copied c t at) p.is;
  work_is = p.work_is;
}
exception_puts c at t u n0 n1 n2 w o m (Err x) e p q = tt

settled_same : (c : Ctx) (w v : Work) (a b : Operand) → w ≡ v → a ≡ b → settled c w a ≡ settled c v b
settled_same c w v a b e h = ap (λ (z : Work). settled c z a) e ∙ ap (settled c v) h

pub comma_puts : (c : Ctx) (w w1 w2 : Work) (at : At) (a : Operand) (b : OperandRec) (x y : TNodeId) (r : Result TNodeId AllocError) (n0 n1 n2 n3 : List Tree)
    → b.id.0 < length n0 → Puts n0 n1 w1 x (dropped c w a) → Puts n1 n2 w2 y (settled c w1 (operand_in n1 b))
    → IfOk r (λ (id : TNodeId). Adds n2 n3 id (comma_of at (tree_at n2 x) (tree_at n2 y)))
    → IfOk r (λ (id : TNodeId). Puts n0 n3 w2 id (comma c w at a (operand_in n0 b)))
comma_puts c w w1 w2 at a b x y (Ok r) n0 n1 n2 n3 h xs ys rs =
    let second : settled c w1 (operand_in n1 b) ≡ settled c (dropped c w a).work (operand_in n0 b) =
    settled_same c w1 (dropped c w a).work (operand_in n1 b) (operand_in n0 b) xs.work_is (at_operand n0 n1 b xs.grows h) in
    record {
      grows = grows_trans xs.grows (grows_trans ys.grows rs.grows);
      within = rs.within;
      is = rs.is ∙ ap (λ (z : Tree). comma_of at z (tree_at n2 y)) (at_grown n1 n2 x ys.grows xs.within ∙ xs.is)
          ∙ ap (comma_of at (dropped c w a).tree) (ys.is ∙ ap (λ (z : Made). z.tree) second);
      work_is = ys.work_is ∙ ap (λ (z : Made). z.work) second;
    }
comma_puts c w w1 w2 at a b x y (Err e) n0 n1 n2 n3 h xs ys rs = tt

pub beside_puts : (c : Ctx) (w w1 : Work) (at : At) (test x y : TNodeId) (a : Operand) (b : OperandRec) (r : Result TNodeId AllocError) (n0 n1 n2 : List Tree)
    → test.0 < length n0 → b.id.0 < length n0 → Puts n0 n1 w1 x (settled c w a) → tree_at n1 y ≡ bare_throw (tree_at n1 b.id)
    → IfOk r (λ (id : TNodeId). Adds n1 n2 id (conditional_like at (tree_at n1 x) (tree_at n1 test) (tree_at n1 x) (tree_at n1 y)))
    → IfOk r (λ (id : TNodeId). Puts n0 n2 w1 id (beside_throw c w at (tree_at n0 test) a (operand_in n0 b)))
beside_puts c w w1 at test x y a b (Ok r) n0 n1 n2 k h xs ys rs =
    let thrown : tree_at n1 y ≡ bare_throw (tree_at n0 b.id) = ys ∙ ap bare_throw (at_grown n0 n1 b.id xs.grows h) in
    record {
      grows = grows_trans xs.grows rs.grows;
      within = rs.within;
      is = rs.is ∙ ap (λ (z : Tree). conditional_like at (tree_at n1 x) z (tree_at n1 x) (tree_at n1 y)) (at_grown n0 n1 test xs.grows k)
          ∙ ap (λ (z : Tree). conditional_like at (tree_at n1 x) (tree_at n0 test) (tree_at n1 x) z) thrown
          ∙ ap (λ (z : Tree). conditional_like at z (tree_at n0 test) z (bare_throw (tree_at n0 b.id))) xs.is;
      work_is = xs.work_is;
    }
beside_puts c w w1 at test x y a b (Err e) n0 n1 n2 k h xs ys rs = tt

pub behind_puts : (c : Ctx) (w w1 : Work) (at : At) (test x y : TNodeId) (a : OperandRec) (b : Operand) (r : Result TNodeId AllocError) (n0 n1 n2 : List Tree)
    → test.0 < length n0 → x.0 < length n0 → tree_at n0 x ≡ bare_throw (tree_at n0 a.id) → Puts n0 n1 w1 y (settled c w b)
    → IfOk r (λ (id : TNodeId). Adds n1 n2 id (conditional_like at (tree_at n1 y) (tree_at n1 test) (tree_at n1 x) (tree_at n1 y)))
    → IfOk r (λ (id : TNodeId). Puts n0 n2 w1 id (behind_throw c w at (tree_at n0 test) (operand_in n0 a) b))
behind_puts c w w1 at test x y a b (Ok r) n0 n1 n2 k h xs ys rs =
    let thrown : tree_at n1 x ≡ bare_throw (tree_at n0 a.id) = at_grown n0 n1 x ys.grows h ∙ xs in
    record {
      grows = grows_trans ys.grows rs.grows;
      within = rs.within;
      is = rs.is ∙ ap (λ (z : Tree). conditional_like at (tree_at n1 y) z (tree_at n1 x) (tree_at n1 y)) (at_grown n0 n1 test ys.grows k)
          ∙ ap (λ (z : Tree). conditional_like at (tree_at n1 y) (tree_at n0 test) z (tree_at n1 y)) thrown
          ∙ ap (λ (z : Tree). conditional_like at z (tree_at n0 test) (bare_throw (tree_at n0 a.id)) z) ys.is;
      work_is = ys.work_is;
    }
behind_puts c w w1 at test x y a b (Err e) n0 n1 n2 k h xs ys rs = tt

-- two lvalues of one class, of which one has all qualifiers of the other
pub shared_ok : (at : At) (test x y : TNodeId) (a b : OperandRec) (u : Typ) (r : Result TNodeId AllocError) (n0 n1 n2 n3 : List Tree) → test.0 < length n0
    → b.id.0 < length n0 → u ≡ joined_class (operand_in n0 a) (operand_in n0 b) → Adds n0 n1 x (seen_as a.at u (tree_at n0 a.id))
    → Adds n1 n2 y (seen_as b.at u (tree_at n1 b.id))
    → IfOk r (λ (id : TNodeId). Adds n2 n3 id (conditional_node at u Lvalue (tree_at n2 test) (tree_at n2 x) (tree_at n2 y)))
    → IfOk r (λ (id : TNodeId). Adds n0 n3 id (shared at (tree_at n0 test) (operand_in n0 a) (operand_in n0 b)))
shared_ok at test x y a b u r n0 n1 n2 n3 k h e xs ys rs =
    subst (λ (z : Typ). IfOk r (λ (id : TNodeId). Adds n0 n3 id
    (conditional_node at z Lvalue (tree_at n0 test) (seen_as a.at z (tree_at n0 a.id)) (seen_as b.at z (tree_at n0 b.id))))) e
    (three_ok n0 n1 n2 n3 test b.id x y r (λ (p q s : Tree). conditional_node at u Lvalue p q s) (seen_as b.at u) (seen_as a.at u (tree_at n0 a.id))
    k h xs ys rs)
