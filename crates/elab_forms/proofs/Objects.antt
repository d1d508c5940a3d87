-- `? :` on two objects of a class, and assignments, in several steps.
use Rattle.std.proofs.Common.{◌≡◌, ◌<◌, ◌∙◌, true, false, List, length, is_some, Result, Ok, sym, ap, subst}
use Rattle.elab_make.specs.cpp_types.Typ.{Typ}
use Rattle.elab_make.specs.cpp_types.declared.classes.At.{At}
use Rattle.elab_make.specs.cpp_types.declared.ranks.Cat.TheVariants.{Prvalue}
use Rattle.elab_make.specs.cpp_tree.declared.faults.ElabFault.{ElabFault}
use Rattle.elab_make.specs.cpp_tree.declared.arena.TNodeId.{TNodeId}
use Rattle.elab_make.specs.cpp_tree.Trees.{Tree, typ_in}
use Rattle.elab_make.specs.cpp_tree.Arena.{tree_at, Adds}
use Rattle.elab_make.specs.cpp_tree.Typing.{form_in, kind_in, unqualified}
use Rattle.elab_make.specs.elab_ctx.Ctx.{Ctx, Work}
use Rattle.elab_make.specs.elab_ctx.Steps.{and_then, Made, Operand}
use Rattle.elab_make.specs.elab_ctx.Says.{Gives, MadeAt, Makes}
use Rattle.elab_make.specs.elab_ctx.Operands.{operand_in}
use Rattle.elab_make.specs.elab_ctx.declared.operand.Operand.{Operand as OperandRec}
use Rattle.elab_make.proofs.elab_ctx.Looks.{grows_trans, at_grown, within_grown}
use Rattle.elab_make.specs.elab_rules.Initialising.{initial, exact_object}
use Rattle.elab_make.specs.elab_rules.Operators.{assigned, conditional_node, joined_class, two_objects}
use Rattle.elab_forms.specs.Rows.{scalar_assigned}
use Rattle.elab_forms.proofs.Steps.{at_operand, then_gives}

first_object : (c : Ctx) (w : Work) (t u : Typ) (o : Operand) (x : Result Made ElabFault) → u ≡ t → exact_object c w u o.at o ≡ x
    → exact_object c w t o.at o ≡ x
first_object c w t u o x e h = ap (λ (z : Typ). exact_object c w z o.at o) (sym e) ∙ h

second_object : (c : Ctx) (w : Work) (t u : Typ) (a b : Operand) → u ≡ t → b ≡ a → exact_object c w t a.at a ≡ exact_object c w u b.at b
second_object c w t u a b e h = ap (λ (z : Typ). exact_object c w z a.at a) (sym e) ∙ ap (λ (o : Operand). exact_object c w u o.at o) (sym h)

pub objects_made : (c : Ctx) (w w1 w2 : Work) (at : At) (test x y r : TNodeId) (a b : OperandRec) (u : Typ) (n0 n1 n2 n3 : List Tree) → test.0 < length n0
    → b.id.0 < length n0 → u ≡ joined_class (operand_in n0 a) (operand_in n0 b) → MadeAt n0 n1 w1 x (exact_object c w u a.at (operand_in n0 a))
    → MadeAt n1 n2 w2 y (exact_object c w1 u b.at (operand_in n1 b))
    → Adds n2 n3 r (conditional_node at u Prvalue (tree_at n2 test) (tree_at n2 x) (tree_at n2 y))
    → MadeAt n0 n3 w2 r (two_objects c w at (tree_at n0 test) (operand_in n0 a) (operand_in n0 b))
objects_made c w w1 w2 at test x y r a b u n0 n1 n2 n3 k h e xs ys rs =
    let t : Typ = joined_class (operand_in n0 a) (operand_in n0 b) in
    let left : exact_object c w t a.at (operand_in n0 a) ≡ Ok (record { tree = tree_at n1 x; work = w1 }) =
    first_object c w t u (operand_in n0 a) _ e xs.is in
    let right : exact_object c w1 t b.at (operand_in n0 b) ≡ Ok (record { tree = tree_at n2 y; work = w2 }) =
    second_object c w1 t u (operand_in n0 b) (operand_in n1 b) e (at_operand n0 n1 b xs.grows h) ∙ ys.is in
    let same : tree_at n2 test ≡ tree_at n0 test = at_grown n1 n2 test ys.grows (within_grown n0 n1 test xs.grows k) ∙ at_grown n0 n1 test xs.grows k in
    let node : tree_at n3 r ≡ conditional_node at t Prvalue (tree_at n0 test) (tree_at n1 x) (tree_at n2 y) = rs.is
    ∙ ap (λ (z : Typ). conditional_node at z Prvalue (tree_at n2 test) (tree_at n2 x) (tree_at n2 y)) e
    ∙ ap (λ (z : Tree). conditional_node at t Prvalue z (tree_at n2 x) (tree_at n2 y)) same
    ∙ ap (λ (z : Tree). conditional_node at t Prvalue (tree_at n0 test) z (tree_at n2 y)) (at_grown n1 n2 x ys.grows xs.within) in
    record {
      grows = grows_trans xs.grows (grows_trans ys.grows rs.grows);
      within = rs.within;
      is = ap (λ (z : Result Made ElabFault). and_then z (λ (m : Made). and_then (exact_object c m.work t b.at (operand_in n0 b))
          (λ (n : Made). Ok (record { tree = conditional_node at t Prvalue (tree_at n0 test) m.tree n.tree; work = n.work })))) left
          ∙ ap (λ (z : Result Made ElabFault). and_then z
          (λ (n : Made). Ok (record { tree = conditional_node at t Prvalue (tree_at n0 test) (tree_at n1 x) n.tree; work = n.work }))) right
          ∙ ap (λ (z : Tree). Ok (record { tree = z; work = w2 })) (sym node);
    }

-- Assignments

pub scalar_makes : (c : Ctx) (w work : Work) (at : At) (a : OperandRec) (b : Operand) (u : Typ) (n0 n1 n2 : List Tree) (id : TNodeId)
    (r : Result TNodeId ElabFault) → a.id.0 < length n0 → is_some (kind_in (form_in (typ_in (tree_at n0 a.id)))) ≡ true
    → u ≡ unqualified (typ_in (tree_at n0 a.id)) → MadeAt n0 n1 work id (initial c w u b)
    → Gives n1 n2 r (assigned at (kind_in (form_in (typ_in (tree_at n1 a.id)))) (operand_in n1 a) (tree_at n1 id))
    → Makes n0 n2 work r (scalar_assigned c w at (operand_in n0 a) b)
scalar_makes c w work at a b u n0 n1 n2 id r h k e m g =
    let made : MadeAt n0 n1 work id (initial c w (unqualified (typ_in (tree_at n0 a.id))) b) =
    subst (λ (z : Typ). MadeAt n0 n1 work id (initial c w z b)) e m in
    let next : Gives n1 n2 r (assigned at (kind_in (form_in (typ_in (tree_at n0 a.id)))) (operand_in n0 a) (tree_at n1 id)) =
    subst (λ (z : Tree). Gives n1 n2 r (assigned at (kind_in (form_in (typ_in z))) (record { tree = z; at = a.at; zero = a.zero }) (tree_at n1 id)))
    (at_grown n0 n1 a.id m.grows h) g in
    rw k (then_gives n0 n1 n2 work id r _ (λ (v : Tree). assigned at (kind_in (form_in (typ_in (tree_at n0 a.id)))) (operand_in n0 a) v) made next)
