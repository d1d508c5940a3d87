-- Variables of blocks, step by step: those whose type their initialiser gives, and those whose type is known.
use Rattle.std.proofs.Common.{◌≡◌, ◌<◌, ◌-◌, ◌++◌, ◌∷◌, ℕ, suc, Bool, true, false, List, [], length, map, Option, Some, None, option_map, Result, Ok, Err, refl}
use Rattle.std.proofs.Common.{sym, ap, ◌∙◌, subst}
use Rattle.elab_scopes.specs.cpp_lex.Tokens.{Lexeme}
use Rattle.elab_scopes.specs.cpp_types.Typ.{Typ, typ_of}
use Rattle.elab_scopes.specs.cpp_types.declared.types.Ty.{Ty}
use Rattle.elab_scopes.specs.cpp_types.declared.classes.At.{At}
use Rattle.elab_scopes.specs.cpp_types.declared.ranks.Cat.TheVariants.{Lvalue}
use Rattle.elab_scopes.specs.cpp_ast.Trees as syntax
use Rattle.elab_scopes.specs.cpp_tree.declared.faults.ElabFault.{ElabFault}
use Rattle.elab_scopes.specs.cpp_tree.declared.faults.ElabFault.TheVariants.{Ill}
use Rattle.elab_scopes.specs.cpp_tree.declared.faults.IllRule.TheVariants.{Redeclared, TypeDiffers, BadInit}
use Rattle.elab_scopes.specs.cpp_tree.declared.arena.TNodeId.{TNodeId}
use Rattle.elab_scopes.specs.cpp_tree.declared.kinds.TKind.TheVariants as forms
use Rattle.elab_scopes.specs.cpp_tree.Trees.{Tree, Trees, node, none, one}
use Rattle.elab_scopes.specs.cpp_tree.Arena.{tree_at, Grows, Adds}
use Rattle.elab_scopes.specs.elab_ctx.declared.operand.Operand.{Operand as OperandRec}
use Rattle.elab_scopes.specs.elab_ctx.Ctx.{Ctx, ctx_of, work_of, next_place, with_variable}
use Rattle.elab_scopes.specs.elab_ctx.Operands.{operand_in}
use Rattle.elab_scopes.specs.elab_ctx.Steps.{and_then, expect, check, Made}
use Rattle.elab_scopes.specs.elab_ctx.Says.{Faults, MadeAt}
use Rattle.elab_scopes.proofs.elab_ctx.Looks.{grows_trans, at_grown}
use Rattle.elab_scopes.proofs.elab_ctx.Making.{faults_in, faults_same}
use Rattle.elab_scopes.specs.elab_rules.Types.{has_auto}
use Rattle.elab_scopes.specs.elab_rules.Statements.{Lambdas, State, Done, Full, Deduction, done, full_operand, with_work, variable_tree, declared_variable}
use Rattle.elab_scopes.specs.elab_rules.Statements.{placed_variable, auto_placed, copy_initialised, deduced_type, replaced, same_deduction, with_auto}
use Rattle.elab_scopes.specs.elab_rules.Statements.{without_auto, is_fresh, only_expression, variable, bound_by_initialiser, init_node, next_variable}
use Rattle.elab_scopes.specs.declared.state.State.{State as StateRec}
use Rattle.elab_scopes.specs.States.{state_of, made, full_in, Grown}
use Rattle.elab_scopes.specs.Says.{OneDone, Does, FullAt, Declared}
use Rattle.elab_scopes.specs.Caught.{PlacedAt}
use Rattle.elab_scopes.proofs.Standing.{grown_by, grown_trans, one_grown, does_grown}
use Rattle.elab_locals.specs.Inits.{init_in}
use Rattle.elab_locals.specs.Deducing.{DeducedAt, VariableAt, Variables}
use Rattle.elab_locals.specs.Variables.{auto_node, auto_of_type, auto_from, auto_declared, auto_read, plain_made, plain_read}
use Rattle.elab_locals.proofs.Initials.{variable_auto, variable_plain}

-- the item of a variable of a deduced type, and its node
pub auto_done : (a c : StateRec) (n0 n : List Tree) (v init r : TNodeId) (i place : ℕ) (t : Typ) (at p : At) → init.0 < length (made a) → n0 ≡ made a
    → Adds n0 n v (node (forms.Local place) t Lvalue at none) → place ≡ next_place (work_of a.work)
    → Adds n (made c) r (init_in (ctx_of a.env) t at p (tree_at n v) (tree_at n init)) → state_of c ≡ auto_placed (with_work (state_of a) (work_of a.work)) i t
    → OneDone a c r (auto_node (state_of a) i t at p (tree_at (made a) init))
auto_done a c n0 n v init r i place t at p h g l k q s =
    let m : Adds (made a) n v (node (forms.Local place) t Lvalue at none) =
    subst (λ (z : List Tree). Adds z n v (node (forms.Local place) t Lvalue at none)) g l in
    let after : State = auto_placed (with_work (state_of a) (work_of a.work)) i t in
    let e : Tree = tree_at (made a) init in
    record {
      grown = grown_by a c (grows_trans m.grows q.grows) (ap (λ (z : State). z.ctx.labels) s);
      within = q.within;
      is = ap (λ (z : ℕ). done (one (init_in (ctx_of a.env) t at p (node (forms.Local z) t Lvalue at none) e)) after) (sym k)
          ∙ ap (λ (z : Tree). done (one (init_in (ctx_of a.env) t at p z e)) after) (sym m.is)
          ∙ ap (λ (z : Tree). done (one (init_in (ctx_of a.env) t at p (tree_at n v) z)) after) (sym (at_grown (made a) n init m.grows h))
          ∙ ap (λ (z : Tree). done (one z) after) (sym q.is) ∙ ap (λ (z : State). done (one (tree_at (made c) r)) z) (sym s);
    }

pub auto_made : (a b c : StateRec) (o : OperandRec) (i : ℕ) (t : Typ) (at : At) (init r : TNodeId)
    → MadeAt (made a) (made b) (work_of b.work) init (copy_initialised (ctx_of a.env) (work_of a.work) t (operand_in (made a) o))
    → state_of b ≡ record (state_of a) { work = work_of b.work } → OneDone b c r (auto_node (state_of b) i t at o.at (tree_at (made b) init))
    → OneDone a c r (auto_of_type i t at (full_in a o))
auto_made a b c o i t at init r m q d =
    let after : Made → Result Done ElabFault = λ n. done (one (init_node (state_of a) t at o.at (variable_tree (with_work (state_of a) n.work) t at) n.tree))
    (auto_placed (with_work (state_of a) n.work) i t) in
    one_grown a b c r _ _ (grown_by a b m.grows (ap (λ (z : State). z.ctx.labels) q))
    (ap (λ (z : Result Made ElabFault). and_then z after) m.is ∙ ap (λ (z : State). auto_node z i t at o.at (tree_at (made b) init)) (sym q)) d

pub known_made : (a c : StateRec) (o : OperandRec) (i : ℕ) (t u : Typ) (at : At) (r : Result TNodeId ElabFault) → t ≡ u
    → Does a c r (auto_of_type i t at (full_in a o)) → Does a c r (auto_of_type i u at (full_in a o))
known_made a c o i t u at r e m = subst (λ (z : Typ). Does a c r (auto_of_type i z at (full_in a o))) e m

full_same : (a b : StateRec) (o : OperandRec) → o.id.0 < length (made a) → Grows (made a) (made b) → state_of b ≡ state_of a → full_in b o ≡ full_in a o
full_same a b o h g s = ap (λ (z : Tree). record { operand = record { tree = z; at = o.at; zero = o.zero }; state = state_of b })
    (at_grown (made a) (made b) o.id g h) ∙ ap (λ (z : State). record { operand = operand_in (made a) o; state = z }) s

deduced_then : (a b : StateRec) (o : OperandRec) (found : Ty) (i : ℕ) (t : Typ) (at : At) (before : Option Typ) → o.id.0 < length (made a)
    → DeducedAt (made a) (made b) found (deduced_type at t (operand_in (made a) o)) → state_of b ≡ state_of a → same_deduction before (typ_of found) ≡ true
    → auto_from i t at before (full_in a o) ≡ with_auto (typ_of found) (auto_of_type i (replaced (typ_of found) t) at (full_in b o))
deduced_then a b o found i t at before h m s e =
    let u : Typ = typ_of found in
    ap (λ (z : Result Typ ElabFault). and_then z (λ (w : Typ). and_then (check at TypeDiffers (same_deduction before w))
    (λ y. with_auto w (auto_of_type i (replaced w t) at (full_in a o))))) m.is
    ∙ ap (λ (z : Bool). and_then (check at TypeDiffers z) (λ y. with_auto u (auto_of_type i (replaced u t) at (full_in a o)))) e
    ∙ ap (λ (z : Full). with_auto u (auto_of_type i (replaced u t) at z)) (sym (full_same a b o h m.grows s))

pub auto_found : (a b c : StateRec) (o : OperandRec) (found : Ty) (auto : Option Ty) (i : ℕ) (t : Typ) (at : At) (before : Option Typ) (r : TNodeId)
    → o.id.0 < length (made a) → DeducedAt (made a) (made b) found (deduced_type at t (operand_in (made a) o)) → state_of b ≡ state_of a
    → same_deduction before (typ_of found) ≡ true → OneDone b c r (auto_of_type i (replaced (typ_of found) t) at (full_in b o))
    → option_map typ_of auto ≡ Some (typ_of found) → VariableAt a c auto r (auto_from i t at before (full_in a o))
auto_found a b c o found auto i t at before r h m s e d q = record {
  grown = grown_trans a b c (grown_by a b m.grows (ap (λ (z : State). z.ctx.labels) s)) d.grown;
  within = d.within;
  is = deduced_then a b o found i t at before h m s e ∙ ap (with_auto (typ_of found)) d.is
      ∙ ap (λ (z : Option Typ). Ok (record { done = record { trees = one (tree_at (made c) r); state = state_of c }; auto = z })) (sym q);
}

pub auto_fails : (a b : StateRec) (o : OperandRec) (found : Ty) (i : ℕ) (t : Typ) (at : At) (before : Option Typ) (f : ElabFault) → o.id.0 < length (made a)
    → DeducedAt (made a) (made b) found (deduced_type at t (operand_in (made a) o)) → state_of b ≡ state_of a → same_deduction before (typ_of found) ≡ true
    → Faults f (auto_of_type i (replaced (typ_of found) t) at (full_in b o)) → Faults f (auto_from i t at before (full_in a o))
auto_fails a b o found i t at before f h m s e d = faults_same f (with_auto (typ_of found) (auto_of_type i (replaced (typ_of found) t) at (full_in b o))) _
    (deduced_then a b o found i t at before h m s e) (faults_in (with_auto (typ_of found)) f (auto_of_type i (replaced (typ_of found) t) at (full_in b o))
    (λ d. refl) d)

pub auto_differs : (a b : StateRec) (o : OperandRec) (found : Ty) (i : ℕ) (t : Typ) (at : At) (before : Option Typ)
    → DeducedAt (made a) (made b) found (deduced_type at t (operand_in (made a) o)) → same_deduction before (typ_of found) ≡ false
    → auto_from i t at before (full_in a o) ≡ Err (Ill at TypeDiffers)
auto_differs a b o found i t at before m e =
    let u : Typ = typ_of found in
    ap (λ (z : Result Typ ElabFault). and_then z (λ (w : Typ). and_then (check at TypeDiffers (same_deduction before w))
    (λ y. with_auto w (auto_of_type i (replaced w t) at (full_in a o))))) m.is
    ∙ ap (λ (z : Bool). and_then (check at TypeDiffers z) (λ y. with_auto u (auto_of_type i (replaced u t) at (full_in a o)))) e

-- a step, and what follows it

pub variables_grown : (a b c : StateRec) (auto : Option Ty) (r : Result TNodeId ElabFault) (x y : Result Deduction ElabFault) → Grown a b → y ≡ x
    → Variables b c auto r x → Variables a c auto r y
variables_grown a b c auto (Ok r) x y g e m = record { grown = grown_trans a b c g m.grown; within = m.within; is = e ∙ m.is }
variables_grown a b c auto (Err d) x y g e m = faults_same d x y e m

pub variables_fail : (a c : StateRec) (auto : Option Ty) (r : Result TNodeId ElabFault) (f : ElabFault) (x : Result Deduction ElabFault) → r ≡ Err f
    → Faults f x → Variables a c auto r x
variables_fail a c auto r f x e h = subst (λ (z : Result TNodeId ElabFault). Variables a c auto z x) (sym e) h

mapped : {A B : Type 0} (f : A → B) (xs : List A) → length (map f xs) ≡ length xs
mapped f [] = refl
mapped f (x ∷ xs) = ap suc (mapped f xs)

pub declared_found : (lams : Lambdas) (s : List Lexeme) (a b c : StateRec) (i : ℕ) (t : Typ) (at : At) (before : Option Typ) (e : syntax.Tree) (o : OperandRec)
    (auto : Option Ty) (r : Result TNodeId ElabFault) → i ≡ length a.env.variables.items - 1 → FullAt a b o (full_operand lams s (state_of a) e)
    → Variables b c auto r (auto_from i t at before (full_in b o)) → Variables a c auto r (auto_declared lams s (state_of a) t at before e)
declared_found lams s a b c i t at before e o auto r n m d =
    let j : ℕ = length (ctx_of a.env).variables - 1 in
    let same : i ≡ j = n ∙ ap (λ (z : ℕ). z - 1) (sym (mapped _ a.env.variables.items)) in
    variables_grown a b c auto r (auto_from i t at before (full_in b o)) _ m.grown
    (ap (λ (z : Result Full ElabFault). and_then z (λ (f : Full). auto_from j t at before f)) m.is
    ∙ ap (λ (z : ℕ). auto_from z t at before (full_in b o)) (sym same)) d

pub read_found : (lams : Lambdas) (s : List Lexeme) (a b c : StateRec) (name : List ℕ) (t : Typ) (at : At) (before : Option Typ) (init : syntax.Trees)
    (e : syntax.Tree) (auto : Option Ty) (r : Result TNodeId ElabFault) → is_fresh (ctx_of a.env) name ≡ true → Grows (made a) (made b)
    → state_of b ≡ declared_variable (state_of a) name None → only_expression init ≡ Some e
    → Variables b c auto r (auto_declared lams s (state_of b) t at before e) → Variables a c auto r (auto_read lams s (state_of a) name t at before init)
read_found lams s a b c name t at before init e auto r f g q k d =
    let after : State → syntax.Tree → Result Deduction ElabFault = λ u x. auto_declared lams s u t at before x in
    variables_grown a b c auto r (auto_declared lams s (state_of b) t at before e) _ (grown_by a b g (ap (λ (z : State). z.ctx.labels) q))
    (ap (λ (z : Bool). and_then (check at Redeclared z)
    (λ y. and_then (expect at BadInit (only_expression init)) (after (declared_variable (state_of a) name None)))) f
    ∙ ap (λ (z : Option syntax.Tree). and_then (expect at BadInit z) (after (declared_variable (state_of a) name None))) k
    ∙ ap (λ (z : State). after z e) (sym q)) d

pub declared_state : (a b : StateRec) (name : List ℕ) (place : ℕ) → Declared (ctx_of a.env) (ctx_of b.env) name None place → place ≡ next_place (work_of a.work)
    → state_of b ≡ record (state_of a) { ctx = ctx_of b.env } → state_of b ≡ declared_variable (state_of a) name None
declared_state a b name place d p s = s ∙ ap (λ (z : Ctx). record (state_of a) { ctx = z })
    (d.ctx ∙ ap (λ (z : ℕ). with_variable (ctx_of a.env) name (next_variable (ctx_of a.env)) (record { typ = None; place = z })) p)

pub none_found : (lams : Lambdas) (s : List Lexeme) (st : State) (name : List ℕ) (t : Typ) (at : At) (before : Option Typ) (init : syntax.Trees)
    → is_fresh st.ctx name ≡ true → only_expression init ≡ None → auto_read lams s st name t at before init ≡ Err (Ill at BadInit)
none_found lams s st name t at before init f k =
    ap (λ (z : Bool). and_then (check at Redeclared z)
    (λ y. and_then (expect at BadInit (only_expression init)) (λ (e : syntax.Tree). auto_declared lams s (declared_variable st name None) t at before e))) f
    ∙ ap (λ (z : Option syntax.Tree). and_then (expect at BadInit z)
    (λ (e : syntax.Tree). auto_declared lams s (declared_variable st name None) t at before e)) k

-- of a type that is known

pub plain_found : (lams : Lambdas) (s : List Lexeme) (a b d c : StateRec) (name : List ℕ) (t : Typ) (at : At) (place : ℕ) (v : TNodeId) (init : syntax.Trees)
    (r : Result TNodeId ElabFault) → PlacedAt a b name t place → Adds (made b) (made d) v (node (forms.Local place) t Lvalue at none) → state_of d ≡ state_of b
    → Does d c r (plain_made lams s (tree_at (made d) v) (state_of d) t at init) → Does a c r (plain_read lams s (state_of a) name t at init)
plain_found lams s a b d c name t at place v init r m q e n =
    does_grown a d c r (plain_made lams s (tree_at (made d) v) (state_of d) t at init) _
    (grown_trans a b d m.grown (grown_by b d q.grows (ap (λ (z : State). z.ctx.labels) e)))
    (ap (λ (z : Bool). and_then (check at Redeclared z)
    (λ y. plain_made lams s (variable_tree (state_of a) t at) (placed_variable (state_of a) name t) t at init)) m.fresh
    ∙ ap (λ (z : ℕ). plain_made lams s (node (forms.Local z) t Lvalue at none) (placed_variable (state_of a) name t) t at init) (sym m.place_is)
    ∙ ap (λ (z : Tree). plain_made lams s z (placed_variable (state_of a) name t) t at init) (sym q.is)
    ∙ ap (λ (z : State). plain_made lams s (tree_at (made d) v) z t at init) (sym (e ∙ m.is))) n

pub without_found : (a c : StateRec) (auto : Option Ty) (r : Result TNodeId ElabFault) (x : Result Done ElabFault) → Does a c r x
    → Variables a c auto r (without_auto (option_map typ_of auto) x)
without_found a c auto (Ok r) x m = record { grown = m.grown; within = m.within; is = ap (without_auto (option_map typ_of auto)) m.is }
without_found a c auto (Err f) x m = faults_in (without_auto (option_map typ_of auto)) f x (λ d. refl) m

pub variable_read : (lams : Lambdas) (s : List Lexeme) (a c : StateRec) (name : List ℕ) (t : Typ) (at : At) (before : Option Typ) (init : syntax.Trees)
    (auto : Option Ty) (r : Result TNodeId ElabFault) → has_auto t ≡ true → Variables a c auto r (auto_read lams s (state_of a) name t at before init)
    → Variables a c auto r (variable lams s (state_of a) name t at before init)
variable_read lams s a c name t at before init auto r h m =
    subst (λ (z : Result Deduction ElabFault). Variables a c auto r z) (sym (variable_auto lams s (state_of a) name t at before init h)) m

pub variable_known : (lams : Lambdas) (s : List Lexeme) (a c : StateRec) (name : List ℕ) (t u : Typ) (at : At) (init : syntax.Trees) (auto : Option Ty)
    (r : Result TNodeId ElabFault) → has_auto t ≡ false → u ≡ bound_by_initialiser s t init → Does a c r (plain_read lams s (state_of a) name u at init)
    → Variables a c auto r (variable lams s (state_of a) name t at (option_map typ_of auto) init)
variable_known lams s a c name t u at init auto r h e m =
    subst (λ (z : Result Deduction ElabFault). Variables a c auto r z) (sym (variable_plain lams s (state_of a) name t u at (option_map typ_of auto) init h e))
    (without_found a c auto r _ m)
