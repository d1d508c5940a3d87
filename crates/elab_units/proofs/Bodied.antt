-- Functions that get their bodies, and the classes that declarations define.
use Rattle.std.proofs.Common.{◌≡◌, ◌∙◌, ◌<◌, ◌≤◌, ◌+◌, ℕ, zero, suc, Bool, true, false, List, [], ◌∷◌, Option, Some, None, Result, Ok, Err, OnOk, IfOk, length}
use Rattle.std.proofs.Common.{map, unwrap_or, slice_get, slice_set, find, fold, cond, if◌then◌else◌, is_some, option_map, ap, sym, arith, refl}
use Rattle.std.proofs.lemmas.Bool.{eq-eqb, ne_eqb}
use Rattle.elab_entry.specs.cpp_types.Typ.{Typ, typ, void, int, enum, null, ptr, ref, array, func, class, closure, tx_ex}
use Rattle.elab_entry.specs.cpp_types.Class.{Class}
use Rattle.elab_entry.specs.cpp_lex.Tokens.{Lexeme}
use Rattle.elab_entry.specs.cpp_ast.Trees as syntax
use Rattle.elab_entry.specs.cpp_tree.declared.arena.TNode.{TNode}
use Rattle.elab_entry.specs.cpp_tree.declared.arena.TNodeId.{TNodeId}
use Rattle.elab_entry.specs.cpp_tree.declared.program.TFunc.{TFunc}
use Rattle.elab_entry.specs.cpp_tree.Trees.{Tree}
use Rattle.elab_entry.specs.cpp_tree.Arena.{tree_at, trees_of, with_node}
use Rattle.elab_entry.specs.cpp_tree.Units.{Func as TypedFunc, func_of}
use Rattle.elab_entry.specs.elab_ctx.Ctx.{Func}
use Rattle.elab_entry.specs.elab_rules.Statements.{State, Body}
use Rattle.elab_entry.specs.elab_rules.Classes.{class_text}
use Rattle.elab_entry.specs.elab_rules.Programs.{is_body_of, body_of, typed_func, typed_funcs, definition_if}
use Rattle.elab_units.specs.Made.{with_body, with_bodies, class_called, definition_by}

-- A body that is none of the functions from here on

found_own : (i : ℕ) (b : Body) (bs : List Body) → b.func ≡ i → body_of i (b ∷ bs) ≡ Some b
found_own i b bs h = ap (λ (z : Bool). cond z (Some b) (find (is_body_of i) bs)) (eq-eqb b.func i h)

found_other : (i : ℕ) (b : Body) (bs : List Body) → (b.func ≡ i → ⊥) → body_of i (b ∷ bs) ≡ body_of i bs
found_other i b bs h = ap (λ (z : Bool). cond z (Some b) (find (is_body_of i) bs)) (ne_eqb b.func i h)

before_all : (i : ℕ) (fs : List TypedFunc) (b : Body) (bs : List Body) → b.func < i → with_bodies i fs bs ≡ with_bodies i fs (b ∷ bs)
before_all i [] b bs h = refl
before_all i (f ∷ fs) b bs h =
    let here : with_body f (body_of i bs) ≡ with_body f (body_of i (b ∷ bs)) = ap (with_body f) (sym (found_other i b bs (λ e. omega (arith, e)))) in
    ap (λ (z : TypedFunc). z ∷ with_bodies (suc i) fs bs) here
    ∙ ap (λ (z : List TypedFunc). with_body f (body_of i (b ∷ bs)) ∷ z) (before_all (suc i) fs b bs (omega arith))

pub behind_all : (i : ℕ) (fs : List TypedFunc) (b : Body) (bs : List Body) → i + length fs ≤ b.func → with_bodies i fs bs ≡ with_bodies i fs (b ∷ bs)
behind_all i [] b bs h = refl
behind_all i (f ∷ fs) b bs h =
    let here : with_body f (body_of i bs) ≡ with_body f (body_of i (b ∷ bs)) = ap (with_body f) (sym (found_other i b bs (λ e. omega (arith, e)))) in
    ap (λ (z : TypedFunc). z ∷ with_bodies (suc i) fs bs) here
    ∙ ap (λ (z : List TypedFunc). with_body f (body_of i (b ∷ bs)) ∷ z) (behind_all (suc i) fs b bs (omega arith))

-- a function that has a body keeps it
keeps_inner : (f : TypedFunc) (b : Body) (o : Option Body) (h : Bool) → is_some f.body ≡ h → with_body (with_body f (Some b)) o ≡ with_body f (Some b)
keeps_inner f b None h e = refl
keeps_inner f b (Some d) true e = rw e (rw e refl)
keeps_inner f b (Some d) false e = rw e refl

keeps : (f : TypedFunc) (b : Body) (o : Option Body) → with_body (with_body f (Some b)) o ≡ with_body f (Some b)
keeps f b o = keeps_inner f b o (is_some f.body) refl

pub one_put : (i n : ℕ) (fs : List TypedFunc) (b : Body) (bs : List Body) (d : TypedFunc) → b.func ≡ i + n
    → with_bodies i (slice_set fs n (with_body (unwrap_or (slice_get fs n) d) (Some b))) bs ≡ with_bodies i fs (b ∷ bs)
one_put i n [] b bs d h = refl
one_put i zero (f ∷ fs) b bs d h =
    let here : with_body (with_body f (Some b)) (body_of i bs) ≡ with_body f (body_of i (b ∷ bs)) = keeps f b (body_of i bs)
    ∙ ap (with_body f) (sym (found_own i b bs (omega (arith, h)))) in
    ap (λ (z : TypedFunc). z ∷ with_bodies (suc i) fs bs) here
    ∙ ap (λ (z : List TypedFunc). with_body f (body_of i (b ∷ bs)) ∷ z) (before_all (suc i) fs b bs (omega (arith, h)))
one_put i (suc n) (f ∷ fs) b bs d h =
    let here : with_body f (body_of i bs) ≡ with_body f (body_of i (b ∷ bs)) = ap (with_body f) (sym (found_other i b bs (λ e. omega (arith, e, h)))) in
    ap (λ (z : TypedFunc). z ∷ with_bodies (suc i) (slice_set fs n (with_body (unwrap_or (slice_get fs n) d) (Some b))) bs) here
    ∙ ap (λ (z : List TypedFunc). with_body f (body_of i (b ∷ bs)) ∷ z) (one_put (suc i) n fs b bs d (omega (arith, h)))

-- Functions of a unit with their bodies

body_given : (cs : List Class) (f : Func) (o : Option Body) → with_body (typed_func cs f None) o ≡ typed_func cs f o
body_given cs f None = refl
body_given cs f (Some b) = refl

pub bodies_given : (st : State) (i : ℕ) (fs : List Func)
    → with_bodies i (map (λ (f : Func). typed_func st.ctx.classes f None) fs) st.bodies ≡ typed_funcs st i fs
bodies_given st i [] = refl
bodies_given st i (f ∷ fs) = ap (λ (z : TypedFunc). z ∷ with_bodies (suc i) (map (λ (g : Func). typed_func st.ctx.classes g None) fs) st.bodies)
    (body_given st.ctx.classes f (body_of i st.bodies))
    ∙ ap (λ (z : List TypedFunc). typed_func st.ctx.classes f (body_of i st.bodies) ∷ z) (bodies_given st (suc i) fs)

-- Classes

pub defined_by : (s : List Lexeme) (o : Option Typ) (kids : syntax.Trees) → definition_if s o kids ≡ definition_by (class_called o) (class_text s kids)
defined_by s None kids = refl
defined_by s (Some (typ (class n) c v)) kids = refl
defined_by s (Some (typ void c v)) kids = refl
defined_by s (Some (typ (int i) c v)) kids = refl
defined_by s (Some (typ (enum a b) c v)) kids = refl
defined_by s (Some (typ null c v)) kids = refl
defined_by s (Some (typ (ptr t) c v)) kids = refl
defined_by s (Some (typ (ref t) c v)) kids = refl
defined_by s (Some (typ (array t i) c v)) kids = refl
defined_by s (Some (typ (func g) c v)) kids = refl
defined_by s (Some (typ (closure i) c v)) kids = refl
defined_by s (Some (typ (tx_ex t) c v)) kids = refl

-- where no body is left
pub no_bodies : (i : ℕ) (fs : List TypedFunc) → with_bodies i fs [] ≡ fs
no_bodies i [] = refl
no_bodies i (f ∷ fs) = ap (λ (z : List TypedFunc). f ∷ z) (no_bodies (suc i) fs)

pub map_twice : {A B C : Type 0} (f : B → C) (g : A → B) (xs : List A) → map (λ (x : A). f (g x)) xs ≡ map f (map g xs)
map_twice f g [] = refl
map_twice f g (x ∷ xs) = ap (λ z. f (g x) ∷ z) (map_twice f g xs)

-- a function of the unit gets a body
pub body_kept : (trees : List Tree) (f : TFunc) (id : TNodeId) (b : Body) → f.body ≡ Some id → func_of trees f ≡ with_body (func_of trees f) (Some b)
body_kept trees f id b e = sym (ap (λ (o : Option TNodeId). if is_some (option_map (tree_at trees) o) then func_of trees f else
    record (func_of trees f) { body = Some b.tree; frame = b.frame }) e)

pub body_new : (trees : List Tree) (f : TFunc) (b : Body) → f.body ≡ None
    → record (func_of trees f) { body = Some b.tree; frame = b.frame } ≡ with_body (func_of trees f) (Some b)
body_new trees f b e = sym (ap (λ (o : Option TNodeId). if is_some (option_map (tree_at trees) o) then func_of trees f else
    record (func_of trees f) { body = Some b.tree; frame = b.frame }) e)

-- Answers of which more is known

pub ok_more : {A E X : Type 0} (r : Result A E) (x y z : X) → OnOk r (x ≡ y) → y ≡ z → OnOk r (x ≡ z)
ok_more (Ok a) x y z h e = h ∙ e
ok_more (Err d) x y z h e = tt

pub words_sum : (w n a b x y p q : ℕ) → w ≡ n + (a + b) → n ≡ p → a ≡ x → b ≡ y → q ≡ p → w ≡ x + (y + q)
words_sum w n a b x y p q e f g h i = omega arith

pub no_trees : (ns : List TNode) → ns ≡ [] → trees_of ns ≡ []
unfolding trees_of
no_trees ns e = ap (fold with_node []) e
