-- Calls by what is called.
use Rattle.std.proofs.Common.{◌≡◌, ℕ, true, nat_lt, List, [], ◌∷◌, refl, sym, ap, ◌∙◌}
use Rattle.std.proofs.lemmas.Bool.{and_parts}
use Rattle.cpp_types.specs.Typ.{Typ, typ, void}
use Rattle.cpp_types.specs.declared.classes.At.{At}
use Rattle.cpp_types.specs.declared.ranks.Cat.{Cat}
use Rattle.cpp_types.specs.declared.ranks.Cat.TheVariants.{Lvalue}
use Rattle.elab_make.specs.cpp_tree.declared.kinds.TKind.{TKind}
use Rattle.elab_make.specs.cpp_tree.declared.kinds.TKind.TheVariants.{Function, Default, Builtin}
use Rattle.elab_make.specs.cpp_tree.declared.arena.TNodeId.{TNodeId}
use Rattle.elab_make.specs.cpp_tree.Trees.{Tree, node, Trees, none, more, kind_of, typ_in, cat_of, kids_of}
use Rattle.elab_make.specs.cpp_tree.Arena.{trees_at}
use Rattle.elab_make.specs.elab_ctx.Ctx.{Ctx, Work}
use Rattle.elab_make.specs.elab_ctx.Says.{are_within}
use Rattle.elab_make.specs.elab_ctx.Steps.{Operand}
use Rattle.elab_make.specs.elab_rules.Calls.{call, call_form}
use Rattle.elab_names.specs.declared.resolving.Callee.{Callee}
use Rattle.elab_names.specs.declared.resolving.Callee.TheVariants.{Functions, Get, Known, Value}
use Rattle.elab_names.specs.Callees.{callee_in, callee_at}
use Rattle.elab_names.proofs.Callees.{named_by}
use Rattle.elab_call.specs.declared.callees.Kids.{Kids}
use Rattle.elab_call.specs.declared.callees.CalleeForm.{CalleeForm}
use Rattle.elab_call.specs.Callees.{callee_form, called_by, call_by, counted, form_with, form_shown, is_form_within}

by_form : (c : Ctx) (w : Work) (at : At) (o : Operand) (t : Tree) (os : List Operand) → call_form c w at o t os ≡ call_by c w at o t os (callee_form t)
by_form c w at o (node (Function k) (typ void d v) Lvalue p none) os = refl
by_form c w at o (node (Function k) (typ void d v) Lvalue p (more object none)) os = refl
by_form c w at o (node Default t cat p (more e none)) os = refl
by_form c w at o (node (Builtin b) (typ void d v) Lvalue p none) os = refl
by_form c w at o (node kind t cat p kids) os = refl

pub call_is : (c : Ctx) (w : Work) (at : At) (o : Operand) (os : List Operand) → call c w at o os ≡ call_by c w at o o.tree os (callee_form o.tree)
call_is c w at o os = by_form c w at o o.tree os

pub form_is : (trees : List Tree) (callee : Callee) (ids : List TNodeId)
    → form_shown trees (form_with callee (counted ids)) ≡ called_by callee (trees_at trees ids)
form_is trees (Functions k) [] = refl
form_is trees (Functions k) (id ∷ []) = refl
form_is trees (Functions k) (id ∷ j ∷ ids) = refl
form_is trees Get [] = refl
form_is trees Get (id ∷ []) = refl
form_is trees Get (id ∷ j ∷ ids) = refl
form_is trees (Known b) [] = refl
form_is trees (Known b) (id ∷ []) = refl
form_is trees (Known b) (id ∷ j ∷ ids) = refl
form_is trees Value [] = refl
form_is trees Value (id ∷ []) = refl
form_is trees Value (id ∷ j ∷ ids) = refl

pub form_within : (n : ℕ) (callee : Callee) (ids : List TNodeId) → are_within n ids ≡ true → is_form_within n (form_with callee (counted ids)) ≡ true
form_within n (Functions k) [] h = refl
form_within n (Functions k) (id ∷ []) h = (and_parts (nat_lt id.0 n) true h).0
form_within n (Functions k) (id ∷ j ∷ ids) h = refl
form_within n Get [] h = refl
form_within n Get (id ∷ []) h = (and_parts (nat_lt id.0 n) true h).0
form_within n Get (id ∷ j ∷ ids) h = refl
form_within n (Known b) [] h = refl
form_within n (Known b) (id ∷ []) h = refl
form_within n (Known b) (id ∷ j ∷ ids) h = refl
form_within n Value [] h = refl
form_within n Value (id ∷ []) h = refl
form_within n Value (id ∷ j ∷ ids) h = refl

pub form_found : (trees : List Tree) (t : Tree) (kind : TKind) (ty : Typ) (cat : Cat) (ids : List TNodeId) (k : Callee) (n : Kids) (f : CalleeForm)
    → kind_of t ≡ kind → typ_in t ≡ ty → cat_of t ≡ cat → kids_of t ≡ trees_at trees ids → k ≡ callee_in kind ty cat → n ≡ counted ids → f ≡ form_with k n
    → form_shown trees f ≡ callee_form t
form_found trees t kind ty cat ids k n f a b d e g h i =
    ap (form_shown trees) (i ∙ ap (λ (z : Kids). form_with k z) h) ∙ form_is trees k ids
    ∙ sym (ap (λ (z : Trees). called_by (callee_at t) z) e ∙ ap (λ (z : Callee). called_by z (trees_at trees ids)) (named_by t kind ty cat a b d ∙ sym g))
