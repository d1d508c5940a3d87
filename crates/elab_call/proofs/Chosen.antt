-- Calls of what was chosen, and of values, where the object is made first.
use Rattle.std.proofs.Common.{◌≡◌, ℕ, List, Option, Some, None, unwrap_or, slice_get, Result, Ok, false, refl, sym, ap, ◌∙◌}
use Rattle.cpp_types.specs.Typ.{Form, closure, Signature}
use Rattle.cpp_types.specs.declared.classes.At.{At}
use Rattle.elab_make.specs.cpp_tree.declared.faults.ElabFault.{ElabFault}
use Rattle.elab_make.specs.cpp_tree.declared.kinds.TKind.{TKind}
use Rattle.elab_make.specs.cpp_tree.Trees.{Tree, one, typ_in}
use Rattle.elab_make.specs.cpp_tree.Typing.{form_in}
use Rattle.elab_make.specs.elab_ctx.Ctx.{Ctx, Work, Func}
use Rattle.elab_make.specs.elab_ctx.Steps.{Operand, Made, and_then}
use Rattle.elab_make.specs.elab_rules.Values.{valued}
use Rattle.elab_make.specs.elab_rules.Initialising.{func_at, no_function, object_of}
use Rattle.elab_make.specs.elab_rules.Calls.{best_of, called, call_closure, call_value, call_pointer}
use Rattle.elab_call.specs.Callees.{closure_class, closure_called}

-- the function in a place is called with an object
abbrev pub called_at : Ctx → Work → At → (ℕ → TKind) → Tree → List Operand → ℕ → Result Made ElabFault
called_at c w at kind object os i = called c w at (kind i) (func_at c.funcs i).declared.signature (one object) os

pub called_in_place : (c : Ctx) (w v : Work) (at : At) (kind : ℕ → TKind) (k : TKind) (sig : Signature) (object o : Tree) (os us : List Operand) (i : ℕ)
    (f : Func) → slice_get c.funcs i ≡ Some f → k ≡ kind i → sig ≡ f.declared.signature → o ≡ object → us ≡ os → v ≡ w
    → called_at c w at kind object os i ≡ called c v at k sig (one o) us
called_in_place c w v at kind k sig object o os us i f s m g t e h =
    ap (λ (z : Option Func). called c w at (kind i) (unwrap_or z no_function).declared.signature (one object) os) s
    ∙ ap (λ (z : TKind). called c w at z f.declared.signature (one object) os) (sym m)
    ∙ ap (λ (z : Signature). called c w at k z (one object) os) (sym g)
    ∙ ap (λ (z : Tree). called c w at k sig (one z) os) (sym t)
    ∙ ap (λ (z : List Operand). called c w at k sig (one o) z) (sym e)
    ∙ ap (λ (z : Work). called c z at k sig (one o) us) (sym h)

abbrev pub chosen_called : Ctx → Work → At → (ℕ → TKind) → Tree → List Operand → List ℕ → List Operand → Result Made ElabFault
chosen_called c w at kind object os places args = and_then (best_of c at places args) (called_at c w at kind object os)

pub chosen_is : (c : Ctx) (w : Work) (at : At) (kind : ℕ → TKind) (object : Tree) (os : List Operand) (places ps : List ℕ) (args as_ : List Operand) (i : ℕ)
    → ps ≡ places → as_ ≡ args → best_of c at ps as_ ≡ Ok i → chosen_called c w at kind object os places args ≡ called_at c w at kind object os i
chosen_is c w at kind object os places ps args as_ i p a b =
    ap (λ (z : List ℕ). chosen_called c w at kind object os z args) (sym p)
    ∙ ap (λ (z : List Operand). chosen_called c w at kind object os ps z) (sym a)
    ∙ ap (λ (z : Result ℕ ElabFault). and_then z (called_at c w at kind object os)) b

-- a lambda's object, made first
pub closure_is : (c : Ctx) (w v : Work) (at : At) (n : ℕ) (callee o : Operand) (os us : List Operand)
    → o ≡ record { tree = (object_of c w callee.at callee.tree).tree; at = callee.at; zero = false } → us ≡ os → v ≡ (object_of c w callee.at callee.tree).work
    → call_closure c w at n callee os ≡ closure_called c v at n o us
closure_is c w v at n callee o os us t e h =
    ap (λ (z : Operand). closure_called c (object_of c w callee.at callee.tree).work at n z os) (sym t)
    ∙ ap (λ (z : List Operand). closure_called c (object_of c w callee.at callee.tree).work at n o z) (sym e)
    ∙ ap (λ (z : Work). closure_called c z at n o us) (sym h)

-- a value that is no lambda's object
not_closure : (c : Ctx) (w : Work) (at : At) (f : Form) (callee : Operand) (os : List Operand) → closure_class f ≡ None
    → call_value c w at f callee os ≡ call_pointer c w at (form_in (typ_in (valued callee.at callee.tree))) (valued callee.at callee.tree) os
not_closure c w at (closure n) callee os e = absurd cc
not_closure c w at f callee os e = refl

pub value_called : (c : Ctx) (w : Work) (at : At) (f : Form) (callee : Operand) (v : Tree) (os us : List Operand) → closure_class f ≡ None
    → v ≡ valued callee.at callee.tree → us ≡ os → call_value c w at f callee os ≡ call_pointer c w at (form_in (typ_in v)) v us
value_called c w at f callee v os us h g e =
    not_closure c w at f callee os h
    ∙ ap (λ (z : Tree). call_pointer c w at (form_in (typ_in z)) z os) (sym g)
    ∙ ap (λ (z : List Operand). call_pointer c w at (form_in (typ_in v)) v z) (sym e)
