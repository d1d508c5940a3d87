-- What is called.
use Rattle.std.specs.Prelude.{ℕ, nat_lt, Bool, true, List, [], ◌∷◌, Option, Some, None, Result}
use Rattle.cpp_types.specs.Typ.{Typ, typ, Form, ptr, func, closure, Signature}
use Rattle.cpp_types.specs.declared.classes.At.{At}
use Rattle.cpp_types.specs.declared.ranks.Cat.TheVariants.{Prvalue}
use Rattle.elab_make.specs.cpp_tree.declared.kinds.TKind.TheVariants.{CopyFrom, Call}
use Rattle.elab_make.specs.cpp_tree.declared.kinds.Builtin.{Builtin}
use Rattle.elab_make.specs.cpp_tree.declared.faults.ElabFault.{ElabFault}
use Rattle.elab_make.specs.cpp_tree.declared.arena.TNodeId.{TNodeId}
use Rattle.elab_make.specs.cpp_tree.Trees.{Tree, node, Trees, none, more, one, two, typ_in, kids_of}
use Rattle.elab_make.specs.cpp_tree.Arena.{tree_at}
use Rattle.elab_make.specs.cpp_tree.Typing.{form_in, kind_in, unqualified}
use Rattle.elab_make.specs.elab_ctx.Ctx.{Ctx, Work}
use Rattle.elab_make.specs.elab_ctx.Steps.{Operand, Made, and_then}
use Rattle.elab_make.specs.elab_rules.Objects.{copies}
use Rattle.elab_make.specs.elab_rules.Initialising.{func_at, places_from}
use Rattle.elab_make.specs.elab_rules.Calls.{best_of, called, is_closure_call, call_free, call_method, call_get, call_abort, call_value, loaded_value}
use Rattle.elab_names.specs.declared.resolving.Callee.{Callee}
use Rattle.elab_names.specs.declared.resolving.Callee.TheVariants.{Functions, Get, Known}
use Rattle.elab_names.specs.Callees.{callee_at}
use Rattle.elab_call.specs.declared.callees.Kids.{Kids}
use Rattle.elab_call.specs.declared.callees.Kids.TheVariants.{None as NoKids, One, Several}
use Rattle.elab_call.specs.declared.callees.CalleeForm.{CalleeForm}
use Rattle.elab_call.specs.declared.callees.CalleeForm.TheVariants as form

pub data Called : Type 0 where
  free : ℕ → Called
  method : ℕ → Tree → Called
  get : Tree → Called
  known : Builtin → Called
  value : Called

abbrev pub called_by : Callee → Trees → Called
called_by (Functions k) none = free k
called_by (Functions k) (more object none) = method k object
called_by Get (more e none) = get e
called_by (Known b) none = known b
called_by callee kids = value

abbrev pub callee_form : Tree → Called
callee_form t = called_by (callee_at t) (kids_of t)

-- the same in the code, by the ids of the kids
abbrev pub counted : List TNodeId → Kids
counted [] = NoKids
counted (id ∷ []) = One id
counted ids = Several

abbrev pub form_with : Callee → Kids → CalleeForm
form_with (Functions k) NoKids = form.Free k
form_with (Functions k) (One object) = form.Method k object
form_with Get (One e) = form.Get e
form_with (Known b) NoKids = form.Known b
form_with callee kids = form.Value

abbrev pub form_shown : List Tree → CalleeForm → Called
form_shown trees (form.Free k) = free k
form_shown trees (form.Method k object) = method k (tree_at trees object)
form_shown trees (form.Get e) = get (tree_at trees e)
form_shown trees (form.Known b) = known b
form_shown trees form.Value = value

abbrev pub is_form_within : ℕ → CalleeForm → Bool
is_form_within n (form.Method k object) = nat_lt object.0 n
is_form_within n (form.Get e) = nat_lt e.0 n
is_form_within n f = true

-- a call by what is called
abbrev pub call_by : Ctx → Work → At → Operand → Tree → List Operand → Called → Result Made ElabFault
call_by c w at callee t os (free k) = call_free c w at k os
call_by c w at callee t os (method k object) = call_method c w at k object os
call_by c w at callee t os (get e) = call_get c w at e os
call_by c w at callee t os (known b) = call_abort w at b os
call_by c w at callee t os value = call_value c w at (form_in (typ_in t)) callee os

-- Parts of rows of elab_rules

abbrev pub closure_class : Form → Option ℕ
closure_class (closure n) = Some n
closure_class f = None

-- a call of a lambda's object that stands where it is
abbrev pub closure_called : Ctx → Work → At → ℕ → Operand → List Operand → Result Made ElabFault
closure_called c w at n o os = and_then (best_of c at (places_from (is_closure_call n) 0 c.funcs) (o ∷ os))
    (λ i. called c w at (Call i) (func_at c.funcs i).declared.signature (one o.tree) os)

-- the functions to which a pointer points
abbrev pub function_in : Form → Option Signature
function_in (ptr (typ (func sig) d v)) = Some sig
function_in f = None

abbrev pub copied_exception : Ctx → At → Tree → Typ → Tree
copied_exception c at e t = node CopyFrom (unqualified t) Prvalue at (two e (copies c.classes at (unqualified t)))

abbrev pub read_exception : At → Tree → Typ → Tree
read_exception at e t = loaded_value at (kind_in (form_in t)) (unqualified t) e
