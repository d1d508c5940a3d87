-- The bodies of implicit members, for those to which something refers (C++14 12.1 p5, 12.4 p6, 12.8 p13 to p15).
use Rattle.std.specs.Prelude.{ℕ, zero, suc, ◌==◌, Bool, false, ◌&&◌, ◌||◌, List, [], ◌∷◌, length, Option, Some, None, Result, Ok, if◌then◌else◌, slice_get}
use Rattle.std.specs.List.{list_any}
use Rattle.elab_ctx.specs.cpp_types.Typ.{Typ, typ, ref, class, Typs, none as no_typs, more as and_typ}
use Rattle.elab_ctx.specs.cpp_types.Class.{Member}
use Rattle.elab_ctx.specs.cpp_types.declared.classes.At.{At}
use Rattle.elab_ctx.specs.cpp_types.declared.ranks.Cat.TheVariants.{Prvalue}
use Rattle.elab_ctx.specs.cpp_tree.declared.kinds.TKind.{TKind}
use Rattle.elab_ctx.specs.cpp_tree.declared.kinds.TKind.TheVariants as forms
use Rattle.elab_ctx.specs.cpp_tree.declared.program.FuncKind.{FuncKind}
use Rattle.elab_ctx.specs.cpp_tree.declared.program.FuncKind.TheVariants.{Destructor}
use Rattle.elab_ctx.specs.cpp_tree.declared.faults.ElabFault.{ElabFault}
use Rattle.elab_ctx.specs.cpp_tree.Trees.{Tree, node, Trees, none, more, one, two}
use Rattle.elab_ctx.specs.cpp_tree.Units.{SlotFunc}
use Rattle.elab_ctx.specs.cpp_tree.Notation.{plain}
use Rattle.elab_ctx.specs.cpp_tree.Typing.{is_class_typ, qualified}
use Rattle.elab_ctx.specs.Ctx.{Ctx, Func, with_item}
use Rattle.elab_ctx.specs.Steps.{and_then, Operand, Made}
use Rattle.elab_rules.specs.Values.{part_at, stored, valued}
use Rattle.elab_rules.specs.Objects.{followed_by, is_array}
use Rattle.elab_rules.specs.Initialising.{class_from, as_source, func_at, signature_parameters, same_number, closure_part}
use Rattle.elab_rules.specs.Names.{held_by, members_in, offset_at}
use Rattle.elab_rules.specs.Calls.{pointer_offset, base_of_class, index_in_class}
use Rattle.elab_rules.specs.Statements.{Body, State, Done, with_work}
use Rattle.elab_rules.specs.Functions.{body_made}
use Rattle.elab_rules.specs.Members.{as_base_of, in_object, own_part, own_base, part_init, pointer_stored, parts_built, constructor_tree, destructor_tree}

-- What a unit refers to

abbrev pub names_function : ℕ → TKind → Bool
names_function k (forms.Function f) = f == k
names_function k (forms.Call f) = f == k
names_function k (forms.VirtualCall f n slot pointer) = f == k
names_function k (forms.Construct f) = f == k
names_function k (forms.CopyConstruct f) = f == k
names_function k (forms.Destroy f offset count stride) = f == k
names_function k kind = false

abbrev mutual
  pub refers : ℕ → Tree → Bool
  refers k (node kind t cat at kids) = names_function k kind || any_refers k kids

  pub any_refers : ℕ → Trees → Bool
  any_refers k none = false
  any_refers k (more t ts) = refers k t || any_refers k ts

abbrev pub is_in_slot : Option ℕ → ℕ → List (List SlotFunc) → Bool
is_in_slot n i slots = list_any (λ (xs : List SlotFunc). list_any (λ (x : SlotFunc). same_number x.class n && x.func == i) xs) slots

abbrev pub index_of : Ctx → ℕ → Option ℕ → ℕ
index_of c k (Some n) = index_in_class n k c.funcs
index_of c k None = 0

abbrev pub is_referred : State → ℕ → Bool
is_referred st k = list_any (λ (b : Body). refers k b.tree) st.bodies
    || is_in_slot (func_at st.ctx.funcs k).class (index_of st.ctx k (func_at st.ctx.funcs k).class) st.ctx.slots

-- The copy: each part from that of the object that is copied

abbrev pub source_object : ℕ → Typ → At → Tree
source_object n (typ (ref (typ f c v)) d w) at = held_by (typ f c v) (typ (ref (typ f c v)) d w) at 1
source_object n t at = held_by t t at 1

abbrev pub source_const : Typ → Bool
source_const (typ (ref (typ f c v)) d w) = c
source_const t = false

abbrev pub own_operand : At → Tree → Operand
own_operand at e = record { tree = e; at = at; zero = false }

abbrev pub made : State → Tree → Made
made st e = record { tree = e; work = st.work }

abbrev pub part_copied : State → At → Typ → Tree → Result Made ElabFault
part_copied st at t e = if is_array t then Ok (made st
    (node forms.CopyFrom t Prvalue at (two e (closure_part st.ctx at (record { offset = 0; typ = t }))))) else (
    if is_class_typ t then class_from st.ctx st.work t at (own_operand at e) else Ok (made st (stored at t (valued at e))))

abbrev pub part_of_source : Ctx → ℕ → At → Tree → Bool → ℕ → Typ → Tree
part_of_source c n at source is_const i t = part_at (offset_at c.classes n i) (qualified is_const false t) at source

abbrev pub part_done : State → At → Typ → Tree → Made → Done
part_done st at t object m = record { trees = one (part_init st.ctx at at t object m.tree); state = with_work st m.work }

abbrev pub members_copied : At → ℕ → Tree → Bool → State → ℕ → List Member → Result Done ElabFault
members_copied at n source is_const st i [] = Ok (record { trees = none; state = st })
members_copied at n source is_const st i (m ∷ ms) = and_then (part_copied st at m.typ (part_of_source st.ctx n at source is_const i m.typ))
    (λ (x : Made). and_then (members_copied at n source is_const (with_work st x.work) (suc i) ms) (λ (d : Done).
    Ok (record {
      trees = more (part_init st.ctx at at m.typ (own_part st.ctx.classes n at (offset_at st.ctx.classes n i) m.typ) x.tree) d.trees;
      state =
          d.state;
    })))

-- the base from that of the object that is copied, whatever else its class is copied from (12.8 p15)
abbrev pub base_copied : State → At → ℕ → Tree → Option ℕ → Result Done ElabFault
base_copied st at n source None = Ok (record { trees = none; state = st })
base_copied st at n source (Some b) = and_then (class_from (as_base_of st.ctx b) st.work (plain (class b)) at (own_operand at (as_source at b source)))
    (λ (m : Made). Ok (part_done st at (plain (class b)) (own_base n at b) m))

abbrev pub parts_copied : State → At → ℕ → Tree → Bool → Result Done ElabFault
parts_copied st at n source is_const = and_then (base_copied st at n source (base_of_class (slice_get st.ctx.classes n)))
    (λ (b : Done). and_then (members_copied at n source is_const b.state 0 (members_in (slice_get st.ctx.classes n))) (λ (d : Done).
    Ok (record { trees = followed_by b.trees (followed_by (pointer_stored at n (pointer_offset st.ctx.classes n)) d.trees); state = d.state })))

abbrev pub with_source : State → Typ → State
with_source st t = record st { work = with_item st.work t }

-- Bodies, at the name of the class

abbrev pub constructor_made : State → At → ℕ → Done → Result State ElabFault
constructor_made before at k d = body_made before at k (constructor_tree at d.trees none) d.state

abbrev pub constructor_implied : State → At → ℕ → ℕ → Typs → Result State ElabFault
constructor_implied st at k n (and_typ t ps) = and_then (parts_copied (with_source (in_object st n) t) at n (source_object n t at) (source_const t))
    (λ (d : Done). constructor_made st at k d)
constructor_implied st at k n no_typs = and_then (parts_built (in_object st n) at n []) (λ (d : Done). constructor_made st at k d)

abbrev pub body_implied : State → At → ℕ → ℕ → FuncKind → Typs → Result State ElabFault
body_implied st at k n Destructor ps = body_made st at k (destructor_tree st.ctx at at n none) (in_object st n)
body_implied st at k n kind ps = constructor_implied st at k n ps

abbrev pub implied_of : State → ℕ → Func → Option ℕ → Result State ElabFault
implied_of st k f (Some n) = body_implied st f.declared.at k n f.kind (signature_parameters f.declared.signature)
implied_of st k f None = Ok st

abbrev pub implied : State → ℕ → Result State ElabFault
implied st k = if (func_at st.ctx.funcs k).implicit && is_referred st k then implied_of st k (func_at st.ctx.funcs k) (func_at st.ctx.funcs k).class else Ok st

-- from the last function back: an implicit member refers only to functions before it and to itself
abbrev pub implied_below : State → ℕ → Result State ElabFault
implied_below st zero = Ok st
implied_below st (suc k) = and_then (implied st k) (λ (x : State). implied_below x k)

abbrev pub with_implied : State → Result State ElabFault
with_implied st = implied_below st (length st.ctx.funcs)
