-- What an implicit copy constructor does, part by part, over what is known and what is made.
use Rattle.std.specs.Prelude.{ℕ, Bool, Result, Ok, if◌then◌else◌, slice_get}
use Rattle.cpp_types.specs.Typ.{Typ, class}
use Rattle.cpp_types.specs.declared.classes.At.{At}
use Rattle.cpp_types.specs.declared.ranks.Cat.TheVariants.{Prvalue}
use Rattle.elab_entry.specs.cpp_tree.declared.faults.ElabFault.{ElabFault}
use Rattle.elab_entry.specs.cpp_tree.declared.kinds.TKind.TheVariants as forms
use Rattle.elab_entry.specs.cpp_tree.Trees.{Tree, node, one, two}
use Rattle.elab_entry.specs.cpp_tree.Notation.{plain}
use Rattle.elab_entry.specs.cpp_tree.Typing.{is_class_typ}
use Rattle.elab_entry.specs.elab_ctx.Ctx.{Ctx, Work}
use Rattle.elab_entry.specs.elab_ctx.Steps.{and_then, Made}
use Rattle.elab_entry.specs.elab_rules.Values.{stored, valued}
use Rattle.elab_entry.specs.elab_rules.Objects.{is_array, followed_by}
use Rattle.elab_entry.specs.elab_rules.Initialising.{class_from, closure_part}
use Rattle.elab_entry.specs.elab_rules.Calls.{pointer_offset, base_of_class}
use Rattle.elab_entry.specs.elab_rules.Statements.{State, Done, done, with_work}
use Rattle.elab_entry.specs.elab_rules.Members.{as_base_of, pointer_stored}
use Rattle.elab_entry.specs.elab_rules.Implicit.{own_operand, part_of_source, part_copied, base_copied}
use Rattle.elab_implicit.specs.Building.{base_init, member_init}

-- an array from the source at hand
abbrev pub array_copied : Ctx → At → Typ → Tree → Tree
array_copied c at t e = node forms.CopyFrom t Prvalue at (two e (closure_part c at (record { offset = 0; typ = t })))

-- a part from that of the source
abbrev pub part_from : Ctx → Work → At → Typ → Tree → Result Made ElabFault
part_from c w at t e = if is_array t then Ok (record { tree = array_copied c at t e; work = w }) else (
    if is_class_typ t then class_from c w t at (own_operand at e) else Ok (record { tree = stored at t (valued at e); work = w }))

-- a member with its initialiser
abbrev pub member_from : Ctx → Work → At → ℕ → Tree → Bool → ℕ → Typ → Result Made ElabFault
member_from c w at n source is_const i t = and_then (part_from c w at t (part_of_source c n at source is_const i t))
    (λ (x : Made). Ok (record { tree = member_init c at at n i t x.tree; work = x.work }))

-- the same, and the state behind it
abbrev pub member_done : State → At → ℕ → Tree → Bool → ℕ → Typ → Result Done ElabFault
member_done st at n source is_const i t = and_then (part_copied st at t (part_of_source st.ctx n at source is_const i t))
    (λ (x : Made). done (one (member_init st.ctx at at n i t x.tree)) (with_work st x.work))

-- the base with its initialiser
abbrev pub base_from : Ctx → Work → At → ℕ → ℕ → Tree → Result Made ElabFault
base_from c w at n b source = and_then (class_from (as_base_of c b) w (plain (class b)) at (own_operand at source))
    (λ (m : Made). Ok (record { tree = base_init c at at n b m.tree; work = m.work }))

-- the base, then the class pointer
abbrev pub first_copied : State → At → ℕ → Tree → Result Done ElabFault
first_copied st at n source = and_then (base_copied st at n source (base_of_class (slice_get st.ctx.classes n)))
    (λ (b : Done). done (followed_by b.trees (pointer_stored at n (pointer_offset st.ctx.classes n))) b.state)
