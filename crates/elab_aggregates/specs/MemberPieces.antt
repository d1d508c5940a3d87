-- Parts of objects for which no item is written, with their destructions.
use Rattle.std.specs.Prelude.{ℕ, List, ◌++◌, map, is_some, Result, Ok, if◌then◌else◌}
use Rattle.elab_make.specs.cpp_types.declared.types.Ty.{Ty}
use Rattle.elab_make.specs.cpp_types.Typ.{Typ, typ_of}
use Rattle.elab_make.specs.cpp_types.declared.classes.At.{At}
use Rattle.elab_make.specs.cpp_tree.declared.faults.ElabFault.{ElabFault}
use Rattle.elab_make.specs.cpp_tree.Trees.{Tree, one}
use Rattle.elab_make.specs.cpp_tree.Typing.{qualified}
use Rattle.elab_make.specs.elab_ctx.Ctx.{Ctx, Work}
use Rattle.elab_make.specs.elab_ctx.Steps.{and_then, Made, MadeAll}
use Rattle.elab_make.specs.elab_rules.Initialising.{from_nothing}
use Rattle.elab_make.specs.elab_rules.Names.{offset_at, is_const_typ, is_volatile_object}
use Rattle.elab_make.specs.elab_rules.Braces.{this_of, default_at, default_member, piece, tree_place}

-- more items of the frame
abbrev pub with_items : Work → List Ty → Work
with_items w ts = record w { frame = w.frame ++ map typ_of ts }

-- a member of a type as part of the object
abbrev pub default_piece : Ctx → Work → At → Tree → Typ → ℕ → ℕ → Typ → Result Made ElabFault
default_piece c w at object t n i u = and_then (default_member c w (is_const_typ t) (is_volatile_object t) (this_of t object) u at (default_at n i c.defaults))
    (λ (x : Made). Ok (record { tree = piece c (offset_at c.classes n i) u (if is_some (default_at n i c.defaults) then tree_place x.tree else at) x.tree; work = x.work }))

abbrev pub member_piece : Ctx → Work → At → Tree → Typ → ℕ → ℕ → Typ → Result Made ElabFault
member_piece c w at object t n i u = default_piece c w at object t n i (qualified (is_const_typ t) (is_volatile_object t) u)

-- a part at an offset from nothing
abbrev pub piece_from_nothing : Ctx → Work → ℕ → Typ → At → Result MadeAll ElabFault
piece_from_nothing c w offset t at = and_then (from_nothing c t at) (λ (x : Tree). Ok (record { trees = one (piece c offset t at x); work = w }))
