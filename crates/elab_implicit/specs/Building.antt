-- What a constructor does to the parts of its object, part by part, over what is known and what is made.
use Rattle.std.specs.Prelude.{ℕ, false, Option, Some, None, Result, Ok, slice_get}
use Rattle.cpp_types.specs.Typ.{Typ, class}
use Rattle.cpp_types.specs.declared.classes.At.{At}
use Rattle.elab_entry.specs.cpp_tree.declared.faults.ElabFault.{ElabFault}
use Rattle.elab_entry.specs.cpp_tree.Trees.{Tree, node, Trees, none, one, two}
use Rattle.elab_entry.specs.cpp_tree.declared.kinds.TKind.TheVariants as forms
use Rattle.cpp_types.specs.declared.ranks.Cat.TheVariants.{Lvalue, Prvalue}
use Rattle.elab_entry.specs.tx_ints.declared.kinds.IntKind.TheVariants.{ULong}
use Rattle.elab_entry.specs.elab_rules.Values.{size_type, part_at}
use Rattle.elab_entry.specs.cpp_tree.Notation.{plain}
use Rattle.elab_entry.specs.elab_ctx.Ctx.{Ctx, Work, Default}
use Rattle.elab_entry.specs.elab_ctx.Steps.{and_then, Made}
use Rattle.elab_entry.specs.elab_rules.Names.{this_pointer, offset_at}
use Rattle.elab_entry.specs.elab_rules.Objects.{followed_by}
use Rattle.elab_entry.specs.elab_rules.Calls.{pointer_offset, base_of_class}
use Rattle.elab_entry.specs.elab_rules.Braces.{default_at, default_whole}
use Rattle.elab_entry.specs.elab_rules.Statements.{default_object}
use Rattle.elab_entry.specs.elab_rules.Members.{Given, as_base_of, own_this, own_part, own_base, part_init, pointer_stored}

-- the table of a class
abbrev pub table_tree : At → ℕ → Tree
table_tree at n = node (forms.ClassTable n) size_type Prvalue at none

-- a word is assigned to an object
abbrev pub assigned : At → Tree → Tree → Tree
assigned at object e = node (forms.Assign ULong false) size_type Lvalue at (two object e)

-- the class pointer at an offset points to the table of the class
abbrev pub stored_tree : At → ℕ → ℕ → Tree
stored_tree at n offset = assigned at (part_at offset size_type at (this_pointer at (own_this n))) (table_tree at n)

-- the base of a number with its initialiser
abbrev pub base_init : Ctx → At → At → ℕ → ℕ → Tree → Tree
base_init c at p n b e = part_init c at p (plain (class b)) (own_base n p b) e

-- a member with its initialiser
abbrev pub member_init : Ctx → At → At → ℕ → ℕ → Typ → Tree → Tree
member_init c at p n i t e = part_init c at p t (own_part c.classes n p (offset_at c.classes n i) t) e

-- the base from nothing
abbrev pub base_default : Ctx → At → ℕ → ℕ → Result Tree ElabFault
base_default c at n b = and_then (default_object (as_base_of c b) (plain (class b)) at) (λ (e : Tree). Ok (base_init c at at n b e))

-- the base by what is written for it, or from nothing
abbrev pub base_tree : Ctx → At → ℕ → ℕ → Option Given → Result Tree ElabFault
base_tree c at n b (Some g) = Ok (base_init c at g.at n b g.tree)
base_tree c at n b None = base_default c at n b

abbrev pub base_trees : Ctx → At → ℕ → Option ℕ → Option Given → Result Trees ElabFault
base_trees c at n (Some b) g = and_then (base_tree c at n b g) (λ (t : Tree). Ok (one t))
base_trees c at n None g = Ok none

-- the base, then the class pointer
abbrev pub first_trees : Ctx → At → ℕ → Option Given → Result Trees ElabFault
first_trees c at n g = and_then (base_trees c at n (base_of_class (slice_get c.classes n)) g)
    (λ (ts : Trees). Ok (followed_by ts (pointer_stored at n (pointer_offset c.classes n))))

-- a member by its own initialiser, or from nothing
abbrev pub default_tree : Ctx → Work → At → ℕ → Typ → Option Default → Result Made ElabFault
default_tree c w at n t (Some d) = Ok (default_whole w (λ p. this_pointer p (own_this n)) d)
default_tree c w at n t None = and_then (default_object c t at) (λ (e : Tree). Ok (record { tree = e; work = w }))

abbrev pub member_default : Ctx → Work → At → ℕ → ℕ → Typ → Result Made ElabFault
member_default c w at n i t = and_then (default_tree c w at n t (default_at n i c.defaults))
    (λ (m : Made). Ok (record { tree = member_init c at at n i t m.tree; work = m.work }))
