-- What a destructor does, part by part.
use Rattle.std.specs.Prelude.{ℕ, slice_get}
use Rattle.cpp_types.specs.Typ.{Typ}
use Rattle.cpp_types.specs.declared.classes.At.{At}
use Rattle.elab_entry.specs.cpp_tree.declared.kinds.TKind.TheVariants as forms
use Rattle.elab_entry.specs.cpp_tree.Trees.{Tree, Trees, more, one}
use Rattle.elab_entry.specs.elab_ctx.Ctx.{Ctx}
use Rattle.elab_entry.specs.elab_rules.Values.{part_at}
use Rattle.elab_entry.specs.elab_rules.Names.{this_pointer, members_in, offset_at}
use Rattle.elab_entry.specs.elab_rules.Objects.{destroys, followed_by}
use Rattle.elab_entry.specs.elab_rules.Calls.{pointer_offset, base_of_class}
use Rattle.elab_entry.specs.elab_rules.Statements.{statement}
use Rattle.elab_entry.specs.elab_rules.Members.{own_this, own_part, deferred_if, base_deferred, members_deferred, pointer_stored}

-- a part with its destructions
abbrev pub deferred : At → Tree → Trees → Trees
deferred at object ends = one (statement forms.Defer at (more object ends))

-- a part of the object, at an offset
abbrev pub part_tree : ℕ → At → ℕ → Typ → Tree
part_tree n at offset t = part_at offset t at (this_pointer at (own_this n))

-- what is to be done for a member, if that is anything
abbrev pub member_deferred : Ctx → At → ℕ → ℕ → Typ → Trees
member_deferred c at n i t = deferred_if at (own_part c.classes n at (offset_at c.classes n i) t) (destroys c at t)

-- the class pointer, and what is to be done for all parts
abbrev pub parts_ended : Ctx → At → ℕ → Trees
parts_ended c at n = followed_by (followed_by (pointer_stored at n (pointer_offset c.classes n)) (base_deferred c at n (base_of_class (slice_get c.classes n))))
    (members_deferred c at n 0 (members_in (slice_get c.classes n)))
