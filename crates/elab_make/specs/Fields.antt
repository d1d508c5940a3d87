-- The scalars of the parts of an object.
use Rattle.std.specs.Prelude.{ℕ, ◌+◌, List}
use Rattle.elab_init.specs.cpp_types.Typ.{Typ}
use Rattle.elab_init.specs.cpp_types.Class.{Class}
use Rattle.elab_init.specs.cpp_types.declared.classes.At.{At}
use Rattle.elab_init.specs.cpp_tree.Trees.{Trees}
use Rattle.elab_init.specs.elab_rules.Objects.{Part, class_fields, fields_in, fields_of_parts, repeated}

-- of an object at an offset, in which classes nest no deeper than this
abbrev pub fields_at : ℕ → List Class → At → ℕ → Typ → Trees
fields_at depth classes at offset t = fields_in (class_fields depth classes at) classes at offset t

-- of parts of an object that lies at an offset
abbrev pub fields_of : ℕ → List Class → At → ℕ → List Part → Trees
fields_of depth classes at offset parts = fields_of_parts (λ (p : Part). fields_in (class_fields depth classes at) classes at (offset + p.offset) p.typ) parts

-- of so many objects of a type from an offset on
abbrev pub fields_of_each : ℕ → List Class → At → Typ → ℕ → ℕ → ℕ → Trees
fields_of_each depth classes at t offset stride count = repeated (λ o. fields_in (class_fields depth classes at) classes at o t) offset stride count
