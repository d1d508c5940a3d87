-- A table of the functions that trees name and that stand in slots.
use Rattle.std.specs.Prelude.{ℕ, Bool, true, false, List, Option, Some, None, fold, slice_get, slice_set, replicate}
use Rattle.elab_entry.specs.cpp_tree.declared.kinds.TKind.{TKind}
use Rattle.elab_entry.specs.cpp_tree.declared.kinds.TKind.TheVariants as forms
use Rattle.elab_entry.specs.cpp_tree.Trees.{Tree, node, Trees, none, more}
use Rattle.elab_entry.specs.cpp_tree.Units.{SlotFunc}
use Rattle.elab_entry.specs.elab_ctx.declared.env.FuncDecl.{FuncDecl}
use Rattle.elab_entry.specs.elab_ctx.Places.{places_where, is_member_of}
use Rattle.elab_entry.specs.elab_rules.Statements.{Body}

-- the function that a node names is marked
abbrev pub marked_kind : TKind → List Bool → List Bool
marked_kind (forms.Function f) ms = slice_set ms f true
marked_kind (forms.Call f) ms = slice_set ms f true
marked_kind (forms.VirtualCall f n slot pointer) ms = slice_set ms f true
marked_kind (forms.Construct f) ms = slice_set ms f true
marked_kind (forms.CopyConstruct f) ms = slice_set ms f true
marked_kind (forms.Destroy f offset count stride) ms = slice_set ms f true
marked_kind kind ms = ms

abbrev mutual
  pub marked : Tree → List Bool → List Bool
  marked (node kind t cat at kids) ms = all_marked kids (marked_kind kind ms)

  pub all_marked : Trees → List Bool → List Bool
  all_marked none ms = ms
  all_marked (more t ts) ms = all_marked ts (marked t ms)

abbrev pub with_marks : List Bool → Body → List Bool
with_marks ms b = marked b.tree ms

-- those that bodies name
abbrev pub body_marks : List Body → List Bool → List Bool
body_marks bodies ms = fold with_marks ms bodies

-- the table of so many functions says which of them bodies name
abbrev pub table_of : ℕ → List Body → List Bool
table_of count bodies = body_marks bodies (replicate count false)

-- the function at a place is marked
abbrev pub place_marked : Option ℕ → List Bool → List Bool
place_marked (Some k) ms = slice_set ms k true
place_marked None ms = ms

-- the function in a slot: the one with an index among those of a class
abbrev pub slot_marked : List FuncDecl → List Bool → SlotFunc → List Bool
slot_marked fs ms x = place_marked (slice_get (places_where (is_member_of x.class) 0 fs) x.func) ms

abbrev pub slots_marked : List FuncDecl → List Bool → List SlotFunc → List Bool
slots_marked fs ms xs = fold (slot_marked fs) ms xs

-- those in the slots of all classes
abbrev pub all_slots_marked : List FuncDecl → List Bool → List (List SlotFunc) → List Bool
all_slots_marked fs ms slots = fold (slots_marked fs) ms slots
