-- The scalars of objects, one behind the other.
use Rattle.std.proofs.Common.{◌≡◌, ℕ, suc, ◌+◌, ◌<◌, ◌≤◌, List, ◌++◌, length, drop, map, refl, sym, ◌∙◌, ap, get_or, subst, Result, IfOk, Vec, Global}
use Rattle.std.specs.declared.alloc.AllocError.{AllocError}
use Rattle.elab_init.specs.cpp_types.Typ.{Typ, typ, array, typ_of}
use Rattle.elab_init.specs.cpp_layout.Layout.{extent_of}
use Rattle.elab_init.specs.cpp_types.Class.{Class}
use Rattle.elab_init.specs.cpp_types.declared.classes.At.{At}
use Rattle.elab_init.specs.cpp_tree.declared.arena.TNodeId.{TNodeId}
use Rattle.elab_init.specs.cpp_tree.Trees.{Tree, Trees}
use Rattle.elab_init.specs.elab_ctx.Says.{AddsAll}
use Rattle.elab_init.specs.cpp_tree.Typing.{form_in}
use Rattle.elab_init.specs.elab_rules.Objects.{Part, followed_by, class_fields, parts_of}
use Rattle.elab_init.specs.Parts.{part_of}
use Rattle.elab_init.specs.declared.parts.ObjectPart.{ObjectPart}
use Rattle.elab_init.proofs.Listing.{Adding, adding_all, adding_done, drop_step, drop_past}
use Rattle.elab_make.specs.Fields.{fields_at, fields_of, fields_of_each}

-- the scalars of one object more
each_next : (depth : ℕ) (classes : List Class) (at : At) (t : Typ) (here stride left pred : ℕ) → left ≡ suc pred
    → fields_of_each depth classes at t here stride left
    ≡ followed_by (fields_at depth classes at here t) (fields_of_each depth classes at t (here + stride) stride pred)
each_next depth classes at t here stride left pred h = rw h refl

pub object_added : (depth : ℕ) (classes : List Class) (at : At) (t : Typ) (offset here next_here stride count left next_left : ℕ) (old now new : List Tree)
    (ids others next : List TNodeId) → Adding old now ids (fields_of_each depth classes at t here stride left)
    (fields_of_each depth classes at t offset stride count) → left ≡ suc next_left → next_here ≡ here + stride
    → AddsAll now new others (fields_at depth classes at here t) → next ≡ ids ++ others
    → Adding old new next (fields_of_each depth classes at t next_here stride next_left) (fields_of_each depth classes at t offset stride count)
object_added depth classes at t offset here next_here stride count left next_left old now new ids others next a h e m n =
    rw e (adding_all old now new ids others next _ _ _ _ a (each_next depth classes at t here stride left next_left h) m n)

pub objects_done : (depth : ℕ) (classes : List Class) (at : At) (t : Typ) (offset here stride count left : ℕ) (old now : List Tree) (ids : List TNodeId)
    → Adding old now ids (fields_of_each depth classes at t here stride left) (fields_of_each depth classes at t offset stride count) → left ≡ 0
    → AddsAll old now ids (fields_of_each depth classes at t offset stride count)
objects_done depth classes at t offset here stride count left old now ids a h = adding_done old now ids _ _ a (rw h refl)

-- the scalars of one part and of those behind it
part_next : (depth : ℕ) (classes : List Class) (at : At) (offset : ℕ) (parts : List ObjectPart) (i : ℕ) (p d : ObjectPart) → i < length parts
    → p ≡ get_or parts i d → fields_of depth classes at offset (map part_of (drop i parts))
    ≡ followed_by (fields_at depth classes at (offset + p.offset) (typ_of p.ty)) (fields_of depth classes at offset (map part_of (drop (i + 1) parts)))
part_next depth classes at offset parts i p d h e = rw (drop_step parts i d h) (rw e refl)

pub part_added : (depth : ℕ) (classes : List Class) (at : At) (offset here : ℕ) (parts : List ObjectPart) (i : ℕ) (p d : ObjectPart) (old now new : List Tree)
    (ids others next : List TNodeId) → Adding old now ids (fields_of depth classes at offset (map part_of (drop i parts)))
    (fields_of depth classes at offset (map part_of parts)) → i < length parts → p ≡ get_or parts i d → here ≡ offset + p.offset
    → AddsAll now new others (fields_at depth classes at here (typ_of p.ty)) → next ≡ ids ++ others
    → Adding old new next (fields_of depth classes at offset (map part_of (drop (i + 1) parts))) (fields_of depth classes at offset (map part_of parts))
part_added depth classes at offset here parts i p d old now new ids others next a h e g m n =
    adding_all old now new ids others next _ _ _ _ a (part_next depth classes at offset parts i p d h e ∙ ap
    (λ z. followed_by (fields_at depth classes at z (typ_of p.ty)) (fields_of depth classes at offset (map part_of (drop (i + 1) parts)))) (sym g)) m n

pub parts_done : (depth : ℕ) (classes : List Class) (at : At) (offset : ℕ) (parts : List ObjectPart) (i : ℕ) (old now : List Tree) (ids : List TNodeId)
    → Adding old now ids (fields_of depth classes at offset (map part_of (drop i parts))) (fields_of depth classes at offset (map part_of parts))
    → length parts ≤ i → AddsAll old now ids (fields_of depth classes at offset (map part_of parts))
parts_done depth classes at offset parts i old now ids a h = adding_done old now ids _ _ a (rw (drop_past parts i h) refl)

pub if_adds : (a b : List Tree) (r : Result (Vec TNodeId Global) AllocError) (t u : Trees) → t ≡ u
    → IfOk r (λ (ids : Vec TNodeId Global). AddsAll a b ids.items t) → IfOk r (λ (ids : Vec TNodeId Global). AddsAll a b ids.items u)
if_adds a b r t u e h = subst (λ (z : Trees). IfOk r (λ (ids : Vec TNodeId Global). AddsAll a b ids.items z)) e h

pub class_is : (depth pred : ℕ) (classes : List Class) (at : At) (n offset : ℕ) (ps : List Part) → depth ≡ suc pred → ps ≡ parts_of classes n
    → fields_of pred classes at offset ps ≡ class_fields depth classes at n offset
class_is depth pred classes at n offset ps h e = rw (h, e) refl

pub array_is : (depth : ℕ) (classes : List Class) (at : At) (offset : ℕ) (t element : Typ) (count stride : ℕ) → form_in t ≡ array element count
    → stride ≡ (extent_of classes element).size → fields_of_each depth classes at element offset stride count ≡ fields_at depth classes at offset t
array_is depth classes at offset (typ f c v) element count stride h e = rw (h, e) refl
