-- Objects part by part, and nodes with several kids.
use Rattle.std.proofs.Common.{◌≡◌, ℕ, suc, ◌+◌, ◌<◌, ◌≤◌, Bool, List, [], ◌∷◌, ◌++◌, length, drop, map, refl, sym, ◌∙◌, ap, arith, get_or, Vec, Global}
use Rattle.cpp_types.specs.Typ.{Typ, typ, class, signature, typ_of, typs_of, signature_of}
use Rattle.cpp_types.specs.declared.types.Ty.{Ty}
use Rattle.cpp_types.specs.declared.types.FnTy.{roll-FnTy, out-roll-FnTy}
use Rattle.cpp_types.proofs.Views.{signature_view}
use Rattle.cpp_types.specs.Class.{Class}
use Rattle.cpp_types.specs.declared.classes.At.{At}
use Rattle.cpp_types.specs.declared.ranks.Cat.TheVariants.{Prvalue}
use Rattle.elab_conv.specs.cpp_tree.declared.kinds.TKind.{TKind}
use Rattle.elab_conv.specs.cpp_tree.declared.kinds.TKind.TheVariants.{Pieces, Piece}
use Rattle.elab_conv.specs.cpp_tree.declared.arena.TNodeId.{TNodeId}
use Rattle.elab_conv.specs.cpp_tree.Trees.{Tree, node, Trees, more, one, two}
use Rattle.elab_conv.specs.cpp_tree.Arena.{tree_at, trees_at, Adds}
use Rattle.elab_conv.specs.cpp_tree.Typing.{qualified}
use Rattle.elab_conv.specs.elab_ctx.Says.{AddsAll}
use Rattle.elab_conv.proofs.elab_ctx.Making.{adds_after}
use Rattle.elab_conv.specs.elab_rules.Values.{only_tree}
use Rattle.elab_conv.specs.elab_rules.Objects.{Leaf, whole, class_whole, parts_of}
use Rattle.elab_init.specs.Leaves.{pieces_by}
use Rattle.elab_init.specs.Parts.{part_of}
use Rattle.elab_init.specs.declared.parts.ObjectPart.{ObjectPart}
use Rattle.elab_init.proofs.Listing.{Adding, adding_one, adding_done, drop_step, drop_past}

pub many_trees : (ts : List Tree) (ids : List TNodeId) (t : Tree) → 2 ≤ length ids → only_tree (trees_at ts ids) t ≡ t
many_trees ts [] t h = absurd (omega arith)
many_trees ts (i ∷ []) t h = absurd (omega arith)
many_trees ts (i ∷ j ∷ ids) t h = refl

pub rolled : (ps : Vec Ty Global) (t : Ty) (b : Bool)
    → signature_of (roll-FnTy (record { params = ps; ret = t; safe = b })) ≡ signature (typs_of ps.items) (typ_of t) b
rolled ps t b = signature_view (roll-FnTy (record { params = ps; ret = t; safe = b }))
    ∙ ap (λ z. signature (typs_of z.params.items) (typ_of z.ret) z.safe) (out-roll-FnTy (record { params = ps; ret = t; safe = b }))

pub two_made : (k : TKind) (t u : Typ) (at : At) (a b x y : Tree) → t ≡ u → a ≡ x → b ≡ y → node k t Prvalue at (two a b) ≡ node k u Prvalue at (two x y)
two_made k t u at a b x y e f g = rw (e, f, g) refl

pub class_tree : (depth pred : ℕ) (leaf : Leaf) (classes : List Class) (at : At) (n : ℕ) (c v : Bool) (kids : Trees) (ty : Typ) → depth ≡ suc pred
    → kids ≡ pieces_by pred leaf classes at c v (parts_of classes n) → ty ≡ typ (class n) c v
    → node Pieces ty Prvalue at kids ≡ class_whole depth leaf classes at n c v
class_tree depth pred leaf classes at n c v kids ty h k e = rw (k, e) (ap (λ d. class_whole d leaf classes at n c v) (sym h))

-- the trees of one part and of those behind it
part_next : (depth : ℕ) (leaf : Leaf) (classes : List Class) (at : At) (c v : Bool) (parts : List ObjectPart) (i : ℕ) (p d : ObjectPart) → i < length parts
    → p ≡ get_or parts i d → pieces_by depth leaf classes at c v (map part_of (drop i parts))
    ≡ more (node (Piece p.offset) (qualified c v (typ_of p.ty)) Prvalue at (one (whole (class_whole depth leaf classes at) leaf classes at c v (typ_of p.ty))))
    (pieces_by depth leaf classes at c v (map part_of (drop (i + 1) parts)))
part_next depth leaf classes at c v parts i p d h e = rw (drop_step parts i d h) (rw e refl)

pub piece_added : (depth : ℕ) (leaf : Leaf) (classes : List Class) (at : At) (c v : Bool) (parts : List ObjectPart) (i : ℕ) (p d : ObjectPart)
    (old now mid new : List Tree) (ids next : List TNodeId) (init r : TNodeId)
    → Adding old now ids (pieces_by depth leaf classes at c v (map part_of (drop i parts))) (pieces_by depth leaf classes at c v (map part_of parts))
    → i < length parts → p ≡ get_or parts i d → Adds now mid init (whole (class_whole depth leaf classes at) leaf classes at c v (typ_of p.ty))
    → Adds mid new r (node (Piece p.offset) (qualified c v (typ_of p.ty)) Prvalue at (one (tree_at mid init))) → next ≡ ids ++ r ∷ []
    → Adding old new next (pieces_by depth leaf classes at c v (map part_of (drop (i + 1) parts))) (pieces_by depth leaf classes at c v (map part_of parts))
piece_added depth leaf classes at c v parts i p d old now mid new ids next init r a h e m q n =
    adding_one old now new ids next r _ _ _ _ a (part_next depth leaf classes at c v parts i p d h e)
    (adds_after now mid new r _ _ m.grows (ap (λ z. node (Piece p.offset) (qualified c v (typ_of p.ty)) Prvalue at (one z)) m.is) q) n

pub pieces_done : (depth : ℕ) (leaf : Leaf) (classes : List Class) (at : At) (c v : Bool) (parts : List ObjectPart) (i : ℕ) (old now : List Tree)
    (ids : List TNodeId) → Adding old now ids (pieces_by depth leaf classes at c v (map part_of (drop i parts)))
    (pieces_by depth leaf classes at c v (map part_of parts)) → length parts ≤ i → AddsAll old now ids (pieces_by depth leaf classes at c v (map part_of parts))
pieces_done depth leaf classes at c v parts i old now ids a h = adding_done old now ids _ _ a (rw (drop_past parts i h) refl)
