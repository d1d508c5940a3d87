-- Trees in another list, the same or without the types of objects.
use Rattle.std.proofs.Common.{◌≡◌, ◌<◌, ◌≤◌, ℕ, true, false, ◌+◌, List, [], ◌∷◌, ◌++◌, length, drop, get_or, Result, IfOk, refl, sym, ◌∙◌, ap}
use Rattle.std.specs.declared.alloc.AllocError.{AllocError}
use Rattle.cpp_types.specs.Typ.{Typ}
use Rattle.cpp_types.specs.declared.classes.At.{At}
use Rattle.cpp_types.specs.declared.ranks.Cat.{Cat}
use Rattle.elab_stmt.specs.cpp_tree.declared.kinds.TKind.{TKind}
use Rattle.elab_stmt.specs.cpp_tree.declared.kinds.TKind.TheVariants.{Literal}
use Rattle.elab_stmt.specs.cpp_tree.declared.arena.TNodeId.{TNodeId}
use Rattle.elab_stmt.specs.cpp_tree.Trees.{Tree, node, Trees, more, kind_of, typ_in, cat_of, kids_of}
use Rattle.elab_stmt.specs.cpp_tree.Arena.{tree_at, trees_at, Adds}
use Rattle.elab_stmt.specs.elab_ctx.Says.{place_in, AddsAll}
use Rattle.elab_stmt.proofs.elab_ctx.Looks.{grows_refl}
use Rattle.elab_stmt.proofs.elab_ctx.Making.{last_adds}
use Rattle.elab_stmt.proofs.elab_init.Listing.{Adding, adding_one, adding_done, drop_step, drop_past}
use Rattle.elab_stmt.specs.elab_rules.Functions.{void_at, untyped, all_untyped}
use Rattle.elab_entry.specs.Ends.{is_literal}

node_is : (t : Tree) → t ≡ node (kind_of t) (typ_in t) (cat_of t) (place_in t) (kids_of t)
node_is (node kind t cat at kids) = refl

same_parts : (tree : Tree) (kind : TKind) (t : Typ) (cat : Cat) (at : At) (kids : Trees) → kind_of tree ≡ kind → typ_in tree ≡ t → cat_of tree ≡ cat
    → place_in tree ≡ at → kids_of tree ≡ kids → tree ≡ node kind t cat at kids
same_parts tree kind t cat at kids k y c p h = node_is tree ∙ rw (k, y, c, p, h) refl

pub node_copied : (tree : Tree) (kind : TKind) (t : Typ) (cat : Cat) (at : At) (kids : Trees) (a b d : List Tree) (ids : List TNodeId)
    (r : Result TNodeId AllocError) → kind_of tree ≡ kind → typ_in tree ≡ t → cat_of tree ≡ cat → place_in tree ≡ at → kids_of tree ≡ kids
    → AddsAll a b ids kids → IfOk r (λ (id : TNodeId). Adds b d id (node kind t cat at (trees_at b ids))) → IfOk r (λ (id : TNodeId). Adds a d id tree)
node_copied tree kind t cat at kids a b d ids r k y c p h all m =
    last_adds a b d r _ _ all.grows (ap (λ (z : Trees). node kind t cat at z) all.are ∙ sym (same_parts tree kind t cat at kids k y c p h)) m

kids_next : (from : List Tree) (ids : List TNodeId) (i : ℕ) (id d : TNodeId) → i < length ids → id ≡ get_or ids i d
    → trees_at from (drop i ids) ≡ more (tree_at from id) (trees_at from (drop (i + 1) ids))
kids_next from ids i id d h e = rw (drop_step ids i d h) (rw e refl)

pub kid_copied : (from : List Tree) (ids : List TNodeId) (i : ℕ) (id d : TNodeId) (old now new : List Tree) (kept next : List TNodeId) (r : TNodeId)
    → Adding old now kept (trees_at from (drop i ids)) (trees_at from ids) → i < length ids → id ≡ get_or ids i d → Adds now new r (tree_at from id)
    → next ≡ kept ++ r ∷ [] → Adding old new next (trees_at from (drop (i + 1) ids)) (trees_at from ids)
kid_copied from ids i id d old now new kept next r a h e q n = adding_one old now new kept next r _ _ _ _ a (kids_next from ids i id d h e) q n

pub kids_copied : (from : List Tree) (ids : List TNodeId) (i : ℕ) (old now : List Tree) (kept : List TNodeId)
    → Adding old now kept (trees_at from (drop i ids)) (trees_at from ids) → length ids ≤ i → AddsAll old now kept (trees_at from ids)
kids_copied from ids i old now kept a h = adding_done old now kept _ _ a (rw (drop_past ids i h) refl)

-- Without types

untyped_is : (kind : TKind) (t : Typ) (cat : Cat) (at : At) (kids : Trees) → is_literal kind ≡ false
    → untyped (node kind t cat at kids) ≡ void_at kind at (all_untyped kids)
untyped_is (Literal w) t cat at kids n = absurd cc
untyped_is kind t cat at kids n = refl

literal_same : (tree : Tree) → is_literal (kind_of tree) ≡ true → tree ≡ untyped tree
literal_same (node (Literal v) t cat at kids) e = refl
literal_same (node kind t cat at kids) e = absurd cc

pub literal_copied : (tree : Tree) (kind : TKind) (a c : List Tree) (r : Result TNodeId AllocError) → kind_of tree ≡ kind → is_literal kind ≡ true
    → IfOk r (λ (id : TNodeId). Adds a c id tree) → IfOk r (λ (id : TNodeId). Adds a c id (untyped tree))
literal_copied tree kind a c r k e m = last_adds a a c r tree (untyped tree) (grows_refl a) (literal_same tree (ap is_literal k ∙ e)) m

pub node_untyped : (tree : Tree) (kind : TKind) (t : Typ) (cat : Cat) (at : At) (kids : Trees) (a b d : List Tree) (ids : List TNodeId)
    (r : Result TNodeId AllocError) → kind_of tree ≡ kind → typ_in tree ≡ t → cat_of tree ≡ cat → place_in tree ≡ at → kids_of tree ≡ kids
    → is_literal kind ≡ false → AddsAll a b ids (all_untyped kids) → IfOk r (λ (id : TNodeId). Adds b d id (void_at kind at (trees_at b ids)))
    → IfOk r (λ (id : TNodeId). Adds a d id (untyped tree))
node_untyped tree kind t cat at kids a b d ids r k y c p h n all m =
    last_adds a b d r _ _ all.grows (ap (λ (z : Trees). void_at kind at z) all.are ∙ sym
    (ap untyped (same_parts tree kind t cat at kids k y c p h) ∙ untyped_is kind t cat at kids n)) m

untyped_next : (from : List Tree) (ids : List TNodeId) (i : ℕ) (id d : TNodeId) → i < length ids → id ≡ get_or ids i d
    → all_untyped (trees_at from (drop i ids)) ≡ more (untyped (tree_at from id)) (all_untyped (trees_at from (drop (i + 1) ids)))
untyped_next from ids i id d h e = rw (drop_step ids i d h) (rw e refl)

pub kid_untyped : (from : List Tree) (ids : List TNodeId) (i : ℕ) (id d : TNodeId) (old now new : List Tree) (kept next : List TNodeId) (r : TNodeId)
    → Adding old now kept (all_untyped (trees_at from (drop i ids))) (all_untyped (trees_at from ids)) → i < length ids → id ≡ get_or ids i d
    → Adds now new r (untyped (tree_at from id)) → next ≡ kept ++ r ∷ []
    → Adding old new next (all_untyped (trees_at from (drop (i + 1) ids))) (all_untyped (trees_at from ids))
kid_untyped from ids i id d old now new kept next r a h e q n = adding_one old now new kept next r _ _ _ _ a (untyped_next from ids i id d h e) q n

pub kids_untyped : (from : List Tree) (ids : List TNodeId) (i : ℕ) (old now : List Tree) (kept : List TNodeId)
    → Adding old now kept (all_untyped (trees_at from (drop i ids))) (all_untyped (trees_at from ids)) → length ids ≤ i
    → AddsAll old now kept (all_untyped (trees_at from ids))
kids_untyped from ids i old now kept a h = adding_done old now kept _ _ a (rw (drop_past ids i h) refl)
