-- Trees of default member initialisers by their parts, in another frame.
use Rattle.std.proofs.Common.{◌≡◌, ◌≢◌, ◌<◌, ◌≤◌, ℕ, zero, suc, ◌+◌, Bool, true, false, List, [], ◌∷◌, ◌++◌, length, drop, get_or, nat_lt, Result, IfOk, refl}
use Rattle.std.proofs.Common.{sym, ◌∙◌, ap, subst, arith}
use Rattle.std.proofs.lemmas.Bool.{ltb-true, and_parts}
use Rattle.std.proofs.Math.Dec.{eqb-suc-zero}
use Rattle.std.specs.declared.alloc.AllocError.{AllocError}
use Rattle.elab_make.specs.cpp_types.Typ.{Typ}
use Rattle.elab_make.specs.cpp_types.declared.classes.At.{At}
use Rattle.elab_make.specs.cpp_types.declared.ranks.Cat.{Cat}
use Rattle.elab_make.specs.cpp_types.declared.ranks.Cat.TheVariants.{Prvalue, Lvalue}
use Rattle.elab_make.specs.cpp_tree.declared.kinds.TKind.{TKind}
use Rattle.elab_make.specs.cpp_tree.declared.kinds.TKind.TheVariants.{Local, Load, Materialize, FullExpression}
use Rattle.elab_make.specs.cpp_tree.declared.arena.TNodeId.{TNodeId}
use Rattle.elab_make.specs.cpp_tree.Trees.{Tree, node, Trees, none, more, kind_of, typ_in, cat_of, kids_of}
use Rattle.elab_make.specs.cpp_tree.Arena.{tree_at, trees_at, are_below, Grows, Adds}
use Rattle.elab_make.specs.elab_ctx.Says.{place_in, are_within, AddsAll}
use Rattle.elab_make.proofs.elab_ctx.Looks.{at_grown, within_grown}
use Rattle.elab_make.proofs.elab_ctx.Making.{last_adds}
use Rattle.elab_make.specs.elab_rules.Values.{only_tree}
use Rattle.elab_make.specs.elab_rules.Braces.{ThisAt, this_of, relocated, all_relocated, as_part}
use Rattle.elab_make.proofs.elab_init.Listing.{Adding, adding_one, adding_done, drop_step, drop_past}
use Rattle.elab_aggregates.specs.declared.relocating.Pointed.{Pointed}
use Rattle.elab_aggregates.specs.declared.relocating.Pointed.TheVariants.{Object, Place}
use Rattle.elab_aggregates.specs.Relocated.{is_only_first_item, reads_this, moved_kind, this_at, IsThere}

-- Nodes

pub only_other : (trees : List Tree) (ids : List TNodeId) → length ids ≢ 1 → false ≡ is_only_first_item (trees_at trees ids)
only_other trees [] n = refl
only_other trees (a ∷ []) n = absurd (n refl)
only_other trees (a ∷ (b ∷ ids)) n = refl

abbrev by_parts : ℕ → ThisAt → TKind → Typ → Cat → At → Trees → Bool → Tree
by_parts by this kind t cat at kids true = this at
by_parts by this kind t cat at kids false = node (moved_kind by kind) t cat at (all_relocated by this kids)

relocated_is : (by : ℕ) (this : ThisAt) (kind : TKind) (t : Typ) (cat : Cat) (at : At) (kids : Trees)
    → relocated by this (node kind t cat at kids) ≡ by_parts by this kind t cat at kids (reads_this kind cat kids)
relocated_is by this (Load k true) t Lvalue at kids = refl
relocated_is by this (Load k true) t Prvalue at kids = refl
relocated_is by this (Load k false) t Lvalue at kids = refl
relocated_is by this (Load k false) t Prvalue at none = refl
relocated_is by this (Load k false) t Prvalue at (more (node (Local zero) u c p ks) none) = refl
relocated_is by this (Load k false) t Prvalue at (more (node (Local (suc n)) u c p ks) none) =
    sym (ap (by_parts by this (Load k false) t Prvalue at (more (node (Local (suc n)) u c p ks) none)) (eqb-suc-zero n))
relocated_is by this (Load k false) t Prvalue at (more (node kind u c p ks) none) = refl
relocated_is by this (Load k false) t Prvalue at (more (node (Local zero) u c p ks) (more b ts)) = refl
relocated_is by this (Load k false) t Prvalue at (more (node (Local (suc n)) u c p ks) (more b ts)) = refl
relocated_is by this (Load k false) t Prvalue at (more (node kind u c p ks) (more b ts)) = refl
relocated_is by this (Materialize place argument) t cat at kids = refl
relocated_is by this kind t cat at kids = refl

node_is : (t : Tree) → t ≡ node (kind_of t) (typ_in t) (cat_of t) (place_in t) (kids_of t)
node_is (node kind t cat at kids) = refl

-- as the code finds the parts of a tree
relocated_parts : (by : ℕ) (this : ThisAt) (tree : Tree) (kind : TKind) (t : Typ) (cat : Cat) (at : At) (kids : Trees) (b : Bool) → kind_of tree ≡ kind
    → typ_in tree ≡ t → cat_of tree ≡ cat → place_in tree ≡ at → kids_of tree ≡ kids → b ≡ reads_this kind cat kids
    → by_parts by this kind t cat at kids b ≡ relocated by this tree
relocated_parts by this tree kind t cat at kids b k y c p h e =
    sym (ap (relocated by this) (node_is tree) ∙ rw (k, y, c, p, h) (relocated_is by this kind t cat at kids)
    ∙ ap (by_parts by this kind t cat at kids) (sym e))

adds_same : (old new : List Tree) (r : Result TNodeId AllocError) (t u : Tree) → t ≡ u → IfOk r (λ (id : TNodeId). Adds old new id t)
    → IfOk r (λ (id : TNodeId). Adds old new id u)
adds_same old new r t u e h = subst (λ (z : Tree). IfOk r (λ (id : TNodeId). Adds old new id z)) e h

pub this_read : (by : ℕ) (this : ThisAt) (tree : Tree) (kind : TKind) (t : Typ) (cat : Cat) (at : At) (kids : Trees) (old new : List Tree)
    (r : Result TNodeId AllocError) → kind_of tree ≡ kind → typ_in tree ≡ t → cat_of tree ≡ cat → place_in tree ≡ at → kids_of tree ≡ kids
    → true ≡ reads_this kind cat kids → IfOk r (λ (id : TNodeId). Adds old new id (this at))
    → IfOk r (λ (id : TNodeId). Adds old new id (relocated by this tree))
this_read by this tree kind t cat at kids old new r k y c p h e m =
    adds_same old new r (this at) (relocated by this tree) (relocated_parts by this tree kind t cat at kids true k y c p h e) m

pub node_moved : (by : ℕ) (this : ThisAt) (tree : Tree) (kind : TKind) (t : Typ) (cat : Cat) (at : At) (kids : Trees) (a b d : List Tree) (ids : List TNodeId)
    (r : Result TNodeId AllocError) → kind_of tree ≡ kind → typ_in tree ≡ t → cat_of tree ≡ cat → place_in tree ≡ at → kids_of tree ≡ kids
    → false ≡ reads_this kind cat kids → AddsAll a b ids (all_relocated by this kids)
    → IfOk r (λ (id : TNodeId). Adds b d id (node (moved_kind by kind) t cat at (trees_at b ids)))
    → IfOk r (λ (id : TNodeId). Adds a d id (relocated by this tree))
node_moved by this tree kind t cat at kids a b d ids r k y c p h e all m =
    last_adds a b d r _ _ all.grows (ap (λ (z : Trees). node (moved_kind by kind) t cat at z) all.are
    ∙ relocated_parts by this tree kind t cat at kids false k y c p h e) m

-- Kids

pub there_grown : (old now : List Tree) (p : Pointed) → Grows old now → IsThere (length old) p → IsThere (length now) p
there_grown old now (Object id) g h = within_grown old now id g h
there_grown old now (Place n) g h = tt

this_grown : (old now : List Tree) (t : Typ) (p : Pointed) → Grows old now → IsThere (length old) p → this_at now t p ≡ this_at old t p
this_grown old now t (Object id) g h = ap (this_of t) (at_grown old now id g h)
this_grown old now t (Place n) g h = refl

pub kid_below : (n : ℕ) (ids : List TNodeId) (i : ℕ) (d : TNodeId) → are_below n ids ≡ true → i < length ids → (get_or ids i d).0 < n
kid_below n [] i d w h = absurd (omega arith)
kid_below n (a ∷ ids) zero d w h = ltb-true a.0 n (and_parts (nat_lt a.0 n) (are_below n ids) w).0
kid_below n (a ∷ ids) (suc i) d w h = kid_below n ids i d (and_parts (nat_lt a.0 n) (are_below n ids) w).1 (omega arith)

pub kid_within : (n : ℕ) (ids : List TNodeId) (i : ℕ) (d : TNodeId) → are_within n ids ≡ true → i < length ids → (get_or ids i d).0 < n
kid_within n [] i d w h = absurd (omega arith)
kid_within n (a ∷ ids) zero d w h = ltb-true a.0 n (and_parts (nat_lt a.0 n) (are_within n ids) w).0
kid_within n (a ∷ ids) (suc i) d w h = kid_within n ids i d (and_parts (nat_lt a.0 n) (are_within n ids) w).1 (omega arith)

kids_next : (by : ℕ) (this : ThisAt) (from : List Tree) (ids : List TNodeId) (i : ℕ) (id d : TNodeId) → i < length ids → id ≡ get_or ids i d
    → all_relocated by this (trees_at from (drop i ids)) ≡ more (relocated by this (tree_at from id)) (all_relocated by this (trees_at from (drop (i + 1) ids)))
kids_next by this from ids i id d h e = rw (drop_step ids i d h) (rw e refl)

pub kid_moved : (by : ℕ) (t : Typ) (p : Pointed) (from : List Tree) (ids : List TNodeId) (i : ℕ) (id d : TNodeId) (old now new : List Tree)
    (kept next : List TNodeId) (r : TNodeId) → Adding old now kept (all_relocated by (this_at old t p) (trees_at from (drop i ids)))
    (all_relocated by (this_at old t p) (trees_at from ids)) → IsThere (length old) p → i < length ids → id ≡ get_or ids i d
    → Adds now new r (relocated by (this_at now t p) (tree_at from id)) → next ≡ kept ++ r ∷ []
    → Adding old new next (all_relocated by (this_at old t p) (trees_at from (drop (i + 1) ids))) (all_relocated by (this_at old t p) (trees_at from ids))
kid_moved by t p from ids i id d old now new kept next r a w h e q n =
    adding_one old now new kept next r _ _ _ _ a (kids_next by (this_at old t p) from ids i id d h e)
    (subst (λ (z : ThisAt). Adds now new r (relocated by z (tree_at from id))) (this_grown old now t p a.grows w) q) n

pub kids_moved : (by : ℕ) (this : ThisAt) (from : List Tree) (ids : List TNodeId) (i : ℕ) (old now : List Tree) (kept : List TNodeId)
    → Adding old now kept (all_relocated by this (trees_at from (drop i ids))) (all_relocated by this (trees_at from ids)) → length ids ≤ i
    → AddsAll old now kept (all_relocated by this (trees_at from ids))
kids_moved by this from ids i old now kept a h = adding_done old now kept _ _ a (rw (drop_past ids i h) refl)

-- Parts

part_full : (t : Tree) → kind_of t ≡ FullExpression → only_tree (kids_of t) t ≡ as_part t
part_full (node FullExpression t cat at none) k = refl
part_full (node FullExpression t cat at (more a none)) k = refl
part_full (node FullExpression t cat at (more a (more b ts))) k = refl
part_full (node kind t cat at kids) k = absurd cc

pub part_only : (trees : List Tree) (t : Tree) (r : Result TNodeId AllocError) → kind_of t ≡ FullExpression
    → IfOk r (λ (id : TNodeId). tree_at trees id ≡ only_tree (kids_of t) t) → IfOk r (λ (id : TNodeId). tree_at trees id ≡ as_part t)
part_only trees t r k h = subst (λ (z : Tree). IfOk r (λ (id : TNodeId). tree_at trees id ≡ z)) (part_full t k) h

pub part_itself : (t : Tree) → kind_of t ≢ FullExpression → t ≡ as_part t
part_itself (node FullExpression t cat at kids) n = absurd (n refl)
part_itself (node kind t cat at kids) n = refl
