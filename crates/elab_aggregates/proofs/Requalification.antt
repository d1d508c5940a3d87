-- Initialisers by their parts, in objects with qualifiers.
use Rattle.std.proofs.Common.{◌≡◌, ◌<◌, ◌≤◌, ℕ, suc, ◌+◌, ◌==◌, ◌||◌, Bool, true, false, not, List, [], ◌∷◌, ◌++◌, length, drop, get_or, IfOk, Result}
use Rattle.std.proofs.Common.{refl, sym, ◌∙◌, ap, subst, add-one}
use Rattle.std.proofs.Math.Dec.{eqb-suc-zero}
use Rattle.std.specs.declared.alloc.AllocError.{AllocError}
use Rattle.elab_make.specs.cpp_types.Typ.{Typ, typ, array, ref}
use Rattle.elab_make.specs.cpp_types.declared.classes.At.{At}
use Rattle.elab_make.specs.cpp_types.declared.ranks.Cat.{Cat}
use Rattle.elab_make.specs.cpp_tree.declared.kinds.TKind.{TKind}
use Rattle.elab_make.specs.cpp_tree.declared.kinds.TKind.TheVariants.{Store, CopyScalar, Construct, CopyConstruct, CopyFrom, Pieces, Piece, Elements}
use Rattle.elab_make.specs.cpp_tree.declared.arena.TNodeId.{TNodeId}
use Rattle.elab_make.specs.cpp_tree.Trees.{Tree, node, Trees, none, more, kind_of, typ_in, cat_of, kids_of}
use Rattle.elab_make.specs.cpp_tree.Arena.{tree_at, trees_at, Adds}
use Rattle.elab_make.specs.cpp_tree.Typing.{qualified}
use Rattle.elab_make.specs.elab_ctx.Says.{place_in, are_within, AddsAll}
use Rattle.elab_make.proofs.elab_ctx.Looks.{at_grown, within_grown, grows_refl}
use Rattle.elab_make.proofs.elab_ctx.Making.{last_adds}
use Rattle.elab_make.specs.elab_rules.Braces.{requalified, all_requalified}
use Rattle.elab_make.proofs.elab_init.Listing.{Adding, adding_one, adding_done, drop_step, drop_past}
use Rattle.elab_aggregates.specs.Requalified.{has_qualifiers, marked_kind, is_part, kid_requalified, kids_requalified}
use Rattle.elab_aggregates.proofs.Relocation.{kid_within}

-- Objects without qualifiers

or_false : (b : Bool) → (b || false) ≡ b
or_false true = refl
or_false false = refl

qualified_plain : (t : Typ) → qualified false false t ≡ t
qualified_plain (typ (array t n) d w) = ap (λ (z : Typ). typ (array z n) d w) (qualified_plain t)
qualified_plain (typ (ref t) d w) = refl
qualified_plain (typ f d w) = refl

mutual
  pub requalified_plain : (e : Tree) → requalified false false e ≡ e
  requalified_plain (node (Store kind marked) t cat at kids) = rw (or_false marked, qualified_plain t) refl
  requalified_plain (node (CopyScalar kind marked) t cat at kids) = rw (or_false marked, qualified_plain t) refl
  requalified_plain (node (Construct func) t cat at kids) = rw (qualified_plain t) refl
  requalified_plain (node (CopyConstruct func) t cat at kids) = rw (qualified_plain t) refl
  requalified_plain (node CopyFrom t cat at none) = refl
  requalified_plain (node CopyFrom t cat at (more source kids)) = rw (qualified_plain t, all_plain kids) refl
  requalified_plain (node Pieces t cat at kids) = rw (qualified_plain t, all_plain kids) refl
  requalified_plain (node (Piece offset) t cat at none) = refl
  requalified_plain (node (Piece offset) t cat at (more e destroys)) = rw (qualified_plain t, requalified_plain e) refl
  requalified_plain (node (Elements count stride) t cat at none) = refl
  requalified_plain (node (Elements count stride) t cat at (more e destroys)) = rw (qualified_plain t, requalified_plain e) refl
  requalified_plain (node kind t cat at kids) = refl

  all_plain : (ts : Trees) → all_requalified false false ts ≡ ts
  all_plain none = refl
  all_plain (more t ts) = rw (requalified_plain t, all_plain ts) refl

pub plain_adds : (old : List Tree) (id : TNodeId) (q v : Bool) → q ≡ false → v ≡ false → id.0 < length old
    → Adds old old id (requalified q v (tree_at old id))
plain_adds old id q v e f h = record { grows = grows_refl old; within = h; is = sym (rw (e, f) (requalified_plain (tree_at old id))) }

-- Kids

kids_kept : (q v : Bool) (kind : TKind) (i : ℕ) (ts : Trees) → ((j : ℕ) → is_part kind (suc j) ≡ false) → kids_requalified q v kind (suc i) ts ≡ ts
kids_kept q v kind i none h = refl
kids_kept q v kind i (more t ts) h = rw (h i, kids_kept q v kind (suc i) ts h) refl

none_part : (q v : Bool) (kind : TKind) (ts : Trees) → ((j : ℕ) → is_part kind j ≡ false) → kids_requalified q v kind 0 ts ≡ ts
none_part q v kind none h = refl
none_part q v kind (more t ts) h = rw (h 0, kids_kept q v kind 0 ts (λ j. h (suc j))) refl

all_parts : (q v : Bool) (i : ℕ) (ts : Trees) → kids_requalified q v Pieces i ts ≡ all_requalified q v ts
all_parts q v i none = refl
all_parts q v i (more t ts) = ap (more (requalified q v t)) (all_parts q v (suc i) ts)

copied_parts : (q v : Bool) (i : ℕ) (ts : Trees) → kids_requalified q v CopyFrom (suc i) ts ≡ all_requalified q v ts
copied_parts q v i none = refl
copied_parts q v i (more t ts) = rw (eqb-suc-zero i, copied_parts q v (suc i) ts) refl

-- Nodes

abbrev has_kids : Trees → Bool
has_kids none = false
has_kids (more t ts) = true

kids_counted : (trees : List Tree) (ids : List TNodeId) → has_kids (trees_at trees ids) ≡ not (length ids == 0)
kids_counted trees [] = refl
kids_counted trees (a ∷ ids) = rw (eqb-suc-zero (length ids)) refl

abbrev by_parts : Bool → Bool → TKind → Typ → Cat → At → Trees → Bool → Tree
by_parts q v kind t cat at kids true = node (marked_kind v kind) (qualified q v t) cat at (kids_requalified q v kind 0 kids)
by_parts q v kind t cat at kids false = node kind t cat at kids

requalified_is : (q v : Bool) (kind : TKind) (t : Typ) (cat : Cat) (at : At) (kids : Trees)
    → requalified q v (node kind t cat at kids) ≡ by_parts q v kind t cat at kids (has_qualifiers kind (has_kids kids))
requalified_is q v (Store k marked) t cat at kids =
    ap (node (Store k (marked || v)) (qualified q v t) cat at) (sym (none_part q v (Store k marked) kids (λ j. refl)))
requalified_is q v (CopyScalar k marked) t cat at kids =
    ap (node (CopyScalar k (marked || v)) (qualified q v t) cat at) (sym (none_part q v (CopyScalar k marked) kids (λ j. refl)))
requalified_is q v (Construct func) t cat at kids =
    ap (node (Construct func) (qualified q v t) cat at) (sym (none_part q v (Construct func) kids (λ j. refl)))
requalified_is q v (CopyConstruct func) t cat at kids =
    ap (node (CopyConstruct func) (qualified q v t) cat at) (sym (none_part q v (CopyConstruct func) kids (λ j. refl)))
requalified_is q v CopyFrom t cat at none = refl
requalified_is q v CopyFrom t cat at (more source kids) =
    ap (λ (z : Trees). node CopyFrom (qualified q v t) cat at (more source z)) (sym (copied_parts q v 0 kids))
requalified_is q v Pieces t cat at kids = ap (node Pieces (qualified q v t) cat at) (sym (all_parts q v 0 kids))
requalified_is q v (Piece offset) t cat at none = refl
requalified_is q v (Piece offset) t cat at (more e ends) =
    ap (λ (z : Trees). node (Piece offset) (qualified q v t) cat at (more (requalified q v e) z)) (sym (kids_kept q v (Piece offset) 0 ends eqb-suc-zero))
requalified_is q v (Elements count stride) t cat at none = refl
requalified_is q v (Elements count stride) t cat at (more e ends) =
    ap (λ (z : Trees). node (Elements count stride) (qualified q v t) cat at (more (requalified q v e) z))
    (sym (kids_kept q v (Elements count stride) 0 ends eqb-suc-zero))
requalified_is q v kind t cat at kids = refl

-- as the code finds the parts of a tree
tree_is : (q v : Bool) (tree : Tree) (b : Bool) → b ≡ has_qualifiers (kind_of tree) (has_kids (kids_of tree))
    → requalified q v tree ≡ by_parts q v (kind_of tree) (typ_in tree) (cat_of tree) (place_in tree) (kids_of tree) b
tree_is q v (node kind t cat at kids) b e = rw e (requalified_is q v kind t cat at kids)

as_it_was : (tree : Tree) → node (kind_of tree) (typ_in tree) (cat_of tree) (place_in tree) (kids_of tree) ≡ tree
as_it_was (node kind t cat at kids) = refl

-- by what was read: the kind, and how many kids there are
has_same : (old : List Tree) (id : TNodeId) (kind : TKind) (ids : List TNodeId) (empty b : Bool) → kind_of (tree_at old id) ≡ kind
    → kids_of (tree_at old id) ≡ trees_at old ids → empty ≡ (length ids == 0) → b ≡ has_qualifiers kind (not empty)
    → b ≡ has_qualifiers (kind_of (tree_at old id)) (has_kids (kids_of (tree_at old id)))
has_same old id kind ids empty b k h n e = rw (k, h, kids_counted old ids, sym n) e

pub as_it_stands : (old : List Tree) (id : TNodeId) (kind : TKind) (ids : List TNodeId) (q v empty b : Bool) → kind_of (tree_at old id) ≡ kind
    → kids_of (tree_at old id) ≡ trees_at old ids → empty ≡ (length ids == 0) → b ≡ has_qualifiers kind (not empty) → b ≡ false → id.0 < length old
    → Adds old old id (requalified q v (tree_at old id))
as_it_stands old id kind ids q v empty b k h n e f w = record {
  grows = grows_refl old;
  within = w;
  is = sym (tree_is q v (tree_at old id) false (sym f ∙ has_same old id kind ids empty b k h n e) ∙ as_it_was (tree_at old id));
}

pub node_requalified : (old now new : List Tree) (id : TNodeId) (kind : TKind) (ids copied parts : List TNodeId) (q v empty b : Bool)
    (r : Result TNodeId AllocError)
    → kind_of (tree_at old id) ≡ kind → kids_of (tree_at old id) ≡ trees_at old ids → empty ≡ (length ids == 0) → b ≡ has_qualifiers kind (not empty)
    → b ≡ true → id.0 < length old → copied ≡ ids → AddsAll old now parts (kids_requalified q v kind 0 (trees_at old copied))
    → IfOk r (λ (z : TNodeId). Adds now new z (node (marked_kind v (kind_of (tree_at now id))) (qualified q v (typ_in (tree_at now id)))
    (cat_of (tree_at now id)) (place_in (tree_at now id)) (trees_at now parts)))
    → IfOk r (λ (z : TNodeId). Adds old new z (requalified q v (tree_at old id)))
node_requalified old now new id kind ids copied parts q v empty b r k h n e f w c all m =
    let same : tree_at now id ≡ tree_at old id = at_grown old now id all.grows w in
    let kids : trees_at now parts ≡ kids_requalified q v (kind_of (tree_at old id)) 0 (kids_of (tree_at old id)) = all.are ∙ rw (k, h, c) refl in
    last_adds old now new r _ _ all.grows (rw (same, kids) refl
    ∙ sym (tree_is q v (tree_at old id) true (sym f ∙ has_same old id kind ids empty b k h n e))) m

-- Kids, one after the other

pub kid_there : (old now : List Tree) (ids kept : List TNodeId) (rest total : Trees) (i : ℕ) (d : TNodeId) → Adding old now kept rest total
    → are_within (length old) ids ≡ true → i < length ids → (get_or ids i d).0 < length now
kid_there old now ids kept rest total i d a w h = within_grown old now (get_or ids i d) a.grows (kid_within (length old) ids i d w h)

kids_next : (q v : Bool) (kind : TKind) (old : List Tree) (ids : List TNodeId) (i : ℕ) (id d : TNodeId) → i < length ids → id ≡ get_or ids i d
    → kids_requalified q v kind i (trees_at old (drop i ids))
    ≡ more (kid_requalified q v (is_part kind i) (tree_at old id)) (kids_requalified q v kind (i + 1) (trees_at old (drop (i + 1) ids)))
kids_next q v kind old ids i id d h e = rw (drop_step ids i d h, add-one i) (rw e refl)

pub kid_added : (q v : Bool) (kind : TKind) (ids : List TNodeId) (i : ℕ) (id d : TNodeId) (part : Bool) (old now new : List Tree) (kept next : List TNodeId)
    (r : TNodeId) → Adding old now kept (kids_requalified q v kind i (trees_at old (drop i ids))) (kids_requalified q v kind 0 (trees_at old ids))
    → are_within (length old) ids ≡ true → i < length ids → id ≡ get_or ids i d → part ≡ is_part kind i
    → Adds now new r (kid_requalified q v part (tree_at now id)) → next ≡ kept ++ r ∷ []
    → Adding old new next (kids_requalified q v kind (i + 1) (trees_at old (drop (i + 1) ids))) (kids_requalified q v kind 0 (trees_at old ids))
kid_added q v kind ids i id d part old now new kept next r a w h e p m n =
    let there : id.0 < length old = subst (λ (z : TNodeId). z.0 < length old) (sym e) (kid_within (length old) ids i d w h) in
    adding_one old now new kept next r _ _ _ _ a (kids_next q v kind old ids i id d h e)
    (subst (λ (z : Tree). Adds now new r (kid_requalified q v (is_part kind i) z)) (at_grown old now id a.grows there)
    (subst (λ (z : Bool). Adds now new r (kid_requalified q v z (tree_at now id))) p m)) n

pub kids_added : (q v : Bool) (kind : TKind) (ids : List TNodeId) (i : ℕ) (old now : List Tree) (kept : List TNodeId)
    → Adding old now kept (kids_requalified q v kind i (trees_at old (drop i ids))) (kids_requalified q v kind 0 (trees_at old ids)) → length ids ≤ i
    → AddsAll old now kept (kids_requalified q v kind 0 (trees_at old ids))
kids_added q v kind ids i old now kept a h = adding_done old now kept _ _ a (rw (drop_past ids i h) refl)
