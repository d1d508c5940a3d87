-- Parts of an object with their initialisers and their destructions.
use Rattle.std.proofs.Common.{◌≡◌, ◌<◌, ◌∙◌, List, [], ◌∷◌, ◌++◌, length, Vec, Global, Result, Ok, Err, IfOk, true, refl, sym, ap, subst}
use Rattle.std.specs.declared.alloc.AllocError.{AllocError}
use Rattle.cpp_types.specs.Typ.{Typ}
use Rattle.cpp_types.specs.declared.classes.At.{At}
use Rattle.elab_entry.specs.cpp_tree.declared.arena.TNodeId.{TNodeId}
use Rattle.elab_entry.specs.cpp_tree.declared.kinds.TKind.TheVariants.{Init, Block}
use Rattle.elab_entry.specs.cpp_tree.Trees.{Tree, Trees, more, one}
use Rattle.elab_entry.specs.cpp_tree.Arena.{tree_at, trees_at, Adds}
use Rattle.elab_entry.specs.elab_ctx.Ctx.{Ctx}
use Rattle.elab_entry.specs.elab_ctx.Says.{AddsAll, are_within}
use Rattle.elab_entry.proofs.elab_ctx.Looks.{at_grown, grows_trans}
use Rattle.elab_entry.proofs.elab_ctx.Making.{last_adds}
use Rattle.elab_entry.proofs.elab_init.Listing.{adds_one, trees_append, trees_grown}
use Rattle.elab_entry.specs.elab_rules.Values.{size_type, part_at}
use Rattle.elab_entry.specs.elab_rules.Objects.{followed_by}
use Rattle.elab_entry.specs.elab_rules.Statements.{statement, block}
use Rattle.elab_entry.specs.elab_rules.Members.{part_init, constructor_tree}
use Rattle.elab_implicit.specs.Building.{assigned}

pub part_made : (a b d : List Tree) (object init : TNodeId) (ends kids : List TNodeId) (ts : Trees) (at : At) (r : Result TNodeId AllocError)
    → object.0 < length a → init.0 < length a → AddsAll a b ends ts → kids ≡ object ∷ init ∷ ends
    → IfOk r (λ (id : TNodeId). Adds b d id (statement Init at (trees_at b kids)))
    → IfOk r (λ (id : TNodeId). Adds a d id (statement Init at (more (tree_at a object) (more (tree_at a init) ts))))
part_made a b d object init ends kids ts at r o i all k m =
    let first = at_grown a b object all.grows o in
    let second = at_grown a b init all.grows i in
    last_adds a b d r _ _ all.grows (rw k (rw (first, second, all.are) refl)) m

-- a word at an offset
pub stored_made : (a b c d : List Tree) (object table : TNodeId) (offset : _) (s : Typ) (p u : Tree) (at : At) (r : Result TNodeId AllocError) → s ≡ size_type
    → Adds a b object (part_at offset s at p) → Adds b c table u → IfOk r (λ (id : TNodeId). Adds c d id (assigned at (tree_at c object) (tree_at c table)))
    → IfOk r (λ (id : TNodeId). Adds a d id (assigned at (part_at offset size_type at p) u))
stored_made a b c d object table offset s p u at r e m n o =
    let first : tree_at c object ≡ part_at offset size_type at p = at_grown b c object n.grows m.within ∙ m.is ∙ ap (λ (z : Typ). part_at offset z at p) e in
    last_adds a c d r _ _ (grows_trans m.grows n.grows)
    (ap (λ (z : Tree). assigned at z (tree_at c table)) first ∙ ap (assigned at (part_at offset size_type at p)) n.is) o

-- one tree as a list
pub one_listed : (a b : List Tree) (r : TNodeId) (t : Tree) (ids : List TNodeId) → Adds a b r t → ids ≡ r ∷ [] → AddsAll a b ids (one t)
one_listed a b r t ids m e = subst (λ (z : List TNodeId). AddsAll a b z (one t)) (sym e) (adds_one a b r t m)

-- a part that was made before its initialisation
pub init_made : (a b d : List Tree) (object init : TNodeId) (t v : Tree) (c : Ctx) (at p : At) (s u : Typ) (r : Result TNodeId AllocError) → init.0 < length a
    → Adds a b object t → t ≡ v → s ≡ u → IfOk r (λ (id : TNodeId). Adds b d id (part_init c at p s (tree_at b object) (tree_at b init)))
    → IfOk r (λ (id : TNodeId). Adds a d id (part_init c at p u v (tree_at a init)))
init_made a b d object init t v c at p s u r i m e f n =
    let first : tree_at b object ≡ v = m.is ∙ e in
    let second : tree_at b init ≡ tree_at a init = at_grown a b init m.grows i in
    last_adds a b d r _ _ m.grows (ap (λ (z : Typ). part_init c at p z (tree_at b object) (tree_at b init)) f ∙ ap
    (λ (z : Tree). part_init c at p u z (tree_at b init)) first ∙ ap (part_init c at p u v) second) n

-- parts, then a block
pub constructor_made : (a b c : List Tree) (at : At) (parts list next : List TNodeId) (inner : TNodeId) (r : Result TNodeId AllocError)
    → are_within (length a) parts ≡ true → Adds a b inner (block at (trees_at a list)) → next ≡ parts ++ inner ∷ []
    → IfOk r (λ (id : TNodeId). Adds b c id (statement (Block true) at (trees_at b next)))
    → IfOk r (λ (id : TNodeId). Adds a c id (constructor_tree at (trees_at a parts) (trees_at a list)))
constructor_made a b c at parts list next inner r w m e n =
    let before : trees_at b parts ≡ trees_at a parts = trees_grown a b parts m.grows w in
    let all : trees_at b next ≡ followed_by (trees_at a parts) (one (block at (trees_at a list))) = ap (trees_at b) e ∙ trees_append b parts (inner ∷ [])
    ∙ ap (λ (z : Trees). followed_by z (one (tree_at b inner))) before ∙ ap (λ (z : Tree). followed_by (trees_at a parts) (one z)) m.is in
    last_adds a b c r _ _ m.grows (ap (statement (Block true) at) all) n

pub list_made : (a b : List Tree) (r : TNodeId) (t : Tree) (x : Result (Vec TNodeId Global) AllocError) → Adds a b r t
    → IfOk x (λ (ids : Vec TNodeId Global). ids.items ≡ r ∷ []) → IfOk x (λ (ids : Vec TNodeId Global). AddsAll a b ids.items (one t))
list_made a b r t (Ok v) m e = one_listed a b r t v.items m e
list_made a b r t (Err x) m e = tt
