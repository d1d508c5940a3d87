-- What a destructor does, in several steps.
use Rattle.std.proofs.Common.{◌≡◌, ◌<◌, ◌≤◌, ◌+◌, ◌∙◌, ℕ, zero, suc, ◌==◌, vec_len, rules, List, [], ◌∷◌, ◌++◌, length, drop, slice_get, Vec, Global, Result}
use Rattle.std.proofs.Common.{Ok, Err, IfOk, false, true, refl, sym, ap, subst, arith, add-one}
use Rattle.std.specs.declared.alloc.AllocError.{AllocError}
use Rattle.cpp_types.specs.Typ.{Typ, class}
use Rattle.cpp_types.specs.Class.{Member}
use Rattle.cpp_types.specs.declared.classes.At.{At}
use Rattle.elab_entry.specs.cpp_tree.declared.arena.TNodeId.{TNodeId}
use Rattle.elab_entry.specs.cpp_tree.declared.kinds.TKind.TheVariants.{Defer, Block}
use Rattle.elab_entry.specs.cpp_tree.Trees.{Tree, Trees, none, one}
use Rattle.elab_entry.specs.cpp_tree.Arena.{tree_at, trees_at, Adds}
use Rattle.elab_entry.specs.cpp_tree.Notation.{plain}
use Rattle.elab_entry.specs.elab_ctx.Ctx.{Ctx}
use Rattle.elab_entry.specs.elab_ctx.Says.{AddsAll, are_within}
use Rattle.elab_entry.proofs.elab_ctx.Looks.{grows_trans}
use Rattle.elab_entry.proofs.elab_ctx.Making.{last_adds}
use Rattle.elab_entry.proofs.elab_init.Listing.{Adding, adding_all, adding_done, adds_more, trees_append, trees_grown, followed_twice, drop_step, drop_past}
use Rattle.elab_entry.specs.elab_rules.Objects.{followed_by, destroys}
use Rattle.elab_entry.specs.elab_rules.Calls.{pointer_offset, base_of_class}
use Rattle.elab_entry.specs.elab_rules.Names.{members_in, offset_at}
use Rattle.elab_entry.specs.elab_rules.Statements.{statement, block}
use Rattle.elab_entry.specs.elab_rules.Members.{deferred_if, base_deferred, members_deferred, member_type, pointer_stored, destructor_tree}
use Rattle.elab_implicit.specs.Ending.{deferred, part_tree, member_deferred, parts_ended}
use Rattle.elab_implicit.proofs.ObjectParts.{one_listed}
use Rattle.elab_implicit.proofs.MemberSteps.{type_of_member}

pub deferred_made : (a b : List Tree) (at : At) (object made : TNodeId) (ends kids ids : List TNodeId) → kids ≡ object ∷ ends
    → Adds a b made (statement Defer at (trees_at a kids)) → ids ≡ made ∷ [] → AddsAll a b ids (deferred at (tree_at a object) (trees_at a ends))
deferred_made a b at object made ends kids ids k m e =
    subst (λ (z : List TNodeId). AddsAll a b ids (one (statement Defer at (trees_at a z)))) k
    (one_listed a b made (statement Defer at (trees_at a kids)) ids m e)

pub deferred_listed : (a b : List Tree) (at : At) (object made : TNodeId) (ends kids : List TNodeId) (x : Result (Vec TNodeId Global) AllocError)
    → kids ≡ object ∷ ends → Adds a b made (statement Defer at (trees_at a kids)) → IfOk x (λ (ids : Vec TNodeId Global). ids.items ≡ made ∷ [])
    → IfOk x (λ (ids : Vec TNodeId Global). AddsAll a b ids.items (deferred at (tree_at a object) (trees_at a ends)))
deferred_listed a b at object made ends kids (Ok v) k m e = deferred_made a b at object made ends kids v.items k m e
deferred_listed a b at object made ends kids (Err x) k m e = tt

-- behind the object
pub object_deferred : (a b c : List Tree) (at : At) (object : TNodeId) (t : Tree) (ends ids : List TNodeId) → are_within (length a) ends ≡ true
    → Adds a b object t → AddsAll b c ids (deferred at (tree_at b object) (trees_at b ends)) → AddsAll a c ids (deferred at t (trees_at a ends))
object_deferred a b c at object t ends ids w m n = record {
  grows = grows_trans m.grows n.grows;
  within = n.within;
  are = n.are ∙ ap (λ (z : Tree). deferred at z (trees_at b ends)) m.is ∙ ap (deferred at t) (trees_grown a b ends m.grows w);
}

pub object_listed : (a b c : List Tree) (at : At) (object : TNodeId) (t : Tree) (ends : List TNodeId) (x : Result (Vec TNodeId Global) AllocError)
    → are_within (length a) ends ≡ true → Adds a b object t
    → IfOk x (λ (ids : Vec TNodeId Global). AddsAll b c ids.items (deferred at (tree_at b object) (trees_at b ends)))
    → IfOk x (λ (ids : Vec TNodeId Global). AddsAll a c ids.items (deferred at t (trees_at a ends)))
object_listed a b c at object t ends (Ok v) w m n = object_deferred a b c at object t ends v.items w m n
object_listed a b c at object t ends (Err x) w m n = tt

no_trees : (a : List Tree) (ids : List TNodeId) → length ids ≡ 0 → trees_at a ids ≡ none
no_trees a [] e = refl
no_trees a (i ∷ is) e = absurd (omega arith)

pub ended_none : (a b : List Tree) (at : At) (object : Tree) (ids : List TNodeId) (ts : Trees) → AddsAll a b ids ts → length ids ≡ 0
    → AddsAll a b ids (deferred_if at object ts)
ended_none a b at object ids ts m e =
    let empty : ts ≡ none = sym m.are ∙ no_trees b ids e in
    record { grows = m.grows; within = m.within; are = no_trees b ids e ∙ sym (ap (deferred_if at object) empty) }

positive : (n : ℕ) → (n == 0) ≡ false → 0 < n
positive zero h = absurd cc
positive (suc n) h = omega arith

count_is : (v : Vec TNodeId Global) → vec_len v ≡ length v.items
count_is v = search rules

pub not_empty : (v : Vec TNodeId Global) → (vec_len v == 0) ≡ false → 0 < length v.items
not_empty v h = subst (λ (n : ℕ). 0 < n) (count_is v) (positive (vec_len v) h)

some_trees : (a : List Tree) (at : At) (object : Tree) (ids : List TNodeId) → 0 < length ids
    → deferred_if at object (trees_at a ids) ≡ deferred at object (trees_at a ids)
some_trees a at object [] h = absurd (omega arith)
some_trees a at object (i ∷ is) h = refl

pub ended_some : (a b c : List Tree) (at : At) (object : Tree) (ends ids : List TNodeId) (ts : Trees) → AddsAll a b ends ts → 0 < length ends
    → AddsAll b c ids (deferred at object (trees_at b ends)) → AddsAll a c ids (deferred_if at object ts)
ended_some a b c at object ends ids ts m h n = record {
  grows = grows_trans m.grows n.grows;
  within = n.within;
  are = n.are ∙ sym (some_trees b at object ends h) ∙ ap (deferred_if at object) m.are;
}

pub some_listed : (a b c : List Tree) (at : At) (object : Tree) (ends those : List TNodeId) (ts : Trees) (x : Result (Vec TNodeId Global) AllocError)
    → AddsAll a b ends ts → 0 < length ends → those ≡ ends
    → IfOk x (λ (ids : Vec TNodeId Global). AddsAll b c ids.items (deferred at object (trees_at b those)))
    → IfOk x (λ (ids : Vec TNodeId Global). AddsAll a c ids.items (deferred_if at object ts))
some_listed a b c at object ends those ts (Ok v) m h e n =
    ended_some a b c at object ends v.items ts m h (subst (λ (z : List TNodeId). AddsAll b c v.items (deferred at object (trees_at b z))) e n)
some_listed a b c at object ends those ts (Err x) m h e n = tt

pub base_deferred_is : (a b : List Tree) (ids : List TNodeId) (c : Ctx) (at : At) (k : ℕ) (t : Typ) → t ≡ plain (class k) → AddsAll a b ids (destroys c at t)
    → AddsAll a b ids (destroys c at (plain (class k)))
base_deferred_is a b ids c at k t e m = subst (λ (z : Typ). AddsAll a b ids (destroys c at z)) e m

pub member_listed : (a b d : List Tree) (c : Ctx) (at : At) (n i o : ℕ) (t : Typ) (ends those : List TNodeId) (x : Result (Vec TNodeId Global) AllocError)
    → AddsAll a b ends (destroys c at t) → 0 < length ends → o ≡ offset_at c.classes n i → those ≡ ends
    → IfOk x (λ (ids : Vec TNodeId Global). AddsAll b d ids.items (deferred at (part_tree n at o t) (trees_at b those)))
    → IfOk x (λ (ids : Vec TNodeId Global). AddsAll a d ids.items (member_deferred c at n i t))
member_listed a b d c at n i o t ends those x m h e f g =
    subst (λ (z : ℕ). IfOk x (λ (ids : Vec TNodeId Global). AddsAll a d ids.items (deferred_if at (part_tree n at z t) (destroys c at t)))) e
    (some_listed a b d at (part_tree n at o t) ends those (destroys c at t) x m h f g)

pub trees_same : (a b : List Tree) (ids : List TNodeId) (ts us : Trees) → ts ≡ us → AddsAll a b ids ts → AddsAll a b ids us
trees_same a b ids ts us e m = subst (λ (z : Trees). AddsAll a b ids z) e m

-- Members

pub members_first : (c : Ctx) (at : At) (n i : ℕ) (ms : List Member) → i < length ms
    → members_deferred c at n i (drop i ms) ≡ followed_by (member_deferred c at n i (member_type (slice_get ms i)))
    (members_deferred c at n (i + 1) (drop (i + 1) ms))
members_first c at n i ms h =
    let d : Member = record { name = []; typ = member_type (slice_get ms i) } in
    ap (members_deferred c at n i) (drop_step ms i d h)
    ∙ ap (λ (z : Typ). followed_by (member_deferred c at n i z) (members_deferred c at n (suc i) (drop (i + 1) ms))) (type_of_member ms i d h)
    ∙ ap (λ (z : ℕ). followed_by (member_deferred c at n i (member_type (slice_get ms i))) (members_deferred c at n z (drop (i + 1) ms))) (sym (add-one i))

pub member_added : (a b d : List Tree) (c : Ctx) (at : At) (n i : ℕ) (ms : List Member) (ids others next : List TNodeId)
    → Adding a b ids (members_deferred c at n i (drop i ms)) (members_deferred c at n 0 ms) → i < length ms
    → AddsAll b d others (member_deferred c at n i (member_type (slice_get ms i))) → next ≡ ids ++ others
    → Adding a d next (members_deferred c at n (i + 1) (drop (i + 1) ms)) (members_deferred c at n 0 ms)
member_added a b d c at n i ms ids others next m h all e =
    adding_all a b d ids others next (member_deferred c at n i (member_type (slice_get ms i))) (members_deferred c at n (i + 1) (drop (i + 1) ms))
    (members_deferred c at n i (drop i ms)) (members_deferred c at n 0 ms) m (members_first c at n i ms h) all e

pub members_added : (a b : List Tree) (c : Ctx) (at : At) (n i : ℕ) (ms : List Member) (ids : List TNodeId)
    → Adding a b ids (members_deferred c at n i (drop i ms)) (members_deferred c at n 0 ms) → length ms ≤ i → AddsAll a b ids (members_deferred c at n 0 ms)
members_added a b c at n i ms ids m h = adding_done a b ids _ _ m (ap (members_deferred c at n i) (drop_past ms i h))

-- The whole

pub destructor_made : (a b d e : List Tree) (c : Ctx) (at p : At) (n : ℕ) (kids list next : List TNodeId) (inner : TNodeId) (r : Result TNodeId AllocError)
    → are_within (length a) list ≡ true → AddsAll a b kids (parts_ended c at n) → Adds b d inner (block p (trees_at b list)) → next ≡ kids ++ inner ∷ []
    → IfOk r (λ (id : TNodeId). Adds d e id (statement (Block false) p (trees_at d next)))
    → IfOk r (λ (id : TNodeId). Adds a e id (destructor_tree c at p n (trees_at a list)))
destructor_made a b d e c at p n kids list next inner r w all m k o =
    let stmts : trees_at b list ≡ trees_at a list = trees_grown a b list all.grows w in
    let last : tree_at d inner ≡ block p (trees_at a list) = m.is ∙ ap (block p) stmts in
    let first : trees_at d kids ≡ parts_ended c at n = trees_grown b d kids m.grows all.within ∙ all.are in
    let pointer : Trees = pointer_stored at n (pointer_offset c.classes n) in
    let base : Trees = base_deferred c at n (base_of_class (slice_get c.classes n)) in
    let members : Trees = members_deferred c at n 0 (members_in (slice_get c.classes n)) in
    let rest : Trees = one (block p (trees_at a list)) in
    let is : trees_at d next ≡ followed_by pointer (followed_by base (followed_by members rest)) = ap (trees_at d) k ∙ trees_append d kids (inner ∷ [])
    ∙ ap (λ (z : Trees). followed_by z (one (tree_at d inner))) first ∙ ap (λ (z : Tree). followed_by (parts_ended c at n) (one z)) last
    ∙ followed_twice (followed_by pointer base) members rest ∙ followed_twice pointer base (followed_by members rest) in
    last_adds a d e r _ _ (grows_trans all.grows m.grows) (ap (statement (Block false) p) is) o

-- the class pointer, the base, the members
pub parts_all : (a b d e : List Tree) (c : Ctx) (at : At) (n : ℕ) (kids base members mid next : List TNodeId)
    → AddsAll a b kids (pointer_stored at n (pointer_offset c.classes n)) → AddsAll b d base (base_deferred c at n (base_of_class (slice_get c.classes n)))
    → mid ≡ kids ++ base → AddsAll d e members (members_deferred c at n 0 (members_in (slice_get c.classes n))) → next ≡ mid ++ members
    → AddsAll a e next (parts_ended c at n)
parts_all a b d e c at n kids base members mid next p q f r g = adds_more a d e mid members next _ _ (adds_more a b d kids base mid _ _ p q f) r g
