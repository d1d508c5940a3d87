-- The trees that were read since an index, and the first of them.
use Rattle.std.proofs.Common.{◌≡◌, ℕ, zero, suc, ◌<◌, List, [], ◌∷◌, length, drop, get_or, slice_get, drop-cons, Option, Some, None, refl, sym, ◌∙◌, ap, subst}
use Rattle.std.proofs.Common.{arith}
use Rattle.std.proofs.lemmas.Option.{slice_get_within, get_or_from_slice_get, none-some}
use Rattle.cpp_ast.specs.declared.arena.At.{At}
use Rattle.cpp_ast.specs.declared.arena.Node.{Node}
use Rattle.cpp_ast.specs.declared.arena.NodeId.{NodeId}
use Rattle.cpp_ast.specs.Trees.{Tree, Trees, none, more, ShowsAll}
use Rattle.cpp_syntax.specs.declared.positions.OpenBody.{OpenBody}
use Rattle.cpp_syntax.specs.Gathers.{first_at}
use Rattle.cpp_syntax.specs.Derivations.{Read, at_of}
use Rattle.cpp_syntax.specs.View.{BuilderState, appended, builder_state, count_trees, EachShows, trees_at}
use Rattle.cpp_syntax.proofs.GatheredNodes.{all_of_each, each_drop}
use Rattle.cpp_syntax.proofs.NodeKids.{front_of, parts_of}
use Rattle.cpp_syntax.proofs.BuilderViews.{since}

pub shows_since : (base : ℕ) (nodes : List Node) (ids : List NodeId) (bodies : List OpenBody) (start : ℕ) (shown before : BuilderState) (got : Read)
    → EachShows nodes ids → builder_state base nodes ids bodies ≡ shown → shown ≡ appended before got → count_trees before.read.trees ≡ start
    → ShowsAll nodes (drop start ids) got.trees
shows_since base nodes ids bodies start shown before got shows view e count =
    let back : trees_at nodes (drop start ids) ≡ got.trees = (since nodes start ids before.read.trees got.trees
    (ap (λ (b : BuilderState). b.read.trees) (view ∙ e)) count).back in
    subst (ShowsAll nodes (drop start ids)) back (all_of_each nodes (drop start ids) (each_drop nodes start ids shows))

pub first_shown : (nodes : List Node) (ids : List NodeId) (start : ℕ) (id : NodeId) (found : Node) (other : At) (trees : Trees)
    → slice_get ids start ≡ Some id → slice_get nodes id.0 ≡ Some found → ShowsAll nodes (drop start ids) trees → found.at ≡ first_at other trees
first_shown nodes ids start id found other trees there stands shows =
    let here : get_or ids start id ≡ id = get_or_from_slice_get ids start id id there in
    let list : drop start ids ≡ id ∷ drop (suc start) ids = drop-cons ids start id (slice_get_within ids start id there) ∙ ap
    (λ (i : NodeId). i ∷ drop (suc start) ids) here in
    let f = front_of nodes (drop start ids) (drop (suc start) ids) id trees list shows in
    let p = parts_of nodes id.0 found f.first stands f.shows in
    sym (ap (first_at other) f.are ∙ ap at_of p.is)

empty_behind : (ids : List NodeId) (start : ℕ) → slice_get ids start ≡ None → drop start ids ≡ []
empty_behind [] zero h = refl
empty_behind [] (suc n) h = refl
empty_behind (id ∷ ids) zero h = absurd (let same : slice_get (id ∷ ids) 0 ≡ Some id = refl in cc)
empty_behind (id ∷ ids) (suc n) h = empty_behind ids n h

none_of : (nodes : List Node) (ids : List NodeId) (other : At) (trees : Trees) → ids ≡ [] → ShowsAll nodes ids trees → other ≡ first_at other trees
none_of nodes ids other none e s = refl
none_of nodes ids other (more t ts) e s = absurd (let f : ids ≡ s.0 ∷ s.1 = s.2 in cc)

pub none_shown : (nodes : List Node) (ids : List NodeId) (start : ℕ) (other : At) (trees : Trees) → slice_get ids start ≡ None
    → ShowsAll nodes (drop start ids) trees → other ≡ first_at other trees
none_shown nodes ids start other trees e s = none_of nodes (drop start ids) other trees (empty_behind ids start e) s
