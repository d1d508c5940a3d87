-- One node more, whose kids are the last trees: what a builder keeps.
use Rattle.std.proofs.Common.{◌≡◌, ℕ, zero, suc, ◌+◌, ◌<◌, ◌≤◌, nat_lt, nat_le, nat_eq, ◌&&◌, if◌then◌else◌, Bool, true, false, List, [], ◌∷◌, ◌++◌, Option}
use Rattle.std.proofs.Common.{Some, slice_get, length, map, take, drop, get_or, refl, sym, ◌∙◌, ap, subst, arith, length-append, append_assoc, append-nil}
use Rattle.std.specs.List.{concat, list_all, sum_by, count_by}
use Rattle.std.proofs.lemmas.Bool.{and_parts, and_from, ltb-true, lt-ltb}
use Rattle.std.proofs.lemmas.List.{map-append, length-map, take-append-drop, drop-append-le, take-map}
use Rattle.std.proofs.lemmas.List.Folds.{list_all-append, concat-append}
use Rattle.std.proofs.lemmas.List.Sums.{sum_by-append, sum_by-take-drop}
use Rattle.cpp_ast.proofs.NodeTrees.{adds_shows, shows_grow}
use Rattle.cpp_ast.specs.declared.arena.At.{At}
use Rattle.cpp_ast.specs.declared.arena.Node.{Node}
use Rattle.cpp_ast.specs.declared.arena.NodeId.{NodeId}
use Rattle.cpp_ast.specs.declared.kinds.NodeKind.{NodeKind}
use Rattle.cpp_ast.specs.declared.kinds.NodeKind.TheVariants.{Lambda}
use Rattle.cpp_ast.specs.Orders.{are_below}
use Rattle.cpp_ast.specs.Trees.{Tree, node, Trees, none, more, Shows, ShowsAll, Extends}
use Rattle.cpp_ast.specs.Units.{times_in, times_a_kid}
use Rattle.cpp_syntax.specs.declared.positions.OpenBody.{OpenBody}
use Rattle.cpp_syntax.specs.Gathers.{Gathered}
use Rattle.cpp_syntax.specs.View.{EachShows, IsBuilt, running, is_lambda, lams_of, lambdas_at, lambdas_from, lambdas_made, values_at, values_from, trees_at}
use Rattle.cpp_syntax.specs.View.{trees_from, tree_made, no_tree}
use Rattle.cpp_syntax.proofs.NodeLambdas.{own_lambda}
use Rattle.cpp_syntax.proofs.NodeValues.{values_long, values_snoc, at_grow, at_gathered, at_last, below_take, below_drop, value_grow, value_last}

-- ids that show their trees

pub all_of_each : (nodes : List Node) (ids : List NodeId) → EachShows nodes ids → ShowsAll nodes ids (trees_at nodes ids)
all_of_each nodes [] s = refl
all_of_each nodes (id ∷ ids) s = (id, ids, refl, s.0, all_of_each nodes ids s.1)

pub each_take : (nodes : List Node) (n : ℕ) (ids : List NodeId) → EachShows nodes ids → EachShows nodes (take n ids)
each_take nodes zero ids s = tt
each_take nodes (suc n) [] s = tt
each_take nodes (suc n) (id ∷ ids) s = (s.0, each_take nodes n ids s.1)

pub each_drop : (nodes : List Node) (n : ℕ) (ids : List NodeId) → EachShows nodes ids → EachShows nodes (drop n ids)
each_drop nodes zero ids s = s
each_drop nodes (suc n) [] s = tt
each_drop nodes (suc n) (id ∷ ids) s = each_drop nodes n ids s.1

each_push : (nodes : List Node) (ids : List NodeId) (id : NodeId) → EachShows nodes ids
    → Shows nodes id.0 (get_or (values_from no_tree tree_made [] nodes) id.0 no_tree) → EachShows nodes (ids ++ id ∷ [])
each_push nodes [] id s last = (last, tt)
each_push nodes (i ∷ ids) id s last = (s.0, each_push nodes ids id s.1 last)

each_grow : (nodes : List Node) (n : Node) (ids : List NodeId) → are_below (length nodes) ids ≡ true → EachShows nodes ids → EachShows (nodes ++ n ∷ []) ids
each_grow nodes n [] below s = tt
each_grow nodes n (id ∷ ids) below s =
    let parts = and_parts (nat_lt id.0 (length nodes)) (are_below (length nodes) ids) below in
    let first : Shows (nodes ++ n ∷ []) id.0 (get_or (values_from no_tree tree_made [] nodes) id.0 no_tree) = shows_grow [] nodes (nodes ++ n ∷ [])
    id.0 (get_or (values_from no_tree tree_made [] nodes) id.0 no_tree) (record { extra = n ∷ []; appended = refl }) s.0 in (
      subst (λ (t : Tree). Shows (nodes ++ n ∷ []) id.0 t) (sym (value_grow no_tree tree_made nodes n id.0 (ltb-true id.0 (length nodes) parts.0)))
          first,
      each_grow nodes n ids parts.1 s.1,
    )

-- the new node shows the tree of its kids' trees
new_shows : (nodes : List Node) (added : Node) → EachShows nodes added.kids.items
    → Shows (nodes ++ added ∷ []) (length nodes) (get_or (values_from no_tree tree_made [] (nodes ++ added ∷ [])) (length nodes) no_tree)
new_shows nodes added s =
    subst (λ (t : Tree). Shows (nodes ++ added ∷ []) (length nodes) t) (sym (value_last no_tree tree_made nodes added))
    (adds_shows nodes added (trees_at nodes added.kids.items) (all_of_each nodes added.kids.items s))

each_gathered : (old new : List Node) (was ids : List NodeId) (start : ℕ) (added : Node) (id : NodeId) → new ≡ old ++ added ∷ []
    → added.kids.items ≡ drop start was → id.0 ≡ length old → ids ≡ take start was ++ id ∷ [] → are_below (length old) was ≡ true → EachShows old was
    → EachShows new ids
each_gathered old new was ids start added id nodes kids index pending below s =
    let of_kids : EachShows old added.kids.items = subst (EachShows old) (sym kids) (each_drop old start was s) in
    let last = new_shows old added of_kids in
    let last_at : Shows (old ++ added ∷ []) id.0 (get_or (values_from no_tree tree_made [] (old ++ added ∷ [])) id.0 no_tree) =
    subst (λ (k : ℕ). Shows (old ++ added ∷ []) k (get_or (values_from no_tree tree_made [] (old ++ added ∷ [])) k no_tree)) (sym index) last in
    let all = each_push (old ++ added ∷ []) (take start was) id (each_grow old added (take start was) (below_take (length old) start was below)
    (each_take old start was s)) last_at in
    subst (λ (is : List NodeId). EachShows new is) (sym pending) (subst (λ (ns : List Node). EachShows ns (take start was ++ id ∷ [])) (sym nodes) all)

below_grow : (index : ℕ) (ids : List NodeId) → are_below index ids ≡ true → are_below (index + 1) ids ≡ true
below_grow index [] h = refl
below_grow index (id ∷ ids) h =
    let parts = and_parts (nat_lt id.0 index) (are_below index ids) h in
    let less : id.0 < index = ltb-true id.0 index parts.0 in
    and_from (nat_lt id.0 (index + 1)) (are_below (index + 1) ids) (lt-ltb id.0 (index + 1) (omega arith)) (below_grow index ids parts.1)

new_long : (old new : List Node) (added : Node) → new ≡ old ++ added ∷ [] → length new ≡ length old + 1
new_long old new added nodes = ap (λ (ns : List Node). length ns) nodes ∙ length-append old (added ∷ [])

below_gathered : (old new : List Node) (was ids : List NodeId) (start : ℕ) (added : Node) (id : NodeId) → new ≡ old ++ added ∷ [] → id.0 ≡ length old
    → ids ≡ take start was ++ id ∷ [] → are_below (length old) was ≡ true → are_below (length new) ids ≡ true
below_gathered old new was ids start added id nodes index pending below =
    let less : nat_lt id.0 (length old + 1) ≡ true = lt-ltb id.0 (length old + 1) (omega (arith, index)) in
    ap (λ (k : ℕ). are_below k ids) (new_long old new added nodes) ∙ ap (are_below (length old + 1)) pending
    ∙ list_all-append (λ (i : NodeId). nat_lt i.0 (length old + 1)) (take start was) (id ∷ [])
    ∙ and_from (are_below (length old + 1) (take start was)) (are_below (length old + 1) (id ∷ []))
    (below_grow (length old) (take start was) (below_take (length old) start was below)) (and_from (nat_lt id.0 (length old + 1)) true less refl)

-- no node is held twice

bound_step : (base long id i held : ℕ) → base ≤ long → i ≡ long → held ≤ (if nat_le base id && nat_lt id long then 1 else 0)
    → held + (if nat_eq i id then 1 else 0) ≤ (if nat_le base id && nat_lt id (long + 1) then 1 else 0)
bound_step base long id i held within at h = grind (arith, within, at, h)

zero_more : (n : ℕ) → 0 + n ≡ n
zero_more n = omega arith

apart_gathered : (base : ℕ) (old new : List Node) (was ids : List NodeId) (start : ℕ) (added : Node) (id : NodeId) → new ≡ old ++ added ∷ []
    → added.kids.items ≡ drop start was → id.0 ≡ length old → ids ≡ take start was ++ id ∷ [] → base ≤ length old
    → ((k : ℕ) → times_a_kid k (drop base old) + times_in k was ≤ (if nat_le base k && nat_lt k (length old) then 1 else 0)) → (k : ℕ)
    → times_a_kid k (drop base new) + times_in k ids ≤ (if nat_le base k && nat_lt k (length new) then 1 else 0)
apart_gathered base old new was ids start added id nodes kids index pending within apart k =
    let held : Node → ℕ = λ (n : Node). times_in k n.kids.items in
    let one : NodeId → ℕ = λ (i : NodeId). if nat_eq i.0 k then 1 else 0 in
    let more : times_a_kid k (drop base new) ≡ times_a_kid k (drop base old) + times_a_kid k (added ∷ []) =
    ap (λ (ns : List Node). times_a_kid k ns) (ap (drop base) nodes ∙ drop-append-le base old (added ∷ []) within) ∙ sum_by-append held
    (drop base old) (added ∷ []) in
    let by_added : times_a_kid k (added ∷ []) ≡ times_in k (drop start was) = zero_more (times_in k added.kids.items) ∙ ap
    (λ (is : List NodeId). times_in k is) kids in
    let split : times_in k ids ≡ times_in k (take start was) + times_in k (id ∷ []) = ap (λ (is : List NodeId). times_in k is) pending ∙
    sum_by-append one (take start was) (id ∷ []) in
    let last : times_in k (id ∷ []) ≡ one id = zero_more (one id) in
    let whole : times_in k (take start was) + times_in k (drop start was) ≡ times_in k was = sum_by-take-drop one was start in
    let step = bound_step base (length old) k id.0 (times_a_kid k (drop base old) + times_in k was) within index (apart k) in
    let most : ℕ → ℕ = λ (n : ℕ). if nat_le base k && nat_lt k n then 1 else 0 in
    let bound : most (length new) ≡ most (length old + 1) = ap most (new_long old new added nodes) in
    omega (arith, more, by_added, split, last, whole, step, bound)

-- the lambdas below the trees

concat_last : (xss : List (List ℕ)) (xs : List ℕ) → concat (xss ++ xs ∷ []) ≡ concat xss ++ xs
concat_last xss xs = concat-append xss (xs ∷ []) ∙ ap (λ (ns : List ℕ). concat xss ++ ns) (append-nil xs)

abbrev lambda_values : List Node → List (List ℕ)
lambda_values nodes = values_from [] lambdas_made [] nodes

pub front_and_back : (nodes : List Node) (start : ℕ) (ids : List NodeId)
    → concat (lambdas_from nodes (take start ids)) ++ concat (lambdas_from nodes (drop start ids)) ≡ lambdas_at nodes ids
front_and_back nodes start ids =
    let at : NodeId → List ℕ = λ (id : NodeId). get_or (lambda_values nodes) id.0 [] in
    sym (concat-append (map at (take start ids)) (map at (drop start ids)))
    ∙ ap concat (sym (map-append at (take start ids) (drop start ids)))
    ∙ ap (λ (is : List NodeId). concat (map at is)) (take-append-drop start ids)

pub lambdas_gathered : (old new : List Node) (was ids : List NodeId) (start : ℕ) (added : Node) (id : NodeId) → new ≡ old ++ added ∷ []
    → added.kids.items ≡ drop start was → id.0 ≡ length old → ids ≡ take start was ++ id ∷ [] → are_below (length old) was ≡ true
    → lambdas_at new ids ≡ lambdas_at old was ++ own_lambda added.kind (length old)
lambdas_gathered old new was ids start added id nodes kids index pending below =
    let front : List (List ℕ) = lambdas_from old (take start was) in
    let back : List (List ℕ) = lambdas_from old (drop start was) in
    ap concat (at_gathered [] lambdas_made old new was ids start added id nodes kids index pending below)
    ∙ concat_last front (concat back ++ own_lambda added.kind (length old))
    ∙ sym (append_assoc (concat front) (concat back) (own_lambda added.kind (length old)))
    ∙ ap (λ (ns : List ℕ). ns ++ own_lambda added.kind (length old)) (front_and_back old start was)

running_last : (sum : ℕ) (xss : List (List ℕ)) (xs : List ℕ) → running sum (xss ++ xs ∷ []) ≡ running sum xss ++ (sum + length (concat (xss ++ xs ∷ []))) ∷ []
running_last sum [] xs = ap (λ (ns : List ℕ). (sum + length ns) ∷ []) (sym (append-nil xs))
running_last sum (ys ∷ xss) xs =
    let both : (sum + length ys) + length (concat (xss ++ xs ∷ [])) ≡ sum + length (ys ++ concat (xss ++ xs ∷ [])) = let l = length-append ys
    (concat (xss ++ xs ∷ [])) in omega (arith, l) in
    ap (λ (ns : List ℕ). (sum + length ys) ∷ ns) (running_last (sum + length ys) xss xs ∙ ap (λ (n : ℕ). running (sum + length ys) xss ++ n ∷ []) both)

pub running_take : (n sum : ℕ) (xss : List (List ℕ)) → take n (running sum xss) ≡ running sum (take n xss)
running_take zero sum xss = refl
running_take (suc n) sum [] = refl
running_take (suc n) sum (xs ∷ xss) = ap (λ (ns : List ℕ). (sum + length xs) ∷ ns) (running_take n (sum + length xs) xss)

counted_gathered : (old new : List Node) (was ids : List NodeId) (start : ℕ) (added : Node) (id : NodeId) → new ≡ old ++ added ∷ []
    → added.kids.items ≡ drop start was → id.0 ≡ length old → ids ≡ take start was ++ id ∷ [] → are_below (length old) was ≡ true
    → (totals now : List ℕ) (count : ℕ) → totals ≡ running 0 (lambdas_from old was) → now ≡ take start totals ++ count ∷ []
    → count ≡ length (lambdas_at new ids) → now ≡ running 0 (lambdas_from new ids)
counted_gathered old new was ids start added id nodes kids index pending below totals now count counted e many =
    let front : List (List ℕ) = lambdas_from old (take start was) in
    let last : List ℕ = concat (lambdas_from old (drop start was)) ++ own_lambda added.kind (length old) in
    let values : lambdas_from new ids ≡ front ++ last ∷ [] = at_gathered [] lambdas_made old new was ids start added id nodes kids index pending below in
    let cut : take start totals ≡ running 0 front = ap (take start) counted ∙ running_take start 0 (lambdas_from old was) ∙ ap (running 0)
    (take-map (λ (i : NodeId). get_or (lambda_values old) i.0 []) start was) in
    let number : count ≡ 0 + length (concat (front ++ last ∷ [])) = many ∙ ap (λ (xss : List (List ℕ)). length (concat xss)) values ∙ sym
    (zero_more (length (concat (front ++ last ∷ [])))) in
    e ∙ ap (λ (ns : List ℕ). ns ++ count ∷ []) cut ∙ ap (λ (n : ℕ). running 0 front ++ n ∷ []) number ∙ sym (running_last 0 front last) ∙ ap
    (running 0) (sym values)

lams_grow : (index : ℕ) (lams : List ℕ) → list_all (λ (lam : ℕ). nat_lt lam index) lams ≡ true → list_all (λ (lam : ℕ). nat_lt lam (index + 1)) lams ≡ true
lams_grow index [] h = refl
lams_grow index (lam ∷ lams) h =
    let parts = and_parts (nat_lt lam index) (list_all (λ (l : ℕ). nat_lt l index) lams) h in
    let less : lam < index = ltb-true lam index parts.0 in
    and_from (nat_lt lam (index + 1)) (list_all (λ (l : ℕ). nat_lt l (index + 1)) lams) (lt-ltb lam (index + 1) (omega arith)) (lams_grow index lams parts.1)

below_by : (own : Bool) (index : ℕ) → list_all (λ (lam : ℕ). nat_lt lam (index + 1)) (if own then index ∷ [] else []) ≡ true
below_by true index = and_from (nat_lt index (index + 1)) true (lt-ltb index (index + 1) (omega arith)) refl
below_by false index = refl

own_below : (k : NodeKind) (index : ℕ) → list_all (λ (lam : ℕ). nat_lt lam (index + 1)) (own_lambda k index) ≡ true
own_below k index = below_by (is_lambda k) index

lams_gathered : (index now : ℕ) (k : NodeKind) (lams new : List ℕ) → now ≡ index + 1 → new ≡ lams ++ own_lambda k index
    → list_all (λ (lam : ℕ). nat_lt lam index) lams ≡ true → list_all (λ (lam : ℕ). nat_lt lam now) new ≡ true
lams_gathered index now k lams new longer e h =
    let below : ℕ → Bool = λ (lam : ℕ). nat_lt lam (index + 1) in
    ap (λ (n : ℕ). list_all (λ (lam : ℕ). nat_lt lam n) new) longer ∙ ap (list_all below) e ∙ list_all-append below lams (own_lambda k index)
    ∙ and_from (list_all below lams) (list_all below (own_lambda k index)) (lams_grow index lams h) (own_below k index)

-- what a builder keeps when a node is added
pub built_gathered : (base : ℕ) (old new : List Node) (was ids : List NodeId) (start : ℕ) (id : NodeId) (k : NodeKind) (at : At) (token : Option ℕ)
    (totals now : List ℕ) (bodies bodies' : List OpenBody)
    → Gathered old new was ids start id k at token → IsBuilt base old was totals bodies → now ≡ take start totals ++ length bodies' ∷ []
    → lams_of bodies' ≡ lams_of bodies ++ own_lambda k (length old) → IsBuilt base new ids now bodies'
built_gathered base old new was ids start id k at token totals now bodies bodies' g inv e lams =
    let added : Node = g.added in
    let same_lambdas : lambdas_at new ids ≡ lambdas_at old was ++ own_lambda k (length old) = lambdas_gathered old new was ids start added id g.nodes
    g.kids g.index g.pending inv.below ∙ ap (λ (kind : NodeKind). lambdas_at old was ++ own_lambda kind (length old)) g.kind_is in
    let lambdas : lams_of bodies' ≡ lambdas_at new ids = lams ∙ ap (λ (ns : List ℕ). ns ++ own_lambda k (length old)) inv.lambdas ∙ sym same_lambdas in
    let many : length bodies' ≡ length (lambdas_at new ids) = sym (length-map bodies' (λ (body : OpenBody). body.lam.0)) ∙ ap
    (λ (ns : List ℕ). length ns) lambdas in
    let longer = new_long old new added g.nodes in
    record {
      within = let within = inv.within in omega (arith, within, longer);
      below = below_gathered old new was ids start added id g.nodes g.index g.pending inv.below;
      lams_below = lams_gathered (length old) (length new) k (lams_of bodies) (lams_of bodies') longer lams inv.lams_below;
      shows = each_gathered old new was ids start added id g.nodes g.kids g.index g.pending inv.below inv.shows;
      apart = apart_gathered base old new was ids start added id g.nodes g.kids g.index g.pending inv.within inv.apart;
      lambdas = lambdas;
      counted = counted_gathered old new was ids start added id g.nodes g.kids g.index g.pending inv.below totals now (length bodies') inv.counted e many;
    }

-- a node that is no lambda adds none
pub no_lambda : (k : NodeKind) (id : ℕ) (lams : List ℕ) → is_lambda k ≡ false → lams ≡ lams ++ own_lambda k id
no_lambda k id lams h = sym (ap (λ (own : Bool). lams ++ (if own then id ∷ [] else [])) h ∙ append-nil lams)

-- a lambda adds its own body
pub one_lambda : (old : List Node) (id : NodeId) (from to : ℕ) (bodies bodies' : List OpenBody) → id.0 ≡ length old
    → bodies' ≡ bodies ++ record { lam = id; from = from; to = to } ∷ [] → lams_of bodies' ≡ lams_of bodies ++ own_lambda Lambda (length old)
one_lambda old id from to bodies bodies' index e =
    ap (λ (bs : List OpenBody). lams_of bs) e ∙ map-append (λ (body : OpenBody). body.lam.0) bodies (record { lam = id; from = from; to = to } ∷ [])
    ∙ ap (λ (k : ℕ). lams_of bodies ++ k ∷ []) index
