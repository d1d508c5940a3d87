-- Where the first node of some trees stands that lies too deep, and the depths of their lambdas.
use Rattle.std.proofs.Common.{rules, ◌≡◌, Bool, ◌≤◌, ◌++◌, List, refl, sym, ◌∙◌, ap, subst, arith, length, Some, None, get_or, slice_get, true, append-nil}
use Rattle.std.proofs.Common.{Option, ◌<◌}
use Rattle.std.proofs.lemmas.Option.{slice_get-get_or}
use Rattle.cpp_ast.specs.declared.arena.NodeId.{NodeId}
use Rattle.cpp_ast.specs.Orders.{are_below}
use Rattle.cpp_ast.specs.Trees.{ShowsAllWith}
use Rattle.cpp_parse_expr.specs.Depths.{at_most_one}
use Rattle.cpp_parse_expr.proofs.NodeIds.{below_at, below_more}
use Rattle.cpp_parse_expr.proofs.FirstDeepNode.{parts_of, node_beyond, found_in_kids, found_in_body, past_both, own_depth, nothing_there, none_noted_past}
use Rattle.cpp_parse_expr.proofs.FirstDeepNode.{passing_more, passing_found, passing_all}
use Rattle.cpp_parse_expr.proofs.depth.+down.Goals as goal

abbrev first_id : NodeId
first_id = record { 0 = 0 }

pub first_deep-first_deep_kid-requires : goal.first_deep-first_deep_kid-requires
first_deep-first_deep_kid-requires t c =
    let below : are_below (length c.args.nodes.now) c.deref.result.now ≡ true = ap (are_below (length c.args.nodes.now)) c.deref.ensures.value ∙
    below_more c.args.id.0 (length c.args.nodes.now) c.node-node.result.now.kids.items (let inside = c.requires.inside in omega (arith, inside))
    c.node-node.ensures.lower in
    (search rules, (c.requires.there, (below, (let h = c.if-depth-most.false in let e = c.from-most.ensures in omega (arith, h, e)))))

pub first_deep-returns-then-depth-most : goal.first_deep-returns-then-depth-most
first_deep-returns-then-depth-most t c = λ bodies tree noted s.
    node_beyond bodies c.args.nodes.now c.args.limit c.args.depth c.node-node.result.now (at_most_one (slice_get c.args.noted.now c.args.id.0)) tree
    (parts_of bodies c.args.nodes.now c.args.id.0 c.node-node.result.now (at_most_one (slice_get c.args.noted.now c.args.id.0)) tree
    c.node-node.ensures.node (λ kids. noted.each kids c.args.id.0) s) (let h = c.if-depth-most.true in let e = c.from-most.ensures in omega (arith, h, e))

pub first_deep-returns-in-Some : goal.first_deep-returns-in-Some
first_deep-returns-in-Some t c = λ bodies tree noted s.
    let here = rw c.in-Some.is at c.in_ok-position.ensures in
    found_in_kids bodies c.args.nodes.now c.args.limit c.args.depth c.node-node.result.now (at_most_one (slice_get c.args.noted.now c.args.id.0)) tree
    (parts_of bodies c.args.nodes.now c.args.id.0 c.node-node.result.now (at_most_one (slice_get c.args.noted.now c.args.id.0)) tree
    c.node-node.ensures.node (λ kids. noted.each kids c.args.id.0) s)
    (let h = c.if-depth-most.false in let e = c.from-most.ensures in omega (arith, h, e)) c.in-Some.position
    (λ trees shown. here bodies trees noted (subst (λ (kids : List NodeId). ShowsAllWith bodies c.args.nodes.now kids trees)
    (sym c.deref.ensures.value) shown))

pub first_deep-returns-in-Some-2 : goal.first_deep-returns-in-Some-2
first_deep-returns-in-Some-2 t c = λ bodies tree noted s.
    let first = rw c.in_default.is at c.in_ok-position.ensures in
    let here = rw c.in-Some-2.is at c.in_ok-behind.ensures in
    found_in_body bodies c.args.nodes.now c.args.limit c.args.depth c.node-node.result.now (at_most_one (slice_get c.args.noted.now c.args.id.0)) tree
    (parts_of bodies c.args.nodes.now c.args.id.0 c.node-node.result.now (at_most_one (slice_get c.args.noted.now c.args.id.0)) tree
    c.node-node.ensures.node (λ kids. noted.each kids c.args.id.0) s) (let h = c.if-depth-most.false in let e = c.from-most.ensures in omega (arith, h, e))
    c.args.lambdas.now.items c.first_deep_kid.new.lambdas.items
    (λ trees shown. first bodies trees noted (subst (λ (kids : List NodeId). ShowsAllWith bodies c.args.nodes.now kids trees)
    (sym c.deref.ensures.value) shown)) c.in-Some-2.behind (λ trees shown. here bodies trees noted shown)

pub first_deep-returns-then-is_lambda : goal.first_deep-returns-then-is_lambda
first_deep-returns-then-is_lambda t c = λ bodies tree noted s.
    let first = rw c.in_default.is at c.in_ok-position.ensures in
    let last = rw c.in_default-2.is at c.in_ok-behind.ensures in
    past_both bodies c.args.nodes.now c.args.limit c.args.depth c.node-node.result.now (at_most_one (slice_get c.args.noted.now c.args.id.0)) tree
    (parts_of bodies c.args.nodes.now c.args.id.0 c.node-node.result.now (at_most_one (slice_get c.args.noted.now c.args.id.0)) tree
    c.node-node.ensures.node (λ kids. noted.each kids c.args.id.0) s) (let h = c.if-depth-most.false in let e = c.from-most.ensures in omega (arith, h, e))
    c.args.lambdas.now.items c.first_deep_kid.new.lambdas.items
    (λ trees shown. first bodies trees noted (subst (λ (kids : List NodeId). ShowsAllWith bodies c.args.nodes.now kids trees)
    (sym c.deref.ensures.value) shown)) c.first_deep_in_body.new.lambdas.items c.push.new.self.items (λ trees shown. last bodies trees noted shown)
    (c.in_ok-push.ensures.items ∙ ap (λ (own : Bool). c.first_deep_in_body.new.lambdas.items ++ own_depth own c.args.depth)
    (sym c.if-is_lambda.true ∙ c.is_lambda.ensures))

pub first_deep-returns : goal.first_deep-returns
first_deep-returns t c = λ bodies tree noted s.
    let first = rw c.in_default.is at c.in_ok-position.ensures in
    let last = rw c.in_default-2.is at c.in_ok-behind.ensures in
    past_both bodies c.args.nodes.now c.args.limit c.args.depth c.node-node.result.now (at_most_one (slice_get c.args.noted.now c.args.id.0)) tree
    (parts_of bodies c.args.nodes.now c.args.id.0 c.node-node.result.now (at_most_one (slice_get c.args.noted.now c.args.id.0)) tree
    c.node-node.ensures.node (λ kids. noted.each kids c.args.id.0) s) (let h = c.if-depth-most.false in let e = c.from-most.ensures in omega (arith, h, e))
    c.args.lambdas.now.items c.first_deep_kid.new.lambdas.items
    (λ trees shown. first bodies trees noted (subst (λ (kids : List NodeId). ShowsAllWith bodies c.args.nodes.now kids trees)
    (sym c.deref.ensures.value) shown)) c.first_deep_in_body.new.lambdas.items c.first_deep_in_body.new.lambdas.items
    (λ trees shown. last bodies trees noted shown) (sym (append-nil c.first_deep_in_body.new.lambdas.items)
    ∙ ap (λ (own : Bool). c.first_deep_in_body.new.lambdas.items ++ own_depth own c.args.depth) (sym c.if-is_lambda.false ∙ c.is_lambda.ensures))

pub first_deep_in_body-returns-then-lambda-many : goal.first_deep_in_body-returns-then-lambda-many
first_deep_in_body-returns-then-lambda-many t c = λ bodies trees noted s.
    let past : length c.args.noted.now ≤ c.args.id.0 = (let h = c.if-lambda-many.true in omega (arith, h)) in
    nothing_there bodies c.args.nodes.now (at_most_one (slice_get c.args.noted.now c.args.id.0)) c.args.limit c.args.depth trees
    c.args.lambdas.now.items (none_noted_past c.args.noted.now c.args.id.0 past) s

pub first_deep_in_body-returns-in-None : goal.first_deep_in_body-returns-in-None
first_deep_in_body-returns-in-None t c = λ bodies trees noted s.
    let inside : c.args.id.0 < length c.args.noted.now = (let h = c.if-lambda-many.false in omega (arith, h)) in
    let none : slice_get c.args.noted.now c.args.id.0 ≡ Some None = slice_get-get_or c.args.noted.now c.args.id.0 None inside ∙ ap
    (λ (o : Option NodeId). Some o) c.in-None.is in
    nothing_there bodies c.args.nodes.now (at_most_one (slice_get c.args.noted.now c.args.id.0)) c.args.limit c.args.depth trees
    c.args.lambdas.now.items (ap at_most_one none) s

pub first_deep_kid-node-requires : goal.first_deep_kid-node-requires
first_deep_kid-node-requires t c =
    below_at (length c.args.nodes.now) c.args.kids.now c.kids.kid-index (get_or c.args.kids.now c.kids.kid-index first_id) c.requires.below
    (slice_get-get_or c.args.kids.now c.kids.kid-index first_id c.kids-test.true)

pub first_deep_kid-returns-in-Some : goal.first_deep_kid-returns-in-Some
first_deep_kid-returns-in-Some t c = λ bodies trees noted s.
    let here = rw c.in-Some.is at c.in_ok-position.ensures in
    passing_found bodies c.args.nodes.now c.args.kids.now c.kids.kid-index c.args.limit c.args.depth c.depth_of_kid-below.result
    (get_or c.args.kids.now c.kids.kid-index first_id) first_id c.node.result.now trees c.args.lambdas.now.items c.kids.lambdas.items
    c.node.ensures.node c.depth_of_kid-below.ensures c.kids-test.true refl (c.kids.invariant bodies trees noted s) c.in-Some.position
    (λ tree shown. here bodies tree noted shown)

pub first_deep_kid-kids-preserved : goal.first_deep_kid-kids-preserved
first_deep_kid-kids-preserved t c = λ bodies trees noted s.
    let here = rw c.in_default.is at c.in_ok-position.ensures in
    passing_more bodies c.args.nodes.now c.args.kids.now c.kids.kid-index c.args.limit c.args.depth c.depth_of_kid-below.result
    (get_or c.args.kids.now c.kids.kid-index first_id) first_id c.node.result.now trees c.args.lambdas.now.items c.kids.lambdas.items
    c.node.ensures.node c.depth_of_kid-below.ensures c.kids-test.true refl (c.kids.invariant bodies trees noted s) c.first_deep.new.lambdas.items
    (λ tree shown. here bodies tree noted shown)

pub first_deep_kid-returns : goal.first_deep_kid-returns
first_deep_kid-returns t c =
    λ bodies trees noted s. passing_all bodies c.args.nodes.now c.args.kids.now c.kids.kid-index c.args.limit c.args.depth trees
    c.args.lambdas.now.items c.kids.lambdas.items (let h = c.kids-test.false in omega (arith, h)) (c.kids.invariant bodies trees noted s)
