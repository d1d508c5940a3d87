use Rattle.std.proofs.Common.{◌≡◌, ◌<◌, ℕ, List, Option, Some, length, get_or, replicate, ◌∙◌, ap, arith}
use Rattle.std.proofs.lemmas.List.{length-set, length-replicate}
use Rattle.std.proofs.lemmas.Option.{slice_get-get_or}
use Rattle.cpp_ast.specs.declared.arena.NodeId.{NodeId}
use Rattle.cpp_ast.specs.declared.units.LamBody.{LamBody}
use Rattle.cpp_parse.proofs.BodyTable.{no_entry, none_or, table_empty, nodes_empty, table_more, nodes_more}
use Rattle.cpp_parse.proofs.bodies.bodies_by_node.Goals as goal

abbrev first_id : NodeId
first_id = record { 0 = 0 }

abbrev no_body : LamBody
no_body = record { lam = first_id; body = first_id }

pub bodies-init : goal.bodies-init
bodies-init c =
    let are : c.in_ok-noted.noted.items ≡ replicate (length c.args.nodes.now) no_entry = c.in_ok-noted.ensures.items_if_clones_equal
    (none_or _ (λ x e. e)) ∙ ap (λ (n : ℕ). replicate n no_entry) c.len.ensures in (
      ap (λ (t : List (Option NodeId)). length t) are ∙ length-replicate (length c.args.nodes.now) no_entry,
      table_empty (length c.args.nodes.now)
          c.in_ok-noted.noted.items are,
      nodes_empty (length c.args.nodes.now) (length c.args.nodes.now) c.in_ok-noted.noted.items are,
    )

pub index_mut-requires : goal.index_mut-requires
index_mut-requires c =
    let body : LamBody = get_or c.args.bodies.now c.bodies.body-index no_body in
    let low : body.lam.0 < length c.args.nodes.now = (c.requires.within c.bodies.body-index body
    (slice_get-get_or c.args.bodies.now c.bodies.body-index no_body c.bodies-test.true)).0 in
    let long = c.bodies.invariant.0 in
    let ok = c.bodies.noted.ok.0 in
    omega (arith, low, long, ok)

pub bodies-preserved : goal.bodies-preserved
bodies-preserved c =
    let body : LamBody = get_or c.args.bodies.now c.bodies.body-index no_body in
    let low = c.requires.within c.bodies.body-index body (slice_get-get_or c.args.bodies.now c.bodies.body-index no_body c.bodies-test.true) in
    let long : length c.bodies.noted.items ≡ length c.args.nodes.now = c.bodies.invariant.0 in
    let within : body.lam.0 < length c.bodies.noted.items = (let l = low.0 in omega (arith, l, long)) in (
      length-set c.bodies.noted.items body.lam.0 (Some body.body) ∙ long,
      table_more c.args.bodies.now c.bodies.body-index body c.bodies.noted.items c.requires.once c.bodies-test.true
          (slice_get-get_or c.args.bodies.now c.bodies.body-index no_body c.bodies-test.true) within c.bodies.invariant.1,
      nodes_more (length c.args.nodes.now) body.lam.0 body.body c.bodies.noted.items within low.1 c.bodies.invariant.2,
    )
