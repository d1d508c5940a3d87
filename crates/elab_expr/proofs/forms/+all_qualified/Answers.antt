use Rattle.std.proofs.Common.{◌≡◌, ◌-◌, ◌∙◌, true, length, take, drop, sym, arith}
use Rattle.elab_rows.specs.cpp_ast.Orders.{are_below}
use Rattle.elab_expr.proofs.Several.{below_rest, rest_is, rest_shorter}
use Rattle.elab_expr.proofs.forms.+all_qualified.Goals as goal

pub all_qualified-requires : goal.all_qualified-requires
all_qualified-requires t c =
    let low : are_below (length c.args.nodes.now) (take (length c.args.ids.now - 1) (drop 1 c.args.ids.now)) ≡ true =
    rw (rest_is c.args.ids.now) (below_rest (length c.args.nodes.now) c.args.ids.now c.requires) in
    let shorter = rest_shorter c.args.ids.now (sym c.is_empty.ensures ∙ c.if-is_empty.false) in
    (omega (arith, c.decreases, shorter), low)
