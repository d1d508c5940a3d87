use Rattle.std.proofs.Common.{rules, ◌≡◌, ◌∷◌, ◌++◌, [], length, drop, true, ap, sym, ◌∙◌, refl, List, ℕ}
use Rattle.cpp_ast.specs.Orders.{are_below}
use Rattle.cpp_ast.specs.declared.arena.Node.{Node}
use Rattle.cpp_ast.specs.declared.arena.NodeId.{NodeId}
use Rattle.cpp_syntax.proofs.NodeValues.{below_drop}
use Rattle.cpp_syntax.proofs.arena.gather.Goals as goal

pub add-requires-clause-kids : goal.add-requires-clause-kids
add-requires-clause-kids c =
    ap (λ (is : List NodeId). are_below (length c.args.nodes.now) is) (search rules)
    ∙ below_drop (length c.args.nodes.now) c.args.start c.args.ids.now.items c.requires

pub returns-clause-gathered : goal.returns-clause-gathered
returns-clause-gathered c = record {
  added = record { kind = c.args.kind; at = c.args.at; kids = c.in_ok-kids.kids; token = c.args.token };
  nodes = search rules;
  kind_is = refl;
  at_is = refl;
  token_is = refl;
  kids = search rules;
  index = search rules;
  pending = search rules;
}
