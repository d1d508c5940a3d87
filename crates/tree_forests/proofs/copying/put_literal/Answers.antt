use Rattle.std.proofs.Common.{refl}
use Rattle.tree_forests.proofs.Copied.{literal_of}
use Rattle.tree_forests.proofs.copying.put_literal.Goals as goal

pub returns : goal.returns
returns c = literal_of c.args.nodes.now.items _ _ _ c.new.ensures.items refl refl refl refl c.push_node.ensures
