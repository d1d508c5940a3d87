use Rattle.std.proofs.Common.{refl}
use Rattle.elab_entry.specs.cpp_types.Typ.{typ_of}
use Rattle.elab_entry.specs.cpp_tree.Arena.{trees_of}
use Rattle.elab_lambdas.proofs.Kept.{closed_is}
use Rattle.elab_lambdas.proofs.making.closed.Goals as goal

pub returns : goal.returns
returns c =
    let st = c.args.st.now in
    closed_is st (record { env = st.env; work = record { nodes = c.block.new.nodes; frame = st.work.frame; globals = st.work.globals }; bodies = st.bodies })
    (trees_of c.end_of.new.nodes.items) c.args.ids.items c.end_of.new.list.items c.in_ok-made.made c.args.at
    (typ_of c.args.ret.now) c.in_ok-end_of.ensures c.in_ok-made.ensures refl
