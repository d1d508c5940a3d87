use Rattle.std.proofs.Common.{◌∙◌, ◌≡◌, ◌<◌, length, slice_get, Some, refl, sym, subst, arith}
use Rattle.std.proofs.lemmas.Option.{slice_get_read}
use Rattle.cpp_tree.specs.Arena.{trees_of}
use Rattle.tx_unsafe.specs.Volatile.{marked}
use Rattle.tx_safety.proofs.Contents.{new_mark_is}
use Rattle.tx_safety.proofs.marks.new_mark_in.Goals as goal

pub returns : goal.returns
returns c =
    let f = c.index-funcs-n.result in let d = c.index-all-n.result in
    let g : slice_get c.args.funcs.now c.args.n ≡ Some f =
    slice_get_read c.args.funcs.now (length c.args.funcs.now) c.args.n f refl c.requires.within c.index-funcs-n.is in
    let k : slice_get c.args.all.now c.args.n ≡ Some d =
    slice_get_read c.args.all.now (length c.args.all.now) c.args.n d refl (omega (arith, c.requires.length)) c.index-all-n.is in
    c.new_mark_at.ensures (trees_of c.args.nodes.now)
    ∙ new_mark_is (marked c.args.volatile.now) (trees_of c.args.nodes.now) c.args.funcs.now _ c.args.n f d g (c.requires.contents.each c.args.n f d g k)
