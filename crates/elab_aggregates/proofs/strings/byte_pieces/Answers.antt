use Rattle.std.proofs.Common.{refl}
use Rattle.elab_make.specs.cpp_types.Typ.{typ_of}
use Rattle.elab_aggregates.proofs.StringParts.{byte_added, bytes_done}
use Rattle.elab_aggregates.proofs.strings.byte_pieces.Goals as goal

pub loop-i-preserved : goal.loop-i-preserved
loop-i-preserved c = byte_added (typ_of c.args.ty.now) c.args.at c.args.bytes.now c.loop-i.i _ _ _ _ _ _ _ _ c.loop-i.invariant c.loop-i-test.true refl
    c.in_ok-kid.ensures c.in_ok-keep.ensures

pub returns : goal.returns
returns c = bytes_done (typ_of c.args.ty.now) c.args.at c.args.bytes.now c.loop-i.i _ _ _ c.loop-i.invariant c.loop-i-test.false
