use Rattle.std.proofs.Common.{map}
use Rattle.tx_code.specs.Objects.{bytes_of}
use Rattle.object_bytes.proofs.Puts.{source_small}
use Rattle.object_bytes.proofs.writing.put_source.Goals as goal

pub put_count-requires : goal.put_count-requires
put_count-requires c =
    rw (c.number_of.ensures, c.deref.ensures.value) (source_small c.args.version (map bytes_of c.args.names.now) _ c.requires.count
    (rw c.in-Some.is at c.requires.named))
