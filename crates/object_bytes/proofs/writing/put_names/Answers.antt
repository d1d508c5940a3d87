use Rattle.tx_code.specs.Objects.{bytes_of}
use Rattle.tx_code.specs.WellFormed.{is_length}
use Rattle.object_bytes.proofs.Puts.{fits_at, short_name}
use Rattle.object_bytes.proofs.writing.put_names.Goals as goal

pub put_name-requires : goal.put_name-requires
put_name-requires c = rw c.deref.ensures.value (short_name _
    (fits_at is_length bytes_of _ _ c.name-item.result c.requires.each c.loop-name-test.true c.name-item.is))
