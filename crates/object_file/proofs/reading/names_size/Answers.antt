use Rattle.std.proofs.Common.{◌≡◌, length, ap, ◌∙◌, arith}
use Rattle.tx_code.specs.Objects.{bytes_of}
use Rattle.object_bytes.specs.Spelling.{name_bytes}
use Rattle.object_bytes.proofs.Positions.{dropped, size_more}
use Rattle.object_file.proofs.reading.names_size.Goals as goal

pub loop-name-preserved : goal.loop-name-preserved
loop-name-preserved c =
    let more = size_more name_bytes _ _ _ _ _ (dropped bytes_of _ _ _ c.loop-name-test.true c.name-item.is) c.loop-name.invariant in
    let size : c.name_size-size.result ≡ length (name_bytes c.name-item.result.items) = c.name_size-size.ensures
    ∙ ap (λ n. length (name_bytes n)) c.deref.ensures.value in
    omega (arith, more)
