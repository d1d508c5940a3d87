use Rattle.std.proofs.Common.{◌≡◌, ◌<◌, ◌^◌, length, sym, arith}
use Rattle.std.proofs.lemmas.Bool.{eqb-true}
use Rattle.object_file.proofs.ReadLaws.{small_object}
use Rattle.object_file.proofs.reading.read_all.Goals as goal

pub finished-requires : goal.finished-requires
finished-requires c =
    let none : length c.in-Ok.rest.now ≡ 0 = eqb-true _ _ (sym c.if-not-is_end.ensures) in
    let small : length c.args.bytes.now < 2 ^ 63 = omega arith in
    small_object c.args.bytes.now _ _ (λ i. omega (arith, c.type_inv.bytes i)) c.in-Ok.ensures none small
