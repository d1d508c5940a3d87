use Rattle.std.proofs.Common.{◌≡◌, ℕ, ◌+◌, ◌-◌, ◌<◌, ◌≤◌, get_or, refl, arith}
use Rattle.src_frames.proofs.Digits.{read_next}
use Rattle.src_frames.proofs.bytes.read_bytes.Goals as goal

pub loop-i-preserved : goal.loop-i-preserved
loop-i-preserved c =
    let small : (k : ℕ) → get_or c.args.bytes.now k 0 < 256 = λ k. omega (arith, c.type_inv.bytes k) in
    let few : c.size_of_kind-size.result ≤ 8 = omega arith in
    let byte : c.from-in-loop-i.result ≡ get_or c.args.bytes.now (c.args.offset + (c.size_of_kind-size.result - 1 - c.loop-i.i)) 0 = cc in
    read_next c.args.bytes.now c.args.offset c.size_of_kind-size.result c.loop-i.i c.loop-i.word c.from-in-loop-i.result _ small few c.loop-i-test.true byte
    refl c.loop-i.invariant
