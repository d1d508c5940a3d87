use Rattle.std.proofs.Common.{arith, sym, ap, ◌∙◌, ◌≡◌, ◌+◌, ◌-◌, ◌%◌, ◌/◌, suc}
use Rattle.std.specs.Prelude.{slice_set}
use Rattle.tx_code.specs.Meaning.{put_bytes}
use Rattle.vm_frames.proofs.Numbers.{put_more, put_none}
use Rattle.vm_frames.proofs.values.put_bytes.Goals as goal

pub loop-i-preserved : goal.loop-i-preserved
loop-i-preserved c =
    let n : c.args.count - c.loop-i.i ≡ suc (c.args.count - (c.loop-i.i + 1)) = omega arith in
    let q : c.args.at + (c.loop-i.i + 1) ≡ c.args.at + c.loop-i.i + 1 = omega arith in
    let k : c.args.at + c.loop-i.i ≡ c.args.at + c.from.result = omega arith in
    c.loop-i.invariant ∙ put_more c.loop-i.bytes (c.args.at + c.loop-i.i) (c.args.at + (c.loop-i.i + 1)) (c.args.count - c.loop-i.i)
    (c.args.count - (c.loop-i.i + 1)) c.loop-i.rest n q
    ∙ ap (λ z. put_bytes z (c.args.at + (c.loop-i.i + 1)) (c.args.count - (c.loop-i.i + 1)) (c.loop-i.rest / 256))
    (ap (λ z. slice_set c.loop-i.bytes z (c.loop-i.rest % 256)) k ∙ sym c.put_byte.ensures)

pub returns : goal.returns
returns c = sym (c.loop-i.invariant ∙ put_none c.loop-i.bytes (c.args.at + c.loop-i.i) (c.args.count - c.loop-i.i) c.loop-i.rest (omega arith))
