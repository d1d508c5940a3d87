use Rattle.std.proofs.Common.{arith, ap, ◌∙◌, ◌≡◌, ◌+◌, ◌-◌, slice_index_or}
use Rattle.vm_frames.proofs.Numbers.{get_none, get_more, small, bound_more}
use Rattle.vm_frames.proofs.values.get_bytes.Goals as goal

pub loop-i-init : goal.loop-i-init
loop-i-init c = (get_none _ _, omega arith)

pub overflow_mul-value : goal.overflow_mul-value
overflow_mul-value c = omega (arith, small c.loop-i.i (omega arith), c.loop-i.invariant.1)

pub overflow_add-value : goal.overflow_add-value
overflow_add-value c = omega (arith, small c.loop-i.i (omega arith), c.loop-i.invariant.1)

pub loop-i-preserved : goal.loop-i-preserved
loop-i-preserved c =
    let p : c.args.at + c.from.result ≡ c.args.at + (c.args.count - (c.loop-i.i + 1)) = omega arith in
    let q : c.args.at + (c.args.count - c.loop-i.i) ≡ c.args.at + (c.args.count - (c.loop-i.i + 1)) + 1 = omega arith in
    let b : c.from-in-loop-i.result ≡ slice_index_or c.args.bytes.now (c.args.at + (c.args.count - (c.loop-i.i + 1))) 0 = c.from-in-loop-i.ensures
    ∙ c.byte_at.ensures ∙ ap (λ z. slice_index_or c.args.bytes.now z 0) p in (
      get_more c.args.bytes.now (c.args.at + (c.args.count - (c.loop-i.i + 1)))
          (c.args.at + (c.args.count - c.loop-i.i)) c.loop-i.i c.loop-i.value c.from-in-loop-i.result c.loop-i.invariant.0 q b,
      bound_more c.loop-i.i c.loop-i.value c.from-in-loop-i.result c.loop-i.invariant.1 (omega arith),
    )
