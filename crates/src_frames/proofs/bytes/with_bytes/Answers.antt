use Rattle.std.proofs.Common.{◌≡◌, ◌∙◌, ◌+◌, ◌%◌, ap, arith}
use Rattle.std.specs.Prelude.{slice_set}
use Rattle.src_mean.specs.Exceptions.{bytes_of, with_bytes}
use Rattle.src_frames.proofs.Digits.{put_next, put_all}
use Rattle.src_frames.proofs.bytes.with_bytes.Goals as goal

pub loop-i-preserved : goal.loop-i-preserved
loop-i-preserved c =
    let put : c.put.new.bytes ≡ slice_set c.loop-i.out (c.args.offset + c.loop-i.i) (c.loop-i.left % 256) = cc in
    put_next c.args.offset c.loop-i.i c.size_of_kind-size.result c.loop-i.left c.loop-i.out c.put.new.bytes _ c.loop-i-test.true put c.loop-i.invariant

pub returns : goal.returns
returns c =
    let past : c.loop-i.i ≡ c.size_of_kind-size.result = omega arith in
    put_all c.args.offset c.loop-i.i c.size_of_kind-size.result c.loop-i.left c.loop-i.out _ past c.loop-i.invariant
    ∙ ap (λ z. with_bytes c.args.offset (bytes_of z c.args.word) c.args.bytes) c.size_of_kind-size.ensures.value
