use Rattle.std.proofs.Common.{◌≡◌, ◌+◌, ◌*◌, ◌/◌, ◌%◌, ◌^◌, ap, ◌∙◌, arith}
use Rattle.tx_memory.proofs.BitParts.{shifted, fits}
use Rattle.tx_memory.proofs.parts.with_part.Goals as goal

pub overflow_add-result : goal.overflow_add-result
overflow_add-result c = omega (
  arith,
  shifted c.args.value c.args.shift c.args.count c.requires.fits c.requires.within,
  fits c.args.word c.args.value c.args.shift c.args.count c.ranges.word.fits c.requires.fits c.requires.within,
  c.high_bits-high.ensures,
)

pub overflow_add-result-2 : goal.overflow_add-result-2
overflow_add-result-2 c = omega (
  arith,
  shifted c.args.value c.args.shift c.args.count c.requires.fits c.requires.within,
  fits c.args.word c.args.value c.args.shift c.args.count c.ranges.word.fits c.requires.fits c.requires.within,
  c.high_bits-high.ensures,
  c.low_bits-low.ensures,
)

pub returns-clause-merged : goal.returns-clause-merged
returns-clause-merged c = omega (
  arith,
  shifted c.args.value c.args.shift c.args.count c.requires.fits c.requires.within,
  c.high_bits-high.ensures,
  c.low_bits-low.ensures,
)

pub returns-clause-all : goal.returns-clause-all
returns-clause-all c = λ e.
    let none : c.args.shift ≡ 0 = omega (arith, e, c.requires.within) in
    let high = c.high_bits-high.ensures ∙ ap (λ n. c.args.word / 2 ^ n * 2 ^ n) (ap (λ n. n + c.args.count) none ∙ ap (λ n. 0 + n) e) in
    let low = c.low_bits-low.ensures ∙ ap (λ n. c.args.word % 2 ^ n) none in
    let middle : c.args.value * 2 ^ c.args.shift % 2 ^ 64 ≡ c.args.value * 2 ^ 0 =
    shifted c.args.value c.args.shift c.args.count c.requires.fits c.requires.within ∙ ap (λ n. c.args.value * 2 ^ n) none in
    omega (arith, high, low, middle, c.ranges.word.fits)
