use Rattle.std.proofs.Common.{arith, ◌≡◌, ◌+◌, drop, sym, ◌∙◌, slice_index}
use Rattle.cpp_lex.specs.Numbers.{number, with_byte}
use Rattle.cpp_lex.proofs.NumberLemmas.{number_from, fold_grows, fold_step, fold_end}
use Rattle.cpp_lex.proofs.ints.number.Goals as goal

pub loop-b-init : goal.loop-b-init
loop-b-init c = record { rest = number_from c.args.base c.args.bytes.now; small = omega arith }

pub returns-in_default : goal.returns-in_default
returns-in_default c = λ small.
    let bytes = c.args.bytes.now in
    let step = fold_step c.args.base c.loop-b.total c.loop-b.b-index bytes c.loop-b-test.true in
    let grows = fold_grows c.args.base (with_byte c.args.base c.loop-b.total (slice_index bytes c.loop-b.b-index))
    (drop (c.loop-b.b-index + 1) bytes) c.requires.at_least in
    let invariant = c.loop-b.invariant.rest in
    c.in_default.ensures (omega arith)

pub returns : goal.returns
returns c =
    let ends = fold_end c.args.base c.loop-b.total c.loop-b.b-index c.args.bytes.now c.loop-b-test.false in
    let total : c.loop-b.total ≡ number c.args.base c.args.bytes.now = sym ends ∙ c.loop-b.invariant.rest in
    let small = c.loop-b.invariant.small in (omega arith, total)
