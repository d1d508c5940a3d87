use Rattle.std.proofs.Common.{sym, ◌∙◌, ◌≡◌, ◌+◌, slice_index, true}
use Rattle.cpp_lex.specs.Ints.{is_l}
use Rattle.cpp_lex.proofs.IntEnds.{two_end, one_end}
use Rattle.cpp_lex.proofs.ints.long_suffix_end.Goals as goal

pub returns-then-byte-first : goal.returns-then-byte-first
returns-then-byte-first c =
    let l : is_l (slice_index c.args.text.now c.args.at) ≡ true = cc in
    let same : slice_index c.args.text.now (c.args.at + 1) ≡ slice_index c.args.text.now c.args.at = cc in
    two_end c.args.text.now c.args.at l same

pub returns-else-byte-first : goal.returns-else-byte-first
returns-else-byte-first c =
    let l : is_l (slice_index c.args.text.now c.args.at) ≡ true = cc in
    one_end c.args.text.now c.args.at l (λ e. c.if-byte-first.false (c.byte.ensures.is ∙ e ∙ sym c.byte-first.ensures.is))
