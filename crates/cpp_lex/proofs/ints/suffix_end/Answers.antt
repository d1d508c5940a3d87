use Rattle.std.proofs.Common.{◌≡◌, slice_index, true, false}
use Rattle.cpp_lex.specs.Ints.{is_u}
use Rattle.cpp_lex.proofs.IntEnds.{u_l_end, u_end, plain_end, l_u_end, l_end}
use Rattle.cpp_lex.proofs.ints.suffix_end.Goals as goal

pub returns-in-Some : goal.returns-in-Some
returns-in-Some c =
    let u : is_u (slice_index c.args.text.now c.args.at) ≡ true = cc in
    u_l_end c.args.text.now c.args.at c.in-Some.end u c.in-Some.ensures

pub returns-in-None : goal.returns-in-None
returns-in-None c =
    let u : is_u (slice_index c.args.text.now c.args.at) ≡ true = cc in
    u_end c.args.text.now c.args.at u c.in-None.ensures

pub returns-in_default : goal.returns-in_default
returns-in_default c =
    let no_u : is_u (slice_index c.args.text.now c.args.at) ≡ false = cc in
    plain_end c.args.text.now c.args.at no_u c.in_default.ensures

pub returns-then-is_u-2 : goal.returns-then-is_u-2
returns-then-is_u-2 c =
    let no_u : is_u (slice_index c.args.text.now c.args.at) ≡ false = cc in
    let u : is_u (slice_index c.args.text.now c.in-Some-long_suffix_end.end) ≡ true = cc in
    l_u_end c.args.text.now c.args.at c.in-Some-long_suffix_end.end no_u c.in-Some-long_suffix_end.ensures u

pub returns-else-is_u-2 : goal.returns-else-is_u-2
returns-else-is_u-2 c =
    let no_u : is_u (slice_index c.args.text.now c.args.at) ≡ false = cc in
    let no_u_behind : is_u (slice_index c.args.text.now c.in-Some-long_suffix_end.end) ≡ false = cc in
    l_end c.args.text.now c.args.at c.in-Some-long_suffix_end.end no_u c.in-Some-long_suffix_end.ensures no_u_behind
