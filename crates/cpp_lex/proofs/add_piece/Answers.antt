use Rattle.std.proofs.Common.{arith}
use Rattle.cpp_lex.proofs.Ends.{spelled_within}
use Rattle.cpp_lex.proofs.add_piece.Goals as goal

pub slice_bounds-spelling-count : goal.slice_bounds-spelling-count
slice_bounds-spelling-count c = let w = spelled_within c.args.text.now c.args.piece.kind c.args.from c.args.piece.to c.requires.piece.at.spelled in let after =
    w.after in omega arith

pub slice_bounds-spelling-start : goal.slice_bounds-spelling-start
slice_bounds-spelling-start c = let w = spelled_within c.args.text.now c.args.piece.kind c.args.from c.args.piece.to c.requires.piece.at.spelled in let after =
    w.after in omega arith

pub slice_bounds-spelling-end : goal.slice_bounds-spelling-end
slice_bounds-spelling-end c = let w = spelled_within c.args.text.now c.args.piece.kind c.args.from c.args.piece.to c.requires.piece.at.spelled in w.inside

pub overflow_cast-token : goal.overflow_cast-token
overflow_cast-token c =
    let w = spelled_within c.args.text.now c.args.piece.kind c.args.from c.args.piece.to c.requires.piece.at.spelled in
    let after = w.after in
    let inside = w.inside in
    let small = c.requires.small in
    omega arith

pub overflow_cast-token-2 : goal.overflow_cast-token-2
overflow_cast-token-2 c =
    let w = spelled_within c.args.text.now c.args.piece.kind c.args.from c.args.piece.to c.requires.piece.at.spelled in
    let inside = w.inside in
    let small = c.requires.small in
    omega arith
