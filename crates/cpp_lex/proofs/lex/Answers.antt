use Rattle.std.proofs.Common.{◌<◌, ◌-◌, arith, length, refl, map}
use Rattle.cpp_lex.proofs.Ends.{spelled_within}
use Rattle.cpp_lex.proofs.TokenLists.{nothing_read, read_on, first_of_text}
use Rattle.cpp_lex.specs.Tokens.{lexeme_of}
use Rattle.cpp_lex.proofs.lex.Goals as goal

pub pieces-init : goal.pieces-init
pieces-init c = record {
  inside = omega arith;
  first = (λ yes. first_of_text c.args.text.now, λ f. refl);
  read = rw c.new-items.ensures.items (nothing_read c.args.text.now);
}

pub pieces-smaller : goal.pieces-smaller
pieces-smaller c =
    let w = spelled_within c.args.text.now c.in-Some.piece.kind c.pieces.at c.in-Some.piece.to c.in-Some.ensures.at.spelled in
    let after : c.pieces.at < c.in-Some.piece.to = w.after in
    let test : c.pieces.at < length c.args.text.now = c.pieces-test.true in
    let less : length c.args.text.now - c.in-Some.piece.to < length c.args.text.now - c.pieces.at = omega arith in
    less

pub pieces-preserved : goal.pieces-preserved
pieces-preserved c =
    let w = spelled_within c.args.text.now c.in-Some.piece.kind c.pieces.at c.in-Some.piece.to c.in-Some.ensures.at.spelled in
    record {
      inside = w.inside;
      first = c.is_first_after-is_first.ensures;
      read = read_on c.args.text.now c.pieces.at c.in-Some.piece.to c.in-Some.piece.kind (map lexeme_of c.pieces.items.items)
          (map lexeme_of c.add_piece.new.tokens.items) c.pieces.invariant.read c.in-Some.ensures.at c.in-Ok.ensures;
    }
