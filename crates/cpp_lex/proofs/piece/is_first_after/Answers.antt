use Rattle.cpp_lex.proofs.Ends.{not_first_behind}
use Rattle.cpp_lex.proofs.piece.is_first_after.Goals as goal

pub returns-in_default : goal.returns-in_default
returns-in_default c = (
  λ t. absurd cc,
  λ f. absurd
      (not_first_behind c.args.text.now c.args.piece.kind c.args.from c.args.piece.to c.requires.piece.at.spelled c.in_default.not-Blank f),
)
