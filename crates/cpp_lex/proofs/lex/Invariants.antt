use Rattle.std.proofs.Common.{length, map, ◌-◌, ◌≤◌, ◌↔◌, IsTrue}
use Rattle.cpp_lex.specs.Skipped.{IsFirstOnLine}
use Rattle.cpp_lex.specs.Tokens.{lexeme_of}
use Rattle.cpp_lex.proofs.TokenLists.{ReadSoFar}
use Rattle.cpp_lex.proofs.lex.Given as goal

abbrev pub invariant-pieces : goal.invariant-pieces
invariant-pieces l = record {
  inside : l.at ≤ length l.text;
  first : IsTrue l.is_first ↔ IsFirstOnLine l.text l.at;
  read : ReadSoFar l.text l.at (map lexeme_of l.items.items);
}

abbrev pub decreases-pieces : goal.decreases-pieces
decreases-pieces l = length l.text - l.at
