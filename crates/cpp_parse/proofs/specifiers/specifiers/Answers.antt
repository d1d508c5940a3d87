use Rattle.std.proofs.Common.{ℕ, Option, None, refl, sym as back, ap}
use Rattle.cpp_syntax.specs.Derivations.{first_or}
use Rattle.cpp_syntax.proofs.LongestMatches.{mark_none, node_none}
use Rattle.cpp_syntax.proofs.Readers.{appended_none}
use Rattle.cpp_syntax.proofs.ReaderLoops.{any_begins, any_more}
use Rattle.cpp_parse_expr.proofs.ReaderAnswers.{leaf_there, many_done}
use Rattle.cpp_parse.proofs.specifiers.specifiers.Goals as goal

pub words-init : goal.words-init
words-init c = (any_begins (appended_none c.args.out.now) c.requires.here, refl)

pub words-preserved : goal.words-preserved
words-preserved c = (
  any_more c.words.invariant.0 (leaf_there (back c.words-test.ensures.test) (c.words-test.ensures.inside refl) c.in_ok-next.ensures) refl refl
      refl,
  ap (λ (k : Option ℕ). first_or k None) c.words.invariant.1,
)

pub returns : goal.returns
returns c = many_done c.words.invariant.0 c.words.invariant.1 (node_none (mark_none (back c.words-test.ensures.test))) refl
