use Rattle.std.proofs.Common.{◌≡◌, refl, sym}
use Rattle.cpp_syntax.proofs.LongestMatches.{mark_none, node_none}
use Rattle.cpp_syntax.proofs.Recognisers.{many_starts, many_goes, many_stops, spans_leaf, behind_any}
use Rattle.cpp_syntax.proofs.outline.Outline.behind_cv_qualifiers.Goals as goal

pub words-init : goal.words-init
words-init c = many_starts

pub words-preserved : goal.words-preserved
words-preserved c = many_goes c.words.invariant (behind_any (spans_leaf (sym c.words-test.ensures.test)) refl _) refl refl

pub returns : goal.returns
returns c = many_stops c.words.invariant (node_none (mark_none (sym c.words-test.ensures.test)))
