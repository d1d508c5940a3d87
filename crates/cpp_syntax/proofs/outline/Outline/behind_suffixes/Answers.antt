use Rattle.std.proofs.Common.{◌≡◌, ◌<◌, ℕ, length, arith}
use Rattle.cpp_syntax.specs.Rules.{unnamed}
use Rattle.cpp_syntax.specs.Derivations.{no_read}
use Rattle.cpp_syntax.proofs.Recognisers.{many_starts, many_ahead, known_later}
use Rattle.cpp_syntax.proofs.DeclaratorShapes.{suffix_starts, suffixes_more, suffixes_end}
use Rattle.cpp_syntax.proofs.outline.Outline.behind_suffixes.Goals as goal

pub suffixes-init : goal.suffixes-init
suffixes-init c = λ n r. many_starts

pub behind_suffix-requires : goal.behind_suffix-requires
behind_suffix-requires c =
    record {
      known = known_later c.args.self.now c.args.parameters.now.items c.args.at c.suffixes.next
          (many_ahead (c.suffixes.invariant unnamed no_read)) c.requires.known;
    }

pub suffixes-preserved : goal.suffixes-preserved
suffixes-preserved c = suffixes_more c.suffixes.invariant c.in-Some.ensures

pub suffixes-smaller : goal.suffixes-smaller
suffixes-smaller c = let h = suffix_starts (c.in-Some.ensures unnamed no_read) in let i = h.0 in let j = h.1 in omega (arith, i, j)

pub returns-in_default : goal.returns-in_default
returns-in_default c = suffixes_end c.suffixes.invariant c.in_default.ensures
