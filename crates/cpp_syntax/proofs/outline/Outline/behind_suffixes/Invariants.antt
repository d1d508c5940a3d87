use Rattle.std.proofs.Common.{◌≡◌, ℕ, ◌-◌, length}
use Rattle.cpp_syntax.proofs.DeclaratorShapes.{SuffixesSoFar}
use Rattle.cpp_syntax.proofs.outline.Outline.behind_suffixes.Given as goal

abbrev pub invariant-suffixes : goal.invariant-suffixes
invariant-suffixes l = SuffixesSoFar l.self l.at l.next

abbrev pub decreases-suffixes : goal.decreases-suffixes
decreases-suffixes l = length l.self.terminals - l.next
