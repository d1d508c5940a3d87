use Rattle.std.proofs.Common.{◌≡◌, refl, sym}
use Rattle.cpp_syntax.specs.declared.terminal.Terminal.TheVariants as terminal
use Rattle.cpp_syntax.specs.Terminals.{equal}
use Rattle.cpp_syntax.proofs.SingleTerminals.{passed, refused}
use Rattle.cpp_syntax.proofs.KnownParameters.{passed_seen}
use Rattle.cpp_syntax.proofs.DeclarationShapes.{equal_found, equal_empty, nothing_seen}
use Rattle.cpp_syntax.proofs.outline.Outline.behind_initializer.Goals as goal

pub returns-then-next-at : goal.returns-then-next-at
returns-then-next-at c = equal_empty (passed equal terminal.Equal refl _ (c.if-is_at.ensures.yes refl)) c.in_ok-next.ensures c.if-next-at.true

pub returns-then-is_at : goal.returns-then-is_at
returns-then-is_at c = equal_found (passed equal terminal.Equal refl _ (c.if-is_at.ensures.yes refl)) c.in_ok-next.ensures c.if-next-at.false

pub returns-then-is_some : goal.returns-then-is_some
returns-then-is_some c =
    nothing_seen (refused equal terminal.Equal refl _ (c.if-is_at.ensures.no refl)) (passed_seen c.args.self.now c.args.at c.behind_parameters.result
    c.behind_parameters.ensures (sym c.if-is_some.ensures))
