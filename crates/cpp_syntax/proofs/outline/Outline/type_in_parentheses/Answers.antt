use Rattle.std.proofs.Common.{◌≡◌, refl, arith}
use Rattle.cpp_syntax.specs.declared.terminal.Terminal.TheVariants as terminal
use Rattle.cpp_syntax.specs.Terminals.{open_paren, close_paren}
use Rattle.cpp_syntax.specs.Rules.{by_shape, type_id}
use Rattle.cpp_syntax.proofs.SingleTerminals.{passed, refused}
use Rattle.cpp_syntax.proofs.ShapeDerivations.{no_parentheses, none_inside, not_closed}
use Rattle.cpp_syntax.proofs.Recognisers.{known_later}
use Rattle.cpp_syntax.proofs.TypeShapes.{type_held}
use Rattle.cpp_syntax.proofs.outline.Outline.type_in_parentheses.Goals as goal

pub returns-then-not-is_at : goal.returns-then-not-is_at
returns-then-not-is_at c = no_parentheses (refused open_paren terminal.OpenParen refl _ (c.if-not-is_at.ensures.no refl))

pub returns-then-not-is_at-2 : goal.returns-then-not-is_at-2
returns-then-not-is_at-2 c =
    not_closed (type_id by_shape) refl refl (rw c.in-Some.is at c.in_ok-close.ensures)
    (refused close_paren terminal.CloseParen refl _ (c.if-not-is_at-2.ensures.no refl))

pub returns-in_default : goal.returns-in_default
returns-in_default c = none_inside (type_id by_shape) refl (rw c.in_default.is at c.in_ok-close.ensures)

pub returns : goal.returns
returns c =
    type_held (passed open_paren terminal.OpenParen refl _ (c.if-not-is_at.ensures.yes refl)) (rw c.in-Some.is at c.in_ok-close.ensures)
    (passed close_paren terminal.CloseParen refl _ (c.if-not-is_at-2.ensures.yes refl))

pub shaped_type_id-requires : goal.shaped_type_id-requires
shaped_type_id-requires c = record { known = known_later c.args.self.now c.args.parameters.now.items c.args.at _ (omega arith) c.requires.known }
