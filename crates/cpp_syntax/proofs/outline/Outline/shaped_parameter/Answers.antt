use Rattle.std.proofs.Common.{◌≡◌}
use Rattle.cpp_syntax.proofs.Recognisers.{known_later, span_ahead}
use Rattle.cpp_syntax.proofs.TypeShapes.{parameter_found, parameter_missing}
use Rattle.cpp_syntax.proofs.outline.Outline.shaped_parameter.Goals as goal

pub returns-in_default : goal.returns-in_default
returns-in_default c = parameter_missing (rw c.in_default.is at c.in_ok-behind.ensures)

pub shaped_declarator-requires-clause-known : goal.shaped_declarator-requires-clause-known
shaped_declarator-requires-clause-known c =
    known_later c.args.self.now c.args.parameters.now.items c.args.at c.in-Some.behind (span_ahead (rw c.in-Some.is at c.in_ok-behind.ensures))
    c.requires.known

pub returns : goal.returns
returns c =
    parameter_found c.args.self.now c.args.at c.in-Some.behind (rw c.in-Some.is at c.in_ok-behind.ensures) c.shaped_declarator.result
    c.shaped_declarator.ensures
