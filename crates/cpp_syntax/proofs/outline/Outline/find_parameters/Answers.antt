use Rattle.std.proofs.Common.{◌≡◌, ◌<◌, length, arith}
use Rattle.cpp_syntax.proofs.KnownParameters.{close_inside, known_none, known_set}
use Rattle.cpp_syntax.proofs.outline.Outline.find_parameters.Goals as goal

pub overflow_cast-close : goal.overflow_cast-close
overflow_cast-close c =
    let h : c.in-Some.close < length c.args.self.now.terminals = close_inside (rw c.in-Some.is at c.in_ok-close.ensures) in let few = c.requires.few
    in omega (arith, h, few)

pub returns-in-Some : goal.returns-in-Some
returns-in-Some c =
    known_set c.args.self.now c.args.parameters.now.items c.args.at c.in-Some.close c.requires.here c.requires.known
    (rw c.in-Some.is at c.in_ok-close.ensures)

pub returns-in_default : goal.returns-in_default
returns-in_default c =
    known_none c.args.self.now c.args.parameters.now.items c.args.at c.requires.here c.requires.known (rw c.in_default.is at c.in_ok-close.ensures)
