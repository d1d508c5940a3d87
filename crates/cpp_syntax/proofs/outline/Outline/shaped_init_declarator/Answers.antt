use Rattle.std.proofs.Common.{◌≡◌}
use Rattle.cpp_syntax.proofs.Recognisers.{known_later, span_ahead}
use Rattle.cpp_syntax.proofs.DeclarationShapes.{initialized, not_declared}
use Rattle.cpp_syntax.proofs.outline.Outline.shaped_init_declarator.Goals as goal

pub returns-in_default : goal.returns-in_default
returns-in_default c = not_declared (rw c.in_default.is at c.in_ok-behind.ensures)

pub behind_initializer-requires : goal.behind_initializer-requires
behind_initializer-requires c =
    record {
      known = known_later c.args.self.now c.args.parameters.now.items c.args.at c.in-Some.behind
          (span_ahead (rw c.in-Some.is at c.in_ok-behind.ensures)) c.requires.known;
    }

pub returns : goal.returns
returns c = initialized (rw c.in-Some.is at c.in_ok-behind.ensures) c.in_ok-next.ensures
