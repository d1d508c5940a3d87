use Rattle.std.proofs.Common.{◌≡◌, refl}
use Rattle.cpp_syntax.specs.declared.terminal.Terminal.TheVariants as terminal
use Rattle.cpp_syntax.specs.Terminals.{semicolon}
use Rattle.cpp_syntax.proofs.SingleTerminals.{passed, refused}
use Rattle.cpp_syntax.proofs.Recognisers.{known_later, span_ahead}
use Rattle.cpp_syntax.proofs.DeclarationShapes.{declaration_seen, no_types_seen, no_declarators_seen, no_semicolon_seen}
use Rattle.cpp_syntax.proofs.outline.Outline.lookahead_declaration.Goals as goal

pub returns-in_default-clause-no : goal.returns-in_default-clause-no
returns-in_default-clause-no c = λ e. no_types_seen (rw c.in_default.is at c.in_ok-behind.ensures)

pub shaped_init_declarators-requires : goal.shaped_init_declarators-requires
shaped_init_declarators-requires c =
    record {
      known = known_later c.args.self.now c.args.parameters.now.items c.args.at c.in-Some.behind
          (span_ahead (rw c.in-Some.is at c.in_ok-behind.ensures)) c.requires.known;
    }

pub returns-in_default-2-clause-no : goal.returns-in_default-2-clause-no
returns-in_default-2-clause-no c = λ e. no_declarators_seen (rw c.in-Some.is at c.in_ok-behind.ensures) (rw c.in_default-2.is at c.in_ok-next.ensures)

pub returns-clause-yes : goal.returns-clause-yes
returns-clause-yes c =
    λ e. declaration_seen (rw c.in-Some.is at c.in_ok-behind.ensures) (rw c.in-Some-2.is at c.in_ok-next.ensures)
    (passed semicolon terminal.Semicolon refl _ (c.is_at.ensures.yes e))

pub returns-clause-no : goal.returns-clause-no
returns-clause-no c =
    λ e. no_semicolon_seen (rw c.in-Some.is at c.in_ok-behind.ensures) (rw c.in-Some-2.is at c.in_ok-next.ensures)
    (refused semicolon terminal.Semicolon refl _ (c.is_at.ensures.no e))
