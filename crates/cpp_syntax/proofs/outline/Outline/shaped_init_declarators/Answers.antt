use Rattle.std.proofs.Common.{◌≡◌, ◌<◌, ℕ, length, refl, arith}
use Rattle.cpp_syntax.specs.declared.terminal.Terminal.TheVariants as terminal
use Rattle.cpp_syntax.specs.Terminals.{comma}
use Rattle.cpp_syntax.proofs.SingleTerminals.{passed, refused}
use Rattle.cpp_syntax.proofs.Recognisers.{known_later, span_ahead, chain_starts, chain_goes, chain_stops, chain_ahead, none_seq}
use Rattle.cpp_syntax.proofs.DeclaratorShapes.{comma_found, comma_alone, no_comma}
use Rattle.cpp_syntax.proofs.outline.Outline.shaped_init_declarators.Goals as goal

pub returns-in_default : goal.returns-in_default
returns-in_default c = none_seq (rw c.in_default.is at c.in_ok-first.ensures)

pub items-init : goal.items-init
items-init c = chain_starts (rw c.in-Some.is at c.in_ok-first.ensures) refl

pub shaped_init_declarator-requires-in-items : goal.shaped_init_declarator-requires-in-items
shaped_init_declarator-requires-in-items c =
    let h = chain_ahead c.items.invariant in record {
      known = known_later c.args.self.now c.args.parameters.now.items c.args.at _ (omega (arith, h))
          c.requires.known;
    }

pub items-preserved : goal.items-preserved
items-preserved c =
    chain_goes c.items.invariant (comma_found (passed comma terminal.Comma refl _ (c.items-test.ensures.yes refl))
    (rw c.in-Some-2.is at c.in_ok-behind.ensures) refl) refl refl refl

pub items-smaller : goal.items-smaller
items-smaller c =
    let h = span_ahead (rw c.in-Some-2.is at c.in_ok-behind.ensures) in let i : c.items.next < length c.args.self.now.terminals =
    c.items-test.ensures.inside refl refl in omega (arith, h, i)

pub returns-in_default-2 : goal.returns-in_default-2
returns-in_default-2 c =
    chain_stops c.items.invariant (comma_alone (passed comma terminal.Comma refl _ (c.items-test.ensures.yes refl))
    (rw c.in_default-2.is at c.in_ok-behind.ensures) refl refl) refl

pub returns : goal.returns
returns c = chain_stops c.items.invariant (no_comma (refused comma terminal.Comma refl _ (c.items-test.ensures.no refl))) refl
