use Rattle.std.proofs.Common.{◌≡◌, refl, sym, arith}
use Rattle.cpp_syntax.specs.declared.terminal.Terminal.TheVariants as terminal
use Rattle.cpp_syntax.specs.Terminals.{star, amp, open_paren, close_paren}
use Rattle.cpp_syntax.specs.Names.{naming_of}
use Rattle.cpp_syntax.proofs.SingleTerminals.{passed, refused, exactly}
use Rattle.cpp_syntax.proofs.Recognisers.{known_later, span_ahead}
use Rattle.cpp_syntax.proofs.DeclaratorShapes.{pointer_found, reference_found, declarator_found, head_named, head_group, head_missing, head_left_out}
use Rattle.cpp_syntax.proofs.DeclaratorShapes.{head_ahead, direct_found, direct_missing, no_group_there, group_empty, group_of_none, group_open, group_found}
use Rattle.cpp_syntax.proofs.outline.Outline.+shaped_declarators.Goals as goal

pub shaped_declarator-shaped_declarator-requires : goal.shaped_declarator-shaped_declarator-requires
shaped_declarator-shaped_declarator-requires t c =
    let less = c.in_ok-descend.ensures in (
      omega (arith, c.decreases, less),
      (
        known_later c.args.self.now c.args.parameters.now.items c.args.at
            c.behind_cv_qualifiers-behind.result (let h = span_ahead c.behind_cv_qualifiers-behind.ensures in omega (arith, h)) c.requires.known,
        c.requires.outside,
      ),
    )

pub shaped_declarator-returns-then-is_at : goal.shaped_declarator-returns-then-is_at
shaped_declarator-returns-then-is_at t c =
    pointer_found c.args.self.now (naming_of c.args.naming) c.args.at c.behind_cv_qualifiers-behind.result c.requires.outside
    (exactly terminal.Star refl _ (c.if-is_at.ensures.yes refl)) c.behind_cv_qualifiers-behind.ensures c.shaped_declarator.result
    c.shaped_declarator.ensures

pub shaped_declarator-returns-then-is_at-2 : goal.shaped_declarator-returns-then-is_at-2
shaped_declarator-returns-then-is_at-2 t c =
    reference_found c.args.self.now (naming_of c.args.naming) c.args.at c.requires.outside
    (exactly terminal.Amp refl _ (c.if-is_at-2.ensures.yes refl)) c.shaped_declarator-then-is_at-2.result c.shaped_declarator-then-is_at-2.ensures

pub shaped_declarator-returns : goal.shaped_declarator-returns
shaped_declarator-returns t c =
    declarator_found c.args.self.now (naming_of c.args.naming) c.args.at (refused star terminal.Star refl _ (c.if-is_at.ensures.no refl))
    (refused amp terminal.Amp refl _ (c.if-is_at-2.ensures.no refl)) c.shaped_direct_declarator.result c.shaped_direct_declarator.ensures

pub shaped_declarator_head-returns-in-Some : goal.shaped_declarator_head-returns-in-Some
shaped_declarator_head-returns-in-Some t c = head_named (naming_of c.args.naming) c.in-Some.ensures.0 c.in-Some.ensures.1

pub shaped_declarator_head-returns-in_default-2 : goal.shaped_declarator_head-returns-in_default-2
shaped_declarator_head-returns-in_default-2 t c =
    head_left_out (naming_of c.args.naming) c.if_need_not_name.result c.if_need_not_name.ensures
    (head_missing (naming_of c.args.naming) c.in_default.ensures (rw c.in_default-2.is at c.in_ok-behind.ensures))

pub shaped_declarator_head-returns : goal.shaped_declarator_head-returns
shaped_declarator_head-returns t c = head_group (naming_of c.args.naming) (rw c.in-Some-2.is at c.in_ok-behind.ensures)

pub shaped_direct_declarator-returns-in_default : goal.shaped_direct_declarator-returns-in_default
shaped_direct_declarator-returns-in_default t c =
    let h = rw c.in_default.is at c.in_ok-head.ensures in direct_missing (naming_of c.args.naming) c.requires.outside h.0 h.1

pub shaped_direct_declarator-behind_suffixes-requires : goal.shaped_direct_declarator-behind_suffixes-requires
shaped_direct_declarator-behind_suffixes-requires t c =
    record {
      known = known_later c.args.self.now c.args.parameters.now.items c.args.at c.in-Some.head
          (head_ahead (rw c.in-Some.is at c.in_ok-head.ensures)) c.requires.known;
    }

pub shaped_direct_declarator-returns : goal.shaped_direct_declarator-returns
shaped_direct_declarator-returns t c =
    direct_found (naming_of c.args.naming) c.requires.outside (rw c.in-Some.is at c.in_ok-head.ensures) c.behind_suffixes.ensures

pub shaped_group-returns-then-not-is_at : goal.shaped_group-returns-then-not-is_at
shaped_group-returns-then-not-is_at t c =
    no_group_there (naming_of c.args.naming) (refused open_paren terminal.OpenParen refl _ (c.if-not-is_at.ensures.no refl))

pub shaped_group-returns-in_default : goal.shaped_group-returns-in_default
shaped_group-returns-in_default t c =
    group_empty (naming_of c.args.naming) (passed open_paren terminal.OpenParen refl _ (c.if-not-is_at.ensures.yes refl))
    (rw c.in_default.is at c.in_ok-close.ensures)

pub shaped_group-returns-then-close-at : goal.shaped_group-returns-then-close-at
shaped_group-returns-then-close-at t c = group_of_none (naming_of c.args.naming) (rw c.in-Some.is at c.in_ok-close.ensures) c.if-close-at.true

pub shaped_group-returns-then-not-is_at-2 : goal.shaped_group-returns-then-not-is_at-2
shaped_group-returns-then-not-is_at-2 t c =
    group_open (naming_of c.args.naming) c.requires.outside (passed open_paren terminal.OpenParen refl _ (c.if-not-is_at.ensures.yes refl))
    (rw c.in-Some.is at c.in_ok-close.ensures) (refused close_paren terminal.CloseParen refl _ (c.if-not-is_at-2.ensures.no refl))

pub shaped_group-returns : goal.shaped_group-returns
shaped_group-returns t c =
    group_found (naming_of c.args.naming) c.requires.outside (passed open_paren terminal.OpenParen refl _ (c.if-not-is_at.ensures.yes refl))
    (rw c.in-Some.is at c.in_ok-close.ensures) c.if-close-at.false (passed close_paren terminal.CloseParen refl _ (c.if-not-is_at-2.ensures.yes refl))
