use Rattle.std.proofs.Common.{refl}
use Rattle.cpp_syntax.specs.declared.terminal.Terminal.TheVariants as terminal
use Rattle.cpp_syntax.specs.Terminals.{is_type_name, explicit_word, open_paren}
use Rattle.cpp_syntax.proofs.SingleTerminals.{passed, refused}
use Rattle.cpp_parse.proofs.MemberStarts.{explicit_none, constructors_none, no_type_name, no_open, constructor_seen}
use Rattle.cpp_parse.proofs.members.is_constructor.Goals as goal

pub returns-then-is_at : goal.returns-then-is_at
returns-then-is_at c = explicit_none c.attribute_end-named.ensures (passed explicit_word terminal.Explicit refl _ (c.if-is_at.ensures.yes refl))

pub returns-then-not-is_at : goal.returns-then-not-is_at
returns-then-not-is_at c =
    constructors_none c.attribute_end-named.ensures (refused explicit_word terminal.Explicit refl _ (c.if-is_at.ensures.no refl))
    (no_type_name (refused is_type_name terminal.TypeName refl _ (c.if-not-is_at.ensures.no refl)))

pub returns-then-not-is_at-2 : goal.returns-then-not-is_at-2
returns-then-not-is_at-2 c =
    constructors_none c.attribute_end-named.ensures (refused explicit_word terminal.Explicit refl _ (c.if-is_at.ensures.no refl))
    (no_open (passed is_type_name terminal.TypeName refl _ (c.if-not-is_at.ensures.yes refl))
    (refused open_paren terminal.OpenParen refl _ (c.if-not-is_at-2.ensures.no refl)))

pub returns : goal.returns
returns c =
    constructor_seen c.args.text.now c.args.at _ c.begins_parameters.result c.attribute_end-named.ensures
    (refused explicit_word terminal.Explicit refl _ (c.if-is_at.ensures.no refl)) (passed is_type_name terminal.TypeName refl _
    (c.if-not-is_at.ensures.yes refl)) (passed open_paren terminal.OpenParen refl _ (c.if-not-is_at-2.ensures.yes refl)) c.begins_parameters.ensures
