use Rattle.std.proofs.Common.{refl}
use Rattle.cpp_syntax.specs.declared.terminal.Terminal.TheVariants as terminal
use Rattle.cpp_syntax.specs.Terminals.{is_type_name, colon_colon, tilde}
use Rattle.cpp_syntax.proofs.SingleTerminals.{passed, refused}
use Rattle.cpp_parse.proofs.DefinitionKinds.{no_name, no_colons, a_destructor, a_constructor, no_special}
use Rattle.cpp_parse.proofs.functions.named_definition.Goals as goal

pub returns-then-not-is_at : goal.returns-then-not-is_at
returns-then-not-is_at c = no_name (refused is_type_name terminal.TypeName refl _ (c.if-not-is_at.ensures.no refl))

pub returns-then-not-is_at-2 : goal.returns-then-not-is_at-2
returns-then-not-is_at-2 c =
    no_colons (passed is_type_name terminal.TypeName refl _ (c.if-not-is_at.ensures.yes refl))
    (refused colon_colon terminal.ColonColon refl _ (c.if-not-is_at-2.ensures.no refl))

pub returns-then-is_at : goal.returns-then-is_at
returns-then-is_at c =
    a_destructor (passed is_type_name terminal.TypeName refl _ (c.if-not-is_at.ensures.yes refl))
    (passed colon_colon terminal.ColonColon refl _ (c.if-not-is_at-2.ensures.yes refl)) (c.if-is_at.ensures.yes refl)

pub returns-then-is_at-2 : goal.returns-then-is_at-2
returns-then-is_at-2 c =
    a_constructor (passed is_type_name terminal.TypeName refl _ (c.if-not-is_at.ensures.yes refl))
    (passed colon_colon terminal.ColonColon refl _ (c.if-not-is_at-2.ensures.yes refl)) (c.if-is_at-2.ensures.yes refl)

pub returns : goal.returns
returns c =
    no_special (passed is_type_name terminal.TypeName refl _ (c.if-not-is_at.ensures.yes refl))
    (refused is_type_name terminal.TypeName refl _ (c.if-is_at-2.ensures.no refl)) (refused tilde terminal.Tilde refl _ (c.if-is_at.ensures.no refl))
