use Rattle.std.proofs.Common.{refl}
use Rattle.cpp_syntax.specs.declared.terminal.Terminal.TheVariants as terminal
use Rattle.cpp_syntax.specs.Terminals.{is_type_name, close_paren}
use Rattle.cpp_syntax.proofs.SingleTerminals.{passed, refused}
use Rattle.cpp_parse_expr.proofs.ReaderAnswers.{none_unlike}
use Rattle.cpp_parse.proofs.MemberStarts.{name_seen, types_seen}
use Rattle.cpp_parse.proofs.members.begins_parameters.Goals as goal

pub returns-then-is_at : goal.returns-then-is_at
returns-then-is_at c = none_unlike close_paren (passed close_paren terminal.CloseParen refl _ (c.if-is_at.ensures.yes refl)) refl refl

pub returns-then-is_at-2 : goal.returns-then-is_at-2
returns-then-is_at-2 c =
    name_seen c.args.text.now c.args.at c.is_at-then-is_at-2.result (passed is_type_name terminal.TypeName refl _ (c.if-is_at-2.ensures.yes refl))
    c.is_at-then-is_at-2.ensures.yes c.is_at-then-is_at-2.ensures.no

pub returns : goal.returns
returns c =
    types_seen c.args.text.now c.args.at c.begins_type_at.result (refused is_type_name terminal.TypeName refl _ (c.if-is_at-2.ensures.no refl))
    (refused close_paren terminal.CloseParen refl _ (c.if-is_at.ensures.no refl)) c.begins_type_at.ensures.test
