use Rattle.std.proofs.Common.{refl}
use Rattle.cpp_syntax.specs.declared.terminal.Terminal.TheVariants as terminal
use Rattle.cpp_syntax.specs.Terminals.{virtual_word}
use Rattle.cpp_syntax.proofs.SingleTerminals.{passed, refused}
use Rattle.cpp_parse.proofs.MemberStarts.{virtual_seen, tilde_seen}
use Rattle.cpp_parse.proofs.members.is_destructor.Goals as goal

pub returns-then-is_at : goal.returns-then-is_at
returns-then-is_at c =
    virtual_seen c.args.text.now c.args.at c.is_at-then-is_at.result (passed virtual_word terminal.Virtual refl _ (c.if-is_at.ensures.yes refl))
    c.is_at-then-is_at.ensures.yes c.is_at-then-is_at.ensures.no

pub returns : goal.returns
returns c =
    tilde_seen c.args.text.now c.args.at c.is_at-2.result (refused virtual_word terminal.Virtual refl _ (c.if-is_at.ensures.no refl))
    c.is_at-2.ensures.yes c.is_at-2.ensures.no
