use Rattle.std.proofs.Common.{◌+◌, ◌++◌, nat_lt, refl, length, map}
use Rattle.elab_init.specs.cpp_lex.Tokens.{lexeme_of}
use Rattle.elab_init.specs.elab_rules.Functions.{joined}
use Rattle.class_texts.proofs.Ranges.{joined_step}
use Rattle.class_texts.proofs.texts.write_joined.Goals as goal

pub loop-i-preserved : goal.loop-i-preserved
loop-i-preserved c =
    joined_step c.args.items.now c.loop-i.i c.index-items-i.result
    (nat_lt (c.loop-i.i + 1) (length c.args.items.now)) c.loop-i.text.items c.write_token.new.text.items
    (c.args.text.now.items ++ joined
    (map lexeme_of c.args.items.now)) c.loop-i-test.true c.index-items-i.is refl c.in_ok-write_token.ensures c.loop-i.invariant
