use Rattle.cpp_lex.proofs.QuotedEnds.{one_str, read_more, no_str, nothing_behind, no_quote_behind}
use Rattle.cpp_lex.proofs.quoted.str_end.Goals as goal

pub returns-then-text-at-eq34 : goal.returns-then-text-at-eq34
returns-then-text-at-eq34 c = one_str c.args.text.now c.args.from c.inner.at c.if-text-from-ne34.false c.inner.invariant c.if-text-at-eq34.true

pub inner-preserved : goal.inner-preserved
inner-preserved c = read_more c.args.text.now _ c.inner.at c.in-Some.next c.inner.invariant c.in-Some.ensures c.if-text-at-eq34.false

pub returns : goal.returns
returns c = no_str c.args.text.now c.args.from c.inner.at c.inner.invariant (no_quote_behind c.args.text.now c.inner.at c.inner-test.false)
    (nothing_behind c.args.text.now c.inner.at c.inner-test.false)
