use Rattle.std.proofs.Common.{sym, ◌∙◌}
use Rattle.src_replay.proofs.SeenEntries.{begin_kind}
use Rattle.src_replay.proofs.alone.act.Goals as goal

pub returns-then-begins_block-clause-seen : goal.returns-then-begins_block-clause-seen
returns-then-begins_block-clause-seen c = λ program w s stand going e event enabled.
    let kind = begin_kind c.args.event (sym c.begins_block.ensures ∙ c.if-begins_block.true) in
    c.run_block.ensures.seen program w s kind.0 stand going e event kind.1 enabled

pub returns-else-begins_block-clause-seen : goal.returns-else-begins_block-clause-seen
returns-else-begins_block-clause-seen c = λ program w s stand going e event enabled.
    c.act_once.ensures.seen program w s stand going e event (sym c.begins_block.ensures ∙ c.if-begins_block.false) enabled
