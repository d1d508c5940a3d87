use Rattle.std.proofs.Common.{◌≡◌, ◌∙◌, ap, true}
use Rattle.tx_events.specs.Memory.{can_access}
use Rattle.tx_memory.specs.View.{layout_of}
use Rattle.src_replay.proofs.Words.{word_access, opens, shut}
use Rattle.src_replay.proofs.nested.Nested.store.Goals as goal

pub unreachable-requires : goal.unreachable-requires
unreachable-requires c =
    let p = layout_of c.args.memory.now in
    let can : can_access p c.args.addr c.args.size ≡ true =
    opens (can_access p c.args.addr c.args.size) _ c.load.result c.load.ensures.value c.if-is_none.ensures in
    shut (can_access p c.word_of-word.result 8) _ c.load-2.result c.load-2.ensures.value c.in_default.is
    (ap (λ z. can_access p z 8) c.word_of-word.ensures ∙ word_access p c.args.addr c.args.size can)
