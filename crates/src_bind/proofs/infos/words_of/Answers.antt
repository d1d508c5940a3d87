use Rattle.std.proofs.Common.{ap}
use Rattle.src_bind.proofs.CallWords.{no_offset, no_item, one_more, item_first}
use Rattle.src_bind.proofs.infos.words_of.Goals as goal

pub returns-in_default : goal.returns-in_default
returns-in_default c = no_offset _ _ _ c.loop-i.i c.args.offsets.now _ (c.in_default.ensures.lookup).0 c.loop-i.invariant

pub returns-in_default-get : goal.returns-in_default-get
returns-in_default-get c = no_item _ _ _ c.loop-i.i _ c.args.items.now (c.in_default-get.ensures.lookup).0 c.loop-i.invariant

pub loop-i-preserved : goal.loop-i-preserved
loop-i-preserved c = one_more c.loop-i.words.items c.push.new.self.items _ _ c.args.count c.loop-i.i c.args.offsets.now c.args.items.now c.in-Some.offset.now
    c.in-Some-get.item.now c.loop-i-test.true
    (item_first c.args.offsets.now c.loop-i.i c.in-Some.offset.now ((c.in-Some.ensures.lookup).3).0 (c.in-Some.ensures.lookup).1)
    (item_first c.args.items.now c.loop-i.i c.in-Some-get.item.now ((c.in-Some-get.ensures.lookup).3).0 (c.in-Some-get.ensures.lookup).1)
    (ap (λ k. record {
      offset = c.in-Some.offset.now;
      kind = k;
      volatile =
          c.in-Some-get.item.now.is_volatile;
    }) c.word_kind.ensures) c.in_ok-push.ensures.items c.loop-i.invariant
