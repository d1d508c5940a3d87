use Rattle.std.proofs.Common.{arith, ap}
use Rattle.std.proofs.lemmas.List.Sums.{sum_by_more_le}
use Rattle.link_faults.specs.Sizes.{name_count}
use Rattle.link_faults.proofs.size.size_in_all.Goals as goal

pub overflow_add-size : goal.overflow_add-size
overflow_add-size c =
    let more = sum_by_more_le name_count c.args.objects.now c.loop-object.object-index c.object-item.result c.loop-object-test.true in
    let same = ap name_count c.object-item.is in
    omega (arith, more, same, c.loop-object.invariant.1, c.size_in_object-size.ensures.bound, c.requires.names)
