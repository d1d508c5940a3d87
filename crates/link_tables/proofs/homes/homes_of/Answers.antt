use Rattle.std.proofs.Common.{◌≡◌, ◌+◌, ◌∙◌, arith, length, refl}
use Rattle.link_tables.proofs.HomeSteps.{homes_step, names_front, names_step}
use Rattle.link_tables.proofs.homes.homes_of.Goals as goal

pub overflow_cast-start : goal.overflow_cast-start
overflow_cast-start c =
    let s = names_step c.args.objects.now c.loop-object.object-index c.object-item.result c.loop-object-test.true c.object-item.is in
    let f = names_front c.args.objects.now (c.loop-object.object-index + 1) in
    let n : c.len.result ≡ length c.object-item.result.names.items = c.len.ensures ∙ c.object-item.result.names.ok.0 in
    omega (arith, s, f, n, c.requires)

pub overflow_add-start : goal.overflow_add-start
overflow_add-start c =
    let s = names_step c.args.objects.now c.loop-object.object-index c.object-item.result c.loop-object-test.true c.object-item.is in
    let f = names_front c.args.objects.now (c.loop-object.object-index + 1) in
    let n : c.len.result ≡ length c.object-item.result.names.items = c.len.ensures ∙ c.object-item.result.names.ok.0 in
    omega (arith, s, f, n, c.requires, c.loop-object.invariant.1)

pub loop-object-preserved : goal.loop-object-preserved
loop-object-preserved c =
    let s = names_step c.args.objects.now c.loop-object.object-index c.object-item.result c.loop-object-test.true c.object-item.is in
    let n : c.len.result ≡ length c.object-item.result.names.items = c.len.ensures ∙ c.object-item.result.names.ok.0 in (
      homes_step c.args.objects.now c.loop-object.object-index c.object-item.result c.loop-object.found.items c.push.new.self.items _ c.loop-object-test.true
          c.object-item.is (c.len-at.ensures ∙ c.loop-object.found.ok.0) c.loop-object.invariant.1 refl c.loop-object.invariant.0 c.in_ok-push.ensures.items,
      omega (arith, s, n, c.loop-object.invariant.1),
    )
