use Rattle.std.proofs.Common.{◌≡◌, ◌+◌, ◌∙◌, arith, sym, length, map}
use Rattle.std.specs.List.{flat_map}
use Rattle.std.proofs.lemmas.Bool.{lt-ltb}
use Rattle.tx_code.specs.Objects.{object_view}
use Rattle.link_faults.specs.Ranks.{names_of}
use Rattle.link_faults.proofs.KeptDefinitions.{whole}
use Rattle.link_tables.proofs.HomeSteps.{names_front, names_step}
use Rattle.tx_linker.proofs.KeptRows.{not_less}
use Rattle.tx_linker.proofs.linking.are_names_few.Goals as goal

pub returns-then-len-room : goal.returns-then-len-room
returns-then-len-room c =
    let s = names_step c.args.objects.now c.loop-object.object-index c.object-item.result c.loop-object-test.true c.object-item.is in
    let f = names_front c.args.objects.now (c.loop-object.object-index + 1) in
    let n : c.len.result ≡ length c.object-item.result.names.items = c.len.ensures ∙ c.object-item.result.names.ok.0 in
    sym (not_less (length (flat_map names_of (map object_view c.args.objects.now))) 4294967295
    (omega (arith, s, f, n, c.if-len-room.true, c.loop-object.invariant)))

pub loop-object-preserved : goal.loop-object-preserved
loop-object-preserved c =
    let s = names_step c.args.objects.now c.loop-object.object-index c.object-item.result c.loop-object-test.true c.object-item.is in
    let n : c.len-room.result ≡ length c.object-item.result.names.items = c.len-room.ensures ∙ c.object-item.result.names.ok.0 in
    let m : c.len.result ≡ length c.object-item.result.names.items = c.len.ensures ∙ c.object-item.result.names.ok.0 in
    omega (arith, s, n, m, c.loop-object.invariant, c.if-len-room.false)

pub returns : goal.returns
returns c =
    let w = rw (whole c.args.objects.now c.loop-object.object-index c.loop-object-test.false) at c.loop-object.invariant in
    sym (lt-ltb (length (flat_map names_of (map object_view c.args.objects.now))) 4294967295 (omega (arith, w)))
