use Rattle.std.proofs.Common.{◌≡◌, length, ap, ◌∙◌, arith}
use Rattle.tx_code.specs.Objects.{class_view}
use Rattle.object_bytes.proofs.Positions.{length_class}
use Rattle.object_bytes.proofs.chains.class_size.Goals as goal

pub overflow_mul-result : goal.overflow_mul-result
overflow_mul-result c =
    let size = length_class (class_view c.args.class.now) in
    let members : c.count_members.result ≡ length c.args.class.now.members.items = c.count_members.ensures ∙ ap length c.deref.ensures.value in
    omega (arith, c.requires)

pub overflow_add-result : goal.overflow_add-result
overflow_add-result c =
    let size = length_class (class_view c.args.class.now) in
    let members : c.count_members.result ≡ length c.args.class.now.members.items = c.count_members.ensures ∙ ap length c.deref.ensures.value in
    omega (arith, c.requires)

pub overflow_mul-result-2 : goal.overflow_mul-result-2
overflow_mul-result-2 c =
    let size = length_class (class_view c.args.class.now) in
    let members : c.count_members.result ≡ length c.args.class.now.members.items = c.count_members.ensures ∙ ap length c.deref.ensures.value in
    let slots : c.count_slots.result ≡ length c.args.class.now.slots.items = c.count_slots.ensures ∙ ap length c.deref-2.ensures.value in
    omega (arith, c.requires)

pub overflow_add-result-2 : goal.overflow_add-result-2
overflow_add-result-2 c =
    let size = length_class (class_view c.args.class.now) in
    let members : c.count_members.result ≡ length c.args.class.now.members.items = c.count_members.ensures ∙ ap length c.deref.ensures.value in
    let slots : c.count_slots.result ≡ length c.args.class.now.slots.items = c.count_slots.ensures ∙ ap length c.deref-2.ensures.value in
    omega (arith, c.requires)

pub returns : goal.returns
returns c =
    let size = length_class (class_view c.args.class.now) in
    let members : c.count_members.result ≡ length c.args.class.now.members.items = c.count_members.ensures ∙ ap length c.deref.ensures.value in
    let slots : c.count_slots.result ≡ length c.args.class.now.slots.items = c.count_slots.ensures ∙ ap length c.deref-2.ensures.value in
    omega (arith, c.requires)
