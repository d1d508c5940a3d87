use Rattle.std.proofs.Common.{◌≡◌, ◌<◌, ◌+◌, Option, length, map, drop, get_or, sym, ap, ◌∙◌, arith}
use Rattle.tx_code.specs.Images.{image_func_view}
use Rattle.tx_code.specs.Sound.{table_of}
use Rattle.tx_code.specs.Views.{image_view}
use Rattle.code_verify.specs.declared.faults.Fault.{Fault}
use Rattle.code_verify.specs.Faults.{or_below, first_of_funcs}
use Rattle.code_verify.proofs.FaultLaws.{funcs_here}
use Rattle.code_verify.proofs.faults.image_fault.Goals as goal

pub returns-in-Some : goal.returns-in-Some
returns-in-Some c =
    let x = table_of (image_view c.args.image.now) in
    let fs = c.args.image.now.funcs.items in
    let n = c.loop-number.number in
    let h : c.loop-number.number < length c.args.image.now.funcs.items = omega (arith, ap length c.deref-func-items.ensures.value) in
    let g : c.func-item.result ≡ get_or c.args.image.now.funcs.items c.loop-number.number c.func-item.result = c.func-item.is
    ∙ ap (λ z. get_or z c.loop-number.number c.func-item.result) c.deref-func-items.ensures.value in
    sym (c.loop-number.invariant ∙ funcs_here x fs n c.func-item.result h g
    ∙ ap (λ (o : Option Fault). or_below n o (first_of_funcs x (n + 1) (map image_func_view (drop (n + 1) fs))))
    (sym c.in_ok-func_fault.ensures ∙ c.in-Some.is))

pub loop-number-preserved : goal.loop-number-preserved
loop-number-preserved c =
    let x = table_of (image_view c.args.image.now) in
    let fs = c.args.image.now.funcs.items in
    let n = c.loop-number.number in
    let h : c.loop-number.number < length c.args.image.now.funcs.items = omega (arith, ap length c.deref-func-items.ensures.value) in
    let g : c.func-item.result ≡ get_or c.args.image.now.funcs.items c.loop-number.number c.func-item.result = c.func-item.is
    ∙ ap (λ z. get_or z c.loop-number.number c.func-item.result) c.deref-func-items.ensures.value in
    c.loop-number.invariant ∙ funcs_here x fs n c.func-item.result h g
    ∙ ap (λ (o : Option Fault). or_below n o (first_of_funcs x (n + 1) (map image_func_view (drop (n + 1) fs))))
    (sym c.in_ok-func_fault.ensures ∙ c.in-None.is)
