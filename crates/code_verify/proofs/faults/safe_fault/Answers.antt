use Rattle.std.proofs.Common.{◌≡◌, ap, length, arith}
use Rattle.std.specs.Option.{option_map}
use Rattle.tx_code.specs.Objects.{body_view}
use Rattle.tx_code.specs.Images.{image_func_view}
use Rattle.tx_code.specs.Sound.{table_of}
use Rattle.tx_code.specs.Views.{image_view}
use Rattle.code_verify.proofs.FaultLaws.{safe_is}
use Rattle.code_verify.proofs.faults.safe_fault.Goals as goal

pub returns-in_ok-fault-in-Some : goal.returns-in_ok-fault-in-Some
returns-in_ok-fault-in-Some c =
    let n : c.len.result ≡ length c.args.func.now.plain.code.items = omega (arith, c.len.ensures, c.args.func.now.plain.code.ok) in
    safe_is (table_of (image_view c.args.image.now)) (image_func_view c.args.func.now) (body_view c.in-Some.body.now)
    (option_map body_view c.args.func.now.safe) c.len.result c.args.takes c.args.gives c.in_ok-fault-in-Some.fault c.behind.result
    (ap (option_map body_view) c.in-Some.ensures.value) c.requires.takes c.requires.gives c.in_ok-fault-in-Some.ensures n c.behind.ensures
