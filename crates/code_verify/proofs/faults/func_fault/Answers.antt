use Rattle.std.proofs.Common.{ap, ◌∙◌}
use Rattle.tx_code.specs.Images.{image_func_view}
use Rattle.tx_code.specs.Signatures.{takes_of, gives_of}
use Rattle.tx_code.specs.Sound.{table_of}
use Rattle.tx_code.specs.Views.{image_view}
use Rattle.code_verify.proofs.FaultLaws.{func_some, func_next}
use Rattle.code_verify.proofs.faults.func_fault.Goals as goal

pub returns-in-Some : goal.returns-in-Some
returns-in-Some c = func_some (table_of (image_view c.args.image.now))
    (image_func_view c.args.func.now) c.takes_of-takes.result c.gives_of-gives.result c.frame_fault.result c.in_ok-plain.plain c.in-Some.fault
    (c.takes_of-takes.ensures ∙ ap takes_of c.deref.ensures.value)
    (c.gives_of-gives.ensures ∙ ap gives_of c.deref-2.ensures.value) c.frame_fault.ensures c.in_ok-plain.ensures c.in-Some.ensures

pub returns-in-None : goal.returns-in-None
returns-in-None c = func_next (table_of (image_view c.args.image.now))
    (image_func_view c.args.func.now) c.takes_of-takes.result c.gives_of-gives.result c.frame_fault.result c.in_ok-plain.plain c.safe_fault.result
    (c.takes_of-takes.ensures ∙ ap takes_of c.deref.ensures.value)
    (c.gives_of-gives.ensures ∙ ap gives_of c.deref-2.ensures.value) c.frame_fault.ensures c.in_ok-plain.ensures c.in-None.ensures c.safe_fault.ensures
