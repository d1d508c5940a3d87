use Rattle.tx_code.specs.Views.{image_view}
use Rattle.code_verify.proofs.FaultLaws.{judged_sound, judged_broken}
use Rattle.code_verify.proofs.PlaceLaws.{first_fault}
use Rattle.code_verify.proofs.verified.judge.Goals as goal

pub returns-clause-sound : goal.returns-clause-sound
returns-clause-sound c = judged_sound (image_view c.args.image.now) c.image_fault.result c.image_fault.ensures

pub returns-clause-broken : goal.returns-clause-broken
returns-clause-broken c = judged_broken (image_view c.args.image.now) c.image_fault.result c.image_fault.ensures

pub returns-clause-first : goal.returns-clause-first
returns-clause-first c = first_fault (image_view c.args.image.now) c.image_fault.result c.image_fault.ensures
