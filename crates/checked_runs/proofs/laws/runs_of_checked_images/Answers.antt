use Rattle.checked_runs.proofs.ImageCode.{image_runs, runs_of_image}
use Rattle.checked_runs.proofs.laws.runs_of_checked_images.Goals as goal

pub returns-clause-source : goal.returns-clause-source
returns-clause-source c = λ p i b book is layout few memory input order world h. image_runs p i b book is layout few memory input order world h

pub returns-clause-image : goal.returns-clause-image
returns-clause-image c = λ p i b book is layout few memory input order world h. runs_of_image p i b book is layout few memory input order world h
