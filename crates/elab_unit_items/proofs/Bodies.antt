-- The law of statements of a body.
use Rattle.elab_rules.specs.Lambdas.{lambdas_of}
use Rattle.elab_fits_lambdas.proofs.Lambdas.{lambdas_are_good}
use Rattle.elab_unit_items.specs.Bodies.{StatementsKeepWhole}
use Rattle.elab_unit_items.proofs.Lambdas.{all_keep}
use Rattle.elab_unit_items.proofs.Statements.{statements_whole}

pub statements_law : StatementsKeepWhole
statements_law f s st ts n g h a t = statements_whole f lambdas_of s (lambdas_are_good f s n) (all_keep f s n) st ts g h a t
