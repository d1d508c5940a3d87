use Rattle.std.proofs.lemmas.List.{take_rest}
use Rattle.class_texts.proofs.Places.{below_rest}
use Rattle.class_texts.proofs.kids.rest_from.Goals as goal

pub returns-clause-rest : goal.returns-clause-rest
returns-clause-rest c = take_rest c.args.ids.now c.args.place

pub returns-clause-below : goal.returns-clause-below
returns-clause-below c limit h = below_rest limit c.args.ids.now c.args.place h
