use Rattle.code_walk.specs.Bodies.{space}
use Rattle.code_walk.proofs.Kept.{kept_walked, knows}
use Rattle.code_walk.proofs.Reached.{tests, has_reached}
use Rattle.code_walk.proofs.laws.the_walk_finds_shapes.Goals as goal

pub returns-clause-reached : goal.returns-clause-reached
returns-clause-reached c = λ x g b h i s e. has_reached x g b ((kept_walked (space x g b) (tests x g b) h).facts.shapes i s e)

pub returns-clause-clashes : goal.returns-clause-clashes
returns-clause-clashes c = λ x g b h i e. (kept_walked (space x g b) (tests x g b) h).facts.clashes i e

pub returns-clause-all : goal.returns-clause-all
returns-clause-all c = λ x g b h k i s r. knows (space x g b) (tests x g b) h k r
