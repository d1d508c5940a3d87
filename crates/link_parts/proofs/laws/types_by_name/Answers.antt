use Rattle.link_parts.proofs.RowTypes.{types_are, numbers_tell}
use Rattle.link_parts.proofs.laws.types_by_name.Goals as goal

pub returns-clause-types : goal.returns-clause-types
returns-clause-types c = λ all os marks a h l m. types_are all os marks a h l m

pub returns-clause-numbers : goal.returns-clause-numbers
returns-clause-numbers c = λ os types. numbers_tell os types
