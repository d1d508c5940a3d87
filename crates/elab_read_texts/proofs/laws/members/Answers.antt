use Rattle.elab_read_texts.proofs.Declared.{declarators_named}
use Rattle.elab_read_texts.proofs.ReadMembers.{members_override}
use Rattle.elab_read_texts.proofs.Parts.{class_members}
use Rattle.elab_read_texts.proofs.laws.members.Goals as goal

pub returns-clause-declarators : goal.returns-clause-declarators
returns-clause-declarators c = declarators_named

pub returns-clause-members : goal.returns-clause-members
returns-clause-members c = members_override

pub returns-clause-classes : goal.returns-clause-classes
returns-clause-classes c = class_members
