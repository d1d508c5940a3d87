use Rattle.std.proofs.Common.{refl}
use Rattle.elab_members.proofs.ClassSteps.{declared_stands}
use Rattle.elab_members.proofs.classes.class_declared.Goals as goal

pub returns : goal.returns
returns c = declared_stands c.args.st.now _ c.args.at c.args.name.now _ c.in_ok-_class.ensures refl refl
