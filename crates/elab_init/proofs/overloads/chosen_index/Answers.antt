use Rattle.std.proofs.Common.{ap, Ok, Err}
use Rattle.elab_conv.specs.cpp_overload.declared.calls.NoBest.TheVariants.{NoViable, Ambiguous}
use Rattle.elab_conv.proofs.cpp_overload.Choosing.{chosen_is_meant}
use Rattle.elab_conv.specs.elab_rules.Initialising.{meant}
use Rattle.elab_init.proofs.overloads.chosen_index.Goals as goal

pub returns-in-Ok : goal.returns-in-Ok
returns-in-Ok c = ap (meant c.args.at) (chosen_is_meant _ _ _ (Ok c.in-Ok.i) c.in-Ok.ensures)

pub returns-in-Err-NoViable : goal.returns-in-Err-NoViable
returns-in-Err-NoViable c = ap (meant c.args.at) (chosen_is_meant _ _ _ (Err NoViable) (rw c.in-Err-NoViable.field-0-is at c.in-Err-NoViable.ensures))

pub returns-in-Err-Ambiguous : goal.returns-in-Err-Ambiguous
returns-in-Err-Ambiguous c = ap (meant c.args.at) (chosen_is_meant _ _ _ (Err (Ambiguous c.in-Err-Ambiguous.field-0-0 c.in-Err-Ambiguous.field-0-1))
    (rw c.in-Err-Ambiguous.field-0-is at c.in-Err-Ambiguous.ensures))
