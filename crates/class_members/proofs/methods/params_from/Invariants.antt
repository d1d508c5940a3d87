use Rattle.std.proofs.Common.{◌≡◌, ◌++◌, drop, map}
use Rattle.elab_init.specs.cpp_tree.Units.{param_of}
use Rattle.elab_init.specs.elab_rules.Functions.{param_of as declared_param}
use Rattle.elab_types.specs.Shown.{parameter_of}
use Rattle.class_members.proofs.methods.params_from.Given as goal

abbrev pub invariant-loop-param : goal.invariant-loop-param
invariant-loop-param l = map param_of l.list.items ++ map declared_param (map parameter_of (drop l.param-index l.params))
    ≡ map declared_param (map parameter_of l.params)
