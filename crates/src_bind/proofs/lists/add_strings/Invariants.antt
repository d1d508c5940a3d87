use Rattle.std.proofs.Common.{◌≡◌, ◌++◌, drop, filter}
use Rattle.cpp_tree.specs.cpp_types.Equal.{flag_eq}
use Rattle.src_mean.specs.Links.{Def, is_string}
use Rattle.src_bind.specs.Defs.{defs_of}
use Rattle.src_bind.proofs.lists.add_strings.Given as goal

abbrev pub invariant-loop-def : goal.invariant-loop-def
invariant-loop-def l = defs_of l.out.items ++ filter (λ (d : Def). flag_eq l.strings (is_string d)) (defs_of (drop l.def-index l.defs))
    ≡ defs_of l.initial.out.items ++ filter (λ (d : Def). flag_eq l.strings (is_string d)) (defs_of l.defs)
