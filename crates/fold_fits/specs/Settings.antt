-- The setting of a body in the folded program: but for the bodies of functions it is that of the body.
use Rattle.std.specs.Prelude.{ℕ, Bool, map}
use Rattle.cpp_tree.specs.Rows.{Setting}
use Rattle.tree_fold.specs.Programs.{folded_func}

abbrev pub folded_setting : (volatile : ℕ → Bool) → Setting → Setting
folded_setting volatile s = record s { funcs = map (folded_func volatile) s.funcs; function = folded_func volatile s.function }
