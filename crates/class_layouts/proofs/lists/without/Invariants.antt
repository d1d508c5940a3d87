use Rattle.std.proofs.Common.{◌≡◌, ◌+◌, drop}
use Rattle.cpp_types.specs.Class.{classes_of}
use Rattle.elab_ctx.specs.Layouts.{completed_in}
use Rattle.class_layouts.proofs.lists.without.Given as goal

-- those that are left to be looked at are counted still
abbrev pub invariant-loop-found : goal.invariant-loop-found
invariant-loop-found l = l.left + completed_in (classes_of l.cut) ≡ l.completed + completed_in (classes_of (drop l.found-index l.cut))
