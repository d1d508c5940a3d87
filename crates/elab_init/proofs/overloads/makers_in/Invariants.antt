use Rattle.std.proofs.Common.{◌≡◌, ◌++◌, map, drop}
use Rattle.elab_conv.specs.cpp_overload.Overload.{candidate_of}
use Rattle.elab_conv.specs.elab_ctx.Ctx.{ctx_of}
use Rattle.elab_conv.specs.elab_rules.Initialising.{maker, candidates_at}
use Rattle.elab_init.proofs.overloads.makers_in.Given as goal

abbrev pub invariant-loop-place : goal.invariant-loop-place
invariant-loop-place l = map candidate_of l.list.items ++ candidates_at maker (ctx_of l.env).funcs (drop l.place-index l.places)
    ≡ candidates_at maker (ctx_of l.env).funcs l.places
