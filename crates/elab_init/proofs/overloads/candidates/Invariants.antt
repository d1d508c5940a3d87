use Rattle.std.proofs.Common.{◌≡◌, ◌++◌, map, drop}
use Rattle.elab_conv.specs.cpp_overload.Overload.{candidate_of}
use Rattle.elab_conv.specs.elab_ctx.Ctx.{ctx_of}
use Rattle.elab_conv.specs.elab_rules.Initialising.{candidate, candidates_at}
use Rattle.elab_init.proofs.overloads.candidates.Given as goal

abbrev pub invariant-loop-place : goal.invariant-loop-place
invariant-loop-place l = map candidate_of l.list.items ++ candidates_at candidate (ctx_of l.env).funcs (drop l.place-index l.places)
    ≡ candidates_at candidate (ctx_of l.env).funcs l.places
