use Rattle.std.proofs.Common.{◌≤◌, ◌∙◌, ◌+◌, ◌∷◌, ap, arith, map, sym, drop, option_map}
use Rattle.std.proofs.lemmas.List.{drop_more}
use Rattle.std.proofs.lemmas.Option.{slice_get-map, slice_get-get_or}
use Rattle.cpp_tree.specs.cpp_layout.Layout.{next_multiple}
use Rattle.cpp_tree.specs.Units.{program_of}
use Rattle.src_mean.specs.Links.{global_size}
use Rattle.src_bind.specs.Defs.{def_of, defs_of}
use Rattle.src_bind.proofs.Stay.{end_within, next_within}
use Rattle.src_bind.proofs.globals.offsets.Goals as goal

pub overflow_add-start : goal.overflow_add-start
overflow_add-start c = let p = end_within c.loop-def.end
    (map (global_size (program_of c.args.program.now)) (defs_of (drop c.loop-def.def-index c.args.kept.now))) in omega (arith, p, c.loop-def.invariant.1)

pub overflow_mul-start : goal.overflow_mul-start
overflow_mul-start c = let p = end_within c.loop-def.end
    (map (global_size (program_of c.args.program.now)) (defs_of (drop c.loop-def.def-index c.args.kept.now))) in omega (arith, p, c.loop-def.invariant.1)

pub size_at-requires-clause-sized : goal.size_at-requires-clause-sized
size_at-requires-clause-sized c = c.requires.sized.each c.loop-def.def-index _
    (slice_get-map def_of c.args.kept.now c.loop-def.def-index
    ∙ ap (option_map def_of) (slice_get-get_or c.args.kept.now c.loop-def.def-index _ c.loop-def-test.true))

pub overflow_add-end : goal.overflow_add-end
overflow_add-end c =
    let p : next_multiple c.loop-def.end 8 + c.size_at.result ≤ 1048576 =
    next_within c.loop-def.end c.size_at.result 1048576 _
    (map (global_size (program_of c.args.program.now)) (defs_of (drop (c.loop-def.def-index + 1) c.args.kept.now)))
    (ap (λ z. map (global_size (program_of c.args.program.now)) (defs_of z)) (drop_more c.args.kept.now c.loop-def.def-index _ c.loop-def-test.true)
    ∙ ap (λ z. z ∷ map (global_size (program_of c.args.program.now)) (defs_of (drop (c.loop-def.def-index + 1) c.args.kept.now))) (sym c.size_at.ensures))
    c.loop-def.invariant.1 in
    omega (arith, p)
