use Rattle.std.proofs.Common.{◌≡◌, map, replicate}
use Rattle.elab_entry.specs.elab_ctx.Ctx.{traits_of}
use Rattle.elab_entry.specs.elab_rules.Objects.{no_traits}
use Rattle.elab_units.proofs.beginning.bare_traits.Given as goal

abbrev pub invariant-loop : goal.invariant-loop
invariant-loop l = map traits_of l.traits.items ≡ replicate l.index no_traits
