use Rattle.std.proofs.Common.{◌≡◌, ◌-◌, length, take}
use Rattle.elab_ctx.proofs.functions.Functions.truncate.Given as goal

abbrev pub invariant-loop : goal.invariant-loop
invariant-loop l = l.self ≡ take (length l.initial.self - l.counter) l.initial.self
