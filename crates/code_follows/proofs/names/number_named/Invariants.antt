use Rattle.std.proofs.Common.{◌≡◌, drop}
use Rattle.code_follows.specs.Names.{number_in}
use Rattle.code_follows.proofs.names.number_named.Given as goal

abbrev pub invariant-loop-named : goal.invariant-loop-named
invariant-loop-named l = number_in (drop l.named-index l.names) l.name ≡ number_in l.names l.name
