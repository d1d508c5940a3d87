use Rattle.std.proofs.Common.{[]}
use Rattle.elab_units.specs.Begun.{program_with, traits_known}
use Rattle.elab_units.proofs.Bare.{begun_bare}
use Rattle.elab_units.proofs.beginning.start_behind.Goals as goal

pub returns-clause-state : goal.returns-clause-state
returns-clause-state c = begun_bare c.args.source (program_with [] c.in_ok-bare.bare) (program_with [] c.args.known) (traits_known c.in_ok-bare.bare)
    (traits_known c.args.known) c.start_with.result c.in_ok-bare.ensures.program c.in_ok-bare.ensures.traits c.start_with.ensures.state
