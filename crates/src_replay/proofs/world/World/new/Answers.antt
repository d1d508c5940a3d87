use Rattle.std.proofs.Common.{false, ap, sym, Some, subst}
use Rattle.src_bind.specs.Bounds.{given}
use Rattle.tx_memory.specs.View.{layout_of}
use Rattle.src_mean.specs.Laws.{IsSettled}
use Rattle.src_mean.specs.Source.{main_state}
use Rattle.src_mean.proofs.Blocks.{main_begins}
use Rattle.src_replay.specs.Orders.{program_in}
use Rattle.src_replay.proofs.Arms.{first_shown, first_stands}
use Rattle.src_replay.proofs.world.World.new.Goals as goal

pub returns-clause-world : goal.returns-clause-world
returns-clause-world c =
    first_shown _ _ c.in_ok-threads.threads.alive.items (record { thread = c.in_ok-main.main; ended = false })
    (main_state (program_in (given c.args.bound.now))) _ c.args.input.now c.in_ok-memory.ensures.words c.in_ok-threads.ensures
    (ap (λ z. Some (record { state = z; ended = false })) c.in_ok-main.ensures.state) c.new-2.ensures.items

pub returns-clause-stands : goal.returns-clause-stands
returns-clause-stands c =
    let program = program_in (given c.args.bound.now) in
    first_stands program (layout_of c.in_ok-memory.memory) c.in_ok-threads.threads.alive.items
    (record { thread = c.in_ok-main.main; ended = false }) c.in_ok-threads.ensures
    (record { runs = c.in_ok-main.ensures.program; settled = subst IsSettled (sym c.in_ok-main.ensures.state) (main_begins program).settled })
    (ap (λ p. p.limit) c.in_ok-memory.ensures.layout)
