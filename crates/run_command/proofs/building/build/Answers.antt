use Rattle.std.proofs.Common.{[], ◌∷◌, map, subst}
use Rattle.std.specs.Prelude.{IfOk}
use Rattle.command_io.specs.Reads.{wanted}
use Rattle.command_io.specs.Writes.{written_of}
use Rattle.command_io.specs.declared.files.FileKind.TheVariants.{Source}
use Rattle.tx_answers.specs.Ends.{on_one}
use Rattle.tx_answers.proofs.Endings.{ends_settled, one_halted}
use Rattle.run_command.specs.Commands.{DecidesBuild}
use Rattle.run_command.proofs.building.build.Goals as goal

pub returns-in-Ok : goal.returns-in-Ok
returns-in-Ok g c =
    ends_settled (wanted Source c.args.name.now ∷ []) (on_one (DecidesBuild c.args.fold c.args.name.now c.args.to.now)) (g.H.Host.state c.args.host.now)
    (g.H.Host.state c.read_file.new.host) (g.H.Host.state c.settle.new.host) (c.in-Ok.text.items ∷ [])
    c.decided.result c.settle.result c.in-Ok.ensures.read
    (subst (λ t. IfOk c.decided.result (λ d. DecidesBuild c.args.fold c.args.name.now c.args.to.now t d.answer
    (map written_of d.writes.items))) c.as_slice.ensures.value c.decided.ensures) c.settle.ensures

pub returns-in-Err : goal.returns-in-Err
returns-in-Err g c =
    one_halted (wanted Source c.args.name.now) (on_one (DecidesBuild c.args.fold c.args.name.now c.args.to.now)) (g.H.Host.state c.args.host.now)
    (g.H.Host.state c.read_file.new.host) (g.H.Host.state c.halt.new.host) c.in-Err.unread c.halt.result
    c.in-Err.ensures.unread c.halt.ensures
