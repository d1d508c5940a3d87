use Rattle.std.proofs.Common.{subst, ◌∷◌, [], List, ℕ, string_bytes}
use Rattle.run_command.specs.command_io.Reads.{wanted}
use Rattle.run_command.specs.command_io.declared.files.FileKind.TheVariants.{Source}
use Rattle.run_command.specs.Commands.{DecidesBuild}
use Rattle.run_command.specs.tx_answers.Ends.{Ends, on_one}
use Rattle.txcc_core.proofs.top.build_object.Goals as goal

pub returns : goal.returns
returns g c =
    let before = g.H.Host.state c.args.host.now in
    let after = g.H.Host.state c.build.new.host in
    let fold = c.args.options.now.fold in
    let object = string_bytes c.args.options.now.object_file in
    subst (λ (n : List ℕ). Ends (wanted Source n ∷ []) (on_one (DecidesBuild fold n object)) before after c.build.result) c.as_str.ensures.value
    (subst (λ (t : List ℕ). Ends (wanted Source c.as_str.result.now ∷ [])
    (on_one (DecidesBuild fold c.as_str.result.now t)) before after c.build.result) c.as_str-2.ensures.value c.build.ensures)
