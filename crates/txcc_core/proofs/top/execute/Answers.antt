use Rattle.std.proofs.Common.{subst, sym, [], ◌∷◌, List, ℕ, string_bytes}
use Rattle.run_command.specs.command_io.Reads.{wanted}
use Rattle.run_command.specs.command_io.declared.files.FileKind.TheVariants.{Object, Text}
use Rattle.run_command.specs.tx_answers.Ends.{Ends, on_one}
use Rattle.explain_command.specs.Explain.{DecidesExplanation}
use Rattle.text_commands.specs.TextCommands.{Disassembles, Assembles}
use Rattle.txcc_core.specs.TopCall.{CanDo, Does}
use Rattle.txcc_core.proofs.top.execute.Goals as goal

pub returns-in-Run : goal.returns-in-Run
returns-in-Run g c = subst (λ k. Does k (g.H.Host.state c.args.host.now) (g.H.Host.state c.run.new.host) c.run.result) (sym c.in-Run.is) c.run.ensures

pub run-requires : goal.run-requires
run-requires g c = record { options = subst CanDo c.in-Run.is c.requires }

pub returns-in-Build : goal.returns-in-Build
returns-in-Build g c = subst (λ k. Does k (g.H.Host.state c.args.host.now) (g.H.Host.state c.build_object.new.host) c.build_object.result)
    (sym c.in-Build.is) c.build_object.ensures

pub selftest-requires : goal.selftest-requires
selftest-requires g c = let h = subst CanDo c.in-Selftest.is c.requires in record { least = h.0; most = h.1 }

pub returns-in-Selftest : goal.returns-in-Selftest
returns-in-Selftest g c = subst (λ k. Does k (g.H.Host.state c.args.host.now) (g.H.Host.state c.selftest.new.host) c.selftest.result)
    (sym c.in-Selftest.is) c.selftest.ensures

pub returns-in-Dis : goal.returns-in-Dis
returns-in-Dis g c =
    let before = g.H.Host.state c.args.host.now in
    let after = g.H.Host.state c.dis.new.host in
    subst (λ k. Does k before after c.dis.result) (sym c.in-Dis.is)
    (subst (λ (n : List ℕ). Ends (wanted Object n ∷ []) (on_one (Disassembles n)) before after c.dis.result) c.as_str.ensures.value c.dis.ensures)

pub returns-in-Asm : goal.returns-in-Asm
returns-in-Asm g c =
    let before = g.H.Host.state c.args.host.now in
    let after = g.H.Host.state c.asm.new.host in
    subst (λ k. Does k before after c.asm.result) (sym c.in-Asm.is)
    (subst (λ (n : List ℕ). Ends (wanted Text n ∷ [])
    (on_one (Assembles n (string_bytes c.in-Asm.options.object_file))) before after c.asm.result) c.as_str-in-Asm.ensures.value
    (subst (λ (t : List ℕ). Ends (wanted Text c.as_str-in-Asm.result.now ∷ [])
    (on_one (Assembles c.as_str-in-Asm.result.now t)) before after c.asm.result) c.as_str-in-Asm-2.ensures.value c.asm.ensures))

pub exec-requires : goal.exec-requires
exec-requires g c = record { options = subst CanDo c.in-Exec.is c.requires }

pub returns-in-Exec : goal.returns-in-Exec
returns-in-Exec g c = subst (λ k. Does k (g.H.Host.state c.args.host.now) (g.H.Host.state c.exec.new.host) c.exec.result) (sym c.in-Exec.is) c.exec.ensures

pub returns-in-Check : goal.returns-in-Check
returns-in-Check g c = subst (λ k. Does k (g.H.Host.state c.args.host.now) (g.H.Host.state c.check.new.host) c.check.result) (sym c.in-Check.is) c.check.ensures

pub returns-in-Explain : goal.returns-in-Explain
returns-in-Explain g c =
    let before = g.H.Host.state c.args.host.now in
    let after = g.H.Host.state c.explain.new.host in
    subst (λ k. Does k before after c.explain.result) (sym c.in-Explain.is)
    (subst (λ (n : List ℕ). Ends [] (DecidesExplanation n) before after c.explain.result) c.as_str-in-Explain.ensures.value c.explain.ensures)

pub races-requires : goal.races-requires
races-requires g c = record { options = subst CanDo c.in-Races.is c.requires }

pub returns-in-Races : goal.returns-in-Races
returns-in-Races g c = subst (λ k. Does k (g.H.Host.state c.args.host.now) (g.H.Host.state c.races.new.host) c.races.result) (sym c.in-Races.is) c.races.ensures

pub returns-in-Replay : goal.returns-in-Replay
returns-in-Replay g c = subst (λ k. Does k (g.H.Host.state c.args.host.now) (g.H.Host.state c.replay.new.host) c.replay.result)
    (sym c.in-Replay.is) c.replay.ensures
