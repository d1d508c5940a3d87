use Rattle.std.proofs.lemmas.Result.{IfOk-weaker}
use Rattle.tx_safety.specs.Answers.{checked_in}
use Rattle.run_command.proofs.steps.compiled.Goals as goal

pub returns : goal.returns
returns c = IfOk-weaker c.run_program.result _ _
    (λ d h. record {
      program = checked_in c.in_ok-program.program;
      compiled = c.in_ok-program.ensures;
      runs = h.units;
      source = c.runs_of_compiled.ensures c.args.fold (checked_in c.args.safe)
          (checked_in c.in_ok-program.program) c.in_ok-choices.choices c.args.input.items d.answer
          c.requires.well_formed (c.in_ok-program.ensures).is c.in_ok-choices.ensures h.source;
    })
    c.run_program.ensures
