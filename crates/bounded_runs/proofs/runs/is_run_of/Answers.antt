use Rattle.std.proofs.Common.{List, ℕ, Option, subst}
use Rattle.std.specs.Prelude.{IfSome}
use Rattle.std.proofs.lemmas.Result.{IfOk-weaker}
use Rattle.source_runs.specs.Sources.{RunsTo, RunsWith}
use Rattle.src_bind.specs.Tables.{Given}
use Rattle.bounded_runs.proofs.runs.is_run_of.Goals as goal

pub returns-in-Some-clause-yes : goal.returns-in-Some-clause-yes
returns-in-Some-clause-yes c =
    let g : Given = record { program = c.args.program.now; choices = c.args.choices.now } in
    let ran = c.args.ran.now in
    let found : RunsWith c.in-Some.started 4294967295 g c.args.input.now c.as_slice-order.result.now c.as_slice-out.result.now ran.end =
    subst (λ (o : Option ℕ). IfSome o (λ n. RunsWith n 4294967295 g c.args.input.now c.as_slice-order.result.now c.as_slice-out.result.now ran.end)) c.in-Some.is
    c.in_ok-started.ensures.some in
    let source : RunsTo g c.args.input.now ran.order.items ran.out.items ran.end =
    subst (λ (out : List ℕ). RunsTo g c.args.input.now ran.order.items out ran.end) c.as_slice-out.ensures.value
    (subst (λ (order : List ℕ). RunsTo g c.args.input.now order c.as_slice-out.result.now ran.end) c.as_slice-order.ensures.value found.run.runs) in
    IfOk-weaker c.keeps_turn_bound.result _ _ (λ yes h e. record { source = source; turns = h e }) c.keeps_turn_bound.ensures.yes
