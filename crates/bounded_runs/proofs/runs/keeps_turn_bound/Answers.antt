use Rattle.std.proofs.Common.{◌≤◌, ◌<◌, ◌+◌, ◌*◌, subst, rules}
use Rattle.std.proofs.lemmas.Result.{IfOk-weaker}
use Rattle.src_bind.specs.Tables.{Given}
use Rattle.turn_bounds.specs.Alone.{zeros_in}
use Rattle.bounded_runs.proofs.LoneSource.{bound_of_many, bound_of_ended, bound_of_open, waits_no, turns_no}
use Rattle.bounded_runs.proofs.runs.keeps_turn_bound.Goals.{then-ran-ne0-via-then-ran-ne0, then-ran-ne0-via-else-ran-ne0+then-ran-ne0-2}
use Rattle.bounded_runs.proofs.runs.keeps_turn_bound.Goals as goal

pub returns-then-started-ne1-clause-yes : goal.returns-then-started-ne1-clause-yes
returns-then-started-ne1-clause-yes c = λ e.
    bound_of_many c.args.started 4294967295 (record { program = c.args.program.now; choices = c.args.choices.now }) c.args.input.now c.args.ran.now c.requires
    c.if-started-ne1.true

pub returns-then-ran-ne0-clause-no : goal.returns-then-ran-ne0-clause-no
returns-then-ran-ne0-clause-no c = λ e.
    waits_no c.args.started (record { program = c.args.program.now; choices = c.args.choices.now }) c.args.input.now c.args.ran.now c.requires
    c.if-started-ne1.false
    (elim c.then-ran-ne0.branch [
      | then-ran-ne0-via-then-ran-ne0 w ↦ λ waited rolled. w.if-ran-ne0.true waited
      | then-ran-ne0-via-else-ran-ne0+then-ran-ne0-2 w ↦ λ waited rolled. w.if-ran-ne0-2.true rolled
    ])

pub returns-then-ne-clause-yes : goal.returns-then-ne-clause-yes
returns-then-ne-clause-yes c = λ e.
    bound_of_ended c.args.started 4294967295 (record { program = c.args.program.now; choices = c.args.choices.now }) c.args.input.now c.args.ran.now c.requires
    c.if-ran-ne0.false c.if-ran-ne0-2.false (search rules)

pub returns-clause-yes : goal.returns-clause-yes
returns-clause-yes c =
    let g : Given = record { program = c.args.program.now; choices = c.args.choices.now } in
    IfOk-weaker c.needs_more.result _ _
    (λ more h e. bound_of_open c.args.started 4294967295 g c.args.input.now c.args.ran.now c.requires c.if-ran-ne0.false c.if-ran-ne0-2.false
    (λ n out end ends. subst (λ picked. zeros_in picked < 66 * n + 64) c.as_slice.ensures.value (h e n out end ends)))
    c.needs_more.ensures.more

pub returns-clause-no : goal.returns-clause-no
returns-clause-no c =
    IfOk-weaker c.needs_more.result _ _
    (λ more h e. turns_no c.args.started (record { program = c.args.program.now; choices = c.args.choices.now }) c.args.input.now c.args.ran.now c.requires
    c.if-started-ne1.false (search rules) (subst (λ picked. 64 ≤ zeros_in picked) c.as_slice.ensures.value (h e)))
    c.needs_more.ensures.some
