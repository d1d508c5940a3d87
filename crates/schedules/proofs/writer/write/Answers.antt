use Rattle.std.proofs.Common.{◌≡◌, ◌∙◌, ◌++◌, ◌+◌, ◌-◌, ◌∷◌, [], ap, ap₂, subst, arith, length}
use Rattle.std.specs.Prelude.{◌==◌}
use Rattle.std.specs.Fmt.{decimal}
use Rattle.std.proofs.lemmas.List.Sums.{prefix_len-le-length}
use Rattle.schedules.specs.Text.{count_text, runs_of, text_of}
use Rattle.schedules.proofs.Runs.{next_line}
use Rattle.schedules.proofs.writer.write.Goals as goal

pub split_at-requires : goal.split_at-requires
split_at-requires c = rw c.equal_at-equal.ensures (prefix_len-le-length (λ x. x == c.in-Some.first.now) c.in-Some.others.now)

pub runs-preserved : goal.runs-preserved
runs-preserved c =
    let number : length c.runs.rest.now - length c.split_at.result.1.now ≡ c.equal_at-equal.result + 1 =
    omega (arith, c.in-Some.ensures.cases.1, c.split_at.ensures.back_len) in
    let before = subst (λ xs. c.runs.text.items ++ text_of (runs_of xs) ≡ text_of (runs_of c.args.entries.now)) c.in-Some.ensures.cases.0 c.runs.invariant in
    ap₂ (λ x y. x ++ text_of (runs_of y)) (c.in_ok-write_line.ensures ∙ ap
    (λ n. c.runs.text.items ++ (decimal c.in-Some.first.now ++ (count_text n ++ 10 ∷ []))) number) c.split_at.ensures.back
    ∙ next_line c.runs.text.items c.args.entries.now c.in-Some.others.now c.in-Some.first.now c.equal_at-equal.result before c.equal_at-equal.ensures
