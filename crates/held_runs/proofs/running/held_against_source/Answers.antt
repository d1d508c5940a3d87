use Rattle.std.proofs.Common.{map, rules, refl, ◌≤◌, arith}
use Rattle.src_bind.specs.Tables.{Given}
use Rattle.tx_code.specs.Objects.{object_view}
use Rattle.held_runs.proofs.Held.{of_code}
use Rattle.held_runs.proofs.running.held_against_source.Goals as goal

few : 63 ≤ 63
few = omega arith

pub returns : goal.returns
returns c =
    let g : Given = record { program = c.args.program.now; choices = c.args.choices.now } in
    record {
      same = refl;
      source = of_code g (map object_view c.args.objects.now) c.args.input.now c.args.decision.answer c.one_image.ensures
          (λ g i shown. c.linked_images_keep_the_turn_bound.ensures g i _ shown few) (c.is_checked.ensures (search rules)) c.requires.run;
    }
