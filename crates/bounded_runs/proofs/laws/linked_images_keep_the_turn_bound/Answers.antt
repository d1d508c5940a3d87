use Rattle.turn_bounds.proofs.CheckedBounds.{units_enough}
use Rattle.turn_bounds.specs.Alone.{zeros_in}
use Rattle.bounded_runs.proofs.laws.linked_images_keep_the_turn_bound.Goals as goal

pub returns : goal.returns
returns c = λ g i b linked few image sound picker policy bound input ran run.
    let alone = c.runs_of_images_that_stay_alone.ensures in
    record {
      source = (c.runs_of_linked_images.ensures.given g i b linked.book linked.is).named picker policy bound input ran run;
      turns = λ n out end ends. record {
        never_waits = alone.never_waits g i b linked.book linked.is image sound input n out end ends picker policy bound ran run;
        ended = λ other. alone.ended g i b linked.book linked.is image sound input n out end ends picker policy bound ran run other;
        in_time = λ many. alone.picked g i b linked.book linked.is image sound input n out end ends picker policy bound ran run
            (units_enough b n (zeros_in ran.picked.items) few many);
      };
    }
