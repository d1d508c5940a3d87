use Rattle.std.proofs.Common.{sym, subst}
use Rattle.exec_command.proofs.Parts.{can_pick}
use Rattle.race_check.specs.Races.{Races}
use Rattle.race_check.specs.Regular.{Regular}
use Rattle.object_races.proofs.runs.run_with_races.Goals as goal

pub trace_named-requires-clause-picker : goal.trace_named-requires-clause-picker
trace_named-requires-clause-picker c = can_pick c.args.options.now.picker c.args.entries.now c.requires.options.slot c.requires.threads

pub races-requires : goal.races-requires
races-requires c =
    subst Regular (sym c.as_slice.ensures.value) (c.a_trace_of_an_image_is_regular.ensures c.args.input.items _ _ c.in_ok-ran.ensures.trace)

pub returns-clause-races : goal.returns-clause-races
returns-clause-races c = record {
  items = c.in_ok-ran.trace.items.items;
  trace = c.in_ok-ran.ensures.trace;
  races = subst (λ l. Races l c.in_ok-words.words.items) c.as_slice.ensures.value c.in_ok-words.ensures;
}
