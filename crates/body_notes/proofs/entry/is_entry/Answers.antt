use Rattle.symbolic_leaving.specs.Source.{units_of}
use Rattle.note_landing.specs.Shown.{types_by, func_by}
use Rattle.std.proofs.Common.{rules, arith, sym, ◌∙◌}
use Rattle.body_notes.proofs.entry.is_entry.Goals as goal

pub returns-clause-is : goal.returns-clause-is
returns-clause-is c told m a =
    let there = c.in_ok-outcome.ensures.grows _ m a in
    record {
      first = omega arith;
      facts_are = c.has_none.ensures (search rules) (types_by c.args.body.now) m;
      place_is = c.equal_places.ensures.shows (search rules) (types_by c.args.body.now) m there ∙ c.in_ok-place.ensures.is m there;
      outcome_is = c.equal_outcomes.ensures.shows told (types_by c.args.body.now) m (units_of c.args.body.now.source) (func_by c.args.body.now) a ∙ c.in_ok-outcome.ensures.is m a;
      foreseen = sym (c.is_stuck.ensures c.args.body.now m) ∙ search rules;
      low = omega arith;
    }
