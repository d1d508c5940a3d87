use Rattle.std.proofs.Common.{rules, sym, ◌∙◌}
use Rattle.body_notes.proofs.Called.{safe_as}
use Rattle.body_notes.proofs.checked.named_safe.Goals as goal

pub returns-clause-is : goal.returns-clause-is
returns-clause-is c m a all types =
    let k = c.in_ok-calling.ensures.is m a c.args.func all types (search rules) in
    (sym (c.is_covered.ensures m) ∙ search rules, k.calling, safe_as c.args.body.now _ _ _ _ k.callee_is c.number_of.ensures c.is_safe.ensures (search rules))
