use Rattle.std.proofs.Common.{◌≡◌, drop}
use Rattle.std.specs.List.{list_all}
use Rattle.tx_safety.specs.Marks.{is_marked_call}
use Rattle.tx_safety.proofs.marks.are_allowed_there.Given as goal

abbrev pub invariant-loop-site : goal.invariant-loop-site
invariant-loop-site l = list_all (is_marked_call l.marks l.n) l.calls ≡ list_all (is_marked_call l.marks l.n) (drop l.site-index l.calls)
