use Rattle.std.proofs.Common.{ap}
use Rattle.elab_entry.proofs.elab_ctx.Making.{last_adds}
use Rattle.elab_entry.specs.elab_rules.Initialising.{as_source}
use Rattle.elab_implicit.proofs.copying.source_base.Goals as goal

pub returns : goal.returns
returns c = λ n. last_adds _ _ _ _ _ _ (c.in_ok-source.ensures n).grows (ap (as_source c.args.at c.args.base) (c.in_ok-source.ensures n).is) c.as_source.ensures

pub as_source-requires : goal.as_source-requires
as_source-requires c = (c.in_ok-source.ensures c.args.base).within
