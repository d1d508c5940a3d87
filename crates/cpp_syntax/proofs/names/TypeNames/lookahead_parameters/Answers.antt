use Rattle.std.proofs.Common.{◌≡◌, sym, ◌∙◌}
use Rattle.cpp_syntax.proofs.KnownParameters.{passed_seen}
use Rattle.cpp_syntax.proofs.names.TypeNames.lookahead_parameters.Goals as goal

pub returns-clause-yes : goal.returns-clause-yes
returns-clause-yes c =
    λ e. rw (← c.self.view_is) (passed_seen c.self.inside.outline c.args.at c.behind_parameters.result c.behind_parameters.ensures
    (sym c.is_some.ensures ∙ e))
