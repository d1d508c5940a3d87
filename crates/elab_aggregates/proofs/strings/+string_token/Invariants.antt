use Rattle.elab_aggregates.proofs.strings.+string_token.Given as goal

abbrev pub decreases-string_token : goal.decreases-string_token
decreases-string_token l = l.id.0
