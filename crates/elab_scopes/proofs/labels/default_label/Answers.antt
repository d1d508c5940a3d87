use Rattle.std.proofs.Common.{refl, rules, [], sym, append-nil}
use Rattle.elab_scopes.proofs.Standing.{one_added}
use Rattle.elab_scopes.proofs.labels.default_label.Goals as goal

pub returns : goal.returns
returns c = one_added c.args.st.now _ c.in_ok-made.made _ _ _
    (record {
      trees = c.in_ok-made.ensures.grows;
      labels =
          record { typ = refl; extra = []; words = sym (append-nil _) };
    }) c.in_ok-made.ensures.within c.in_ok-made.ensures.is refl (search rules)
