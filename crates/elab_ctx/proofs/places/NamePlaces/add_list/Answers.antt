use Rattle.std.proofs.Common.{◌∙◌, ap, ◌++◌, ◌∷◌, []}
use Rattle.elab_ctx.specs.Places.{listed}
use Rattle.elab_ctx.proofs.NameLists.{fresh, entry}
use Rattle.elab_ctx.proofs.places.NamePlaces.add_list.Goals as goal

pub returns : goal.returns
returns c other = ap (λ es. listed (entry other es)) c.in_ok-_before.ensures.entries
    ∙ fresh c.args.self.now.lists.entries c.args.name.now other c.in_ok-key.key c.push.new.self c.args.place c.in_ok-key.ensures.items
    (c.in_ok-push.ensures.items ∙ ap (λ is. is ++ c.args.place ∷ []) c.new-list.ensures.items) c.requires
