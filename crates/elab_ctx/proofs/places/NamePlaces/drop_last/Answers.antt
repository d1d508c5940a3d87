use Rattle.std.proofs.Common.{◌≡◌, ◌∙◌, ◌-◌, length, take, vec_len, ap, sym, rules}
use Rattle.std.specs.Option.{option_copied_mut}
use Rattle.elab_ctx.proofs.NameLists.{put_less}
use Rattle.elab_ctx.proofs.places.NamePlaces.drop_last.Goals as goal

pub returns-in-Some : goal.returns-in-Some
returns-in-Some c other = put_less c.args.self.now.lists.entries _ c.args.name.now other c.in-Some.list.now c.pop-last.new.self
    (c.get_mut.follows.holds c.pop-last.new.self).0 (sym c.get_mut.ensures.value ∙ ap option_copied_mut c.in-Some.is)
    (c.pop-last.ensures.rest ∙ (let long : vec_len c.in-Some.list.now ≡ length c.in-Some.list.now.items = search rules in ap
    (λ n. take (n - 1) c.in-Some.list.now.items) long))
