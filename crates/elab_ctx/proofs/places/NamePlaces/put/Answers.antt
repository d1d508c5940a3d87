use Rattle.std.proofs.Common.{◌≡◌, ◌∙◌, ◌&&◌, Bool, false, is_ok, ap, sym, rules}
use Rattle.std.specs.Str.{bytes_eq}
use Rattle.elab_ctx.specs.Places.{one_more, places_called}
use Rattle.std.specs.Option.{option_copied_mut}
use Rattle.elab_ctx.proofs.NameLists.{put_more, put_same}
use Rattle.elab_ctx.proofs.places.NamePlaces.put.Goals as goal

pub returns-in_err-push-in-Some : goal.returns-in_err-push-in-Some
returns-in_err-push-in-Some c other = put_same c.args.self.now.lists.entries _ c.args.name.now other c.in-Some.list.now c.push.new.self
    (c.get_mut.follows.holds c.push.new.self).0 (sym c.get_mut.ensures.value ∙ ap option_copied_mut c.in-Some.is) c.in_err-push-in-Some.ensures.items
    ∙ (let bad : is_ok c.from_residual.result ≡ false = search rules in
    ap (λ (b : Bool). one_more (b && bytes_eq other c.args.name.now) (places_called c.args.self.now other) c.args.place) (sym bad))

pub returns-in_ok-push-in-Some : goal.returns-in_ok-push-in-Some
returns-in_ok-push-in-Some c other = put_more c.args.self.now.lists.entries _ c.args.name.now other c.in-Some.list.now c.push.new.self c.args.place
    (c.get_mut.follows.holds c.push.new.self).0 (sym c.get_mut.ensures.value ∙ ap option_copied_mut c.in-Some.is) c.in_ok-push-in-Some.ensures.items
