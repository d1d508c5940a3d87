use Rattle.elab_ctx.specs.Places.{is_member_of, is_free_of}
use Rattle.elab_ctx.proofs.PlaceLists.{popped}
use Rattle.elab_ctx.proofs.functions.Functions.drop_last.Goals as goal

pub invariant_of-self : goal.invariant_of-self
invariant_of-self c =
    let f = c.in-Some.function in
    let before = c.self.inside.list.items in
    let fs = c.pop.new.self.items in
    record {
      members = λ n. popped (is_member_of n) before fs f _ _ c.in-Some.ensures.items (c.self.invariant.members n) (c.drop_place.ensures.members n);
      named = λ name. popped (is_free_of name) before fs f _ _ c.in-Some.ensures.items (c.self.invariant.named name) (c.drop_place.ensures.named name);
    }
