use Rattle.std.proofs.Common.{◌≡◌, ◌++◌, ◌∷◌, [], length, is_ok, true, rules, arith}
use Rattle.elab_ctx.specs.Places.{is_member_of, is_free_of}
use Rattle.elab_ctx.proofs.PlaceLists.{pushed}
use Rattle.elab_ctx.proofs.functions.Functions.push.Goals as goal

pub invariant_of-self-2 : goal.invariant_of-self-2
invariant_of-self-2 c =
    let f = c.args.function in
    let before = c.self.inside.list.items in
    let grown : c.push.new.self.items ≡ before ++ f ∷ [] = search rules in
    let at : c.in-Ok.place ≡ length before = search (rules, arith) in
    let ok : is_ok c.add_place.result ≡ true = search rules in
    record {
      members = λ n. pushed (is_member_of n) before c.push.new.self.items f c.in-Ok.place _ _ _ grown at ok (c.self.invariant.members n)
          (c.add_place.ensures.members n);
      named = λ name. pushed (is_free_of name) before c.push.new.self.items f c.in-Ok.place _ _ _ grown at ok (c.self.invariant.named name)
          (c.add_place.ensures.named name);
    }
