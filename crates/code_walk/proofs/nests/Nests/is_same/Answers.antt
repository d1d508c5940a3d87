use Rattle.std.proofs.Common.{◌≡◌, sym, ap, ◌∙◌, arith}
use Rattle.code_walk.specs.Nests.{nest}
use Rattle.code_walk.specs.Bodies.{same_opens}
use Rattle.code_walk.proofs.Reached.{opens_itself}
use Rattle.code_walk.proofs.nests.Nests.is_same.Goals as goal

pub returns : goal.returns
returns c =
    let e : c.outwards.b ≡ c.outwards.a = omega arith in
    sym (c.outwards.invariant.same ∙ ap (λ z. same_opens (nest c.args.self.now c.outwards.a) (nest c.args.self.now z)) e
    ∙ opens_itself (nest c.args.self.now c.outwards.a))
