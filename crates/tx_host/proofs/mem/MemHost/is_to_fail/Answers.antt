use Rattle.std.proofs.lemmas.List.Elements.{Decides-contains, contains_decides}
use Rattle.std.proofs.lemmas.Bool.Decides.{Decides-eqb}
use Rattle.std.proofs.Common.{eqb, subst, Contains}
use Rattle.std.specs.Bool.{Decides}
use Rattle.tx_host.proofs.mem.MemHost.is_to_fail.Goals as goal

pub returns : goal.returns
returns c =
    let decided = Decides-contains c.deref.result.now c.value.result c.contains.result
    (contains_decides eqb Decides-eqb c.deref.result.now c.value.result c.contains.result c.contains.ensures.cases) in
    subst (λ n. Decides c.contains.result (Contains c.args.self.now.fails.items n)) c.value.ensures
    (subst (λ xs. Decides c.contains.result (Contains xs c.value.result)) c.deref.ensures.value decided)
