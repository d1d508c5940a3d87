use Rattle.std.proofs.Common.{◌≡◌, ◌<◌, ◌∷◌, ◌++◌, [], ◌+◌, length, subst, sym, ap, ◌∙◌, arith}
use Rattle.std.specs.Prelude.{not}
use Rattle.tx_events.specs.Thread.{no_atomic}
use Rattle.code_walk.specs.declared.nests.Link.{Link}
use Rattle.code_walk.specs.Nests.{open_of, nest, AreLinks, linked, table_of_links}
use Rattle.code_walk.proofs.NestTables.{one_more, table_more}
use Rattle.code_walk.proofs.nests.Nests.enter.Goals as goal

pub invariant_of-self-2 : goal.invariant_of-self-2
invariant_of-self-2 c =
    let l : Link = record { block = c.args.block; outer = c.args.outer; atomic = c.is_atomic-atomic.result } in
    let h : c.args.outer < length (table_of_links c.self.inside.links.items) = subst (λ t. c.args.outer < length t) (sym c.self.view_is) c.requires in
    let a : c.is_atomic-atomic.result ≡ not (no_atomic (linked (table_of_links c.self.inside.links.items) l)) = c.is_atomic-atomic.ensures
    ∙ ap (λ t. not (no_atomic (open_of c.args.block ∷ nest t c.args.outer))) (sym c.self.view_is) in
    subst AreLinks (sym c.in_ok-push.ensures.items) (one_more c.self.inside.links.items l c.self.invariant h a)

pub returns : goal.returns
returns c =
    let l : Link = record { block = c.args.block; outer = c.args.outer; atomic = c.is_atomic-atomic.result } in
    let n : length c.args.self.now ≡ length c.self.inside.links.items + 1 = ap length (sym c.self.view_is) ∙ c.self.invariant.count in (
      omega (arith, n, c.in_ok-push.ensures.len, c.len.ensures),
      ap table_of_links c.in_ok-push.ensures.items ∙ table_more c.self.inside.links.items l
          ∙ ap (λ t. t ++ linked t l ∷ []) c.self.view_is,
    )
