use Rattle.std.proofs.Common.{◌≡◌, [], sym, subst, rules}
use Rattle.race_check.specs.Rows.{Right}
use Rattle.race_check.specs.Words.{Listed}
use Rattle.race_check.proofs.FoundSteps.{all_listed, more_listed, none_listed, none_marked}
use Rattle.race_check.proofs.found.races.Goals as goal

pub items-init : goal.items-init
items-init c =
    let empty : c.new-words.result.items ≡ [] = search rules in
    record {
      clocked = c.in_ok-clocks.ensures c.args.items.now;
      blocked = c.new-blocks.ensures c.args.items.now;
      marked = none_marked c.args.items.now c.new-seen.result c.new-seen.ensures.reads c.new-seen.ensures.writes;
      listed = subst (λ words. Listed c.args.items.now words 0) (sym empty) (none_listed c.args.items.now);
    }

pub items-preserved : goal.items-preserved
items-preserved c = record {
  clocked = c.put-in-items.ensures.clocked;
  blocked = c.in_ok-put-2.ensures;
  marked = c.in_ok-put.ensures;
  listed = more_listed c.args.items.now c.requires c.items.words.items c.add_races.new.words.items c.row.result.now.latest c.items.seen c.items.j
      c.item_at-item.result c.item_at-item.ensures (subst (λ row. Right c.args.items.now row c.items.j)
      (sym c.row.ensures) c.reach.ensures.right) c.items.invariant.marked c.in_ok-add_races.ensures c.items.invariant.listed;
}

pub returns : goal.returns
returns c = all_listed c.args.items.now c.items.words.items c.items.j c.items-test.false c.items.invariant.listed
