use Rattle.std.proofs.Common.{◌==◌, ap, sym, ◌∙◌, arith}
use Rattle.std.specs.List.{list_all}
use Rattle.own_table.specs.declared.hold.HoldRec.{HoldRec}
use Rattle.own_table.specs.Records.{stripe_of, record_of, mode_in}
use Rattle.own_table.proofs.TableLemmas.{held_once}
use Rattle.own_table.proofs.table.Holders.new.Goals as goal

pub invariant_of-result : goal.invariant_of-result
invariant_of-result c = record {
  table = record {
    stripes_len = c.in_ok-stripes.ensures.len;
    threads = omega (arith, c.in_ok-held.ensures.len, c.requires.limit);
    placed = λ s. ap (list_all (λ (r : HoldRec). stripe_of r.word == s)) (c.in_ok-stripes.ensures.free s);
    spare = λ t h e. omega (arith, h.fits);
    kept = λ t w l. c.in_ok-held.ensures.none t w ∙ sym (ap (λ rs. held_once (mode_in (record_of rs w) t)) (c.in_ok-stripes.ensures.free (stripe_of w)));
  };
}
