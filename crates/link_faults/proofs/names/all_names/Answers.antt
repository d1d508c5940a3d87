use Rattle.std.proofs.Common.{◌≡◌, length, arith, ap}
use Rattle.std.proofs.lemmas.List.{length-map}
use Rattle.std.proofs.lemmas.List.Filters.{dedup_is}
use Rattle.std.proofs.lemmas.List.Sorted.{length_permutation}
use Rattle.std.specs.List.{dedup}
use Rattle.tx_code.specs.Objects.{bytes_of}
use Rattle.link_faults.proofs.Ascending.{all_listed, dedup_ascends, dedup_shorter, items_eq}
use Rattle.link_faults.proofs.names.all_names.Goals as goal

pub returns : goal.returns
returns c =
    let sorted = c.sort_unstable.new.self.items in
    let is : c.dedup.new.self.items ≡ dedup items_eq sorted = dedup_is items_eq _ _ c.dedup.ensures.filtered in
    rw is (record {
      ascend = dedup_ascends sorted c.sort_unstable.ensures.sorted;
      listed = rw (← c.in_ok-names.ensures) (all_listed c.in_ok-names.names.items sorted c.sort_unstable.ensures.permutation);
      count =
          let copied = c.in_ok-names.names.items in
          let a = length-map (dedup items_eq sorted) bytes_of in
          let b = length-map copied bytes_of in
          let e = ap length c.in_ok-names.ensures in
          omega (arith, dedup_shorter sorted, length_permutation copied sorted c.sort_unstable.ensures.permutation);
    })
