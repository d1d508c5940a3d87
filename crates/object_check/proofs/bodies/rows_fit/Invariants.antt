use Rattle.std.proofs.Common.{◌≡◌, drop}
use Rattle.std.specs.List.{list_all}
use Rattle.tx_code.specs.WellFormed.{is_name, named_by_row}
use Rattle.object_check.proofs.bodies.rows_fit.Given as goal

abbrev pub invariant-loop-row : goal.invariant-loop-row
invariant-loop-row l = list_all (λ row. list_all (is_name l.names) (named_by_row row)) l.rows
    ≡ list_all (λ row. list_all (is_name l.names) (named_by_row row)) (drop l.row-index l.rows)
