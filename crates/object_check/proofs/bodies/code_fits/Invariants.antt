use Rattle.std.proofs.Common.{◌≡◌, drop}
use Rattle.std.specs.List.{list_all}
use Rattle.tx_code.specs.WellFormed.{is_name, named_by}
use Rattle.object_check.proofs.bodies.code_fits.Given as goal

abbrev pub invariant-loop-instr : goal.invariant-loop-instr
invariant-loop-instr l = list_all (λ instr. list_all (is_name l.names) (named_by instr)) l.code
    ≡ list_all (λ instr. list_all (is_name l.names) (named_by instr)) (drop l.instr-index l.code)
