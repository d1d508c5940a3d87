use Rattle.std.proofs.Common.{◌≡◌, length, None, map, sym, ap, ◌∙◌, arith}
use Rattle.std.specs.Vec.{vec_len}
use Rattle.std.proofs.lemmas.Bool.{eqb-false}
use Rattle.code_walk.specs.Slots.{slot_of, table_in, signature_in, view_in}
use Rattle.code_verify.specs.Faults.{first_of_indexes, first_of_rows}
use Rattle.code_verify.proofs.FaultLaws.{found_is}
use Rattle.code_verify.proofs.faults.body_fault.Goals as goal

pub returns : goal.returns
returns c =
    let j = c.args.judged in
    let w = c.in_ok-walked.walked in
    let d : vec_len j.body.now.code ≡ 0 → ⊥ = eqb-false (vec_len j.body.now.code) 0 (sym c.if-is_empty.ensures) in
    let some : length j.body.now.code.items ≡ 0 → ⊥ = λ q. omega (arith, q, d, j.body.now.code.ok) in
    found_is (table_in j) (signature_in j) j.safe (view_in j)
    (map (slot_of w.nests) w.slots.items) c.first_of_indexes-by_index.result c.first_of_rows-by_row.result c.earlier.result some
    c.in_ok-walked.ensures.slots c.earlier.ensures
    (c.first_of_indexes-by_index.ensures ∙ ap (λ z. first_of_indexes (table_in j) j.gives j.safe (view_in j)
    (map (slot_of w.nests) z) 0 j.body.now.code.items) c.deref-2.ensures.value)
    (c.first_of_rows-by_row.ensures ∙ ap (λ z. first_of_rows (table_in j) (view_in j)
    (map (slot_of w.nests) z) None j.body.now.rows.items) c.deref-4.ensures.value)
