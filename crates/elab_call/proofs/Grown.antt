-- Operands stay what they are when the list of nodes grows.
use Rattle.std.proofs.Common.{◌≡◌, true, nat_lt, List, [], ◌∷◌, length, refl, lt-ltb}
use Rattle.std.proofs.lemmas.Bool.{and_parts, ltb-true}
use Rattle.elab_make.specs.cpp_tree.Trees.{Tree}
use Rattle.elab_make.specs.cpp_tree.Arena.{tree_at, Grows}
use Rattle.elab_make.specs.elab_ctx.declared.operand.Operand.{Operand}
use Rattle.elab_make.specs.elab_ctx.Operands.{operands_in, are_in}
use Rattle.elab_make.proofs.elab_ctx.Looks.{at_grown, within_grown}

pub operands_kept : (old new : List Tree) (os : List Operand) → Grows old new → are_in (length old) os ≡ true → operands_in new os ≡ operands_in old os
operands_kept old new [] g h = refl
operands_kept old new (o ∷ os) g h =
    let p = and_parts (nat_lt o.id.0 (length old)) (are_in (length old) os) h in
    let first : tree_at new o.id ≡ tree_at old o.id = at_grown old new o.id g (ltb-true o.id.0 (length old) p.0) in
    let others : operands_in new os ≡ operands_in old os = operands_kept old new os g p.1 in
    rw (first, others) refl

pub are_in_grown : (old new : List Tree) (os : List Operand) → Grows old new → are_in (length old) os ≡ true → are_in (length new) os ≡ true
are_in_grown old new [] g h = refl
are_in_grown old new (o ∷ os) g h =
    let p = and_parts (nat_lt o.id.0 (length old)) (are_in (length old) os) h in
    let first : nat_lt o.id.0 (length new) ≡ true = lt-ltb o.id.0 (length new) (within_grown old new o.id g (ltb-true o.id.0 (length old) p.0)) in
    let others : are_in (length new) os ≡ true = are_in_grown old new os g p.1 in
    rw (first, others) refl
