-- Kids by their number.
use Rattle.std.proofs.Common.{◌≡◌, ℕ, ◌<◌, ◌≤◌, true, nat_lt, lt-ltb, List, [], ◌∷◌, length, refl, arith}
use Rattle.std.proofs.lemmas.Bool.{and_parts, ltb-true}
use Rattle.elab_conv.specs.cpp_ast.Orders.{are_below}
use Rattle.elab_conv.specs.cpp_ast.declared.arena.NodeId.{NodeId}
use Rattle.elab_conv.specs.cpp_ast.Trees.{Tree}
use Rattle.elab_types.specs.Syntax.{tree_at, trees_at}
use Rattle.elab_types.specs.Kids.{AreMany}

pub are_many : (ids : List NodeId) → 4 ≤ length ids → (trees : List Tree) → AreMany (trees_at trees ids)
are_many [] h trees = absurd (omega arith)
are_many (a ∷ []) h trees = absurd (omega arith)
are_many (a ∷ b ∷ []) h trees = absurd (omega arith)
are_many (a ∷ b ∷ c ∷ []) h trees = absurd (omega arith)
are_many (a ∷ b ∷ c ∷ d ∷ ids) h trees = record {
  first = tree_at trees a;
  second = tree_at trees b;
  third = tree_at trees c;
  fourth = tree_at trees d;
  rest =
      trees_at trees ids;
  are = refl;
}

pub wider : (m n : ℕ) (ids : List NodeId) → m < n → are_below m ids ≡ true → are_below n ids ≡ true
wider m n [] h b = refl
wider m n (id ∷ ids) h b =
    let p = and_parts (nat_lt id.0 m) (are_below m ids) b in
    let low : id.0 < m = ltb-true id.0 m p.0 in
    let first : nat_lt id.0 n ≡ true = lt-ltb id.0 n (omega arith) in
    let others : are_below n ids ≡ true = wider m n ids h p.1 in
    rw (first, others) refl
