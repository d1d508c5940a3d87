-- What a builder is made of in the end.
use Rattle.std.proofs.Common.{◌≡◌, ℕ, ◌+◌, ◌≤◌, nat_lt, nat_le, ◌&&◌, if◌then◌else◌, List, ◌++◌, length, length-take-le, take, drop, refl, sym, ◌∙◌, ap, subst}
use Rattle.std.proofs.lemmas.List.{take-append-drop}
use Rattle.cpp_ast.specs.declared.arena.Node.{Node}
use Rattle.cpp_ast.specs.declared.arena.NodeId.{NodeId}
use Rattle.cpp_ast.specs.Trees.{Extends}
use Rattle.cpp_ast.specs.Units.{times_in, times_a_kid}
use Rattle.cpp_syntax.specs.declared.positions.OpenBody.{OpenBody}
use Rattle.cpp_syntax.specs.View.{BuilderState, builder_state, IsBuilt, BuiltTrees}
use Rattle.cpp_syntax.proofs.GatheredNodes.{all_of_each}

base_long : (base : ℕ) (nodes : List Node) (ids : List NodeId) (totals : List ℕ) (bodies : List OpenBody) (built : BuilderState)
    → builder_state base nodes ids bodies ≡ built → IsBuilt base nodes ids totals bodies → base ≡ length built.base
base_long base nodes ids totals bodies built view inv = sym (ap (λ (b : BuilderState). length b.base) (sym view) ∙ length-take-le base nodes inv.within)

pub parts_shown : (base : ℕ) (nodes : List Node) (ids : List NodeId) (totals : List ℕ) (bodies : List OpenBody) (built : BuilderState)
    → builder_state base nodes ids bodies ≡ built → IsBuilt base nodes ids totals bodies → BuiltTrees (length built.base) nodes ids bodies
parts_shown base nodes ids totals bodies built view inv =
    subst (λ (k : ℕ). BuiltTrees k nodes ids bodies) (base_long base nodes ids totals bodies built view inv) (record {
      shows = all_of_each nodes ids inv.shows;
      apart = inv.apart;
      lambdas = inv.lambdas;
    })

pub parts_built : (base : ℕ) (nodes : List Node) (ids : List NodeId) (totals : List ℕ) (bodies : List OpenBody) (built : BuilderState)
    → builder_state base nodes ids bodies ≡ built → IsBuilt base nodes ids totals bodies → built ≡ builder_state (length built.base) nodes ids bodies
parts_built base nodes ids totals bodies built view inv =
    sym view ∙ ap (λ (k : ℕ). builder_state k nodes ids bodies) (base_long base nodes ids totals bodies built view inv)

pub parts_grown : (base : ℕ) (nodes : List Node) (ids : List NodeId) (bodies : List OpenBody) (built : BuilderState)
    → builder_state base nodes ids bodies ≡ built → Extends built.base nodes
parts_grown base nodes ids bodies built view = record {
  extra = drop base nodes;
  appended = sym (take-append-drop base nodes) ∙ ap (λ (b : BuilderState). b.base ++ drop base nodes) view;
}
