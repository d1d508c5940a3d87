-- Bodies that are noted for lambdas.
use Rattle.std.specs.Prelude.{◌≡◌, ℕ, ◌<◌, ◌≤◌, nat_eq, nat_le, nat_lt, ◌&&◌, Bool, false, if◌then◌else◌, List, [], ◌∷◌, map, count_by, slice_get}
use Rattle.std.specs.Prelude.{Option, Some, None}
use Rattle.cpp_ast.specs.declared.arena.Node.{Node}
use Rattle.cpp_ast.specs.declared.arena.NodeId.{NodeId}
use Rattle.cpp_ast.specs.declared.units.LamBody.{LamBody}
use Rattle.cpp_ast.specs.Trees.{Tree, ShowsWith}
use Rattle.cpp_ast.specs.Units.{times_in}
use Rattle.cpp_syntax.specs.View.{is_lambda}

-- how often a number stands in a list
abbrev pub times : ℕ → List ℕ → ℕ
times id ids = count_by (λ (other : ℕ). nat_eq other id) ids

abbrev pub lams_noted : List LamBody → List NodeId
lams_noted bodies = map (λ (body : LamBody). body.lam) bodies

abbrev pub roots_noted : List LamBody → List NodeId
roots_noted bodies = map (λ (body : LamBody). body.body) bodies

-- 1 for an index from one on, before another
abbrev pub one_from : ℕ → ℕ → ℕ → ℕ
one_from from to id = if nat_le from id && nat_lt id to then 1 else 0

abbrev pub is_lambda_node : Option Node → Bool
is_lambda_node None = false
is_lambda_node (Some n) = is_lambda n.kind

-- a lambda stands at an index
abbrev pub is_lambda_at : List Node → ℕ → Bool
is_lambda_at nodes id = is_lambda_node (slice_get nodes id)

-- 1 for the index of a lambda from one on, before another
abbrev pub one_lambda : List Node → ℕ → ℕ → ℕ → ℕ
one_lambda nodes from to id = if is_lambda_at nodes id then one_from from to id else 0

-- Each body is noted for a lambda, and none twice for one.
pub record AreNoted (nodes : List Node) (bodies : List LamBody) : Type 0 where
  pub each : (id : ℕ) → times_in id (lams_noted bodies) ≤ (if is_lambda_at nodes id then 1 else 0)

-- a body is one of those that are noted
pub data Among (body : LamBody) : List LamBody → Type 0 where
  first : {bodies rest : List LamBody} → bodies ≡ body ∷ rest → Among body bodies
  later : {bodies rest : List LamBody} (other : LamBody) → bodies ≡ other ∷ rest → Among body rest → Among body bodies

abbrev pub noted_for : ℕ → NodeId → LamBody
noted_for lam root = record { lam = record { 0 = lam }; body = root }

-- the nodes of the bodies that are noted for lambdas show these trees
abbrev pub BodiesShow : List LamBody → List Node → List ℕ → List Tree → Type 0
BodiesShow bodies nodes [] [] = Unit {0}
BodiesShow bodies nodes [] (tree ∷ trees) = ⊥
BodiesShow bodies nodes (lam ∷ lams) [] = ⊥
BodiesShow bodies nodes (lam ∷ lams) (tree ∷ trees) =
    (root : NodeId) × Among (noted_for lam root) bodies × ShowsWith bodies nodes root.0 tree × BodiesShow bodies nodes lams trees

-- the lambdas and the bodies stand below an index
abbrev pub AreWithin : ℕ → List LamBody → Type 0
AreWithin most bodies = (k : ℕ) (body : LamBody) → slice_get bodies k ≡ Some body → (body.lam.0 < most) × (body.body.0 < most)

-- no lambda has two bodies
pub record IsOnceEach (bodies : List LamBody) : Type 0 where
  pub each : (id : ℕ) → times_in id (lams_noted bodies) ≤ 1
