-- The rows of a run, at an index that they do not cover.
use Rattle.std.proofs.Common.{◌≡◌, ℕ, zero, suc, Bool, true, false, cond, ◌&&◌, ◌||◌, List, [], ◌∷◌, ◌++◌, length, refl, ap, ◌∙◌, append_assoc}
use Rattle.std.proofs.Common.{append-nil, sym}
use Rattle.std.specs.Prelude.{nat_eq, nat_lt, nat_le, None}
use Rattle.tx_code.specs.declared.body.Row.{Row}
use Rattle.low_code.specs.declared.scopes.ScopeKind.{ScopeKind}
use Rattle.low_code.specs.declared.scopes.ScopeKind.TheVariants.{Function, Mark, Loop, Switch, Try}
use Rattle.low_code.specs.declared.writer.Catch.{Catch}
use Rattle.low_code.specs.Writer.{Body, scope_in}
use Rattle.low_code.specs.Rows.{pad_row, catch_row, catch_rows, catches_all, rows_by, chain_rows, chain_last, edge_rows, run_rows, some_rows}
use Rattle.lowered_rows.proofs.Finding.{first, first_past}

module _ (b : Body) (from to i ty : ℕ) (c : (nat_le from i && nat_lt i to) ≡ false) where
  module _ (row : Row) (rows rest : List Row) (p : first (row ∷ (rows ++ rest)) i ty ≡ first (rows ++ rest) i ty)
      (q : first (row ∷ rest) i ty ≡ first rest i ty) (go : first (rows ++ rest) i ty ≡ first rest i ty) where
    one_past : (own all : Bool) → first (cond own (row ∷ cond all [] rows) rows ++ rest) i ty ≡ first rest i ty
    one_past true true = q
    one_past true false = p ∙ go
    one_past false all = go

  catches_past : (scope depth : ℕ) (catches : List Catch) (rest : List Row)
      → first (catch_rows from to scope depth catches ++ rest) i ty ≡ first rest i ty
  catches_past scope depth [] rest = refl
  catches_past scope depth (caught ∷ others) rest = one_past (catch_row from to depth caught) (catch_rows from to scope depth others) rest
      (first_past (catch_row from to depth caught) (catch_rows from to scope depth others ++ rest) i ty c)
      (first_past (catch_row from to depth caught) rest i ty c) (catches_past scope depth others rest)
      (nat_eq caught.scope scope) (nat_eq caught.what 2)

  module _ (scope : ℕ) (rows rest : List Row) (go : first (rows ++ rest) i ty ≡ first rest i ty) where
    around_past : (all : Bool) → first (cond all [] rows ++ rest) i ty ≡ first rest i ty
    around_past true = refl
    around_past false = go

    scope_past : (kind : ScopeKind) → first (rows_by b from to scope kind rows ++ rest) i ty ≡ first rest i ty
    scope_past Function = refl
    scope_past Try =
        ap (λ z. first z i ty) (append_assoc (catch_rows from to scope (scope_in b scope).depth b.catches) (cond (catches_all scope b.catches) [] rows) rest)
        ∙ catches_past scope (scope_in b scope).depth b.catches (cond (catches_all scope b.catches) [] rows ++ rest)
        ∙ around_past (catches_all scope b.catches)
    scope_past (Mark owner) = go
    scope_past Loop = go
    scope_past Switch = go
    scope_past kind = first_past (pad_row b from to scope) rest i ty c

  chain_past : (k scope : ℕ) (rest : List Row) → first (chain_rows k b from to scope ++ rest) i ty ≡ first rest i ty
  chain_past zero scope rest = refl
  chain_past (suc k) scope rest = scope_past scope (chain_rows k b from to (scope_in b scope).parent) rest
      (chain_past k (scope_in b scope).parent rest) (scope_in b scope).kind

  edge_past : (edge : ℕ) (none : Bool) (rest : List Row) → first (cond none [] (pad_row b from to edge ∷ []) ++ rest) i ty ≡ first rest i ty
  edge_past edge true rest = refl
  edge_past edge false rest = first_past (pad_row b from to edge) rest i ty c

  run_past : (scope : ℕ) (rest : List Row) → first (run_rows b from to scope ++ rest) i ty ≡ first rest i ty
  run_past scope rest =
      let last : ℕ = chain_last (length b.scopes) b scope in
      let edge : ℕ = (scope_in b scope).edge in
      ap (λ z. first z i ty) (append_assoc (chain_rows (length b.scopes) b from to scope) (edge_rows b from to edge last) rest)
      ∙ chain_past (length b.scopes) scope (edge_rows b from to edge last ++ rest)
      ∙ edge_past edge (nat_eq edge 0 || nat_eq edge last) rest

  pub some_past : (scope : ℕ) (rest : List Row) → first (some_rows b from to scope ++ rest) i ty ≡ first rest i ty
  some_past scope rest = by_test (nat_lt from to) where
    by_test : (some : Bool) → first (cond some (run_rows b from to scope) [] ++ rest) i ty ≡ first rest i ty
    by_test true = run_past scope rest
    by_test false = refl

  pub some_nothing : (scope : ℕ) → first (some_rows b from to scope) i ty ≡ None
  some_nothing scope = ap (λ z. first z i ty) (sym (append-nil (some_rows b from to scope))) ∙ some_past scope []
