-- The rows of a chain of scopes, at an index that they cover.
use Rattle.std.proofs.Common.{◌≡◌, ℕ, zero, suc, Bool, true, false, cond, not, ◌&&◌, ◌||◌, List, [], ◌∷◌, ◌++◌, length, refl, ap, ◌∙◌, append_assoc}
use Rattle.std.proofs.Common.{ne_eqb}
use Rattle.std.specs.Prelude.{nat_eq, nat_lt, nat_le, Option, Some, None}
use Rattle.tx_code.specs.declared.body.Row.{Row}
use Rattle.low_code.specs.declared.scopes.ScopeKind.{ScopeKind}
use Rattle.low_code.specs.declared.scopes.ScopeKind.TheVariants.{Function, Mark, Loop, Switch, Try, Behind}
use Rattle.low_code.specs.Writer.{Body, scope_in}
use Rattle.low_code.specs.Rows.{block_edge, edge_by, edge_of, pad_row, catch_rows, catches_all, rows_by, chain_rows, last_by, chain_last, edge_rows}
use Rattle.low_code.specs.Rows.{run_rows}
use Rattle.lowered_rows.specs.Taking.{Taken, or_around, way_out, edge_out, caught_by, taken_by, taken_within, taken}
use Rattle.lowered_rows.specs.Lying.{HasEdges}
use Rattle.lowered_rows.proofs.Finding.{first, first_sure}
use Rattle.lowered_rows.proofs.Catching.{catches_first, catches_sure}

module _ (b : Body) (edges : HasEdges b) where
  -- no way out has the number of a handler
  edge_by_other : (kind : ScopeKind) → (block_edge kind ≡ 1 → ⊥) → edge_by b kind ≡ 1 → ⊥
  edge_by_other (Behind block next outer) own = edges block
  edge_by_other kind own = own

  module _ (from to i ty : ℕ) (c : (nat_le from i && nat_lt i to) ≡ true) where
    -- a way out takes all
    out_first : (scope : ℕ) (rest : List Row) → first (pad_row b from to scope ∷ rest) i ty ≡ Some (way_out b scope)
    out_first scope rest = first_sure (pad_row b from to scope) rest i ty c
        (ap (λ v. not v || nat_eq 0 ty) (ne_eqb (edge_of b scope) 1 (edge_by_other (scope_in b scope).kind (edges scope))))

    module _ (edge : ℕ) where
      -- what comes to the function
      edge_first : first (edge_rows b from to edge 0) i ty ≡ edge_out b edge
      edge_first = by_test (nat_eq edge 0) where
        by_test : (v : Bool) → first (cond (v || v) [] (pad_row b from to edge ∷ [])) i ty ≡ cond v None (Some (way_out b edge))
        by_test true = refl
        by_test false = out_first edge []

      module _ (scope : ℕ) (rows : List Row) (last : ℕ) (around : Option Taken) (go : first (rows ++ edge_rows b from to edge last) i ty ≡ around) where
        abbrev own : List Row
        own = catch_rows from to scope (scope_in b scope).depth b.catches

        -- a `try`: where it takes all, the chain ends
        try_first : (all : Bool) → catches_all scope b.catches ≡ all
            → first ((own ++ cond all [] rows) ++ edge_rows b from to edge (cond all scope last)) i ty
            ≡ or_around (caught_by scope (scope_in b scope).depth ty b.catches) around
        try_first true e =
            ap (λ z. first z i ty) (append_assoc own [] (edge_rows b from to edge scope))
            ∙ catches_first from to i ty c scope (scope_in b scope).depth b.catches (edge_rows b from to edge scope)
            ∙ catches_sure scope (scope_in b scope).depth ty b.catches e (first (edge_rows b from to edge scope) i ty) around
        try_first false e =
            ap (λ z. first z i ty) (append_assoc own rows (edge_rows b from to edge last))
            ∙ catches_first from to i ty c scope (scope_in b scope).depth b.catches (rows ++ edge_rows b from to edge last)
            ∙ ap (or_around (caught_by scope (scope_in b scope).depth ty b.catches)) go

        -- one more scope
        scope_first : (kind : ScopeKind)
            → first (rows_by b from to scope kind rows ++ edge_rows b from to edge (last_by b scope kind last)) i ty
            ≡ taken_by b ty scope kind (edge_out b edge) around
        scope_first Function = edge_first
        scope_first Try = try_first (catches_all scope b.catches) refl
        scope_first (Mark owner) = go
        scope_first Loop = go
        scope_first Switch = go
        scope_first kind = out_first scope (edge_rows b from to edge scope)

      chain_first : (k scope : ℕ)
          → first (chain_rows k b from to scope ++ edge_rows b from to edge (chain_last k b scope)) i ty
          ≡ taken_within k b ty (edge_out b edge) scope
      chain_first zero scope = edge_first
      chain_first (suc k) scope =
          scope_first scope (chain_rows k b from to (scope_in b scope).parent) (chain_last k b (scope_in b scope).parent)
          (taken_within k b ty (edge_out b edge) (scope_in b scope).parent) (chain_first k (scope_in b scope).parent) (scope_in b scope).kind

    -- the rows of a run take what is taken from its scope outward
    pub run_first : (scope : ℕ) → first (run_rows b from to scope) i ty ≡ taken b scope ty
    run_first scope = chain_first (scope_in b scope).edge (length b.scopes) scope
