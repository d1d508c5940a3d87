-- The rows of a body, run by run.
use Rattle.std.proofs.Common.{◌≡◌, ◌<◌, ◌≤◌, ℕ, zero, suc, ◌+◌, Bool, true, false, cond, ◌&&◌, List, [], ◌∷◌, ◌++◌, length, slice_get, refl, sym, ap}
use Rattle.std.proofs.Common.{◌∙◌, arith}
use Rattle.std.proofs.Common.{eqb-true, lt-ltb, le-ltb, le-leb}
use Rattle.std.proofs.lemmas.Bool.{and_from, lt-leb}
use Rattle.std.proofs.lemmas.Option.{slice_get_past}
use Rattle.std.specs.Prelude.{nat_eq, nat_lt, nat_le, Option, Some, None, option_map}
use Rattle.tx_code.specs.declared.body.Row.{Row}
use Rattle.tx_code.specs.Meaning.{find}
use Rattle.low_code.specs.declared.writer.LowInstr.{LowInstr}
use Rattle.low_code.specs.Writer.{Body}
use Rattle.low_code.specs.Rows.{run_rows, some_rows, rows_from, rows_in}
use Rattle.lowered_rows.specs.Taking.{Taken, way, taken}
use Rattle.lowered_rows.specs.Lying.{HasEdges}
use Rattle.lowered_rows.proofs.Finding.{first, first_before}
use Rattle.lowered_rows.proofs.Chains.{run_first}
use Rattle.lowered_rows.proofs.Elsewhere.{some_past, some_nothing}

-- ---- indexes in and out of a run

inside : (from to i : ℕ) → from ≤ i → i < to → (nat_le from i && nat_lt i to) ≡ true
inside from to i l m = and_from (nat_le from i) (nat_lt i to) (le-leb from i l) (lt-ltb i to m)

past : (from to i : ℕ) → to ≤ i → (nat_le from i && nat_lt i to) ≡ false
past from to i l = ap (λ v. nat_le from i && v) (le-ltb i to l) ∙ never (nat_le from i) where
  never : (v : Bool) → (v && false) ≡ false
  never true = refl
  never false = refl

before : (from to i : ℕ) → i < from → (nat_le from i && nat_lt i to) ≡ false
before from to i l = ap (λ v. v && nat_lt i to) (lt-leb from i l)

module _ (b : Body) (edges : HasEdges b) (ty : ℕ) where
  some_first : (from to i scope : ℕ) → from ≤ i → i < to → first (some_rows b from to scope) i ty ≡ taken b scope ty
  some_first from to i scope l m =
      ap (λ v. first (cond v (run_rows b from to scope) []) i ty) (lt-ltb from to (omega arith))
      ∙ run_first b edges from to i ty (inside from to i l m) scope

  in_both : (same : Bool) (rows others : List Row) (i : ℕ) (o : Option Taken) → first rows i ty ≡ o → first others i ty ≡ o
      → first (cond same rows others) i ty ≡ o
  in_both true rows others i o h k = h
  in_both false rows others i o h k = k

  -- an index before the run
  nowhere : (lows : List LowInstr) (from scope index i : ℕ) → i < from → from ≤ index → first (rows_from b from scope index lows) i ty ≡ None
  nowhere [] from scope index i l m = some_nothing b from index i ty (before from index i l) scope
  nowhere (low ∷ lows) from scope index i l m =
      let rest : List Row = rows_from b index low.scope (index + 1) lows in
      in_both (nat_eq low.scope scope) (rows_from b from scope (index + 1) lows) (some_rows b from index scope ++ rest) i None
      (nowhere lows from scope (index + 1) i l (omega arith))
      (some_past b from index i ty (before from index i l) scope rest ∙ nowhere lows index low.scope (index + 1) i (omega arith) (omega arith))

  -- an index in the run
  run_taken : (lows : List LowInstr) (from scope index i : ℕ) → from ≤ i → i < index
      → first (rows_from b from scope index lows) i ty ≡ taken b scope ty
  run_taken [] from scope index i l m = some_first from index i scope l m
  run_taken (low ∷ lows) from scope index i l m =
      let rest : List Row = rows_from b index low.scope (index + 1) lows in
      in_both (nat_eq low.scope scope) (rows_from b from scope (index + 1) lows) (some_rows b from index scope ++ rest) i (taken b scope ty)
      (run_taken lows from scope (index + 1) i l (omega arith))
      (first_before (some_rows b from index scope) rest i ty (nowhere lows index low.scope (index + 1) i m (omega arith))
      ∙ some_first from index i scope l m)

  -- what takes an exception at an instruction
  abbrev at : Option LowInstr → Option Taken
  at None = None
  at (Some low) = taken b low.scope ty

  -- an index of the next instructions
  later : (lows : List LowInstr) (from scope index j : ℕ) → from ≤ index
      → first (rows_from b from scope index lows) (index + j) ty ≡ at (slice_get lows j)
  later [] from scope index j l = some_nothing b from index (index + j) ty (past from index (index + j) (omega arith)) scope
  later (low ∷ lows) from scope index zero l = by_test (nat_eq low.scope scope) refl where
    by_test : (same : Bool) → nat_eq low.scope scope ≡ same
        → first (cond same (rows_from b from scope (index + 1) lows) (some_rows b from index scope ++ rows_from b index low.scope (index + 1) lows))
        (index + zero) ty
        ≡ taken b low.scope ty
    by_test true e =
        run_taken lows from scope (index + 1) (index + zero) (omega arith) (omega arith) ∙ ap (λ n. taken b n ty) (sym (eqb-true low.scope scope e))
    by_test false e =
        some_past b from index (index + zero) ty (past from index (index + zero) (omega arith)) scope (rows_from b index low.scope (index + 1) lows)
        ∙ run_taken lows index low.scope (index + 1) (index + zero) (omega arith) (omega arith)
  later (low ∷ lows) from scope index (suc j) l =
      let rest : List Row = rows_from b index low.scope (index + 1) lows in
      let next : index + suc j ≡ index + 1 + j = omega arith in
      in_both (nat_eq low.scope scope) (rows_from b from scope (index + 1) lows) (some_rows b from index scope ++ rest) (index + suc j) (at (slice_get lows j))
      (ap (λ n. first (rows_from b from scope (index + 1) lows) n ty) next ∙ later lows from scope (index + 1) j (omega arith))
      (some_past b from index (index + suc j) ty (past from index (index + suc j) (omega arith)) scope rest
      ∙ ap (λ n. first rest n ty) next ∙ later lows index low.scope (index + 1) j (omega arith))

  everywhere : (i : ℕ) → first (rows_in b) i ty ≡ at (slice_get b.code i)
  everywhere i =
      let same : i ≡ 0 + i = omega arith in
      ap (λ n. first (rows_in b) n ty) same ∙ later b.code 0 0 0 i (omega arith)

  pub row_inside : (i : ℕ) (low : LowInstr) → slice_get b.code i ≡ Some low → option_map way (find (rows_in b) i ty) ≡ taken b low.scope ty
  row_inside i low e = everywhere i ∙ ap at e

  pub row_beyond : (i : ℕ) → length b.code ≤ i → find (rows_in b) i ty ≡ None
  row_beyond i h = is_none (find (rows_in b) i ty) (everywhere i ∙ ap at (slice_get_past b.code i h)) where
    is_none : (o : Option Row) → option_map way o ≡ None → o ≡ None
    is_none None e = refl
    is_none (Some row) e = absurd (cc)
