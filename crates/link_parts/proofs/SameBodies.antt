-- Bodies by numberings that agree on the names of an object.
use Rattle.std.proofs.Common.{Bool, true, false, ◌≡◌, ◌<◌, ℕ, List, [], ◌∷◌, ◌++◌, map, refl, ap, ◌∙◌, nat_eq, nat_lt, if◌then◌else◌}
use Rattle.std.specs.List.{list_all, flat_map}
use borrow.Author.Tests.{ltb-true}
use Rattle.tx_code.specs.declared.instr.Instr.{Instr}
use Rattle.tx_code.specs.declared.instr.Instr.TheVariants.{GlobalAddr, FuncAddr, ClassAddr, Call, TCall, CallIndirect, TCallIndirect, Slot, NewException}
use Rattle.tx_code.specs.declared.body.Row.{Row}
use Rattle.tx_code.specs.Objects.{BodyView}
use Rattle.tx_code.specs.WellFormed.{is_name, named_by, named_by_row, named_by_body}
use Rattle.tx_code.specs.Renaming.{Numbering, renamed, renamed_row, renamed_body}
use Rattle.link_faults.proofs.Ascending.{and_left, and_right}
use Rattle.link_faults.proofs.ListedEntries.{and_both}

pub record Agree (n : ℕ) (x y : Numbering) : Type 0 where
  pub global : (k : ℕ) → k < n → x.global k ≡ y.global k
  pub func : (k : ℕ) → k < n → x.func k ≡ y.func k
  pub class : (k : ℕ) → k < n → x.class k ≡ y.class k
  pub ty : (k : ℕ) → k < n → x.ty k ≡ y.ty k

named_first : (n s : ℕ) → list_all (is_name n) (s ∷ []) ≡ true → s < n
named_first n s h = ltb-true s n (and_left (nat_lt s n) true h)

same_instr : (n : ℕ) (x y : Numbering) → Agree n x y → (i : Instr) → list_all (is_name n) (named_by i) ≡ true → renamed x i ≡ renamed y i
same_instr n x y a (GlobalAddr s) h = ap GlobalAddr (a.global s (named_first n s h))
same_instr n x y a (FuncAddr s) h = ap FuncAddr (a.func s (named_first n s h))
same_instr n x y a (ClassAddr s) h = ap ClassAddr (a.class s (named_first n s h))
same_instr n x y a (Call s w) h = ap (λ k. Call k w) (a.func s (named_first n s h))
same_instr n x y a (TCall s w) h = ap (λ k. TCall k w) (a.func s (named_first n s h))
same_instr n x y a (CallIndirect s w) h = ap (λ k. CallIndirect k w) (a.ty s (named_first n s h))
same_instr n x y a (TCallIndirect s w) h = ap (λ k. TCallIndirect k w) (a.ty s (named_first n s h))
same_instr n x y a (Slot s w) h = ap (λ k. Slot k w) (a.class s (named_first n s h))
same_instr n x y a (NewException s) h = ap NewException (a.ty s (named_first n s h))
same_instr n x y a i h = refl

pub all_left : {A : Type 0} (t : A → Bool) (xs ys : List A) → list_all t (xs ++ ys) ≡ true → list_all t xs ≡ true
all_left t [] ys h = refl
all_left t (x ∷ xs) ys h = and_both (t x) _ (and_left (t x) _ h) (all_left t xs ys (and_right (t x) _ h))

pub all_right : {A : Type 0} (t : A → Bool) (xs ys : List A) → list_all t (xs ++ ys) ≡ true → list_all t ys ≡ true
all_right t [] ys h = h
all_right t (x ∷ xs) ys h = all_right t xs ys (and_right (t x) _ h)

same_code : (n : ℕ) (x y : Numbering) → Agree n x y → (is : List Instr) → list_all (is_name n) (flat_map named_by is) ≡ true
    → map (renamed x) is ≡ map (renamed y) is
same_code n x y a [] h = refl
same_code n x y a (i ∷ is) h =
    ap (λ j. j ∷ map (renamed x) is) (same_instr n x y a i (all_left (is_name n) (named_by i) (flat_map named_by is) h))
    ∙ ap (λ js. renamed y i ∷ js) (same_code n x y a is (all_right (is_name n) (named_by i) (flat_map named_by is) h))

same_row : (n : ℕ) (x y : Numbering) → Agree n x y → (r : Row) → list_all (is_name n) (named_by_row r) ≡ true → renamed_row x r ≡ renamed_row y r
same_row n x y a r h = by (nat_eq r.what 1) h
  where
    by : (b : Bool) → list_all (is_name n) (if b then r.ty ∷ [] else []) ≡ true
        → (let q : Row = record { from = r.from; to = r.to; target = r.target; what = r.what; ty = if b then x.ty r.ty else r.ty; depth = r.depth } in q)
        ≡ (let q : Row = record { from = r.from; to = r.to; target = r.target; what = r.what; ty = if b then y.ty r.ty else r.ty; depth = r.depth } in q)
    by true g = ap (λ (ty : ℕ). (let q : Row = record { from = r.from; to = r.to; target = r.target; what = r.what; ty = ty; depth = r.depth } in q))
        (a.ty r.ty (named_first n r.ty g))
    by false g = refl

same_rows : (n : ℕ) (x y : Numbering) → Agree n x y → (rs : List Row) → list_all (is_name n) (flat_map named_by_row rs) ≡ true
    → map (renamed_row x) rs ≡ map (renamed_row y) rs
same_rows n x y a [] h = refl
same_rows n x y a (r ∷ rs) h =
    ap (λ q. q ∷ map (renamed_row x) rs) (same_row n x y a r (all_left (is_name n) (named_by_row r) (flat_map named_by_row rs) h))
    ∙ ap (λ qs. renamed_row y r ∷ qs) (same_rows n x y a rs (all_right (is_name n) (named_by_row r) (flat_map named_by_row rs) h))

pub same_body : (n : ℕ) (x y : Numbering) → Agree n x y → (b : BodyView) → list_all (is_name n) (named_by_body b) ≡ true → renamed_body x b ≡ renamed_body y b
same_body n x y a b h =
    let code = same_code n x y a b.code (all_left (is_name n) (flat_map named_by b.code) (flat_map named_by_row b.rows) h) in
    let rows = same_rows n x y a b.rows (all_right (is_name n) (flat_map named_by b.code) (flat_map named_by_row b.rows) h) in
    λ t. record { code = code t; rows = rows t; lines = b.lines }
