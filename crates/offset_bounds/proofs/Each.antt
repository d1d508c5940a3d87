-- The offsets of all functions of all units.
use Rattle.std.proofs.Common.{◌≡◌, ◌∙◌, ℕ, zero, suc, Bool, true, List, [], ◌∷◌, Option, Some, None, slice_get, map, ap, sym, subst, refl}
use Rattle.std.specs.Prelude.{option_and_then}
use Rattle.std.specs.List.{list_all}
use Rattle.std.proofs.lemmas.Bool.{and_parts}
use Rattle.cpp_tree.specs.declared.program.UnitTree.{UnitTree}
use Rattle.cpp_tree.specs.declared.program.Program.{Program}
use Rattle.cpp_tree.specs.Units.{Func, Unit as TypedUnit, TypedProgram, unit_of, program_of}
use Rattle.offset_bounds.specs.Fitting.{has_offset, have_offsets, OffsetsFit}

each_of : {A : Type 0} (test : A → Bool) (xs : List A) (i : ℕ) (x : A) → list_all test xs ≡ true → slice_get xs i ≡ Some x → test x ≡ true
each_of test [] i x h e = absurd cc
each_of test (y ∷ ys) zero x h e = let is : y ≡ x = cc in subst (λ z. test z ≡ true) is (and_parts (test y) (list_all test ys) h).0
each_of test (y ∷ ys) (suc i) x h e = each_of test ys i x (and_parts (test y) (list_all test ys) h).1 e

in_unit : (t : TypedProgram) (unit n : ℕ) (f : Func) (o : Option TypedUnit) → slice_get t.units unit ≡ o
    → option_and_then (λ (x : TypedUnit). slice_get x.funcs n) o ≡ Some f → list_all have_offsets t.units ≡ true → has_offset f ≡ true
in_unit t unit n f None s e h = absurd cc
in_unit t unit n f (Some x) s e h = each_of has_offset x.funcs n f (each_of have_offsets t.units unit x h s) e

pub all_fit : (p : Program) (us : List UnitTree) → us ≡ p.units.items → list_all have_offsets (map unit_of us) ≡ true → OffsetsFit (program_of p)
all_fit p us e h = record {
  each = λ unit n f g. in_unit (program_of p) unit n f (slice_get (program_of p).units unit) refl g
      (subst (λ z. list_all have_offsets (map unit_of z) ≡ true) e h);
}
