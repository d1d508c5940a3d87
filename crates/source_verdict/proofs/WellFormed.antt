-- The program of texts is well formed.
use Rattle.std.proofs.Common.{◌≡◌, ℕ, zero, suc, List, [], ◌∷◌, Some, slice_get, subst}
use Rattle.cpp_tree.specs.cpp_types.Class.{InOrder, classes_of}
use Rattle.cpp_tree.specs.declared.program.Program.{Program}
use Rattle.cpp_tree.specs.Units.{program_of}
use Rattle.cpp_tree.specs.WellFormed.{WellFormed}
use Rattle.tree_forests.specs.Forests.{HaveForests, HasWellFormedBodies}
use Rattle.elab_rules.specs.Programs.{Source}
use Rattle.elab_well_formed.specs.Programs.{IsReadSource, ProgramsAreWellFormed, ReadAreSources}
use Rattle.source_verdict.specs.Elaborated.{AreSourcesOf, HasProgram}

each_read : (number : ℕ) (texts : List (List ℕ)) (xs : List Source) → AreSourcesOf number texts xs → (i : ℕ) (x : Source) → slice_get xs i ≡ Some x
    → IsReadSource x
each_read number [] [] h i x e = absurd cc
each_read number [] (y ∷ xs) h i x e = elim h [ ]
each_read number (text ∷ texts) [] h i x e = absurd cc
each_read number (text ∷ texts) (y ∷ xs) (first, rest) zero x e = let s : y ≡ x = cc in
    subst IsReadSource s (record { number = number; text = text; read = record { lexed = first.lexed; derives = first.derives } })
each_read number (text ∷ texts) (y ∷ xs) (first, rest) (suc i) x e = each_read (suc number) texts xs rest i x e

pub well_formed : ProgramsAreWellFormed → ReadAreSources
    → ((p : Program) → HaveForests p.units.items → InOrder (classes_of p.classes.items) → HasWellFormedBodies (program_of p) → WellFormed p)
    → (texts : List (List ℕ)) (p : Program) → HasProgram texts (program_of p) → HaveForests p.units.items → InOrder (classes_of p.classes.items) → WellFormed p
well_formed formed sources forests texts p h f o =
    let are = sources h.sources (each_read 0 texts h.sources h.are) in
    forests p f o (record { each = λ i k u g tree a b d. formed h.sources (program_of p) are h.is i k u g tree a b d })
