-- Exceptions of types that are thrown.
use Rattle.std.proofs.Common.{ℕ, ◌≡◌, Bool, true, sym, subst, List, Some, Bor}
use Rattle.std.specs.Prelude.{slice_get}
use Rattle.cpp_types.specs.declared.types.Ty.{Ty}
use Rattle.cpp_tree.specs.cpp_types.Typ.{typ_of}
use Rattle.symbolic_terms.specs.declared.terms.Exception.{Exception}
use Rattle.symbolic_terms.specs.declared.terms.Exception.TheVariants.{Made}
use Rattle.symbolic_terms.specs.declared.terms.Puts.{Puts}
use Rattle.symbolic_terms.specs.declared.terms.Term.{Term}
use Rattle.symbolic_source.specs.Terms as symbolic
use Rattle.symbolic_terms.specs.declared.replacing.Replacing.{Replacing}
use Rattle.symbolic_terms.specs.declared.replacing.Replacing.TheVariants.{Table}
use Rattle.symbolic_terms.specs.Replaced.{replacing_of}
use Rattle.body_check.specs.Notes.{IsThrown}
use Rattle.note_landing.specs.declared.compiled.Compiled.{Compiled}
use Rattle.note_landing.specs.Shown.{types_by, exception_by, thrown_by}
use Rattle.note_landing.proofs.Landed.{made_thrown, table_thrown}

-- one of the type with a number
pub made_is_thrown : (b : Compiled) (e : Exception) (n : ℕ) (puts : Puts) (ty : Ty) (alike : Bool) → e ≡ Made n puts → slice_get b.source.types.now n ≡ Some ty → alike ≡ thrown_by b (typ_of ty) → alike ≡ true → IsThrown (thrown_by b) (exception_by b e)
made_is_thrown b e n puts ty alike is there so told = subst (λ z. IsThrown (thrown_by b) (exception_by b z)) (sym is) (made_thrown b.source.types.now (thrown_by b) n ty alike there so told)

-- one that has a number
pub thrown_as : (b : Compiled) (e : symbolic.Exception) (x : Exception) → e ≡ exception_by b x → IsThrown (thrown_by b) (exception_by b x) → IsThrown (thrown_by b) e
thrown_as b e x is told = subst (λ z. IsThrown (thrown_by b) z) (sym is) told

-- those that are put in
pub put_thrown : (b : Compiled) (r : Replacing) (words : Bor (List Term)) (exceptions : Bor (List Exception)) → r ≡ Table words exceptions
    → ((n : ℕ) (e : Exception) → slice_get exceptions.now n ≡ Some e → IsThrown (thrown_by b) (exception_by b e)) → (n : ℕ) → IsThrown (thrown_by b) ((replacing_of (types_by b) r).exception n)
put_thrown b r words exceptions is all = subst (λ z. (n : ℕ) → IsThrown (thrown_by b) ((replacing_of (types_by b) z).exception n)) (sym is) (table_thrown (types_by b) (thrown_by b) exceptions.now all)
