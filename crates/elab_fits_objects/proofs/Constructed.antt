-- Objects of named classes from values in parentheses.
use Rattle.std.proofs.Common.{◌≡◌, refl, ap, ℕ, Bool, true, not, List, [], ◌∷◌, Option, Some, None, Result, Ok, Err}
use Rattle.std.proofs.Common.{eq-eqb, is_some}
use Rattle.elab_rules.specs.cpp_overload.Choosing.{Choice, best, none_viable, none_best, chosen}
use Rattle.elab_rules.specs.cpp_types.Typ.{Typ, typ, class}
use Rattle.elab_rules.specs.cpp_types.Class.{completion_of}
use Rattle.elab_rules.specs.cpp_types.declared.classes.At.{At}
use Rattle.elab_rules.specs.cpp_tree.declared.faults.IllRule.TheVariants.{NoCopy}
use Rattle.elab_rules.specs.cpp_tree.declared.faults.ElabFault.{ElabFault}
use Rattle.elab_rules.specs.cpp_tree.Trees.{Tree, typ_in}
use Rattle.elab_rules.specs.cpp_tree.Typing.{is_volatile_typ}
use Rattle.elab_rules.specs.cpp_tree.Rows.{Setting}
use Rattle.elab_rules.specs.elab_ctx.Ctx.{Ctx, Work}
use Rattle.elab_rules.specs.elab_ctx.Steps.{and_then, Operand, MadeAll}
use Rattle.elab_rules.specs.Initialising.{constructed_by, constructed, constructor_at, parameters_at, words, makeable, meant, makers, arguments, from_nothing}
use Rattle.elab_rules.specs.Initialising.{is_prvalue_itself, building}
use Rattle.elab_fits.specs.Standing.{IsSetting, Reaches, On}
use Rattle.elab_fits.proofs.Steps.{bind, checked, either}
use Rattle.elab_fits_objects.specs.Contexts.{is_whole, IsObjectTyp, HasMakers, AreSources}
use Rattle.elab_fits_objects.specs.Making.{Makes, WordsFit, IsViableOne, ConstructorsBuild}
use Rattle.elab_fits_objects.proofs.Classes.{Built, own_class}
use Rattle.elab_fits_objects.proofs.Constructing.{constructor_is, constructor_parameters, construct_builds}
use Rattle.elab_fits_objects.proofs.Copying.{in_place}
use Rattle.elab_fits_objects.proofs.Nothing.{nothing_builds}
use Rattle.elab_fits_objects.proofs.Passing.{words_fit, chosen_viable}
use Rattle.elab_fits_objects.proofs.Types.{makeable_complete}
use Rattle.elab_fits_objects.proofs.Viable.{constructor_count, copy_takes}

-- what nothing makes
pub nothing_made : (s : Setting) (t : Typ) (w : Work) (r : Result Tree ElabFault) → On (Makes s t) r
    → On (Built s t) (and_then r (λ (e : Tree). Ok (record { tree = e; work = w })))
nothing_made s t w (Ok e) h = λ reached. h
nothing_made s t w (Err e) h = tt

-- the candidate that is meant is the one that was chosen
meant_is : (at : At) (x : Choice) → On (λ (i : ℕ). x ≡ best i) (meant at x)
meant_is at (best i) = refl
meant_is at none_viable = tt
meant_is at none_best = tt

module _ (s : Setting) (c : Ctx) (lambda : ℕ → Bool) (w : Work) (n : ℕ) (q v : Bool) (at : At) (i : IsSetting s c) (m : HasMakers c lambda)
    (t : IsObjectTyp c lambda (typ (class n) q v)) where
  abbrev T : Typ
  T = typ (class n) q v

  abbrev Fitting : ℕ → MadeAll → Type 0
  Fitting k x = Reaches s x.work → WordsFit s (parameters_at c.funcs k) x.trees

  by_constructor : (os : List Operand) (j k : ℕ) → AreSources s c lambda os → constructor_at c n j ≡ Some k
      → IsViableOne c.classes (makers c n) (arguments os) j → On (Built s T) (constructed_by c w n T at os (Some k))
  by_constructor os j k h e o =
      let maker = constructor_is c n j k e in
      bind (Fitting k) (Built s T) (words c w (parameters_at c.funcs k) os) _
      (words_fit s c lambda w (parameters_at c.funcs k) os i m h (constructor_parameters c lambda n k m maker)
      (constructor_count c n j k o.candidate os e o.at o.viable))
      (λ x g. (λ reached. record { one = construct_builds s c n k (class n) q v at x.trees i maker (eq-eqb n n refl) (g reached); copied = refl }))

  by_candidate : (os : List Operand) (j : ℕ) (x : Option ℕ) → AreSources s c lambda os → constructor_at c n j ≡ x
      → is_whole c.classes T ≡ true → IsViableOne c.classes (makers c n) (arguments os) j → On (Built s T) (constructed_by c w n T at os x)
  by_candidate os j (Some k) h e z o = by_constructor os j k h e o
  by_candidate (a ∷ []) j None h e z o = checked (Built s T) a.at NoCopy (not (is_volatile_typ (typ_in a.tree))) _
      (λ y. in_place s c lambda w n q v at a i m h.0 t.sorted z (copy_takes c n j o.candidate a e o.at o.viable))
  by_candidate [] j None h e z o = tt
  by_candidate (a ∷ b ∷ os) j None h e z o = tt

  itself : (a : Operand) (os : List Operand) → AreSources s c lambda (a ∷ os) → is_whole c.classes T ≡ true → is_prvalue_itself n (a ∷ os) ≡ true
      → Makes s T (building c.classes T a.tree)
  itself a [] h z e = own_class s c lambda w at a i m h.0 n q v a.tree t.sorted z h.0.operand.stands h.0.sorted e
  itself a (b ∷ os) h z e = absurd cc

  from_all : (os : List Operand) → AreSources s c lambda os → On (Built s T) (constructed c w n T at os)
  from_all [] h = nothing_made s T w (from_nothing c T at) (nothing_builds s c lambda T at i m t)
  from_all (a ∷ os) h = bind (λ (k : ℕ). completion_of c.classes n ≡ Some k) (Built s T) (makeable c at n) _ (makeable_complete c at n)
      (λ k e. either (Built s T) (is_prvalue_itself n (a ∷ os)) _ _ (λ y. (λ reached. itself a os h (t.whole (ap is_some e)) y))
      (λ y. bind (λ (j : ℕ). chosen c.classes (makers c n) (arguments (a ∷ os)) ≡ best j) (Built s T)
      (meant at (chosen c.classes (makers c n) (arguments (a ∷ os)))) _ (meant_is at (chosen c.classes (makers c n) (arguments (a ∷ os))))
      (λ j g. by_candidate (a ∷ os) j (constructor_at c n j) h refl (t.whole (ap is_some e))
      (chosen_viable c.classes (makers c n) (arguments (a ∷ os)) j g))))

pub constructed_builds : ConstructorsBuild
constructed_builds s c lambda w n q v at os i m h t = from_all s c lambda w n q v at i m t os h
