-- Objects that a constructor makes.
use Rattle.std.proofs.Common.{◌≡◌, refl, sym, ap, ◌∙◌, subst, ℕ, zero, suc, ◌+◌, Bool, true, false, List, [], ◌∷◌, length, slice_get, Option, Some, None}
use Rattle.std.proofs.Common.{eqb-true, arith}
use Rattle.std.proofs.lemmas.Bool.{and_parts}
use Rattle.std.specs.Prelude.{unwrap_or}
use Rattle.elab_rules.specs.cpp_types.Typ.{typ, Form, Signature, signature}
use Rattle.elab_rules.specs.cpp_types.Class.{Function}
use Rattle.elab_rules.specs.cpp_types.declared.classes.At.{At}
use Rattle.elab_rules.specs.cpp_types.declared.ranks.Cat.TheVariants.{Prvalue}
use Rattle.elab_rules.specs.cpp_tree.declared.kinds.TKind.TheVariants.{Construct}
use Rattle.elab_rules.specs.cpp_tree.declared.program.FuncKind.{FuncKind}
use Rattle.elab_rules.specs.cpp_tree.declared.program.FuncKind.TheVariants.{Plain, Constructor, Destructor, ClosureCall}
use Rattle.elab_rules.specs.cpp_tree.declared.roles.Role.TheVariants.{Word, Initialiser}
use Rattle.elab_rules.specs.cpp_tree.Trees.{node, Trees}
use Rattle.elab_rules.specs.cpp_tree.Typing.{Word as WordOf, is_class, are_words}
use Rattle.elab_rules.specs.cpp_tree.Roles.{and_any}
use Rattle.elab_rules.specs.cpp_tree.Rows.{Setting, is_constructor as makes_objects, param_words, signature_words, row_fits}
use Rattle.elab_rules.specs.cpp_tree.WellFormed.{heads_of}
use Rattle.elab_rules.specs.elab_ctx.Ctx.{Ctx, Func}
use Rattle.elab_rules.specs.Initialising.{same_number, makes, is_constructor, kept_if, places_from, constructor_at, func_at, no_function}
use Rattle.elab_rules.specs.Initialising.{parameters_at, signature_parameters}
use Rattle.elab_fits.specs.Standing.{BuildsOne, IsSetting}
use Rattle.elab_fits.proofs.Equal.{typ_refl}
use Rattle.elab_fits.proofs.Nodes.{or_left, node_fits}
use Rattle.elab_fits.proofs.Pieces.{any_many}
use Rattle.elab_fits_objects.specs.Contexts.{IsConstructorOf, AreParameters, HasMakers}
use Rattle.elab_fits_objects.specs.Making.{WordsFit}
use Rattle.elab_fits_objects.proofs.Fits.{words_kids}

-- The places of the functions that pass a test have such functions

record IsPlaceOf (test : Func → Bool) (fs : List Func) (i k : ℕ) : Type 0 where
  index : ℕ
  is : k ≡ i + index
  func : Func
  at : slice_get fs index ≡ Some func
  passes : test func ≡ true

later : (test : Func → Bool) (f : Func) (fs : List Func) (i k : ℕ) → IsPlaceOf test fs (suc i) k → IsPlaceOf test (f ∷ fs) i k
later test f fs i k h = record { index = suc h.index; is = h.is ∙ (omega arith); func = h.func; at = h.at; passes = h.passes }

kept_place : (test : Func → Bool) (f : Func) (fs : List Func) (i k : ℕ) (b : Bool) (js : List ℕ) → test f ≡ b
    → ((j : ℕ) → slice_get js j ≡ Some k → IsPlaceOf test fs (suc i) k) → (j : ℕ) → slice_get (kept_if b i js) j ≡ Some k → IsPlaceOf test (f ∷ fs) i k
kept_place test f fs i k true js e h zero g = let x : i ≡ k = cc in record { index = 0; is = sym x ∙ (omega arith); func = f; at = refl; passes = e }
kept_place test f fs i k true js e h (suc j) g = later test f fs i k (h j g)
kept_place test f fs i k false js e h j g = later test f fs i k (h j g)

place_in : (test : Func → Bool) (fs : List Func) (i j k : ℕ) → slice_get (places_from test i fs) j ≡ Some k → IsPlaceOf test fs i k
place_in test [] i j k h = absurd cc
place_in test (f ∷ fs) i j k h = kept_place test f fs i k (test f) (places_from test (suc i) fs) refl (λ m g. place_in test fs (suc i) m k g) j h

makes_is : (kind : FuncKind) → makes kind ≡ true → kind ≡ Constructor
makes_is Constructor h = refl
makes_is Plain h = absurd cc
makes_is Destructor h = absurd cc
makes_is ClosureCall h = absurd cc

number_is : (n : ℕ) (x : Option ℕ) → same_number n x ≡ true → x ≡ Some n
number_is n (Some m) h = ap Some (eqb-true m n h)
number_is n None h = absurd cc

-- a constructor of a class by its index among them
pub constructor_is : (c : Ctx) (n i k : ℕ) → constructor_at c n i ≡ Some k → IsConstructorOf c n k
constructor_is c n i k h =
    let p = place_in (is_constructor n) c.funcs 0 i k h in
    let a = and_parts (same_number n p.func.class) (makes p.func.kind) p.passes in
    let e : p.index ≡ k = sym (p.is ∙ (omega arith)) in
    record {
      func = p.func;
      at = subst (λ (z : ℕ). slice_get c.funcs z ≡ Some p.func) e p.at;
      kind = makes_is p.func.kind a.1;
      class = number_is n p.func.class a.0;
    }

pub func_is : (fs : List Func) (k : ℕ) (f : Func) → slice_get fs k ≡ Some f → func_at fs k ≡ f
func_is fs k f h = ap (λ (x : Option Func). unwrap_or x no_function) h

-- its parameters
pub constructor_parameters : (c : Ctx) (lambda : ℕ → Bool) (n k : ℕ) → HasMakers c lambda → IsConstructorOf c n k
    → AreParameters c lambda (parameters_at c.funcs k)
constructor_parameters c lambda n k m h = subst (λ (f : Func). AreParameters c lambda (signature_parameters f.declared.signature))
    (sym (func_is c.funcs k h.func h.at)) (m.parameters k h.func h.at)

words_are : (g : Signature) → param_words (signature_parameters g) ≡ signature_words None g
words_are (signature ps r safe) = refl

-- A constructor with the words for its parameters

construct_row : (s : Setting) (c : Ctx) (n k : ℕ) (f : Form) (q v : Bool) (ts : Trees) → IsSetting s c → IsConstructorOf c n k → is_class n f ≡ true
    → WordsFit s (parameters_at c.funcs k) ts → row_fits s (Construct k) (typ f q v) Prvalue (heads_of ts) ≡ true
construct_row s c n k f q v ts i h e w =
    let g = i.funcs k h.func h.at in
    let found = g.at in
    let kind : makes_objects g.func.kind ≡ true = ap makes_objects (g.is.kind ∙ h.kind) in
    let owner : g.func.class ≡ Some n = g.is.class ∙ h.class in
    let declared : param_words (parameters_at c.funcs k) ≡ signature_words None g.func.declared.signature =
    ap (λ (x : Func). param_words (signature_parameters x.declared.signature)) (func_is c.funcs k h.func h.at) ∙ words_are h.func.declared.signature
    ∙ ap (λ (x : Function). signature_words None x.signature) (sym g.is.declared) in
    let right : are_words (signature_words None g.func.declared.signature) (heads_of ts) ≡ true =
    subst (λ (x : List WordOf). are_words x (heads_of ts) ≡ true) declared w.right in
    rw (found, kind, owner, e, right) refl

pub construct_builds : (s : Setting) (c : Ctx) (n k : ℕ) (f : Form) (q v : Bool) (at : At) (ts : Trees) → IsSetting s c → IsConstructorOf c n k
    → is_class n f ≡ true → WordsFit s (parameters_at c.funcs k) ts → BuildsOne s (typ f q v) (node (Construct k) (typ f q v) Prvalue at ts)
construct_builds s c n k f q v at ts i h e w = record {
  fits = λ p full. node_fits s p Initialiser (Construct k) (typ f q v) Prvalue at ts
      (and_any [] Word) refl refl refl refl (construct_row s c n k f q v ts i h e w) refl
      (any_many Word (length (heads_of ts))) refl (words_kids s p 0 ts full w.fit);
  builds = or_left _ (or_left _ (typ_refl (typ f q v)));
}
