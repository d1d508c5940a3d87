-- Words that are passed: values, what references are bound to, and objects of classes.
use Rattle.std.proofs.Common.{◌≡◌, refl, sym, ap, ◌∙◌, subst, ℕ, Bool, true, false, not, ◌&&◌, ◌||◌, cond, [], ◌∷◌, Result, Ok, Err}
use Rattle.std.proofs.lemmas.Bool.{and_parts}
use Rattle.elab_rules.specs.cpp_types.Typ.{Typ, typ, Form, void, int, enum, null, ptr, ref, array, func, class, closure, tx_ex}
use Rattle.elab_rules.specs.cpp_types.Equal.{typ_eq}
use Rattle.elab_rules.specs.cpp_types.Conversion.{is_object_form, is_lvalue}
use Rattle.elab_rules.specs.cpp_types.declared.classes.At.{At}
use Rattle.elab_rules.specs.cpp_types.declared.ranks.Cat.TheVariants.{Lvalue}
use Rattle.elab_rules.specs.cpp_tree.declared.faults.ElabFault.{ElabFault}
use Rattle.elab_rules.specs.cpp_tree.declared.kinds.TKind.TheVariants.{Materialize}
use Rattle.elab_rules.specs.cpp_tree.declared.roles.Role.TheVariants.{Word, Initialiser, Destruction}
use Rattle.elab_rules.specs.cpp_tree.Trees.{Tree, Trees, more}
use Rattle.elab_rules.specs.cpp_tree.Notation.{plain}
use Rattle.elab_rules.specs.cpp_tree.Typing.{Head, head_of, is_void, is_class_typ, is_argument, is_bound, is_temporary, unqualified}
use Rattle.elab_rules.specs.cpp_tree.Roles.{and_any}
use Rattle.elab_rules.specs.cpp_tree.Rows.{Setting}
use Rattle.elab_rules.specs.cpp_tree.WellFormed.{heads_of}
use Rattle.elab_rules.specs.elab_ctx.Ctx.{Ctx, Work, with_item, next_place}
use Rattle.elab_rules.specs.elab_ctx.Steps.{Operand, Made}
use Rattle.elab_rules.specs.Initialising.{initial, argument_object}
use Rattle.elab_fits.specs.Standing.{BuildsOne, IsSetting, Reaches, On}
use Rattle.elab_fits.specs.Scalars.{is_scalar, Gives, Initialises}
use Rattle.elab_fits.specs.Objects.{DestroysOne}
use Rattle.elab_fits.proofs.Equal.{typ_refl, typ_same}
use Rattle.elab_fits.proofs.Initials.{initial_gives}
use Rattle.elab_fits.proofs.Nodes.{both, head_kind, head_typ, node_fits}
use Rattle.elab_fits.proofs.Values.{no_class, value_initialises, given_typ, given_cat}
use Rattle.elab_fits.proofs.Binding.{place_row}
use Rattle.elab_fits.proofs.Unary.{no_void}
use Rattle.elab_fits_objects.specs.Contexts.{refers, IsParameter, HasMakers, IsSource}
use Rattle.elab_fits_objects.specs.Making.{IsWord}
use Rattle.elab_fits_objects.proofs.Fits.{value_word, no_argument, within, within_full, object_kids, at_least_one}
use Rattle.elab_fits_objects.proofs.Referring.{binds}

pub on_map : {A : Type 0} (P Q : A → Type 0) (r : Result A ElabFault) → On P r → ((a : A) → P a → Q a) → On Q r
on_map P Q (Ok a) h g = g a h
on_map P Q (Err e) h g = tt

-- Values and references

otherwise : (b x y : Bool) → b ≡ false → y ≡ true → cond b x y ≡ true
otherwise true x y e h = absurd cc
otherwise false x y e h = h

pub given_word : (s : Setting) (f : Form) (q v : Bool) (e : Tree) → Gives s f e → IsWord s (typ f q v) e
given_word s f q v e g = record {
  fits = λ p full. value_word s p e (g.fits p full) (ap is_void g.typed ∙ no_void f g.scalar);
  right = otherwise (is_class_typ (typ f q v)) _ _ (no_class f q v g.scalar) (both (ap not (ap is_argument (head_kind e)
      ∙ no_argument s within e (g.fits within within_full)))
      (value_initialises f q v (head_of e) g.scalar (given_typ s f e g) (given_cat s f e g)));
}

or_false : (a b : Bool) → (a ≡ true → b ≡ true) → (b ≡ false → a ≡ true) → b ≡ true
or_false a true h g = refl
or_false true false h g = h refl
or_false false false h g = absurd (no (g refl))
  where
    no : false ≡ true → ⊥
    no e = absurd cc

void_unqualified : (t : Typ) → is_void (unqualified t) ≡ is_void t
void_unqualified (typ void c v) = refl
void_unqualified (typ f c v) = refl

-- what a reference is bound to has a type
bound_typed : (t : Typ) (x : Head) → is_bound t x ≡ true → is_void t ≡ false → is_void x.typ ≡ false
bound_typed t x h n = by (typ_eq t x.typ) refl
  where
    by : (b : Bool) → typ_eq t x.typ ≡ b → is_void x.typ ≡ false
    by true e = ap is_void (sym (typ_same t x.typ e)) ∙ n
    by false e =
        let a = and_parts (is_lvalue x.cat) (typ_eq t x.typ || (is_temporary x.kind && typ_eq (unqualified t) x.typ)) h in
        let b : (false || (is_temporary x.kind && typ_eq (unqualified t) x.typ)) ≡ true =
        subst (λ (z : Bool). (z || (is_temporary x.kind && typ_eq (unqualified t) x.typ)) ≡ true) e a.1 in
        let d = and_parts (is_temporary x.kind) (typ_eq (unqualified t) x.typ) b in
        ap is_void (sym (typ_same (unqualified t) x.typ d.1)) ∙ void_unqualified t ∙ n

pub bound_word : (s : Setting) (t : Typ) (q r : Bool) (e : Tree) → is_void t ≡ false → Initialises s (typ (ref t) q r) e → IsWord s (typ (ref t) q r) e
bound_word s t q r e n g = record {
  fits = λ p full. value_word s p e (g.fits p full) (ap is_void (sym (head_typ e)) ∙ bound_typed t (head_of e) g.initialises n);
  right = both (ap not (ap is_argument (head_kind e) ∙ no_argument s within e (g.fits within within_full))) g.initialises;
}

abbrev pub Passes : Setting → Typ → Made → Type 0
Passes s p m = Reaches s m.work → IsWord s p m.tree

not_false : (b : Bool) → not b ≡ true → b ≡ false
not_false true h = absurd cc
not_false false h = refl

scalar_passes : (s : Setting) (c : Ctx) (lambda : ℕ → Bool) (w : Work) (f : Form) (q v : Bool) (o : Operand) → IsSource s c lambda o → is_scalar f ≡ true
    → On (Passes s (typ f q v)) (initial c w (typ f q v) o)
scalar_passes s c lambda w f q v o h i = on_map (λ (m : Made). Gives s f m.tree) (Passes s (typ f q v)) (initial c w (typ f q v) o)
    (initial_gives s c w f q v o h.operand i) (λ m g. (λ reached. given_word s f q v m.tree g))

-- a parameter that is no class
pub initial_word : (s : Setting) (c : Ctx) (lambda : ℕ → Bool) (w : Work) (p : Typ) (o : Operand) → IsSetting s c → HasMakers c lambda
    → IsSource s c lambda o → IsParameter c lambda p → is_class_typ p ≡ false → On (Passes s p) (initial c w p o)
initial_word s c lambda w (typ (int k) q v) o i m h a n = scalar_passes s c lambda w (int k) q v o h refl
initial_word s c lambda w (typ (enum x y) q v) o i m h a n = scalar_passes s c lambda w (enum x y) q v o h refl
initial_word s c lambda w (typ null q v) o i m h a n = scalar_passes s c lambda w null q v o h refl
initial_word s c lambda w (typ (ptr t) q v) o i m h a n = scalar_passes s c lambda w (ptr t) q v o h refl
initial_word s c lambda w (typ (ref t) q v) o i m h a n = on_map (λ (x : Made). Reaches s x.work → Initialises s (typ (ref t) q v) x.tree)
    (Passes s (typ (ref t) q v)) (initial c w (typ (ref t) q v) o) (binds s c lambda w t q v o i m h (a.referred t refl))
    (λ x g. (λ reached. bound_word s t q v x.tree (no_ref t a.formed) (g reached)))
  where
    no_ref : (u : Typ) → (refers (ref u) || false) ≡ true → is_void u ≡ false
    no_ref (typ void d w) h = absurd cc
    no_ref (typ (int k) d w) h = refl
    no_ref (typ (enum x y) d w) h = refl
    no_ref (typ null d w) h = refl
    no_ref (typ (ptr x) d w) h = refl
    no_ref (typ (ref x) d w) h = refl
    no_ref (typ (array x n) d w) h = refl
    no_ref (typ (func x) d w) h = refl
    no_ref (typ (class x) d w) h = refl
    no_ref (typ (closure x) d w) h = refl
    no_ref (typ (tx_ex x) d w) h = refl
initial_word s c lambda w (typ void q v) o i m h a n = let b = a.formed in absurd cc
initial_word s c lambda w (typ (array t x) q v) o i m h a n = let b = a.formed in absurd cc
initial_word s c lambda w (typ (func t) q v) o i m h a n = let b = a.formed in absurd cc
initial_word s c lambda w (typ (class x) q v) o i m h a n = absurd cc
initial_word s c lambda w (typ (closure x) q v) o i m h a n = absurd cc
initial_word s c lambda w (typ (tx_ex t) q v) o i m h a n = absurd cc

-- Objects

-- the argument's own object
pub object_word : (s : Setting) (w : Work) (f : Form) (q v : Bool) (at : At) (m : Made) (ds : Trees) → is_object_form f ≡ true
    → Reaches s (with_item w (plain f)) → BuildsOne s (plain f) m.tree → DestroysOne s (plain f) ds
    → IsWord s (typ f q v) (argument_object w (plain f) at ds m).tree
object_word s w f q v at m ds i h b d = record {
  fits = λ p full. node_fits s p Word (Materialize (next_place w) true) (plain f) Lvalue at (more m.tree ds) (and_any (Initialiser ∷ []) Destruction) refl
      refl refl refl (both (both (place_row s w (plain f) h) b.builds) d.right) refl (at_least_one (heads_of ds) (head_of m.tree) Initialiser Destruction)
      refl (object_kids s p m.tree ds full (b.fits p full) d.fit);
  right = first (is_object_form f) _ _ i (typ_refl (plain f));
}
  where
    first : (b x y : Bool) → b ≡ true → x ≡ true → cond b x y ≡ true
    first true x y e g = g
    first false x y e g = absurd cc
