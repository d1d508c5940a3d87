-- What initialises an object of class type.
use Rattle.std.proofs.Common.{◌≡◌, refl, sym, ap, ◌∙◌, subst, ℕ, Bool, true, false, not, Some, is_some}
use Rattle.std.proofs.lemmas.Bool.{and_parts}
use Rattle.std.specs.Prelude.{if◌then◌else◌}
use Rattle.elab_rules.specs.cpp_types.Typ.{Typ, typ, Form, void, int, enum, null, ptr, ref, array, func, class, closure, tx_ex}
use Rattle.elab_rules.specs.cpp_types.Class.{completion_of}
use Rattle.elab_rules.specs.cpp_types.Equal.{typ_eq, form_eq}
use Rattle.elab_rules.specs.cpp_types.Conversion.{is_lvalue}
use Rattle.elab_rules.specs.cpp_types.declared.classes.At.{At}
use Rattle.elab_rules.specs.cpp_types.declared.ranks.Cat.TheVariants.{Lvalue, Prvalue}
use Rattle.elab_rules.specs.cpp_tree.declared.faults.IllRule.TheVariants.{NoConversion, NoCopy}
use Rattle.elab_rules.specs.cpp_tree.declared.kinds.TKind.TheVariants.{Pieces}
use Rattle.elab_rules.specs.cpp_tree.declared.roles.Role.TheVariants.{Initialiser}
use Rattle.elab_rules.specs.cpp_tree.Trees.{Tree, node, typ_in, cat_of}
use Rattle.elab_rules.specs.cpp_tree.Typing.{head_of, form_in, is_volatile_typ, is_class_typ, is_class_prvalue, same_shape, builds}
use Rattle.elab_rules.specs.cpp_tree.Rows.{Setting}
use Rattle.elab_rules.specs.elab_ctx.Ctx.{Ctx, Work}
use Rattle.elab_rules.specs.elab_ctx.Steps.{Operand, Made}
use Rattle.elab_rules.specs.Values.{builder, is_exception_form}
use Rattle.elab_rules.specs.Objects.{parts_of}
use Rattle.elab_rules.specs.Initialising.{object_of, with_tree, building, makeable, is_prvalue_of_class, same_number, class_number, is_same_or_base}
use Rattle.elab_rules.specs.Initialising.{closure_copied, closure_pieces, is_closure_itself, exception_built, exception_copied}
use Rattle.elab_rules.specs.Initialising.{is_given_value, class_from}
use Rattle.elab_fits.specs.Standing.{FitsAs, Stands, BuildsOne, IsSetting, Reaches, On}
use Rattle.elab_fits.proofs.Equal.{typ_same, form_same, form_refl}
use Rattle.elab_fits.proofs.Nodes.{both, or_left, head_typ, head_cat}
use Rattle.elab_fits.proofs.Steps.{bind, checked, either}
use Rattle.elab_fits_objects.specs.Contexts.{is_whole, is_sorted, copies_itself, IsObjectTyp, HasMakers, IsSource}
use Rattle.elab_fits_objects.specs.Making.{Makes, ClassesBuild}
use Rattle.elab_fits_objects.proofs.Captures.{closure_copy}
use Rattle.elab_fits_objects.proofs.Copying.{named_form, lambda_form, based_class, object_copied}
use Rattle.elab_fits_objects.proofs.Excepting.{built}
use Rattle.elab_fits_objects.proofs.Exceptions.{copied_makes}
use Rattle.elab_fits_objects.proofs.Fits.{copy_builds}
use Rattle.elab_fits_objects.proofs.Forms.{plain_makes, own_fits, own_builds, building_form}
use Rattle.elab_fits_objects.proofs.Placing.{object_placed, object_typ, object_lvalue, placed_fits}
use Rattle.elab_fits_objects.proofs.Rebuilt.{building_builds}
use Rattle.elab_fits_objects.proofs.Types.{whole_sized, whole_plain, other_lvalue, makeable_complete}

abbrev pub Built : Setting → Typ → Made → Type 0
Built s t m = Reaches s m.work → Makes s t m.tree

-- Lambdas' objects

closure_shape : (n : ℕ) (q v : Bool) (t : Typ) → form_in t ≡ closure n → same_shape (typ (closure n) q v) t ≡ true
closure_shape n q v (typ f a b) h = ap (form_eq (closure n)) h ∙ form_refl (closure n)

closure_class : (n : ℕ) (t : Typ) → form_in t ≡ closure n → is_class_typ t ≡ true
closure_class n (typ (closure m) a b) h = refl
closure_class n (typ (class m) a b) h = refl
closure_class n (typ (tx_ex t) a b) h = refl
closure_class n (typ void a b) h = absurd cc
closure_class n (typ (int k) a b) h = absurd cc
closure_class n (typ (enum m s) a b) h = absurd cc
closure_class n (typ null a b) h = absurd cc
closure_class n (typ (ptr t) a b) h = absurd cc
closure_class n (typ (ref t) a b) h = absurd cc
closure_class n (typ (array t m) a b) h = absurd cc
closure_class n (typ (func s) a b) h = absurd cc

module _ (s : Setting) (c : Ctx) (lambda : ℕ → Bool) (w : Work) (at : At) (o : Operand) (i : IsSetting s c) (m : HasMakers c lambda)
    (h : IsSource s c lambda o) where
  -- one that is a prvalue of exactly the type
  closure_itself : (n : ℕ) (q v : Bool) → is_closure_itself n q v o.tree ≡ true → Makes s (typ (closure n) q v) o.tree
  closure_itself n q v e =
      let a = and_parts (is_prvalue_of_class n o.tree) (typ_eq (typ (closure n) q v) (typ_in o.tree)) e in
      let b = and_parts (is_class_prvalue (typ_in o.tree) (cat_of o.tree)) (same_number n (class_number (typ_in o.tree))) a.0 in
      let t : typ_in o.tree ≡ typ (closure n) q v = sym (typ_same (typ (closure n) q v) (typ_in o.tree) a.1) in
      let plain : is_exception_form (form_in (typ_in o.tree)) ≡ false = ap (λ (u : Typ). is_exception_form (form_in u)) t in
      plain_makes s (typ (closure n) q v) o.tree (record {
        fits = own_fits s o.tree h.operand.stands b.0 plain;
        builds = subst (λ (u : Typ). builds u (head_of o.tree) ≡ true) t (own_builds s o.tree h.operand.stands b.0 plain);
      }) plain

  closure_makes : (n : ℕ) (q v : Bool) → lambda n ≡ true → is_whole c.classes (typ (closure n) q v) ≡ true → form_in (typ_in o.tree) ≡ closure n
      → Reaches s (object_of c w o.at o.tree).work → Makes s (typ (closure n) q v) (closure_copied c n q v at (object_of c w o.at o.tree).tree)
  closure_makes n q v k z e reached =
      let x : Tree = (object_of c w o.at o.tree).tree in
      let p = object_placed s c lambda w o i m h reached in
      let l : cat_of x ≡ Lvalue = object_lvalue s c w o.at o.tree (closure_class n (typ_in o.tree) e) p in
      let f : form_in (typ_in x) ≡ closure n = ap form_in (object_typ c w o.at o.tree) ∙ e in
      record {
        one = copy_builds s (typ (closure n) q v) at x (node Pieces (typ (closure n) q v) Prvalue at (closure_pieces c at q v (parts_of c.classes n)))
            (placed_fits s x p) (both (ap is_lvalue (head_cat x ∙ l)) (or_left _ (ap (λ (t : Typ). same_shape (typ (closure n) q v) t) (head_typ x)
            ∙ closure_shape n q v (typ_in x) f))) (closure_copy s c lambda at i m n q v k z);
        copied = refl;
      }

  closure_from : (n : ℕ) (q v : Bool) → IsObjectTyp c lambda (typ (closure n) q v) → On (Built s (typ (closure n) q v))
      (class_from c w (typ (closure n) q v) at o)
  closure_from n q v t = either (Built s (typ (closure n) q v)) (is_closure_itself n q v o.tree) _ _ (λ e. (λ reached. closure_itself n q v e))
      (λ e. checked (Built s (typ (closure n) q v)) o.at NoConversion (same_number n (class_number (typ_in o.tree))) _
      (λ y. checked (Built s (typ (closure n) q v)) o.at NoCopy (not (is_volatile_typ (typ_in o.tree))) _
      (λ z. closure_makes n q v t.sorted (t.whole (t.complete refl)) (lambda_form lambda n (typ_in o.tree) y h.sorted t.sorted))))

  -- Objects of named classes

  pub own_class : (n : ℕ) (q v : Bool) (e : Tree) → not (lambda n) ≡ true → is_whole c.classes (typ (class n) q v) ≡ true → Stands s e
      → is_sorted lambda (form_in (typ_in e)) ≡ true → is_prvalue_of_class n e ≡ true
      → Makes s (typ (class n) q v) (building c.classes (typ (class n) q v) e)
  own_class n q v (node kind (typ f d u) Lvalue p kids) k z stands sorted e = absurd cc
  own_class n q v (node kind (typ f d u) Prvalue p kids) k z stands sorted e =
      let a = and_parts (is_class_prvalue (typ f d u) Prvalue) (same_number n (class_number (typ f d u))) e in
      let o : f ≡ class n = named_form lambda n (typ f d u) a.1 sorted k in
      let plain : is_exception_form f ≡ false = ap is_exception_form o in
      let g = own_fits s (node kind (typ f d u) Prvalue p kids) stands a.0 plain in
      subst (λ (x : Form). Makes s (typ (class n) q v) (building c.classes (typ (class n) q v) (node kind (typ x d u) Prvalue p kids))) (sym o)
      (plain_makes s (typ (class n) q v) (building c.classes (typ (class n) q v) (node kind (typ (class n) d u) Prvalue p kids))
      (building_builds s c i (class n) q v d u refl (whole_sized c.classes (typ (class n) q v) z) (whole_plain c.classes (typ (class n) q v) z refl) kind p kids
      (λ b. refl) (subst (λ (x : Form). FitsAs s Initialiser (node kind (typ x d u) Prvalue p kids)) o g))
      (ap is_exception_form (building_form c.classes (class n) q v d u refl kind p kids)))

  pub named_from : (n : ℕ) (q v : Bool) → IsObjectTyp c lambda (typ (class n) q v) → On (Built s (typ (class n) q v)) (class_from c w (typ (class n) q v) at o)
  named_from n q v t = bind (λ (k : ℕ). completion_of c.classes n ≡ Some k) (Built s (typ (class n) q v)) (makeable c at n) _ (makeable_complete c at n)
      (λ k e. either (Built s (typ (class n) q v)) (is_prvalue_of_class n o.tree) _ _
      (λ y. (λ reached. own_class n q v o.tree t.sorted (t.whole (ap is_some e)) h.operand.stands h.sorted y))
      (λ y. checked (Built s (typ (class n) q v)) o.at NoConversion (is_same_or_base c.classes (class_number (typ_in o.tree)) (Some n)) _
      (λ z. object_copied s c lambda w n q v at o i m h t.sorted (t.whole (ap is_some e)) (based_class c.classes (typ_in o.tree) n z))))

  -- Exceptions

  pub exception_class : (t u : Typ) → form_in u ≡ tx_ex t → is_class_typ u ≡ true
  exception_class t (typ (tx_ex x) a b) e = refl
  exception_class t (typ (class n) a b) e = refl
  exception_class t (typ (closure n) a b) e = refl
  exception_class t (typ void a b) e = absurd cc
  exception_class t (typ (int k) a b) e = absurd cc
  exception_class t (typ (enum n s) a b) e = absurd cc
  exception_class t (typ null a b) e = absurd cc
  exception_class t (typ (ptr x) a b) e = absurd cc
  exception_class t (typ (ref x) a b) e = absurd cc
  exception_class t (typ (array x n) a b) e = absurd cc
  exception_class t (typ (func s) a b) e = absurd cc

  module _ (f : Form) (d x q v : Bool) (whole : is_whole c.classes (typ (tx_ex (typ f d x)) q v) ≡ true)
      (formed : form_in (typ_in o.tree) ≡ tx_ex (typ f d x)) where
    abbrev T : Typ
    T = typ (tx_ex (typ f d x)) q v

    object_makes : Reaches s (object_of c w o.at o.tree).work → Makes s T (exception_copied c T at (object_of c w o.at o.tree).tree)
    object_makes reached =
        let y : Tree = (object_of c w o.at o.tree).tree in
        let p = object_placed s c lambda w o i m h reached in
        copied_makes s c f d x q v at i whole y (placed_fits s y p)
        (object_lvalue s c w o.at o.tree (exception_class (typ f d x) (typ_in o.tree) formed) p)
        (ap form_in (object_typ c w o.at o.tree) ∙ formed)

    value_makes : (e : Tree) (t : Typ) → form_in t ≡ tx_ex (typ f d x) → FitsAs s Initialiser e → builds t (head_of e) ≡ true → copies_itself e ≡ true
        → is_given_value e ≡ false → Makes s T (building c.classes (typ f q v) e)
    value_makes (node kind (typ g a b) cat p kids) (typ k y z) r j l n u = built s c f d x q v i whole kind g a b cat p kids y z j
        (subst (λ (k : Form). builds (typ k y z) (head_of (node kind (typ g a b) cat p kids)) ≡ true) r l) n u

    exact_one : (e : Tree) → FitsAs s Initialiser e → typ_eq T (typ_in e) ≡ true → (t : Typ) → builds t (head_of e) ≡ true → BuildsOne s T e
    exact_one (node kind u cat p kids) j y t b = record { fits = j; builds = both (and_parts _ _ b).0 (or_left _ (or_left _ y)) }

    built_by : (e : Tree) (b : Bool) → typ_eq T (typ_in e) ≡ b → FitsAs s Initialiser e → builds (typ_in o.tree) (head_of e) ≡ true → copies_itself e ≡ true
        → is_given_value e ≡ false → Makes s T (if b then e else building c.classes (typ f q v) e)
    built_by e true y j l n u = record { one = exact_one e j y (typ_in o.tree) l; copied = n }
    built_by e false y j l n u = value_makes e (typ_in o.tree) formed j l n u

    made_by : (b : Bool) → is_given_value (builder o.tree) ≡ b → is_class_prvalue (typ_in o.tree) (cat_of o.tree) ≡ true
        → Reaches s (if b then with_tree (exception_copied c T at) (object_of c w o.at o.tree) else
        record { tree = exception_built c.classes T (builder o.tree); work = w }).work
        → Makes s T (if b then with_tree (exception_copied c T at) (object_of c w o.at o.tree) else
        record { tree = exception_built c.classes T (builder o.tree); work = w }).tree
    made_by true g p reached = object_makes reached
    made_by false g p reached = built_by (builder o.tree) (typ_eq T (typ_in (builder o.tree))) refl (h.operand.stands.object p) (h.operand.stands.built p)
        h.copied g

    lvalue_makes : is_class_prvalue (typ_in o.tree) (cat_of o.tree) ≡ false → Makes s T (exception_copied c T at o.tree)
    lvalue_makes n = copied_makes s c f d x q v at i whole o.tree (h.operand.stands.value n)
        (other_lvalue (typ_in o.tree) (cat_of o.tree) (exception_class (typ f d x) (typ_in o.tree) formed) n) formed

  exception_from : (f : Form) (d x q v : Bool) → IsObjectTyp c lambda (typ (tx_ex (typ f d x)) q v)
      → On (Built s (typ (tx_ex (typ f d x)) q v)) (class_from c w (typ (tx_ex (typ f d x)) q v) at o)
  exception_from f d x q v t = checked (Built s (typ (tx_ex (typ f d x)) q v)) o.at NoConversion (form_eq (form_in (typ_in o.tree)) (tx_ex (typ f d x))) _
      (λ y. let e = form_same (form_in (typ_in o.tree)) (tx_ex (typ f d x)) y in let z = t.whole (t.complete refl) in
      either (Built s (typ (tx_ex (typ f d x)) q v)) (is_class_prvalue (typ_in o.tree) (cat_of o.tree)) _ _
      (λ p. (λ reached. made_by f d x q v z e (is_given_value (builder o.tree)) refl p reached))
      (λ p. checked (Built s (typ (tx_ex (typ f d x)) q v)) o.at NoCopy (not (is_volatile_typ (typ_in o.tree))) _
      (λ k. (λ reached. lvalue_makes f d x q v z e p))))

pub class_builds : ClassesBuild
class_builds s c lambda w (typ (closure n) q v) at o i m h t = closure_from s c lambda w at o i m h n q v t
class_builds s c lambda w (typ (class n) q v) at o i m h t = named_from s c lambda w at o i m h n q v t
class_builds s c lambda w (typ (tx_ex (typ f d x)) q v) at o i m h t = exception_from s c lambda w at o i m h f d x q v t
class_builds s c lambda w (typ void q v) at o i m h t = tt
class_builds s c lambda w (typ (int k) q v) at o i m h t = tt
class_builds s c lambda w (typ (enum n e) q v) at o i m h t = tt
class_builds s c lambda w (typ null q v) at o i m h t = tt
class_builds s c lambda w (typ (ptr u) q v) at o i m h t = tt
class_builds s c lambda w (typ (ref u) q v) at o i m h t = tt
class_builds s c lambda w (typ (array u n) q v) at o i m h t = tt
class_builds s c lambda w (typ (func g) q v) at o i m h t = tt
