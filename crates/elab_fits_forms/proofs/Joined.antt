-- `?:` of two objects of a class that share no type.
use Rattle.std.proofs.Common.{◌≡◌, refl, ap, ◌∙◌, ℕ, Bool, true, false, not, ◌&&◌, ◌||◌, is_some, Result, Ok, Err}
use Rattle.std.proofs.lemmas.Bool.{and_parts}
use Rattle.elab_rules.specs.cpp_types.Typ.{Typ, typ, class, closure, tx_ex}
use Rattle.elab_rules.specs.cpp_types.Class.{completion_of}
use Rattle.elab_rules.specs.cpp_types.Equal.{typ_eq, form_eq}
use Rattle.elab_rules.specs.cpp_types.declared.classes.At.{At}
use Rattle.elab_rules.specs.cpp_types.declared.ranks.Cat.TheVariants.{Prvalue}
use Rattle.elab_rules.specs.cpp_tree.declared.faults.ElabFault.{ElabFault}
use Rattle.elab_rules.specs.cpp_tree.declared.faults.IllRule.TheVariants.{AbstractObject, Incomplete}
use Rattle.elab_rules.specs.cpp_tree.Trees.{Tree, typ_in}
use Rattle.elab_rules.specs.cpp_tree.Typing.{head_of, form_in, is_class_typ, is_prvalue, is_void}
use Rattle.elab_rules.specs.cpp_tree.Typing.{goes_both_ways, same_shape, without_exception}
use Rattle.elab_rules.specs.cpp_tree.Roles.{is_throw}
use Rattle.elab_rules.specs.cpp_tree.Rows.{Setting, is_branch}
use Rattle.elab_rules.specs.elab_ctx.Ctx.{Ctx, Work}
use Rattle.elab_rules.specs.elab_ctx.Steps.{and_then, check, Operand, Made}
use Rattle.elab_rules.specs.Objects.{traits_at}
use Rattle.elab_rules.specs.Initialising.{object_of, makeable, class_from, exact_object, is_other_prvalue, object_operand}
use Rattle.elab_rules.specs.Operators.{both_of_class, joined_type, joined_class, conditional_node, two_objects, conditional}
use Rattle.elab_fits.specs.Standing.{Reaches, On}
use Rattle.elab_fits.proofs.Equal.{typ_refl}
use Rattle.elab_fits.proofs.Nodes.{both, or_right, head_typ}
use Rattle.elab_fits.proofs.Steps.{bind, expected, known, either}
use Rattle.elab_fits.proofs.Arithmetic.{IsTruth}
use Rattle.elab_fits_objects.specs.Making.{MakesExactly}
use Rattle.elab_fits_objects.proofs.Exact.{exact_builds}
use Rattle.elab_fits_objects.proofs.Keeping as keeping
use Rattle.elab_fits_forms.specs.Types.{is_sound, IsWhole}
use Rattle.elab_fits_forms.specs.Meaning.{ProperOperand}
use Rattle.elab_fits_forms.specs.Context.{Holds}
use Rattle.elab_fits_forms.specs.Forms.{MadeStands}
use Rattle.elab_fits_forms.proofs.Wholes.{class_whole}
use Rattle.elab_fits_forms.proofs.Sources.{object_typ_is, source_of}
use Rattle.elab_fits_forms.proofs.Settled.{proper_built}
use Rattle.elab_fits_forms.proofs.Choices.{choice_built, choices_stand}

-- The class of what is made is complete

pub makeable_complete : (c : Ctx) (at : At) (n : ℕ) → On (λ (i : ℕ). is_some (completion_of c.classes n) ≡ true) (makeable c at n)
makeable_complete c at n = expected (λ (i : ℕ). is_some (completion_of c.classes n) ≡ true) at Incomplete (completion_of c.classes n) _
    (λ i e. by i (not (traits_at c n).is_abstract) (ap is_some e))
  where
    by : (i : ℕ) (b : Bool) → is_some (completion_of c.classes n) ≡ true
        → On (λ (j : ℕ). is_some (completion_of c.classes n) ≡ true) (and_then (check at AbstractObject b) (λ y. Ok i))
    by i true h = h
    by i false h = tt

made_whole : (s : Setting) (c : Ctx) (w w' : Work) (t : Typ) (at : At) (o : Operand) → Holds s c w' → is_sound c.classes t ≡ true
    → On (λ (m : Made). IsWhole c.classes t) (class_from c w t at o)
made_whole s c w w' (typ (class n) q v) at o h i = bind (λ (j : ℕ). is_some (completion_of c.classes n) ≡ true)
    (λ (m : Made). IsWhole c.classes (typ (class n) q v)) (makeable c at n) _ (makeable_complete c at n)
    (λ j d. known (λ (m : Made). IsWhole c.classes (typ (class n) q v)) _ (λ m. (h.complete n d).whole (class n) q v refl i))
made_whole s c w w' (typ (closure n) q v) at o h i = known (λ (m : Made). IsWhole c.classes (typ (closure n) q v))
    (class_from c w (typ (closure n) q v) at o) (λ m. class_whole s c w' (typ (closure n) q v) h i refl (λ k a b e. absurd cc))
made_whole s c w w' (typ (tx_ex t) q v) at o h i = known (λ (m : Made). IsWhole c.classes (typ (tx_ex t) q v))
    (class_from c w (typ (tx_ex t) q v) at o) (λ m. class_whole s c w' (typ (tx_ex t) q v) h i refl (λ k a b e. absurd cc))
made_whole s c w w' (typ f q v) at o h i = tt

exact_whole : (s : Setting) (c : Ctx) (w w' : Work) (t : Typ) (at : At) (o : Operand) → Holds s c w' → is_sound c.classes t ≡ true
    → On (λ (m : Made). IsWhole c.classes t) (exact_object c w t at o)
exact_whole s c w w' t at o h i = either (λ (m : Made). IsWhole c.classes t) (is_other_prvalue t o.tree) _ _
    (λ k. made_whole s c (object_of c w o.at o.tree).work w' t at (object_operand o (object_of c w o.at o.tree).tree) h i)
    (λ k. made_whole s c w w' t at o h i)

exact_keeps : (s : Setting) (c : Ctx) (w : Work) (t : Typ) (at : At) (o : Operand) → On (keeping.made s w) (exact_object c w t at o)
exact_keeps s c w t at o = either (keeping.made s w) (is_other_prvalue t o.tree) _ _
    (λ k. by (class_from c (object_of c w o.at o.tree).work t at (object_operand o (object_of c w o.at o.tree).tree))
    (keeping.class_from s c (object_of c w o.at o.tree).work t at (object_operand o (object_of c w o.at o.tree).tree)))
    (λ k. keeping.class_from s c w t at o)
  where
    by : (r : Result Made ElabFault) → On (keeping.made s (object_of c w o.at o.tree).work) r → On (keeping.made s w) r
    by (Ok m) g = λ x. keeping.object s c w o.at o.tree (g x)
    by (Err e) g = tt

-- what is made of an operand of such a choice
record IsExact (s : Setting) (c : Ctx) (w : Work) (t : Typ) (m : Made) : Type 0 where
  pub before : Reaches s m.work → Reaches s w
  pub whole : IsWhole c.classes t
  pub makes : Reaches s m.work → MakesExactly s t m.tree

exact_is : (s : Setting) (c : Ctx) (w w' : Work) (t : Typ) (at : At) (o : Operand) → Holds s c w' → is_sound c.classes t ≡ true → is_class_typ t ≡ true
    → ProperOperand s c o → On (IsExact s c w t) (exact_object c w t at o)
exact_is s c w w' t at o h i k x = by (exact_object c w t at o) (exact_keeps s c w t at o) (exact_whole s c w w' t at o h i)
    (exact_builds s c _ w t at o h.setting h.makers (source_of s c o x) (object_typ_is s c w' t h i k))
  where
    by : (r : Result Made ElabFault) → On (keeping.made s w) r → On (λ (m : Made). IsWhole c.classes t) r
        → On (λ (m : Made). Reaches s m.work → MakesExactly s t m.tree) r → On (IsExact s c w t) r
    by (Ok m) a b d = record { before = a; whole = b; makes = d }
    by (Err e) a b d = tt

exact_branch : (s : Setting) (t : Typ) (e : Tree) → MakesExactly s t e → is_branch t Prvalue (head_of e) ≡ true
exact_branch s t e m = or_right (is_throw (head_of e).kind || is_void t) (both (and_parts (is_prvalue (head_of e).cat)
    (typ_eq t (head_of e).typ || typ_eq (without_exception t) (head_of e).typ || (goes_both_ways (head_of e).kind && is_class_typ t && same_shape t (head_of e).typ))
    m.makes.one.builds).0 (ap (λ (u : Typ). typ_eq t u) (head_typ e ∙ m.typed) ∙ typ_refl t))

joined_sound : (c : Ctx) (t u : Typ) → is_sound c.classes t ≡ true → is_sound c.classes (joined_type t u) ≡ true
joined_sound c (typ f q v) (typ g d w) h = h

joined_is_class : (t u : Typ) → is_class_typ t ≡ true → is_class_typ (joined_type t u) ≡ true
joined_is_class (typ f q v) (typ g d w) h = h

two_stand : (s : Setting) (c : Ctx) (w : Work) (at : At) (test : Tree) (a b : Operand) → Holds s c w → IsTruth s test → ProperOperand s c a
    → ProperOperand s c b → both_of_class a b ≡ true → On (MadeStands s c) (two_objects c w at test a b)
two_stand s c w at test a b h t x y k =
    bind (IsExact s c w (joined_class a b)) (MadeStands s c) (exact_object c w (joined_class a b) a.at a) _
    (exact_is s c w w (joined_class a b) a.at a h sound typed x) (λ m g.
    bind (IsExact s c m.work (joined_class a b)) (MadeStands s c) (exact_object c m.work (joined_class a b) b.at b) _
    (exact_is s c m.work w (joined_class a b) b.at b h sound typed y) (λ n i r.
    proper_built s c (conditional_node at (joined_class a b) Prvalue test m.tree n.tree)
    (choice_built s c at (joined_class a b) test m.tree n.tree typed sound g.whole t (g.makes (i.before r)).makes.one.fits (i.makes r).makes.one.fits
    (exact_branch s (joined_class a b) m.tree (g.makes (i.before r))) (exact_branch s (joined_class a b) n.tree (i.makes r)))))
  where
    sound : is_sound c.classes (joined_class a b) ≡ true
    sound = joined_sound c (typ_in a.tree) (typ_in b.tree) x.proper.sound

    typed : is_class_typ (joined_class a b) ≡ true
    typed = joined_is_class (typ_in a.tree) (typ_in b.tree)
        (and_parts (is_class_typ (typ_in a.tree)) (form_eq (form_in (typ_in a.tree)) (form_in (typ_in b.tree))) k).0

pub all_choices : (s : Setting) (c : Ctx) (w : Work) (at : At) (test a b : Operand) → Holds s c w → ProperOperand s c test → ProperOperand s c a
    → ProperOperand s c b → On (MadeStands s c) (conditional c w at test a b)
all_choices s c w at test a b o z x y = choices_stand s c w at test a b o z x y (λ t h n m. two_stand s c w at t a b o h x y m)
