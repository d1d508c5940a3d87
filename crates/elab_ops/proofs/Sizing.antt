-- Types whose objects have a size, of at most the greatest or more.
use Rattle.std.proofs.Common.{◌≡◌, ℕ, ◌≤◌, ◌<◌, Bool, true, false, ◌&&◌, leb, sym, refl, ◌⊎◌, inl, inr, arith}
use Rattle.std.specs.Prelude.{Option, Some, None, is_some}
use Rattle.std.specs.Option.{MatchOption}
use Rattle.std.proofs.lemmas.Bool.Decides.{leb_tells}
use Rattle.elab_conv.specs.cpp_types.Typ.{Typ, typ}
use Rattle.elab_conv.specs.cpp_types.Class.{held_form}
use Rattle.elab_conv.specs.cpp_layout.Layout.{Extent}
use Rattle.elab_conv.specs.cpp_layout.Measured.{Measured}
use Rattle.elab_conv.specs.cpp_layout.declared.extents.SizeAlign.{SizeAlign}
use Rattle.elab_conv.specs.cpp_layout.declared.extents.TheConstants.{GREATEST_SIZE}
use Rattle.elab_conv.specs.cpp_tree.Typing.{form_in}
use Rattle.elab_conv.specs.elab_ctx.Ctx.{Ctx}
use Rattle.elab_conv.specs.elab_ctx.Sized.{is_whole}
use Rattle.elab_conv.specs.elab_rules.Operators.{is_object_type, is_complete, is_sized}

held_known : (c : Ctx) (b : Bool) (o : Option ℕ) → b && is_complete c o ≡ true → is_complete c o ≡ true
held_known c true o h = h
held_known c false o h = absurd cc

whole_if : (c : Ctx) (t : Typ) (o : Option ℕ) → held_form (form_in t) ≡ o → is_complete c o ≡ true → is_whole c.classes (form_in t) ≡ true
whole_if c t None e h = rw e refl
whole_if c t (Some n) e h = rw e h

pub whole_of : (c : Ctx) (t : Typ) → is_sized c t ≡ true → is_whole c.classes (form_in t) ≡ true
whole_of c (typ f q v) h = whole_if c (typ f q v) (held_form f) refl (held_known c (is_object_type f) (held_form f) h)

within_or_more : (n : ℕ) → n ≤ GREATEST_SIZE → ((leb n GREATEST_SIZE ≡ true) × (n ≤ GREATEST_SIZE)) ⊎ ((leb n GREATEST_SIZE ≡ false) × (GREATEST_SIZE < n))
    → true ≡ leb n GREATEST_SIZE
within_or_more n l (inl p) = sym p.0
within_or_more n l (inr p) = let m : GREATEST_SIZE < n = p.1 in absurd (omega arith)

more_or_within : (n : ℕ) → GREATEST_SIZE < n → ((leb n GREATEST_SIZE ≡ true) × (n ≤ GREATEST_SIZE)) ⊎ ((leb n GREATEST_SIZE ≡ false) × (GREATEST_SIZE < n))
    → false ≡ leb n GREATEST_SIZE
more_or_within n l (inl p) = let m : n ≤ GREATEST_SIZE = p.1 in absurd (omega arith)
more_or_within n l (inr p) = sym p.0

-- what was measured tells whether it is no more than the greatest
pub measured_within : (e : Extent) (r : Option SizeAlign) → MatchOption r (GREATEST_SIZE < e.size) (λ s. Measured e s) → is_some r ≡ leb e.size GREATEST_SIZE
measured_within e (Some s) m = within_or_more e.size m.within (leb_tells e.size GREATEST_SIZE)
measured_within e None l = more_or_within e.size l (leb_tells e.size GREATEST_SIZE)
