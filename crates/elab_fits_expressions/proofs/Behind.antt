-- What is made stands behind what was made before: items of the frame and globals stay in their places.
use Rattle.std.proofs.Common.{◌≡◌, refl, subst, ℕ, zero, suc, true, List, [], ◌∷◌, ◌++◌, slice_get, Some}
use Rattle.elab_rules.specs.cpp_types.Typ.{Typ}
use Rattle.elab_rules.specs.cpp_types.declared.classes.At.{At}
use Rattle.elab_rules.specs.cpp_tree.Units.{Global}
use Rattle.elab_rules.specs.elab_ctx.Ctx.{Ctx, Work, with_item}
use Rattle.elab_rules.specs.elab_ctx.Steps.{Operand, Made, MadeAll, Typed, TypedAll}
use Rattle.elab_rules.specs.Initialising
use Rattle.elab_rules.specs.Operators
use Rattle.elab_rules.specs.Casts.{string_global}
use Rattle.elab_fits.specs.Standing.{On}
use Rattle.elab_fits_forms.specs.Types.{is_target}
use Rattle.elab_fits.proofs.Growing as growing
use Rattle.elab_fits_expressions.specs.Growing.{Behind}

pub found_before : {A : Type 0} (xs ys : List A) (i : ℕ) (x : A) → slice_get xs i ≡ Some x → slice_get (xs ++ ys) i ≡ Some x
found_before {A} [] ys i x h = absurd cc
found_before {A} (z ∷ xs) ys zero x h = h
found_before {A} (z ∷ xs) ys (suc i) x h = found_before xs ys i x h

-- what is found with one more behind was found before, or is that one
pub one_more : {A : Type 0} (P : A → Type 0) (xs : List A) (y : A) (i : ℕ) (x : A) → ((j : ℕ) (z : A) → slice_get xs j ≡ Some z → P z) → P y
    → slice_get (xs ++ y ∷ []) i ≡ Some x → P x
one_more {A} P [] y zero x f h e = let a : y ≡ x = cc in subst P a h
one_more {A} P [] y (suc i) x f h e = absurd cc
one_more {A} P (z ∷ xs) y zero x f h e = f 0 x e
one_more {A} P (z ∷ xs) y (suc i) x f h e = one_more P xs y i x (λ j u g. f (suc j) u g) h e

pub same : (w : Work) → Behind w w
same w = record { frame = λ i t h. h; globals = λ i g h. h; objects = λ classes h. h }

pub after : {a b c : Work} → Behind a b → Behind b c → Behind a c
after {a} {b} {c} h g = record {
  frame = λ i t k. g.frame i t (h.frame i t k);
  globals = λ i x k. g.globals i x (h.globals i x k);
  objects = λ classes k. g.objects classes (h.objects classes k);
}

one_item : (w : Work) (t : Typ) → Behind w (with_item w t)
one_item w t = record { frame = λ i u h. found_before w.frame (t ∷ []) i u h; globals = λ i g h. h; objects = λ classes h. h }

one_text : (w : Work) (at : At) (bytes : List ℕ) → Behind w (record w { globals = w.globals ++ string_global at bytes ∷ [] })
one_text w at bytes = let g : Global = string_global at bytes in record {
  frame = λ i u h. h;
  globals = λ i x h. found_before w.globals (g ∷ []) i x h;
  objects = λ classes h. (λ i x k. one_more (λ (y : Global). is_target classes y.typ ≡ true) w.globals g i x h refl k);
}

pub growth : growing.Growth Behind
growth = record { same = same; after = λ a b c h g. after h g; one_item = one_item; one_text = one_text }

-- What is answered, if it is no fault

abbrev pub made : Work → Made → Type 0
made w m = Behind w m.work

abbrev pub all_made : Work → MadeAll → Type 0
all_made w m = Behind w m.work

abbrev pub typed : Work → Typed → Type 0
typed w x = Behind w x.work

abbrev pub all_typed : Work → TypedAll → Type 0
all_typed w x = Behind w x.work

pub initial : (c : Ctx) (w : Work) (t : Typ) (o : Operand) → On (made w) (Initialising.initial c w t o)
initial = growing.initial Behind growth

pub class_from : (c : Ctx) (w : Work) (t : Typ) (at : At) (o : Operand) → On (made w) (Initialising.class_from c w t at o)
class_from = growing.class_from Behind growth

pub scalar_from : (c : Ctx) (w : Work) (t : Typ) (o : Operand) → On (made w) (Initialising.scalar_from c w t o)
scalar_from = growing.scalar_from Behind growth

pub from_values : (c : Ctx) (w : Work) (t : Typ) (at : At) (os : List Operand) → On (made w) (Initialising.from_values c w t at os)
from_values = growing.from_values Behind growth

pub dropped : (c : Ctx) (w : Work) (o : Operand) → Behind w (Operators.dropped c w o).work
dropped = growing.dropped Behind growth
