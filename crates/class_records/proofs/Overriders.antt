-- A slot in which no function stands is overridden by none.
use Rattle.std.proofs.Common.{◌≡◌, ◌∙◌, ℕ, suc, Bool, true, false, ◌&&◌, List, [], ◌∷◌, Option, None, Result, Ok, Err, IfOk, refl, sym, ap, if◌then◌else◌}
use Rattle.cpp_types.specs.Class.{Function}
use Rattle.elab_init.specs.cpp_tree.Units.{SlotFunc, slot_of as slot_shown}
use Rattle.elab_init.specs.cpp_tree.declared.program.SlotRec.{SlotRec}
use Rattle.elab_init.specs.elab_rules.Classes.{overrider_from, slot_of}

and_false : (b : Bool) → (b && false) ≡ false
and_false true = refl
and_false false = refl

none_over : (n i : ℕ) (x : SlotFunc) (fs : List Function) → overrider_from n i None x fs ≡ x
none_over n i x [] = refl
none_over n i x (f ∷ fs) = ap (λ (b : Bool). if b then slot_of n i f else overrider_from n (suc i) None x fs) (and_false f.is_virtual)
    ∙ none_over n (suc i) x fs

pub copy_none : {E : Type 0} (r : Result SlotRec E) (n : ℕ) (o : Option Function) (x : SlotFunc) (fs : List Function) → IfOk r (λ y. slot_shown y ≡ x)
    → o ≡ None → IfOk r (λ y. slot_shown y ≡ overrider_from n 0 o x fs)
copy_none (Ok y) n o x fs h e = h ∙ sym (ap (λ (z : Option Function). overrider_from n 0 z x fs) e ∙ none_over n 0 x fs)
copy_none (Err e) n o x fs h q = tt
