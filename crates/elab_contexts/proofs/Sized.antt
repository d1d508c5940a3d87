-- A class keeps the size that it had when it became complete.
use Rattle.std.proofs.Common.{◌≡◌, sym, ap, ◌∙◌, ℕ, zero, suc, true, nat_le, List, [], ◌∷◌, ◌++◌, length, slice_get, Option, Some, None, is_some}
use Rattle.std.proofs.Common.{option_and_then, arith}
use Rattle.std.specs.Prelude.{slice_set}
use Rattle.std.proofs.lemmas.List.{length-append, length-set}
use Rattle.std.proofs.lemmas.Option.{same_Some}
use Rattle.elab_rules.specs.cpp_types.Class.{Class, completion_of}
use Rattle.elab_rules.specs.cpp_layout.Layout.{Extent, class_extent}
use Rattle.elab_rules.specs.cpp_layout.declared.extents.TheConstants.{GREATEST_SIZE}
use Rattle.setting_growth.specs.Growth.{ClassesGrow, HeldEarlier}
use Rattle.setting_growth.proofs.Classes.{known_if, extent_same}
use Rattle.elab_contexts.proofs.Lists.{one_more_at, one_set_at}
use Rattle.elab_contexts.proofs.Found.{before_it}
use Rattle.elab_contexts.proofs.Order.{Ordered}

-- Classes that grow

grow_added : (cs : List Class) (c : Class) → ClassesGrow cs (cs ++ c ∷ [])
grow_added cs c = record { complete = λ n k d h e. before_it cs c n d h; many = let l = length-append cs (c ∷ []) in omega arith }

class_kept : (cs : List Class) (n : ℕ) (x : Class) → completion_of cs n ≡ None → (m k : ℕ) (c : Class) → slice_get cs m ≡ Some c → c.complete ≡ Some k
    → slice_get (slice_set cs n x) m ≡ Some c
class_kept [] n x e m k c h q = absurd cc
class_kept (d ∷ cs) zero x e zero k c h q =
    let f : Some k ≡ None = sym (ap (λ (z : Class). z.complete) (same_Some d c h) ∙ q) ∙ e in absurd cc
class_kept (d ∷ cs) zero x e (suc m) k c h q = h
class_kept (d ∷ cs) (suc n) x e zero k c h q = h
class_kept (d ∷ cs) (suc n) x e (suc m) k c h q = class_kept cs n x e m k c h q

grow_set : (cs : List Class) (n : ℕ) (x : Class) → completion_of cs n ≡ None → ClassesGrow cs (slice_set cs n x)
grow_set cs n x e = record { complete = class_kept cs n x e; many = let l = length-set cs n x in omega arith }

-- Sizes

abbrev pub Sized : List Class → ℕ → Type 0
Sized cs n = nat_le (class_extent cs n).size GREATEST_SIZE ≡ true

held_earlier : (cs : List Class) → Ordered cs → HeldEarlier cs
held_earlier cs o = record { earlier = λ n c k e f. o.earlier n c k e f }

sized_still : (old new : List Class) → ClassesGrow old new → Ordered old → (n : ℕ) (k : Class) → slice_get old n ≡ Some k → is_some k.complete ≡ true
    → Sized old n → Sized new n
sized_still old new g o n k e q z = ap (λ (x : Extent). nat_le x.size GREATEST_SIZE) (extent_same old new g (held_earlier old o) n
    (known_if old n (ap (λ (y : Option Class). is_some (option_and_then (λ (c : Class). c.complete) y)) e ∙ q))) ∙ z

-- a class is no larger than it may be, once it is complete
abbrev IsSized : List Class → ℕ → Class → Type 0
IsSized cs n k = is_some k.complete ≡ true → Sized cs n

abbrev pub AllSized : List Class → Type 0
AllSized cs = (n : ℕ) (k : Class) → slice_get cs n ≡ Some k → is_some k.complete ≡ true → Sized cs n

pub sized_added : (cs : List Class) (c : Class) → Ordered cs → IsSized (cs ++ c ∷ []) (length cs) c → AllSized cs → AllSized (cs ++ c ∷ [])
sized_added cs c o w h n k e = one_more_at (IsSized (cs ++ c ∷ [])) cs c
    (λ i y f q. sized_still cs (cs ++ c ∷ []) (grow_added cs c) o i y f q (h i y f q)) w n k e

pub sized_set : (cs : List Class) (n : ℕ) (c : Class) → Ordered cs → completion_of cs n ≡ None → Sized (slice_set cs n c) n → AllSized cs
    → AllSized (slice_set cs n c)
sized_set cs n c o z s h m k e = one_set_at (IsSized (slice_set cs n c)) cs n c
    (λ i y f q. sized_still cs (slice_set cs n c) (grow_set cs n c z) o i y f q (h i y f q)) (λ q. s) m k e
