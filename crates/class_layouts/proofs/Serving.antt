-- What a list of layouts says of the classes of a list that has grown.
use Rattle.std.proofs.Common.{◌≡◌, ◌∙◌, ◌≢◌, ℕ, zero, suc, ◌<◌, Bool, true, false, List, [], ◌∷◌, ◌++◌, set, map, length, Option, Some, None, is_some, slice_get, cond}
use Rattle.std.proofs.Common.{refl, sym, ap, subst}
use Rattle.std.specs.Option.{MatchOption, option_and_then}
use Rattle.cpp_types.specs.Class.{Class, completion_of}
use Rattle.cpp_layout.specs.Layout.{Extent, class_extent}
use Rattle.cpp_layout.specs.Measured.{Measured}
use Rattle.cpp_layout.specs.declared.extents.TheConstants.{GREATEST_SIZE}
use Rattle.setting_growth.specs.Growth.{HeldEarlier, ClassesGrow}
use Rattle.setting_growth.proofs.Classes.{Known, known_by, completion_is, completion_same, extent_same}
use Rattle.elab_ctx.specs.declared.class_layout.ClassLayout.{ClassLayout}
use Rattle.elab_ctx.specs.Layouts.{layout_of, layouts_of}
use Rattle.elab_ctx.proofs.LaidOut.{layout_there, measured_at, large_at}
use Rattle.class_layouts.specs.Kept.{Says, Keeps, Serves}
use Rattle.class_layouts.proofs.Growing.{push_grows, set_grows, set_other}

module _ (classes : List Class) (ls : List ClassLayout) (e : map layout_of ls ≡ layouts_of classes) (n : ℕ) (h : is_some (completion_of classes n) ≡ true) where
  says_flag : (l : ClassLayout) (b : Bool) → slice_get ls n ≡ Some l → l.is_known ≡ b
      → MatchOption (cond b (Some l.extent) None) (GREATEST_SIZE < (class_extent classes n).size) (λ s. Measured (class_extent classes n) s)
  says_flag l true f q = measured_at classes ls n l e h f q
  says_flag l false f q = large_at classes ls n l e h f q

  says_by : (x : Option ClassLayout) → slice_get ls n ≡ x → Says (class_extent classes n) x
  says_by None f = absurd (let k : is_some (completion_of classes n) ≡ false = ap is_some (layout_there classes ls n e f) in cc)
  says_by (Some l) f = says_flag l l.is_known f refl

  says : Says (class_extent classes n) (slice_get ls n)
  says = says_by (slice_get ls n) refl

kept_same : (old new : List Class) → ClassesGrow old new → HeldEarlier old → (ls : List ClassLayout) → map layout_of ls ≡ layouts_of old → (n : ℕ) → Known old n
    → Keeps new ls n
kept_same old new g o ls e n k = record {
  complete = record { number = k.number; complete = completion_same old new g n k ∙ completion_is old n k };
  says = subst (λ (x : Extent). Says x (slice_get ls n)) (sym (extent_same old new g o n k)) (says old ls e n (ap is_some (completion_is old n k)));
}

-- a class in the place of one that is not complete
pub serves_put : (classes : List Class) (n : ℕ) (c : Class) → completion_of classes n ≡ None → HeldEarlier classes → (ls : List ClassLayout)
    → map layout_of ls ≡ layouts_of classes → Serves (set classes n c) ls n
serves_put classes n c h o ls e = record {
  other = λ m d k. kept_same classes (set classes n c) (set_grows classes n c h) o ls e m (known_by classes m k.number
      (sym (ap (option_and_then (λ (x : Class). x.complete)) (set_other classes n m c d)) ∙ k.complete));
}

-- one more class
push_other : (xs : List Class) (c : Class) (m : ℕ) → m ≢ length xs → slice_get (xs ++ c ∷ []) m ≡ slice_get xs m
push_other [] c zero h = absurd (h refl)
push_other [] c (suc m) h = refl
push_other (x ∷ xs) c zero h = refl
push_other (x ∷ xs) c (suc m) h = push_other xs c m (λ e. h (ap suc e))

pub serves_push : (classes : List Class) (c : Class) → HeldEarlier classes → (ls : List ClassLayout) → map layout_of ls ≡ layouts_of classes
    → Serves (classes ++ c ∷ []) ls (length classes)
serves_push classes c o ls e = record {
  other = λ m d k. kept_same classes (classes ++ c ∷ []) (push_grows classes c) o ls e m (known_by classes m k.number
      (sym (ap (option_and_then (λ (x : Class). x.complete)) (push_other classes c m d)) ∙ k.complete));
}
