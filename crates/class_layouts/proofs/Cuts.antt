-- Lists of classes with the layout of each, where they are cut.
use Rattle.std.proofs.Common.{◌≡◌, ◌∙◌, ℕ, ◌+◌, ◌≤◌, true, List, take, drop, map, sym, ap, arith}
use Rattle.std.proofs.lemmas.List.{take-map, drop-map}
use Rattle.cpp_types.specs.declared.classes.ClassRec.{ClassRec}
use Rattle.cpp_types.specs.Class.{Class, class_of, classes_of}
use Rattle.cpp_types.specs.Order.{all_consistent}
use Rattle.elab_ctx.specs.declared.class_layout.ClassLayout.{ClassLayout}
use Rattle.elab_ctx.specs.Layouts.{completed_in, layout_of, layouts_of}
use Rattle.elab_ctx.proofs.Sizes.{in_order}
use Rattle.class_layouts.proofs.Counts.{counted_cut}
use Rattle.class_layouts.proofs.Growing.{held_earlier, layouts_cut}

module _ (rs : List ClassRec) (n : ℕ) where
  pub cut_shown : take n (classes_of rs) ≡ classes_of (take n rs)
  cut_shown = take-map class_of n rs

  parts : completed_in (classes_of (take n rs)) + completed_in (classes_of (drop n rs)) ≡ completed_in (classes_of rs)
  parts = ap (λ (z : List Class). completed_in z + completed_in (classes_of (drop n rs))) (sym cut_shown)
      ∙ ap (λ (z : List Class). completed_in (take n (classes_of rs)) + completed_in z) (sym (drop-map class_of n rs))
      ∙ counted_cut (classes_of rs) n

  module _ (k : ℕ) (cut : List ClassRec) (h : k ≡ completed_in (classes_of rs)) (e : cut ≡ drop n rs) where
    both_parts : completed_in (classes_of (take n rs)) + completed_in (classes_of cut) ≡ k
    both_parts = ap (λ (z : List ClassRec). completed_in (classes_of (take n rs)) + completed_in (classes_of z)) e ∙ parts ∙ sym h

    pub cut_fewer : completed_in (classes_of cut) ≤ k
    cut_fewer = let a = both_parts in omega arith

    pub cut_counted : (new : List ClassRec) (m : ℕ) → m + completed_in (classes_of cut) ≡ k → new ≡ take n rs → m ≡ completed_in (classes_of new)
    cut_counted new m q f =
        let a = both_parts in
        let b : completed_in (classes_of new) ≡ completed_in (classes_of (take n rs)) = ap (λ (z : List ClassRec). completed_in (classes_of z)) f in
        omega arith

  pub cut_laid : (new : List ClassRec) (ls ms : List ClassLayout) → all_consistent (take n (classes_of rs)) ≡ true → map layout_of ls ≡ layouts_of (classes_of rs)
      → new ≡ take n rs → ms ≡ take n ls → map layout_of ms ≡ layouts_of (classes_of new)
  cut_laid new ls ms o l f q =
      ap (map layout_of) q ∙ sym (take-map layout_of n ls)
      ∙ ap (take n) l
      ∙ sym (layouts_cut (classes_of rs) n (held_earlier (take n (classes_of rs)) (in_order (take n (classes_of rs)) o)))
      ∙ ap layouts_of cut_shown
      ∙ sym (ap (λ (z : List ClassRec). layouts_of (classes_of z)) f)
