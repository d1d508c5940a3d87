-- Items one after another.
use Rattle.std.proofs.Common.{◌≡◌, ◌∙◌, ℕ, ◌<◌, ◌≤◌, ◌+◌, ◌-◌, max, List, [], ◌∷◌, ◌++◌, refl, sym, ap, arith}
use Rattle.std.proofs.lemmas.Nat.{div-add-mod'}
use Rattle.cpp_layout.specs.Layout.{Extent, next_multiple, end_from, greatest_align}
use Rattle.cpp_layout.specs.Measured.{InBounds, Follows}
use Rattle.cpp_layout.specs.declared.cursor.LayoutCursor.{LayoutCursor}
use Rattle.cpp_layout.specs.declared.extents.TheConstants.{GREATEST_SIZE}

-- each item's alignment is at least 1
abbrev pub Aligned : List Extent → Type 0
Aligned [] = Unit {0}
Aligned (e ∷ es) = (1 ≤ e.align) × Aligned es

pub next_low : (n a : ℕ) → 1 ≤ a → n ≤ next_multiple n a
next_low n a h = omega (arith, div-add-mod' (n + (a - 1)) a)

pub next_high : (n a : ℕ) → 1 ≤ a → next_multiple n a < n + a
next_high n a h = omega (arith, div-add-mod' (n + (a - 1)) a)

pub end_low : (s : ℕ) (es : List Extent) → Aligned es → s ≤ end_from s es
end_low s [] h = omega arith
end_low s (e ∷ es) h = let p = next_low s e.align h.0 in let q = end_low (next_multiple s e.align + e.size) es h.1 in omega arith

pub end_append : (s : ℕ) (xs ys : List Extent) → end_from s (xs ++ ys) ≡ end_from (end_from s xs) ys
end_append s [] ys = refl
end_append s (e ∷ es) ys = end_append (next_multiple s e.align + e.size) es ys

pub max_assoc : (a b c : ℕ) → max a (max b c) ≡ max (max a b) c
max_assoc a b c = omega arith

pub greatest_low : (es : List Extent) → 1 ≤ greatest_align es
greatest_low [] = omega arith
greatest_low (e ∷ es) = let h = greatest_low es in omega arith

pub greatest_append : (xs ys : List Extent) → greatest_align (xs ++ ys) ≡ max (greatest_align xs) (greatest_align ys)
greatest_append [] ys = let h = greatest_low ys in omega arith
greatest_append (e ∷ es) ys = ap (λ (n : ℕ). max e.align n) (greatest_append es ys) ∙ max_assoc e.align (greatest_align es) (greatest_align ys)

pub joined : (a b c : LayoutCursor) (xs ys : List Extent) → Follows a xs b → Follows b ys c → Follows a (xs ++ ys) c
joined a b c xs ys f g = record {
  end = g.end ∙ ap (λ (n : ℕ). end_from n ys) f.end ∙ sym (end_append a.end xs ys);
  align = g.align ∙ ap (λ (n : ℕ). max n (greatest_align ys)) f.align ∙ sym (max_assoc a.align (greatest_align xs) (greatest_align ys))
      ∙ ap (λ (n : ℕ). max a.align n) (sym (greatest_append xs ys));
  bounds = g.bounds;
}

pub over_later : (a b : LayoutCursor) (xs ys : List Extent) → Follows a xs b → GREATEST_SIZE < end_from b.end ys → GREATEST_SIZE < end_from a.end (xs ++ ys)
over_later a b xs ys f h = let p : end_from b.end ys ≡ end_from a.end (xs ++ ys) = ap (λ (n : ℕ). end_from n ys) f.end ∙ sym (end_append a.end xs ys) in
    omega arith

pub over_first : (s : ℕ) (xs ys : List Extent) → Aligned ys → GREATEST_SIZE < end_from s xs → GREATEST_SIZE < end_from s (xs ++ ys)
over_first s xs ys h o = let p = end_append s xs ys in let q = end_low (end_from s xs) ys h in omega arith

pub none_follows : (a : LayoutCursor) → InBounds a → Follows a [] a
none_follows a h = let l = h.low in record { end = refl; align = omega arith; bounds = h }
