-- Where the items of a frame end.
use Rattle.std.proofs.Common.{◌≡◌, ℕ, ◌+◌, ◌*◌, ◌/◌, ◌<◌, ◌≤◌, ◌⊎◌, inl, inr, max, Bool, true, false, leb, List, length, map, drop, get_or, sym, ap, ◌∙◌, subst}
use Rattle.std.proofs.Common.{arith, Ok, Err, if◌then◌else◌}
use Rattle.std.proofs.lemmas.Bool.{le-leb}
use Rattle.std.proofs.lemmas.Bool.Decides.{leb_tells}
use Rattle.std.proofs.Math.Nat.{div-mul-le_self, le-div_iff_mul-le}
use Rattle.cpp_types.specs.Typ.{Typ}
use Rattle.cpp_types.specs.declared.classes.At.{At}
use Rattle.elab_stmt.specs.cpp_tree.declared.faults.ElabFault.TheVariants.{Limit}
use Rattle.elab_stmt.specs.cpp_tree.declared.faults.LimitKind.TheVariants.{Frame}
use Rattle.elab_stmt.specs.elab_ctx.Ctx.{Ctx}
use Rattle.elab_stmt.specs.elab_rules.Functions.{within_frame}
use Rattle.cpp_types.specs.Typ.{typ_of}
use Rattle.cpp_types.specs.Class.{Class}
use Rattle.cpp_types.specs.declared.types.Ty.{Ty}
use Rattle.elab_stmt.specs.cpp_layout.Layout.{extent_of, end_from, next_multiple, frame_size}
use Rattle.elab_stmt.proofs.elab_init.Listing.{drop_step, drop_past}

pub end_next : (classes : List Class) (items : List Ty) (i end next total : ℕ) (item d : Ty)
    → end_from end (map (extent_of classes) (map typ_of (drop i items))) ≡ total → i < length items → item ≡ get_or items i d
    → next ≡ next_multiple end (extent_of classes (typ_of item)).align + (extent_of classes (typ_of item)).size
    → end_from next (map (extent_of classes) (map typ_of (drop (i + 1) items))) ≡ total
end_next classes items i end next total item d h l e n =
    let step : end_from end (map (extent_of classes) (map typ_of (drop i items)))
    ≡ end_from (next_multiple end (extent_of classes (typ_of (get_or items i d))).align + (extent_of classes (typ_of (get_or items i d))).size)
    (map (extent_of classes) (map typ_of (drop (i + 1) items))) =
    ap (λ (z : List Ty). end_from end (map (extent_of classes) (map typ_of z))) (drop_step items i d l) in
    ap (λ (z : ℕ). end_from z (map (extent_of classes) (map typ_of (drop (i + 1) items))))
    (n ∙ ap (λ (z : Ty). next_multiple end (extent_of classes (typ_of z)).align + (extent_of classes (typ_of z)).size) e) ∙ sym step ∙ h

pub end_last : (classes : List Class) (items : List Ty) (i end total : ℕ) → end_from end (map (extent_of classes) (map typ_of (drop i items))) ≡ total
    → length items ≤ i → end ≡ total
end_last classes items i end total h l = ap (λ (z : List Ty). end_from end (map (extent_of classes) (map typ_of z))) (sym (drop_past items i l)) ∙ h

-- The greatest frame is a multiple of 16

frame_low : (end : ℕ) → end ≤ 65536 → max 16 (next_multiple end 16) ≤ 65536
frame_low end h =
    let d : (end + 15) / 16 * 16 ≤ end + 15 = div-mul-le_self (end + 15) 16 in
    omega arith

frame_high : (end : ℕ) → 65536 < end → 65536 < max 16 (next_multiple end 16)
frame_high end h =
    let l : 4097 * 16 ≤ end + 15 = omega arith in
    let d : 4097 ≤ (end + 15) / 16 = (le-div_iff_mul-le {k = 16} {x = 4097} {y = end + 15} (omega arith)).1 l in
    omega arith

leb_not : (a b : ℕ) → b < a → ((leb a b ≡ true) × (a ≤ b)) ⊎ ((leb a b ≡ false) × (b < a)) → leb a b ≡ false
leb_not a b h (inl p) = let q : a ≤ b = p.1 in absurd (omega arith)
leb_not a b h (inr p) = p.0

pub frame_fits : (c : Ctx) (at : At) (items : List Typ) (end : ℕ) → end ≡ end_from 0 (map (extent_of c.classes) items) → end ≤ 65536
    → within_frame c at items ≡ Ok true
frame_fits c at items end e h =
    let low : frame_size (map (extent_of c.classes) items) ≤ 65536 = subst (λ (n : ℕ). max 16 (next_multiple n 16) ≤ 65536) e (frame_low end h) in
    ap (λ (z : Bool). if z then Ok true else Err (Limit at Frame)) (le-leb (frame_size (map (extent_of c.classes) items)) 65536 low)

pub frame_passes : (c : Ctx) (at : At) (items : List Typ) (end : ℕ) → end ≡ end_from 0 (map (extent_of c.classes) items) → 65536 < end
    → within_frame c at items ≡ Err (Limit at Frame)
frame_passes c at items end e h =
    let high : 65536 < frame_size (map (extent_of c.classes) items) = subst (λ (n : ℕ). 65536 < max 16 (next_multiple n 16)) e (frame_high end h) in
    ap (λ (z : Bool). if z then Ok true else Err (Limit at Frame))
    (leb_not (frame_size (map (extent_of c.classes) items)) 65536 high (leb_tells (frame_size (map (extent_of c.classes) items)) 65536))
