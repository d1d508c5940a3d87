-- How many atomic blocks are open in frames.
use Rattle.std.proofs.Common.{◌≡◌, ◌∙◌, ℕ, zero, suc, ◌+◌, ◌<◌, ◌≤◌, List, [], ◌∷◌, ◌++◌, length, get_or, set, sym, ap, arith, take, true, false, cond, ne_eqb}
use Rattle.std.specs.Prelude.{Bool, ◌==◌}
use Rattle.std.proofs.Math.Seq.{take-suc, take-length}
use Rattle.cpp_tree.specs.tx_events.Thread.{no_atomic}
use Rattle.src_mean.specs.Frames.{blocks_of}
use Rattle.src_bind.specs.Tables.{Given}
use Rattle.src_frames.specs.declared.frames.Frame.{Frame}
use Rattle.src_frames.specs.declared.frames.Frame.TheVariants.{Gives}
use Rattle.src_frames.specs.Shown.{frames_shown}
use Rattle.src_frames.specs.Sorts.{is_atomic, weight, atomics_in}
use Rattle.src_frames.proofs.Sorts.{no_atomic_step}
use Rattle.src_frames.proofs.Stacks.{shown_push, shown_none}

one_at_most : (b : Bool) → cond b 1 0 ≤ 1
one_at_most true = omega arith
one_at_most false = omega arith

pub weight_few : (f : Frame) → weight f ≤ 1
weight_few f = one_at_most (is_atomic f)

-- a frame on the others
pub atomics_push : (fs : List Frame) (f : Frame) → atomics_in (fs ++ f ∷ []) ≡ atomics_in fs + weight f
atomics_push [] f = omega arith
atomics_push (x ∷ fs) f = let h = atomics_push fs f in omega (arith, h)

-- no more than there are frames
pub atomics_few : (fs : List Frame) → atomics_in fs ≤ length fs
atomics_few [] = omega arith
atomics_few (f ∷ fs) =
    let h = atomics_few fs in
    let w = one_at_most (is_atomic f) in
    omega (arith, h, w)

-- a frame in place of another one with as many
pub atomics_set : (fs : List Frame) (n : ℕ) (f d : Frame) → n < length fs → d ≡ get_or fs n d → weight f ≡ weight d → atomics_in (set fs n f) ≡ atomics_in fs
atomics_set [] n f d h i w = absurd (omega (arith, h))
atomics_set (x ∷ xs) zero f d h i w = ap (λ z. z + atomics_in xs) (w ∙ ap weight i)
atomics_set (x ∷ xs) (suc n) f d h i w = ap (λ z. weight x + z) (atomics_set xs n f d (omega (arith, h)) i w)

one_more : (b : Bool) (n : ℕ) → cond b false (n == 0) ≡ ((cond b 1 0 + n) == 0)
one_more true n = sym (ne_eqb (1 + n) 0 (omega arith))
one_more false n = ap (λ z. z == 0) (omega arith)

counted_to : (g : Given) (fs : List Frame) (m : ℕ) → m ≤ length fs → no_atomic (blocks_of (frames_shown g (take m fs))) ≡ (atomics_in (take m fs) == 0)
counted_to g fs zero h = ap (λ z. no_atomic (blocks_of z)) (shown_none g)
counted_to g fs (suc m) h =
    let f : Frame = get_or fs m (Gives 0) in
    let below : m < length fs = omega (arith, h) in
    let split : take (suc m) fs ≡ take m fs ++ f ∷ [] = take-suc fs m (Gives 0) below in
    ap (λ z. no_atomic (blocks_of (frames_shown g z))) split
    ∙ ap (λ z. no_atomic (blocks_of z)) (shown_push g (take m fs) f)
    ∙ no_atomic_step g f (frames_shown g (take m fs))
    ∙ ap (λ z. cond (is_atomic f) false z) (counted_to g fs m (omega (arith, h)))
    ∙ one_more (is_atomic f) (atomics_in (take m fs))
    ∙ ap (λ z. z == 0) (let h = atomics_push (take m fs) f in omega (arith, h))
    ∙ ap (λ z. atomics_in z == 0) (sym split)

-- none is open where the count is 0
pub counted : (g : Given) (fs : List Frame) → no_atomic (blocks_of (frames_shown g fs)) ≡ (atomics_in fs == 0)
counted g fs =
    ap (λ z. no_atomic (blocks_of (frames_shown g z))) (sym (take-length fs))
    ∙ counted_to g fs (length fs) (omega arith)
    ∙ ap (λ z. atomics_in z == 0) (take-length fs)
