-- Frames, of which the innermost stands last, as the list of them.
use Rattle.std.proofs.Common.{◌≡◌, ◌∙◌, ℕ, zero, suc, ◌<◌, List, [], ◌∷◌, ◌++◌, length, get_or, set, sym, ap, refl, arith, take, drop, append_assoc, true}
use Rattle.std.proofs.Common.{false, cond}
use Rattle.std.specs.Prelude.{map, reverse, Some, slice_get}
use Rattle.std.proofs.lemmas.List.{reverse-append, map-append, append-nil}
use Rattle.std.proofs.lemmas.Option.{get_or_from_slice_get}
use Rattle.std.proofs.Math.Seq.{take-suc, drop-cons, take-length, drop-length}
use Rattle.cpp_tree.specs.declared.program.Program.{Program}
use Rattle.src_mean.specs.Frames as frames
use Rattle.src_bind.specs.Tables.{Given}
use Rattle.src_frames.specs.declared.frames.Waiting.{Waiting}
use Rattle.src_frames.specs.declared.frames.Owner.{Owner}
use Rattle.src_frames.specs.declared.frames.Frame.{Frame}
use Rattle.src_frames.specs.Shown.{frame_shown, frames_shown, owner_shown, waiting_shown, all_waiting}
use Rattle.src_frames.specs.Sorts.{is_scope_of, waits_too}
use Rattle.src_frames.proofs.Sorts.{puts_step}

-- a frame on the others
pub shown_push : (g : Given) (fs : List Frame) (f : Frame) → frames_shown g (fs ++ f ∷ []) ≡ frame_shown g f ∷ frames_shown g fs
unfolding frames_shown
shown_push g fs f = ap (map (frame_shown g)) (reverse-append fs (f ∷ []))

-- the innermost frame taken off
pub shown_pop : (g : Given) (fs rest : List Frame) (f : Frame) → fs ≡ rest ++ f ∷ [] → frames_shown g fs ≡ frame_shown g f ∷ frames_shown g rest
shown_pop g fs rest f e = ap (frames_shown g) e ∙ shown_push g rest f

pub shown_none : (g : Given) → frames_shown g [] ≡ []
unfolding frames_shown
shown_none g = refl

pub shown_empty : (g : Given) (fs : List Frame) → length fs ≡ 0 → frames_shown g fs ≡ []
shown_empty g [] e = shown_none g
shown_empty g (f ∷ fs) e = absurd (omega (arith, e))

-- a frame behind the others
shown_cons : (g : Given) (f : Frame) (fs : List Frame) → frames_shown g (f ∷ fs) ≡ frames_shown g fs ++ frame_shown g f ∷ []
unfolding frames_shown
shown_cons g f fs = ap (map (frame_shown g)) (reverse-append (f ∷ []) fs) ∙ map-append (frame_shown g) (reverse fs) (f ∷ [])

-- the frames up to one of them
pub shown_take : (g : Given) (fs : List Frame) (n : ℕ) (d : Frame) → n < length fs
    → frames_shown g (take (suc n) fs) ≡ frame_shown g (get_or fs n d) ∷ frames_shown g (take n fs)
shown_take g fs n d h = ap (frames_shown g) (take-suc fs n d h) ∙ shown_push g (take n fs) (get_or fs n d)

-- the frames from one of them on
shown_drop : (g : Given) (fs : List Frame) (n : ℕ) (d : Frame) → n < length fs
    → frames_shown g (drop n fs) ≡ frames_shown g (drop (suc n) fs) ++ frame_shown g (get_or fs n d) ∷ []
shown_drop g fs n d h = ap (frames_shown g) (drop-cons fs n d h) ∙ shown_cons g (get_or fs n d) (drop (suc n) fs)

shown_set : (g : Given) (fs : List Frame) (n : ℕ) (f : Frame) → n < length fs
    → frames_shown g (set fs n f) ≡ frames_shown g (drop (suc n) fs) ++ (frame_shown g f ∷ frames_shown g (take n fs))
shown_set g [] n f h = absurd (omega (arith, h))
shown_set g (x ∷ xs) zero f h = shown_cons g f xs ∙ ap (λ z. frames_shown g xs ++ (frame_shown g f ∷ z)) (sym (shown_none g))
shown_set g (x ∷ xs) (suc n) f h =
    shown_cons g x (set xs n f)
    ∙ ap (λ z. z ++ frame_shown g x ∷ []) (shown_set g xs n f (omega arith))
    ∙ append_assoc (frames_shown g (drop (suc n) xs)) (frame_shown g f ∷ frames_shown g (take n xs)) (frame_shown g x ∷ [])
    ∙ ap (λ z. frames_shown g (drop (suc n) xs) ++ (frame_shown g f ∷ z)) (sym (shown_cons g x (take n xs)))

-- Looking down the frames

module _ (g : Given) (fs : List Frame) (n m : ℕ) (f : Frame) (e : m ≡ suc n) (h : n < length fs) (i : f ≡ get_or fs n f) where
  top : frames_shown g (take m fs) ≡ frame_shown g f ∷ frames_shown g (take n fs)
  top = ap (λ z. frames_shown g (take z fs)) e ∙ shown_take g fs n f h ∙ ap (λ z. frame_shown g z ∷ frames_shown g (take n fs)) (sym i)

  bottom : frames_shown g (drop n fs) ≡ frames_shown g (drop m fs) ++ frame_shown g f ∷ []
  bottom = shown_drop g fs n f h ∙ ap (λ z. frames_shown g (drop (suc n) fs) ++ frame_shown g z ∷ []) (sym i)
      ∙ ap (λ z. frames_shown g (drop z fs) ++ frame_shown g f ∷ []) (sym e)

  -- the frame with this index is no scope of the owner
  pub scope_below : (o : Owner) (w : frames.Waiting) → false ≡ is_scope_of o f
      → frames_shown g (drop m fs) ++ frames.puts (owner_shown o) w (frames_shown g (take m fs)) ≡ frames_shown g (drop n fs)
      ++ frames.puts (owner_shown o) w (frames_shown g (take n fs))
  scope_below o w k =
      let k0 : List frames.Frame = frames_shown g (take n fs) in
      let step : frames.puts (owner_shown o) w (frames_shown g (take m fs)) ≡ frame_shown g f ∷ frames.puts (owner_shown o) w k0 =
      ap (frames.puts (owner_shown o) w) top ∙ puts_step g f o w k0
      ∙ ap (λ z. cond z (waits_too w (frame_shown g f) ∷ k0) (frame_shown g f ∷ frames.puts (owner_shown o) w k0)) (sym k) in
      ap (λ z. frames_shown g (drop m fs) ++ z) step
      ∙ sym (append_assoc (frames_shown g (drop m fs)) (frame_shown g f ∷ []) (frames.puts (owner_shown o) w k0))
      ∙ ap (λ z. z ++ frames.puts (owner_shown o) w k0) (sym bottom)

  -- objects are put into the scope with this index
  pub put_there : (o : Owner) (w : frames.Waiting) (put : Frame) → is_scope_of o f ≡ true → frame_shown g put ≡ waits_too w (frame_shown g f)
      → frames.puts (owner_shown o) w (frames_shown g fs) ≡ frames_shown g (drop m fs) ++ frames.puts (owner_shown o) w (frames_shown g (take m fs))
      → frames_shown g (set fs n put) ≡ frames.puts (owner_shown o) w (frames_shown g fs)
  put_there o w put s x p =
      let k0 : List frames.Frame = frames_shown g (take n fs) in
      let step : frames.puts (owner_shown o) w (frames_shown g (take m fs)) ≡ waits_too w (frame_shown g f) ∷ k0 = ap (frames.puts (owner_shown o) w) top
      ∙ puts_step g f o w k0 ∙ ap (λ z. cond z (waits_too w (frame_shown g f) ∷ k0) (frame_shown g f ∷ frames.puts (owner_shown o) w k0)) s in
      shown_set g fs n put h
      ∙ ap (λ z. frames_shown g (drop z fs) ++ (frame_shown g put ∷ k0)) (sym e)
      ∙ ap (λ z. frames_shown g (drop m fs) ++ (z ∷ k0)) x
      ∙ ap (λ z. frames_shown g (drop m fs) ++ z) (sym step)
      ∙ sym p

-- all frames are looked at
pub scope_first : (g : Given) (o : Owner) (w : frames.Waiting) (fs : List Frame) (m : ℕ) → m ≡ length fs
    → frames.puts (owner_shown o) w (frames_shown g fs) ≡ frames_shown g (drop m fs) ++ frames.puts (owner_shown o) w (frames_shown g (take m fs))
scope_first g o w fs m e =
    let none : frames_shown g (drop m fs) ≡ [] = ap (λ z. frames_shown g (drop z fs)) e ∙ ap (frames_shown g) (drop-length fs) ∙ shown_none g in
    let all : take m fs ≡ fs = ap (λ z. take z fs) e ∙ take-length fs in
    ap (λ z. frames.puts (owner_shown o) w (frames_shown g z)) (sym all) ∙ ap (λ z. z ++ frames.puts (owner_shown o) w (frames_shown g (take m fs))) (sym none)

-- the scope that was found
pub scope_found : (o : Owner) (fs : List Frame) (n k : ℕ) (f d : Frame) → d ≡ get_or fs n d → n ≡ k → slice_get fs k ≡ Some f → true ≡ is_scope_of o d
    → is_scope_of o f ≡ true
scope_found o fs n k f d i e s t =
    let same : d ≡ f = i ∙ ap (λ z. get_or fs z d) e ∙ get_or_from_slice_get fs k f d s in
    ap (is_scope_of o) (sym same) ∙ sym t

-- there is no scope of the owner
pub put_none : (g : Given) (o : Owner) (w : frames.Waiting) (fs : List Frame) (m : ℕ) → m ≡ 0
    → frames.puts (owner_shown o) w (frames_shown g fs) ≡ frames_shown g (drop m fs) ++ frames.puts (owner_shown o) w (frames_shown g (take m fs))
    → frames_shown g fs ≡ frames.puts (owner_shown o) w (frames_shown g fs)
put_none g o w fs m e p =
    let none : frames.puts (owner_shown o) w (frames_shown g (take m fs)) ≡ [] = ap (λ z. frames.puts (owner_shown o) w (frames_shown g (take z fs))) e
    ∙ ap (frames.puts (owner_shown o) w) (shown_none g) in
    let all : frames_shown g (drop m fs) ≡ frames_shown g fs = ap (λ z. frames_shown g (drop z fs)) e in
    sym (p ∙ ap (λ z. frames_shown g (drop m fs) ++ z) none ∙ append-nil (frames_shown g (drop m fs)) ∙ all)

-- objects that wait, the newest of which stands last
pub waiting_push : (p : Program) (ws : List Waiting) (w : Waiting) → all_waiting p (ws ++ w ∷ []) ≡ waiting_shown p w ∷ all_waiting p ws
waiting_push p ws w = ap (map (waiting_shown p)) (reverse-append ws (w ∷ []))
