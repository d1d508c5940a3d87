-- What a frame is to those that look down the frames.
use Rattle.std.specs.Prelude.{Bool, true, false, cond, ℕ, ◌+◌, List, [], ◌∷◌, ◌++◌, Option, Some, None, is_some}
use Rattle.src_mean.specs.Frames.{Scope as ScopeOf}
use Rattle.src_mean.specs.Frames as frames
use Rattle.src_frames.specs.declared.frames.Owner.{Owner}
use Rattle.src_frames.specs.declared.frames.Exception.{Exception}
use Rattle.src_frames.specs.declared.frames.Open.{Open}
use Rattle.src_frames.specs.declared.frames.Open.TheVariants.{Atomic, Sync}
use Rattle.src_frames.specs.declared.frames.Frame.{Frame}
use Rattle.src_frames.specs.declared.frames.Frame.TheVariants.{Object, Block, Exception as AtException}
use Rattle.src_frames.specs.declared.frames.ObjectFrame.{ObjectFrame}
use Rattle.src_frames.specs.declared.frames.ObjectFrame.TheVariants.{Scope}
use Rattle.src_frames.specs.declared.frames.BlockFrame.{BlockFrame}
use Rattle.src_frames.specs.declared.frames.BlockFrame.TheVariants.{Opens, Within, Closes}
use Rattle.src_frames.specs.declared.frames.ExceptionFrame.{ExceptionFrame}
use Rattle.src_frames.specs.declared.frames.ExceptionFrame.TheVariants.{Handling}
use Rattle.src_frames.specs.Shown.{owner_shown}

-- the first of two, where it is there
abbrev pub first_of : {A : Type 0} → Option A → Option A → Option A
first_of None o = o
first_of (Some x) o = Some x

-- the exception of a handler that is entered in it
abbrev pub handling_in : ExceptionFrame → Option Exception
handling_in (Handling e) = Some e
handling_in f = None

abbrev pub handling : Frame → Option Exception
handling (AtException f) = handling_in f
handling f = None

-- the index of a frame, if a handler is entered in it
abbrev pub place_in : Frame → ℕ → List ℕ
place_in f n = cond (is_some (handling f)) (n ∷ []) []

-- the indices of those of these frames in which a handler is entered, where the first has this index
abbrev pub handlers_from : ℕ → List Frame → List ℕ
handlers_from n [] = []
handlers_from n (f ∷ fs) = place_in f n ++ handlers_from (n + 1) fs

abbrev pub handlers_in : List Frame → List ℕ
handlers_in fs = handlers_from 0 fs

-- the exception of the innermost entered handler; the innermost frame stands last
abbrev pub newest_handled : List Frame → Option Exception
newest_handled [] = None
newest_handled (f ∷ fs) = first_of (newest_handled fs) (handling f)

-- an atomic block is open in it
abbrev pub is_atomic_open : Open → Bool
is_atomic_open (Atomic kind) = true
is_atomic_open Sync = false

abbrev pub is_atomic_in : BlockFrame → Bool
is_atomic_in (Opens block t) = false
is_atomic_in (Within block) = is_atomic_open block
is_atomic_in (Closes block) = is_atomic_open block

abbrev pub is_atomic : Frame → Bool
is_atomic (Block f) = is_atomic_in f
is_atomic f = false

-- how many atomic blocks are open in it: one or none
abbrev pub weight : Frame → ℕ
weight f = cond (is_atomic f) 1 0

-- and in these
abbrev pub atomics_in : List Frame → ℕ
atomics_in [] = 0
atomics_in (f ∷ fs) = weight f + atomics_in fs

-- it is a scope of this owner
abbrev pub is_scope_in : Owner → ObjectFrame → Bool
is_scope_in o (Scope p always waiting) = frames.same_owner (owner_shown o) (owner_shown p)
is_scope_in o f = false

abbrev pub is_scope_of : Owner → Frame → Bool
is_scope_of o (Object f) = is_scope_in o f
is_scope_of o f = false

-- a scope with one more object that waits
abbrev pub waits_too : frames.Waiting → frames.Frame → frames.Frame
waits_too w (ScopeOf o always ws) = ScopeOf o always (w ∷ ws)
waits_too w f = f
