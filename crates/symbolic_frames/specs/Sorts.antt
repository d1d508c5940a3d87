-- What a frame is to those that look down the frames.
use Rattle.std.specs.Prelude.{Bool, false, ◌∷◌, Option, Some, None}
use Rattle.src_mean.specs.Frames.{same_owner}
use Rattle.src_frames.specs.declared.frames.Owner.{Owner}
use Rattle.src_frames.specs.declared.frames.Open.{Open}
use Rattle.src_frames.specs.Shown.{owner_shown}
use Rattle.symbolic_source.specs.Frames.{Scope as ScopeOf, Waiting}
use Rattle.symbolic_source.specs.Frames as symbolic
use Rattle.symbolic_terms.specs.declared.ids.ExceptionId.{ExceptionId}
use Rattle.symbolic_terms.specs.declared.frames.Frame.{Frame}
use Rattle.symbolic_terms.specs.declared.frames.Frame.TheVariants.{Object, Block, Exception as AtException}
use Rattle.symbolic_terms.specs.declared.frames.ObjectFrame.{ObjectFrame}
use Rattle.symbolic_terms.specs.declared.frames.ObjectFrame.TheVariants.{Scope}
use Rattle.symbolic_terms.specs.declared.frames.BlockFrame.{BlockFrame}
use Rattle.symbolic_terms.specs.declared.frames.BlockFrame.TheVariants.{Opens, Within, Closes}
use Rattle.symbolic_terms.specs.declared.frames.ExceptionFrame.{ExceptionFrame}
use Rattle.symbolic_terms.specs.declared.frames.ExceptionFrame.TheVariants.{Handling}

-- it is a scope of this owner
abbrev pub is_scope_in : Owner → ObjectFrame → Bool
is_scope_in o (Scope q always waiting) = same_owner (owner_shown o) (owner_shown q)
is_scope_in o g = false

abbrev pub is_scope_of : Owner → Frame → Bool
is_scope_of o (Object g) = is_scope_in o g
is_scope_of o g = false

-- a scope with one more object that waits
abbrev pub waits_too : Waiting → symbolic.Frame → symbolic.Frame
waits_too w (ScopeOf o always ws) = ScopeOf o always (w ∷ ws)
waits_too w g = g

-- the exception of a handler that is entered in it
abbrev pub handling_in : ExceptionFrame → Option ExceptionId
handling_in (Handling e) = Some e
handling_in g = None

abbrev pub handling_at : Frame → Option ExceptionId
handling_at (AtException g) = handling_in g
handling_at g = None

-- the block that is open in it
abbrev pub open_in : BlockFrame → Option Open
open_in (Opens block t) = None
open_in (Within block) = Some block
open_in (Closes block) = Some block

abbrev pub open_at : Frame → Option Open
open_at (Block g) = open_in g
open_at g = None
