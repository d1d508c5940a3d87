-- What goes outward at a frame.
use Rattle.src_mean.specs.Linked.{Program}
use Rattle.src_mean.specs.Frames.{Exit, State}
use Rattle.src_mean.specs.Source.{leave}
use Rattle.src_frames.specs.Bounds.{goes_on}
use Rattle.src_thread.specs.declared.leaving.Left.{Left}
use Rattle.src_thread.specs.declared.leaving.Left.TheVariants.{Past, Made}

-- it goes on outward from this state, or the step led to it
abbrev pub left_on : Program → Left → Exit → State → State
left_on p Past x s = leave s.here x s.frames
left_on p (Made o) x s = goes_on p o s
