-- What a thread shows.
use Rattle.src_mean.specs.Linked.{Program}
use Rattle.src_mean.specs.Frames.{State}
use Rattle.src_frames.specs.Bounds.{linked_in, state_of}
use Rattle.src_thread.specs.declared.thread.SourceThread.{SourceThread}

-- the linked program that it runs
abbrev pub program_of : SourceThread → Program
program_of t = linked_in t.bound.now

-- its state
abbrev pub shown : SourceThread → State
shown t = state_of t.bound.now t.state
