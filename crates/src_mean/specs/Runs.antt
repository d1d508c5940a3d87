-- Thread 0 alone with a memory and no input: what worked programs come to.
use Rattle.std.specs.Prelude.{ℕ, zero, suc, negsuc, true, false, List, [], ◌∷◌, reverse, Option, Some, None}
use Rattle.cpp_tree.specs.tx_events.declared.BlockKind.TheVariants.{NoExcept, Commit, Cancel}
use Rattle.cpp_tree.specs.tx_events.declared.End.{End}
use Rattle.cpp_tree.specs.tx_events.declared.End.TheVariants.{Abort}
use Rattle.cpp_tree.specs.tx_events.declared.Event.{Event}
use Rattle.cpp_tree.specs.tx_events.declared.Event.TheVariants.{Silent, Load, Store, Out, Inp, Spawn, Join, BeginAtomic, EndAtomic, Raise, BeginSync, EndSync}
use Rattle.cpp_tree.specs.tx_events.declared.Event.TheVariants.{Done, Stop}
use Rattle.cpp_tree.specs.tx_events.declared.Reply.{Reply}
use Rattle.cpp_tree.specs.tx_events.declared.Reply.TheVariants.{Nothing, Loaded, Byte}
use Rattle.cpp_tree.specs.tx_events.declared.GlobalCell.{GlobalCell}
use Rattle.cpp_tree.specs.tx_events.Memory.{load, store, no_bytes, with_cells}
use Rattle.cpp_tree.specs.Units.{TypedProgram}
use Rattle.src_mean.specs.Linked.{Program}
use Rattle.src_mean.specs.Links.{first_cells}
use Rattle.src_mean.specs.Notation.{link}
use Rattle.src_mean.specs.Frames.{State}
use Rattle.src_mean.specs.Source.{give, reply_word, main_state}

-- a state, the memory, one copy of it for each open atomic block, the events so far but the silent ones, the newest first, and the end
pub record Run : Type 0 where
  pub state : State
  pub memory : ℕ → ℕ
  pub copies : List (ℕ → ℕ)
  pub events : List Event
  pub end : Option End

abbrev pub answer : Program → State → Reply → State
answer p s reply = give p s.here (reply_word reply) s.frames

abbrev pub dropped : List (ℕ → ℕ) → List (ℕ → ℕ)
dropped [] = []
dropped (c ∷ cs) = cs

abbrev pub newest : List (ℕ → ℕ) → (ℕ → ℕ) → ℕ → ℕ
newest [] m = m
newest (c ∷ cs) m = c

abbrev pub noted : Program → Run → Reply → Run
noted p r reply = record r { state = answer p r.state reply; events = r.state.event ∷ r.events }

abbrev pub stops : Run → End → Run
stops r end = record r { events = r.state.event ∷ r.events; end = Some end }

abbrev pub step : Program → Run → Event → Run
step p r Silent = record r { state = answer p r.state Nothing }
step p r (Load address size volatile) = noted p r (Loaded (load r.memory address size))
step p r (Store address size value volatile) = record (noted p r Nothing) { memory = store r.memory address size value }
step p r (Out byte) = noted p r Nothing
step p r Inp = noted p r (Byte (negsuc 0))
step p r (Spawn f arg) = noted p r Nothing
step p r (Join id) = noted p r Nothing
step p r (BeginAtomic kind) = record (noted p r Nothing) { copies = r.memory ∷ r.copies }
step p r EndAtomic = record (noted p r Nothing) { copies = dropped r.copies }
step p r (Raise Commit cancels) = record (noted p r Nothing) { copies = dropped r.copies }
step p r (Raise Cancel true) = record (noted p r Nothing) { memory = newest r.copies r.memory; copies = dropped r.copies }
step p r (Raise Cancel false) = stops r Abort
step p r (Raise NoExcept cancels) = stops r Abort
step p r BeginSync = noted p r Nothing
step p r EndSync = noted p r Nothing
step p r Done = noted p r Nothing
step p r (Stop end) = stops r end

-- an end stays
abbrev pub step_on : Program → Run → Option End → Run
step_on p r (Some end) = r
step_on p r None = step p r r.state.event

-- so many steps
abbrev pub run : ℕ → Program → Run → Run
run zero p r = r
run (suc n) p r = run n p (step_on p r r.end)

-- what a program comes to: the events that are not silent, and the end
pub record Outcome : Type 0 where
  pub events : List Event
  pub end : Option End

abbrev pub told : Run → Outcome
told r = record { events = reverse r.events; end = r.end }

-- the first state of thread 0, with the first bytes of the globals
abbrev pub started : Program → List GlobalCell → Run
started p cells = record { state = main_state p; memory = with_cells no_bytes cells; copies = []; events = []; end = None }

-- what a typed program comes to in so many steps
abbrev pub outcome : ℕ → TypedProgram → Outcome
outcome n t = told (run n (link t) (started (link t) (first_cells t (link t))))

abbrev pub ends : List Event → End → Outcome
ends events end = record { events = events; end = Some end }
