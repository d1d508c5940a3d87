-- What the code holds, as states.
use Rattle.std.specs.Prelude.{◌≡◌, Option, Some, None, Result, Ok, Err}
use Rattle.tx_code.specs.Objects.{class_view, global_view, func_view, object_view}
use Rattle.code_asm.specs.declared.fault.Stop.{Stop}
use Rattle.code_asm.specs.declared.fault.Stop.TheVariants.{Memory, Wrong}
use Rattle.code_asm.specs.declared.assembly.Place.{Place as Places}
use Rattle.code_asm.specs.declared.assembly.Place.TheVariants as held
use Rattle.code_asm.specs.declared.assembly.Assembly.{Assembly}
use Rattle.code_asm.specs.Steps.{Place, Start, Names, Between, InClass, InGlobal, InFunc, Ended, State}

abbrev pub place_of : Places → Place
place_of held.Start = Start
place_of held.Names = Names
place_of held.Between = Between
place_of (held.Class c) = InClass (class_view c)
place_of (held.Global g) = InGlobal (global_view g)
place_of (held.Func f) = InFunc (func_view f)
place_of held.Ended = Ended

abbrev pub state_of : Assembly → State
state_of a = record { object = object_view a.object; place = place_of a.place }

-- What a step returned, seen by view, is what the line adds, unless memory ran out.
abbrev pub Stops : {Y : Type 0} → Stop → Option Y → Type 0
Stops Memory step = Unit {0}
Stops Wrong step = step ≡ None

abbrev pub Stepped : {X Y : Type 0} → (X → Y) → Result X Stop → Option Y → Type 0
Stepped view (Ok x) step = step ≡ Some (view x)
Stepped view (Err e) step = Stops e step
