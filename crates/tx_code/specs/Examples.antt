-- Bodies and images written out by hand, and what their threads do.
use Rattle.std.specs.Prelude.{Bool, false, ℕ, zero, suc, List, [], ◌∷◌, ◌++◌, Option, None, codes, ℤ}
use Rattle.tx_events.specs.declared.End.TheVariants.{Abort as Aborted}
use Rattle.tx_events.specs.declared.Event.{Event}
use Rattle.tx_events.specs.declared.Event.TheVariants.{Silent, Store as StoreOf, Stop}
use Rattle.tx_events.specs.declared.Reply.{Reply}
use Rattle.tx_events.specs.declared.Reply.TheVariants.{Nothing}
use Rattle.tx_code.specs.declared.instr.Instr.{Instr}
use Rattle.tx_code.specs.declared.instr.Instr.TheVariants.{Push, Pop, Out, Ret, GlobalAddr, Store, Abort}
use Rattle.tx_code.specs.declared.body.Row.{Row}
use Rattle.tx_code.specs.Objects.{BodyView}
use Rattle.tx_code.specs.Images.{ImageFuncView, ImageClassView, ImageView, main_type}
use Rattle.tx_code.specs.Meaning.{Names, State, Act, Does, Ends, Lost, step_act, thread}
use Rattle.tx_code.specs.Program.{names_of, first_state}

-- ---- runs

-- what comes at an event, and behind it
abbrev pub on_event : (next : List Reply → State → List Event) → List Reply → Event → (Reply → State) → List Event
on_event next replies Silent on = next replies (on Nothing)
on_event next [] e on = e ∷ next [] (on Nothing)
on_event next (r ∷ replies) e on = e ∷ next replies (on r)

abbrev pub on_act : (next : List Reply → State → List Event) → List Reply → Act → List Event
on_act next replies (Does e on) = on_event next replies e on
on_act next replies (Ends e) = e ∷ []
on_act next replies Lost = Silent ∷ []

-- the events of so many steps that are not silent, where these replies answer them
abbrev pub run : Names → (steps : ℕ) → List Reply → State → List Event
run x zero replies s = []
run x (suc n) replies s = on_act (run x n) replies (step_act x s)

-- the events of `main`; that of a thread which is lost ends in Silent
abbrev pub events_of : ImageView → (steps : ℕ) → List Reply → List Event
events_of i steps replies = run (names_of i) steps replies (first_state i)

-- the events of a thread that is started in a function
abbrev pub child_events : ImageView → (func : ℕ) → (arg : ℤ) → (steps : ℕ) → List Event
child_events i func arg steps = run (names_of i) steps [] ((thread (names_of i)).child (first_state i) 1 func arg)

-- ---- images

abbrev pub body : List Instr → List Row → BodyView
body code rows = record { code = code; rows = rows; lines = [] }

abbrev pub func : (ty : List ℕ) → (frame : ℕ) → (no_except : Bool) → BodyView → Option BodyView → ImageFuncView
func ty frame no_except plain safe = record { symbol = codes "f()"; ty = ty; frame = frame; no_except = no_except; plain = plain; safe = safe; source = None }

abbrev pub row : ℕ → ℕ → ℕ → ℕ → ℕ → ℕ → Row
row from to target what ty depth = record { from = from; to = to; target = target; what = what; ty = ty; depth = depth }

-- of these types and functions behind `main`
abbrev pub image : (types : List (List ℕ)) → List Instr → List Row → List ImageFuncView → List ImageClassView → ImageView
image types code rows funcs classes = record {
  types = types;
  funcs = func main_type 32 false (body code rows) None ∷ funcs;
  classes = classes;
  globals = [];
  size = 64;
  main = 0;
}

abbrev pub simple : List Instr → ImageView
simple code = image [] code [] [] []

-- `main` leaves a number in memory
abbrev pub stored : List Instr → List Instr
stored code = GlobalAddr 0 ∷ code ++ Store 9 ∷ Abort ∷ []

-- and comes to its end
abbrev pub stores : ℕ → List Event
stores v = StoreOf 65536 8 v false ∷ Stop Aborted ∷ []

abbrev pub hand_image : ImageView
hand_image = simple (Push 65 ∷ Out ∷ Pop ∷ Push 0 ∷ Ret 1 ∷ [])

abbrev pub class : (base : Option ℕ) → List (Option ℕ) → ImageClassView
class base slots = record { name = codes "C"; base = base; slots = slots }
