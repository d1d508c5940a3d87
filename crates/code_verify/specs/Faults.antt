-- The fault that is named: of a body, of a function and of an image.
use Rattle.std.specs.Prelude.{Bool, true, false, ℕ, ◌+◌, ◌-◌, List, [], ◌∷◌, length, min, Option, Some, None, ◌&&◌, ◌||◌, nat_lt, nat_eq, if◌then◌else◌}
use Rattle.tx_code.specs.declared.instr.Instr.{Instr}
use Rattle.tx_code.specs.declared.body.Row.{Row}
use Rattle.tx_code.specs.Objects.{BodyView}
use Rattle.tx_code.specs.Images.{ImageFuncView, ImageView}
use Rattle.tx_code.specs.Shapes.{Shape, Table}
use Rattle.tx_code.specs.Sound.{Signature, signature, table_of, frame_right}
use Rattle.code_verify.specs.declared.faults.Fault.{Fault}
use Rattle.code_verify.specs.declared.faults.Broken.{Broken}
use Rattle.code_walk.specs.Walk.{Slot, slot_at, walked}
use Rattle.code_walk.specs.Bodies.{space}
use Rattle.code_verify.specs.Rules.{index_rule, row_rule}

abbrev pub fault : (index rule : ℕ) → Fault
fault i r = record { index = i; rule = r }

abbrev pub is_before : Fault → Fault → Bool
is_before f g = nat_lt f.index g.index || (nat_eq f.index g.index && nat_lt f.rule g.rule)

-- the one of the lower index, or at one index of the lower clause
abbrev pub earlier : Option Fault → Option Fault → Option Fault
earlier None o = o
earlier (Some f) None = Some f
earlier (Some f) (Some g) = if is_before g f then Some g else Some f

abbrev pub or_next : Option Fault → Option Fault → Option Fault
or_next None o = o
or_next (Some f) o = Some f

abbrev pub at_place : (index : ℕ) → (rule : Option ℕ) → Option Fault
at_place i None = None
at_place i (Some r) = Some (fault i r)

-- a row's fault stands at its `from`, or at the body's last index
abbrev pub row_fault : Table → BodyView → List (Slot Shape) → Row → Option Fault
row_fault x b slots r = at_place (min r.from (length b.code - 1)) (row_rule x b slots r)

abbrev pub first_of_rows : Table → BodyView → List (Slot Shape) → Option Fault → List Row → Option Fault
first_of_rows x b slots first [] = first
first_of_rows x b slots first (r ∷ rs) = first_of_rows x b slots (earlier first (row_fault x b slots r)) rs

abbrev pub first_of_indexes : Table → (own : ℕ) → (safe : Bool) → BodyView → List (Slot Shape) → ℕ → List Instr → Option Fault
first_of_indexes x own safe b slots n [] = None
first_of_indexes x own safe b slots n (a ∷ rest) = or_next (at_place n (index_rule x own safe b n a (slot_at slots n)))
    (first_of_indexes x own safe b slots (n + 1) rest)

abbrev pub first_by : Table → Signature → (safe : Bool) → BodyView → List (Slot Shape) → Option Fault
first_by x g safe b slots = earlier (first_of_indexes x g.gives safe b slots 0 b.code) (first_of_rows x b slots None b.rows)

-- the fault of a body; an empty one breaks clause 1
abbrev pub body_fault : Table → Signature → (safe : Bool) → BodyView → Option Fault
body_fault x g safe b = if nat_eq (length b.code) 0 then Some (fault 0 1) else first_by x g safe b (walked (space x g b))

abbrev pub frame_fault : (frame : ℕ) → Option Fault
frame_fault n = if frame_right n then None else Some (fault 0 11)

-- behind so many instructions
abbrev pub behind : ℕ → Option Fault → Option Fault
behind n None = None
behind n (Some f) = Some (fault (n + f.index) f.rule)

abbrev pub safe_fault : Table → ImageFuncView → Option BodyView → Option Fault
safe_fault x f None = None
safe_fault x f (Some b) = behind (length f.plain.code) (body_fault x (signature f.ty) true b)

abbrev pub func_fault : Table → ImageFuncView → Option Fault
func_fault x f = or_next (earlier (frame_fault f.frame) (body_fault x (signature f.ty) false f.plain)) (safe_fault x f f.safe)

-- ---- images

abbrev pub broken : (func : ℕ) → Fault → Broken
broken n f = record { func = n; index = f.index; rule = f.rule }

abbrev pub or_below : (func : ℕ) → Option Fault → Option Broken → Option Broken
or_below n None o = o
or_below n (Some f) o = Some (broken n f)

abbrev pub first_of_funcs : Table → ℕ → List ImageFuncView → Option Broken
first_of_funcs x n [] = None
first_of_funcs x n (f ∷ fs) = or_below n (func_fault x f) (first_of_funcs x (n + 1) fs)

-- the fault of an image: the first one of the lowest function that has one
abbrev pub image_fault : ImageView → Option Broken
image_fault i = first_of_funcs (table_of i) 0 i.funcs
