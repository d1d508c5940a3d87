-- What the numbers of an image stand for.
use Rattle.std.specs.Prelude.{Bool, true, false, ℕ, zero, suc, ◌+◌, ◌-◌, ◌*◌, ◌/◌, ◌%◌, ◌^◌, List, [], length, Option, Some, None, ◌&&◌, ◌||◌, nat_le, nat_eq}
use Rattle.std.specs.Prelude.{if◌then◌else◌, slice_get, codes}
use Rattle.std.specs.List.{starts_with}
use Rattle.std.specs.Option.{option_map_or, option_and_then}
use Rattle.std.specs.Str.{bytes_eq}
use Rattle.tx_code.specs.Objects.{BodyView}
use Rattle.tx_code.specs.Images.{ImageFuncView, ImageClassView, ImageView}
use Rattle.tx_code.specs.Signatures.{without_safety}
use Rattle.tx_code.specs.Renaming.{itself}
use Rattle.tx_code.specs.Meaning.{Names, State, starts}
use Rattle.tx_events.specs.Memory.{globals_start, stacks_start, stack_stride, stack_size}

-- where functions, classes, globals and stacks lie
abbrev pub func_address : ℕ → ℕ
func_address f = 2 ^ 40 + 16 * f

abbrev pub class_address : ℕ → ℕ
class_address c = 2 ^ 41 + 16 * c

abbrev pub global_address : ℕ → ℕ
global_address offset = globals_start + offset

abbrev pub stack_start : ℕ → ℕ
stack_start thread = stacks_start + stack_stride * thread

abbrev pub stack_end : ℕ → ℕ
stack_end thread = stack_start thread + stack_size

-- the number at an address of a table that begins at `start`
abbrev pub number_at : (start address : ℕ) → Option ℕ
number_at start a = if nat_le start a && nat_eq ((a - start) % 16) 0 then Some ((a - start) / 16) else None

abbrev pub body_in : ImageFuncView → Bool → Option BodyView
body_in f false = Some f.plain
body_in f true = f.safe

abbrev pub if_typed : ImageFuncView → List ℕ → ℕ → Option ℕ
if_typed f ty n = if bytes_eq (without_safety f.ty) (without_safety ty) then Some n else None

-- the function of this type at an address, safety aside
abbrev pub func_at : List ImageFuncView → (ty : List ℕ) → (address : ℕ) → Option ℕ
func_at funcs ty a = option_and_then (λ n. option_and_then (λ (f : ImageFuncView). if_typed f ty n) (slice_get funcs n)) (number_at (2 ^ 40) a)

-- the functions of this type start threads
abbrev pub spawn_type : List ℕ
spawn_type = codes "void(long)"

-- a class is another or derived from it, as so many steps along its bases show
abbrev pub derives : List ImageClassView → (most : ℕ) → (class base : ℕ) → Bool
derives classes zero c base = false
derives classes (suc most) c base = nat_eq c base || option_map_or (λ (k : ImageClassView). option_map_or (λ d. derives classes most d base) k.base false)
    (slice_get classes c) false

abbrev pub slot_or_none : Option (Option ℕ) → Option ℕ
slot_or_none None = None
slot_or_none (Some slot) = slot

abbrev pub slot_at : List ImageClassView → (class address slot : ℕ) → Option ℕ
slot_at classes c a n = option_and_then (λ d. if derives classes (length classes) d c then option_and_then
    (λ (k : ImageClassView). slot_or_none (slice_get k.slots n)) (slice_get classes d) else None) (number_at (2 ^ 41) a)

-- the types that support cancellation (the TS, [except.spec])
abbrev pub cancelling : List ℕ
cancelling = codes "std::tx_exception<"

abbrev pub names_of : ImageView → Names
names_of i = record {
  body = λ f safe. option_and_then (λ (g : ImageFuncView). body_in g safe) (slice_get i.funcs f);
  frame = λ f. option_map_or (λ (g : ImageFuncView). g.frame) (slice_get i.funcs f) 0;
  no_except = λ f. option_map_or (λ (g : ImageFuncView). g.no_except) (slice_get i.funcs f) false;
  numbering = λ f. itself;
  global_address = global_address;
  func_address = func_address;
  class_address = class_address;
  stack_start = stack_start;
  stack_end = stack_end;
  called = λ ty a. option_and_then (λ spelling. func_at i.funcs spelling a) (slice_get i.types ty);
  spawned = λ a. func_at i.funcs spawn_type a;
  slot_of = λ c a n. slot_at i.classes c a n;
  cancels = λ ty. option_map_or (λ spelling. starts_with nat_eq spelling cancelling) (slice_get i.types ty) false;
}

-- thread 0 at the start of `main`
abbrev pub first_state : ImageView → State
first_state i = starts (names_of i) 0 i.main []
