-- A whole program with a virtual call: `int main() { return e.one(); }`, where the function in the slot is found by what the object `e`, a local, has at its
-- address, with its code and its notes.
use Rattle.std.specs.Prelude.{◌&&◌, ℕ, zero, suc, ◌==◌, cond, true, false, List, [], ◌∷◌, Option, Some, None}
use Rattle.tx_ints.specs.declared.kinds.IntKind.TheVariants.{Int, ULong}
use Rattle.tx_code.specs.declared.instr.Instr.TheVariants.{Push, Dup, Swap, FrameAddr, Load, Store, Slot, CallIndirect, Ret}
use Rattle.tx_code.specs.Objects.{BodyView}
use Rattle.tx_code.specs.Renaming.{itself}
use Rattle.tx_code.specs.Meaning.{Names}
use Rattle.cpp_tree.specs.cpp_types.Typ.{int}
use Rattle.cpp_tree.specs.cpp_layout.Layout.{function_address}
use Rattle.cpp_tree.specs.declared.kinds.TKind.TheVariants.{Literal, Local, VirtualCall}
use Rattle.cpp_tree.specs.Trees.{none}
use Rattle.cpp_tree.specs.Notation.{plain, prvalue, lvalue}
use Rattle.src_mean.specs.Linked.{Func, Program}
use Rattle.src_mean.specs.Frames.{of_block, of_call}
use Rattle.src_mean.specs.Source.{empty_stack}
use Rattle.symbolic_source.specs.Terms.{Term, number, variable, local, slot_function, converted_to}
use Rattle.symbolic_source.specs.Frames.{value, virtual, Run, Passes, Then, Gives, Scope, Returning, Items}
use Rattle.symbolic_source.specs.Frames as symbolic
use Rattle.symbolic_source.specs.Outcomes.{silent, Outcome, goes, finds, calls}
use Rattle.symbolic_source.specs.Steps.{advanced}
use Rattle.symbolic_code.specs.Facts.{has_function}
use Rattle.symbolic_code.specs.Places.{with_operands}
use Rattle.symbolic_code.specs.Following.{Table}
use Rattle.body_check.specs.Notes.{Note, no_answers, variables}
use Rattle.body_check.specs.Calls.{Book, bare}
use Rattle.body_check.specs.Main.{number_of_type}
use Rattle.body_check.specs.Pair.{returning, number_of}

-- the function with an address, whatever its type
abbrev pub at_address : ℕ → Option ℕ
at_address a = cond (a == function_address 1) (Some 1) None

-- the class whose address is 5 has a function in its slot
abbrev pub in_slot : ℕ → Option ℕ
in_slot a = cond (a == 5) (Some 1) None

-- it takes the object's address
abbrev pub told_func : Func
told_func = record {
  unit = 0;
  size = 16;
  places = 0 ∷ [];
  words = record { offset = 0; kind = ULong; volatile = false } ∷ [];
  stops = false;
  safe = true;
  body = returning (prvalue (Literal 1) (plain (int Int)) []);
}

abbrev pub told_body : BodyView
told_body = record { code = FrameAddr 0 ∷ Swap ∷ Store 9 ∷ Push 1 ∷ Ret 1 ∷ []; rows = []; lines = [] }

abbrev pub word_count : ℕ → ℕ
word_count zero = 0
word_count (suc n) = 1

abbrev pub asking_func : Func
asking_func = record {
  unit = 0;
  size = 16;
  places = 0 ∷ [];
  words = [];
  stops = false;
  safe = true;
  body = returning
      (prvalue (VirtualCall 1 0 0 0) (plain (int Int)) ((lvalue (Local 0) (plain (int Int)) []) ∷ []));
}

-- main has number 0, and each other number is that of the function that is called
abbrev pub func_of : ℕ → Func
func_of zero = asking_func
func_of (suc n) = told_func

abbrev pub virtual_program : Program
virtual_program = record {
  number = λ u n. number_of n;
  func = λ n. Some (func_of n);
  global = λ u n. 0;
  table = λ c. 0;
  slot = λ a c s. in_slot a;
  pointed = λ a sig. None;
  classes = [];
  main = 0;
}

abbrev pub asking_body : BodyView
asking_body = record { code = FrameAddr 0 ∷ Dup ∷ Load 9 ∷ Slot 0 0 ∷ Swap ∷ CallIndirect 0 1 ∷ Ret 1 ∷ []; rows = []; lines = [] }

abbrev pub body_of : ℕ → BodyView
body_of zero = asking_body
body_of (suc n) = told_body

abbrev pub virtual_names : Names
virtual_names = record {
  body = λ n safe. Some (body_of n);
  frame = λ n. 16;
  no_except = λ n. false;
  numbering = λ n. itself;
  global_address = λ n. 0;
  func_address = λ n. function_address n;
  class_address = λ n. 0;
  stack_start = λ t. (empty_stack t).end;
  stack_end = λ t. (empty_stack t).limit;
  called = λ ty a. at_address a;
  spawned = λ a. None;
  slot_of = λ c a s. in_slot a;
  cancels = λ ty. ty == 1;
}

abbrev pub begun : Func → ℕ → Outcome
begun f n = advanced virtual_program f no_answers 1 (goes silent [] (Passes (variables 0 n) f.words ∷ Then value f.body ∷ []))

-- what main has left to do behind the call
abbrev pub behind_call : List symbolic.Frame
behind_call = Scope of_call true [] ∷ Returning ∷ Items none ∷ Scope of_block true [] ∷ []

abbrev pub reading : Outcome
reading = advanced virtual_program asking_func no_answers 5 (begun asking_func 0)

abbrev pub calling : Outcome
calling = calls (virtual 0 0 (variable 0)) (local 0 ∷ []) [] behind_call

-- the function in the slot of what is read
abbrev pub found_function : Term
found_function = slot_function 0 0 (variable 0)

abbrev pub told : Outcome
told = goes silent [] (Run value told_func.body ∷ [])

abbrev pub asking_note_0 : Note
asking_note_0 = record { index = 0; place = with_operands (bare 0) ([]); facts = []; outcome = begun asking_func 0; lead = 5; rank = 3 }

abbrev pub asking_note_1 : Note
asking_note_1 = record { index = 1; place = with_operands (bare 0) (local 0 ∷ []); facts = []; outcome = reading; lead = 0; rank = 2 }

abbrev pub asking_note_2 : Note
asking_note_2 = record { index = 2; place = with_operands (bare 0) (local 0 ∷ local 0 ∷ []); facts = []; outcome = reading; lead = 0; rank = 1 }

abbrev pub asking_note_3 : Note
asking_note_3 = record {
  index = 3;
  place = with_operands (bare 0) (converted_to ULong (variable 0) ∷ local 0 ∷ []);
  facts = [];
  outcome = finds 0 0
      (variable 0) calling;
  lead = 0;
  rank = 2;
}

abbrev pub asking_note_4 : Note
asking_note_4 = record {
  index = 4;
  place = with_operands (bare 0) (found_function ∷ local 0 ∷ []);
  facts = has_function 0 0 (variable 0) ∷ [];
  outcome =
      calling;
  lead = 0;
  rank = 1;
}

abbrev pub asking_note_5 : Note
asking_note_5 = record {
  index = 5;
  place = with_operands (bare 0) (local 0 ∷ found_function ∷ []);
  facts = has_function 0 0 (variable 0) ∷ [];
  outcome =
      calling;
  lead = 0;
  rank = 0;
}

abbrev pub asking_note_6 : Note
asking_note_6 = record {
  index = 6;
  place = with_operands (bare 0) (variable 0 ∷ []);
  facts = [];
  outcome = advanced virtual_program asking_func no_answers 1
      (goes silent [] (Gives (variable 0) ∷ behind_call));
  lead = 2;
  rank = 0;
}

abbrev pub told_note_0 : Note
told_note_0 = record { index = 0; place = with_operands (bare 0) (variable 0 ∷ []); facts = []; outcome = begun told_func 1; lead = 0; rank = 2 }

abbrev pub told_note_1 : Note
told_note_1 = record { index = 1; place = with_operands (bare 0) (local 0 ∷ variable 0 ∷ []); facts = []; outcome = begun told_func 1; lead = 0; rank = 1 }

abbrev pub told_note_2 : Note
told_note_2 = record { index = 2; place = with_operands (bare 0) (variable 0 ∷ local 0 ∷ []); facts = []; outcome = begun told_func 1; lead = 0; rank = 0 }

abbrev pub told_note_3 : Note
told_note_3 = record { index = 3; place = with_operands (bare 0) ([]); facts = []; outcome = told; lead = 4; rank = 1 }

abbrev pub told_note_4 : Note
told_note_4 = record {
  index = 4;
  place = with_operands (bare 0) (number 1 ∷ []);
  facts = [];
  outcome = advanced virtual_program told_func no_answers 4 told;
  lead = 1;
  rank = 0;
}

abbrev pub asking_notes : List Note
asking_notes = asking_note_0 ∷ asking_note_1 ∷ asking_note_2 ∷ asking_note_3 ∷ asking_note_4 ∷ asking_note_5 ∷ asking_note_6 ∷ []

abbrev pub told_notes : List Note
told_notes = told_note_0 ∷ told_note_1 ∷ told_note_2 ∷ told_note_3 ∷ told_note_4 ∷ []

abbrev pub notes_of : ℕ → List Note
notes_of zero = asking_notes
notes_of (suc n) = told_notes

abbrev pub own_names : Table
own_names = record {
  global_of = λ n. None;
  function_of = λ n. None;
  class_of = λ n. Some 0;
  type_of = λ n. None;
  is_signature = λ n sig. false;
  is_slot =
      λ n c s. true;
}

abbrev pub virtual_book : Book
virtual_book = record {
  held = λ n safe. record { number = n; safe = safe; func = func_of n; body = body_of n; rows = []; notes = notes_of n; table = own_names };
  gives = λ n. true;
  takes = word_count;
  stops = λ n. false;
  numbers = number_of_type;
  thrown = λ t. true;
  takes_as = λ sig count gives. false;
  slot_takes = λ class slot count gives. (count == 1) && gives;
}
