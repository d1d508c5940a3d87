-- A whole program with a call by an address: `int one() { return 1; } int main() { return (*&one)(); }`, with its code and its notes.
use Rattle.std.specs.Prelude.{◌&&◌, ℕ, zero, suc, ◌==◌, cond, true, false, List, [], ◌∷◌, Option, Some, None}
use Rattle.tx_ints.specs.declared.kinds.IntKind.TheVariants.{Int}
use Rattle.tx_code.specs.declared.instr.Instr.TheVariants.{FuncAddr, CallIndirect, Ret}
use Rattle.tx_code.specs.Objects.{BodyView}
use Rattle.tx_code.specs.Renaming.{itself}
use Rattle.tx_code.specs.Meaning.{Names}
use Rattle.cpp_tree.specs.cpp_types.Typ.{int, ptr, func, Signature, signature, none as none_typs}
use Rattle.cpp_tree.specs.cpp_layout.Layout.{function_address}
use Rattle.cpp_tree.specs.declared.kinds.TKind.TheVariants.{PointerCall, Function}
use Rattle.cpp_tree.specs.Trees.{none}
use Rattle.cpp_tree.specs.Notation.{plain, prvalue}
use Rattle.src_mean.specs.Linked.{Func, Program}
use Rattle.src_mean.specs.Frames.{of_block, of_call}
use Rattle.src_mean.specs.Source.{empty_stack}
use Rattle.symbolic_source.specs.Terms.{number, variable, function}
use Rattle.symbolic_source.specs.Frames.{value, Passes, Then, Gives, Scope, Returning, Items}
use Rattle.symbolic_source.specs.Frames as symbolic
use Rattle.symbolic_source.specs.Outcomes.{silent, Outcome, goes}
use Rattle.symbolic_source.specs.Steps.{advanced}
use Rattle.symbolic_code.specs.Places.{with_operands}
use Rattle.symbolic_code.specs.Following.{Table}
use Rattle.body_check.specs.Notes.{Note, no_answers}
use Rattle.body_check.specs.Calls.{Book, bare}
use Rattle.body_check.specs.Main.{number_of_type}
use Rattle.body_check.specs.Pair.{returning, one_func, number_of, named, one_body}

abbrev pub one_signature : Signature
one_signature = signature none_typs (plain (int Int)) false

-- the function with an address, whatever its type
abbrev pub at_address : ℕ → Option ℕ
at_address a = cond (a == function_address 1) (Some 1) None

abbrev pub pointing_func : Func
pointing_func = record {
  unit = 0;
  size = 16;
  places = [];
  words = [];
  stops = false;
  safe = true;
  body = returning
      (prvalue PointerCall (plain (int Int)) ((prvalue (Function 1) (plain (ptr (plain (func one_signature)))) []) ∷ []));
}

-- main has number 0, and each other number is that of the function that is called
abbrev pub func_of : ℕ → Func
func_of zero = pointing_func
func_of (suc n) = one_func

abbrev pub pointed_program : Program
pointed_program = record {
  number = λ u n. number_of n;
  func = λ n. Some (func_of n);
  global = λ u n. 0;
  table = λ c. 0;
  slot = λ a c s. None;
  pointed = λ a sig. at_address a;
  classes = [];
  main = 0;
}

abbrev pub pointing_body : BodyView
pointing_body = record { code = FuncAddr 1 ∷ CallIndirect 0 0 ∷ Ret 1 ∷ []; rows = []; lines = [] }

abbrev pub body_of : ℕ → BodyView
body_of zero = pointing_body
body_of (suc n) = one_body

abbrev pub pointed_names : Names
pointed_names = record {
  body = λ n safe. Some (body_of n);
  frame = λ n. 16;
  no_except = λ n. false;
  numbering = λ n. itself;
  global_address = λ n. 0;
  func_address = λ n. function_address n;
  class_address = λ n. 0;
  stack_start = λ t. (empty_stack t).end;
  stack_end = λ t. (empty_stack t).limit;
  called = λ ty a. at_address a;
  spawned = λ a. at_address a;
  slot_of = λ c a s. None;
  cancels = λ ty. ty == 1;
}

abbrev pub begun : Func → Outcome
begun f = advanced pointed_program f no_answers 1 (goes silent [] (Passes [] f.words ∷ Then value f.body ∷ []))

-- what main has left to do behind the call
abbrev pub behind_call : List symbolic.Frame
behind_call = Scope of_call true [] ∷ Returning ∷ Items none ∷ Scope of_block true [] ∷ []

abbrev pub address_note : Note
address_note = record { index = 0; place = bare 0; facts = []; outcome = begun pointing_func; lead = 5; rank = 1 }

abbrev pub call_note : Note
call_note = record {
  index = 1;
  place = with_operands (bare 0) (function 1 ∷ []);
  facts = [];
  outcome = advanced pointed_program pointing_func no_answers 5
      (begun pointing_func);
  lead = 0;
  rank = 0;
}

abbrev pub back_note : Note
back_note = record {
  index = 2;
  place = with_operands (bare 0) (variable 0 ∷ []);
  facts = [];
  outcome = advanced pointed_program pointing_func no_answers 1
      (goes silent [] (Gives (variable 0) ∷ behind_call));
  lead = 2;
  rank = 0;
}

abbrev pub push_note : Note
push_note = record { index = 0; place = bare 0; facts = []; outcome = begun one_func; lead = 4; rank = 1 }

abbrev pub ret_note : Note
ret_note = record {
  index = 1;
  place = with_operands (bare 0) (number 1 ∷ []);
  facts = [];
  outcome = advanced pointed_program one_func no_answers 4
      (begun one_func);
  lead = 1;
  rank = 0;
}

abbrev pub notes_of : ℕ → List Note
notes_of zero = address_note ∷ call_note ∷ back_note ∷ []
notes_of (suc n) = push_note ∷ ret_note ∷ []

abbrev pub own_names : Table
own_names = record {
  global_of = λ n. None;
  function_of = named;
  class_of = λ n. None;
  type_of = λ n. None;
  is_signature = λ n sig. true;
  is_slot =
      λ n c s. false;
}

abbrev pub pointed_book : Book
pointed_book = record {
  held = λ n safe. record { number = n; safe = safe; func = func_of n; body = body_of n; rows = []; notes = notes_of n; table = own_names };
  gives = λ n. true;
  takes = λ n. 0;
  stops = λ n. false;
  numbers = number_of_type;
  thrown = λ t. true;
  takes_as = λ sig count gives. (count == 0) && gives;
  slot_takes = λ class slot count gives. false;
}
