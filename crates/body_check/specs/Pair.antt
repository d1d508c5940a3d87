-- A whole program with a call that is checked: `int one() { return 1; } int main() { return one(); }`, with its code and its notes.
use Rattle.std.specs.Prelude.{ℕ, zero, suc, ◌==◌, true, false, List, [], ◌∷◌, Option, Some, None}
use Rattle.tx_ints.specs.declared.kinds.IntKind.TheVariants.{Int}
use Rattle.tx_code.specs.declared.instr.Instr.TheVariants.{Push, Call, Ret}
use Rattle.tx_code.specs.Objects.{BodyView}
use Rattle.tx_code.specs.Renaming.{itself}
use Rattle.tx_code.specs.Meaning.{Names}
use Rattle.cpp_tree.specs.cpp_types.Typ.{int}
use Rattle.cpp_tree.specs.cpp_layout.Layout.{function_address}
use Rattle.cpp_tree.specs.declared.kinds.TKind.TheVariants.{Literal, Block, Return, Call as Calling}
use Rattle.cpp_tree.specs.Trees.{Tree, none}
use Rattle.cpp_tree.specs.Notation.{plain, effect, prvalue}
use Rattle.src_mean.specs.Linked.{Func, Program}
use Rattle.src_mean.specs.Frames.{of_block, of_call}
use Rattle.src_mean.specs.Source.{empty_stack}
use Rattle.symbolic_source.specs.Terms.{number, variable}
use Rattle.symbolic_source.specs.Frames.{value, Passes, Then, Gives, Scope, Returning, Items}
use Rattle.symbolic_source.specs.Frames as symbolic
use Rattle.symbolic_source.specs.Outcomes.{silent, Outcome, goes}
use Rattle.symbolic_source.specs.Steps.{advanced}
use Rattle.symbolic_code.specs.Places.{with_operands}
use Rattle.symbolic_code.specs.Following.{Table}
use Rattle.body_check.specs.Notes.{Note, no_answers}
use Rattle.body_check.specs.Calls.{Book, bare}
use Rattle.body_check.specs.Main.{number_of_type}

abbrev pub returning : Tree → Tree
returning t = effect (Block false) ((effect Return (t ∷ [])) ∷ [])

abbrev pub calling_func : Func
calling_func = record { unit = 0; size = 16; places = []; words = []; stops = false; safe = true; body = returning (prvalue (Calling 1) (plain (int Int)) []) }

abbrev pub one_func : Func
one_func = record { unit = 0; size = 16; places = []; words = []; stops = false; safe = true; body = returning (prvalue (Literal 1) (plain (int Int)) []) }

-- main has number 0, and each other number is that of the function that is called
abbrev pub func_of : ℕ → Func
func_of zero = calling_func
func_of (suc n) = one_func

-- the function that is called has number 1
abbrev pub number_of : ℕ → ℕ
number_of zero = 0
number_of (suc n) = 1

-- a name stands for it, and no other does
abbrev pub named : ℕ → Option ℕ
named zero = None
named (suc zero) = Some 1
named (suc (suc n)) = None

abbrev pub pair_program : Program
pair_program = record {
  number = λ u n. number_of n;
  func = λ n. Some (func_of n);
  global = λ u n. 0;
  table = λ c. 0;
  slot = λ a c s. None;
  pointed = λ a sig. None;
  classes = [];
  main = 0;
}

abbrev pub calling_body : BodyView
calling_body = record { code = Call 1 0 ∷ Ret 1 ∷ []; rows = []; lines = [] }

abbrev pub one_body : BodyView
one_body = record { code = Push 1 ∷ Ret 1 ∷ []; rows = []; lines = [] }

abbrev pub body_of : ℕ → BodyView
body_of zero = calling_body
body_of (suc n) = one_body

abbrev pub pair_names : Names
pair_names = record {
  body = λ n safe. Some (body_of n);
  frame = λ n. 16;
  no_except = λ n. false;
  numbering = λ n. itself;
  global_address = λ n. 0;
  func_address = λ n. function_address n;
  class_address = λ n. 0;
  stack_start = λ t. (empty_stack t).end;
  stack_end = λ t. (empty_stack t).limit;
  called = λ ty a. None;
  spawned = λ a. None;
  slot_of = λ c a s. None;
  cancels = λ ty. ty == 1;
}

abbrev pub begun : Func → Outcome
begun f = advanced pair_program f no_answers 1 (goes silent [] (Passes [] f.words ∷ Then value f.body ∷ []))

-- what main has left to do behind the call
abbrev pub behind_call : List symbolic.Frame
behind_call = Scope of_call true [] ∷ Returning ∷ Items none ∷ Scope of_block true [] ∷ []

abbrev pub call_note : Note
call_note = record { index = 0; place = bare 0; facts = []; outcome = begun calling_func; lead = 4; rank = 1 }

abbrev pub back_note : Note
back_note = record {
  index = 1;
  place = with_operands (bare 0) (variable 0 ∷ []);
  facts = [];
  outcome = advanced pair_program calling_func no_answers 1
      (goes silent [] (Gives (variable 0) ∷ behind_call));
  lead = 2;
  rank = 0;
}

abbrev pub push_note : Note
push_note = record { index = 0; place = bare 0; facts = []; outcome = begun one_func; lead = 4; rank = 1 }

abbrev pub ret_note : Note
ret_note = record {
  index = 1;
  place = with_operands (bare 0) (number 1 ∷ []);
  facts = [];
  outcome = advanced pair_program one_func no_answers 4
      (begun one_func);
  lead = 1;
  rank = 0;
}

abbrev pub notes_of : ℕ → List Note
notes_of zero = call_note ∷ back_note ∷ []
notes_of (suc n) = push_note ∷ ret_note ∷ []

abbrev pub own_names : Table
own_names = record {
  global_of = λ n. None;
  function_of = named;
  class_of = λ n. None;
  type_of = λ n. None;
  is_signature = λ n sig. false;
  is_slot =
      λ n c s. false;
}

abbrev pub pair_book : Book
pair_book = record {
  held = λ n safe. record { number = n; safe = safe; func = func_of n; body = body_of n; rows = []; notes = notes_of n; table = own_names };
  gives = λ n. true;
  takes = λ n. 0;
  stops = λ n. false;
  numbers = number_of_type;
  thrown = λ t. true;
  takes_as = λ sig count gives. false;
  slot_takes = λ class slot count gives. false;
}
