-- A whole program that starts a thread: `void f(long a) { } int main() { return spawn(&f, 0); }`, with its code and its notes.
use Rattle.std.specs.Prelude.{◌≡◌, ◌&&◌, ℕ, zero, suc, ◌==◌, not, Bool, true, false, List, [], ◌∷◌, Some, None}
use Rattle.tx_ints.specs.declared.kinds.IntKind.TheVariants.{Int, Long}
use Rattle.tx_events.specs.declared.TheConstants.{THREAD_LIMIT}
use Rattle.tx_events.specs.declared.End.{End}
use Rattle.tx_events.specs.Memory.{no_bytes}
use Rattle.tx_events.specs.Thread.{Thread}
use Rattle.tx_events.specs.World.{World, Replays, first_world}
use Rattle.tx_code.specs.declared.instr.Instr.TheVariants.{FuncAddr, Push, Spawn, Ret, FrameAddr, Swap, Store}
use Rattle.tx_code.specs.Objects.{BodyView}
use Rattle.tx_code.specs.Renaming.{itself}
use Rattle.tx_code.specs.Meaning.{Names}
use Rattle.cpp_tree.specs.cpp_types.Typ.{int, ptr, func}
use Rattle.cpp_tree.specs.cpp_layout.Layout.{function_address}
use Rattle.cpp_tree.specs.declared.kinds.Builtin.TheVariants.{Spawn as SpawnThread}
use Rattle.cpp_tree.specs.declared.kinds.TKind.TheVariants.{Block, Builtin, Function, Literal}
use Rattle.cpp_tree.specs.Trees.{none}
use Rattle.cpp_tree.specs.Notation.{plain, prvalue, effect}
use Rattle.src_mean.specs.Linked.{Func, Program}
use Rattle.src_mean.specs.Frames.{of_block}
use Rattle.src_mean.specs.Source.{empty_stack, thread_signature}
use Rattle.symbolic_source.specs.Terms.{number, variable, function, local}
use Rattle.symbolic_source.specs.Frames.{value, Passes, Then, Scope, Returning, Items}
use Rattle.symbolic_source.specs.Frames as symbolic
use Rattle.symbolic_source.specs.Outcomes.{silent, Outcome, goes}
use Rattle.symbolic_source.specs.Steps.{given, advanced}
use Rattle.symbolic_code.specs.Places.{with_operands}
use Rattle.symbolic_code.specs.Following.{Table}
use Rattle.body_check.specs.Notes.{Note, no_answers, variables}
use Rattle.body_check.specs.Calls.{Book, bare}
use Rattle.body_check.specs.Main.{number_of_type}
use Rattle.body_check.specs.Pair.{returning, number_of, named}
use Rattle.body_check.specs.Pointed.{at_address}

abbrev pub main_func : Func
main_func = record {
  unit = 0;
  size = 16;
  places = [];
  words = [];
  stops = false;
  safe = true;
  body = returning (prvalue (Builtin SpawnThread) (plain (int Int))
      ((prvalue (Function 1) (plain (ptr (plain (func thread_signature)))) []) ∷ (prvalue (Literal 0) (plain (int Long)) []) ∷ []));
}

abbrev pub thread_func : Func
thread_func = record {
  unit = 0;
  size = 16;
  places = 0 ∷ [];
  words = record { offset = 0; kind = Long; volatile = false } ∷ [];
  stops = false;
  safe = true;
  body = effect (Block false) [];
}

-- main has number 0, and each other number is that of the thread's function
abbrev pub func_of : ℕ → Func
func_of zero = main_func
func_of (suc n) = thread_func

abbrev pub starting_program : Program
starting_program = record {
  number = λ u n. number_of n;
  func = λ n. Some (func_of n);
  global = λ u n. 0;
  table = λ c. 0;
  slot = λ a c s. None;
  pointed = λ a sig. at_address a;
  classes = [];
  main = 0;
}

abbrev pub main_body : BodyView
main_body = record { code = FuncAddr 1 ∷ Push 0 ∷ Spawn ∷ Ret 1 ∷ []; rows = []; lines = [] }

abbrev pub thread_body : BodyView
thread_body = record { code = FrameAddr 0 ∷ Swap ∷ Store 8 ∷ Ret 0 ∷ []; rows = []; lines = [] }

abbrev pub body_of : ℕ → BodyView
body_of zero = main_body
body_of (suc n) = thread_body

abbrev pub starting_names : Names
starting_names = record {
  body = λ n safe. Some (body_of n);
  frame = λ n. 16;
  no_except = λ n. false;
  numbering = λ n. itself;
  global_address = λ n. 0;
  func_address = λ n. function_address n;
  class_address = λ n. 0;
  stack_start = λ t. (empty_stack t).end;
  stack_end = λ t. (empty_stack t).limit;
  called = λ ty a. at_address a;
  spawned = λ a. at_address a;
  slot_of = λ c a s. None;
  cancels = λ ty. ty == 1;
}

-- a function as it is entered with so many words, one silent step on
abbrev pub begun : Func → ℕ → Outcome
begun f count = advanced starting_program f no_answers 1 (goes silent [] (Passes (variables 0 count) f.words ∷ Then value f.body ∷ []))

-- the thread is started
abbrev pub at_start : Outcome
at_start = advanced starting_program main_func no_answers 6 (begun main_func 0)

-- what main has left to do then
abbrev pub behind_start : List symbolic.Frame
behind_start = Returning ∷ Items none ∷ Scope of_block true [] ∷ []

abbrev pub address_note : Note
address_note = record { index = 0; place = bare 0; facts = []; outcome = begun main_func 0; lead = 6; rank = 2 }

abbrev pub argument_note : Note
argument_note = record { index = 1; place = with_operands (bare 0) (function 1 ∷ []); facts = []; outcome = at_start; lead = 0; rank = 1 }

abbrev pub start_note : Note
start_note = record { index = 2; place = with_operands (bare 0) (number 0 ∷ function 1 ∷ []); facts = []; outcome = at_start; lead = 0; rank = 0 }

abbrev pub back_note : Note
back_note = record {
  index = 3;
  place = with_operands (bare 0) (variable 0 ∷ []);
  facts = [];
  outcome = given starting_program main_func no_answers []
      (variable 0) behind_start;
  lead = 1;
  rank = 0;
}

-- in the thread's function, where its argument lies on the operands
abbrev pub word_note : Note
word_note = record { index = 0; place = bare 1; facts = []; outcome = begun thread_func 1; lead = 0; rank = 2 }

abbrev pub swap_note : Note
swap_note = record { index = 1; place = with_operands (bare 0) (local 0 ∷ variable 0 ∷ []); facts = []; outcome = begun thread_func 1; lead = 0; rank = 1 }

abbrev pub store_note : Note
store_note = record { index = 2; place = with_operands (bare 0) (variable 0 ∷ local 0 ∷ []); facts = []; outcome = begun thread_func 1; lead = 0; rank = 0 }

abbrev pub end_note : Note
end_note = record {
  index = 3;
  place = bare 0;
  facts = [];
  outcome = given starting_program thread_func no_answers [] (variable 0)
      (Passes [] [] ∷ Then value thread_func.body ∷ []);
  lead = 3;
  rank = 0;
}

abbrev pub notes_of : ℕ → List Note
notes_of zero = address_note ∷ argument_note ∷ start_note ∷ back_note ∷ []
notes_of (suc n) = word_note ∷ swap_note ∷ store_note ∷ end_note ∷ []

abbrev pub own_names : Table
own_names = record {
  global_of = λ n. None;
  function_of = named;
  class_of = λ n. None;
  type_of = λ n. None;
  is_signature = λ n sig. false;
  is_slot =
      λ n c s. false;
}

abbrev pub gives_of : ℕ → Bool
gives_of zero = true
gives_of (suc n) = false

abbrev pub takes_of : ℕ → ℕ
takes_of zero = 0
takes_of (suc n) = 1

abbrev pub starting_book : Book
starting_book = record {
  held = λ n safe. record { number = n; safe = safe; func = func_of n; body = body_of n; rows = []; notes = notes_of n; table = own_names };
  gives = gives_of;
  takes = takes_of;
  stops = λ n. false;
  numbers = number_of_type;
  thrown = λ t. true;
  takes_as = λ sig count gives. (count == 1) && not gives;
  slot_takes = λ c s count gives. false;
}

-- threads that begin so run in this order, on a memory of zeros and without input, to this end
pub record RunsTo {S : Type 0} (a : Thread S) (main : S) (order : List ℕ) (end : End) : Type 0 where
  pub world : World S
  pub replays : Replays a (record { globals = 0; limit = THREAD_LIMIT }) (first_world no_bytes [] main) order world
  pub end_is : world.end ≡ Some end
