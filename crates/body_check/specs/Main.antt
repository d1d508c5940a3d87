-- A whole program that is checked: `int main() { return 0; }`, with its code and its notes.
use Rattle.std.specs.Prelude.{ℕ, ◌==◌, cond, true, false, [], ◌∷◌, Some, None}
use Rattle.tx_ints.specs.declared.kinds.IntKind.TheVariants.{Int}
use Rattle.tx_code.specs.declared.instr.Instr.TheVariants.{Push, Ret}
use Rattle.tx_code.specs.Objects.{BodyView}
use Rattle.tx_code.specs.Renaming.{itself}
use Rattle.tx_code.specs.Meaning.{Names}
use Rattle.cpp_tree.specs.cpp_types.Typ.{Typ, int}
use Rattle.cpp_tree.specs.cpp_layout.Layout.{function_address}
use Rattle.cpp_tree.specs.declared.kinds.TKind.TheVariants.{Literal, Block, Return}
use Rattle.cpp_tree.specs.Notation.{plain, effect, prvalue}
use Rattle.src_mean.specs.Linked.{Func, Program}
use Rattle.src_mean.specs.Exceptions.{cancels}
use Rattle.src_mean.specs.Source.{empty_stack}
use Rattle.symbolic_source.specs.Terms.{number}
use Rattle.symbolic_source.specs.Frames.{value, Passes, Then}
use Rattle.symbolic_source.specs.Outcomes.{silent, Outcome, goes}
use Rattle.symbolic_source.specs.Steps.{advanced}
use Rattle.symbolic_code.specs.Places.{with_operands}
use Rattle.symbolic_code.specs.Following.{Table}
use Rattle.body_check.specs.Notes.{Note, no_answers}
use Rattle.body_check.specs.Calls.{Book, bare}

abbrev pub main_func : Func
main_func = record {
  unit = 0;
  size = 16;
  places = [];
  words = [];
  stops = false;
  safe = true;
  body = effect (Block false) ((effect Return ((prvalue (Literal 0) (plain (int Int)) []) ∷ [])) ∷ []);
}

-- each number is that of main
abbrev pub main_program : Program
main_program = record {
  number = λ u n. 0;
  func = λ n. Some main_func;
  global = λ u n. 0;
  table = λ c. 0;
  slot = λ a c s. None;
  pointed = λ a sig. None;
  classes = [];
  main = 0;
}

abbrev pub main_body : BodyView
main_body = record { code = Push 0 ∷ Ret 1 ∷ []; rows = []; lines = [] }

abbrev pub main_names : Names
main_names = record {
  body = λ n safe. Some main_body;
  frame = λ n. 16;
  no_except = λ n. false;
  numbering = λ n. itself;
  global_address = λ n. 0;
  func_address = λ n. function_address n;
  class_address = λ n. 0;
  stack_start = λ t. (empty_stack t).end;
  stack_end = λ t. (empty_stack t).limit;
  called = λ ty a. None;
  spawned = λ a. None;
  slot_of = λ c a s. None;
  cancels = λ ty. ty == 1;
}

-- main as it is entered, one silent step on
abbrev pub main_begun : Outcome
main_begun = advanced main_program main_func no_answers 1 (goes silent [] (Passes [] main_func.words ∷ Then value main_func.body ∷ []))

abbrev pub first_note : Note
first_note = record { index = 0; place = bare 0; facts = []; outcome = main_begun; lead = 4; rank = 1 }

abbrev pub second_note : Note
second_note = record {
  index = 1;
  place = with_operands (bare 0) (number 0 ∷ []);
  facts = [];
  outcome = advanced main_program main_func no_answers 4 main_begun;
  lead = 1;
  rank = 0;
}

abbrev pub no_names : Table
no_names = record {
  global_of = λ n. None;
  function_of = λ n. None;
  class_of = λ n. None;
  type_of = λ n. None;
  is_signature = λ n sig. false;
  is_slot =
      λ n c s. false;
}

-- a type that supports cancellation has number 1, any other 0
abbrev pub number_of_type : Typ → ℕ
number_of_type t = cond (cancels t) 1 0

abbrev pub main_book : Book
main_book = record {
  held = λ n safe. record { number = n; safe = safe; func = main_func; body = main_body; rows = []; notes = first_note ∷ second_note ∷ []; table = no_names };
  gives = λ n. true;
  takes = λ n. 0;
  stops = λ n. false;
  numbers = number_of_type;
  thrown = λ t. true;
  takes_as = λ sig count gives. false;
  slot_takes = λ class slot count gives. false;
}
