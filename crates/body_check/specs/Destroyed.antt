-- A whole program with a loop over an array: `struct E { ~E() { } }; int main() { E e[3]; return 0; }`, with its code and its notes. One note at each index of
-- the loop serves all rounds.
use Rattle.std.specs.Prelude.{ℕ, zero, suc, ◌==◌, Bool, true, false, List, [], ◌∷◌, Some, None}
use Rattle.tx_ints.specs.declared.kinds.IntKind.TheVariants.{Int, ULong}
use Rattle.tx_code.specs.declared.instr.Instr.TheVariants.{Push, Dup, Pop, Swap, Over, FrameAddr, Store, Bin, Jump, JumpZero, Call, Ret}
use Rattle.tx_code.specs.Objects.{BodyView}
use Rattle.tx_code.specs.Renaming.{itself}
use Rattle.tx_code.specs.Meaning.{Names}
use Rattle.cpp_tree.specs.cpp_types.Typ.{int}
use Rattle.cpp_tree.specs.cpp_layout.Layout.{function_address}
use Rattle.cpp_tree.specs.declared.kinds.TKind.TheVariants.{Literal, Local, Block, Return, Defer, Destroy}
use Rattle.cpp_tree.specs.Trees.{none}
use Rattle.cpp_tree.specs.Notation.{plain, effect, prvalue, lvalue}
use Rattle.src_mean.specs.Linked.{Func, Program}
use Rattle.src_mean.specs.Source.{empty_stack}
use Rattle.symbolic_source.specs.Terms.{Term, number, variable, local, sum, product, before}
use Rattle.symbolic_source.specs.Frames.{value, returns, known, Run, Passes, Then, Gives, Leaves, Due, Cleans, Destroys}
use Rattle.symbolic_source.specs.Frames as symbolic
use Rattle.symbolic_source.specs.Outcomes.{silent, Outcome, goes, goes_out, chooses, calls}
use Rattle.symbolic_source.specs.Steps.{advanced}
use Rattle.symbolic_code.specs.Facts.{not_zero}
use Rattle.symbolic_code.specs.Places.{with_operands}
use Rattle.symbolic_code.specs.Following.{Table}
use Rattle.body_check.specs.Notes.{Note, no_answers, variables}
use Rattle.body_check.specs.Calls.{Book, bare}
use Rattle.body_check.specs.Main.{number_of_type}
use Rattle.body_check.specs.Pair.{number_of, named}

abbrev pub array_func : Func
array_func = record {
  unit = 0;
  size = 16;
  places = 0 ∷ [];
  words = [];
  stops = false;
  safe = true;
  body = effect (Block false) (
      (effect Defer ((lvalue (Local 0) (plain (int Int)) []) ∷ (effect (Destroy 1 0 3 1) []) ∷ [])) ∷
      (effect Return ((prvalue (Literal 0) (plain (int Int)) []) ∷ [])) ∷ []);
}

-- the destructor
abbrev pub own_func : Func
own_func = record {
  unit = 0;
  size = 16;
  places = 0 ∷ [];
  words = record { offset = 0; kind = ULong; volatile = false } ∷ [];
  stops = true;
  safe = true;
  body = effect (Block false) [];
}

-- main has number 0, and each other number is that of the destructor
abbrev pub func_of : ℕ → Func
func_of zero = array_func
func_of (suc n) = own_func

abbrev pub array_program : Program
array_program = record {
  number = λ u n. number_of n;
  func = λ n. Some (func_of n);
  global = λ u n. 0;
  table = λ c. 0;
  slot = λ a c s. None;
  pointed = λ a sig. None;
  classes = [];
  main = 0;
}

abbrev pub array_body : BodyView
array_body = record {
  code = Push 0 ∷ FrameAddr 0 ∷ Push 3 ∷ Push 1 ∷ Bin 1 9 ∷ Over ∷ Over ∷ Push 1 ∷ Bin 2 9 ∷ Bin 0 9 ∷ Call 1 1 ∷ Dup ∷ JumpZero 14 ∷ Jump 3
      ∷ Pop ∷ Pop ∷ Ret 1 ∷ [];
  rows = [];
  lines = [];
}

abbrev pub own_body_code : BodyView
own_body_code = record { code = FrameAddr 0 ∷ Swap ∷ Store 9 ∷ Ret 0 ∷ []; rows = []; lines = [] }

abbrev pub body_of : ℕ → BodyView
body_of zero = array_body
body_of (suc n) = own_body_code

abbrev pub lets_none_out : ℕ → Bool
lets_none_out zero = false
lets_none_out (suc n) = true

abbrev pub gives_word : ℕ → Bool
gives_word zero = true
gives_word (suc n) = false

abbrev pub word_count : ℕ → ℕ
word_count zero = 0
word_count (suc n) = 1

abbrev pub array_names : Names
array_names = record {
  body = λ n safe. Some (body_of n);
  frame = λ n. 16;
  no_except = λ n. lets_none_out n;
  numbering = λ n. itself;
  global_address = λ n. 0;
  func_address = λ n. function_address n;
  class_address = λ n. 0;
  stack_start = λ t. (empty_stack t).end;
  stack_end = λ t. (empty_stack t).limit;
  called = λ ty a. None;
  spawned = λ a. None;
  slot_of = λ c a s. None;
  cancels = λ ty. ty == 1;
}

abbrev pub begun : Func → ℕ → Outcome
begun f n = advanced array_program f no_answers 1 (goes silent [] (Passes (variables 0 n) f.words ∷ Then value f.body ∷ []))

abbrev pub begun_main : Outcome
begun_main = begun array_func 0

abbrev pub begun_own : Outcome
begun_own = begun own_func 1

abbrev pub own_body : Outcome
own_body = goes silent [] (Run value own_func.body ∷ [])

-- the first element that is destroyed is the last one
abbrev pub first_call : Outcome
first_call = advanced array_program array_func no_answers 10 begun_main

-- one less of those that are left
abbrev pub left : Term
left = before (variable 0)

abbrev pub behind_array : List symbolic.Frame
behind_array = Gives (local 0) ∷ Due none ∷ Cleans [] ∷ Leaves (returns (number 0)) ∷ []

abbrev pub next_call : Outcome
next_call = calls (known 1) (sum (local 0) (product left (number 1)) ∷ []) [] (Destroys 1 (local 0) 1 left ∷ behind_array)

abbrev pub all_done : Outcome
all_done = goes_out (returns (number 0)) []

abbrev pub more_or_done : Outcome
more_or_done = chooses (variable 0) all_done next_call

abbrev pub main_note_0 : Note
main_note_0 = record { index = 0; place = with_operands (bare 0) ([]); facts = []; outcome = begun_main; lead = 10; rank = 10 }

abbrev pub main_note_1 : Note
main_note_1 = record { index = 1; place = with_operands (bare 0) (number 0 ∷ []); facts = []; outcome = first_call; lead = 0; rank = 9 }

abbrev pub main_note_2 : Note
main_note_2 = record { index = 2; place = with_operands (bare 0) (local 0 ∷ number 0 ∷ []); facts = []; outcome = first_call; lead = 0; rank = 8 }

abbrev pub main_note_3 : Note
main_note_3 = record {
  index = 3;
  place = with_operands (bare 0) (variable 0 ∷ local 0 ∷ number 0 ∷ []);
  facts = not_zero (variable 0) ∷ [];
  outcome =
      next_call;
  lead = 0;
  rank = 7;
}

abbrev pub main_note_4 : Note
main_note_4 = record {
  index = 4;
  place = with_operands (bare 0) (number 1 ∷ variable 0 ∷ local 0 ∷ number 0 ∷ []);
  facts = not_zero (variable 0) ∷ [];
  outcome = next_call;
  lead = 0;
  rank = 6;
}

abbrev pub main_note_5 : Note
main_note_5 = record { index = 5; place = with_operands (bare 0) (left ∷ local 0 ∷ number 0 ∷ []); facts = []; outcome = next_call; lead = 0; rank = 5 }

abbrev pub main_note_6 : Note
main_note_6 = record {
  index = 6;
  place = with_operands (bare 0) (local 0 ∷ left ∷ local 0 ∷ number 0 ∷ []);
  facts = [];
  outcome = next_call;
  lead = 0;
  rank =
      4;
}

abbrev pub main_note_7 : Note
main_note_7 = record {
  index = 7;
  place = with_operands (bare 0) (left ∷ local 0 ∷ left ∷ local 0 ∷ number 0 ∷ []);
  facts = [];
  outcome = next_call;
  lead = 0;
  rank = 3;
}

abbrev pub main_note_8 : Note
main_note_8 = record {
  index = 8;
  place = with_operands (bare 0) (number 1 ∷ left ∷ local 0 ∷ left ∷ local 0 ∷ number 0 ∷ []);
  facts = [];
  outcome = next_call;
  lead = 0;
  rank = 2;
}

abbrev pub main_note_9 : Note
main_note_9 = record {
  index = 9;
  place = with_operands (bare 0) (product left (number 1) ∷ local 0 ∷ left ∷ local 0 ∷ number 0 ∷ []);
  facts = [];
  outcome =
      next_call;
  lead = 0;
  rank = 1;
}

abbrev pub main_note_10 : Note
main_note_10 = record {
  index = 10;
  place = with_operands (bare 0) (sum (local 0) (product left (number 1)) ∷ left ∷ local 0 ∷ number 0 ∷ []);
  facts = [];
  outcome = next_call;
  lead = 0;
  rank = 0;
}

abbrev pub main_note_11 : Note
main_note_11 = record {
  index = 11;
  place = with_operands (bare 0) (variable 0 ∷ local 0 ∷ number 0 ∷ []);
  facts = [];
  outcome = more_or_done;
  lead = 0;
  rank =
      10;
}

abbrev pub main_note_12 : Note
main_note_12 = record {
  index = 12;
  place = with_operands (bare 0) (variable 0 ∷ variable 0 ∷ local 0 ∷ number 0 ∷ []);
  facts = [];
  outcome = more_or_done;
  lead = 0;
  rank = 9;
}

abbrev pub main_note_13 : Note
main_note_13 = record {
  index = 13;
  place = with_operands (bare 0) (variable 0 ∷ local 0 ∷ number 0 ∷ []);
  facts = not_zero (variable 0) ∷ [];
  outcome =
      next_call;
  lead = 0;
  rank = 8;
}

abbrev pub main_note_14 : Note
main_note_14 = record { index = 14; place = with_operands (bare 0) (variable 0 ∷ local 0 ∷ number 0 ∷ []); facts = []; outcome = all_done; lead = 0; rank = 3 }

abbrev pub main_note_15 : Note
main_note_15 = record { index = 15; place = with_operands (bare 0) (local 0 ∷ number 0 ∷ []); facts = []; outcome = all_done; lead = 0; rank = 2 }

abbrev pub main_note_16 : Note
main_note_16 = record { index = 16; place = with_operands (bare 0) (number 0 ∷ []); facts = []; outcome = all_done; lead = 0; rank = 1 }

abbrev pub own_note_0 : Note
own_note_0 = record { index = 0; place = with_operands (bare 0) (variable 0 ∷ []); facts = []; outcome = begun_own; lead = 0; rank = 2 }

abbrev pub own_note_1 : Note
own_note_1 = record { index = 1; place = with_operands (bare 0) (local 0 ∷ variable 0 ∷ []); facts = []; outcome = begun_own; lead = 0; rank = 1 }

abbrev pub own_note_2 : Note
own_note_2 = record { index = 2; place = with_operands (bare 0) (variable 0 ∷ local 0 ∷ []); facts = []; outcome = begun_own; lead = 0; rank = 0 }

abbrev pub own_note_3 : Note
own_note_3 = record { index = 3; place = with_operands (bare 0) ([]); facts = []; outcome = own_body; lead = 3; rank = 0 }

abbrev pub main_notes : List Note
main_notes = main_note_0 ∷ main_note_1 ∷ main_note_2 ∷ main_note_3 ∷ main_note_4 ∷ main_note_5 ∷ main_note_6 ∷ main_note_7 ∷ main_note_8 ∷ main_note_9
    ∷ main_note_10 ∷ main_note_11 ∷ main_note_12 ∷ main_note_13 ∷ main_note_14 ∷ main_note_15 ∷ main_note_16 ∷ []

abbrev pub own_notes : List Note
own_notes = own_note_0 ∷ own_note_1 ∷ own_note_2 ∷ own_note_3 ∷ []

abbrev pub notes_of : ℕ → List Note
notes_of zero = main_notes
notes_of (suc n) = own_notes

abbrev pub array_table : Table
array_table = record {
  global_of = λ n. None;
  function_of = named;
  class_of = λ n. None;
  type_of = λ n. None;
  is_signature = λ n sig. false;
  is_slot =
      λ n c s. false;
}

abbrev pub array_book : Book
array_book = record {
  held = λ n safe. record { number = n; safe = safe; func = func_of n; body = body_of n; rows = []; notes = notes_of n; table = array_table };
  gives = gives_word;
  takes = word_count;
  stops = lets_none_out;
  numbers = number_of_type;
  thrown = λ t. true;
  takes_as = λ sig count gives. false;
  slot_takes = λ class slot count gives. false;
}
