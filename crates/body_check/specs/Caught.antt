-- A whole program in which an exception is thrown and caught: `int main() { try { throw 1; } catch (int e) { return e; } return 0; }`, with its code and its
-- notes.
use Rattle.std.specs.Prelude.{ℕ, ◌==◌, cond, true, false, List, [], ◌∷◌, Option, Some, None}
use Rattle.tx_ints.specs.declared.kinds.IntKind.TheVariants.{Int}
use Rattle.tx_code.specs.declared.instr.Instr.TheVariants.{Push, FrameAddr, Load, Store, NewException, PutException, Throw, GetException, EndHandler, Ret}
use Rattle.tx_code.specs.declared.body.Row.{Row}
use Rattle.tx_code.specs.Objects.{BodyView}
use Rattle.tx_code.specs.Renaming.{itself}
use Rattle.tx_code.specs.Meaning.{Names}
use Rattle.cpp_tree.specs.cpp_types.Typ.{Typ, int}
use Rattle.cpp_tree.specs.cpp_layout.Layout.{function_address}
use Rattle.cpp_tree.specs.declared.kinds.TKind.TheVariants.{Literal, Local, Load as Loading, Block, Return, Try, Throw as Throwing, Handler, Field}
use Rattle.cpp_tree.specs.Trees.{Tree, none, more}
use Rattle.cpp_tree.specs.Notation.{plain, effect, prvalue, lvalue}
use Rattle.src_mean.specs.Linked.{Func, Program}
use Rattle.src_mean.specs.Frames.{of_block}
use Rattle.src_mean.specs.Source.{empty_stack}
use Rattle.symbolic_source.specs.Terms.{Term, number, variable, local, converted_to, field, Exception, unknown, made, untouched, put}
use Rattle.symbolic_source.specs.Frames.{value, Run, Passes, Then, Loaded, Returning, Items, Scope, Takes, Handling}
use Rattle.symbolic_source.specs.Frames as symbolic
use Rattle.symbolic_source.specs.Outcomes.{silent, Outcome, goes}
use Rattle.symbolic_source.specs.Steps.{given, advanced}
use Rattle.symbolic_code.specs.Places.{Place, making, nothing, with_operands, holding}
use Rattle.symbolic_code.specs.Following.{Table}
use Rattle.body_check.specs.Notes.{Note, no_answers}
use Rattle.body_check.specs.Calls.{Book, bare}
use Rattle.body_check.specs.Main.{number_of_type}

abbrev pub number_typ : Typ
number_typ = plain (int Int)

abbrev pub thrown_part : Tree
thrown_part = effect (Field 0 Int) []

abbrev pub handler_body : Tree
handler_body = effect (Block false) ((effect Return ((prvalue (Loading Int false) number_typ ((lvalue (Local 0) number_typ []) ∷ [])) ∷ [])) ∷ [])

abbrev pub last_return : Tree
last_return = effect Return ((prvalue (Literal 0) number_typ []) ∷ [])

abbrev pub catch_func : Func
catch_func = record {
  unit = 0;
  size = 16;
  places = 0 ∷ [];
  words = [];
  stops = false;
  safe = true;
  body = effect (Block false) (
      (effect Try (
      (effect (Block false) ((effect Throwing ((prvalue (Literal 1) number_typ []) ∷ thrown_part ∷ [])) ∷ [])) ∷
      (prvalue (Handler (Some 0)) number_typ (handler_body ∷ thrown_part ∷ [])) ∷ [])) ∷
      last_return ∷ []);
}

-- each number is that of main
abbrev pub catch_program : Program
catch_program = record {
  number = λ u n. 0;
  func = λ n. Some catch_func;
  global = λ u n. 0;
  table = λ c. 0;
  slot = λ a c s. None;
  pointed = λ a sig. None;
  classes = [];
  main = 0;
}

-- the handler's row, which takes one type
abbrev pub catch_row : Row
catch_row = record { from = 0; to = 4; target = 4; what = 1; ty = 0; depth = 0 }

abbrev pub catch_body : BodyView
catch_body = record {
  code = Push 1 ∷ NewException 0 ∷ PutException 0 6 ∷ Throw ∷ FrameAddr 0 ∷ GetException 0 6 ∷ Store 6 ∷ FrameAddr 0 ∷ Load 6 ∷ EndHandler ∷ Ret 1 ∷ [];
  rows = catch_row ∷ [];
  lines = [];
}

abbrev pub catch_names : Names
catch_names = record {
  body = λ n safe. Some catch_body;
  frame = λ n. 16;
  no_except = λ n. false;
  numbering = λ n. itself;
  global_address = λ n. 0;
  func_address = λ n. function_address n;
  class_address = λ n. 0;
  stack_start = λ t. (empty_stack t).end;
  stack_end = λ t. (empty_stack t).limit;
  called = λ ty a. None;
  spawned = λ a. None;
  slot_of = λ c a s. None;
  cancels = λ ty. ty == 1;
}

-- so many steps on
abbrev pub after : ℕ → Outcome → Outcome
after n o = advanced catch_program catch_func no_answers n o

abbrev pub catch_begun : Outcome
catch_begun = after 1 (goes silent [] (Passes [] catch_func.words ∷ Then value catch_func.body ∷ []))

-- what is thrown
abbrev pub one_thrown : Exception
one_thrown = made number_typ (put 0 4 (number 1) untouched)

-- what main has left to do behind the `try`
abbrev pub behind_try : List symbolic.Frame
behind_try = Items (more last_return none) ∷ Scope of_block true [] ∷ []

-- the handler takes an exception, and its body runs
abbrev pub taking : Outcome
taking = goes silent [] (Takes (unknown 0) (local 0) (more thrown_part none) ∷ Then value handler_body ∷ Handling (unknown 0) ∷ behind_try)

abbrev pub handling : Outcome
handling = goes silent [] (Run value handler_body ∷ Handling (unknown 0) ∷ behind_try)

-- the word is read, and returned
abbrev pub returning : Outcome
returning = given catch_program catch_func no_answers [] (variable 0)
    (Loaded Int ∷ Returning ∷ Items none ∷ Scope of_block true [] ∷ Handling (unknown 0) ∷ behind_try)

-- in the handler, with these operands
abbrev pub in_handler : List Term → Place
in_handler ws = record { operands = ws; opens = []; caught = unknown 0 ∷ []; hold = nothing }

abbrev pub push_note : Note
push_note = record { index = 0; place = bare 0; facts = []; outcome = catch_begun; lead = 8; rank = 3 }

abbrev pub new_note : Note
new_note = record { index = 1; place = with_operands (bare 0) (number 1 ∷ []); facts = []; outcome = after 8 catch_begun; lead = 0; rank = 3 }

abbrev pub put_note : Note
put_note = record {
  index = 2;
  place = holding (with_operands (bare 0) (number 1 ∷ [])) (making number_typ untouched);
  facts = [];
  outcome =
      after 8 catch_begun;
  lead = 0;
  rank = 2;
}

abbrev pub throw_note : Note
throw_note = record {
  index = 3;
  place = holding (bare 0) (making number_typ (put 0 4 (number 1) untouched));
  facts = [];
  outcome = after 8 catch_begun;
  lead =
      2;
  rank = 1;
}

abbrev pub take_note : Note
take_note = record { index = 4; place = in_handler []; facts = []; outcome = taking; lead = 2; rank = 3 }

abbrev pub get_note : Note
get_note = record { index = 5; place = in_handler (local 0 ∷ []); facts = []; outcome = after 2 taking; lead = 0; rank = 2 }

abbrev pub store_note : Note
store_note = record {
  index = 6;
  place = in_handler (converted_to Int (field (unknown 0) 0 4) ∷ local 0 ∷ []);
  facts = [];
  outcome = after 2 taking;
  lead = 0;
  rank = 1;
}

abbrev pub address_note : Note
address_note = record { index = 7; place = in_handler []; facts = []; outcome = handling; lead = 5; rank = 3 }

abbrev pub load_note : Note
load_note = record { index = 8; place = in_handler (local 0 ∷ []); facts = []; outcome = after 5 handling; lead = 0; rank = 2 }

abbrev pub end_note : Note
end_note = record { index = 9; place = in_handler (converted_to Int (variable 0) ∷ []); facts = []; outcome = returning; lead = 1; rank = 1 }

abbrev pub ret_note : Note
ret_note = record {
  index = 10;
  place = with_operands (bare 0) (converted_to Int (variable 0) ∷ []);
  facts = [];
  outcome = after 1 returning;
  lead = 1;
  rank =
      0;
}

abbrev pub catch_notes : List Note
catch_notes = push_note ∷ new_note ∷ put_note ∷ throw_note ∷ take_note ∷ get_note ∷ store_note ∷ address_note ∷ load_note ∷ end_note ∷ ret_note ∷ []

-- the type's name
abbrev pub named_type : ℕ → Option Typ
named_type n = cond (n == 0) (Some number_typ) None

abbrev pub catch_table : Table
catch_table = record {
  global_of = λ n. None;
  function_of = λ n. None;
  class_of = λ n. None;
  type_of = named_type;
  is_signature = λ n sig. false;
  is_slot =
      λ n c s. false;
}

abbrev pub catch_book : Book
catch_book = record {
  held = λ n safe. record { number = n; safe = safe; func = catch_func; body = catch_body; rows = catch_row ∷ []; notes = catch_notes; table = catch_table };
  gives = λ n. true;
  takes = λ n. 0;
  stops = λ n. false;
  numbers = number_of_type;
  thrown = λ t. true;
  takes_as = λ sig count gives. false;
  slot_takes = λ class slot count gives. false;
}
