-- Worked bodies: each in C++, its typed tree, the code that the compiler writes, and how the source goes along with it.
use Rattle.std.specs.Prelude.{ℕ, true, false, List, [], ◌∷◌, Option, Some, None, slice_get}
use Rattle.std.specs.Option.{option_and_then}
use Rattle.tx_ints.specs.declared.kinds.IntKind.TheVariants.{Int}
use Rattle.tx_ints.specs.declared.kinds.BinOp.TheVariants.{Add}
use Rattle.tx_code.specs.declared.instr.Instr.{Instr}
use Rattle.tx_code.specs.declared.instr.Instr.TheVariants.{Push, Swap, FrameAddr, Load, Store, Bin, Ret}
use Rattle.cpp_tree.specs.cpp_types.Typ.{Typ, int}
use Rattle.cpp_tree.specs.declared.kinds.TKind.TheVariants.{Literal, Local, Load as Loading, Binary, Block, Return}
use Rattle.cpp_tree.specs.Notation.{plain, effect, prvalue, lvalue}
use Rattle.src_mean.specs.Linked.{Func, Program}
use Rattle.symbolic_source.specs.Terms.{Term, variable}
use Rattle.symbolic_source.specs.Frames.{value, Passes, Then}
use Rattle.symbolic_source.specs.Outcomes.{silent, Outcome, goes}
use Rattle.symbolic_source.specs.Steps.{given, advanced}
use Rattle.symbolic_source.specs.Replacing.{in_waitings, in_frames}
use Rattle.symbolic_code.specs.Places.{Place, nothing, later}
use Rattle.symbolic_code.specs.Following.{Table, Next, refused, quietly, either_way, unless_trap, loudly, throwing, finding, starting, rethrowing, ends}
use Rattle.symbolic_code.specs.Following.{followed}
use Rattle.body_check.specs.Notes.{no_answers, variables}

-- where a body without jumps goes on
pub record Point : Type 0 where
  pub index : ℕ
  pub place : Place
  pub outcome : Outcome

abbrev pub point : ℕ → Place → Outcome → Point
point i q o = record { index = i; place = q; outcome = o }

abbrev pub next_point : Program → Func → Next → Option Point
next_point p f refused = None
next_point p f (quietly i q o) = Some (point i q o)
next_point p f (either_way w first other) = None
next_point p f (unless_trap op kind a b next) = next_point p f next
next_point p f (loudly doing ws k i q) = Some (point i q (given p f no_answers (in_waitings later ws) (variable 0) (in_frames later k)))
next_point p f (finding class slot w next) = None
next_point p f (starting address argument ws k i q) = None
next_point p f (throwing e i q o) = None
next_point p f (rethrowing ws k i q) = None
next_point p f (ends end) = None

abbrev pub step_over : Program → Func → Table → ℕ → Place → Outcome → Option Instr → Option Point
step_over p f t i q o None = None
step_over p f t i q o (Some a) = next_point p f (followed t [] i a q o)

-- along the instructions, where the source takes so many silent steps before each
abbrev pub goes_along : Program → Func → Table → List Instr → (leads : List ℕ) → Point → Option Point
goes_along p f t code [] x = Some x
goes_along p f t code (n ∷ ns) x = option_and_then (λ (y : Point). goes_along p f t code ns y)
    (step_over p f t x.index x.place (advanced p f no_answers n x.outcome) (slice_get code x.index))

-- a function with so many words is entered, one silent step on
abbrev pub entered : Program → Func → ℕ → Point
entered p f n = point 0 (record { operands = variables 0 n; opens = []; caught = []; hold = nothing })
    (advanced p f no_answers 1 (goes silent [] (Passes (variables 0 n) f.words ∷ Then value f.body ∷ [])))

abbrev pub itself : Table
itself = record {
  global_of = λ n. Some n;
  function_of = λ n. Some n;
  class_of = λ n. Some n;
  type_of = λ n. None;
  is_signature = λ n sig. false;
  is_slot =
      λ n c s. false;
}

-- the point at which the outcome has gone on for so many silent steps
abbrev pub outcome_at : Program → Func → ℕ → Option Point → Option Outcome
outcome_at p f n None = None
outcome_at p f n (Some x) = Some (advanced p f no_answers n x.outcome)

abbrev pub operands_at : Option Point → List Term
operands_at None = []
operands_at (Some x) = x.place.operands

--     int f(int a) { return a + 1; }

abbrev pub number_typ : Typ
number_typ = plain (int Int)

abbrev pub sum_func : Func
sum_func = record {
  unit = 0;
  size = 16;
  places = 0 ∷ [];
  words = record { offset = 0; kind = Int; volatile = false } ∷ [];
  stops = false;
  safe = true;
  body = effect (Block false) ((effect Return ((prvalue (Binary Add Int) number_typ (
      (prvalue (Loading Int false) number_typ ((lvalue (Local 0) number_typ []) ∷ [])) ∷
      (prvalue (Literal 1) number_typ []) ∷ [])) ∷ [])) ∷ []);
}

abbrev pub sum_code : List Instr
sum_code = FrameAddr 0 ∷ Swap ∷ Store 6 ∷ FrameAddr 0 ∷ Load 6 ∷ Push 1 ∷ Bin 0 6 ∷ Ret 1 ∷ []

-- how many silent steps the source takes before each of them but the last
abbrev pub sum_leads : List ℕ
sum_leads = 0 ∷ 0 ∷ 0 ∷ 6 ∷ 0 ∷ 1 ∷ 0 ∷ []

abbrev pub sum_run : Program → List Instr → Option Point
sum_run p code = goes_along p sum_func itself code sum_leads (entered p sum_func 1)
