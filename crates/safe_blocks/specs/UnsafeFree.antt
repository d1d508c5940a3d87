-- What the safety check is for: what happens in the blocks of a safe program.
use Rattle.std.specs.Prelude.{◌≡◌, ℕ, ℤ, nat_le, Bool, true, false, not, List, take, cond, Option, Some, None, slice_get}
use Rattle.std.specs.List.{list_all}
use Rattle.cpp_tree.specs.tx_events.declared.Reply.{Reply}
use Rattle.cpp_tree.specs.tx_events.Thread.{no_atomic}
use Rattle.cpp_tree.specs.cpp_types.Typ.{Typ}
use Rattle.cpp_tree.specs.declared.program.Program.{Program as TypedUnits}
use Rattle.cpp_tree.specs.Units.{Func, SlotFunc, TypedProgram, program_of}
use Rattle.cpp_tree.specs.WellFormed.{WellFormed}
use Rattle.src_mean.specs.Linked.{Func as LinkedFunc, Program}
use Rattle.src_mean.specs.Links.{Def, func_at, kept_funcs, number_in, def_of_func, is_marked, linked}
use Rattle.src_mean.specs.Frames.{State}
use Rattle.src_mean.specs.Source.{source, begins, main_state}
use Rattle.src_mean.specs.Laws.{is_hidden}
use Rattle.tx_safety.specs.Safe.{IsSafe, is_safe, unit_end}

-- the states that threads come to: of `main`, of threads that begin with any function and argument, and behind them after any replies
pub data Comes (p : Program) : State → Type 0 where
  main : Comes p (main_state p)
  begun : (number func : ℕ) (arg : ℤ) → Comes p (begins p number func arg)
  goes_on : {s : State} (reply : Reply) → Comes p s → Comes p ((source p).after s reply)

-- no event inside an atomic block is volatile, output, input, or the start or join of a thread
pub record HidesBlocks (p : Program) : Type 0 where
  pub hidden : (s : State) → Comes p s → is_hidden ((source p).next s) ((source p).blocks s) ≡ true

-- the program in which unsafe functions have no bodies
abbrev pub safe_func : Option LinkedFunc → Option LinkedFunc
safe_func None = None
safe_func (Some f) = cond f.safe (Some f) None

abbrev pub safe_part : Program → Program
safe_part p = record p { func = λ n. safe_func (p.func n) }

-- inside an atomic block threads do the same in that program, where a call of what has no body traps: so no unsafe function is entered there
pub record EntersSafe (p : Program) : Type 0 where
  pub same : (s : State) (reply : Reply) → Comes p s → no_atomic ((source p).blocks ((source p).after s reply)) ≡ false
      → (source (safe_part p)).after s reply ≡ (source p).after s reply

-- the linked program of a typed one, in which exactly the safe functions have safe bodies
abbrev pub safely_linked : (SlotFunc → Option (List ℕ)) → (entry : List ℕ) → TypedProgram → Program
safely_linked symbol entry t = linked (is_safe t) symbol entry t

-- a function that is safe in a unit is so where its kept definition stands, which the linker sees to
pub record LinksSafely (t : TypedProgram) : Type 0 where
  pub kept : (unit n : ℕ) (f : Func) (d : Def) → func_at t unit n ≡ Some f → is_safe t unit n ≡ true
      → slice_get (kept_funcs t) (number_in (def_of_func unit n f) (kept_funcs t)) ≡ Some d → is_safe t d.unit d.place ≡ true

-- Marks of `volatile` on the words of a call. The check reads them off the parameters. A well-formed function may also have such a word for its object;
-- functions that were written have none

abbrev pub has_unmarked_words : Func → Bool
has_unmarked_words f = list_all (λ (t : Typ). not (is_marked t)) (take f.words f.frame)

-- so in each safe function; and offsets are numbers of 32 bits
pub record IsUnmarked (t : TypedProgram) : Type 0 where
  pub words : (unit n : ℕ) (f : Func) → func_at t unit n ≡ Some f → is_safe t unit n ≡ true → has_unmarked_words f ≡ true
  pub places : (unit n : ℕ) (f : Func) → func_at t unit n ≡ Some f → nat_le f.closed_at unit_end ≡ true

-- the blocks of a safe program are hidden and enter safe functions alone, whatever its slots name
pub record UnsafeFree (p : TypedUnits) : Type 0 where
  pub free : (symbol : SlotFunc → Option (List ℕ)) (entry : List ℕ) → WellFormed p → IsSafe (program_of p) → LinksSafely (program_of p)
      → IsUnmarked (program_of p)
      → HidesBlocks (safely_linked symbol entry (program_of p))
  pub enters : (symbol : SlotFunc → Option (List ℕ)) (entry : List ℕ) → WellFormed p → IsSafe (program_of p) → LinksSafely (program_of p)
      → IsUnmarked (program_of p)
      → EntersSafe (safely_linked symbol entry (program_of p))
