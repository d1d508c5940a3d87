-- Straight code that leads to where something else is left to write.
use Rattle.std.specs.Prelude.{ℕ, ◌≡◌, ◌+◌, ◌-◌, nat_eq, cond, Bool, true, false, not, ◌&&◌, List, [], ◌∷◌, ◌++◌}
use Rattle.tx_code.specs.declared.instr.Instr.{Instr}
use Rattle.tx_code.specs.declared.instr.Instr.TheVariants.{Push, Dup, Over, Swap, Bin}
use Rattle.cpp_tree.specs.cpp_types.declared.classes.At.{At}
use Rattle.cpp_tree.specs.declared.arena.TNodeId.{TNodeId}
use Rattle.low_code.specs.declared.numbers.TheConstants.{ADDRESS}
use Rattle.low_code.specs.declared.scopes.ScopeKind.{ScopeKind}
use Rattle.low_code.specs.declared.writer.LowInstr.{LowInstr}
use Rattle.low_code.specs.Effects.{ends}
use Rattle.low_code.specs.Numbers.{address_sum, address_difference}
use Rattle.src_mean.specs.Linked.{Program}
use Rattle.symbolic_source.specs.Terms.{Term, Exception}
use Rattle.symbolic_source.specs.Outcomes.{Outcome, chooses}
use Rattle.symbolic_source.specs.Steps.{advanced}
use Rattle.symbolic_code.specs.Facts.{Fact}
use Rattle.symbolic_code.specs.Places.{Place, with_operands}
use Rattle.body_check.specs.Notes.{Bounds, no_answers}
use Rattle.body_check.specs.Calls.{Book}
use Rattle.body_check.specs.Linked.{Held}
use Rattle.unwind_lower.specs.declared.items.Item.{Item}
use Rattle.unwind_lower.specs.declared.items.Way.{Way}
use Rattle.unwind_lower.specs.declared.items.Way.TheVariants.{Value, Dropped, Into, Copying}
use Rattle.unwind_lower.specs.States.{State, put}
use Rattle.unwind_lower.specs.Settings.{Setting}
use Rattle.lowered_frames.specs.Modes.{Mode}
use Rattle.lowered_frames.specs.Left.{Left, operands}
use Rattle.lowered_notes.specs.Straight.{Straight}
use Rattle.lowered_steps.specs.Ahead.{standing, comes_of, Filled}

-- from a place, where the source does this next, instructions lead to where that is left to write, and the source takes so many silent steps there
module _ (p : Program) (b : Bounds) (book : Book) (h : Held) (g : Setting) (q : Place) (o : Outcome) {n : Mode} {others : List Item} (e : Left g n others)
    (outer : List ScopeKind) where
  pub record Passes (steps : ℕ) (known : List Fact) (instrs : List Instr) : Type 0 where
    pub value : Term
    pub exceptions : List Exception
    pub terms : List Term
    pub filled : Filled p b book h g e outer value exceptions terms known
    pub moved : Straight known instrs q.operands (operands g e outer value terms)
    pub place_is : with_operands q (operands g e outer value terms) ≡ standing p b book h g e outer value exceptions terms
    pub outcome_is : advanced p h.func no_answers steps o ≡ comes_of p b book h g e outer value exceptions terms

-- the index behind instructions, and the rank of the last one
abbrev pub index_behind : List Instr → ℕ → ℕ
index_behind [] index = index
index_behind (a ∷ rest) index = index_behind rest (index + 1)

abbrev pub rank_of_last : List Instr → ℕ → ℕ
rank_of_last [] rank = rank
rank_of_last (a ∷ []) rank = rank
rank_of_last (a ∷ c ∷ rest) rank = rank_of_last (c ∷ rest) (rank - 1)

-- no choice of the source comes next
abbrev pub is_choice : Outcome → Bool
is_choice (chooses w first other) = true
is_choice o = false

-- ---- the instructions of some items

-- a number is added to the address on top
abbrev pub offset_instrs : ℕ → List Instr
offset_instrs offset = cond (nat_eq offset 0) [] (Push offset ∷ address_sum ∷ [])

-- the addresses of a part
abbrev pub part_instrs : Way → ℕ → List Instr
part_instrs Into offset = Dup ∷ offset_instrs offset
part_instrs Copying offset = Over ∷ (offset_instrs offset ++ Over ∷ offset_instrs offset)
part_instrs Value offset = []
part_instrs Dropped offset = []

-- the next element, and how many are left, once more
abbrev pub next_instrs : ℕ → List Instr
next_instrs stride = Swap ∷ (offset_instrs stride ++ Swap ∷ Push 1 ∷ address_difference ∷ Dup ∷ [])

-- the address stays where more rows of destructions come
abbrev pub keep_instrs : List TNodeId → List Instr
keep_instrs [] = []
keep_instrs (id ∷ ids) = Dup ∷ []

-- the address of the last object that is left
abbrev pub last_instrs : ℕ → List Instr
last_instrs stride = Push 1 ∷ address_difference ∷ Over ∷ Over ∷ Push stride ∷ Bin 2 ADDRESS ∷ address_sum ∷ []

-- ---- instructions that are put one behind the other

abbrev pub put_all : List Instr → At → State → State
put_all [] at s = s
put_all (a ∷ rest) at s = put_all rest at (put a at s)

abbrev pub lows : List Instr → At → ℕ → List LowInstr
lows [] at rows = []
lows (a ∷ rest) at rows = record { instr = a; at = at; scope = rows } ∷ lows rest at rows

-- each of them goes on
abbrev pub all_go_on : List Instr → Bool
all_go_on [] = true
all_go_on (a ∷ rest) = not (ends a) && all_go_on rest
