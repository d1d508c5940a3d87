-- Shapes as the code has them, with the nest as a number, and what an instruction makes of one, by its class.
use Rattle.std.specs.Prelude.{Bool, true, ◌≡◌, ℕ, suc, List, ◌∷◌, Option, Some, ◌&&◌, nat_lt, nat_le, nat_eq, length, slice_get}
use Rattle.std.specs.Option.{option_map, option_map_or}
use Rattle.tx_events.specs.Thread.{Open, Sync, in_atomic, in_sync}
use Rattle.tx_code.specs.declared.instr.Instr.{Instr}
use Rattle.tx_code.specs.declared.instr.Instr.TheVariants.{Push, Dup, Pop, Swap, FrameAddr, GlobalAddr, FuncAddr, ClassAddr, Load, Store, TLoad, TStore, VLoad}
use Rattle.tx_code.specs.declared.instr.Instr.TheVariants.{VStore, Bin, Neg, Conv, Jump, JumpZero, Call, TCall, CallIndirect, TCallIndirect, Slot, Ret, Begin}
use Rattle.tx_code.specs.declared.instr.Instr.TheVariants.{End, BeginSync, EndSync, Out, Inp, Spawn, Join, Abort, NewException, PutException, Throw, Rethrow}
use Rattle.tx_code.specs.declared.instr.Instr.TheVariants.{GetException, EndHandler, Resume, Over}
use Rattle.tx_code.specs.Meaning.{block_kinds}
use Rattle.tx_code.specs.Shapes as shapes
use Rattle.tx_code.specs.Shapes.{Table, moves, opened, closed, fewer, at_rest, returned}
use Rattle.code_walk.specs.declared.shapes.Hand.{Hand}
use Rattle.code_walk.specs.declared.shapes.Hand.TheVariants.{Empty, Builds, Flies}
use Rattle.code_walk.specs.declared.shapes.Shape.{Shape}
use Rattle.code_walk.specs.declared.shapes.Change.{Change}
use Rattle.code_walk.specs.declared.shapes.Change.TheVariants.{Moves, Stays, Returns, Begins, Ends, BeginsSync, EndsSync, BuildsException, LeavesHandler}
use Rattle.code_walk.specs.declared.nests.Block.{Block}
use Rattle.code_walk.specs.Nests.{open_of, nest, Extends}

abbrev pub hand_of : Hand → shapes.Hand
hand_of Empty = shapes.Empty
hand_of Builds = shapes.Builds
hand_of Flies = shapes.Flies

-- a shape, by the table of nests
abbrev pub shape_of : List (List Open) → Shape → shapes.Shape
shape_of table s = record { depth = s.depth; opens = nest table s.nest; handlers = s.handlers; hand = hand_of s.hand }

-- its nest is of the table
abbrev pub fits : List (List Open) → Shape → Bool
fits table s = nat_lt s.nest (length table)

abbrev pub change_of : Table → Instr → Change
change_of x (Push v) = Moves 0 1
change_of x Dup = Moves 1 2
change_of x Pop = Moves 1 0
change_of x Swap = Moves 2 2
change_of x Over = Moves 2 3
change_of x (FrameAddr n) = Moves 0 1
change_of x (GlobalAddr n) = Moves 0 1
change_of x (FuncAddr n) = Moves 0 1
change_of x (ClassAddr n) = Moves 0 1
change_of x (Load k) = Moves 1 1
change_of x (Store k) = Moves 2 0
change_of x (TLoad k) = Moves 1 1
change_of x (TStore k) = Moves 2 0
change_of x (VLoad k) = Moves 1 1
change_of x (VStore k) = Moves 2 0
change_of x (Bin op k) = Moves 2 1
change_of x (Neg k) = Moves 1 1
change_of x (Conv k j) = Moves 1 1
change_of x (Jump n) = Stays
change_of x (JumpZero n) = Moves 1 0
change_of x (Call f n) = Moves n (x.gives f)
change_of x (TCall f n) = Moves n (x.gives f)
change_of x (CallIndirect ty n) = Moves (suc n) (x.type_gives ty)
change_of x (TCallIndirect ty n) = Moves (suc n) (x.type_gives ty)
change_of x (Slot c n) = Moves 1 1
change_of x (Ret n) = Returns n
change_of x (Begin n) = Begins n
change_of x End = Ends
change_of x BeginSync = BeginsSync
change_of x EndSync = EndsSync
change_of x Out = Moves 1 1
change_of x Inp = Moves 0 1
change_of x Spawn = Moves 2 1
change_of x Join = Moves 1 0
change_of x Abort = Stays
change_of x (NewException ty) = BuildsException
change_of x (PutException n k) = Moves 1 0
change_of x Throw = Stays
change_of x Rethrow = Stays
change_of x (GetException n k) = Moves 0 1
change_of x EndHandler = LeavesHandler
change_of x Resume = Stays

abbrev pub changed : (own : ℕ) → Change → shapes.Shape → Option shapes.Shape
changed own (Moves n m) s = moves n m s
changed own Stays s = Some s
changed own (Returns n) s = returned (nat_eq n own && at_rest s) n s
changed own (Begins n) s = opened s (slice_get block_kinds n)
changed own Ends s = closed (in_atomic s.opens) s
changed own BeginsSync s = Some (shapes.shape s.depth (Sync ∷ s.opens) s.handlers s.hand)
changed own EndsSync s = closed (in_sync s.opens) s
changed own BuildsException s = Some (shapes.shape s.depth s.opens s.handlers shapes.Builds)
changed own LeavesHandler s = Some (shapes.shape s.depth s.opens (fewer s.handlers) s.hand)

-- the operands are there
abbrev pub found : (own : ℕ) → Change → shapes.Shape → Bool
found own (Moves n m) s = nat_le n s.depth
found own (Returns n) s = nat_eq n own && at_rest s && nat_le n s.depth
found own Stays s = true
found own (Begins n) s = true
found own Ends s = true
found own BeginsSync s = true
found own EndsSync s = true
found own BuildsException s = true
found own LeavesHandler s = true

-- the shape within one more block
abbrev pub opened_in : Block → shapes.Shape → shapes.Shape
opened_in block s = shapes.shape s.depth (open_of block ∷ s.opens) s.handlers s.hand

-- what a step makes of a shape, where the table may grow
pub record Leads (old new : List (List Open)) (o : Option Shape) (p : Option shapes.Shape) : Type 0 where
  pub more : Extends old new
  pub is : option_map (shape_of new) o ≡ p
  pub fit : option_map_or (fits new) o true ≡ true
