-- Fewer and more operands, and what an instruction does by its class.
use Rattle.std.proofs.Common.{Bool, true, false, ◌≡◌, ◌<◌, inl, inr, ℕ, zero, suc, ◌+◌, ◌-◌, Option, Some, None, refl, sym, ap, ◌∙◌, arith}
use Rattle.std.specs.Prelude.{is_some, nat_le, nat_eq, ◌&&◌, slice_get}
use Rattle.std.proofs.lemmas.Bool.{cases_lt, le-leb, lt-leb}
use Rattle.tx_events.specs.declared.BlockKind.{BlockKind}
use Rattle.tx_events.specs.Thread.{in_atomic, in_sync}
use Rattle.tx_code.specs.declared.instr.Instr.{Instr}
use Rattle.tx_code.specs.declared.instr.Instr.TheVariants.{Push, Dup, Pop, Swap, FrameAddr, GlobalAddr, FuncAddr, ClassAddr, Load, Store, TLoad, TStore, VLoad}
use Rattle.tx_code.specs.declared.instr.Instr.TheVariants.{VStore, Bin, Neg, Conv, Jump, JumpZero, Call, TCall, CallIndirect, TCallIndirect, Slot, Ret, Begin}
use Rattle.tx_code.specs.declared.instr.Instr.TheVariants.{End, BeginSync, EndSync, Out, Inp, Spawn, Join, Abort, NewException, PutException, Throw, Rethrow}
use Rattle.tx_code.specs.declared.instr.Instr.TheVariants.{GetException, EndHandler, Resume, Over}
use Rattle.tx_code.specs.Meaning.{block_kinds}
use Rattle.tx_code.specs.Shapes.{Shape, Table, less, more, with_depth, grown, opened, closed, at_rest, returned, outgoing}
use Rattle.code_walk.specs.declared.shapes.Change.{Change}
use Rattle.code_walk.specs.declared.shapes.Change.TheVariants.{Moves, Stays, Returns, Begins, Ends, BeginsSync, EndsSync, BuildsException, LeavesHandler}
use Rattle.code_walk.specs.ShapeViews.{change_of, changed, found}

pub less_some : (n d e : ℕ) → n + e ≡ d → less n d ≡ Some e
less_some zero d e h = ap Some (omega (arith, h))
less_some (suc n) zero e h = absurd (omega (arith, h))
less_some (suc n) (suc d) e h = less_some n d e (omega (arith, h))

pub less_none : (n d : ℕ) → d < n → less n d ≡ None
less_none zero d h = absurd (omega (arith, h))
less_none (suc n) zero h = refl
less_none (suc n) (suc d) h = let k : d < n = omega (arith, h) in less_none n d k

pub more_is : (n d e : ℕ) → n + d ≡ e → more n d ≡ e
more_is zero d e h = omega (arith, h)
more_is (suc n) d e h = ap suc (more_is n d (n + d) refl) ∙ omega (arith, h)

-- an instruction by its class
pub by_class : (x : Table) (own : ℕ) (a : Instr) (s : Shape) → outgoing x own a s ≡ changed own (change_of x a) s
by_class x own (Push v) s = refl
by_class x own Dup s = refl
by_class x own Pop s = refl
by_class x own Swap s = refl
by_class x own Over s = refl
by_class x own (FrameAddr n) s = refl
by_class x own (GlobalAddr n) s = refl
by_class x own (FuncAddr n) s = refl
by_class x own (ClassAddr n) s = refl
by_class x own (Load k) s = refl
by_class x own (Store k) s = refl
by_class x own (TLoad k) s = refl
by_class x own (TStore k) s = refl
by_class x own (VLoad k) s = refl
by_class x own (VStore k) s = refl
by_class x own (Bin op k) s = refl
by_class x own (Neg k) s = refl
by_class x own (Conv k j) s = refl
by_class x own (Jump n) s = refl
by_class x own (JumpZero n) s = refl
by_class x own (Call f n) s = refl
by_class x own (TCall f n) s = refl
by_class x own (CallIndirect ty n) s = refl
by_class x own (TCallIndirect ty n) s = refl
by_class x own (Slot c n) s = refl
by_class x own (Ret n) s = refl
by_class x own (Begin n) s = refl
by_class x own End s = refl
by_class x own BeginSync s = refl
by_class x own EndSync s = refl
by_class x own Out s = refl
by_class x own Inp s = refl
by_class x own Spawn s = refl
by_class x own Join s = refl
by_class x own Abort s = refl
by_class x own (NewException ty) s = refl
by_class x own (PutException n k) s = refl
by_class x own Throw s = refl
by_class x own Rethrow s = refl
by_class x own (GetException n k) s = refl
by_class x own EndHandler s = refl
by_class x own Resume s = refl

some_moved : (s : Shape) (m : ℕ) (o : Option ℕ) → is_some (with_depth s (grown m o)) ≡ is_some o
some_moved s m None = refl
some_moved s m (Some d) = refl

some_less : (n d : ℕ) → is_some (less n d) ≡ nat_le n d
some_less n d = elim (cases_lt d n) [
  | inl h ↦ ap is_some (less_none n d h) ∙ sym (lt-leb n d h)
  | inr h ↦ ap is_some (less_some n d (d - n) (omega (arith, h)))
      ∙ sym (le-leb n d h)
]

some_returned : (b : Bool) (n : ℕ) (s : Shape) → is_some (returned b n s) ≡ (b && nat_le n s.depth)
some_returned true n s = some_moved s 0 (less n s.depth) ∙ some_less n s.depth
some_returned false n s = refl

some_opened : (s : Shape) (o : Option BlockKind) → is_some (opened s o) ≡ true
some_opened s None = refl
some_opened s (Some k) = refl

some_closed : (b : Bool) (s : Shape) → is_some (closed b s) ≡ true
some_closed true s = refl
some_closed false s = refl

some_changed : (own : ℕ) (c : Change) (s : Shape) → is_some (changed own c s) ≡ found own c s
some_changed own (Moves n m) s = some_moved s m (less n s.depth) ∙ some_less n s.depth
some_changed own Stays s = refl
some_changed own (Returns n) s = some_returned (nat_eq n own && at_rest s) n s
some_changed own (Begins n) s = some_opened s (slice_get block_kinds n)
some_changed own Ends s = some_closed (in_atomic s.opens) s
some_changed own BeginsSync s = refl
some_changed own EndsSync s = some_closed (in_sync s.opens) s
some_changed own BuildsException s = refl
some_changed own LeavesHandler s = refl

-- whether an instruction finds its operands
pub finds_is : (x : Table) (own : ℕ) (a : Instr) (s : Shape) → is_some (outgoing x own a s) ≡ found own (change_of x a) s
finds_is x own a s = ap is_some (by_class x own a s) ∙ some_changed own (change_of x a) s
