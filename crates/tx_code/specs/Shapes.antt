-- Shapes: what stands ready at an index of a body, and what an instruction or a row makes of it.
use Rattle.std.specs.Prelude.{Bool, true, false, ◌≡◌, ℕ, zero, suc, ◌+◌, List, [], ◌∷◌, Option, Some, None, ◌&&◌, nat_eq, slice_get}
use Rattle.tx_events.specs.declared.BlockKind.{BlockKind}
use Rattle.tx_events.specs.Thread.{Open, Atomic, Sync, in_atomic, in_sync, rest_of, is_empty}
use Rattle.tx_code.specs.declared.instr.Instr.{Instr}
use Rattle.tx_code.specs.declared.instr.Instr.TheVariants.{Push, Dup, Pop, Swap, FrameAddr, GlobalAddr, FuncAddr, ClassAddr, Load, Store, TLoad, TStore, VLoad}
use Rattle.tx_code.specs.declared.instr.Instr.TheVariants.{VStore, Bin, Neg, Conv, Jump, JumpZero, Call, TCall, CallIndirect, TCallIndirect, Slot, Ret, Begin}
use Rattle.tx_code.specs.declared.instr.Instr.TheVariants.{End, BeginSync, EndSync, Out, Inp, Spawn, Join, Abort, NewException, PutException, Throw, Rethrow}
use Rattle.tx_code.specs.declared.instr.Instr.TheVariants.{GetException, EndHandler, Resume, Over}
use Rattle.tx_code.specs.declared.body.Row.{Row}
use Rattle.tx_code.specs.Objects.{BodyView}
use Rattle.tx_code.specs.Meaning.{block_kinds, covers}

-- whether no exception is there, one is being built, or one is in flight
pub data Hand : Type 0 where
  Empty : Hand
  Builds : Hand
  Flies : Hand

-- how many operands there are, the open blocks with the innermost first, the number of entered handlers, and the exception
pub record Shape : Type 0 where
  pub depth : ℕ
  pub opens : List Open
  pub handlers : ℕ
  pub hand : Hand

abbrev pub shape : ℕ → List Open → ℕ → Hand → Shape
shape d o n h = record { depth = d; opens = o; handlers = n; hand = h }

-- what names stand for, as far as shapes and clauses tell: of an image, or of the entries of an object
pub record Table : Type 0 where
  pub is_global : ℕ → Bool
  pub is_func : ℕ → Bool
  pub is_class : ℕ → Bool
  pub is_slot : (class slot : ℕ) → Bool
  pub is_type : ℕ → Bool
  pub has_safe : (func : ℕ) → Bool
  pub takes : (func : ℕ) → ℕ  -- words
  pub gives : (func : ℕ) → ℕ
  pub type_takes : (ty : ℕ) → ℕ
  pub type_gives : (ty : ℕ) → ℕ

-- ---- the effect of an instruction

-- so many fewer, if there are as many
abbrev pub less : ℕ → ℕ → Option ℕ
less zero d = Some d
less (suc n) zero = None
less (suc n) (suc d) = less n d

abbrev pub more : ℕ → ℕ → ℕ
more zero d = d
more (suc n) d = suc (more n d)

abbrev pub with_depth : Shape → Option ℕ → Option Shape
with_depth s None = None
with_depth s (Some d) = Some (shape d s.opens s.handlers s.hand)

abbrev pub grown : ℕ → Option ℕ → Option ℕ
grown n None = None
grown n (Some d) = Some (more n d)

-- takes n operands and leaves m
abbrev pub moves : (n m : ℕ) → Shape → Option Shape
moves n m s = with_depth s (grown m (less n s.depth))

-- a kind that is none opens no block
abbrev pub opened : Shape → Option BlockKind → Option Shape
opened s None = Some s
opened s (Some kind) = Some (shape s.depth (Atomic kind ∷ s.opens) s.handlers s.hand)

abbrev pub closed : Bool → Shape → Option Shape
closed true s = Some (shape s.depth (rest_of s.opens) s.handlers s.hand)
closed false s = Some s

abbrev pub fewer : ℕ → ℕ
fewer zero = zero
fewer (suc n) = n

abbrev pub is_free : Hand → Bool
is_free Empty = true
is_free Builds = false
is_free Flies = false

-- no block is open, no handler entered and no exception built or in flight
abbrev pub at_rest : Shape → Bool
at_rest s = is_empty s.opens && nat_eq s.handlers 0 && is_free s.hand

abbrev pub returned : Bool → ℕ → Shape → Option Shape
returned true n s = moves n 0 s
returned false n s = None

-- the shape after an instruction of a function that hands back `own` words, or none where it does not find its operands
abbrev pub outgoing : Table → (own : ℕ) → Instr → Shape → Option Shape
outgoing x own (Push v) s = moves 0 1 s
outgoing x own Dup s = moves 1 2 s
outgoing x own Pop s = moves 1 0 s
outgoing x own Swap s = moves 2 2 s
outgoing x own Over s = moves 2 3 s
outgoing x own (FrameAddr n) s = moves 0 1 s
outgoing x own (GlobalAddr n) s = moves 0 1 s
outgoing x own (FuncAddr n) s = moves 0 1 s
outgoing x own (ClassAddr n) s = moves 0 1 s
outgoing x own (Load k) s = moves 1 1 s
outgoing x own (Store k) s = moves 2 0 s
outgoing x own (TLoad k) s = moves 1 1 s
outgoing x own (TStore k) s = moves 2 0 s
outgoing x own (VLoad k) s = moves 1 1 s
outgoing x own (VStore k) s = moves 2 0 s
outgoing x own (Bin op k) s = moves 2 1 s
outgoing x own (Neg k) s = moves 1 1 s
outgoing x own (Conv k j) s = moves 1 1 s
outgoing x own (Jump n) s = Some s
outgoing x own (JumpZero n) s = moves 1 0 s
outgoing x own (Call f n) s = moves n (x.gives f) s
outgoing x own (TCall f n) s = moves n (x.gives f) s
outgoing x own (CallIndirect ty n) s = moves (suc n) (x.type_gives ty) s
outgoing x own (TCallIndirect ty n) s = moves (suc n) (x.type_gives ty) s
outgoing x own (Slot c n) s = moves 1 1 s
outgoing x own (Ret n) s = returned (nat_eq n own && at_rest s) n s
outgoing x own (Begin n) s = opened s (slice_get block_kinds n)
outgoing x own End s = closed (in_atomic s.opens) s
outgoing x own BeginSync s = Some (shape s.depth (Sync ∷ s.opens) s.handlers s.hand)
outgoing x own EndSync s = closed (in_sync s.opens) s
outgoing x own Out s = moves 1 1 s
outgoing x own Inp s = moves 0 1 s
outgoing x own Spawn s = moves 2 1 s
outgoing x own Join s = moves 1 0 s
outgoing x own Abort s = Some s
outgoing x own (NewException ty) s = Some (shape s.depth s.opens s.handlers Builds)
outgoing x own (PutException n k) s = moves 1 0 s
outgoing x own Throw s = Some s
outgoing x own Rethrow s = Some s
outgoing x own (GetException n k) s = moves 0 1 s
outgoing x own EndHandler s = Some (shape s.depth s.opens (fewer s.handlers) s.hand)
outgoing x own Resume s = Some s

-- where it leads
abbrev pub targets : Instr → (index : ℕ) → List ℕ
targets (Jump n) i = n ∷ []
targets (JumpZero n) i = n ∷ (i + 1) ∷ []
targets (Ret n) i = []
targets Throw i = []
targets Rethrow i = []
targets Resume i = []
targets Abort i = []
targets a i = (i + 1) ∷ []

-- ---- the effect of a row

-- the shape at its target: in a cleanup and behind an edge an exception is in flight
abbrev pub landed : (what depth : ℕ) → List Open → (handlers : ℕ) → Shape
landed zero d opens n = shape d opens n Flies
landed (suc zero) d opens n = shape d opens (suc n) Empty
landed (suc (suc zero)) d opens n = shape d opens (suc n) Empty
landed (suc (suc (suc w))) d opens n = shape d (rest_of opens) n Flies

-- ---- which indexes come

pub data Among {A : Type 0} : A → List A → Type 0 where
  here : {a : A} {xs : List A} → Among a (a ∷ xs)
  there : {a b : A} {xs : List A} → Among a xs → Among a (b ∷ xs)

-- the effect of an index: its instruction finds its operands in the shape s and makes u of it
pub record Effect (x : Table) (own : ℕ) (b : BodyView) (i : ℕ) (s : Shape) : Type 0 where
  pub instr : Instr
  pub is : slice_get b.code i ≡ Some instr
  pub next : Shape
  pub makes : outgoing x own instr s ≡ Some next

-- the index is reached with this shape: it is the first one, or a jump or a fall leads to it, or a row that covers an index
pub data Reaches (x : Table) (own : ℕ) (b : BodyView) (entry : Shape) : ℕ → Shape → Type 0 where
  enters : Reaches x own b entry 0 entry
  falls : {i j : ℕ} {s : Shape} → Reaches x own b entry i s → (e : Effect x own b i s) → Among j (targets e.instr i) → Reaches x own b entry j e.next
  lands : {i : ℕ} {s : Shape} → Reaches x own b entry i s → Effect x own b i s → (r : Row) → Among r b.rows → covers r i ≡ true
      → Reaches x own b entry r.target (landed r.what r.depth s.opens s.handlers)
