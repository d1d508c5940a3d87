-- Sound code, by eleven clauses on each body of a function.
use Rattle.std.specs.Prelude.{Bool, true, false, ◌≡◌, ℕ, zero, suc, ◌+◌, ◌-◌, ◌%◌, find, unwrap_or, List, [], length, Option, Some, IfSome, not, ◌&&◌, ◌||◌}
use Rattle.std.specs.Prelude.{nat_lt, nat_le, nat_eq, is_some, slice_get}
use Rattle.std.specs.List.{list_all, list_any}
use Rattle.std.specs.Option.{option_map_or}
use Rattle.tx_events.specs.Thread.{Open, in_atomic, in_kind, in_sync, no_atomic, is_empty}
use Rattle.tx_events.specs.declared.BlockKind.TheVariants.{NoExcept, Commit, Cancel}
use Rattle.tx_events.specs.Memory.{stack_size}
use Rattle.tx_events.specs.declared.TheConstants.{EXCEPTION_SIZE}
use Rattle.tx_code.specs.declared.instr.Instr.{Instr}
use Rattle.tx_code.specs.declared.instr.Instr.TheVariants.{GlobalAddr, FuncAddr, ClassAddr, Load, Store, TLoad, TStore, VLoad, VStore, Bin, Neg, Conv, Jump}
use Rattle.tx_code.specs.declared.instr.Instr.TheVariants.{JumpZero, Call, TCall, CallIndirect, TCallIndirect, Slot, Ret, Begin, End, EndSync, Out, Inp, Spawn}
use Rattle.tx_code.specs.declared.instr.Instr.TheVariants.{Join, Abort, NewException, PutException, Throw, Rethrow, GetException, EndHandler, Resume}
use Rattle.tx_code.specs.declared.body.Row.{Row}
use Rattle.tx_code.specs.Objects.{BodyView, FuncView, ClassView, GlobalView, ObjectView}
use Rattle.tx_code.specs.WellFormed.{is_defined, is_wanted_safe}
use Rattle.tx_code.specs.Images.{ImageFuncView, ImageClassView, ImageView}
use Rattle.tx_code.specs.Signatures.{takes_of, gives_of}
use Rattle.tx_code.specs.Meaning.{kinds, size_of, covers}
use Rattle.tx_code.specs.Shapes.{Hand, Empty, Builds, Flies, Shape, shape, Table, less, outgoing, Among, Reaches}

-- a function as its bodies are judged: the words that it takes and hands back
pub record Signature : Type 0 where
  pub takes : ℕ
  pub gives : ℕ

abbrev pub entry : Signature → Shape
entry g = shape g.takes [] 0 Empty

-- ---- 1: targets and rows lie in the body, and it does not run out of its end

abbrev pub target_lies : (instrs : ℕ) → Instr → Bool
target_lies n (Jump t) = nat_lt t n
target_lies n (JumpZero t) = nat_lt t n
target_lies n a = true

abbrev pub row_lies : (instrs : ℕ) → Row → Bool
row_lies n r = nat_lt r.from n && nat_le r.to n && nat_lt r.target n

abbrev pub is_last : Instr → Bool
is_last (Jump t) = true
is_last (Ret n) = true
is_last Throw = true
is_last Rethrow = true
is_last Resume = true
is_last Abort = true
is_last a = false

-- ---- 2: kinds, operators and sorts are of their tables

abbrev pub is_kind : ℕ → Bool
is_kind k = nat_lt k 12

-- from `int` on; a kind of a lower rank is promoted (C++14 4.5)
abbrev pub is_promoted : ℕ → Bool
is_promoted k = nat_le 6 k && nat_lt k 12

abbrev pub is_known : Instr → Bool
is_known (Load k) = is_kind k
is_known (Store k) = is_kind k
is_known (TLoad k) = is_kind k
is_known (TStore k) = is_kind k
is_known (VLoad k) = is_kind k
is_known (VStore k) = is_kind k
is_known (Bin op k) = nat_lt op 16 && is_promoted k
is_known (Neg k) = is_promoted k
is_known (Conv k j) = is_kind k && is_kind j
is_known (Begin n) = nat_lt n 3
is_known (PutException n k) = is_kind k
is_known (GetException n k) = is_kind k
is_known a = true

abbrev pub row_is_known : Row → Bool
row_is_known r = nat_lt r.what 7 && (nat_eq r.what 1 || nat_eq r.ty 0)

-- ---- 3: names stand for what their instruction needs

abbrev pub names_right : Table → Instr → Bool
names_right x (GlobalAddr s) = x.is_global s
names_right x (FuncAddr s) = x.is_func s
names_right x (ClassAddr s) = x.is_class s
names_right x (Call s n) = x.is_func s
names_right x (TCall s n) = x.is_func s
names_right x (CallIndirect ty n) = x.is_type ty
names_right x (TCallIndirect ty n) = x.is_type ty
names_right x (Slot c n) = x.is_slot c n
names_right x (NewException ty) = x.is_type ty
names_right x a = true

abbrev pub row_names_right : Table → Row → Bool
row_names_right x r = not (nat_eq r.what 1) || x.is_type r.ty

-- ---- 6: a call passes the words that are taken

abbrev pub passes : Table → Instr → Bool
passes x (Call f n) = nat_eq n (x.takes f)
passes x (TCall f n) = nat_eq n (x.takes f)
passes x (CallIndirect ty n) = nat_eq n (x.type_takes ty)
passes x (TCallIndirect ty n) = nat_eq n (x.type_takes ty)
passes x a = true

-- ---- 7: exceptions are where they are used, and have `EXCEPTION_SIZE` bytes

abbrev pub is_building : Hand → Bool
is_building Builds = true
is_building Empty = false
is_building Flies = false

abbrev pub is_flying : Hand → Bool
is_flying Flies = true
is_flying Empty = false
is_flying Builds = false

abbrev pub lies_in_exception : (offset kind : ℕ) → Bool
lies_in_exception n k = option_map_or (λ j. nat_le (n + size_of j) EXCEPTION_SIZE) (slice_get kinds k) false

abbrev pub exception_right : Instr → Shape → Bool
exception_right (PutException n k) s = is_building s.hand && lies_in_exception n k
exception_right Throw s = is_building s.hand
exception_right (GetException n k) s = nat_lt 0 s.handlers && lies_in_exception n k
exception_right EndHandler s = nat_lt 0 s.handlers
exception_right Resume s = is_flying s.hand
exception_right a s = true

-- ---- 8 and 9: instructions in transactions and outside of them

-- what is never in a transaction; and a function that is called there has a safe body
abbrev pub inside_right : Table → Instr → Bool
inside_right x (Load k) = false
inside_right x (Store k) = false
inside_right x (VLoad k) = false
inside_right x (VStore k) = false
inside_right x (Call f n) = false
inside_right x (CallIndirect ty n) = false
inside_right x Out = false
inside_right x Inp = false
inside_right x Spawn = false
inside_right x Join = false
inside_right x (TCall f n) = x.has_safe f
inside_right x a = true

-- what is never outside
abbrev pub outside_right : Instr → Bool
outside_right (TLoad k) = false
outside_right (TStore k) = false
outside_right (TCall f n) = false
outside_right (TCallIndirect ty n) = false
outside_right a = true

abbrev pub is_inside : (safe : Bool) → List Open → Bool
is_inside safe opens = safe || not (no_atomic opens)

-- ---- 10: blocks

abbrev pub closes_right : Instr → Shape → Bool
closes_right End s = in_atomic s.opens
closes_right EndSync s = in_sync s.opens
closes_right a s = true

abbrev pub is_edge : Row → Bool
is_edge r = nat_le 3 r.what

-- the innermost open block is of an edge row's kind
abbrev pub edge_right : (what : ℕ) → List Open → Bool
edge_right zero opens = true
edge_right (suc zero) opens = true
edge_right (suc (suc zero)) opens = true
edge_right (suc (suc (suc zero))) opens = in_kind NoExcept opens
edge_right (suc (suc (suc (suc zero)))) opens = in_kind Commit opens
edge_right (suc (suc (suc (suc (suc zero))))) opens = in_kind Cancel opens
edge_right (suc (suc (suc (suc (suc (suc n)))))) opens = in_sync opens

abbrev pub has_edge : List Row → (index : ℕ) → Bool
has_edge rows i = list_any (λ (r : Row). is_edge r && covers r i) rows

-- ---- 11: operands that rows keep, and frames

-- what is left where a call has taken its words
abbrev pub kept : ℕ → ℕ → ℕ
kept n d = option_map_or (λ rest. rest) (less n d) d

abbrev pub left_at : Instr → (depth : ℕ) → ℕ
left_at (Call f n) d = kept n d
left_at (TCall f n) d = kept n d
left_at (CallIndirect ty n) d = kept (suc n) d
left_at (TCallIndirect ty n) d = kept (suc n) d
left_at a d = d

abbrev pub frame_right : ℕ → Bool
frame_right size = nat_eq (size % 16) 0 && nat_le 16 size && nat_le size stack_size

-- ---- bodies, functions and images

pub record SoundBody (x : Table) (g : Signature) (safe : Bool) (b : BodyView) : Type 0 where
  pub filled : nat_lt 0 (length b.code) ≡ true
  pub targets : list_all (target_lies (length b.code)) b.code ≡ true
  pub rows : list_all (row_lies (length b.code)) b.rows ≡ true
  pub last : option_map_or is_last (slice_get b.code (length b.code - 1)) false ≡ true
  pub known : list_all is_known b.code ≡ true
  pub rows_known : list_all row_is_known b.rows ≡ true
  pub names : list_all (names_right x) b.code ≡ true
  pub rows_names : list_all (row_names_right x) b.rows ≡ true
  pub one_shape : (i : ℕ) (s t : Shape) → Reaches x g.gives b (entry g) i s → Reaches x g.gives b (entry g) i t → t ≡ s
  pub operands : (i : ℕ) (s : Shape) (a : Instr) → Reaches x g.gives b (entry g) i s → slice_get b.code i ≡ Some a → is_some (outgoing x g.gives a s) ≡ true
  pub words : (i : ℕ) (s : Shape) (a : Instr) → Reaches x g.gives b (entry g) i s → slice_get b.code i ≡ Some a → passes x a ≡ true
  pub exceptions : (i : ℕ) (s : Shape) (a : Instr) → Reaches x g.gives b (entry g) i s → slice_get b.code i ≡ Some a → exception_right a s ≡ true
  pub inside : (i : ℕ) (s : Shape) (a : Instr) → Reaches x g.gives b (entry g) i s → slice_get b.code i ≡ Some a → is_inside safe s.opens ≡ true
      → inside_right x a ≡ true
  pub outside : (i : ℕ) (s : Shape) (a : Instr) → Reaches x g.gives b (entry g) i s → slice_get b.code i ≡ Some a → is_inside safe s.opens ≡ false
      → outside_right a ≡ true
  pub closes : (i : ℕ) (s : Shape) (a : Instr) → Reaches x g.gives b (entry g) i s → slice_get b.code i ≡ Some a → closes_right a s ≡ true
  pub edges : (i : ℕ) (s : Shape) (r : Row) → Reaches x g.gives b (entry g) i s → Among r b.rows → covers r i ≡ true → edge_right r.what s.opens ≡ true
  pub covered : (i : ℕ) (s : Shape) → Reaches x g.gives b (entry g) i s → (is_empty s.opens || has_edge b.rows i) ≡ true
  pub depths : (i : ℕ) (s : Shape) (a : Instr) (r : Row) → Reaches x g.gives b (entry g) i s → slice_get b.code i ≡ Some a → Among r b.rows → covers r i ≡ true
      → nat_le r.depth (left_at a s.depth) ≡ true

-- ---- images

abbrev pub signature : (ty : List ℕ) → Signature
signature ty = record { takes = takes_of ty; gives = gives_of ty }

abbrev pub table_of : ImageView → Table
table_of i = record {
  is_global = λ offset. nat_lt offset i.size;
  is_func = λ f. nat_lt f (length i.funcs);
  is_class = λ c. nat_lt c (length i.classes);
  is_slot = λ c n. option_map_or (λ (k : ImageClassView). nat_lt n (length k.slots)) (slice_get i.classes c) false;
  is_type = λ ty. nat_lt ty (length i.types);
  has_safe = λ f. option_map_or (λ (g : ImageFuncView). is_some g.safe) (slice_get i.funcs f) false;
  takes = λ f. option_map_or (λ (g : ImageFuncView). takes_of g.ty) (slice_get i.funcs f) 0;
  gives = λ f. option_map_or (λ (g : ImageFuncView). gives_of g.ty) (slice_get i.funcs f) 0;
  type_takes = λ ty. option_map_or takes_of (slice_get i.types ty) 0;
  type_gives = λ ty. option_map_or gives_of (slice_get i.types ty) 0;
}

pub record SoundFunc (x : Table) (f : ImageFuncView) : Type 0 where
  pub frame : frame_right f.frame ≡ true
  pub plain : SoundBody x (signature f.ty) false f.plain
  pub safe : IfSome f.safe (SoundBody x (signature f.ty) true)

-- a sound image
abbrev pub Sound : ImageView → Type 0
Sound i = (n : ℕ) (f : ImageFuncView) → slice_get i.funcs n ≡ Some f → SoundFunc (table_of i) f

-- ---- objects

abbrev pub entry_of : ObjectView → (name : ℕ) → Option FuncView
entry_of o name = find (λ (f : FuncView). nat_eq f.symbol name) o.funcs

abbrev pub spelling : ObjectView → (name : ℕ) → List ℕ
spelling o name = unwrap_or (slice_get o.names name) []

-- what an object's names stand for, by its own entries; a function that is wanted safe has a safe body
abbrev pub object_table : ObjectView → Table
object_table o = record {
  is_global = λ n. list_any (λ (g : GlobalView). nat_eq g.symbol n) o.globals;
  is_func = λ n. is_some (entry_of o n);
  is_class = λ n. list_any (λ (c : ClassView). nat_eq c.name n) o.classes;
  is_slot = λ n slot. list_any (λ (c : ClassView). nat_eq c.name n && nat_lt slot (length c.slots)) o.classes;
  is_type = λ n. nat_lt n (length o.names);
  has_safe = λ n. option_map_or is_wanted_safe (entry_of o n) false;
  takes = λ n. option_map_or (λ (f : FuncView). takes_of (spelling o f.ty)) (entry_of o n) 0;
  gives = λ n. option_map_or (λ (f : FuncView). gives_of (spelling o f.ty)) (entry_of o n) 0;
  type_takes = λ n. takes_of (spelling o n);
  type_gives = λ n. gives_of (spelling o n);
}

pub record SoundEntry (o : ObjectView) (f : FuncView) : Type 0 where
  pub frame : (not (is_defined f) || frame_right f.frame) ≡ true
  pub plain : IfSome f.plain (SoundBody (object_table o) (signature (spelling o f.ty)) false)
  pub safe : IfSome f.safe (SoundBody (object_table o) (signature (spelling o f.ty)) true)

-- a sound object
abbrev pub SoundObject : ObjectView → Type 0
SoundObject o = (f : FuncView) → Among f o.funcs → SoundEntry o f
