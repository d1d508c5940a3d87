-- What a unit refers to: marks for its functions and globals, by their indexes.
use Rattle.std.specs.Prelude.{ℕ, ◌+◌, Bool, true, false, ◌&&◌, ◌||◌, ◌==◌, cond, List, [], ◌∷◌, length, replicate, slice_get, slice_set, Option, Some, None}
use Rattle.std.specs.Prelude.{unwrap_or, option_and_then}
use Rattle.cpp_tree.specs.cpp_types.Class.{Class, Function}
use Rattle.cpp_tree.specs.cpp_types.Equal.{flag_eq, name_eq, signature_eq}
use Rattle.cpp_tree.specs.declared.kinds.TKind.{TKind}
use Rattle.cpp_tree.specs.declared.kinds.TKind.TheVariants as forms
use Rattle.cpp_tree.specs.declared.program.CellKind.{CellKind}
use Rattle.cpp_tree.specs.declared.program.CellKind.TheVariants.{Number, GlobalAddr, FuncAddr}
use Rattle.cpp_tree.specs.Trees.{Tree, node, Trees, none, more}
use Rattle.cpp_tree.specs.Units.{Func, Cell, Global, Definition, SlotFunc, Unit, TypedProgram}

-- the functions and globals that are referred to, and the functions that are called in an atomic block or a safe function
pub record Marks : Type 0 where
  pub funcs : List Bool
  pub globals : List Bool
  pub wanted : List Bool

abbrev pub is_set : List Bool → ℕ → Bool
is_set marks i = unwrap_or (slice_get marks i) false

abbrev pub with_func : ℕ → Marks → Marks
with_func f m = record { funcs = slice_set m.funcs f true; globals = m.globals; wanted = m.wanted }

abbrev pub with_global : ℕ → Marks → Marks
with_global g m = record { funcs = m.funcs; globals = slice_set m.globals g true; wanted = m.wanted }

abbrev pub with_wanted : Bool → ℕ → Marks → Marks
with_wanted inside f m = record { funcs = m.funcs; globals = m.globals; wanted = cond inside (slice_set m.wanted f true) m.wanted }

abbrev pub with_call : Bool → ℕ → Marks → Marks
with_call inside f m = with_wanted inside f (with_func f m)

-- ---- bodies

-- what a node refers to, be it inside an atomic block or a safe function or not
abbrev pub noted : Bool → TKind → Marks → Marks
noted inside (forms.Call f) m = with_call inside f m
noted inside (forms.VirtualCall f c slot pointer) m = with_call inside f m
noted inside (forms.Construct f) m = with_call inside f m
noted inside (forms.CopyConstruct f) m = with_call inside f m
noted inside (forms.Destroy f offset count stride) m = with_call inside f m
noted inside (forms.Function f) m = with_func f m
noted inside (forms.Global g) m = with_global g m
noted inside kind m = m

abbrev pub is_atomic : TKind → Bool
is_atomic (forms.Atomic kind) = true
is_atomic kind = false

abbrev mutual
  pub noted_in : Bool → Tree → Marks → Marks
  noted_in inside (node kind t cat at kids) m = noted_all (inside || is_atomic kind) kids (noted inside kind m)

  pub noted_all : Bool → Trees → Marks → Marks
  noted_all inside none m = m
  noted_all inside (more t ts) m = noted_all inside ts (noted_in inside t m)

abbrev pub noted_body : Bool → Option Tree → Marks → Marks
noted_body inside None m = m
noted_body inside (Some body) m = noted_in inside body m

-- functions from an index on, of which these are safe
abbrev pub noted_bodies : List Bool → ℕ → List Func → Marks → Marks
noted_bodies safe i [] m = m
noted_bodies safe i (f ∷ fs) m = noted_bodies safe (i + 1) fs (noted_body (is_set safe i) f.body m)

-- ---- slots

-- the function in a slot, as its class has it
abbrev pub slot_function : List Class → SlotFunc → Option Function
slot_function classes s = option_and_then (λ (c : Class). slice_get c.functions s.func) (slice_get classes s.class)

abbrev pub is_of_class : ℕ → Option ℕ → Bool
is_of_class class None = false
is_of_class class (Some n) = n == class

-- a function of a unit, a member of `of` that is declared so, is this function of the class
abbrev pub is_that : ℕ → Function → Option ℕ → Function → Bool
is_that class f of declared = is_of_class class of && name_eq declared.name f.name && flag_eq declared.is_const f.is_const
    && signature_eq declared.signature f.signature

-- its index among the unit's functions
abbrev pub index_among : ℕ → Function → ℕ → List Func → Option ℕ
index_among class f i [] = None
index_among class f i (u ∷ us) = cond (is_that class f u.class u.declared) (Some i) (index_among class f (i + 1) us)

abbrev pub index_of : ℕ → List Func → Option Function → Option ℕ
index_of class funcs None = None
index_of class funcs (Some f) = index_among class f 0 funcs

abbrev pub slot_index : List Class → List Func → SlotFunc → Option ℕ
slot_index classes funcs s = index_of s.class funcs (slot_function classes s)

abbrev pub with_func_at : Option ℕ → Marks → Marks
with_func_at None m = m
with_func_at (Some f) m = with_func f m

abbrev pub slots_in : List (List SlotFunc) → ℕ → List SlotFunc
slots_in slots n = unwrap_or (slice_get slots n) []

abbrev pub noted_slots : List Class → List Func → List SlotFunc → Marks → Marks
noted_slots classes funcs [] m = m
noted_slots classes funcs (s ∷ ss) m = noted_slots classes funcs ss (with_func_at (slot_index classes funcs s) m)

abbrev pub noted_classes : TypedProgram → List Func → List Definition → Marks → Marks
noted_classes p funcs [] m = m
noted_classes p funcs (d ∷ ds) m = noted_classes p funcs ds (noted_slots p.classes funcs (slots_in p.slots d.class) m)

-- ---- cells

-- the index of the first with a symbol
abbrev pub global_among : List ℕ → ℕ → List Global → Option ℕ
global_among symbol i [] = None
global_among symbol i (g ∷ gs) = cond (name_eq g.symbol symbol) (Some i) (global_among symbol (i + 1) gs)

abbrev pub func_among : List ℕ → ℕ → List Func → Option ℕ
func_among symbol i [] = None
func_among symbol i (f ∷ fs) = cond (name_eq f.symbol symbol) (Some i) (func_among symbol (i + 1) fs)

abbrev pub with_global_at : Option ℕ → Marks → Marks
with_global_at None m = m
with_global_at (Some g) m = with_global g m

abbrev pub noted_cell : Unit → CellKind → List ℕ → Marks → Marks
noted_cell u Number symbol m = m
noted_cell u GlobalAddr symbol m = with_global_at (global_among symbol 0 u.globals) m
noted_cell u FuncAddr symbol m = with_func_at (func_among symbol 0 u.funcs) m

abbrev pub noted_cells : Unit → List Cell → Marks → Marks
noted_cells u [] m = m
noted_cells u (c ∷ cs) m = noted_cells u cs (noted_cell u c.what c.symbol m)

abbrev pub noted_globals : Unit → List Global → Marks → Marks
noted_globals u [] m = m
noted_globals u (g ∷ gs) m = noted_globals u gs (noted_cells u g.init m)

-- ---- units

abbrev pub no_marks : Unit → Marks
no_marks u = record { funcs = replicate (length u.funcs) false; globals = replicate (length u.globals) false; wanted = replicate (length u.funcs) false }

-- what a unit refers to, where these of its functions are safe
abbrev pub marks_of : TypedProgram → Unit → List Bool → Marks
marks_of p u safe = noted_globals u u.globals (noted_classes p u.funcs u.classes (noted_bodies safe 0 u.funcs (no_marks u)))
