-- A virtual function of a complete class has its slot.
use Rattle.std.specs.Prelude.{◌≡◌, ℕ, true, List, [], length, Some, is_some, slice_get, unwrap_or}
use Rattle.elab_rules.specs.cpp_types.Class.{Class, Function, completion_of}
use Rattle.elab_rules.specs.cpp_tree.declared.program.FuncKind.TheVariants.{Plain}
use Rattle.elab_rules.specs.cpp_tree.Units.{SlotFunc}
use Rattle.elab_rules.specs.elab_ctx.Ctx.{Func}
use Rattle.elab_rules.specs.Calls.{slot_from, index_in_class}
use Rattle.elab_rules.specs.Classes.{functions_in, same_virtual}
use Rattle.elab_contexts.specs.Steps.{View, is_same_declared}

abbrev pub slots_at : List (List SlotFunc) → ℕ → List SlotFunc
slots_at slots n = unwrap_or (slice_get slots n) []

-- the function of an index in the record of a class has its slot
pub record HasOwnSlot (classes : List Class) (slots : List (List SlotFunc)) (n i : ℕ) (g : Function) : Type 0 where
  pub recorded : slice_get (functions_in (slice_get classes n)) i ≡ Some g
  pub place : ℕ
  pub found : slot_from 0 n i (slots_at slots n) ≡ Some place
  pub slot : SlotFunc
  pub at : slice_get (slots_at slots n) place ≡ Some slot
  pub class : slot.class ≡ n
  pub name : slot.name ≡ g.name
  pub signature : slot.signature ≡ g.signature

-- no other virtual function of the class overrides what this one overrides
abbrev pub IsAlone : List Func → ℕ → ℕ → Func → Type 0
IsAlone funcs n k f = (j : ℕ) (g : Func) (o : Function) → slice_get funcs j ≡ Some g → g.class ≡ Some n → g.declared.is_virtual ≡ true
    → same_virtual g.declared o ≡ true → same_virtual f.declared o ≡ true → j ≡ k

pub record HasSlotsIn (v : View) : Type 0 where
  -- each class has its slots
  pub many : length v.slots ≡ length v.classes
  -- final overriders are functions of complete classes
  pub whole : (n i : ℕ) (x : SlotFunc) → slice_get (slots_at v.slots n) i ≡ Some x → is_some (completion_of v.classes x.class) ≡ true
  -- a plain virtual function of a complete class has its slot, where it is alone
  pub own : (k n : ℕ) (f : Func) → slice_get v.funcs k ≡ Some f → f.class ≡ Some n → f.kind ≡ Plain → f.declared.is_virtual ≡ true
      → is_some (completion_of v.classes n) ≡ true → IsAlone v.funcs n k f → HasOwnSlot v.classes v.slots n (index_in_class n k v.funcs) f.declared
  -- no two plain functions are the same
  pub distinct : (j k : ℕ) (f g : Func) → slice_get v.funcs j ≡ Some f → slice_get v.funcs k ≡ Some g → f.kind ≡ Plain → is_same_declared f g ≡ true → j ≡ k
