-- What the context of a form holds, wherever elaboration makes one.
use Rattle.std.specs.Prelude.{◌≡◌, ℕ, Bool, true, false, ◌&&◌, ◌||◌, List, Some, None, is_some, slice_get, unwrap_or}
use Rattle.elab_rules.specs.tx_ints.declared.kinds.IntKind.{IntKind}
use Rattle.elab_rules.specs.tx_ints.declared.kinds.IntKind.TheVariants.{ULong}
use Rattle.elab_rules.specs.cpp_types.Typ.{Typ, typ, Form, ptr}
use Rattle.elab_rules.specs.cpp_types.Class.{Class, Member, completion_of}
use Rattle.elab_rules.specs.cpp_types.Equal.{typ_eq}
use Rattle.elab_rules.specs.cpp_tree.declared.kinds.Builtin.{Builtin}
use Rattle.elab_rules.specs.cpp_tree.declared.program.FuncKind.TheVariants.{Plain, ClosureCall}
use Rattle.elab_rules.specs.cpp_tree.Notation.{plain}
use Rattle.elab_rules.specs.cpp_tree.Typing.{passes, kind_in, is_class_typ, is_reference, is_word_of}
use Rattle.elab_rules.specs.cpp_tree.Units.{Global}
use Rattle.elab_rules.specs.cpp_tree.Parts.{has_pointer_at}
use Rattle.elab_rules.specs.cpp_tree.Rows.{Setting, signature_words, builtin_words, builtin_result, has_slot}
use Rattle.elab_rules.specs.elab_ctx.Ctx.{Ctx, Work, Func, Variable, This, Capture, Lambda, Enumerator}
use Rattle.elab_rules.specs.elab_ctx.Types.{Named}
use Rattle.elab_rules.specs.Objects.{traits_at, class_in}
use Rattle.elab_rules.specs.Initialising.{signature_result}
use Rattle.elab_rules.specs.Names.{is_outer, offset_at}
use Rattle.elab_rules.specs.Calls.{slot_of_function, pointer_offset}
use Rattle.elab_rules.specs.Casts.{is_numeric}
use Rattle.elab_fits.specs.Standing.{IsSetting}
use Rattle.elab_fits_objects.specs.Contexts.{HasMakers}
use Rattle.elab_fits_forms.specs.Types.{is_empty, is_sound, is_sound_form, is_target, is_declared, is_sound_signature, is_lambda, IsWhole}

-- The function at hand

-- the item of the frame in the place of a variable: of its type, or for a class parameter a pointer to it
abbrev pub is_item_of : Typ → Typ → Bool
is_item_of t item = typ_eq t item || (is_class_typ t && typ_eq item (plain (ptr t)))

pub record IsVariable (classes : List Class) (w : Work) (place : ℕ) (t : Typ) : Type 0 where
  pub declared : is_declared classes t ≡ true
  pub item : Typ
  pub at : slice_get w.frame place ≡ Some item
  pub is : is_item_of t item ≡ true

-- the object at hand is of a class, and the pointer to it stands in its place
pub record IsThis (classes : List Class) (w : Work) (this : This) : Type 0 where
  pub object : is_class_typ this.typ ≡ true
  pub sound : is_sound classes this.typ ≡ true
  pub at : slice_get w.frame this.place ≡ Some (plain (ptr this.typ))

-- The program

-- a data member that has a name is an object (profile); those of lambdas, which have none, may be references
pub record IsField (classes : List Class) (m : Member) : Type 0 where
  pub declared : is_declared classes m.typ ≡ true
  pub object : is_empty m.name ≡ false → is_reference m.typ ≡ false

-- of a complete class: objects are whole, by the type that says whether it is a lambda's, and the offsets of members are words
pub record IsComplete (classes : List Class) (n : ℕ) : Type 0 where
  pub whole : (f : Form) (q v : Bool) → class_in f ≡ Some n → is_sound_form classes f ≡ true → IsWhole classes (typ f q v)
  pub offsets : (i : ℕ) → is_word_of ULong (offset_at classes n i) ≡ true

-- an enumerator is a word of its type: an enum, and `int` inside the braces
pub record IsEnumerator (e : Enumerator) : Type 0 where
  pub form : Form
  pub typed : e.typ ≡ plain form
  pub number : is_numeric form ≡ true
  pub word : passes (λ (k : IntKind). is_word_of k e.word) (kind_in form) ≡ true

-- a function that the language knows takes and gives what its node does, and belongs to no class
pub record IsBuiltin (f : Func) (b : Builtin) : Type 0 where
  pub words : signature_words None f.declared.signature ≡ builtin_words b
  pub result : signature_result f.declared.signature ≡ plain (builtin_result b)
  pub free : f.class ≡ None

-- the function of a class that is virtual has its slot, and objects of the class have their pointer
pub record HasSlot (c : Ctx) (n k : ℕ) (f : Func) : Type 0 where
  pub slot : has_slot c.slots n (slot_of_function c n k) f.declared ≡ true
  pub pointer : has_pointer_at c.classes (unwrap_or (pointer_offset c.classes n) 0) n ≡ true

-- Types of parameters and results are such. Constructors and destructors belong to classes that have names: functions at file scope are plain ones, and that
-- of a lambda is its call. So no name that is called means a special member: names of member functions are looked up among plain ones.
pub record IsFunction (c : Ctx) (k : ℕ) (f : Func) : Type 0 where
  pub sound : is_sound_signature c.classes f.declared.signature ≡ true
  pub free : f.class ≡ None → f.kind ≡ Plain
  pub closure : (n : ℕ) → f.class ≡ Some n → is_lambda c.classes n ≡ true → f.kind ≡ ClosureCall
  pub virtual : (n : ℕ) → f.class ≡ Some n → f.kind ≡ Plain → f.declared.is_virtual ≡ true → is_some (completion_of c.classes n) ≡ true → HasSlot c n k f
  pub builtin : (b : Builtin) → f.builtin ≡ Some b → IsBuiltin f b

pub record Holds (s : Setting) (c : Ctx) (w : Work) : Type 0 where
  -- the program and the unit of the body are those of the context
  pub setting : IsSetting s c
  -- the constructors and destructors that classes are said to have are functions of the unit
  pub makers : HasMakers c (is_lambda c.classes)
  -- a variable of the function at hand, whose type is known, is an object or a reference, and its place has its item
  pub variables : (i : ℕ) (v : Variable) (t : Typ) → is_outer i c.lambda ≡ None → slice_get c.variables i ≡ Some v → v.typ ≡ Some t
      → IsVariable c.classes w v.place t
  pub this : (t : This) → c.this ≡ Some t → IsThis c.classes w t
  -- where there is an object at hand, the class around is complete
  pub inside : (t : This) (n : ℕ) → c.this ≡ Some t → c.class ≡ Some n → is_some (completion_of c.classes n) ≡ true
  -- the class of the lambda around is complete, and what it captures are objects and references
  pub lambda : (l : Lambda) → c.lambda ≡ Some l → is_some (completion_of c.classes l.class) ≡ true
  pub captures : (l : Lambda) (i : ℕ) (x : Capture) → c.lambda ≡ Some l → slice_get l.captures i ≡ Some x → is_declared c.classes x.typ ≡ true
  pub globals : (i : ℕ) (g : Global) → slice_get w.globals i ≡ Some g → is_target c.classes g.typ ≡ true
  pub enumerators : (i : ℕ) (e : Enumerator) → slice_get c.enumerators i ≡ Some e → IsEnumerator e
  pub functions : (k : ℕ) (f : Func) → slice_get c.funcs k ≡ Some f → IsFunction c k f
  pub fields : (n i : ℕ) (k : Class) (m : Member) → slice_get c.classes n ≡ Some k → slice_get k.members i ≡ Some m → IsField c.classes m
  pub complete : (n : ℕ) → is_some (completion_of c.classes n) ≡ true → IsComplete c.classes n
  -- what names of types stand for
  pub types : (i : ℕ) (n : Named) → slice_get c.types i ≡ Some n → is_sound c.classes n.typ ≡ true
  -- the class of a lambda is complete, and of a class that is not complete nothing is said
  pub lambdas : (n : ℕ) → is_lambda c.classes n ≡ true → is_some (completion_of c.classes n) ≡ true
  pub assignable : (n : ℕ) → (traits_at c n).is_assignable ≡ true → is_some (completion_of c.classes n) ≡ true
  pub copyable : (n : ℕ) → (traits_at c n).is_trivially_copyable ≡ true → is_some (completion_of c.classes n) ≡ true
