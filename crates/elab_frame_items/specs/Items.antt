-- Items of the frame whose sizes are known: whatever class one holds is complete. This is the field `items` of `WellFormedBody`.
use Rattle.std.specs.Prelude.{◌≡◌, ℕ, Bool, true, false, List, [], ◌∷◌, slice_get, Some, Ok}
use Rattle.std.specs.List.{list_all}
use Rattle.elab_rules.specs.cpp_types.Typ.{Typ, Form, Typs, closure, tx_ex, none as no_typs, more as and_typ}
use Rattle.elab_rules.specs.cpp_types.Class.{Class}
use Rattle.elab_rules.specs.cpp_types.declared.classes.At.{At}
use Rattle.elab_rules.specs.cpp_tree.Trees.{Tree, typ_in, cat_of}
use Rattle.elab_rules.specs.cpp_tree.Typing.{is_class_prvalue, form_in}
use Rattle.elab_rules.specs.cpp_tree.WellFormed.{is_item}
use Rattle.elab_rules.specs.elab_ctx.Ctx.{Ctx, Work, Func, Default}
use Rattle.elab_rules.specs.elab_ctx.Steps.{Operand, Made, MadeAll}
use Rattle.elab_rules.specs.Initialising.{initial, class_from, from_values, words, signature_parameters}

abbrev pub AreWhole : List Class → Work → Type 0
AreWhole classes w = list_all (is_item classes) w.frame ≡ true

-- What is asked of operands, and of parameters

-- the class of which an operand stands for an object in a temporary is complete
pub record IsWhole (classes : List Class) (e : Tree) : Type 0 where
  pub object : is_class_prvalue (typ_in e) (cat_of e) ≡ true → is_item classes (typ_in e) ≡ true

abbrev pub AllWhole : List Class → List Operand → Type 0
AllWhole classes [] = Unit {0}
AllWhole classes (o ∷ os) = IsWhole classes o.tree × AllWhole classes os

abbrev pub is_unnamed : Form → Bool
is_unnamed (closure n) = true
is_unnamed (tx_ex t) = true
is_unnamed f = false

-- the class of a lambda that is passed is complete, and so is that of the value in a `std::tx_exception`
abbrev pub AreParameters : List Class → Typs → Type 0
AreParameters classes no_typs = Unit {0}
AreParameters classes (and_typ p ps) = (is_unnamed (form_in p) ≡ true → is_item classes p ≡ true) × AreParameters classes ps

pub record FunctionsWhole (classes : List Class) (funcs : List Func) : Type 0 where
  pub each : (i : ℕ) (f : Func) → slice_get funcs i ≡ Some f → AreParameters classes (signature_parameters f.declared.signature)

-- the initialisers that are kept for members have whole items
abbrev pub DefaultsWhole : List Class → List Default → Type 0
DefaultsWhole classes [] = Unit {0}
DefaultsWhole classes (d ∷ ds) = (list_all (is_item classes) d.frame ≡ true) × DefaultsWhole classes ds

-- What is made of operands: behind it all items are whole still

abbrev pub InitialsWhole : Type 0
InitialsWhole = (c : Ctx) (w : Work) (t : Typ) (o : Operand) (m : Made) → IsWhole c.classes o.tree → AreWhole c.classes w → initial c w t o ≡ Ok m → AreWhole c.classes m.work

abbrev pub ClassObjectsWhole : Type 0
ClassObjectsWhole = (c : Ctx) (w : Work) (t : Typ) (at : At) (o : Operand) (m : Made) → IsWhole c.classes o.tree → AreWhole c.classes w → class_from c w t at o ≡ Ok m
    → AreWhole c.classes m.work

abbrev pub ValuesWhole : Type 0
ValuesWhole = (c : Ctx) (w : Work) (t : Typ) (at : At) (os : List Operand) (m : Made) → FunctionsWhole c.classes c.funcs → AllWhole c.classes os → AreWhole c.classes w → from_values c w t at os ≡ Ok m
    → AreWhole c.classes m.work

abbrev pub WordsWhole : Type 0
WordsWhole = (c : Ctx) (w : Work) (ps : Typs) (os : List Operand) (m : MadeAll) → AreParameters c.classes ps → AllWhole c.classes os → AreWhole c.classes w → words c w ps os ≡ Ok m → AreWhole c.classes m.work
