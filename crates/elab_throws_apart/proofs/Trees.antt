-- Trees that are no `throw` of an object: nodes, values, conversions.
use Rattle.std.proofs.Common.{◌≡◌, refl, Bool, true, false, not, ◌&&◌, List, [], ◌∷◌, Option, Some, None}
use Rattle.std.specs.Prelude.{if◌then◌else◌}
use Rattle.std.proofs.lemmas.Bool.{and_parts}
use Rattle.elab_rules.specs.tx_ints.declared.kinds.IntKind.{IntKind}
use Rattle.elab_rules.specs.cpp_types.Typ.{Typ, typ, Form, array, func, tx_ex}
use Rattle.elab_rules.specs.cpp_types.Equal.{kind_eq, typ_eq}
use Rattle.elab_rules.specs.cpp_types.Conversion.{decayed}
use Rattle.elab_rules.specs.cpp_types.declared.classes.At.{At}
use Rattle.elab_rules.specs.cpp_types.declared.ranks.Cat.{Cat}
use Rattle.elab_rules.specs.cpp_types.declared.ranks.Cat.TheVariants.{Lvalue, Prvalue}
use Rattle.elab_rules.specs.cpp_types.declared.ranks.Step.{Step}
use Rattle.elab_rules.specs.cpp_types.declared.ranks.Step.TheVariants.{NullPointer}
use Rattle.elab_rules.specs.cpp_tree.declared.kinds.TKind.{TKind}
use Rattle.elab_rules.specs.cpp_tree.declared.kinds.TKind.TheVariants.{Retype, Convert}
use Rattle.elab_rules.specs.cpp_tree.Trees.{Tree, node, Trees, none, more, one, typ_in, cat_of}
use Rattle.elab_rules.specs.cpp_tree.Notation.{plain}
use Rattle.elab_rules.specs.cpp_tree.Typing.{form_in, kind_in, is_class_typ, unqualified}
use Rattle.elab_rules.specs.elab_ctx.Steps.{Operand, Made}
use Rattle.elab_rules.specs.Values.{retyped, loaded, value_in, valued, retyped_if, between, converted, stepped, built_by, builder, stored, stored_as}
use Rattle.elab_rules.specs.Operators.{is_throw}
use Rattle.elab_rules.specs.Statements.{throws_object}
use Rattle.elab_throws_apart.specs.Throws.{is_apart, is_built_apart, IsNoThrow, AreNoThrows, AreApart}

abbrev pub Apart : Tree → Type 0
Apart e = is_apart e ≡ true

abbrev pub MadeApart : Made → Type 0
MadeApart m = is_apart m.tree ≡ true

pub tree_if : (b : Bool) (x y : Tree) → Apart x → Apart y → Apart (if b then x else y)
tree_if true x y h g = h
tree_if false x y h g = g

pub made_if : (b : Bool) (x y : Made) → MadeApart x → MadeApart y → MadeApart (if b then x else y)
made_if true x y h g = h
made_if false x y h g = g

-- What they are

no_object : (b d : Bool) → (not b && d) ≡ true → b ≡ false
no_object true d h = absurd cc
no_object false d h = refl

pub no_throw_of : (e : Tree) → Apart e → throws_object e ≡ false
no_throw_of (node kind t cat at kids) h = no_object (is_throw kind && is_class_typ t) (is_built_apart kind t cat kids) h

builder_in : (kind : TKind) (t : Typ) (cat : Cat) (kids : Trees) (self : Tree) → is_built_apart kind t cat kids ≡ true → Apart self
    → Apart (built_by kind t cat kids self)
builder_in Retype (typ (tx_ex u) c v) Prvalue (more e none) self h g = h
builder_in kind t cat kids self h g = g

pub builder_apart : (e : Tree) → Apart e → Apart (builder e)
builder_apart (node kind t cat at kids) h = builder_in kind t cat kids (node kind t cat at kids)
    (and_parts (not (is_throw kind && is_class_typ t)) (is_built_apart kind t cat kids) h).1 h

pub no_throw : (o : Operand) → Apart o.tree → IsNoThrow o
no_throw o h = record { tree = no_throw_of o.tree h; built = no_throw_of (builder o.tree) (builder_apart o.tree h) }

pub no_throws : (os : List Operand) → AreApart os → AreNoThrows os
no_throws [] h = tt
no_throws (o ∷ os) h = (no_throw o h.0, no_throws os h.1)

-- The same word with another type

pub retyped_apart : (at : At) (t : Typ) (cat : Cat) (e : Tree) → Apart e → Apart (retyped at t cat e)
retyped_apart at (typ (tx_ex u) c v) Prvalue e h = h
retyped_apart at t cat e h = refl

pub lvalue_apart : (at : At) (t : Typ) (kids : Trees) → Apart (node Retype t Lvalue at kids)
lvalue_apart at (typ (tx_ex u) c v) kids = refl
lvalue_apart at t kids = refl

-- Values

loaded_apart : (at : At) (x : Option IntKind) (e : Tree) → Apart e → Apart (loaded at x e)
loaded_apart at (Some k) e h = refl
loaded_apart at None e h = h

value_apart : (at : At) (f : Form) (cat : Cat) (e : Tree) → Apart e → Apart (value_in at f cat e)
value_apart at (func s) cat e h = retyped_apart at (plain (decayed (typ_in e))) Prvalue e h
value_apart at (array t n) cat e h = retyped_apart at (plain (decayed (typ_in e))) Prvalue e h
value_apart at f Lvalue e h = loaded_apart at (kind_in f) e h
value_apart at f Prvalue e h = h

pub valued_apart : (at : At) (e : Tree) → Apart e → Apart (valued at e)
valued_apart at e h = value_apart at (form_in (typ_in e)) (cat_of e) e h

-- Conversions

same_if : (at : At) (b : Bool) (t : Typ) (v : Tree) → Apart v → Apart (retyped_if at b t v)
same_if at true t v h = h
same_if at false t v h = retyped_apart at t Prvalue v h

between_apart : (at : At) (x y : Option IntKind) (t : Typ) (v : Tree) → Apart v → Apart (between at x y t v)
between_apart at (Some j) (Some k) t v h = tree_if (kind_eq j k) (retyped_if at (typ_eq t (typ_in v)) t v) (node (Convert k) t Prvalue at (one v))
    (same_if at (typ_eq t (typ_in v)) t v h) refl
between_apart at None y t v h = h
between_apart at (Some j) None t v h = h

pub converted_apart : (at : At) (t : Typ) (v : Tree) → Apart v → Apart (converted at t v)
converted_apart at t v h = between_apart at (kind_in (form_in (typ_in v))) (kind_in (form_in t)) (unqualified t) v h

pub stepped_apart : (at : At) (x : Step) (t : Typ) (v : Tree) → Apart v → Apart (stepped at x t v)
stepped_apart at NullPointer t v h = retyped_apart at (unqualified t) Prvalue v h
stepped_apart at x t v h = converted_apart at t v h

stored_by : (at : At) (x : Option IntKind) (t : Typ) (v : Tree) → Apart v → Apart (stored_as at x t v)
stored_by at (Some k) t v h = refl
stored_by at None t v h = h

pub stored_apart : (at : At) (t : Typ) (v : Tree) → Apart v → Apart (stored at t v)
stored_apart at t v h = stored_by at (kind_in (form_in t)) t v h
