-- Values, conversions and objects of an expression: trees that hold no more than it does.
use Rattle.std.proofs.Common.{ℕ, zero, suc, ◌+◌, ◌≤◌, Bool, true, false, not, List, Option, Some, None, arith}
use Rattle.elab_rules.specs.tx_ints.declared.kinds.IntKind.{IntKind}
use Rattle.elab_rules.specs.cpp_types.Typ.{Typ, typ, Form, array, func, tx_ex}
use Rattle.elab_rules.specs.cpp_types.Class.{Class}
use Rattle.elab_rules.specs.cpp_types.Equal.{kind_eq, typ_eq}
use Rattle.elab_rules.specs.cpp_types.declared.classes.At.{At}
use Rattle.elab_rules.specs.cpp_types.declared.ranks.Cat.{Cat}
use Rattle.elab_rules.specs.cpp_types.declared.ranks.Cat.TheVariants.{Lvalue, Prvalue}
use Rattle.elab_rules.specs.cpp_types.declared.ranks.Step.{Step}
use Rattle.elab_rules.specs.cpp_types.declared.ranks.Step.TheVariants.{NullPointer}
use Rattle.elab_rules.specs.cpp_tree.declared.kinds.TKind.TheVariants.{Local, Load, Retype, Construct, Store, CopyFrom, Pieces}
use Rattle.elab_rules.specs.cpp_tree.Trees.{Tree, node, Trees, none, more, kind_of, typ_in, cat_of}
use Rattle.elab_rules.specs.cpp_tree.Typing.{form_in, kind_in, unqualified, is_volatile_typ, without_exception}
use Rattle.elab_rules.specs.elab_ctx.Ctx.{Ctx}
use Rattle.elab_rules.specs.Values
use Rattle.elab_rules.specs.Initialising
use Rattle.elab_fits.proofs.Steps.{choose}
use Rattle.elab_movable.specs.Movable.{Sought, one_if, held, all_held}
use Rattle.elab_movable.proofs.Counting.{HoldsAtMost, same}
use Rattle.elab_movable.proofs.Parts as parts

flag_most : (b : Bool) (n : ℕ) → one_if b ≤ 1 + n
flag_most true n = omega arith
flag_most false n = omega arith

module _ (g : Sought) where
  -- Values

  -- what is read is the pointer `this`, or holds what it is read of
  pub load_held : (k : IntKind) (v : Bool) (t : Typ) (at : At) (e : Tree) → held g (node (Load k v) t Prvalue at (more e none)) ≤ held g e
  load_held k true t at e = omega arith
  load_held k false t at (node (Local zero) u cat p kids) = flag_most (not (typ_eq g t)) (all_held g kids)
  load_held k false t at (node (Local (suc n)) u cat p kids) = omega arith
  load_held k false t at (node kind u cat p kids) = omega arith

  loaded : (at : At) (o : Option IntKind) (e : Tree) → held g (Values.loaded at o e) ≤ held g e
  loaded at (Some k) e = load_held k (is_volatile_typ (typ_in e)) (unqualified (typ_in e)) at e
  loaded at None e = same (held g e)

  value_in : (at : At) (f : Form) (cat : Cat) (e : Tree) → held g (Values.value_in at f cat e) ≤ held g e
  value_in at (func s) cat e = omega arith
  value_in at (array t n) cat e = omega arith
  value_in at f Lvalue e = loaded at (kind_in f) e
  value_in at f Prvalue e = same (held g e)

  pub valued : (at : At) (e : Tree) → held g (Values.valued at e) ≤ held g e
  valued at e = value_in at (form_in (typ_in e)) (cat_of e) e

  -- Conversions

  pub retyped : (at : At) (t : Typ) (cat : Cat) (e : Tree) → held g (Values.retyped at t cat e) ≤ held g e
  retyped at t cat e = omega arith

  retyped_if : (at : At) (b : Bool) (t : Typ) (e : Tree) → held g (Values.retyped_if at b t e) ≤ held g e
  retyped_if at true t e = same (held g e)
  retyped_if at false t e = omega arith

  between : (at : At) (i j : Option IntKind) (t : Typ) (e : Tree) → held g (Values.between at i j t e) ≤ held g e
  between at (Some j) (Some k) t e = choose (HoldsAtMost g (held g e)) (kind_eq j k) _ _ (retyped_if at (typ_eq t (typ_in e)) t e) (omega arith)
  between at (Some j) None t e = same (held g e)
  between at None j t e = same (held g e)

  pub converted : (at : At) (t : Typ) (e : Tree) → held g (Values.converted at t e) ≤ held g e
  converted at t e = between at (kind_in (form_in (typ_in e))) (kind_in (form_in t)) _ e

  pub stepped : (at : At) (step : Step) (t : Typ) (e : Tree) → held g (Values.stepped at step t e) ≤ held g e
  stepped at NullPointer t e = omega arith
  stepped at step t e = converted at t e

  -- Objects

  only_tree : (ts : Trees) (e : Tree) → all_held g ts ≤ held g e → held g (Values.only_tree ts e) ≤ held g e
  only_tree none e h = same (held g e)
  only_tree (more t none) e h = omega arith
  only_tree (more t (more u us)) e h = same (held g e)

  pub builder : (e : Tree) → held g (Values.builder e) ≤ held g e
  builder (node Retype (typ (tx_ex u) c v) Prvalue at ts) = only_tree ts (node Retype (typ (tx_ex u) c v) Prvalue at ts) (omega arith)
  builder (node kind t cat at ts) = same (held g (node kind t cat at ts))

  pub seen_as : (at : At) (t : Typ) (e : Tree) → held g (Initialising.seen_as at t e) ≤ held g e
  seen_as at t e = choose (HoldsAtMost g (held g e)) (typ_eq t (typ_in e)) _ _ (same (held g e)) (omega arith)

  pub as_base : (at : At) (n : ℕ) (t : Typ) (e : Tree) → held g (Initialising.as_base at n t e) ≤ held g e
  as_base at n (typ f c v) e = omega arith

  pub as_source : (at : At) (n : ℕ) (e : Tree) → held g (Initialising.as_source at n e) ≤ held g e
  as_source at n e = choose (HoldsAtMost g (held g e)) (Initialising.same_number n (Initialising.class_number (typ_in e))) _ _ (same (held g e))
      (as_base at n (typ_in e) e)

  -- Initialisers of objects with other qualifiers

  copied_anew : (classes : List Class) (t : Typ) (e : Tree) (ts : Trees) → all_held g ts ≤ held g e
      → held g (Initialising.copied_anew classes t e ts) ≤ held g e
  copied_anew classes t e none h = same (held g e)
  copied_anew classes t e (more source ts) h = omega (arith, parts.copies g classes (Values.place_of e) t)

  rebuilt : (classes : List Class) (t : Typ) (e : Tree) → held g (Initialising.rebuilt classes (kind_of e) t e) ≤ held g e
  rebuilt classes t (node (Construct k) u cat at ts) = omega arith
  rebuilt classes t (node (Store k v) u cat at ts) = omega arith
  rebuilt classes t (node CopyFrom u cat at ts) = copied_anew classes t (node CopyFrom u cat at ts) ts (omega arith)
  rebuilt classes t (node Pieces u cat at ts) = omega (arith, parts.zeros g classes at t)
  rebuilt classes t (node kind u cat at ts) = same (held g (node kind u cat at ts))

  pub building : (classes : List Class) (t : Typ) (e : Tree) → held g (Initialising.building classes t e) ≤ held g e
  building classes t e = choose (HoldsAtMost g (held g e)) (typ_eq t (typ_in e)) _ _ (same (held g e)) (rebuilt classes t e)

  pub exception_built : (classes : List Class) (t : Typ) (e : Tree) → held g (Initialising.exception_built classes t e) ≤ held g e
  exception_built classes t e = choose (HoldsAtMost g (held g e)) (typ_eq t (typ_in e)) _ _ (same (held g e)) (building classes _ e)

  pub exception_copied : (c : Ctx) (t : Typ) (at : At) (e : Tree) → held g (Initialising.exception_copied c t at e) ≤ held g e
  exception_copied c t at e = omega (arith, parts.copies g c.classes at (without_exception t))
