-- Behind a pointer lies what an lvalue can refer to.
use Rattle.std.proofs.Common.{◌≡◌, sym, ap, ◌∙◌, true, List}
use Rattle.std.proofs.lemmas.Bool.{and_parts}
use Rattle.elab_rules.specs.cpp_types.Typ.{Typ, typ, Form, void, int, enum, null, ptr, ref, array, func, class, closure, tx_ex}
use Rattle.elab_rules.specs.cpp_types.Class.{Class}
use Rattle.elab_rules.specs.cpp_types.declared.ranks.Cat.{Cat}
use Rattle.elab_rules.specs.cpp_types.declared.ranks.Cat.TheVariants.{Lvalue, Prvalue}
use Rattle.elab_rules.specs.cpp_tree.Typing.{form_in}
use Rattle.elab_sound_types.specs.Types.{target, is_sound, is_head, is_unqualified}

pub pointers_law : (cs : List Class) (t u : Typ) (cat : Cat) → is_head cs t cat ≡ true → form_in t ≡ ptr u → is_sound cs target u ≡ true
pointers_law cs (typ (ptr t) c v) u Lvalue h e = ap (λ (f : Form). is_sound cs target (pointed_in f)) (sym e) ∙ h
  where
    pointed_in : Form → Typ
    pointed_in (ptr x) = x
    pointed_in f = u
pointers_law cs (typ (ptr t) c v) u Prvalue h e = ap (λ (f : Form). is_sound cs target (pointed_in f)) (sym e) ∙ (and_parts (is_sound cs target t) (is_unqualified (typ (ptr t) c v)) h).0
  where
    pointed_in : Form → Typ
    pointed_in (ptr x) = x
    pointed_in f = u
pointers_law cs (typ void c v) u cat h e = absurd cc
pointers_law cs (typ (int k) c v) u cat h e = absurd cc
pointers_law cs (typ (enum m x) c v) u cat h e = absurd cc
pointers_law cs (typ null c v) u cat h e = absurd cc
pointers_law cs (typ (ref t) c v) u cat h e = absurd cc
pointers_law cs (typ (array t k) c v) u cat h e = absurd cc
pointers_law cs (typ (func g) c v) u cat h e = absurd cc
pointers_law cs (typ (class k) c v) u cat h e = absurd cc
pointers_law cs (typ (closure k) c v) u cat h e = absurd cc
pointers_law cs (typ (tx_ex t) c v) u cat h e = absurd cc
