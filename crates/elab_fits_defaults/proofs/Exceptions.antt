-- What builds a `std::tx_exception` and keeps its own type is one.
use Rattle.std.proofs.Common.{◌≡◌, refl, Bool, true, false, not, ◌&&◌, List}
use Rattle.std.specs.Prelude.{if◌then◌else◌}
use Rattle.elab_rules.specs.cpp_types.Typ.{Typ, typ, tx_ex}
use Rattle.elab_rules.specs.cpp_types.Class.{Class}
use Rattle.elab_rules.specs.cpp_types.Equal.{typ_eq, form_eq}
use Rattle.elab_rules.specs.cpp_types.declared.classes.At.{At}
use Rattle.elab_rules.specs.cpp_tree.declared.kinds.TKind.TheVariants.{Store, Construct, CopyFrom, Pieces, Conditional, Comma, FullExpression, Call, VirtualCall, PointerCall, Throw, Rethrow}
use Rattle.elab_rules.specs.cpp_tree.declared.faults.IllRule.TheVariants.{NoConversion, NoCopy}
use Rattle.elab_rules.specs.cpp_tree.Trees.{Tree, node, Trees, none, more, kind_of, typ_in, cat_of}
use Rattle.elab_rules.specs.cpp_tree.Typing.{form_in, is_volatile_typ, is_class_prvalue, without_exception, goes_both_ways}
use Rattle.elab_rules.specs.cpp_tree.WellFormed.{is_zero}
use Rattle.elab_rules.specs.elab_ctx.Ctx.{Ctx, Work}
use Rattle.elab_rules.specs.elab_ctx.Steps.{check, Operand, Made}
use Rattle.elab_rules.specs.Values.{builder, is_exception_form}
use Rattle.elab_rules.specs.Objects.{zeros}
use Rattle.elab_rules.specs.Initialising.{class_from, exception_made, exception_copied, exception_built, is_given_value, building, rebuilt, copied_anew, with_tree, object_of}
use Rattle.elab_fits.specs.Standing.{On}
use Rattle.elab_fits.proofs.Steps.{skip, either}
use Rattle.elab_fits.proofs.AreZeros.{are_zero_law}
use Rattle.elab_fits.proofs.Nodes.{clash}

-- it has such a type
abbrev pub IsOwn : Tree → Type 0
IsOwn e = goes_both_ways (kind_of e) ≡ true → is_exception_form (form_in (typ_in e)) ≡ true

not_given : (a b : Bool) → (a && not b) ≡ false → a ≡ true → b ≡ true
not_given true true h e = refl
not_given true false h e = absurd cc
not_given false b h e = absurd cc

own_given : (e : Tree) → is_given_value e ≡ false → IsOwn e
own_given e h = not_given (goes_both_ways (kind_of e)) (is_exception_form (form_in (typ_in e))) h

no_own : (e : Tree) → goes_both_ways (kind_of e) ≡ false → IsOwn e
no_own e n = λ h. clash (is_exception_form (form_in (typ_in e)) ≡ true) (goes_both_ways (kind_of e)) n h

choose_own : (b : Bool) (x y : Tree) → IsOwn x → IsOwn y → IsOwn (if b then x else y)
choose_own true x y h g = h
choose_own false x y h g = g

anew_own : (classes : List Class) (t : Typ) (e : Tree) (ts : Trees) → IsOwn e → IsOwn (copied_anew classes t e ts)
anew_own classes t e none h = h
anew_own classes t e (more source ts) h = no_own (copied_anew classes t e (more source ts)) refl

zero_way : (e : Tree) → is_zero e ≡ true → goes_both_ways (kind_of e) ≡ false
zero_way (node Conditional t cat at kids) h = absurd cc
zero_way (node Comma t cat at kids) h = absurd cc
zero_way (node FullExpression t cat at kids) h = absurd cc
zero_way (node (Call f) t cat at kids) h = absurd cc
zero_way (node (VirtualCall f n i p) t cat at kids) h = absurd cc
zero_way (node PointerCall t cat at kids) h = absurd cc
zero_way (node Throw t cat at kids) h = absurd cc
zero_way (node Rethrow t cat at kids) h = absurd cc
zero_way (node kind t cat at kids) h = refl

rebuilt_own : (classes : List Class) (t : Typ) (e : Tree) → IsOwn e → IsOwn (rebuilt classes (kind_of e) t e)
rebuilt_own classes t (node (Construct k) u cat at kids) h = no_own (node (Construct k) t cat at kids) refl
rebuilt_own classes t (node (Store k v) u cat at kids) h = no_own (node (Store k (is_volatile_typ t)) t cat at kids) refl
rebuilt_own classes t (node CopyFrom u cat at kids) h = anew_own classes t (node CopyFrom u cat at kids) kids h
rebuilt_own classes t (node Pieces u cat at kids) h = no_own (zeros classes at t) (zero_way (zeros classes at t) (are_zero_law classes at t))
rebuilt_own classes t (node kind u cat at kids) h = h

built_own : (classes : List Class) (t : Typ) (e : Tree) → IsOwn e → IsOwn (exception_built classes t e)
built_own classes t e h = choose_own (typ_eq t (typ_in e)) e (building classes (without_exception t) e) h
    (choose_own (typ_eq (without_exception t) (typ_in e)) e (rebuilt classes (kind_of e) (without_exception t) e) h (rebuilt_own classes (without_exception t) e h))

made_own : (c : Ctx) (w : Work) (t : Typ) (at : At) (o : Operand) → IsOwn (exception_made c w t at o).tree
made_own c w t at o = by (is_given_value (builder o.tree)) refl
  where
    by : (b : Bool) → is_given_value (builder o.tree) ≡ b → IsOwn (let m : Made = if b then with_tree (exception_copied c t at) (object_of c w o.at o.tree) else
        record { tree = exception_built c.classes t (builder o.tree); work = w } in m).tree
    by true e = no_own (exception_copied c t at (object_of c w o.at o.tree).tree) refl
    by false e = built_own c.classes t (builder o.tree) (own_given (builder o.tree) e)

pub exception_own : (c : Ctx) (w : Work) (u : Typ) (q v : Bool) (at : At) (o : Operand) → On (λ (m : Made). IsOwn m.tree) (class_from c w (typ (tx_ex u) q v) at o)
exception_own c w u q v at o = skip (λ (m : Made). IsOwn m.tree) (check o.at NoConversion (form_eq (form_in (typ_in o.tree)) (tx_ex u))) _ (λ y.
    either (λ (m : Made). IsOwn m.tree) (is_class_prvalue (typ_in o.tree) (cat_of o.tree)) _ _ (λ e. made_own c w (typ (tx_ex u) q v) at o)
    (λ e. skip (λ (m : Made). IsOwn m.tree) (check o.at NoCopy (not (is_volatile_typ (typ_in o.tree)))) _
    (λ z. no_own (exception_copied c (typ (tx_ex u) q v) at o.tree) refl)))
