-- The bodies of implicit members have whole items.
use Rattle.std.proofs.Common.{◌≡◌, refl, sym, ap, ◌∙◌, subst, ℕ, Bool, true, false, ◌&&◌, List, [], slice_get, Option, Some, None, unwrap_or, Result, Ok}
use Rattle.std.specs.Prelude.{if◌then◌else◌}
use Rattle.std.proofs.lemmas.Bool.{and_parts}
use Rattle.elab_rules.specs.cpp_types.Typ.{Typ, typ, void, class, Signature, none as no_typs, more as and_typ}
use Rattle.elab_rules.specs.cpp_types.Class.{Class}
use Rattle.elab_rules.specs.cpp_types.declared.classes.At.{At}
use Rattle.elab_rules.specs.cpp_types.declared.ranks.Cat.TheVariants.{Lvalue}
use Rattle.elab_rules.specs.cpp_tree.declared.faults.ElabFault.{ElabFault}
use Rattle.elab_rules.specs.cpp_tree.declared.program.FuncKind.{FuncKind}
use Rattle.elab_rules.specs.cpp_tree.Notation.{plain}
use Rattle.elab_rules.specs.cpp_tree.Trees.{Tree, typ_in, cat_of}
use Rattle.elab_rules.specs.elab_ctx.Ctx.{Func}
use Rattle.elab_rules.specs.Initialising.{func_at, no_function, signature_parameters, as_source, as_base, same_number, class_number}
use Rattle.elab_rules.specs.Statements.{State, Done}
use Rattle.elab_rules.specs.Classes.{own_reference}
use Rattle.elab_rules.specs.Members.{in_object, parts_built}
use Rattle.elab_rules.specs.Implicit.{is_referred, source_object, parts_copied, with_source, constructor_made, constructor_implied, body_implied, implied_of, implied}
use Rattle.elab_places.proofs.Steps.{On, bind, choose}
use Rattle.elab_fits.proofs.Nodes.{clash}
use Rattle.setting_growth.specs.Growth.{ClassesGrow}
use Rattle.state_growth.proofs.Steps.{seen, kept_refl}
use Rattle.elab_fits_parts.specs.Implicit.{IsImplied, default, copy, destructor, IsImplicit}
use Rattle.elab_fits_units.specs.Good.{UnitGood}
use Rattle.elab_fits_units.proofs.Headers.{at_func}
use Rattle.elab_frame_items.specs.Frames.{IsWholeState}
use Rattle.elab_frame_items.specs.Items.{IsWhole}
use Rattle.elab_frame_items.proofs.Members as members
use Rattle.elab_frame_items.proofs.Objects.{one_item}
use Rattle.elab_unit_items.specs.Units.{IsWholeUnit}
use Rattle.elab_unit_items.proofs.Ending.{entered_in, made_whole}
use Rattle.elab_unit_items.proofs.Supplied.{lvalue_whole}

-- what is copied is an lvalue
base_whole : (classes : List Class) (at : At) (n : ℕ) (t : Typ) (e : Tree) → IsWhole classes (as_base at n t e)
base_whole classes at n (typ f d v) e = lvalue_whole classes (as_base at n (typ f d v) e) refl

source_whole : (classes : List Class) (at : At) (n : ℕ) (e : Tree) → cat_of e ≡ Lvalue → IsWhole classes (as_source at n e)
source_whole classes at n e h = choose (IsWhole classes) (same_number n (class_number (typ_in e))) e (as_base at n (typ_in e) e)
    (lvalue_whole classes e h) (base_whole classes at n (typ_in e) e)

module _ (st : State) (k n : ℕ) (w : IsWholeUnit st) where
  abbrev start : State
  start = in_object st n

  begun : IsWholeState start
  begun = entered_in st (plain void) (Some (plain (class n))) (Some n) w

  same_classes : (d : State) → d.ctx.classes ≡ st.ctx.classes → ClassesGrow st.ctx.classes d.ctx.classes
  same_classes d e = subst (λ (cs : List Class). ClassesGrow st.ctx.classes cs) (sym e) (kept_refl (seen st)).classes

  default_whole : (at : At) → On IsWholeUnit (constructor_implied st at k n no_typs)
  default_whole at = bind (members.Ends start) IsWholeUnit (parts_built start at n []) _ (members.parts_built start at n [] w.defaults)
      (λ d l. made_whole st d.state at k _ (same_classes d.state l.classes) w (members.leaves_whole start d.state l begun))

  copy_whole : (at : At) (q : Bool) → On IsWholeUnit (constructor_implied st at k n (and_typ (own_reference n q) no_typs))
  copy_whole at q = let a : State = with_source start (own_reference n q) in
      bind (members.Ends a) IsWholeUnit (parts_copied a at n (source_object n (own_reference n q) at) q) (λ (d : Done). constructor_made st at k d)
      (members.parts_copied a at n (source_object n (own_reference n q) at) q
      (λ i. source_whole a.ctx.classes at i (source_object n (own_reference n q) at) refl))
      (λ d l. made_whole st d.state at k _ (same_classes d.state l.classes) w (members.leaves_whole a d.state l (record {
        items = (one_item st.ctx.classes start.work (own_reference n q) refl).whole begun.items;
        defaults = begun.defaults;
        bodies = begun.bodies;
      })))

  implied_whole : (at : At) (kind : FuncKind) (sig : Signature) → IsImplied n kind sig → On IsWholeUnit (body_implied st at k n kind (signature_parameters sig))
  implied_whole at kind sig (default safe) = default_whole at
  implied_whole at kind sig (copy const safe) = copy_whole at const
  implied_whole at kind sig (destructor safe) = made_whole st start at k _ (same_classes start refl) w begun

whole_if : (st : State) (t : Bool) (r : Result State ElabFault) → IsWholeUnit st → (t ≡ true → On IsWholeUnit r) → On IsWholeUnit (if t then r else Ok st)
whole_if st true r w h = h refl
whole_if st false r w h = w

of_implicit : (st : State) (k : ℕ) (f : Func) → IsWholeUnit st → IsImplicit st.ctx.classes f → On IsWholeUnit (implied_of st k f f.class)
of_implicit st k f w i = subst (λ (o : Option ℕ). On IsWholeUnit (implied_of st k f o)) (sym i.of)
    (implied_whole st k i.class w f.declared.at f.kind f.declared.signature i.implied)

found : (st : State) (k : ℕ) (o : Option Func) → slice_get st.ctx.funcs k ≡ o → UnitGood st → IsWholeUnit st → (func_at st.ctx.funcs k).implicit ≡ true
    → On IsWholeUnit (implied_of st k (func_at st.ctx.funcs k) (func_at st.ctx.funcs k).class)
found st k (Some f) e g w h = let q = at_func st.ctx.funcs k f e in
    subst (λ (x : Func). On IsWholeUnit (implied_of st k x x.class)) (sym q)
    (of_implicit st k f w (g.implicits k f e (ap (λ (x : Func). x.implicit) (sym q) ∙ h)))
found st k None e g w h = clash _ (func_at st.ctx.funcs k).implicit (ap (λ (o : Option Func). (unwrap_or o no_function).implicit) e) h

pub implicit_whole : (st : State) (k : ℕ) → UnitGood st → IsWholeUnit st → On IsWholeUnit (implied st k)
implicit_whole st k g w = let f = func_at st.ctx.funcs k in whole_if st (f.implicit && is_referred st k) (implied_of st k f f.class) w
    (λ t. found st k (slice_get st.ctx.funcs k) refl g w (and_parts f.implicit (is_referred st k) t).0)
