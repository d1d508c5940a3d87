-- Casts to references.
use Rattle.std.proofs.Common.{◌≡◌, refl, sym, ◌∙◌, Bool, true, false, ◌&&◌, ◌||◌, List, [], ◌∷◌, Result, Ok, Err}
use Rattle.std.proofs.lemmas.Bool.{and_parts}
use Rattle.elab_rules.specs.cpp_types.Typ.{Typ, typ, void, ref}
use Rattle.elab_rules.specs.cpp_types.Equal.{typ_eq}
use Rattle.elab_rules.specs.cpp_types.Conversion.{is_lvalue}
use Rattle.elab_rules.specs.cpp_types.declared.classes.At.{At}
use Rattle.elab_rules.specs.cpp_types.declared.ranks.Cat.TheVariants.{Lvalue, Prvalue}
use Rattle.elab_rules.specs.cpp_tree.declared.faults.ElabFault.{ElabFault}
use Rattle.elab_rules.specs.cpp_tree.declared.kinds.TKind.TheVariants.{Retype}
use Rattle.elab_rules.specs.cpp_tree.declared.roles.Role.TheVariants.{Value}
use Rattle.elab_rules.specs.cpp_tree.Trees.{Tree, node, Trees, cat_of}
use Rattle.elab_rules.specs.cpp_tree.Typing.{Head, head_of, is_temporary, is_bound, is_class_typ, unqualified}
use Rattle.elab_rules.specs.cpp_tree.Rows.{Setting, is_retyped, row_fits}
use Rattle.elab_rules.specs.cpp_tree.Roles.{only}
use Rattle.elab_rules.specs.cpp_tree.WellFormed.{heads_of}
use Rattle.elab_rules.specs.elab_ctx.Ctx.{Ctx, Work}
use Rattle.elab_rules.specs.elab_ctx.Steps.{and_then, Operand, Made}
use Rattle.elab_rules.specs.Initialising.{initial, with_tree}
use Rattle.elab_rules.specs.Casts.{reference_cast, cast, functional}
use Rattle.elab_fits.specs.Standing.{FitsAs, Reaches, On}
use Rattle.elab_fits.specs.Scalars.{Initialises}
use Rattle.elab_fits.proofs.Nodes.{head_cat, node_fits}
use Rattle.elab_fits.proofs.Unary.{lvalue_is}
use Rattle.elab_fits_objects.proofs.Fits.{fit_of}
use Rattle.elab_fits_objects.proofs.Referring.{binds}
use Rattle.elab_fits_forms.specs.Types.{is_sound, is_target}
use Rattle.elab_fits_forms.specs.Meaning.{Proper, ProperOperand}
use Rattle.elab_fits_forms.specs.Context.{Holds}
use Rattle.elab_fits_forms.specs.Forms.{MadeStands, ProperOperands}
use Rattle.elab_fits_forms.proofs.Types.{target_type}
use Rattle.elab_fits_forms.proofs.Proper.{lvalue_node, proper_retyped}
use Rattle.elab_fits_forms.proofs.Sources.{source_of}
use Rattle.elab_fits_forms.proofs.Casts.{value_casts, from_none}

-- an address is one whatever lies there
place_is : (t u : Typ) (x : Head) → is_retyped t Lvalue x ≡ true → is_retyped u Lvalue x ≡ true
place_is (typ void q v) (typ void d w) x h = h
place_is (typ void q v) (typ g d w) x h = h
place_is (typ f q v) (typ void d w) x h = h
place_is (typ f q v) (typ g d w) x h = h

place_row : (s : Setting) (t u : Typ) (hs : List Head) → row_fits s Retype t Lvalue hs ≡ true → row_fits s Retype u Lvalue hs ≡ true
place_row s t u [] h = absurd cc
place_row s t u (x ∷ hs) h = place_is t u x h

-- an lvalue of another type has that type at once
other_fits : (s : Setting) (t u : Typ) (p at : At) (kids : Trees) → FitsAs s Value (node Retype t Lvalue p kids) → FitsAs s Value (node Retype u Lvalue at kids)
other_fits s t u p at kids h = λ q full. let f = fit_of s q Value Retype t Lvalue p kids (h q full) in
    node_fits s q Value Retype u Lvalue at kids (only (Value ∷ [])) refl refl refl refl (place_row s t u (heads_of kids) f.row) refl f.enough refl f.kids

cast_fits : (s : Setting) (c : Ctx) (at : At) (u : Typ) (e : Tree) → is_target c.classes u ≡ true → FitsAs s Value e → cat_of e ≡ Lvalue
    → Proper s c (reference_cast at u e)
cast_fits s c at u (node Retype t Lvalue p kids) i h l = lvalue_node s c Retype u at kids (other_fits s t u p at kids h) i
cast_fits s c at u (node kind t Lvalue p kids) i h l = proper_retyped s c u at (node kind t Lvalue p kids) refl h i
cast_fits s c at u (node kind t Prvalue p kids) i h l = absurd cc

bound_lvalue : (u : Typ) (e : Tree) → is_bound u (head_of e) ≡ true → cat_of e ≡ Lvalue
bound_lvalue u e h = sym (head_cat e) ∙ lvalue_is (head_of e).cat (and_parts (is_lvalue (head_of e).cat)
    (typ_eq u (head_of e).typ || (is_temporary (head_of e).kind && typ_eq (unqualified u) (head_of e).typ)) h).0

cast_made : (s : Setting) (c : Ctx) (at : At) (u : Typ) (q v : Bool) (r : Result Made ElabFault) → is_target c.classes u ≡ true
    → On (λ (m : Made). Reaches s m.work → Initialises s (typ (ref u) q v) m.tree) r
    → On (MadeStands s c) (and_then r (λ (m : Made). Ok (with_tree (reference_cast at u) m)))
cast_made s c at u q v (Ok m) i h = λ r. cast_fits s c at u m.tree i (h r).fits (bound_lvalue u m.tree (h r).initialises)
cast_made s c at u q v (Err e) i h = tt

reference_casts : (s : Setting) (c : Ctx) (w : Work) (at : At) (u : Typ) (q v : Bool) (o : Operand) → Holds s c w → is_target c.classes u ≡ true
    → ProperOperand s c o → On (MadeStands s c) (cast c w at (typ (ref u) q v) o)
reference_casts s c w at u q v o h i x = cast_made s c at u q v (initial c w (typ (ref u) q v) o) i
    (binds s c _ w u q v o h.setting h.makers (source_of s c o x) (target_type c.classes u i))

-- to what is no class
pub scalar_casts : (s : Setting) (c : Ctx) (w : Work) (at : At) (t : Typ) (o : Operand) → Holds s c w → is_sound c.classes t ≡ true
    → is_class_typ t ≡ false → ProperOperand s c o → On (MadeStands s c) (cast c w at t o)
scalar_casts s c w at (typ (ref u) q v) o h i k x = reference_casts s c w at u q v o h i x
scalar_casts s c w at (typ f q v) o h i k x = value_casts s c w at (typ f q v) o h i k refl x

pub scalar_functionals : (s : Setting) (c : Ctx) (w : Work) (at : At) (t : Typ) (os : List Operand) → Holds s c w → is_sound c.classes t ≡ true
    → is_class_typ t ≡ false → ProperOperands s c os → On (MadeStands s c) (functional c w at t os)
scalar_functionals s c w at t [] h i k x = from_none s c w at t i k
scalar_functionals s c w at t (o ∷ []) h i k (ProperOperands.more x xs) = scalar_casts s c w at t o h i k x
scalar_functionals s c w at t (o ∷ u ∷ os) h i k x = rw k tt
