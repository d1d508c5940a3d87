-- Bodies of implicit members.
use Rattle.std.proofs.Common.{◌≡◌, refl, sym, ap, ◌∙◌, subst, ℕ, Bool, true, false, List, [], ◌∷◌, ◌++◌, Option, Some, None, unwrap_or}
use Rattle.elab_rules.specs.cpp_types.Typ.{typ, ref, class, Typs, none as no_typs, more as and_typ}
use Rattle.elab_rules.specs.cpp_types.declared.classes.At.{At}
use Rattle.elab_rules.specs.cpp_tree.declared.program.FuncKind.TheVariants.{Destructor}
use Rattle.elab_rules.specs.cpp_tree.Trees.{Tree, none}
use Rattle.elab_rules.specs.cpp_tree.Notation.{plain}
use Rattle.elab_rules.specs.cpp_tree.Rows.{Setting, is_constructor, is_destructor}
use Rattle.elab_rules.specs.elab_ctx.Ctx.{Ctx}
use Rattle.elab_rules.specs.Functions.{within_frame, body_made}
use Rattle.elab_rules.specs.Members.{Given, in_object, parts_built, destructor_tree, constructor_tree}
use Rattle.elab_rules.specs.Statements.{State, Body, Done}
use Rattle.elab_rules.specs.Implicit.{source_object, parts_copied, with_source, constructor_implied, body_implied}
use Rattle.elab_fits.specs.Standing.{IsSetting, Reaches, On}
use Rattle.elab_fits.specs.Objects.{HasSpecials}
use Rattle.elab_fits.proofs.Steps.{bind, skip}
use Rattle.elab_fits_objects.specs.Contexts.{HasMakers}
use Rattle.elab_fits_statements.specs.Variables.{HasItem}
use Rattle.elab_fits_bodies.specs.Functions.{IsBody}
use Rattle.elab_fits_bodies.specs.Parts.{HasParts}
use Rattle.elab_fits_bodies.specs.Built.{MakesParts, PartsMade}
use Rattle.elab_fits_bodies.specs.Copied.{CopiesParts}
use Rattle.elab_fits_bodies.specs.Implied.{LastFits}
use Rattle.elab_fits_bodies.proofs.Contexts.{Same, object_same, makers_same}
use Rattle.elab_fits_bodies.proofs.Bodies.{constructor_fits, destructor_fits}
use Rattle.elab_fits_bodies.proofs.Built.{parts_build}
use Rattle.elab_fits_bodies.proofs.Copied.{source_stands}
use Rattle.elab_fits_bodies.proofs.Implied.{parts_copied_fit}

-- The body that was made last

last_in : List Body → Option Body
last_in [] = None
last_in (x ∷ []) = Some x
last_in (x ∷ y ∷ ys) = last_in (y ∷ ys)

last_is : (xs : List Body) (a : Body) → last_in (xs ++ a ∷ []) ≡ Some a
unfolding last_in
last_is [] a = refl
last_is (x ∷ []) a = refl
last_is (x ∷ y ∷ ys) a = last_is (y ∷ ys) a

same_last : (xs ys : List Body) (a b : Body) → xs ++ a ∷ [] ≡ ys ++ b ∷ [] → a ≡ b
same_last xs ys a b e = ap (λ (o : Option Body). unwrap_or o a) (sym (last_is xs a) ∙ ap last_in e ∙ last_is ys b)

pub made_fits : (s : Setting) (before : State) (at : At) (k : ℕ) (tree : Tree) (st : State) → (Reaches s st.work → IsBody s tree)
    → On (LastFits s) (body_made before at k tree st)
made_fits s before at k tree st f = skip (LastFits s) (within_frame st.ctx at st.work.frame) _ (λ y. fits)
  where
    fits : (bs : List Body) (b : Body) → st.bodies ++ record { func = k; tree = tree; frame = st.work.frame } ∷ [] ≡ bs ++ b ∷ []
        → Reaches s (record st.work { frame = b.frame }) → IsBody s b.tree
    fits bs b e r = subst (λ (z : Body). Reaches s (record st.work { frame = z.frame }) → IsBody s z.tree)
        (same_last st.bodies bs (record { func = k; tree = tree; frame = st.work.frame }) b e)
        (λ h. f (record { frame = h.frame; globals = h.globals })) r

-- The context of a member

module _ (s : Setting) (st : State) (lambda : ℕ → Bool) (n : ℕ) where
  abbrev inside : Ctx
  inside = (in_object st n).ctx

  inside_same : Same st.ctx inside
  inside_same = record { classes = refl; funcs = refl; destructors = λ k. refl; copies = λ k. refl; defaults = λ k. refl }

  inside_setting : IsSetting s st.ctx → IsSetting s inside
  inside_setting i = record { classes = i.classes; ordered = i.ordered; slots = i.slots; funcs = i.funcs }

  inside_parts : HasParts s st.ctx n → HasParts s inside n
  inside_parts p = record { this = p.this; number = p.number; pointer = p.pointer; offsets = p.offsets; base = p.base; members = p.members }

  inside_makes : (gs : List Given) → MakesParts s st.ctx lambda n gs → MakesParts s inside lambda n gs
  inside_makes gs m = record {
    base = λ b e. object_same st.ctx inside lambda inside_same (plain (class b)) (m.base b e);
    base_given = m.base_given;
    member = λ i x e. object_same st.ctx inside lambda inside_same x.typ (m.member i x e);
    member_given = m.member_given;
    member_default = m.member_default;
  }

  inside_copies : CopiesParts st.ctx lambda n → CopiesParts inside lambda n
  inside_copies m = record {
    base = λ b e. object_same st.ctx inside lambda inside_same (plain (class b)) (m.base b e);
    members = λ i x e. let z = m.members i x e in record {
      formed = z.formed;
      element = z.element;
      object = λ k. object_same st.ctx inside lambda inside_same x.typ (z.object k);
    };
  }

-- Constructors

constructor_made : (s : Setting) (before a : State) (at : At) (k : ℕ) (d : Done) → is_constructor s.function.kind ≡ true → PartsMade s a d
    → On (LastFits s) (body_made before at k (constructor_tree at d.trees none) d.state)
constructor_made s before a at k d c p = made_fits s before at k (constructor_tree at d.trees none) d.state (λ r. constructor_fits s at d.trees none c (p.serve r) tt)

pub default_implied : (s : Setting) (st : State) (lambda : ℕ → Bool) (at : At) (k n : ℕ) → IsSetting s st.ctx → HasMakers st.ctx lambda → HasParts s st.ctx n
    → MakesParts s st.ctx lambda n [] → is_constructor s.function.kind ≡ true → On (LastFits s) (constructor_implied st at k n no_typs)
default_implied s st lambda at k n i m p z c = bind (PartsMade s (in_object st n)) (LastFits s) (parts_built (in_object st n) at n []) _
    (parts_build s (in_object st n) lambda at n [] (inside_setting s st lambda n i)
    (makers_same st.ctx (in_object st n).ctx lambda (inside_same s st lambda n) m) (inside_parts s st lambda n p) (inside_makes s st lambda n [] z))
    (λ d h. constructor_made s st (in_object st n) at k d c h)

abbrev copying : State → ℕ → (q d w : Bool) → State
copying st n q d w = with_source (in_object st n) (typ (ref (typ (class n) q false)) d w)

pub copy_implied : (s : Setting) (st : State) (lambda : ℕ → Bool) (at : At) (k n : ℕ) (q d w : Bool) (ps : Typs) → IsSetting s st.ctx → HasMakers st.ctx lambda
    → HasParts s st.ctx n → CopiesParts st.ctx lambda n → HasItem s 1 (typ (ref (typ (class n) q false)) d w) → is_constructor s.function.kind ≡ true
    → On (LastFits s) (constructor_implied st at k n (and_typ (typ (ref (typ (class n) q false)) d w) ps))
copy_implied s st lambda at k n q d w ps i m p z h c = bind (PartsMade s (copying st n q d w)) (LastFits s)
    (parts_copied (copying st n q d w) at n (source_object n (typ (ref (typ (class n) q false)) d w) at) q) _
    (parts_copied_fit s (copying st n q d w) lambda at n (source_object n (typ (ref (typ (class n) q false)) d w) at) q (inside_setting s st lambda n i)
    (makers_same st.ctx (in_object st n).ctx lambda (inside_same s st lambda n) m) (inside_parts s st lambda n p) (inside_copies s st lambda n z)
    (source_stands s n (class n) q false d w at h) refl)
    (λ x y. constructor_made s st (copying st n q d w) at k x c y)

-- Destructors

pub destructor_implied : (s : Setting) (st : State) (at : At) (k n : ℕ) (ps : Typs) → IsSetting s st.ctx → HasSpecials st.ctx → HasParts s st.ctx n
    → is_destructor s.function.kind ≡ true → On (LastFits s) (body_implied st at k n Destructor ps)
destructor_implied s st at k n ps i h p d = made_fits s st at k (destructor_tree st.ctx at at n none) (in_object st n)
    (λ r. destructor_fits s st.ctx at at n none i h p d tt)
