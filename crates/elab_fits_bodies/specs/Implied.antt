-- The bodies of implicit members (C++14 12.1, 12.4, 12.8).
use Rattle.std.specs.Prelude.{◌≡◌, ℕ, Bool, true, false, List, [], ◌∷◌, ◌++◌}
use Rattle.elab_rules.specs.cpp_types.Typ.{typ, ref, class, Typs, none as no_typs, more as and_typ}
use Rattle.elab_rules.specs.cpp_types.declared.classes.At.{At}
use Rattle.elab_rules.specs.cpp_tree.declared.program.FuncKind.TheVariants.{Destructor}
use Rattle.elab_rules.specs.cpp_tree.Rows.{Setting, is_constructor, is_destructor}
use Rattle.elab_rules.specs.Statements.{State, Body}
use Rattle.elab_rules.specs.Implicit.{constructor_implied, body_implied}
use Rattle.elab_fits.specs.Standing.{IsSetting, Reaches, On}
use Rattle.elab_fits.specs.Objects.{HasSpecials}
use Rattle.elab_fits_objects.specs.Contexts.{HasMakers}
use Rattle.elab_fits_statements.specs.Variables.{HasItem}
use Rattle.elab_fits_bodies.specs.Functions.{IsBody}
use Rattle.elab_fits_bodies.specs.Parts.{HasParts}
use Rattle.elab_fits_bodies.specs.Built.{MakesParts}
use Rattle.elab_fits_bodies.specs.Copied.{CopiesParts}

-- the body that was made last: where the items of its frame have their places, its tree is that of a body
abbrev pub LastFits : Setting → State → Type 0
LastFits s x = (bs : List Body) (b : Body) → x.bodies ≡ bs ++ b ∷ [] → Reaches s (record x.work { frame = b.frame }) → IsBody s b.tree

-- the constructor without parameters
abbrev pub DefaultsImplied : Type 0
DefaultsImplied = (s : Setting) (st : State) (lambda : ℕ → Bool) (at : At) (k n : ℕ) → IsSetting s st.ctx → HasMakers st.ctx lambda → HasParts s st.ctx n
    → MakesParts s st.ctx lambda n [] → is_constructor s.function.kind ≡ true → On (LastFits s) (constructor_implied st at k n no_typs)

-- the copy, from an object to which the second word of the call refers
abbrev pub CopiesImplied : Type 0
CopiesImplied = (s : Setting) (st : State) (lambda : ℕ → Bool) (at : At) (k n : ℕ) (q d w : Bool) (ps : Typs) → IsSetting s st.ctx → HasMakers st.ctx lambda
    → HasParts s st.ctx n → CopiesParts st.ctx lambda n → HasItem s 1 (typ (ref (typ (class n) q false)) d w) → is_constructor s.function.kind ≡ true
    → On (LastFits s) (constructor_implied st at k n (and_typ (typ (ref (typ (class n) q false)) d w) ps))

abbrev pub DestructorsImplied : Type 0
DestructorsImplied = (s : Setting) (st : State) (at : At) (k n : ℕ) (ps : Typs) → IsSetting s st.ctx → HasSpecials st.ctx → HasParts s st.ctx n
    → is_destructor s.function.kind ≡ true → On (LastFits s) (body_implied st at k n Destructor ps)
