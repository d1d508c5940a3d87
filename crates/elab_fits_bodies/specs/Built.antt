-- What initialises the parts of an object under construction (C++14 12.6.2).
use Rattle.std.specs.Prelude.{◌≡◌, ℕ, Bool, false, List, None, Some, slice_get}
use Rattle.elab_rules.specs.cpp_types.Typ.{Typ, class}
use Rattle.elab_rules.specs.cpp_types.Class.{Member}
use Rattle.elab_rules.specs.cpp_types.declared.classes.At.{At}
use Rattle.elab_rules.specs.cpp_tree.declared.roles.Role.TheVariants.{BlockItem}
use Rattle.elab_rules.specs.cpp_tree.Notation.{plain}
use Rattle.elab_rules.specs.cpp_tree.Rows.{Setting}
use Rattle.elab_rules.specs.elab_ctx.Ctx.{Ctx, Work, Default}
use Rattle.elab_rules.specs.elab_ctx.Steps.{Made}
use Rattle.elab_rules.specs.Braces.{default_at, default_whole}
use Rattle.elab_rules.specs.Calls.{base_of_class}
use Rattle.elab_rules.specs.Names.{members_in, this_pointer}
use Rattle.elab_rules.specs.Statements.{State, Done, default_object}
use Rattle.elab_rules.specs.Members.{Given, given_for, own_this, parts_built}
use Rattle.elab_fits.specs.Standing.{IsSetting, Reaches, On}
use Rattle.elab_fits_objects.specs.Contexts.{IsObjectTyp, HasMakers}
use Rattle.elab_fits_statements.specs.Anywhere.{BuildsAnywhere, AllServe}
use Rattle.elab_fits_bodies.specs.Parts.{HasParts}

-- an object of which nothing is written
abbrev pub NothingsBuild : Type 0
NothingsBuild = (s : Setting) (c : Ctx) (lambda : ℕ → Bool) (t : Typ) (at : At) → IsSetting s c → HasMakers c lambda → IsObjectTyp c lambda t
    → On (BuildsAnywhere s t) (default_object c t at)

-- a member of a class, by its index
abbrev pub IsMember : Ctx → (n i : ℕ) → Member → Type 0
IsMember c n i m = slice_get (members_in (slice_get c.classes n)) i ≡ Some m

-- the initialiser of a member in the class, in a function that has this frame so far
abbrev pub own_default : Work → Default → Made
own_default w d = default_whole w (λ p. this_pointer p (own_this d.class)) d

-- what is written for parts builds them, as members' own initialisers do wherever their frames come to stand; the types of parts are those of objects
pub record MakesParts (s : Setting) (c : Ctx) (lambda : ℕ → Bool) (n : ℕ) (gs : List Given) : Type 0 where
  pub base : (b : ℕ) → base_of_class (slice_get c.classes n) ≡ Some b → IsObjectTyp c lambda (plain (class b))
  pub base_given : (b : ℕ) (g : Given) → base_of_class (slice_get c.classes n) ≡ Some b → given_for None gs ≡ Some g
      → BuildsAnywhere s (plain (class b)) g.tree
  pub member : (i : ℕ) (m : Member) → IsMember c n i m → IsObjectTyp c lambda m.typ
  pub member_given : (i : ℕ) (m : Member) (g : Given) → IsMember c n i m → given_for (Some i) gs ≡ Some g → BuildsAnywhere s m.typ g.tree
  pub member_default : (i : ℕ) (m : Member) (d : Default) (w : Work) → IsMember c n i m → default_at n i c.defaults ≡ Some d
      → Reaches s (own_default w d).work → BuildsAnywhere s m.typ (own_default w d).tree

-- where what was made has its place, so had what was made before, and the parts are items of the body
pub record PartsMade (s : Setting) (st : State) (d : Done) : Type 0 where
  pub before : Reaches s d.state.work → Reaches s st.work
  pub serve : Reaches s d.state.work → AllServe s false false BlockItem d.trees

-- the parts of an object under construction, by what is written for them, by their own initialisers, or from nothing
abbrev pub PartsBuild : Type 0
PartsBuild = (s : Setting) (st : State) (lambda : ℕ → Bool) (at : At) (n : ℕ) (gs : List Given) → IsSetting s st.ctx → HasMakers st.ctx lambda
    → HasParts s st.ctx n → MakesParts s st.ctx lambda n gs → On (PartsMade s st) (parts_built st at n gs)
