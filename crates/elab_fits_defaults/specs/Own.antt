-- The own initialiser of a member, where a constructor builds the object (C++14 12.6.2 p9).
use Rattle.std.specs.Prelude.{◌≡◌, ℕ, List, Some, slice_get}
use Rattle.elab_rules.specs.cpp_types.Class.{Member}
use Rattle.elab_rules.specs.cpp_tree.Rows.{Setting}
use Rattle.elab_rules.specs.elab_ctx.Ctx.{Work, Default}
use Rattle.elab_rules.specs.Names.{members_in}
use Rattle.elab_rules.specs.Braces.{default_at}
use Rattle.elab_fits.specs.Standing.{Reaches}
use Rattle.elab_fits_statements.specs.Anywhere.{BuildsAnywhere}
use Rattle.elab_fits_bodies.specs.Built.{own_default}
use Rattle.elab_fits_bodies.specs.Parts.{HasThis}
use Rattle.elab_fits_braces.specs.Defaults.{AllDefaultsFit}

-- it builds the member, outside of a full-expression too, where the object is the first item of the frame and its temporaries have their places
abbrev pub OwnDefaultsBuild : Type 0
OwnDefaultsBuild = (s : Setting) (ds : List Default) (n i : ℕ) (m : Member) (d : Default) (w : Work) → AllDefaultsFit s ds → HasThis s n
    → slice_get (members_in (slice_get s.classes n)) i ≡ Some m → default_at n i ds ≡ Some d → Reaches s (own_default w d).work
    → BuildsAnywhere s m.typ (own_default w d).tree
