-- What is written for parts of an object, and a class while it is made as a base.
use Rattle.std.specs.Prelude.{ℕ, Bool, false, nat_lt, List, [], ◌∷◌, Option, Some, None, if◌then◌else◌, slice_get, slice_set, unwrap_or}
use Rattle.std.specs.List.{list_all}
use Rattle.elab_entry.specs.cpp_tree.Trees.{Tree}
use Rattle.elab_entry.specs.cpp_tree.Arena.{tree_at}
use Rattle.elab_entry.specs.elab_ctx.Ctx.{Ctx, Traits}
use Rattle.elab_entry.specs.elab_rules.Names.{same_variable}
use Rattle.elab_entry.specs.elab_rules.Objects.{no_traits}
use Rattle.elab_entry.specs.elab_rules.Members.{Given}
use Rattle.elab_implicit.specs.declared.given.Given.{Given as GivenRec}

-- what the record of the code shows
abbrev pub given_in : List Tree → GivenRec → Given
given_in trees g = record { member = g.member; at = g.at; tree = tree_at trees g.init }

-- the record for a part
abbrev pub found_for : Option ℕ → List GivenRec → Option GivenRec
found_for i [] = None
found_for i (g ∷ gs) = if same_variable i g.member then Some g else found_for i gs

-- each initialiser is one of the nodes
abbrev pub are_there : ℕ → List GivenRec → Bool
are_there n gs = list_all (λ (g : GivenRec). nat_lt g.init.0 n) gs

-- what holds of a class
abbrev pub traits_in : List Traits → ℕ → Traits
traits_in ts n = unwrap_or (slice_get ts n) no_traits

-- a class is abstract, or it is not
abbrev pub marked_abstract : List Traits → ℕ → Bool → List Traits
marked_abstract ts n b = slice_set ts n (record (traits_in ts n) { is_abstract = b })

abbrev pub was_abstract : Ctx → Option ℕ → Bool
was_abstract c (Some n) = (traits_in c.traits n).is_abstract
was_abstract c None = false

abbrev pub with_abstract : Ctx → Option ℕ → Bool → Ctx
with_abstract c (Some n) b = record c { traits = marked_abstract c.traits n b }
with_abstract c None b = c
