-- How often a place stands in a tree, and how a frame makes room for it. A tree with `held` of a place that is made while the frame grows from `w` to `x`
-- satisfies `held + room w ≤ room x`: so the place is one that was added meanwhile, and stands once.
use Rattle.std.proofs.Common.{◌≡◌, ℕ, ◌+◌, ◌≤◌, Bool, cond, eqb, ltb, List, [], ◌∷◌}
use Rattle.std.proofs.Common.{◌++◌, length, length-append, Option, Some, None, arith}
use Rattle.std.proofs.lemmas.Bool.Decides.{nat_tests}
use Rattle.elab_rules.specs.cpp_types.Typ.{Typ}
use Rattle.elab_rules.specs.cpp_tree.declared.kinds.TKind.{TKind}
use Rattle.elab_rules.specs.cpp_tree.declared.kinds.TKind.TheVariants.{Local, Materialize, Init, Handler}
use Rattle.elab_rules.specs.cpp_tree.Trees.{Tree, node, Trees, none, more, kind_of}
use Rattle.elab_rules.specs.elab_ctx.Ctx.{Work, with_item, next_place}
use Rattle.elab_rules.specs.elab_ctx.Steps.{Operand, Made, MadeAll}

-- what is counted in a tree: a place, or the nodes that declare
pub data Sought : Type 0 where
  place : ℕ → Sought
  declaring : Sought

abbrev pub one_if : Bool → ℕ
one_if b = cond b 1 0

unfoldable pub at_place : Sought → ℕ → ℕ
at_place (place p) q = one_if (eqb q p)
at_place declaring q = 0

unfoldable pub room : Sought → ℕ → ℕ
room (place p) n = one_if (ltb p n)
room declaring n = 0

-- a node that declares counts for itself
unfoldable pub declared : Sought → ℕ
declared (place p) = 0
declared declaring = 1

abbrev pub local_count : Sought → TKind → ℕ
local_count g (Local q) = at_place g q
local_count g kind = 0

abbrev pub init_count : Sought → Trees → ℕ
init_count g (more address others) = declared g + local_count g (kind_of address)
init_count g none = declared g

abbrev pub handler_count : Sought → Option ℕ → ℕ
handler_count g (Some q) = declared g + at_place g q
handler_count g None = declared g

abbrev pub own_count : Sought → TKind → Trees → ℕ
own_count g Init kids = init_count g kids
own_count g (Materialize q argument) kids = at_place g q
own_count g (Handler o) kids = handler_count g o
own_count g kind kids = 0

abbrev mutual
  pub held : Sought → Tree → ℕ
  held g (node kind t cat at kids) = own_count g kind kids + all_held g kids

  pub all_held : Sought → Trees → ℕ
  all_held g none = 0
  all_held g (more t ts) = held g t + all_held g ts

abbrev pub operands_held : Sought → List Operand → ℕ
operands_held g [] = 0
operands_held g (o ∷ os) = held g o.tree + operands_held g os

abbrev pub used : Sought → Work → ℕ
used g w = room g (length w.frame)

-- Room

cond_fits : (n p : ℕ) → cond (eqb n p) 1 0 + cond (ltb p n) 1 0 ≤ cond (ltb p (n + 1)) 1 0
cond_fits n p = grind (arith, nat_tests)

pub next_fits : (g : Sought) (n : ℕ) → at_place g n + room g n ≤ room g (n + 1)
unfolding at_place room
next_fits (place p) n = cond_fits n p
next_fits declaring n = omega arith

-- a new item makes room for its place
pub item_fits : (g : Sought) (w : Work) (t : Typ) → at_place g (next_place w) + used g w ≤ used g (with_item w t)
item_fits g w t = let e : length (w.frame ++ t ∷ []) ≡ length w.frame + 1 = length-append w.frame (t ∷ []) in rw e (next_fits g (length w.frame))

pub item_more : (g : Sought) (w : Work) (t : Typ) → used g w ≤ used g (with_item w t)
item_more g w t = omega (arith, item_fits g w t)

-- What is made of trees that hold `b`, behind a work

abbrev pub Gives : Sought → ℕ → Work → Made → Type 0
Gives g b w m = held g m.tree + used g w ≤ b + used g m.work

abbrev pub GiveAll : Sought → ℕ → Work → MadeAll → Type 0
GiveAll g b w m = all_held g m.trees + used g w ≤ b + used g m.work

abbrev pub HoldsAtMost : Sought → ℕ → Tree → Type 0
HoldsAtMost g b e = held g e ≤ b

pub same : (n : ℕ) → n ≤ n
same n = omega arith
