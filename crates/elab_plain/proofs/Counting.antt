-- How many nodes of a tree declare an object that a `?:` tells. Where nothing is declared there are none.
use Rattle.std.proofs.Common.{◌≡◌, refl, ℕ, ◌+◌, ◌≤◌, true, length, arith}
use Rattle.std.proofs.lemmas.Bool.{and_from}
use Rattle.std.specs.Prelude.{not, ◌&&◌}
use Rattle.elab_rules.specs.cpp_tree.declared.kinds.TKind.{TKind}
use Rattle.elab_rules.specs.cpp_tree.declared.kinds.TKind.TheVariants.{Conditional, Init}
use Rattle.elab_rules.specs.cpp_tree.Trees.{Tree, node, Trees, none, more, kind_of, first}
use Rattle.elab_rules.specs.elab_ctx.Ctx.{Work}
use Rattle.elab_rules.specs.elab_ctx.Steps.{Made}
use Rattle.elab_rules.specs.Objects.{followed_by}
use Rattle.elab_places.proofs.Counting.{declaring, declared, own_count, held, all_held, Gives}
use Rattle.elab_places.proofs.Owned.{no_room}
use Rattle.tree_fold.specs.Declaring.{is_init, is_choice, declares_plainly, all_declare_plainly}

abbrev pub choice : TKind → ℕ
choice Conditional = 1
choice kind = 0

abbrev pub own_choosing : TKind → Trees → ℕ
own_choosing Init (more address others) = choice (kind_of address)
own_choosing kind kids = 0

abbrev mutual
  pub choosing : Tree → ℕ
  choosing (node kind t cat at kids) = own_choosing kind kids + all_choosing kids

  pub all_choosing : Trees → ℕ
  all_choosing none = 0
  all_choosing (more t ts) = choosing t + all_choosing ts

-- Where there are none, all is declared plainly

choice_plain : (kind : TKind) (n : ℕ) → choice kind + n ≡ 0 → not (true && is_choice kind) ≡ true
choice_plain Conditional n h = absurd (omega arith)
choice_plain kind n h = refl

own_plain : (kind : TKind) (kids : Trees) (n : ℕ) → own_choosing kind kids + n ≡ 0 → not (is_init kind && is_choice (kind_of (first kids))) ≡ true
own_plain Init (more address others) n h = choice_plain (kind_of address) n h
own_plain Init none n h = refl
own_plain kind kids n h = refl

mutual
  pub plainly : (e : Tree) → choosing e ≡ 0 → declares_plainly e ≡ true
  plainly (node kind t cat at kids) h = and_from (not (is_init kind && is_choice (kind_of (first kids)))) (all_declare_plainly kids)
      (own_plain kind kids (all_choosing kids) h) (all_plainly kids (omega arith))

  all_plainly : (ts : Trees) → all_choosing ts ≡ 0 → all_declare_plainly ts ≡ true
  all_plainly none h = refl
  all_plainly (more t ts) h = and_from (declares_plainly t) (all_declare_plainly ts) (plainly t (omega arith)) (all_plainly ts (omega arith))

-- What declares nothing

choice_most : (kind : TKind) → choice kind ≤ 1
choice_most Conditional = omega arith
choice_most kind = omega arith

own_less : (kind : TKind) (kids : Trees) → own_choosing kind kids ≤ own_count declaring kind kids
unfolding declared
own_less Init (more address others) = let c = choice_most (kind_of address) in omega arith
own_less Init none = omega arith
own_less kind kids = omega arith

mutual
  less : (e : Tree) → choosing e ≤ held declaring e
  less (node kind t cat at kids) = omega (arith, own_less kind kids, all_less kids)

  all_less : (ts : Trees) → all_choosing ts ≤ all_held declaring ts
  all_less none = omega arith
  all_less (more t ts) = omega (arith, less t, all_less ts)

pub of_none : (e : Tree) → held declaring e ≡ 0 → choosing e ≡ 0
of_none e h = omega (arith, less e)

pub all_of_none : (ts : Trees) → all_held declaring ts ≡ 0 → all_choosing ts ≡ 0
all_of_none ts h = omega (arith, all_less ts)

-- what was made of what declares nothing
pub made : (b : ℕ) (w : Work) (m : Made) → b ≡ 0 → Gives declaring b w m → held declaring m.tree ≡ 0
made b w m h i = omega (arith, no_room (length m.work.frame))

pub followed : (ts us : Trees) → all_choosing (followed_by ts us) ≡ all_choosing ts + all_choosing us
followed none us = omega arith
followed (more t ts) us = omega (arith, followed ts us)
