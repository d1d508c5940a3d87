-- What is known of each node's folded tree, and what becomes of a node by that of its kids.
use Rattle.std.specs.Prelude.{◌≡◌, ◌==◌, ℕ, Bool, true, false, nat_lt, ◌&&◌, List, [], ◌∷◌, length, get_or, slice_get, Option, Some, None, option_map}
use Rattle.std.specs.Prelude.{unwrap_or, cond}
use Rattle.std.specs.List.{list_all}
use Rattle.cpp_tree.specs.cpp_types.Typ.{Typ, typ_of}
use Rattle.cpp_tree.specs.cpp_types.declared.ranks.Cat.{Cat}
use Rattle.cpp_tree.specs.declared.arena.TNode.{TNode}
use Rattle.cpp_tree.specs.declared.arena.TNodeId.{TNodeId}
use Rattle.cpp_tree.specs.declared.kinds.TKind.{TKind}
use Rattle.cpp_tree.specs.declared.kinds.TKind.TheVariants.{Literal, Convert, Binary, Conditional, Comma}
use Rattle.cpp_tree.specs.Trees.{Tree, Trees, none, more, kind_of, literal}
use Rattle.cpp_tree.specs.Arena.{tree_at, trees_at, Grows}
use Rattle.src_mean.specs.Source.{converted}
use Rattle.tree_fold.specs.declared.words.Operands.{Operands}
use Rattle.tree_fold.specs.declared.sights.Sight.{Sight}
use Rattle.tree_fold.specs.Bare.{is_bare_node, is_bare}
use Rattle.tree_fold.specs.Constants.{is_integer, literal_word, integer_word, both_words, of_integer, operator_word, comma_word}
use Rattle.tree_fold.specs.Folding.{stands_for, folded}

abbrev pub sight_of : (volatile : ℕ → Bool) → Tree → Sight
sight_of volatile t = record { kind = kind_of t; word = integer_word t; bare = is_bare volatile t }

-- the folded tree of a node
abbrev pub folded_at : (volatile : ℕ → Bool) → List Tree → TNodeId → Tree
folded_at volatile trees id = folded volatile (tree_at trees id)

-- the first of these trees, folded, show themselves so
pub record AreSights (volatile : ℕ → Bool) (trees : List Tree) (sights : List Sight) : Type 0 where
  pub each : (i : ℕ) (s : Sight) → slice_get sights i ≡ Some s → s ≡ sight_of volatile (folded volatile (get_or trees i (literal 0)))

-- The same as in `Constants` and `Folding`, of what is known of the kids

abbrev pub word_seen : Option Sight → Option ℕ
word_seen None = None
word_seen (Some s) = s.word

abbrev pub kind_seen : Option Sight → TKind
kind_seen None = Literal 0
kind_seen (Some s) = s.kind

abbrev pub bare_seen : Option Sight → Bool
bare_seen None = true
bare_seen (Some s) = s.bare

abbrev pub only_word : List Sight → List TNodeId → Option ℕ
only_word sights (id ∷ []) = word_seen (slice_get sights id.0)
only_word sights ids = None

abbrev pub pair_of_words : List Sight → List TNodeId → Option Operands
pair_of_words sights (left ∷ right ∷ []) = both_words (word_seen (slice_get sights left.0)) (word_seen (slice_get sights right.0))
pair_of_words sights ids = None

abbrev pub constant_seen : List Sight → TKind → Typ → Cat → List TNodeId → Option ℕ
constant_seen sights (Convert to) t cat ids = of_integer t cat (option_map (converted to) (only_word sights ids))
constant_seen sights (Binary op kind) t cat ids = of_integer t cat (operator_word op kind (pair_of_words sights ids))
constant_seen sights Comma t cat ids = of_integer t cat (comma_word (pair_of_words sights ids))
constant_seen sights kind t cat ids = None

abbrev pub only_taken_seen : List Sight → Typ → Cat → (run other : TNodeId) → Option TNodeId
only_taken_seen sights t cat run other = cond (stands_for t cat (kind_seen (slice_get sights run.0)) && bare_seen (slice_get sights other.0)) (Some run) None

abbrev pub taken_by_word : List Sight → Typ → Cat → Option ℕ → (chosen other : TNodeId) → Option TNodeId
taken_by_word sights t cat None chosen other = None
taken_by_word sights t cat (Some w) chosen other = cond (w == 0) (only_taken_seen sights t cat other chosen) (only_taken_seen sights t cat chosen other)

abbrev pub taken_among : List Sight → Typ → Cat → List TNodeId → Option TNodeId
taken_among sights t cat (test ∷ chosen ∷ other ∷ []) = taken_by_word sights t cat (word_seen (slice_get sights test.0)) chosen other
taken_among sights t cat ids = None

abbrev pub taken_seen : List Sight → TKind → Typ → Cat → List TNodeId → Option TNodeId
taken_seen sights Conditional t cat ids = taken_among sights t cat ids
taken_seen sights kind t cat ids = None

abbrev pub all_bare : List Sight → List TNodeId → Bool
all_bare sights ids = list_all (λ (id : TNodeId). bare_seen (slice_get sights id.0)) ids

abbrev pub has_none : List TNodeId → Bool
has_none [] = true
has_none (id ∷ ids) = false

abbrev pub own_sight : (volatile : ℕ → Bool) → List Sight → TKind → Typ → List TNodeId → Sight
own_sight volatile sights kind t ids = record {
  kind = kind;
  word = literal_word kind (is_integer t && has_none ids);
  bare = is_bare_node volatile kind t
      && all_bare sights ids;
}

abbrev pub kid_or : List Sight → Option TNodeId → Sight → Sight
kid_or sights None s = s
kid_or sights (Some id) s = unwrap_or (slice_get sights id.0) s

abbrev pub word_or : Option ℕ → Sight → Sight
word_or None s = s
word_or (Some w) s = record { kind = Literal w; word = Some w; bare = true }

abbrev pub sight_seen : (volatile : ℕ → Bool) → List Sight → TNode → Sight
sight_seen volatile sights n = word_or (constant_seen sights n.kind (typ_of n.ty) n.cat n.kids.items)
    (kid_or sights (taken_seen sights n.kind (typ_of n.ty) n.cat n.kids.items) (own_sight volatile sights n.kind (typ_of n.ty) n.kids.items))

-- Lists that grow

-- each place is one of the list
abbrev pub are_within : ℕ → List TNodeId → Bool
are_within n ids = list_all (λ (id : TNodeId). nat_lt id.0 n) ids

abbrev pub followed_by : Trees → Trees → Trees
followed_by none us = us
followed_by (more t ts) us = more t (followed_by ts us)

-- trees are added one after the other, where `left` are still to be added of `all`
pub record Adding (old now : List Tree) (ids : List TNodeId) (left all : Trees) : Type 0 where
  pub grows : Grows old now
  pub within : are_within (length now) ids ≡ true
  pub are : followed_by (trees_at now ids) left ≡ all
