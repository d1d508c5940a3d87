-- Tame trees and their kids.
use Rattle.std.specs.Prelude.{◌≡◌, ℕ, Bool, true, false, not, ◌&&◌, ◌||◌, List, [], ◌∷◌, Option, Some, None, is_some, refl}
use Rattle.std.proofs.Common.{sym, subst}
use Rattle.std.proofs.lemmas.Bool.{false≢true, and_parts, and_from}
use Rattle.cpp_tree.specs.declared.kinds.TKind.{TKind}
use Rattle.cpp_tree.specs.declared.kinds.TKind.TheVariants.{Atomic}
use Rattle.cpp_tree.specs.Trees.{Tree, node, Trees, none, more, kind_of, first, rest}
use Rattle.src_mean.specs.Linked.{WordPlace}
use Rattle.src_mean.specs.Frames.{Owner, of_block, of_call, of_pieces}
use Rattle.block_marks.specs.Marks.{hides_all, is_tame_kind, scope_for, is_free, all_free, is_at_most, all_within, are_placed, below, is_tame, are_tame}
use Rattle.block_marks.specs.Marks.{is_alone, Round, has, is_met, runs, run_all, may_wait}

-- What is tame inside a block is so outside of it

or_more : (b o : Bool) → (b || false) ≡ true → (b || o) ≡ true
or_more true o h = refl
or_more false o h = absurd (false≢true h)

below_inside : (kind : TKind) → below kind false ≡ false
below_inside (Atomic kind) = refl
below_inside kind = refl

mutual
  pub eased : (s : ℕ → Bool) (o : Bool) (t : Tree) → is_tame s false t ≡ true → is_tame s o t ≡ true
  eased s o (node kind t cat at kids) h =
      let a = and_parts (is_tame_kind s kind || false) (are_placed kind kids && are_tame s (below kind false) kids) h in
      let b = and_parts (are_placed kind kids) (are_tame s (below kind false) kids) a.1 in
      and_from _ _ (or_more (is_tame_kind s kind) o a.0)
      (and_from _ _ b.0 (eased_all s (below kind o) kids (subst (λ i. are_tame s i kids ≡ true) (below_inside kind) b.1)))

  pub eased_all : (s : ℕ → Bool) (o : Bool) (ts : Trees) → are_tame s false ts ≡ true → are_tame s o ts ≡ true
  eased_all s o none h = refl
  eased_all s o (more t ts) h = let a = and_parts (is_tame s false t) (are_tame s false ts) h in and_from _ _ (eased s o t a.0) (eased_all s o ts a.1)

pub waits_eased : (s : ℕ → Bool) (o : Bool) (a : Tree) (ds : Trees) → may_wait s false a ds ≡ true → may_wait s o a ds ≡ true
waits_eased s o a ds h =
    let b = and_parts (is_alone s false a) (are_tame s false ds) h in
    let c = and_parts (is_tame s false a) (is_free a) b.0 in
    and_from _ _ (and_from _ _ (eased s o a c.0) c.1) (eased_all s o ds b.1)

-- a body, where it is safe or no block is open
pub body_tame : (s : ℕ → Bool) (safe o : Bool) (t : Tree) → (safe || o) ≡ true → is_tame s (not safe) t ≡ true → is_tame s o t ≡ true
body_tame s true o t i h = eased s o t h
body_tame s false o t i h = subst (λ z. is_tame s z t ≡ true) (sym i) h

hidden_all : (o : Bool) (places : List WordPlace) → hides_all false places ≡ true → hides_all o places ≡ true
hidden_all o [] h = refl
hidden_all o (w ∷ ws) h = let a = and_parts (not w.volatile || false) (hides_all false ws) h in
    and_from _ _ (or_more (not w.volatile) o a.0) (hidden_all o ws a.1)

pub words_hidden : (safe o : Bool) (places : List WordPlace) → (safe || o) ≡ true → hides_all (not safe) places ≡ true → hides_all o places ≡ true
words_hidden true o places i h = hidden_all o places h
words_hidden false o places i h = subst (λ z. hides_all z places ≡ true) (sym i) h

-- Kids

pub first_tame : (s : ℕ → Bool) (o : Bool) (ts : Trees) → are_tame s o ts ≡ true → is_tame s o (first ts) ≡ true
first_tame s o none h = refl
first_tame s o (more t ts) h = (and_parts (is_tame s o t) (are_tame s o ts) h).0

pub rest_tame : (s : ℕ → Bool) (o : Bool) (ts : Trees) → are_tame s o ts ≡ true → are_tame s o (rest ts) ≡ true
rest_tame s o none h = refl
rest_tame s o (more t ts) h = (and_parts (is_tame s o t) (are_tame s o ts) h).1

pub first_free : (ts : Trees) → all_free ts ≡ true → is_free (first ts) ≡ true
first_free none h = refl
first_free (more t ts) h = (and_parts (is_free t) (all_free ts) h).0

pub rest_free : (ts : Trees) → all_free ts ≡ true → all_free (rest ts) ≡ true
rest_free none h = refl
rest_free (more t ts) h = (and_parts (is_free t) (all_free ts) h).1

pub first_alone : (s : ℕ → Bool) (o : Bool) (ts : Trees) → are_tame s o ts ≡ true → all_free ts ≡ true → is_alone s o (first ts) ≡ true
first_alone s o ts t a = and_from _ _ (first_tame s o ts t) (first_free ts a)

pub second_alone : (s : ℕ → Bool) (o : Bool) (ts : Trees) → are_tame s o ts ≡ true → all_free ts ≡ true → is_alone s o (first (rest ts)) ≡ true
second_alone s o ts t a = first_alone s o (rest ts) (rest_tame s o ts t) (rest_free ts a)

pub third_alone : (s : ℕ → Bool) (o : Bool) (ts : Trees) → are_tame s o ts ≡ true → all_free ts ≡ true → is_alone s o (first (rest (rest ts))) ≡ true
third_alone s o ts t a = second_alone s o (rest ts) (rest_tame s o ts t) (rest_free ts a)

-- Scopes

free_met : (r : Round) (n : Option Owner) → not (is_some n) ≡ true → is_met r n ≡ true
free_met r None h = refl
free_met r (Some o) h = absurd (false≢true h)

pub free_runs : (s : ℕ → Bool) (r : Round) (t : Tree) → is_tame s r.outside t ≡ true → is_free t ≡ true → runs s r t ≡ true
free_runs s r t h f = and_from _ _ h (free_met r (scope_for (kind_of t)) f)

pub alone_runs : (s : ℕ → Bool) (r : Round) (t : Tree) → is_alone s r.outside t ≡ true → runs s r t ≡ true
alone_runs s r t h = let a = and_parts (is_tame s r.outside t) (is_free t) h in free_runs s r t a.0 a.1

pub free_all : (s : ℕ → Bool) (r : Round) (ts : Trees) → are_tame s r.outside ts ≡ true → all_free ts ≡ true → run_all s r ts ≡ true
free_all s r none h f = refl
free_all s r (more t ts) h f =
    let a = and_parts (is_tame s r.outside t) (are_tame s r.outside ts) h in
    let b = and_parts (is_free t) (all_free ts) f in
    and_from _ _ (free_runs s r t a.0 b.0) (free_all s r ts a.1 b.1)

within_met : (o : Owner) (r : Round) (n : Option Owner) → has o r ≡ true → is_at_most o n ≡ true → is_met r n ≡ true
within_met o r None h w = refl
within_met of_block r (Some of_block) h w = h
within_met of_call r (Some of_call) h w = h
within_met of_pieces r (Some of_pieces) h w = h
within_met o r (Some u) h w = absurd (false≢true w)

pub within_all : (s : ℕ → Bool) (o : Owner) (r : Round) (ts : Trees) → has o r ≡ true → are_tame s r.outside ts ≡ true → all_within o ts ≡ true
    → run_all s r ts ≡ true
within_all s o r none g h w = refl
within_all s o r (more t ts) g h w =
    let a = and_parts (is_tame s r.outside t) (are_tame s r.outside ts) h in
    let b = and_parts (is_at_most o (scope_for (kind_of t))) (all_within o ts) w in
    and_from _ _ (and_from _ _ a.0 (within_met o r (scope_for (kind_of t)) g b.0)) (within_all s o r ts g a.1 b.1)
