-- A folded body makes no place that the body does not make, and none twice.
use Rattle.std.proofs.Common.{◌≡◌, ◌≤◌, ◌+◌, refl, sym, subst, arith, ℕ, ◌==◌, nat_eq, Bool, true, false, ◌&&◌, not, List, [], ◌∷◌, ◌++◌}
use Rattle.std.proofs.Common.{Option, Some, None, cond}
use Rattle.std.specs.Prelude.{unwrap_or}
use Rattle.std.specs.List.{list_all}
use Rattle.std.proofs.lemmas.Bool.{and_parts, and_from}
use Rattle.std.proofs.lemmas.List.Sums.{sum_by-append}
use Rattle.std.proofs.lemmas.Option.{cond_some}
use Rattle.cpp_tree.specs.cpp_types.Typ.{Typ}
use Rattle.cpp_tree.specs.cpp_types.declared.classes.At.{At}
use Rattle.cpp_tree.specs.cpp_types.declared.ranks.Cat.{Cat}
use Rattle.cpp_tree.specs.declared.kinds.TKind.{TKind}
use Rattle.cpp_tree.specs.declared.kinds.TKind.TheVariants.{Convert, Binary, Conditional, Comma, Init, Handler}
use Rattle.cpp_tree.specs.Trees.{Tree, node, Trees, none, more, kind_of, first}
use Rattle.cpp_tree.specs.WellFormed.{local_place, place_of, places_of, all_places, times}
use Rattle.tree_fold.specs.Bare.{is_bare}
use Rattle.tree_fold.specs.Constants.{integer_word, constant}
use Rattle.tree_fold.specs.Folding.{stands_for, only_taken, taken_by, taken, literal_or, folded_node, folded, all_folded}
use Rattle.tree_fold.specs.Declaring.{is_init, is_choice, declares_plainly, all_declare_plainly}

-- Numbers that stand in a list as often as in another, or less

pub record Fewer (xs ys : List ℕ) : Type 0 where
  pub often : (n : ℕ) → times n xs ≤ times n ys
  pub all : (test : ℕ → Bool) → list_all test ys ≡ true → list_all test xs ≡ true

times_both : (n : ℕ) (xs ys : List ℕ) → times n (xs ++ ys) ≡ times n xs + times n ys
times_both n xs ys = sum_by-append (λ (m : ℕ). cond (nat_eq m n) 1 0) xs ys

all_first : (test : ℕ → Bool) (xs ys : List ℕ) → list_all test (xs ++ ys) ≡ true → list_all test xs ≡ true
all_first test [] ys e = refl
all_first test (x ∷ xs) ys e = let p = and_parts (test x) (list_all test (xs ++ ys)) e in and_from (test x) (list_all test xs) p.0 (all_first test xs ys p.1)

all_last : (test : ℕ → Bool) (xs ys : List ℕ) → list_all test (xs ++ ys) ≡ true → list_all test ys ≡ true
all_last test [] ys e = e
all_last test (x ∷ xs) ys e = all_last test xs ys (and_parts (test x) (list_all test (xs ++ ys)) e).1

all_both : (test : ℕ → Bool) (xs ys : List ℕ) → list_all test xs ≡ true → list_all test ys ≡ true → list_all test (xs ++ ys) ≡ true
all_both test [] ys e f = f
all_both test (x ∷ xs) ys e f = let p = and_parts (test x) (list_all test xs) e in and_from (test x) (list_all test (xs ++ ys)) p.0 (all_both test xs ys p.1 f)

fewer_same : (xs : List ℕ) → Fewer xs xs
fewer_same xs = record { often = λ n. omega arith; all = λ test e. e }

fewer_then : {xs ys zs : List ℕ} → Fewer xs ys → Fewer ys zs → Fewer xs zs
fewer_then {xs} {ys} {zs} f g = record { often = λ n. let a = f.often n in let b = g.often n in omega (arith, a, b); all = λ test e. f.all test (g.all test e) }

fewer_none : (ys : List ℕ) → Fewer [] ys
fewer_none ys = record { often = λ n. omega arith; all = λ test e. refl }

fewer_both : {xs ys us vs : List ℕ} → Fewer xs ys → Fewer us vs → Fewer (xs ++ us) (ys ++ vs)
fewer_both {xs} {ys} {us} {vs} f g = record {
  often = λ n. let a = f.often n in let b = g.often n in let c = times_both n xs us in let d = times_both n ys vs in omega (arith, a, b, c, d);
  all = λ test e. all_both test xs us (f.all test (all_first test ys vs e)) (g.all test (all_last test ys vs e));
}

fewer_first : (xs ys : List ℕ) → Fewer xs (xs ++ ys)
fewer_first xs ys = record { often = λ n. let c = times_both n xs ys in omega (arith, c); all = λ test e. all_first test xs ys e }

fewer_last : (xs ys : List ℕ) → Fewer ys (xs ++ ys)
fewer_last xs ys = record { often = λ n. let c = times_both n xs ys in omega (arith, c); all = λ test e. all_last test xs ys e }

-- Nodes

chosen_places : (a b c : Tree) → Fewer (places_of b) (all_places (more a (more b (more c none))))
chosen_places a b c = fewer_then (fewer_first (places_of b) (all_places (more c none))) (fewer_last (places_of a) (all_places (more b (more c none))))

other_places : (a b c : Tree) → Fewer (places_of c) (all_places (more a (more b (more c none))))
other_places a b c = fewer_then (fewer_then (fewer_first (places_of c) []) (fewer_last (places_of b) (all_places (more c none))))
    (fewer_last (places_of a) (all_places (more b (more c none))))

one_places : (v : ℕ → Bool) (t : Typ) (cat : Cat) (a b x : Tree) (ps : List ℕ) → Fewer (places_of a) ps → only_taken v t cat a b ≡ Some x
    → Fewer (places_of x) ps
one_places v t cat a b x ps f e = subst (λ (z : Tree). Fewer (places_of z) ps) (cond_some (stands_for t cat (kind_of a) && is_bare v b) a x e).1 f

word_places : (v : ℕ → Bool) (t : Typ) (cat : Cat) (c : Bool) (a b x : Tree) (ps : List ℕ) → Fewer (places_of a) ps → Fewer (places_of b) ps
    → cond c (only_taken v t cat b a) (only_taken v t cat a b) ≡ Some x → Fewer (places_of x) ps
word_places v t cat true a b x ps f g e = one_places v t cat b a x ps g e
word_places v t cat false a b x ps f g e = one_places v t cat a b x ps f e

choice_places : (v : ℕ → Bool) (t : Typ) (cat : Cat) (o : Option ℕ) (a b x : Tree) (ps : List ℕ) → Fewer (places_of a) ps → Fewer (places_of b) ps
    → taken_by v t cat o a b ≡ Some x → Fewer (places_of x) ps
choice_places v t cat None a b x ps f g e = absurd cc
choice_places v t cat (Some w) a b x ps f g e = word_places v t cat (w == 0) a b x ps f g e

taken_places : (v : ℕ → Bool) (kind : TKind) (t : Typ) (cat : Cat) (ks : Trees) (x : Tree) → taken v kind t cat ks ≡ Some x
    → Fewer (places_of x) (place_of kind ks ++ all_places ks)
taken_places v Conditional t cat none x e = absurd cc
taken_places v Conditional t cat (more a none) x e = absurd cc
taken_places v Conditional t cat (more a (more b none)) x e = absurd cc
taken_places v Conditional t cat (more a (more b (more c none))) x e =
    choice_places v t cat (integer_word a) b c x (all_places (more a (more b (more c none)))) (chosen_places a b c) (other_places a b c) e
taken_places v Conditional t cat (more a (more b (more c (more d ts)))) x e = absurd cc
taken_places v kind t cat ks x e = absurd cc

own_places : (kind : TKind) (t : Typ) (cat : Cat) (at : At) (ks : Trees) (o : Option Tree)
    → ((x : Tree) → o ≡ Some x → Fewer (places_of x) (place_of kind ks ++ all_places ks))
    → Fewer (places_of (unwrap_or o (node kind t cat at ks))) (place_of kind ks ++ all_places ks)
own_places kind t cat at ks None f = fewer_same (place_of kind ks ++ all_places ks)
own_places kind t cat at ks (Some x) f = f x refl

literal_places : (o : Option ℕ) (t : Typ) (at : At) (x : Tree) (ps : List ℕ) → Fewer (places_of x) ps → Fewer (places_of (literal_or o t at x)) ps
literal_places None t at x ps f = f
literal_places (Some w) t at x ps f = fewer_none ps

node_places : (v : ℕ → Bool) (kind : TKind) (t : Typ) (cat : Cat) (at : At) (ks : Trees)
    → Fewer (places_of (folded_node v kind t cat at ks)) (place_of kind ks ++ all_places ks)
node_places v kind t cat at ks = literal_places (constant kind t cat ks) t at (unwrap_or (taken v kind t cat ks) (node kind t cat at ks))
    (place_of kind ks ++ all_places ks) (own_places kind t cat at ks (taken v kind t cat ks) (λ x e. taken_places v kind t cat ks x e))

-- What a declaration declares

literal_local : (o : Option ℕ) (t : Typ) (at : At) (x : Tree) → local_place (kind_of x) ≡ [] → local_place (kind_of (literal_or o t at x)) ≡ []
literal_local None t at x e = e
literal_local (Some w) t at x e = refl

none_if : (xs ys : List ℕ) → xs ≡ [] → Fewer xs ys
none_if xs ys e = subst (λ (z : List ℕ). Fewer z ys) (sym e) (fewer_none ys)

module _ (v : ℕ → Bool) where
  local_fewer : (a : Tree) → is_choice (kind_of a) ≡ false → Fewer (local_place (kind_of (folded v a))) (local_place (kind_of a))
  local_fewer (node (Convert to) t cat at kids) e =
      none_if _ _ (literal_local (constant (Convert to) t cat (all_folded v kids)) t at (node (Convert to) t cat at (all_folded v kids)) refl)
  local_fewer (node (Binary op k) t cat at kids) e =
      none_if _ _ (literal_local (constant (Binary op k) t cat (all_folded v kids)) t at (node (Binary op k) t cat at (all_folded v kids)) refl)
  local_fewer (node Comma t cat at kids) e =
      none_if _ _ (literal_local (constant Comma t cat (all_folded v kids)) t at (node Comma t cat at (all_folded v kids)) refl)
  local_fewer (node Conditional t cat at kids) e = absurd cc
  local_fewer (node kind t cat at kids) e = fewer_same (local_place kind)

  untrue : (b : Bool) → not b ≡ true → b ≡ false
  untrue true e = absurd cc
  untrue false e = refl

  place_fewer : (kind : TKind) (kids : Trees) → not (is_init kind && is_choice (kind_of (first kids))) ≡ true
      → Fewer (place_of kind (all_folded v kids)) (place_of kind kids)
  place_fewer Init none e = fewer_same []
  place_fewer Init (more a ts) e = local_fewer a (untrue (is_choice (kind_of a)) e)
  place_fewer (Handler None) kids e = fewer_same []
  place_fewer (Handler (Some place)) kids e = fewer_same (place ∷ [])
  place_fewer kind kids e = fewer_same _

  mutual
    pub tree_places : (t : Tree) → declares_plainly t ≡ true → Fewer (places_of (folded v t)) (places_of t)
    tree_places (node kind t cat at kids) e =
        let p = and_parts (not (is_init kind && is_choice (kind_of (first kids)))) (all_declare_plainly kids) e in
        fewer_then (node_places v kind t cat at (all_folded v kids)) (fewer_both (place_fewer kind kids p.0) (kids_places kids p.1))

    kids_places : (ts : Trees) → all_declare_plainly ts ≡ true → Fewer (all_places (all_folded v ts)) (all_places ts)
    kids_places none e = fewer_same []
    kids_places (more t ts) e = let p = and_parts (declares_plainly t) (all_declare_plainly ts) e in fewer_both (tree_places t p.0) (kids_places ts p.1)
