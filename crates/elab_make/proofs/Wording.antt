-- The words of a call so far.
use Rattle.std.proofs.Common.{◌≡◌, ℕ, zero, suc, ◌+◌, ◌<◌, ◌≤◌, true, List, [], ◌∷◌, ◌++◌, length, drop, Some, Ok, Err, Result, refl, sym, ◌∙◌, ap, arith}
use Rattle.std.proofs.Common.{get_or, nat_lt, slice_get}
use Rattle.std.proofs.lemmas.Bool.{ltb-true, and_parts}
use Rattle.elab_init.specs.cpp_types.declared.types.Ty.{Ty}
use Rattle.elab_init.specs.cpp_types.Typ.{typ_of, typs_of}
use Rattle.elab_init.specs.cpp_tree.declared.faults.ElabFault.{ElabFault}
use Rattle.elab_init.specs.cpp_tree.declared.arena.TNodeId.{TNodeId}
use Rattle.elab_init.specs.cpp_tree.Trees.{Tree, Trees, none, more, one}
use Rattle.elab_init.specs.cpp_tree.Arena.{tree_at, trees_at, Grows}
use Rattle.elab_init.specs.elab_ctx.Ctx.{Ctx, Work}
use Rattle.elab_init.specs.elab_ctx.Steps.{and_then, Made, MadeAll}
use Rattle.elab_init.specs.elab_ctx.Operands.{operand_in, operands_in, are_in}
use Rattle.elab_init.specs.elab_ctx.declared.operand.Operand.{Operand as OperandRec}
use Rattle.elab_init.specs.elab_ctx.Says.{Faults, MadeAt, AllMade, are_within}
use Rattle.elab_init.proofs.elab_ctx.Looks.{grows_refl, grows_trans, at_grown, within_grown}
use Rattle.elab_init.proofs.elab_ctx.Making.{faults_in, faults_same}
use Rattle.elab_init.specs.elab_rules.Objects.{followed_by}
use Rattle.elab_init.specs.elab_rules.Initialising.{passed, words}
use Rattle.elab_init.proofs.Listing.{followed_none, followed_twice, trees_append, trees_grown, all_within_grown, within_both, within_one, drop_step, drop_past}

-- Steps

then_then : {A B C : Type 0} (x : Result A ElabFault) (f : A → Result B ElabFault) (g : B → Result C ElabFault)
    → and_then (and_then x f) g ≡ and_then x (λ a. and_then (f a) g)
then_then (Ok a) f g = refl
then_then (Err e) f g = refl

then_same : {A B : Type 0} (x : Result A ElabFault) (f g : A → Result B ElabFault) → ((a : A) → f a ≡ g a) → and_then x f ≡ and_then x g
then_same (Ok a) f g h = h a
then_same (Err e) f g h = refl

then_ok : {A : Type 0} (x : Result A ElabFault) (f : A → A) → ((a : A) → f a ≡ a) → and_then x (λ a. Ok (f a)) ≡ x
then_ok (Ok a) f h = ap Ok (h a)
then_ok (Err e) f h = refl

-- Lists

pub in_at : (n : ℕ) (os : List OperandRec) (i : ℕ) (d : OperandRec) → are_in n os ≡ true → i < length os → (get_or os i d).id.0 < n
in_at n [] i d w h = absurd (omega arith)
in_at n (o ∷ os) zero d w h = ltb-true o.id.0 n (and_parts (nat_lt o.id.0 n) (are_in n os) w).0
in_at n (o ∷ os) (suc i) d w h = in_at n os i d (and_parts (nat_lt o.id.0 n) (are_in n os) w).1 (omega arith)

pub operand_grown : (old new : List Tree) (o : OperandRec) → Grows old new → o.id.0 < length old → operand_in new o ≡ operand_in old o
operand_grown old new o g h = ap (λ (z : Tree). record { tree = z; at = o.at; zero = o.zero }) (at_grown old new o.id g h)

pub word_within : (old now : List Tree) (os : List OperandRec) (i : ℕ) (o : OperandRec) → Grows old now → are_in (length old) os ≡ true
    → slice_get os i ≡ Some o → o.id.0 < length now
word_within old now [] i o g w h = absurd cc
word_within old now (p ∷ os) zero o g w h = let is : p ≡ o = cc in
    within_grown old now o.id g (rw (sym is) (ltb-true p.id.0 (length old) (and_parts (nat_lt p.id.0 (length old)) (are_in (length old) os) w).0))
word_within old now (p ∷ os) (suc i) o g w h = word_within old now os i o g (and_parts (nat_lt p.id.0 (length old)) (are_in (length old) os) w).1 h

-- behind words that stand there
abbrev behind : Trees → MadeAll → MadeAll
behind ts m = record { trees = followed_by ts m.trees; work = m.work }

pub record Wording (c : Ctx) (w0 : Work) (params : List Ty) (os : List OperandRec) (i : ℕ) (old now : List Tree) (work : Work)
    (ids : List TNodeId) : Type 0 where
  pub grows : Grows old now
  pub within : are_within (length now) ids ≡ true
  pub is : words c w0 (typs_of params) (operands_in old os)
      ≡ and_then (words c work (typs_of (drop i params)) (operands_in old (drop i os))) (λ m. Ok (behind (trees_at now ids) m))

pub wording_first : (c : Ctx) (w0 : Work) (params : List Ty) (os : List OperandRec) (old : List Tree) (ids : List TNodeId) → ids ≡ []
    → Wording c w0 params os 0 old old w0 ids
wording_first c w0 params os old ids e = record {
  grows = grows_refl old;
  within = rw e refl;
  is = rw e (sym (then_ok (words c w0 (typs_of params) (operands_in old os)) (behind none) (λ m. refl)));
}

-- what is left, where a parameter and an argument are
left_is : (c : Ctx) (work : Work) (params : List Ty) (os : List OperandRec) (i : ℕ) (old : List Tree) (p : Ty) (o d : OperandRec) (e : Ty) → i < length params
    → i < length os → p ≡ get_or params i e → o ≡ get_or os i d
    → words c work (typs_of (drop i params)) (operands_in old (drop i os))
    ≡ and_then (passed c work (typ_of p) (operand_in old o))
    (λ (m : Made). and_then (words c m.work (typs_of (drop (i + 1) params)) (operands_in old (drop (i + 1) os)))
    (λ (r : MadeAll). Ok (record { trees = more m.tree r.trees; work = r.work })))
left_is c work params os i old p o d e h g q r = rw (drop_step params i e h, drop_step os i d g) (rw (q, r) refl)

moved : (old now : List Tree) (os : List OperandRec) (i : ℕ) (o d : OperandRec) → Grows old now → are_in (length old) os ≡ true → i < length os
    → o ≡ get_or os i d → operand_in now o ≡ operand_in old o
moved old now os i o d g w h q = operand_grown old now o g (rw q (in_at (length old) os i d w h))

pub wording_more : (c : Ctx) (w0 : Work) (params : List Ty) (os : List OperandRec) (i : ℕ) (old now new : List Tree) (work next_work : Work)
    (ids next : List TNodeId) (p e : Ty) (o d : OperandRec) (r : TNodeId) → Wording c w0 params os i old now work ids → are_in (length old) os ≡ true
    → i < length params → i < length os → p ≡ get_or params i e → o ≡ get_or os i d → MadeAt now new next_work r (passed c work (typ_of p) (operand_in now o))
    → next ≡ ids ++ r ∷ [] → Wording c w0 params os (i + 1) old new next_work next
wording_more c w0 params os i old now new work next_work ids next p e o d r f w h g q s m n =
    let stays : operand_in now o ≡ operand_in old o = moved old now os i o d f.grows w g s in
    let value : passed c work (typ_of p) (operand_in old o) ≡ Ok (record { tree = tree_at new r; work = next_work }) = ap (passed c work (typ_of p)) (sym stays)
    ∙ m.is in
    let before : trees_at new ids ≡ trees_at now ids = trees_grown now new ids m.grows f.within in
    let all : trees_at new next ≡ followed_by (trees_at now ids) (one (tree_at new r)) = ap (trees_at new) n ∙ trees_append new ids (r ∷ [])
    ∙ ap (λ (z : Trees). followed_by z (one (tree_at new r))) before in
    let rest : Result MadeAll ElabFault = words c next_work (typs_of (drop (i + 1) params)) (operands_in old (drop (i + 1) os)) in
    record {
      grows = grows_trans f.grows m.grows;
      within = rw n (within_both (length new) ids (r ∷ []) (all_within_grown now new ids m.grows f.within) (within_one (length new) r m.within));
      is = f.is ∙ ap (λ (z : Result MadeAll ElabFault). and_then z (λ x. Ok (behind (trees_at now ids) x))) (left_is c work params os i old p o d e h g q s)
          ∙ rw value (then_then rest (λ x. Ok (record { trees = more (tree_at new r) x.trees; work = x.work })) (λ x. Ok (behind (trees_at now ids) x))
          ∙ then_same rest (λ x. Ok (behind (trees_at now ids) (record { trees = more (tree_at new r) x.trees; work = x.work })))
          (λ x. Ok (behind (trees_at new next) x)) (λ x. ap (λ (z : Trees). Ok (record { trees = z; work = x.work }))
          (sym (ap (λ (z : Trees). followed_by z x.trees) all ∙ followed_twice (trees_at now ids) (one (tree_at new r)) x.trees))));
    }

pub wording_fails : (c : Ctx) (w0 : Work) (params : List Ty) (os : List OperandRec) (i : ℕ) (old now : List Tree) (work : Work) (ids : List TNodeId) (p e : Ty)
    (o d : OperandRec) (x : ElabFault) → Wording c w0 params os i old now work ids → are_in (length old) os ≡ true → i < length params → i < length os
    → p ≡ get_or params i e → o ≡ get_or os i d → Faults x (passed c work (typ_of p) (operand_in now o))
    → Faults x (words c w0 (typs_of params) (operands_in old os))
wording_fails c w0 params os i old now work ids p e o d x f w h g q s m =
    let stays : operand_in now o ≡ operand_in old o = moved old now os i o d f.grows w g s in
    let value : passed c work (typ_of p) (operand_in old o) ≡ passed c work (typ_of p) (operand_in now o) = ap (passed c work (typ_of p)) (sym stays) in
    faults_same x _ _ (f.is ∙ ap (λ (z : Result MadeAll ElabFault). and_then z (λ y. Ok (behind (trees_at now ids) y)))
    (left_is c work params os i old p o d e h g q s))
    (faults_in (λ (z : Result Made ElabFault). and_then
    (and_then z (λ (y : Made). and_then (words c y.work (typs_of (drop (i + 1) params)) (operands_in old (drop (i + 1) os)))
    (λ (u : MadeAll). Ok (record { trees = more y.tree u.trees; work = u.work })))) (λ u. Ok (behind (trees_at now ids) u))) x _ (λ b. refl)
    (faults_same x _ _ value m))

no_operands : (c : Ctx) (work : Work) (ps : List Ty) → words c work (typs_of ps) [] ≡ Ok (record { trees = none; work = work })
no_operands c work [] = refl
no_operands c work (p ∷ ps) = refl

-- no parameter or no argument is left
pub wording_done : (c : Ctx) (w0 : Work) (params : List Ty) (os : List OperandRec) (i : ℕ) (old now : List Tree) (work : Work) (ids : List TNodeId)
    → Wording c w0 params os i old now work ids → length params ≤ i → AllMade old now work ids (words c w0 (typs_of params) (operands_in old os))
wording_done c w0 params os i old now work ids f h = record {
  grows = f.grows;
  within = f.within;
  is = f.is ∙ rw (drop_past params i h)
      (ap (λ (z : Trees). Ok (record { trees = z; work = work })) (followed_none (trees_at now ids)));
}

pub wording_short : (c : Ctx) (w0 : Work) (params : List Ty) (os : List OperandRec) (i : ℕ) (old now : List Tree) (work : Work) (ids : List TNodeId)
    → Wording c w0 params os i old now work ids → length os ≤ i → AllMade old now work ids (words c w0 (typs_of params) (operands_in old os))
wording_short c w0 params os i old now work ids f h =
    record {
      grows = f.grows;
      within = f.within;
      is = f.is
          ∙ rw (drop_past os i h, no_operands c work (drop i params))
          (ap (λ (z : Trees). Ok (record { trees = z; work = work })) (followed_none (trees_at now ids)));
    }
