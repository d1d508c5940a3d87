-- The members of a lambda's object so far.
use Rattle.std.proofs.Common.{◌≡◌, ℕ, zero, suc, ◌+◌, ◌<◌, ◌≤◌, true, List, [], ◌∷◌, ◌++◌, length, map, drop, get_or, slice_get, None, Ok, Err, Result, refl}
use Rattle.std.proofs.Common.{sym, ◌∙◌, ap, arith}
use Rattle.elab_casts.specs.cpp_types.declared.classes.At.{At}
use Rattle.elab_casts.specs.cpp_tree.declared.faults.ElabFault.{ElabFault}
use Rattle.elab_casts.specs.cpp_tree.declared.arena.TNodeId.{TNodeId}
use Rattle.elab_casts.specs.cpp_tree.Trees.{Tree, Trees, none, more, one}
use Rattle.elab_casts.specs.cpp_tree.Arena.{tree_at, trees_at, Grows}
use Rattle.elab_casts.specs.elab_ctx.Ctx.{Ctx, Work, Capture, capture_of}
use Rattle.elab_casts.specs.elab_ctx.declared.env.Capture.{Capture as CaptureRec}
use Rattle.elab_casts.specs.elab_ctx.Steps.{and_then, Made, MadeAll}
use Rattle.elab_casts.specs.elab_ctx.Says.{Faults, MadeAt, AllMade, are_within}
use Rattle.elab_casts.proofs.elab_ctx.Looks.{grows_refl, grows_trans}
use Rattle.elab_casts.proofs.elab_ctx.Making.{faults_in, faults_same}
use Rattle.elab_casts.specs.elab_rules.Objects.{Part, followed_by}
use Rattle.elab_casts.specs.elab_rules.Expressions.{captured, captured_pieces}
use Rattle.elab_casts.specs.elab_init.Parts.{part_of}
use Rattle.elab_casts.specs.elab_init.declared.parts.ObjectPart.{ObjectPart}
use Rattle.elab_casts.proofs.elab_init.Listing.{followed_none, followed_twice, trees_append, trees_grown, all_within_grown, within_both, within_one, drop_step}
use Rattle.elab_casts.proofs.elab_init.Listing.{drop_past}
use Rattle.elab_rows.specs.Pieces.{piece_tree, one_piece}

-- Steps

then_then : {A B C : Type 0} (x : Result A ElabFault) (f : A → Result B ElabFault) (g : B → Result C ElabFault)
    → and_then (and_then x f) g ≡ and_then x (λ a. and_then (f a) g)
then_then (Ok a) f g = refl
then_then (Err e) f g = refl

then_same : {A B : Type 0} (x : Result A ElabFault) (f g : A → Result B ElabFault) → ((a : A) → f a ≡ g a) → and_then x f ≡ and_then x g
then_same (Ok a) f g h = h a
then_same (Err e) f g h = refl

then_ok : {A : Type 0} (x : Result A ElabFault) (f : A → A) → ((a : A) → f a ≡ a) → and_then x (λ a. Ok (f a)) ≡ x
then_ok (Ok a) f h = ap Ok (h a)
then_ok (Err e) f h = refl

pub no_more : {A : Type 0} (xs : List A) (i : ℕ) → slice_get xs i ≡ None → length xs ≤ i
no_more [] i h = omega arith
no_more (x ∷ xs) zero h = absurd cc
no_more (x ∷ xs) (suc i) h = let less : length xs ≤ i = no_more xs i h in omega arith

-- One piece, then the others

abbrev behind_one : Ctx → List Part → List Capture → Made → Result MadeAll ElabFault
behind_one c ps xs m = and_then (captured_pieces c m.work ps xs) (λ (r : MadeAll). Ok (record { trees = more m.tree r.trees; work = r.work }))

first_made : (c : Ctx) (p : Part) (at : At) (ps : List Part) (xs : List Capture) (x : Result Made ElabFault)
    → and_then x (λ (m : Made). and_then (captured_pieces c m.work ps xs)
    (λ (r : MadeAll). Ok (record { trees = more (piece_tree c p at m.tree) r.trees; work = r.work })))
    ≡ and_then (and_then x (λ (m : Made). Ok (record { tree = piece_tree c p at m.tree; work = m.work }))) (behind_one c ps xs)
first_made c p at ps xs (Ok m) = refl
first_made c p at ps xs (Err e) = refl

first_is : (c : Ctx) (w : Work) (p : Part) (x : Capture) (ps : List Part) (xs : List Capture)
    → captured_pieces c w (p ∷ ps) (x ∷ xs) ≡ and_then (one_piece c w p x) (behind_one c ps xs)
first_is c w p x ps xs = first_made c p x.at ps xs (captured c w x)

abbrev left : Ctx → Work → List ObjectPart → List CaptureRec → ℕ → Result MadeAll ElabFault
left c w parts captures i = captured_pieces c w (map part_of (drop i parts)) (map capture_of (drop i captures))

left_is : (c : Ctx) (w : Work) (parts : List ObjectPart) (captures : List CaptureRec) (i : ℕ) (p e : ObjectPart) (x d : CaptureRec) → i < length parts
    → i < length captures → p ≡ get_or parts i e → x ≡ get_or captures i d
    → left c w parts captures i ≡ and_then (one_piece c w (part_of p) (capture_of x))
    (behind_one c (map part_of (drop (i + 1) parts)) (map capture_of (drop (i + 1) captures)))
left_is c w parts captures i p e x d h g q r =
    ap (λ (z : List ObjectPart). captured_pieces c w (map part_of z) (map capture_of (drop i captures))) (drop_step parts i e h)
    ∙ ap (λ (z : List CaptureRec). captured_pieces c w (map part_of (get_or parts i e ∷ drop (i + 1) parts)) (map capture_of z)) (drop_step captures i d g)
    ∙ ap (λ (z : ObjectPart). captured_pieces c w (map part_of (z ∷ drop (i + 1) parts)) (map capture_of (get_or captures i d ∷ drop (i + 1) captures))) (sym q)
    ∙ ap (λ (z : CaptureRec). captured_pieces c w (map part_of (p ∷ drop (i + 1) parts)) (map capture_of (z ∷ drop (i + 1) captures))) (sym r)
    ∙ first_is c w (part_of p) (capture_of x) (map part_of (drop (i + 1) parts)) (map capture_of (drop (i + 1) captures))

-- Those so far

abbrev behind : Trees → MadeAll → MadeAll
behind ts m = record { trees = followed_by ts m.trees; work = m.work }

pub record Piecing (c : Ctx) (w0 : Work) (parts : List ObjectPart) (captures : List CaptureRec) (i : ℕ) (old now : List Tree) (work : Work)
    (ids : List TNodeId) : Type 0 where
  pub grows : Grows old now
  pub within : are_within (length now) ids ≡ true
  pub is : captured_pieces c w0 (map part_of parts) (map capture_of captures)
      ≡ and_then (left c work parts captures i) (λ (m : MadeAll). Ok (behind (trees_at now ids) m))

pub piecing_first : (c : Ctx) (w0 : Work) (parts : List ObjectPart) (captures : List CaptureRec) (old : List Tree) (ids : List TNodeId) → ids ≡ []
    → Piecing c w0 parts captures 0 old old w0 ids
piecing_first c w0 parts captures old ids e = record {
  grows = grows_refl old;
  within = rw e refl;
  is = rw e (sym (then_ok (captured_pieces c w0 (map part_of parts) (map capture_of captures)) (behind none) (λ m. refl)));
}

pub piecing_more : (c : Ctx) (w0 : Work) (parts : List ObjectPart) (captures : List CaptureRec) (i : ℕ) (old now new : List Tree) (work next_work : Work)
    (ids next : List TNodeId) (p e : ObjectPart) (x d : CaptureRec) (r : TNodeId) → Piecing c w0 parts captures i old now work ids → i < length parts
    → i < length captures → p ≡ get_or parts i e → x ≡ get_or captures i d → MadeAt now new next_work r (one_piece c work (part_of p) (capture_of x))
    → next ≡ ids ++ r ∷ [] → Piecing c w0 parts captures (i + 1) old new next_work next
piecing_more c w0 parts captures i old now new work next_work ids next p e x d r f h g q s m n =
    let before : trees_at new ids ≡ trees_at now ids = trees_grown now new ids m.grows f.within in
    let all : trees_at new next ≡ followed_by (trees_at now ids) (one (tree_at new r)) = ap (trees_at new) n ∙ trees_append new ids (r ∷ [])
    ∙ ap (λ (z : Trees). followed_by z (one (tree_at new r))) before in
    let rest : Result MadeAll ElabFault = left c next_work parts captures (i + 1) in
    let others : Made → Result MadeAll ElabFault = behind_one c (map part_of (drop (i + 1) parts)) (map capture_of (drop (i + 1) captures)) in
    record {
      grows = grows_trans f.grows m.grows;
      within = rw n (within_both (length new) ids (r ∷ []) (all_within_grown now new ids m.grows f.within) (within_one (length new) r m.within));
      is = f.is ∙ ap (λ (z : Result MadeAll ElabFault). and_then z (λ (y : MadeAll). Ok (behind (trees_at now ids) y)))
          (left_is c work parts captures i p e x d h g q s)
          ∙ ap (λ (z : Result Made ElabFault). and_then (and_then z others) (λ (y : MadeAll). Ok (behind (trees_at now ids) y))) m.is
          ∙ then_then rest (λ (y : MadeAll). Ok (record { trees = more (tree_at new r) y.trees; work = y.work }))
          (λ (y : MadeAll). Ok (behind (trees_at now ids) y))
          ∙ then_same rest (λ (y : MadeAll). Ok (behind (trees_at now ids) (record { trees = more (tree_at new r) y.trees; work = y.work })))
          (λ (y : MadeAll). Ok (behind (trees_at new next) y))
          (λ y. ap (λ (z : Trees). Ok (record { trees = z; work = y.work }))
          (sym (ap (λ (z : Trees). followed_by z y.trees) all ∙ followed_twice (trees_at now ids) (one (tree_at new r)) y.trees)));
    }

pub piecing_fails : (c : Ctx) (w0 : Work) (parts : List ObjectPart) (captures : List CaptureRec) (i : ℕ) (old now : List Tree) (work : Work)
    (ids : List TNodeId) (p e : ObjectPart) (x d : CaptureRec) (f : ElabFault) → Piecing c w0 parts captures i old now work ids → i < length parts
    → i < length captures → p ≡ get_or parts i e → x ≡ get_or captures i d → Faults f (one_piece c work (part_of p) (capture_of x))
    → Faults f (captured_pieces c w0 (map part_of parts) (map capture_of captures))
piecing_fails c w0 parts captures i old now work ids p e x d f m h g q s n =
    faults_same f _ _ (m.is ∙ ap (λ (z : Result MadeAll ElabFault). and_then z (λ (y : MadeAll). Ok (behind (trees_at now ids) y)))
    (left_is c work parts captures i p e x d h g q s))
    (faults_in (λ (z : Result Made ElabFault). and_then
    (and_then z (behind_one c (map part_of (drop (i + 1) parts)) (map capture_of (drop (i + 1) captures))))
    (λ (y : MadeAll). Ok (behind (trees_at now ids) y))) f _ (λ b. refl) n)

no_captures : (c : Ctx) (w : Work) (ps : List Part) → captured_pieces c w ps [] ≡ Ok (record { trees = none; work = w })
no_captures c w [] = refl
no_captures c w (p ∷ ps) = refl

-- no part or no capture is left
pub piecing_done : (c : Ctx) (w0 : Work) (parts : List ObjectPart) (captures : List CaptureRec) (i : ℕ) (old now : List Tree) (work : Work) (ids : List TNodeId)
    → Piecing c w0 parts captures i old now work ids → length parts ≤ i
    → AllMade old now work ids (captured_pieces c w0 (map part_of parts) (map capture_of captures))
piecing_done c w0 parts captures i old now work ids f h =
    record {
      grows = f.grows;
      within = f.within;
      is = f.is
          ∙ rw (drop_past parts i h) (ap (λ (z : Trees). Ok (record { trees = z; work = work })) (followed_none (trees_at now ids)));
    }

pub piecing_short : (c : Ctx) (w0 : Work) (parts : List ObjectPart) (captures : List CaptureRec) (i : ℕ) (old now : List Tree) (work : Work)
    (ids : List TNodeId) → Piecing c w0 parts captures i old now work ids → length captures ≤ i
    → AllMade old now work ids (captured_pieces c w0 (map part_of parts) (map capture_of captures))
piecing_short c w0 parts captures i old now work ids f h =
    record {
      grows = f.grows;
      within = f.within;
      is = f.is
          ∙ rw (drop_past captures i h, no_captures c work (map part_of (drop i parts)))
          (ap (λ (z : Trees). Ok (record { trees = z; work = work })) (followed_none (trees_at now ids)));
    }
