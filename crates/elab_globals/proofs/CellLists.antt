-- Cells, one behind the other.
use Rattle.std.proofs.Common.{◌≡◌, ℕ, suc, ◌+◌, ◌<◌, ◌≤◌, Bool, List, [], ◌∷◌, ◌++◌, length, drop, get_or, Result, Ok, Err, refl, sym, ◌∙◌, ap, append_assoc}
use Rattle.std.proofs.Common.{append-nil, subst, ◌≢◌}
use Rattle.std.specs.Prelude.{Vec}
use Rattle.std.specs.declared.alloc.Global.{Global as Heap}
use Rattle.elab_rules.specs.tx_ints.declared.kinds.IntKind.{IntKind}
use Rattle.cpp_types.specs.declared.classes.At.{At}
use Rattle.elab_rules.specs.cpp_tree.declared.kinds.TKind.{TKind}
use Rattle.elab_rules.specs.cpp_tree.declared.faults.ElabFault.TheVariants.{Ill}
use Rattle.elab_rules.specs.cpp_tree.declared.faults.IllRule.TheVariants.{NotConstant}
use Rattle.elab_types.specs.Shown.{Says}
use Rattle.elab_globals.specs.Says.{cells_shown}
use Rattle.elab_rules.specs.cpp_tree.declared.kinds.TKind.TheVariants.{Store, Pieces, Piece, Elements}
use Rattle.elab_rules.specs.cpp_tree.declared.faults.ElabFault.{ElabFault}
use Rattle.elab_rules.specs.cpp_tree.declared.arena.TNodeId.{TNodeId}
use Rattle.elab_rules.specs.cpp_tree.declared.program.InitCell.{InitCell}
use Rattle.elab_rules.specs.cpp_tree.Trees.{Tree, node, Trees, none, more, kind_of, kids_of}
use Rattle.elab_rules.specs.cpp_tree.Arena.{tree_at, trees_at}
use Rattle.elab_rules.specs.cpp_tree.Units.{Cell}
use Rattle.elab_rules.specs.elab_ctx.Ctx.{Ctx, Work}
use Rattle.elab_rules.specs.elab_ctx.Says.{Faults, place_in}
use Rattle.elab_rules.specs.elab_ctx.Steps.{and_then}
use Rattle.elab_rules.proofs.elab_ctx.Making.{faults_in, faults_same}
use Rattle.elab_sizes.proofs.Dropped.{drop_past, drop_step}
use Rattle.elab_rules.specs.Globals.{cells_of, cells_of_all, moved_cells, repeated_cells}
use Rattle.elab_globals.specs.Cells.{cells_by, stored_cells}

pub cells_is : (c : Ctx) (w : Work) (t : Tree) → cells_of c w t ≡ cells_by c w (kind_of t) (place_in t) (kids_of t)
cells_is c w (node (Store kind v) t cat at (more e none)) = refl
cells_is c w (node (Store kind v) t cat at (more e (more f ts))) = refl
cells_is c w (node (Store kind v) t cat at none) = refl
cells_is c w (node Pieces t cat at kids) = refl
cells_is c w (node (Piece offset) t cat at (more e ts)) = refl
cells_is c w (node (Piece offset) t cat at none) = refl
cells_is c w (node (Elements n stride) t cat at (more e ts)) = refl
cells_is c w (node (Elements n stride) t cat at none) = refl
cells_is c w (node kind t cat at kids) = refl

-- what is to be answered of all, where these cells are those before some of them
pub record Collecting (c : Ctx) (w : Work) (trees : List Tree) (all rest : List TNodeId) (cells : List Cell) : Type 0 where
  pub are : cells_of_all c w (trees_at trees all) ≡ and_then (cells_of_all c w (trees_at trees rest)) (λ (ys : List Cell). Ok (cells ++ ys))

same_answer : (x : Result (List Cell) ElabFault) → x ≡ and_then x (λ (ys : List Cell). Ok ([] ++ ys))
same_answer (Ok ys) = refl
same_answer (Err e) = refl

pub collecting_none : (c : Ctx) (w : Work) (trees : List Tree) (all : List TNodeId) → Collecting c w trees all all []
collecting_none c w trees all = record { are = same_answer (cells_of_all c w (trees_at trees all)) }

one_more : (rest : Result (List Cell) ElabFault) (old xs new : List Cell) → new ≡ old ++ xs
    → and_then (and_then rest (λ (ys : List Cell). Ok (xs ++ ys))) (λ (ys : List Cell). Ok (old ++ ys)) ≡ and_then rest (λ (ys : List Cell). Ok (new ++ ys))
one_more (Ok ys) old xs new e = ap (λ (z : List Cell). Ok z) (sym (append_assoc old xs ys)) ∙ ap (λ (z : List Cell). Ok (z ++ ys)) (sym e)
one_more (Err f) old xs new e = refl

next_of : (c : Ctx) (w : Work) (trees : List Tree) (ids : List TNodeId) (i : ℕ) (id d : TNodeId) → i < length ids → id ≡ get_or ids i d
    → cells_of_all c w (trees_at trees (drop i ids)) ≡ and_then (cells_of c w (tree_at trees id))
    (λ (xs : List Cell). and_then (cells_of_all c w (trees_at trees (drop (i + 1) ids))) (λ (ys : List Cell). Ok (xs ++ ys)))
next_of c w trees ids i id d h e = rw (drop_step ids i d h) (rw e refl)

pub collecting_more : (c : Ctx) (w : Work) (trees : List Tree) (all : List TNodeId) (i : ℕ) (id d : TNodeId) (old xs new : List Cell)
    → Collecting c w trees all (drop i all) old → i < length all → id ≡ get_or all i d → cells_of c w (tree_at trees id) ≡ Ok xs → new ≡ old ++ xs
    → Collecting c w trees all (drop (i + 1) all) new
collecting_more c w trees all i id d old xs new h k e x n =
    record {
      are = h.are ∙ ap (λ (z : Result (List Cell) ElabFault). and_then z (λ (ys : List Cell). Ok (old ++ ys)))
          (next_of c w trees all i id d k e ∙ ap (λ (z : Result (List Cell) ElabFault). and_then z
          (λ (vs : List Cell). and_then (cells_of_all c w (trees_at trees (drop (i + 1) all))) (λ (ys : List Cell). Ok (vs ++ ys)))) x)
          ∙ one_more (cells_of_all c w (trees_at trees (drop (i + 1) all))) old xs new n;
    }

collecting_fault : (c : Ctx) (w : Work) (trees : List Tree) (all : List TNodeId) (i : ℕ) (id d : TNodeId) (old : List Cell)
    → Collecting c w trees all (drop i all) old → i < length all → id ≡ get_or all i d
    → cells_of_all c w (trees_at trees all) ≡ and_then
    (and_then (cells_of c w (tree_at trees id)) (λ (xs : List Cell). and_then (cells_of_all c w (trees_at trees (drop (i + 1) all)))
    (λ (ys : List Cell). Ok (xs ++ ys)))) (λ (ys : List Cell). Ok (old ++ ys))
collecting_fault c w trees all i id d old h k e = h.are
    ∙ ap (λ (z : Result (List Cell) ElabFault). and_then z (λ (ys : List Cell). Ok (old ++ ys))) (next_of c w trees all i id d k e)

pub collecting_stopped : (c : Ctx) (w : Work) (trees : List Tree) (all : List TNodeId) (i : ℕ) (id d : TNodeId) (old : List Cell) (f : ElabFault)
    → Collecting c w trees all (drop i all) old → i < length all → id ≡ get_or all i d → Faults f (cells_of c w (tree_at trees id))
    → Faults f (cells_of_all c w (trees_at trees all))
collecting_stopped c w trees all i id d old f h k e g =
    faults_same f _ _ (collecting_fault c w trees all i id d old h k e)
    (faults_in (λ (x : Result (List Cell) ElabFault). and_then
    (and_then x (λ (xs : List Cell). and_then (cells_of_all c w (trees_at trees (drop (i + 1) all))) (λ (ys : List Cell). Ok (xs ++ ys))))
    (λ (ys : List Cell). Ok (old ++ ys))) f (cells_of c w (tree_at trees id)) (λ d. refl) g)

pub collecting_done : (c : Ctx) (w : Work) (trees : List Tree) (all : List TNodeId) (i : ℕ) (cells : List Cell) → Collecting c w trees all (drop i all) cells
    → length all ≤ i → cells_of_all c w (trees_at trees all) ≡ Ok cells
collecting_done c w trees all i cells h k = h.are ∙ ap
    (λ (z : List TNodeId). and_then (cells_of_all c w (trees_at trees z)) (λ (ys : List Cell). Ok (cells ++ ys))) (drop_past all i k)
    ∙ ap (λ (z : List Cell). Ok z) (append-nil cells)

pub cells_from : (c : Ctx) (w : Work) (t : Tree) (k : TKind) (at : At) (ks : Trees) → kind_of t ≡ k → place_in t ≡ at → kids_of t ≡ ks
    → cells_of c w t ≡ cells_by c w k at ks
cells_from c w t k at ks e f g = cells_is c w t ∙ ap (λ (z : TKind). cells_by c w z (place_in t) (kids_of t)) e
    ∙ ap (λ (z : At). cells_by c w k z (kids_of t)) f ∙ ap (λ (z : Trees). cells_by c w k at z) g

pub cells_say : (r : Result (Vec InitCell Heap) ElabFault) (x y : Result (List Cell) ElabFault) → y ≡ x → Says cells_shown r x → Says cells_shown r y
cells_say r x y e h = subst (λ (z : Result (List Cell) ElabFault). Says cells_shown r z) (sym e) h

-- a scalar has one kid
pub not_one : (c : Ctx) (w : Work) (kind : IntKind) (v : Bool) (at : At) (trees : List Tree) (ids : List TNodeId) → length ids ≢ 1
    → stored_cells c w (Store kind v) at (trees_at trees ids) ≡ Err (Ill at NotConstant)
not_one c w kind v at trees [] h = refl
not_one c w kind v at trees (i ∷ []) h = absurd (h refl)
not_one c w kind v at trees (i ∷ j ∷ ids) h = refl

-- elements, one behind the other

pub repeated_more : (stride offset next left pred : ℕ) (others old new total : List Cell) → left ≡ suc pred → next ≡ offset + stride
    → new ≡ old ++ moved_cells offset others → old ++ repeated_cells offset stride left others ≡ total → new ++ repeated_cells next stride pred others ≡ total
repeated_more stride offset next left pred others old new total l n m h =
    ap (λ (z : ℕ). new ++ repeated_cells z stride pred others) n ∙ ap (λ (z : List Cell). z ++ repeated_cells (offset + stride) stride pred others) m
    ∙ append_assoc old (moved_cells offset others) (repeated_cells (offset + stride) stride pred others)
    ∙ ap (λ (z : ℕ). old ++ repeated_cells offset stride z others) (sym l) ∙ h
