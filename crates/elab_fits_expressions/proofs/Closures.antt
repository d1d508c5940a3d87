-- Objects of lambdas.
use Rattle.std.proofs.Common.{◌≡◌, refl, sym, ap, ◌∙◌, subst, ℕ, zero, suc, ◌+◌, ◌≤◌, Bool, true, false, List, [], ◌∷◌, length, map, slice_get}
use Rattle.std.proofs.Common.{Some, is_some, arith, Result, Ok, Err}
use Rattle.std.proofs.lemmas.Option.{slice_get_within}
use Rattle.std.specs.Prelude.{if◌then◌else◌}
use Rattle.std.specs.List.{list_all}
use Rattle.elab_rules.specs.cpp_types.Typ.{Typ, class, closure}
use Rattle.elab_rules.specs.cpp_types.declared.classes.At.{At}
use Rattle.elab_rules.specs.cpp_types.declared.ranks.Cat.TheVariants.{Prvalue}
use Rattle.elab_rules.specs.cpp_tree.declared.faults.ElabFault.{ElabFault}
use Rattle.elab_rules.specs.cpp_tree.declared.faults.IllRule.TheVariants.{OutOfProfile}
use Rattle.elab_rules.specs.cpp_tree.declared.kinds.TKind.TheVariants.{Pieces, Piece}
use Rattle.elab_rules.specs.cpp_tree.declared.roles.Position.{Position}
use Rattle.elab_rules.specs.cpp_tree.declared.roles.Role.TheVariants.{Initialiser, Part as PartRole, Destruction}
use Rattle.elab_rules.specs.cpp_tree.Notation.{plain}
use Rattle.elab_rules.specs.cpp_tree.Trees.{Tree, node, Trees, more}
use Rattle.elab_rules.specs.cpp_tree.Typing.{Head, head_of, qualified}
use Rattle.elab_rules.specs.cpp_tree.Parts.{are_part_pieces, sized_class, part_of, size_in}
use Rattle.elab_rules.specs.cpp_tree.Roles.{and_any}
use Rattle.elab_rules.specs.cpp_tree.Rows.{Setting, row_fits}
use Rattle.elab_rules.specs.cpp_tree.WellFormed.{kids_fit, heads_of}
use Rattle.elab_rules.specs.elab_ctx.Ctx.{Ctx, Work, Capture, Closure}
use Rattle.elab_rules.specs.elab_ctx.Steps.{and_then, Made, MadeAll}
use Rattle.elab_rules.specs.Values.{same_at}
use Rattle.elab_rules.specs.Objects.{Part, parts_in, parts_of, pieces, destroys}
use Rattle.elab_rules.specs.Initialising.{closure_part}
use Rattle.elab_rules.specs.Expressions.{capture_source, captured, captured_pieces, closure_at}
use Rattle.elab_fits.specs.Standing.{FitsAs, BuildsOne, Reaches, On}
use Rattle.elab_fits.specs.Objects.{part_ready, class_ready, DestroysOne}
use Rattle.elab_fits.proofs.Destructions.{destructions_law}
use Rattle.elab_fits.proofs.Nodes.{both, or_left, node_fits}
use Rattle.elab_fits.proofs.Equal.{typ_refl}
use Rattle.elab_fits.proofs.Objects.{Sized, sized_from, size_is, Laid, laid_from, sized_class_is, few_members, IsPart, part_is, count_is, shown}
use Rattle.elab_fits.proofs.Pieces.{pieces_agree, any_many}
use Rattle.elab_fits.proofs.Steps.{bind, expected}
use Rattle.elab_fits.proofs.Wholes.{qualified_none}
use Rattle.elab_fits_objects.specs.Capturing.{IsCaptureTyp, IsCaptured}
use Rattle.elab_fits_objects.specs.Contexts.{is_whole, IsCapture as IsCaptureType}
use Rattle.elab_fits_objects.specs.Making.{IsSourceTree}
use Rattle.elab_fits_objects.proofs.Casting.{class_source}
use Rattle.elab_fits_objects.proofs.Fits.{object_kids, at_least_one}
use Rattle.elab_fits_objects.proofs.Lambdas.{captures_build}
use Rattle.elab_fits_objects.proofs.Types.{whole_sized, whole_ready}
use Rattle.elab_fits_forms.specs.Types.{is_lambda}
use Rattle.elab_fits_forms.specs.Meaning.{Proper}
use Rattle.elab_fits_forms.specs.Context.{Holds}
use Rattle.elab_fits_forms.specs.Forms.{MadeStands}
use Rattle.elab_fits_forms.proofs.Sources.{whole_is}
use Rattle.elab_fits_expressions.specs.Growing.{Behind}
use Rattle.elab_fits_forms.specs.Expressions.{IsClosure}
use Rattle.elab_fits_expressions.specs.Closures.{ClosuresStand}
use Rattle.elab_fits_expressions.proofs.Captured.{IsTaken, taken}
use Rattle.elab_fits_expressions.proofs.Growing as growing
use Rattle.elab_fits_expressions.proofs.Holding.{held, reached}

-- Parts and captures, one for each

record IsTakenPart (s : Setting) (c : Ctx) (p : Part) (x : Capture) : Type 0 where
  typed : x.typ ≡ p.typ
  capture : IsCaptureTyp c (is_lambda c.classes) x.typ
  source : (w : Work) → Holds s c w → Reaches s w → On (IsCaptured s c (is_lambda c.classes) x.typ) (capture_source c w x x.variable)

abbrev AreTaken : Setting → Ctx → List Part → List Capture → Type 0
AreTaken s c [] [] = Unit {0}
AreTaken s c (p ∷ ps) (x ∷ xs) = IsTakenPart s c p x × AreTaken s c ps xs
AreTaken s c ps xs = ⊥

-- what the class says of a part
record IsRoom (c : Ctx) (p : Part) : Type 0 where
  sized : is_some (size_in c.classes p.typ) ≡ true
  capture : IsCaptureType c p.typ

part_taken : (s : Setting) (c : Ctx) (p : Part) (x : Capture) → x.typ ≡ p.typ → IsRoom c p → IsTaken s c x → IsTakenPart s c p x
part_taken s c p x e r t = record {
  typed = e;
  capture = record {
    formed = t.formed;
    object = t.object;
    sized = ap (λ (u : Typ). is_some (size_in c.classes u)) e ∙ r.sized;
    capture = subst (λ (u : Typ). IsCaptureType c u) (sym e) r.capture;
  };
  source = t.source;
}

all_taken : (s : Setting) (c : Ctx) (ps : List Part) (xs : List Capture) → map (λ (p : Part). p.typ) ps ≡ map (λ (x : Capture). x.typ) xs
    → ((j : ℕ) (p : Part) → slice_get ps j ≡ Some p → IsRoom c p) → ((j : ℕ) (x : Capture) → slice_get xs j ≡ Some x → IsTaken s c x) → AreTaken s c ps xs
all_taken s c [] [] e r t = tt
all_taken s c [] (x ∷ xs) e r t = absurd cc
all_taken s c (p ∷ ps) [] e r t = absurd cc
all_taken s c (p ∷ ps) (x ∷ xs) e r t =
    let a : x.typ ≡ p.typ = cc in
    let b : map (λ (q : Part). q.typ) ps ≡ map (λ (y : Capture). y.typ) xs = cc in
    (part_taken s c p x a (r 0 p refl) (t 0 x refl), all_taken s c ps xs b (λ j q g. r (suc j) q g) (λ j y g. t (suc j) y g))

-- The pieces

record ArePieces (s : Setting) (c : Ctx) (at : At) (ps : List Part) (ts : Trees) : Type 0 where
  fit : (q : Position) → q.full ≡ true → (j : ℕ) → kids_fit s q (and_any [] PartRole) j ts ≡ true
  heads : heads_of (pieces (closure_part c at) (λ (p : Part). qualified false false p.typ) at ps) ≡ heads_of ts

abbrev Piecing : Setting → Ctx → At → List Part → MadeAll → Type 0
Piecing s c at ps r = Reaches s r.work → ArePieces s c at ps r.trees

record IsBuilt (s : Setting) (w : Work) (t : Typ) (m : Made) : Type 0 where
  behind : Behind w m.work
  builds : Reaches s m.work → BuildsOne s t m.tree

record AreBuilt (s : Setting) (c : Ctx) (at : At) (w : Work) (ps : List Part) (r : MadeAll) : Type 0 where
  behind : Behind w r.work
  pieces : Reaches s r.work → ArePieces s c at ps r.trees

built : (s : Setting) (w : Work) (t : Typ) (r : Result Made ElabFault) → On (λ (m : Made). Behind w m.work) r
    → (Reaches s w → On (λ (m : Made). Reaches s m.work → BuildsOne s t m.tree) r) → On (IsBuilt s w t) r
built s w t (Ok m) b f = record { behind = b; builds = λ r. f (reached s w m.work b r) r }
built s w t (Err e) b f = tt

all_built : (s : Setting) (c : Ctx) (at : At) (w : Work) (ps : List Part) (r : Result MadeAll ElabFault) → On (λ (m : MadeAll). Behind w m.work) r
    → On (Piecing s c at ps) r → On (AreBuilt s c at w ps) r
all_built s c at w ps (Ok m) b f = record { behind = b; pieces = f }
all_built s c at w ps (Err e) b f = tt

module _ (s : Setting) (c : Ctx) (at : At) where
  piece_fits : (w : Work) (p : Part) (place : At) (e : Tree) → Holds s c w → IsCaptureTyp c (is_lambda c.classes) p.typ → BuildsOne s p.typ e
      → FitsAs s PartRole (node (Piece p.offset) p.typ Prvalue place (more e (destroys c place p.typ)))
  piece_fits w p place e h y b = λ q full.
      let d : DestroysOne s p.typ (destroys c place p.typ) =
      destructions_law s c place p.typ h.setting h.makers.specials y.sized y.capture.ready y.capture.single in
      node_fits s q PartRole (Piece p.offset) p.typ Prvalue place (more e (destroys c place p.typ)) (and_any (Initialiser ∷ []) Destruction) refl refl refl
      refl (both b.builds d.right) refl (at_least_one (heads_of (destroys c place p.typ)) (head_of e) Initialiser Destruction) refl
      (object_kids s q e (destroys c place p.typ) full (b.fits q full) d.fit)

  capture_builds : (w : Work) (p : Part) (x : Capture) → Holds s c w → IsTakenPart s c p x → On (IsBuilt s w x.typ) (captured c w x)
  capture_builds w p x h y = built s w x.typ (captured c w x) (growing.captured c w x)
      (λ r. bind (IsCaptured s c (is_lambda c.classes) x.typ) (λ (m : Made). Reaches s m.work → BuildsOne s x.typ m.tree) (capture_source c w x x.variable) _
      (y.source w h r) (λ e g. captures_build s c (is_lambda c.classes) w x x.typ e h.setting h.makers y.capture g))

  pieces_made : (w : Work) (ps : List Part) (xs : List Capture) → Holds s c w → AreTaken s c ps xs → On (Piecing s c at ps) (captured_pieces c w ps xs)
  pieces_made w [] [] h y = λ r. record { fit = λ q full j. refl; heads = refl }
  pieces_made w [] (x ∷ xs) h y = absurd y
  pieces_made w (p ∷ ps) [] h y = absurd y
  pieces_made w (p ∷ ps) (x ∷ xs) h y = bind (IsBuilt s w x.typ) (Piecing s c at (p ∷ ps)) (captured c w x) _ (capture_builds w p x h y.0)
      (λ a g. bind (AreBuilt s c at a.work ps) (Piecing s c at (p ∷ ps)) (captured_pieces c a.work ps xs) _
      (all_built s c at a.work ps (captured_pieces c a.work ps xs) (growing.captured_pieces c a.work ps xs)
      (pieces_made a.work ps xs (held s c w a.work g.behind h) y.1))
      (λ r b. (λ now.
      let z = b.pieces now in
      let one : BuildsOne s p.typ a.tree = subst (λ (t : Typ). BuildsOne s t a.tree) y.0.typed (g.builds (reached s a.work r.work b.behind now)) in
      let t : IsCaptureTyp c (is_lambda c.classes) p.typ = subst (λ (u : Typ). IsCaptureTyp c (is_lambda c.classes) u) y.0.typed y.0.capture in
      record {
        fit = λ q full j. both (both refl (piece_fits w p x.at a.tree h t one q full)) (z.fit q full (suc j));
        heads = headed p (heads_of r.trees) z.heads;
      })))
    where
      headed : (p : Part) (hs : List Head) → heads_of (pieces (closure_part c at) (λ (k : Part). qualified false false k.typ) at ps) ≡ hs
          → (record { kind = Piece p.offset; typ = qualified false false p.typ; cat = Prvalue }
          ∷ heads_of (pieces (closure_part c at) (λ (k : Part). qualified false false k.typ) at ps))
          ≡ (record { kind = Piece p.offset; typ = p.typ; cat = Prvalue } ∷ hs)
      headed p hs e = let a = qualified_none p.typ in rw (a, e) refl

-- The parts of a class

module _ (s : Setting) (c : Ctx) (w : Work) (n : ℕ) (h : Holds s c w) (lambda : is_lambda c.classes n ≡ true) where
  whole : is_whole c.classes (plain (closure n)) ≡ true
  whole = whole_is c.classes (plain (closure n)) ((h.complete n (h.lambdas n lambda)).whole (closure n) false false refl lambda)

  sized : Sized c.classes (plain (class n))
  sized = let z = sized_from c.classes (plain (closure n)) (whole_sized c.classes (plain (closure n)) whole) in
      record { complete = z.complete; within = z.within }

  module _ (p : ℕ → Bool) (ready : list_all (part_ready p true) (parts_of c.classes n) ≡ true) where
    laid : Laid c.classes n
    laid = laid_from c.classes n false false sized

    own : parts_of c.classes n ≡ parts_in c.classes n (Some laid.owner)
    own = ap (parts_in c.classes n) laid.found

    few : length laid.owner.members ≤ 1048576
    few = few_members c.classes h.setting.ordered n laid p true (ap (list_all (part_ready p true)) (sym own) ∙ ready)

    part : (j : ℕ) (x : Part) → slice_get (parts_of c.classes n) j ≡ Some x → IsPart c.classes n laid.number j x
    part j x g = part_is c.classes h.setting.ordered n laid few j x (ap (λ (k : List Part). slice_get k j) (sym own) ∙ g)

    room : (j : ℕ) (x : Part) → slice_get (parts_of c.classes n) j ≡ Some x → IsRoom c x
    room j x g = record { sized = ap is_some (size_is c.classes x.typ (part j x g).sized); capture = h.makers.captures n j x lambda g }

    object_builds : (at : At) (ts : Trees) → ArePieces s c at (parts_of c.classes n) ts
        → BuildsOne s (plain (closure n)) (node Pieces (plain (closure n)) Prvalue at ts)
    object_builds at ts y =
        let agree : are_part_pieces c.classes false false n 0 (heads_of ts) ≡ true =
        subst (λ (hs : List Head). are_part_pieces c.classes false false n 0 hs ≡ true) y.heads
        (pieces_agree c.classes n false false (closure_part c at) at (parts_of c.classes n) 0
        (λ j x g. let o : j ≡ 0 + j = omega arith in subst (λ (k : ℕ). part_of c.classes n k ≡ Some (shown x)) o (part j x g).is)
        (let a = ap length own in let b = count_is c.classes h.setting.ordered n laid few in omega arith)) in
        let sized : is_some (sized_class c.classes n) ≡ true = ap is_some (sized_class_is c.classes n laid) in
        let same = h.setting.classes in
        let row : row_fits s Pieces (plain (closure n)) Prvalue (heads_of ts) ≡ true = rw (same, sized, agree) refl in
        record {
          fits = λ q full. node_fits s q Initialiser Pieces (plain (closure n)) Prvalue at ts (and_any [] PartRole) refl refl refl refl row refl
              (any_many PartRole (length (heads_of ts))) refl (y.fit q full 0);
          builds = or_left _ (or_left _ (typ_refl (plain (closure n))));
        }

  -- the parts are ready
  of_ready : (A : Type 0) → ((p : ℕ → Bool) → list_all (part_ready p true) (parts_of c.classes n) ≡ true → A) → A
  of_ready A f = by (length c.classes) refl (whole_ready c.classes (plain (closure n)) whole)
    where
      by : (depth : ℕ) → depth ≡ length c.classes → class_ready depth c.classes true n ≡ true → A
      by zero e r = let l = laid_from c.classes n false false sized in let k = slice_get_within c.classes n l.owner l.found in absurd (omega arith)
      by (suc depth) e r = f (class_ready depth c.classes true) r

object_proper : (s : Setting) (c : Ctx) (w : Work) (n : ℕ) (at : At) (ts : Trees) → Holds s c w → is_lambda c.classes n ≡ true
    → BuildsOne s (plain (closure n)) (node Pieces (plain (closure n)) Prvalue at ts) → Proper s c (node Pieces (plain (closure n)) Prvalue at ts)
object_proper s c w n at ts h l b =
    let x = (h.complete n (h.lambdas n l)).whole (closure n) false false refl l in
    let source : IsSourceTree s c (is_lambda c.classes) (node Pieces (plain (closure n)) Prvalue at ts) =
    class_source s c (is_lambda c.classes) (closure n) false false (node Pieces (plain (closure n)) Prvalue at ts) refl refl l (whole_is c.classes (plain (closure n)) x)
    (record { one = b; copied = refl }) in
    record {
      stands = (source at).operand.stands;
      sound = l;
      nothing = λ v. absurd cc;
      whole = λ k. x;
      copied = λ k. (source at).copied;
    }

lambda_made : (s : Setting) (c : Ctx) (w : Work) (at : At) (x : Closure) → Holds s c w → IsClosure c x → On (MadeStands s c)
    (and_then (captured_pieces c w (parts_of c.classes x.class) x.captures) (λ (m : MadeAll).
    Ok (record { tree = node Pieces (plain (closure x.class)) Prvalue at m.trees; work = m.work })))
lambda_made s c w at x h y = of_ready s c w x.class h y.lambda _
    (λ p ready. bind (Piecing s c at (parts_of c.classes x.class)) (MadeStands s c) (captured_pieces c w (parts_of c.classes x.class) x.captures) _
    (pieces_made s c at w (parts_of c.classes x.class) x.captures h (all_taken s c (parts_of c.classes x.class) x.captures y.parts
    (room s c w x.class h y.lambda p ready) (λ j z g. taken s c w z y.outside h (y.captures j z g))))
    (λ m g. (λ r. object_proper s c w x.class at m.trees h y.lambda (object_builds s c w x.class h y.lambda p ready at m.trees (g r)))))

-- Lambdas by their places

found_closure : (c : Ctx) (at : At) (l : List Closure) (x : Closure) → ((i : ℕ) (y : Closure) → slice_get l i ≡ Some y → IsClosure c y)
    → closure_at at l ≡ Some x → IsClosure c x
found_closure c at [] x h e = absurd cc
found_closure c at (z ∷ l) x h e = by (λ d. found_closure c at l x (λ i y g. h (suc i) y g) d) (same_at at z.at) e
  where
    by : (closure_at at l ≡ Some x → IsClosure c x) → (b : Bool) → (if b then Some z else closure_at at l) ≡ Some x → IsClosure c x
    by rest true d = h 0 x d
    by rest false d = rest d

pub closures_stand : ClosuresStand
closures_stand s c l w at h y = expected (MadeStands s c) at OutOfProfile (closure_at at l) _
    (λ x e. lambda_made s c w at x h (found_closure c at l x y.closures e))
