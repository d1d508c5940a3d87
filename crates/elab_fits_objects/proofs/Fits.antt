-- Nodes that fit: what their tests say, and kids of nodes that build objects.
use Rattle.std.proofs.Common.{◌≡◌, refl, ℕ, suc, true, false, not, ◌&&◌, ◌||◌, List, [], ◌∷◌, length, arith, le-leb}
use Rattle.std.proofs.lemmas.Bool.{and_parts}
use Rattle.elab_rules.specs.cpp_types.Typ.{Typ}
use Rattle.elab_rules.specs.cpp_types.declared.classes.At.{At}
use Rattle.elab_rules.specs.cpp_types.declared.ranks.Cat.{Cat}
use Rattle.elab_rules.specs.cpp_types.declared.ranks.Cat.TheVariants.{Prvalue}
use Rattle.elab_rules.specs.cpp_tree.declared.kinds.TKind.{TKind}
use Rattle.elab_rules.specs.cpp_tree.declared.kinds.TKind.TheVariants.{CopyFrom, Conditional, Materialize}
use Rattle.elab_rules.specs.cpp_tree.declared.roles.Position.{Position}
use Rattle.elab_rules.specs.cpp_tree.declared.roles.Role.{Role}
use Rattle.elab_rules.specs.cpp_tree.declared.roles.Role.TheVariants.{Value, Word, Initialiser, CopyInit, Destruction}
use Rattle.elab_rules.specs.cpp_tree.Trees.{Tree, node, Trees, none, more, two, kind_of, typ_in}
use Rattle.elab_rules.specs.cpp_tree.Typing.{Head, head_of, is_void, is_argument}
use Rattle.elab_rules.specs.cpp_tree.Roles.{only, and_any, serves, way_fits}
use Rattle.elab_rules.specs.cpp_tree.Rows.{Setting, row_fits, is_copied_from}
use Rattle.elab_rules.specs.cpp_tree.WellFormed.{fits, kids_fit, enough, kids_in, heads_of, inside, is_switch, labels_fit, may_stand}
use Rattle.elab_rules.specs.cpp_tree.WellFormed.{branches_fit, stands}
use Rattle.elab_fits.specs.Standing.{FitsAs, BuildsOne}
use Rattle.elab_fits.specs.Objects.{CopiesOne, AllFit}
use Rattle.elab_fits.proofs.Equal.{typ_refl}
use Rattle.elab_fits.proofs.Nodes.{both, or_left, node_fits, value_kid, word_kid, initial_kid, copy_kid, destruction_kid}

-- a position inside of a full-expression
pub within : Position
within = record { full = true; breaks = false; continues = false }

pub within_full : within.full ≡ true
unfolding within
within_full = refl

-- What the test of a node says

pub record Fit (s : Setting) (p : Position) (role : Role) (kind : TKind) (t : Typ) (cat : Cat) (ks : Trees) : Type 0 where
  pub serves : serves role kind ≡ true
  pub way : way_fits role kind t cat ≡ true
  pub row : row_fits s kind t cat (heads_of ks) ≡ true
  pub enough : enough (kids_in role kind t (heads_of ks)) (length (heads_of ks)) ≡ true
  pub kids : kids_fit s (inside kind p) (kids_in role kind t (heads_of ks)) 0 ks ≡ true

pub fit_of : (s : Setting) (p : Position) (role : Role) (kind : TKind) (t : Typ) (cat : Cat) (at : At) (kids : Trees)
    → fits s p role (node kind t cat at kids) ≡ true → Fit s p role kind t cat kids
fit_of s p role kind t cat at kids h =
    let a = and_parts (stands s p role kind t cat (heads_of kids) && enough (kids_in role kind t (heads_of kids)) (length (heads_of kids))
    && (not (is_switch kind) || labels_fit false kids)) (kids_fit s (inside kind p) (kids_in role kind t (heads_of kids)) 0 kids) h in
    let b = and_parts (stands s p role kind t cat (heads_of kids) && enough (kids_in role kind t (heads_of kids)) (length (heads_of kids)))
    (not (is_switch kind) || labels_fit false kids) a.0 in
    let d = and_parts (stands s p role kind t cat (heads_of kids)) (enough (kids_in role kind t (heads_of kids)) (length (heads_of kids))) b.0 in
    let e = and_parts (serves role kind && way_fits role kind t cat && may_stand s.function.kind p kind (length (heads_of kids))
    && branches_fit role kind t (heads_of kids)) (row_fits s kind t cat (heads_of kids)) d.0 in
    let f = and_parts (serves role kind && way_fits role kind t cat && may_stand s.function.kind p kind (length (heads_of kids)))
    (branches_fit role kind t (heads_of kids)) e.0 in
    let g = and_parts (serves role kind && way_fits role kind t cat) (may_stand s.function.kind p kind (length (heads_of kids))) f.0 in
    let i = and_parts (serves role kind) (way_fits role kind t cat) g.0 in
    record { serves = i.0; way = i.1; row = e.1; enough = d.1; kids = a.1 }

pub fit_as : (s : Setting) (role : Role) (kind : TKind) (t : Typ) (cat : Cat) (at : At) (kids : Trees) → FitsAs s role (node kind t cat at kids)
    → Fit s within role kind t cat kids
fit_as s role kind t cat at kids h = fit_of s within role kind t cat at kids (h within within_full)

-- Kids

-- destructions behind what builds an object, or copies one
destructions_fit : (s : Setting) (p : Position) (role : Role) (i : ℕ) (ds : Trees) → p.full ≡ true → AllFit s Destruction ds
    → kids_fit s p (and_any (role ∷ []) Destruction) (suc i) ds ≡ true
destructions_fit s p role i none full h = refl
destructions_fit s p role i (more d ds) full h =
    both (both (destruction_kid s p d (h.0 p full)) (h.0 p full)) (destructions_fit s p role (suc i) ds full h.1)

pub object_kids : (s : Setting) (p : Position) (e : Tree) (ds : Trees) → p.full ≡ true → fits s p Initialiser e ≡ true → AllFit s Destruction ds
    → kids_fit s p (and_any (Initialiser ∷ []) Destruction) 0 (more e ds) ≡ true
object_kids s p e ds full h g = both (both (initial_kid s p e h) h) (destructions_fit s p Initialiser 0 ds full g)

pub copied_kids : (s : Setting) (p : Position) (e : Tree) (ds : Trees) → p.full ≡ true → fits s p CopyInit e ≡ true → AllFit s Destruction ds
    → kids_fit s p (and_any (CopyInit ∷ []) Destruction) 0 (more e ds) ≡ true
copied_kids s p e ds full h g = both (both (copy_kid s p e h) h) (destructions_fit s p CopyInit 0 ds full g)

pub words_kids : (s : Setting) (p : Position) (i : ℕ) (ts : Trees) → p.full ≡ true → AllFit s Word ts → kids_fit s p (and_any [] Word) i ts ≡ true
words_kids s p i none full h = refl
words_kids s p i (more t ts) full h = both (both (word_kid s p t (h.0 p full)) (h.0 p full)) (words_kids s p (suc i) ts full h.1)

pub at_least_one : (hs : List Head) (h : Head) (role other : Role) → enough (and_any (role ∷ []) other) (length (h ∷ hs)) ≡ true
at_least_one hs h role other = le-leb 1 (length (h ∷ hs)) (omega arith)

-- Copies

-- an object that is copied in place
pub copy_fits : (s : Setting) (t : Typ) (at : At) (source copy : Tree) → FitsAs s Value source → is_copied_from t (head_of source) ≡ true → CopiesOne s t copy
    → FitsAs s Initialiser (node CopyFrom t Prvalue at (two source copy))
copy_fits s t at source copy h r k = λ p full. node_fits s p Initialiser CopyFrom t Prvalue at (two source copy) (only (Value ∷ CopyInit ∷ [])) refl refl refl
    refl (both r k.builds) refl refl refl
    (both (both (value_kid s p source (h p full)) (h p full)) (both (both (copy_kid s p copy (k.fits p full)) (k.fits p full)) refl))

pub copy_builds : (s : Setting) (t : Typ) (at : At) (source copy : Tree) → FitsAs s Value source → is_copied_from t (head_of source) ≡ true
    → CopiesOne s t copy → BuildsOne s t (node CopyFrom t Prvalue at (two source copy))
copy_builds s t at source copy h r k = record { fits = copy_fits s t at source copy h r k; builds = or_left _ (or_left _ (typ_refl t)) }

-- Words

-- a value that is passed
pub value_word : (s : Setting) (p : Position) (e : Tree) → fits s p Value e ≡ true → is_void (typ_in e) ≡ false → fits s p Word e ≡ true
value_word s p (node Conditional t cat at kids) h v = rw v (rw v at h)
value_word s p (node (Materialize n true) t cat at kids) h v = absurd cc
value_word s p (node (Materialize n false) t cat at kids) h v = h
value_word s p (node kind t cat at kids) h v = h

pub no_argument : (s : Setting) (p : Position) (e : Tree) → fits s p Value e ≡ true → is_argument (kind_of e) ≡ false
no_argument s p (node (Materialize n true) t cat at kids) h = absurd cc
no_argument s p (node (Materialize n false) t cat at kids) h = refl
no_argument s p (node kind t cat at kids) h = refl
