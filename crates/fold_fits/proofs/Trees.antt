-- Trees that fit are folded to trees that fit.
use Rattle.std.proofs.Common.{◌≡◌, inl, inr, refl, ap, sym, subst, ◌∙◌, ℕ, suc, Bool, true, false, ◌&&◌, ◌||◌, not, List, [], ◌∷◌, length, drop}
use Rattle.std.proofs.Common.{cond}
use Rattle.std.specs.Prelude.{unwrap_or}
use Rattle.std.proofs.lemmas.Bool.{and_parts, and_from}
use Rattle.cpp_tree.specs.cpp_types.Typ.{Typ}
use Rattle.cpp_tree.specs.cpp_types.declared.classes.At.{At}
use Rattle.cpp_tree.specs.cpp_types.declared.ranks.Cat.{Cat}
use Rattle.cpp_tree.specs.declared.kinds.TKind.{TKind}
use Rattle.cpp_tree.specs.declared.kinds.TKind.TheVariants.{Literal, Conditional, Store, Pieces, Piece, Elements, Block, Init, Case, Default}
use Rattle.cpp_tree.specs.declared.roles.Position.{Position}
use Rattle.cpp_tree.specs.declared.roles.Role.{Role}
use Rattle.cpp_tree.specs.declared.roles.Role.TheVariants.{Value}
use Rattle.cpp_tree.specs.Trees.{Tree, node, Trees, none, more, kind_of}
use Rattle.cpp_tree.specs.Typing.{Head, head_of, is_void, is_prvalue}
use Rattle.cpp_tree.specs.Roles.{Kids, kids_for, role_at, is_label, is_expression, is_initialiser}
use Rattle.cpp_tree.specs.Rows.{Setting, result_of}
use Rattle.cpp_tree.specs.WellFormed.{heads_of, kids_in, enough, is_switch, labels_fit, skips, is_zeroing, is_zero, are_zero, is_kid, is_zero_role, inside}
use Rattle.cpp_tree.specs.WellFormed.{fits, kids_fit, zeroes, may_stand, branches_fit, has_no_typ, is_statement_role, no_object}
use Rattle.tree_fold.specs.Folding.{folded, all_folded}
use Rattle.tree_fold.specs.Declaring.{is_init}
use Rattle.setting_growth.proofs.Still.{Still, same, one_of}
use Rattle.fold_fits.proofs.Heads.{Alike, AllAlike, Keeps, all_kept, many_kept, rest_alike, cat_alike}
use Rattle.fold_fits.proofs.Rows.{throw_off, row_kept}
use Rattle.fold_fits.proofs.Nodes.{Fits, fits_known, fits_from, kid_known, kids_from, Folds, node_folds}
use Rattle.tree_fold.proofs.Zeros.{zeros_stay}

-- Kinds that stay

plain_kid : (kind : TKind) → (is_expression kind || is_initialiser kind) ≡ true → is_kid kind ≡ true
plain_kid (Block subobjects) e = absurd cc
plain_kid kind e = refl

kid_alike : (h g : Head) → Alike h g → is_kid h.kind ≡ true → is_kid g.kind ≡ true
kid_alike h g (inl e) k = subst (λ (z : Head). is_kid z.kind ≡ true) e k
kid_alike h g (inr c) k = plain_kid g.kind c.stands.serves

plain_label : (kind : TKind) → (is_expression kind || is_initialiser kind) ≡ true → is_label kind ≡ true → ⊥
plain_label (Case w) e l = absurd cc
plain_label Default e l = absurd cc
plain_label kind e l = absurd cc

label_back : (h g : Head) → Alike h g → is_label g.kind ≡ true → is_label h.kind ≡ true
label_back h g (inl e) k = subst (λ (z : Head). is_label z.kind ≡ true) (sym e) k
label_back h g (inr c) k = absurd (plain_label g.kind c.stands.serves k)

plain_init : (kind : TKind) → (is_expression kind || is_initialiser kind) ≡ true → is_init kind ≡ true → ⊥
plain_init Init e l = absurd cc
plain_init kind e l = absurd cc

init_back : (h g : Head) → Alike h g → is_init g.kind ≡ true → is_init h.kind ≡ true
init_back h g (inl e) k = subst (λ (z : Head). is_init z.kind ≡ true) (sym e) k
init_back h g (inr c) k = absurd (plain_init g.kind c.stands.serves k)

kind_is : (x : Tree) → (head_of x).kind ≡ kind_of x
kind_is (node kind t cat at kids) = refl

skip_init : (x : Tree) → skips x ≡ true → is_init (kind_of x) ≡ true
skip_init (node Init t cat at kids) e = refl
skip_init (node kind t cat at kids) e = absurd cc

not_back : (a b : Bool) → (a ≡ true → b ≡ true) → not b ≡ true → not a ≡ true
not_back true true f e = e
not_back true false f e = absurd (let g = f refl in cc)
not_back false b f e = refl

both_back : (a b c d : Bool) → (a ≡ true → c ≡ true) → (b ≡ true → d ≡ true) → (a && b) ≡ true → (c && d) ≡ true
both_back a b c d f g e = let p = and_parts a b e in and_from c d (f p.0) (g p.1)

-- Kids by which a node tells those of its kids

object_same : (hs gs : List Head) → AllAlike hs gs → no_object gs ≡ no_object hs
object_same [] [] a = refl
object_same [] (g ∷ gs) a = absurd a
object_same (h ∷ hs) [] a = absurd a
object_same (h ∷ hs) (g ∷ gs) a = ap is_prvalue (cat_alike h g a.0)

no_typ_keeps : Keeps has_no_typ
no_typ_keeps = λ kind other u c w s. one_of (throw_off kind other w) (same (is_void u))

branches_kept : (role : Role) (kind : TKind) (t : Typ) (hs gs : List Head) → AllAlike hs gs → Still (branches_fit role kind t hs) (branches_fit role kind t gs)
branches_kept role Conditional t hs gs a = one_of (same (is_statement_role role || not (is_void t)))
    (all_kept has_no_typ no_typ_keeps (drop 1 hs) (drop 1 gs) (rest_alike hs gs a))
branches_kept role kind t hs gs a = same true

module _ (v : ℕ → Bool) where
  -- Labels

  mutual
    zero_kept : (t : Tree) → is_zero t ≡ true → is_zero (folded v t) ≡ true
    zero_kept (node (Literal w) t cat at kids) e = let p = and_parts (is_zeroing (Literal w)) (are_zero kids) e in
        and_from (is_zeroing (Literal w)) (are_zero (all_folded v kids)) p.0 (zeros_kept kids p.1)
    zero_kept (node (Store k marked) t cat at kids) e = zeros_kept kids e
    zero_kept (node Pieces t cat at kids) e = zeros_kept kids e
    zero_kept (node (Piece offset) t cat at kids) e = zeros_kept kids e
    zero_kept (node (Elements count stride) t cat at kids) e = zeros_kept kids e
    zero_kept (node kind t cat at kids) e = absurd cc

    zeros_kept : (ts : Trees) → are_zero ts ≡ true → are_zero (all_folded v ts) ≡ true
    zeros_kept none e = refl
    zeros_kept (more t ts) e = let p = and_parts (is_zero t) (are_zero ts) e in
        and_from (is_zero (folded v t)) (are_zero (all_folded v ts)) (zero_kept t p.0) (zeros_kept ts p.1)

  skips_back : (t : Tree) → Alike (head_of t) (head_of (folded v t)) → skips (folded v t) ≡ true → skips t ≡ true
  skips_back (node Init t cat at none) a e = refl
  skips_back (node Init t cat at (more address none)) a e = refl
  skips_back (node Init t cat at (more address (more init none))) a e = not_back (is_zero init) (is_zero (folded v init)) (zero_kept init) e
  skips_back (node Init t cat at (more address (more init (more d ds)))) a e = refl
  skips_back (node kind t cat at kids) a e = absurd (let x = folded v (node kind t cat at kids) in
      let i : is_init kind ≡ true = init_back (head_of (node kind t cat at kids)) (head_of x) a (ap is_init (kind_is x) ∙ skip_init x e) in cc)

  kind_back : (t : Tree) → Alike (head_of t) (head_of (folded v t)) → is_label (kind_of (folded v t)) ≡ true → is_label (kind_of t) ≡ true
  kind_back t a e = ap is_label (sym (kind_is t)) ∙ label_back (head_of t) (head_of (folded v t)) a (ap is_label (kind_is (folded v t)) ∙ e)

  labels_kept : (b c : Bool) (ts : Trees) → (c ≡ true → b ≡ true) → AllAlike (heads_of ts) (heads_of (all_folded v ts)) → labels_fit b ts ≡ true
      → labels_fit c (all_folded v ts) ≡ true
  labels_kept b c none f a e = refl
  labels_kept b c (more t ts) f a e =
      let p = and_parts (not (b && is_label (kind_of t))) (labels_fit (b || skips t) ts) e in
      and_from (not (c && is_label (kind_of (folded v t)))) (labels_fit (c || skips (folded v t)) (all_folded v ts))
      (not_back (c && is_label (kind_of (folded v t))) (b && is_label (kind_of t))
      (both_back c (is_label (kind_of (folded v t))) b (is_label (kind_of t)) f (kind_back t a.0)) p.0)
      (labels_kept (b || skips t) (c || skips (folded v t)) ts (one_of (record { up = f }) (record { up = skips_back t a.0 })).up a.1 p.1)

  -- Nodes

  record KidsFold (s : Setting) (p : Position) (ks : Kids) (i : ℕ) (ts : Trees) : Type 0 where
    fits : kids_fit s p ks i (all_folded v ts) ≡ true
    alike : AllAlike (heads_of ts) (heads_of (all_folded v ts))

  node_kept : (s : Setting) (p : Position) (role : Role) (kind : TKind) (t : Typ) (cat : Cat) (at : At) (kids : Trees) → Fits s p role kind t cat kids
      → KidsFold s (inside kind p) (kids_in role kind t (heads_of kids)) 0 kids → fits s p role (node kind t cat at (all_folded v kids)) ≡ true
  node_kept s p role kind t cat at kids f k =
      let hs = heads_of kids in
      let gs = heads_of (all_folded v kids) in
      let many : length gs ≡ length hs = many_kept hs gs k.alike in
      let asked : kids_in role kind t gs ≡ kids_in role kind t hs = ap (kids_for role kind (is_void t)) (object_same hs gs k.alike) in
      fits_from s p role kind t cat at (all_folded v kids) (record {
        serves = f.serves;
        way = f.way;
        place = ap (may_stand s.function.kind p kind) many ∙ f.place;
        branches = (branches_kept role kind t hs gs k.alike).up f.branches;
        row = (row_kept s kind t cat hs gs k.alike).up f.row;
        many = ap (enough (kids_in role kind t gs)) many ∙ ap (λ (z : Kids). enough z (length hs)) asked ∙ f.many;
        labels = (one_of (same (not (is_switch kind))) (record { up = labels_kept false false kids (λ e. e) k.alike })).up f.labels;
        below = ap (λ (z : Kids). kids_fit s (inside kind p) z 0 (all_folded v kids)) asked ∙ k.fits;
      })

  record KidFold (s : Setting) (p : Position) (b : Bool) (role : Role) (t : Tree) : Type 0 where
    fits : cond b (zeroes s.classes false (result_of s.function) (folded v t)) (fits s p role (folded v t)) ≡ true
    alike : Alike (head_of t) (head_of (folded v t))

  kid_folds : (s : Setting) (p : Position) (b : Bool) (role : Role) (t : Tree) → (fits s p role t ≡ true → Folds s p role (head_of t) (folded v t))
      → cond b (zeroes s.classes false (result_of s.function) t) (fits s p role t) ≡ true → KidFold s p b role t
  kid_folds s p true role t f e =
      let z = zeros_stay v s.classes false (result_of s.function) t e in
      record { fits = ap (zeroes s.classes false (result_of s.function)) z ∙ e; alike = inl (ap head_of (sym z)) }
  kid_folds s p false role t f e = let g = f e in record { fits = g.fits; alike = g.alike }

  mutual
    pub tree_folds : (s : Setting) (p : Position) (role : Role) (t : Tree) → fits s p role t ≡ true → Folds s p role (head_of t) (folded v t)
    tree_folds s p role (node kind t cat at kids) e =
        let f = fits_known s p role kind t cat at kids e in
        node_folds v s p role kind t cat at (all_folded v kids) (node_kept s p role kind t cat at kids f
        (kids_fold s (inside kind p) (kids_in role kind t (heads_of kids)) 0 kids f.below))

    kids_fold : (s : Setting) (p : Position) (ks : Kids) (i : ℕ) (ts : Trees) → kids_fit s p ks i ts ≡ true → KidsFold s p ks i ts
    kids_fold s p ks i none e = record { fits = refl; alike = tt }
    kids_fold s p ks i (more t ts) e =
        let f = kid_known s p ks i t ts e in
        let role = unwrap_or (role_at ks i) Value in
        let g = kid_folds s p (is_zero_role role) role t (λ h. tree_folds s p role t h) f.fits in
        let rest = kids_fold s p ks (suc i) ts f.rest in
        record {
          fits = kids_from s p ks i (folded v t) (all_folded v ts) (record {
            known = f.known;
            kid = ap is_kid (sym (kind_is (folded v t))) ∙ kid_alike (head_of t) (head_of (folded v t)) g.alike (ap is_kid (kind_is t) ∙ f.kid);
            fits = g.fits;
            rest = rest.fits;
          });
          alike = (g.alike, rest.alike);
        }
