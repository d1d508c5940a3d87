-- Initialisers of members, moved to where they stand, can have the qualifiers of the object.
use Rattle.std.proofs.Common.{◌≡◌, refl, ap, ◌∙◌, ℕ, zero, Bool, true, false, ◌&&◌, length}
use Rattle.std.proofs.lemmas.Bool.{and_parts}
use Rattle.std.specs.Prelude.{if◌then◌else◌}
use Rattle.elab_rules.specs.cpp_types.Typ.{Typ}
use Rattle.elab_rules.specs.cpp_types.declared.classes.At.{At}
use Rattle.elab_rules.specs.cpp_types.declared.ranks.Cat.TheVariants.{Prvalue}
use Rattle.elab_rules.specs.cpp_tree.declared.kinds.TKind.{TKind}
use Rattle.elab_rules.specs.cpp_tree.declared.kinds.TKind.TheVariants.{Local, Load, Retype, Materialize, Pieces, Piece, Elements}
use Rattle.elab_rules.specs.cpp_tree.Trees.{Tree, node, Trees, none, more, kind_of, typ_in}
use Rattle.elab_rules.specs.cpp_tree.Typing.{goes_both_ways, is_class_typ, same_shape}
use Rattle.elab_rules.specs.Braces.{ThisAt, relocated, all_relocated, as_part, default_made}
use Rattle.elab_fits.specs.Standing.{BuildsOne}
use Rattle.elab_fits.proofs.Nodes.{both}
use Rattle.elab_fits_braces.specs.Moving.{is_read, DefaultsQualified}
use Rattle.elab_fits_braces.specs.Qualified.{is_made, are_made, is_pliable}
use Rattle.elab_fits_braces.proofs.Defaults.{defaults_build, part_moved}
use Rattle.elab_fits_braces.proofs.Requalified.{qualified_build}

no_way : (k : TKind) → is_read k ≡ true → goes_both_ways k ≡ false
no_way (Load k v) h = refl
no_way Retype h = refl
no_way k h = absurd cc

read_made : (e : Tree) → is_read (kind_of e) ≡ true → is_made e ≡ true
read_made (node (Load k v) t cat at kids) h = refl
read_made (node Retype t cat at kids) h = refl
read_made (node (Piece offset) t cat at none) h = absurd cc
read_made (node (Elements n stride) t cat at none) h = absurd cc
read_made (node kind t cat at kids) h = absurd cc

module _ (by : ℕ) (this : ThisAt) (r : (at : At) → is_read (kind_of (this at)) ≡ true) where
  ways_moved : (e : Tree) → goes_both_ways (kind_of (relocated by this e)) ≡ goes_both_ways (kind_of e)
  ways_moved (node (Load k false) t Prvalue at (more (node (Local zero) u cat p kids) none)) = no_way (kind_of (this at)) (r at)
  ways_moved (node (Materialize place argument) t cat at kids) = refl
  ways_moved (node kind t cat at kids) = refl

  typ_moved : (e : Tree) → goes_both_ways (kind_of e) ≡ true → typ_in (relocated by this e) ≡ typ_in e
  typ_moved (node (Load k false) t Prvalue at (more (node (Local zero) u cat p kids) none)) h = absurd cc
  typ_moved (node (Materialize place argument) t cat at kids) h = refl
  typ_moved (node kind t cat at kids) h = refl

  mutual
    made_moved : (e : Tree) → is_made e ≡ true → is_made (relocated by this e) ≡ true
    made_moved (node (Load k false) t Prvalue at (more (node (Local zero) u cat p kids) none)) h = read_made (this at) (r at)
    made_moved (node (Materialize place argument) t cat at kids) h = refl
    made_moved (node Pieces t cat at kids) h = all_moved kids h
    made_moved (node (Piece offset) t cat at none) h = refl
    made_moved (node (Piece offset) t cat at (more e ds)) h = made_moved e h
    made_moved (node (Elements n stride) t cat at none) h = refl
    made_moved (node (Elements n stride) t cat at (more e ds)) h = made_moved e h
    made_moved (node kind t cat at kids) h = h

    all_moved : (ts : Trees) → are_made ts ≡ true → are_made (all_relocated by this ts) ≡ true
    all_moved none h = refl
    all_moved (more e ts) h = let a = and_parts (is_made e) (are_made ts) h in both (made_moved e a.0) (all_moved ts a.1)

  pliable_by : (t : Typ) (e : Tree) (b : Bool) → goes_both_ways (kind_of e) ≡ b
      → (if b then is_class_typ t && same_shape t (typ_in e) else is_made e) ≡ true
      → (if b then is_class_typ t && same_shape t (typ_in (relocated by this e)) else is_made (relocated by this e)) ≡ true
  pliable_by t e true g h = ap (λ (u : Typ). is_class_typ t && same_shape t u) (typ_moved e g) ∙ h
  pliable_by t e false g h = made_moved e h

  pub pliable_moved : (t : Typ) (e : Tree) → is_pliable t e ≡ true → is_pliable t (relocated by this e) ≡ true
  pliable_moved t e h = ap (λ (b : Bool). if b then is_class_typ t && same_shape t (typ_in (relocated by this e)) else is_made (relocated by this e)) (ways_moved e)
      ∙ pliable_by t e (goes_both_ways (kind_of e)) refl h

pub defaults_qualified : DefaultsQualified
defaults_qualified s q v w t this d o z r i h g =
    let b : BuildsOne s t (default_made w this d).tree = (defaults_build s w t this d i h g).1 in
    let m = part_moved s w t this d i g d.init in
    let p : is_pliable t (default_made w this d).tree ≡ true =
    ap (is_pliable t) m ∙ pliable_moved (length w.frame) this i.read t (as_part d.init) h.pliable in
    qualified_build s q v t (default_made w this d).tree o z r p b
