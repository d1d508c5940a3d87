-- What the test of a node says of its row.
use Rattle.std.proofs.Common.{◌≡◌, true, false, not, ◌&&◌, ◌||◌, length}
use Rattle.std.proofs.lemmas.Bool.{and_parts}
use Rattle.elab_rules.specs.cpp_types.Typ.{Typ}
use Rattle.elab_rules.specs.cpp_types.declared.classes.At.{At}
use Rattle.elab_rules.specs.cpp_types.declared.ranks.Cat.{Cat}
use Rattle.elab_rules.specs.cpp_tree.declared.kinds.TKind.{TKind}
use Rattle.elab_rules.specs.cpp_tree.declared.roles.Position.{Position}
use Rattle.elab_rules.specs.cpp_tree.declared.roles.Role.{Role}
use Rattle.elab_rules.specs.cpp_tree.Trees.{node, Trees}
use Rattle.elab_rules.specs.cpp_tree.Roles.{serves, way_fits}
use Rattle.elab_rules.specs.cpp_tree.Rows.{Setting, row_fits}
use Rattle.elab_rules.specs.cpp_tree.WellFormed.{fits, stands, enough, kids_in, kids_fit, labels_fit, heads_of, inside, is_switch, may_stand, branches_fit}

pub fits_stands : (s : Setting) (p : Position) (role : Role) (kind : TKind) (t : Typ) (cat : Cat) (at : At) (kids : Trees)
    → fits s p role (node kind t cat at kids) ≡ true → stands s p role kind t cat (heads_of kids) ≡ true
fits_stands s p role kind t cat at kids h =
    let a = and_parts (stands s p role kind t cat (heads_of kids) && enough (kids_in role kind t (heads_of kids)) (length (heads_of kids))
    && (not (is_switch kind) || labels_fit false kids)) (kids_fit s (inside kind p) (kids_in role kind t (heads_of kids)) 0 kids) h in
    let b = and_parts (stands s p role kind t cat (heads_of kids) && enough (kids_in role kind t (heads_of kids)) (length (heads_of kids)))
    (not (is_switch kind) || labels_fit false kids) a.0 in
    (and_parts (stands s p role kind t cat (heads_of kids)) (enough (kids_in role kind t (heads_of kids)) (length (heads_of kids))) b.0).0

pub fits_row : (s : Setting) (p : Position) (role : Role) (kind : TKind) (t : Typ) (cat : Cat) (at : At) (kids : Trees)
    → fits s p role (node kind t cat at kids) ≡ true → row_fits s kind t cat (heads_of kids) ≡ true
fits_row s p role kind t cat at kids h = (and_parts (serves role kind && way_fits role kind t cat
    && may_stand s.function.kind p kind (length (heads_of kids)) && branches_fit role kind t (heads_of kids)) (row_fits s kind t cat (heads_of kids))
    (fits_stands s p role kind t cat at kids h)).1
