-- Nodes that fit: of what a node asks of itself, and of kids that fit.
use Rattle.std.proofs.Common.{◌≡◌, refl, ap, ◌∙◌, ℕ, Bool, true, false, not, ◌&&◌, ◌||◌, List, [], ◌∷◌, length}
use Rattle.std.proofs.lemmas.Bool.{and_from}
use Rattle.elab_rules.specs.cpp_types.Typ.{Typ}
use Rattle.elab_rules.specs.cpp_types.declared.classes.At.{At}
use Rattle.elab_rules.specs.cpp_types.declared.ranks.Cat.{Cat}
use Rattle.elab_rules.specs.cpp_tree.declared.kinds.TKind.{TKind}
use Rattle.elab_rules.specs.cpp_tree.declared.kinds.TKind.TheVariants.{Block, Loop, Switch, FullExpression}
use Rattle.elab_rules.specs.cpp_tree.declared.program.FuncKind.{FuncKind}
use Rattle.elab_rules.specs.cpp_tree.declared.roles.Position.{Position}
use Rattle.elab_rules.specs.cpp_tree.declared.roles.Role.{Role}
use Rattle.elab_rules.specs.cpp_tree.declared.roles.Role.TheVariants.{Value, Word, Initialiser, CopyInit, Destruction}
use Rattle.elab_rules.specs.cpp_tree.Trees.{Tree, node, Trees, none, one, two, three, kind_of, typ_in, cat_of}
use Rattle.elab_rules.specs.cpp_tree.Typing.{Head, head_of, builds, is_class_prvalue}
use Rattle.elab_rules.specs.cpp_tree.Roles.{Kids, only, and_any, kids_for, serves, way_fits}
use Rattle.elab_rules.specs.cpp_tree.Rows.{Setting, row_fits}
use Rattle.elab_rules.specs.cpp_tree.WellFormed.{fits, kids_fit, enough, kids_in, heads_of, inside, is_kid, is_switch, labels_fit, may_stand}
use Rattle.elab_rules.specs.cpp_tree.WellFormed.{branches_fit}
use Rattle.elab_rules.specs.Values.{builder}
use Rattle.elab_fits.specs.Standing.{FitsAs, IsExpressionType, Stands}

-- Tests

pub both : {a b : Bool} → a ≡ true → b ≡ true → (a && b) ≡ true
both {a} {b} h g = and_from a b h g

pub or_left : {a : Bool} (b : Bool) → a ≡ true → (a || b) ≡ true
or_left b h = ap (λ z. z || b) h

pub or_right : (a : Bool) {b : Bool} → b ≡ true → (a || b) ≡ true
or_right true h = refl
or_right false h = h

pub clash : (A : Type 0) (b : Bool) → b ≡ false → b ≡ true → A
clash A true h g = absurd cc
clash A false h g = absurd cc

-- Heads

pub head_typ : (e : Tree) → (head_of e).typ ≡ typ_in e
head_typ (node kind t cat at kids) = refl

pub head_cat : (e : Tree) → (head_of e).cat ≡ cat_of e
head_cat (node kind t cat at kids) = refl

pub head_kind : (e : Tree) → (head_of e).kind ≡ kind_of e
head_kind (node kind t cat at kids) = refl

-- Kids

-- inside of a node of a full-expression is inside of it
pub inside_full : (kind : TKind) (p : Position) → p.full ≡ true → (inside kind p).full ≡ true
inside_full FullExpression p h = refl
inside_full (Loop first) p h = h
inside_full Switch p h = h
inside_full kind p h = h

-- what serves as a value, an initialiser, a word, a copy or a destruction is a kid of nodes
pub value_kid : (s : Setting) (p : Position) (e : Tree) → fits s p Value e ≡ true → is_kid (kind_of e) ≡ true
value_kid s p (node (Block b) t cat at kids) h = absurd cc
value_kid s p (node kind t cat at kids) h = refl

pub initial_kid : (s : Setting) (p : Position) (e : Tree) → fits s p Initialiser e ≡ true → is_kid (kind_of e) ≡ true
initial_kid s p (node (Block b) t cat at kids) h = absurd cc
initial_kid s p (node kind t cat at kids) h = refl

pub word_kid : (s : Setting) (p : Position) (e : Tree) → fits s p Word e ≡ true → is_kid (kind_of e) ≡ true
word_kid s p (node (Block b) t cat at kids) h = absurd cc
word_kid s p (node kind t cat at kids) h = refl

pub copy_kid : (s : Setting) (p : Position) (e : Tree) → fits s p CopyInit e ≡ true → is_kid (kind_of e) ≡ true
copy_kid s p (node (Block b) t cat at kids) h = absurd cc
copy_kid s p (node kind t cat at kids) h = refl

pub destruction_kid : (s : Setting) (p : Position) (e : Tree) → fits s p Destruction e ≡ true → is_kid (kind_of e) ≡ true
destruction_kid s p (node (Block b) t cat at kids) h = absurd cc
destruction_kid s p (node kind t cat at kids) h = refl

pub one_value : (s : Setting) (p : Position) (e : Tree) → fits s p Value e ≡ true → kids_fit s p (only (Value ∷ [])) 0 (one e) ≡ true
one_value s p e h = both (both (value_kid s p e h) h) refl

pub two_values : (s : Setting) (p : Position) (a b : Tree) → fits s p Value a ≡ true → fits s p Value b ≡ true
    → kids_fit s p (only (Value ∷ Value ∷ [])) 0 (two a b) ≡ true
two_values s p a b h g = both (both (value_kid s p a h) h) (both (both (value_kid s p b g) g) refl)

pub three_values : (s : Setting) (p : Position) (a b c : Tree) → fits s p Value a ≡ true → fits s p Value b ≡ true → fits s p Value c ≡ true
    → kids_fit s p (only (Value ∷ Value ∷ Value ∷ [])) 0 (three a b c) ≡ true
three_values s p a b c h g k = both (both (value_kid s p a h) h) (both (both (value_kid s p b g) g) (both (both (value_kid s p c k) k) refl))

-- what builds an object, without destructions
pub one_object : (s : Setting) (p : Position) (e : Tree) (others : Role) → fits s p Initialiser e ≡ true
    → kids_fit s p (and_any (Initialiser ∷ []) others) 0 (one e) ≡ true
one_object s p e others h = both (both (initial_kid s p e h) h) refl

-- Nodes

pub node_fits : (s : Setting) (p : Position) (role : Role) (kind : TKind) (t : Typ) (cat : Cat) (at : At) (kids : Trees) (asked : Kids)
    → serves role kind ≡ true → way_fits role kind t cat ≡ true → may_stand s.function.kind p kind (length (heads_of kids)) ≡ true
    → branches_fit role kind t (heads_of kids) ≡ true → row_fits s kind t cat (heads_of kids) ≡ true → kids_in role kind t (heads_of kids) ≡ asked
    → enough asked (length (heads_of kids)) ≡ true → is_switch kind ≡ false → kids_fit s (inside kind p) asked 0 kids ≡ true
    → fits s p role (node kind t cat at kids) ≡ true
node_fits s p role kind t cat at kids asked a b c d e f g h i = both
    (both (both (both (both (both (both a b) c) d) e) (ap (λ (k : Kids). enough k (length (heads_of kids))) f ∙ g))
    (ap (λ (x : Bool). not x || labels_fit false kids) h))
    (ap (λ (k : Kids). kids_fit s (inside kind p) k 0 kids) f ∙ i)

-- kinds of values that stand anywhere, and what their kids are
pub record Simple (kind : TKind) (kids : Kids) : Type 0 where
  pub is_value : serves Value kind ≡ true
  pub anywhere : (f : FuncKind) (p : Position) (many : ℕ) → may_stand f p kind many ≡ true
  pub unbranched : (t : Typ) (hs : List Head) → branches_fit Value kind t hs ≡ true
  pub asks : (void_type no_object : Bool) → kids_for Value kind void_type no_object ≡ kids
  pub no_switch : is_switch kind ≡ false

pub no_kids : (s : Setting) (kind : TKind) (t : Typ) (cat : Cat) (at : At) → Simple kind (only []) → way_fits Value kind t cat ≡ true
    → row_fits s kind t cat [] ≡ true → FitsAs s Value (node kind t cat at none)
no_kids s kind t cat at k w r = λ p full. node_fits s p Value kind t cat at none (only []) k.is_value w (k.anywhere s.function.kind p 0) (k.unbranched t []) r
    (k.asks _ _) refl k.no_switch refl

pub one_kid : (s : Setting) (kind : TKind) (t : Typ) (cat : Cat) (at : At) (e : Tree) → Simple kind (only (Value ∷ [])) → way_fits Value kind t cat ≡ true
    → row_fits s kind t cat (head_of e ∷ []) ≡ true → FitsAs s Value e → FitsAs s Value (node kind t cat at (one e))
one_kid s kind t cat at e k w r h = λ p full. node_fits s p Value kind t cat at (one e) (only (Value ∷ [])) k.is_value w (k.anywhere s.function.kind p 1)
    (k.unbranched t (head_of e ∷ [])) r (k.asks _ _) refl k.no_switch (one_value s (inside kind p) e (h (inside kind p) (inside_full kind p full)))

pub two_kids : (s : Setting) (kind : TKind) (t : Typ) (cat : Cat) (at : At) (a b : Tree) → Simple kind (only (Value ∷ Value ∷ []))
    → way_fits Value kind t cat ≡ true → row_fits s kind t cat (head_of a ∷ head_of b ∷ []) ≡ true → FitsAs s Value a → FitsAs s Value b
    → FitsAs s Value (node kind t cat at (two a b))
two_kids s kind t cat at a b k w r h g = λ p full. node_fits s p Value kind t cat at (two a b) (only (Value ∷ Value ∷ [])) k.is_value w
    (k.anywhere s.function.kind p 2) (k.unbranched t (head_of a ∷ head_of b ∷ [])) r (k.asks _ _) refl k.no_switch
    (two_values s (inside kind p) a b (h (inside kind p) (inside_full kind p full)) (g (inside kind p) (inside_full kind p full)))

-- Expressions

-- one that is no class prvalue
pub of_value : (s : Setting) (e : Tree) → IsExpressionType (typ_in e) (cat_of e) → is_class_prvalue (typ_in e) (cat_of e) ≡ false → FitsAs s Value e
    → Stands s e
of_value s e t n v = record {
  typed = t;
  value = λ h. v;
  object = λ h. clash (FitsAs s Initialiser (builder e)) (is_class_prvalue (typ_in e) (cat_of e)) n h;
  built = λ h. clash (builds (typ_in e) (head_of (builder e)) ≡ true) (is_class_prvalue (typ_in e) (cat_of e)) n h;
}
