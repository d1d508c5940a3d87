-- The constant of a node from its kind, its category and the constants of its kids.
use Rattle.std.proofs.Common.{◌≡◌, ℕ, ◌∙◌, ◌<◌, List, [], ◌∷◌, length, Option, Some, None, true, false, Bool, ◌==◌, refl, ap, sym, slice_get, get_or, ◌≢◌}
use Rattle.std.proofs.Common.{arith}
use Rattle.elab_rules.specs.tx_ints.declared.kinds.IntKind.{IntKind}
use Rattle.elab_rules.specs.cpp_types.Typ.{Typ}
use Rattle.elab_rules.specs.cpp_types.declared.classes.At.{At}
use Rattle.elab_rules.specs.cpp_types.declared.ranks.Cat.{Cat}
use Rattle.elab_rules.specs.cpp_types.declared.ranks.Cat.TheVariants.{Prvalue, Lvalue}
use Rattle.elab_rules.specs.cpp_tree.declared.arena.TNodeId.{TNodeId}
use Rattle.elab_rules.specs.cpp_tree.declared.kinds.TKind.{TKind}
use Rattle.elab_rules.specs.cpp_tree.declared.kinds.TKind.TheVariants.{Literal, Load, Convert, Retype, Binary, Conditional, Global as GlobalNode}
use Rattle.elab_rules.specs.cpp_tree.Trees.{Tree, node, Trees, none, more, one, two, three, kind_of, typ_in, cat_of, kids_of}
use Rattle.elab_rules.specs.cpp_tree.Arena.{tree_at, trees_at}
use Rattle.elab_rules.specs.cpp_tree.Units.{Global}
use Rattle.elab_rules.specs.elab_ctx.Says.{place_in}
use Rattle.elab_rules.specs.Constants.{constant, value_of_global, address, Address}
use Rattle.elab_consts.specs.FromKids.{word_at, from_one, from_two, from_three, global_in, global_number, only_global, loaded, is_load}

-- a tree is a node of its parts
node_is : (t : Tree) → t ≡ node (kind_of t) (typ_in t) (cat_of t) (place_in t) (kids_of t)
node_is (node kind t cat at kids) = refl

-- By the number of kids

one_kid : (gs : List Global) (kind : TKind) (t : Typ) (cat : Cat) (at : At) (a : Tree) → is_load kind ≡ false
    → constant gs (node kind t cat at (one a)) ≡ from_one kind cat (constant gs a)
one_kid gs (Literal w) t cat at a h = refl
one_kid gs (Load k v) t cat at a h = absurd cc
one_kid gs (Convert k) t cat at a h = refl
one_kid gs Retype t Prvalue at a h = refl
one_kid gs Retype t Lvalue at a h = refl
one_kid gs (Binary op k) t Prvalue at a h = refl
one_kid gs (Binary op k) t Lvalue at a h = refl
one_kid gs Conditional t Prvalue at a h = refl
one_kid gs Conditional t Lvalue at a h = refl
one_kid gs kind t cat at a h = refl

two_kids : (gs : List Global) (kind : TKind) (t : Typ) (cat : Cat) (at : At) (a b : Tree) → is_load kind ≡ false
    → constant gs (node kind t cat at (two a b)) ≡ from_two kind cat (constant gs a) (constant gs b)
two_kids gs (Literal w) t cat at a b h = refl
two_kids gs (Load k v) t cat at a b h = absurd cc
two_kids gs (Convert k) t cat at a b h = refl
two_kids gs Retype t Prvalue at a b h = refl
two_kids gs Retype t Lvalue at a b h = refl
two_kids gs (Binary op k) t Prvalue at a b h = refl
two_kids gs (Binary op k) t Lvalue at a b h = refl
two_kids gs Conditional t Prvalue at a b h = refl
two_kids gs Conditional t Lvalue at a b h = refl
two_kids gs kind t cat at a b h = refl

three_kids : (gs : List Global) (kind : TKind) (t : Typ) (cat : Cat) (at : At) (a b d : Tree) → is_load kind ≡ false
    → constant gs (node kind t cat at (three a b d)) ≡ from_three kind cat (constant gs a) (constant gs b) (constant gs d)
three_kids gs (Literal w) t cat at a b d h = refl
three_kids gs (Load k v) t cat at a b d h = absurd cc
three_kids gs (Convert k) t cat at a b d h = refl
three_kids gs Retype t Prvalue at a b d h = refl
three_kids gs Retype t Lvalue at a b d h = refl
three_kids gs (Binary op k) t Prvalue at a b d h = refl
three_kids gs (Binary op k) t Lvalue at a b d h = refl
three_kids gs Conditional t Prvalue at a b d h = refl
three_kids gs Conditional t Lvalue at a b d h = refl
three_kids gs kind t cat at a b d h = refl

no_kids : (gs : List Global) (kind : TKind) (t : Typ) (cat : Cat) (at : At) → is_load kind ≡ false → constant gs (node kind t cat at none) ≡ word_at kind
no_kids gs (Literal w) t cat at h = refl
no_kids gs (Load k v) t cat at h = absurd cc
no_kids gs (Convert k) t cat at h = refl
no_kids gs Retype t Prvalue at h = refl
no_kids gs Retype t Lvalue at h = refl
no_kids gs (Binary op k) t Prvalue at h = refl
no_kids gs (Binary op k) t Lvalue at h = refl
no_kids gs Conditional t Prvalue at h = refl
no_kids gs Conditional t Lvalue at h = refl
no_kids gs kind t cat at h = refl

four_kids : (gs : List Global) (kind : TKind) (t : Typ) (cat : Cat) (at : At) (a b d e : Tree) (ts : Trees) → is_load kind ≡ false
    → constant gs (node kind t cat at (more a (more b (more d (more e ts))))) ≡ word_at kind
four_kids gs (Literal w) t cat at a b d e ts h = refl
four_kids gs (Load k v) t cat at a b d e ts h = absurd cc
four_kids gs (Convert k) t cat at a b d e ts h = refl
four_kids gs Retype t Prvalue at a b d e ts h = refl
four_kids gs Retype t Lvalue at a b d e ts h = refl
four_kids gs (Binary op k) t Prvalue at a b d e ts h = refl
four_kids gs (Binary op k) t Lvalue at a b d e ts h = refl
four_kids gs Conditional t Prvalue at a b d e ts h = refl
four_kids gs Conditional t Lvalue at a b d e ts h = refl
four_kids gs kind t cat at a b d e ts h = refl

-- By the ids of the kids

ids_one : (trees : List Tree) (ids : List TNodeId) (d : TNodeId) → length ids ≡ 1 → trees_at trees ids ≡ one (tree_at trees (get_or ids 0 d))
ids_one trees [] d h = absurd cc
ids_one trees (a ∷ []) d h = refl
ids_one trees (a ∷ (b ∷ ids)) d h = absurd (omega arith)

ids_two : (trees : List Tree) (ids : List TNodeId) (d : TNodeId) → length ids ≡ 2
    → trees_at trees ids ≡ two (tree_at trees (get_or ids 0 d)) (tree_at trees (get_or ids 1 d))
ids_two trees [] d h = absurd cc
ids_two trees (a ∷ []) d h = absurd cc
ids_two trees (a ∷ (b ∷ [])) d h = refl
ids_two trees (a ∷ (b ∷ (c ∷ ids))) d h = absurd (omega arith)

ids_three : (trees : List Tree) (ids : List TNodeId) (d : TNodeId) → length ids ≡ 3
    → trees_at trees ids ≡ three (tree_at trees (get_or ids 0 d)) (tree_at trees (get_or ids 1 d)) (tree_at trees (get_or ids 2 d))
ids_three trees [] d h = absurd cc
ids_three trees (a ∷ []) d h = absurd cc
ids_three trees (a ∷ (b ∷ [])) d h = absurd cc
ids_three trees (a ∷ (b ∷ (c ∷ []))) d h = refl
ids_three trees (a ∷ (b ∷ (c ∷ (e ∷ ids)))) d h = absurd (omega arith)

-- The forms that the code meets

from_kids : (gs : List Global) (t : Tree) (kind : TKind) (cat : Cat) (kids : Trees) → kind_of t ≡ kind → cat_of t ≡ cat → kids_of t ≡ kids
    → constant gs t ≡ constant gs (node kind (typ_in t) cat (place_in t) kids)
from_kids gs t kind cat kids k c h = ap (constant gs) (node_is t) ∙ rw (k, c, h) refl

pub of_one : (gs : List Global) (trees : List Tree) (t : Tree) (kind : TKind) (cat : Cat) (ids : List TNodeId) (a d : TNodeId) (x : Option ℕ) → kind_of t ≡ kind
    → cat_of t ≡ cat → kids_of t ≡ trees_at trees ids → length ids ≡ 1 → is_load kind ≡ false → a ≡ get_or ids 0 d → x ≡ constant gs (tree_at trees a)
    → from_one kind cat x ≡ constant gs t
of_one gs trees t kind cat ids a d x k c h n l i e =
    let kid : kids_of t ≡ one (tree_at trees a) = h ∙ ids_one trees ids d n ∙ ap (λ (z : TNodeId). one (tree_at trees z)) (sym i) in
    sym (from_kids gs t kind cat (one (tree_at trees a)) k c kid ∙ one_kid gs kind (typ_in t) cat (place_in t) (tree_at trees a) l
    ∙ ap (from_one kind cat) (sym e))

pub of_two : (gs : List Global) (trees : List Tree) (t : Tree) (kind : TKind) (cat : Cat) (ids : List TNodeId) (a b d : TNodeId) (x y : Option ℕ)
    → kind_of t ≡ kind → cat_of t ≡ cat → kids_of t ≡ trees_at trees ids → length ids ≡ 2 → is_load kind ≡ false → a ≡ get_or ids 0 d → b ≡ get_or ids 1 d
    → x ≡ constant gs (tree_at trees a) → y ≡ constant gs (tree_at trees b) → from_two kind cat x y ≡ constant gs t
of_two gs trees t kind cat ids a b d x y k c h n l i j e f =
    let kids : kids_of t ≡ two (tree_at trees a) (tree_at trees b) = h ∙ ids_two trees ids d n ∙ rw (i, j) refl in
    sym (from_kids gs t kind cat (two (tree_at trees a) (tree_at trees b)) k c kids
    ∙ two_kids gs kind (typ_in t) cat (place_in t) (tree_at trees a) (tree_at trees b) l ∙ rw (e, f) refl)

pub of_three : (gs : List Global) (trees : List Tree) (t : Tree) (kind : TKind) (cat : Cat) (ids : List TNodeId) (a b g d : TNodeId) (x y z : Option ℕ)
    → kind_of t ≡ kind → cat_of t ≡ cat → kids_of t ≡ trees_at trees ids → length ids ≡ 3 → is_load kind ≡ false → a ≡ get_or ids 0 d → b ≡ get_or ids 1 d
    → g ≡ get_or ids 2 d → x ≡ constant gs (tree_at trees a) → y ≡ constant gs (tree_at trees b) → z ≡ constant gs (tree_at trees g)
    → from_three kind cat x y z ≡ constant gs t
of_three gs trees t kind cat ids a b g d x y z k c h n l i j m e f o =
    let kids : kids_of t ≡ three (tree_at trees a) (tree_at trees b) (tree_at trees g) = h ∙ ids_three trees ids d n ∙ rw (i, j, m) refl in
    sym (from_kids gs t kind cat (three (tree_at trees a) (tree_at trees b) (tree_at trees g)) k c kids
    ∙ three_kids gs kind (typ_in t) cat (place_in t) (tree_at trees a) (tree_at trees b) (tree_at trees g) l ∙ rw (e, f, o) refl)

pub of_three_at : (gs : List Global) (trees : List Tree) (t : Tree) (kind : TKind) (cat : Cat) (ids : List TNodeId) (d : TNodeId) (x y z : Option ℕ)
    → kind_of t ≡ kind → cat_of t ≡ cat → kids_of t ≡ trees_at trees ids → length ids ≡ 3 → is_load kind ≡ false
    → x ≡ constant gs (tree_at trees (get_or ids 0 d)) → y ≡ constant gs (tree_at trees (get_or ids 1 d)) → z ≡ constant gs (tree_at trees (get_or ids 2 d))
    → from_three kind cat x y z ≡ constant gs t
of_three_at gs trees t kind cat ids d x y z k c h n l e f o =
    of_three gs trees t kind cat ids (get_or ids 0 d) (get_or ids 1 d) (get_or ids 2 d) d x y z k c h n l refl refl refl e f o

pub of_others : (gs : List Global) (trees : List Tree) (t : Tree) (kind : TKind) (cat : Cat) (ids : List TNodeId) → kind_of t ≡ kind → cat_of t ≡ cat
    → kids_of t ≡ trees_at trees ids → is_load kind ≡ false → length ids ≢ 1 → length ids ≢ 2 → length ids ≢ 3 → word_at kind ≡ constant gs t
of_others gs trees t kind cat [] k c h l n m o = sym (from_kids gs t kind cat none k c h ∙ no_kids gs kind (typ_in t) cat (place_in t) l)
of_others gs trees t kind cat (a ∷ []) k c h l n m o = absurd (n refl)
of_others gs trees t kind cat (a ∷ (b ∷ [])) k c h l n m o = absurd (m refl)
of_others gs trees t kind cat (a ∷ (b ∷ (d ∷ []))) k c h l n m o = absurd (o refl)
of_others gs trees t kind cat (a ∷ (b ∷ (d ∷ (e ∷ ids)))) k c h l n m o =
    sym (from_kids gs t kind cat (more (tree_at trees a) (more (tree_at trees b) (more (tree_at trees d) (more (tree_at trees e) (trees_at trees ids))))) k c h
    ∙ four_kids gs kind (typ_in t) cat (place_in t) (tree_at trees a) (tree_at trees b) (tree_at trees d) (tree_at trees e) (trees_at trees ids) l)

-- Globals

is_global : (t : Tree) → global_in t ≡ global_number (kind_of t) (kids_of t)
is_global (node kind t cat at kids) = refl

pub global_none : (trees : List Tree) (t : Tree) (g : ℕ) (ids : List TNodeId) → kind_of t ≡ GlobalNode g → kids_of t ≡ trees_at trees ids
    → (length ids == 0) ≡ false → None ≡ global_in t
global_none trees t g [] k h e = absurd cc
global_none trees t g (a ∷ ids) k h e = sym (is_global t ∙ rw (k, h) refl)

pub only_none : (trees : List Tree) (ids : List TNodeId) → length ids ≢ 1 → None ≡ only_global (trees_at trees ids)
only_none trees [] n = refl
only_none trees (a ∷ []) n = absurd (n refl)
only_none trees (a ∷ (b ∷ ids)) n = refl

pub only_some : (trees : List Tree) (ids : List TNodeId) (a d : TNodeId) (x : Option ℕ) → length ids ≡ 1 → a ≡ get_or ids 0 d → x ≡ global_in (tree_at trees a)
    → x ≡ only_global (trees_at trees ids)
only_some trees ids a d x n i e = e ∙ ap (λ (z : TNodeId). global_in (tree_at trees z)) i ∙ ap only_global (sym (ids_one trees ids d n))

load_kids : (gs : List Global) (k : IntKind) (v : Bool) (t : Typ) (cat : Cat) (at : At) (kids : Trees)
    → constant gs (node (Load k v) t cat at kids) ≡ loaded gs k v (only_global kids)
load_kids gs k true t cat at kids = refl
load_kids gs k false t cat at none = refl
load_kids gs k false t cat at (more (node (GlobalNode g) u c p none) none) = refl
load_kids gs k false t cat at (more (node (GlobalNode g) u c p (more x xs)) none) = refl
load_kids gs k false t cat at (more (node kind u c p kids) none) = refl
load_kids gs k false t cat at (more (node (GlobalNode g) u c p none) (more b ts)) = refl
load_kids gs k false t cat at (more (node (GlobalNode g) u c p (more x xs)) (more b ts)) = refl
load_kids gs k false t cat at (more (node kind u c p kids) (more b ts)) = refl

pub not_load : (kind : TKind) → ((k : IntKind) (v : Bool) → kind ≢ Load k v) → is_load kind ≡ false
not_load (Load k v) h = absurd (h k v refl)
not_load kind h = refl

pub of_load : (gs : List Global) (trees : List Tree) (t : Tree) (k : IntKind) (v : Bool) (kind : TKind) (ids : List TNodeId) (g x : Option ℕ) → kind_of t ≡ kind
    → kind ≡ Load k v → kids_of t ≡ trees_at trees ids → g ≡ only_global (trees_at trees ids) → x ≡ loaded gs k v g → x ≡ constant gs t
of_load gs trees t k v kind ids g x c l h e f = f ∙ ap (loaded gs k v) e
    ∙ sym (from_kids gs t (Load k v) (cat_of t) (trees_at trees ids) (c ∙ l) refl h ∙ load_kids gs k v (typ_in t) (cat_of t) (place_in t) (trees_at trees ids))

-- Addresses

pub address_none : (trees : List Tree) (t : Tree) (ids : List TNodeId) → kind_of t ≡ Retype → kids_of t ≡ trees_at trees ids → length ids ≢ 1 → None ≡ address t
address_none trees t [] k h n = sym (ap address (node_is t) ∙ rw (k, h) refl)
address_none trees t (a ∷ []) k h n = absurd (n refl)
address_none trees t (a ∷ (b ∷ ids)) k h n = sym (ap address (node_is t) ∙ rw (k, h) refl)
