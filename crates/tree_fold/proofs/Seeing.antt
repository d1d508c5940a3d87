-- What is known of the kids' folded trees tells what becomes of a node.
use Rattle.std.proofs.Common.{◌≡◌, ℕ, ◌+◌, ◌<◌, ◌==◌, Bool, true, false, List, [], ◌∷◌, ◌++◌, length, get_or, slice_get, refl, sym, ◌∙◌, ap, arith, nat_lt}
use Rattle.std.proofs.Common.{◌&&◌, length-append, Option, Some, None, cond, inl, inr}
use Rattle.std.specs.Prelude.{option_map, unwrap_or}
use Rattle.std.proofs.lemmas.Bool.{ltb-true, and_parts, cases_lt}
use Rattle.std.proofs.lemmas.Option.{slice_get-get_or, slice_get_within, get_or_from_slice_get, cond_some, slice_get_read}
use Rattle.std.proofs.lemmas.List.{get_or_append_left, get_or_push}
use Rattle.cpp_tree.specs.cpp_types.Typ.{Typ, typ_of}
use Rattle.cpp_tree.specs.cpp_types.declared.classes.At.{At}
use Rattle.cpp_tree.specs.cpp_types.declared.ranks.Cat.{Cat}
use Rattle.cpp_tree.specs.cpp_types.declared.ranks.Cat.TheVariants.{Prvalue}
use Rattle.cpp_tree.specs.declared.kinds.TKind.{TKind}
use Rattle.cpp_tree.specs.declared.kinds.TKind.TheVariants.{Literal, Convert, Binary, Conditional, Comma}
use Rattle.cpp_tree.specs.declared.arena.TNodeId.{TNodeId}
use Rattle.cpp_tree.specs.declared.arena.TNode.{TNode}
use Rattle.cpp_tree.specs.Trees.{Tree, node, Trees, none, kind_of, literal}
use Rattle.cpp_tree.specs.Typing.{is_prvalue}
use Rattle.cpp_tree.specs.Arena.{IsOrdered, are_below, trees_at, trees_of, tree_of}
use Rattle.cpp_tree.proofs.Shown.{tree_of_node}
use Rattle.src_mean.specs.Source.{converted}
use Rattle.tree_fold.specs.declared.words.Operands.{Operands}
use Rattle.tree_fold.specs.declared.sights.Sight.{Sight}
use Rattle.tree_fold.specs.Bare.{is_bare_node, is_bare, are_bare}
use Rattle.tree_fold.specs.Constants.{is_integer, is_none, literal_word, integer_word, one_word, both_words, two_words, of_integer, operator_word, comma_word}
use Rattle.tree_fold.specs.Constants.{constant}
use Rattle.tree_fold.specs.Folding.{stands_for, only_taken, taken_by, taken, literal_or, folded_node, folded, all_folded}
use Rattle.tree_fold.specs.Sights.{sight_of, folded_at, AreSights, word_seen, kind_seen, bare_seen, only_word, pair_of_words, constant_seen, only_taken_seen}
use Rattle.tree_fold.specs.Sights.{taken_by_word, taken_among, taken_seen, all_bare, has_none, own_sight, kid_or, word_or, sight_seen}

pub at_seen : (v : ℕ → Bool) (trees : List Tree) (sights : List Sight) (id : TNodeId) → AreSights v trees sights → id.0 < length sights
    → slice_get sights id.0 ≡ Some (sight_of v (folded_at v trees id))
at_seen v trees sights id a h =
    let blank : Sight = record { kind = Literal 0; word = None; bare = true } in
    let e : slice_get sights id.0 ≡ Some (get_or sights id.0 blank) = slice_get-get_or sights id.0 blank h in
    e ∙ ap Some (a.each id.0 (get_or sights id.0 blank) e)

word_at : (v : ℕ → Bool) (trees : List Tree) (sights : List Sight) (id : TNodeId) → AreSights v trees sights → id.0 < length sights
    → word_seen (slice_get sights id.0) ≡ integer_word (folded_at v trees id)
word_at v trees sights id a h = ap word_seen (at_seen v trees sights id a h)

kind_at : (v : ℕ → Bool) (trees : List Tree) (sights : List Sight) (id : TNodeId) → AreSights v trees sights → id.0 < length sights
    → kind_seen (slice_get sights id.0) ≡ kind_of (folded_at v trees id)
kind_at v trees sights id a h = ap kind_seen (at_seen v trees sights id a h)

bare_at : (v : ℕ → Bool) (trees : List Tree) (sights : List Sight) (id : TNodeId) → AreSights v trees sights → id.0 < length sights
    → bare_seen (slice_get sights id.0) ≡ is_bare v (folded_at v trees id)
bare_at v trees sights id a h = ap bare_seen (at_seen v trees sights id a h)

-- the first of ids that are below a place, and the others
pub first_below : (n : ℕ) (id : TNodeId) (ids : List TNodeId) → are_below n (id ∷ ids) ≡ true → id.0 < n
first_below n id ids h = ltb-true id.0 n ((and_parts (nat_lt id.0 n) (are_below n ids) h).0)

pub rest_below : (n : ℕ) (id : TNodeId) (ids : List TNodeId) → are_below n (id ∷ ids) ≡ true → are_below n ids ≡ true
rest_below n id ids h = (and_parts (nat_lt id.0 n) (are_below n ids) h).1

only_is : (v : ℕ → Bool) (trees : List Tree) (sights : List Sight) (ids : List TNodeId) → AreSights v trees sights → are_below (length sights) ids ≡ true
    → only_word sights ids ≡ one_word (all_folded v (trees_at trees ids))
only_is v trees sights [] a b = refl
only_is v trees sights (id ∷ []) a b = word_at v trees sights id a (first_below (length sights) id [] b)
only_is v trees sights (id ∷ k ∷ ids) a b = refl

pair_is : (v : ℕ → Bool) (trees : List Tree) (sights : List Sight) (ids : List TNodeId) → AreSights v trees sights → are_below (length sights) ids ≡ true
    → pair_of_words sights ids ≡ two_words (all_folded v (trees_at trees ids))
pair_is v trees sights [] a b = refl
pair_is v trees sights (id ∷ []) a b = refl
pair_is v trees sights (id ∷ k ∷ []) a b =
    let left : word_seen (slice_get sights id.0) ≡ integer_word (folded_at v trees id) =
    word_at v trees sights id a (first_below (length sights) id (k ∷ []) b) in
    let right : word_seen (slice_get sights k.0) ≡ integer_word (folded_at v trees k) =
    word_at v trees sights k a (first_below (length sights) k [] (rest_below (length sights) id (k ∷ []) b)) in
    ap (λ (z : Option ℕ). both_words z (word_seen (slice_get sights k.0))) left ∙ ap (both_words (integer_word (folded_at v trees id))) right
pair_is v trees sights (id ∷ k ∷ l ∷ ids) a b = refl

pub constant_is : (v : ℕ → Bool) (trees : List Tree) (sights : List Sight) (kind : TKind) (t : Typ) (cat : Cat) (ids : List TNodeId) → AreSights v trees sights
    → are_below (length sights) ids ≡ true → constant_seen sights kind t cat ids ≡ constant kind t cat (all_folded v (trees_at trees ids))
constant_is v trees sights (Convert to) t cat ids a b = ap (λ (z : Option ℕ). of_integer t cat (option_map (converted to) z)) (only_is v trees sights ids a b)
constant_is v trees sights (Binary op k) t cat ids a b = ap (λ (z : Option Operands). of_integer t cat (operator_word op k z)) (pair_is v trees sights ids a b)
constant_is v trees sights Comma t cat ids a b = ap (λ (z : Option Operands). of_integer t cat (comma_word z)) (pair_is v trees sights ids a b)
constant_is v trees sights kind t cat ids a b = refl

-- The kid that is taken

map_cond : {A B : Type 0} (f : A → B) (b : Bool) (x : A) → option_map f (cond b (Some x) None) ≡ cond b (Some (f x)) None
map_cond f true x = refl
map_cond f false x = refl

cond_maps : {A B : Type 0} (f : A → B) (b : Bool) (x y : Option A) (p q : Option B) → option_map f x ≡ p → option_map f y ≡ q
    → option_map f (cond b x y) ≡ cond b p q
cond_maps f true x y p q e g = e
cond_maps f false x y p q e g = g

only_taken_is : (v : ℕ → Bool) (trees : List Tree) (sights : List Sight) (t : Typ) (cat : Cat) (run other : TNodeId) → AreSights v trees sights
    → run.0 < length sights → other.0 < length sights
    → option_map (folded_at v trees) (only_taken_seen sights t cat run other) ≡ only_taken v t cat (folded_at v trees run) (folded_at v trees other)
only_taken_is v trees sights t cat run other a r o =
    ap (λ (z : TKind). option_map (folded_at v trees) (cond (stands_for t cat z && bare_seen (slice_get sights other.0)) (Some run) None))
    (kind_at v trees sights run a r)
    ∙ ap (λ (z : Bool). option_map (folded_at v trees) (cond (stands_for t cat (kind_of (folded_at v trees run)) && z) (Some run) None))
    (bare_at v trees sights other a o)
    ∙ map_cond (folded_at v trees) (stands_for t cat (kind_of (folded_at v trees run)) && is_bare v (folded_at v trees other)) run

by_word_is : (v : ℕ → Bool) (trees : List Tree) (sights : List Sight) (t : Typ) (cat : Cat) (word : Option ℕ) (chosen other : TNodeId)
    → AreSights v trees sights → chosen.0 < length sights → other.0 < length sights
    → option_map (folded_at v trees) (taken_by_word sights t cat word chosen other) ≡ taken_by v t cat word (folded_at v trees chosen) (folded_at v trees other)
by_word_is v trees sights t cat None chosen other a c o = refl
by_word_is v trees sights t cat (Some w) chosen other a c o =
    cond_maps (folded_at v trees) (w == 0) _ _ _ _ (only_taken_is v trees sights t cat other chosen a o c)
    (only_taken_is v trees sights t cat chosen other a c o)

among_is : (v : ℕ → Bool) (trees : List Tree) (sights : List Sight) (t : Typ) (cat : Cat) (ids : List TNodeId) → AreSights v trees sights
    → are_below (length sights) ids ≡ true
    → option_map (folded_at v trees) (taken_among sights t cat ids) ≡ taken v Conditional t cat (all_folded v (trees_at trees ids))
among_is v trees sights t cat [] a b = refl
among_is v trees sights t cat (i ∷ []) a b = refl
among_is v trees sights t cat (i ∷ j ∷ []) a b = refl
among_is v trees sights t cat (i ∷ j ∷ k ∷ []) a b =
    let n = length sights in
    let c = rest_below n i (j ∷ k ∷ []) b in
    ap (λ (z : Option ℕ). option_map (folded_at v trees) (taken_by_word sights t cat z j k)) (word_at v trees sights i a (first_below n i (j ∷ k ∷ []) b))
    ∙ by_word_is v trees sights t cat (integer_word (folded_at v trees i)) j k a (first_below n j (k ∷ []) c) (first_below n k [] (rest_below n j (k ∷ []) c))
among_is v trees sights t cat (i ∷ j ∷ k ∷ l ∷ ids) a b = refl

pub taken_is : (v : ℕ → Bool) (trees : List Tree) (sights : List Sight) (kind : TKind) (t : Typ) (cat : Cat) (ids : List TNodeId) → AreSights v trees sights
    → are_below (length sights) ids ≡ true
    → option_map (folded_at v trees) (taken_seen sights kind t cat ids) ≡ taken v kind t cat (all_folded v (trees_at trees ids))
taken_is v trees sights Conditional t cat ids a b = among_is v trees sights t cat ids a b
taken_is v trees sights kind t cat ids a b = refl

-- it is one of the kids
one_or_other : (n : ℕ) (b : Bool) (x y : Option TNodeId) (id : TNodeId) → (x ≡ Some id → id.0 < n) → (y ≡ Some id → id.0 < n) → cond b x y ≡ Some id → id.0 < n
one_or_other n true x y id f g e = f e
one_or_other n false x y id f g e = g e

only_below : (n : ℕ) (b : Bool) (run id : TNodeId) → run.0 < n → cond b (Some run) None ≡ Some id → id.0 < n
only_below n b run id h e = let p : run ≡ id = (cond_some b run id e).1 in let q : run.0 ≡ id.0 = ap (λ (z : TNodeId). z.0) p in omega arith

by_word_below : (n : ℕ) (sights : List Sight) (t : Typ) (cat : Cat) (word : Option ℕ) (chosen other id : TNodeId) → chosen.0 < n → other.0 < n
    → taken_by_word sights t cat word chosen other ≡ Some id → id.0 < n
by_word_below n sights t cat None chosen other id c o e = absurd cc
by_word_below n sights t cat (Some w) chosen other id c o e = one_or_other n (w == 0) _ _ id (only_below n _ other id o) (only_below n _ chosen id c) e

pub taken_below : (n : ℕ) (sights : List Sight) (kind : TKind) (t : Typ) (cat : Cat) (ids : List TNodeId) (id : TNodeId) → are_below n ids ≡ true
    → taken_seen sights kind t cat ids ≡ Some id → id.0 < n
taken_below n sights Conditional t cat (i ∷ j ∷ k ∷ []) id b e =
    let c = rest_below n i (j ∷ k ∷ []) b in
    by_word_below n sights t cat (word_seen (slice_get sights i.0)) j k id (first_below n j (k ∷ []) c) (first_below n k [] (rest_below n j (k ∷ []) c)) e
taken_below n sights Conditional t cat [] id b e = absurd cc
taken_below n sights Conditional t cat (i ∷ []) id b e = absurd cc
taken_below n sights Conditional t cat (i ∷ j ∷ []) id b e = absurd cc
taken_below n sights Conditional t cat (i ∷ j ∷ k ∷ l ∷ ids) id b e = absurd cc
taken_below n sights kind t cat ids id b e = absurd cc

-- The node itself

bare_is : (v : ℕ → Bool) (trees : List Tree) (sights : List Sight) (ids : List TNodeId) → AreSights v trees sights → are_below (length sights) ids ≡ true
    → all_bare sights ids ≡ are_bare v (all_folded v (trees_at trees ids))
bare_is v trees sights [] a b = refl
bare_is v trees sights (id ∷ ids) a b =
    ap (λ (z : Bool). z && all_bare sights ids) (bare_at v trees sights id a (first_below (length sights) id ids b))
    ∙ ap (λ (z : Bool). is_bare v (folded_at v trees id) && z) (bare_is v trees sights ids a (rest_below (length sights) id ids b))

none_is : (v : ℕ → Bool) (trees : List Tree) (ids : List TNodeId) → has_none ids ≡ is_none (all_folded v (trees_at trees ids))
none_is v trees [] = refl
none_is v trees (id ∷ ids) = refl

own_parts : (kind : TKind) (a b : Option ℕ) (x y : Bool) → a ≡ b → x ≡ y
    → ◌≡◌ {A = Sight} (record { kind = kind; word = a; bare = x }) (record { kind = kind; word = b; bare = y })
own_parts kind a b x y e g = rw (e, g) refl

guarded : (a b : Bool) (o : Option ℕ) (w : ℕ) → cond (a && b) o None ≡ Some w → a ≡ true
guarded true b o w e = refl
guarded false b o w e = absurd cc

own_is : (v : ℕ → Bool) (trees : List Tree) (sights : List Sight) (kind : TKind) (t : Typ) (cat : Cat) (at : At) (ids : List TNodeId) → AreSights v trees sights
    → are_below (length sights) ids ≡ true
    → own_sight v sights kind t ids ≡ sight_of v (node kind t cat at (all_folded v (trees_at trees ids)))
own_is v trees sights kind t cat at ids a b = own_parts kind _ _ _ _ (ap (λ (z : Bool). literal_word kind (is_integer t && z)) (none_is v trees ids))
    (ap (λ (z : Bool). is_bare_node v kind t && z) (bare_is v trees sights ids a b))

-- an integer alone has a value before the run
of_integer_is : (t : Typ) (cat : Cat) (o : Option ℕ) (w : ℕ) → of_integer t cat o ≡ Some w → is_integer t ≡ true
of_integer_is t cat o w e = guarded (is_integer t) (is_prvalue cat) o w e

pub constant_integer : (kind : TKind) (t : Typ) (cat : Cat) (kids : Trees) (w : ℕ) → constant kind t cat kids ≡ Some w → is_integer t ≡ true
constant_integer (Convert to) t cat kids w e = of_integer_is t cat _ w e
constant_integer (Binary op k) t cat kids w e = of_integer_is t cat _ w e
constant_integer Comma t cat kids w e = of_integer_is t cat _ w e
constant_integer kind t cat kids w e = absurd cc

literal_sight_is : (v : ℕ → Bool) (t : Typ) (at : At) (w : ℕ) → is_integer t ≡ true
    → word_or (Some w) (record { kind = Literal w; word = Some w; bare = true }) ≡ sight_of v (node (Literal w) t Prvalue at none)
literal_sight_is v t at w e = own_parts (Literal w) (Some w) (cond (is_integer t && true) (Some w) None) true true
    (sym (ap (λ (z : Bool). cond (z && true) (Some w) None) e)) refl

-- the trees of a node that has a value, of one whose kid is taken, and of one that stays
pub tree_with_word : (v : ℕ → Bool) (kind : TKind) (t : Typ) (cat : Cat) (at : At) (kids : Trees) (w : ℕ) → constant kind t cat kids ≡ Some w
    → folded_node v kind t cat at kids ≡ node (Literal w) t Prvalue at none
tree_with_word v kind t cat at kids w e = ap (λ (z : Option ℕ). literal_or z t at (unwrap_or (taken v kind t cat kids) (node kind t cat at kids))) e

pub tree_without : (v : ℕ → Bool) (kind : TKind) (t : Typ) (cat : Cat) (at : At) (kids : Trees) → constant kind t cat kids ≡ None
    → folded_node v kind t cat at kids ≡ unwrap_or (taken v kind t cat kids) (node kind t cat at kids)
tree_without v kind t cat at kids e = ap (λ (z : Option ℕ). literal_or z t at (unwrap_or (taken v kind t cat kids) (node kind t cat at kids))) e

by_word_sight : (v : ℕ → Bool) (sights : List Sight) (kind : TKind) (t : Typ) (cat : Cat) (at : At) (kids : Trees) (word : Option ℕ) (s : Sight)
    → constant kind t cat kids ≡ word
    → s ≡ sight_of v (unwrap_or (taken v kind t cat kids) (node kind t cat at kids)) → word_or word s ≡ sight_of v (folded_node v kind t cat at kids)
by_word_sight v sights kind t cat at kids None s e h = h ∙ ap (sight_of v) (sym (tree_without v kind t cat at kids e))
by_word_sight v sights kind t cat at kids (Some w) s e h = literal_sight_is v t at w (constant_integer kind t cat kids w e)
    ∙ ap (sight_of v) (sym (tree_with_word v kind t cat at kids w e))

by_kid_sight : (v : ℕ → Bool) (trees : List Tree) (sights : List Sight) (kid : Option TNodeId) (got : Option Tree) (own : Sight) (tree : Tree)
    → AreSights v trees sights
    → ((id : TNodeId) → kid ≡ Some id → id.0 < length sights) → option_map (folded_at v trees) kid ≡ got → own ≡ sight_of v tree
    → kid_or sights kid own ≡ sight_of v (unwrap_or got tree)
by_kid_sight v trees sights None got own tree a b e h = h ∙ ap (λ (z : Option Tree). sight_of v (unwrap_or z tree)) e
by_kid_sight v trees sights (Some id) got own tree a b e h = ap (λ (z : Option Sight). unwrap_or z own) (at_seen v trees sights id a (b id refl))
    ∙ ap (λ (z : Option Tree). sight_of v (unwrap_or z tree)) e

pub sight_is : (v : ℕ → Bool) (trees : List Tree) (sights : List Sight) (n : TNode) → AreSights v trees sights → are_below (length sights) n.kids.items ≡ true
    → sight_seen v sights n ≡ sight_of v (folded v (tree_of trees n))
sight_is v trees sights n a b =
    let ids = n.kids.items in let t = typ_of n.ty in
    let kids = all_folded v (trees_at trees ids) in
    by_word_sight v sights n.kind t n.cat n.at kids (constant_seen sights n.kind t n.cat ids) _ (sym (constant_is v trees sights n.kind t n.cat ids a b))
    (by_kid_sight v trees sights (taken_seen sights n.kind t n.cat ids) (taken v n.kind t n.cat kids) _ (node n.kind t n.cat n.at kids) a
    (λ id e. taken_below (length sights) sights n.kind t n.cat ids id b e) (taken_is v trees sights n.kind t n.cat ids a b)
    (own_is v trees sights n.kind t n.cat n.at ids a b))

-- Node by node

pub no_sights : (v : ℕ → Bool) (trees : List Tree) (sights : List Sight) → sights ≡ [] → AreSights v trees sights
no_sights v trees sights e = record { each = λ i s h. let g : slice_get [] i ≡ Some s = ap (λ (z : List Sight). slice_get z i) (sym e) ∙ h in absurd cc }

next_each : (v : ℕ → Bool) (trees : List Tree) (sights : List Sight) (next : Sight) (i : ℕ) → AreSights v trees sights → length sights ≡ i
    → next ≡ sight_of v (folded v (get_or trees i (literal 0)))
    → (j : ℕ) (s : Sight) → slice_get (sights ++ next ∷ []) j ≡ Some s → s ≡ sight_of v (folded v (get_or trees j (literal 0)))
next_each v trees sights next i a l n j s e =
    let new = sights ++ next ∷ [] in
    let within : j < length new = slice_get_within new j s e in
    let long : length new ≡ length sights + 1 = simp length-append (omega arith) in
    let got : get_or new j s ≡ s = get_or_from_slice_get new j s s e in
    elim (cases_lt j (length sights)) [
      | inl h ↦ a.each j s (slice_get-get_or sights j s h ∙ ap Some (sym (get_or_append_left sights (next ∷ []) s j h) ∙ got))
      | inr h ↦ let same : i ≡ j = omega arith in sym got ∙ get_or_push sights next s j (l ∙ same) ∙ n
          ∙ ap (λ (z : ℕ). sight_of v (folded v (get_or trees z (literal 0)))) same
    ]

pub next_sights : (v : ℕ → Bool) (nodes : List TNode) (sights new : List Sight) (next : Sight) (i : ℕ) (n : TNode) → IsOrdered nodes
    → AreSights v (trees_of nodes) sights → length sights ≡ i → i < length nodes
    → n ≡ get_or nodes i n → next ≡ sight_seen v sights n → new ≡ sights ++ next ∷ [] → AreSights v (trees_of nodes) new
next_sights v nodes sights new next i n o a l h g e w =
    let stands : slice_get nodes i ≡ Some n = slice_get_read nodes (length nodes) i n refl h g in
    let below : are_below (length sights) n.kids.items ≡ true = ap (λ (z : ℕ). are_below z n.kids.items) l ∙ o.lower i n stands in
    let id : TNodeId = record { 0 = i } in
    let shown : next ≡ sight_of v (folded v (get_or (trees_of nodes) i (literal 0))) = e ∙ sight_is v (trees_of nodes) sights n a below
    ∙ ap (λ (z : Tree). sight_of v (folded v z)) (sym (tree_of_node nodes id n o stands)) in
    record { each = λ j s f. next_each v (trees_of nodes) sights next i a l shown j s (ap (λ (z : List Sight). slice_get z j) (sym w) ∙ f) }

pub next_below : (nodes : List TNode) (sights : List Sight) (i : ℕ) (n : TNode) → IsOrdered nodes → length sights ≡ i → i < length nodes → n ≡ get_or nodes i n
    → are_below (length sights) n.kids.items ≡ true
next_below nodes sights i n o l h g = ap (λ (z : ℕ). are_below z n.kids.items) l ∙ o.lower i n (slice_get_read nodes (length nodes) i n refl h g)

pub next_many : (sights new : List Sight) (next : Sight) (i : ℕ) → length sights ≡ i → new ≡ sights ++ next ∷ [] → length new ≡ i + 1
next_many sights new next i l w = let long : length (sights ++ next ∷ []) ≡ length sights + 1 = simp length-append (omega arith) in ap length w ∙ (omega arith)
