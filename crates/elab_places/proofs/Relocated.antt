-- The initialiser that is kept for a member, with its places moved behind the frame at hand.
use Rattle.std.proofs.Common.{◌≡◌, refl, sym, ap, ◌∙◌, ℕ, zero, suc, ◌+◌, ◌-◌, ◌≤◌, ◌<◌, Bool, true, false, eqb, ltb, leb, ◌++◌, length}
use Rattle.std.proofs.Common.{length-append, arith, ltb-true, ltb-false, leb-true, leb-false, eqb-true, eq-eqb}
use Rattle.elab_rules.specs.cpp_types.declared.classes.At.{At}
use Rattle.elab_rules.specs.cpp_types.declared.ranks.Cat.TheVariants.{Prvalue}
use Rattle.elab_rules.specs.cpp_tree.declared.kinds.TKind.TheVariants as forms
use Rattle.elab_rules.specs.cpp_tree.Trees.{Tree, node, Trees, none, more}
use Rattle.elab_rules.specs.elab_ctx.Ctx.{Work, Default}
use Rattle.elab_rules.specs.Braces
use Rattle.elab_rules.specs.Braces.{ThisAt}
use Rattle.elab_places.specs.Bodies.{DefaultOwns}
use Rattle.elab_places.proofs.Counting.{Sought, one_if, place, declaring, at_place, room, held, all_held, Gives, same}
use Rattle.elab_places.proofs.Owned.{init_declares, handler_declares, from_plain, no_room, no_place, room_low, room_high, room_grows, room_most}
use Rattle.elab_places.proofs.OfExpressions.{owned_tree}

less : (n m : ℕ) → n ≤ m → 0 + n ≤ 0 + m
less n m h = omega arith

nought : (n : ℕ) → 0 + n ≡ 0 → n ≡ 0
nought n h = omega arith

-- what is counted in the moved tree is counted elsewhere in the tree itself
module _ (g f : Sought) (by : ℕ) (this : ThisAt) (bare : (at : At) → held g (this at) ≡ 0)
    (each : (q : ℕ) → at_place (place 0) q ≡ 0 → at_place g (Braces.moved_place by q) ≤ at_place f q) where
  mutual
    relocated : (e : Tree) → held (place 0) e ≡ 0 → held declaring e ≡ 0 → held g (Braces.relocated by this e) ≤ held f e
    relocated (node (forms.Load kind false) t Prvalue at (more (node (forms.Local zero) u cat p kids) none)) h i = omega (arith, bare at)
    relocated (node (forms.Materialize q argument) t cat at kids) h i = omega (arith, each q (omega arith), all_relocated kids (omega arith) (omega arith))
    relocated (node forms.Init t cat at kids) h i = absurd (init_declares kids (all_held declaring kids) i)
    relocated (node (forms.Handler o) t cat at kids) h i = absurd (handler_declares o kids (all_held declaring kids) i)
    relocated (node kind t cat at kids) h i = less (all_held g (Braces.all_relocated by this kids)) (all_held f kids)
        (all_relocated kids (nought (all_held (place 0) kids) h) (nought (all_held declaring kids) i))

    all_relocated : (ts : Trees) → all_held (place 0) ts ≡ 0 → all_held declaring ts ≡ 0 → all_held g (Braces.all_relocated by this ts) ≤ all_held f ts
    all_relocated none h i = same 0
    all_relocated (more t ts) h i = omega (arith, relocated t (omega arith) (omega arith), all_relocated ts (omega arith) (omega arith))

at_is : (p q : ℕ) → at_place (place p) q ≡ one_if (eqb q p)
unfolding at_place
at_is p q = refl

at_first : (q : ℕ) → at_place (place 0) q ≡ 0 → 0 < q
at_first q h = by (eqb q 0) refl
  where
    by : (b : Bool) → eqb q 0 ≡ b → 0 < q
    by true e = let i : at_place (place 0) q ≡ 1 = at_is 0 q ∙ ap one_if e in absurd (omega arith)
    by false e = nonzero (λ d. false_is (sym e ∙ eq-eqb q 0 d))
      where
        nonzero : (q ≡ 0 → ⊥) → 0 < q
        nonzero n = omega arith

        false_is : false ≡ true → ⊥
        false_is d = absurd cc

moved_there : (p by q : ℕ) → by ≤ p → at_place (place 0) q ≡ 0 → at_place (place p) (Braces.moved_place by q) ≤ at_place (place (p + 1 - by)) q
moved_there p by q l h = way (eqb (q + by - 1) p) refl
  where
    way : (b : Bool) → eqb (q + by - 1) p ≡ b → at_place (place p) (q + by - 1) ≤ at_place (place (p + 1 - by)) q
    way true e = let i : 0 < q = at_first q h in let d : q + by - 1 ≡ p = eqb-true (q + by - 1) p e in
        let r : at_place (place p) (q + by - 1) ≡ 1 = at_is p (q + by - 1) ∙ ap one_if e in
        let y : at_place (place (p + 1 - by)) q ≡ 1 = at_is (p + 1 - by) q ∙ ap one_if (eq-eqb q (p + 1 - by) (omega arith)) in
        omega arith
    way false e = let r : at_place (place p) (q + by - 1) ≡ 0 = at_is p (q + by - 1) ∙ ap one_if e in omega arith

moved_past : (p by q : ℕ) → p < by → at_place (place 0) q ≡ 0 → at_place (place p) (Braces.moved_place by q) ≤ at_place declaring q
moved_past p by q l h = way (eqb (q + by - 1) p) refl
  where
    way : (b : Bool) → eqb (q + by - 1) p ≡ b → at_place (place p) (q + by - 1) ≤ at_place declaring q
    way true e = let i : 0 < q = at_first q h in let d : q + by - 1 ≡ p = eqb-true (q + by - 1) p e in absurd (omega arith)
    way false e = let r : at_place (place p) (q + by - 1) ≡ 0 = at_is p (q + by - 1) ∙ ap one_if e in omega arith

never : (by q : ℕ) → at_place declaring (Braces.moved_place by q) ≤ at_place declaring q
never by q = let h = no_place (Braces.moved_place by q) in omega arith

-- the room for the items of its frame
room_there : (p by n : ℕ) → by ≤ p → room (place (p + 1 - by)) (suc n) ≤ room (place p) (by + n)
room_there p by n l = way (ltb p (by + n)) refl
  where
    way : (b : Bool) → ltb p (by + n) ≡ b → room (place (p + 1 - by)) (suc n) ≤ room (place p) (by + n)
    way true e = let r = room_low p (by + n) (ltb-true p (by + n) e) in let q = room_most (place (p + 1 - by)) (suc n) in omega arith
    way false e = let i : by + n ≤ p = ltb-false p (by + n) e in let r = room_high (p + 1 - by) (suc n) (omega arith) in omega arith

none_first : (d : Default) → DefaultOwns d → held (place 0) d.init ≡ 0
none_first d h = let i = owned_tree 1 (suc (length d.frame)) d.init h.owns 0 in let r = room_low 0 1 (omega arith) in
    let q = room_most (place 0) (suc (length d.frame)) in omega arith

counts : (by : ℕ) (this : ThisAt) (d : Default) → DefaultOwns d → (g : Sought) → ((at : At) → held g (this at) ≡ 0)
    → held g (Braces.relocated by this d.init) + room g by ≤ room g (by + length d.frame)
counts by this d h declaring bare =
    let i = relocated declaring declaring by this bare (λ q e. never by q) d.init (none_first d h) (from_plain d.init h.plain) in
    let r = from_plain d.init h.plain in let q = no_room by in omega arith
counts by this d h (place p) bare = way (leb by p) refl
  where
    way : (b : Bool) → leb by p ≡ b → held (place p) (Braces.relocated by this d.init) + room (place p) by ≤ room (place p) (by + length d.frame)
    way true e = let l : by ≤ p = leb-true by p e in
        let i = relocated (place p) (place (p + 1 - by)) by this bare (λ q z. moved_there p by q l z) d.init (none_first d h) (from_plain d.init h.plain) in
        let o = owned_tree 1 (suc (length d.frame)) d.init h.owns (p + 1 - by) in let r = room_there p by (length d.frame) l in
        let q = room_high p by l in omega arith
    way false e = let l : p < by = leb-false by p e in
        let i = relocated (place p) declaring by this bare (λ q z. moved_past p by q l z) d.init (none_first d h) (from_plain d.init h.plain) in
        let o = from_plain d.init h.plain in let r = room_grows p by (by + length d.frame) (omega arith) in omega arith

pub default_whole : (g : Sought) (w : Work) (this : ThisAt) (d : Default) → DefaultOwns d → ((at : At) → held g (this at) ≡ 0)
    → Gives g 0 w (Braces.default_whole w this d)
default_whole g w this d h bare = let e : length (w.frame ++ d.frame) ≡ length w.frame + length d.frame = length-append w.frame d.frame in
    let i = counts (length w.frame) this d h g bare in rw e (omega arith)

module _ (g : Sought) where
  as_part : (e : Tree) → held g (Braces.as_part e) ≤ held g e
  as_part (node forms.FullExpression t cat at (more e none)) = omega arith
  as_part (node kind t cat at ts) = same (held g (node kind t cat at ts))

  pub default_made : (w : Work) (this : ThisAt) (d : Default) → DefaultOwns d → ((at : At) → held g (this at) ≡ 0) → Gives g 0 w (Braces.default_made w this d)
  default_made w this d h bare = omega (arith, default_whole g w this d h bare, as_part (Braces.default_whole w this d).tree)

  mutual
    pub requalified : (q v : Bool) (e : Tree) → held g (Braces.requalified q v e) ≤ held g e
    requalified q v (node (forms.Store kind marked) t cat at kids) = same (0 + all_held g kids)
    requalified q v (node (forms.CopyScalar kind marked) t cat at kids) = same (0 + all_held g kids)
    requalified q v (node (forms.Construct k) t cat at kids) = same (0 + all_held g kids)
    requalified q v (node (forms.CopyConstruct k) t cat at kids) = same (0 + all_held g kids)
    requalified q v (node forms.CopyFrom t cat at (more source kids)) = omega (arith, all_requalified q v kids)
    requalified q v (node forms.Pieces t cat at kids) = omega (arith, all_requalified q v kids)
    requalified q v (node (forms.Piece offset) t cat at (more e destroys)) = omega (arith, requalified q v e)
    requalified q v (node (forms.Elements n stride) t cat at (more e destroys)) = omega (arith, requalified q v e)
    requalified q v (node kind t cat at kids) = same (held g (node kind t cat at kids))

    all_requalified : (q v : Bool) (ts : Trees) → all_held g (Braces.all_requalified q v ts) ≤ all_held g ts
    all_requalified q v none = same 0
    all_requalified q v (more t ts) = omega (arith, requalified q v t, all_requalified q v ts)
