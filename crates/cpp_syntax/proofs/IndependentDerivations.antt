-- Derivations that do not look at what was read before.
--
-- and_then_none r : and_then r no_read ≡ r        and_then_assoc r s t
-- free_long refl x r : LongestMatch p r a b k (and_then r got)     where x : LongestMatch p no_read a b k got and is_free p ≡ true
-- free_none refl x r : NoDerivation p r a                        where x : NoDerivation p no_read a
use Rattle.std.proofs.Common.{◌≡◌, ℕ, inl, inr, true, refl, sym as back, ◌∙◌, subst, ap, ap₂, List, Option, true≢false, append_assoc, append-nil}
use Rattle.std.proofs.lemmas.Bool.{and_parts}
use Rattle.cpp_ast.specs.Trees.{Trees, none, more}
use Rattle.cpp_syntax.specs.Source.{Source}
use Rattle.cpp_syntax.specs.Rules.{Lookahead, Rule, ◌·◌, many}
use Rattle.cpp_syntax.specs.Derivations.{Body, Read, join, no_read, and_then, Bodies, Derives, is_nothing, is_word, is_mark, is_mark_next, is_mark_name}
use Rattle.cpp_syntax.specs.Derivations.{is_both, is_left, is_right, is_last, is_more, is_form, is_node, is_wrap, is_kept_apart, is_in_tree, is_where}
use Rattle.cpp_syntax.specs.Derivations.{is_before, is_if, is_unless}
use Rattle.cpp_syntax.specs.Longest.{IsNoLonger, LongestMatch, NoDerivation, is_free}

-- What was read, one behind the other.

join_none : (ts : Trees) → join ts none ≡ ts
join_none none = refl
join_none (more t ts) = ap (λ (z : Trees). more t z) (join_none ts)

join_assoc : (ts us vs : Trees) → join (join ts us) vs ≡ join ts (join us vs)
join_assoc none us vs = refl
join_assoc (more t ts) us vs = ap (λ (z : Trees). more t z) (join_assoc ts us vs)

pub and_then_none : (r : Read) → and_then r no_read ≡ r
and_then_none r = ap₂ (λ (ts : Trees) (bs : List Body). let x : Read = record { trees = ts; bodies = bs } in x) (join_none r.trees) (append-nil r.bodies)

pub and_then_assoc : (r s t : Read) → and_then (and_then r s) t ≡ and_then r (and_then s t)
and_then_assoc r s t =
    ap₂ (λ (ts : Trees) (bs : List Body). let x : Read = record { trees = ts; bodies = bs } in x) (join_assoc r.trees s.trees t.trees)
    (append_assoc r.bodies s.bodies t.bodies)

-- what a text reads, whatever was read before
pub record Reading_ (lookahead : Lookahead → ℕ → Type 0) (bodies : Bodies) (source : Source) (p : Rule) (r : Read) (a b : ℕ) (k : Option ℕ)
    (s : Read) : Type 0 where
  pub got : Read
  pub behind : (other : Read) → Derives lookahead bodies source p other a b k (and_then other got)
  pub gained : s ≡ and_then r got

no_gain : {lookahead : Lookahead → ℕ → Type 0} {bodies : Bodies} {source : Source} {p : Rule} {r s : Read} {a b : ℕ} {k : Option ℕ}
    → ((other : Read) → Derives lookahead bodies source p other a b k other) → s ≡ r → Reading_ lookahead bodies source p r a b k s
no_gain {lookahead = lookahead} {bodies = bodies} {source = source} {p = p} {r = r} {s = s} {a = a} {b = b} {k = k} f e = record {
  got = no_read;
  behind = λ other. subst (λ (z : Read). Derives lookahead bodies source p other a b k z) (back (and_then_none other)) (f other);
  gained = e ∙ back (and_then_none r);
}

gain_more : (r : Read) {s t : Read} (g h : Read) → s ≡ and_then r g → t ≡ and_then s h → t ≡ and_then r (and_then g h)
gain_more r g h e f = f ∙ ap (λ (z : Read). and_then z h) e ∙ and_then_assoc r g h

pub free : {lookahead : Lookahead → ℕ → Type 0} {bodies : Bodies} {source : Source} {p : Rule} {r s : Read} {a b : ℕ} {k : Option ℕ}
    → is_free p ≡ true → Derives lookahead bodies source p r a b k s → Reading_ lookahead bodies source p r a b k s
free i (is_nothing e f g) = no_gain (λ other. is_nothing e f refl) g
free i (is_word t e f g) = no_gain (λ other. is_word t e f refl) g
free i (is_mark t e f g) = no_gain (λ other. is_mark t e f refl) g
free i (is_mark_next e f g) = no_gain (λ other. is_mark_next e f refl) g
free i (is_mark_name e f g) = absurd (true≢false (back i))
free {lookahead = lookahead} {bodies = bodies} {source = source} i (is_both {p = p} {q = q} {r = r} {a = a} {b = b} {j = j} x y e) =
    let h = and_parts (is_free p) (is_free q) i in
    let u = free h.0 x in
    let v = free h.1 y in
    record {
      got = and_then u.got v.got;
      behind =
          λ other. subst (λ (z : Read). Derives lookahead bodies source (p · q) other a b j z) (and_then_assoc other u.got v.got)
          (is_both (u.behind other) (v.behind (and_then other u.got)) e);
      gained = gain_more r u.got v.got u.gained v.gained;
    }
free i (is_left {p = p} {q = q} x) =
    let u = free (and_parts (is_free p) (is_free q) i).0 x in record { got = u.got; behind = λ other. is_left (u.behind other); gained = u.gained }
free i (is_right {p = p} {q = q} x) =
    let u = free (and_parts (is_free p) (is_free q) i).1 x in record { got = u.got; behind = λ other. is_right (u.behind other); gained = u.gained }
free i (is_last e f g) = no_gain (λ other. is_last e f refl) g
free {lookahead = lookahead} {bodies = bodies} {source = source} i (is_more {p = p} {r = r} {a = a} {b = b} {j = j} x y e) =
    let u = free i x in
    let v = free i y in
    record {
      got = and_then u.got v.got;
      behind =
          λ other. subst (λ (z : Read). Derives lookahead bodies source (many p) other a b j z) (and_then_assoc other u.got v.got)
          (is_more (u.behind other) (v.behind (and_then other u.got)) e);
      gained = gain_more r u.got v.got u.gained v.gained;
    }
free i (is_form {t = t} x e f) = record { got = t; behind = λ other. is_form x e refl; gained = f }
free i (is_node x e f) = record { got = _; behind = λ other. is_node x e refl; gained = f }
free i (is_wrap x e f) = absurd (true≢false (back i))
free i (is_kept_apart e x f o y c g h j) = record { got = _; behind = λ other. is_kept_apart e x f o y c g h refl; gained = j }
free i (is_in_tree e x y f g) = record { got = _; behind = λ other. is_in_tree e x y f refl; gained = g }
free i (is_where x e) = let u = free i x in record { got = u.got; behind = λ other. is_where (u.behind other) e; gained = u.gained }
free i (is_before x e) = let u = free i x in record { got = u.got; behind = λ other. is_before (u.behind other) e; gained = u.gained }
free i (is_if l x) = let u = free i x in record { got = u.got; behind = λ other. is_if l (u.behind other); gained = u.gained }
free i (is_unless l x) = let u = free i x in record { got = u.got; behind = λ other. is_unless l (u.behind other); gained = u.gained }

-- the longest text behind something is that behind nothing
pub free_long : {lookahead : Lookahead → ℕ → Type 0} {bodies : Bodies} {source : Source} {p : Rule} {a b : ℕ} {k : Option ℕ} {got : Read}
    → is_free p ≡ true → LongestMatch lookahead bodies source p no_read a b k got → (r : Read)
    → LongestMatch lookahead bodies source p r a b k (and_then r got)
free_long {lookahead = lookahead} {bodies = bodies} {source = source} {p = p} {a = a} {b = b} {k = k} {got = got} i x r = record {
  derives = let u = free i x.derives in subst (λ (z : Read). Derives lookahead bodies source p r a b k (and_then r z)) (back u.gained) (u.behind r);
  longest = only;
}
  where
    only : (c : ℕ) (l : Option ℕ) (o : Read) → Derives lookahead bodies source p r a c l o → IsNoLonger lookahead source p b k (and_then r got) c l o
    only c l o u = let v = free i u in elim (x.longest c l v.got (v.behind no_read)) [
      | inl h ↦ inl h
      | inr h ↦ inr (h.0, h.1, v.gained ∙ ap (λ (z : Read). and_then r z) h.2)
    ]

pub free_none : {lookahead : Lookahead → ℕ → Type 0} {bodies : Bodies} {source : Source} {p : Rule} {a : ℕ} → is_free p ≡ true
    → NoDerivation lookahead bodies source p no_read a → (r : Read) → NoDerivation lookahead bodies source p r a
free_none i x r b k t u = let v = free i u in x b k v.got (v.behind no_read)
