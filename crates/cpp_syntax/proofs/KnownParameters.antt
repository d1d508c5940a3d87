-- Tables of parameters, and what is known from them.
use Rattle.std.proofs.Common.{◌≡◌, ℕ, ◌+◌, ◌-◌, ◌<◌, ◌≤◌, ◌⊎◌, inl, inr, nat_lt, if◌then◌else◌, Bool, true, false, refl, sym as back, ◌∙◌, ap, subst, arith}
use Rattle.std.proofs.Common.{List, length, get_or, slice_set, Option, Some, None, is_some, true≢false}
use Rattle.std.proofs.lemmas.Bool.{cases_lt}
use Rattle.std.proofs.lemmas.List.{get_or_past, get_or-set_same, get_or-set_other, length-set}
use Rattle.cpp_syntax.specs.declared.terminal.Terminal.TheVariants as terminal
use Rattle.cpp_syntax.specs.Source.{Source, terminal_at}
use Rattle.cpp_syntax.specs.Terminals.{open_paren, close_paren}
use Rattle.cpp_syntax.specs.Balance.{partner_in}
use Rattle.cpp_syntax.specs.Rules.{parameters}
use Rattle.cpp_syntax.specs.Lookahead.{lookahead_types}
use Rattle.cpp_syntax.specs.Shapes.{ParametersAt, KnownAt, KnownFrom, OwnIndices, KnownBelow, ParametersPassed, BehindParameters}
use Rattle.cpp_syntax.proofs.WithinTokens.{token_inside}
use Rattle.cpp_syntax.proofs.ShapeDerivations.{parameters_seen}
use Rattle.cpp_syntax.proofs.Recognisers.{span_ahead}
use Rattle.cpp_syntax.proofs.DeclaratorShapes.{parameters_not_open}

pub passed_seen : (s : Source) (a : ℕ) (o : Option ℕ) → ParametersPassed s a o → is_some o ≡ true → lookahead_types s parameters a
passed_seen s a (Some n) x e = parameters_seen x.held
passed_seen s a None x e = absurd (true≢false (back e))

pub close_inside : {s : Source} {a b : ℕ} → ParametersAt s a b → b < length s.terminals
close_inside {s = s} {b = b} x = token_inside s b close_paren refl x.closed

self_less : (a : ℕ) → nat_lt a a ≡ false
self_less a = grind arith

less_so : (a b : ℕ) → a < b → nat_lt a b ≡ true
less_so a b h = grind (arith, h)

own_none : (t : List ℕ) (a : ℕ) → get_or t a 0 ≡ a → partner_in t a ≡ None
own_none t a e = ap (λ (g : ℕ). if nat_lt a g then Some g else None) e ∙ ap (λ (b : Bool). if b then Some a else None) (self_less a)

held_some : (t : List ℕ) (a b : ℕ) → get_or t a 0 ≡ b → a < b → partner_in t a ≡ Some b
held_some t a b e h = ap (λ (g : ℕ). if nat_lt a g then Some g else None) e ∙ ap (λ (c : Bool). if c then Some b else None) (less_so a b h)

same_partner : (t u : List ℕ) (a : ℕ) → get_or t a 0 ≡ get_or u a 0 → partner_in t a ≡ partner_in u a
same_partner t u a e = ap (λ (g : ℕ). if nat_lt a g then Some g else None) e

-- what is known of an index and behind it
known_here : (s : Source) (t : List ℕ) (a : ℕ) → KnownAt s a (partner_in t a) → KnownFrom s t (a + 1) → KnownFrom s t a
known_here s t a x y c h = elim (cases_lt a c) [
  | inl i ↦ y c (omega (arith, i))
  | inr i ↦ let e : a ≡ c = omega (arith, h, i) in subst (λ (z : ℕ). KnownAt s z (partner_in t z)) e x
]

pub known_none : (s : Source) (t : List ℕ) (a : ℕ) → a < length s.terminals → KnownBelow s t (a + 1) → (lookahead_types s parameters a → ⊥) → KnownBelow s t a
known_none s t a h x f =
    let size = x.size in
    record {
      size = x.size;
      own = λ c i j. x.own c (omega (arith, i)) j;
      known = known_here s t a (subst (λ (o : Option ℕ). KnownAt s a o) (back (own_none t a (x.own a (omega arith) (omega (arith, h, size))))) f) x.known;
    }

pub known_set : (s : Source) (t : List ℕ) (a b : ℕ) → a < length s.terminals → KnownBelow s t (a + 1) → ParametersAt s a b → KnownBelow s (slice_set t a b) a
known_set s t a b h x y =
    let size = x.size in
    let ahead = span_ahead y.spans in
    record {
      size = length-set t a b ∙ x.size;
      own = λ c i j. get_or-set_other t a c b 0 (λ e. omega (arith, e, i)) ∙ x.own c (omega (arith, i)) (subst (λ (n : ℕ). c < n) (length-set t a b) j);
      known = known_here s (slice_set t a b) a
          (subst (λ (o : Option ℕ). KnownAt s a o) (back (held_some (slice_set t a b) a b (get_or-set_same t a b 0 (omega (arith, h, size)))
          (omega (arith, ahead)))) y)
          (λ c i. subst (λ (o : Option ℕ). KnownAt s c o) (back (same_partner (slice_set t a b) t c
          (get_or-set_other t a c b 0 (λ e. omega (arith, e, i))))) (x.known c i));
    }

-- nothing stands behind the last token
pub known_at_end : (s : Source) (t : List ℕ) → OwnIndices t (length s.terminals) → KnownBelow s t (length s.terminals)
known_at_end s t x =
    let size = x.size in
    record {
      size = x.size;
      own = λ c i j. x.own c i;
      known =
          λ c h. subst (λ (o : Option ℕ). KnownAt s c o) (back (past t c (omega (arith, h, size))))
          (parameters_not_open (ap open_paren (get_or_past s.terminals c terminal.End h)));
    }
  where
    past : (t : List ℕ) (c : ℕ) → length t ≤ c → partner_in t c ≡ None
    past t c h = ap (λ (g : ℕ). if nat_lt c g then Some g else None) (get_or_past t c 0 h) ∙ ap (λ (b : Bool). if b then Some 0 else None) (none_below c)
      where
        none_below : (c : ℕ) → nat_lt c 0 ≡ false
        none_below c = grind arith
