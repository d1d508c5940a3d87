-- Lists with commas, behind the last item of which a comma may stand.
--
-- Listed item: listed_begins i x, listed_more i c x, listed_ends c y     (i : AreItems item: are_initializers, are_enumerators)
-- open_listed i g c y z : LongestMatch (open_list item) ..       where z is the longest text of optional (word comma) behind the list
use Rattle.std.proofs.Common.{◌≡◌, ℕ, ◌+◌, ◌<◌, ◌⊎◌, inl, inr, Bool, true, false, ◌&&◌, ◌||◌, refl, sym as back, subst, arith, Option}
use Rattle.std.proofs.lemmas.Bool.{or_right, and_parts}
use Rattle.cpp_syntax.specs.declared.terminal.Terminal.{Terminal}
use Rattle.cpp_syntax.specs.Source.{Source, terminal_at}
use Rattle.cpp_syntax.specs.Terminals.{comma}
use Rattle.cpp_syntax.specs.Rules.{initializer, enumerator_definition, Lookahead, Rule, word, ◌·◌, many, form, optional}
use Rattle.cpp_syntax.specs.Grammar.{list}
use Rattle.cpp_syntax.specs.Derivations.{Read, first_or, Bodies, Derives, is_nothing, is_word, is_both, is_left, is_right, is_last, is_more}
use Rattle.cpp_syntax.specs.FirstSets.{rule_first_set, rule_nullable, rule_continuation_set, StartsRule, ContinuesRule}
use Rattle.cpp_syntax.specs.Longest.{LongestMatch, NoDerivation}
use Rattle.cpp_syntax.proofs.TerminalTables.{passes, at_each, implies, implied}
use Rattle.cpp_syntax.proofs.FirstTerminals.{ends_behind, not_empty, begins_so}
use Rattle.cpp_syntax.proofs.DisjointFirstSets.{apart, never_both}
use Rattle.cpp_syntax.proofs.LongestMatches.{seq_by, Ends, Chain, chain_begins, chain_more, chain_ends}

abbrev pub comma_and : Rule → Rule
comma_and item = word comma · item

-- A text of the list ends before a comma only where an item stands behind that comma.
pub record Listed (lookahead : Lookahead → ℕ → Type 0) (bodies : Bodies) (source : Source) (item : Rule) (before : Read) (a b : ℕ) (k : Option ℕ)
    (after : Read) : Type 0 where
  pub chain : Chain lookahead bodies source item (comma_and item) before a b k after
  pub commas : (c : ℕ) (l : Option ℕ) (other : Read) → Derives lookahead bodies source (list item) before a c l other → c < b
      → comma (terminal_at source c) ≡ true → (c + 1 < b) × StartsRule lookahead source item (c + 1)

-- no item goes on at a comma, none is empty
pub record AreItems (item : Rule) : Type 0 where
  pub apart_first : apart item (comma_and item) ≡ true
  pub apart_more : apart (comma_and item) (comma_and item) ≡ true
  pub apart_comma : apart item (word comma) ≡ true
  pub filled : rule_nullable item ≡ false

-- a text of some items with commas before them, if it is one, stands at a comma
many_comma : {lookahead : Lookahead → ℕ → Type 0} {bodies : Bodies} {source : Source} {item : Rule} {r s : Read} {a b : ℕ} {k : Option ℕ}
    → Derives lookahead bodies source (many (comma_and item)) r a b k s → (a ≡ b) ⊎ (comma (terminal_at source a) ≡ true)
many_comma (is_last e f g) = inl (back e)
many_comma (is_more (is_both (is_word t e f g) v h) y i) = inr t

comma_not_there : (lookahead : Lookahead → ℕ → Type 0) (source : Source) (item : Rule) (c : ℕ) → apart item (word comma) ≡ true
    → ContinuesRule lookahead source item c → comma (terminal_at source c) ≡ true → ⊥
comma_not_there lookahead source item c e g t = never_both lookahead source item (word comma) c e g (λ seen w. t)

first_comma : {lookahead : Lookahead → ℕ → Type 0} {bodies : Bodies} {source : Source} {item : Rule} {r s : Read} {a m : ℕ} {k : Option ℕ}
    → AreItems item → LongestMatch lookahead bodies source item r a m k s → (c : ℕ) (l : Option ℕ) (o : Read)
    → Derives lookahead bodies source (list item) r a c l o → c < m → comma (terminal_at source c) ≡ true → ⊥
first_comma {lookahead = lookahead} {source = source} {item = item} {m = m} i x c l o (is_both {s = s'} {m = m'} {k = k'} u v e) h t =
    elim (x.longest m' k' s' u) [
      | inl g ↦ elim (many_comma v) [
        | inl f ↦ comma_not_there lookahead source item c i.apart_comma (subst (λ (z : ℕ). ContinuesRule lookahead source item z) f g.1) t
        | inr f ↦ comma_not_there lookahead source item m' i.apart_comma g.1 f
      ]
      | inr g ↦ let n = ends_behind v in let f = g.0 in absurd (omega (arith, n, f, h))
    ]

pub listed_begins : {lookahead : Lookahead → ℕ → Type 0} {bodies : Bodies} {source : Source} {item : Rule} {r s : Read} {a m : ℕ} {k : Option ℕ}
    → AreItems item → LongestMatch lookahead bodies source item r a m k s → Listed lookahead bodies source item r a m k s
listed_begins i x = record { chain = chain_begins x i.apart_first; commas = λ c l o u h t. absurd (first_comma i x c l o u h t) }

on_item : (a b : Bool) → (a || b && false) ≡ true → a ≡ true
on_item true b e = refl
on_item false true e = e
on_item false false e = e

-- behind a comma, where the items end
next_comma : {lookahead : Lookahead → ℕ → Type 0} {bodies : Bodies} {source : Source} {item : Rule} {s t : Read} {m b : ℕ} {l : Option ℕ}
    → AreItems item → LongestMatch lookahead bodies source (comma_and item) s m b l t → (c : ℕ) (j : Option ℕ) (o : Read)
    → Derives lookahead bodies source (many (comma_and item)) s m c j o → c < b → comma (terminal_at source c) ≡ true → c ≡ m
next_comma i x c j o (is_last e f g) h t = e
next_comma {lookahead = lookahead} {source = source} {item = item} i x c j o (is_more {s = s'} {m = m'} {k = k'} u v e) h t = elim (x.longest m' k' s' u) [
  | inl g ↦ elim (many_comma v) [
    | inl f ↦ absurd (comma_not_there lookahead source item c i.apart_comma (subst (λ (z : ℕ). ContinuesRule lookahead source item z) f (item_on m' g.1)) t)
    | inr f ↦ absurd (comma_not_there lookahead source item m' i.apart_comma (item_on m' g.1) f)
  ]
  | inr g ↦ let n = ends_behind v in let f = g.0 in absurd (omega (arith, n, f, h))
]
  where
    item_on : (d : ℕ) → ContinuesRule lookahead source (comma_and item) d → ContinuesRule lookahead source item d
    item_on d g seen w = on_item (rule_continuation_set item seen (terminal_at source d)) (rule_nullable item) (g seen w)

-- what stands behind the comma
behind_comma : {lookahead : Lookahead → ℕ → Type 0} {bodies : Bodies} {source : Source} {item : Rule} {s t : Read} {m b : ℕ} {l : Option ℕ}
    → AreItems item → Derives lookahead bodies source (comma_and item) s m b l t → (m + 1 < b) × StartsRule lookahead source item (m + 1)
behind_comma {lookahead = lookahead} {source = source} {item = item} i (is_both {m = n} (is_word t e f g) v h) =
    let lt = not_empty v i.filled in (omega (arith, e, lt), subst (λ (z : ℕ). StartsRule lookahead source item z) e (begins_so v lt))

pub listed_more : {lookahead : Lookahead → ℕ → Type 0} {bodies : Bodies} {source : Source} {item : Rule} {r s t : Read} {a m b : ℕ} {k l : Option ℕ}
    → AreItems item → Listed lookahead bodies source item r a m k s → LongestMatch lookahead bodies source (comma_and item) s m b l t
    → Listed lookahead bodies source item r a b (first_or k l) t
listed_more {lookahead = lookahead} {bodies = bodies} {source = source} {item = item} {r = r} {s = s} {t = t} {a = a} {m = m} {b = b} {k = k} {l = l}
    i x y = record { chain = chain_more x.chain y refl i.apart_more; commas = only }
  where
    only : (c : ℕ) (j : Option ℕ) (o : Read) → Derives lookahead bodies source (list item) r a c j o → c < b → comma (terminal_at source c) ≡ true
        → (c + 1 < b) × StartsRule lookahead source item (c + 1)
    only c j o u h f = let w = behind_comma i y.derives in elim (x.chain.longest c j o u) [
      | inl g ↦ let v = x.commas c j o u g.0 f in let p = v.0 in let q = w.0 in (omega (arith, p, q), v.1)
      | inr g ↦ let e : c ≡ m = next_comma i y c g.0 o g.1 h f in subst (λ (z : ℕ). (z + 1 < b) × StartsRule lookahead source item (z + 1)) (back e) w
    ]

pub listed_ends : {lookahead : Lookahead → ℕ → Type 0} {bodies : Bodies} {source : Source} {item : Rule} {r s : Read} {a b : ℕ} {k : Option ℕ}
    → Listed lookahead bodies source item r a b k s → NoDerivation lookahead bodies source (comma_and item) s b
    → LongestMatch lookahead bodies source (list item) r a b k s
listed_ends x y = chain_ends x.chain y

abbrev pub open_list : Rule → Rule
open_list item = list item · optional (word comma)

-- what begins an item is what an open list goes on with
abbrev pub begins_goes : Rule → Bool
begins_goes item =
    passes (λ s. implies (rule_first_set item true s) (rule_continuation_set item true s)) && passes
    (λ s. implies (rule_first_set item false s) (rule_continuation_set item false s))

goes_at : (item : Rule) (seen : Bool) (s : Terminal) → begins_goes item ≡ true → rule_first_set item seen s ≡ true → rule_continuation_set item seen s ≡ true
goes_at item true s e f =
    implied (rule_first_set item true s) (rule_continuation_set item true s) (at_each
    (λ s. implies (rule_first_set item true s) (rule_continuation_set item true s)) (and_parts
    (passes (λ s. implies (rule_first_set item true s) (rule_continuation_set item true s)))
    (passes (λ s. implies (rule_first_set item false s) (rule_continuation_set item false s))) e).0 s) f
goes_at item false s e f =
    implied (rule_first_set item false s) (rule_continuation_set item false s) (at_each
    (λ s. implies (rule_first_set item false s) (rule_continuation_set item false s))
    (and_parts (passes (λ s. implies (rule_first_set item true s) (rule_continuation_set item true s)))
    (passes (λ s. implies (rule_first_set item false s) (rule_continuation_set item false s))) e).1 s) f

list_on : (item : Rule) (seen : Bool) (s : Terminal) → rule_continuation_set item seen s ≡ true → rule_continuation_set (open_list item) seen s ≡ true
list_on item seen s e =
    or_right (comma s || false) (rule_continuation_set (many (comma_and item)) seen s || rule_continuation_set item seen s)
    (or_right (rule_continuation_set (many (comma_and item)) seen s) (rule_continuation_set item seen s) e)

-- a list with or without a comma behind it
pub open_listed : {lookahead : Lookahead → ℕ → Type 0} {bodies : Bodies} {source : Source} {item : Rule} {r s t : Read} {a m b : ℕ} {k l : Option ℕ}
    → AreItems item → begins_goes item ≡ true → Listed lookahead bodies source item r a m k s
    → NoDerivation lookahead bodies source (comma_and item) s m → LongestMatch lookahead bodies source (optional (word comma)) s m b l t
    → LongestMatch lookahead bodies source (open_list item) r a b (first_or k l) t
open_listed {lookahead = lookahead} {bodies = bodies} {source = source} {item = item} {r = r} {s = s} {t = t} {a = a} {m = m} {b = b} {k = k} {l = l}
    i e x y z = seq_by (listed_ends x y) z ends
  where
    ends : Ends lookahead bodies source (list item) (optional (word comma)) r a m b
    ends c d j n u v w h g (is_left (is_word f o p q)) = let z' = x.commas c j u w h f in let lt = z'.0 in let n' = ends_behind z.derives in (
      omega (arith, o, lt, n'),
      λ seen y'. list_on item seen (terminal_at source d) (goes_at item seen (terminal_at source d) e
          (subst (λ (q' : ℕ). StartsRule lookahead source item q') (back o) z'.1 seen y')),
    )
    ends c d j n u v w h g (is_right (is_nothing o p q)) = let n' = ends_behind z.derives in (
      omega (arith, o, h, n'),
      λ seen y'. or_right (comma (terminal_at source d) || false)
          (rule_continuation_set (list item) seen (terminal_at source d)) (subst (λ (q' : ℕ). ContinuesRule lookahead source (list item) q')
          (back o) g seen y'),
    )

-- the items of lists in braces
pub are_initializers : AreItems (form initializer)
are_initializers = record { apart_first = refl; apart_more = refl; apart_comma = refl; filled = refl }

pub initializers_go : begins_goes (form initializer) ≡ true
initializers_go = refl

pub are_enumerators : AreItems (form enumerator_definition)
are_enumerators = record { apart_first = refl; apart_more = refl; apart_comma = refl; filled = refl }

pub enumerators_go : begins_goes (form enumerator_definition) ≡ true
enumerators_go = refl
