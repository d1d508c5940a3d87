-- Brackets and those that close them: there is one at most, and the pairing of them token by token.
use Rattle.std.proofs.Common.{◌≡◌, ◌⊎◌, inl, inr, ◌↔◌, ℕ, zero, suc, ◌+◌, ◌<◌, ◌≤◌, nat_lt, nat_le, Bool, true, false, ◌||◌, if◌then◌else◌, List, [], ◌∷◌, ◌++◌}
use Rattle.std.proofs.Common.{length, drop, set, get_or, slice_index_or, Option, Some, None, refl, sym, ◌∙◌, subst, ap, arith, true≢false, length-append}
use Rattle.std.proofs.lemmas.Bool.{ltb-true, ltb-false, lt-ltb, cases_Bool}
use Rattle.std.proofs.lemmas.List.{get_or_append_left, get_or-set_other, get_or-set_same, length-set}
use Rattle.std.proofs.Math.Seq.{get_or-append_seam}
use Rattle.std.proofs.lemmas.Option.{none-some}
use Rattle.cpp_syntax.specs.declared.terminal.Terminal.{Terminal}
use Rattle.cpp_syntax.specs.declared.terminal.Terminal.TheVariants as terminal
use Rattle.cpp_syntax.specs.Terminals.{is_unbracketed}
use Rattle.cpp_syntax.specs.FirstSets.{opens}
use Rattle.cpp_syntax.specs.Balance.{terminal_in, closes, Balanced, is_empty, is_token, is_bracket, Partners, IsPartner, partner_in}
use Rattle.cpp_syntax.specs.Pairing.{first_or_index, AreOpen, StandsIn, IsKnown, Paired}
use Rattle.cpp_syntax.proofs.Balances.{goes_inside, pair, parens, brackets, braces, opening, opening_goes, closing_stops, unbracketed_goes, behind_start}
use Rattle.cpp_syntax.proofs.Balances.{shorter}

-- terminals

opens_bracket : (s : Terminal) → opens s ≡ true → is_unbracketed s ≡ false
opens_bracket terminal.OpenParen e = refl
opens_bracket terminal.OpenBracket e = refl
opens_bracket terminal.OpenBrace e = refl
opens_bracket _ e = cc

opens_goes : (s : Terminal) → opens s ≡ true → goes_inside s ≡ true
opens_goes terminal.OpenParen e = refl
opens_goes terminal.OpenBracket e = refl
opens_goes terminal.OpenBrace e = refl
opens_goes _ e = cc

closed_opens : (x y : Terminal) → closes x y ≡ true → opens x ≡ true
closed_opens x y e = elim (pair x y e) [
  | parens f g ↦ ap opens f
  | brackets f g ↦ ap opens f
  | braces f g ↦ ap opens f
]

neither_stops : (a b : Bool) → a ≡ false → b ≡ false → (a || b) ≡ false
neither_stops false false e f = refl
neither_stops true b e f = absurd (true≢false e)
neither_stops false true e f = absurd (true≢false f)

pub stops_by : (s : Terminal) → is_unbracketed s ≡ false → opens s ≡ false → goes_inside s ≡ false
stops_by s e f = neither_stops (is_unbracketed s) (opens s) e f

-- balanced tokens one behind the other

append : (xs : List Terminal) {a m b : ℕ} → Balanced xs a m → Balanced xs m b → Balanced xs a b
append xs {b = b} (is_empty e) y = subst (λ (k : ℕ). Balanced xs k b) e y
append xs (is_token t x) y = is_token t (append xs x y)
append xs (is_bracket x c z) y = is_bracket x c (append xs z y)

one_token : (xs : List Terminal) (a : ℕ) → is_unbracketed (terminal_in xs a) ≡ true → Balanced xs a (a + 1)
one_token xs a t = is_token t (is_empty refl)

one_pair : (xs : List Terminal) (a b : ℕ) → Balanced xs (a + 1) b → closes (terminal_in xs a) (terminal_in xs b) ≡ true → Balanced xs a (b + 1)
one_pair xs a b x c = is_bracket x c (is_empty refl)

-- a bracket is closed by one at most
pub one_partner : (xs : List Terminal) (a b c : ℕ) → Partners xs a b → Partners xs a c → b ≡ c
one_partner xs a b c p q = elim (shorter xs p.between (closing_stops (terminal_in xs a) (terminal_in xs b) p.closes) q.between) [
  | inl h ↦ absurd (true≢false (sym h.1 ∙ closing_stops (terminal_in xs a) (terminal_in xs c) q.closes))
  | inr h ↦ sym h
]

clash : (xs : List Terminal) (i j : ℕ) → i ≡ j → goes_inside (terminal_in xs i) ≡ false → goes_inside (terminal_in xs j) ≡ true → ⊥
clash xs i j e f g = true≢false (sym g ∙ sym (ap (λ (k : ℕ). goes_inside (terminal_in xs k)) e) ∙ f)

-- Where balanced tokens go on behind a bracket, it is closed.
through : (xs : List Terminal) {a b m : ℕ} → Balanced xs a b → goes_inside (terminal_in xs b) ≡ false → Balanced xs a m
    → opens (terminal_in xs m) ≡ true → (n : ℕ) × Partners xs m n
through xs {b = b} {m = m} (is_empty e) f (is_empty g) o = absurd (clash xs b m (e ∙ sym g) f (opens_goes (terminal_in xs m) o))
through xs {a = a} {b = b} (is_empty e) f (is_token t z) o = absurd (clash xs b a e f (unbracketed_goes (terminal_in xs a) t))
through xs {a = a} {b = b} (is_empty e) f (is_bracket {m = n} v d w) o = absurd (clash xs b a e f (opening_goes (terminal_in xs a) (terminal_in xs n) d))
through xs {a = a} {m = m} (is_token t y) f (is_empty g) o =
    absurd (true≢false (sym t ∙ ap (λ (k : ℕ). is_unbracketed (terminal_in xs k)) (sym g) ∙ opens_bracket (terminal_in xs m) o))
through xs (is_token t y) f (is_token u z) o = through xs y f z o
through xs {a = a} (is_token t y) f (is_bracket {m = n} v d w) o = absurd (true≢false (sym t ∙ opening (terminal_in xs a) (terminal_in xs n) d))
through xs {a = a} (is_bracket {m = n} y c z) f (is_empty g) o = (n, subst (λ (k : ℕ). Partners xs k n) (sym g) (record { closes = c; between = y }))
through xs {a = a} (is_bracket {m = n} y c z) f (is_token u w) o = absurd (true≢false (sym u ∙ opening (terminal_in xs a) (terminal_in xs n) c))
through xs {a = a} {m = m} (is_bracket {m = n} y c z) f (is_bracket {m = k} v d w) o =
    elim (shorter xs y (closing_stops (terminal_in xs a) (terminal_in xs n) c) v) [
      | inl h ↦ absurd (true≢false (sym h.1 ∙ closing_stops (terminal_in xs a) (terminal_in xs k) d))
      | inr h ↦ through xs z f (subst (λ (q : ℕ). Balanced xs (q + 1) m) h w) o
    ]

-- brackets that are open

open_on : (xs : List Terminal) (opened : List ℕ) (i j : ℕ) → AreOpen xs opened i → Balanced xs i j → AreOpen xs opened j
open_on xs [] i j c y = tt
open_on xs (s ∷ []) i j c y = (c.0, append xs c.1 y, tt)
open_on xs (s ∷ t ∷ opened) i j c y = (c.0, c.1, open_on xs (t ∷ opened) i j c.2 y)

open_one : (xs : List Terminal) (opened : List ℕ) (i : ℕ) → AreOpen xs opened i → opens (terminal_in xs i) ≡ true → AreOpen xs (opened ++ i ∷ []) (i + 1)
open_one xs [] i c o = (o, is_empty refl, tt)
open_one xs (s ∷ []) i c o = (c.0, c.1, (o, is_empty refl, tt))
open_one xs (s ∷ t ∷ opened) i c o = (c.0, c.1, open_one xs (t ∷ opened) i c.2 o)

record LastOpen (xs : List Terminal) (front : List ℕ) (s i : ℕ) : Type 0 where
  others : AreOpen xs front s
  opens_at : opens (terminal_in xs s) ≡ true
  between : Balanced xs (s + 1) i

last_open : (xs : List Terminal) (front : List ℕ) (s i : ℕ) → AreOpen xs (front ++ s ∷ []) i → LastOpen xs front s i
last_open xs [] s i c = record { others = tt; opens_at = c.0; between = c.1 }
last_open xs (t ∷ []) s i c = record { others = (c.0, c.1, tt); opens_at = (c.2).0; between = (c.2).1 }
last_open xs (t ∷ u ∷ front) s i c =
    let l = last_open xs (u ∷ front) s i c.2 in
    record { others = (c.0, c.1, l.others); opens_at = l.opens_at; between = l.between }

-- The last open bracket is not closed at an index.
abbrev pub IsLeft : List Terminal → List ℕ → ℕ → Type 0
IsLeft xs opened i = (front : List ℕ) (s : ℕ) → opened ≡ front ++ s ∷ [] → closes (terminal_in xs s) (terminal_in xs i) ≡ false

-- Then none of the open ones ever is, where the token does not go inside.
first_left : (xs : List Terminal) (s : ℕ) (opened : List ℕ) (i : ℕ) → AreOpen xs (s ∷ opened) i → goes_inside (terminal_in xs i) ≡ false
    → IsLeft xs (s ∷ opened) i → (b : ℕ) → Partners xs s b → ⊥
first_left xs s [] i c f left b q = elim (shorter xs c.1 f q.between) [
  | inl h ↦ true≢false (sym h.1 ∙ closing_stops (terminal_in xs s) (terminal_in xs b) q.closes)
  | inr h ↦ true≢false (sym q.closes ∙ ap (λ (k : ℕ). closes (terminal_in xs s) (terminal_in xs k)) h ∙ left [] s refl)
]
first_left xs s (t ∷ opened) i c f left b q =
    let n = through xs q.between (closing_stops (terminal_in xs s) (terminal_in xs b) q.closes) c.1 (c.2).0 in
    first_left xs t opened i c.2 f (λ front u e. left (s ∷ front) u (ap (λ (ys : List ℕ). s ∷ ys) e)) n.0 n.1

all_left : (xs : List Terminal) (opened : List ℕ) (i a : ℕ) → AreOpen xs opened i → goes_inside (terminal_in xs i) ≡ false → IsLeft xs opened i
    → StandsIn a opened → (b : ℕ) → Partners xs a b → ⊥
all_left xs [] i a c f left m b q = m
all_left xs (s ∷ opened) i a c f left (inl e) b q = first_left xs s opened i c f left b (subst (λ (k : ℕ). Partners xs k b) e q)
all_left xs (s ∷ []) i a c f left (inr m) b q = m
all_left xs (s ∷ t ∷ opened) i a c f left (inr m) b q =
    all_left xs (t ∷ opened) i a c.2 f (λ front u e. left (s ∷ front) u (ap (λ (ys : List ℕ). s ∷ ys) e)) m b q

-- what the table has

none_is : (xs : List Terminal) (a : ℕ) → ((b : ℕ) → Partners xs a b → ⊥) → IsPartner xs a None
none_is xs a h = λ b. (λ e. absurd (none-some b e), λ p. absurd (h b p))

some_is : (xs : List Terminal) (a b : ℕ) → Partners xs a b → IsPartner xs a (Some b)
some_is xs a b p = λ c. (λ e. subst (Partners xs a) (let same : b ≡ c = cc in same) p, λ q. ap Some (one_partner xs a b c p q))

own_none : (a : ℕ) → (if nat_lt a a then Some a else None) ≡ None
own_none a = grind (arith)

later_some : (a b : ℕ) → a < b → (if nat_lt a b then Some b else None) ≡ Some b
later_some a b h = ap (λ (t : Bool). if t then Some b else None) (lt-ltb a b h)

not_opening : (xs : List Terminal) (a : ℕ) → opens (terminal_in xs a) ≡ false → (b : ℕ) → Partners xs a b → ⊥
not_opening xs a o b p = true≢false (sym (closed_opens (terminal_in xs a) (terminal_in xs b) p.closes) ∙ o)

-- a number below the next one

below_or_at : (a at : ℕ) → a < at + 1 → (a < at) ⊎ (a ≡ at)
below_or_at a at h = elim (cases_Bool (nat_lt a at)) [
  | inl less ↦ inl (ltb-true a at less)
  | inr other ↦ inr (let more = ltb-false a at other in omega (arith, more, h))
]

data Apart (a s : ℕ) : Type 0 where
  equal : a ≡ s → Apart a s
  apart : (a ≡ s → ⊥) → Apart a s

compare : (a s : ℕ) → Apart a s
compare a s = elim (cases_Bool (nat_lt a s)) [
  | inl less ↦ apart (λ e. let l = ltb-true a s less in omega (arith, l, e))
  | inr other ↦ elim (cases_Bool (nat_lt s a)) [
    | inl less ↦ apart (λ e. let l = ltb-true s a less in omega (arith, l, e))
    | inr neither ↦ equal (let l = ltb-false a s other in let m = ltb-false s a neither in omega (arith, l, m))
  ]
]

-- indices in lists

stands_before : (a s : ℕ) (opened : List ℕ) → StandsIn a opened → StandsIn a (opened ++ s ∷ [])
stands_before a s [] m = absurd m
stands_before a s (t ∷ opened) (inl e) = inl e
stands_before a s (t ∷ opened) (inr m) = inr (stands_before a s opened m)

stands_last : (s : ℕ) (opened : List ℕ) → StandsIn s (opened ++ s ∷ [])
stands_last s [] = inl refl
stands_last s (t ∷ opened) = inr (stands_last s opened)

stands_split : (a s : ℕ) (opened : List ℕ) → StandsIn a (opened ++ s ∷ []) → StandsIn a opened ⊎ (a ≡ s)
stands_split a s [] (inl e) = inr e
stands_split a s [] (inr m) = inl m
stands_split a s (t ∷ opened) (inl e) = inl (inl e)
stands_split a s (t ∷ opened) (inr m) = elim (stands_split a s opened m) [
  | inl n ↦ inl (inr n)
  | inr e ↦ inr e
]

-- steps

known_value : (xs : List Terminal) (opened : List ℕ) (a v w : ℕ) → v ≡ w → IsKnown xs opened a w → IsKnown xs opened a v
known_value xs opened a v w e k = subst (IsKnown xs opened a) (sym e) k

known_in : (xs : List Terminal) (opened more : List ℕ) (a v : ℕ) → (StandsIn a opened → StandsIn a more) → IsKnown xs opened a v → IsKnown xs more a v
known_in xs opened more a v h (inl k) = inl (h k.0, k.1)
known_in xs opened more a v h (inr k) = inr k

at_end : (partners now : List ℕ) (at : ℕ) → now ≡ partners ++ at ∷ [] → length partners ≡ at → get_or now at 0 ≡ at
at_end partners now at e long =
    ap (λ (ps : List ℕ). get_or ps at 0) e ∙ ap (λ (k : ℕ). get_or (partners ++ at ∷ []) k 0) (sym long) ∙ get_or-append_seam partners at [] 0

before_end : (partners now : List ℕ) (at a : ℕ) → now ≡ partners ++ at ∷ [] → length partners ≡ at → a < at → get_or now a 0 ≡ get_or partners a 0
before_end partners now at a e long less = ap (λ (ps : List ℕ). get_or ps a 0) e ∙ get_or_append_left partners (at ∷ []) 0 a (omega (arith, long, less))

one_longer : (partners now : List ℕ) (at : ℕ) → now ≡ partners ++ at ∷ [] → length partners ≡ at → length now ≡ at + 1
one_longer partners now at e long = ap (λ (ps : List ℕ). length ps) e ∙ length-append partners (at ∷ []) ∙ ap (λ (k : ℕ). k + 1) long

none_known : (xs : List Terminal) (opened : List ℕ) (a : ℕ) → ((b : ℕ) → Partners xs a b → ⊥) → IsKnown xs opened a a
none_known xs opened a h = inr (subst (IsPartner xs a) (sym (own_none a)) (none_is xs a h))

pub opened_one : (xs : List Terminal) (partners opened partners' opened' : List ℕ) (at : ℕ) → Paired xs partners opened at at
    → opens (terminal_in xs at) ≡ true → opened' ≡ opened ++ at ∷ [] → partners' ≡ partners ++ at ∷ [] → Paired xs partners' opened' (at + 1) (at + 1)
opened_one xs partners opened partners' opened' at p o push put = record {
  long = one_longer partners partners' at put p.long;
  chain = subst (λ (ys : List ℕ). AreOpen xs ys (at + 1)) (sym push) (open_one xs opened at p.chain o);
  each = λ a less. elim (below_or_at a at less) [
    | inl h ↦ known_value xs opened' a (get_or partners' a 0) (get_or partners a 0) (before_end partners partners' at a put p.long h)
        (known_in xs opened opened' a (get_or partners a 0) (λ m. subst (StandsIn a) (sym push) (stands_before a at opened m)) (p.each a h))
    | inr e ↦ subst (λ (k : ℕ). IsKnown xs opened' k (get_or partners' k 0)) (sym e) (inl
        (subst (StandsIn at) (sym push) (stands_last at opened), at_end partners partners' at put p.long))
  ];
}

pub passed_one : (xs : List Terminal) (partners opened : List ℕ) (at : ℕ) → Paired xs partners opened at at
    → is_unbracketed (terminal_in xs at) ≡ true → Paired xs partners opened at (at + 1)
passed_one xs partners opened at p u = record {
  long = p.long;
  chain = open_on xs opened at (at + 1) p.chain (one_token xs at u);
  each = p.each;
}

pub kept_one : (xs : List Terminal) (partners opened partners' : List ℕ) (at : ℕ) → Paired xs partners opened at (at + 1)
    → opens (terminal_in xs at) ≡ false → partners' ≡ partners ++ at ∷ [] → Paired xs partners' opened (at + 1) (at + 1)
kept_one xs partners opened partners' at p o put = record {
  long = one_longer partners partners' at put p.long;
  chain = p.chain;
  each = λ a less. elim (below_or_at a at less) [
    | inl h ↦ known_value xs opened a (get_or partners' a 0) (get_or partners a 0) (before_end partners partners' at a put p.long h) (p.each a h)
    | inr e ↦ subst (λ (k : ℕ). IsKnown xs opened k (get_or partners' k 0)) (sym e) (known_value xs opened at (get_or partners' at 0) at
        (at_end partners partners' at put p.long) (none_known xs opened at (not_opening xs at o)))
  ];
}

known_but : (xs : List Terminal) (opened front : List ℕ) (s a v : ℕ) → opened ≡ front ++ s ∷ [] → (a ≡ s → ⊥) → IsKnown xs opened a v → IsKnown xs front a v
known_but xs opened front s a v pop other (inl k) = elim (stands_split a s front (subst (StandsIn a) pop k.0)) [
  | inl m ↦ inl (m, k.1)
  | inr e ↦ absurd (other e)
]
known_but xs opened front s a v pop other (inr k) = inr k

pub closed_one : (xs : List Terminal) (partners opened partners' opened' : List ℕ) (s at : ℕ) → Paired xs partners opened at at
    → opened ≡ opened' ++ s ∷ [] → closes (terminal_in xs s) (terminal_in xs at) ≡ true → partners' ≡ set partners s at → s < at
    → Paired xs partners' opened' at (at + 1)
closed_one xs partners opened partners' opened' s at p pop c put less =
    let l = last_open xs opened' s at (subst (λ (ys : List ℕ). AreOpen xs ys at) pop p.chain) in
    let pair_is : Partners xs s at = record { closes = c; between = l.between } in
    record {
      long = ap (λ (ps : List ℕ). length ps) put ∙ length-set partners s at ∙ p.long;
      chain = open_on xs opened' s (at + 1) l.others (one_pair xs s at l.between c);
      each = λ a h. elim (compare a s) [
        | equal e ↦ subst (λ (k : ℕ). IsKnown xs opened' k (get_or partners' k 0)) (sym e)
            (known_value xs opened' s (get_or partners' s 0) at (ap (λ (ps : List ℕ). get_or ps s 0) put ∙ get_or-set_same partners s at 0
            (let long = p.long in omega (arith, less, long))) (inr (subst (IsPartner xs s) (sym (later_some s at less)) (some_is xs s at pair_is))))
        | apart other ↦ known_value xs opened' a (get_or partners' a 0) (get_or partners a 0)
            (ap (λ (ps : List ℕ). get_or ps a 0) put ∙ get_or-set_other partners s a at 0 other)
            (known_but xs opened opened' s a (get_or partners a 0) pop other (p.each a h))
      ];
    }

known_left : (xs : List Terminal) (opened : List ℕ) (i a v : ℕ) → AreOpen xs opened i → goes_inside (terminal_in xs i) ≡ false → IsLeft xs opened i
    → IsKnown xs opened a v → IsPartner xs a (if nat_lt a v then Some v else None)
known_left xs opened i a v c stops left (inl k) =
    subst (λ (w : ℕ). IsPartner xs a (if nat_lt a w then Some w else None)) (sym k.1)
    (subst (IsPartner xs a) (sym (own_none a)) (none_is xs a (all_left xs opened i a c stops left k.0)))
known_left xs opened i a v c stops left (inr k) = k

pub left_all : (xs : List Terminal) (partners opened : List ℕ) (at : ℕ) → Paired xs partners opened at at → goes_inside (terminal_in xs at) ≡ false
    → IsLeft xs opened at → Paired xs partners [] at (at + 1)
left_all xs partners opened at p stops left = record {
  long = p.long;
  chain = tt;
  each = λ a h. inr (known_left xs opened at a (get_or partners a 0) p.chain stops left (p.each a h));
}

pub begun : (xs : List Terminal) → Paired xs [] [] 0 0
begun xs = record { long = refl; chain = tt; each = λ a h. absurd (omega (arith, h)) }

past_end : (xs : List Terminal) (a : ℕ) → length xs ≤ a → terminal_in xs a ≡ terminal.End
past_end [] a h = refl
past_end (x ∷ xs) zero h = absurd (omega (arith, h))
past_end (x ∷ xs) (suc a) h = past_end xs a (omega (arith, h))

none_past : (ns : List ℕ) (a : ℕ) → length ns ≤ a → get_or ns a 0 ≡ 0
none_past [] a h = refl
none_past (n ∷ ns) zero h = absurd (omega (arith, h))
none_past (n ∷ ns) (suc a) h = none_past ns a (omega (arith, h))

zero_none : (a v : ℕ) → v ≡ 0 → (if nat_lt a v then Some v else None) ≡ None
zero_none a v e = grind (arith, e)

end_closes : (x : Terminal) → closes x terminal.End ≡ false
end_closes terminal.OpenParen = refl
end_closes terminal.OpenBracket = refl
end_closes terminal.OpenBrace = refl
end_closes _ = cc

-- behind the last token all are known
pub all_paired : (xs : List Terminal) (partners opened : List ℕ) (n : ℕ) → Paired xs partners opened n n → n ≡ length xs → (a : ℕ)
    → IsPartner xs a (partner_in partners a)
all_paired xs partners opened n p whole a =
    let ends : terminal_in xs n ≡ terminal.End = past_end xs n (omega (arith, whole)) in
    elim (cases_Bool (nat_lt a n)) [
      | inl less ↦ known_left xs opened n a (get_or partners a 0) p.chain (ap goes_inside ends)
          (λ front s e. ap (closes (terminal_in xs s)) ends ∙ end_closes (terminal_in xs s)) (p.each a (ltb-true a n less))
      | inr other ↦
          let behind : n ≤ a = ltb-false a n other in
          let nothing : get_or partners a 0 ≡ 0 = none_past partners a (let long = p.long in omega (arith, long, behind)) in
          let last : terminal_in xs a ≡ terminal.End = past_end xs a (omega (arith, whole, behind)) in
          subst (IsPartner xs a) (sym (zero_none a (get_or partners a 0) nothing)) (none_is xs a (not_opening xs a (ap opens last)))
    ]

-- the last open bracket

pub last_before : (xs : List Terminal) (partners opened front : List ℕ) (s at : ℕ) → Paired xs partners opened at at → opened ≡ front ++ s ∷ [] → s < at
last_before xs partners opened front s at p pop =
    let l = last_open xs front s at (subst (λ (ys : List ℕ). AreOpen xs ys at) pop p.chain) in
    let low = behind_start l.between in
    omega (arith, low)

same_last : (front : List ℕ) (s : ℕ) (others : List ℕ) (t : ℕ) → front ++ s ∷ [] ≡ others ++ t ∷ [] → s ≡ t
same_last [] s [] t e = ap (λ (ys : List ℕ). get_or ys 0 0) e
same_last [] s (u ∷ others) t e = absurd (let long = ap (λ (ys : List ℕ). length ys) e in let more = length-append others (t ∷ []) in omega (arith, long, more))
same_last (u ∷ front) s [] t e = absurd (let long = ap (λ (ys : List ℕ). length ys) e in let more = length-append front (s ∷ []) in omega (arith, long, more))
same_last (u ∷ front) s (v ∷ others) t e = same_last front s others t (ap (drop 1) e)

pub left_last : (xs : List Terminal) (opened front : List ℕ) (s at : ℕ) → opened ≡ front ++ s ∷ []
    → closes (terminal_in xs s) (terminal_in xs at) ≡ false → IsLeft xs opened at
left_last xs opened front s at pop other others t e =
    subst (λ (k : ℕ). closes (terminal_in xs k) (terminal_in xs at) ≡ false) (same_last front s others t (sym pop ∙ e)) other
