-- What is walked is what is reached.
use Rattle.std.proofs.Common.{Bool, true, false, ◌≡◌, ◌⊎◌, inl, inr, ℕ, List, [], ◌∷◌, ◌++◌, Option, Some, None, refl, sym, ap, ◌∙◌, subst}
use Rattle.std.specs.Prelude.{nat_eq, ◌&&◌, slice_get, if◌then◌else◌}
use Rattle.std.proofs.lemmas.Bool.{false≢true, eqb-true, eq-eqb}
use Rattle.tx_events.specs.declared.BlockKind.{BlockKind}
use Rattle.tx_events.specs.declared.BlockKind.TheVariants.{NoExcept, Commit, Cancel}
use Rattle.tx_events.specs.Thread.{Open, Atomic, Sync, same_kind}
use Rattle.tx_code.specs.declared.instr.Instr.{Instr}
use Rattle.tx_code.specs.declared.body.Row.{Row}
use Rattle.tx_code.specs.Objects.{BodyView}
use Rattle.tx_code.specs.Meaning.{covers}
use Rattle.tx_code.specs.Shapes.{Hand, Empty, Builds, Flies, Shape, Table, outgoing, targets, landed, Among, here, there, Reaches, enters, falls, lands}
use Rattle.tx_code.specs.Sound.{Signature, entry}
use Rattle.tx_code.proofs.ReachedIndexes.{and_left, and_right}
use Rattle.code_walk.specs.Walk.{Given, given, Tests, Has, at_first, goes_on}
use Rattle.code_walk.specs.Bodies.{same_open, same_opens, same_hand, same_shape, falls_to, lands_in, given_on, given_by, space}

-- ---- the test of shapes

kind_yes : (k j : BlockKind) → same_kind k j ≡ true → k ≡ j
kind_yes NoExcept NoExcept h = refl
kind_yes NoExcept Commit h = absurd (false≢true h)
kind_yes NoExcept Cancel h = absurd (false≢true h)
kind_yes Commit NoExcept h = absurd (false≢true h)
kind_yes Commit Commit h = refl
kind_yes Commit Cancel h = absurd (false≢true h)
kind_yes Cancel NoExcept h = absurd (false≢true h)
kind_yes Cancel Commit h = absurd (false≢true h)
kind_yes Cancel Cancel h = refl

kind_itself : (k : BlockKind) → same_kind k k ≡ true
kind_itself NoExcept = refl
kind_itself Commit = refl
kind_itself Cancel = refl

open_yes : (o p : Open) → same_open o p ≡ true → o ≡ p
open_yes (Atomic k) (Atomic j) h = ap Atomic (kind_yes k j h)
open_yes (Atomic k) Sync h = absurd (false≢true h)
open_yes Sync (Atomic k) h = absurd (false≢true h)
open_yes Sync Sync h = refl

open_itself : (o : Open) → same_open o o ≡ true
open_itself (Atomic k) = kind_itself k
open_itself Sync = refl

opens_yes : (os ps : List Open) → same_opens os ps ≡ true → os ≡ ps
opens_yes [] [] h = refl
opens_yes [] (p ∷ ps) h = absurd (false≢true h)
opens_yes (o ∷ os) [] h = absurd (false≢true h)
opens_yes (o ∷ os) (p ∷ ps) h = ap (λ z. z ∷ os) (open_yes o p (and_left (same_open o p) (same_opens os ps) h))
    ∙ ap (λ z. p ∷ z) (opens_yes os ps (and_right (same_open o p) (same_opens os ps) h))

both : (b c : Bool) → b ≡ true → c ≡ true → (b && c) ≡ true
both b c h k = ap (λ z. z && c) h ∙ k

pub opens_itself : (os : List Open) → same_opens os os ≡ true
opens_itself [] = refl
opens_itself (o ∷ os) = both (same_open o o) (same_opens os os) (open_itself o) (opens_itself os)

hand_yes : (h k : Hand) → same_hand h k ≡ true → h ≡ k
hand_yes Empty Empty e = refl
hand_yes Empty Builds e = absurd (false≢true e)
hand_yes Empty Flies e = absurd (false≢true e)
hand_yes Builds Empty e = absurd (false≢true e)
hand_yes Builds Builds e = refl
hand_yes Builds Flies e = absurd (false≢true e)
hand_yes Flies Empty e = absurd (false≢true e)
hand_yes Flies Builds e = absurd (false≢true e)
hand_yes Flies Flies e = refl

hand_itself : (h : Hand) → same_hand h h ≡ true
hand_itself Empty = refl
hand_itself Builds = refl
hand_itself Flies = refl

alike : (d e : ℕ) (o p : List Open) (n m : ℕ) (h k : Hand) → d ≡ e → o ≡ p → n ≡ m → h ≡ k
    → Path Shape (record { depth = d; opens = o; handlers = n; hand = h }) (record { depth = e; opens = p; handlers = m; hand = k })
alike d e o p n m h k a b c f = cc (a, b, c, f)

pub shape_yes : (s t : Shape) → same_shape s t ≡ true → s ≡ t
shape_yes s t h =
    let front = and_left (nat_eq s.depth t.depth && same_opens s.opens t.opens && nat_eq s.handlers t.handlers) (same_hand s.hand t.hand) h in
    let two = and_left (nat_eq s.depth t.depth && same_opens s.opens t.opens) (nat_eq s.handlers t.handlers) front in
    alike s.depth t.depth s.opens t.opens s.handlers t.handlers s.hand t.hand
    (eqb-true s.depth t.depth (and_left (nat_eq s.depth t.depth) (same_opens s.opens t.opens) two))
    (opens_yes s.opens t.opens (and_right (nat_eq s.depth t.depth) (same_opens s.opens t.opens) two))
    (eqb-true s.handlers t.handlers (and_right (nat_eq s.depth t.depth && same_opens s.opens t.opens) (nat_eq s.handlers t.handlers) front))
    (hand_yes s.hand t.hand (and_right (nat_eq s.depth t.depth && same_opens s.opens t.opens && nat_eq s.handlers t.handlers) (same_hand s.hand t.hand) h))

pub shape_itself : (s : Shape) → same_shape s s ≡ true
shape_itself s = both _ _ (both _ _ (both _ _ (eq-eqb s.depth s.depth refl) (opens_itself s.opens)) (eq-eqb s.handlers s.handlers refl)) (hand_itself s.hand)

pub tests : (x : Table) (g : Signature) (b : BodyView) → Tests (space x g b)
tests x g b = record { yes = shape_yes; itself = shape_itself }

-- ---- lists of what is given

among_front : {A : Type 0} {a : A} {ys : List A} → Among a ys → (h : A) (xs : List A) → ys ≡ h ∷ xs → (a ≡ h) ⊎ Among a xs
among_front here h xs e = inl (cc)
among_front {a = a} (there m) h xs e = inr (subst (Among a) (cc) m)

nowhere : {A P : Type 0} {a : A} → Among a [] → P
nowhere m = elim m [ ]

falls_from : (js : List ℕ) (u : Shape) (g : Given Shape) → Among g (falls_to js u) → Among g.at js × (g.shape ≡ u)
falls_from [] u g m = nowhere m
falls_from (j ∷ js) u g m = by_front (among_front m (given j u) (falls_to js u) refl) (λ n. falls_from js u g n) where
  by_front : (g ≡ given j u) ⊎ Among g (falls_to js u) → (Among g (falls_to js u) → Among g.at js × (g.shape ≡ u)) → Among g.at (j ∷ js) × (g.shape ≡ u)
  by_front (inl e) k = (subst (λ z. Among z (j ∷ js)) (sym (ap (λ z. z.at) e)) here, ap (λ z. z.shape) e)
  by_front (inr n) k = let r = k n in (there r.0, r.1)

-- a row that lands there
pub record Landing (rows : List Row) (i : ℕ) (s : Shape) (g : Given Shape) : Type 0 where
  pub row : Row
  pub among : Among row rows
  pub over : covers row i ≡ true
  pub at : g.at ≡ row.target
  pub shape : g.shape ≡ landed row.what row.depth s.opens s.handlers

later : (r : Row) (rs : List Row) (i : ℕ) (s : Shape) (g : Given Shape) → Landing rs i s g → Landing (r ∷ rs) i s g
later r rs i s g l = record { row = l.row; among = there l.among; over = l.over; at = l.at; shape = l.shape }

lands_from : (rows : List Row) (i : ℕ) (s : Shape) (g : Given Shape) → Among g (lands_in rows i s) → Landing rows i s g
lands_from [] i s g m = nowhere m
lands_from (r ∷ rs) i s g m = by_test (covers r i) refl m (λ n. lands_from rs i s g n) where
  landing : Given Shape
  landing = given r.target (landed r.what r.depth s.opens s.handlers)

  by_front : covers r i ≡ true → (g ≡ given r.target (landed r.what r.depth s.opens s.handlers)) ⊎ Among g (lands_in rs i s)
      → (Among g (lands_in rs i s) → Landing rs i s g) → Landing (r ∷ rs) i s g
  by_front c (inl e) k = record { row = r; among = here; over = c; at = ap (λ z. z.at) e; shape = ap (λ z. z.shape) e }
  by_front c (inr n) k = later r rs i s g (k n)

  by_test : (t : Bool) → covers r i ≡ t → Among g (if t then given r.target (landed r.what r.depth s.opens s.handlers) ∷ lands_in rs i s else lands_in rs i s)
      → (Among g (lands_in rs i s) → Landing rs i s g) → Landing (r ∷ rs) i s g
  by_test true c m k = by_front c (among_front m (given r.target (landed r.what r.depth s.opens s.handlers)) (lands_in rs i s) refl) k
  by_test false c m k = later r rs i s g (k m)

among_both : {A : Type 0} (xs ys : List A) (a : A) → Among a (xs ++ ys) → Among a xs ⊎ Among a ys
among_both [] ys a m = inr m
among_both (x ∷ xs) ys a m = by_front (among_front m x (xs ++ ys) refl) (λ n. among_both xs ys a n) where
  by_front : (a ≡ x) ⊎ Among a (xs ++ ys) → (Among a (xs ++ ys) → Among a xs ⊎ Among a ys) → Among a (x ∷ xs) ⊎ Among a ys
  by_front (inl e) k = inl (subst (λ z. Among z (x ∷ xs)) (sym e) here)
  by_front (inr n) k = elim (k n) [ inl l ↦ inl (there l) | inr r ↦ inr r ]

-- ---- what is walked is reached

module _ (x : Table) (g : Signature) (b : BodyView) where
  abbrev Comes : ℕ → Shape → Type 0
  Comes i s = Reaches x g.gives b (entry g) i s

  one_move : (i : ℕ) (s : Shape) → Comes i s → (o : Option Instr) → slice_get b.code i ≡ o → (t : Given Shape) → Among t (given_by x g.gives b.rows o i s)
      → Comes t.at t.shape
  one_move i s r None e t m = nowhere m
  one_move i s r (Some a) e t m = by_shape (outgoing x g.gives a s) refl m where
    by_part : (u : Shape) → outgoing x g.gives a s ≡ Some u → Among t (falls_to (targets a i) u) ⊎ Among t (lands_in b.rows i s) → Comes t.at t.shape
    by_part u h (inl f) =
        let p = falls_from (targets a i) u t f in
        subst (λ z. Comes t.at z) (sym p.1) (falls r (record { instr = a; is = e; next = u; makes = h }) p.0)
    by_part u h (inr f) =
        let l = lands_from b.rows i s t f in
        subst (λ z. Comes z t.shape) (sym l.at) (subst (λ z. Comes l.row.target z) (sym l.shape)
        (lands r (record { instr = a; is = e; next = u; makes = h }) l.row l.among l.over))

    by_shape : (o : Option Shape) → outgoing x g.gives a s ≡ o → Among t (given_on o a b.rows i s) → Comes t.at t.shape
    by_shape None h m = nowhere m
    by_shape (Some u) h m = by_part u h (among_both (falls_to (targets a i) u) (lands_in b.rows i s) t m)

  pub has_reached : {i : ℕ} {s : Shape} → Has (space x g b) i s → Comes i s
  has_reached (at_first z) = enters
  has_reached (goes_on {i} {j} {s} {t} r m n) = one_move i s (has_reached r) (slice_get b.code i) refl (given j t) m
