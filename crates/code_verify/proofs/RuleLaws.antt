-- No index and no row breaks a clause exactly where the body is clean.
use Rattle.std.proofs.Common.{Bool, true, false, ◌≡◌, ◌<◌, ◌≤◌, inl, inr, ℕ, zero, suc, ◌+◌, ◌-◌, List, [], ◌∷◌, length, Option, Some, None, refl, sym, ap, ◌∙◌}
use Rattle.std.proofs.Common.{subst, arith}
use Rattle.std.specs.Prelude.{⊤, not, nat_lt, nat_le, nat_eq, ◌&&◌, ◌||◌, slice_get, if◌then◌else◌}
use Rattle.std.specs.List.{list_all}
use Rattle.std.specs.Option.{option_map_or}
use Rattle.std.proofs.lemmas.Bool.{false≢true, le-leb, leb-true, lt-ltb, ltb-true, eqb-true, eq-eqb, cases_lt}
use Rattle.std.proofs.lemmas.Option.{none-some, slice_get_within}
use Rattle.tx_events.specs.Thread.{is_empty}
use Rattle.tx_code.specs.declared.instr.Instr.{Instr}
use Rattle.tx_code.specs.declared.body.Row.{Row}
use Rattle.tx_code.specs.Objects.{BodyView}
use Rattle.tx_code.specs.Meaning.{covers}
use Rattle.tx_code.specs.Shapes.{Shape, Table, Among, here, there}
use Rattle.tx_code.specs.Sound.{Signature, target_lies, row_lies, is_last, is_known, row_is_known, names_right, row_names_right, is_inside, inside_right}
use Rattle.tx_code.specs.Sound.{outside_right, closes_right, has_edge, left_at}
use Rattle.tx_code.proofs.ReachedIndexes.{and_left, and_right, or_false, get_at, all_at, all_among}
use Rattle.code_walk.specs.Walk.{Slot, slot_at, walked}
use Rattle.code_walk.specs.Bodies.{space}
use Rattle.code_walk.specs.Clean.{Found, Clean}
use Rattle.code_verify.specs.Rules.{first_broken, of_shape, alone_right, shape_right, shaped_right, or_then, index_rule, row_alone, holds_over, edge_test}
use Rattle.code_verify.specs.Rules.{depth_test, row_over, row_rule}
use Rattle.code_walk.proofs.Kept.{kept_walked}
use Rattle.code_walk.proofs.Reached.{tests}

-- ---- lists of tests

abbrev pub AllTrue : List Bool → Type 0
AllTrue [] = ⊤
AllTrue (b ∷ bs) = (b ≡ true) × AllTrue bs

none_true : (n : ℕ) (bs : List Bool) → first_broken n bs ≡ None → AllTrue bs
none_true n [] h = tt
none_true n (true ∷ bs) h = (refl, none_true (n + 1) bs h)
none_true n (false ∷ bs) h = absurd (none-some n (sym h))

true_none : (n : ℕ) (bs : List Bool) → AllTrue bs → first_broken n bs ≡ None
true_none n [] a = refl
true_none n (b ∷ bs) a = ap (λ z. if z then first_broken (n + 1) bs else Some n) a.0 ∙ true_none (n + 1) bs a.1

both : (b c : Bool) → b ≡ true → c ≡ true → (b && c) ≡ true
both b c h k = ap (λ z. z && c) h ∙ k

unless : (c d : Bool) → (not c || d) ≡ true → c ≡ true → d ≡ true
unless true d h k = h
unless false d h k = absurd (false≢true k)

unless_back : (c d : Bool) → (c ≡ true → d ≡ true) → (not c || d) ≡ true
unless_back true d f = f refl
unless_back false d f = refl

either_back : (c d : Bool) → (c ≡ false → d ≡ true) → (c || d) ≡ true
either_back true d f = refl
either_back false d f = f refl

then_none : (p q : Option ℕ) → or_then p q ≡ None → (p ≡ None) × (q ≡ None)
then_none None q h = (refl, h)
then_none (Some n) q h = absurd (none-some n (sym h))

none_then : (p q : Option ℕ) → p ≡ None → q ≡ None → or_then p q ≡ None
none_then p q h k = ap (λ z. or_then z q) h ∙ k

if_none : (b : Bool) (q : Option ℕ) → (if b then Some 4 else q) ≡ None → (b ≡ false) × (q ≡ None)
if_none true q h = absurd (none-some 4 (sym h))
if_none false q h = (refl, h)

all_back : {A : Type 0} (p : A → Bool) (xs : List A) → ((i : ℕ) (a : A) → slice_get xs i ≡ Some a → p a ≡ true) → list_all p xs ≡ true
all_back p [] h = refl
all_back p (x ∷ xs) h = both (p x) (list_all p xs) (h 0 x refl) (all_back p xs (λ i a e. h (suc i) a e))

among_back : {A : Type 0} (p : A → Bool) (xs : List A) → ((a : A) → Among a xs → p a ≡ true) → list_all p xs ≡ true
among_back p [] h = refl
among_back p (x ∷ xs) h = both (p x) (list_all p xs) (h x here) (among_back p xs (λ a m. h a (there m)))

-- ---- a test over a range

over_at : (test : ℕ → Shape → Bool) (ss : List (Slot Shape)) (from n i : ℕ) → holds_over test ss from n ≡ true → from ≤ i → i < from + n
    → of_shape (test i) (slot_at ss i).shape ≡ true
over_at test ss from zero i h l m = absurd (omega (arith, l, m))
over_at test ss from (suc n) i h l m = elim (cases_lt from i) [
  | inl k ↦ over_at test ss (from + 1) n i (and_right (of_shape (test from) (slot_at ss from).shape) (holds_over test ss (from + 1) n) h) (omega (arith, k))
      (omega (arith, m))
  | inr k ↦ let e : from ≡ i = omega (arith, k, l) in
      subst (λ z. of_shape (test z) (slot_at ss z).shape ≡ true) e (and_left (of_shape (test from) (slot_at ss from).shape) (holds_over test ss (from + 1) n) h)
]

over_back : (test : ℕ → Shape → Bool) (ss : List (Slot Shape)) (from n : ℕ)
    → ((i : ℕ) → from ≤ i → i < from + n → of_shape (test i) (slot_at ss i).shape ≡ true) → holds_over test ss from n ≡ true
over_back test ss from zero h = refl
over_back test ss from (suc n) h = both (of_shape (test from) (slot_at ss from).shape) (holds_over test ss (from + 1) n) (h from (omega arith) (omega arith))
    (over_back test ss (from + 1) n (λ i l m. h i (omega (arith, l)) (omega (arith, m))))

of_some : (test : Shape → Bool) (o : Option Shape) (s : Shape) → o ≡ Some s → of_shape test o ≡ true → test s ≡ true
of_some test o s e h = sym (ap (of_shape test) e) ∙ h

some_of : (test : Shape → Bool) (o p : Option Shape) → o ≡ p → ((s : Shape) → p ≡ Some s → test s ≡ true) → of_shape test o ≡ true
some_of test None p e f = refl
some_of test (Some s) p e f = f s (sym e)

instr_of : (test : Instr → Bool) (o : Option Instr) (a : Instr) → o ≡ Some a → option_map_or test o true ≡ true → test a ≡ true
instr_of test o a e h = sym (ap (λ z. option_map_or test z true) e) ∙ h

of_instr : (test : Instr → Bool) (o p : Option Instr) → o ≡ p → ((a : Instr) → p ≡ Some a → test a ≡ true) → option_map_or test o true ≡ true
of_instr test None p e f = refl
of_instr test (Some a) p e f = f a (sym e)

-- ---- a body

module _ (x : Table) (g : Signature) (safe : Bool) (b : BodyView) where
  abbrev W : List (Slot Shape)
  W = walked (space x g b)

  abbrev pub NoIndex : Type 0
  NoIndex = (i : ℕ) (a : Instr) → slice_get b.code i ≡ Some a → index_rule x g.gives safe b i a (slot_at W i) ≡ None

  abbrev pub NoRow : Type 0
  NoRow = (r : Row) → Among r b.rows → row_rule x b W r ≡ None

  module _ (some : 0 < length b.code) (none : NoIndex) (no_row : NoRow) where
    alone : (i : ℕ) (a : Instr) → slice_get b.code i ≡ Some a → AllTrue (alone_right x (length b.code) i a)
    alone i a e = none_true 1 (alone_right x (length b.code) i a) (then_none (first_broken 1 (alone_right x (length b.code) i a)) _ (none i a e)).0

    rest : (i : ℕ) (a : Instr) → slice_get b.code i ≡ Some a → ((slot_at W i).clash ≡ false)
        × (first_broken 5 (shaped_right x g.gives safe b.rows i a (slot_at W i).shape) ≡ None)
    rest i a e = if_none (slot_at W i).clash _ (then_none (first_broken 1 (alone_right x (length b.code) i a)) _ (none i a e)).1

    shaped : (i : ℕ) (s : Shape) (a : Instr) → Found x g b i s → slice_get b.code i ≡ Some a → AllTrue (shape_right x g.gives safe b.rows i a s)
    shaped i s a f e = none_true 5 (shape_right x g.gives safe b.rows i a s)
        (sym (ap (λ o. first_broken 5 (shaped_right x g.gives safe b.rows i a o)) f) ∙ (rest i a e).1)

    row_true : (r : Row) → Among r b.rows → AllTrue (row_alone x (length b.code) r)
    row_true r m = none_true 1 (row_alone x (length b.code) r) (then_none (first_broken 1 (row_alone x (length b.code) r)) _ (no_row r m)).0

    row_overs : (r : Row) → Among r b.rows → AllTrue (row_over b.code W r)
    row_overs r m = none_true 10 (row_over b.code W r) (then_none (first_broken 1 (row_alone x (length b.code) r)) _ (no_row r m)).1

    covered_from : (r : Row) (i : ℕ) → covers r i ≡ true → (r.from ≤ i) × (i < r.from + (r.to - r.from))
    covered_from r i c = let l : r.from ≤ i = leb-true r.from i (and_left (nat_le r.from i) (nat_lt i r.to) c) in let m : i < r.to =
        ltb-true i r.to (and_right (nat_le r.from i) (nat_lt i r.to) c) in (l, omega (arith, l, m))

    over_row : (test : ℕ → Shape → Bool) (r : Row) (i : ℕ) (s : Shape) → holds_over test W r.from (r.to - r.from) ≡ true → Found x g b i s → covers r i ≡ true
        → test i s ≡ true
    over_row test r i s h f c = let q = covered_from r i c in of_some (test i) (slot_at W i).shape s f (over_at test W r.from (r.to - r.from) i h q.0 q.1)

    within : (i : ℕ) (s : Shape) → Found x g b i s → i < length b.code
    within i s f = elim (cases_lt i (length b.code)) [
      | inl h ↦ h
      | inr h ↦ absurd (none-some s (sym (past W i (let l : length W ≡ length b.code = (kept_walked (space x g b) (tests x g b) some).facts.long in omega
          (arith, h, l))) ∙ f))
    ] where
      past : (ss : List (Slot Shape)) (j : ℕ) → length ss ≤ j → (slot_at ss j).shape ≡ None
      past [] j h = refl
      past (s ∷ ss) zero h = absurd (omega (arith, h))
      past (s ∷ ss) (suc j) h = past ss j (omega (arith, h))

    last_one : option_map_or is_last (slice_get b.code (length b.code - 1)) false ≡ true
    last_one =
        let p = get_at b.code (length b.code - 1) (omega (arith, some)) in
        let e : nat_eq (length b.code - 1 + 1) (length b.code) ≡ true = eq-eqb (length b.code - 1 + 1) (length b.code) (omega (arith, some)) in
        let t = and_right (target_lies (length b.code) p.0) (not (nat_eq (length b.code - 1 + 1) (length b.code)) || is_last p.0)
        (alone (length b.code - 1) p.0 p.1).0 in
        ap (λ o. option_map_or is_last o false) p.1 ∙ unless (nat_eq (length b.code - 1 + 1) (length b.code)) (is_last p.0) t e

    pub none_clean : Clean x g safe b
    none_clean = record {
      filled = lt-ltb 0 (length b.code) some;
      targets = all_back (target_lies (length b.code)) b.code
          (λ i a e. and_left (target_lies (length b.code) a) (not (nat_eq (i + 1) (length b.code)) || is_last a) (alone i a e).0);
      rows = among_back (row_lies (length b.code)) b.rows (λ r m. (row_true r m).0);
      last = last_one;
      known = all_back is_known b.code (λ i a e. (alone i a e).1.0);
      rows_known = among_back row_is_known b.rows (λ r m. (row_true r m).1.0);
      names = all_back (names_right x) b.code (λ i a e. (alone i a e).1.1.0);
      rows_names = among_back (row_names_right x) b.rows (λ r m. (row_true r m).1.1.0);
      one_shape = λ i l. let p = get_at b.code i l in (rest i p.0 p.1).0;
      operands = λ i s a f e. (shaped i s a f e).0;
      words = λ i s a f e. (shaped i s a f e).1.0;
      exceptions = λ i s a f e. (shaped i s a f e).1.1.0;
      inside = λ i s a f e h. unless (is_inside safe s.opens) (inside_right x a) (shaped i s a f e).1.1.1.0 h;
      outside = λ i s a f e h. or_false (is_inside safe s.opens) (outside_right a) h (shaped i s a f e).1.1.1.1.0;
      closes = λ i s a f e. and_left (closes_right a s) (is_empty s.opens || has_edge b.rows i) (shaped i s a f e).1.1.1.1.1.0;
      edges = λ i s r f m c. over_row (edge_test r) r i s (row_overs r m).0 f c;
      covered = λ i s f. let p = get_at b.code i (within i s f) in
          and_right (closes_right p.0 s) (is_empty s.opens || has_edge b.rows i) (shaped i s p.0 f p.1).1.1.1.1.1.0;
      depths = λ i s a r f e m c. instr_of (λ z. nat_le r.depth (left_at z s.depth)) (slice_get b.code i) a e
          (over_row (depth_test b.code r) r i s (row_overs r m).1.0 f c);
    }

  module _ (k : Clean x g safe b) where
    ends_at_last : (i : ℕ) (a : Instr) → slice_get b.code i ≡ Some a → nat_eq (i + 1) (length b.code) ≡ true → is_last a ≡ true
    ends_at_last i a e h =
        let q : i + 1 ≡ length b.code = eqb-true (i + 1) (length b.code) h in
        let j : length b.code - 1 ≡ i = omega (arith, q) in
        sym (ap (λ o. option_map_or is_last o false) (ap (slice_get b.code) j ∙ e)) ∙ k.last

    shape_true : (i : ℕ) (s : Shape) (a : Instr) → Found x g b i s → slice_get b.code i ≡ Some a → AllTrue (shape_right x g.gives safe b.rows i a s)
    shape_true i s a f e = (
      k.operands i s a f e,
      (
        k.words i s a f e,
        (
          k.exceptions i s a f e,
          (
            unless_back (is_inside safe s.opens) (inside_right x a) (λ h. k.inside i s a f e h),
            (
              either_back (is_inside safe s.opens) (outside_right a) (λ h. k.outside i s a f e h),
              (
                both (closes_right a s) (is_empty s.opens || has_edge b.rows i) (k.closes i s a f e) (k.covered i s f),
                tt,
              ),
            ),
          ),
        ),
      ),
    )

    shaped_none : (i : ℕ) (a : Instr) → slice_get b.code i ≡ Some a → (o : Option Shape) → (slot_at W i).shape ≡ o
        → first_broken 5 (shaped_right x g.gives safe b.rows i a o) ≡ None
    shaped_none i a e None f = refl
    shaped_none i a e (Some s) f = true_none 5 (shape_right x g.gives safe b.rows i a s) (shape_true i s a f e)

    pub clean_index : NoIndex
    clean_index i a e = none_then (first_broken 1 (alone_right x (length b.code) i a)) _
        (true_none 1 (alone_right x (length b.code) i a) (
          both (target_lies (length b.code) a) (not (nat_eq (i + 1) (length b.code)) || is_last a)
              (all_at (target_lies (length b.code)) b.code i a k.targets e) (unless_back (nat_eq (i + 1) (length b.code)) (is_last a) (ends_at_last i a e)),
          (all_at is_known b.code i a k.known e, (all_at (names_right x) b.code i a k.names e, tt)),
        ))
        (ap (λ z. if z then Some 4 else first_broken 5 (shaped_right x g.gives safe b.rows i a (slot_at W i).shape))
        (k.one_shape i (slice_get_within b.code i a e)) ∙ shaped_none i a e (slot_at W i).shape refl)

    covers_from : (r : Row) (i : ℕ) → r.from ≤ i → i < r.from + (r.to - r.from) → covers r i ≡ true
    covers_from r i l m = both (nat_le r.from i) (nat_lt i r.to) (le-leb r.from i l) (lt-ltb i r.to (omega (arith, l, m)))

    pub clean_row : NoRow
    clean_row r m = none_then (first_broken 1 (row_alone x (length b.code) r)) _
        (true_none 1 (row_alone x (length b.code) r) (
          all_among (row_lies (length b.code)) m k.rows,
          (all_among row_is_known m k.rows_known, (all_among (row_names_right x) m k.rows_names, tt)),
        ))
        (true_none 10 (row_over b.code W r) (
          over_back (edge_test r) W r.from (r.to - r.from)
              (λ i l h. some_of (edge_test r i) (slot_at W i).shape (slot_at W i).shape refl (λ s f. k.edges i s r f m (covers_from r i l h))),
          (
            over_back (depth_test b.code r) W r.from (r.to - r.from)
                (λ i l h. some_of (depth_test b.code r i) (slot_at W i).shape (slot_at W i).shape refl
                (λ s f. of_instr (λ z. nat_le r.depth (left_at z s.depth)) (slice_get b.code i) (slice_get b.code i) refl
                (λ a e. k.depths i s a r f e m (covers_from r i l h)))),
            tt,
          ),
        ))
