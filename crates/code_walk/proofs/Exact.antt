-- A body is sound exactly where the walk finds no broken clause.
use Rattle.std.proofs.Common.{Bool, true, false, ◌≡◌, ◌<◌, ℕ, ◌+◌, ◌-◌, List, [], ◌∷◌, ◌++◌, length, Some, refl, sym, ap, ◌∙◌, subst, arith}
use Rattle.std.specs.Prelude.{nat_lt, nat_le, ◌&&◌, slice_get, if◌then◌else◌}
use Rattle.std.specs.List.{list_all}
use Rattle.std.specs.Option.{option_map_or}
use Rattle.std.proofs.lemmas.Bool.{true≢false, ltb-true}
use Rattle.std.proofs.lemmas.Option.{same_Some}
use Rattle.tx_code.specs.declared.instr.Instr.{Instr}
use Rattle.tx_code.specs.declared.body.Row.{Row}
use Rattle.tx_code.specs.Objects.{BodyView}
use Rattle.tx_code.specs.Meaning.{covers}
use Rattle.tx_code.specs.Shapes.{Shape, Table, targets, landed, Effect, Among, here, there, Reaches, enters, falls, lands}
use Rattle.tx_code.specs.Sound.{Signature, entry, target_lies, row_lies, is_last, SoundBody}
use Rattle.tx_code.proofs.ReachedIndexes.{and_right, all_at, all_among, led}
use Rattle.code_walk.specs.Walk.{Given, given, Has, at_first, goes_on, Two}
use Rattle.code_walk.specs.Bodies.{falls_to, lands_in, given_on, given_by, space}
use Rattle.code_walk.specs.Clean.{Found, Clean}
use Rattle.code_walk.proofs.Kept.{kept_walked, knows}
use Rattle.code_walk.proofs.Reached.{tests, has_reached}

-- ---- what is reached is walked

among_left : {A : Type 0} {a : A} {xs : List A} → Among a xs → (ys : List A) → Among a (xs ++ ys)
among_left here ys = here
among_left (there m) ys = there (among_left m ys)

among_right : {A : Type 0} (xs : List A) {a : A} {ys : List A} → Among a ys → Among a (xs ++ ys)
among_right [] m = m
among_right (x ∷ xs) m = there (among_right xs m)

falls_in : {j : ℕ} {js : List ℕ} → Among j js → (u : Shape) → Among (given j u) (falls_to js u)
falls_in here u = here
falls_in (there m) u = there (falls_in m u)

lands_here : (rs : List Row) (r q : Row) (i : ℕ) (s : Shape) (t : Bool) → covers q i ≡ t
    → Among (given r.target (landed r.what r.depth s.opens s.handlers)) (lands_in rs i s)
    → Among (given r.target (landed r.what r.depth s.opens s.handlers))
    (if t then given q.target (landed q.what q.depth s.opens s.handlers) ∷ lands_in rs i s else lands_in rs i s)
lands_here rs r q i s true c m = there m
lands_here rs r q i s false c m = m

lands_among : {r : Row} {rows : List Row} → Among r rows → (i : ℕ) (s : Shape) → covers r i ≡ true
    → Among (given r.target (landed r.what r.depth s.opens s.handlers)) (lands_in rows i s)
lands_among {r} (here {xs = rs}) i s c = subst (λ t. Among (given r.target (landed r.what r.depth s.opens s.handlers))
    (if t then given r.target (landed r.what r.depth s.opens s.handlers) ∷ lands_in rs i s else lands_in rs i s)) (sym c) here
lands_among {r} (there {b = q} {xs = rs} m) i s c = lands_here rs r q i s (covers q i) refl (lands_among m i s c)

module _ (x : Table) (g : Signature) (b : BodyView) (filled : nat_lt 0 (length b.code) ≡ true) (lie : list_all (target_lies (length b.code)) b.code ≡ true)
    (rows : list_all (row_lies (length b.code)) b.rows ≡ true) (last : option_map_or is_last (slice_get b.code (length b.code - 1)) false ≡ true) where
  last_one : (i : ℕ) (a : Instr) → slice_get b.code i ≡ Some a → i + 1 ≡ length b.code → is_last a ≡ true
  last_one i a e h = let k : length b.code - 1 ≡ i = omega arith in sym (ap (λ o. option_map_or is_last o false) (ap (slice_get b.code) k ∙ e)) ∙ last

  within : {i : ℕ} {s : Shape} → Reaches x g.gives b (entry g) i s → i < length b.code
  within enters = ltb-true 0 (length b.code) filled
  within (falls {i} {j} reached e m) = led e.instr i j (length b.code) (all_at (target_lies (length b.code)) b.code i e.instr lie e.is)
      (last_one i e.instr e.is) (within reached) m
  within (lands reached e r m c) = ltb-true r.target (length b.code)
      (and_right (nat_lt r.from (length b.code) && nat_le r.to (length b.code)) (nat_lt r.target (length b.code)) (all_among (row_lies (length b.code)) m rows))

  gives_all : (i : ℕ) (s : Shape) (e : Effect x g.gives b i s) (t : Given Shape) → Among t (falls_to (targets e.instr i) e.next ++ lands_in b.rows i s)
      → Among t ((space x g b).gives i s)
  gives_all i s e t m = subst (λ o. Among t (given_by x g.gives b.rows o i s)) (sym e.is) (subst (λ o. Among t (given_on o e.instr b.rows i s)) (sym e.makes) m)

  pub reached_has : {i : ℕ} {s : Shape} → Reaches x g.gives b (entry g) i s → Has (space x g b) i s
  reached_has enters = at_first (ltb-true 0 (length b.code) filled)
  reached_has (falls {i} {j} {s} reached e m) = goes_on (reached_has reached)
      (gives_all i s e (given j e.next) (among_left (falls_in m e.next) (lands_in b.rows i s))) (within (falls reached e m))
  reached_has (lands {i} {s} reached e r m c) = goes_on (reached_has reached)
      (gives_all i s e (given r.target (landed r.what r.depth s.opens s.handlers)) (among_right (falls_to (targets e.instr i) e.next) (lands_among m i s c)))
      (within (lands reached e r m c))

-- ---- exact both ways

module _ (x : Table) (g : Signature) (safe : Bool) (b : BodyView) where
  pub clean_is_sound : Clean x g safe b → SoundBody x g safe b
  clean_is_sound k =
      let some : 0 < length b.code = ltb-true 0 (length b.code) k.filled in
      let found : (i : ℕ) (s : Shape) → Reaches x g.gives b (entry g) i s → Found x g b i s =
      λ i s r. knows (space x g b) (tests x g b) some (λ j l c. true≢false (sym c ∙ k.one_shape j l))
      (reached_has x g b k.filled k.targets k.rows k.last r) in
      record {
        filled = k.filled;
        targets = k.targets;
        rows = k.rows;
        last = k.last;
        known = k.known;
        rows_known = k.rows_known;
        names = k.names;
        rows_names = k.rows_names;
        one_shape = λ i s t r q. same_Some t s (sym (found i t q) ∙ found i s r);
        operands = λ i s a r e. k.operands i s a (found i s r) e;
        words = λ i s a r e. k.words i s a (found i s r) e;
        exceptions = λ i s a r e. k.exceptions i s a (found i s r) e;
        inside = λ i s a r e h. k.inside i s a (found i s r) e h;
        outside = λ i s a r e h. k.outside i s a (found i s r) e h;
        closes = λ i s a r e. k.closes i s a (found i s r) e;
        edges = λ i s q r m c. k.edges i s q (found i s r) m c;
        covered = λ i s r. k.covered i s (found i s r);
        depths = λ i s a q r e m c. k.depths i s a q (found i s r) e m c;
      }

  pub sound_is_clean : SoundBody x g safe b → Clean x g safe b
  sound_is_clean k =
      let some : 0 < length b.code = ltb-true 0 (length b.code) k.filled in
      let facts = (kept_walked (space x g b) (tests x g b) some).facts in
      let back : (i : ℕ) (s : Shape) → Found x g b i s → Reaches x g.gives b (entry g) i s = λ i s f. has_reached x g b (facts.shapes i s f) in
      record {
        filled = k.filled;
        targets = k.targets;
        rows = k.rows;
        last = k.last;
        known = k.known;
        rows_known = k.rows_known;
        names = k.names;
        rows_names = k.rows_names;
        one_shape = λ i l. no_clash _ (λ c. let t : Two (space x g b) i = facts.clashes i c in t.differ
            (sym (k.one_shape i t.one t.other (has_reached x g b t.has_one) (has_reached x g b t.has_other))));
        operands = λ i s a f e. k.operands i s a (back i s f) e;
        words = λ i s a f e. k.words i s a (back i s f) e;
        exceptions = λ i s a f e. k.exceptions i s a (back i s f) e;
        inside = λ i s a f e h. k.inside i s a (back i s f) e h;
        outside = λ i s a f e h. k.outside i s a (back i s f) e h;
        closes = λ i s a f e. k.closes i s a (back i s f) e;
        edges = λ i s q f m c. k.edges i s q (back i s f) m c;
        covered = λ i s f. k.covered i s (back i s f);
        depths = λ i s a q f e m c. k.depths i s a q (back i s f) e m c;
      }
    where
      no_clash : (t : Bool) → (t ≡ true → ⊥) → t ≡ false
      no_clash true h = absurd (h refl)
      no_clash false h = refl
