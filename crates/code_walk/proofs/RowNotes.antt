-- Rows that gave their targets a shape need not give it again.
use Rattle.std.proofs.Common.{Bool, true, false, ◌≡◌, ◌<◌, ◌≤◌, inl, inr, ℕ, zero, suc, List, [], ◌∷◌, ◌++◌, length, map, set, Option, Some, None, refl, sym}
use Rattle.std.proofs.Common.{ap, ◌∙◌, subst, arith, get_or, get_or-set_other, get_or-set_same}
use Rattle.std.specs.Prelude.{nat_eq, ◌&&◌, ◌||◌, not, if◌then◌else◌}
use Rattle.std.specs.List.{list_all}
use Rattle.std.specs.Option.{option_map_or}
use Rattle.std.proofs.lemmas.Bool.{lt-ltb, le-ltb, ltb-true, eqb-true, cases_eq, cases_lt, false≢true}
use Rattle.std.proofs.lemmas.List.{length-set}
use Rattle.tx_events.specs.Thread.{Open}
use Rattle.tx_code.specs.declared.body.Row.{Row}
use Rattle.tx_code.specs.Meaning.{covers}
use Rattle.tx_code.specs.Shapes as shapes
use Rattle.tx_code.specs.Shapes.{landed}
use Rattle.tx_code.proofs.ReachedIndexes.{and_left, and_right}
use Rattle.code_walk.specs.declared.shapes.Shape.{Shape}
use Rattle.code_walk.specs.declared.walk.Slot.{Slot as CodeSlot}
use Rattle.code_walk.specs.declared.rows.Span.{Span}
use Rattle.code_walk.specs.declared.rows.Key.{Key}
use Rattle.code_walk.specs.declared.rows.RowTree.{RowTree, Empty, Leaf, Fork'}
use Rattle.code_walk.specs.Walk.{Tests, Given, given, Slot, bare, slot, slot_at, noted, noted_in, note, note_all, seen_slot}
use Rattle.code_walk.specs.Bodies.{lands_in, same_shape}
use Rattle.code_walk.specs.Nests.{nest, Extends}
use Rattle.code_walk.specs.ShapeViews.{shape_of, fits}
use Rattle.code_walk.specs.Slots.{tested, slot_of, slot_fits, Notes}
use Rattle.code_walk.specs.RowTrees.{rows_of, may_cover, all_cover, SpanOf, is_key, knows, settled, row_settled, KeySettled, Right}
use Rattle.code_walk.proofs.SlotNotes.{both_noted, slots_still}
use Rattle.code_walk.proofs.Notes.{note_same, note_other, length_note, past}
use Rattle.code_walk.proofs.Reached.{shape_itself, shape_yes}

both : (b c : Bool) → b ≡ true → c ≡ true → (b && c) ≡ true
both b c h k = ap (λ z. z && c) h ∙ k

or_left : (b c : Bool) → b ≡ true → (b || c) ≡ true
or_left b c h = ap (λ z. z || c) h

or_right : (b c : Bool) → c ≡ true → (b || c) ≡ true
or_right true c h = refl
or_right false c h = h

-- ---- one slot

knows_if : (b : Bool) (a : Slot shapes.Shape) (s t : shapes.Shape) → a.shape ≡ Some s → knows a t ≡ true
    → knows (if b then a else slot a.shape a.looked true) t ≡ true
knows_if true a s t e h = h
knows_if false a s t e h = ap (λ o. option_map_or (λ z. same_shape z t || true) o false) e ∙ or_right (same_shape s t) true refl

knows_in : (o : Option shapes.Shape) (a : Slot shapes.Shape) (s t : shapes.Shape) → a.shape ≡ o → knows a t ≡ true → knows (noted_in tested o a s) t ≡ true
knows_in None a s t e h = absurd (false≢true (sym (ap (λ o. option_map_or (λ z. same_shape z t || a.clash) o false) e) ∙ h))
knows_in (Some r) a s t e h = knows_if (same_shape r s) a r t e h

knows_kept : (a : Slot shapes.Shape) (s t : shapes.Shape) → knows a t ≡ true → knows (noted tested a s) t ≡ true
knows_kept a s t h = knows_in a.shape a s t refl h

told_if : (b : Bool) (a : Slot shapes.Shape) (r t : shapes.Shape) → same_shape r t ≡ b → a.shape ≡ Some r
    → knows (if b then a else slot a.shape a.looked true) t ≡ true
told_if true a r t h e = ap (λ o. option_map_or (λ z. same_shape z t || a.clash) o false) e ∙ or_left (same_shape r t) a.clash h
told_if false a r t h e = ap (λ o. option_map_or (λ z. same_shape z t || true) o false) e ∙ or_right (same_shape r t) true refl

told_in : (o : Option shapes.Shape) (a : Slot shapes.Shape) (t : shapes.Shape) → a.shape ≡ o → knows (noted_in tested o a t) t ≡ true
told_in None a t e = or_left (same_shape t t) a.clash (shape_itself t)
told_in (Some r) a t e = told_if (same_shape r t) a r t refl e

told : (a : Slot shapes.Shape) (t : shapes.Shape) → knows (noted tested a t) t ≡ true
told a t = told_in a.shape a t refl

still_if : (b : Bool) (a : Slot shapes.Shape) → (b || a.clash) ≡ true → (if b then a else slot a.shape a.looked true) ≡ a
still_if true a h = refl
still_if false a h = ap (λ c. slot a.shape a.looked c) (sym h)

still_in : (o : Option shapes.Shape) (a : Slot shapes.Shape) (t : shapes.Shape) → a.shape ≡ o → knows a t ≡ true → noted_in tested o a t ≡ a
still_in None a t e h = absurd (false≢true (sym (ap (λ o. option_map_or (λ z. same_shape z t || a.clash) o false) e) ∙ h))
still_in (Some r) a t e h = still_if (same_shape r t) a (sym (ap (λ o. option_map_or (λ z. same_shape z t || a.clash) o false) e) ∙ h)

still : (a : Slot shapes.Shape) (t : shapes.Shape) → knows a t ≡ true → noted tested a t ≡ a
still a t h = still_in a.shape a t refl h

-- ---- all slots

within_knows : (ss : List (Slot shapes.Shape)) (at : ℕ) (t : shapes.Shape) → at < length ss → settled ss at t ≡ true → knows (slot_at ss at) t ≡ true
within_knows ss at t h k = sym (ap (λ b. if b then knows (slot_at ss at) t else true) (lt-ltb at (length ss) h)) ∙ k

knows_settled : (ss : List (Slot shapes.Shape)) (at : ℕ) (t : shapes.Shape) → (at < length ss → knows (slot_at ss at) t ≡ true) → settled ss at t ≡ true
knows_settled ss at t k = elim (cases_lt at (length ss)) [
  | inl h ↦ ap (λ b. if b then knows (slot_at ss at) t else true) (lt-ltb at (length ss) h) ∙ k h
  | inr h ↦ ap (λ b. if b then knows (slot_at ss at) t else true) (le-ltb at (length ss) h)
]

set_same : {A : Type 0} (xs : List A) (i : ℕ) (d : A) → i < length xs → set xs i (get_or xs i d) ≡ xs
set_same [] i d h = refl
set_same (x ∷ xs) zero d h = refl
set_same (x ∷ xs) (suc i) d h = ap (λ z. x ∷ z) (set_same xs i d (omega (arith, h)))

tests : Tests tested
tests = record { yes = shape_yes; itself = shape_itself }

settled_note : (ss : List (Slot shapes.Shape)) (g : Given shapes.Shape) (at : ℕ) (t : shapes.Shape) → settled ss at t ≡ true
    → settled (note tested ss g) at t ≡ true
settled_note ss g at t k = knows_settled (note tested ss g) at t (λ h.
    let l : at < length ss = subst (λ n. at < n) (length_note tested tests ss g) h in
    let o : knows (slot_at ss at) t ≡ true = within_knows ss at t l k in
    elim (cases_eq at g.at) [
      | inl e ↦ subst (λ j. knows (slot_at (note tested ss g) j) t ≡ true) (sym e)
          (ap (λ a. knows a t) (note_same tested tests ss g.at g.shape (subst (λ j. j < length ss) e l))
          ∙ knows_kept (slot_at ss g.at) g.shape t (subst (λ j. knows (slot_at ss j) t ≡ true) e o))
      | inr n ↦ ap (λ a. knows a t) (note_other tested tests ss g.at at g.shape n) ∙ o
    ])

settled_after : (ss : List (Slot shapes.Shape)) (at : ℕ) (t : shapes.Shape) → settled (note tested ss (given at t)) at t ≡ true
settled_after ss at t = knows_settled (note tested ss (given at t)) at t (λ h.
    ap (λ a. knows a t) (note_same tested tests ss at t (subst (λ n. at < n) (length_note tested tests ss (given at t)) h)) ∙ told (slot_at ss at) t)

still_note : (ss : List (Slot shapes.Shape)) (at : ℕ) (t : shapes.Shape) → settled ss at t ≡ true → note tested ss (given at t) ≡ ss
still_note ss at t k = elim (cases_lt at (length ss)) [
  | inl h ↦ ap (λ b. if b then set ss at (noted tested (slot_at ss at) t) else ss) (lt-ltb at (length ss) h)
      ∙ ap (set ss at) (still (slot_at ss at) t (within_knows ss at t h k)) ∙ set_same ss at bare h
  | inr h ↦ past tested tests ss (given at t) h
]

settled_all : (gs : List (Given shapes.Shape)) (ss : List (Slot shapes.Shape)) (at : ℕ) (t : shapes.Shape) → settled ss at t ≡ true
    → settled (note_all tested ss gs) at t ≡ true
settled_all [] ss at t k = k
settled_all (g ∷ gs) ss at t k = settled_all gs (note tested ss g) at t (settled_note ss g at t k)

-- an index that is looked at keeps what is settled
settled_seen : (ss : List (Slot shapes.Shape)) (i : ℕ) (at : ℕ) (t : shapes.Shape) → i < length ss → settled ss at t ≡ true
    → settled (set ss i (seen_slot (slot_at ss i))) at t ≡ true
settled_seen ss i at t h k = knows_settled (set ss i (seen_slot (slot_at ss i))) at t (λ l.
    let o : knows (slot_at ss at) t ≡ true = within_knows ss at t (subst (λ n. at < n) (length-set ss i (seen_slot (slot_at ss i))) l) k in
    elim (cases_eq at i) [
      | inl e ↦ subst (λ j. knows (slot_at (set ss i (seen_slot (slot_at ss i))) j) t ≡ true) (sym e)
          (ap (λ a. knows a t) (get_or-set_same ss i (seen_slot (slot_at ss i)) bare h) ∙ subst (λ j. knows (slot_at ss j) t ≡ true) e o)
      | inr n ↦ ap (λ a. knows a t) (get_or-set_other ss i at (seen_slot (slot_at ss i)) bare n) ∙ o
    ])

-- ---- rows

pub no_rows : (rows : List Row) (i : ℕ) (s : shapes.Shape) → list_all (λ r. not (covers r i)) rows ≡ true → lands_in rows i s ≡ []
no_rows [] i s h = refl
no_rows (r ∷ rs) i s h = skip (covers r i) refl (no_rows rs i s (and_right (not (covers r i)) (list_all (λ q. not (covers q i)) rs) h)) where
  skip : (b : Bool) → covers r i ≡ b → lands_in rs i s ≡ [] → lands_in (r ∷ rs) i s ≡ []
  skip true e k = absurd (false≢true (sym (ap not e) ∙ and_left (not (covers r i)) (list_all (λ q. not (covers q i)) rs) h))
  skip false e k = ap (λ b. if b then given r.target (landed r.what r.depth s.opens s.handlers) ∷ lands_in rs i s else lands_in rs i s) e ∙ k

pub rows_still : (rows : List Row) (i : ℕ) (s : shapes.Shape) (ss : List (Slot shapes.Shape)) → list_all (row_settled ss s.opens s.handlers) rows ≡ true
    → note_all tested ss (lands_in rows i s) ≡ ss
rows_still [] i s ss h = refl
rows_still (r ∷ rs) i s ss h = either (covers r i) refl
    (rows_still rs i s ss (and_right (row_settled ss s.opens s.handlers r) (list_all (row_settled ss s.opens s.handlers) rs) h)) where
      either : (b : Bool) → covers r i ≡ b → note_all tested ss (lands_in rs i s) ≡ ss → note_all tested ss (lands_in (r ∷ rs) i s) ≡ ss
      either true e rest = ap (λ b. note_all tested ss (if b then given r.target (landed r.what r.depth s.opens s.handlers)
          ∷ lands_in rs i s else lands_in rs i s)) e ∙ ap (λ z. note_all tested z (lands_in rs i s))
          (still_note ss r.target (landed r.what r.depth s.opens s.handlers)
          (and_left (row_settled ss s.opens s.handlers r) (list_all (row_settled ss s.opens s.handlers) rs) h)) ∙ rest
      either false e rest = ap (λ b. note_all tested ss (if b then given r.target (landed r.what r.depth s.opens s.handlers)
          ∷ lands_in rs i s else lands_in rs i s)) e ∙ rest

pub rows_told : (rows : List Row) (i : ℕ) (s : shapes.Shape) (ss : List (Slot shapes.Shape)) → list_all (λ r. covers r i) rows ≡ true
    → list_all (row_settled (note_all tested ss (lands_in rows i s)) s.opens s.handlers) rows ≡ true
rows_told [] i s ss h = refl
rows_told (r ∷ rs) i s ss h =
    let t : shapes.Shape = landed r.what r.depth s.opens s.handlers in
    let mid : List (Slot shapes.Shape) = note tested ss (given r.target t) in
    let end : List (Slot shapes.Shape) = note_all tested mid (lands_in rs i s) in
    subst (λ b. list_all (row_settled (note_all tested ss (if b then given r.target t ∷ lands_in rs i s else lands_in rs i s)) s.opens s.handlers) (r ∷ rs)
    ≡ true) (sym (and_left (covers r i) (list_all (λ q. covers q i) rs) h))
    (both (row_settled end s.opens s.handlers r) (list_all (row_settled end s.opens s.handlers) rs)
    (settled_all (lands_in rs i s) mid r.target t (settled_after ss r.target t))
    (rows_told rs i s mid (and_right (covers r i) (list_all (λ q. covers q i) rs) h)))

-- ---- trees

abbrev Keeps : List (Slot shapes.Shape) → List (Slot shapes.Shape) → Type 0
Keeps ss new = (at : ℕ) (t : shapes.Shape) → settled ss at t ≡ true → settled new at t ≡ true

rows_as : (ss new : List (Slot shapes.Shape)) → Keeps ss new → (rows : List Row) (o : List Open) (n : ℕ) → list_all (row_settled ss o n) rows ≡ true
    → list_all (row_settled new o n) rows ≡ true
rows_as ss new k [] o n h = refl
rows_as ss new k (r ∷ rs) o n h = both (row_settled new o n r) (list_all (row_settled new o n) rs)
    (k r.target (landed r.what r.depth o n) (and_left (row_settled ss o n r) (list_all (row_settled ss o n) rs) h))
    (rows_as ss new k rs o n (and_right (row_settled ss o n r) (list_all (row_settled ss o n) rs) h))

key_as : (t : List (List Open)) (ss new : List (Slot shapes.Shape)) → Keeps ss new → (rows : List Row) (key : Option Key) → KeySettled t ss rows key
    → KeySettled t new rows key
key_as t ss new k rows None h = h
key_as t ss new k rows (Some key) h = (h.0, rows_as ss new k rows (nest t key.nest) key.handlers h.1)

right_as : (t : List (List Open)) (ss new : List (Slot shapes.Shape)) → Keeps ss new → (tree : RowTree) → Right t ss tree → Right t new tree
right_as t ss new k Empty h = h
right_as t ss new k (Leaf row key) h = key_as t ss new k (row ∷ []) key h
right_as t ss new k (Fork' p l q r span key) h = (right_as t ss new k l h.0, right_as t ss new k r h.1, h.2, key_as t ss new k (rows_of l ++ rows_of r) key h.3)

pub right_noted : (t : List (List Open)) (ss new : List (Slot shapes.Shape)) (gs : List (Given shapes.Shape)) (tree : RowTree) → new ≡ note_all tested ss gs
    → Right t ss tree → Right t new tree
right_noted t ss new gs tree e h = subst (λ z. Right t z tree) (sym e) (right_as t ss (note_all tested ss gs) (λ at s. settled_all gs ss at s) tree h)

pub right_seen : (t : List (List Open)) (ss : List (Slot shapes.Shape)) (i : ℕ) (tree : RowTree) → i < length ss → Right t ss tree
    → Right t (set ss i (seen_slot (slot_at ss i))) tree
right_seen t ss i tree l h = right_as t ss (set ss i (seen_slot (slot_at ss i))) (λ at s. settled_seen ss i at s l) tree h

pub key_noted : (t : List (List Open)) (ss new : List (Slot shapes.Shape)) (gs : List (Given shapes.Shape)) (rows : List Row) (key : Option Key)
    → new ≡ note_all tested ss gs → KeySettled t ss rows key → KeySettled t new rows key
key_noted t ss new gs rows key e h = subst (λ z. KeySettled t z rows key) (sym e)
    (key_as t ss (note_all tested ss gs) (λ at s. settled_all gs ss at s) rows key h)

key_more : (old new : List (List Open)) (ss : List (Slot shapes.Shape)) → Extends old new → (rows : List Row) (key : Option Key) → KeySettled old ss rows key
    → KeySettled new ss rows key
key_more old new ss e rows None h = h
key_more old new ss e rows (Some key) h = let l : key.nest < length old = h.0 in let m : length old ≤ length new = e.more in
    (omega (arith, l, m), subst (λ o. list_all (row_settled ss o key.handlers) rows ≡ true) (sym (e.same key.nest h.0)) h.1)

pub right_more : (old new : List (List Open)) (ss : List (Slot shapes.Shape)) → Extends old new → (tree : RowTree) → Right old ss tree → Right new ss tree
right_more old new ss e Empty h = h
right_more old new ss e (Leaf row key) h = key_more old new ss e (row ∷ []) key h
right_more old new ss e (Fork' p l q r span key) h = (
  right_more old new ss e l h.0,
  right_more old new ss e r h.1,
  h.2,
  key_more old new ss e
      (rows_of l ++ rows_of r) key h.3,
)

-- ---- what a part gives at an index

lands_append : (rs qs : List Row) (j : ℕ) (t : shapes.Shape) → lands_in (rs ++ qs) j t ≡ lands_in rs j t ++ lands_in qs j t
lands_append [] qs j t = refl
lands_append (r ∷ rs) qs j t = lands_if (covers r j) (given r.target (landed r.what r.depth t.opens t.handlers)) (lands_in rs j t) (lands_in qs j t)
    (lands_in (rs ++ qs) j t) (lands_append rs qs j t) where
      lands_if : (c : Bool) (g : Given shapes.Shape) (xs ys zs : List (Given shapes.Shape)) → zs ≡ xs ++ ys
          → (if c then g ∷ zs else zs) ≡ (if c then g ∷ xs else xs) ++ ys
      lands_if true g xs ys zs e = ap (λ z. g ∷ z) e
      lands_if false g xs ys zs e = e

key_rows : (t : List (List Open)) (ss : List (Slot shapes.Shape)) (rows : List Row) (key : Option Key) (s : Shape) → KeySettled t ss rows key
    → is_key key s ≡ true → list_all (row_settled ss (nest t s.nest) s.handlers) rows ≡ true
key_rows t ss rows None s h e = absurd (false≢true e)
key_rows t ss rows (Some k) s h e = subst (λ n. list_all (row_settled ss (nest t s.nest) n) rows ≡ true)
    (eqb-true k.handlers s.handlers (and_right (nat_eq k.nest s.nest) (nat_eq k.handlers s.handlers) e))
    (subst (λ n. list_all (row_settled ss (nest t n) k.handlers) rows ≡ true)
    (eqb-true k.nest s.nest (and_left (nat_eq k.nest s.nest) (nat_eq k.handlers s.handlers) e)) h.1)

same_still : (t : List (List Open)) (a : List CodeSlot) (gs : List (Given shapes.Shape)) → list_all (slot_fits t) a ≡ true
    → note_all tested (map (slot_of t) a) gs ≡ map (slot_of t) a → Notes t a a gs
same_still t a gs h e = record { slots = sym e; fit = h; count = refl }

module _ (t : List (List Open)) (a : List CodeSlot) (i : ℕ) (s : Shape) (fit : list_all (slot_fits t) a ≡ true) where
  done : (rows : List Row) (key : Option Key) → KeySettled t (map (slot_of t) a) rows key → is_key key s ≡ true → Notes t a a (lands_in rows i (shape_of t s))
  done rows key h e = same_still t a (lands_in rows i (shape_of t s)) fit
      (rows_still rows i (shape_of t s) (map (slot_of t) a) (key_rows t (map (slot_of t) a) rows key s h e))

  nothing : (rows : List Row) → lands_in rows i (shape_of t s) ≡ [] → Notes t a a (lands_in rows i (shape_of t s))
  nothing rows e = same_still t a (lands_in rows i (shape_of t s)) fit (ap (note_all tested (map (slot_of t) a)) e)

  pub leaf_still : (row : Row) (key : Option Key) → KeySettled t (map (slot_of t) a) (row ∷ []) key → (covers row i && not (is_key key s)) ≡ false
      → Notes t a a (lands_in (row ∷ []) i (shape_of t s))
  leaf_still row key h e = either (covers row i) (is_key key s) refl refl where
    either : (b c : Bool) → covers row i ≡ b → is_key key s ≡ c → Notes t a a (lands_in (row ∷ []) i (shape_of t s))
    either true true p q = done (row ∷ []) key h q
    either true false p q = absurd (false≢true (sym e ∙ both (covers row i) (not (is_key key s)) p (ap not q)))
    either false c p q = nothing (row ∷ []) (no_rows (row ∷ []) i (shape_of t s) (both (not (covers row i)) true (ap not p) refl))

  pub fork_past : (rows : List Row) (span : Span) → SpanOf span rows → may_cover span i ≡ false → Notes t a a (lands_in rows i (shape_of t s))
  fork_past rows span h e = nothing rows (no_rows rows i (shape_of t s) (h.outside i e))

  pub fork_done : (rows : List Row) (span : Span) (key : Option Key) → KeySettled t (map (slot_of t) a) rows key → (all_cover span i && is_key key s) ≡ true
      → Notes t a a (lands_in rows i (shape_of t s))
  fork_done rows span key h e = done rows key h (and_right (all_cover span i) (is_key key s) e)

pub leaf_notes : (t : List (List Open)) (a b : List CodeSlot) (row : Row) (i : ℕ) (s : Shape) (c : Bool) → (covers row i && c) ≡ true
    → Notes t a b (given row.target (landed row.what row.depth (nest t s.nest) s.handlers) ∷ []) → Notes t a b (lands_in (row ∷ []) i (shape_of t s))
leaf_notes t a b row i s c e n = subst (λ z. Notes t a b (if z then given row.target (landed row.what row.depth (nest t s.nest) s.handlers) ∷ [] else []))
    (sym (and_left (covers row i) c e)) n

pub leaf_right : (t : List (List Open)) (a b : List CodeSlot) (row : Row) (i : ℕ) (s : Shape) (c : Bool) → (covers row i && c) ≡ true → fits t s ≡ true
    → Notes t a b (given row.target (landed row.what row.depth (nest t s.nest) s.handlers) ∷ [])
    → KeySettled t (map (slot_of t) b) (row ∷ []) (Some (record { nest = s.nest; handlers = s.handlers }))
leaf_right t a b row i s c e f n = (
  ltb-true s.nest (length t) f,
  subst (λ z. list_all (row_settled z (nest t s.nest) s.handlers) (row ∷ []) ≡ true)
      (sym (leaf_notes t a b row i s c e n).slots) (rows_told (row ∷ []) i (shape_of t s) (map (slot_of t) a)
      (both (covers row i) true (and_left (covers row i) c e) refl)),
)

pub fork_notes : (t : List (List Open)) (a b c : List CodeSlot) (xs ys : List Row) (i : ℕ) (s : Shape) → Notes t a b (lands_in xs i (shape_of t s))
    → Notes t b c (lands_in ys i (shape_of t s)) → Notes t a c (lands_in (xs ++ ys) i (shape_of t s))
fork_notes t a b c xs ys i s n m = subst (Notes t a c) (sym (lands_append xs ys i (shape_of t s)))
    (both_noted t a b c (lands_in xs i (shape_of t s)) (lands_in ys i (shape_of t s)) n m)

-- both halves have been gone through
module _ (t : List (List Open)) (a b c : List CodeSlot) (l r m q : RowTree) (span : Span) (key : Option Key) (i : ℕ) (s : Shape)
    (n : Notes t a b (lands_in (rows_of l) i (shape_of t s))) (o : Notes t b c (lands_in (rows_of r) i (shape_of t s)))
    (lm : rows_of m ≡ rows_of l) (rq : rows_of q ≡ rows_of r)
    (rm : Right t (map (slot_of t) b) m) (rr : Right t (map (slot_of t) c) q)
    (sp : SpanOf span (rows_of l ++ rows_of r)) where
  rows_same : rows_of l ++ rows_of r ≡ rows_of m ++ rows_of q
  rows_same = ap (λ z. z ++ rows_of r) (sym lm) ∙ ap (λ z. rows_of m ++ z) (sym rq)

  left_right : Right t (map (slot_of t) c) m
  left_right = right_noted t (map (slot_of t) b) (map (slot_of t) c) (lands_in (rows_of r) i (shape_of t s)) m o.slots rm

  pub whole_right : all_cover span i ≡ true → fits t s ≡ true → Right t (map (slot_of t) c) m × Right t (map (slot_of t) c) q
      × SpanOf span (rows_of m ++ rows_of q) × KeySettled t (map (slot_of t) c) (rows_of m ++ rows_of q)
      (Some (record { nest = s.nest; handlers = s.handlers }))
  whole_right e f = (
    left_right,
    rr,
    subst (SpanOf span) rows_same sp,
    (
      ltb-true s.nest (length t) f,
      subst (λ rs. list_all (row_settled (map (slot_of t) c) (nest t s.nest) s.handlers) rs ≡ true) rows_same
          (subst (λ z. list_all (row_settled z (nest t s.nest) s.handlers) (rows_of l ++ rows_of r) ≡ true)
          (sym (fork_notes t a b c (rows_of l) (rows_of r) i s n o).slots)
          (rows_told (rows_of l ++ rows_of r) i (shape_of t s) (map (slot_of t) a) (sp.within i e))),
    ),
  )

  pub part_right : KeySettled t (map (slot_of t) a) (rows_of l ++ rows_of r) key → Right t (map (slot_of t) c) m × Right t (map (slot_of t) c) q
      × SpanOf span (rows_of m ++ rows_of q) × KeySettled t (map (slot_of t) c) (rows_of m ++ rows_of q) key
  part_right k = (
    left_right,
    rr,
    subst (SpanOf span) rows_same sp,
    subst (λ rs. KeySettled t (map (slot_of t) c) rs key) rows_same
        (key_noted t (map (slot_of t) a) (map (slot_of t) c) (lands_in (rows_of l ++ rows_of r) i (shape_of t s)) (rows_of l ++ rows_of r) key
        (fork_notes t a b c (rows_of l) (rows_of r) i s n o).slots k),
  )

-- the slots of a table that grows
pub right_slots : (old new : List (List Open)) (a : List CodeSlot) → Extends old new → list_all (slot_fits old) a ≡ true → (tree : RowTree)
    → Right old (map (slot_of old) a) tree → Right new (map (slot_of new) a) tree
right_slots old new a e h tree r = subst (λ z. Right new z tree) (sym (slots_still old new e a h)) (right_more old new (map (slot_of old) a) e tree r)
