-- What the walk does to a slot.
use Rattle.std.proofs.Common.{Bool, true, false, ◌≡◌, ◌≢◌, ◌⊎◌, inl, inr, ℕ, ◌<◌, ◌≤◌, List, [], ◌∷◌, length, set, Option, Some, None, refl, sym, ap, ◌∙◌}
use Rattle.std.proofs.Common.{subst, get_or-set_other, get_or-set_same}
use Rattle.std.proofs.lemmas.Bool.{lt-ltb, le-ltb, cases_eq, cases_lt, false≢true}
use Rattle.std.proofs.lemmas.List.{length-set}
use Rattle.std.proofs.lemmas.Option.{none-some, same_Some}
use Rattle.std.specs.Prelude.{nat_lt, if◌then◌else◌}
use Rattle.tx_code.specs.Shapes.{Among, here, there}
use Rattle.code_walk.specs.Walk.{Given, given, Space, Tests, Slot, slot, bare, slot_at, noted_in, noted, note, note_all}

-- a slot keeps its shape, its clash and whether it was looked at
pub record Grows {S : Type 0} (a b : Slot S) : Type 0 where
  pub shape : (s : S) → a.shape ≡ Some s → b.shape ≡ Some s
  pub clash : a.clash ≡ true → b.clash ≡ true
  pub looked : b.looked ≡ a.looked

pub grows_self : {S : Type 0} (a : Slot S) → Grows a a
grows_self a = record { shape = λ s h. h; clash = λ h. h; looked = refl }

pub grows_then : {S : Type 0} (a b c : Slot S) → Grows a b → Grows b c → Grows a c
grows_then a b c p q = record { shape = λ s h. q.shape s (p.shape s h); clash = λ h. q.clash (p.clash h); looked = q.looked ∙ p.looked }

-- the slot knows the shape, or that there are two
abbrev pub Told : {S : Type 0} → Slot S → S → Type 0
Told a t = (a.shape ≡ Some t) ⊎ (a.clash ≡ true)

pub told_grows : {S : Type 0} (a b : Slot S) (t : S) → Grows a b → Told a t → Told b t
told_grows a b t g (inl h) = inl (g.shape t h)
told_grows a b t g (inr h) = inr (g.clash h)

abbrev pub Differs : {S : Type 0} → Slot S → S → Type 0
Differs {S} a t = (r : S) × (a.shape ≡ Some r) × (r ≢ t)

module _ {S : Type 0} (w : Space S) (l : Tests w) where
  same_no : (s t : S) → w.same s t ≡ false → s ≢ t
  same_no s t h e = false≢true (sym h ∙ subst (λ x. w.same s x ≡ true) e (l.itself s))

  -- ---- one slot

  grows_if : (b : Bool) (a : Slot S) → Grows a (if b then a else slot a.shape a.looked true)
  grows_if true a = grows_self a
  grows_if false a = record { shape = λ s h. h; clash = λ h. refl; looked = refl }

  grows_in : (o : Option S) (a : Slot S) (t : S) → a.shape ≡ o → Grows a (noted_in w o a t)
  grows_in None a t e = record { shape = λ s h. absurd (none-some s (sym e ∙ h)); clash = λ h. h; looked = refl }
  grows_in (Some r) a t e = grows_if (w.same r t) a

  pub grows_noted : (a : Slot S) (t : S) → Grows a (noted w a t)
  grows_noted a t = grows_in a.shape a t refl

  told_if : (b : Bool) (a : Slot S) (r t : S) → w.same r t ≡ b → a.shape ≡ Some r → Told (if b then a else slot a.shape a.looked true) t
  told_if true a r t h e = inl (e ∙ ap Some (l.yes r t h))
  told_if false a r t h e = inr refl

  told_in : (o : Option S) (a : Slot S) (t : S) → a.shape ≡ o → Told (noted_in w o a t) t
  told_in None a t e = inl refl
  told_in (Some r) a t e = told_if (w.same r t) a r t refl e

  pub told_noted : (a : Slot S) (t : S) → Told (noted w a t) t
  told_noted a t = told_in a.shape a t refl

  shape_if : (b : Bool) (a : Slot S) (s : S) → (if b then a else slot a.shape a.looked true).shape ≡ Some s → a.shape ≡ Some s
  shape_if true a s h = h
  shape_if false a s h = h

  shape_in : (o : Option S) (a : Slot S) (t s : S) → a.shape ≡ o → (noted_in w o a t).shape ≡ Some s → (a.shape ≡ Some s) ⊎ (t ≡ s)
  shape_in None a t s e h = inr (same_Some t s h)
  shape_in (Some r) a t s e h = inl (shape_if (w.same r t) a s h)

  -- a shape that the slot now has it had, or was given
  pub shape_noted : (a : Slot S) (t s : S) → (noted w a t).shape ≡ Some s → (a.shape ≡ Some s) ⊎ (t ≡ s)
  shape_noted a t s h = shape_in a.shape a t s refl h

  clash_if : (b : Bool) (a : Slot S) (r t : S) → w.same r t ≡ b → a.shape ≡ Some r → (if b then a else slot a.shape a.looked true).clash ≡ true
      → (a.clash ≡ true) ⊎ Differs a t
  clash_if true a r t h e c = inl c
  clash_if false a r t h e c = inr (r, e, same_no r t h)

  clash_in : (o : Option S) (a : Slot S) (t : S) → a.shape ≡ o → (noted_in w o a t).clash ≡ true → (a.clash ≡ true) ⊎ Differs a t
  clash_in None a t e c = inl c
  clash_in (Some r) a t e c = clash_if (w.same r t) a r t refl e c

  -- a clash that the slot now has it had, or its shape is another
  pub clash_noted : (a : Slot S) (t : S) → (noted w a t).clash ≡ true → (a.clash ≡ true) ⊎ Differs a t
  clash_noted a t c = clash_in a.shape a t refl c

  -- ---- one note

  pub note_same : (slots : List (Slot S)) (j : ℕ) (t : S) → j < length slots → slot_at (note w slots (given j t)) j ≡ noted w (slot_at slots j) t
  note_same slots j t h = rw (lt-ltb j (length slots) h) (get_or-set_same slots j (noted w (slot_at slots j) t) bare h)

  other_if : (b : Bool) (slots : List (Slot S)) (i j : ℕ) (x : Slot S) → j ≢ i → slot_at (if b then set slots i x else slots) j ≡ slot_at slots j
  other_if true slots i j x h = get_or-set_other slots i j x bare h
  other_if false slots i j x h = refl

  pub note_other : (slots : List (Slot S)) (i j : ℕ) (t : S) → j ≢ i → slot_at (note w slots (given i t)) j ≡ slot_at slots j
  note_other slots i j t h = other_if (nat_lt i (length slots)) slots i j (noted w (slot_at slots i) t) h

  length_if : (b : Bool) (slots : List (Slot S)) (i : ℕ) (x : Slot S) → length (if b then set slots i x else slots) ≡ length slots
  length_if true slots i x = length-set slots i x
  length_if false slots i x = refl

  pub length_note : (slots : List (Slot S)) (g : Given S) → length (note w slots g) ≡ length slots
  length_note slots g = length_if (nat_lt g.at (length slots)) slots g.at (noted w (slot_at slots g.at) g.shape)

  past_if : (b : Bool) (slots : List (Slot S)) (x : Slot S) (i : ℕ) → (b ≡ true → ⊥) → (if b then set slots i x else slots) ≡ slots
  past_if true slots x i h = absurd (h refl)
  past_if false slots x i h = refl

  pub past : (slots : List (Slot S)) (g : Given S) → length slots ≤ g.at → note w slots g ≡ slots
  past slots g h = past_if (nat_lt g.at (length slots)) slots (noted w (slot_at slots g.at) g.shape) g.at
      (λ e. false≢true (sym (le-ltb g.at (length slots) h) ∙ e))

  -- each slot grows by a note
  note_grows : (slots : List (Slot S)) (g : Given S) (j : ℕ) → Grows (slot_at slots j) (slot_at (note w slots g) j)
  note_grows slots g j = elim (cases_eq j g.at) [
    | inl e ↦ elim (cases_lt g.at (length slots)) [
      | inl h ↦ subst (λ k. Grows (slot_at slots k) (slot_at (note w slots g) k)) (sym e)
          (subst (λ x. Grows (slot_at slots g.at) x) (sym (note_same slots g.at g.shape h)) (grows_noted (slot_at slots g.at) g.shape))
      | inr h ↦ subst (λ x. Grows (slot_at slots j) (slot_at x j)) (sym (past slots g h)) (grows_self (slot_at slots j))
    ]
    | inr n ↦ subst (λ x. Grows (slot_at slots j) x) (sym (note_other slots g.at j g.shape n)) (grows_self (slot_at slots j))
  ]

  -- ---- all that an index gives

  pub all_grow : (gs : List (Given S)) (slots : List (Slot S)) (j : ℕ) → Grows (slot_at slots j) (slot_at (note_all w slots gs) j)
  all_grow [] slots j = grows_self (slot_at slots j)
  all_grow (g ∷ gs) slots j = grows_then _ _ _ (note_grows slots g j) (all_grow gs (note w slots g) j)

  pub length_all : (gs : List (Given S)) (slots : List (Slot S)) → length (note_all w slots gs) ≡ length slots
  length_all [] slots = refl
  length_all (g ∷ gs) slots = length_all gs (note w slots g) ∙ length_note slots g

  told_first : (gs : List (Given S)) (slots : List (Slot S)) (g : Given S) → g.at < length slots → Told (slot_at (note_all w (note w slots g) gs) g.at) g.shape
  told_first gs slots g h = told_grows _ _ _ (all_grow gs (note w slots g) g.at)
      (subst (λ x. Told x g.shape) (sym (note_same slots g.at g.shape h)) (told_noted (slot_at slots g.at) g.shape))

  -- what is given is told
  pub all_told : {g : Given S} {gs : List (Given S)} → Among g gs → (slots : List (Slot S)) → g.at < length slots
      → Told (slot_at (note_all w slots gs) g.at) g.shape
  all_told {g} (here {xs = gs}) slots h = told_first gs slots g h
  all_told {g} (there {b = b} m) slots h = all_told m (note w slots b) (subst (λ n. g.at < n) (sym (length_note slots b)) h)
