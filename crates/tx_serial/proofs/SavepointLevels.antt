-- Savepoints, word by word.
use Rattle.std.proofs.Common.{ℕ, ◌≡◌, ◌==◌, true, false, cond, refl, ap, sym, ◌∙◌, subst, List, [], ◌∷◌, Option, Some, None}
use Rattle.tx_serial.specs.Machine.{Save, kept_or, or_else, oldest, forget, forget_all, hand, note}
use Rattle.tx_serial.specs.Shows.{Even, LevelsAt, NoneAt}
use Rattle.tx_events.proofs.BlockRuns.{update_same, update_elsewhere, AllAt, Both}

kept_twice : (o n : Option ℕ) (v : ℕ) → kept_or o (kept_or n v) ≡ kept_or (or_else o n) v
kept_twice None n v = refl
kept_twice (Some w) n v = refl

pub even_both : (m n : ℕ → ℕ) (ss : List Save) (cs ds : List (ℕ → ℕ)) → Both m n cs ds → Even ss cs → Even ss ds
even_both m n [] [] [] b e = tt
even_both m n [] [] (d ∷ ds) b e = absurd b
even_both m n [] (c ∷ cs) ds b e = absurd e
even_both m n (s ∷ ss) [] ds b e = absurd e
even_both m n (s ∷ ss) (c ∷ cs) [] b e = absurd b
even_both m n (s ∷ ss) (c ∷ cs) (d ∷ ds) b e = even_both m n ss cs ds b.1 e

pub levels_both : (m n : ℕ → ℕ) (x v : ℕ) (ss : List Save) (cs ds : List (ℕ → ℕ)) → m x ≡ n x → Both m n cs ds → LevelsAt x v ss cs → LevelsAt x v ss ds
levels_both m n x v [] [] [] e b f = tt
levels_both m n x v [] [] (d ∷ ds) e b f = absurd b
levels_both m n x v [] (c ∷ cs) ds e b f = absurd f
levels_both m n x v (s ∷ ss) [] ds e b f = absurd f
levels_both m n x v (s ∷ ss) (c ∷ cs) [] e b f = absurd b
levels_both m n x v (s ∷ ss) (c ∷ cs) (d ∷ ds) e b f = (
  sym (b.0 x e) ∙ f.0,
  subst (λ y. LevelsAt x y ss ds) (b.0 x e) (levels_both m n x (c x) ss cs ds e b.1 f.1),
)

-- at a word that is the same everywhere
pub levels_new : (x v : ℕ) (ss : List Save) (cs : List (ℕ → ℕ)) → Even ss cs → AllAt x v cs → NoneAt x ss → LevelsAt x v ss cs
levels_new x v [] [] e k h = tt
levels_new x v [] (c ∷ cs) e k h = absurd e
levels_new x v (s ∷ ss) [] e k h = absurd e
levels_new x v (s ∷ ss) (c ∷ cs) e k h = (k.0 ∙ ap (λ o. kept_or o v) (sym h.0), subst (λ y. LevelsAt x y ss cs) (sym k.0) (levels_new x v ss cs e k.1 h.1))

-- the oldest memory at the word
abbrev pub last_at : List (ℕ → ℕ) → ℕ → ℕ → ℕ
last_at [] x v = v
last_at (c ∷ cs) x v = last_at cs x (c x)

pub bottom : (x v : ℕ) (ss : List Save) (cs : List (ℕ → ℕ)) → LevelsAt x v ss cs → last_at cs x v ≡ kept_or (oldest ss x) v
bottom x v [] [] f = refl
bottom x v [] (c ∷ cs) f = absurd f
bottom x v (s ∷ ss) [] f = absurd f
bottom x v (s ∷ ss) (c ∷ cs) f = bottom x (c x) ss cs f.1 ∙ (ap (kept_or (oldest ss x)) f.0 ∙ kept_twice (oldest ss x) (s x) v)

pub none_oldest : (x : ℕ) (ss : List Save) → NoneAt x ss → oldest ss x ≡ None
none_oldest x [] h = refl
none_oldest x (s ∷ ss) h = ap (λ o. or_else o (s x)) (none_oldest x ss h.1) ∙ h.0

-- a note
pub even_note : (x v : ℕ) (ss : List Save) (cs : List (ℕ → ℕ)) → Even ss cs → Even (note ss x v) cs
even_note x v [] cs e = e
even_note x v (s ∷ ss) [] e = e
even_note x v (s ∷ ss) (c ∷ cs) e = e

pub levels_noted : (x v new : ℕ) (ss : List Save) (cs : List (ℕ → ℕ)) → LevelsAt x v ss cs → LevelsAt x new (note ss x v) cs
levels_noted x v new [] [] f = tt
levels_noted x v new [] (c ∷ cs) f = absurd f
levels_noted x v new (s ∷ ss) [] f = absurd f
levels_noted x v new (s ∷ ss) (c ∷ cs) f = (f.0 ∙ ap (λ o. kept_or o new) (sym (update_same s x (Some (kept_or (s x) v)))), f.1)

pub levels_note_else : (y x w v : ℕ) (ss : List Save) (cs : List (ℕ → ℕ)) → (y == x) ≡ false → LevelsAt y v ss cs → LevelsAt y v (note ss x w) cs
levels_note_else y x w v [] cs d f = f
levels_note_else y x w v (s ∷ ss) [] d f = absurd f
levels_note_else y x w v (s ∷ ss) (c ∷ cs) d f = (f.0 ∙ ap (λ o. kept_or o v) (sym (update_elsewhere s x (Some (kept_or (s x) w)) y d)), f.1)

pub none_note_else : (y x w : ℕ) (ss : List Save) → (y == x) ≡ false → NoneAt y ss → NoneAt y (note ss x w)
none_note_else y x w [] d h = tt
none_note_else y x w (s ∷ ss) d h = (update_elsewhere s x (Some (kept_or (s x) w)) y d ∙ h.0, h.1)

-- notes handed down
pub levels_hand : (x v : ℕ) (n o : Save) (ss : List Save) (c d : ℕ → ℕ) (cs : List (ℕ → ℕ)) → LevelsAt x v (n ∷ o ∷ ss) (c ∷ d ∷ cs)
    → LevelsAt x v (hand n o ∷ ss) (d ∷ cs)
levels_hand x v n o ss c d cs f = (f.1.0 ∙ (ap (kept_or (o x)) f.0 ∙ kept_twice (o x) (n x) v), f.1.1)

pub none_hand : (x : ℕ) (n o : Save) (ss : List Save) → NoneAt x (n ∷ o ∷ ss) → NoneAt x (hand n o ∷ ss)
none_hand x n o ss h = (ap (λ q. or_else q (n x)) h.1.0 ∙ h.0, h.1.1)

-- a word put back
pub levels_forget : (x v : ℕ) (n : Save) (ss : List Save) (cs : List (ℕ → ℕ)) → LevelsAt x v (n ∷ ss) cs → LevelsAt x (kept_or (n x) v) (forget n x ∷ ss) cs
levels_forget x v n ss [] f = absurd f
levels_forget x v n ss (c ∷ cs) f = (f.0 ∙ ap (λ o. kept_or o (kept_or (n x) v)) (sym (update_same n x None)), f.1)

pub levels_forget_else : (y x v : ℕ) (n : Save) (ss : List Save) (cs : List (ℕ → ℕ)) → (y == x) ≡ false → LevelsAt y v (n ∷ ss) cs
    → LevelsAt y v (forget n x ∷ ss) cs
levels_forget_else y x v n ss [] d f = absurd f
levels_forget_else y x v n ss (c ∷ cs) d f = (f.0 ∙ ap (λ o. kept_or o v) (sym (update_elsewhere n x None y d)), f.1)

pub forget_none : (y x : ℕ) (n : Save) → n y ≡ None → forget n x y ≡ None
forget_none y x n h = elim (y == x) as (λ b. cond b None (n y) ≡ None) [ true ↦ refl | false ↦ h ]

pub even_forget : (x : ℕ) (n : Save) (ss : List Save) (cs : List (ℕ → ℕ)) → Even (n ∷ ss) cs → Even (forget n x ∷ ss) cs
even_forget x n ss [] e = e
even_forget x n ss (c ∷ cs) e = e

pub oldest_forget_else : (y x : ℕ) (ss : List Save) → (y == x) ≡ false → oldest (forget_all ss x) y ≡ oldest ss y
oldest_forget_else y x [] d = refl
oldest_forget_else y x (s ∷ ss) d =
    ap (λ o. or_else o (forget s x y)) (oldest_forget_else y x ss d) ∙ ap (or_else (oldest ss y)) (update_elsewhere s x None y d)

pub oldest_forget : (x : ℕ) (ss : List Save) → oldest (forget_all ss x) x ≡ None
oldest_forget x [] = refl
oldest_forget x (s ∷ ss) = ap (λ o. or_else o (forget s x x)) (oldest_forget x ss) ∙ update_same s x None

-- a savepoint without notes is dropped
pub levels_pop : (x v : ℕ) (n : Save) (ss : List Save) (c : ℕ → ℕ) (cs : List (ℕ → ℕ)) → n x ≡ None → LevelsAt x v (n ∷ ss) (c ∷ cs)
    → (c x ≡ v) × LevelsAt x v ss cs
levels_pop x v n ss c cs h f = let e = f.0 ∙ ap (λ o. kept_or o v) h in (e, subst (λ y. LevelsAt x y ss cs) e f.1)
