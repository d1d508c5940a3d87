-- Where a word stands last in a list.
use Rattle.std.proofs.Common.{ℕ, ◌≡◌, ◌==◌, ◌||◌, suc, zero, Bool, true, false, cond, Option, Some, None, List, [], ◌∷◌, ◌++◌, length, drop, refl, ap, sym, ◌∙◌}
use Rattle.std.proofs.Common.{add-one}
use Rattle.std.proofs.Math.Dec.{leb, leb-zero, leb-suc-zero, leb-suc-suc}
use Rattle.std.specs.List.{list_any}
use Rattle.std.specs.Option.{is_some}
use Rattle.undo_log.specs.Index.{with_head, last_position}

-- a word that comes to the end stands there last, and the others where they were
pub last_push : (ws : List ℕ) (w word : ℕ) → last_position (ws ++ w ∷ []) word ≡ cond (w == word) (Some (length ws)) (last_position ws word)
last_push [] w word = refl
last_push (x ∷ xs) w word =
    ap (λ o. with_head o (x == word)) (last_push xs w word)
    ∙ elim (w == word) as (λ b. with_head (cond b (Some (length xs)) (last_position xs word)) (x == word) ≡ cond b (Some (length (x ∷ xs)))
    (with_head (last_position xs word) (x == word))) [
      | true ↦ ap (λ n. Some n) (add-one (length xs))
      | false ↦ refl
    ]

any_is : (ws : List ℕ) (word : ℕ) → list_any (λ w. w == word) ws ≡ is_some (last_position ws word)
any_is [] word = refl
any_is (x ∷ xs) word =
    ap (λ b. (x == word) || b) (any_is xs word)
    ∙ elim (last_position xs word) as (λ o. ((x == word) || is_some o) ≡ is_some {T = ℕ} (with_head o (x == word))) [
      | None ↦ elim (x == word) as (λ b. (b || false) ≡ is_some {T = ℕ} (cond b (Some 0) None)) [ true ↦ refl | false ↦ refl ]
      | Some position ↦ elim (x == word) as (λ b. (b || true) ≡ true) [ true ↦ refl | false ↦ refl ]
    ]

-- a position at `start` or behind it
abbrev pub is_since : ℕ → Option ℕ → Bool
is_since start None = false
is_since start (Some position) = leb start position

pub since_law : (start : ℕ) (ws : List ℕ) (word : ℕ) → list_any (λ w. w == word) (drop start ws) ≡ is_since start (last_position ws word)
since_law zero ws word = any_is ws word ∙ elim (last_position ws word) as (λ o. is_some o ≡ is_since 0 o) [
  | None ↦ refl
  | Some position ↦ sym
      (leb-zero position)
]
since_law (suc s) [] word = refl
since_law (suc s) (x ∷ xs) word =
    since_law s xs word
    ∙ elim (last_position xs word) as (λ o. is_since s o ≡ is_since (suc s) (with_head o (x == word))) [
      | None ↦ elim (x == word) as (λ b. false ≡ is_since (suc s) (cond b (Some 0) None)) [ true ↦ sym (leb-suc-zero s) | false ↦ refl ]
      | Some position ↦ sym (ap (leb (suc s)) (add-one position) ∙ leb-suc-suc s position)
    ]
