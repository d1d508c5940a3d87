-- Texts, looked at one after the other.
use Rattle.std.proofs.Common.{◌≡◌, ◌∙◌, ℕ, suc, ◌+◌, ◌<◌, Bool, true, false, List, ◌∷◌, get_or, length, drop, sym, ap, add-one}
use Rattle.std.specs.List.{list_any}
use Rattle.std.specs.Global.{Vec}
use Rattle.std.proofs.Math.Seq.{drop-cons, drop-length}
use Rattle.symbolic_leaving.specs.Answers.{texts_of}

any_first : (p : List ℕ → Bool) (s : List ℕ) (ss : List (List ℕ)) → p s ≡ true → list_any p (s ∷ ss) ≡ true
any_first p s ss e = simp e

any_rest : (p : List ℕ → Bool) (s : List ℕ) (ss : List (List ℕ)) → p s ≡ false → list_any p (s ∷ ss) ≡ list_any p ss
any_rest p s ss e = simp e

module _ (p : List ℕ → Bool) (ss : List (Vec ℕ)) (i : ℕ) (s : Vec ℕ) (h : i < length ss) (e : s ≡ get_or ss i s) where
  from_here : texts_of (drop i ss) ≡ s.items ∷ texts_of (drop (i + 1) ss)
  from_here = ap texts_of (drop-cons ss i s h) ∙ ap (λ (z : Vec ℕ). z.items ∷ texts_of (drop (suc i) ss)) (sym e) ∙ ap (λ z. s.items ∷ texts_of (drop z ss)) (sym (add-one i))

  pub known_here : p s.items ≡ true → list_any p (texts_of (drop i ss)) ≡ true
  known_here t = ap (list_any p) from_here ∙ any_first p s.items (texts_of (drop (i + 1) ss)) t

  pub known_next : p s.items ≡ false → list_any p (texts_of (drop i ss)) ≡ list_any p (texts_of (drop (i + 1) ss))
  known_next t = ap (list_any p) from_here ∙ any_rest p s.items (texts_of (drop (i + 1) ss)) t

pub known_none : (p : List ℕ → Bool) (ss : List (Vec ℕ)) (i : ℕ) → i ≡ length ss → list_any p (texts_of (drop i ss)) ≡ false
known_none p ss i e = ap (λ z. list_any p (texts_of (drop z ss))) e ∙ ap (λ z. list_any p (texts_of z)) (drop-length ss)
