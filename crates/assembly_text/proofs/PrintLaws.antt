-- The parts of a text, one after the other.
use Rattle.std.proofs.Common.{◌≡◌, ℕ, List, ◌∷◌, ◌++◌, sym, ap, ◌∙◌, append_assoc}
use Rattle.std.specs.List.{flat_map}
use Rattle.std.proofs.lemmas.List.Concat.{flat_map-append}

seven : (a b c d e f g n1 n2 n3 n4 n5 n6 n7 : List ℕ) → n1 ≡ a → n2 ≡ n1 ++ b → n3 ≡ n2 ++ c → n4 ≡ n3 ++ d → n5 ≡ n4 ++ e → n6 ≡ n5 ++ f → n7 ≡ n6 ++ g
    → n7 ≡ (a ++ (b ++ (c ++ (d ++ (e ++ f))))) ++ g
seven a b c d e f g n1 n2 n3 n4 n5 n6 n7 e1 e2 e3 e4 e5 e6 e7 = rw (e7, e6, e5, e4, e3, e2, e1) (simp append_assoc)

pub whole : {X : Type 0} (text : X → List ℕ) (head : X) (names source classes globals funcs : List X) (last n1 n2 n3 n4 n5 n6 n7 : List ℕ)
    → n1 ≡ text head → n2 ≡ n1 ++ flat_map text names → n3 ≡ n2 ++ flat_map text source → n4 ≡ n3 ++ flat_map text classes → n5 ≡ n4 ++ flat_map text globals
    → n6 ≡ n5 ++ flat_map text funcs → n7 ≡ n6 ++ last
    → n7 ≡ flat_map text (head ∷ (names ++ (source ++ (classes ++ (globals ++ funcs))))) ++ last
whole text head names source classes globals funcs last n1 n2 n3 n4 n5 n6 n7 e1 e2 e3 e4 e5 e6 e7 =
    seven (text head) (flat_map text names) (flat_map text source) (flat_map text classes) (flat_map text globals)
    (flat_map text funcs) last n1 n2 n3 n4 n5 n6 n7 e1 e2 e3 e4 e5 e6 e7
    ∙ ap (λ (z : List ℕ). (text head ++ z) ++ last) (sym (
    flat_map-append text names (source ++ (classes ++ (globals ++ funcs)))
    ∙ ap (λ (z : List ℕ). flat_map text names ++ z) (flat_map-append text source (classes ++ (globals ++ funcs))
    ∙ ap (λ (z : List ℕ). flat_map text source ++ z) (flat_map-append text classes (globals ++ funcs)
    ∙ ap (λ (z : List ℕ). flat_map text classes ++ z) (flat_map-append text globals funcs)))))
