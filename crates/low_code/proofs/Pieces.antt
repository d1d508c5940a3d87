-- The spellings of the types of functions, piece by piece.
use Rattle.std.proofs.Common.{◌≡◌, ◌∙◌, ◌++◌, Bool, true, false, ℕ, List, ap, sym, codes, append_assoc}
use Rattle.cpp_tree.specs.cpp_types.Typ.{Typ, Typs, Signature, signature}
use Rattle.cpp_tree.specs.cpp_types.Class.{Class}
use Rattle.cpp_tree.specs.cpp_types.Spelling.{spelling, listed}
use Rattle.cpp_tree.specs.declared.program.FuncKind.{FuncKind}
use Rattle.low_code.specs.Types.{function_text, this_text, result_text}

four : (s o l q : List ℕ) → ((s ++ o) ++ l) ++ q ≡ s ++ (o ++ (l ++ q))
four s o l q = append_assoc (s ++ o) l q ∙ append_assoc s o (l ++ q)

pub function_is : (classes : List Class) (s : Signature) (ps : Typs) (r : Typ) (safe : Bool) (a b c d : List ℕ) → s ≡ signature ps r safe
    → a ≡ spelling classes r → b ≡ a ++ codes "(" → c ≡ b ++ listed classes false ps → d ≡ c ++ codes ")" → d ≡ function_text classes s
function_is classes s ps r safe a b c d e h i j k =
    k ∙ ap (λ z. z ++ codes ")") (j ∙ ap (λ z. z ++ listed classes false ps) (i ∙ ap (λ z. z ++ codes "(") h))
    ∙ four (spelling classes r) (codes "(") (listed classes false ps) (codes ")") ∙ sym (ap (function_text classes) e)

pub this_is : (classes : List Class) (kind : FuncKind) (s : Signature) (ps : Typs) (r : Typ) (safe : Bool) (a b c d : List ℕ) → s ≡ signature ps r safe
    → a ≡ result_text classes kind r → b ≡ a ++ codes "(this" → c ≡ b ++ listed classes true ps → d ≡ c ++ codes ")" → d ≡ this_text classes kind s
this_is classes kind s ps r safe a b c d e h i j k =
    k ∙ ap (λ z. z ++ codes ")") (j ∙ ap (λ z. z ++ listed classes true ps) (i ∙ ap (λ z. z ++ codes "(this") h))
    ∙ four (result_text classes kind r) (codes "(this") (listed classes true ps) (codes ")") ∙ sym (ap (this_text classes kind) e)
