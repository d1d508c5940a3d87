-- Terms and exceptions in the place of those of a note.
use Rattle.std.proofs.Common.{ℕ, zero, suc, ◌≡◌, refl, ap, sym, ◌∙◌, Bool, List, [], ◌∷◌, ◌++◌, Some, append_assoc}
use Rattle.cpp_tree.specs.cpp_types.Typ.{Typ}
use Rattle.symbolic_source.specs.Terms.{Term, Exception}
use Rattle.symbolic_source.specs.Replacing.{Replacing, in_term, in_terms}
use Rattle.body_check.specs.Notes.{variables, in_caught, IsThrown}
use Rattle.body_check.specs.Calls.{taken_off, first_of}
use Rattle.lowered_frames.specs.Lists.{AreSo, AreAll, others, behind, firsts, turned, more_by, in_exceptions, innermost}
use Rattle.lowered_frames.specs.Modes.{Mode, top, doubled, tripled, second, gone, nought}
use Rattle.lowered_notes.specs.Canonical.{value_of, Comes, term_at, exception_at, unknowns, placing, AreThrown}
use Rattle.symbolic_source.specs.Steps.{first_word}

-- each variable as the one before
abbrev shifted : Replacing → Replacing
shifted r = record { word = λ n. r.word (suc n); exception = r.exception }

variables_shifted : (r : Replacing) (k n : ℕ) → in_terms r (variables (suc k) n) ≡ in_terms (shifted r) (variables k n)
variables_shifted r k zero = refl
variables_shifted r k (suc n) = ap (λ (z : List Term). r.word (suc k) ∷ z) (variables_shifted r (suc k) n)

variables_at : (exceptions : ℕ → Exception) (n : ℕ) (ts : List Term) → AreSo n ts
    → in_terms (record { word = term_at ts; exception = exceptions }) (variables 0 n) ≡ ts
variables_at exceptions zero [] so = refl
variables_at exceptions zero (t ∷ ts) so = absurd so
variables_at exceptions (suc n) [] so = absurd so
variables_at exceptions (suc n) (t ∷ ts) so = ap (λ (z : List Term). t ∷ z)
    (variables_shifted (record { word = term_at (t ∷ ts); exception = exceptions }) 0 n ∙ variables_at exceptions n ts so)

pub words_placed : (v : Term) (es : List Exception) (n : ℕ) (ts : List Term) → AreSo n ts → in_terms (placing v es ts) (variables 1 n) ≡ ts
words_placed v es n ts so = variables_shifted (placing v es ts) 0 n ∙ variables_at (placing v es ts).exception n ts so

-- each unknown exception as the one before
abbrev lowered : Replacing → Replacing
lowered r = record { word = r.word; exception = λ n. r.exception (suc n) }

unknowns_lowered : (r : Replacing) (k n : ℕ) → in_exceptions r (unknowns (suc k) n) ≡ in_exceptions (lowered r) (unknowns k n)
unknowns_lowered r k zero = refl
unknowns_lowered r k (suc n) = ap (λ (z : List Exception). r.exception (suc k) ∷ z) (unknowns_lowered r (suc k) n)

unknowns_at : (terms : ℕ → Term) (n : ℕ) (es : List Exception) → AreAll n es
    → in_exceptions (record { word = terms; exception = exception_at es }) (unknowns 0 n) ≡ es
unknowns_at terms zero [] all = refl
unknowns_at terms zero (e ∷ es) all = absurd all
unknowns_at terms (suc n) [] all = absurd all
unknowns_at terms (suc n) (e ∷ es) all = ap (λ (z : List Exception). e ∷ z)
    (unknowns_lowered (record { word = terms; exception = exception_at (e ∷ es) }) 0 n ∙ unknowns_at terms n es all)

pub exceptions_placed : (v : Term) (es : List Exception) (n : ℕ) (ts : List Term) → AreAll n es → in_exceptions (placing v es ts) (unknowns 0 n) ≡ es
exceptions_placed v es n ts all = unknowns_at (placing v es ts).word n es all

pub types_are : (thrown : Typ → Bool) (es : List Exception) → AreThrown thrown es → (n : ℕ) → IsThrown thrown (exception_at es n)
types_are thrown [] all n = tt
types_are thrown (e ∷ es) all zero = all.0
types_are thrown (e ∷ es) all (suc n) = types_are thrown es all.1 n

-- the same list of exceptions, as notes have it
pub caught_so : (r : Replacing) (es : List Exception) → in_caught r es ≡ in_exceptions r es
caught_so r [] = refl
caught_so r (e ∷ es) = ap (λ (z : List Exception). in_exceptions r (e ∷ []) ++ z) (caught_so r es)

pub first_so : (es : List Exception) → first_of es ≡ innermost es
first_so [] = refl
first_so (e ∷ es) = refl

-- ---- how many there are

pub variables_so : (k n : ℕ) → AreSo n (variables k n)
variables_so k zero = tt
variables_so k (suc n) = variables_so (suc k) n

pub so_in : (r : Replacing) (n : ℕ) (ts : List Term) → AreSo n ts → AreSo n (in_terms r ts)
so_in r zero [] so = tt
so_in r zero (t ∷ ts) so = so
so_in r (suc n) [] so = so
so_in r (suc n) (t ∷ ts) so = so_in r n ts so

pub others_so : (n : ℕ) (ts : List Term) → AreSo (suc n) ts → AreSo n (others ts)
others_so n [] so = absurd so
others_so n (t ∷ ts) so = so

pub behind_so : (k n : ℕ) (ts : List Term) → AreSo (more_by k n) ts → AreSo n (behind k ts)
behind_so zero n ts so = so
behind_so (suc k) n ts so = behind_so k n (others ts) (others_so (more_by k n) ts so)

-- ---- the value

pub value_placed : (m : Mode) (v : Term) (es : List Exception) (ts : List Term) → Comes m v → in_term (placing v es ts) (value_of m) ≡ v
value_placed nought v es ts c = sym c
value_placed top v es ts c = refl
value_placed doubled v es ts c = refl
value_placed tripled v es ts c = refl
value_placed second v es ts c = refl
value_placed gone v es ts c = refl

-- ---- the words of a call

pub words_taken : (n : ℕ) (ts us args : List Term) → taken_off n (firsts n ts ++ us) args ≡ Some (turned n ts ++ args, us)
words_taken zero ts us args = refl
words_taken (suc n) ts us args = words_taken n (others ts) us (first_word ts ∷ args)
    ∙ ap (λ (z : List Term). Some (z, us)) (sym (append_assoc (turned n (others ts)) (first_word ts ∷ []) args))
