-- Tests that one terminal alone passes.
use Rattle.std.proofs.Common.{◌≡◌, ℕ, zero, suc, Bool, true, false, not, ◌||◌, ◌⊎◌, inl, inr, List, [], ◌∷◌, refl, sym as back, ◌∙◌, ap, get_or, true≢false}
use Rattle.std.proofs.lemmas.Bool.{eqb-true, not-true, and_parts, or_cases}
use Rattle.std.proofs.Math.Dec.{eqb}
use Rattle.cpp_syntax.specs.declared.terminal.Terminal.{Terminal}
use Rattle.cpp_syntax.specs.declared.terminal.Terminal.TheVariants as terminal
use Rattle.std.specs.List.{list_all}
use Rattle.cpp_syntax.specs.Terminals.{is_end, level_of, stands_for, ReadsAs}
use Rattle.cpp_syntax.proofs.TerminalTables.{passes, at_each, every_terminal, number_of, at_number, implies, implied}

-- two terminals with one index are one
pub same_number : (s t : Terminal) → number_of s ≡ number_of t → s ≡ t
same_number s t e = back (at_number s) ∙ ap (λ (n : ℕ). get_or every_terminal n terminal.End) e ∙ at_number t

-- the tokens that pass the test are read as this terminal
abbrev reads : Terminal → Terminal → Bool
reads s t = eqb (number_of s) (number_of t) || stands_for s t

abbrev pub only : (Terminal → Bool) → Terminal → Bool
only test t = passes (λ s. implies (test s) (reads s t))

both_ways : (a b : Bool) → implies a b ≡ true → (b ≡ true → ⊥) → a ≡ false
both_ways true b e no_b = elim (no_b e) [ ]
both_ways false b e no_b = refl

reads_so : (s t : Terminal) → reads s t ≡ true → ReadsAs s t
reads_so s t h = elim (or_cases (eqb (number_of s) (number_of t)) (stands_for s t) h) [
  | inl i ↦ inl (same_number s t (eqb-true (number_of s) (number_of t) i))
  | inr i ↦ inr i
]

-- a token that is not read as this terminal does not pass
pub refused : (test : Terminal → Bool) (t : Terminal) → only test t ≡ true → (s : Terminal) → (ReadsAs s t → ⊥) → test s ≡ false
refused test t e s other = both_ways (test s) (reads s t) (at_each (λ z. implies (test z) (reads z t)) e s) (λ h. other (reads_so s t h))

-- what else is read as a terminal
abbrev others : Terminal → List Terminal
others terminal.TypeName =
    terminal.AbortType ∷ terminal.TxExceptionType ∷ terminal.OptimizeForSynchronizedType ∷ terminal.OverrideType ∷ terminal.FinalType ∷
    terminal.TransactionSafeType ∷ terminal.TransactionSafeDynamicType ∷ []
others terminal.Abort = terminal.AbortType ∷ terminal.AbortLater ∷ []
others terminal.TxException = terminal.TxExceptionType ∷ terminal.TxExceptionLater ∷ []
others terminal.OptimizeForSynchronized = terminal.OptimizeForSynchronizedType ∷ terminal.OptimizeForSynchronizedLater ∷ []
others terminal.Override = terminal.OverrideType ∷ terminal.OverrideLater ∷ []
others terminal.Final = terminal.FinalType ∷ terminal.FinalLater ∷ []
others terminal.TransactionSafe = terminal.TransactionSafeType ∷ terminal.TransactionSafeLater ∷ []
others terminal.TransactionSafeDynamic = terminal.TransactionSafeDynamicType ∷ terminal.TransactionSafeDynamicLater ∷ []
others _ = []

abbrev pub all_readings : (Terminal → Bool) → Terminal → Bool
all_readings test t = list_all test (t ∷ others t)

first_passes : (test : Terminal → Bool) (t : Terminal) (ts : List Terminal) → list_all test (t ∷ ts) ≡ true → test t ≡ true
first_passes test t ts e = (and_parts (test t) (list_all test ts) e).0

rest_passes : (test : Terminal → Bool) (t : Terminal) (ts : List Terminal) → list_all test (t ∷ ts) ≡ true → list_all test ts ≡ true
rest_passes test t ts e = (and_parts (test t) (list_all test ts) e).1

passes_other : (test : Terminal → Bool) (s t : Terminal) → stands_for s t ≡ true → list_all test (others t) ≡ true → test s ≡ true
passes_other test terminal.AbortType terminal.TypeName h e =
    first_passes test terminal.AbortType (terminal.TxExceptionType ∷ terminal.OptimizeForSynchronizedType ∷ terminal.OverrideType ∷
    terminal.FinalType ∷ terminal.TransactionSafeType ∷ terminal.TransactionSafeDynamicType ∷ []) e
passes_other test terminal.AbortType terminal.Abort h e = first_passes test terminal.AbortType (terminal.AbortLater ∷ []) e
passes_other test terminal.AbortType _ h e = absurd (true≢false (back h))
passes_other test terminal.AbortLater terminal.Abort h e =
    first_passes test terminal.AbortLater [] (rest_passes test terminal.AbortType (terminal.AbortLater ∷ []) e)
passes_other test terminal.AbortLater _ h e = absurd (true≢false (back h))
passes_other test terminal.TxExceptionType terminal.TypeName h e =
    first_passes test terminal.TxExceptionType (terminal.OptimizeForSynchronizedType ∷ terminal.OverrideType ∷ terminal.FinalType ∷
    terminal.TransactionSafeType ∷ terminal.TransactionSafeDynamicType ∷ []) (rest_passes test terminal.AbortType
    (terminal.TxExceptionType ∷ terminal.OptimizeForSynchronizedType ∷ terminal.OverrideType ∷ terminal.FinalType ∷ terminal.TransactionSafeType ∷
    terminal.TransactionSafeDynamicType ∷ []) e)
passes_other test terminal.TxExceptionType terminal.TxException h e = first_passes test terminal.TxExceptionType (terminal.TxExceptionLater ∷ []) e
passes_other test terminal.TxExceptionType _ h e = absurd (true≢false (back h))
passes_other test terminal.TxExceptionLater terminal.TxException h e =
    first_passes test terminal.TxExceptionLater [] (rest_passes test terminal.TxExceptionType (terminal.TxExceptionLater ∷ []) e)
passes_other test terminal.TxExceptionLater _ h e = absurd (true≢false (back h))
passes_other test terminal.OptimizeForSynchronizedType terminal.TypeName h e =
    first_passes test terminal.OptimizeForSynchronizedType (terminal.OverrideType ∷ terminal.FinalType ∷ terminal.TransactionSafeType ∷
    terminal.TransactionSafeDynamicType ∷ []) (rest_passes test terminal.TxExceptionType
    (terminal.OptimizeForSynchronizedType ∷ terminal.OverrideType ∷ terminal.FinalType ∷ terminal.TransactionSafeType ∷
    terminal.TransactionSafeDynamicType ∷ []) (rest_passes test terminal.AbortType (terminal.TxExceptionType ∷ terminal.OptimizeForSynchronizedType ∷
    terminal.OverrideType ∷ terminal.FinalType ∷ terminal.TransactionSafeType ∷ terminal.TransactionSafeDynamicType ∷ []) e))
passes_other test terminal.OptimizeForSynchronizedType terminal.OptimizeForSynchronized h e =
    first_passes test terminal.OptimizeForSynchronizedType (terminal.OptimizeForSynchronizedLater ∷ []) e
passes_other test terminal.OptimizeForSynchronizedType _ h e = absurd (true≢false (back h))
passes_other test terminal.OptimizeForSynchronizedLater terminal.OptimizeForSynchronized h e =
    first_passes test terminal.OptimizeForSynchronizedLater [] (rest_passes test terminal.OptimizeForSynchronizedType
    (terminal.OptimizeForSynchronizedLater ∷ []) e)
passes_other test terminal.OptimizeForSynchronizedLater _ h e = absurd (true≢false (back h))
passes_other test terminal.OverrideType terminal.TypeName h e =
    first_passes test terminal.OverrideType (terminal.FinalType ∷ terminal.TransactionSafeType ∷ terminal.TransactionSafeDynamicType ∷ [])
    (rest_passes test terminal.OptimizeForSynchronizedType (terminal.OverrideType ∷ terminal.FinalType ∷ terminal.TransactionSafeType ∷
    terminal.TransactionSafeDynamicType ∷ []) (rest_passes test terminal.TxExceptionType
    (terminal.OptimizeForSynchronizedType ∷ terminal.OverrideType ∷ terminal.FinalType ∷ terminal.TransactionSafeType ∷
    terminal.TransactionSafeDynamicType ∷ []) (rest_passes test terminal.AbortType (terminal.TxExceptionType ∷ terminal.OptimizeForSynchronizedType ∷
    terminal.OverrideType ∷ terminal.FinalType ∷ terminal.TransactionSafeType ∷ terminal.TransactionSafeDynamicType ∷ []) e)))
passes_other test terminal.OverrideType terminal.Override h e = first_passes test terminal.OverrideType (terminal.OverrideLater ∷ []) e
passes_other test terminal.OverrideType _ h e = absurd (true≢false (back h))
passes_other test terminal.OverrideLater terminal.Override h e =
    first_passes test terminal.OverrideLater [] (rest_passes test terminal.OverrideType (terminal.OverrideLater ∷ []) e)
passes_other test terminal.OverrideLater _ h e = absurd (true≢false (back h))
passes_other test terminal.FinalType terminal.TypeName h e =
    first_passes test terminal.FinalType (terminal.TransactionSafeType ∷ terminal.TransactionSafeDynamicType ∷ [])
    (rest_passes test terminal.OverrideType (terminal.FinalType ∷ terminal.TransactionSafeType ∷ terminal.TransactionSafeDynamicType ∷ [])
    (rest_passes test terminal.OptimizeForSynchronizedType (terminal.OverrideType ∷ terminal.FinalType ∷ terminal.TransactionSafeType ∷
    terminal.TransactionSafeDynamicType ∷ []) (rest_passes test terminal.TxExceptionType
    (terminal.OptimizeForSynchronizedType ∷ terminal.OverrideType ∷ terminal.FinalType ∷ terminal.TransactionSafeType ∷
    terminal.TransactionSafeDynamicType ∷ []) (rest_passes test terminal.AbortType (terminal.TxExceptionType ∷ terminal.OptimizeForSynchronizedType ∷
    terminal.OverrideType ∷ terminal.FinalType ∷ terminal.TransactionSafeType ∷ terminal.TransactionSafeDynamicType ∷ []) e))))
passes_other test terminal.FinalType terminal.Final h e = first_passes test terminal.FinalType (terminal.FinalLater ∷ []) e
passes_other test terminal.FinalType _ h e = absurd (true≢false (back h))
passes_other test terminal.FinalLater terminal.Final h e =
    first_passes test terminal.FinalLater [] (rest_passes test terminal.FinalType (terminal.FinalLater ∷ []) e)
passes_other test terminal.FinalLater _ h e = absurd (true≢false (back h))
passes_other test terminal.TransactionSafeType terminal.TypeName h e =
    first_passes test terminal.TransactionSafeType (terminal.TransactionSafeDynamicType ∷ [])
    (rest_passes test terminal.FinalType (terminal.TransactionSafeType ∷ terminal.TransactionSafeDynamicType ∷ [])
    (rest_passes test terminal.OverrideType (terminal.FinalType ∷ terminal.TransactionSafeType ∷ terminal.TransactionSafeDynamicType ∷ [])
    (rest_passes test terminal.OptimizeForSynchronizedType (terminal.OverrideType ∷ terminal.FinalType ∷ terminal.TransactionSafeType ∷
    terminal.TransactionSafeDynamicType ∷ []) (rest_passes test terminal.TxExceptionType
    (terminal.OptimizeForSynchronizedType ∷ terminal.OverrideType ∷ terminal.FinalType ∷ terminal.TransactionSafeType ∷
    terminal.TransactionSafeDynamicType ∷ []) (rest_passes test terminal.AbortType (terminal.TxExceptionType ∷ terminal.OptimizeForSynchronizedType ∷
    terminal.OverrideType ∷ terminal.FinalType ∷ terminal.TransactionSafeType ∷ terminal.TransactionSafeDynamicType ∷ []) e)))))
passes_other test terminal.TransactionSafeType terminal.TransactionSafe h e =
    first_passes test terminal.TransactionSafeType (terminal.TransactionSafeLater ∷ []) e
passes_other test terminal.TransactionSafeType _ h e = absurd (true≢false (back h))
passes_other test terminal.TransactionSafeLater terminal.TransactionSafe h e =
    first_passes test terminal.TransactionSafeLater [] (rest_passes test terminal.TransactionSafeType (terminal.TransactionSafeLater ∷ []) e)
passes_other test terminal.TransactionSafeLater _ h e = absurd (true≢false (back h))
passes_other test terminal.TransactionSafeDynamicType terminal.TypeName h e =
    first_passes test terminal.TransactionSafeDynamicType ([]) (rest_passes test terminal.TransactionSafeType
    (terminal.TransactionSafeDynamicType ∷ []) (rest_passes test terminal.FinalType (terminal.TransactionSafeType ∷
    terminal.TransactionSafeDynamicType ∷ []) (rest_passes test terminal.OverrideType
    (terminal.FinalType ∷ terminal.TransactionSafeType ∷ terminal.TransactionSafeDynamicType ∷ [])
    (rest_passes test terminal.OptimizeForSynchronizedType (terminal.OverrideType ∷ terminal.FinalType ∷ terminal.TransactionSafeType ∷
    terminal.TransactionSafeDynamicType ∷ []) (rest_passes test terminal.TxExceptionType
    (terminal.OptimizeForSynchronizedType ∷ terminal.OverrideType ∷ terminal.FinalType ∷ terminal.TransactionSafeType ∷
    terminal.TransactionSafeDynamicType ∷ []) (rest_passes test terminal.AbortType (terminal.TxExceptionType ∷ terminal.OptimizeForSynchronizedType ∷
    terminal.OverrideType ∷ terminal.FinalType ∷ terminal.TransactionSafeType ∷ terminal.TransactionSafeDynamicType ∷ []) e))))))
passes_other test terminal.TransactionSafeDynamicType terminal.TransactionSafeDynamic h e =
    first_passes test terminal.TransactionSafeDynamicType (terminal.TransactionSafeDynamicLater ∷ []) e
passes_other test terminal.TransactionSafeDynamicType _ h e = absurd (true≢false (back h))
passes_other test terminal.TransactionSafeDynamicLater terminal.TransactionSafeDynamic h e =
    first_passes test terminal.TransactionSafeDynamicLater [] (rest_passes test terminal.TransactionSafeDynamicType
    (terminal.TransactionSafeDynamicLater ∷ []) e)
passes_other test terminal.TransactionSafeDynamicLater _ h e = absurd (true≢false (back h))
passes_other test _ _ h e = absurd (true≢false (back h))

-- a token that is read as this terminal passes, where each that may be does
pub passed : (test : Terminal → Bool) (t : Terminal) → all_readings test t ≡ true → (s : Terminal) → ReadsAs s t → test s ≡ true
passed test t e s (inl h) = ap test h ∙ (and_parts (test t) (list_all test (others t)) e).0
passed test t e s (inr h) = passes_other test s t h (and_parts (test t) (list_all test (others t)) e).1

-- and it does not, where none that may be does
pub passed_not : (test : Terminal → Bool) (t : Terminal) → all_readings (λ z. not (test z)) t ≡ true → (s : Terminal) → ReadsAs s t → test s ≡ false
passed_not test t e s h = not-true (test s) (passed (λ z. not (test z)) t e s h)

-- a terminal that no other sort of token is read as
abbrev pub is_plain : Terminal → Bool
is_plain terminal.TypeName = false
is_plain terminal.Abort = false
is_plain terminal.TxException = false
is_plain terminal.OptimizeForSynchronized = false
is_plain terminal.Override = false
is_plain terminal.Final = false
is_plain terminal.TransactionSafe = false
is_plain terminal.TransactionSafeDynamic = false
is_plain _ = true

no_other : (s t : Terminal) → stands_for s t ≡ true → is_plain t ≡ true → ⊥
no_other terminal.AbortType terminal.TypeName h e = true≢false (back e)
no_other terminal.AbortType terminal.Abort h e = true≢false (back e)
no_other terminal.AbortType _ h e = true≢false (back h)
no_other terminal.AbortLater terminal.Abort h e = true≢false (back e)
no_other terminal.AbortLater _ h e = true≢false (back h)
no_other terminal.TxExceptionType terminal.TypeName h e = true≢false (back e)
no_other terminal.TxExceptionType terminal.TxException h e = true≢false (back e)
no_other terminal.TxExceptionType _ h e = true≢false (back h)
no_other terminal.TxExceptionLater terminal.TxException h e = true≢false (back e)
no_other terminal.TxExceptionLater _ h e = true≢false (back h)
no_other terminal.OptimizeForSynchronizedType terminal.TypeName h e = true≢false (back e)
no_other terminal.OptimizeForSynchronizedType terminal.OptimizeForSynchronized h e = true≢false (back e)
no_other terminal.OptimizeForSynchronizedType _ h e = true≢false (back h)
no_other terminal.OptimizeForSynchronizedLater terminal.OptimizeForSynchronized h e = true≢false (back e)
no_other terminal.OptimizeForSynchronizedLater _ h e = true≢false (back h)
no_other terminal.OverrideType terminal.TypeName h e = true≢false (back e)
no_other terminal.OverrideType terminal.Override h e = true≢false (back e)
no_other terminal.OverrideType _ h e = true≢false (back h)
no_other terminal.OverrideLater terminal.Override h e = true≢false (back e)
no_other terminal.OverrideLater _ h e = true≢false (back h)
no_other terminal.FinalType terminal.TypeName h e = true≢false (back e)
no_other terminal.FinalType terminal.Final h e = true≢false (back e)
no_other terminal.FinalType _ h e = true≢false (back h)
no_other terminal.FinalLater terminal.Final h e = true≢false (back e)
no_other terminal.FinalLater _ h e = true≢false (back h)
no_other terminal.TransactionSafeType terminal.TypeName h e = true≢false (back e)
no_other terminal.TransactionSafeType terminal.TransactionSafe h e = true≢false (back e)
no_other terminal.TransactionSafeType _ h e = true≢false (back h)
no_other terminal.TransactionSafeLater terminal.TransactionSafe h e = true≢false (back e)
no_other terminal.TransactionSafeLater _ h e = true≢false (back h)
no_other terminal.TransactionSafeDynamicType terminal.TypeName h e = true≢false (back e)
no_other terminal.TransactionSafeDynamicType terminal.TransactionSafeDynamic h e = true≢false (back e)
no_other terminal.TransactionSafeDynamicType _ h e = true≢false (back h)
no_other terminal.TransactionSafeDynamicLater terminal.TransactionSafeDynamic h e = true≢false (back e)
no_other terminal.TransactionSafeDynamicLater _ h e = true≢false (back h)
no_other _ _ h e = true≢false (back h)

pub exactly : (t : Terminal) → is_plain t ≡ true → (s : Terminal) → ReadsAs s t → s ≡ t
exactly t e s (inl h) = h
exactly t e s (inr h) = absurd (no_other s t h e)

-- a terminal of a group is one of a token
pub token_by : (test : Terminal → Bool) → passes (λ s. implies (test s) (not (is_end s))) ≡ true → (s : Terminal) → test s ≡ true → is_end s ≡ false
token_by test e s h = not-true (is_end s) (implied (test s) (not (is_end s)) (at_each (λ z. implies (test z) (not (is_end z))) e s) h)

-- a terminal binds between operands
abbrev binds_by : ℕ → Bool
binds_by zero = false
binds_by (suc n) = true

abbrev pub binds : Terminal → Bool
binds s = binds_by (level_of s)

pub binds_so : (s : Terminal) (n : ℕ) → level_of s ≡ suc n → binds s ≡ true
binds_so s n h = ap binds_by h
