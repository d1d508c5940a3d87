-- A test that every terminal passes, as computed over the list of all.
--
-- at_each test refl : (s : Terminal) → test s ≡ true        where `passes test` computes to true
-- implied a b : implies a b ≡ true → a ≡ true → b ≡ true  to be used with it
use Rattle.std.proofs.Common.{◌≡◌, ℕ, zero, suc, Bool, true, false, ◌&&◌, refl, sym as back, subst, List, [], ◌∷◌, get_or, true≢false}
use Rattle.std.specs.List.{list_all}
use Rattle.std.proofs.lemmas.Bool.{and_parts}
use Rattle.cpp_syntax.specs.declared.terminal.Terminal.{Terminal}
use Rattle.cpp_syntax.specs.declared.terminal.Terminal.TheVariants as terminal

abbrev pub every_terminal : List Terminal
every_terminal =
    terminal.Name ∷ terminal.TypeName ∷ terminal.Std ∷ terminal.Abort ∷ terminal.TxException ∷ terminal.OptimizeForSynchronized ∷ terminal.Override ∷
    terminal.Final ∷ terminal.TransactionSafe ∷ terminal.TransactionSafeDynamic ∷ terminal.AbortType ∷ terminal.TxExceptionType ∷
    terminal.OptimizeForSynchronizedType ∷ terminal.OverrideType ∷ terminal.FinalType ∷ terminal.TransactionSafeType ∷
    terminal.TransactionSafeDynamicType ∷ terminal.AbortLater ∷ terminal.TxExceptionLater ∷ terminal.OptimizeForSynchronizedLater ∷
    terminal.OverrideLater ∷ terminal.FinalLater ∷ terminal.TransactionSafeLater ∷ terminal.TransactionSafeDynamicLater ∷ terminal.Zero ∷
    terminal.Integer ∷ terminal.Character ∷ terminal.String ∷ terminal.True ∷ terminal.False ∷ terminal.Nullptr ∷ terminal.Void ∷ terminal.Bool ∷
    terminal.Auto ∷ terminal.Char ∷ terminal.Short ∷ terminal.Int ∷ terminal.Long ∷ terminal.Signed ∷ terminal.Unsigned ∷ terminal.Const ∷
    terminal.Volatile ∷ terminal.This ∷ terminal.Sizeof ∷ terminal.StaticCast ∷ terminal.Throw ∷ terminal.Mutable ∷ terminal.Noexcept ∷
    terminal.Using ∷ terminal.Class ∷ terminal.Struct ∷ terminal.Enum ∷ terminal.Static ∷ terminal.Extern ∷ terminal.Inline ∷ terminal.Virtual ∷
    terminal.Explicit ∷ terminal.Public ∷ terminal.Protected ∷ terminal.Private ∷ terminal.If ∷ terminal.Else ∷ terminal.While ∷ terminal.Do ∷
    terminal.For ∷ terminal.Switch ∷ terminal.Case ∷ terminal.Default ∷ terminal.Break ∷ terminal.Continue ∷ terminal.Return ∷ terminal.Try ∷
    terminal.Catch ∷ terminal.Synchronized ∷ terminal.AtomicNoexcept ∷ terminal.AtomicCancel ∷ terminal.AtomicCommit ∷ terminal.OpenParen ∷
    terminal.CloseParen ∷ terminal.OpenBracket ∷ terminal.CloseBracket ∷ terminal.OpenBrace ∷ terminal.CloseBrace ∷ terminal.Semicolon ∷
    terminal.Comma ∷ terminal.Colon ∷ terminal.ColonColon ∷ terminal.Question ∷ terminal.Dot ∷ terminal.Arrow ∷ terminal.Ellipsis ∷ terminal.Plus ∷
    terminal.Minus ∷ terminal.Star ∷ terminal.Slash ∷ terminal.Percent ∷ terminal.Caret ∷ terminal.Amp ∷ terminal.Bar ∷ terminal.Tilde ∷
    terminal.Bang ∷ terminal.Less ∷ terminal.Greater ∷ terminal.ShiftLeft ∷ terminal.ShiftRight ∷ terminal.EqualEqual ∷ terminal.NotEqual ∷
    terminal.LessEqual ∷ terminal.GreaterEqual ∷ terminal.AmpAmp ∷ terminal.BarBar ∷ terminal.PlusPlus ∷ terminal.MinusMinus ∷ terminal.Equal ∷
    terminal.PlusEqual ∷ terminal.MinusEqual ∷ terminal.StarEqual ∷ terminal.SlashEqual ∷ terminal.PercentEqual ∷ terminal.CaretEqual ∷
    terminal.AmpEqual ∷ terminal.BarEqual ∷ terminal.ShiftLeftEqual ∷ terminal.ShiftRightEqual ∷ terminal.Other ∷ terminal.End ∷ []

abbrev pub number_of : Terminal → ℕ
number_of terminal.Name = 0
number_of terminal.TypeName = 1
number_of terminal.Std = 2
number_of terminal.Abort = 3
number_of terminal.TxException = 4
number_of terminal.OptimizeForSynchronized = 5
number_of terminal.Override = 6
number_of terminal.Final = 7
number_of terminal.TransactionSafe = 8
number_of terminal.TransactionSafeDynamic = 9
number_of terminal.AbortType = 10
number_of terminal.TxExceptionType = 11
number_of terminal.OptimizeForSynchronizedType = 12
number_of terminal.OverrideType = 13
number_of terminal.FinalType = 14
number_of terminal.TransactionSafeType = 15
number_of terminal.TransactionSafeDynamicType = 16
number_of terminal.AbortLater = 17
number_of terminal.TxExceptionLater = 18
number_of terminal.OptimizeForSynchronizedLater = 19
number_of terminal.OverrideLater = 20
number_of terminal.FinalLater = 21
number_of terminal.TransactionSafeLater = 22
number_of terminal.TransactionSafeDynamicLater = 23
number_of terminal.Zero = 24
number_of terminal.Integer = 25
number_of terminal.Character = 26
number_of terminal.String = 27
number_of terminal.True = 28
number_of terminal.False = 29
number_of terminal.Nullptr = 30
number_of terminal.Void = 31
number_of terminal.Bool = 32
number_of terminal.Auto = 33
number_of terminal.Char = 34
number_of terminal.Short = 35
number_of terminal.Int = 36
number_of terminal.Long = 37
number_of terminal.Signed = 38
number_of terminal.Unsigned = 39
number_of terminal.Const = 40
number_of terminal.Volatile = 41
number_of terminal.This = 42
number_of terminal.Sizeof = 43
number_of terminal.StaticCast = 44
number_of terminal.Throw = 45
number_of terminal.Mutable = 46
number_of terminal.Noexcept = 47
number_of terminal.Using = 48
number_of terminal.Class = 49
number_of terminal.Struct = 50
number_of terminal.Enum = 51
number_of terminal.Static = 52
number_of terminal.Extern = 53
number_of terminal.Inline = 54
number_of terminal.Virtual = 55
number_of terminal.Explicit = 56
number_of terminal.Public = 57
number_of terminal.Protected = 58
number_of terminal.Private = 59
number_of terminal.If = 60
number_of terminal.Else = 61
number_of terminal.While = 62
number_of terminal.Do = 63
number_of terminal.For = 64
number_of terminal.Switch = 65
number_of terminal.Case = 66
number_of terminal.Default = 67
number_of terminal.Break = 68
number_of terminal.Continue = 69
number_of terminal.Return = 70
number_of terminal.Try = 71
number_of terminal.Catch = 72
number_of terminal.Synchronized = 73
number_of terminal.AtomicNoexcept = 74
number_of terminal.AtomicCancel = 75
number_of terminal.AtomicCommit = 76
number_of terminal.OpenParen = 77
number_of terminal.CloseParen = 78
number_of terminal.OpenBracket = 79
number_of terminal.CloseBracket = 80
number_of terminal.OpenBrace = 81
number_of terminal.CloseBrace = 82
number_of terminal.Semicolon = 83
number_of terminal.Comma = 84
number_of terminal.Colon = 85
number_of terminal.ColonColon = 86
number_of terminal.Question = 87
number_of terminal.Dot = 88
number_of terminal.Arrow = 89
number_of terminal.Ellipsis = 90
number_of terminal.Plus = 91
number_of terminal.Minus = 92
number_of terminal.Star = 93
number_of terminal.Slash = 94
number_of terminal.Percent = 95
number_of terminal.Caret = 96
number_of terminal.Amp = 97
number_of terminal.Bar = 98
number_of terminal.Tilde = 99
number_of terminal.Bang = 100
number_of terminal.Less = 101
number_of terminal.Greater = 102
number_of terminal.ShiftLeft = 103
number_of terminal.ShiftRight = 104
number_of terminal.EqualEqual = 105
number_of terminal.NotEqual = 106
number_of terminal.LessEqual = 107
number_of terminal.GreaterEqual = 108
number_of terminal.AmpAmp = 109
number_of terminal.BarBar = 110
number_of terminal.PlusPlus = 111
number_of terminal.MinusMinus = 112
number_of terminal.Equal = 113
number_of terminal.PlusEqual = 114
number_of terminal.MinusEqual = 115
number_of terminal.StarEqual = 116
number_of terminal.SlashEqual = 117
number_of terminal.PercentEqual = 118
number_of terminal.CaretEqual = 119
number_of terminal.AmpEqual = 120
number_of terminal.BarEqual = 121
number_of terminal.ShiftLeftEqual = 122
number_of terminal.ShiftRightEqual = 123
number_of terminal.Other = 124
number_of terminal.End = 125

pub at_number : (s : Terminal) → get_or every_terminal (number_of s) terminal.End ≡ s
at_number terminal.Name = refl
at_number terminal.TypeName = refl
at_number terminal.Std = refl
at_number terminal.Abort = refl
at_number terminal.TxException = refl
at_number terminal.OptimizeForSynchronized = refl
at_number terminal.Override = refl
at_number terminal.Final = refl
at_number terminal.TransactionSafe = refl
at_number terminal.TransactionSafeDynamic = refl
at_number terminal.AbortType = refl
at_number terminal.TxExceptionType = refl
at_number terminal.OptimizeForSynchronizedType = refl
at_number terminal.OverrideType = refl
at_number terminal.FinalType = refl
at_number terminal.TransactionSafeType = refl
at_number terminal.TransactionSafeDynamicType = refl
at_number terminal.AbortLater = refl
at_number terminal.TxExceptionLater = refl
at_number terminal.OptimizeForSynchronizedLater = refl
at_number terminal.OverrideLater = refl
at_number terminal.FinalLater = refl
at_number terminal.TransactionSafeLater = refl
at_number terminal.TransactionSafeDynamicLater = refl
at_number terminal.Zero = refl
at_number terminal.Integer = refl
at_number terminal.Character = refl
at_number terminal.String = refl
at_number terminal.True = refl
at_number terminal.False = refl
at_number terminal.Nullptr = refl
at_number terminal.Void = refl
at_number terminal.Bool = refl
at_number terminal.Auto = refl
at_number terminal.Char = refl
at_number terminal.Short = refl
at_number terminal.Int = refl
at_number terminal.Long = refl
at_number terminal.Signed = refl
at_number terminal.Unsigned = refl
at_number terminal.Const = refl
at_number terminal.Volatile = refl
at_number terminal.This = refl
at_number terminal.Sizeof = refl
at_number terminal.StaticCast = refl
at_number terminal.Throw = refl
at_number terminal.Mutable = refl
at_number terminal.Noexcept = refl
at_number terminal.Using = refl
at_number terminal.Class = refl
at_number terminal.Struct = refl
at_number terminal.Enum = refl
at_number terminal.Static = refl
at_number terminal.Extern = refl
at_number terminal.Inline = refl
at_number terminal.Virtual = refl
at_number terminal.Explicit = refl
at_number terminal.Public = refl
at_number terminal.Protected = refl
at_number terminal.Private = refl
at_number terminal.If = refl
at_number terminal.Else = refl
at_number terminal.While = refl
at_number terminal.Do = refl
at_number terminal.For = refl
at_number terminal.Switch = refl
at_number terminal.Case = refl
at_number terminal.Default = refl
at_number terminal.Break = refl
at_number terminal.Continue = refl
at_number terminal.Return = refl
at_number terminal.Try = refl
at_number terminal.Catch = refl
at_number terminal.Synchronized = refl
at_number terminal.AtomicNoexcept = refl
at_number terminal.AtomicCancel = refl
at_number terminal.AtomicCommit = refl
at_number terminal.OpenParen = refl
at_number terminal.CloseParen = refl
at_number terminal.OpenBracket = refl
at_number terminal.CloseBracket = refl
at_number terminal.OpenBrace = refl
at_number terminal.CloseBrace = refl
at_number terminal.Semicolon = refl
at_number terminal.Comma = refl
at_number terminal.Colon = refl
at_number terminal.ColonColon = refl
at_number terminal.Question = refl
at_number terminal.Dot = refl
at_number terminal.Arrow = refl
at_number terminal.Ellipsis = refl
at_number terminal.Plus = refl
at_number terminal.Minus = refl
at_number terminal.Star = refl
at_number terminal.Slash = refl
at_number terminal.Percent = refl
at_number terminal.Caret = refl
at_number terminal.Amp = refl
at_number terminal.Bar = refl
at_number terminal.Tilde = refl
at_number terminal.Bang = refl
at_number terminal.Less = refl
at_number terminal.Greater = refl
at_number terminal.ShiftLeft = refl
at_number terminal.ShiftRight = refl
at_number terminal.EqualEqual = refl
at_number terminal.NotEqual = refl
at_number terminal.LessEqual = refl
at_number terminal.GreaterEqual = refl
at_number terminal.AmpAmp = refl
at_number terminal.BarBar = refl
at_number terminal.PlusPlus = refl
at_number terminal.MinusMinus = refl
at_number terminal.Equal = refl
at_number terminal.PlusEqual = refl
at_number terminal.MinusEqual = refl
at_number terminal.StarEqual = refl
at_number terminal.SlashEqual = refl
at_number terminal.PercentEqual = refl
at_number terminal.CaretEqual = refl
at_number terminal.AmpEqual = refl
at_number terminal.BarEqual = refl
at_number terminal.ShiftLeftEqual = refl
at_number terminal.ShiftRightEqual = refl
at_number terminal.Other = refl
at_number terminal.End = refl

all_get : (test : Terminal → Bool) (xs : List Terminal) (i : ℕ) (d : Terminal) → list_all test xs ≡ true → test d ≡ true → test (get_or xs i d) ≡ true
all_get test [] i d e f = f
all_get test (x ∷ xs) zero d e f = (and_parts (test x) (list_all test xs) e).0
all_get test (x ∷ xs) (suc i) d e f = all_get test xs i d (and_parts (test x) (list_all test xs) e).1 f

-- each terminal passes the test
abbrev pub passes : (Terminal → Bool) → Bool
passes test = test terminal.End && list_all test every_terminal

pub at_each : (test : Terminal → Bool) → passes test ≡ true → (s : Terminal) → test s ≡ true
at_each test e s =
    let h = and_parts (test terminal.End) (list_all test every_terminal) e in subst (λ (z : Terminal). test z ≡ true) (at_number s)
    (all_get test every_terminal (number_of s) terminal.End h.1 h.0)

-- one Bool follows from another
abbrev pub implies : Bool → Bool → Bool
implies true b = b
implies false b = true

pub implied : (a b : Bool) → implies a b ≡ true → a ≡ true → b ≡ true
implied true b e f = e
implied false b e f = elim (true≢false (back f)) [ ]
