-- The names of the rules.
use Rattle.std.specs.Prelude.{ℕ, Bool, List, [], ◌∷◌, ◌||◌, map, codes}
use Rattle.std.specs.List.{list_any}
use Rattle.std.specs.Str.{bytes_eq}
use Rattle.rule_texts.specs.declared.table.Explanation.{Explanation}

-- the rules of the language
abbrev pub ill_formed : List (List ℕ)
ill_formed =
    codes "UnknownName"
    ∷ codes "Redeclared"
    ∷ codes "TypeDiffers"
    ∷ codes "SafetyDiffers"
    ∷ codes "BadDeclaration"
    ∷ codes "NotConstant"
    ∷ codes "NoConversion"
    ∷ codes "NoViable"
    ∷ codes "Ambiguous"
    ∷ codes "NotLvalue"
    ∷ codes "ConstTarget"
    ∷ codes "BadOperand"
    ∷ codes "Incomplete"
    ∷ codes "AbstractObject"
    ∷ codes "NoDefault"
    ∷ codes "NoCopy"
    ∷ codes "BadInit"
    ∷ codes "Narrowing"
    ∷ codes "NoMember"
    ∷ codes "NotCallable"
    ∷ codes "BadReturn"
    ∷ codes "BadBreak"
    ∷ codes "BadThrow"
    ∷ codes "BadCatch"
    ∷ codes "NotTriviallyCopyable"
    ∷ codes "Capture"
    ∷ codes "BadCase"
    ∷ codes "JumpPastInit"
    ∷ codes "BadMain"
    ∷ codes "OutOfProfile"
    ∷ []

-- the first two steps, the rules of overriding, the limits of a source, and why a part is unsafe
abbrev pub others : List (List ℕ)
others =
    codes "Lex"
    ∷ codes "Syntax"
    ∷ codes "OverrideNothing"
    ∷ codes "OverridesFinal"
    ∷ codes "BaseFinal"
    ∷ codes "ReturnDiffers"
    ∷ codes "LooserNoexcept"
    ∷ codes "DynamicOverSafe"
    ∷ codes "DynamicNotVirtual"
    ∷ codes "JumpIntoBlock"
    ∷ codes "Size"
    ∷ codes "Frame"
    ∷ codes "Params"
    ∷ codes "Exception"
    ∷ codes "VolatileRead"
    ∷ codes "VolatileWrite"
    ∷ codes "VolatileTemp"
    ∷ codes "VolatileLocal"
    ∷ codes "VolatileParam"
    ∷ codes "CallsUnsafe"
    ∷ codes "CallsUnsafePointer"
    ∷ []

abbrev pub is_in : List (List ℕ) → List ℕ → Bool
is_in names word = list_any (λ name. bytes_eq name word) names

abbrev pub is_rule : List ℕ → Bool
is_rule word = is_in ill_formed word || is_in others word

abbrev pub rule_of : Explanation → List ℕ
rule_of e = e.rule.now
