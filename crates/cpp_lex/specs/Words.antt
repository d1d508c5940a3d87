-- Names and keywords: C++14 [lex.name], [lex.key] with the alternative representations, and the keywords of
-- ISO/IEC TS 19841:2015. The words with a special meaning in some positions only, as `override`, are names.
use Rattle.std.specs.Prelude.{◌≡◌, ℕ, ◌+◌, Bool, true, List, [], ◌∷◌, codes, slice_index}
use Rattle.std.specs.List.{list_any}
use Rattle.std.specs.Str.{bytes_eq}
use Rattle.cpp_lex.specs.Bytes.{is_letter, is_word_byte, Run}

-- a letter or _, then letters, digits and _
pub record IsWord (text : List ℕ) (from to : ℕ) : Type 0 where
  pub first : is_letter (slice_index text from) ≡ true
  pub rest : Run is_word_byte text (from + 1) to

unfoldable pub keywords : List (List ℕ)
keywords =
    codes "alignas" ∷ codes "alignof" ∷ codes "asm" ∷ codes "auto" ∷ codes "bool" ∷ codes "break" ∷ codes "case"
    ∷ codes "catch" ∷ codes "char" ∷ codes "char16_t" ∷ codes "char32_t" ∷ codes "class" ∷ codes "const"
    ∷ codes "constexpr" ∷ codes "const_cast" ∷ codes "continue" ∷ codes "decltype" ∷ codes "default" ∷ codes "delete"
    ∷ codes "do" ∷ codes "double" ∷ codes "dynamic_cast" ∷ codes "else" ∷ codes "enum" ∷ codes "explicit"
    ∷ codes "export" ∷ codes "extern" ∷ codes "false" ∷ codes "float" ∷ codes "for" ∷ codes "friend" ∷ codes "goto"
    ∷ codes "if" ∷ codes "inline" ∷ codes "int" ∷ codes "long" ∷ codes "mutable" ∷ codes "namespace" ∷ codes "new"
    ∷ codes "noexcept" ∷ codes "nullptr" ∷ codes "operator" ∷ codes "private" ∷ codes "protected" ∷ codes "public"
    ∷ codes "register" ∷ codes "reinterpret_cast" ∷ codes "return" ∷ codes "short" ∷ codes "signed" ∷ codes "sizeof"
    ∷ codes "static" ∷ codes "static_assert" ∷ codes "static_cast" ∷ codes "struct" ∷ codes "switch"
    ∷ codes "template" ∷ codes "this" ∷ codes "thread_local" ∷ codes "throw" ∷ codes "true" ∷ codes "try"
    ∷ codes "typedef" ∷ codes "typeid" ∷ codes "typename" ∷ codes "union" ∷ codes "unsigned" ∷ codes "using"
    ∷ codes "virtual" ∷ codes "void" ∷ codes "volatile" ∷ codes "wchar_t" ∷ codes "while"
    ∷ codes "and" ∷ codes "and_eq" ∷ codes "bitand" ∷ codes "bitor" ∷ codes "compl" ∷ codes "not" ∷ codes "not_eq"
    ∷ codes "or" ∷ codes "or_eq" ∷ codes "xor" ∷ codes "xor_eq"
    ∷ codes "synchronized" ∷ codes "atomic_noexcept" ∷ codes "atomic_cancel" ∷ codes "atomic_commit" ∷ []

unfoldable pub is_keyword : List ℕ → Bool
is_keyword word = list_any (λ keyword. bytes_eq keyword word) keywords
