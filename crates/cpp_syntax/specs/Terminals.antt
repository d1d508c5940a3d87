-- Groups of terminals, as the lines of the grammar name them.
use Rattle.std.specs.Prelude.{◌≡◌, ◌⊎◌, ℕ, Bool, true, false, ◌||◌}
use Rattle.cpp_syntax.specs.declared.terminal.Terminal.{Terminal}
use Rattle.cpp_syntax.specs.declared.terminal.Terminal.TheVariants as terminal

-- N, a name that names anything but a type
abbrev pub is_name : Terminal → Bool
is_name terminal.Name = true
is_name terminal.Abort = true
is_name terminal.TxException = true
is_name terminal.OptimizeForSynchronized = true
is_name terminal.Override = true
is_name terminal.Final = true
is_name terminal.TransactionSafe = true
is_name terminal.TransactionSafeDynamic = true
is_name _ = false

-- T, the name of a type that is declared before
abbrev pub is_type_name : Terminal → Bool
is_type_name terminal.TypeName = true
is_type_name terminal.AbortType = true
is_type_name terminal.TxExceptionType = true
is_type_name terminal.OptimizeForSynchronizedType = true
is_type_name terminal.OverrideType = true
is_type_name terminal.FinalType = true
is_type_name terminal.TransactionSafeType = true
is_type_name terminal.TransactionSafeDynamicType = true
is_type_name _ = false

-- Words that are read as such in some lines of the grammar only, where a type has their name: they are read as these
-- words there, and as the name of a type elsewhere, once it is declared.

-- a token of the first sort may be read as the second terminal, beside its own
abbrev pub stands_for : Terminal → Terminal → Bool
stands_for terminal.AbortType terminal.TypeName = true
stands_for terminal.AbortType terminal.Abort = true
stands_for terminal.AbortLater terminal.Abort = true
stands_for terminal.TxExceptionType terminal.TypeName = true
stands_for terminal.TxExceptionType terminal.TxException = true
stands_for terminal.TxExceptionLater terminal.TxException = true
stands_for terminal.OptimizeForSynchronizedType terminal.TypeName = true
stands_for terminal.OptimizeForSynchronizedType terminal.OptimizeForSynchronized = true
stands_for terminal.OptimizeForSynchronizedLater terminal.OptimizeForSynchronized = true
stands_for terminal.OverrideType terminal.TypeName = true
stands_for terminal.OverrideType terminal.Override = true
stands_for terminal.OverrideLater terminal.Override = true
stands_for terminal.FinalType terminal.TypeName = true
stands_for terminal.FinalType terminal.Final = true
stands_for terminal.FinalLater terminal.Final = true
stands_for terminal.TransactionSafeType terminal.TypeName = true
stands_for terminal.TransactionSafeType terminal.TransactionSafe = true
stands_for terminal.TransactionSafeLater terminal.TransactionSafe = true
stands_for terminal.TransactionSafeDynamicType terminal.TypeName = true
stands_for terminal.TransactionSafeDynamicType terminal.TransactionSafeDynamic = true
stands_for terminal.TransactionSafeDynamicLater terminal.TransactionSafeDynamic = true
stands_for _ _ = false

-- a token of a sort is read as a terminal
abbrev pub ReadsAs : Terminal → Terminal → Type 0
ReadsAs s t = (s ≡ t) ⊎ (stands_for s t ≡ true)

-- what a name is, given its spelling, behind the index where it becomes the name of a type, and before
abbrev pub as_type_name : Terminal → Terminal
as_type_name terminal.Abort = terminal.AbortType
as_type_name terminal.TxException = terminal.TxExceptionType
as_type_name terminal.OptimizeForSynchronized = terminal.OptimizeForSynchronizedType
as_type_name terminal.Override = terminal.OverrideType
as_type_name terminal.Final = terminal.FinalType
as_type_name terminal.TransactionSafe = terminal.TransactionSafeType
as_type_name terminal.TransactionSafeDynamic = terminal.TransactionSafeDynamicType
as_type_name _ = terminal.TypeName

abbrev pub before_type_name : Terminal → Terminal
before_type_name terminal.Abort = terminal.AbortLater
before_type_name terminal.TxException = terminal.TxExceptionLater
before_type_name terminal.OptimizeForSynchronized = terminal.OptimizeForSynchronizedLater
before_type_name terminal.Override = terminal.OverrideLater
before_type_name terminal.Final = terminal.FinalLater
before_type_name terminal.TransactionSafe = terminal.TransactionSafeLater
before_type_name terminal.TransactionSafeDynamic = terminal.TransactionSafeDynamicLater
before_type_name _ = terminal.Other

-- literals

abbrev pub is_integer : Terminal → Bool
is_integer terminal.Zero = true
is_integer terminal.Integer = true
is_integer _ = false

abbrev pub is_zero : Terminal → Bool
is_zero terminal.Zero = true
is_zero _ = false

abbrev pub is_character : Terminal → Bool
is_character terminal.Character = true
is_character _ = false

abbrev pub is_string : Terminal → Bool
is_string terminal.String = true
is_string _ = false

abbrev pub is_boolean : Terminal → Bool
is_boolean terminal.True = true
is_boolean terminal.False = true
is_boolean _ = false

abbrev is_nullptr_or_this : Terminal → Bool
is_nullptr_or_this terminal.Nullptr = true
is_nullptr_or_this terminal.This = true
is_nullptr_or_this _ = false

-- a literal, or this
abbrev pub is_literal : Terminal → Bool
is_literal s = is_integer s || is_character s || is_string s || is_boolean s || is_nullptr_or_this s

-- words of types: those of integers, and void, bool and auto
abbrev pub is_type_word : Terminal → Bool
is_type_word terminal.Void = true
is_type_word terminal.Bool = true
is_type_word terminal.Auto = true
is_type_word terminal.Char = true
is_type_word terminal.Short = true
is_type_word terminal.Int = true
is_type_word terminal.Long = true
is_type_word terminal.Signed = true
is_type_word terminal.Unsigned = true
is_type_word _ = false

abbrev pub is_cv : Terminal → Bool
is_cv terminal.Const = true
is_cv terminal.Volatile = true
is_cv _ = false

-- transaction_safe and transaction_safe_dynamic
abbrev pub is_safety : Terminal → Bool
is_safety terminal.TransactionSafe = true
is_safety terminal.TransactionSafeType = true
is_safety terminal.TransactionSafeLater = true
is_safety terminal.TransactionSafeDynamic = true
is_safety terminal.TransactionSafeDynamicType = true
is_safety terminal.TransactionSafeDynamicLater = true
is_safety _ = false

-- override and final
abbrev pub is_virt : Terminal → Bool
is_virt terminal.Override = true
is_virt terminal.OverrideType = true
is_virt terminal.OverrideLater = true
is_virt terminal.Final = true
is_virt terminal.FinalType = true
is_virt terminal.FinalLater = true
is_virt _ = false

abbrev pub is_class_key : Terminal → Bool
is_class_key terminal.Class = true
is_class_key terminal.Struct = true
is_class_key _ = false

abbrev pub is_access : Terminal → Bool
is_access terminal.Public = true
is_access terminal.Protected = true
is_access terminal.Private = true
is_access _ = false

-- static, extern and inline
abbrev pub is_specifier : Terminal → Bool
is_specifier terminal.Static = true
is_specifier terminal.Extern = true
is_specifier terminal.Inline = true
is_specifier _ = false

abbrev pub is_atomic : Terminal → Bool
is_atomic terminal.AtomicNoexcept = true
is_atomic terminal.AtomicCancel = true
is_atomic terminal.AtomicCommit = true
is_atomic _ = false

-- operators

-- those that stand before an operand
abbrev pub is_prefix : Terminal → Bool
is_prefix terminal.PlusPlus = true
is_prefix terminal.MinusMinus = true
is_prefix terminal.Plus = true
is_prefix terminal.Minus = true
is_prefix terminal.Bang = true
is_prefix terminal.Tilde = true
is_prefix terminal.Star = true
is_prefix terminal.Amp = true
is_prefix _ = false

-- ++ and --
abbrev pub is_step : Terminal → Bool
is_step terminal.PlusPlus = true
is_step terminal.MinusMinus = true
is_step _ = false

-- how loosely an operator between two operands binds, from 1 for * to 10 for ||; 0 of what is none
abbrev pub level_of : Terminal → ℕ
level_of terminal.Star = 1
level_of terminal.Slash = 1
level_of terminal.Percent = 1
level_of terminal.Plus = 2
level_of terminal.Minus = 2
level_of terminal.ShiftLeft = 3
level_of terminal.ShiftRight = 3
level_of terminal.Less = 4
level_of terminal.Greater = 4
level_of terminal.LessEqual = 4
level_of terminal.GreaterEqual = 4
level_of terminal.EqualEqual = 5
level_of terminal.NotEqual = 5
level_of terminal.Amp = 6
level_of terminal.Caret = 7
level_of terminal.Bar = 8
level_of terminal.AmpAmp = 9
level_of terminal.BarBar = 10
level_of _ = 0

-- = and the compound assignments
abbrev pub is_assignment : Terminal → Bool
is_assignment terminal.Equal = true
is_assignment terminal.PlusEqual = true
is_assignment terminal.MinusEqual = true
is_assignment terminal.StarEqual = true
is_assignment terminal.SlashEqual = true
is_assignment terminal.PercentEqual = true
is_assignment terminal.CaretEqual = true
is_assignment terminal.AmpEqual = true
is_assignment terminal.BarEqual = true
is_assignment terminal.ShiftLeftEqual = true
is_assignment terminal.ShiftRightEqual = true
is_assignment _ = false

-- = and &, which capture by default
abbrev pub is_capture_default : Terminal → Bool
is_capture_default terminal.Equal = true
is_capture_default terminal.Amp = true
is_capture_default _ = false

-- any token that is no bracket
abbrev pub is_unbracketed : Terminal → Bool
is_unbracketed terminal.OpenParen = false
is_unbracketed terminal.CloseParen = false
is_unbracketed terminal.OpenBracket = false
is_unbracketed terminal.CloseBracket = false
is_unbracketed terminal.OpenBrace = false
is_unbracketed terminal.CloseBrace = false
is_unbracketed terminal.End = false
is_unbracketed _ = true

-- any token that is no bracket, and neither a comma nor a semicolon nor ?
abbrev pub is_unseparated : Terminal → Bool
is_unseparated terminal.Comma = false
is_unseparated terminal.Semicolon = false
is_unseparated terminal.Question = false
is_unseparated s = is_unbracketed s

-- any token that is no bracket, and neither a semicolon nor ? nor :
abbrev pub is_chosen : Terminal → Bool
is_chosen terminal.Semicolon = false
is_chosen terminal.Question = false
is_chosen terminal.Colon = false
is_chosen s = is_unbracketed s

-- What begins the operand of a cast, but for (, and for ++ and --, before which one more token is asked.
abbrev pub begins_operand : Terminal → Bool
begins_operand terminal.Zero = true
begins_operand terminal.Integer = true
begins_operand terminal.Character = true
begins_operand terminal.String = true
begins_operand terminal.True = true
begins_operand terminal.False = true
begins_operand terminal.Nullptr = true
begins_operand terminal.This = true
begins_operand terminal.Std = true
begins_operand terminal.Auto = false
begins_operand terminal.StaticCast = true
begins_operand terminal.Sizeof = true
begins_operand terminal.OpenBracket = true
begins_operand terminal.Plus = true
begins_operand terminal.Minus = true
begins_operand terminal.Bang = true
begins_operand terminal.Tilde = true
begins_operand terminal.Star = true
begins_operand terminal.Amp = true
begins_operand s = is_name s || is_type_name s || is_type_word s

-- Tests for one terminal.

abbrev pub std : Terminal → Bool
std terminal.Std = true
std _ = false

abbrev pub abort_word : Terminal → Bool
abort_word terminal.Abort = true
abort_word terminal.AbortType = true
abort_word terminal.AbortLater = true
abort_word _ = false

abbrev pub tx_exception_word : Terminal → Bool
tx_exception_word terminal.TxException = true
tx_exception_word terminal.TxExceptionType = true
tx_exception_word terminal.TxExceptionLater = true
tx_exception_word _ = false

abbrev pub optimize_word : Terminal → Bool
optimize_word terminal.OptimizeForSynchronized = true
optimize_word terminal.OptimizeForSynchronizedType = true
optimize_word terminal.OptimizeForSynchronizedLater = true
optimize_word _ = false

abbrev pub final_word : Terminal → Bool
final_word terminal.Final = true
final_word terminal.FinalType = true
final_word terminal.FinalLater = true
final_word _ = false

abbrev pub nullptr_word : Terminal → Bool
nullptr_word terminal.Nullptr = true
nullptr_word _ = false

abbrev pub void_word : Terminal → Bool
void_word terminal.Void = true
void_word _ = false

abbrev pub const_word : Terminal → Bool
const_word terminal.Const = true
const_word _ = false

abbrev pub this_word : Terminal → Bool
this_word terminal.This = true
this_word _ = false

abbrev pub sizeof_word : Terminal → Bool
sizeof_word terminal.Sizeof = true
sizeof_word _ = false

abbrev pub static_cast_word : Terminal → Bool
static_cast_word terminal.StaticCast = true
static_cast_word _ = false

abbrev pub throw_word : Terminal → Bool
throw_word terminal.Throw = true
throw_word _ = false

abbrev pub mutable_word : Terminal → Bool
mutable_word terminal.Mutable = true
mutable_word _ = false

abbrev pub noexcept_word : Terminal → Bool
noexcept_word terminal.Noexcept = true
noexcept_word _ = false

abbrev pub using_word : Terminal → Bool
using_word terminal.Using = true
using_word _ = false

abbrev pub enum_word : Terminal → Bool
enum_word terminal.Enum = true
enum_word _ = false

abbrev pub extern_word : Terminal → Bool
extern_word terminal.Extern = true
extern_word _ = false

abbrev pub inline_word : Terminal → Bool
inline_word terminal.Inline = true
inline_word _ = false

abbrev pub virtual_word : Terminal → Bool
virtual_word terminal.Virtual = true
virtual_word _ = false

abbrev pub explicit_word : Terminal → Bool
explicit_word terminal.Explicit = true
explicit_word _ = false

abbrev pub if_word : Terminal → Bool
if_word terminal.If = true
if_word _ = false

abbrev pub else_word : Terminal → Bool
else_word terminal.Else = true
else_word _ = false

abbrev pub while_word : Terminal → Bool
while_word terminal.While = true
while_word _ = false

abbrev pub do_word : Terminal → Bool
do_word terminal.Do = true
do_word _ = false

abbrev pub for_word : Terminal → Bool
for_word terminal.For = true
for_word _ = false

abbrev pub switch_word : Terminal → Bool
switch_word terminal.Switch = true
switch_word _ = false

abbrev pub case_word : Terminal → Bool
case_word terminal.Case = true
case_word _ = false

abbrev pub default_word : Terminal → Bool
default_word terminal.Default = true
default_word _ = false

abbrev pub break_word : Terminal → Bool
break_word terminal.Break = true
break_word _ = false

abbrev pub continue_word : Terminal → Bool
continue_word terminal.Continue = true
continue_word _ = false

abbrev pub return_word : Terminal → Bool
return_word terminal.Return = true
return_word _ = false

abbrev pub try_word : Terminal → Bool
try_word terminal.Try = true
try_word _ = false

abbrev pub catch_word : Terminal → Bool
catch_word terminal.Catch = true
catch_word _ = false

abbrev pub synchronized_word : Terminal → Bool
synchronized_word terminal.Synchronized = true
synchronized_word _ = false

abbrev pub open_paren : Terminal → Bool
open_paren terminal.OpenParen = true
open_paren _ = false

abbrev pub close_paren : Terminal → Bool
close_paren terminal.CloseParen = true
close_paren _ = false

abbrev pub open_bracket : Terminal → Bool
open_bracket terminal.OpenBracket = true
open_bracket _ = false

abbrev pub close_bracket : Terminal → Bool
close_bracket terminal.CloseBracket = true
close_bracket _ = false

abbrev pub open_brace : Terminal → Bool
open_brace terminal.OpenBrace = true
open_brace _ = false

abbrev pub close_brace : Terminal → Bool
close_brace terminal.CloseBrace = true
close_brace _ = false

abbrev pub semicolon : Terminal → Bool
semicolon terminal.Semicolon = true
semicolon _ = false

abbrev pub comma : Terminal → Bool
comma terminal.Comma = true
comma _ = false

abbrev pub colon : Terminal → Bool
colon terminal.Colon = true
colon _ = false

abbrev pub colon_colon : Terminal → Bool
colon_colon terminal.ColonColon = true
colon_colon _ = false

abbrev pub question : Terminal → Bool
question terminal.Question = true
question _ = false

abbrev pub dot : Terminal → Bool
dot terminal.Dot = true
dot _ = false

abbrev pub arrow : Terminal → Bool
arrow terminal.Arrow = true
arrow _ = false

abbrev pub ellipsis : Terminal → Bool
ellipsis terminal.Ellipsis = true
ellipsis _ = false

abbrev pub star : Terminal → Bool
star terminal.Star = true
star _ = false

abbrev pub amp : Terminal → Bool
amp terminal.Amp = true
amp _ = false

abbrev pub tilde : Terminal → Bool
tilde terminal.Tilde = true
tilde _ = false

abbrev pub less : Terminal → Bool
less terminal.Less = true
less _ = false

abbrev pub greater : Terminal → Bool
greater terminal.Greater = true
greater _ = false

abbrev pub equal : Terminal → Bool
equal terminal.Equal = true
equal _ = false

-- behind the last token
abbrev pub is_end : Terminal → Bool
is_end terminal.End = true
is_end _ = false
