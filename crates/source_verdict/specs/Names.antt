-- The names of rules, reasons and limits, as refusals have them.
use Rattle.std.specs.Prelude.{ℕ, List, codes}
use Rattle.cpp_tree.specs.declared.faults.IllRule.{IllRule}
use Rattle.cpp_tree.specs.declared.faults.IllRule.TheVariants as ill
use Rattle.cpp_tree.specs.declared.faults.OverrideRule.{OverrideRule}
use Rattle.cpp_tree.specs.declared.faults.OverrideRule.TheVariants as override
use Rattle.cpp_tree.specs.declared.faults.UnsafeReason.{UnsafeReason}
use Rattle.cpp_tree.specs.declared.faults.UnsafeReason.TheVariants as reason
use Rattle.cpp_tree.specs.declared.faults.LimitKind.{LimitKind}
use Rattle.cpp_tree.specs.declared.faults.LimitKind.TheVariants as limit

abbrev pub ill_name : IllRule → List ℕ
ill_name ill.UnknownName = codes "UnknownName"
ill_name ill.Redeclared = codes "Redeclared"
ill_name ill.TypeDiffers = codes "TypeDiffers"
ill_name ill.SafetyDiffers = codes "SafetyDiffers"
ill_name ill.BadDeclaration = codes "BadDeclaration"
ill_name ill.NotConstant = codes "NotConstant"
ill_name ill.NoConversion = codes "NoConversion"
ill_name ill.NoViable = codes "NoViable"
ill_name ill.Ambiguous = codes "Ambiguous"
ill_name ill.NotLvalue = codes "NotLvalue"
ill_name ill.ConstTarget = codes "ConstTarget"
ill_name ill.BadOperand = codes "BadOperand"
ill_name ill.Incomplete = codes "Incomplete"
ill_name ill.AbstractObject = codes "AbstractObject"
ill_name ill.NoDefault = codes "NoDefault"
ill_name ill.NoCopy = codes "NoCopy"
ill_name ill.BadInit = codes "BadInit"
ill_name ill.Narrowing = codes "Narrowing"
ill_name ill.NoMember = codes "NoMember"
ill_name ill.NotCallable = codes "NotCallable"
ill_name ill.BadReturn = codes "BadReturn"
ill_name ill.BadBreak = codes "BadBreak"
ill_name ill.BadThrow = codes "BadThrow"
ill_name ill.BadCatch = codes "BadCatch"
ill_name ill.NotTriviallyCopyable = codes "NotTriviallyCopyable"
ill_name ill.Capture = codes "Capture"
ill_name ill.BadCase = codes "BadCase"
ill_name ill.JumpPastInit = codes "JumpPastInit"
ill_name ill.BadMain = codes "BadMain"
ill_name ill.OutOfProfile = codes "OutOfProfile"

abbrev pub override_name : OverrideRule → List ℕ
override_name override.OverrideNothing = codes "OverrideNothing"
override_name override.OverridesFinal = codes "OverridesFinal"
override_name override.BaseFinal = codes "BaseFinal"
override_name override.ReturnDiffers = codes "ReturnDiffers"
override_name override.LooserNoexcept = codes "LooserNoexcept"
override_name override.DynamicOverSafe = codes "DynamicOverSafe"
override_name override.DynamicNotVirtual = codes "DynamicNotVirtual"

abbrev pub reason_name : UnsafeReason → List ℕ
reason_name reason.VolatileRead = codes "VolatileRead"
reason_name reason.VolatileWrite = codes "VolatileWrite"
reason_name reason.VolatileTemp = codes "VolatileTemp"
reason_name reason.VolatileLocal = codes "VolatileLocal"
reason_name reason.VolatileParam = codes "VolatileParam"
reason_name reason.CallsUnsafe = codes "CallsUnsafe"
reason_name reason.CallsUnsafePointer = codes "CallsUnsafePointer"

abbrev pub limit_name : LimitKind → List ℕ
limit_name limit.Size = codes "Size"
limit_name limit.Frame = codes "Frame"
limit_name limit.Params = codes "Params"
limit_name limit.Exception = codes "Exception"
