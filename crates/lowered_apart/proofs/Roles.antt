-- Which kids of which roles a node has.
use Rattle.std.proofs.Common.{◌≡◌, refl, Bool, true, false, ◌||◌, ℕ, zero, suc, List, [], ◌∷◌, Option, Some, None, unwrap_or, slice_get}
use Rattle.std.specs.Option.{option_or}
use Rattle.cpp_tree.specs.declared.kinds.TKind.{TKind}
use Rattle.cpp_tree.specs.declared.kinds.TKind.TheVariants.{Literal, Local, Global, Function, ClassTable, Load, Convert, Retype, Binary, Conditional, Comma, Assign, Update, CopyAssign, Materialize, FullExpression, Call, VirtualCall, PointerCall, Builtin as CallBuiltin, Throw, Rethrow, Store, CopyScalar, Construct, CopyConstruct, CopyFrom, Pieces, Piece, Elements, Block, Init, Defer, Loop, Switch, Case, Default, Break, Continue, Return, Try, Handler, Atomic, Synchronized, Destroy, Field}
use Rattle.cpp_tree.specs.declared.roles.Role.{Role}
use Rattle.cpp_tree.specs.declared.roles.Role.TheVariants.{Value, Word, Initialiser, CopyInit, Zero, Statement, BlockItem, SwitchItem, Step, Part, CopiedPart, Catch, Destruction, Scalar}
use Rattle.cpp_tree.specs.Roles.{Kids, kids_for, role_at, serves}
use Rattle.cpp_tree.specs.Trees.{Trees}
use Rattle.lowered_apart.specs.Still.{lets_wait, holds}
use Rattle.lowered_apart.specs.Suiting.{is_choice, none_chosen, kids_suit}

-- a statement may stand in this role, or what has statements
abbrev pub is_open : Role → Bool
is_open Statement = true
is_open BlockItem = true
is_open SwitchItem = true
is_open Step = true
is_open Catch = true
is_open role = false

abbrev pub is_word : Role → Bool
is_word Word = true
is_word role = false

-- a node of this kind stands in such roles alone
abbrev pub stands_open : TKind → Bool
stands_open (Block x0) = true
stands_open Defer = true
stands_open (Loop x0) = true
stands_open Switch = true
stands_open Try = true
stands_open (Handler x0) = true
stands_open (Atomic x0) = true
stands_open Synchronized = true
stands_open kind = false

abbrev pub calls : TKind → Bool
calls (Call func) = true
calls (VirtualCall func class slot pointer) = true
calls PointerCall = true
calls (Construct func) = true
calls kind = false

abbrev any_of : (Role → Bool) → List Role → Bool
any_of q [] = false
any_of q (r ∷ rs) = q r || any_of q rs

abbrev maybe_of : (Role → Bool) → Option Role → Bool
maybe_of q None = false
maybe_of q (Some r) = q r

-- one of the roles is such a one
abbrev pub has_role : (Role → Bool) → Kids → Bool
has_role q kids = any_of q kids.fixed || maybe_of q kids.others

or_first : (a b c : Bool) → a ≡ true → a || b || c ≡ true
or_first true b c e = refl
or_first false b c e = absurd cc

or_more : (a b c : Bool) → b || c ≡ true → a || b || c ≡ true
or_more true b c e = refl
or_more false b c e = e

role_among : (q : Role → Bool) → q Value ≡ false → (fixed : List Role) (others : Option Role) (i : ℕ)
    → q (unwrap_or (option_or (slice_get fixed i) others) Value) ≡ true → any_of q fixed || maybe_of q others ≡ true
role_among q n [] None zero e = absurd cc
role_among q n [] None (suc i) e = absurd cc
role_among q n [] (Some r) zero e = e
role_among q n [] (Some r) (suc i) e = e
role_among q n (r ∷ rs) others zero e = or_first (q r) (any_of q rs) (maybe_of q others) e
role_among q n (r ∷ rs) others (suc i) e = or_more (q r) (any_of q rs) (maybe_of q others) (role_among q n rs others i e)

pub role_of : (q : Role → Bool) → q Value ≡ false → (kids : Kids) (i : ℕ) → q (unwrap_or (role_at kids i) Value) ≡ true → has_role q kids ≡ true
role_of q n kids i e = role_among q n kids.fixed kids.others i e

-- ---- kinds and roles

pub holds_open : (kind : TKind) → holds kind ≡ true → stands_open kind ≡ true
holds_open (Loop x) e = refl
holds_open Switch e = refl
holds_open Try e = refl
holds_open Defer e = refl
holds_open kind e = absurd cc

pub open_stands : (kind : TKind) (role : Role) → stands_open kind ≡ true → serves role kind ≡ true → is_open role ≡ true
open_stands (Block x0) Value h s = absurd cc
open_stands (Block x0) Word h s = absurd cc
open_stands (Block x0) Initialiser h s = absurd cc
open_stands (Block x0) CopyInit h s = absurd cc
open_stands (Block x0) Zero h s = absurd cc
open_stands (Block x0) Statement h s = refl
open_stands (Block x0) BlockItem h s = refl
open_stands (Block x0) SwitchItem h s = refl
open_stands (Block x0) Step h s = refl
open_stands (Block x0) Part h s = absurd cc
open_stands (Block x0) CopiedPart h s = absurd cc
open_stands (Block x0) Catch h s = refl
open_stands (Block x0) Destruction h s = absurd cc
open_stands (Block x0) Scalar h s = absurd cc
open_stands Defer Value h s = absurd cc
open_stands Defer Word h s = absurd cc
open_stands Defer Initialiser h s = absurd cc
open_stands Defer CopyInit h s = absurd cc
open_stands Defer Zero h s = absurd cc
open_stands Defer Statement h s = refl
open_stands Defer BlockItem h s = refl
open_stands Defer SwitchItem h s = refl
open_stands Defer Step h s = refl
open_stands Defer Part h s = absurd cc
open_stands Defer CopiedPart h s = absurd cc
open_stands Defer Catch h s = refl
open_stands Defer Destruction h s = absurd cc
open_stands Defer Scalar h s = absurd cc
open_stands (Loop x0) Value h s = absurd cc
open_stands (Loop x0) Word h s = absurd cc
open_stands (Loop x0) Initialiser h s = absurd cc
open_stands (Loop x0) CopyInit h s = absurd cc
open_stands (Loop x0) Zero h s = absurd cc
open_stands (Loop x0) Statement h s = refl
open_stands (Loop x0) BlockItem h s = refl
open_stands (Loop x0) SwitchItem h s = refl
open_stands (Loop x0) Step h s = refl
open_stands (Loop x0) Part h s = absurd cc
open_stands (Loop x0) CopiedPart h s = absurd cc
open_stands (Loop x0) Catch h s = refl
open_stands (Loop x0) Destruction h s = absurd cc
open_stands (Loop x0) Scalar h s = absurd cc
open_stands Switch Value h s = absurd cc
open_stands Switch Word h s = absurd cc
open_stands Switch Initialiser h s = absurd cc
open_stands Switch CopyInit h s = absurd cc
open_stands Switch Zero h s = absurd cc
open_stands Switch Statement h s = refl
open_stands Switch BlockItem h s = refl
open_stands Switch SwitchItem h s = refl
open_stands Switch Step h s = refl
open_stands Switch Part h s = absurd cc
open_stands Switch CopiedPart h s = absurd cc
open_stands Switch Catch h s = refl
open_stands Switch Destruction h s = absurd cc
open_stands Switch Scalar h s = absurd cc
open_stands Try Value h s = absurd cc
open_stands Try Word h s = absurd cc
open_stands Try Initialiser h s = absurd cc
open_stands Try CopyInit h s = absurd cc
open_stands Try Zero h s = absurd cc
open_stands Try Statement h s = refl
open_stands Try BlockItem h s = refl
open_stands Try SwitchItem h s = refl
open_stands Try Step h s = refl
open_stands Try Part h s = absurd cc
open_stands Try CopiedPart h s = absurd cc
open_stands Try Catch h s = refl
open_stands Try Destruction h s = absurd cc
open_stands Try Scalar h s = absurd cc
open_stands (Handler x0) Value h s = absurd cc
open_stands (Handler x0) Word h s = absurd cc
open_stands (Handler x0) Initialiser h s = absurd cc
open_stands (Handler x0) CopyInit h s = absurd cc
open_stands (Handler x0) Zero h s = absurd cc
open_stands (Handler x0) Statement h s = refl
open_stands (Handler x0) BlockItem h s = refl
open_stands (Handler x0) SwitchItem h s = refl
open_stands (Handler x0) Step h s = refl
open_stands (Handler x0) Part h s = absurd cc
open_stands (Handler x0) CopiedPart h s = absurd cc
open_stands (Handler x0) Catch h s = refl
open_stands (Handler x0) Destruction h s = absurd cc
open_stands (Handler x0) Scalar h s = absurd cc
open_stands (Atomic x0) Value h s = absurd cc
open_stands (Atomic x0) Word h s = absurd cc
open_stands (Atomic x0) Initialiser h s = absurd cc
open_stands (Atomic x0) CopyInit h s = absurd cc
open_stands (Atomic x0) Zero h s = absurd cc
open_stands (Atomic x0) Statement h s = refl
open_stands (Atomic x0) BlockItem h s = refl
open_stands (Atomic x0) SwitchItem h s = refl
open_stands (Atomic x0) Step h s = refl
open_stands (Atomic x0) Part h s = absurd cc
open_stands (Atomic x0) CopiedPart h s = absurd cc
open_stands (Atomic x0) Catch h s = refl
open_stands (Atomic x0) Destruction h s = absurd cc
open_stands (Atomic x0) Scalar h s = absurd cc
open_stands Synchronized Value h s = absurd cc
open_stands Synchronized Word h s = absurd cc
open_stands Synchronized Initialiser h s = absurd cc
open_stands Synchronized CopyInit h s = absurd cc
open_stands Synchronized Zero h s = absurd cc
open_stands Synchronized Statement h s = refl
open_stands Synchronized BlockItem h s = refl
open_stands Synchronized SwitchItem h s = refl
open_stands Synchronized Step h s = refl
open_stands Synchronized Part h s = absurd cc
open_stands Synchronized CopiedPart h s = absurd cc
open_stands Synchronized Catch h s = refl
open_stands Synchronized Destruction h s = absurd cc
open_stands Synchronized Scalar h s = absurd cc
open_stands kind role h s = absurd cc

-- what has a kid in such a role stands in one, and lets temporaries wait
pub open_kids : (kind : TKind) (role : Role) (v o : Bool) → serves role kind ≡ true → (is_word role ≡ true → is_choice kind v ≡ false)
    → has_role is_open (kids_for role kind v o) ≡ true → (is_open role ≡ true) × (lets_wait kind ≡ true)
open_kids (Literal x0) role v o s c e = absurd cc
open_kids (Local x0) role v o s c e = absurd cc
open_kids (Global x0) role v o s c e = absurd cc
open_kids (Function x0) role v o s c e = absurd cc
open_kids (ClassTable x0) role v o s c e = absurd cc
open_kids (Load x0 x1) role v o s c e = absurd cc
open_kids (Convert x0) role v o s c e = absurd cc
open_kids Retype role v o s c e = absurd cc
open_kids (Binary x0 x1) role v o s c e = absurd cc
open_kids Conditional Value true o s c e = absurd cc
open_kids Conditional Value false o s c e = absurd cc
open_kids Conditional Word true o s c e = let f : true ≡ false = c refl in absurd cc
open_kids Conditional Word false o s c e = absurd cc
open_kids Conditional Initialiser true o s c e = absurd cc
open_kids Conditional Initialiser false o s c e = absurd cc
open_kids Conditional CopyInit true o s c e = absurd cc
open_kids Conditional CopyInit false o s c e = absurd cc
open_kids Conditional Zero true o s c e = absurd cc
open_kids Conditional Zero false o s c e = absurd cc
open_kids Conditional Statement true o s c e = (refl, refl)
open_kids Conditional Statement false o s c e = absurd cc
open_kids Conditional BlockItem true o s c e = (refl, refl)
open_kids Conditional BlockItem false o s c e = absurd cc
open_kids Conditional SwitchItem true o s c e = (refl, refl)
open_kids Conditional SwitchItem false o s c e = absurd cc
open_kids Conditional Step true o s c e = absurd cc
open_kids Conditional Step false o s c e = absurd cc
open_kids Conditional Part true o s c e = absurd cc
open_kids Conditional Part false o s c e = absurd cc
open_kids Conditional CopiedPart true o s c e = absurd cc
open_kids Conditional CopiedPart false o s c e = absurd cc
open_kids Conditional Catch true o s c e = absurd cc
open_kids Conditional Catch false o s c e = absurd cc
open_kids Conditional Destruction true o s c e = absurd cc
open_kids Conditional Destruction false o s c e = absurd cc
open_kids Conditional Scalar true o s c e = absurd cc
open_kids Conditional Scalar false o s c e = absurd cc
open_kids Comma Value v o s c e = absurd cc
open_kids Comma Word v o s c e = absurd cc
open_kids Comma Initialiser v o s c e = absurd cc
open_kids Comma CopyInit v o s c e = absurd cc
open_kids Comma Zero v o s c e = absurd cc
open_kids Comma Statement v o s c e = absurd cc
open_kids Comma BlockItem v o s c e = absurd cc
open_kids Comma SwitchItem v o s c e = absurd cc
open_kids Comma Step v o s c e = absurd cc
open_kids Comma Part v o s c e = absurd cc
open_kids Comma CopiedPart v o s c e = absurd cc
open_kids Comma Catch v o s c e = absurd cc
open_kids Comma Destruction v o s c e = absurd cc
open_kids Comma Scalar v o s c e = absurd cc
open_kids (Assign x0 x1) role v o s c e = absurd cc
open_kids (Update x0 x1 x2 x3 x4) role v o s c e = absurd cc
open_kids CopyAssign role v o s c e = absurd cc
open_kids (Materialize x0 x1) role v o s c e = absurd cc
open_kids FullExpression Value v o s c e = absurd cc
open_kids FullExpression Word v o s c e = absurd cc
open_kids FullExpression Initialiser v o s c e = absurd cc
open_kids FullExpression CopyInit v o s c e = absurd cc
open_kids FullExpression Zero v o s c e = absurd cc
open_kids FullExpression Statement v o s c e = absurd cc
open_kids FullExpression BlockItem v o s c e = absurd cc
open_kids FullExpression SwitchItem v o s c e = absurd cc
open_kids FullExpression Step v o s c e = absurd cc
open_kids FullExpression Part v o s c e = absurd cc
open_kids FullExpression CopiedPart v o s c e = absurd cc
open_kids FullExpression Catch v o s c e = absurd cc
open_kids FullExpression Destruction v o s c e = absurd cc
open_kids FullExpression Scalar v o s c e = absurd cc
open_kids (Call x0) role v o s c e = absurd cc
open_kids (VirtualCall x0 x1 x2 x3) role v o s c e = absurd cc
open_kids PointerCall role v o s c e = absurd cc
open_kids (CallBuiltin x0) role v o s c e = absurd cc
open_kids Throw role v o s c e = absurd cc
open_kids Rethrow role v o s c e = absurd cc
open_kids (Store x0 x1) role v o s c e = absurd cc
open_kids (CopyScalar x0 x1) role v o s c e = absurd cc
open_kids (Construct x0) role v o s c e = absurd cc
open_kids (CopyConstruct x0) role v o s c e = absurd cc
open_kids CopyFrom role v o s c e = absurd cc
open_kids Pieces Value v o s c e = absurd cc
open_kids Pieces Word v o s c e = absurd cc
open_kids Pieces Initialiser v o s c e = absurd cc
open_kids Pieces CopyInit v o s c e = absurd cc
open_kids Pieces Zero v o s c e = absurd cc
open_kids Pieces Statement v o s c e = absurd cc
open_kids Pieces BlockItem v o s c e = absurd cc
open_kids Pieces SwitchItem v o s c e = absurd cc
open_kids Pieces Step v o s c e = absurd cc
open_kids Pieces Part v o s c e = absurd cc
open_kids Pieces CopiedPart v o s c e = absurd cc
open_kids Pieces Catch v o s c e = absurd cc
open_kids Pieces Destruction v o s c e = absurd cc
open_kids Pieces Scalar v o s c e = absurd cc
open_kids (Piece x0) Value v o s c e = absurd cc
open_kids (Piece x0) Word v o s c e = absurd cc
open_kids (Piece x0) Initialiser v o s c e = absurd cc
open_kids (Piece x0) CopyInit v o s c e = absurd cc
open_kids (Piece x0) Zero v o s c e = absurd cc
open_kids (Piece x0) Statement v o s c e = absurd cc
open_kids (Piece x0) BlockItem v o s c e = absurd cc
open_kids (Piece x0) SwitchItem v o s c e = absurd cc
open_kids (Piece x0) Step v o s c e = absurd cc
open_kids (Piece x0) Part v o s c e = absurd cc
open_kids (Piece x0) CopiedPart v o s c e = absurd cc
open_kids (Piece x0) Catch v o s c e = absurd cc
open_kids (Piece x0) Destruction v o s c e = absurd cc
open_kids (Piece x0) Scalar v o s c e = absurd cc
open_kids (Elements x0 x1) Value v o s c e = absurd cc
open_kids (Elements x0 x1) Word v o s c e = absurd cc
open_kids (Elements x0 x1) Initialiser v o s c e = absurd cc
open_kids (Elements x0 x1) CopyInit v o s c e = absurd cc
open_kids (Elements x0 x1) Zero v o s c e = absurd cc
open_kids (Elements x0 x1) Statement v o s c e = absurd cc
open_kids (Elements x0 x1) BlockItem v o s c e = absurd cc
open_kids (Elements x0 x1) SwitchItem v o s c e = absurd cc
open_kids (Elements x0 x1) Step v o s c e = absurd cc
open_kids (Elements x0 x1) Part v o s c e = absurd cc
open_kids (Elements x0 x1) CopiedPart v o s c e = absurd cc
open_kids (Elements x0 x1) Catch v o s c e = absurd cc
open_kids (Elements x0 x1) Destruction v o s c e = absurd cc
open_kids (Elements x0 x1) Scalar v o s c e = absurd cc
open_kids (Block x0) role v o s c e = (open_stands (Block x0) role refl s, refl)
open_kids Init role v true s c e = absurd cc
open_kids Init role v false s c e = absurd cc
open_kids Defer role v o s c e = absurd cc
open_kids (Loop x0) role v o s c e = (open_stands (Loop x0) role refl s, refl)
open_kids Switch role v o s c e = (open_stands Switch role refl s, refl)
open_kids (Case x0) role v o s c e = absurd cc
open_kids Default role v o s c e = absurd cc
open_kids Break role v o s c e = absurd cc
open_kids Continue role v o s c e = absurd cc
open_kids Return role v o s c e = absurd cc
open_kids Try role v o s c e = (open_stands Try role refl s, refl)
open_kids (Handler x0) role v o s c e = (open_stands (Handler x0) role refl s, refl)
open_kids (Atomic x0) role v o s c e = (open_stands (Atomic x0) role refl s, refl)
open_kids Synchronized role v o s c e = (open_stands Synchronized role refl s, refl)
open_kids (Destroy x0 x1 x2 x3) role v o s c e = absurd cc
open_kids (Field x0 x1) role v o s c e = absurd cc

-- words stand in calls alone
pub word_kids : (kind : TKind) (role : Role) (v o : Bool) → has_role is_word (kids_for role kind v o) ≡ true → calls kind ≡ true
word_kids (Literal x0) role v o e = absurd cc
word_kids (Local x0) role v o e = absurd cc
word_kids (Global x0) role v o e = absurd cc
word_kids (Function x0) role v o e = absurd cc
word_kids (ClassTable x0) role v o e = absurd cc
word_kids (Load x0 x1) role v o e = absurd cc
word_kids (Convert x0) role v o e = absurd cc
word_kids Retype role v o e = absurd cc
word_kids (Binary x0 x1) role v o e = absurd cc
word_kids Conditional Value true o e = absurd cc
word_kids Conditional Value false o e = absurd cc
word_kids Conditional Word true o e = absurd cc
word_kids Conditional Word false o e = absurd cc
word_kids Conditional Initialiser true o e = absurd cc
word_kids Conditional Initialiser false o e = absurd cc
word_kids Conditional CopyInit true o e = absurd cc
word_kids Conditional CopyInit false o e = absurd cc
word_kids Conditional Zero true o e = absurd cc
word_kids Conditional Zero false o e = absurd cc
word_kids Conditional Statement true o e = absurd cc
word_kids Conditional Statement false o e = absurd cc
word_kids Conditional BlockItem true o e = absurd cc
word_kids Conditional BlockItem false o e = absurd cc
word_kids Conditional SwitchItem true o e = absurd cc
word_kids Conditional SwitchItem false o e = absurd cc
word_kids Conditional Step true o e = absurd cc
word_kids Conditional Step false o e = absurd cc
word_kids Conditional Part true o e = absurd cc
word_kids Conditional Part false o e = absurd cc
word_kids Conditional CopiedPart true o e = absurd cc
word_kids Conditional CopiedPart false o e = absurd cc
word_kids Conditional Catch true o e = absurd cc
word_kids Conditional Catch false o e = absurd cc
word_kids Conditional Destruction true o e = absurd cc
word_kids Conditional Destruction false o e = absurd cc
word_kids Conditional Scalar true o e = absurd cc
word_kids Conditional Scalar false o e = absurd cc
word_kids Comma Value v o e = absurd cc
word_kids Comma Word v o e = absurd cc
word_kids Comma Initialiser v o e = absurd cc
word_kids Comma CopyInit v o e = absurd cc
word_kids Comma Zero v o e = absurd cc
word_kids Comma Statement v o e = absurd cc
word_kids Comma BlockItem v o e = absurd cc
word_kids Comma SwitchItem v o e = absurd cc
word_kids Comma Step v o e = absurd cc
word_kids Comma Part v o e = absurd cc
word_kids Comma CopiedPart v o e = absurd cc
word_kids Comma Catch v o e = absurd cc
word_kids Comma Destruction v o e = absurd cc
word_kids Comma Scalar v o e = absurd cc
word_kids (Assign x0 x1) role v o e = absurd cc
word_kids (Update x0 x1 x2 x3 x4) role v o e = absurd cc
word_kids CopyAssign role v o e = absurd cc
word_kids (Materialize x0 x1) role v o e = absurd cc
word_kids FullExpression Value v o e = absurd cc
word_kids FullExpression Word v o e = absurd cc
word_kids FullExpression Initialiser v o e = absurd cc
word_kids FullExpression CopyInit v o e = absurd cc
word_kids FullExpression Zero v o e = absurd cc
word_kids FullExpression Statement v o e = absurd cc
word_kids FullExpression BlockItem v o e = absurd cc
word_kids FullExpression SwitchItem v o e = absurd cc
word_kids FullExpression Step v o e = absurd cc
word_kids FullExpression Part v o e = absurd cc
word_kids FullExpression CopiedPart v o e = absurd cc
word_kids FullExpression Catch v o e = absurd cc
word_kids FullExpression Destruction v o e = absurd cc
word_kids FullExpression Scalar v o e = absurd cc
word_kids (Call x0) role v o e = refl
word_kids (VirtualCall x0 x1 x2 x3) role v o e = refl
word_kids PointerCall role v o e = refl
word_kids (CallBuiltin x0) role v o e = absurd cc
word_kids Throw role v o e = absurd cc
word_kids Rethrow role v o e = absurd cc
word_kids (Store x0 x1) role v o e = absurd cc
word_kids (CopyScalar x0 x1) role v o e = absurd cc
word_kids (Construct x0) role v o e = refl
word_kids (CopyConstruct x0) role v o e = absurd cc
word_kids CopyFrom role v o e = absurd cc
word_kids Pieces Value v o e = absurd cc
word_kids Pieces Word v o e = absurd cc
word_kids Pieces Initialiser v o e = absurd cc
word_kids Pieces CopyInit v o e = absurd cc
word_kids Pieces Zero v o e = absurd cc
word_kids Pieces Statement v o e = absurd cc
word_kids Pieces BlockItem v o e = absurd cc
word_kids Pieces SwitchItem v o e = absurd cc
word_kids Pieces Step v o e = absurd cc
word_kids Pieces Part v o e = absurd cc
word_kids Pieces CopiedPart v o e = absurd cc
word_kids Pieces Catch v o e = absurd cc
word_kids Pieces Destruction v o e = absurd cc
word_kids Pieces Scalar v o e = absurd cc
word_kids (Piece x0) Value v o e = absurd cc
word_kids (Piece x0) Word v o e = absurd cc
word_kids (Piece x0) Initialiser v o e = absurd cc
word_kids (Piece x0) CopyInit v o e = absurd cc
word_kids (Piece x0) Zero v o e = absurd cc
word_kids (Piece x0) Statement v o e = absurd cc
word_kids (Piece x0) BlockItem v o e = absurd cc
word_kids (Piece x0) SwitchItem v o e = absurd cc
word_kids (Piece x0) Step v o e = absurd cc
word_kids (Piece x0) Part v o e = absurd cc
word_kids (Piece x0) CopiedPart v o e = absurd cc
word_kids (Piece x0) Catch v o e = absurd cc
word_kids (Piece x0) Destruction v o e = absurd cc
word_kids (Piece x0) Scalar v o e = absurd cc
word_kids (Elements x0 x1) Value v o e = absurd cc
word_kids (Elements x0 x1) Word v o e = absurd cc
word_kids (Elements x0 x1) Initialiser v o e = absurd cc
word_kids (Elements x0 x1) CopyInit v o e = absurd cc
word_kids (Elements x0 x1) Zero v o e = absurd cc
word_kids (Elements x0 x1) Statement v o e = absurd cc
word_kids (Elements x0 x1) BlockItem v o e = absurd cc
word_kids (Elements x0 x1) SwitchItem v o e = absurd cc
word_kids (Elements x0 x1) Step v o e = absurd cc
word_kids (Elements x0 x1) Part v o e = absurd cc
word_kids (Elements x0 x1) CopiedPart v o e = absurd cc
word_kids (Elements x0 x1) Catch v o e = absurd cc
word_kids (Elements x0 x1) Destruction v o e = absurd cc
word_kids (Elements x0 x1) Scalar v o e = absurd cc
word_kids (Block x0) role v o e = absurd cc
word_kids Init role v true e = absurd cc
word_kids Init role v false e = absurd cc
word_kids Defer role v o e = absurd cc
word_kids (Loop x0) role v o e = absurd cc
word_kids Switch role v o e = absurd cc
word_kids (Case x0) role v o e = absurd cc
word_kids Default role v o e = absurd cc
word_kids Break role v o e = absurd cc
word_kids Continue role v o e = absurd cc
word_kids Return role v o e = absurd cc
word_kids Try role v o e = absurd cc
word_kids (Handler x0) role v o e = absurd cc
word_kids (Atomic x0) role v o e = absurd cc
word_kids Synchronized role v o e = absurd cc
word_kids (Destroy x0 x1 x2 x3) role v o e = absurd cc
word_kids (Field x0 x1) role v o e = absurd cc

pub calls_suit : (kind : TKind) (kids : Trees) → calls kind ≡ true → kids_suit kind kids ≡ true → none_chosen kids ≡ true
calls_suit (Call func) kids c e = e
calls_suit (VirtualCall func class slot pointer) kids c e = e
calls_suit PointerCall kids c e = e
calls_suit (Construct func) kids c e = e
calls_suit kind kids c e = absurd cc
