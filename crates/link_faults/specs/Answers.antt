-- What the calls answer.
use Rattle.std.specs.Prelude.{Bool, true, false, ◌≡◌, ◌<◌, ◌≤◌, ℕ, List}
use Rattle.tx_code.specs.Objects.{ObjectView}
use Rattle.tx_code.specs.WellFormed.{bytes_lt}
use Rattle.tx_events.specs.declared.TheConstants.{GLOBALS_LIMIT}
use Rattle.link_faults.specs.Faults.{is_twice, is_different, is_undefined, is_unsafe, has_main, size_of_globals}
use Rattle.link_faults.specs.declared.fault.LinkFault.{LinkFault}
use Rattle.link_faults.specs.declared.fault.LinkFault.TheVariants.{Twice, OdrDiffers, Undefined, UnsafeSymbol, NoMain, Globals, Memory}

pub record NoneOf (test : List ℕ → Bool) : Type 0 where
  pub none : (symbol : List ℕ) → test symbol ≡ false

-- the least by bytes of those that pass
pub record Least (test : List ℕ → Bool) (symbol : List ℕ) : Type 0 where
  pub holds : test symbol ≡ true
  pub least : (other : List ℕ) → test other ≡ true → bytes_lt other symbol ≡ false

-- objects that can be linked
pub record Links (os : List ObjectView) : Type 0 where
  pub twice : NoneOf (is_twice os)
  pub different : NoneOf (is_different os)
  pub undefined : NoneOf (is_undefined os)
  pub unsafe : NoneOf (is_unsafe os)
  pub main : has_main os ≡ true
  pub globals : size_of_globals os ≤ GLOBALS_LIMIT

-- the first fault, by the order of these lines and then by the symbol
abbrev pub Faulty : List ObjectView → LinkFault → Type 0
Faulty os (Twice symbol) = Least (is_twice os) symbol.items
Faulty os (OdrDiffers symbol) = NoneOf (is_twice os) × Least (is_different os) symbol.items
Faulty os (Undefined symbol) = NoneOf (is_twice os) × NoneOf (is_different os) × Least (is_undefined os) symbol.items
Faulty os (UnsafeSymbol symbol) = NoneOf (is_twice os) × NoneOf (is_different os) × NoneOf (is_undefined os) × Least (is_unsafe os) symbol.items
Faulty os NoMain = NoneOf (is_twice os) × NoneOf (is_different os) × NoneOf (is_undefined os) × NoneOf (is_unsafe os) × (has_main os ≡ false)
Faulty os (Globals size) = NoneOf (is_twice os) × NoneOf (is_different os) × NoneOf (is_undefined os) × NoneOf (is_unsafe os) × (has_main os ≡ true)
    × (size ≡ size_of_globals os) × (GLOBALS_LIMIT < size)
Faulty os Memory = Unit {0}

-- no fault but for the size of the globals
pub record AreSymbolsWell (os : List ObjectView) : Type 0 where
  pub twice : NoneOf (is_twice os)
  pub different : NoneOf (is_different os)
  pub undefined : NoneOf (is_undefined os)
  pub unsafe : NoneOf (is_unsafe os)
  pub main : has_main os ≡ true

-- ---- the answer of one check

abbrev pub IsTwiceFault : List ObjectView → LinkFault → Type 0
IsTwiceFault os (Twice symbol) = Least (is_twice os) symbol.items
IsTwiceFault os Memory = Unit {0}
IsTwiceFault os (OdrDiffers symbol) = ⊥
IsTwiceFault os (Undefined symbol) = ⊥
IsTwiceFault os (UnsafeSymbol symbol) = ⊥
IsTwiceFault os NoMain = ⊥
IsTwiceFault os (Globals size) = ⊥

abbrev pub IsDifferentFault : List ObjectView → LinkFault → Type 0
IsDifferentFault os (OdrDiffers symbol) = Least (is_different os) symbol.items
IsDifferentFault os Memory = Unit {0}
IsDifferentFault os (Twice symbol) = ⊥
IsDifferentFault os (Undefined symbol) = ⊥
IsDifferentFault os (UnsafeSymbol symbol) = ⊥
IsDifferentFault os NoMain = ⊥
IsDifferentFault os (Globals size) = ⊥

abbrev pub IsUndefinedFault : List ObjectView → LinkFault → Type 0
IsUndefinedFault os (Undefined symbol) = Least (is_undefined os) symbol.items
IsUndefinedFault os Memory = Unit {0}
IsUndefinedFault os (Twice symbol) = ⊥
IsUndefinedFault os (OdrDiffers symbol) = ⊥
IsUndefinedFault os (UnsafeSymbol symbol) = ⊥
IsUndefinedFault os NoMain = ⊥
IsUndefinedFault os (Globals size) = ⊥

abbrev pub IsUnsafeFault : List ObjectView → LinkFault → Type 0
IsUnsafeFault os (UnsafeSymbol symbol) = Least (is_unsafe os) symbol.items
IsUnsafeFault os Memory = Unit {0}
IsUnsafeFault os (Twice symbol) = ⊥
IsUnsafeFault os (OdrDiffers symbol) = ⊥
IsUnsafeFault os (Undefined symbol) = ⊥
IsUnsafeFault os NoMain = ⊥
IsUnsafeFault os (Globals size) = ⊥
