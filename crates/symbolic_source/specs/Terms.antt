-- Words as terms over variables.
use Rattle.std.specs.Prelude.{ℕ, ℤ, ◌+◌, ◌-◌, ◌*◌, ◌%◌, ◌^◌, nat_lt, cond, List, Option, Some, None, Result, Ok, Err, ◌==◌}
use Rattle.cpp_tree.specs.tx_ints.declared.kinds.IntKind.{IntKind}
use Rattle.cpp_tree.specs.tx_ints.declared.kinds.BinOp.{BinOp}
use Rattle.cpp_tree.specs.tx_ints.declared.kinds.ArithTrap.{ArithTrap}
use Rattle.cpp_tree.specs.tx_ints.Words.{word_of}
use Rattle.cpp_tree.specs.cpp_types.Typ.{Typ}
use Rattle.cpp_tree.specs.cpp_layout.Layout.{function_address}
use Rattle.src_mean.specs.Linked.{Func, Program}
use Rattle.src_mean.specs.Exceptions.{no_bytes, bytes_of, with_bytes, read_bytes}
use Rattle.src_mean.specs.Exceptions as exceptions
use Rattle.src_mean.specs.Source.{converted, plus, applied}

mutual
  -- a word of a function that runs
  pub data Term : Type 0 where
    number : ℕ → Term
    variable : ℕ → Term
    local : (offset : ℕ) → Term  -- an address in the frame
    global : ℕ → Term  -- the address of a global of the unit
    function : ℕ → Term  -- the address of a function of the unit
    table : ℕ → Term  -- a class address
    slot_function : (class slot : ℕ) → Term → Term  -- the address of the function in a slot, of the class at this address
    sum : Term → Term → Term  -- of addresses
    product : Term → Term → Term  -- likewise
    before : Term → Term  -- one less, of what is not 0
    low_byte : Term → Term
    converted_to : IntKind → Term → Term
    result : BinOp → IntKind → Term → Term → Term  -- of an operator that does not trap
    field : Exception → (offset size : ℕ) → Term  -- bytes of an exception, as a number

  -- an exception: one that is not known, or one of this type
  pub data Exception : Type 0 where
    unknown : ℕ → Exception
    made : Typ → Puts → Exception

  -- the bytes of words that were put into an exception, the last one first
  pub data Puts : Type 0 where
    untouched : Puts
    put : (offset size : ℕ) → Term → Puts → Puts

-- what the variables stand for: words and unknown exceptions; and where the frame lies and the stack ends
pub record Values : Type 0 where
  pub word : ℕ → ℕ
  pub exception : ℕ → exceptions.Exception
  pub base : ℕ
  pub limit : ℕ

-- a result as a word
abbrev pub word_or_zero : Result ℤ ArithTrap → ℕ
word_or_zero (Ok v) = word_of v
word_or_zero (Err trap) = 0

-- the number of the function in a slot
abbrev pub number_found : Option ℕ → ℕ
number_found None = 0
number_found (Some n) = n

abbrev mutual
  -- the word that a term stands for
  pub eval : Program → Func → Values → Term → ℕ
  eval p f x (number n) = n % 2 ^ 64
  eval p f x (variable n) = x.word n
  eval p f x (local offset) = plus x.base offset
  eval p f x (global n) = p.global f.unit n % 2 ^ 64
  eval p f x (function n) = function_address (p.number f.unit n) % 2 ^ 64
  eval p f x (table c) = p.table c % 2 ^ 64
  eval p f x (slot_function class slot a) = function_address (number_found (p.slot (eval p f x a) class slot)) % 2 ^ 64
  eval p f x (sum a b) = plus (eval p f x a) (eval p f x b)
  eval p f x (product a b) = (eval p f x a * eval p f x b) % 2 ^ 64
  eval p f x (before a) = eval p f x a - 1
  eval p f x (low_byte a) = eval p f x a % 256
  eval p f x (converted_to kind a) = converted kind (eval p f x a)
  eval p f x (result op kind a b) = word_or_zero (applied op kind (eval p f x a) (eval p f x b))
  eval p f x (field e offset size) = read_bytes (exception_of p f x e).bytes offset size % 2 ^ 64

  pub exception_of : Program → Func → Values → Exception → exceptions.Exception
  exception_of p f x (unknown n) = x.exception n
  exception_of p f x (made t puts) = record { typ = t; bytes = bytes_put p f x puts }

  pub bytes_put : Program → Func → Values → Puts → List ℕ
  bytes_put p f x untouched = no_bytes
  bytes_put p f x (put offset size w puts) = with_bytes offset (bytes_of size (eval p f x w)) (bytes_put p f x puts)

abbrev pub at_offset : Term → ℕ → Term
at_offset a n = cond (n == 0) a (sum a (number n))

-- a sum with a number, as it is written: numbers are added at once, and 0 is not
abbrev pub plus_number : Term → ℕ → Term
plus_number (number m) n = number (m + n)
plus_number (local offset) n = local (offset + n)
plus_number (sum a (number m)) n = sum a (number (m + n))
plus_number a n = at_offset a n

abbrev pub one_less : Term → Term
one_less (number n) = cond (nat_lt n (2 ^ 64)) (number (n - 1)) (before (number n))
one_less a = before a
