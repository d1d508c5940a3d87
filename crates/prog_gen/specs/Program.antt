-- The text of the program that is made from a number n.
use Rattle.std.specs.Prelude.{◌++◌, ◌+◌, ◌*◌, ◌%◌, ℕ, zero, suc, List, [], codes}
use Rattle.std.specs.Fmt.{decimal}

-- the lines of the numbers below n, in order
abbrev pub lines : (ℕ → List ℕ) → ℕ → List ℕ
lines line zero = []
lines line (suc n) = lines line n ++ line n

abbrev pub counters : ℕ → List ℕ
counters n = codes "long c[" ++ (decimal n ++ codes "];\n")

-- the counter that function i adds 2 to
abbrev pub other : ℕ → ℕ → ℕ
other n i = (7 * i + 3) % n

abbrev pub function_line : ℕ → ℕ → List ℕ
function_line n i =
    codes "void f" ++ (decimal i ++ (codes "() transaction_safe { c["
    ++ (decimal i ++ (codes "] = c[" ++ (decimal i ++ (codes "] + 1; c["
    ++ (decimal (other n i) ++ (codes "] = c[" ++ (decimal (other n i) ++ codes "] + 2; }\n")))))))))

abbrev pub block_line : ℕ → List ℕ
block_line i = codes "atomic_noexcept { f" ++ (decimal i ++ codes "(); }\n")

abbrev pub worker : ℕ → List ℕ
worker n = codes "void w(long) { for (int k = 0; k < 4; ++k) {\n" ++ (lines block_line n ++ codes "} }\n")

abbrev pub printer : List ℕ
printer = codes "void print(long v) { if (v > 9) print(v / 10); putchar('0' + v % 10); }\n"

abbrev pub main_lines : ℕ → List ℕ
main_lines n =
    codes "int main() { int a = __txcc_spawn(w, 0); int b = __txcc_spawn(w, 0); int d = __txcc_spawn(w, 0);\n"
    ++ (codes "__txcc_join(a); __txcc_join(b); __txcc_join(d); long s = 0;\n"
    ++ (codes "for (int i = 0; i < " ++ (decimal n ++ (codes "; ++i) s = s + c[i];\n"
    ++ codes "print(s); putchar(10); return 0; }\n"))))

unfoldable pub program : ℕ → List ℕ
program n = counters n ++ (lines (function_line n) n ++ (worker n ++ (printer ++ main_lines n)))
