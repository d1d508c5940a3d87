-- The text of a schedule.
use Rattle.std.specs.Prelude.{◌≡◌, ◌≢◌, ◌≤◌, ◌+◌, ◌++◌, ◌==◌, ◌&&◌, Bool, true, not, nat_lt, nat_le}
use Rattle.std.specs.Prelude.{ℕ, List, [], ◌∷◌, length, take, replicate, if◌then◌else◌, Result, Ok, Err}
use Rattle.std.specs.List.{list_all}
use Rattle.std.specs.Fmt.{decimal}
use Rattle.schedules.specs.declared.Run.{Run}
use Rattle.schedules.specs.declared.Schedule.{Schedule}
use Rattle.schedules.specs.declared.ScheduleFault.{ScheduleFault}
use Rattle.schedules.specs.declared.ScheduleFault.TheVariants as fault
use Rattle.tx_events.specs.declared.TheConstants.{THREAD_LIMIT}

-- ---- what a text says

-- the text of a line: `T` for one turn, and `T*N` for N turns, with a newline
abbrev pub count_text : ℕ → List ℕ
count_text n = if n == 1 then [] else 42 ∷ decimal n

abbrev pub line_text : Run → List ℕ
line_text r = decimal r.thread ++ (count_text r.count ++ 10 ∷ [])

-- how many turns a line may stand for, and one with a star
abbrev pub IsCount : ℕ → Type 0
IsCount n = (1 ≤ n) × (n ≤ 4000000)

abbrev pub IsMany : ℕ → Type 0
IsMany n = (2 ≤ n) × (n ≤ 4000000)

-- the lines of the grammar: threads are below the limit of threads
abbrev pub is_line : Run → Bool
is_line r = nat_lt r.thread THREAD_LIMIT && (nat_le 1 r.count && nat_le r.count 4000000)

-- the text of lines, and the turns that they stand for
abbrev pub text_of : List Run → List ℕ
text_of [] = []
text_of (r ∷ rs) = line_text r ++ text_of rs

abbrev pub entries_of : List Run → List ℕ
entries_of [] = []
entries_of (r ∷ rs) = replicate r.count r.thread ++ entries_of rs

-- the text is in the grammar and says these entries
pub record Spells (text entries : List ℕ) : Type 0 where
  pub lines : List Run
  pub in_grammar : list_all is_line lines ≡ true
  pub written : text ≡ text_of lines
  pub entries_are : entries ≡ entries_of lines

-- the line of this number, counted from 1, is the first outside the grammar
pub record IsFirstBad (text : List ℕ) (number : ℕ) : Type 0 where
  pub lines : List Run
  pub in_grammar : list_all is_line lines ≡ true
  pub rest : List ℕ
  pub written : text ≡ text_of lines ++ rest
  pub more : rest ≢ []
  pub bad : (r : Run) (tail : List ℕ) → is_line r ≡ true → rest ≢ line_text r ++ tail
  pub numbered : number ≡ length lines + 1

-- a run looks at this many entries alone
unfoldable pub most_entries : ℕ
most_entries = 4000000

-- ---- how a text is written

-- one more turn before these runs
abbrev pub with_turn : ℕ → List Run → List Run
with_turn t [] = record { thread = t; count = 1 } ∷ []
with_turn t (r ∷ rs) = if t == r.thread then record { thread = t; count = r.count + 1 } ∷ rs else record { thread = t; count = 1 } ∷ r ∷ rs

-- the runs of equal entries
abbrev pub runs_of : List ℕ → List Run
runs_of [] = []
runs_of (t ∷ ts) = with_turn t (runs_of ts)

-- no two neighbours are of one thread
abbrev pub begins_apart : Run → List Run → Bool
begins_apart r [] = true
begins_apart r (q ∷ qs) = not (r.thread == q.thread)

abbrev pub is_tight : List Run → Bool
is_tight [] = true
is_tight (r ∷ rs) = begins_apart r rs && is_tight rs

-- ---- what is kept of the entries that a text says

abbrev pub Keeps : ℕ → List ℕ → Schedule → Type 0
Keeps most entries s = (s.entries.items ≡ take most entries) × (s.has_more ≡ nat_lt most (length entries))

-- ---- what reading a text gives

pub record HasRead (most : ℕ) (text : List ℕ) (s : Schedule) : Type 0 where
  pub entries : List ℕ
  pub spelled : Spells text entries
  pub kept : Keeps most entries s

abbrev pub Outcome : ℕ → List ℕ → Result Schedule ScheduleFault → Type 0
Outcome most text (Ok s) = HasRead most text s
Outcome most text (Err (fault.BadSchedule line)) = IsFirstBad text line
Outcome most text (Err fault.Memory) = Unit
