-- Reads and writes in steps.
use Rattle.std.proofs.Common.{◌≡◌, ◌≤◌, ◌<◌, ℕ, ◌+◌, List, [], ◌∷◌, ◌++◌, length, refl, sym, ap, subst, ◌∙◌, append_assoc, append-nil, length-append}
use Rattle.std.proofs.Common.{length-take-le, map, take, drop, get_or, String, Global, string_bytes, Vec, arith}
use Rattle.std.proofs.lemmas.List.{length-map, map-append, take_more, drop_more, take-append-drop}
use Rattle.tx_host.specs.Told.{HostState, FailsRead}
use Rattle.tx_host.specs.declared.faults.WriteFault.{WriteFault}
use Rattle.command_io.specs.declared.files.Unread.{Unread}
use Rattle.command_io.specs.declared.files.Unread.TheVariants.{TooLong, Failed, Memory}
use Rattle.command_io.specs.Reads.{Wanted, ReadsWithin, ReadsFront, AreBytesOf, PassesLimit, FailsToRead, ReadsSome, StopsReading, StopsBehind, after_reading}
use Rattle.command_io.specs.Reads.{behind, limit_of, wanted, wanted_each}
use Rattle.command_io.specs.declared.files.FileKind.{FileKind}
use Rattle.command_io.specs.declared.writes.Write.{Write}
use Rattle.command_io.specs.Writes.{Written, written_of, after_write, after_writes, FailsWrite, StopsWriting}

-- what was read first, and then what was read behind it
pub reads_append : (old mid new : HostState) (ws vs : List Wanted) (xs ys : List (List ℕ)) → ReadsWithin old ws xs mid → ReadsWithin mid vs ys new
    → ReadsWithin old (ws ++ vs) (xs ++ ys) new
reads_append old mid new [] vs [] ys a b = subst (λ s. ReadsWithin s vs ys new) a b
reads_append old mid new [] vs (x ∷ xs) ys a b = elim a [ ]
reads_append old mid new (w ∷ ws) vs [] ys a b = elim a [ ]
reads_append old mid new (w ∷ ws) vs (x ∷ xs) ys (front, few, rest) b = (front, few, reads_append (after_reading old w x) mid new ws vs xs ys rest b)

front_behind : (old mid new : HostState) (ws before after vs : List Wanted) (xs ys : List (List ℕ)) → ReadsWithin old ws xs mid
    → ReadsFront mid vs before after ys new → ReadsFront old (ws ++ vs) (ws ++ before) after (xs ++ ys) new
front_behind old mid new ws before after vs xs ys a f =
    record { cut = ap (λ l. ws ++ l) f.cut ∙ sym (append_assoc ws before after); reads = reads_append old mid new ws before xs ys a f.reads }

front_before : (old new : HostState) (wants before after vs : List Wanted) (ys : List (List ℕ)) → ReadsFront old wants before after ys new
    → ReadsFront old (wants ++ vs) before (after ++ vs) ys new
front_before old new wants before after vs ys f = record { cut = ap (λ l. l ++ vs) f.cut ∙ append_assoc before after vs; reads = f.reads }

-- reading stopped behind what was read first
pub stops_behind : (old mid new : HostState) (ws vs : List Wanted) (xs : List (List ℕ)) (u : Unread) → ReadsWithin old ws xs mid → StopsReading mid vs new u
    → StopsReading old (ws ++ vs) new (behind (length ws) u)
stops_behind old mid new ws vs xs (TooLong index) a (w, p) = (
  w,
  record {
    before = ws ++ p.before;
    after = p.after;
    texts = xs ++ p.texts;
    between = p.between;
    front = front_behind old mid p.between ws p.before (w ∷ p.after) vs xs p.texts a p.front;
    at = ap (λ n. length ws + n) p.at ∙ sym (length-append ws p.before);
    bytes = p.bytes;
    bytes_are = p.bytes_are;
    long = p.long;
    state = p.state;
  },
)
stops_behind old mid new ws vs xs Failed a p =
    record {
      before = ws ++ p.before;
      after = p.after;
      w = p.w;
      texts = xs ++ p.texts;
      between = p.between;
      front =
          front_behind old mid p.between ws p.before (p.w ∷ p.after) vs xs p.texts a p.front;
      fails = p.fails;
    }
stops_behind old mid new ws vs xs Memory a p =
    record { before = ws ++ p.before; after = p.after; texts = xs ++ p.texts; front = front_behind old mid new ws p.before p.after vs xs p.texts a p.front }

-- reading stopped before the last files
pub stops_before : (old new : HostState) (ws vs : List Wanted) (u : Unread) → StopsReading old ws new u → StopsReading old (ws ++ vs) new u
stops_before old new ws vs (TooLong index) (w, p) = (
  w,
  record {
    before = p.before;
    after = p.after ++ vs;
    texts = p.texts;
    between = p.between;
    front = front_before old p.between ws p.before (w ∷ p.after) vs p.texts p.front;
    at = p.at;
    bytes = p.bytes;
    bytes_are = p.bytes_are;
    long = p.long;
    state = p.state;
  },
)
stops_before old new ws vs Failed p =
    record {
      before = p.before;
      after = p.after ++ vs;
      w = p.w;
      texts = p.texts;
      between = p.between;
      front =
          front_before old p.between ws p.before (p.w ∷ p.after) vs p.texts p.front;
      fails = p.fails;
    }
stops_before old new ws vs Memory p =
    record { before = p.before; after = p.after ++ vs; texts = p.texts; front = front_before old new ws p.before p.after vs p.texts p.front }

-- memory ran out before any file was read
pub reads_none : (old new : HostState) (wants : List Wanted) → new ≡ old → ReadsSome old wants new
reads_none old new wants h = record { before = []; after = wants; texts = []; front = record { cut = refl; reads = h } }

same_behind : (u : Unread) → behind 0 u ≡ u
same_behind (TooLong index) = ap TooLong (omega arith)
same_behind Failed = refl
same_behind Memory = refl

-- an index behind no file is an index
pub behind_none : (old new : HostState) (ws : List Wanted) (u : Unread) → StopsBehind 0 old ws new u → StopsReading old ws new u
behind_none old new ws u s = subst (λ v. StopsReading old ws new v) (sym (same_behind s.among) ∙ sym s.at) s.stops

-- the first file is not read
pub first_fails : (old new : HostState) (w : Wanted) (ws : List Wanted) → FailsRead old new → FailsToRead old (w ∷ ws) new
first_fails old new w ws h = record { before = []; after = ws; w = w; texts = []; between = old; front = record { cut = refl; reads = refl }; fails = h }

first_passes : (old new : HostState) (w : Wanted) (ws : List Wanted) (bytes : List ℕ) → AreBytesOf old w bytes → limit_of w.kind < length bytes
    → new ≡ after_reading old w bytes → PassesLimit old (w ∷ ws) 0 w new
first_passes old new w ws bytes front long state =
    record {
      before = [];
      after = ws;
      texts = [];
      between = old;
      front = record { cut = refl; reads = refl };
      at = refl;
      bytes = bytes;
      bytes_are = front;
      long = long;
      state = state;
    }

-- the same, where so many files stand before it in a list
pub next_passes : (n : ℕ) (old new : HostState) (w : Wanted) (bytes : List ℕ) → AreBytesOf old w bytes → limit_of w.kind < length bytes
    → new ≡ after_reading old w bytes → StopsBehind n old (w ∷ []) new (TooLong n)
next_passes n old new w bytes front long state = record {
  among = TooLong 0;
  at = ap TooLong (omega arith);
  stops =
      (w, first_passes old new w [] bytes front long state);
}

pub next_fails : (n : ℕ) (old new : HostState) (w : Wanted) → FailsRead old new → StopsBehind n old (w ∷ []) new Failed
next_fails n old new w h = record { among = Failed; at = refl; stops = first_fails old new w [] h }

pub next_none : (n : ℕ) (old new : HostState) (w : Wanted) → new ≡ old → StopsBehind n old (w ∷ []) new Memory
next_none n old new w h = record { among = Memory; at = refl; stops = reads_none old new (w ∷ []) h }

-- the files of names, around an index
module _ (kind : FileKind) (names : List (String Global)) where
  abbrev wants_of : List (String Global) → List Wanted
  wants_of some = wanted_each kind (map string_bytes some)

  more_wants : (i : ℕ) (d : String Global) (name : List ℕ) → i < length names → name ≡ string_bytes (get_or names i d)
      → wants_of (take (i + 1) names) ≡ wants_of (take i names) ++ wanted kind name ∷ []
  more_wants i d name h e =
      ap wants_of (take_more names i d h)
      ∙ ap (map (wanted kind)) (map-append string_bytes (take i names) (get_or names i d ∷ []))
      ∙ map-append (wanted kind) (map string_bytes (take i names)) (string_bytes (get_or names i d) ∷ [])
      ∙ ap (λ n. wants_of (take i names) ++ wanted kind n ∷ []) (sym e)

  wants_cut : (i : ℕ) → wants_of (take i names) ++ wants_of (drop i names) ≡ wants_of names
  wants_cut i =
      sym (map-append (wanted kind) (map string_bytes (take i names)) (map string_bytes (drop i names)))
      ∙ ap (map (wanted kind)) (sym (map-append string_bytes (take i names) (drop i names)))
      ∙ ap wants_of (take-append-drop i names)

  -- one more file was read
  pub reads_next : (old mid new : HostState) (i : ℕ) (d : String Global) (name : List ℕ) (xs : List (List ℕ)) (x : List ℕ) → i < length names
      → name ≡ string_bytes (get_or names i d) → ReadsWithin old (wants_of (take i names)) xs mid
      → ReadsWithin mid (wanted kind name ∷ []) (x ∷ []) new → ReadsWithin old (wants_of (take (i + 1) names)) (xs ++ x ∷ []) new
  reads_next old mid new i d name xs x h e a b =
      subst (λ ws. ReadsWithin old ws (xs ++ x ∷ []) new) (sym (more_wants i d name h e))
      (reads_append old mid new (wants_of (take i names)) (wanted kind name ∷ []) xs (x ∷ []) a b)

  -- memory ran out behind some of the files
  pub reads_some : (old new : HostState) (i : ℕ) (xs : List (List ℕ)) → ReadsWithin old (wants_of (take i names)) xs new → ReadsSome old (wants_of names) new
  reads_some old new i xs a = record {
    before = wants_of (take i names);
    after = wants_of (drop i names);
    texts = xs;
    front =
        record { cut = sym (wants_cut i); reads = a };
  }

  -- the next file is not read
  pub stops_next : (old mid new : HostState) (i : ℕ) (d : String Global) (name : List ℕ) (xs : List (List ℕ)) (u : Unread) → i < length names
      → name ≡ string_bytes (get_or names i d) → ReadsWithin old (wants_of (take i names)) xs mid
      → StopsBehind i mid (wanted kind name ∷ []) new u → StopsReading old (wants_of names) new u
  stops_next old mid new i d name xs u h e a s =
      let front : List Wanted = wants_of (take i names) in
      let long : length front ≡ i = length-map (map string_bytes (take i names)) (wanted kind) ∙ length-map (take i names) string_bytes
      ∙ length-take-le i names (omega (arith, h)) in
      let behind_front = stops_behind old mid new front (wanted kind name ∷ []) xs s.among a s.stops in
      let whole = stops_before old new (front ++ wanted kind name ∷ []) (wants_of (drop (i + 1) names)) (behind (length front) s.among) behind_front in
      let cut : (front ++ wanted kind name ∷ []) ++ wants_of (drop (i + 1) names) ≡ wants_of names =
      ap (λ l. l ++ wants_of (drop (i + 1) names)) (sym (more_wants i d name h e)) ∙ wants_cut (i + 1) in
      let at : behind (length front) s.among ≡ u = ap (λ n. behind n s.among) long ∙ sym s.at in
      subst (λ v. StopsReading old (wants_of names) new v) at (subst (λ ws. StopsReading old ws new (behind (length front) s.among)) cut whole)

-- what was written first, and then what was written behind it
pub writes_append : (old : HostState) (ws vs : List Written) → after_writes old (ws ++ vs) ≡ after_writes (after_writes old ws) vs
writes_append old [] vs = refl
writes_append old (w ∷ ws) vs = writes_append (after_write old w) ws vs

-- the write with this index is not made
pub stops_at : (old mid new : HostState) (ws : List Write) (i : ℕ) (w : Write) (f : WriteFault) → i < length ws → w ≡ get_or ws i w
    → mid ≡ after_writes old (map written_of (take i ws)) → FailsWrite mid new (written_of w) f
    → StopsWriting old (map written_of ws) new f
stops_at old mid new ws i w f h e made stops =
    record {
      before = map written_of (take i ws);
      after = map written_of (drop (i + 1) ws);
      w = written_of w;
      cut =
          ap (map written_of) (sym (take-append-drop i ws) ∙ ap (λ l. take i ws ++ l) (drop_more ws i w h ∙ ap (λ v. v ∷ drop (i + 1) ws) (sym e)))
          ∙ map-append written_of (take i ws) (w ∷ drop (i + 1) ws);
      stops = subst (λ s. FailsWrite s new (written_of w) f) made stops;
    }

-- one more write is made
pub writes_more : (old mid new : HostState) (ws : List Write) (i : ℕ) (w : Write) → i < length ws → w ≡ get_or ws i w
    → mid ≡ after_writes old (map written_of (take i ws)) → new ≡ after_write mid (written_of w)
    → new ≡ after_writes old (map written_of (take (i + 1) ws))
writes_more old mid new ws i w h e a b =
    b ∙ ap (λ s. after_write s (written_of w)) a
    ∙ sym (writes_append old (map written_of (take i ws)) (written_of w ∷ []))
    ∙ ap (after_writes old) (sym (map-append written_of (take i ws) (w ∷ [])) ∙ ap (map written_of)
    (ap (λ v. take i ws ++ v ∷ []) e ∙ sym (take_more ws i w h)))
