-- Conjunctions of tests, taken apart.
use Rattle.std.proofs.Common.{◌≡◌, Bool, true, ◌&&◌}
use Rattle.std.proofs.lemmas.Bool.{and_parts}

pub parts3 : (a b c : Bool) → (a && b && c) ≡ true → (a ≡ true) × (b ≡ true) × (c ≡ true)
parts3 a b c holds = let p = and_parts (a && b) c holds in let q = and_parts a b p.0 in (q.0, q.1, p.1)

pub parts4 : (a b c d : Bool) → (a && b && c && d) ≡ true → (a ≡ true) × (b ≡ true) × (c ≡ true) × (d ≡ true)
parts4 a b c d holds = let p = and_parts (a && b && c) d holds in let q = parts3 a b c p.0 in (q.0, q.1, q.2, p.1)

pub parts5 : (a b c d e : Bool) → (a && b && c && d && e) ≡ true → (a ≡ true) × (b ≡ true) × (c ≡ true) × (d ≡ true) × (e ≡ true)
parts5 a b c d e holds = let p = and_parts (a && b && c && d) e holds in let q = parts4 a b c d p.0 in (q.0, q.1, q.2, q.3, p.1)

pub parts6 : (a b c d e f : Bool) → (a && b && c && d && e && f) ≡ true → (a ≡ true) × (b ≡ true) × (c ≡ true) × (d ≡ true) × (e ≡ true) × (f ≡ true)
parts6 a b c d e f holds = let p = and_parts (a && b && c && d && e) f holds in let q = parts5 a b c d e p.0 in (q.0, q.1, q.2, q.3, q.4, p.1)

pub parts7 : (a b c d e f g : Bool) → (a && b && c && d && e && f && g) ≡ true → (a ≡ true) × (b ≡ true) × (c ≡ true) × (d ≡ true) × (e ≡ true) × (f ≡ true)
    × (g ≡ true)
parts7 a b c d e f g holds = let p = and_parts (a && b && c && d && e && f) g holds in let q = parts6 a b c d e f p.0 in (q.0, q.1, q.2, q.3, q.4, q.5, p.1)

pub parts8 : (a b c d e f g h : Bool) → (a && b && c && d && e && f && g && h) ≡ true → (a ≡ true) × (b ≡ true) × (c ≡ true) × (d ≡ true) × (e ≡ true)
    × (f ≡ true) × (g ≡ true) × (h ≡ true)
parts8 a b c d e f g h holds = let p = and_parts (a && b && c && d && e && f && g) h holds in let q = parts7 a b c d e f g p.0 in
    (q.0, q.1, q.2, q.3, q.4, q.5, q.6, p.1)

pub parts9 : (a b c d e f g h i : Bool) → (a && b && c && d && e && f && g && h && i) ≡ true → (a ≡ true) × (b ≡ true) × (c ≡ true) × (d ≡ true) × (e ≡ true)
    × (f ≡ true) × (g ≡ true) × (h ≡ true) × (i ≡ true)
parts9 a b c d e f g h i holds = let p = and_parts (a && b && c && d && e && f && g && h) i holds in let q = parts8 a b c d e f g h p.0 in
    (q.0, q.1, q.2, q.3, q.4, q.5, q.6, q.7, p.1)

pub parts10 : (a b c d e f g h i j : Bool) → (a && b && c && d && e && f && g && h && i && j) ≡ true → (a ≡ true) × (b ≡ true) × (c ≡ true) × (d ≡ true)
    × (e ≡ true) × (f ≡ true) × (g ≡ true) × (h ≡ true) × (i ≡ true) × (j ≡ true)
parts10 a b c d e f g h i j holds = let p = and_parts (a && b && c && d && e && f && g && h && i) j holds in let q = parts9 a b c d e f g h i p.0 in
    (q.0, q.1, q.2, q.3, q.4, q.5, q.6, q.7, q.8, p.1)
