-- The single changes that a command makes keep what soundness is inside it.
use Prim.Native.Nat.{ℕ, zero, suc, ◌+◌, ◌*◌, ◌%◌, ◌≤◌, ◌<◌}
use mathlib.Core.Path.{◌≡◌, refl, ap, sym}
use mathlib.Core.Bool.{Bool, true, false, not, ◌&&◌, ◌||◌}
use mathlib.Core.List.{List, [], ◌∷◌}
use lib.Dec.{eqb, leb}
use lib.ListN.{take, set}
use native.Mathlib.Omega.{arith}
use borrow.Author.Tests.{leb-true, eqb-true, le-leb, lt-ltb, eq-eqb}
use Rattle.model.specs.declared.Descriptor.{Descriptor}
use Rattle.model.specs.declared.Secret.{Secret}
use Rattle.model.specs.declared.Open.{Open}
use Rattle.model.specs.declared.Open.TheVariants.{Shut, Table, Record}
use Rattle.model.specs.declared.Spot.{Spot}
use Rattle.model.specs.declared.Spot.TheVariants.{Nowhere, At}
use Rattle.model.specs.Rows.{taken, with_row, descriptor_size, table_room, secret_room}
use Rattle.model.specs.Rules.{tag_spot}
use Rattle.model.specs.Command.{is_shut}
use Rattle.model.specs.Sound.{table_open, secrets_ok, table_fits, record_fits}
use Rattle.lists.specs.Truth.{and_l, and_r, and_i, or_l, or_r}
use Rattle.theorem_sound.proofs.Taking.{with_row_bound, with_row_keeps}
use Rattle.theorem_sound.proofs.Inside.{fits_in, Inside}

-- an open '3100' that fits, as facts
pub table_fit : (r n held missing : ℕ) → taken r 5 ≡ false → n * descriptor_size + held + missing ≤ table_room
    → (n * descriptor_size + held + missing) % descriptor_size ≡ 0 → held < descriptor_size
    → (not (taken r 5) && table_fits n held missing) ≡ true
table_fit r n held missing a b c d =
    let k = n * descriptor_size + held + missing in
    and_i _ _ (ap not a) (and_i _ _ (and_i _ _ (le-leb k table_room b) (eq-eqb (k % descriptor_size) 0 c))
    (lt-ltb held descriptor_size d))

-- rule c: '5A' from any state
pub begun : {i r : ℕ} {o : Open} {fs : List Descriptor} {n : ℕ} {xs : List Secret} → Inside i r o fs n xs
    → Inside 0x5A r o fs n xs
begun {o} h = record {
  stage = refl;
  room = h.room;
  count = h.count;
  passes = h.passes;
  rows = h.rows;
  placed = h.placed;
  secrets = h.secrets;
  opened = or_r (is_shut o) true refl;
  fits = h.fits;
}

-- the end, with no value open
pub ended : {i r : ℕ} {fs : List Descriptor} {n : ℕ} {xs : List Secret} → Inside i r Shut fs n xs
    → Inside 0xA5 r Shut fs n xs
ended h = record {
  stage = refl;
  room = h.room;
  count = h.count;
  passes = h.passes;
  rows = h.rows;
  placed = h.placed;
  secrets = h.secrets;
  opened = refl;
  fits = refl;
}

placed_more : (a b c : Bool) (z : Bool) → (b ≡ true → c ≡ true) → (a || b || z) ≡ true → (a || c || z) ≡ true
placed_more true b c z f e = refl
placed_more false true c z f e = or_l c z (f refl)
placed_more false false c z f e = or_r c z e

-- a row is taken with no value open
pub row_taken : {i r : ℕ} {fs : List Descriptor} {n : ℕ} {xs : List Secret} (k : ℕ) → 1 ≤ k → k ≤ 11
    → Inside i r Shut fs n xs → Inside i (with_row r k) Shut fs n xs
row_taken {r} {n} k a b h = record {
  stage = h.stage;
  room = h.room;
  count = h.count;
  passes = h.passes;
  rows = with_row_bound k a b r h.rows;
  placed = placed_more (eqb n 0) (taken r 5) (taken (with_row r k) 5) false (with_row_keeps k a b r) h.placed;
  secrets = h.secrets;
  opened = h.opened;
  fits = refl;
}

secrets_set : (xs : List Secret) (j : ℕ) (x : Secret) → x.len ≤ secret_room → secrets_ok xs ≡ true
    → secrets_ok (set xs j x) ≡ true
unfolding secrets_ok
secrets_set [] j x b e = refl
secrets_set (y ∷ ys) zero x b e = and_i _ _ (le-leb x.len secret_room b)
    (and_r (leb y.len secret_room) (secrets_ok ys) e)
secrets_set (y ∷ ys) (suc j) x b e =
    and_i _ _ (and_l (leb y.len secret_room) (secrets_ok ys) e)
    (secrets_set ys j x b (and_r (leb y.len secret_room) (secrets_ok ys) e))

-- a secret of at most 64 bytes is kept
pub secret_kept : {i r : ℕ} {o : Open} {fs : List Descriptor} {n : ℕ} {xs : List Secret} (j : ℕ) (x : Secret)
    → x.len ≤ secret_room
    → Inside i r o fs n xs → Inside i r o fs n (set xs j x)
secret_kept {xs} j x b h = record {
  stage = h.stage;
  room = h.room;
  count = h.count;
  passes = h.passes;
  rows = h.rows;
  placed = h.placed;
  secrets = secrets_set xs j x b h.secrets;
  opened = h.opened;
  fits = h.fits;
}

-- another value open, or none. A table that has descriptors is open or its row taken; an open value wants '5A'.
pub open_other : {i r : ℕ} {o : Open} {fs : List Descriptor} {n : ℕ} {xs : List Secret} (q : Open)
    → (eqb n 0 || taken r 5 || table_open q) ≡ true
    → (is_shut q || eqb i 0x5A) ≡ true → fits_in q r n (take n fs) ≡ true → Inside i r o fs n xs → Inside i r q fs n xs
open_other q p g e h = record {
  stage = h.stage;
  room = h.room;
  count = h.count;
  passes = h.passes;
  rows = h.rows;
  placed = p;
  secrets = h.secrets;
  opened = g;
  fits = e;
}

empty_table : (a b : Bool) → (a || b || false) ≡ true → b ≡ false → a ≡ true
empty_table true b e f = refl
empty_table false true e f = sym f
empty_table false false e f = e

-- '3100' is opened: its row is not taken and nothing is open, so there are no descriptors
pub table_begun : {i r : ℕ} {fs : List Descriptor} {n : ℕ} {xs : List Secret} (len : ℕ) → eqb i 0x5A ≡ true
    → taken r 5 ≡ false → len ≤ table_room
    → len % descriptor_size ≡ 0 → Inside i r Shut fs n xs → Inside i r (Table 0 len) fs n xs
table_begun {r} {n} len c t b m h =
    let e : n ≡ 0 = eqb-true n 0 (empty_table (eqb n 0) (taken r 5) h.placed t) in
    open_other (Table 0 len) (or_r (eqb n 0 || taken r 5) true refl) c
    (table_fit r n 0 len t (omega arith) (omega arith) (omega arith)) h

record_fit : (x : Spot) (base size written missing : ℕ) → x ≡ At base size → written + missing ≤ size
    → record_fits x written missing ≡ true
record_fit x base size written missing e h = rw e (le-leb (written + missing) size h)

-- 'ssnn' is opened
pub record_begun : {i r : ℕ} {fs : List Descriptor} {n : ℕ} {xs : List Secret} (tag len base size : ℕ)
    → eqb i 0x5A ≡ true
    → tag_spot (take n fs) tag ≡ At base size → len ≤ size → Inside i r Shut fs n xs
    → Inside i r (Record tag 0 len) fs n xs
record_begun {fs} {n} tag len base size c e b h =
    open_other (Record tag 0 len) h.placed c (record_fit (tag_spot (take n fs) tag) base size 0 len e (omega arith))
    h

record_less : (x : Spot) (w m v k : ℕ) → record_fits x w m ≡ true → v + k ≤ w + m → record_fits x v k ≡ true
record_less Nowhere w m v k e h = e
record_less (At base size) w m v k e h = let g : w + m ≤ size =
    leb-true (w + m) size e in le-leb (v + k) size (omega arith)

-- bytes of an open 'ssnn' have come, not all
pub record_goes_on : {i r : ℕ} {fs : List Descriptor} {n : ℕ} {xs : List Secret} (tag written missing v k : ℕ)
    → v + k ≤ written + missing
    → Inside i r (Record tag written missing) fs n xs → Inside i r (Record tag v k) fs n xs
record_goes_on {fs} {n} tag written missing v k b h =
    open_other (Record tag v k) h.placed h.opened
    (record_less (tag_spot (take n fs) tag) written missing v k h.fits b) h

-- the last of them has
pub record_ended : {i r : ℕ} {fs : List Descriptor} {n : ℕ} {xs : List Secret} (tag written missing : ℕ)
    → Inside i r (Record tag written missing) fs n xs
    → Inside i (with_row r 11) Shut fs n xs
record_ended tag written missing h = row_taken 11 (omega arith) (omega arith)
    (open_other Shut h.placed refl refl h)
