-- Laws of bytes in hexadecimal and of numbers in decimal, as loops build them.
use Prim.Native.Nat.{ℕ, zero, suc, ◌+◌, ◌*◌, ◌-◌, ◌/◌, ◌%◌, ◌^◌, ◌≤◌, ◌<◌}
use mathlib.Core.Path.{◌≡◌, refl}
use mathlib.Core.List.{List, [], ◌∷◌, ◌++◌}
use native.Mathlib.Nat.{le_of_lt, pow-suc}
use native.Mathlib.Omega.{arith}
use native.Mathlib.Numerals.{add-one}
use lib.ListN.{length, take, set, get_or, length-append}
use lib.Seq.{take-suc, length-take-le, set_comm}
use borrow.Author.Tests.{lt-ltb, le-ltb}
use Rattle.lists.specs.Over.{overwrite, over_none}
use Rattle.model.specs.Lines.{digit, hex2}
use Rattle.print_numbers.specs.Trace.{hex_of, last_digits, width_with}
use Rattle.print_numbers.proofs.Runs.{run_one, run_more}

-- Hexadecimal.

pub length_hex : (bs : List ℕ) → length (hex_of bs) ≡ 2 * length bs
unfolding hex_of
length_hex [] = refl
length_hex (b ∷ bs) = omega (arith, length_hex bs)

pub hex_append : (xs ys : List ℕ) → hex_of (xs ++ ys) ≡ hex_of xs ++ hex_of ys
unfolding hex_of
hex_append [] ys = refl
hex_append (x ∷ xs) ys = rw (hex_append xs ys)

hex_one : (b : ℕ) → hex_of (b ∷ []) ≡ hex2 b
unfolding hex_of
hex_one b = refl

-- a turn of the loop
pub hex_more : (a s : List ℕ) (i j : ℕ) → j < length s
    → overwrite (overwrite a i (hex_of (take j s))) (i + 2 * j) (hex2 (get_or s j 0))
    ≡ overwrite a i (hex_of (take (j + 1) s))
hex_more a s i j h =
    let n : length (take j s) ≡ j = length-take-le j s (le_of_lt h) in
    rw (add-one, take-suc s j 0 h, hex_append, hex_one)
    (run_more a (hex_of (take j s)) (hex2 (get_or s j 0)) i (i + 2 * j) (omega (arith, length_hex (take j s))))

-- Decimal.

pub length_digits : (w n : ℕ) → length (last_digits w n) ≡ w
unfolding last_digits
length_digits zero n = refl
length_digits (suc w) n = simp length-append (omega (arith, length_digits w (n / 10)))

-- a character behind a run may be stored before it
under : (xs a : List ℕ) (i j x : ℕ) → i + length xs ≤ j → overwrite (set a j x) i xs ≡ set (overwrite a i xs) j x
unfolding overwrite
under [] a i j x h = refl
under (y ∷ ys) a i j x h =
    rw (set_comm a j i x y (λ e. omega arith)) (under ys (set a i y) (suc i) j x (omega arith))

-- a turn of the loop, which goes from the last digit to the front
pub digits_more : (a : List ℕ) (p i r : ℕ) → 0 < i
    → overwrite (set a (p + (i - 1)) (digit (r % 10))) p (last_digits (i - 1) (r / 10))
    ≡ overwrite a p (last_digits i r)
unfolding last_digits
digits_more a p zero r h = absurd (omega arith)
digits_more a p (suc i) r h =
    let e : suc i - 1 ≡ i = omega arith in
    let ds = last_digits i (r / 10) in
    let n : p + length ds ≡ p + i = rw (length_digits i (r / 10)) in
    rw (e, under ds a p (p + i) (digit (r % 10)) (omega arith)) (run_one a ds p (p + i) (digit (r % 10)) n)

-- no digit is left when the loop ends
pub digits_none : (a : List ℕ) (p i r : ℕ) → i ≤ 0 → overwrite a p (last_digits i r) ≡ a
unfolding last_digits
digits_none a p zero r h = over_none a p
digits_none a p (suc i) r h = absurd (omega arith)

-- Widths.

pub width_one : (k n : ℕ) → n < 10 → width_with k n ≡ 1
unfolding width_with
width_one zero n h = refl
width_one (suc k) n h = rw (lt-ltb n 10 h)

width_more : (k n : ℕ) → 10 ≤ n → width_with (suc k) n ≡ suc (width_with k (n / 10))
unfolding width_with
width_more k n h = rw (le-ltb n 10 h)

-- a number of at most k + 1 digits and two at least
room : (k n : ℕ) → n < 10 ^ suc k → 10 ≤ n → 1 ≤ k
room zero n h m = absurd (omega arith)
room (suc k) n h m = omega arith

fewer : (k n : ℕ) → n < 10 ^ suc k → n / 10 < 10 ^ k
fewer k n h = let g : n < 10 ^ k * 10 = rw (pow-suc 10 k) at h in omega arith

-- with w digits counted and a number of at most 21 - w digits left, of which there are two at least
module _ (w n : ℕ) (within : w ≤ 20) (small : n < 10 ^ (21 - w)) (more : 10 ≤ n) where
  pub width_room : w < 20
  width_room =
      let e : 21 - w ≡ suc (20 - w) = omega arith in
      omega (arith, room (20 - w) n (rw e at small) more)

  pub width_small : n / 10 < 10 ^ (21 - (w + 1))
  width_small =
      let e : 21 - w ≡ suc (21 - (w + 1)) = omega arith in
      fewer (21 - (w + 1)) n (rw e at small)

  pub width_again : w + width_with (20 - w) n ≡ w + 1 + width_with (20 - (w + 1)) (n / 10)
  width_again =
      let e : 20 - w ≡ suc (20 - (w + 1)) = omega (arith, width_room) in
      rw (e, width_more (20 - (w + 1)) n more) (omega arith)
