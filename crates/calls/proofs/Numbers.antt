-- Numbers of more than one byte: the library's bytes of a number are those of `Numbers`, and its number of bytes too.
use Rattle.std.proofs.Common.{◌≡◌, refl, ℕ, Bool, true, false, cond, ◌+◌, ◌*◌, ◌<◌, ◌^◌, List, [], ◌∷◌, arith}
use Rattle.std.proofs.lemmas.List.{get_or-take, get_or-drop}
use Rattle.std.specs.List.{slice_index}
use Rattle.std.specs.Int.{w16, w32, w64, from_be_bytes, from_bool, to_be_bytes}
use Rattle.lists.specs.Bytes.{byte_at, part, word_at}
use Rattle.calls.specs.Numbers.{four_at, eight_at, two_of, four_of, eight_of}

-- a byte of a part; the place is the caller's to say
byte_in : (b : List ℕ) (at n i k : ℕ) → i < n → at + i ≡ k → slice_index (part b at n) i ≡ byte_at b k
byte_in b at n i k h e = rw (get_or-take {A = ℕ} n _ i 0 h, get_or-drop {A = ℕ} at b i 0, e)

two : {a b p q : ℕ} → a ≡ p → b ≡ q → a * 256 + b ≡ p * 256 + q
two e f = rw (e, f)

four : {a b c d p q r s : ℕ} → a ≡ p → b ≡ q → c ≡ r → d ≡ s
    → a * 16777216 + b * 65536 + c * 256 + d ≡ (p * 256 + q) * 65536 + (r * 256 + s)
four e f g h = omega (arith, e, f, g, h)

eight : {a b c d e f g h p q r s t u v w : ℕ} → a ≡ p → b ≡ q → c ≡ r → d ≡ s → e ≡ t → f ≡ u → g ≡ v → h ≡ w
    → a * 72057594037927936 + b * 281474976710656 + c * 1099511627776 + d * 4294967296 + e * 16777216 + f * 65536
    + g * 256 + h ≡ ((p * 256 + q) * 65536 + (r * 256 + s)) * 4294967296 + ((t * 256 + u) * 65536 + (v * 256 + w))
eight i j k l m n o x = omega (arith, i, j, k, l, m, n, o, x)

module _ (b : List ℕ) (at : ℕ) where
  pub two_in : from_be_bytes w16 (part b at 2) ≡ word_at b at
  two_in = two (byte_in b at 2 0 at (omega arith) (omega arith)) (byte_in b at 2 1 (at + 1) (omega arith) (omega arith))

  pub four_in : from_be_bytes w32 (part b at 4) ≡ four_at b at
  four_in = four
      (byte_in b at 4 0 at (omega arith) (omega arith)) (byte_in b at 4 1 (at + 1) (omega arith) (omega arith))
      (byte_in b at 4 2 (at + 2) (omega arith) (omega arith)) (byte_in b at 4 3 (at + 2 + 1) (omega arith) (omega arith))

  pub eight_in : from_be_bytes w64 (part b at 8) ≡ eight_at b at
  eight_in = eight
      (byte_in b at 8 0 at (omega arith) (omega arith)) (byte_in b at 8 1 (at + 1) (omega arith) (omega arith))
      (byte_in b at 8 2 (at + 2) (omega arith) (omega arith)) (byte_in b at 8 3 (at + 2 + 1) (omega arith) (omega arith))
      (byte_in b at 8 4 (at + 4) (omega arith) (omega arith)) (byte_in b at 8 5 (at + 4 + 1) (omega arith) (omega arith))
      (byte_in b at 8 6 (at + 4 + 2) (omega arith) (omega arith))
      (byte_in b at 8 7 (at + 4 + 2 + 1) (omega arith) (omega arith))

two_same : {a b p q : ℕ} → a ≡ p → b ≡ q → ◌≡◌ {A = List ℕ} (a ∷ b ∷ []) (p ∷ q ∷ [])
two_same e f = rw (e, f)

pub two_out : (n : ℕ) → n < 2 ^ 16 → to_be_bytes w16 n ≡ two_of n
two_out n h = two_same (omega arith) (omega arith)

four_same : {a b c d p q r s : ℕ} → a ≡ p → b ≡ q → c ≡ r → d ≡ s
    → ◌≡◌ {A = List ℕ} (a ∷ b ∷ c ∷ d ∷ []) (p ∷ q ∷ r ∷ s ∷ [])
four_same e f g h = rw (e, f, g, h)

pub four_out : (n : ℕ) → n < 2 ^ 32 → to_be_bytes w32 n ≡ four_of n
four_out n h = four_same (omega arith) (omega arith) (omega arith) (omega arith)

eight_same : {a b c d e f g h p q r s t u v w : ℕ} → a ≡ p → b ≡ q → c ≡ r → d ≡ s → e ≡ t → f ≡ u → g ≡ v → h ≡ w
    → ◌≡◌ {A = List ℕ} (a ∷ b ∷ c ∷ d ∷ e ∷ f ∷ g ∷ h ∷ []) (p ∷ q ∷ r ∷ s ∷ t ∷ u ∷ v ∷ w ∷ [])
eight_same i j k l m n o x = rw (i, j, k, l, m, n, o, x)

pub eight_out : (n : ℕ) → n < 2 ^ 64 → to_be_bytes w64 n ≡ eight_of n
eight_out n h = eight_same (omega arith) (omega arith) (omega arith) (omega arith) (omega arith) (omega arith) (omega arith) (omega arith)

-- a flag is 1 or 0
pub flag_is : (b : Bool) → from_bool b ≡ cond b 1 0
flag_is true = refl
flag_is false = refl
