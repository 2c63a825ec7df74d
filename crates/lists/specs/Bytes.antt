-- Bytes of a list, and lists of bytes.
use Rattle.std.specs.Prelude.{ℕ, zero, suc, ◌+◌, ◌-◌, ◌*◌, ◌≤◌, ◌<◌, ◌≡◌, refl, Bool, true, false, ◌&&◌, List, [], ◌∷◌, ◌++◌, eqb, length, get_or, take, drop, replicate}
use Rattle.std.proofs.Common.{ap, append-nil, add-one, arith, drop_of_length-le, drop-cons, eq-eqb, ne_eqb, eqb-true}
use Rattle.std.proofs.Math.Nat.{sub_self}
use Rattle.lists.specs.Truth.{and_false, never, both}

-- byte i, 0 past the end
abbrev pub byte_at : List ℕ → ℕ → ℕ
byte_at s i = get_or s i 0

-- two bytes as a number, the more significant first
abbrev pub word : ℕ → ℕ → ℕ
word hi lo = hi * 256 + lo

abbrev pub word_at : List ℕ → ℕ → ℕ
word_at s i = word (byte_at s i) (byte_at s (i + 1))

-- n bytes from a place on
abbrev pub part : List ℕ → ℕ → ℕ → List ℕ
part s at n = take n (drop at s)

abbrev pub zeros : ℕ → List ℕ
zeros n = replicate n 0

-- bytes with zeros behind them, n in all
abbrev pub padded : ℕ → List ℕ → List ℕ
padded n xs = xs ++ zeros (n - length xs)

unfoldable pub all_zero : List ℕ → Bool
all_zero [] = true
all_zero (x ∷ xs) = eqb x 0 && all_zero xs

-- the same bytes, and as many
unfoldable pub same : List ℕ → List ℕ → Bool
same [] [] = true
same [] (y ∷ ys) = false
same (x ∷ xs) [] = false
same (x ∷ xs) (y ∷ ys) = eqb x y && same xs ys

-- Laws.

-- exactly as many bytes have nothing behind them
pub padded_full : (n : ℕ) (xs : List ℕ) → length xs ≡ n → padded n xs ≡ xs
padded_full n xs e = rw (e, sub_self) (append-nil xs)

pub drop_zeros : (n k : ℕ) → drop k (zeros n) ≡ zeros (n - k)
drop_zeros zero zero = refl
drop_zeros zero (suc k) = let e : 0 - suc k ≡ 0 = omega arith in rw e
drop_zeros (suc n) zero = let e : suc n - 0 ≡ suc n = omega arith in rw e
drop_zeros (suc n) (suc k) = let e : suc n - suc k ≡ n - k = omega arith in rw e (drop_zeros n k)

-- a byte off the front of what a scan has left
pub zero_step : (s : List ℕ) (i : ℕ) → i < length s → get_or s i 0 ≡ 0 → all_zero (drop i s) ≡ all_zero (drop (i + 1) s)
unfolding all_zero
zero_step s i h e = rw (add-one, drop-cons s i 0, e)

pub zero_stop : (s : List ℕ) (i : ℕ) → i < length s → (get_or s i 0 ≡ 0 → ⊥) → all_zero (drop i s) ≡ false
unfolding all_zero
zero_stop s i h n = rw (drop-cons s i 0, ne_eqb (get_or s i 0) 0 n)

pub zero_end : (s : List ℕ) (i : ℕ) → length s ≤ i → all_zero (drop i s) ≡ true
unfolding all_zero
zero_end s i h = rw (drop_of_length-le s h)

pub zeros_zero : (n : ℕ) → all_zero (zeros n) ≡ true
unfolding all_zero
zeros_zero zero = refl
zeros_zero (suc n) = zeros_zero n

pub same_step : (a b : List ℕ) (i : ℕ) → i < length a → i < length b → get_or a i 0 ≡ get_or b i 0
    → same (drop i a) (drop i b) ≡ same (drop (i + 1) a) (drop (i + 1) b)
unfolding same
same_step a b i h g e = rw (add-one, drop-cons a i 0 h, drop-cons b i 0 g, eq-eqb _ _ e)

pub same_stop : (a b : List ℕ) (i : ℕ) → i < length a → i < length b → (get_or a i 0 ≡ get_or b i 0 → ⊥)
    → same (drop i a) (drop i b) ≡ false
unfolding same
same_stop a b i h g n = rw (drop-cons a i 0 h, drop-cons b i 0 g, ne_eqb _ _ n)

pub same_end : (a b : List ℕ) (i : ℕ) → length a ≡ length b → length a ≤ i → same (drop i a) (drop i b) ≡ true
unfolding same
same_end a b i e h = rw (drop_of_length-le a h, drop_of_length-le b (rw e at h))

pub same_length : (a b : List ℕ) → (length a ≡ length b → ⊥) → same a b ≡ false
unfolding same
same_length [] [] n = absurd (n refl)
same_length [] (y ∷ ys) n = refl
same_length (x ∷ xs) [] n = refl
same_length (x ∷ xs) (y ∷ ys) n = rw (same_length xs ys (λ e. n (ap suc e))) (and_false (eqb x y))

-- the same bytes exactly where the lists are equal
pub same_eq : (a b : List ℕ) → same a b ≡ true → a ≡ b
unfolding same
same_eq [] [] e = refl
same_eq [] (y ∷ ys) e = never e
same_eq (x ∷ xs) [] e = never e
same_eq (x ∷ xs) (y ∷ ys) e =
    let h = both (eqb x y) e in
    let p : x ≡ y = eqb-true x y h.0 in
    let q : xs ≡ ys = same_eq xs ys h.1 in
    rw (p, q)

pub eq_same : (a : List ℕ) → same a a ≡ true
unfolding same
eq_same [] = refl
eq_same (x ∷ xs) = rw (eq-eqb x x refl) (eq_same xs)
