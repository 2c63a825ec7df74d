-- Where every byte is hidden, all of them are zero; the five secrets one by one.
use Prim.Native.Nat.{ℕ, suc}
use mathlib.Core.Path.{◌≡◌, refl, ap, sym, ◌∙◌}
use mathlib.Core.List.{List, [], ◌∷◌}
use native.Mathlib.Omega.{arith}
use lib.ListN.{length, replicate, get_or}
use Rattle.model.specs.declared.Secret.{Secret}
use Rattle.theorem_secrecy.specs.View.{every}
use Rattle.theorem_secrecy.specs.Veil.{blotted, veil_secret, veil_secrets}

blotted_all : (j : ℕ) (bs : List ℕ) → blotted (every 0) j bs ≡ replicate (length bs) 0
unfolding blotted
blotted_all j [] = refl
blotted_all j (b ∷ bs) = ap (λ (l : List ℕ). 0 ∷ l) (blotted_all (suc j) bs)

pub secret_veiled : (s : Secret) → length s.bytes ≡ 64
    → record { bytes = replicate 64 0; len = s.len } ≡ veil_secret (every 0) s
secret_veiled s e =
    ap (λ (bs : List ℕ). record { bytes = bs; len = s.len }) (ap (λ (n : ℕ). replicate n 0) (sym e) ∙ sym
    (blotted_all 0 s.bytes))

-- one of them, whatever stands for what is not there
abbrev veil_at : Secret → List Secret → ℕ → Secret
veil_at d xs i = veil_secret (every 0) (get_or xs i d)

pub five_veiled : (z : Secret) (xs : List Secret) → length xs ≡ 5
    → veil_at z xs 0 ∷ veil_at z xs 1 ∷ veil_at z xs 2 ∷ veil_at z xs 3 ∷ veil_at z xs 4 ∷ [] ≡ veil_secrets every 0 xs
unfolding veil_secrets
five_veiled z (a ∷ b ∷ c ∷ d ∷ e ∷ []) l = refl
five_veiled z [] l = absurd (omega arith)
five_veiled z (a ∷ []) l = absurd (omega arith)
five_veiled z (a ∷ b ∷ []) l = absurd (omega arith)
five_veiled z (a ∷ b ∷ c ∷ []) l = absurd (omega arith)
five_veiled z (a ∷ b ∷ c ∷ d ∷ []) l = absurd (omega arith)
five_veiled z (a ∷ b ∷ c ∷ d ∷ e ∷ f ∷ xs) l = absurd (omega arith)
