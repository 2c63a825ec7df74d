-- Laws of the view: its length, and that it is made part by part.
use Prim.Native.Nat.{ℕ, zero, suc, ◌+◌}
use mathlib.Core.Path.{◌≡◌, refl, ap, ap₂, sym}
use mathlib.Core.Bool.{Bool, true, false, cond, and-eq-true_iff}
use mathlib.Core.List.{List, [], ◌∷◌, ◌++◌}
use native.Mathlib.Nat.{add-zero, add-suc, suc-add}
use lib.Dec.{eqb}
use lib.ListN.{length, take, drop}
use borrow.Author.Tests.{eqb-true}
use Rattle.lists.specs.Bytes.{byte_at, zeros, all_zero}
use Rattle.theorem_secrecy.specs.View.{Mark, seen, secret, seens, secret_marks, Hiding, shown_as, view}
use Rattle.theorem_secrecy.specs.Veil.{blotted}

hidden_zero : (hides : Bool) → ◌≡◌ {A = ℕ} (cond hides 0 0) 0
hidden_zero true = refl
hidden_zero false = refl

module _ (z : Hiding) where
  pub view_nil : (ms : List Mark) → view z ms [] ≡ []
  unfolding view
  view_nil [] = refl
  view_nil (m ∷ ms) = refl

  pub view_none : (bs : List ℕ) → view z [] bs ≡ bs
  unfolding view
  view_none bs = refl

  pub length_view : (ms : List Mark) (bs : List ℕ) → length (view z ms bs) ≡ length bs
  unfolding view
  length_view [] bs = refl
  length_view (m ∷ ms) [] = refl
  length_view (m ∷ ms) (b ∷ bs) = ap suc (length_view ms bs)

  -- bytes that are seen, and then what the marks behind theirs say
  pub take_seen : (n : ℕ) (ms : List Mark) (bs : List ℕ) → take n (view z (seens n ++ ms) bs) ≡ take n bs
  unfolding view
  take_seen zero ms bs = refl
  take_seen (suc n) ms [] = refl
  take_seen (suc n) ms (b ∷ bs) = ap (λ (l : List ℕ). b ∷ l) (take_seen n ms bs)

  pub drop_seen : (n : ℕ) (ms : List Mark) (bs : List ℕ) → drop n (view z (seens n ++ ms) bs) ≡ view z ms (drop n bs)
  unfolding view
  drop_seen zero ms bs = refl
  drop_seen (suc n) ms [] = sym (view_nil ms)
  drop_seen (suc n) ms (b ∷ bs) = drop_seen n ms bs

  -- bytes of a secret, and then what the marks behind theirs say
  pub take_secret : (k j n : ℕ) (ms : List Mark) (bs : List ℕ)
      → take n (view z (secret_marks k j n ++ ms) bs) ≡ blotted (z k) j (take n bs)
  unfolding view secret_marks blotted
  take_secret k j zero ms bs = refl
  take_secret k j (suc n) ms [] = refl
  take_secret k j (suc n) ms (b ∷ bs) = ap (λ (l : List ℕ). cond (z k j) 0 b ∷ l) (take_secret k (suc j) n ms bs)

  pub drop_secret : (k j n : ℕ) (ms : List Mark) (bs : List ℕ)
      → drop n (view z (secret_marks k j n ++ ms) bs) ≡ view z ms (drop n bs)
  unfolding view secret_marks
  drop_secret k j zero ms bs = refl
  drop_secret k j (suc n) ms [] = sym (view_nil ms)
  drop_secret k j (suc n) ms (b ∷ bs) = drop_secret k (suc j) n ms bs

  -- the view of a part is the part of the view
  pub take_view : (n : ℕ) (ms : List Mark) (bs : List ℕ) → take n (view z ms bs) ≡ view z ms (take n bs)
  unfolding view
  take_view zero ms bs = sym (view_nil ms)
  take_view (suc n) [] bs = refl
  take_view (suc n) (m ∷ ms) [] = refl
  take_view (suc n) (m ∷ ms) (b ∷ bs) = ap (λ (l : List ℕ). shown_as z m b ∷ l) (take_view n ms bs)

  -- marks past the bytes say nothing
  pub view_within : (n : ℕ) (ms : List Mark) (bs : List ℕ) → view z (take n ms) (take n bs) ≡ view z ms (take n bs)
  unfolding view
  view_within zero ms bs = sym (view_nil ms)
  view_within (suc n) [] bs = refl
  view_within (suc n) (m ∷ ms) [] = refl
  view_within (suc n) (m ∷ ms) (b ∷ bs) = ap (λ (l : List ℕ). shown_as z m b ∷ l) (view_within n ms bs)

  pub drop_view : (n : ℕ) (ms : List Mark) (bs : List ℕ) → drop n (view z ms bs) ≡ view z (drop n ms) (drop n bs)
  unfolding view
  drop_view zero ms bs = refl
  drop_view (suc n) [] bs = refl
  drop_view (suc n) (m ∷ ms) [] = sym (view_nil (drop n ms))
  drop_view (suc n) (m ∷ ms) (b ∷ bs) = drop_view n ms bs

  -- bytes that are all zero look the same
  pub shown_zero : (m : Mark) → ◌≡◌ {A = ℕ} (shown_as z m 0) 0
  shown_zero seen = refl
  shown_zero (secret k j) = hidden_zero (z k j)

  pub view_zero : (ms : List Mark) (bs : List ℕ) → all_zero bs ≡ true → view z ms bs ≡ bs
  unfolding view all_zero
  view_zero [] bs e = refl
  view_zero (m ∷ ms) [] e = refl
  view_zero (m ∷ ms) (b ∷ bs) e =
      let both = (and-eq-true_iff (eqb b 0) (all_zero bs)).0 e in
      let b-zero = eqb-true b 0 both.0 in
      ap₂ {C = List ℕ} (λ x l. x ∷ l) (rw b-zero (shown_zero m)) (view_zero ms bs both.1)

-- a secret's bytes with zeros behind them
pub length_blotted : (hides : ℕ → Bool) (j : ℕ) (bs : List ℕ) → length (blotted hides j bs) ≡ length bs
unfolding blotted
length_blotted hides j [] = refl
length_blotted hides j (b ∷ bs) = ap suc (length_blotted hides (suc j) bs)

pub blotted_zeros : (hides : ℕ → Bool) (j n : ℕ) → blotted hides j (zeros n) ≡ zeros n
unfolding blotted
blotted_zeros hides j zero = refl
blotted_zeros hides j (suc n) = ap₂ {C = List ℕ} (λ x l. x ∷ l) (hidden_zero (hides j))
    (blotted_zeros hides (suc j) n)

pub blotted_append : (hides : ℕ → Bool) (j n : ℕ) (bs : List ℕ)
    → blotted hides j (bs ++ zeros n) ≡ blotted hides j bs ++ zeros n
unfolding blotted
blotted_append hides j n [] = blotted_zeros hides j n
blotted_append hides j n (b ∷ bs) = ap (λ (l : List ℕ). cond (hides j) 0 b ∷ l) (blotted_append hides (suc j) n bs)

pub byte_blotted : (hides : ℕ → Bool) (j i : ℕ) (bs : List ℕ) → hides (j + i) ≡ false
    → byte_at (blotted hides j bs) i ≡ byte_at bs i
unfolding blotted
byte_blotted hides j i [] e = refl
byte_blotted hides j zero (b ∷ bs) e = rw (rw add-zero at e)
byte_blotted hides j (suc i) (b ∷ bs) e = byte_blotted hides (suc j) i bs (rw (add-suc, ← suc-add) at e)
