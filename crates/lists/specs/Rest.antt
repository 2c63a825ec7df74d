-- What a loop over the first n elements of a list has left: laws for a definition that recurses on lists.
use Rattle.std.specs.Prelude.{ℕ, ◌+◌, ◌≤◌, ◌<◌, ◌≡◌, List, [], ◌∷◌, length, get_or, take, drop}
use Rattle.std.proofs.Common.{add-one, drop_of_length-le, drop-cons, get_or-take, length-take-le}

module _ {A : Type 0} (l : List A) (n : ℕ) (fits : n ≤ length l) where
  -- what is left from i on begins with element i
  pub rest_cons : (i : ℕ) (z : A) → i < n → drop i (take n l) ≡ get_or l i z ∷ drop (i + 1) (take n l)
  rest_cons i z h =
      let g : i < length (take n l) = simp (length-take-le n l fits) h in
      rw (add-one, drop-cons (take n l) i z g, get_or-take n l i z h)

  pub rest_none : (i : ℕ) → n ≤ i → drop i (take n l) ≡ []
  rest_none i h = drop_of_length-le (take n l) {i = i} (simp (length-take-le n l fits) h)
