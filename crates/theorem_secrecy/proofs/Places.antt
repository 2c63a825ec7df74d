-- Laws of `kept_by`: the marked bytes of a secret's value are the secret as it is kept.
use Prim.Native.Nat.{ℕ, zero, suc, ◌+◌, ◌-◌, ◌≤◌, ◌<◌}
use mathlib.Core.Path.{◌≡◌, refl, ap, sym, ◌∙◌}
use mathlib.Core.List.{List, [], ◌∷◌, ◌++◌, append-nil, append_assoc}
use native.Mathlib.Omega.{arith}
use lib.ListN.{length, get_or, take, drop, set, length-append}
use lib.Seq.{set_at}
use Rattle.lists.specs.Bytes.{zeros}
use Rattle.model.specs.declared.Secret.{Secret}
use Rattle.model.specs.Stored.{no_secret}
use Rattle.theorem_secrecy.specs.View.{Mark, seens, secret_marks}
use Rattle.theorem_secrecy.specs.Kept.{with_byte, kept_byte, kept_by}
use Rattle.theorem_secrecy.proofs.Veils.{kept_as}

pub kept_nil : (ms : List Mark) (xs : List Secret) → kept_by ms [] xs ≡ xs
unfolding kept_by
kept_nil [] xs = refl
kept_nil (m ∷ ms) xs = refl

pub kept_none : (b : List ℕ) (xs : List Secret) → kept_by [] b xs ≡ xs
unfolding kept_by
kept_none b xs = refl

pub kept_append : (ms ns : List Mark) (b : List ℕ) (xs : List Secret)
    → kept_by (ms ++ ns) b xs ≡ kept_by ns (drop (length ms) b) (kept_by ms b xs)
unfolding kept_by
kept_append [] ns b xs = refl
kept_append (m ∷ ms) ns [] xs = sym (kept_nil ns xs)
kept_append (m ∷ ms) ns (b ∷ bs) xs = kept_append ms ns bs (kept_byte m b xs)

pub kept_seen : (n : ℕ) (b : List ℕ) (xs : List Secret) → kept_by (seens n) b xs ≡ xs
unfolding kept_by
kept_seen zero b xs = refl
kept_seen (suc n) [] xs = refl
kept_seen (suc n) (b ∷ bs) xs = kept_seen n bs xs

pub kept_within : (n : ℕ) (ms : List Mark) (b : List ℕ) (xs : List Secret)
    → kept_by (take n ms) b xs ≡ kept_by ms (take n b) xs
unfolding kept_by
kept_within zero ms b xs = sym (kept_nil ms xs)
kept_within (suc n) [] b xs = refl
kept_within (suc n) (m ∷ ms) [] xs = refl
kept_within (suc n) (m ∷ ms) (b ∷ bs) xs = kept_within n ms bs (kept_byte m b xs)

pub length_secret_marks : (k j n : ℕ) → length (secret_marks k j n) ≡ n
unfolding secret_marks
length_secret_marks k j zero = refl
length_secret_marks k j (suc n) = ap suc (length_secret_marks k (suc j) n)

-- a secret that was just set, and is changed
set_again : (k : ℕ) (x : Secret) (f : Secret → Secret) (xs : List Secret)
    → set (set xs k x) k (f (get_or (set xs k x) k no_secret)) ≡ set xs k (f x)
set_again k x f [] = refl
set_again zero x f (y ∷ ys) = refl
set_again (suc k) x f (y ∷ ys) = ap (λ (l : List Secret). y ∷ l) (set_again k x f ys)

-- one byte more
one_more : (j b : ℕ) (p : List ℕ) → length p ≡ suc j → suc j < 64
    → with_byte (suc j) b (kept_as p) ≡ kept_as (p ++ (b ∷ []))
one_more j b p e h =
    let m = 64 - suc (suc j) in
    let longer : length (p ++ (b ∷ [])) ≡ suc (suc j) = rw (length-append p (b ∷ []), e) (omega arith) in
    let room : 64 - length p ≡ suc m = rw e (omega arith) in
    rw (room, longer, set_at p 0 (zeros m) b (suc j) e) (rw (append_assoc p (b ∷ []) (zeros m)))

more_kept : (k j n : ℕ) (p b : List ℕ) (xs : List Secret) → length p ≡ suc j → suc j + n ≤ 64 → n ≤ length b
    → kept_by (secret_marks k (suc j) n) b (set xs k (kept_as p)) ≡ set xs k (kept_as (p ++ take n b))
unfolding kept_by secret_marks
more_kept k j zero p b xs e h g = rw (append-nil p)
more_kept k j (suc n) p [] xs e h g = absurd (omega arith)
more_kept k j (suc n) p (b ∷ bs) xs e h g =
    ap (λ (l : List Secret). kept_by (secret_marks k (suc (suc j)) n) bs l)
    (set_again k (kept_as p) (with_byte (suc j) b) xs ∙ ap (set xs k) (one_more j b p e (omega arith)))
    ∙ (more_kept k (suc j) n (p ++ (b ∷ [])) bs xs (rw (length-append p (b ∷ [])) (omega arith)) (omega arith)
    (omega arith)
    ∙ ap (λ (l : List ℕ). set xs k (kept_as l)) (append_assoc p (b ∷ []) (take n bs)))

-- the value of a secret, marked byte by byte
pub secret_kept : (k n : ℕ) (b : List ℕ) (xs : List Secret) → 1 ≤ n → n ≤ 64 → n ≤ length b
    → kept_by (secret_marks k 0 n) b xs ≡ set xs k (kept_as (take n b))
unfolding kept_by secret_marks
secret_kept k zero b xs l h g = absurd (omega arith)
secret_kept k (suc n) [] xs l h g = absurd (omega arith)
secret_kept k (suc n) (b ∷ bs) xs l h g = more_kept k 0 n (b ∷ []) bs xs refl (omega arith) (omega arith)
