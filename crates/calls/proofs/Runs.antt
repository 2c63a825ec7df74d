-- Bytes laid one run behind the other, and runs of stored parts.
use Rattle.std.proofs.Common.{◌≡◌, ℕ, ◌+◌, ◌*◌, ◌<◌, List, [], ◌∷◌, ◌++◌, length, get_or, take, sym, refl, ap, ◌∙◌, append_assoc, append-nil, add-one, arith, length-append, drop_of_length-le, take-suc}
use Rattle.lists.specs.Over.{over_then, over_zero}
use Rattle.model.specs.declared.Descriptor.{Descriptor}
use Rattle.model.specs.declared.Secret.{Secret}
use Rattle.calls.specs.Stores.{Puts, descriptor_bytes, files_bytes, secret_bytes, secrets_bytes}

-- a run, and another behind it, are one
pub puts_then : {a b c xs ys : List ℕ} {i j n m : ℕ} → Puts a i xs n b → Puts b j ys m c → i + n ≡ j
    → Puts a i (xs ++ ys) (n + m) c
puts_then {a} {b} {c} {xs} {ys} {i} {j} {n} {m} p q e =
    let h : i + length xs ≡ j = omega (arith, p.long) in record {
      laid = q.laid ∙ rw p.laid (sym (over_then xs ys a i j h));
      long = rw length-append (omega (arith, p.long, q.long));
    }

-- the same run, told otherwise
pub puts_as : {a b xs ys : List ℕ} {i n : ℕ} → Puts a i xs n b → xs ≡ ys → Puts a i ys n b
puts_as p e = record { laid = rw (← e) p.laid; long = rw (← e) p.long }

-- a run over all of the bytes leaves nothing of them
pub puts_all : {a b xs : List ℕ} {n : ℕ} → Puts a 0 xs n b → length a ≡ n → b ≡ xs
puts_all {a} {b} {xs} {n} p e =
    let h : length a ≡ length xs = omega (arith, p.long) in
    p.laid ∙ over_zero xs a (omega arith) ∙ rw (drop_of_length-le a {i = length xs} (omega arith)) (append-nil xs)

-- the first i of some things are laid, and then the next: as many are laid as one more
pub puts_next : {A : Type 0} (one : A → List ℕ) (all : List A → List ℕ)
    → ((xs : List A) (x : A) → all (xs ++ x ∷ []) ≡ all xs ++ one x)
    → (place size : ℕ) (s : List A) (i : ℕ) (x : A) {a b c : List ℕ} → i < length s
    → Puts a place (all (take i s)) (size * i) b → Puts b (place + size * i) (one (get_or s i x)) size c
    → Puts a place (all (take (i + 1) s)) (size * i + size) c
puts_next one all more place size s i x h p q =
    let e : all (take (i + 1) s) ≡ all (take i s) ++ one (get_or s i x) =
    rw (add-one i, take-suc s i x h) (more (take i s) (get_or s i x)) in
    puts_as (puts_then p q refl) (sym e)

-- one more descriptor, one more secret
pub files_more : (ds : List Descriptor) (d : Descriptor)
    → files_bytes (ds ++ d ∷ []) ≡ files_bytes ds ++ descriptor_bytes d
unfolding files_bytes
files_more [] d = append-nil (descriptor_bytes d)
files_more (x ∷ ds) d =
    ap (λ (l : List ℕ). descriptor_bytes x ++ l) (files_more ds d)
    ∙ sym (append_assoc (descriptor_bytes x) (files_bytes ds) (descriptor_bytes d))

pub secrets_more : (ss : List Secret) (s : Secret) → secrets_bytes (ss ++ s ∷ []) ≡ secrets_bytes ss ++ secret_bytes s
unfolding secrets_bytes
secrets_more [] s = append-nil (secret_bytes s)
secrets_more (x ∷ ss) s =
    ap (λ (l : List ℕ). secret_bytes x ++ l) (secrets_more ss s)
    ∙ sym (append_assoc (secret_bytes x) (secrets_bytes ss) (secret_bytes s))
