-- Packing: a unit fits or a command closes; and the bytes of a spannable value fit in bulk.
use Prim.Native.Nat.{ℕ, zero, suc, ◌+◌, ◌≤◌, ◌<◌}
use mathlib.Core.Path.{◌≡◌, sym, ap, ◌∙◌}
use mathlib.Core.List.{List, [], ◌∷◌, ◌++◌, append-nil, append_assoc}
use native.Mathlib.Omega.{arith}
use native.Mathlib.Nat.{zero-add}
use lib.ListN.{length, take, drop, length-append}
use borrow.Author.Tests.{le-leb, lt-leb}
use Rattle.model.specs.Stored.{data_room}
use Rattle.model.specs.Order.{single, packed}
use Rattle.order_cuts.specs.Cuts.{Fitting, more}

pub packed_fits : (cur u : List ℕ) (us : List (List ℕ)) → length cur + length u ≤ data_room
    → packed cur (u ∷ us) ≡ packed (cur ++ u) us
unfolding packed
packed_fits cur u us h = rw (le-leb (length cur + length u) data_room h, packed)

packed_shuts : (cur u : List ℕ) (us : List (List ℕ)) → data_room < length cur + length u
    → packed cur (u ∷ us) ≡ cur ∷ packed u us
unfolding packed
packed_shuts cur u us h = rw (lt-leb (length cur + length u) data_room h, packed)

-- where the next unit doesn't fit, the next command begins with it
pub packed_closes : (cur u : List ℕ) (us : List (List ℕ)) → data_room < length cur + length u → length u ≤ data_room
    → packed cur (u ∷ us) ≡ cur ∷ packed [] (u ∷ us)
packed_closes cur u us h g =
    packed_shuts cur u us h ∙ ap (λ (cs : List (List ℕ)). cur ∷ cs) (sym (packed_fits [] u us (rw zero-add g)))

-- k bytes of a spannable value, if so many fit
pub packed_single : (k : ℕ) (cur v : List ℕ) (us : List (List ℕ)) → k ≤ length v → length cur + k ≤ data_room
    → packed cur (single v ++ us) ≡ packed (cur ++ take k v) (single (drop k v) ++ us)
unfolding single
packed_single zero cur v us h g = rw append-nil
packed_single (suc k) cur [] us h g = absurd (omega arith)
packed_single (suc k) cur (b ∷ bs) us h g =
    packed_fits cur (b ∷ []) (single bs ++ us) (omega arith)
    ∙ packed_single k (cur ++ (b ∷ [])) bs us (omega arith) (rw length-append (omega arith))
    ∙ ap (λ (l : List ℕ). packed l (single (drop k bs) ++ us)) (append_assoc cur (b ∷ []) (take k bs))

pub fitting_head : {u : List ℕ} {us : List (List ℕ)} → Fitting (u ∷ us) → length u ≤ data_room
fitting_head (more h t) = h

pub fitting_tail : {u : List ℕ} {us : List (List ℕ)} → Fitting (u ∷ us) → Fitting us
fitting_tail (more h t) = t

pub fitting_single : (k : ℕ) (v : List ℕ) (us : List (List ℕ)) → Fitting (single v ++ us)
    → Fitting (single (drop k v) ++ us)
unfolding single
fitting_single zero v us f = f
fitting_single (suc k) [] us f = f
fitting_single (suc k) (b ∷ bs) us f = fitting_single k bs us (fitting_tail f)
