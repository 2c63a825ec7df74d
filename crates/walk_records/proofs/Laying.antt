-- A record's bytes laid by the owner are those that an open value takes.
use Prim.Native.Nat.{ℕ, zero, suc, ◌+◌, ◌-◌, min}
use mathlib.Core.Path.{◌≡◌, refl, ap}
use mathlib.Core.List.{List}
use native.Mathlib.Omega.{arith}
use lib.ListN.{length, take, drop}
use Rattle.lists.specs.Bytes.{part}
use Rattle.lists.specs.Least.{rest_least, part_least, length_least}
use Rattle.model.specs.declared.Loading.{Loading}
use Rattle.model.specs.declared.Open.TheVariants.{Shut, Record}
use Rattle.model.specs.declared.Running.{Running}
use Rattle.model.specs.declared.Spot.TheVariants.{At}
use Rattle.model.specs.Loads.{file_list, running_taken, running_last, running_open}
use Rattle.model.specs.Rules.{went, tag_spot, record_done, record_bytes, feeding}
use Rattle.walk_course.specs.Steps.{on, carried}
use Rattle.walk_records.specs.Records.{record_run, record_step}

run_done : (tag w m : ℕ) (p : Running) (l : Loading) (a : List ℕ)
    → on (record_run tag w m p) l a ≡ record_done tag w m (on p l a)
unfolding record_run record_done
run_done tag w zero p l a = refl
run_done tag w (suc m) p l a = refl

pub run_ends : (tag w m : ℕ) (p : Running) → m ≡ 0
    → record_run tag w m p ≡ running_last tag (running_taken 11 (running_open Shut p))
unfolding record_run
run_ends tag w m p e = rw e

pub run_goes_on : (tag w m : ℕ) (p : Running) → (m ≡ 0 → ⊥) → record_run tag w m p ≡ running_open (Record tag w m) p
unfolding record_run
run_goes_on tag w zero p n = absurd (n refl)
run_goes_on tag w (suc m) p n = refl

pub lays : (capacity base size tag w m at : ℕ) (d : List ℕ) (p : Running) (l : Loading) (a : List ℕ)
    → tag_spot (file_list l) tag ≡ At base size
    → carried capacity (record_step p base tag w m (length d) at).course d
    (on (record_step p base tag w m (length d) at).running l a)
    ≡ feeding (Record tag w m) (drop at d) (on p l a)
unfolding record_bytes
lays capacity base size tag w m at d p l a e =
    let n = min m (length d - at) in
    let k : at + n - at ≡ n = omega arith in
    let v : part d at n ≡ take m (drop at d) = part_least d at m in
    let r : drop (at + n) d ≡ drop m (drop at d) = rest_least d at m in
    let y : length (take m (drop at d)) ≡ n = length_least d at m in
    rw (k, v, r, e, y) (ap (went (drop m (drop at d))) (run_done tag (w + n) (m - n) p l _))
