-- A pull that finds a grouping goes forward, and stays within the order.
use Rattle.std.proofs.Common.{◌≡◌, ℕ, ◌+◌, ◌<◌, ◌≤◌, leb, List, length, drop, arith, leb-true}
use Rattle.lists.specs.Choice.{by_cond}
use Rattle.model.specs.declared.Header.{Header}
use Rattle.model.specs.declared.Header.TheVariants.{Torn, Whole}
use Rattle.model.specs.declared.Pulled.{Pulled}
use Rattle.model.specs.declared.Pulled.TheVariants.{Ended, Broken, Grouping}
use Rattle.model.specs.Header.{header_of}
use Rattle.model.specs.Order.{pulled_at, pull_of}
use Rattle.order_reader.specs.Reads.{found_by, found_at}
use Rattle.header.proofs.Units.{Within, header_within}

-- from its place on, and within n bytes
abbrev Ahead : ℕ → ℕ → Pulled → Type 0
Ahead at n Ended = Unit {0}
Ahead at n Broken = Unit {0}
Ahead at n (Grouping tag start len) = (at < start + len) × (start + len ≤ n)

head_ahead : (o : List ℕ) (at n : ℕ) (h : Header) → Within o h → Ahead at n (pulled_at h at n)
head_ahead o at n Torn w = tt
head_ahead o at n (Whole h) w =
    by_cond (Ahead at n) (leb (at + h.size + h.len) n)
    (λ e. let g : at + h.size + h.len ≤ n = leb-true (at + h.size + h.len) n e in (omega arith, g))
    (λ e. tt)

pull_ahead : (order : List ℕ) (at : ℕ) → Ahead at (length order) (pull_of order at)
unfolding pull_of
pull_ahead order at =
    by_cond (Ahead at (length order)) (leb (length order) at) (λ e. tt)
    (λ e. head_ahead (drop at order) at (length order) (header_of (drop at order)) (header_within (drop at order)))

by_pull : (at n : ℕ) (p : Pulled) → Ahead at n p → (found_by p at).ending ≡ 0
    → (at < (found_by p at).next) × ((found_by p at).next ≤ n)
by_pull at n Ended a e = absurd (omega arith)
by_pull at n Broken a e = absurd (omega arith)
by_pull at n (Grouping tag start len) a e = a

pub found_ahead : (order : List ℕ) (at : ℕ) → (found_at order at).ending ≡ 0
    → (at < (found_at order at).next) × ((found_at order at).next ≤ length order)
unfolding found_at
found_ahead order at e = by_pull at (length order) (pull_of order at) (pull_ahead order at) e
