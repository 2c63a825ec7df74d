-- What a pull gives, by what stands at its place.
use Prim.Native.Nat.{ℕ, ◌+◌, ◌-◌, ◌≤◌, ◌<◌}
use mathlib.Core.Path.{◌≡◌, sym, subst}
use mathlib.Core.List.{List}
use lib.ListN.{length, drop, length-drop}
use native.Mathlib.Omega.{arith}
use lib.Dec.{leb}
use borrow.Author.Tests.{le-leb, lt-leb, leb-true}
use Rattle.lists.specs.Choice.{by_cond}
use Rattle.model.specs.declared.Head.{Head}
use Rattle.model.specs.declared.Header.{Header}
use Rattle.model.specs.declared.Header.TheVariants.{Torn, Whole}
use Rattle.model.specs.declared.Pulled.{Pulled}
use Rattle.model.specs.declared.Pulled.TheVariants.{Ended, Broken, Grouping}
use Rattle.model.specs.Header.{header_of}
use Rattle.model.specs.Order.{pulled_at, pull_of}
use Rattle.order_reader.specs.Reads.{found_by, found_at}
use Rattle.header.proofs.Units.{whole_within}

module _ (order : List ℕ) (at : ℕ) where
  pub pull_end : length order ≤ at → pull_of order at ≡ Ended
  unfolding pull_of
  pull_end h = rw (le-leb (length order) at h)

  module _ (h : at < length order) where
    pub pull_torn : header_of (drop at order) ≡ Torn → pull_of order at ≡ Broken
    unfolding pull_of
    pull_torn e = rw (lt-leb (length order) at h, e)

    module _ (x : Head) (e : header_of (drop at order) ≡ Whole x) where
      -- the header lies within
      pub head_there : x.size ≤ length order - at
      head_there = rw length-drop at (whole_within (drop at order) x e).1

      pub pull_short : length order - at - x.size < x.len → pull_of order at ≡ Broken
      unfolding pull_of
      pull_short g =
          let w : x.size ≤ length order - at = head_there in
          let l : length order < at + x.size + x.len = omega arith in
          rw (lt-leb (length order) at h, e, lt-leb (at + x.size + x.len) (length order) l)

      pub pull_whole : x.len ≤ length order - at - x.size
          → pull_of order at ≡ Grouping x.tag (at + x.size) x.len
      unfolding pull_of
      pull_whole g =
          let w : x.size ≤ length order - at = head_there in
          let l : at + x.size + x.len ≤ length order = omega arith in
          rw (lt-leb (length order) at h, e, le-leb (at + x.size + x.len) (length order) l)

-- a grouping that is pulled lies within the order
abbrev Inside : ℕ → Pulled → Type 0
Inside n Ended = Unit {0}
Inside n Broken = Unit {0}
Inside n (Grouping tag start len) = start + len ≤ n

head_inside : (at n : ℕ) (h : Header) → Inside n (pulled_at h at n)
head_inside at n Torn = tt
head_inside at n (Whole h) =
    by_cond (Inside n) (leb (at + h.size + h.len) n) (λ e. leb-true (at + h.size + h.len) n e) (λ e. tt)

pub pull_inside : (order : List ℕ) (at : ℕ) → Inside (length order) (pull_of order at)
unfolding pull_of
pull_inside order at =
    by_cond (Inside (length order)) (leb (length order) at) (λ e. tt)
    (λ e. head_inside at (length order) (header_of (drop at order)))

pub grouping_inside : (order : List ℕ) (at tag start len : ℕ) → Grouping tag start len ≡ pull_of order at
    → start + len ≤ length order
grouping_inside order at tag start len e = subst (Inside (length order)) (sym e) (pull_inside order at)

pub found_so : (order : List ℕ) (at : ℕ) (p : Pulled) → p ≡ pull_of order at → found_by p at ≡ found_at order at
unfolding found_at
found_so order at p e = rw e
