-- `answers::lay_full_fci`: serial and startup have 8 and 7 bytes, so each store begins where the one before it
-- ends, and all five together are `full_fci` (`full_laid`, `full_parts`).
use Prim.Native.Nat.{◌≤◌}
use mathlib.Core.Path.{◌≡◌, sym}
use native.Mathlib.Omega.{arith}
use lib.ListN.{length}
use borrow.Author.Rules.{rules}
use Rattle.answers.specs.Answers.{front}
use Rattle.answers.proofs.Fci.{full_laid, full_parts, full_length, front_length}
use Rattle.answers.proofs.lay_full_fci.Goals.{Start}
use Rattle.answers.proofs.lay_full_fci.Goals as goal

-- the card's arrays have their lengths
name-there : (s : Start) → s.args.c.life.namelen ≤ length s.args.c.life.name
name-there s = let e : length s.args.c.life.name ≡ 16 = search rules in omega arith

serial-long : (s : Start) → length s.args.c.loading.serial ≡ 8
serial-long s = search rules

startup-long : (s : Start) → length s.args.c.loading.startup ≡ 7
startup-long s = search rules

pub slice_bounds-put_bytes-end-4 : goal.slice_bounds-put_bytes-end-4
slice_bounds-put_bytes-end-4 c = sym (startup-long (goal.at.slice_bounds-put_bytes-end-4 c).Start)

pub put_bytes-requires-2 : goal.put_bytes-requires-2
put_bytes-requires-2 c =
    let first = c in
    let head = first in
    omega (arith, serial-long (goal.at.put_bytes-requires-2 c).Start)

pub put_bytes-requires-4 : goal.put_bytes-requires-4
put_bytes-requires-4 c =
    let third = c in
    let second = third in
    let first = second in
    let head = first in
    omega (arith, startup-long (goal.at.put_bytes-requires-4 c).Start)

pub returns : goal.returns
returns c =
    let fourth = c in
    let third = fourth in
    let second = third in
    let first = second in
    let head = first in
    let s = head in
    let card = s.args.c in (
      sym (full_length card (name-there (goal.at.returns c).Start) (serial-long (goal.at.returns c).Start) (startup-long (goal.at.returns c).Start)),
      rw (full_parts card)
          (full_laid s.args.answer.now (front 26 card.life) card.loading.serial card.loading.startup
          card.life.namelen
          (front_length card (name-there (goal.at.returns c).Start) 26) (serial-long (goal.at.returns c).Start)
          head.lay_front.ensures first.put_bytes.ensures second.put_bytes-2.ensures
          third.put_bytes-3.ensures fourth.put_bytes-4.ensures),
    )
