-- `life_names::is_named`: the card's name has 16 bytes and `namelen` is at most that, so its prefix can be taken.
use mathlib.Core.Path.{◌≡◌, sym}
use native.Mathlib.Omega.{arith}
use lib.ListN.{length}
use borrow.Author.Rules.{rules}
use lib.Seq.{length-take-le}
use Rattle.life_names.proofs.is_named.Goals as goal

pub slice_bounds-name-end : goal.slice_bounds-name-end
slice_bounds-name-end c =
    let s = c in
    let e : length s.args.life.name ≡ 16 = search rules in
    omega arith

pub slice_bounds-same_bytes-end : goal.slice_bounds-same_bytes-end
slice_bounds-same_bytes-end c =
    let s = c in
    let e : length s.args.life.name ≡ 16 = search rules in
    sym (length-take-le s.args.life.namelen s.args.life.name (omega arith))
