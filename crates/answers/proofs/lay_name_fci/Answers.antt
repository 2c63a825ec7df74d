-- `answers::lay_name_fci`: `lay_front` lays all of it; the name's bytes are all there, which gives its length.
use Prim.Native.Nat.{◌≤◌}
use mathlib.Core.Path.{◌≡◌, sym}
use native.Mathlib.Omega.{arith}
use lib.ListN.{length}
use borrow.Author.Rules.{rules}
use Rattle.answers.proofs.Fci.{name_length_lem}
use Rattle.model.specs.Events.{name_fci}
use Rattle.answers.proofs.lay_name_fci.Goals.{Start}
use Rattle.answers.proofs.lay_name_fci.Goals as goal

-- the name's bytes are all there
name-there : (s : Start) → s.args.c.life.namelen ≤ length s.args.c.life.name
name-there s = let e : length s.args.c.life.name ≡ 16 = search rules in omega arith

pub returns : goal.returns
unfolding name_fci
returns c =
    let laid = c in
    let s = laid in
    (sym (name_length_lem s.args.c (name-there (goal.at.returns c).Start)), laid.lay_front.ensures)
