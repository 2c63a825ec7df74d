-- `print_forms::whole_in`: the last character that stays is the one that was found, and no digit.
use Rattle.std.proofs.Common.{◌≡◌, ◌+◌, ◌-◌, false, slice_index, arith, rules}
use Rattle.std.specs.Char.{is_ascii_hexdigit}
use Rattle.print_forms.proofs.whole_in.Goals as goal

pub returns-in-Some-clause-whole : goal.returns-in-Some-clause-whole
returns-in-Some-clause-whole c _ =
    let found : is_ascii_hexdigit (slice_index c.args.text.now c.in-Some.i) ≡ false = search rules in
    let last : c.in-Some.i + 1 - 1 ≡ c.in-Some.i = omega arith in
    rw last found
