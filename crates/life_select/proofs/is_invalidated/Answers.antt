-- `life_select::is_invalidated`: the array and `invalidated` have different defaults past the end, but of the same
-- status (`df-status`); with no descriptor it is false.
use mathlib.Core.Path.{◌≡◌, refl}
use mathlib.Core.List.{List, [], ◌∷◌}
use native.Mathlib.Omega.{arith}
use lib.ListN.{get_or}
use Rattle.model.specs.declared.Descriptor.{Descriptor}
use Rattle.model.specs.Stored.{no_file}
use borrow.Author.Tests.{lt-ltb}
use Rattle.lists.specs.Choice.{cases}
use Rattle.model.specs.Events.{invalidated}
use Rattle.life_select.proofs.is_invalidated.Goals as goal

-- what the language reads past an array's end (never read): no bytes stand in its lists
abbrev past_end : Descriptor
past_end = record {
  lid = 0;
  sfi = 0;
  filetype = 0;
  eftype = 0;
  recsize = 0;
  numrec = 0;
  ac = [];
  nkey = [];
  refsfi =
      0;
  refnum = 0;
  status = 0;
}

df-status : (files : List Descriptor) → (get_or files 0 past_end).status ≡ (get_or files 0 no_file).status
df-status [] = refl
df-status (df ∷ files) = refl

pub returns-then-c-lt1 : goal.returns-then-c-lt1
unfolding invalidated
returns-then-c-lt1 c = search cases

pub returns : goal.returns
unfolding invalidated
returns c =
    let a = c.args.c in
    rw (df-status a.loading.files, lt-ltb 0 a.loading.count (omega arith))
