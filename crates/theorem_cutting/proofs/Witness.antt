-- The theorems are not empty: an order that is complete, cut into two commands, with three 'ssnn' values, of which
-- the longest runs over both; and it is loaded behind fronts of every kind. Computed.
use Prim.Native.Nat.{ℕ, ◌+◌}
use mathlib.Core.Bool.{Bool, ◌&&◌}
use mathlib.Core.List.{List, [], ◌∷◌, ◌++◌, map}
use lib.Dec.{T, eqb, lit≤}
use lib.ListN.{length, replicate}
use Rattle.lists.specs.Joined.{joined}
use Rattle.lists.specs.Bytes.{same, part, zeros}
use Rattle.model.specs.Stored.{area_size}
use Rattle.model.specs.Events.{name_of}
use Rattle.model.specs.Session.{fresh_of, run_of}
use Rattle.model.specs.Order.{complete, cut_of, records_for}
use Rattle.model.proofs.Computed.{computed}
use Rattle.model.proofs.Scenes.{chip, df, ef, linear, loaded}
use Rattle.theorem_cutting.specs.Job.{uncut, Front, at_once, in_two}
use Rattle.theorem_cutting.specs.Contents.{Grouped, grouped_in, ssnn_of, values_of}

-- beside the linear file a binary one of 300 bytes, SFI '09'; records 1 and 3 of the former, and all of the latter
unfoldable pub witness : List ℕ
witness =
    loaded (df 0 ++ linear ++ ef 0x09 0x01 0x01 0x2C 0 0)
    ++ 0x08 ∷ 0x01 ∷ 0x02 ∷ 0x71 ∷ 0x72 ∷ 0x08 ∷ 0x03 ∷ 0x01 ∷ 0x73 ∷ 0x09 ∷ 0x00 ∷ 0xFF ∷ 0x01 ∷ 0x2C ∷ replicate 300
    0x74

unfoldable pub witnessed : Bool
witnessed =
    complete 10 witness
    && same (map length (cut_of witness)) (255 ∷ 213 ∷ [])
    && same (map (λ (g : Grouped). g.tag) (values_of witness)) (0x0801 ∷ 0x0803 ∷ 0x0900 ∷ [])
    && same (part (uncut 10 witness).area 0 390)
    (0x71 ∷ 0x72 ∷ zeros 56 ++ 0x73 ∷ zeros 28 ++ replicate 300 0x74 ++ zeros 3)

pub not_empty : T witnessed
unfolding computed witness witnessed uncut grouped_in ssnn_of values_of
not_empty = tt

-- the definition's own run of it behind a front, from a file area of no zeros: what `Taken` and `Contents` say
unfoldable pub loads : (n : List ℕ) {front : List (List ℕ)} → Front n front → Bool
loads n {front} f =
    let x = run_of (fresh_of (chip 10)).card (replicate area_size 0x5A) 6 (joined (front ++ records_for witness)) in
    eqb x.number 0 && same x.run.words (replicate (length front + 3) 0x9000)
    && eqb x.run.card.life.gp 0x07 && eqb x.run.card.loading.running.internal 0xA5
    && same (name_of x.run.card) n
    && same x.run.area (0x71 ∷ 0x72 ∷ zeros 56 ++ 0x73 ∷ zeros 28 ++ replicate 300 0x74 ++ zeros 3709)

abbrev bytes : ℕ → List ℕ
bytes n = replicate n 0x4E

-- an instance name of 5 bytes and of 16 by '0C', and of 9 by '04' and '08'
unfoldable pub loaded_so : Bool
loaded_so =
    loads (bytes 5) (at_once (bytes 16) (bytes 5) 0x04 (lit≤ tt, lit≤ tt) (lit≤ tt, lit≤ tt) (lit≤ tt, lit≤ tt))
    && loads (bytes 16) (at_once (bytes 5) (bytes 16) 0x00 (lit≤ tt, lit≤ tt) (lit≤ tt, lit≤ tt) (lit≤ tt, lit≤ tt))
    && loads (bytes 9) (in_two (bytes 8) (bytes 7) 0x04 (lit≤ tt, lit≤ tt) (lit≤ tt, lit≤ tt) (lit≤ tt, lit≤ tt))

pub fronts_load : T loaded_so
unfolding computed witness loads loaded_so joined
fronts_load = tt
