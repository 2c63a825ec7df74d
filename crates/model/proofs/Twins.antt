-- Two loadings that differ in every byte of every secret, computed: nothing that can be seen tells them apart, and
-- the secrets do.
use Prim.Native.Nat.{ℕ}
use mathlib.Core.Bool.{Bool, true, false, ◌&&◌}
use mathlib.Core.List.{List, [], ◌∷◌, ◌++◌}
use lib.Dec.{T, eqb}
use lib.ListN.{get_or, replicate}
use Rattle.lists.specs.Bytes.{same}
use Rattle.model.specs.Stored.{Event, no_secret}
use Rattle.model.specs.Session.{Turn}
use Rattle.model.proofs.Computed.{computed}
use Rattle.model.proofs.Scenes.{Bytes, command, status, serial, startup, table, df, linear, select, asked}
use Rattle.model.proofs.Scenes.{turns, end_of}

-- '3800' and the five keys, each of n bytes of one value
abbrev pub keys_of : ℕ → ℕ → Bytes
keys_of n b =
    0x38 ∷ 0x00 ∷ n ∷ replicate n b ++ 0x41 ∷ 0x01 ∷ n ∷ replicate n b ++ 0x41 ∷ 0x02 ∷ n ∷ replicate n b
    ++ 0x41 ∷ 0x03 ∷ n ∷ replicate n b ++ 0x41 ∷ 0x04 ∷ n ∷ replicate n b

abbrev pub loading : ℕ → List Event
loading b =
    asked
    (command 0x00 (serial ++ startup 10 ++ table (df 0 ++ linear))
    ∷ command 0x00 (keys_of 20 b)
    ∷ command 0x01 status
    ∷ command 0x80 (0x08 ∷ 0x01 ∷ 2 ∷ 0xB1 ∷ 0xB2 ∷ [])
    ∷ command 0x01 status
    ∷ select
    ∷ [])

unfoldable pub alike : List Turn → List Turn → Bool
alike [] [] = true
alike [] (u ∷ us) = false
alike (t ∷ ts) [] = false
alike (t ∷ ts) (u ∷ us) =
    eqb t.number u.number && eqb t.word u.word && same t.answer u.answer && eqb t.card.life.gp
    u.card.life.gp
    && eqb t.card.loading.running.internal u.card.loading.running.internal && eqb
    t.card.loading.running.rows u.card.loading.running.rows
    && same t.area u.area && alike ts us

pub twins_alike : T (alike (turns 10 (loading 0x00)) (turns 10 (loading 0xFF)))
unfolding computed alike
twins_alike = tt

-- each is kept, with its length
unfoldable pub keeps : ℕ → Turn → Bool
keeps b t =
    let x = get_or t.card.loading.secrets 0 no_secret in
    let y = get_or t.card.loading.secrets 4 no_secret in
    eqb x.len 20 && same x.bytes (replicate 20 b ++ replicate 44 0) && eqb y.len 20 && same y.bytes
    (replicate 20 b ++ replicate 44 0)

pub twins_kept : T (keeps 0x00 (end_of (turns 10 (loading 0x00))) && keeps 0xFF (end_of (turns 10 (loading 0xFF))))
unfolding computed keeps
twins_kept = tt
