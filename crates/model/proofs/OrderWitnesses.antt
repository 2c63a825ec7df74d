-- "The order and its cutting", computed: complete and each way not to be, packing at 254, 255 and 256, the writer's
-- records byte by byte, and its numbers in their order.
use Prim.Native.Nat.{ℕ}
use mathlib.Core.Bool.{Bool, not, ◌&&◌}
use mathlib.Core.List.{List, [], ◌∷◌, ◌++◌}
use lib.Dec.{T, eqb}
use lib.ListN.{length, get_or, take, drop, replicate}
use Rattle.lists.specs.Bytes.{same, zeros}
use Rattle.model.specs.Rules.{asked, failed}
use Rattle.model.specs.Order.{challenged_state, finished, complete, cut_of, write_of}
use Rattle.model.proofs.Scenes.{Bytes, chip, challenge, traceability, status, serial, startup, counter, key}
use Rattle.model.proofs.Scenes.{table, df, linear}
use Rattle.model.proofs.Examples.{lengths_of, brimful}
use Rattle.model.proofs.Tables.{every, but, tabled}

-- the mandatory groupings but for '9484'
abbrev pub start : Bytes
start = startup 10

abbrev pub files : Bytes
files = table (df 0 ++ linear)

abbrev pub k0 : Bytes
k0 = key 0x38 0x00 1

abbrev pub k1 : Bytes
k1 = key 0x41 0x01 2

abbrev pub k2 : Bytes
k2 = key 0x41 0x02 3

abbrev pub k3 : Bytes
k3 = key 0x41 0x03 4

abbrev pub k4 : Bytes
k4 = key 0x41 0x04 5

abbrev pub mandatory : Bytes
mandatory = serial ++ start ++ files ++ k0 ++ k1 ++ k2 ++ k3

abbrev pub ok : Bytes → Bool
ok o = complete 10 o

unfoldable pub completes : List Bool
completes =
    ok mandatory ∷ ok (serial ++ start ++ counter ++ files ++ k0 ++ k1 ++ k2 ++ k3 ++ k4)
    ∷ ok (mandatory ++ 0x08 ∷ 0x01 ∷ 0 ∷ []) ∷ ok (mandatory ++ k4 ++ 0x08 ∷ 0x01 ∷ 1 ∷ 0xB1 ∷ 0x08 ∷ 0x03 ∷ 0 ∷ [])
    -- a mandatory row missing
    ∷ not (ok []) ∷ not (ok (start ++ files ++ k0 ++ k1 ++ k2 ++ k3))
    ∷ not (ok (serial ++ files ++ k0 ++ k1 ++ k2 ++ k3))
    ∷ not (ok (serial ++ start ++ k0 ++ k1 ++ k2 ++ k3)) ∷ not (ok (serial ++ start ++ files ++ k1 ++ k2 ++ k3))
    ∷ not (ok (serial ++ start ++ files ++ k0 ++ k2 ++ k3)) ∷ not (ok (serial ++ start ++ files ++ k0 ++ k1 ++ k3))
    ∷ not (ok (serial ++ start ++ files ++ k0 ++ k1 ++ k2))
    -- one out of order, twice, unknown, not whole, or a value open
    ∷ not (ok (start ++ serial ++ files ++ k0 ++ k1 ++ k2 ++ k3)) ∷ not (ok (mandatory ++ k3))
    ∷ not (ok (mandatory ++ 0x50 ∷ 0x00 ∷ 0 ∷ [])) ∷ not (ok (mandatory ++ 0x08 ∷ []))
    ∷ not (ok (mandatory ++ 0x08 ∷ 0x01 ∷ 2 ∷ 0xB1 ∷ [])) ∷ not (ok (mandatory ++ 0x08 ∷ 0x01 ∷ 1 ∷ []))
    ∷ not (ok (serial ++ start ++ table (df 0) ++ take 5 k3)) ∷ not (ok (serial ++ start ++ take 20 files))
    -- "holds no '8185' or '84F2'", and '9484' stands before it
    ∷ not (ok (challenge ++ mandatory)) ∷ not (ok (mandatory ++ challenge)) ∷ not (ok (status ++ mandatory))
    ∷ not (ok (mandatory ++ status)) ∷ not (ok (traceability ++ mandatory)) ∷ not (ok (mandatory ++ traceability))
    ∷ not (ok status) ∷ not (ok challenge) ∷ not (finished (asked 0x84F2 challenged_state))
    ∷ not (finished (failed 0x6A80 challenged_state))
    -- "on this chip"
    ∷ not (complete 5 mandatory) ∷ complete 6 mandatory ∷ complete 255 mandatory
    ∷ []

-- an order is cut into commands of these lengths, and they are its bytes
abbrev pub cuts : Bytes → List ℕ → Bool
cuts o ls = same (lengths_of (cut_of o)) ls

-- 201 bytes, and a grouping of four bytes that may run on, in both forms
abbrev pub bytes201 : Bytes
bytes201 = key 0x38 0x00 64 ++ key 0x41 0x01 64 ++ key 0x41 0x02 64

abbrev pub four : Bytes
four = 0x08 ∷ 0x01 ∷ 4 ∷ 0xB1 ∷ 0xB2 ∷ 0xB3 ∷ 0xB4 ∷ []

abbrev pub long_four : Bytes
long_four = 0x08 ∷ 0x01 ∷ 0xFF ∷ 0x00 ∷ 0x04 ∷ 0xB1 ∷ 0xB2 ∷ 0xB3 ∷ 0xB4 ∷ []

unfoldable pub cutting : List Bool
cutting =
    -- "a whole unspannable grouping" of 53, 54 and 55 bytes
    cuts (bytes201 ++ key 0x41 0x03 50) (254 ∷ []) ∷ cuts (bytes201 ++ key 0x41 0x03 51) (255 ∷ [])
    ∷ cuts (bytes201 ++ key 0x41 0x03 52) (201 ∷ 55 ∷ [])
    ∷ cuts (bytes201 ++ key 0x41 0x03 52 ++ key 0x41 0x04 1) (201 ∷ 59 ∷ [])
    -- "a header": after 251, 252 and 253 bytes; one of 5 bytes after 249, 250 and 251
    ∷ cuts (bytes201 ++ key 0x41 0x03 47 ++ four) (255 ∷ 3 ∷ [])
    ∷ cuts (bytes201 ++ key 0x41 0x03 48 ++ four) (255 ∷ 4 ∷ [])
    ∷ cuts (bytes201 ++ key 0x41 0x03 49 ++ four) (253 ∷ 7 ∷ [])
    ∷ cuts (bytes201 ++ key 0x41 0x03 45 ++ long_four) (255 ∷ 3 ∷ [])
    ∷ cuts (bytes201 ++ key 0x41 0x03 46 ++ long_four) (255 ∷ 4 ∷ [])
    ∷ cuts (bytes201 ++ key 0x41 0x03 47 ++ long_four) (251 ∷ 9 ∷ [])
    -- "one spannable value byte"
    ∷ cuts (bytes201 ++ key 0x41 0x03 43 ++ four) (254 ∷ []) ∷ cuts (bytes201 ++ key 0x41 0x03 44 ++ four) (255 ∷ [])
    ∷ cuts (bytes201 ++ key 0x41 0x03 45 ++ four) (255 ∷ 1 ∷ [])
    ∷ cuts (0x31 ∷ 0x00 ∷ 0xFF ∷ 0x02 ∷ 0x2E ∷ zeros 558) (255 ∷ 255 ∷ 53 ∷ [])
    ∷ cuts (0x1E ∷ 0xFF ∷ 0xFE ∷ replicate 254 0xB1) (255 ∷ 2 ∷ []) ∷ cuts (0x01 ∷ 0x00 ∷ 0xFC ∷ zeros 252) (255 ∷ [])
    ∷ cuts (key 0x38 0x00 0xFC) (255 ∷ []) ∷ cuts (key 0x38 0x00 0 ++ four) (10 ∷ [])
    ∷ same (get_or (cut_of (bytes201 ++ key 0x41 0x03 52)) 0 []) bytes201
    ∷ same (get_or (cut_of (bytes201 ++ key 0x41 0x03 52)) 1 []) (key 0x41 0x03 52)
    ∷ same (get_or (cut_of (bytes201 ++ key 0x41 0x03 47 ++ four)) 1 []) (0xB2 ∷ 0xB3 ∷ 0xB4 ∷ [])
    ∷ []

-- the writer's number and how many records it writes
abbrev pub writes : Bytes → Bytes → ℕ → ℕ → ℕ → Bool
writes c o room number records =
    let w = write_of c o room in eqb w.number number && eqb (length w.records) records

abbrev pub wrong : Bytes
wrong = but 39 1 (chip 10)

-- the brimful order's second record of three
abbrev pub written : ℕ → Bytes
written i = get_or (write_of (chip 10) brimful 780).records i []

unfoldable pub writing : List Bool
writing =
    -- "writer 7, 9, 10, 11": each with all later ones too
    writes wrong (zeros 8193) 0 7 0 ∷ writes (chip 10) (zeros 8193) 0 9 0 ∷ writes (chip 10) (zeros 8192) 0 10 0
    ∷ writes wrong mandatory 520 7 0 ∷ writes (chip 5) mandatory 0 10 0 ∷ writes (chip 10) mandatory 0 11 0
    ∷ writes (chip 10) mandatory 519 11 0 ∷ writes (chip 10) mandatory 520 0 2 ∷ writes (chip 10) mandatory 521 0 2
    ∷ writes (chip 10) brimful 779 11 0 ∷ writes (chip 10) brimful 780 0 3
    -- "first P1 '01', data 94 84 00"; "P1 is '80' on the last, else '00'; P2 '00'"
    ∷ same (written 0) (2 ∷ 0x01 ∷ 0x00 ∷ 3 ∷ 0x94 ∷ 0x84 ∷ 0x00 ∷ zeros 253)
    ∷ same (written 1) (2 ∷ 0x00 ∷ 0x00 ∷ 255 ∷ take 255 brimful ++ 0 ∷ [])
    ∷ same (written 2) (2 ∷ 0x80 ∷ 0x00 ∷ 3 ∷ drop 255 brimful ++ zeros 253)
    ∷ []

pub completes_right : T (every completes)
unfolding tabled completes
completes_right = tt

pub cutting_right : T (every cutting)
unfolding tabled cutting lengths_of
cutting_right = tt

pub writing_right : T (every writing)
unfolding tabled writing
writing_right = tt
