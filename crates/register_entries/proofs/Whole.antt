-- WHAT `replay` PRINTS: the lines of its blocks, one behind the other, and the end are those of the definition.
use Prim.Native.Nat.{ℕ, zero, suc, ◌+◌, ◌*◌, ◌%◌, ◌/◌, ◌≤◌}
use mathlib.Core.Path.{◌≡◌, refl, ap, ◌∙◌}
use mathlib.Core.Bool.{true}
use mathlib.Core.List.{List, [], ◌∷◌, ◌++◌, append_assoc, append-nil}
use native.Mathlib.Nat.{zero-add, suc-add}
use native.Mathlib.Omega.{arith}
use lib.ListN.{length, take, drop, length-take, length-drop}
use lib.Seq.{take_at, take-append-le, drop-append-le}
use borrow.Author.Tests.{eq-eqb}
use Rattle.lists.specs.Bytes.{zeros}
use Rattle.lists.specs.Over.{over_zero}
use Rattle.model.specs.declared.Card.{Card}
use Rattle.model.specs.Stored.{area_size, answer_room, record_size, chip_size, chip_form}
use Rattle.model.specs.Session.{turn_of, play_of, fresh_of, records_in, events_in}
use Rattle.model.specs.Lines.{five, blank, line_feed, line_with, line_of, end_of, lines_from, replay_of}
use Rattle.theorem_sound.specs.Keeps.{Good}
use Rattle.theorem_sound.proofs.Sessions.{turn_keeps, fresh_keeps}
use Rattle.register_entries.specs.Entries.{Register, begun, counted, entry, entries, entered_of, behind, goes_on}
use Rattle.register_entries.specs.Entries.{printed, Enters, Whole, none, more}
use Rattle.register_entries.proofs.Entries.{entries_append, lines_sized}

-- of a sound card and a whole record the calls' other numbers are out of reach
play_turn : (c : Card) (a r : List ℕ) → Good area_size c a → length r ≡ record_size
    → play_of c a answer_room r ≡ turn_of c a r
unfolding play_of
play_turn c a r g h = rw (eq-eqb _ _ g.area, g.sound, eq-eqb _ _ h)

-- the last five digits say what is printed
five_last : (n : ℕ) → five (n % 100000) ≡ five n
five_last n = rw (digits.0, digits.1, digits.2, digits.3, digits.4)
  where
    digits : (n % 100000 / 10000 % 10 ≡ n / 10000 % 10) × (n % 100000 / 1000 % 10 ≡ n / 1000 % 10)
        × (n % 100000 / 100 % 10 ≡ n / 100 % 10)
        × (n % 100000 / 10 % 10 ≡ n / 10 % 10) × (n % 100000 % 10 ≡ n % 10)
    digits = (omega arith, omega arith, omega arith, omega arith, omega arith)

line_last : (n kind number word : ℕ) (c : Card) → line_of (n % 100000) kind number word c ≡ line_of n kind number word c
unfolding line_with
line_last n kind number word c = ap (λ (l : List ℕ). l ++ drop 5 (line_of n kind number word c)) (five_last n)

end_last : (n : ℕ) → end_of (n % 100000) ≡ end_of n
unfolding end_of
end_last n = ap (λ (l : List ℕ). 0x45 ∷ 0x4E ∷ 0x44 ∷ blank ∷ l ++ line_feed ∷ []) (five_last n)

-- ONE BLOCK
whole_from : (rs : List (List ℕ)) (n : ℕ) (g : Register) → Good area_size g.card g.area → Whole rs
    → g.count ≡ n % 100000
    → g.lines ++ lines_from n g.card g.area rs ≡ printed (entries g rs)
unfolding lines_from entries entry
whole_from [] n g y w e = rw (e, end_last)
whole_from (r ∷ rs) n g y (more h w) e =
    let next : counted g.count ≡ suc n % 100000 = omega arith in
    rw (play_turn g.card g.area r y h, ← line_last (suc n), ← next, ← append_assoc)
    (whole_from rs (suc n) (entry g r) (turn_keeps g.card g.area r y) w next)

pub replay_whole : (rs : List (List ℕ)) (n : ℕ) (c : Card) (a : List ℕ) → Good area_size c a → Whole rs
    → lines_from n c a rs ≡ printed (entries (begun (n % 100000) c a) rs)
replay_whole rs n c a y w = whole_from rs n (begun (n % 100000) c a) y w refl

-- the end tells the events' number
count_from : (rs : List (List ℕ)) (n : ℕ) (g : Register) → g.count ≡ n % 100000
    → (entries g rs).count ≡ (n + length rs) % 100000
unfolding entries entry
count_from [] n g e = e ∙ omega arith
count_from (r ∷ rs) n g e =
    let next : counted g.count ≡ suc n % 100000 = omega arith in
    count_from rs (suc n) (entry g r) next ∙ omega arith

pub replay_ends : (rs : List (List ℕ)) (n : ℕ) (c : Card) (a : List ℕ)
    → end_of (entries (begun (n % 100000) c a) rs).count ≡ end_of (n + length rs)
replay_ends rs n c a = rw (count_from rs n (begun (n % 100000) c a) refl) (end_last (n + length rs))

-- TWO BLOCKS
entries_behind : (rs : List (List ℕ)) (l : List ℕ) (g : Register) → entries (behind l g) rs ≡ behind l (entries g rs)
unfolding entries entry
entries_behind [] l g = refl
entries_behind (r ∷ rs) l g = rw append_assoc (entries_behind rs l (entry g r))

on_from : (rs : List (List ℕ)) (g : Register) → entries g rs ≡ goes_on g rs
on_from rs g = rw append-nil at (entries_behind rs g.lines (begun g.count g.card g.area))

pub two_blocks : (xs ys : List (List ℕ)) (g : Register) → entries g (xs ++ ys) ≡ goes_on (entries g xs) ys
two_blocks xs ys g = entries_append xs ys g ∙ on_from ys (entries g xs)

-- two blocks of bytes: the program's loop goes on with the count, card and area that a block left
records_append : (j k : ℕ) (x y : List ℕ) → length x ≡ j * record_size
    → records_in (j + k) (x ++ y) ≡ records_in j x ++ records_in k y
unfolding records_in
records_append zero k [] y e = rw zero-add
records_append zero k (b ∷ x) y e = absurd (omega arith)
records_append (suc j) k x y e =
    rw (suc-add, take-append-le record_size x y (omega arith), drop-append-le record_size x y (omega arith))
    (ap (λ (l : List (List ℕ)). take record_size x ∷ l)
    (records_append j k (drop record_size x) y (rw length-drop (omega arith))))

pub block_on : (j k : ℕ) (x y : List ℕ) (n : ℕ) (c : Card) (a : List ℕ) → length x ≡ j * record_size
    → entered_of (j + k) n c a (x ++ y) ≡ goes_on (entered_of j n c a x) (records_in k y)
block_on j k x y n c a e = rw (records_append j k x y e) (two_blocks (records_in j x) (records_in k y) (begun n c a))

-- what is printed of the lent memory: the block's lines, whatever stood there
pub block_lines : (k n : ℕ) (c : Card) (a b o : List ℕ) {d : Card} {a' : List ℕ} {m : ℕ} {o' : List ℕ}
    → Enters (entered_of k n c a b) d a' m o o'
    → k * 26 ≤ length o → take (k * 26) o' ≡ (entered_of k n c a b).lines
block_lines k n c a b o l h =
    let e : length (entered_of k n c a b).lines ≡ k * 26 = lines_sized n c a b o k in
    rw (l.writes, over_zero (entered_of k n c a b).lines o (omega arith)) (take_at _ _ _ e)

-- THE WHOLE INPUT
records_whole : (k : ℕ) (b : List ℕ) → k * record_size ≤ length b → Whole (records_in k b)
unfolding records_in
records_whole zero b h = none
records_whole (suc k) b h =
    let s : length (take record_size b) ≡ record_size = simp length-take (omega arith) in
    more s (records_whole k (drop record_size b) (simp length-drop (omega arith)))

pub replay_prints : (input : List ℕ) → chip_form (take chip_size input) ≡ true
    → replay_of input ≡ printed (entered_of (events_in (drop chip_size input)) 0 (fresh_of (take chip_size input)).card
    (zeros area_size) (drop chip_size input))
unfolding replay_of fresh_of
replay_prints input e =
    let b = drop chip_size input in
    let f : Good area_size (fresh_of (take chip_size input)).card (zeros area_size) =
    fresh_keeps (take chip_size input) in
    rw e (replay_whole (records_in (events_in b) b) 0 _ (zeros area_size) (rw e at f)
    (records_whole (events_in b) b (omega arith)))
