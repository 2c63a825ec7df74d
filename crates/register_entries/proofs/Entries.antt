-- The records of a block, one more each time.
use Prim.Native.Nat.{ℕ, ◌+◌, ◌*◌}
use mathlib.Core.Path.{◌≡◌, refl, sym, ◌∙◌}
use mathlib.Core.List.{List, [], ◌∷◌, ◌++◌}
use native.Mathlib.Nat.{zero-add}
use native.Mathlib.Omega.{arith}
use lib.ListN.{length, length-append}
use Rattle.lists.specs.Bytes.{byte_at, part}
use Rattle.lists.specs.Over.{overwrite, over_append, over_none}
use Rattle.model.specs.declared.Card.{Card}
use Rattle.model.specs.Stored.{area_size}
use Rattle.model.specs.Session.{turn_of, records_in}
use Rattle.model.specs.Lines.{line_of}
use Rattle.theorem_sound.specs.Keeps.{Good}
use Rattle.theorem_sound.proofs.Sessions.{turn_keeps}
use Rattle.print_numbers.proofs.Sizes.{length_line}
use Rattle.event_replies.proofs.Records.{records_more}
use Rattle.register_entries.specs.Entries.{Register, begun, counted, entry, entries, entered_of, Enters}
use Rattle.model.proofs.Laws.{length_records}

-- two lists of records, the second on what the first left
pub entries_append : (xs ys : List (List ℕ)) (g : Register) → entries g (xs ++ ys) ≡ entries (entries g xs) ys
unfolding entries
entries_append [] ys g = refl
entries_append (x ∷ xs) ys g = entries_append xs ys (entry g x)

-- a sound card stays sound
entries_keep : (rs : List (List ℕ)) (g : Register) → Good area_size g.card g.area
    → Good area_size (entries g rs).card (entries g rs).area
unfolding entries entry
entries_keep [] g y = y
entries_keep (r ∷ rs) g y = entries_keep rs (entry g r) (turn_keeps g.card g.area r y)

-- 26 characters each
entries_sized : (rs : List (List ℕ)) (g : Register)
    → length (entries g rs).lines ≡ length g.lines + length rs * 26
unfolding entries entry
entries_sized [] g = omega arith
entries_sized (r ∷ rs) g = entries_sized rs (entry g r) ∙ rw (length-append, length_line) (omega arith)

module _ (n : ℕ) (c₀ : Card) (a₀ b o₀ : List ℕ) where
  pub lines_sized : (k : ℕ) → length (entered_of k n c₀ a₀ b).lines ≡ k * 26
  lines_sized k = entries_sized (records_in k b) (begun n c₀ a₀) ∙ rw (length_records, zero-add)

  one_more : (k : ℕ) → entered_of (k + 1) n c₀ a₀ b ≡ entry (entered_of k n c₀ a₀ b) (part b (k * 260) 260)
  unfolding entries
  one_more k = rw (records_more k b, entries_append (records_in k b) (part b (k * 260) 260 ∷ []) (begun n c₀ a₀))

  -- nothing has been entered
  pub enters_none : Enters (entered_of 0 n c₀ a₀ b) c₀ a₀ n o₀ o₀
  unfolding entries records_in
  enters_none = record { leaves = refl; keeps = refl; counts = refl; writes = sym (over_none o₀ 0) }

  pub enters_good : (k : ℕ) {c : Card} {a : List ℕ} {m : ℕ} {o : List ℕ} → Good area_size c₀ a₀
      → Enters (entered_of k n c₀ a₀ b) c a m o₀ o
      → Good area_size c a
  enters_good k g l = rw (l.leaves, l.keeps) (entries_keep (records_in k b) (begun n c₀ a₀) g)

  -- a line more in its place
  line_more : (k : ℕ) (x : List ℕ) → overwrite (overwrite o₀ 0 (entered_of k n c₀ a₀ b).lines) (k * 26) x
      ≡ overwrite o₀ 0 ((entered_of k n c₀ a₀ b).lines ++ x)
  line_more k x = rw (over_append, zero-add, lines_sized k)

  -- a record more
  pub enters_more : (k : ℕ) (c : Card) (a : List ℕ) (m : ℕ) (o r : List ℕ) (c' : Card) (a' o' : List ℕ)
      → Enters (entered_of k n c₀ a₀ b) c a m o₀ o → r ≡ part b (k * 260) 260 → c' ≡ (turn_of c a r).card
      → a' ≡ (turn_of c a r).area
      → o' ≡ overwrite o (k * 26) (line_of (counted m) (byte_at r 0) (turn_of c a r).number (turn_of c a r).word
      (turn_of c a r).card)
      → Enters (entered_of (k + 1) n c₀ a₀ b) c' a' (counted m) o₀ o'
  unfolding entry
  enters_more k c a m o r c' a' o' l e x y z =
      rw (one_more k)
      (record {
        leaves = x ∙ rw (l.leaves, l.keeps, e);
        keeps = y ∙ rw (l.leaves, l.keeps, e);
        counts = rw l.counts;
        writes = z ∙ rw (l.writes, line_more, l.leaves, l.keeps, l.counts, e);
      })
