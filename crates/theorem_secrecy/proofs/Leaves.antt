-- What the view leaves: the length, the header, and every byte that is not a secret's.
use Prim.Native.Nat.{ℕ, zero, suc}
use mathlib.Core.Path.{◌≡◌, refl, ap, sym, ◌∙◌}
use mathlib.Core.Bool.{true≢false, true, false, ◌&&◌}
use mathlib.Core.List.{List, [], ◌∷◌}
use lib.ListN.{length}
use Rattle.lists.specs.Bytes.{byte_at}
use Rattle.lists.specs.Choice.{by_cond}
use Rattle.model.specs.declared.Card.{Card}
use Rattle.model.specs.Stored.{event_in, padded_zero}
use Rattle.model.specs.Header.{header_of}
use Rattle.model.specs.Loads.{State}
use Rattle.model.specs.Rules.{asked, failed, grouping}
use Rattle.theorem_secrecy.specs.View.{Mark, seen, secret, grouping_marks, marks_by, marks_walk, marks_in, mark_at}
use Rattle.theorem_secrecy.specs.View.{walked, Hiding, shown_as, view, view_record}
use Rattle.theorem_secrecy.proofs.Marks.{length_view, shown_zero}

module _ (z : Hiding) where
  pub byte_view : (ms : List Mark) (b : List ℕ) (i : ℕ)
      → byte_at (view z ms b) i ≡ shown_as z (mark_at ms i) (byte_at b i)
  unfolding view
  byte_view [] b i = refl
  byte_view (m ∷ ms) [] i = sym (shown_zero z (mark_at (m ∷ ms) i))
  byte_view (m ∷ ms) (b ∷ bs) zero = refl
  byte_view (m ∷ ms) (b ∷ bs) (suc i) = byte_view ms bs i

  module _ (c : Card) (a r : List ℕ) where
    pub keeps_length : length (view_record z c a r) ≡ length r
    keeps_length = length_view z (marks_in c a r) r

    pub leaves : (i : ℕ) → mark_at (marks_in c a r) i ≡ seen → byte_at (view_record z c a r) i ≡ byte_at r i
    leaves i e = byte_view (marks_in c a r) r i ∙ ap (λ (m : Mark). shown_as z m (byte_at r i)) e

    pub blots : (i k j : ℕ) → mark_at (marks_in c a r) i ≡ secret k j → z k j ≡ true → byte_at (view_record z c a r) i ≡ 0
    blots i k j e h = byte_view (marks_in c a r) r i ∙ ap (λ (m : Mark). shown_as z m (byte_at r i)) e ∙ rw h

    -- a record that is refused, or whose data is not walked, is left whole
    pub leaves_whole : (padded_zero r && walked (event_in r) c) ≡ false → view_record z c a r ≡ r
    unfolding marks_in
    leaves_whole e = by_cond (λ (ms : List Mark). view z ms r ≡ r) (padded_zero r && walked (event_in r) c)
        (λ w. absurd (true≢false (sym w ∙ e))) (λ _. unfold view in refl)

-- from a grouping that fails or is a query on, no byte of the command is hidden
pub failed_unmarked : (fuel capacity n p1 b : ℕ) (bs : List ℕ) (s : State) (w : ℕ) (t : State)
    → grouping capacity n p1 (b ∷ bs) s ≡ failed w t → marks_walk (suc fuel) capacity n p1 (b ∷ bs) s ≡ []
unfolding marks_walk
failed_unmarked fuel capacity n p1 b bs s w t e =
    ap (marks_by (grouping_marks (header_of (b ∷ bs))) (λ left u. marks_walk fuel capacity n p1 left u)) e

pub asked_unmarked : (fuel capacity n p1 b : ℕ) (bs : List ℕ) (s : State) (tag : ℕ) (t : State)
    → grouping capacity n p1 (b ∷ bs) s ≡ asked tag t → marks_walk (suc fuel) capacity n p1 (b ∷ bs) s ≡ []
unfolding marks_walk
asked_unmarked fuel capacity n p1 b bs s tag t e =
    ap (marks_by (grouping_marks (header_of (b ∷ bs))) (λ left u. marks_walk fuel capacity n p1 left u)) e
