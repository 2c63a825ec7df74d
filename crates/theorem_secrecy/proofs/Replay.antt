-- What `replay` prints tells nothing of a secret.
use Prim.Native.Nat.{ℕ, suc}
use mathlib.Core.Path.{◌≡◌, refl, ap, ap₂, sym, ◌∙◌}
use mathlib.Core.Bool.{cond, ◌&&◌}
use mathlib.Core.List.{List, [], ◌∷◌, ◌++◌}
use lib.Dec.{lit<}
use lib.ListN.{take, drop}
use Rattle.lists.specs.Bytes.{byte_at, zeros}
use Rattle.lists.specs.Choice.{by_cond}
use Rattle.model.specs.declared.Card.{Card}
use Rattle.model.specs.Stored.{chip_size, chip_of, chip_form, fresh_card, event_in, padded_zero, area_size, answer_room}
use Rattle.model.specs.Session.{Turn, play_of}
use Rattle.model.specs.Lines.{line_of, end_of, lines_from, replay_of}
use Rattle.theorem_secrecy.specs.View.{Mark, marks_data, marks_in, walked, Hiding, view, view_record, records_of}
use Rattle.theorem_secrecy.specs.View.{Way, playable, marks_played, one_by_one, views_from, replay_views}
use Rattle.theorem_secrecy.specs.Veil.{veil}
use Rattle.theorem_secrecy.proofs.Marks.{take_seen}
use Rattle.theorem_secrecy.proofs.Heads.{byte_kept}
use Rattle.theorem_secrecy.proofs.Turns.{hides_play}

abbrev replayed : Way
replayed = one_by_one answer_room

module _ (z : Hiding) where
  -- kind, P1, P2 and length are seen
  pub head_seen : (c : Card) (a r : List ℕ) → take 4 (view_record z c a r) ≡ take 4 r
  unfolding marks_in
  head_seen c a r =
      by_cond (λ (ms : List Mark). take 4 (view z ms r) ≡ take 4 r) (padded_zero r && walked (event_in r) c)
      (λ _. take_seen z 4 (marks_data c a r) r)
      (λ _. unfold view in refl)

  kind_seen : (c : Card) (a : List ℕ) (room : ℕ) (r : List ℕ) → byte_at (view z (marks_played c a room r) r) 0
      ≡ byte_at r 0
  unfolding marks_played
  kind_seen c a room r =
      by_cond (λ (ms : List Mark). byte_at (view z ms r) 0 ≡ byte_at r 0) (playable c a room r)
      (λ _. byte_kept 4 0 (view_record z c a r) r (head_seen c a r) (lit< tt)) (λ _. unfold view in refl)

  line_seen : (n kind number word : ℕ) (c : Card) → line_of n kind number word (veil z c) ≡ line_of n kind number word c
  line_seen n kind number word c = refl

  abbrev printed : ℕ → ℕ → Turn → List (List ℕ) → List ℕ
  printed n kind t rs = line_of (suc n) kind t.number t.word t.card ++ lines_from (suc n) t.card
      t.area rs

  -- the lines of the records as they may be seen, from the veiled card, are the lines
  pub hides_lines : (n : ℕ) (c : Card) (a : List ℕ) (rs : List (List ℕ))
      → lines_from n (veil z c) a (views_from z replayed c a rs) ≡ lines_from n c a rs
  unfolding lines_from views_from
  hides_lines n c a [] = refl
  hides_lines n c a (r ∷ rs) =
      let t = play_of c a answer_room r in
      let views = views_from z replayed t.card t.area rs in
      ap₂ (λ (kind : ℕ) (u : Turn). printed n kind u views) (kind_seen c a answer_room r)
      (hides_play z answer_room c a r)
      ∙ ap₂ (λ (x y : List ℕ). x ++ y) (line_seen (suc n) (byte_at r 0) t.number t.word t.card)
      (hides_lines (suc n) t.card t.area rs)

  pub same_lines : (n : ℕ) (c d : Card) (a : List ℕ) (x y : List (List ℕ)) → veil z c ≡ veil z d
      → views_from z replayed c a x ≡ views_from z replayed d a y
      → lines_from n c a x ≡ lines_from n d a y
  same_lines n c d a x y cards views =
      sym (hides_lines n c a x) ∙ ap₂ (λ (s : Card) (l : List (List ℕ)). lines_from n s a l) cards views ∙ hides_lines
      n d a y

-- THE THEOREM of `replay`: two inputs with equal chip records, whose event records look alike, print the same
pub same_print : (z : Hiding) (x y : List ℕ) → take chip_size x ≡ take chip_size y → replay_views z x ≡ replay_views z y
    → replay_of x ≡ replay_of y
unfolding replay_of
same_print z x y chips views =
    ap₂ (λ (b : List ℕ) (l : List ℕ). cond (chip_form b) l (end_of 0)) chips
    (same_lines z 0 (fresh_card (chip_of (take chip_size x))) (fresh_card (chip_of (take chip_size y))) (zeros area_size)
    (records_of (drop chip_size x)) (records_of (drop chip_size y))
    (ap (λ (b : List ℕ). veil z (fresh_card (chip_of b))) chips) views)
