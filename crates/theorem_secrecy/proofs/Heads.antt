-- A header is read from its own bytes.
use Prim.Native.Nat.{ℕ, ◌<◌}
use mathlib.Core.Path.{◌≡◌, ap, sym, ◌∙◌, subst}
use mathlib.Core.Bool.{true, false}
use mathlib.Core.List.{List, ◌++◌, append_assoc}
use lib.Dec.{eqb, ltb, lit<}
use lib.ListN.{length, take}
use lib.Seq.{get_or-take}
use Rattle.lists.specs.Bytes.{byte_at, word_at}
use Rattle.lists.specs.Choice.{by_cond}
use Rattle.model.specs.declared.Head.{Head}
use Rattle.model.specs.declared.Header.{Header}
use Rattle.model.specs.declared.Header.TheVariants.{Torn, Whole}
use Rattle.model.specs.Rows.{row_of}
use Rattle.model.specs.Header.{headed, header_of, long_form}
use Rattle.model.specs.Loads.{State}
use Rattle.model.specs.Rules.{Result, went, asked, failed}
use Rattle.theorem_secrecy.specs.View.{Mark, seens, grouping_marks, value_marks, marks_by, Hiding, view}
use Rattle.theorem_secrecy.proofs.Marks.{length_view, take_seen}

pub byte_kept : (n i : ℕ) (v b : List ℕ) → take n v ≡ take n b → i < n → byte_at v i ≡ byte_at b i
byte_kept n i v b e h = sym (get_or-take n v i 0 h) ∙ ap (λ (l : List ℕ). byte_at l i) e ∙ get_or-take n b i 0 h

abbrev size_or : Header → ℕ
size_or Torn = 0
size_or (Whole h) = h.size

abbrev is_torn : Header → Type 0
is_torn Torn = Unit {0}
is_torn (Whole h) = ⊥

short_kept : (h : Head) (v b : List ℕ) → length v ≡ length b → take h.size v ≡ take h.size b
    → ltb (length b) 3 ≡ false → eqb (byte_at b 2) 0xFF ≡ false → headed (word_at b 0) 3 (byte_at b 2) ≡ Whole h
    → header_of v ≡ Whole h
unfolding header_of
short_kept h v b len same l3 f e =
    let same3 : take 3 v ≡ take 3 b = rw (← (ap size_or e)) at same in
    rw (
      len,
      l3,
      byte_kept 3 2 v b same3 (lit< tt),
      f,
      byte_kept 3 0 v b same3 (lit< tt),
      byte_kept 3 1 v b same3 (lit< tt),
    ) e

long_kept : (h : Head) (v b : List ℕ) → length v ≡ length b → take h.size v ≡ take h.size b
    → ltb (length b) 3 ≡ false → eqb (byte_at b 2) 0xFF ≡ true → ltb (length b) 5 ≡ false
    → eqb (word_at b 3) 0xFFFF ≡ false
    → headed (word_at b 0) 5 (word_at b 3) ≡ Whole h → header_of v ≡ Whole h
unfolding header_of long_form
long_kept h v b len same l3 f l5 g e =
    let same5 : take 5 v ≡ take 5 b = rw (← (ap size_or e)) at same in
    rw (
      len,
      l3,
      byte_kept 5 2 v b same5 (lit< tt),
      f,
      l5,
      byte_kept 5 3 v b same5 (lit< tt),
      byte_kept 5 4 v b same5 (lit< tt),
      g,
    )
    (rw (byte_kept 5 0 v b same5 (lit< tt), byte_kept 5 1 v b same5 (lit< tt)) e)

pub head_kept : (h : Head) (v b : List ℕ) → length v ≡ length b → take h.size v ≡ take h.size b
    → header_of b ≡ Whole h → header_of v ≡ Whole h
unfolding header_of long_form
head_kept h v b len same =
    by_cond Told (ltb (length b) 3) (λ _ e. absurd (subst is_torn e tt))
    (λ l3. by_cond Told (eqb (byte_at b 2) 0xFF)
    (λ f. by_cond Told (ltb (length b) 5) (λ _ e. absurd (subst is_torn e tt))
    (λ l5. by_cond Told (eqb (word_at b 3) 0xFFFF) (λ _ e. absurd (subst is_torn e tt))
    (λ g e. long_kept h v b len same l3 f l5 g e)))
    (λ f e. short_kept h v b len same l3 f e))
  where
    Told : Header → Type 0
    Told x = x ≡ Whole h → header_of v ≡ Whole h

-- the view leaves a grouping its header
pub view_head : (z : Hiding) (later : List ℕ → State → List Mark) (h : Head) (b : List ℕ) (r : Result (List ℕ))
    → header_of b ≡ Whole h → header_of (view z (marks_by (grouping_marks (Whole h)) later r) b) ≡ Whole h
view_head z later h b (went left s) e =
    head_kept h (view z (grouping_marks (Whole h) ++ later left s) b) b
    (length_view z (grouping_marks (Whole h) ++ later left s) b)
    (rw (append_assoc (seens h.size) (value_marks (row_of h.tag) h.len) (later left s))
    (take_seen z h.size (value_marks (row_of h.tag) h.len ++ later left s) b)) e
view_head z later h b (asked tag s) e = unfold view in e
view_head z later h b (failed w s) e = unfold view in e
