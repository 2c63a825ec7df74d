-- A value is opened where rules a to g passed: what its bytes are then taken by.
use Prim.Native.Nat.{ℕ, zero, suc, ◌+◌, ◌-◌, ◌≤◌, ◌<◌}
use lib.ListN.{length, take, drop}
use mathlib.Core.Path.{◌≡◌, refl, ap, sym, ◌∙◌, subst}
use mathlib.Core.Bool.{true}
use mathlib.Core.List.{List}
use native.Mathlib.Omega.{arith}
use borrow.Author.Tests.{le-leb, eq-eqb, ne_eqb}
use Rattle.model.specs.declared.Loading.{Loading}
use Rattle.model.specs.declared.Running.{Running}
use Rattle.model.specs.declared.Head.{Head}
use Rattle.model.specs.declared.Open.{Open}
use Rattle.model.specs.declared.Open.TheVariants.{Table, Record}
use Rattle.model.specs.Stored.{area_size}
use Rattle.model.specs.Rows.{row_at}
use Rattle.model.specs.Loads.{file_list, running_open}
use Rattle.model.specs.Rules.{tag_spot, laid, record_bytes, record_done, feeding, fed, spanned, length_ok}
use Rattle.model.specs.Command.{is_shut}
use Rattle.theorem_sound.proofs.Changes.{table_begun}
use Rattle.theorem_sound.proofs.Groupings.{steady_closed}
use Rattle.theorem_sound.proofs.RowFacts.{by_span, due_untaken, table_length}
use Rattle.walk_course.specs.declared.Course.TheVariants.{Feeds}
use Rattle.walk_course.specs.Steps.{on, Judges, Roomed}
use Rattle.walk_records.specs.Records.{record_step}
use Rattle.walk_records.proofs.Laying.{lays}

-- a row that spans and is not row 5 is row 11
pub spans_record : (r : ℕ) → 1 ≤ r → r ≤ 11 → (row_at r).spans ≡ true → (r ≡ 5 → ⊥) → r ≡ 11
spans_record = by_span (λ (r : ℕ). (r ≡ 5 → ⊥) → r ≡ 11) (λ n. absurd (n refl)) (λ n. refl)

-- a record's bytes do not ask what was open before
done_over : (tag w m : ℕ) (o : Open) (p : Running) (l : Loading) (a : List ℕ)
    → record_done tag w m (on (running_open o p) l a) ≡ record_done tag w m (on p l a)
unfolding record_done
done_over tag w zero o p l a = refl
done_over tag w (suc m) o p l a = refl

record_over : (tag w m : ℕ) (o : Open) (p : Running) (l : Loading) (bytes a : List ℕ)
    → feeding (Record tag w m) bytes (on (running_open o p) l a) ≡ feeding (Record tag w m) bytes (on p l a)
unfolding record_bytes
record_over tag w m o p l bytes a =
    rw (done_over tag (w + length (take m bytes)) (m - length (take m bytes)) o p l
    (laid (tag_spot (file_list l) tag) w (take m bytes) a))

module _ (capacity place at row base room : ℕ) (h : Head) (d : List ℕ) (p : Running) (l : Loading) (a : List ℕ)
    (i : place < at) (j : at ≤ length d)
    (f : length_ok row room h.len ≡ true) (r : Roomed p h.tag row base room l a) where
  pub table_opens : row ≡ 5
      → Judges capacity (record { course = Feeds at; running = running_open (Table 0 h.len) p }) d place l a
      (spanned row h (drop at d) (on p l a))
  unfolding spanned fed
  table_opens e =
      let r' = subst (λ (x : ℕ). Roomed p h.tag x base room l a) e r in
      let y = steady_closed area_size (on p l a) r.steady (ap is_shut r.shut) in
      let n = table_length (file_list l) h.tag room h.len r'.roomed
      (subst (λ (x : ℕ). length_ok x room h.len ≡ true) e f) in
      let q = table_begun h.len r.personal (due_untaken p.rows p.last h.tag r'.row_due) n.1 n.2
      y.inside in
      record {
        comes = rw (eq-eqb row 5 e);
        ahead = (
          omega arith,
          j,
          n.0,
          record {
            steady = record
                { inside = q; some = le-leb 1 h.len n.0; area = refl };
            misses = refl;
          },
        );
      }

  pub record_opens : (row ≡ 5 → ⊥) → row ≡ 11 → base + h.len ≤ area_size
      → Judges capacity (record_step p base h.tag 0 h.len (length d) at) d place l a
      (spanned row h (drop at d) (on p l a))
  unfolding spanned fed
  record_opens e g k = record {
    comes =
        lays capacity base room h.tag 0 h.len at d p l a (r.placed g)
        ∙ sym (rw (ne_eqb row 5 e) (record_over h.tag 0 h.len (Record h.tag 0 h.len) p l (drop at d) a));
    ahead = (omega arith, omega arith, omega arith, omega arith);
  }
