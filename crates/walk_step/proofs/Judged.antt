-- What a step says is what the definition's step comes to.
use Prim.Native.Nat.{ℕ, ◌+◌, ◌≤◌, ◌<◌}
use mathlib.Core.Path.{◌≡◌, refl, ap, sym, ◌∙◌, subst}
use mathlib.Core.Bool.{true}
use mathlib.Core.List.{List, []}
use lib.ListN.{length, drop}
use native.Mathlib.Omega.{arith}
use borrow.Author.Tests.{eq-eqb, leb-true}
use Rattle.model.specs.declared.Head.{Head}
use Rattle.model.specs.declared.Header.TheVariants.{Whole}
use Rattle.model.specs.declared.Loading.{Loading}
use Rattle.model.specs.declared.Open.{Open}
use Rattle.model.specs.declared.Open.TheVariants.{Shut, Table, Record}
use Rattle.model.specs.declared.Running.{Running}
use Rattle.model.specs.declared.Spot.{Spot}
use Rattle.model.specs.declared.Spot.TheVariants.{Nowhere, At}
use Rattle.model.specs.Stored.{area_size}
use Rattle.model.specs.Rows.{row_of}
use Rattle.model.specs.Header.{header_of}
use Rattle.model.specs.Loads.{file_list}
use Rattle.model.specs.Rules.{tag_spot, fed, feeding}
use Rattle.model.specs.Sound.{some_missing}
use Rattle.theorem_sound.proofs.Inside.{Steady}
use Rattle.theorem_sound.proofs.Feeding.{Misses, Fed}
use Rattle.walk_course.specs.declared.Course.TheVariants.{Feeds}
use Rattle.walk_course.specs.Steps.{on, missing_in, Judges, Within}
use Rattle.walk_records.specs.Records.{record_step}
use Rattle.walk_records.proofs.Laying.{lays}
use Rattle.walk_step.specs.Turns.{wanted_tag, Fits, turn_by, step_of}

-- a record's header names the record
pub wanted_head : (o : Open) (bytes : List ℕ) (h : Head) → o ≡ Shut → header_of bytes ≡ Whole h → row_of h.tag ≡ 11
    → wanted_tag o bytes ≡ h.tag
wanted_head o bytes h e f g = rw (e, f, eq-eqb (row_of h.tag) 11 g)

module _ (capacity p1 at : ℕ) (d : List ℕ) (p : Running) (l : Loading) (a : List ℕ) (i : at < length d)
    (y : Steady area_size (on p l a)) where
  pub table_step : (held m : ℕ) → p.pending ≡ Table held m
      → Judges capacity (record { course = Feeds at; running = p }) d at l a
      (step_of capacity (length d) p1 (drop at d) (on p l a))
  table_step held m e =
      let s : 1 ≤ m = leb-true 1 m (subst (λ (o : Open). some_missing o ≡ true) e y.some) in
      let z : Fed 0 m (on p l []) = record {
        steady = record { inside = y.inside; some = y.some; area = refl };
        misses = subst (Misses m) (sym e) refl;
      } in
      record {
        comes = sym (ap (λ (o : Open). turn_by o capacity (length d) p1 (drop at d) (on p l a)) e);
        ahead = (
          omega arith,
          omega arith,
          subst (λ (o : Open). 1 ≤ missing_in o) (sym e) s,
          subst (λ (o : Open). Fed 0 (missing_in o) (on p l [])) (sym e) z,
        );
      }

  pub record_step_lem : (tag w m base size : ℕ) → p.pending ≡ Record tag w m → tag_spot (file_list l) tag ≡ At base size
      → w + m ≤ size → base + size ≤ area_size
      → Judges capacity (record_step p base tag w m (length d) at) d at l a
      (step_of capacity (length d) p1 (drop at d) (on p l a))
  unfolding fed
  record_step_lem tag w m base size e f g k =
      let s : 1 ≤ m = leb-true 1 m (subst (λ (o : Open). some_missing o ≡ true) e y.some) in
      record {
        comes =
            lays capacity base size tag w m at d p l a f ∙ sym (ap (λ (o : Open). feeding o (drop at d) (on p l a)) e)
            ∙ sym (ap (λ (o : Open). turn_by o capacity (length d) p1 (drop at d) (on p l a)) e);
        ahead = (omega arith, omega arith, omega arith, omega arith);
      }

-- an open record has a place
pub record Lies (w m : ℕ) (spot : Spot) : Type 0 where
  pub base : ℕ
  pub size : ℕ
  pub its : spot ≡ At base size
  pub fits : w + m ≤ size
  pub within : base + size ≤ area_size

pub lies : (tag w m : ℕ) (spot : Spot) → Fits (Record tag w m) spot → Within spot → Lies w m spot
lies tag w m Nowhere f g = absurd f
lies tag w m (At base size) f g = record { base = base; size = size; its = refl; fits = f; within = g }
