-- What a grouping leaves is the end of what it was given.
use Prim.Native.Nat.{ℕ, ◌+◌, ◌-◌, ◌≤◌, ◌<◌}
use mathlib.Core.Path.{◌≡◌, ap, ◌∙◌}
use mathlib.Core.List.{List, ◌∷◌}
use native.Mathlib.Omega.{arith}
use lib.ListN.{length, take, drop, length-drop}
use lib.Seq.{drop-drop}
use Rattle.lists.specs.Choice.{by_cond}
use Rattle.model.specs.declared.Head.{Head}
use Rattle.model.specs.declared.Open.{Open}
use Rattle.model.specs.declared.Open.TheVariants.{Shut, Table, Record}
use Rattle.model.specs.Rows.{row_at}
use Rattle.model.specs.Loads.{State}
use Rattle.model.specs.Rules.{Result, went, asked, failed, Rule, thence, rule_a, rule_b, rule_c, rule_d, rule_e, rule_f}
use Rattle.model.specs.Rules.{rule_g, rule_h, table_bytes, feeding, fed, opened_as, spanned, kept, whole, grouping}
use Rattle.theorem_sound.specs.Keeps.{Ends}

-- these are the data from some place on, behind the three bytes of '9484'
pub record Rest (d bytes : List ℕ) : Type 0 where
  pub from : ℕ
  pub behind : 3 ≤ from
  pub same : bytes ≡ drop from d

module _ (d : List ℕ) where
  dropped : (k : ℕ) (bytes : List ℕ) → Rest d bytes → Rest d (drop k bytes)
  dropped k bytes r = record {
    from = r.from + k;
    behind = omega arith;
    same = ap (λ (x : List ℕ). drop k x)
        r.same ∙ drop-drop k r.from d;
  }

  -- where a rule goes on, it leaves such bytes
  abbrev pub Leaves : Result (List ℕ) → Type 0
  Leaves r = Ends (λ left t. Rest d left) (λ t. Unit {0}) r

  after : {A : Type 0} (r : Result A) (k : A → Rule (List ℕ)) → ((a : A) (s : State) → Leaves (k a s))
      → Leaves (thence r k)
  after (went a s) k f = f a s
  after (asked t s) k f = tt
  after (failed w s) k f = tt

  module _ (bytes : List ℕ) (h : Rest d bytes) where
    feeding_leaves : (o : Open) (s : State) → Leaves (feeding o bytes s)
    feeding_leaves Shut s = h
    feeding_leaves (Table held missing) s = after (table_bytes (take missing bytes) s) (λ k. went (drop missing bytes))
        (λ k t. dropped missing bytes h)
    feeding_leaves (Record tag written missing) s = dropped missing bytes h

    rule_h_leaves : (capacity row : ℕ) (x : Head) (s : State) → Leaves (rule_h capacity row x bytes s)
    unfolding rule_h spanned fed whole
    rule_h_leaves capacity row x s =
        by_cond (λ (r : Rule (List ℕ)). Leaves (r s)) (row_at row).spans
        (λ e. feeding_leaves (opened_as row x.tag x.len) _)
        (λ e. after (kept capacity row (take x.len bytes) s) _ (λ k t. dropped x.len bytes h))

  pub grouping_leaves : (capacity n p1 : ℕ) (bytes : List ℕ) (s : State) → Rest d bytes
      → Leaves (grouping capacity n p1 bytes s)
  unfolding grouping
  grouping_leaves capacity n p1 bytes s r =
      after (rule_a bytes s) _ (λ h s₁.
      after (rule_b n p1 bytes h s₁) _ (λ a s₂.
      after (rule_c s₂) _ (λ b s₃.
      after (rule_d h.tag s₃) _ (λ row s₄.
      after (rule_e row h.tag s₄) _ (λ room s₅.
      after (rule_f row room h.len s₅) _ (λ c s₆.
      after (rule_g row h.len (length bytes - h.size) s₆) _ (λ e s₇.
      rule_h_leaves (drop h.size bytes) (dropped h.size bytes r) capacity row h s₇)))))))

  -- where some are left, their number tells the place
  pub placed : (b : ℕ) (bs : List ℕ) (r : Rest d (b ∷ bs))
      → (length d - length (b ∷ bs) ≡ r.from) × (r.from < length d)
  placed b bs r =
      let e : length (b ∷ bs) ≡ length d - r.from = ap length r.same ∙ length-drop r.from d in
      (omega arith, omega arith)
